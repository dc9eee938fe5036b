-- What is found of a cycle, in words.
use Rattle.std.specs.Prelude.{ℕ, List, ◌++◌, codes}
use Rattle.std.specs.Fmt.{decimal}
use Rattle.gi_pairs.specs.Side.{other, side_text}
use Rattle.gi_audit.specs.declared.difference.Difference.{Difference}
use Rattle.gi_audit.specs.declared.difference.Against.{Against}
use Rattle.gi_audit.specs.declared.difference.Against.TheVariants.{NotClosed, NotMet, Closed}
use Rattle.gi_audit.specs.declared.finding.Finding.{Finding}
use Rattle.gi_audit.specs.declared.finding.Finding.TheVariants.{Agreed, OpenAtInitiating, OpenAtBoth, Differs}

abbrev pub against_text : Against → List ℕ
against_text NotClosed = codes "not closed"
against_text NotMet = codes "not met"
against_text (Closed n) = codes "closed " ++ decimal n

-- `M met 6 I closed 5`
abbrev pub difference_text : Difference → List ℕ
difference_text d =
    side_text d.side ++ (codes " met " ++ (decimal d.met ++ (codes " " ++ (side_text (other d.side) ++ (codes " " ++ against_text d.against)))))

-- `agreed IM 17 MI 0`
abbrev pub finding_text : Finding → List ℕ
finding_text (Agreed im mi) = codes "agreed IM " ++ (decimal im ++ (codes " MI " ++ decimal mi))
finding_text OpenAtInitiating = codes "open at I"
finding_text OpenAtBoth = codes "open at both"
finding_text (Differs difference) = codes "differs " ++ difference_text difference
