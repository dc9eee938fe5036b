-- What is found of two desks is found of their facts.
use Rattle.std.proofs.Common.{◌≡◌, ◌⊎◌, ℕ, Bool, false, List, [], length, ap, ◌∙◌, inl, inr, subst}
use Rattle.gi_desk.specs.Machine.{DeskState}
use Rattle.gi_audit.specs.Agreeing.{Agree}
use Rattle.gi_pairs.specs.declared.side.Side.{Side}
use Rattle.gi_pairs.specs.declared.side.Side.TheVariants.{I, M}
use Rattle.gi_parts.specs.declared.kept_parts.KeptPart.{KeptPart}
use Rattle.gi_facts.specs.declared.fact.Fact.{Fact}
use Rattle.gi_commands.specs.Reporting.{IsFactsFault, desk_of}
use Rattle.gi_commands.specs.declared.fault.Fault.{Fault}
use Rattle.gi_commands.specs.declared.fault.Fault.TheVariants as fault
use Rattle.gi_service.specs.Pasts.{IsPastFault, IsPastsFault}
use Rattle.gi_service.specs.Serving.{IsBooksFault}
use Rattle.gi_service.specs.Stations.{IsStationFault}

-- a desk of the point that is not halted and keeps no part, whose facts are all saved
pub record IsWhole (point : List ℕ) (desk : DeskState) : Type 0 where
  pub at : desk.point ≡ point
  pub saved : desk.saved ≡ length desk.facts
  pub runs : desk.halted ≡ false
  pub none : desk.kept ≡ []

desk_is : (point : List ℕ) (desk : DeskState) → IsWhole point desk → desk ≡ desk_of point desk.facts
desk_is point desk whole =
    let with_point : List ℕ → DeskState = λ p. record { point = p; facts = desk.facts; saved = desk.saved; halted = desk.halted; kept = desk.kept } in
    let with_saved : ℕ → DeskState = λ n. record { point = point; facts = desk.facts; saved = n; halted = desk.halted; kept = desk.kept } in
    let with_halt : Bool → DeskState = λ b. record { point = point; facts = desk.facts; saved = length desk.facts; halted = b; kept = desk.kept } in
    let with_kept : List KeptPart → DeskState = λ parts. record { point = point; facts = desk.facts; saved = length desk.facts; halted = false; kept = parts } in
    ap with_point whole.at ∙ (ap with_saved whole.saved ∙ (ap with_halt whole.runs ∙ ap with_kept whole.none))

pub fault_of_facts : (point : List ℕ) (ours theirs : DeskState) (why : Fault) → IsWhole point ours → IsWhole point theirs → IsPastFault ours theirs why → IsPastsFault point why
fault_of_facts point ours theirs why whole peer is = (
  ours.facts,
  theirs.facts,
  subst (λ (desk : DeskState). IsPastFault desk (desk_of point theirs.facts) why) (desk_is point ours whole)
      (subst (λ (desk : DeskState). IsPastFault ours desk why) (desk_is point theirs peer) is),
)

pub facts_agree : (point : List ℕ) (ours theirs : DeskState) → IsWhole point ours → IsWhole point theirs → Agree ours theirs → Agree (desk_of point ours.facts) (desk_of point theirs.facts)
facts_agree point ours theirs whole peer agree =
    subst (λ (desk : DeskState). Agree desk (desk_of point theirs.facts)) (desk_is point ours whole)
    (subst (λ (desk : DeskState). Agree ours desk) (desk_is point theirs peer) agree)

-- ---- why facts make no desks of one past

of_station : (side : Side) (point : List ℕ) (facts : List Fact) (why : Fault) → IsFactsFault side point facts why → IsStationFault side point why
of_station side point facts fault.CommandLine is = absurd is
of_station side point facts fault.Read is = absurd is
of_station side point facts fault.TooLarge is = absurd is
of_station side point facts fault.Lines is = absurd is
of_station side point facts (fault.Message a b) is = absurd is
of_station side point facts (fault.WrongKind a) is = absurd is
of_station side point facts (fault.Parts a) is = absurd is
of_station side point facts fault.ShapeDiffers is = absurd is
of_station side point facts (fault.Day a) is = absurd is
of_station side point facts (fault.Calendar a) is = absurd is
of_station side point facts (fault.Script a) is = absurd is
of_station side point facts (fault.Code a) is = absurd is
of_station side point facts (fault.Store a) is = absurd is
of_station side point facts (fault.MissingBook a) is = absurd is
of_station side point facts (fault.BadFact a) is = (facts, is)
of_station side point facts (fault.TwoPasts a b) is = absurd is
of_station side point facts fault.Unexpected is = absurd is
of_station side point facts fault.Differs is = absurd is
of_station side point facts fault.Empty is = absurd is
of_station side point facts fault.Write is = absurd is
of_station side point facts fault.OutOfMemory is = tt

pub of_ours : (point : List ℕ) (facts : List Fact) (why : Fault) → IsFactsFault I point facts why → IsBooksFault point why
of_ours point facts why is = inl (inl (of_station I point facts why is))

pub of_theirs : (point : List ℕ) (facts : List Fact) (why : Fault) → IsFactsFault M point facts why → IsBooksFault point why
of_theirs point facts why is = inl (inr (of_station M point facts why is))

pub of_both : (point : List ℕ) (ours theirs : List Fact) (why : Fault) → IsPastFault (desk_of point ours) (desk_of point theirs) why → IsBooksFault point why
of_both point ours theirs why is = inr (ours, theirs, is)
