-- Both offices taken apart and set against each other: the last lines, and how it ended.
use Rattle.std.specs.Prelude.{◌≡◌, ℕ, List, [], ◌++◌, codes, Result, Ok, Err}
use Rattle.gi_pairs.specs.Side.{side_text}
use Rattle.gi_pairs.specs.declared.side.Side.{Side}
use Rattle.gi_pairs.specs.declared.side.Side.TheVariants.{I, M}
use Rattle.gi_reports.specs.Counts.{counts_line}
use Rattle.gi_office.specs.FaultText.{unreconciled_text, unsettled_text}
use Rattle.gi_office.specs.Keeping.{SeatState}
use Rattle.gi_office.specs.Reconciling.{AgreeOnOneQuantity, Reconciles}
use Rattle.gi_office.specs.Settling.{AreLegal, SettledState, SettlesKept}
use Rattle.gi_office.specs.declared.unreconciled.Unreconciled.{Unreconciled}
use Rattle.gi_office.specs.declared.unsettled.Unsettled.{Unsettled}
use Rattle.gi_serving.specs.declared.serve_fault.ServeFault.{ServeFault}
use Rattle.gi_serving.specs.declared.serve_fault.ServeFault.TheVariants as faults

-- how many facts the desk has that is left; of an office that does not settle none is
abbrev pub counted_line : Side → Result SettledState Unsettled → List ℕ
counted_line side (Ok settled) = counts_line side settled.desk
counted_line side (Err fault) = []

-- `ok`, or the fault's name
abbrev pub settled_word : Result SettledState Unsettled → List ℕ
settled_word (Ok settled) = codes "ok"
settled_word (Err fault) = unsettled_text fault

-- `settled I ok`
abbrev pub settled_line : Side → Result SettledState Unsettled → List ℕ
settled_line side settled = codes "settled " ++ (side_text side ++ (codes " " ++ (settled_word settled ++ codes "\n")))

-- what stands before the last line
abbrev pub settling_lines : Result SettledState Unsettled → Result SettledState Unsettled → List ℕ
settling_lines initiating matching =
    counted_line I initiating ++ (counted_line M matching ++ (settled_line I initiating ++ settled_line M matching))

abbrev pub reconciled_word : Result (Unit {0}) Unreconciled → List ℕ
reconciled_word (Ok done) = codes "ok"
reconciled_word (Err fault) = unreconciled_text fault

-- `reconciled ok`
abbrev pub reconciled_line : Result (Unit {0}) Unreconciled → List ℕ
reconciled_line answer = codes "reconciled " ++ (reconciled_word answer ++ codes "\n")

abbrev pub end_of : Result (Unit {0}) Unreconciled → Result (Unit {0}) ServeFault
end_of (Ok done) = Ok done
end_of (Err fault) = Err (faults.Unreconciled fault)

-- Two settled offices, legal, that were set against each other with this answer: the last line, behind the others, tells it.
-- Where it is `ok` they agree on one quantity, by the premise of reconciling on what both were opened with.
pub record IsReconciled (front : List ℕ) (initiating matching : SettledState) (text : List ℕ) (end : Result (Unit {0}) ServeFault) : Type 0 where
  pub answer : Result (Unit {0}) Unreconciled
  pub reconciles : Reconciles initiating matching answer
  pub text_is : text ≡ front ++ reconciled_line answer
  pub end_is : end ≡ end_of answer
  pub initiating_legal : AreLegal I initiating.lives initiating.desk
  pub matching_legal : AreLegal M matching.lives matching.desk
  pub one_quantity : answer ≡ Ok tt → AgreeOnOneQuantity initiating matching

-- The last lines of two offices that settled so, and how it ended: they are set against each other where both settled; else the
-- first fault, of the initiating side before the matching side, ends it, and there is no further line.
abbrev pub AreLastLines : Result SettledState Unsettled → Result SettledState Unsettled → List ℕ → Result (Unit {0}) ServeFault → Type 0
AreLastLines (Err fault) matching text end = (text ≡ settling_lines (Err fault) matching) × (end ≡ Err (faults.Unsettled fault))
AreLastLines (Ok initiating) (Err fault) text end =
    (text ≡ settling_lines (Ok initiating) (Err fault)) × (end ≡ Err (faults.Unsettled fault))
AreLastLines (Ok initiating) (Ok matching) text end =
    IsReconciled (settling_lines (Ok initiating) (Ok matching)) initiating matching text end

-- of what handing all seats back to each of the two offices answered
pub record IsClosed (parts seats : ℕ) (handed : List SeatState) (peer_parts peer_seats : ℕ) (peer_handed : List SeatState) (text : List ℕ) (end : Result (Unit {0}) ServeFault) : Type 0 where
  pub initiating : Result SettledState Unsettled
  pub matching : Result SettledState Unsettled
  pub initiating_settles : SettlesKept I parts seats handed initiating
  pub matching_settles : SettlesKept M peer_parts peer_seats peer_handed matching
  pub last : AreLastLines initiating matching text end
