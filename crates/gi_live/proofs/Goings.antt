-- One part more.
use Rattle.std.proofs.Common.{◌≡◌, ◌+◌, arith, ℕ, List, [], ◌∷◌, ◌++◌, Bool, false, refl, sym, ap, subst, ◌∙◌, append_assoc, append-nil, inl, inr, Option, None, Result, Ok, Err, IfErr, IfOk, OnOk}
use Rattle.std.specs.Io.KnownBytes.{Appends}
use Rattle.gi_desk.specs.Machine.{DeskState}
use Rattle.gi_office.specs.Keeping.{SeatState}
use Rattle.gi_office.specs.Opening.{new_seat}
use Rattle.gi_pairs.specs.declared.side.Side.{Side}
use Rattle.gi_live.specs.Lines.{TakesLines, lines_left}
use Rattle.gi_live.specs.Running.{HasRoom, RunsSome, joined, live}
use Rattle.gi_live.specs.Answering.{AnswersLine, LeavesAnswer, WritesAnswer, WritesEnding}
use Rattle.gi_live.specs.Stretches.{Answered, AnswersHere, EndsAt, GoesFurther, GoesSome, GoesTo, IsPaused, IsSettlingFault, LeavesBetween, LeavesHere, LeavesPart, LeftBehind, Part, Parts, Pause, RunsUntil, RunsWhole, StretchesUntil, begun, pause}
use Rattle.gi_live.specs.declared.live_fault.LiveFault.{LiveFault}
use Rattle.gi_live.specs.declared.live_fault.LiveFault.TheVariants as faults
use Rattle.gi_live.specs.declared.running.End.{End}
use Rattle.gi_live.specs.declared.running.End.TheVariants as ends
use Rattle.gi_live.proofs.LineLemmas.{takes_both, takes_none, takes_same, takes_whole}
use Rattle.gi_live.proofs.Runnings.{appends_both, appends_none, keeps_same}

-- ---- one after the other

parts_both : (side : Side) (old : Pause) (parts : List (List (List ℕ))) (text : List ℕ) (between : Pause) (later : List (List (List ℕ))) (more : List ℕ) (new : Pause)
    → Parts side old parts text between → Parts side between later more new → Parts side old (parts ++ later) (text ++ more) new
parts_both side old [] text between later more new none goes =
    subst (λ t. Parts side old later (t ++ more) new) (sym none.0) (subst (λ p. Parts side p later more new) none.1 goes)
parts_both side old (lines ∷ parts) text between later more new first goes = (
  first.0,
  first.1 ++ more,
  first.2,
  ap (λ l. l ++ more) first.3 ∙ append_assoc first.0 first.1 more,
  first.4,
  parts_both side first.2 parts first.1 between later more new first.5 goes,
)

joined_both : (parts later : List (List (List ℕ))) → joined (parts ++ later) ≡ joined parts ++ joined later
joined_both [] later = refl
joined_both (lines ∷ parts) later = ap (λ l. lines ++ l) (joined_both parts later) ∙ sym (append_assoc lines (joined parts) (joined later))

pub goes_none : (side : Side) (old : Pause) (input : Option (List (List ℕ))) (before : Option (List ℕ)) → GoesTo side old input input before before old
goes_none side old input before = record { parts = []; text = []; goes = (refl, refl); taken = takes_none input; written = appends_none before }

pub goes_both : (side : Side) (old : Pause) (input left rest : Option (List (List ℕ))) (before between after : Option (List ℕ)) (reached new : Pause)
    → GoesTo side old input left before between reached → GoesTo side reached left rest between after new → GoesTo side old input rest before after new
goes_both side old input left rest before between after reached new first next = record {
  parts = first.parts ++ next.parts;
  text = first.text ++ next.text;
  goes = parts_both side old first.parts first.text reached next.parts next.text new first.goes next.goes;
  taken = subst (λ all. TakesLines input all rest) (sym (joined_both first.parts next.parts)) (takes_both input left rest (joined first.parts) (joined next.parts) first.taken next.taken);
  written = appends_both before between after first.text next.text first.written next.written;
}

pub goes_some : (side : Side) (old : Pause) (input left : Option (List (List ℕ))) (before between after : Option (List ℕ)) (reached : Pause) (fault : LiveFault)
    → GoesTo side old input left before between reached → GoesSome side reached left between after fault → GoesSome side old input before after fault
goes_some side old input left before between after reached fault first some = record {
  left = some.left;
  between = some.between;
  reached = some.reached;
  goes = goes_both side old input left some.left before between some.between reached some.reached first some.goes;
  leaves = some.leaves;
}

-- nothing was made before
pub goes_nowhere : (side : Side) (old : Pause) (input : Option (List (List ℕ))) (before after : Option (List ℕ)) (fault : LiveFault)
    → LeavesPart side old input before after fault → GoesSome side old input before after fault
goes_nowhere side old input before after fault leaves =
    record { left = input; between = before; reached = old; goes = goes_none side old input before; leaves = leaves }

pub goes_one : (side : Side) (old : Pause) (input left : Option (List (List ℕ))) (before after : Option (List ℕ)) (lines : List (List ℕ)) (text : List ℕ) (new : Pause)
    → Part side old lines text new → TakesLines input lines left → Appends before after text → GoesTo side old input left before after new
goes_one side old input left before after lines text new part takes written = record {
  parts = lines ∷ [];
  text = text;
  goes = (text, [], new, sym (append-nil text), part, (refl, refl));
  taken = subst (λ all. TakesLines input all left) (sym (append-nil lines)) takes;
  written = written;
}

-- ---- a stretch

-- its office was not opened
pub not_opened : (side : Side) (old : Pause) (input : Option (List (List ℕ))) (before : Option (List ℕ)) (fault : LiveFault)
    → fault ≡ faults.OutOfMemory → GoesSome side old input before before fault
not_opened side old input before fault is = goes_nowhere side old input before before fault (inl (inl is, keeps_same before))

-- a step was not made whole
pub not_run : (side : Side) (old : Pause) (input : Option (List (List ℕ))) (before after : Option (List ℕ)) (fault : LiveFault)
    → RunsSome side (begun old) input before after fault → GoesSome side old input before after fault
not_run side old input before after fault some = goes_nowhere side old input before after fault (inr (inr (inl some)))

-- its office was not taken apart
pub not_settled : (side : Side) (old : Pause) (input rest : Option (List (List ℕ))) (before after : Option (List ℕ)) (seat : SeatState) (taken : ℕ) (end : End) (fault : LiveFault)
    → RunsUntil side (begun old) input rest before after seat taken end → IsSettlingFault fault → GoesSome side old input before after fault
not_settled side old input rest before after seat taken end fault runs why =
    goes_nowhere side old input before after fault (inr (inr (inr (inl (record { left = runs.left; reached = _; runs = runs.runs; why = why })))))

pub new_room : (seat : SeatState) → seat ≡ new_seat 16 1 → HasRoom seat
new_room seat is = rw is (λ goes_on. omega arith)

begun_is : (desk : DeskState) (lines : ℕ) (seat : SeatState) (saved : ℕ) → seat ≡ new_seat 16 1 → saved ≡ desk.saved → live seat saved lines ≡ begun (pause desk lines)
begun_is desk lines seat saved new same = rw (new, same) refl

-- the same of a run from a new seat
pub run_cut : (side : Side) (desk : DeskState) (lines : ℕ) (seat : SeatState) (saved : ℕ) (input : Option (List (List ℕ))) (before after : Option (List ℕ))
    (result : Result End LiveFault) (fault : LiveFault)
    → seat ≡ new_seat 16 1 → saved ≡ desk.saved → result ≡ Err fault → IfErr result (RunsSome side (live seat saved lines) input before after)
    → GoesSome side (pause desk lines) input before after fault
run_cut side desk lines seat saved input before after result fault new same is some =
    not_run side (pause desk lines) input before after fault
    (subst (λ old. RunsSome side old input before after fault) (begun_is desk lines seat saved new same)
    (subst (λ r. IfErr r (RunsSome side (live seat saved lines) input before after)) is some))

pub run_left : (side : Side) (desk : DeskState) (lines : ℕ) (seat : SeatState) (saved : ℕ) (input rest : Option (List (List ℕ))) (before after : Option (List ℕ))
    (reached : SeatState) (taken : ℕ) (result : Result End LiveFault) (end : End) (fault : LiveFault)
    → seat ≡ new_seat 16 1 → saved ≡ desk.saved → result ≡ Ok end → IfOk result (RunsUntil side (live seat saved lines) input rest before after reached taken)
    → IsSettlingFault fault → GoesSome side (pause desk lines) input before after fault
run_left side desk lines seat saved input rest before after reached taken result end fault new same is until why =
    not_settled side (pause desk lines) input rest before after reached taken end fault
    (subst (λ old. RunsUntil side old input rest before after reached taken end) (begun_is desk lines seat saved new same)
    (subst (λ r. IfOk r (RunsUntil side (live seat saved lines) input rest before after reached taken)) is until)) why

-- ---- and what is made behind it

goes_stretch : (side : Side) (old : Pause) (input rest : Option (List (List ℕ))) (before after : Option (List ℕ)) (desk : DeskState) (taken : ℕ) (end : End)
    (is : StretchesUntil side old input rest before after desk taken end) → GoesTo side old input is.left before after (pause desk taken)
goes_stretch side old input rest before after desk taken end is =
    goes_one side old input is.left before after is.lines is.text (pause desk taken) (inl is.stretch) is.takes is.written

pub goes_further : (side : Side) (old : Pause) (input rest : Option (List (List ℕ))) (before between after : Option (List ℕ)) (desk : DeskState) (taken : ℕ) (end : End)
    (last : DeskState) (now : ℕ) (over : Bool)
    → StretchesUntil side old input rest before between desk taken end → GoesFurther side (pause desk taken) end between after last now over
    → GoesTo side old input rest before after (pause last now)
goes_further side old input rest before between after desk taken ends.Input last now over is further =
    subst (λ out. GoesTo side old input rest before out (pause last now)) (sym further.2)
    (subst (λ p. GoesTo side old input rest before between p) (sym further.0)
    (goes_one side old input rest before between is.lines is.text (pause desk taken) (inl is.stretch) (takes_same input is.left rest is.lines is.takes is.behind.1) is.written))
goes_further side old input rest before between after desk taken ends.Full last now over is further =
    subst (λ out. GoesTo side old input rest before out (pause last now)) (sym further.2)
    (subst (λ p. GoesTo side old input rest before between p) (sym further.0)
    (subst (λ ls. GoesTo side old input ls before between (pause desk taken)) (sym is.behind) (goes_stretch side old input rest before between desk taken ends.Full is)))
goes_further side old input rest before between after desk taken (ends.Asked line) last now over is further =
    let answer = further.4 in
    let asked : Answered side (pause desk taken) (line ∷ []) answer.0 (pause last now) =
    record { paused = further.2; line = line; are = refl; is_query = is.behind.1; answers = answer.1; lines_are = further.0 } in
    goes_both side old input is.left rest before between after (pause desk taken) (pause last now) (goes_stretch side old input rest before between desk taken (ends.Asked line) is)
    (goes_one side (pause desk taken) is.left rest between after (line ∷ []) answer.0 (pause last now) (inr asked) is.behind.0 answer.2)

-- a query was answered, over the same desk
pub asked_further : (side : Side) (desk same : DeskState) (taken : ℕ) (line : List ℕ) (end : End) (before after : Option (List ℕ)) (new : DeskState)
    → end ≡ ends.Asked line → same ≡ desk → IsPaused desk → ((text : List ℕ) × AnswersHere side (pause same taken) line text new × Appends before after text) → IsPaused new
    → GoesFurther side (pause desk taken) end before after new (taken + 1) false
asked_further side desk same taken line end before after new asked is paused answers paused_new =
    subst (λ e. GoesFurther side (pause desk taken) e before after new (taken + 1) false) (sym asked)
    (refl, refl, paused, paused_new, subst (λ d. (text : List ℕ) × AnswersHere side (pause d taken) line text new × Appends before after text) is answers)

leaves_here : (side : Side) (old : Pause) (input : Option (List (List ℕ))) (before after : Option (List ℕ)) (fault : LiveFault)
    → LeavesHere old.desk before after fault → LeavesPart side old input before after fault
leaves_here side old input before after faults.OutOfMemory leaves = inl (inl refl, leaves)
leaves_here side old input before after faults.Unsaved leaves = inl (inr (inr (refl, leaves.1)), leaves.0)
leaves_here side old input before after faults.Write leaves = inr (inl refl)
leaves_here side old input before after faults.Read leaves = absurd leaves
leaves_here side old input before after (faults.Turn why) leaves = absurd leaves
leaves_here side old input before after faults.SeatFull leaves = absurd leaves
leaves_here side old input before after (faults.Unsettled why) leaves = absurd leaves

leaves_between : (side : Side) (old : Pause) (left rest : Option (List (List ℕ))) (end : End) (before after : Option (List ℕ)) (fault : LiveFault)
    → LeftBehind left rest end → LeavesBetween side old end before after fault → LeavesPart side old left before after fault
leaves_between side old left rest end before after fault behind (inl here) = leaves_here side old left before after fault here
leaves_between side old left rest end before after fault behind (inr (line, moment, is, asks, leaves)) =
    inr (inr (inr (inr (record { line = line; rest = rest; takes = (subst (λ e. LeftBehind left rest e) is behind).0; moment = moment; asks = asks; leaves = leaves }))))

-- behind the stretch it was not made
pub not_further : (side : Side) (old : Pause) (input rest : Option (List (List ℕ))) (before between after : Option (List ℕ)) (desk : DeskState) (taken : ℕ) (end : End) (fault : LiveFault)
    → StretchesUntil side old input rest before between desk taken end → LeavesBetween side (pause desk taken) end between after fault → GoesSome side old input before after fault
not_further side old input rest before between after desk taken end fault is leaves = record {
  left = is.left;
  between = between;
  reached = pause desk taken;
  goes = goes_stretch side old input rest before between desk taken end is;
  leaves = leaves_between side (pause desk taken) is.left rest end between after fault is.behind leaves;
}

-- ---- what is written

pub writes_answer : (side : Side) (desk : DeskState) (number : ℕ) (given line text bytes : List ℕ) (before after : Option (List ℕ)) (result : Result (Unit {0}) LiveFault)
    → AnswersLine side desk number given text → given ≡ line → bytes ≡ text → OnOk result (Appends before after bytes) → OnOk result (WritesAnswer side desk number line before after)
writes_answer side desk number given line text bytes before after (Ok done) answers same is written =
    (text, subst (λ l. AnswersLine side desk number l text) same answers, subst (λ b. Appends before after b) is written)
writes_answer side desk number given line text bytes before after (Err fault) answers same is written = tt

-- ---- a whole run

-- the last line was written
pub whole_run : (side : Side) (desk : DeskState) (input : Option (List ℕ)) (left rest : Option (List (List ℕ))) (before begun_at between after : Option (List ℕ)) (at last : Pause)
    (result : Result (Unit {0}) LiveFault)
    → GoesTo side (pause desk 0) (lines_left None input) left before begun_at at → GoesTo side at left rest begun_at between last → EndsAt left rest
    → OnOk result (WritesEnding side last.desk between after) → OnOk result (RunsWhole side desk input before after)
whole_run side desk input left rest before begun_at between after at last (Err fault) first next end written = tt
whole_run side desk input left rest before begun_at between after at last (Ok done) first next end written =
    let whole = goes_both side (pause desk 0) (lines_left None input) left rest before begun_at between at last first next in
    record {
      parts = whole.parts;
      text = whole.text;
      ending = written.0;
      last = last;
      goes = whole.goes;
      all = takes_whole input left rest (joined first.parts) (joined whole.parts) first.taken whole.taken end;
      ends = written.1;
      written = appends_both before between after whole.text written.0 whole.written written.2;
    }

leaves_answer : (side : Side) (old : Pause) (input : Option (List (List ℕ))) (before after : Option (List ℕ)) (fault : LiveFault)
    → LeavesAnswer before after fault → LeavesPart side old input before after fault
leaves_answer side old input before after faults.OutOfMemory leaves = inl (inl refl, leaves)
leaves_answer side old input before after faults.Write leaves = inr (inl refl)
leaves_answer side old input before after faults.Unsaved leaves = absurd leaves
leaves_answer side old input before after faults.Read leaves = absurd leaves
leaves_answer side old input before after (faults.Turn why) leaves = absurd leaves
leaves_answer side old input before after faults.SeatFull leaves = absurd leaves
leaves_answer side old input before after (faults.Unsettled why) leaves = absurd leaves

-- it was not
pub not_ended : (side : Side) (old : Pause) (input left : Option (List (List ℕ))) (before between after : Option (List ℕ)) (reached : Pause) (result : Result (Unit {0}) LiveFault)
    → GoesTo side old input left before between reached → IfErr result (LeavesAnswer between after) → IfErr result (GoesSome side old input before after)
not_ended side old input left before between after reached (Ok done) goes leaves = tt
not_ended side old input left before between after reached (Err fault) goes leaves =
    record { left = left; between = between; reached = reached; goes = goes; leaves = leaves_answer side reached left between after fault leaves }

-- the input has too many lines
pub too_many : (side : Side) (old : Pause) (input left : Option (List (List ℕ))) (before between : Option (List ℕ)) (reached : Pause)
    → GoesTo side old input left before between reached → GoesSome side old input before between faults.Read
too_many side old input left before between reached goes =
    record { left = left; between = between; reached = reached; goes = goes; leaves = inl (inr (inl refl), keeps_same between) }
