-- One line more, and what came of it.
use Rattle.std.proofs.Common.{◌≡◌, ℕ, suc, ◌+◌, List, [], ◌∷◌, ◌++◌, length, refl, ap, sym, subst, arith, take_all, Option, Result, Ok, Err, IfOk, IfErr}
use Rattle.std.specs.Prelude.{IsOk}
use Rattle.gi_pairs.specs.declared.side.Side.{Side}
use Rattle.gi_office.specs.Keeping.{SeatState}
use Rattle.gi_serving.specs.Asking.{NotesTurns}
use Rattle.gi_live.specs.Coming.{ComeAll, IsAskingFault, IsCome}
use Rattle.gi_live.specs.Running.{LeavesStep, LeavesTold, LiveState, StepsSome, live, notes_since}
use Rattle.gi_live.specs.Telling.{saved_by, step_text}
use Rattle.gi_live.specs.declared.live_fault.LiveFault.{LiveFault}
use Rattle.gi_live.specs.declared.live_fault.LiveFault.TheVariants as faults
use Rattle.gi_live.specs.declared.came.Came.{Came}
use Rattle.gi_live.proofs.Runnings.{keeps_same}

pub come_more : (side : Side) (old : SeatState) (lines : List (List ℕ)) (cames : List Came) (between : SeatState) (line : List ℕ) (came : Came) (new : SeatState)
    → ComeAll side old lines cames between → IsCome side between line came new → ComeAll side old (lines ++ line ∷ []) (cames ++ came ∷ []) new
come_more side old [] [] between line came new all one = (new, subst (λ seat. IsCome side seat line came new) all one, refl)
come_more side old [] (first ∷ cames) between line came new all one = absurd all
come_more side old (head ∷ lines) [] between line came new all one = absurd all
come_more side old (head ∷ lines) (first ∷ cames) between line came new all one =
    (all.0, all.1, come_more side all.0 lines cames between line came new all.2 one)

-- the same where the line came to something
pub come_if : (side : Side) (old : SeatState) (lines : List (List ℕ)) (cames : List Came) (between : SeatState) (line : List ℕ) (result : Result Came LiveFault) (all : List Came) (new : SeatState)
    → ComeAll side old lines cames between → IfOk result (λ came. IsCome side between line came new) → IfOk result (λ came. all ≡ cames ++ came ∷ []) → IsOk result
    → ComeAll side old (lines ++ line ∷ []) all new
come_if side old lines cames between line (Ok came) all new before one added ok =
    subst (λ list. ComeAll side old (lines ++ line ∷ []) list new) (sym added) (come_more side old lines cames between line came new before one)
come_if side old lines cames between line (Err fault) all new before one added ok = absurd (let no = ok in cc)

-- as many came as there were lines
pub come_length : (side : Side) (old : SeatState) (lines : List (List ℕ)) (cames : List Came) (new : SeatState) → ComeAll side old lines cames new → length cames ≡ length lines
come_length side old [] [] new all = refl
come_length side old [] (came ∷ cames) new all = absurd all
come_length side old (line ∷ lines) [] new all = absurd all
come_length side old (line ∷ lines) (came ∷ cames) new all = ap (λ n. suc n) (come_length side all.0 lines cames new all.2)

-- a line that was not asked leaves what is written
pub asking_leaves : (side : Side) (old : LiveState) (lines : List (List ℕ)) (output : Option (List ℕ)) (fault : LiveFault) → IsAskingFault fault → LeavesStep side old lines output output fault
asking_leaves side old lines output (faults.Turn why) is = absurd is
asking_leaves side old lines output faults.Unsaved is = absurd is
asking_leaves side old lines output faults.Write is = absurd is
asking_leaves side old lines output faults.Read is = absurd is
asking_leaves side old lines output faults.SeatFull is = keeps_same output
asking_leaves side old lines output (faults.Unsettled why) is = absurd is
asking_leaves side old lines output faults.OutOfMemory is = keeps_same output

-- what is left of a step's text
leaves_one : (side : Side) (old : LiveState) (lines : List (List ℕ)) (text : List ℕ) (before after : Option (List ℕ)) (fault : LiveFault)
    → StepsSome side old lines text → LeavesTold text before after fault → LeavesStep side old lines before after fault
leaves_one side old lines text before after (faults.Turn why) some told = (text, some, told)
leaves_one side old lines text before after faults.Unsaved some told = (text, some, told)
leaves_one side old lines text before after faults.Write some told = tt
leaves_one side old lines text before after faults.Read some told = absurd told
leaves_one side old lines text before after faults.SeatFull some told = absurd told
leaves_one side old lines text before after (faults.Unsettled why) some told = absurd told
leaves_one side old lines text before after faults.OutOfMemory some told = told

pub leaves_all : (side : Side) (old : LiveState) (lines : List (List ℕ)) (text : List ℕ) (before after : Option (List ℕ)) (result : Result (Unit {0}) LiveFault)
    → StepsSome side old lines text → IfErr result (LeavesTold text before after) → IfErr result (LeavesStep side old lines before after)
leaves_all side old lines text before after (Ok done) some told = tt
leaves_all side old lines text before after (Err fault) some told = leaves_one side old lines text before after fault some told

-- what came of all lines, as some of them
pub steps_some : (side : Side) (seat : SeatState) (saved lines_before : ℕ) (lines : List (List ℕ)) (cames : List Came) (between last : SeatState) (now : ℕ)
    → ComeAll side seat lines cames between → NotesTurns between last → now ≡ saved_by saved (notes_since between last)
    → StepsSome side (live seat saved lines_before) lines (step_text now (lines_before + 1) cames (notes_since between last))
steps_some side seat saved lines_before lines cames between last now all noted is =
    let same = come_length side seat lines cames between all in
    record {
      cames = cames;
      between = between;
      last = last;
      came = subst (λ ls. ComeAll side seat ls cames between) (sym (take_all (length cames) lines (omega (arith, same)))) all;
      within = omega (arith, same);
      noted = noted;
      text_is = ap (λ n. step_text n (lines_before + 1) cames (notes_since between last)) is;
    }
