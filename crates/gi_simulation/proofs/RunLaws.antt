-- Runs one after the other.
use Rattle.std.proofs.Common.{◌≡◌, ◌<◌, ◌+◌, ◌-◌, ◌⊎◌, ℕ, suc, List, [], ◌∷◌, ◌++◌, append_assoc, append-nil, replicate, Bool, Result, Ok, Err, OnErr, OnOk, is_ok, false, true, arith, refl, sym, ap, subst, ◌∙◌}
use Rattle.std.proofs.lemmas.Grind.{flat_map-append}
use Rattle.std.proofs.lemmas.List.{replicate_more, replicate-append-replicate}
use Rattle.gi_script.specs.declared.line.Line.{Line}
use Rattle.gi_simulation.specs.Runs.{IsCutOff, IsRun, gathered, noted, printed, run, telling, turns, turns_of}
use Rattle.gi_pairs.specs.declared.side.Side.{Side}
use Rattle.gi_simulation.specs.Refused.{RefusedState, recording, refused_by}
use Rattle.gi_simulation.specs.Simulation.{SimulationState, after}

-- the type of what notes a turn
abbrev pub Note : Type 0 → Type 0
Note N = N → SimulationState → Line → N

pub run-append : (s : SimulationState) (front back : List Line) → run s (front ++ back) ≡ run (run s front) back
run-append s [] back = refl
run-append s (line ∷ front) back = run-append (after s line.instruction) front back

pub noted-append : {N : Type 0} (note : Note N) (old : N) (s : SimulationState) (front back : List Line)
    → noted note old s (front ++ back) ≡ noted note (noted note old s front) (run s front) back
noted-append note old s [] back = refl
noted-append note old s (line ∷ front) back = noted-append note (note old s line) (after s line.instruction) front back

-- a run, and then another
pub run-then : {N : Type 0} (note : Note N) (s mid end : SimulationState) (front back : List Line) (old middle new : N) → IsRun note s front old middle mid → IsRun note mid back middle new end
    → IsRun note s (front ++ back) old new end
run-then note s mid end front back old middle new first second = record {
  notes = second.notes ∙ (λ t. noted note (first.notes t) (first.simulation t) back) ∙ sym (noted-append note old s front back);
  simulation = second.simulation ∙ ap (λ (m : SimulationState). run m back) first.simulation ∙ sym (run-append s front back);
}

-- a run, and then one that is cut off, before others that are not made
pub cut-then : {N : Type 0} (note : Note N) (s mid end : SimulationState) (front turn later all : List Line) (old middle new : N) → IsRun note s front old middle mid
    → IsCutOff note mid turn middle new end → all ≡ front ++ (turn ++ later) → IsCutOff note s all old new end
cut-then note s mid end front turn later all old middle new first second is =
    let made = front ++ second.made in
    let after_made : run s made ≡ run mid second.made = run-append s front second.made ∙ ap (λ (m : SimulationState). run m second.made) (sym first.simulation) in
    record {
      made = made;
      next = second.next;
      left = second.left ++ later;
      all =
          is ∙ ap (λ (xs : List Line). front ++ (xs ++ later)) second.all ∙ ap (λ (xs : List Line). front ++ xs) (append_assoc second.made (second.next ∷ second.left) later)
          ∙ sym (append_assoc front second.made (second.next ∷ (second.left ++ later)));
      notes = second.notes ∙ (λ t. noted note (first.notes t) (first.simulation t) second.made) ∙ sym (noted-append note old s front second.made);
      world =
          subst (λ (m : SimulationState). (end.world ≡ m.world) ⊎ (end.world ≡ (after m second.next.instruction).world)) (sym after_made) second.world;
    }

pub cut-one : {N : Type 0} (note : Note N) (s end : SimulationState) (line : Line) (old new : N) → new ≡ old
    → (end.world ≡ s.world) ⊎ (end.world ≡ (after s line.instruction).world) → IsCutOff note s (line ∷ []) old new end
cut-one note s end line old new same world = record { made = []; next = line; left = []; all = refl; notes = same; world = world }

-- a line once more
pub run-again : {N : Type 0} (note : Note N) (s mid end : SimulationState) (line : Line) (n : ℕ) (old middle new : N) → IsRun note s (replicate n line) old middle mid
    → IsRun note mid (line ∷ []) middle new end → IsRun note s (replicate (n + 1) line) old new end
run-again note s mid end line n old middle new first second =
    subst (λ (all : List Line). IsRun note s all old new end) (replicate_more n line) (run-then note s mid end (replicate n line) (line ∷ []) old middle new first second)

once_more : (line : Line) (n times : ℕ) → n < times → replicate times line ≡ replicate n line ++ (line ∷ [] ++ replicate (times - (n + 1)) line)
once_more line n times below =
    let many : times ≡ n + suc (times - (n + 1)) = omega (arith, below) in
    ap (λ (m : ℕ). replicate m line) many ∙ sym (replicate-append-replicate n (suc (times - (n + 1))) line)

pub cut-again : {N : Type 0} (note : Note N) (s mid end : SimulationState) (line : Line) (n times : ℕ) (old middle new : N) → n < times → IsRun note s (replicate n line) old middle mid
    → IsCutOff note mid (line ∷ []) middle new end → IsCutOff note s (replicate times line) old new end
cut-again note s mid end line n times old middle new below first second =
    cut-then note s mid end (replicate n line) (line ∷ []) (replicate (times - (n + 1)) line) (replicate times line) old middle new first second (once_more line n times below)

-- the next line
pub run-line : {N : Type 0} (note : Note N) (s mid end : SimulationState) (before made : List Line) (line : Line) (old middle new : N) → made ≡ before ++ line ∷ []
    → IsRun note s (turns before) old middle mid → IsRun note mid (turns_of line) middle new end → IsRun note s (turns made) old new end
run-line note s mid end before made line old middle new is first second =
    let last : turns (line ∷ []) ≡ turns_of line = append-nil (turns_of line) in
    let joined : turns made ≡ turns before ++ turns_of line = ap turns is ∙ flat_map-append turns_of before (line ∷ []) ∙ ap (λ (xs : List Line). turns before ++ xs) last in
    subst (λ (all : List Line). IsRun note s all old new end) (sym joined) (run-then note s mid end (turns before) (turns_of line) old middle new first second)

pub cut-line : {N : Type 0} (note : Note N) (s mid end : SimulationState) (before later all : List Line) (line : Line) (old middle new : N) → all ≡ (before ++ line ∷ []) ++ later
    → IsRun note s (turns before) old middle mid → IsCutOff note mid (turns_of line) middle new end → IsCutOff note s (turns all) old new end
cut-line note s mid end before later all line old middle new is first second =
    let joined : turns all ≡ turns before ++ (turns_of line ++ turns later) =
    ap turns is ∙ ap turns (append_assoc before (line ∷ []) later) ∙ flat_map-append turns_of before (line ∷ later) in
    cut-then note s mid end (turns before) (turns_of line) (turns later) (turns all) old middle new first second joined

-- notes that are pieces of a list, one after the other
pub gathered-is : {X : Type 0} (piece : SimulationState → Line → List X) (old : List X) (s : SimulationState) (lines : List Line)
    → noted (λ so_far s line. so_far ++ piece s line) old s lines ≡ old ++ gathered piece s lines
gathered-is piece old s [] = sym (append-nil old)
gathered-is piece old s (line ∷ lines) =
    gathered-is piece (old ++ piece s line) (after s line.instruction) lines ∙ append_assoc old (piece s line) (gathered piece (after s line.instruction) lines)

-- the text of a run that is made whole
pub told_in : {T E : Type 0} (trace : Bool) (r : Result T E) (s first end : SimulationState) (given all : List Line) (old text shown : List ℕ) → is_ok r ≡ true
    → OnOk r (IsRun (telling trace) first (turns given) old text end) → first ≡ s → given ≡ all → old ≡ [] → shown ≡ text → shown ≡ gathered (printed trace) s (turns all)
told_in trace (Ok x) s first end given all old text shown ok made first_is given_is old_is shown_is =
    shown_is ∙ made.notes ∙ (λ t. noted (telling trace) (old_is t) (first_is t) (turns (given_is t))) ∙ gathered-is (printed trace) [] s (turns all)
told_in trace (Err e) s first end given all old text shown ok made first_is given_is old_is shown_is = absurd cc

-- and of one that is cut off
pub cut_in : {T E : Type 0} (trace : Bool) (r : Result T E) (s first end : SimulationState) (given all : List Line) (old text shown : List ℕ) → is_ok r ≡ false
    → OnErr r (IsCutOff (telling trace) first (turns given) old text end) → first ≡ s → given ≡ all → old ≡ [] → shown ≡ text
    → IsCutOff (telling trace) s (turns all) [] shown end
cut_in trace (Ok x) s first end given all old text shown failed cut first_is given_is old_is shown_is = absurd cc
cut_in trace (Err e) s first end given all old text shown failed cut first_is given_is old_is shown_is =
    subst (λ (x : SimulationState). IsCutOff (telling trace) x (turns all) [] shown end) first_is
    (subst (λ (x : List Line). IsCutOff (telling trace) first (turns x) [] shown end) given_is
    (subst (λ (x : List ℕ). IsCutOff (telling trace) first (turns given) x shown end) old_is
    (subst (λ (x : List ℕ). IsCutOff (telling trace) first (turns given) old x end) (sym shown_is) cut)))

-- the refused submissions of a run
recorded : (old : RefusedState) (s : SimulationState) (lines : List Line)
    → noted recording old s lines ≡ record { side = old.side; portfolios = old.portfolios ++ gathered (refused_by old.side) s lines }
recorded old s [] = λ t. record { side = old.side; portfolios = sym (append-nil old.portfolios) t }
recorded old s (line ∷ lines) =
    let first = refused_by old.side s line in
    recorded (recording old s line) (after s line.instruction) lines
    ∙ (λ t. record { side = old.side; portfolios = append_assoc old.portfolios first (gathered (refused_by old.side) (after s line.instruction) lines) t })

pub recorded_in : (side : Side) (s first end : SimulationState) (given all : List Line) (old got : RefusedState) → IsRun recording first (turns given) old got end
    → first ≡ s → given ≡ all → old ≡ record { side = side; portfolios = [] } → got.portfolios ≡ gathered (refused_by side) s (turns all)
recorded_in side s first end given all old got made first_is given_is old_is =
    ap (λ (r : RefusedState). r.portfolios)
    (made.notes ∙ (λ t. noted recording (old_is t) (first_is t) (turns (given_is t))) ∙ recorded (record { side = side; portfolios = [] }) s (turns all))

-- what holds anyway holds of an error
pub on_err : {T E : Type 0} {P : Type 0} (r : Result T E) → P → OnErr r P
on_err (Ok x) p = tt
on_err (Err e) p = p
