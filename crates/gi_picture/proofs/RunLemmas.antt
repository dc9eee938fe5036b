-- The runs of a day.
use Rattle.std.proofs.Common.{◌≡◌, ◌<◌, ◌≤◌, ◌+◌, ◌∙◌, ℕ, List, [], ◌∷◌, ◌++◌, true, false, refl, sym, ap, arith, add-one, append_assoc, length, drop, get_or, drop-cons}
use Rattle.std.specs.Prelude.{Option, Some, None, if◌then◌else◌}
use Rattle.std.proofs.lemmas.Bool.Decides.{nat_tests}
use Rattle.std.proofs.Math.ListN.{drop_of_length-le}
use Rattle.gi_picture.specs.Runs.{is_same, longer, next, run_of_one, runs, runs_from}
use Rattle.gi_picture.specs.declared.run.Run.{Run}

-- the same value goes on
goes_on : (found : List Run) (run : Run) (value : Option ℕ) (values : List (Option ℕ)) (all : List Run) → is_same run.value value ≡ true
    → found ++ runs_from run (value ∷ values) ≡ all → found ++ runs_from (longer run) values ≡ all
unfolding runs_from
goes_on found run value values all same is = sym (ap (λ b. found ++ (if b then runs_from (longer run) values else run ∷ runs_from (next run value) values)) same) ∙ is

-- another value begins
begins : (found : List Run) (run : Run) (value : Option ℕ) (values : List (Option ℕ)) (all : List Run) → is_same run.value value ≡ false
    → found ++ runs_from run (value ∷ values) ≡ all → (found ++ run ∷ []) ++ runs_from (next run value) values ≡ all
unfolding runs_from
begins found run value values all other is =
    append_assoc found (run ∷ []) (runs_from (next run value) values)
    ∙ (sym (ap (λ b. found ++ (if b then runs_from (longer run) values else run ∷ runs_from (next run value) values)) other) ∙ is)

-- what is left of the values from one on
left_from : (values : List (Option ℕ)) (i : ℕ) → i < length values → drop i values ≡ get_or values i None ∷ drop (i + 1) values
left_from values i below = drop-cons values i None below ∙ ap (λ j. get_or values i None ∷ drop j values) (sym (add-one i))

pub same_next : (found new : List Run) (run after : Run) (values : List (Option ℕ)) (i : ℕ) (all : List Run) → i < length values
    → is_same run.value (get_or values i None) ≡ true → new ≡ found → after ≡ longer run → found ++ runs_from run (drop i values) ≡ all
    → new ++ runs_from after (drop (i + 1) values) ≡ all
same_next found new run after values i all below same new_is after_is rest =
    (λ t. new_is t ++ runs_from (after_is t) (drop (i + 1) values))
    ∙ goes_on found run (get_or values i None) (drop (i + 1) values) all same (sym (ap (λ l. found ++ runs_from run l) (left_from values i below)) ∙ rest)

pub other_next : (found new : List Run) (run after : Run) (values : List (Option ℕ)) (i : ℕ) (all : List Run) → i < length values
    → is_same run.value (get_or values i None) ≡ false → new ≡ found ++ run ∷ [] → after ≡ next run (get_or values i None) → found ++ runs_from run (drop i values) ≡ all
    → new ++ runs_from after (drop (i + 1) values) ≡ all
other_next found new run after values i all below other new_is after_is rest =
    (λ t. new_is t ++ runs_from (after_is t) (drop (i + 1) values))
    ∙ begins found run (get_or values i None) (drop (i + 1) values) all other (sym (ap (λ l. found ++ runs_from run l) (left_from values i below)) ∙ rest)

-- all values are read
pub all_read : (found new : List Run) (first : Option ℕ) (run start : Run) (values whole : List (Option ℕ)) (i : ℕ) → length values ≤ i
    → new ≡ found ++ run ∷ [] → start ≡ run_of_one first → whole ≡ first ∷ values → found ++ runs_from run (drop i values) ≡ runs_from start values → new ≡ runs whole
unfolding runs_from runs
all_read found new first run start values whole i past new_is start_is whole_is rest =
    new_is ∙ sym (ap (λ l. found ++ runs_from run l) (drop_of_length-le values past)) ∙ rest ∙ ap (λ r. runs_from r values) start_is ∙ sym (ap runs whole_is)

-- ---- the runs are the hours

pub same_value : (a b : Option ℕ) → is_same a b ≡ true → a ≡ b
same_value None None same = refl
same_value None (Some b) same = grind (arith, nat_tests, same)
same_value (Some a) None same = grind (arith, nat_tests, same)
same_value (Some a) (Some b) same = let eq : a ≡ b = grind (arith, nat_tests, same) in ap (λ (n : ℕ). Some n) eq
