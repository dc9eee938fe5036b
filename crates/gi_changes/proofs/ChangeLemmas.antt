-- The changes of the cycles of a gas day, one after the other.
use Rattle.std.proofs.Common.{◌≡◌, ◌+◌, ◌-◌, ℕ, List, ◌++◌, ℤ, codes, Option, sym, ap, ◌∙◌, arith, refl}
use Rattle.std.specs.Fmt.{signed_decimal}
use Rattle.std.specs.List.{flat_map, range_with_len}
use Rattle.jiff_core.specs.declared.civil.date.Date.{Date}
use Rattle.gi_pairs.specs.declared.key.Key.{Key}
use Rattle.gi_text.specs.Columns.{right_in}
use Rattle.gi_messages.specs.Limits.{last_cycle}
use Rattle.gi_schedule.specs.Columns.{right_of}
use Rattle.gi_schedule.specs.CutForms.{place_text}
use Rattle.gi_schedule.specs.InForce.{Confirmed, cycle_of}
use Rattle.gi_schedule.specs.Keys.{keys_before}
use Rattle.gi_schedule.proofs.InForceLemmas.{number_more}
use Rattle.gi_changes.specs.Changes.{changes, changes_if, cycle_changes}
use Rattle.gi_changes.specs.Forms.{change_text}
use Rattle.gi_changes.specs.declared.change_line.ChangeLine.{ChangeLine}

-- one cycle more
pub changes_more : (c : Confirmed) (portfolio : Option (List ℕ)) (day : Date) (n : ℕ) (keys : List Key) (old new : List ChangeLine) → keys ≡ keys_before c portfolio day (n + 1)
    → old ≡ flat_map (cycle_changes c portfolio day) (range_with_len 0 n) → new ≡ old ++ changes_if c (cycle_of day n) keys (c (cycle_of day n))
    → new ≡ flat_map (cycle_changes c portfolio day) (range_with_len 0 (n + 1))
changes_more c portfolio day n keys old new keys_are old_is new_is =
    let of = cycle_changes c portfolio day in
    let here : n - 0 ≡ n = omega arith in
    let next : n + 1 - 0 ≡ n + 1 = omega arith in
    number_more of 0 n old (changes_if c (cycle_of day n) keys (c (cycle_of day n))) new (omega arith) (old_is ∙ ap (λ count. flat_map of (range_with_len 0 count)) (sym here))
    (ap (λ (l : List Key). changes_if c (cycle_of day n) l (c (cycle_of day n))) keys_are) new_is ∙ ap (λ count. flat_map of (range_with_len 0 count)) next

pub changes_all : (c : Confirmed) (portfolio : Option (List ℕ)) (day : Date) (n : ℕ) → n ≡ last_cycle + 1
    → flat_map (cycle_changes c portfolio day) (range_with_len 0 n) ≡ changes c portfolio day
unfolding changes
changes_all c portfolio day n is = ap (λ count. flat_map (cycle_changes c portfolio day) (range_with_len 0 count)) is

-- ---- the text of a line

abbrev pub text_of_parts : List ℕ → ℕ → ℕ → ℤ → List ℕ
text_of_parts place before after change =
    place ++ (codes " " ++ (right_in 12 before ++ (codes " " ++ (right_in 12 after ++ (codes " " ++ (right_of 12 (signed_decimal change) ++ codes "\n"))))))

pub same_text : (line : ChangeLine) (place : List ℕ) (change : ℤ) → place ≡ place_text line.id line.direction line.pair line.hour → change ≡ line.change
    → text_of_parts place line.before line.after change ≡ change_text line
same_text line place change place_is change_is = λ t. text_of_parts (place_is t) line.before line.after (change_is t)
