-- The lines of a schedule, one after the other.
use Rattle.std.proofs.Common.{◌≡◌, ◌<◌, ◌+◌, ℕ, ℤ, List, [], ◌∷◌, ◌++◌, codes, length, take, get_or, sym, ap, ◌∙◌}
use Rattle.std.specs.List.{flat_map, sum_by}
use Rattle.std.proofs.lemmas.List.{flat_map_more, take_more}
use Rattle.std.specs.Prelude.{Option}
use Rattle.std.specs.Fmt.{signed_decimal}
use Rattle.std.proofs.lemmas.List.Sums.{sum_by_more}
use Rattle.jiff_core.specs.declared.civil.date.Date.{Date}
use Rattle.gi_pairs.specs.declared.key.Key.{Key}
use Rattle.gi_schedule.specs.InForce.{Confirmed, hours_in_force}
use Rattle.gi_schedule.specs.Keys.{day_keys}
use Rattle.gi_schedule.specs.Lines.{day_lines, schedule}
use Rattle.gi_schedule.specs.Columns.{number_column, right_of}
use Rattle.gi_schedule.specs.Text.{front_text, line_text, pair_text}
use Rattle.gi_schedule.specs.declared.schedule_line.ScheduleLine.{ScheduleLine}
use Rattle.gi_schedule.specs.declared.hour_in_force.HourInForce.{HourInForce}

-- one summand more
pub total_more : {X : Type 0} (f : X → ℕ) (xs : List X) (i : ℕ) (d : X) (total added : ℕ) → i < length xs → total ≡ sum_by f (take i xs) → added ≡ f (get_or xs i d)
    → total + added ≡ sum_by f (take (i + 1) xs)
total_more f xs i d total added below total_is added_is = (λ t. total_is t + added_is t) ∙ sym (sum_by_more f xs i d below)

-- what one item more gives
pub items_more : {X A : Type 0} (f : X → List A) (xs : List X) (i : ℕ) (x : X) (first old new : List A) → i < length xs → x ≡ get_or xs i x
    → old ≡ first ++ flat_map f (take i xs) → new ≡ old ++ f x → new ≡ first ++ flat_map f (take (i + 1) xs)
items_more {X = X} {A = A} f xs i x first old new below is old_is new_is =
    let front = take_more xs i x below ∙ ap (λ (y : X). take i xs ++ y ∷ []) (sym is) in
    new_is ∙ ap (λ (l : List A). l ++ f x) old_is ∙ flat_map_more f first (take i xs) x ∙ ap (λ (l : List X). first ++ flat_map f l) (sym front)

pub schedule_is : (confirmed : Confirmed) (portfolio : Option (List ℕ)) (day : Date) (keys : List Key) (hours : List HourInForce) → keys ≡ day_keys confirmed portfolio day
    → hours ≡ hours_in_force confirmed day → day_lines confirmed day keys hours ≡ schedule confirmed portfolio day
unfolding schedule
schedule_is confirmed portfolio day keys hours keys_are hours_are = λ t. day_lines confirmed day (keys_are t) (hours_are t)

-- ---- the text of a line

abbrev pub line_of_parts : List ℕ → List ℕ → Option ℕ → ℤ → List ℕ
line_of_parts front pair hour quantity =
    front ++ (codes " " ++ (pair ++ (codes " " ++ (number_column hour ++ (codes " " ++ (right_of 12 (signed_decimal quantity) ++ codes "\n"))))))

pub same_line : (line : ScheduleLine) (front pair : List ℕ) (quantity : ℤ) → front ≡ front_text line → pair ≡ pair_text line → quantity ≡ line.quantity
    → line_of_parts front pair line.hour quantity ≡ line_text line
same_line line front pair quantity front_is pair_is quantity_is = λ t. line_of_parts (front_is t) (pair_is t) line.hour (quantity_is t)
