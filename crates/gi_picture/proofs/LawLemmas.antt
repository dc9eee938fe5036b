-- What holds of each picture of a day.
use Rattle.std.proofs.Common.{◌≡◌, ◌≤◌, ◌<◌, ◌-◌, ◌+◌, ◌*◌, ◌/◌, ◌%◌, ◌∙◌, ℕ, List, [], ◌∷◌, ◌++◌, length, Bool, true, false, refl, sym, ap, arith, append_assoc}
use Rattle.std.specs.Prelude.{◌&&◌, not, codes, Option, replicate, if◌then◌else◌, nat_eq, ⊤}
use Rattle.std.specs.List.{flat_map, list_all}
use Rattle.std.proofs.lemmas.Bool.Decides.{nat_tests}
use Rattle.std.proofs.lemmas.List.{replicate_more}
use Rattle.std.proofs.lemmas.List.Folds.{list_all-append}
use Rattle.std.proofs.lemmas.Nat.{div-add-mod'}
use Rattle.gi_picture.specs.Axis.{PrefixesDivide, prefix_size}
use Rattle.gi_picture.specs.Clock.{EndsAsItBegins, clock_hour}
use Rattle.gi_picture.specs.Escape.{WritesPlain, escaped, escaped_byte, is_plain}
use Rattle.gi_picture.specs.Names.{AreApart, NamesKeepApart, limit, place_of_first, places, wanted}
use Rattle.gi_picture.specs.Quantities.{CutsAddUp}
use Rattle.gi_picture.specs.Runs.{AreInTurn, AreLongest, RunsAreLongest, RunsAreTheHours, hours_of, is_same, longer, next, run_of_one, runs, runs_from}
use Rattle.gi_picture.specs.declared.end.End.{End}
use Rattle.gi_picture.specs.declared.run.Run.{Run}
use Rattle.gi_picture.proofs.RunLemmas.{same_value}

-- ---- prefixes

whole : (step size : ℕ) → step % size ≡ 0 → step / size * size ≡ step
whole step size none = let all = div-add-mod' step size in omega (arith, none, all)

divides_if : (step size other : ℕ) → step / other * other ≡ step → (b : Bool) → nat_eq (step % size) 0 ≡ b
    → step / (if b then size else other) * (if b then size else other) ≡ step
divides_if step size other divides true is = let none : step % size ≡ 0 = grind (arith, nat_tests, is) in whole step size none
divides_if step size other divides false is = divides

pub prefixes_divide : PrefixesDivide
unfolding prefix_size
prefixes_divide step =
    let one : step / 1 * 1 ≡ step = omega arith in
    let k = divides_if step 1_000 1 one (nat_eq (step % 1_000) 0) refl in
    let m = divides_if step 1_000_000 _ k (nat_eq (step % 1_000_000) 0) refl in
    let g = divides_if step 1_000_000_000 _ m (nat_eq (step % 1_000_000_000) 0) refl in
    divides_if step 1_000_000_000_000 _ g (nat_eq (step % 1_000_000_000_000) 0) refl

-- ---- local time

pub ends_as_it_begins : EndsAsItBegins
unfolding clock_hour
ends_as_it_begins hours above below = grind (arith, nat_tests, above, below)

-- ---- runs

one_more : (run : Run) → run.before < run.behind → hours_of (longer run) ≡ hours_of run ++ run.value ∷ []
one_more run some =
    let more : run.behind + 1 - run.before ≡ run.behind - run.before + 1 = omega (arith, some) in
    ap (λ n. replicate n run.value) more ∙ sym (replicate_more (run.behind - run.before) run.value)

one_new : (run : Run) (value : Option ℕ) → hours_of (next run value) ≡ value ∷ []
one_new run value = let one : run.behind + 1 - run.behind ≡ 1 = omega arith in ap (λ n. replicate n value) one

go_on : (run : Run) (value : Option ℕ) (values : List (Option ℕ)) → run.before < run.behind
    → flat_map hours_of (runs_from (longer run) values) ≡ hours_of (longer run) ++ values
    → flat_map hours_of (runs_from (next run value) values) ≡ hours_of (next run value) ++ values
    → (b : Bool) → is_same run.value value ≡ b
    → flat_map hours_of (if b then runs_from (longer run) values else run ∷ runs_from (next run value) values) ≡ hours_of run ++ value ∷ values
go_on run value values some longer_is next_is true same =
    longer_is ∙ ap (λ l. l ++ values) (one_more run some) ∙ append_assoc (hours_of run) (run.value ∷ []) values
    ∙ ap (λ v. hours_of run ++ v ∷ values) (same_value run.value value same)
go_on run value values some longer_is next_is false same = ap (λ l. hours_of run ++ l) (next_is ∙ ap (λ l. l ++ values) (one_new run value))

hours_from : (values : List (Option ℕ)) (run : Run) → run.before < run.behind → flat_map hours_of (runs_from run values) ≡ hours_of run ++ values
unfolding runs_from
hours_from [] run some = refl
hours_from (value ∷ values) run some =
    go_on run value values some (hours_from values (longer run) (omega (arith, some))) (hours_from values (next run value) (omega arith)) (is_same run.value value) refl

pub runs_are_the_hours : RunsAreTheHours
unfolding runs
runs_are_the_hours [] = refl
runs_are_the_hours (value ∷ values) = hours_from values (run_of_one value) (omega arith)

-- a run that goes on from another: it begins where that does, and has its value
record BeginsAs (run first : Run) : Type 0 where
  before : first.before ≡ run.before
  some : first.before < first.behind
  previous : first.previous ≡ run.previous
  value : first.value ≡ run.value

-- runs of which the first goes on from another
abbrev Starts : Run → List Run → Type 0
Starts run [] = ⊤
Starts run (first ∷ runs) = BeginsAs run first × AreInTurn first runs

starts_longer : (runs : List Run) (run : Run) → Starts (longer run) runs → Starts run runs
starts_longer [] run starts = tt
starts_longer (first ∷ runs) run starts =
    (record { before = starts.0.before; some = starts.0.some; previous = starts.0.previous; value = starts.0.value }, starts.1)

turn : (runs : List Run) (run : Run) (value : Option ℕ) → is_same run.value value ≡ false → Starts (next run value) runs → AreInTurn run runs
turn [] run value other starts = tt
turn (first ∷ runs) run value other starts =
    (record { before = starts.0.before; some = starts.0.some; previous = starts.0.previous; other = ap (is_same run.value) starts.0.value ∙ other }, starts.1)

start_if : (run : Run) (value : Option ℕ) (values : List (Option ℕ)) → run.before < run.behind
    → Starts (longer run) (runs_from (longer run) values) → Starts (next run value) (runs_from (next run value) values)
    → (b : Bool) → is_same run.value value ≡ b → Starts run (if b then runs_from (longer run) values else run ∷ runs_from (next run value) values)
start_if run value values some longer_starts next_starts true same = starts_longer (runs_from (longer run) values) run longer_starts
start_if run value values some longer_starts next_starts false other =
    (record { before = refl; some = some; previous = refl; value = refl }, turn (runs_from (next run value) values) run value other next_starts)

starts_from : (values : List (Option ℕ)) (run : Run) → run.before < run.behind → Starts run (runs_from run values)
unfolding runs_from
starts_from [] run some = (record { before = refl; some = some; previous = refl; value = refl }, tt)
starts_from (value ∷ values) run some =
    start_if run value values some (starts_from values (longer run) (omega (arith, some))) (starts_from values (next run value) (omega arith)) (is_same run.value value) refl

longest : (runs : List Run) (value : Option ℕ) → Starts (run_of_one value) runs → AreLongest runs
longest [] value starts = tt
longest (first ∷ runs) value starts = (record { before = starts.0.before; some = starts.0.some; previous = starts.0.previous }, starts.1)

pub runs_are_longest : RunsAreLongest
unfolding runs
runs_are_longest [] = tt
runs_are_longest (value ∷ values) = longest (runs_from (run_of_one value) values) value (starts_from values (run_of_one value) (omega arith))

-- ---- escaped text

plain_if : (b : Bool) (name rest : List ℕ) → list_all is_plain name ≡ true → (b ≡ false → list_all is_plain rest ≡ true) → (list_all is_plain (if b then name else rest)) ≡ true
plain_if true name rest name_is rest_is = name_is
plain_if false name rest name_is rest_is = rest_is refl

plain_byte : (byte : ℕ) → nat_eq byte 60 ≡ false → nat_eq byte 62 ≡ false → nat_eq byte 34 ≡ false → list_all is_plain (byte ∷ []) ≡ true
plain_byte byte less greater quote = λ t. (not (less t) && (not (greater t) && not (quote t))) && true

byte_plain : (byte : ℕ) → list_all is_plain (escaped_byte byte) ≡ true
byte_plain byte =
    plain_if (nat_eq byte 38) (codes "&amp;") _ refl (λ ampersand.
    plain_if (nat_eq byte 60) (codes "&lt;") _ refl (λ less.
    plain_if (nat_eq byte 62) (codes "&gt;") _ refl (λ greater.
    plain_if (nat_eq byte 34) (codes "&quot;") (byte ∷ []) refl (λ quote. plain_byte byte less greater quote))))

pub writes_plain : WritesPlain
writes_plain [] = refl
writes_plain (byte ∷ text) = list_all-append is_plain (escaped_byte byte) (escaped text) ∙ (λ t. byte_plain byte t && writes_plain text t)

-- ---- names

-- what the names from here on leave for the one before
limit_low : (high low base : ℕ) (ends : List End) → base ≤ low → base + 19 * length ends ≤ high + 19 → base ≤ limit high low ends + 19
limit_low high low base [] above room = omega (arith, room)
limit_low high low base (end ∷ ends) above room =
    let rest = limit_low high (wanted low end + 19) (base + 19) ends (omega (arith, above)) (omega (arith, room)) in
    omega (arith, above, rest)

limit_high : (high low : ℕ) (ends : List End) → 19 * length ends ≤ high → limit high low ends + 19 * length ends ≤ high
limit_high high low [] room = omega arith
limit_high high low (end ∷ ends) room =
    let rest = limit_high high (wanted low end + 19) ends (omega (arith, room)) in
    omega (arith, room, rest)

apart_from : (high low base : ℕ) (ends : List End) → base ≤ low → base + 19 * length ends ≤ high + 19 → AreApart base high (places high low ends)
apart_from high low base [] above room = omega (arith, room)
apart_from high low base (end ∷ ends) above room =
    let low_enough = limit_low high (wanted low end + 19) (base + 19) ends (omega (arith, above)) (omega (arith, room)) in
    let high_enough = limit_high high (wanted low end + 19) ends (omega (arith, room)) in
    (omega (arith, above, low_enough), apart_from high (wanted low end + 19) (place_of_first high low end ends + 19) ends (omega arith) (omega (arith, high_enough)))

pub names_keep_apart : NamesKeepApart
names_keep_apart low high ends room = apart_from high low low ends (omega arith) room

-- ---- cuts

pub cuts_add_up : CutsAddUp
cuts_add_up amounts in_force processed = omega (arith, in_force, processed)
