-- The lines of confirmed quantities.
use Rattle.std.proofs.Common.{◌≡◌, ◌<◌, ◌+◌, ℕ, zero, suc, List, [], ◌∷◌, ◌++◌, length, take, get_or, sym, ap, ◌∙◌, arith, append-nil, codes}
use Rattle.std.specs.List.{enumerate_from, flat_map}
use Rattle.std.proofs.lemmas.List.Concat.{flat_map-append}
use Rattle.jiff_core.specs.declared.civil.date.Date.{Date}
use Rattle.gi_day.specs.Day.{day_text}
use Rattle.gi_pairs.specs.declared.cycle_id.CycleId.{CycleId}
use Rattle.gi_pairs.specs.declared.row.Row.{Row}
use Rattle.gi_text.specs.Columns.{right_in}
use Rattle.gi_reports.specs.Confirmed.{confirmed_line, row_text}

-- a line of these parts
abbrev pub line_of : Date → ℕ → List ℕ → ℕ → ℕ → List ℕ
line_of day cycle row hour quantity =
    day_text day ++ (codes " " ++ (right_in 2 cycle ++ (codes " " ++ (row ++ (codes " " ++ (right_in 2 hour
    ++ (codes " " ++ (right_in 12 quantity ++ codes "\n"))))))))

pub same_line : (id : CycleId) (row : Row) (hour cycle read quantity : ℕ) (text : List ℕ) → cycle ≡ id.cycle → text ≡ row_text row → read ≡ quantity
    → line_of id.day cycle text hour read ≡ confirmed_line id row hour quantity
same_line id row hour cycle read quantity text cycle_is text_is read_is = λ t. line_of id.day (cycle_is t) (text_is t) hour (read_is t)

numbered_more : (first : ℕ) (xs : List ℕ) (i : ℕ) → i < length xs → enumerate_from first (take (suc i) xs) ≡ enumerate_from first (take i xs) ++ (first + i, get_or xs i 0) ∷ []
numbered_more first [] i below = absurd (omega (arith, below))
numbered_more first (x ∷ xs) zero below = let here : first ≡ first + 0 = omega arith in ap (λ (n : ℕ). (n, x) ∷ []) here
numbered_more first (x ∷ xs) (suc i) below =
    let next : first + 1 + i ≡ first + suc i = omega arith in
    ap (λ (l : List (ℕ × ℕ)). (first, x) ∷ l) (numbered_more (first + 1) xs i (omega (arith, below)) ∙ ap (λ (n : ℕ). enumerate_from (first + 1) (take i xs) ++ (n, get_or xs i 0) ∷ []) next)

pub hour_more : (id : CycleId) (row : Row) (first place hour quantity : ℕ) (text line next : List ℕ) → place < length row.hours → hour ≡ first + place
    → quantity ≡ get_or row.hours place 0 → text ≡ flat_map (λ (counted : ℕ × ℕ). confirmed_line id row counted.0 counted.1) (enumerate_from first (take place row.hours))
    → line ≡ confirmed_line id row hour quantity → next ≡ text ++ line
    → next ≡ flat_map (λ (counted : ℕ × ℕ). confirmed_line id row counted.0 counted.1) (enumerate_from first (take (place + 1) row.hours))
hour_more id row first place hour quantity text line next below hour_is quantity_is text_is line_is next_is =
    let of : ℕ × ℕ → List ℕ = λ counted. confirmed_line id row counted.0 counted.1 in
    let before = enumerate_from first (take place row.hours) in
    let count : suc place ≡ place + 1 = omega arith in
    let one : ℕ × ℕ = (first + place, get_or row.hours place 0) in
    next_is ∙ (λ t. text_is t ++ line_is t) ∙ (λ t. flat_map of before ++ confirmed_line id row (hour_is t) (quantity_is t))
    ∙ ap (λ (l : List ℕ). flat_map of before ++ l) (sym (append-nil (of one))) ∙ sym (flat_map-append of before (one ∷ []))
    ∙ ap (flat_map of) (sym (numbered_more first row.hours place below)) ∙ ap (λ n. flat_map of (enumerate_from first (take n row.hours))) count
