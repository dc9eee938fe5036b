-- The first piece of the lines, and a run of one piece more.
use Rattle.std.proofs.Common.{get_or, ◌≡◌, ◌≢◌, ◌≤◌, ◌<◌, ℕ, ◌+◌, max, length, drop-drop, List, [], ◌∷◌, ◌++◌, take, drop, Option, None, Some, refl, ap, append_assoc, append-nil, ◌∙◌, sym, subst, arith}
use Rattle.std.proofs.lemmas.List.{drop_all, length-drop}
use Rattle.std.specs.Io.KnownBytes.{Appends, Keeps}
use Rattle.gi_pairs.specs.declared.side.Side.{Side}
use Rattle.gi_script.specs.declared.line.Line.{Line}
use Rattle.gi_serving.specs.Batches.{submission}
use Rattle.gi_serving.specs.Ending.{LeavesNothing, LeavesRun}
use Rattle.gi_serving.specs.Making.{MakesAndSaves, MakesBatch, MakesFirst, MakesLine, OfficesState, Runs, RunsSome, RunsTo, SavesAndSends, SavesFirst, WritesFirst, WritesTo}
use Rattle.gi_serving.specs.Runs.{Batch, Piece, Single, joined, lead, lead_by, pieces, put, side_in}
use Rattle.gi_serving.specs.declared.serve_fault.ServeFault.{ServeFault}
use Rattle.gi_serving.specs.declared.serve_fault.ServeFault.TheVariants as faults

join : (line : Line) (later : List Line) → joined line (pieces later) ≡ Batch (line ∷ take (lead later) later) ∷ pieces (drop (lead later) later)
join line [] = refl
join line (next ∷ later) = by (submission next.instruction) refl (join next later)
  where
    by : (s : Option (Side × List ℕ)) → submission next.instruction ≡ s
        → joined next (pieces later) ≡ Batch (next ∷ take (lead later) later) ∷ pieces (drop (lead later) later)
        → joined line (put next s (pieces later)) ≡ Batch (line ∷ take (lead_by s (lead later)) (next ∷ later)) ∷ pieces (drop (lead_by s (lead later)) (next ∷ later))
    by None e inner = ap (λ (r : Option (Side × List ℕ)). Batch (line ∷ []) ∷ put next r (pieces later)) (sym e)
    by (Some it) e inner = ap (joined line) inner

pub batch_first : (lines : List Line) → 0 < lead lines → pieces lines ≡ Batch (take (lead lines) lines) ∷ pieces (drop (lead lines) lines)
batch_first [] some = absurd (omega (arith, some))
batch_first (line ∷ later) some = by (submission line.instruction) some
  where
    by : (s : Option (Side × List ℕ)) → 0 < lead_by s (lead later)
        → put line s (pieces later) ≡ Batch (take (lead_by s (lead later)) (line ∷ later)) ∷ pieces (drop (lead_by s (lead later)) (line ∷ later))
    by None some = absurd (omega (arith, some))
    by (Some it) some = join line later

pub single_first : (line : Line) (later : List Line) → lead (line ∷ later) ≡ 0 → pieces (line ∷ later) ≡ Single line ∷ pieces later
single_first line later none = by (submission line.instruction) none
  where
    by : (s : Option (Side × List ℕ)) → lead_by s (lead later) ≡ 0 → put line s (pieces later) ≡ Single line ∷ pieces later
    by None none = refl
    by (Some it) none = absurd (omega (arith, none))

any_piece : (lines : List Line) → 0 < length lines → pieces lines ≢ []
any_piece [] some none = omega (arith, some)
any_piece (line ∷ later) some none = by (submission line.instruction) none
  where
    by : (s : Option (Side × List ℕ)) → put line s (pieces later) ≡ [] → ⊥
    by None none = let empty : length (Single line ∷ pieces later) ≡ 0 = ap length none in omega (arith, empty)
    by (Some it) none =
        let empty : length (Batch (line ∷ take (lead later) later) ∷ pieces (drop (lead later) later)) ≡ 0 = ap length (sym (join line later) ∙ none) in
        omega (arith, empty)

-- where lines are left there is a piece
pub pieces_left : (lines : List Line) (count : ℕ) → count < length lines → pieces (drop count lines) ≢ []
pieces_left lines count some = any_piece (drop count lines) (omega (arith, some, length-drop count lines))

-- ---- the walk over the pieces

runs_more : (sessions : ℕ) (made : List Piece) (piece : Piece) (start now next : OfficesState) (text said : List ℕ) → Runs sessions made start text now → MakesAndSaves sessions piece now said next
    → Runs sessions (made ++ piece ∷ []) start (text ++ said) next
runs_more sessions [] piece start now next text said runs one =
    (next, said, [], subst (λ (s : OfficesState). MakesAndSaves sessions piece s said next) runs.1 one, (refl, refl), ap (λ (t : List ℕ). t ++ said) runs.0 ∙ sym (append-nil said))
runs_more sessions (first ∷ made) piece start now next text said runs one =
    (runs.0, runs.1, runs.2 ++ said, runs.3, runs_more sessions made piece runs.0 now next runs.2 said runs.4 one, ap (λ (t : List ℕ). t ++ said) runs.5 ∙ append_assoc runs.1 runs.2 said)

-- ---- what a writer holds

pub appends_none : (held : Option (List ℕ)) → Appends held held []
appends_none None = tt
appends_none (Some bytes) = sym (append-nil bytes)

pub appends_both : (before between after : Option (List ℕ)) (text more : List ℕ) → Appends before between text → Appends between after more → Appends before after (text ++ more)
appends_both None between after text more first next = tt
appends_both (Some bytes) None after text more first next = absurd first
appends_both (Some bytes) (Some middle) None text more first next = absurd next
appends_both (Some bytes) (Some middle) (Some all) text more first next = next ∙ ap (λ (l : List ℕ). l ++ more) first ∙ append_assoc bytes text more

pub appends_kept : (before between after : Option (List ℕ)) (text : List ℕ) → Appends before between text → Keeps between after → Appends before after text
appends_kept None between after text first kept = tt
appends_kept (Some bytes) None after text first kept = absurd first
appends_kept (Some bytes) (Some middle) None text first kept = absurd kept
appends_kept (Some bytes) (Some middle) (Some all) text first kept = kept ∙ first

keeps_same : (held : Option (List ℕ)) → Keeps held held
keeps_same None = tt
keeps_same (Some bytes) = refl

pub nothing_left : (held : Option (List ℕ)) (fault : ServeFault) → LeavesNothing held held fault
nothing_left held (faults.Turn why) = keeps_same held
nothing_left held (faults.Unsettled why) = keeps_same held
nothing_left held (faults.Unreconciled why) = keeps_same held
nothing_left held faults.Write = tt
nothing_left held faults.OutOfMemory = keeps_same held

pub next_made : (sessions : ℕ) (lines left : List Line) (at count : ℕ) (start now next : OfficesState) (before between after : Option (List ℕ)) → left ≡ drop at lines
    → WritesTo sessions lines at start before between now → WritesFirst sessions left count now between after next → WritesTo sessions lines (at + count) start before after next
next_made sessions lines left at count start now next before between after same to first = record {
  text = to.text ++ first.text;
  runs = record {
    made = to.runs.made ++ first.saves.piece ∷ [];
    all = to.runs.all ∙ ap (λ (ps : List Piece). to.runs.made ++ ps) on ∙ sym (append_assoc to.runs.made (first.saves.piece ∷ []) (pieces (drop (at + count) lines)));
    runs = runs_more sessions to.runs.made first.saves.piece start now next to.text first.text to.runs.runs first.saves.makes;
  };
  written = appends_both before between after to.text first.text to.written first.written;
}
  where
    on : pieces (drop at lines) ≡ first.saves.piece ∷ pieces (drop (at + count) lines)
    on = ap pieces (sym same) ∙ first.saves.first ∙ ap (λ (ls : List Line). first.saves.piece ∷ pieces ls) (ap (drop count) same ∙ drop-drop count at lines)

pub begun : (sessions : ℕ) (lines : List Line) (start : OfficesState) (held : Option (List ℕ)) → WritesTo sessions lines 0 start held held start
begun sessions lines start held = record { text = []; runs = record { made = []; all = refl; runs = (refl, refl) }; written = appends_none held }

pub none_made : (sessions : ℕ) (lines : List Line) (told : ℕ) (start : OfficesState) → told ≡ 0 → RunsSome sessions lines told start []
none_made sessions lines told start first =
    (start, subst (λ (n : ℕ). RunsTo sessions lines n start [] start) (sym first) (record { made = []; all = refl; runs = (refl, refl) }))

pub so_far : (sessions : ℕ) (lines : List Line) (at told : ℕ) (start reached : OfficesState) (before between after : Option (List ℕ)) (fault : ServeFault) → told ≡ at
    → WritesTo sessions lines at start before between reached → LeavesNothing between after fault → LeavesRun sessions lines told start before after fault
so_far sessions lines at told start reached before between after fault same to left = by fault left
  where
    runs : RunsTo sessions lines told start to.text reached
    runs = subst (λ (n : ℕ). RunsTo sessions lines n start to.text reached) (sym same) to.runs

    kept : Keeps between after → WritesTo sessions lines told start before after reached
    kept still = record { text = to.text; runs = runs; written = appends_kept before between after to.text to.written still }

    by : (why : ServeFault) → LeavesNothing between after why → LeavesRun sessions lines told start before after why
    by (faults.Turn why) still = (reached, kept still)
    by (faults.Unsettled why) still = (reached, kept still)
    by (faults.Unreconciled why) still = (reached, kept still)
    by faults.Write still = (to.text, (reached, runs))
    by faults.OutOfMemory still = (reached, kept still)

pub all_made : (sessions : ℕ) (lines : List Line) (at : ℕ) (start reached : OfficesState) (before after : Option (List ℕ)) → at ≡ length lines
    → WritesTo sessions lines at start before after reached → WritesTo sessions lines (length lines) start before after reached
all_made sessions lines at start reached before after same to = subst (λ (n : ℕ). WritesTo sessions lines n start before after reached) same to

pub to_the_end : (sessions : ℕ) (lines : List Line) (at : ℕ) (start reached : OfficesState) (text : List ℕ) → length lines ≤ at → RunsTo sessions lines at start text reached → Runs sessions (pieces lines) start text reached
to_the_end sessions lines at start reached text past to =
    subst (λ (ps : List Piece). Runs sessions ps start text reached) (sym (to.all ∙ ap (λ (ls : List Line). to.made ++ pieces ls) (drop_all at lines past) ∙ append-nil to.made)) to.runs

-- ---- the first piece

pub first_batch : (sessions : ℕ) (lines : List Line) (batch : ℕ) (old : OfficesState) (text : List ℕ) (new : OfficesState) → batch ≡ lead lines → 0 < batch → MakesBatch sessions (take batch lines) old text new
    → MakesFirst sessions lines (max batch 1) old text new
first_batch sessions lines batch old text new is some makes = record {
  piece = Batch (take batch lines);
  first = subst (λ (n : ℕ). pieces lines ≡ Batch (take n lines) ∷ pieces (drop n lines)) (sym is) (batch_first lines (subst (λ (n : ℕ). 0 < n) is some)) ∙ ap (λ (n : ℕ). Batch (take batch lines) ∷ pieces (drop n lines)) count;
  makes = makes;
}
  where
    count : batch ≡ max batch 1
    count = omega (arith, some)

first_one : (sessions : ℕ) (line : Line) (lines later : List Line) (batch : ℕ) (old : OfficesState) (text : List ℕ) (new : OfficesState) → lines ≡ line ∷ later → batch ≡ lead lines → batch ≡ 0
    → MakesLine (side_in line.instruction) line old text new → MakesFirst sessions lines (max batch 1) old text new
first_one sessions line lines later batch old text new is counted none makes = record { piece = Single line; first = on; makes = makes }
  where
    alone : lead (line ∷ later) ≡ 0
    alone = ap lead (sym is) ∙ sym counted ∙ none

    on : pieces lines ≡ Single line ∷ pieces (drop (max batch 1) lines)
    on = ap pieces is ∙ single_first line later alone ∙ ap (λ (ls : List Line). Single line ∷ pieces (drop 1 ls)) (sym is) ∙ ap (λ (n : ℕ). Single line ∷ pieces (drop (max n 1) lines)) (sym none)

pub first_single : (sessions : ℕ) (line : Line) (lines : List Line) (batch : ℕ) (old : OfficesState) (text : List ℕ) (new : OfficesState) → 0 < length lines → line ≡ get_or lines 0 line → batch ≡ lead lines → batch ≡ 0
    → MakesLine (side_in line.instruction) line old text new → MakesFirst sessions lines (max batch 1) old text new
first_single sessions line [] batch old text new some at counted none makes = absurd (omega (arith, some))
first_single sessions line (first ∷ later) batch old text new some at counted none makes =
    first_one sessions line (first ∷ later) later batch old text new (ap (λ (l : Line). l ∷ later) (sym at)) counted none makes

pub first_saved : (sessions : ℕ) (lines : List Line) (count : ℕ) (old between new : OfficesState) (said : List ℕ) → MakesFirst sessions lines count old said between → SavesAndSends between new
    → SavesFirst sessions lines count old said new
first_saved sessions lines count old between new said makes saves = record {
  piece = makes.piece;
  first = makes.first;
  makes = record { between = between; makes = makes.makes; saves = saves };
}
