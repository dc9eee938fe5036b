-- One step more.
use Rattle.std.proofs.Common.{◌≡◌, ℕ, Bool, true, false, List, [], ◌∷◌, ◌++◌, refl, sym, ap, subst, ◌∙◌, append_assoc, append-nil, ◌⊎◌, inl, inr, Option, Some, None}
use Rattle.std.specs.List.{list_any}
use Rattle.std.specs.Io.KnownBytes.{Appends, Keeps}
use Rattle.gi_office.specs.Keeping.{SeatState}
use Rattle.gi_pairs.specs.declared.side.Side.{Side}
use Rattle.gi_live.specs.Lines.{IsAtEnd, TakesLines, is_query}
use Rattle.gi_live.specs.Running.{LeavesStep, LiveState, Runs, RunsSome, RunsTo, Steps, WritesStep, has_halted, joined, live}
use Rattle.gi_live.specs.Stretches.{IsAsked, RunsUntil}
use Rattle.gi_live.specs.declared.running.End.{End}
use Rattle.gi_live.specs.declared.running.End.TheVariants as ends
use Rattle.gi_live.specs.declared.live_fault.LiveFault.{LiveFault}
use Rattle.gi_live.specs.declared.live_fault.LiveFault.TheVariants as faults
use Rattle.gi_live.proofs.LineLemmas.{takes_both, takes_none}

joined_more : (pieces : List (List (List ℕ))) (piece : List (List ℕ)) → joined (pieces ++ piece ∷ []) ≡ joined pieces ++ piece
joined_more [] piece = append-nil piece
joined_more (first ∷ pieces) piece = ap (λ l. first ++ l) (joined_more pieces piece) ∙ sym (append_assoc first (joined pieces) piece)

runs_more : (side : Side) (old : LiveState) (pieces : List (List (List ℕ))) (text : List ℕ) (between : LiveState) (piece : List (List ℕ)) (more : List ℕ) (new : LiveState)
    → Runs side old pieces text between → Steps side between piece more new → Runs side old (pieces ++ piece ∷ []) (text ++ more) new
runs_more side old [] text between piece more new runs step =
    (more, [], new, ap (λ l. l ++ more) runs.0 ∙ sym (append-nil more), subst (λ state. Steps side state piece more new) runs.1 step, (refl, refl))
runs_more side old (first ∷ pieces) text between piece more new runs step = (
  runs.0,
  runs.1 ++ more,
  runs.2,
  ap (λ l. l ++ more) runs.3 ∙ append_assoc runs.0 runs.1 more,
  runs.4,
  runs_more side runs.2 pieces runs.1 between piece more new runs.5 step,
)

pub appends_none : (old : Option (List ℕ)) → Appends old old []
appends_none None = tt
appends_none (Some xs) = sym (append-nil xs)

pub appends_both : (old between new : Option (List ℕ)) (xs ys : List ℕ) → Appends old between xs → Appends between new ys → Appends old new (xs ++ ys)
appends_both None between new xs ys first next = tt
appends_both (Some bytes) None new xs ys first next = absurd first
appends_both (Some bytes) (Some middle) None xs ys first next = absurd next
appends_both (Some bytes) (Some middle) (Some all) xs ys first next = next ∙ ap (λ l. l ++ ys) first ∙ append_assoc bytes xs ys

pub keeps_same : (output : Option (List ℕ)) → Keeps output output
keeps_same None = tt
keeps_same (Some bytes) = refl

pub more_run : (side : Side) (old : LiveState) (input left : Option (List (List ℕ))) (before after : Option (List ℕ)) (reached : LiveState)
    (piece : List (List ℕ)) (rest : Option (List (List ℕ))) (next : Option (List ℕ)) (new : LiveState)
    → RunsTo side old input left before after reached → TakesLines left piece rest → WritesStep side reached piece after next new
    → RunsTo side old input rest before next new
more_run side old input left before after reached piece rest next new runs takes step = record {
  pieces = runs.pieces ++ piece ∷ [];
  text = runs.text ++ step.0;
  runs = runs_more side old runs.pieces runs.text reached piece step.0 new runs.runs step.1;
  taken = subst (λ all. TakesLines input all rest) (sym (joined_more runs.pieces piece)) (takes_both input left rest (joined runs.pieces) piece runs.taken takes);
  written = appends_both before after next runs.text step.0 runs.written step.2;
}

-- why they ended
pub until_input : (side : Side) (old : LiveState) (input left rest : Option (List (List ℕ))) (before after : Option (List ℕ)) (seat : SeatState) (saved taken : ℕ)
    → RunsTo side old input left before after (live seat saved taken) → IsAtEnd left → TakesLines left [] rest → RunsUntil side old input rest before after seat taken ends.Input
until_input side old input left rest before after seat saved taken runs end further = record { saved = saved; left = left; runs = runs; behind = (end, further); may_be_left = tt }

pub until_full : (side : Side) (old : LiveState) (input left : Option (List (List ℕ))) (before after : Option (List ℕ)) (seat : SeatState) (saved taken : ℕ)
    → RunsTo side old input left before after (live seat saved taken) → has_halted seat.notes ≡ false → RunsUntil side old input left before after seat taken ends.Full
until_full side old input left before after seat saved taken runs goes_on = record { saved = saved; left = left; runs = runs; behind = refl; may_be_left = goes_on }

pub until_asked : (side : Side) (old : LiveState) (input left rest : Option (List (List ℕ))) (before after : Option (List ℕ)) (seat : SeatState) (saved taken : ℕ)
    (lines : List (List ℕ)) (end : End)
    → RunsTo side old input left before after (live seat saved taken) → TakesLines left lines rest → list_any is_query lines ≡ true → IsAsked lines end
    → has_halted seat.notes ≡ false → RunsUntil side old input rest before after seat taken end
until_asked side old input left rest before after seat saved taken lines ends.Input runs takes query asked goes_on = absurd asked
until_asked side old input left rest before after seat saved taken lines ends.Full runs takes query asked goes_on = absurd asked
until_asked side old input left rest before after seat saved taken lines (ends.Asked line) runs takes query asked goes_on = record {
  saved = saved;
  left = left;
  runs = runs;
  behind = (subst (λ ls. TakesLines left ls rest) asked takes, one_query line (subst (λ ls. list_any is_query ls ≡ true) asked query));
  may_be_left = goes_on;
}
  where
    one_query : (given : List ℕ) → list_any is_query (given ∷ []) ≡ true → is_query given ≡ true
    one_query given any = by (is_query given) refl
      where
        by : (b : Bool) → is_query given ≡ b → is_query given ≡ true
        by true is = is
        by false is = absurd (let no : false ≡ true = sym (rw is refl) ∙ any in cc)

pub some_run : (side : Side) (old : LiveState) (input left : Option (List (List ℕ))) (before between after : Option (List ℕ)) (reached : LiveState) (next : List (List ℕ))
    (rest : Option (List (List ℕ))) (fault : LiveFault)
    → RunsTo side old input left before between reached → TakesLines left next rest → LeavesStep side reached next between after fault → RunsSome side old input before after fault
some_run side old input left before between after reached next rest fault runs takes leaves =
    record { left = left; between = between; reached = reached; runs = runs; next = next; rest = rest; takes = takes; leaves = leaves }

-- no line was taken: the reader failed, memory ran out, or there are too many
pub none_taken : (side : Side) (old : LiveState) (input left : Option (List (List ℕ))) (before between : Option (List ℕ)) (reached : LiveState) (fault : LiveFault)
    → RunsTo side old input left before between reached → (fault ≡ faults.Read) ⊎ (fault ≡ faults.OutOfMemory) → RunsSome side old input before between fault
none_taken side old input left before between reached fault runs (inl is) =
    some_run side old input left before between between reached [] left fault runs (takes_none left)
    (subst (λ why. LeavesStep side reached [] between between why) (sym is) (keeps_same between))
none_taken side old input left before between reached fault runs (inr is) =
    some_run side old input left before between between reached [] left fault runs (takes_none left)
    (subst (λ why. LeavesStep side reached [] between between why) (sym is) (keeps_same between))
