-- A seat whose turns all went well noted marks alone.
use Rattle.std.proofs.Common.{◌≡◌, ◌⊎◌, Bool, ℕ, ◌+◌, List, [], ◌∷◌, ◌++◌, All, take, append-nil, append_assoc, length, Result, Ok, Err, OnOk, inl, inr, refl, ap, ◌∙◌, sym, subst, arith}
use Rattle.std.proofs.lemmas.List.{length-append}
use Rattle.std.proofs.lemmas.List.Elements.{All-append, All-cons, All-nil}
use Rattle.sqlite_trees.specs.declared.store.Store.{Ghosts}
use Rattle.gi_desk.specs.declared.call.Call.TheVariants.{MarkSaved}
use Rattle.gi_facts.specs.declared.fact.Fact.{Fact}
use Rattle.gi_office.specs.Entering.{noted}
use Rattle.gi_office.specs.Keeping.{SeatState}
use Rattle.gi_office.specs.Saving.{AreMarked, Follows, Halts, MarksAll, StandMarked, StandNot, TakesTurn}
use Rattle.gi_office.specs.declared.look.Look.{Look}
use Rattle.gi_office.specs.declared.look.Look.TheVariants as looks
use Rattle.gi_office.specs.declared.note.Note.{Note}
use Rattle.gi_office.specs.declared.receipt.Receipt.{Receipt}
use Rattle.gi_office.specs.declared.save_fault.SaveFault.{SaveFault}
use Rattle.gi_office.specs.declared.save_fault.SaveFault.TheVariants as savings
use Rattle.gi_office.specs.declared.turn.Turn.{Turn}
use Rattle.gi_office.specs.declared.turn.Turn.TheVariants as turns
use Rattle.gi_pairs.specs.declared.side.Side.{Side}
use Rattle.gi_pairs.specs.declared.side.Side.TheVariants.{I, M}
use Rattle.gi_store.specs.Book.{BookState}
use Rattle.gi_store.specs.declared.store_fault.StoreFault.{StoreFault}
use Rattle.gi_serving.specs.Asking.{EndsTurns, IsMark, IsTurned, NotesMarks, OtherIs, saved_of}

noted_so : (old new : SeatState) (marks : List Note) → All IsMark marks → new ≡ record old { notes = old.notes ++ marks; amount = old.amount + length marks } → NotesMarks old new
noted_so old new marks are is = record { marks = marks; are_marks = are; new_is = is }

pub none_marked : (seat : SeatState) → NotesMarks seat seat
none_marked seat = noted_so seat seat [] (All-nil IsMark) (sym is)
  where
    amounts : seat.amount + 0 ≡ seat.amount
    amounts = omega arith

    is : record seat { notes = seat.notes ++ []; amount = seat.amount + 0 } ≡ seat
    is = ap (λ (ns : List Note). record seat { notes = ns; amount = seat.amount + 0 }) (append-nil seat.notes) ∙ ap (λ (n : ℕ). record seat { amount = n }) amounts

kept : (old new : SeatState) → new ≡ old → NotesMarks old new
kept old new same = subst (λ (seat : SeatState). NotesMarks old seat) (sym same) (none_marked old)

pub marks_more : (old between new : SeatState) → NotesMarks old between → NotesMarks between new → NotesMarks old new
marks_more old between new first second = noted_so old new (first.marks ++ second.marks) (All-append IsMark first.marks second.marks first.are_marks second.are_marks) is
  where
    amounts : (old.amount + length first.marks) + length second.marks ≡ old.amount + length (first.marks ++ second.marks)
    amounts = omega (arith, length-append first.marks second.marks)

    is : new ≡ record old { notes = old.notes ++ (first.marks ++ second.marks); amount = old.amount + length (first.marks ++ second.marks) }
    is =
        second.new_is
        ∙ ap (λ (seat : SeatState). record seat { notes = seat.notes ++ second.marks; amount = seat.amount + length second.marks }) first.new_is
        ∙ ap (λ (ns : List Note). record old { notes = ns; amount = (old.amount + length first.marks) + length second.marks }) (append_assoc old.notes first.marks second.marks)
        ∙ ap (λ (n : ℕ). record old { notes = old.notes ++ (first.marks ++ second.marks); amount = n }) amounts

whatever : {A E : Type 0} (P : Type 0) (r : Result A E) → P → OnOk r P
whatever P (Ok x) h = h
whatever P (Err e) h = tt

pub all_marked : (side : Side) (n : ℕ) (facts : List Fact) (receipts : List Receipt) (old new : SeatState) → AreMarked side n facts receipts old new → NotesMarks old new
all_marked side n [] [] old new h = kept old new h
all_marked side n [] (receipt ∷ receipts) old new h = absurd h
all_marked side n (fact ∷ facts) [] old new h = absurd h
all_marked side n (fact ∷ facts) (receipt ∷ receipts) old new h =
    let note : Note = record { place = receipt.place; call = MarkSaved n fact; reply = receipt.reply } in
    let between : SeatState = noted old (MarkSaved n fact) receipt in
    marks_more old between new (noted_so old between (note ∷ []) (All-cons IsMark note [] (n, fact, refl, h.1) (All-nil IsMark)) refl)
    (all_marked side (n + 1) facts receipts between new h.2)

marked : (side : Side) (n : ℕ) (facts : List Fact) (old : SeatState) (result : Result Turn SaveFault) (new : SeatState) → MarksAll side n facts old result new → OnOk (saved_of result) (NotesMarks old new)
marked side n facts old (Ok turns.Nothing) new h = absurd h
marked side n facts old (Ok (turns.Saved last)) new h = all_marked side n facts (h.0 ++ last ∷ []) old new h.1
marked side n facts old (Err savings.Halted) new h = absurd h.refused
marked side n facts old (Err (savings.Store fault)) new h = tt
marked side n facts old (Err (savings.Office fault)) new h = tt
marked side n facts old (Err (savings.Marked refusal)) new h = tt

stopped : (side : Side) (fault : StoreFault) (old : SeatState) (result : Result Turn SaveFault) (new : SeatState) → Halts side fault old result new → OnOk (saved_of result) (NotesMarks old new)
stopped side fault old (Ok turn) new h = absurd h
stopped side fault old (Err savings.Halted) new h = absurd h
stopped side fault old (Err (savings.Store told)) new h = tt
stopped side fault old (Err (savings.Office refused)) new h = tt
stopped side fault old (Err (savings.Marked refusal)) new h = absurd h

followed : {S : Type 0} (side : Side) (store : Ghosts S) (before after : BookState S) (look : Look) (old : SeatState) (result : Result Turn SaveFault) (new : SeatState) → Follows side store before after look old result new
    → OnOk (saved_of result) (NotesMarks old new)
followed side store before after looks.Halted old result new h = whatever (NotesMarks old new) (saved_of result) (kept old new h.2)
followed side store before after looks.Nothing old result new h = whatever (NotesMarks old new) (saved_of result) (kept old new h.2)
followed side store before after (looks.Next n facts) old result new (inl none) = whatever (NotesMarks old new) (saved_of result) (kept old new none.2)
followed side store before after (looks.Next n facts) old result new (inr saves) = by saves.told
  where
    by : StandMarked side store before after n facts saves.front old result new ⊎ StandNot side store before after n facts saves.front old result new → OnOk (saved_of result) (NotesMarks old new)
    by (inl stand) = marked side n (take stand.count facts) old result new stand.marks
    by (inr refused) = stopped side refused.fault old result new refused.halts

pub turn_marks : {S : Type 0} (side : Side) (store : Ghosts S) (before after : BookState S) (old : SeatState) (result : Result Turn SaveFault) (new : SeatState) → TakesTurn side store before after old result new
    → OnOk (saved_of result) (NotesMarks old new)
turn_marks side store before after old result new (inl h) = whatever (NotesMarks old new) (saved_of result) (kept old new h.2)
turn_marks side store before after old result new (inr h) = followed side store before after h.0 old result new h.2

-- ---- the other side

pub kept_so : {A E : Type 0} (r : Result A E) (seat : SeatState) → OnOk r (NotesMarks seat seat)
kept_so r seat = whatever (NotesMarks seat seat) r (none_marked seat)

pub other_at_I : {X Y : Type 0} (side : Side) (old new : X) (peer : Y) → side ≡ I → OtherIs side old new peer peer
other_at_I {X} {Y} side old new peer is = subst (λ (s : Side). OtherIs s old new peer peer) (sym is) refl

pub other_at_M : {X Y : Type 0} (side : Side) (one : X) (peer_old peer_new : Y) → side ≡ M → OtherIs side one one peer_old peer_new
other_at_M {X} {Y} side one peer_old peer_new is = subst (λ (s : Side). OtherIs s one one peer_old peer_new) (sym is) refl

-- ---- the turn that ends

pub ended_at :
    {B C : Type 0} (side : Side) (told : Result Bool SaveFault) (fault : SaveFault)
    (takes : B → B → SeatState → Result Turn SaveFault → SeatState → Type 0) (peer_takes : C → C → SeatState → Result Turn SaveFault → SeatState → Type 0)
    (book book_new : B) (peer_book peer_new : C) (main main_new peer_main peer_main_new : SeatState)
    → told ≡ Err fault
    → (side ≡ I → IsTurned (takes book book_new) main told main_new)
    → (side ≡ M → IsTurned (peer_takes peer_book peer_new) peer_main told peer_main_new)
    → EndsTurns takes book_new (Err fault) main_new ⊎ EndsTurns peer_takes peer_new (Err fault) peer_main_new
ended_at {B} {C} I told fault takes peer_takes book book_new peer_book peer_new main main_new peer_main peer_main_new is ours theirs =
    inl (record { before = book; between = main; last = subst (λ (r : Result Bool SaveFault). IsTurned (takes book book_new) main r main_new) is (ours refl) })
ended_at {B} {C} M told fault takes peer_takes book book_new peer_book peer_new main main_new peer_main peer_main_new is ours theirs =
    inr (record { before = peer_book; between = peer_main; last = subst (λ (r : Result Bool SaveFault). IsTurned (peer_takes peer_book peer_new) peer_main r peer_main_new) is (theirs refl) })
