-- What a seat notes of turns, whatever they come to.
use Rattle.std.proofs.Common.{◌≡◌, ◌⊎◌, Bool, true, false, ℕ, ◌+◌, List, [], ◌∷◌, ◌++◌, take, append-nil, append_assoc, length, Result, Ok, Err, inl, inr, refl, ap, ◌∙◌, sym, arith}
use Rattle.std.proofs.lemmas.List.Elements.{All-append, All-cons, All-nil}
use Rattle.sqlite_trees.specs.declared.store.Store.{Ghosts}
use Rattle.gi_desk.specs.Machine.{DeskState, answer_of, out_of, outcome, reply}
use Rattle.gi_desk.specs.declared.call.Call.{Call}
use Rattle.gi_desk.specs.declared.call.Call.TheVariants as calls
use Rattle.gi_desk.specs.declared.outcome.Outcome.{Outcome}
use Rattle.gi_desk.specs.declared.outcome.Outcome.TheVariants as outcomes
use Rattle.gi_desk.specs.declared.refusal.Refusal.{Refusal}
use Rattle.gi_desk.specs.declared.reply.Answer.TheVariants as answers
use Rattle.gi_facts.specs.declared.fact.Fact.{Fact}
use Rattle.gi_office.specs.Entering.{IsReceipt, noted}
use Rattle.gi_office.specs.Keeping.{SeatState}
use Rattle.gi_office.specs.Saving.{Follows, Halts, Marks, MarksAll, StandMarked, StandNot, TakesTurn}
use Rattle.gi_office.specs.declared.look.Look.{Look}
use Rattle.gi_office.specs.declared.look.Look.TheVariants as looks
use Rattle.gi_office.specs.declared.note.Note.{Note}
use Rattle.gi_office.specs.declared.receipt.Receipt.{Receipt}
use Rattle.gi_office.specs.declared.save_fault.SaveFault.{SaveFault}
use Rattle.gi_office.specs.declared.save_fault.SaveFault.TheVariants as savings
use Rattle.gi_office.specs.declared.turn.Turn.{Turn}
use Rattle.gi_office.specs.declared.turn.Turn.TheVariants as turns
use Rattle.gi_pairs.specs.declared.side.Side.{Side}
use Rattle.gi_store.specs.Book.{BookState}
use Rattle.gi_store.specs.declared.store_fault.StoreFault.{StoreFault}
use Rattle.gi_serving.specs.Asking.{IsMark, IsSilent, NotesMarks, NotesTurns}
use Rattle.gi_serving.proofs.Turning.{all_marked}

-- ---- what lets out nothing

refused_out : (side : Side) (s : DeskState) (o : Outcome) (refusal : Refusal) → answer_of s o ≡ answers.Refused refusal → out_of side s o ≡ []
refused_out side s (outcomes.Records fact) refusal is = refl
refused_out side s (outcomes.RepeatsNomination n) refusal is = absurd (cc)
refused_out side s (outcomes.RepeatsMeeting n) refusal is = absurd (cc)
refused_out side s (outcomes.RepeatsPart n) refusal is = refl
refused_out side s (outcomes.Keeps id part) refusal is = refl
refused_out side s (outcomes.Saves n) refusal is = absurd (cc)
refused_out side s (outcomes.Resends id) refusal is = absurd (cc)
refused_out side s outcomes.Stops refusal is = refl
refused_out side s (outcomes.Refuses why) refusal is = refl

refused_reply : (side : Side) (s : DeskState) (call : Call) (refusal : Refusal) → (reply side s call).answer ≡ answers.Refused refusal → (reply side s call).out ≡ []
unfolding reply
refused_reply side s call refusal is = refused_out side s (outcome side s call) refusal is

halt_reply : (side : Side) (s : DeskState) → (reply side s calls.Halt).out ≡ []
unfolding reply outcome
halt_reply side s = by s.halted refl
  where
    by : (b : Bool) → s.halted ≡ b → (reply side s calls.Halt).out ≡ []
    by true is = rw is refl
    by false is = rw is refl

refused_receipt : (side : Side) (seat : SeatState) (call : Call) (receipt : Receipt) (refusal : Refusal) → IsReceipt side seat call receipt
    → receipt.reply.answer ≡ answers.Refused refusal → receipt.reply.out ≡ []
refused_receipt side seat call receipt refusal (held, kept, is) refused =
    ap (λ (r : Receipt). r.reply.out) is ∙ refused_reply side held.desk call refusal (sym (ap (λ (r : Receipt). r.reply.answer) is) ∙ refused)

halt_receipt : (side : Side) (seat : SeatState) (receipt : Receipt) → IsReceipt side seat calls.Halt receipt → receipt.reply.out ≡ []
halt_receipt side seat receipt (held, kept, is) = ap (λ (r : Receipt). r.reply.out) is ∙ halt_reply side held.desk

-- ---- a turn

pub none_noted : (old new : SeatState) → new ≡ old → NotesTurns old new
none_noted old new same = record {
  marks = [];
  are_marks = All-nil IsMark;
  last = [];
  silent = All-nil IsSilent;
  few = omega arith;
  notes_are = ap (λ (seat : SeatState). seat.notes) same ∙ sym (append-nil old.notes);
}

of_marks : (old new : SeatState) → NotesMarks old new → NotesTurns old new
of_marks old new noted = record {
  marks = noted.marks;
  are_marks = noted.are_marks;
  last = [];
  silent = All-nil IsSilent;
  few = omega arith;
  notes_are = ap (λ (seat : SeatState). seat.notes) noted.new_is ∙ ap (λ l. old.notes ++ l) (sym (append-nil noted.marks));
}

-- one call, which let out nothing
one_noted : (old new : SeatState) (call : Call) (receipt : Receipt) → receipt.reply.out ≡ [] → new ≡ noted old call receipt → NotesTurns old new
one_noted old new call receipt silent is =
    let note : Note = record { place = receipt.place; call = call; reply = receipt.reply } in record {
      marks = [];
      are_marks = All-nil IsMark;
      last = note ∷ [];
      silent = All-cons IsSilent note [] silent (All-nil IsSilent);
      few = omega arith;
      notes_are = ap (λ (seat : SeatState). seat.notes) is;
    }

-- behind marks
pub noted_more : (old between new : SeatState) → NotesMarks old between → NotesTurns between new → NotesTurns old new
noted_more old between new first second = record {
  marks = first.marks ++ second.marks;
  are_marks = All-append IsMark first.marks second.marks first.are_marks second.are_marks;
  last = second.last;
  silent = second.silent;
  few = second.few;
  notes_are =
      second.notes_are ∙ ap (λ (seat : SeatState). seat.notes ++ (second.marks ++ second.last)) first.new_is
      ∙ append_assoc old.notes first.marks (second.marks ++ second.last) ∙ ap (λ l. old.notes ++ l) (sym (append_assoc first.marks second.marks second.last));
}

mark_refused : (side : Side) (n : ℕ) (fact : Fact) (old : SeatState) (fault : SaveFault) (new : SeatState) → Marks side n fact old (Err fault) new → NotesTurns old new
mark_refused side n fact old savings.Halted new h = absurd h
mark_refused side n fact old (savings.Store fault) new h = absurd h
mark_refused side n fact old (savings.Office fault) new h = none_noted old new h.0
mark_refused side n fact old (savings.Marked refusal) new h =
    one_noted old new (calls.MarkSaved n fact) h.0 (refused_receipt side old (calls.MarkSaved n fact) h.0 refusal h.1 h.3) h.2

marked : (side : Side) (n : ℕ) (facts : List Fact) (old : SeatState) (result : Result Turn SaveFault) (new : SeatState) → MarksAll side n facts old result new → NotesTurns old new
marked side n facts old (Ok turns.Nothing) new h = absurd h
marked side n facts old (Ok (turns.Saved last)) new h = of_marks old new (all_marked side n facts (h.0 ++ last ∷ []) old new h.1)
marked side n facts old (Err fault) new h =
    noted_more old h.between new (all_marked side n h.marked h.receipts old h.between h.noted) (mark_refused side (n + length h.marked) h.fact h.between fault new h.refused)

stopped : (side : Side) (fault : StoreFault) (old : SeatState) (result : Result Turn SaveFault) (new : SeatState) → Halts side fault old result new → NotesTurns old new
stopped side fault old (Ok turn) new h = absurd h
stopped side fault old (Err savings.Halted) new h = absurd h
stopped side fault old (Err (savings.Store told)) new h = one_noted old new calls.Halt h.1 (halt_receipt side old h.1 h.2) h.3
stopped side fault old (Err (savings.Office refused)) new h = none_noted old new h.0
stopped side fault old (Err (savings.Marked refusal)) new h = absurd h

followed : {S : Type 0} (side : Side) (store : Ghosts S) (before after : BookState S) (look : Look) (old : SeatState) (result : Result Turn SaveFault) (new : SeatState) → Follows side store before after look old result new
    → NotesTurns old new
followed side store before after looks.Halted old result new h = none_noted old new h.2
followed side store before after looks.Nothing old result new h = none_noted old new h.2
followed side store before after (looks.Next n facts) old result new (inl none) = none_noted old new none.2
followed side store before after (looks.Next n facts) old result new (inr saves) = by saves.told
  where
    by : StandMarked side store before after n facts saves.front old result new ⊎ StandNot side store before after n facts saves.front old result new → NotesTurns old new
    by (inl stand) = marked side n (take stand.count facts) old result new stand.marks
    by (inr refused) = stopped side refused.fault old result new refused.halts

pub turn_notes : {S : Type 0} (side : Side) (store : Ghosts S) (before after : BookState S) (old : SeatState) (result : Result Turn SaveFault) (new : SeatState) → TakesTurn side store before after old result new
    → NotesTurns old new
turn_notes side store before after old result new (inl h) = none_noted old new h.2
turn_notes side store before after old result new (inr h) = followed side store before after h.0 old result new h.2
