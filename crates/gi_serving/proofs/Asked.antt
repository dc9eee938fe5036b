-- The word of a call is that of the reply which its seat noted; and what was let out behind the notes that were sent.
use Rattle.std.proofs.Common.{◌≡◌, ◌≤◌, ◌<◌, ℕ, ◌+◌, ◌-◌, min, length, take, drop, get_or, ap, sym, ◌∙◌, inl, inr, refl, subst, ◌++◌, ◌∷◌, [], List, true, false, is_some, Option, None, Some, Result, Ok, Err, rules}
use Rattle.std.proofs.lemmas.List.{drop_min, flat_map_more, take_all, take_more, take_rest}
use Rattle.std.specs.List.{flat_map}
use Rattle.std.specs.Prelude.{IfErr, IfOk, IsOk, OnOk}
use Rattle.gi_desk.specs.declared.call.Call.{Call}
use Rattle.gi_desk.specs.declared.packet.Packet.{Packet}
use Rattle.gi_office.specs.Keeping.{SeatState}
use Rattle.gi_office.specs.declared.note.Note.{Note}
use Rattle.gi_office.specs.declared.office_fault.OfficeFault.{OfficeFault}
use Rattle.gi_office.specs.declared.office_fault.OfficeFault.TheVariants as faults
use Rattle.gi_office.specs.declared.receipt.Receipt.{Receipt}
use Rattle.gi_pairs.specs.declared.side.Side.{Side}
use Rattle.gi_serving.specs.Asking.{Answers, Asks, AsksLast, out_behind, out_in}
use Rattle.gi_serving.specs.Words.{word_in}
use Rattle.gi_serving.specs.declared.word.Word.{Word}

pub asked : (side : Side) (old : SeatState) (call : Call) (answer : Option (Result Receipt OfficeFault)) (word : Option Word) (new : SeatState)
    → Answers side old call answer new → word ≡ word_in answer → is_some word ≡ is_some answer → Asks side old call word new
asked side old call None word new h is some = inl (h.0, h.1, is)
asked side old call (Some (Ok receipt)) word new h is some = inr (h.0, inl (receipt, h.1.gives.0, h.1.gives.1, is))
asked side old call (Some (Err faults.SeatFull)) word new h is some = inr (h.0, inr (h.1.full.0 refl, h.1.gives, is))
asked side old call (Some (Err faults.OutOfMemory)) word new h is some =
    let none : false ≡ true = subst (λ (w : Option Word). is_some w ≡ true) is some in search rules

pub asked_last : (side : Side) (old new others : List SeatState) (main after : SeatState) (call : Call) (answer : Option (Result Receipt OfficeFault)) (word : Option Word)
    → old ≡ others ++ main ∷ [] → new ≡ others ++ after ∷ [] → Answers side main call answer after → word ≡ word_in answer → is_some word ≡ is_some answer
    → AsksLast side old call word new
asked_last side old new others main after call answer word taken given h is some =
    record { others = others; main = main; after = after; old_is = taken; new_is = given; asks = asked side main call answer word after h is some }

pub both_known : {T E : Type 0} (r : Result T E) (P Q R : T → Type 0) → ((x : T) → P x → Q x → R x) → IfOk r P → IfOk r Q → IfOk r R
both_known (Ok x) P Q R of p q = of x p q
both_known (Err e) P Q R of p q = tt

pub of_value : {T E : Type 0} (r : Result T E) (x : T) (P : T → Type 0) → r ≡ Ok x → IfOk r P → P x
of_value {T} {E} r x P same p = subst (λ (s : Result T E). IfOk s P) same p

pub known_too : {T E : Type 0} (r : Result T E) (P R : T → Type 0) (Q : Type 0) → ((x : T) → P x → Q → R x) → IfOk r P → OnOk r Q → IfOk r R
known_too (Ok x) P R Q of p q = of x p q
known_too (Err e) P R Q of p q = tt

-- what is no fault has none
pub no_fault : {T E : Type 0} (r : Result T E) (P : E → Type 0) → IsOk r → IfErr r P
no_fault (Ok x) P h = tt
no_fault (Err e) P h = let same : false ≡ true = h in absurd cc

-- ---- what was let out

pub note_more : (notes : List Note) (i : ℕ) (note : Note) (old new : List Packet) → i < length notes → note ≡ get_or notes i note
    → old ≡ flat_map out_in (take i notes) → new ≡ old ++ note.reply.out → new ≡ flat_map out_in (take (i + 1) notes)
note_more notes i note old new below at is added =
    added
    ∙ ap (λ (ps : List Packet). ps ++ out_in note) is
    ∙ flat_map_more out_in [] (take i notes) note
    ∙ ap (λ (n : Note). flat_map out_in (take i notes ++ n ∷ [])) at
    ∙ ap (flat_map out_in) (sym (take_more notes i note below))

pub all_out : (notes : List Note) (sent first i : ℕ) (packets : List Packet) → first ≡ min sent (length notes)
    → length (take (length notes - first) (drop first notes)) ≤ i
    → packets ≡ flat_map out_in (take i (take (length notes - first) (drop first notes))) → packets ≡ out_behind sent notes
all_out notes sent first i packets is past h = h ∙ ap (flat_map out_in) (take_all i (take (length notes - first) (drop first notes)) past ∙ take_rest notes first ∙ ap (λ (n : ℕ). drop n notes) is ∙ drop_min sent notes)
