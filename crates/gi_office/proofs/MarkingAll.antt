-- Marks of facts, one after the other.
use Rattle.std.proofs.Common.{◌≡◌, ◌≤◌, ℕ, ◌+◌, suc, List, [], ◌∷◌, ◌++◌, length, Ok, Err, append-nil, append_assoc, length-append, refl, sym, ap, ◌∙◌, subst, arith}
use Rattle.std.proofs.lemmas.List.{length_push}
use Rattle.gi_pairs.specs.declared.side.Side.{Side}
use Rattle.gi_facts.specs.declared.fact.Fact.{Fact}
use Rattle.gi_desk.specs.declared.call.Call.TheVariants.{MarkSaved}
use Rattle.gi_office.specs.Entering.{noted}
use Rattle.gi_office.specs.Keeping.{SeatState}
use Rattle.gi_office.specs.Saving.{AreMarked, Marks, MarksAll, StopsMarking}
use Rattle.gi_office.specs.declared.receipt.Receipt.{Receipt}
use Rattle.gi_office.specs.declared.save_fault.SaveFault.{SaveFault}
use Rattle.gi_office.specs.declared.turn.Turn.{Turn}
use Rattle.gi_office.specs.declared.turn.Turn.TheVariants.{Nothing, Saved}

-- what the last mark so far came to; nothing where there is none
abbrev pub IsLast : List Receipt → Turn → Type 0
IsLast receipts Nothing = receipts ≡ []
IsLast receipts (Saved receipt) = (before : List Receipt) × (receipts ≡ before ++ receipt ∷ [])

-- the first so many of the facts are marked, and the rest is left
pub record AreMarkedBefore (side : Side) (n : ℕ) (facts rest : List Fact) (old : SeatState) (turn : Turn) (seat : SeatState) (marked : ℕ) : Type 0 where
  pub done : List Fact
  pub receipts : List Receipt
  pub are : facts ≡ done ++ rest
  pub count : marked ≡ length done
  pub each : AreMarked side n done receipts old seat
  pub last : IsLast receipts turn

one_more :
    (side : Side) (n : ℕ) (facts : List Fact) (receipts : List Receipt) (fact : Fact) (receipt : Receipt) (old between new : SeatState)
    → AreMarked side n facts receipts old between → Marks side (n + length facts) fact between (Ok (Saved receipt)) new
    → AreMarked side n (facts ++ fact ∷ []) (receipts ++ receipt ∷ []) old new
one_more side n [] [] fact receipt old between new are mark =
    let e : n + 0 ≡ n = omega arith in
    let here = subst (λ (s : SeatState). Marks side n fact s (Ok (Saved receipt)) new) are (subst (λ (k : ℕ). Marks side k fact between (Ok (Saved receipt)) new) e mark) in
    (here.0, here.2, here.1)
one_more side n [] (r ∷ receipts) fact receipt old between new are mark = absurd are
one_more side n (f ∷ facts) [] fact receipt old between new are mark = absurd are
one_more side n (f ∷ facts) (r ∷ receipts) fact receipt old between new are mark =
    let e : n + suc (length facts) ≡ n + 1 + length facts = omega arith in (
      are.0,
      are.1,
      one_more side (n + 1) facts receipts fact receipt (noted old (MarkSaved n f) r) between new are.2
          (subst (λ (k : ℕ). Marks side k fact between (Ok (Saved receipt)) new) e mark),
    )

pub none_yet : (side : Side) (n : ℕ) (facts rest : List Fact) (old : SeatState) → rest ≡ facts → AreMarkedBefore side n facts rest old Nothing old 0
none_yet side n facts rest old same = record { done = []; receipts = []; are = sym same; count = refl; each = refl; last = refl }

pub goes_on :
    (side : Side) (n : ℕ) (facts rest later : List Fact) (fact : Fact) (old : SeatState) (turn : Turn) (seat : SeatState) (marked : ℕ) (next : Turn) (new : SeatState)
    → AreMarkedBefore side n facts rest old turn seat marked → rest ≡ fact ∷ later → Marks side (n + marked) fact seat (Ok next) new
    → AreMarkedBefore side n facts later old next new (marked + 1)
goes_on side n facts rest later fact old turn seat marked Nothing new so step mark = absurd mark
goes_on side n facts rest later fact old turn seat marked (Saved receipt) new so step mark = record {
  done = so.done ++ fact ∷ [];
  receipts = so.receipts ++ receipt ∷ [];
  are = so.are ∙ (ap (λ (fs : List Fact). so.done ++ fs) step ∙ sym (append_assoc so.done (fact ∷ []) later));
  count = omega (arith, so.count, length_push so.done fact);
  each = one_more side n so.done so.receipts fact receipt old seat new so.each (subst (λ (k : ℕ). Marks side (n + k) fact seat (Ok (Saved receipt)) new) so.count mark);
  last = (so.receipts, refl);
}

-- there is a fact for each mark, and for the next one
pub marks_fit :
    (side : Side) (n : ℕ) (facts rest later : List Fact) (fact : Fact) (old : SeatState) (turn : Turn) (seat : SeatState) (marked : ℕ)
    → AreMarkedBefore side n facts rest old turn seat marked → rest ≡ fact ∷ later → marked + 1 ≤ length facts
marks_fit side n facts rest later fact old turn seat marked so step =
    omega (arith, so.count, ap (length {A = Fact}) so.are, length-append so.done rest, ap (length {A = Fact}) step)

pub stops :
    (side : Side) (n : ℕ) (facts rest later : List Fact) (fact : Fact) (old : SeatState) (turn : Turn) (seat : SeatState) (marked : ℕ) (fault : SaveFault) (new : SeatState)
    → AreMarkedBefore side n facts rest old turn seat marked → rest ≡ fact ∷ later → Marks side (n + marked) fact seat (Err fault) new
    → StopsMarking side n facts old fault new
stops side n facts rest later fact old turn seat marked fault new so step mark = record {
  marked = so.done;
  fact = fact;
  left = later;
  are = so.are ∙ ap (λ (fs : List Fact). so.done ++ fs) step;
  receipts = so.receipts;
  between = seat;
  noted = so.each;
  refused = subst (λ (k : ℕ). Marks side (n + k) fact seat (Err fault) new) so.count mark;
}

none : (side : Side) (n : ℕ) (facts : List Fact) (old new : SeatState) → AreMarked side n facts [] old new → facts ≡ []
none side n [] old new are = refl
none side n (fact ∷ facts) old new are = absurd are

all_done : (facts done rest : List Fact) → facts ≡ done ++ rest → rest ≡ [] → done ≡ facts
all_done facts done rest are no_more = sym (are ∙ (ap (λ (fs : List Fact). done ++ fs) no_more ∙ append-nil done))

pub ends :
    (side : Side) (n : ℕ) (facts rest : List Fact) (old : SeatState) (turn : Turn) (seat : SeatState) (marked : ℕ)
    → AreMarkedBefore side n facts rest old turn seat marked → rest ≡ [] → 1 ≤ length facts
    → MarksAll side n facts old (Ok turn) seat
ends side n facts rest old Nothing seat marked so no_more some =
    let done : so.done ≡ [] = none side n so.done old seat (subst (λ (rs : List Receipt). AreMarked side n so.done rs old seat) so.last so.each) in
    let empty : facts ≡ [] = sym (all_done facts so.done rest so.are no_more) ∙ done in
    absurd (omega (arith, some, ap length empty))
ends side n facts rest old (Saved receipt) seat marked so no_more some =
    let all = all_done facts so.done rest so.are no_more in
    (so.last.0, subst (λ (rs : List Receipt). AreMarked side n facts rs old seat) so.last.1 (subst (λ (fs : List Fact). AreMarked side n fs so.receipts old seat) all so.each))

pub none_left : (rest : List Fact) → length rest ≡ 0 → rest ≡ []
none_left [] none = refl
none_left (fact ∷ rest) none = absurd (omega (arith, none))
