-- How a session ends, and how all of them do.
use Rattle.std.proofs.Common.{◌≡◌, ◌<◌, ◌≤◌, ◌↔◌, ℕ, ◌+◌, List, [], ◌∷◌, ◌++◌, length, map, slice_index_or, vec_capacity, Vec, Option, None, Some, Err, inl, inr, append-nil, append_assoc, ap, ◌∙◌, sym, subst, refl, arith}
use Rattle.std.proofs.lemmas.List.{get_or-drop, map-append}
use Rattle.gi_pairs.specs.declared.side.Side.{Side}
use Rattle.gi_office.specs.Keeping.{IsFull, SeatState}
use Rattle.gi_office.specs.Working.{AreRooms, served_of, session_of}
use Rattle.gi_office.specs.Serving.{AreLetGo, AreServed, AreSubmitted, IsServed, SessionState, Submits}
use Rattle.gi_office.specs.declared.office_fault.OfficeFault.{OfficeFault}
use Rattle.gi_office.specs.declared.office_fault.OfficeFault.TheVariants.{SeatFull}
use Rattle.gi_office.specs.declared.receipt.Receipt.{Receipt}
use Rattle.gi_office.specs.declared.work.Work.{Work}

submitted-so : (side : Side) (first last : SeatState) (bodies : List (List ℕ)) (receipts : List Receipt) → AreSubmitted side first bodies (receipts ++ []) last → AreSubmitted side first bodies receipts last
submitted-so side first last bodies receipts h = subst (λ (rs : List Receipt). AreSubmitted side first bodies rs last) (append-nil receipts) h

pub stopped :
    (side : Side) (may_go may_end : ℕ → Type 0) (first seat last : SeatState) (body : List ℕ) (bodies rest : List (List ℕ)) (receipts : List Receipt) (end : Option OfficeFault)
    → ((more : List Receipt) (e : SeatState) → AreSubmitted side seat (body ∷ rest) more e → AreSubmitted side first bodies (receipts ++ more) e)
    → length receipts + length (body ∷ rest) ≡ length bodies
    → AreLetGo may_go (length receipts)
    → Submits side (may_go (length receipts + 1)) (may_end (length receipts + 1)) seat body (Err end) last
    → IsServed side may_go may_end (record { seat = first; bodies = bodies }) (record { seat = last; receipts = receipts; fault = end })
stopped side may_go may_end first seat last body bodies rest receipts None submitted counted let_go ends = record {
  submitted = submitted-so side first last bodies receipts (submitted [] last ends.1);
  let_go = let_go;
  ends = inr (omega (arith, counted), ends.0);
}
stopped side may_go may_end first seat last body bodies rest receipts (Some fault) submitted counted let_go ends = record {
  submitted = submitted-so side first last bodies receipts (submitted [] last ends.1.0);
  let_go = let_go;
  ends = (omega (arith, counted), ends.0, subst (λ (s : SeatState). (fault ≡ SeatFull) ↔ IsFull s) (sym ends.1.0) ends.1.1);
}

pub finished :
    (side : Side) (may_go may_end : ℕ → Type 0) (first seat : SeatState) (bodies rest : List (List ℕ)) (receipts : List Receipt)
    → ((more : List Receipt) (e : SeatState) → AreSubmitted side seat rest more e → AreSubmitted side first bodies (receipts ++ more) e)
    → length receipts + length rest ≡ length bodies
    → length rest ≡ 0
    → AreLetGo may_go (length receipts)
    → IsServed side may_go may_end (record { seat = first; bodies = bodies }) (record { seat = seat; receipts = receipts; fault = None })
finished side may_go may_end first seat bodies rest receipts submitted counted none let_go = record {
  submitted = submitted-so side first seat bodies receipts (submitted [] seat refl);
  let_go = let_go;
  ends = inl (omega (arith, counted, none));
}

pub roomed :
    {Z : Type 0} (session : SessionState) (sessions rest : List SessionState) (room : Vec Receipt Z) (rooms others : List (Vec Receipt Z))
    → sessions ≡ session ∷ rest → rooms ≡ room ∷ others → AreRooms sessions rooms
    → (room.items ≡ []) × (length session.bodies ≤ vec_capacity room) × AreRooms rest others
roomed session sessions rest room rooms others first second all =
    subst (λ (ss : List SessionState). AreRooms ss (room ∷ others)) first (subst (λ (rs : List (Vec Receipt _)). AreRooms sessions rs) second all)

pub all-roomed :
    {Z : Type 0} (sessions left : List SessionState) (rooms : List (Vec Receipt Z)) → left ≡ []
    → ((more : List (Vec Receipt Z)) → AreRooms left more → AreRooms sessions (rooms ++ more)) → AreRooms sessions rooms
all-roomed {Z = Z} sessions left rooms none h =
    subst (λ (rs : List (Vec Receipt Z)). AreRooms sessions rs) (append-nil rooms) (h [] (subst (λ (ss : List SessionState). AreRooms {Z = Z} ss []) (sym none) tt))

pub one-begun :
    {L : Type 0} (works pushed : List (Work L)) (work : Work L) (session : SessionState) (left rest all : List SessionState)
    → pushed ≡ works ++ work ∷ [] → session_of work ≡ session → left ≡ session ∷ rest → map session_of works ++ left ≡ all
    → map session_of pushed ++ rest ≡ all
one-begun {L = L} works pushed work session left rest all push same next h =
    ap (λ (ws : List (Work L)). map session_of ws ++ rest) push
    ∙ ap (λ (ms : List SessionState). ms ++ rest) (map-append session_of works (work ∷ []))
    ∙ append_assoc (map session_of works) (session_of work ∷ []) rest
    ∙ ap (λ (s : SessionState). map session_of works ++ s ∷ rest) same
    ∙ ap (λ (l : List SessionState). map session_of works ++ l) (sym next)
    ∙ h

pub served-there :
    {L : Type 0} (side : Side) (may_go may_end : ℕ → ℕ → Type 0) (i : ℕ) (old new argument after : Work L) → argument ≡ old → after ≡ new
    → IsServed side (may_go (i + 1)) (may_end (i + 1)) (session_of argument) (served_of after) → IsServed side (may_go (1 + i)) (may_end (1 + i)) (session_of old) (served_of new)
served-there {L = L} side may_go may_end i old new argument after first second h =
    let e : i + 1 ≡ 1 + i = omega arith in
    subst (λ (n : ℕ). IsServed side (may_go n) (may_end n) (session_of old) (served_of new)) e
    (subst (λ (w : Work L). IsServed side (may_go (i + 1)) (may_end (i + 1)) (session_of old) (served_of w)) second
    (subst (λ (w : Work L). IsServed side (may_go (i + 1)) (may_end (i + 1)) (session_of w) (served_of after)) first h))

pub each-served :
    {L : Type 0} (side : Side) (may_go may_end : ℕ → ℕ → Type 0) (number : ℕ) (old new : List (Work L)) → length old ≡ length new
    → ((i : ℕ) (d : Work L) → i < length old → IsServed side (may_go (number + i)) (may_end (number + i)) (session_of (slice_index_or old i d)) (served_of (slice_index_or new i d)))
    → AreServed side may_go may_end number (map session_of old) (map served_of new)
each-served side may_go may_end number [] [] long each = tt
each-served side may_go may_end number [] (y ∷ ys) long each = absurd (omega (arith, long))
each-served side may_go may_end number (x ∷ xs) [] long each = absurd (omega (arith, long))
each-served {L = L} side may_go may_end number (x ∷ xs) (y ∷ ys) long each = (
  let e : number + 0 ≡ number = omega arith in
      subst (λ (n : ℕ). IsServed side (may_go n) (may_end n) (session_of x) (served_of y)) e (each 0 x (omega arith)),
  each-served side may_go may_end (number + 1) xs ys (omega (arith, long))
      (λ i d below. let e : number + (1 + i) ≡ number + 1 + i = omega arith in
      subst (λ (n : ℕ). IsServed side (may_go n) (may_end n) (session_of (slice_index_or xs i d)) (served_of (slice_index_or ys i d))) e
      (subst (λ (w : Work L). IsServed side (may_go (number + (1 + i))) (may_end (number + (1 + i))) (session_of (slice_index_or xs i d)) (served_of w)) (sym (get_or-drop 1 (y ∷ ys) i d))
      (subst (λ (w : Work L). IsServed side (may_go (number + (1 + i))) (may_end (number + (1 + i))) (session_of w) (served_of (slice_index_or (y ∷ ys) (1 + i) d))) (sym (get_or-drop 1 (x ∷ xs) i d))
      (each (1 + i) d (omega (arith, below)))))),
)
