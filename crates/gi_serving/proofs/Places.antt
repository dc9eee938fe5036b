-- No call takes a seat's number or its parts.
use Rattle.std.proofs.Common.{◌≡◌, ◌⊎◌, ◌<◌, ℕ, suc, ◌+◌, List, [], ◌∷◌, ◌++◌, length, map, take, Vec, Result, Ok, Err, inl, inr, refl, ap, ◌∙◌, sym, arith}
use Rattle.std.specs.Prelude.{IfOk}
use Rattle.std.proofs.lemmas.List.{length-map, map-append}
use Rattle.sqlite_trees.specs.declared.store.Store.{Ghosts}
use Rattle.gi_pairs.specs.declared.side.Side.{Side}
use Rattle.gi_facts.specs.declared.fact.Fact.{Fact}
use Rattle.gi_desk.specs.declared.call.Call.{Call}
use Rattle.gi_desk.specs.declared.call.Call.TheVariants.{MarkSaved, Submit}
use Rattle.gi_store.specs.Book.{BookState}
use Rattle.gi_store.specs.declared.store_fault.StoreFault.{StoreFault}
use Rattle.gi_office.specs.Entering.{IsAnswered, noted}
use Rattle.gi_office.specs.Keeping.{SeatState}
use Rattle.gi_office.specs.Saving.{AreMarked, Follows, Halts, Marks, MarksAll, StandMarked, StandNot, StopsMarking, TakesTurn}
use Rattle.gi_office.specs.Serving.{AreServed, AreSubmitted, ServedState, SessionState}
use Rattle.gi_office.specs.declared.look.Look.{Look}
use Rattle.gi_office.specs.declared.look.Look.TheVariants as looks
use Rattle.gi_office.specs.declared.office_fault.OfficeFault.{OfficeFault}
use Rattle.gi_office.specs.declared.receipt.Receipt.{Receipt}
use Rattle.gi_office.specs.declared.save_fault.SaveFault.{SaveFault}
use Rattle.gi_office.specs.declared.save_fault.SaveFault.TheVariants as savings
use Rattle.gi_office.specs.declared.turn.Turn.{Turn}
use Rattle.gi_office.specs.declared.turn.Turn.TheVariants as turns
use Rattle.gi_serving.specs.Ending.{AreSamePlaces, place_of}
use Rattle.gi_serving.specs.Submitting.{HasMain, begun_by, goes_on, lets_go, seat_in, seat_of}
use Rattle.gi_serving.specs.declared.word.Word.{Word}

-- ---- one seat

pub answered : (side : Side) (old : SeatState) (call : Call) (answer : Result Receipt OfficeFault) (new : SeatState) → IsAnswered side old call answer new → place_of new ≡ place_of old
answered side old call (Ok receipt) new h = ap place_of h.gives.1
answered side old call (Err fault) new h = ap place_of h.gives

marked : (side : Side) (n : ℕ) (fact : Fact) (old : SeatState) (result : Result Turn SaveFault) (new : SeatState) → Marks side n fact old result new → place_of new ≡ place_of old
marked side n fact old (Ok turns.Nothing) new h = absurd h
marked side n fact old (Ok (turns.Saved receipt)) new h = ap place_of h.1
marked side n fact old (Err savings.Halted) new h = absurd h
marked side n fact old (Err (savings.Store fault)) new h = absurd h
marked side n fact old (Err (savings.Office fault)) new h = ap place_of h.0
marked side n fact old (Err (savings.Marked refusal)) new h = ap place_of h.2

all_marked : (side : Side) (n : ℕ) (facts : List Fact) (receipts : List Receipt) (old new : SeatState) → AreMarked side n facts receipts old new → place_of new ≡ place_of old
all_marked side n [] [] old new h = ap place_of h
all_marked side n [] (receipt ∷ receipts) old new h = absurd h
all_marked side n (fact ∷ facts) [] old new h = absurd h
all_marked side n (fact ∷ facts) (receipt ∷ receipts) old new h = all_marked side (n + 1) facts receipts (noted old (MarkSaved n fact) receipt) new h.2

not_all : (side : Side) (n : ℕ) (facts : List Fact) (old : SeatState) (fault : SaveFault) (new : SeatState) → StopsMarking side n facts old fault new → place_of new ≡ place_of old
not_all side n facts old fault new h = marked side (n + length h.marked) h.fact h.between (Err fault) new h.refused ∙ all_marked side n h.marked h.receipts old h.between h.noted

marked_all : (side : Side) (n : ℕ) (facts : List Fact) (old : SeatState) (result : Result Turn SaveFault) (new : SeatState) → MarksAll side n facts old result new → place_of new ≡ place_of old
marked_all side n facts old (Ok turns.Nothing) new h = absurd h
marked_all side n facts old (Ok (turns.Saved last)) new h = all_marked side n facts (h.0 ++ last ∷ []) old new h.1
marked_all side n facts old (Err fault) new h = not_all side n facts old fault new h

stopped : (side : Side) (fault : StoreFault) (old : SeatState) (result : Result Turn SaveFault) (new : SeatState) → Halts side fault old result new → place_of new ≡ place_of old
stopped side fault old (Ok turn) new h = absurd h
stopped side fault old (Err savings.Halted) new h = absurd h
stopped side fault old (Err (savings.Store told)) new h = ap place_of h.3
stopped side fault old (Err (savings.Office refused)) new h = ap place_of h.0
stopped side fault old (Err (savings.Marked refusal)) new h = absurd h

followed : {S : Type 0} (side : Side) (store : Ghosts S) (before after : BookState S) (look : Look) (old : SeatState) (result : Result Turn SaveFault) (new : SeatState) → Follows side store before after look old result new → place_of new ≡ place_of old
followed side store before after looks.Halted old result new h = ap place_of h.2
followed side store before after looks.Nothing old result new h = ap place_of h.2
followed side store before after (looks.Next n facts) old result new (inl none) = ap place_of none.2
followed side store before after (looks.Next n facts) old result new (inr saves) = by saves.told
  where
    by : StandMarked side store before after n facts saves.front old result new ⊎ StandNot side store before after n facts saves.front old result new → place_of new ≡ place_of old
    by (inl stand) = marked_all side n (take stand.count facts) old result new stand.marks
    by (inr refused) = stopped side refused.fault old result new refused.halts

pub turned : {S : Type 0} (side : Side) (store : Ghosts S) (before after : BookState S) (old : SeatState) (result : Result Turn SaveFault) (new : SeatState) → TakesTurn side store before after old result new → place_of new ≡ place_of old
turned side store before after old result new (inl h) = ap place_of h.2
turned side store before after old result new (inr h) = followed side store before after h.0 old result new h.2

-- ---- the seats of an office

pub same_again : (old between new : List SeatState) → AreSamePlaces old between → AreSamePlaces between new → AreSamePlaces old new
same_again old between new first second = second ∙ first

pub same_length : (old new : List SeatState) → AreSamePlaces old new → length new ≡ length old
same_length old new same = sym (length-map new place_of) ∙ ap (length {A = ℕ × ℕ}) same ∙ length-map old place_of

pub still_some : (old new : List SeatState) → AreSamePlaces old new → 0 < length old → 0 < length new
still_some old new same some = omega (arith, some, same_length old new same)

-- ---- sessions

submitted : (side : Side) (old : SeatState) (bodies : List (List ℕ)) (receipts : List Receipt) (new : SeatState) → AreSubmitted side old bodies receipts new → place_of new ≡ place_of old
submitted side old bodies [] new h = ap place_of h
submitted side old [] (receipt ∷ receipts) new h = absurd h
submitted side old (body ∷ bodies) (receipt ∷ receipts) new h = submitted side (noted old (Submit body) receipt) bodies receipts new h.1

served : (side : Side) (may_go may_end : ℕ → ℕ → Type 0) (number : ℕ) (sessions : List SessionState) (all : List ServedState) → AreServed side may_go may_end number sessions all → AreSamePlaces (map seat_of sessions) (map seat_in all)
served side may_go may_end number [] [] h = refl
served side may_go may_end number [] (one ∷ others) h = absurd h
served side may_go may_end number (session ∷ sessions) [] h = absurd h
served side may_go may_end number (session ∷ sessions) (one ∷ others) h =
    ap (λ (place : ℕ × ℕ). place ∷ map place_of (map seat_in others)) (submitted side session.seat session.bodies one.receipts one.seat h.0.submitted)
    ∙ ap (λ (places : List (ℕ × ℕ)). place_of session.seat ∷ places) (served side may_go may_end (number + 1) sessions others h.1)

served_length : (side : Side) (may_go may_end : ℕ → ℕ → Type 0) (number : ℕ) (sessions : List SessionState) (all : List ServedState) → AreServed side may_go may_end number sessions all → length all ≡ length sessions
served_length side may_go may_end number [] [] h = refl
served_length side may_go may_end number [] (one ∷ others) h = absurd h
served_length side may_go may_end number (session ∷ sessions) [] h = absurd h
served_length side may_go may_end number (session ∷ sessions) (one ∷ others) h = ap (λ (n : ℕ). suc n) (served_length side may_go may_end (number + 1) sessions others h.1)

-- ---- sessions that begin

seats_begun : (seats : List SeatState) (given : List (List (List ℕ))) → length seats ≡ length given → map seat_of (begun_by seats given) ≡ seats
seats_begun [] given same = refl
seats_begun (seat ∷ seats) [] same = absurd (omega (arith, same))
seats_begun (seat ∷ seats) (bodies ∷ given) same = ap (λ (ss : List SeatState). seat ∷ ss) (seats_begun seats given (omega (arith, same)))

pub served_all : (side : Side) (old : List SeatState) (given : List (List (List ℕ))) (sessions : List SessionState) (all : List ServedState)
    → length old ≡ length given → sessions ≡ begun_by old given → AreServed side lets_go goes_on 1 sessions all → length all ≡ length given
served_all side old given sessions all many begun h =
    let seats : map seat_of (begun_by old given) ≡ old = seats_begun old given many in
    omega (arith, served_length side lets_go goes_on 1 sessions all h, ap length begun, length-map (begun_by old given) seat_of, ap length seats, many)

pub served_places : (side : Side) (old new : List SeatState) (given : List (List (List ℕ))) (sessions : List SessionState) (all : List ServedState)
    → length old ≡ length given → sessions ≡ begun_by old given → AreServed side lets_go goes_on 1 sessions all → new ≡ map seat_in all → AreSamePlaces old new
served_places side old new given sessions all many begun h back = ap (map place_of) back ∙ (served side lets_go goes_on 1 sessions all h ∙ ap (map place_of) seats)
  where
    seats : map seat_of sessions ≡ old
    seats = ap (map seat_of) begun ∙ seats_begun old given many

pub with_last : (old others back new : List SeatState) (main after : SeatState) → old ≡ others ++ main ∷ [] → new ≡ back ++ after ∷ [] → AreSamePlaces others back → place_of after ≡ place_of main → AreSamePlaces old new
with_last old others back new main after taken given same last =
    ap (map place_of) given
    ∙ map-append place_of back (after ∷ [])
    ∙ ap (λ (places : List (ℕ × ℕ)). places ++ place_of after ∷ []) same
    ∙ ap (λ (place : ℕ × ℕ). map place_of others ++ place ∷ []) last
    ∙ sym (map-append place_of others (main ∷ []))
    ∙ sym (ap (map place_of) taken)

pub with_main : {Y Z E : Type 0} (submitted : Result (Vec SeatState Y × Vec Word Z) E) (old others new : List SeatState) (words : List Word) (main after : SeatState)
    → old ≡ others ++ main ∷ [] → IfOk submitted (λ it. AreSamePlaces others it.0.items) → place_of after ≡ place_of main → HasMain submitted after new words → AreSamePlaces old new
with_main (Ok it) old others new words main after taken same last has = with_last old others it.0.items new main after taken has.0 same last
with_main (Err fault) old others new words main after taken same last has = absurd has
