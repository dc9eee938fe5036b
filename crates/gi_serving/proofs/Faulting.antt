-- Turns that go well, one more and one after the other, and the fault that ends them.
use Rattle.std.proofs.Common.{◌≡◌, inl, inr, List, [], ◌∷◌, ◌++◌, Bool, true, false, Result, Ok, Err, refl, sym, subst}
use Rattle.std.specs.Prelude.{IfErr, IsErrAnd, IsOk, OnOk}
use Rattle.gi_office.specs.Keeping.{SeatState}
use Rattle.gi_office.specs.declared.save_fault.SaveFault.{SaveFault}
use Rattle.gi_serving.specs.Asking.{IsTurned, OtherIs}
use Rattle.gi_serving.specs.Faulting.{BothGoWell, EndBy, GoThrough, GoWell, OneEndsBy, Takes, TellsTurns, TurnsEnd, IsOfTurns}
use Rattle.gi_serving.specs.declared.serve_fault.ServeFault.{ServeFault}
use Rattle.gi_serving.specs.declared.serve_fault.ServeFault.TheVariants as faults
use Rattle.gi_pairs.specs.declared.side.Side.{Side}
use Rattle.gi_pairs.specs.declared.side.Side.TheVariants.{I, M}

-- ---- one office

pub none_made : {B : Type 0} (takes : Takes B) (book : B) → GoWell takes book book
none_made takes book = ([], refl)

through : {B : Type 0} (takes : Takes B) (first : B) (books : List B) (between : B) (later : List B) (last : B)
    → GoThrough takes first books between → GoThrough takes between later last → GoThrough takes first (books ++ later) last
through {B} takes first [] between later last same rest = subst (λ (b : B). GoThrough takes b later last) same rest
through takes first (next ∷ books) between later last front rest = (front.0, through takes next books between later last front.1 rest)

pub well_then : {B : Type 0} (takes : Takes B) (first between last : B) → GoWell takes first between → GoWell takes between last → GoWell takes first last
well_then takes first between last front rest = (front.0 ++ rest.0, through takes first front.0 between rest.0 last front.1 rest.1)

pub one_more : {B : Type 0} (takes : Takes B) (first between last : B) (saved : Bool) (old new : SeatState)
    → GoWell takes first between → IsTurned (takes between last) old (Ok saved) new → GoWell takes first last
one_more takes first between last saved old new front turn =
    well_then takes first between last front (last ∷ [], ((saved, record { old = old; new = new; turn = turn }), refl))

pub ended_by : {B : Type 0} (takes : Takes B) (first before last : B) (fault : SaveFault) (old new : SeatState)
    → GoWell takes first before → IsTurned (takes before last) old (Err fault) new → EndBy takes first last fault
ended_by takes first before last fault old new front turn = record { before = before; well = front; turn = record { old = old; new = new; turn = turn } }

pub end_then : {B : Type 0} (takes : Takes B) (first between last : B) (fault : SaveFault) → GoWell takes first between → EndBy takes between last fault → EndBy takes first last fault
end_then takes first between last fault front ends = record { before = ends.before; well = well_then takes first between ends.before front ends.well; turn = ends.turn }

-- ---- both

pub both_kept : {B C : Type 0} (takes : Takes B) (peer_takes : Takes C) (first last : B) (peer_first peer_last : C) → last ≡ first → peer_last ≡ peer_first
    → BothGoWell takes peer_takes first peer_first last peer_last
both_kept takes peer_takes first last peer_first peer_last same peer_same = (([], same), ([], peer_same))

pub both_then : {B C : Type 0} (takes : Takes B) (peer_takes : Takes C) (first between last : B) (peer_first peer_between peer_last : C)
    → BothGoWell takes peer_takes first peer_first between peer_between → BothGoWell takes peer_takes between peer_between last peer_last
    → BothGoWell takes peer_takes first peer_first last peer_last
both_then takes peer_takes first between last peer_first peer_between peer_last front rest =
    (well_then takes first between last front.0 rest.0, well_then peer_takes peer_first peer_between peer_last front.1 rest.1)

pub one_then : {B C : Type 0} (takes : Takes B) (peer_takes : Takes C) (first between last : B) (peer_first peer_between peer_last : C) (fault : SaveFault)
    → BothGoWell takes peer_takes first peer_first between peer_between → OneEndsBy takes peer_takes between peer_between last peer_last fault
    → OneEndsBy takes peer_takes first peer_first last peer_last fault
one_then takes peer_takes first between last peer_first peer_between peer_last fault front (inl ours) =
    inl (end_then takes first between last fault front.0 ours.0, well_then peer_takes peer_first peer_between peer_last front.1 ours.1)
one_then takes peer_takes first between last peer_first peer_between peer_last fault front (inr theirs) =
    inr (well_then takes first between last front.0 theirs.0, end_then peer_takes peer_first peer_between peer_last fault front.1 theirs.1)

pub tells_then : {B C : Type 0} (takes : Takes B) (peer_takes : Takes C) (first between last : B) (peer_first peer_between peer_last : C) (fault : ServeFault)
    → BothGoWell takes peer_takes first peer_first between peer_between → TellsTurns takes peer_takes between peer_between last peer_last fault
    → TellsTurns takes peer_takes first peer_first last peer_last fault
tells_then takes peer_takes first between last peer_first peer_between peer_last (faults.Turn fault) front told =
    one_then takes peer_takes first between last peer_first peer_between peer_last fault front told
tells_then takes peer_takes first between last peer_first peer_between peer_last faults.OutOfMemory front told =
    both_then takes peer_takes first between last peer_first peer_between peer_last front told
tells_then takes peer_takes first between last peer_first peer_between peer_last faults.Write front told =
    both_then takes peer_takes first between last peer_first peer_between peer_last front told
tells_then takes peer_takes first between last peer_first peer_between peer_last (faults.Unsettled why) front told = absurd told
tells_then takes peer_takes first between last peer_first peer_between peer_last (faults.Unreconciled why) front told = absurd told

-- memory ran out, and no turn ended by a fault
pub tells_short : {B C A : Type 0} (takes : Takes B) (peer_takes : Takes C) (first last : B) (peer_first peer_last : C) (r : Result A ServeFault)
    → IfErr r (λ fault. fault ≡ faults.OutOfMemory) → BothGoWell takes peer_takes first peer_first last peer_last
    → IfErr r (TellsTurns takes peer_takes first peer_first last peer_last)
tells_short takes peer_takes first last peer_first peer_last (Ok done) is well = tt
tells_short takes peer_takes first last peer_first peer_last (Err fault) is well = subst (TellsTurns takes peer_takes first peer_first last peer_last) (sym is) well

-- the writer failed, and no turn ended by a fault
pub tells_unwritten : {B C A : Type 0} (takes : Takes B) (peer_takes : Takes C) (first last : B) (peer_first peer_last : C) (r : Result A ServeFault)
    → IfErr r (λ fault. fault ≡ faults.Write) → BothGoWell takes peer_takes first peer_first last peer_last
    → IfErr r (TellsTurns takes peer_takes first peer_first last peer_last)
tells_unwritten takes peer_takes first last peer_first peer_last (Ok done) is well = tt
tells_unwritten takes peer_takes first last peer_first peer_last (Err fault) is well = subst (TellsTurns takes peer_takes first peer_first last peer_last) (sym is) well

pub of_turns : {B C : Type 0} (takes : Takes B) (peer_takes : Takes C) (first last : B) (peer_first peer_last : C) (fault : ServeFault)
    → TellsTurns takes peer_takes first peer_first last peer_last fault → IsOfTurns takes peer_takes first peer_first fault
of_turns takes peer_takes first last peer_first peer_last (faults.Turn fault) told = (last, peer_last, told)
of_turns takes peer_takes first last peer_first peer_last faults.OutOfMemory told = tt
of_turns takes peer_takes first last peer_first peer_last faults.Write told = tt
of_turns takes peer_takes first last peer_first peer_last (faults.Unsettled why) told = tt
of_turns takes peer_takes first last peer_first peer_last (faults.Unreconciled why) told = tt

pub tells_refused : {B C A : Type 0} (takes : Takes B) (peer_takes : Takes C) (first last : B) (peer_first peer_last : C) (r : Result A ServeFault)
    → IsErrAnd r (λ fault. fault ≡ faults.OutOfMemory) → BothGoWell takes peer_takes first peer_first last peer_last
    → IfErr r (TellsTurns takes peer_takes first peer_first last peer_last)
tells_refused takes peer_takes first last peer_first peer_last (Ok done) is well = absurd is
tells_refused takes peer_takes first last peer_first peer_last (Err fault) is well = subst (TellsTurns takes peer_takes first peer_first last peer_last) (sym is) well

pub on_ok : {A E : Type 0} (P : Type 0) (r : Result A E) → P → OnOk r P
on_ok P (Ok x) h = h
on_ok P (Err e) h = tt

-- the turns beside a batch, and what is told of them
pub tells_so : {B C A : Type 0} (takes : Takes B) (peer_takes : Takes C) (first last : B) (peer_first peer_last : C) (saved : Result (Unit {0}) SaveFault) (r : Result A ServeFault)
    → TurnsEnd takes peer_takes first peer_first last peer_last saved
    → IfErr saved (λ fault. r ≡ Err (faults.Turn fault)) → (IsOk saved → IfErr r (λ fault. fault ≡ faults.OutOfMemory))
    → IfErr r (TellsTurns takes peer_takes first peer_first last peer_last)
tells_so takes peer_takes first last peer_first peer_last (Ok done) r ends turn short = tells_short takes peer_takes first last peer_first peer_last r (short refl) ends
tells_so {B} {C} {A} takes peer_takes first last peer_first peer_last (Err fault) r ends turn short =
    subst (λ (e : Result A ServeFault). IfErr e (TellsTurns takes peer_takes first peer_first last peer_last)) (sym turn) ends

pub well_so : {B C A : Type 0} (takes : Takes B) (peer_takes : Takes C) (first last : B) (peer_first peer_last : C) (saved : Result (Unit {0}) SaveFault) (r : Result A ServeFault)
    → TurnsEnd takes peer_takes first peer_first last peer_last saved → OnOk r (IsOk saved) → OnOk r (BothGoWell takes peer_takes first peer_first last peer_last)
well_so takes peer_takes first last peer_first peer_last (Ok done) (Ok x) ends is = ends
well_so takes peer_takes first last peer_first peer_last (Err fault) (Ok x) ends is = let same : false ≡ true = is in absurd cc
well_so takes peer_takes first last peer_first peer_last saved (Err fault) ends is = tt

-- ---- a turn at one side

-- the book of the other side is as it was
pub turn_more : {B C : Type 0} (side : Side) (takes : Takes B) (peer_takes : Takes C) (first between last : B) (peer_first peer_between peer_last : C) (saved : Bool)
    (main main_new peer_main peer_main_new : SeatState)
    → BothGoWell takes peer_takes first peer_first between peer_between → OtherIs side between last peer_between peer_last
    → (side ≡ I → IsTurned (takes between last) main (Ok saved) main_new) → (side ≡ M → IsTurned (peer_takes peer_between peer_last) peer_main (Ok saved) peer_main_new)
    → BothGoWell takes peer_takes first peer_first last peer_last
turn_more I takes peer_takes first between last peer_first peer_between peer_last saved main main_new peer_main peer_main_new front other ours theirs =
    (one_more takes first between last saved main main_new front.0 (ours refl), well_then peer_takes peer_first peer_between peer_last front.1 ([], other))
turn_more M takes peer_takes first between last peer_first peer_between peer_last saved main main_new peer_main peer_main_new front other ours theirs =
    (well_then takes first between last front.0 ([], other), one_more peer_takes peer_first peer_between peer_last saved peer_main peer_main_new front.1 (theirs refl))

pub turn_ends : {B C : Type 0} (side : Side) (takes : Takes B) (peer_takes : Takes C) (first between last : B) (peer_first peer_between peer_last : C) (fault : SaveFault)
    (main main_new peer_main peer_main_new : SeatState)
    → BothGoWell takes peer_takes first peer_first between peer_between → OtherIs side between last peer_between peer_last
    → (side ≡ I → IsTurned (takes between last) main (Err fault) main_new) → (side ≡ M → IsTurned (peer_takes peer_between peer_last) peer_main (Err fault) peer_main_new)
    → OneEndsBy takes peer_takes first peer_first last peer_last fault
turn_ends I takes peer_takes first between last peer_first peer_between peer_last fault main main_new peer_main peer_main_new front other ours theirs =
    inl (ended_by takes first between last fault main main_new front.0 (ours refl), well_then peer_takes peer_first peer_between peer_last front.1 ([], other))
turn_ends M takes peer_takes first between last peer_first peer_between peer_last fault main main_new peer_main peer_main_new front other ours theirs =
    inr (well_then takes first between last front.0 ([], other), ended_by peer_takes peer_first peer_between peer_last fault peer_main peer_main_new front.1 (theirs refl))
