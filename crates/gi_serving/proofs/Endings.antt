-- How it ended, from what was made and what closing both offices came to.
use Rattle.std.proofs.Common.{arith, ◌≡◌, ◌<◌, ℕ, ◌+◌, ◌-◌, List, [], ◌∷◌, ◌++◌, drop, length, map, Option, Result, Ok, Err, inl, inr, refl, ap, ◌∙◌, sym, subst}
use Rattle.std.specs.List.{range_with_len}
use Rattle.std.specs.Prelude.{IfErr, IfOk}
use Rattle.std.proofs.lemmas.List.{length-append}
use Rattle.std.proofs.lemmas.List.FromFn.{length-map-range_with_len}
use Rattle.gi_office.specs.Keeping.{SeatState}
use Rattle.gi_office.specs.Opening.{new_seat, new_seats}
use Rattle.gi_office.specs.Reconciling.{AgreeOnOneQuantity, Reconciles}
use Rattle.gi_office.specs.Settling.{AreLegal, SettledState}
use Rattle.gi_office.specs.declared.unreconciled.Unreconciled.{Unreconciled}
use Rattle.gi_office.specs.declared.unsettled.Unsettled.{Unsettled}
use Rattle.gi_pairs.specs.declared.side.Side.TheVariants.{I, M}
use Rattle.gi_script.specs.declared.line.Line.{Line}
use Rattle.gi_serving.specs.Closing.{AreLastLines, IsClosed, IsReconciled, end_of, reconciled_line}
use Rattle.gi_serving.specs.Ending.{AreSamePlaces, Closes, ClosesWell, Ends, IsCut, IsEarly, IsOfTurn, IsOver, LeavesRun, Writes, place_of}
use Rattle.gi_serving.specs.Faulting.{IsOfTurns, Takes}
use Rattle.gi_serving.specs.Making.{MakesSome, OfficesState, Runs, RunsSome, RunsTo, WritesSome, WritesTo, new_offices}
use Rattle.gi_serving.specs.Runs.{pieces}
use Rattle.gi_serving.specs.declared.serve_fault.ServeFault.{ServeFault}
use Rattle.gi_serving.specs.declared.serve_fault.ServeFault.TheVariants as faults
use Rattle.gi_serving.proofs.Walking.{appends_both, appends_kept, appends_none, none_made, pieces_left, to_the_end}

pub cut : (sessions count : ℕ) (lines : List Line) (text : List ℕ) (end : Result (Unit {0}) ServeFault) → RunsSome sessions lines count (new_offices sessions) text → IsCut end → (IsOfTurn end → count < length lines)
    → IsOver sessions lines text end
cut sessions count lines text end some h left = inl (record {
  reached = some.0;
  runs = record { made = some.1.made; left = pieces (drop count lines); all = some.1.all; runs = some.1.runs };
  cut = h;
  early = λ of_turn. pieces_left lines count (left of_turn);
})

-- what memory ran out for is no turn's fault
pub out_of_memory : (sessions count : ℕ) (lines : List Line) (text : List ℕ) → RunsSome sessions lines count (new_offices sessions) text → IsOver sessions lines text (Err faults.OutOfMemory)
out_of_memory sessions count lines text some = cut sessions count lines text (Err faults.OutOfMemory) some tt (λ of_turn. absurd of_turn)

pub reconciled_so : (front line text : List ℕ) (initiating matching : SettledState) (answer : Result (Unit {0}) Unreconciled) (end : Result (Unit {0}) ServeFault)
    → Reconciles initiating matching answer → IfOk answer (λ done. AgreeOnOneQuantity initiating matching)
    → AreLegal I initiating.lives initiating.desk → AreLegal M matching.lives matching.desk
    → line ≡ reconciled_line answer → text ≡ front ++ line → end ≡ end_of answer → IsReconciled front initiating matching text end
reconciled_so front line text initiating matching answer end reconciles quantity legal peer_legal told added ended = record {
  answer = answer;
  reconciles = reconciles;
  text_is = added ∙ ap (λ (t : List ℕ). front ++ t) told;
  end_is = ended;
  initiating_legal = legal;
  matching_legal = peer_legal;
  one_quantity = λ is. subst (λ (r : Result (Unit {0}) Unreconciled). IfOk r (λ done. AgreeOnOneQuantity initiating matching)) is quantity;
}

not_cut : (parts seats : ℕ) (handed : List SeatState) (peer_parts peer_seats : ℕ) (peer_handed : List SeatState) (last : List ℕ) (end : Result (Unit {0}) ServeFault)
    → IsClosed parts seats handed peer_parts peer_seats peer_handed last end → IsCut end → ⊥
not_cut parts seats handed peer_parts peer_seats peer_handed last end closed cut = by closed.initiating closed.matching closed.last
  where
    ended : (e : Result (Unit {0}) ServeFault) → end ≡ e → IsCut e
    ended e same = subst (λ (r : Result (Unit {0}) ServeFault). IsCut r) same cut

    answered : (answer : Result (Unit {0}) Unreconciled) → IsCut (end_of answer) → ⊥
    answered (Ok done) h = h
    answered (Err fault) h = h

    by : (initiating matching : Result SettledState Unsettled) → AreLastLines initiating matching last end → ⊥
    by (Err fault) matching h = ended (Err (faults.Unsettled fault)) h.1
    by (Ok initiating) (Err fault) h = ended (Err (faults.Unsettled fault)) h.1
    by (Ok initiating) (Ok matching) h = answered h.answer (ended (end_of h.answer) h.end_is)

-- what closing both offices comes to is no fault of a turn
pub closed_so : {B C : Type 0} (takes : Takes B) (peer_takes : Takes C) (first : B) (peer_first : C) (sessions parts peer_parts : ℕ) (reached : OfficesState) (before after : Option (List ℕ)) (end : Result (Unit {0}) ServeFault)
    → Closes parts peer_parts sessions reached before after end → IfErr end (IsOfTurns takes peer_takes first peer_first)
closed_so takes peer_takes first peer_first sessions parts peer_parts reached before after end closes = of closes
  where
    ended : (e : Result (Unit {0}) ServeFault) → end ≡ e → IfErr e (IsOfTurns takes peer_takes first peer_first) → IfErr end (IsOfTurns takes peer_takes first peer_first)
    ended e same is = subst (λ (r : Result (Unit {0}) ServeFault). IfErr r (IsOfTurns takes peer_takes first peer_first)) (sym same) is

    answered : (answer : Result (Unit {0}) Unreconciled) → IfErr (end_of answer) (IsOfTurns takes peer_takes first peer_first)
    answered (Ok done) = tt
    answered (Err fault) = tt

    by : (last : List ℕ) (initiating matching : Result SettledState Unsettled) → AreLastLines initiating matching last end → IfErr end (IsOfTurns takes peer_takes first peer_first)
    by last (Err fault) matching told = ended (Err (faults.Unsettled fault)) told.1 tt
    by last (Ok initiating) (Err fault) told = ended (Err (faults.Unsettled fault)) told.1 tt
    by last (Ok initiating) (Ok matching) told = ended (end_of told.answer) told.end_is (answered told.answer)

    of : Closes parts peer_parts sessions reached before after end → IfErr end (IsOfTurns takes peer_takes first peer_first)
    of (inl h) = ended (Err faults.OutOfMemory) h.1 tt
    of (inr (inl is)) = ended (Err faults.Write) is tt
    of (inr (inr h)) = by h.last h.closed.initiating h.closed.matching h.closed.last

pub new_length : (sessions : ℕ) → length (new_seats (sessions + 1)) ≡ sessions + 1
new_length sessions =
    let last : List SeatState = new_seat (17 - (sessions + 1)) (sessions + 1) ∷ [] in
    let others : List SeatState = map (new_seat 1) (range_with_len 1 ((sessions + 1) - 1)) in
    let count : length others ≡ (sessions + 1) - 1 = length-map-range_with_len (new_seat 1) 1 ((sessions + 1) - 1) in
    omega (arith, length-append others last, count)

-- ---- how it ended

-- no line was made
pub none_ends : (sessions told : ℕ) (lines : List Line) (held : Option (List ℕ)) → told ≡ 0 → Ends sessions lines told held held (Err faults.OutOfMemory)
none_ends sessions told lines held first = record {
  text = [];
  over = out_of_memory sessions told lines [] none;
  told = λ cut. none;
  written = appends_none held;
}
  where
    none : RunsSome sessions lines told (new_offices sessions) []
    none = none_made sessions lines told (new_offices sessions) first

-- before both offices were closed
pub ends_early : (sessions count : ℕ) (lines : List Line) (start : OfficesState) (before after : Option (List ℕ)) (fault : ServeFault) → start ≡ new_offices sessions
    → IsEarly (Err fault) → (IsOfTurn (Err fault) → count < length lines) → LeavesRun sessions lines count start before after fault
    → Ends sessions lines count before after (Err fault)
ends_early sessions count lines start before after fault first early left leaves = by fault early left leaves
  where
    written : (why : ServeFault) → IsCut (Err why) → (IsOfTurn (Err why) → count < length lines) → WritesSome sessions lines count start before after
        → Writes sessions lines count before after (Err why)
    written why is less some = record {
      text = some.1.text;
      over = cut sessions count lines some.1.text (Err why) runs is less;
      told = λ h. runs;
      written = some.1.written;
    }
      where
        runs : RunsSome sessions lines count (new_offices sessions) some.1.text
        runs = subst (λ (s : OfficesState). RunsSome sessions lines count s some.1.text) first (some.0, some.1.runs)

    by : (why : ServeFault) → IsEarly (Err why) → (IsOfTurn (Err why) → count < length lines) → LeavesRun sessions lines count start before after why
        → Ends sessions lines count before after (Err why)
    by (faults.Turn why) (inl is) less some = written (faults.Turn why) is less some
    by (faults.Turn why) (inr is) less some = absurd is
    by (faults.Unsettled why) (inl is) less some = absurd is
    by (faults.Unsettled why) (inr is) less some = absurd is
    by (faults.Unreconciled why) (inl is) less some = absurd is
    by (faults.Unreconciled why) (inr is) less some = absurd is
    by faults.Write is less some = subst (λ (s : OfficesState). MakesSome sessions lines count s) first some
    by faults.OutOfMemory (inl is) less some = written faults.OutOfMemory is less some
    by faults.OutOfMemory (inr is) less some = absurd is

ends_so : (sessions count : ℕ) (lines : List Line) (before after : Option (List ℕ)) (text : List ℕ) (end : Result (Unit {0}) ServeFault)
    → RunsSome sessions lines count (new_offices sessions) text → Writes sessions lines count before after end → Ends sessions lines count before after end
ends_so sessions count lines before after text (Ok done) some writes = writes
ends_so sessions count lines before after text (Err (faults.Turn why)) some writes = writes
ends_so sessions count lines before after text (Err (faults.Unsettled why)) some writes = writes
ends_so sessions count lines before after text (Err (faults.Unreconciled why)) some writes = writes
ends_so sessions count lines before after text (Err faults.Write) some writes = (text, some)
ends_so sessions count lines before after text (Err faults.OutOfMemory) some writes = writes

-- behind all lines
pub ends :
    (sessions parts peer_parts count : ℕ) (lines : List Line) (start reached : OfficesState) (before between after : Option (List ℕ)) (result : Result (Unit {0}) ServeFault)
    → start ≡ new_offices sessions → parts ≡ 16 → peer_parts ≡ 16
    → AreSamePlaces start.initiating.seats reached.initiating.seats → AreSamePlaces start.matching.seats reached.matching.seats
    → count ≡ length lines → WritesTo sessions lines (length lines) start before between reached
    → Closes parts peer_parts sessions reached between after result
    → Ends sessions lines count before after result
ends sessions parts peer_parts count lines start reached before between after result first whole peer_whole ours theirs all to closes = of closes
  where
    some : RunsSome sessions lines count (new_offices sessions) to.text
    some =
        subst (λ (s : OfficesState). RunsSome sessions lines count s to.text) first
        (reached, subst (λ (n : ℕ). RunsTo sessions lines n start to.text reached) (sym all) to.runs)

    whole_so : (last : List ℕ) → IsClosed parts (sessions + 1) reached.initiating.seats peer_parts (sessions + 1) reached.matching.seats last result
        → IsClosed 16 (sessions + 1) reached.initiating.seats 16 (sessions + 1) reached.matching.seats last result
    whole_so last closed =
        subst (λ (p : ℕ). IsClosed 16 (sessions + 1) reached.initiating.seats p (sessions + 1) reached.matching.seats last result) peer_whole
        (subst (λ (p : ℕ). IsClosed p (sessions + 1) reached.initiating.seats peer_parts (sessions + 1) reached.matching.seats last result) whole closed)

    written : ClosesWell parts peer_parts sessions reached between after result → Writes sessions lines count before after result
    written h = record {
      text = to.text ++ h.last;
      over = inr (record {
        front = to.text;
        last = h.last;
        text_is = refl;
        reached = reached;
        runs = subst (λ (s : OfficesState). Runs sessions (pieces lines) s to.text reached) first (to_the_end sessions lines (length lines) start reached to.text (omega arith) to.runs);
        all = ours ∙ ap (λ (s : OfficesState). map place_of s.initiating.seats) first;
        peer_all = theirs ∙ ap (λ (s : OfficesState). map place_of s.matching.seats) first;
        closed = whole_so h.last h.closed;
      });
      told = λ cut. absurd (not_cut parts (sessions + 1) reached.initiating.seats peer_parts (sessions + 1) reached.matching.seats h.last result h.closed cut);
      written = appends_both before between after to.text h.last to.written h.written;
    }

    of : Closes parts peer_parts sessions reached between after result → Ends sessions lines count before after result
    of (inl h) =
        subst (λ (end : Result (Unit {0}) ServeFault). Ends sessions lines count before after end) (sym h.1)
        (record { text = to.text; over = out_of_memory sessions count lines to.text some; told = λ cut. some; written = appends_kept before between after to.text to.written h.0 })
    of (inr (inl is)) = subst (λ (end : Result (Unit {0}) ServeFault). Ends sessions lines count before after end) (sym is) (to.text, some)
    of (inr (inr h)) = ends_so sessions count lines before after to.text result some (written h)
