-- Where each delivery was sent, both last desks met what the other one froze; so what they confirm and told is the lower.
use Rattle.std.proofs.Common.{arith, ◌≡◌, ◌≤◌, ◌⊎◌, ⊎_elim, ℕ, List, [], ◌∷◌, ◌++◌, length, take, filter, All, Contains, None, Some, false, true, refl, sym, ◌∙◌, subst}
use Rattle.std.proofs.lemmas.Grind.{flat_map-append}
use Rattle.std.proofs.lemmas.List.Elements.{All-contains, All-contains_itself, All-nil, All-weaker}
use Rattle.gi_pairs.specs.declared.side.Side.{Side}
use Rattle.gi_pairs.specs.declared.side.Side.TheVariants.{I, M}
use Rattle.gi_pairs.proofs.Building.{In, contains_from_in, in_from_contains}
use Rattle.gi_pairs.proofs.Members.{from_append, in_append_left, in_append_right}
use Rattle.gi_parts.specs.Parts.{AreKept}
use Rattle.gi_parts.specs.declared.part.Part.{Part}
use Rattle.gi_parts.proofs.Keeping.{kept-none}
use Rattle.gi_facts.specs.declared.fact.Fact.{Fact}
use Rattle.gi_desk.specs.History.{peer_of}
use Rattle.gi_desk.specs.Machine.{DeskState, after, bad_fact, outcome, reply}
use Rattle.gi_desk.specs.declared.outcome.Outcome.TheVariants.{Keeps}
use Rattle.gi_pairs.specs.declared.cycle_id.CycleId.{CycleId}
use Rattle.gi_desk.specs.Writable.{FitsDesk}
use Rattle.gi_desk.specs.declared.call.Call.{Call}
use Rattle.gi_desk.specs.declared.call.Call.TheVariants as calls
use Rattle.gi_desk.specs.declared.packet.Packet.{Packet}
use Rattle.gi_desk.specs.declared.reply.Reply.{Reply}
use Rattle.gi_world.specs.Agreement.{FitsWorld, IsLegal as IsLegalDesk, IsOfSent, IsTold, MeetsFrozen}
use Rattle.gi_world.specs.Histories.{held}
use Rattle.gi_world.specs.Telling.{TellsTheLower}
use Rattle.gi_world.specs.World.{WorldState, is_delivery, other, station_of, tells}
use Rattle.gi_world.proofs.ConfirmedLaws.{HaveMetFrozen}
use Rattle.gi_world.proofs.DeliveredPackets.{sent-order, sent-response}
use Rattle.gi_world.proofs.Fronts.{front-met, front-take}
use Rattle.gi_world.proofs.HistoryConfirms.{confirmed_at, lower_at}
use Rattle.gi_world.proofs.KeptParts.{few-after, keeps_none, kept-after, order_kept, response_kept}
use Rattle.gi_world.proofs.Meetings.{MayMeet, call_moved, meets_none, moved_met, order_may, recorded_by, response_may}
use Rattle.gi_world.proofs.OneQuantity.{told-lower}
use Rattle.gi_world.proofs.SentPackets.{all_kept, now}
use Rattle.gi_office.specs.Lives.{IsLegal, IsRun, IsWhole, Life, opened, opened_keeping}
use Rattle.gi_office.specs.Reconciling.{AgreeOnOneQuantity, DeliveredIsSent, IsFrom, OpensWithFrozen, WasSent, both_of, entries_of, said_in}
use Rattle.gi_office.specs.Settling.{AreLegal, AreWhole, GoOnTo, GoOnWhole, GoesOn, SettledState}
use Rattle.gi_office.specs.declared.entry.Entry.{Entry}
use Rattle.gi_office.proofs.Later.{keeping_within, life_later, lives_later, on_later, opened_within, run_later, still_let_out}

-- ---- what a delivery meets

-- both last desks are legal and can be written
pub record AreKnown (w : WorldState) : Type 0 where
  pub legal : (side : Side) → IsLegalDesk side (station_of side w).desk
  pub fits : FitsWorld w

-- A desk that met what the peer froze, and keeps parts of what the peer sent.
record MeetsPeer (side : Side) (w : WorldState) (s : DeskState) : Type 0 where
  met : MeetsFrozen side s (station_of (other side) w).desk
  few : AreKept s.kept
  kept : All (IsOfSent side (station_of (other side) w).desk) s.kept

-- what a delivery records and keeps
sent_may : (side : Side) (w : WorldState) (s : DeskState) (bytes : List ℕ) → AreKnown w → MeetsPeer side w s → WasSent (other side) (station_of (other side) w).desk bytes
    → MayMeet side w (recorded_by side s (calls.Deliver bytes))
sent_may I w s bytes known meets (packet, sent, is) =
    subst (λ (b : List ℕ). MayMeet I w (recorded_by I s (calls.Deliver b))) is
    (response_may w s packet (known.fits M) meets.few meets.kept (sent-response w packet (known.legal M) (known.fits M) sent))
sent_may M w s bytes known meets (packet, sent, is) =
    subst (λ (b : List ℕ). MayMeet M w (recorded_by M s (calls.Deliver b))) is
    (order_may w s packet (known.fits I) meets.few meets.kept (sent-order w packet (known.legal I) (known.fits I) sent))

abbrev MayKeep : Side → WorldState → DeskState → Call → Type 0
MayKeep side w s call = (id : CycleId) (part : Part) → outcome side s call ≡ Keeps id part → IsOfSent side (station_of (other side) w).desk (record { id = id; part = part })

sent_keeps : (side : Side) (w : WorldState) (s : DeskState) (bytes : List ℕ) → AreKnown w → MeetsPeer side w s → WasSent (other side) (station_of (other side) w).desk bytes
    → MayKeep side w s (calls.Deliver bytes)
sent_keeps I w s bytes known meets (packet, sent, is) =
    subst (λ (b : List ℕ). MayKeep I w s (calls.Deliver b)) is
    (response_kept w s packet (known.fits M) meets.few meets.kept (sent-response w packet (known.legal M) (known.fits M) sent))
sent_keeps M w s bytes known meets (packet, sent, is) =
    subst (λ (b : List ℕ). MayKeep M w s (calls.Deliver b)) is
    (order_kept w s packet (known.fits I) meets.few meets.kept (sent-order w packet (known.legal I) (known.fits I) sent))

-- what any call does
record Does (side : Side) (w : WorldState) (s : DeskState) (call : Call) : Type 0 where
  meets : MayMeet side w (recorded_by side s call)
  keeps : MayKeep side w s call

-- a call that is no delivery meets nothing, and keeps nothing
does_none : (side : Side) (w : WorldState) (s : DeskState) (call : Call) → is_delivery call ≡ false → Does side w s call
does_none side w s call local = record {
  meets = λ id table is. absurd (meets_none side s call id table local is);
  keeps = λ id part is. absurd (keeps_none side s call id part local is);
}

does : (side : Side) (w : WorldState) (s : DeskState) (call : Call) → AreKnown w → MeetsPeer side w s → IsFrom (other side) (station_of (other side) w).desk call → Does side w s call
does side w s (calls.Contract contract) known meets from = does_none side w s (calls.Contract contract) refl
does side w s (calls.Notice notice) known meets from = does_none side w s (calls.Notice notice) refl
does side w s (calls.Submit body) known meets from = does_none side w s (calls.Submit body) refl
does side w s (calls.Close cycle rule) known meets from = does_none side w s (calls.Close cycle rule) refl
does side w s (calls.Deliver body) known meets from = record { meets = sent_may side w s body known meets from; keeps = sent_keeps side w s body known meets from }
does side w s (calls.Resend cycle) known meets from = does_none side w s (calls.Resend cycle) refl
does side w s (calls.MarkSaved n fact) known meets from = does_none side w s (calls.MarkSaved n fact) refl
does side w s calls.Halt known meets from = does_none side w s calls.Halt refl

abbrev IsEntryFromPeer : Side → WorldState → Entry → Type 0
IsEntryFromPeer side w entry = IsFrom (other side) (station_of (other side) w).desk entry.call

call_meets : (side : Side) (w : WorldState) (s : DeskState) (call : Call) → AreKnown w → s.saved ≤ length s.facts → IsFrom (other side) (station_of (other side) w).desk call → MeetsPeer side w s
    → MeetsPeer side w (after side s call)
call_meets side w s call known within from meets =
    let theirs = (station_of (other side) w).desk in
    let it = does side w s call known meets from in
    record {
      met = moved_met side s (after side s call) theirs (recorded_by side s call) meets.met (call_moved side s call within) (λ id table is. (it.meets id table is).0);
      few = few-after side s call meets.few;
      kept = kept-after (IsOfSent side theirs) side s call meets.kept it.keeps;
    }

-- ---- lists of entries

left_of : {X : Type 0} (P : X → Type 0) (xs ys : List X) → All P (xs ++ ys) → All P xs
left_of {X} P xs ys all =
    All-weaker (Contains xs) P (λ x there. All-contains P (xs ++ ys) x all (contains_from_in x (xs ++ ys) (in_append_left x xs ys (in_from_contains x xs there)))) xs
    (All-contains_itself xs)

right_of : {X : Type 0} (P : X → Type 0) (xs ys : List X) → All P (xs ++ ys) → All P ys
right_of {X} P xs ys all =
    All-weaker (Contains ys) P (λ x there. All-contains P (xs ++ ys) x all (contains_from_in x (xs ++ ys) (in_append_right x xs ys (in_from_contains x ys there)))) ys
    (All-contains_itself ys)

-- ---- a run, and lives, meet what the peer froze

run_meets : (side : Side) (w : WorldState) (s : DeskState) (trail : List Entry) (e : DeskState) → AreKnown w → s.saved ≤ length s.facts → IsRun side s trail e
    → All (IsEntryFromPeer side w) trail → MeetsPeer side w s → MeetsPeer side w e
run_meets side w s [] e known within run from met = subst (MeetsPeer side w) run met
run_meets side w s (entry ∷ trail) e known within run from met =
    let next = after side s entry.call in
    let here = call_meets side w s entry.call known within (left_of (IsEntryFromPeer side w) (entry ∷ []) trail from 0 entry (omega arith)) met in
    let step = run_later side s (entry ∷ []) next within (run.0, refl) in
    run_meets side w next trail e known step.within run.1 (right_of (IsEntryFromPeer side w) (entry ∷ []) trail from) here

opened_meets : (side : Side) (w : WorldState) (s : DeskState) (life : Life) → GoesOn s life.point life.opening → MeetsPeer side w s → MeetsPeer side w (opened life.point life.opening)
opened_meets side w s life goes meets = record {
  met = λ id table there.
      let front = subst (λ (facts : List Fact). peer_of id facts ≡ Some table) goes.front there in
      meets.met id table (front-met (take (length life.opening) s.facts) s.facts id table (front-take s.facts (length life.opening)) front);
  few = kept-none;
  kept = All-nil (IsOfSent side (station_of (other side) w).desk);
}

life_meets : (side : Side) (w : WorldState) (life : Life) (e : DeskState) → AreKnown w → IsWhole side life e → All (IsEntryFromPeer side w) life.trail
    → MeetsPeer side w (opened life.point life.opening) → MeetsPeer side w e
life_meets side w life e known legal from met = run_meets side w (opened life.point life.opening) life.trail e known (opened_within life) legal from met

on_meets : (side : Side) (w : WorldState) (s : DeskState) (later : List Life) (e : DeskState) → AreKnown w → GoOnWhole side s later e → All (IsEntryFromPeer side w) (entries_of later)
    → MeetsPeer side w s → MeetsPeer side w e
on_meets side w s [] e known on from met = subst (MeetsPeer side w) on met
on_meets side w s (life ∷ later) e known on from met =
    let t = on.1.0 in
    let here = life_meets side w life t known on.1.1 (left_of (IsEntryFromPeer side w) life.trail (entries_of later) from) (opened_meets side w s life on.0 met) in
    on_meets side w t later e known on.1.2 (right_of (IsEntryFromPeer side w) life.trail (entries_of later) from) here

lives_meet : (side : Side) (w : WorldState) (life : Life) (later : List Life) (e : DeskState) → AreKnown w → AreWhole side (life ∷ later) e
    → All (IsEntryFromPeer side w) (entries_of (life ∷ later)) → MeetsPeer side w (opened life.point life.opening) → MeetsPeer side w e
lives_meet side w life later e known legal from met =
    let t = legal.0 in
    let here = life_meets side w life t known legal.1 (left_of (IsEntryFromPeer side w) life.trail (entries_of later) from) met in
    on_meets side w t later e known legal.2 (right_of (IsEntryFromPeer side w) life.trail (entries_of later) from) here

-- ---- what a run, and lives, told is let out by a saved fact of the last desk

run_tells : (side : Side) (s : DeskState) (trail : List Entry) (e : DeskState) (packet : Packet) → s.saved ≤ length s.facts → IsRun side s trail e → In packet (said_in trail)
    → tells packet ≡ true → IsTold side e packet
run_tells side s [] e packet within run there telling = absurd there
run_tells side s (entry ∷ trail) e packet within run there telling =
    let next = after side s entry.call in
    let step = run_later side s (entry ∷ []) next within (run.0, refl) in
    ⊎_elim
    (λ here.
    let out = contains_from_in packet (reply side s entry.call).out (subst (λ (r : Reply). In packet r.out) run.0 here) in
    still_let_out tells side next e packet step.within (run_later side next trail e step.within run.1) (now tells side s entry.call packet out telling))
    (λ rest. run_tells side next trail e packet step.within run.1 rest telling)
    (from_append packet entry.reply.out (said_in trail) there)

split_said : (packet : Packet) (trail : List Entry) (later : List Life) → In packet (said_in (trail ++ entries_of later)) → In packet (said_in trail) ⊎ In packet (said_in (entries_of later))
split_said packet trail later there =
    let all = flat_map-append (λ (entry : Entry). entry.reply.out) trail (entries_of later) in
    from_append packet (said_in trail) (said_in (entries_of later)) (subst (λ (packets : List Packet). In packet packets) all there)

life_tells : (side : Side) (life : Life) (t : DeskState) (later : List Life) (e : DeskState) (packet : Packet) → IsLegal side life t → GoOnTo side t later e
    → In packet (said_in life.trail) → tells packet ≡ true → IsTold side e packet
life_tells side life t later e packet legal on there telling =
    let within = (life_later side life t legal).within in
    still_let_out tells side t e packet within (on_later side t later e within on)
    (run_tells side (opened_keeping legal.kept life.point life.opening) life.trail t packet (keeping_within legal.kept life) legal.run there telling)

on_tells : (side : Side) (s : DeskState) (later : List Life) (e : DeskState) (packet : Packet) → GoOnTo side s later e → In packet (said_in (entries_of later)) → tells packet ≡ true
    → IsTold side e packet
on_tells side s [] e packet on there telling = absurd there
on_tells side s (life ∷ later) e packet on there telling =
    ⊎_elim (λ here. life_tells side life on.1.0 later e packet on.1.1 on.1.2 here telling) (λ rest. on_tells side on.1.0 later e packet on.1.2 rest telling)
    (split_said packet life.trail later there)

lives_tell : (side : Side) (life : Life) (later : List Life) (e : DeskState) (packet : Packet) → AreLegal side (life ∷ later) e → In packet (said_in (entries_of (life ∷ later)))
    → tells packet ≡ true → IsTold side e packet
lives_tell side life later e packet legal there telling =
    ⊎_elim (λ here. life_tells side life legal.0 later e packet legal.1 legal.2 here telling) (λ rest. on_tells side legal.0 later e packet legal.2 rest telling)
    (split_said packet life.trail later there)

-- ---- a side

side_meets : (side : Side) (w : WorldState) (lives : List Life) (e : DeskState) → AreKnown w → AreWhole side lives e → All (IsEntryFromPeer side w) (entries_of lives)
    → OpensWithFrozen side lives (station_of (other side) w).desk → MeetsPeer side w e
side_meets side w [] e known legal from opens = absurd legal
side_meets side w (life ∷ later) e known legal from opens =
    lives_meet side w life later e known legal from (record { met = opens; few = kept-none; kept = All-nil (IsOfSent side (station_of (other side) w).desk) })

side_told : (side : Side) (lives : List Life) (e : DeskState) → AreLegal side lives e → All (IsTold side e) (filter tells (said_in (entries_of lives)))
side_told side [] e legal = absurd legal
side_told side (life ∷ later) e legal =
    all_kept (IsTold side e) tells (said_in (entries_of (life ∷ later)))
    (λ packet there telling. lives_tell side life later e packet legal (in_from_contains packet (said_in (entries_of (life ∷ later))) there) telling)

-- ---- both sides

-- what each office says of itself
pub record IsKnownSide (side : Side) (settled : SettledState) : Type 0 where
  pub lives : AreLegal side settled.lives settled.desk
  pub legal : bad_fact side settled.desk.point settled.desk.facts ≡ None
  pub fits : FitsDesk side settled.desk.point settled.desk.facts

within_of : (side : Side) (lives : List Life) (e : DeskState) → AreLegal side lives e → e.saved ≤ length e.facts
within_of side [] e legal = absurd legal
within_of side (life ∷ later) e legal = (lives_later side life later e legal).within

are_known : (initiating matching : SettledState) → IsKnownSide I initiating → IsKnownSide M matching → AreKnown (both_of initiating matching)
are_known initiating matching ours theirs = record { legal = legal; fits = fits }
  where
    legal : (side : Side) → IsLegalDesk side (station_of side (both_of initiating matching)).desk
    legal I = record { legal = ours.legal; within = within_of I initiating.lives initiating.desk ours.lives }
    legal M = record { legal = theirs.legal; within = within_of M matching.lives matching.desk theirs.lives }

    fits : FitsWorld (both_of initiating matching)
    fits I = ours.fits
    fits M = theirs.fits

pub reconciled : (initiating matching : SettledState) → IsKnownSide I initiating → IsKnownSide M matching → DeliveredIsSent initiating matching → AgreeOnOneQuantity initiating matching
reconciled initiating matching ours theirs sent whole their_whole opens their_opens =
    let w = both_of initiating matching in
    let known = are_known initiating matching ours theirs in
    let have = met_by known in
    record {
      lower = λ side id table e. lower_at w have known.fits side id table (sym (confirmed_at side w id) ∙ e);
      alike =
          λ id a b first second pair direction hour.
          (lower_at w have known.fits I id a (sym (confirmed_at I w id) ∙ first)).reads pair direction hour
          ∙ sym ((lower_at w have known.fits M id b (sym (confirmed_at M w id) ∙ second)).reads pair direction hour);
      told = told known;
    }
  where
    meets : AreKnown (both_of initiating matching) → (side : Side) → MeetsPeer side (both_of initiating matching) (station_of side (both_of initiating matching)).desk
    meets known I = side_meets I (both_of initiating matching) initiating.lives initiating.desk known whole sent.initiating opens
    meets known M = side_meets M (both_of initiating matching) matching.lives matching.desk known their_whole sent.matching their_opens

    met_by : AreKnown (both_of initiating matching) → HaveMetFrozen (both_of initiating matching)
    met_by known = record { legal = known.legal; met = λ side. (meets known side).met }

    told : AreKnown (both_of initiating matching) → (side : Side) → All (TellsTheLower (held (both_of initiating matching)) side) (station_of side (both_of initiating matching)).told
    told known I =
        let w = both_of initiating matching in
        All-weaker (IsTold I initiating.desk) (TellsTheLower (held w) I) (told-lower w (met_by known) known.fits I) (station_of I w).told (side_told I initiating.lives initiating.desk ours.lives)
    told known M =
        let w = both_of initiating matching in
        All-weaker (IsTold M matching.desk) (TellsTheLower (held w) M) (told-lower w (met_by known) known.fits M) (station_of M w).told (side_told M matching.lives matching.desk theirs.lives)
