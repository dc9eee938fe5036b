-- What a side let out to its peer, and what it told, stays what its saved facts let out; and its facts stay legal.
use Rattle.std.proofs.Common.{arith, ◌≡◌, ◌≤◌, ◌-◌, ℕ, List, [], ◌∷◌, ◌++◌, length, length-take, take, take-take, get_or, filter, slice_get, All, Contains, Bool, true, Some, None, refl, sym, ap, ◌∙◌, subst}
use Rattle.std.proofs.lemmas.List.Elements.{All-append, All-contains_itself, All-filter, All-nil, All-weaker, filter_passes}
use Rattle.gi_pairs.specs.declared.side.Side.{Side}
use Rattle.gi_pairs.specs.declared.side.Side.TheVariants.{I, M}
use Rattle.gi_pairs.proofs.Building.{in_from_contains}
use Rattle.gi_desk.specs.History.{peer_of}
use Rattle.gi_desk.specs.LetOut.{if_fact, let_out}
use Rattle.gi_desk.specs.Machine.{DeskState, after as desk_after, bad_fact, is_for_peer, next_of, out_of, outcome as desk_outcome, reply}
use Rattle.gi_desk.specs.declared.call.Call.{Call}
use Rattle.gi_facts.specs.declared.fact.Fact.{Fact}
use Rattle.gi_desk.specs.declared.outcome.Outcome.{Outcome}
use Rattle.gi_desk.specs.declared.outcome.Outcome.TheVariants.{Records, RepeatsNomination, RepeatsMeeting, RepeatsPart, Keeps, Saves, Resends, Stops, Refuses}
use Rattle.gi_desk.specs.declared.packet.Packet.{Packet}
use Rattle.gi_desk.proofs.Legality.{legal-front}
use Rattle.gi_desk.proofs.StateLaws.{lets_out}
use Rattle.gi_desk.proofs.StepFacts.{only-appends, says-only-what-is-saved, stays-legal}
use Rattle.gi_parts.specs.Parts.{AreKept}
use Rattle.gi_parts.proofs.Keeping.{kept-none}
use Rattle.gi_world.specs.Agreement.{IsLegal, IsLetOut, IsOfSent, IsSent, IsSound, IsTold, MeetsFrozen}
use Rattle.gi_world.specs.World.{StationState, WorldState, after, after_call, after_restart, new_world, other, station_of, tells}
use Rattle.gi_world.specs.declared.step.Step.{Step}
use Rattle.gi_world.proofs.StationLemmas.{after-keeps}

-- ---- a packet once let out stays so

-- where each saved fact lets out what it did, and what is saved stays so
still : (is_so : Packet → Bool) (side : Side) (s next : DeskState) → ((n : ℕ) → n ≤ s.saved → let_out side next.point next.facts n ≡ let_out side s.point s.facts n) → s.saved ≤ next.saved
    → (packet : Packet) → IsLetOut is_so side s packet → IsLetOut is_so side next packet
still is_so side s next same below packet is =
    let to = is.to in
    record {
      n = is.n;
      from = is.from;
      to = omega (arith, to, below);
      let_out_by = subst (λ (out : List Packet). Contains out packet) (sym (same is.n to)) is.let_out_by;
      passes = is.passes;
    }

kept_by : (side : Side) (s : DeskState) (o : Outcome) (n : ℕ) → n ≤ length s.facts → let_out side (next_of s o).point (next_of s o).facts n ≡ let_out side s.point s.facts n
kept_by side s (Records fact) n within = lets_out side s.point s.facts (fact ∷ []) n within
kept_by side s (RepeatsNomination m) n within = refl
kept_by side s (RepeatsMeeting m) n within = refl
kept_by side s (RepeatsPart m) n within = refl
kept_by side s (Keeps id part) n within = refl
kept_by side s (Saves m) n within = refl
kept_by side s (Resends id) n within = refl
kept_by side s Stops n within = refl
kept_by side s (Refuses refusal) n within = refl

kept_on_call : (side : Side) (s : DeskState) (call : Call) (n : ℕ) → n ≤ length s.facts
    → let_out side (desk_after side s call).point (desk_after side s call).facts n ≡ let_out side s.point s.facts n
unfolding desk_after
kept_on_call side s call n within = kept_by side s (desk_outcome side s call) n within

pub kept_on_restart : (side : Side) (point : List ℕ) (facts : List Fact) (n keep : ℕ) → n ≤ keep → let_out side point (take keep facts) n ≡ let_out side point facts n
unfolding let_out
kept_on_restart side point facts n keep below = ap (λ (up_to : List Fact). if_fact side point up_to (slice_get up_to (n - 1))) (take-take n keep facts below)

-- ---- the packets of a reply

-- a call that records a fact lets out nothing
said_by : (side : Side) (s : DeskState) (o : Outcome) (n : ℕ) (packet : Packet) → Contains (out_of side s o) packet
    → let_out side s.point s.facts n ≡ let_out side (next_of s o).point (next_of s o).facts n
said_by side s (Records fact) n packet there = absurd (in_from_contains packet [] there)
said_by side s (RepeatsNomination m) n packet there = refl
said_by side s (RepeatsMeeting m) n packet there = refl
said_by side s (RepeatsPart m) n packet there = refl
said_by side s (Keeps id part) n packet there = refl
said_by side s (Saves m) n packet there = refl
said_by side s (Resends id) n packet there = refl
said_by side s Stops n packet there = refl
said_by side s (Refuses refusal) n packet there = refl

said_after : (side : Side) (s : DeskState) (call : Call) (n : ℕ) (packet : Packet) → Contains (reply side s call).out packet
    → let_out side s.point s.facts n ≡ let_out side (desk_after side s call).point (desk_after side s call).facts n
unfolding desk_after reply
said_after side s call n packet there = said_by side s (desk_outcome side s call) n packet there

pub now : (is_so : Packet → Bool) (side : Side) (s : DeskState) (call : Call) (packet : Packet) → Contains (reply side s call).out packet → is_so packet ≡ true
    → IsLetOut is_so side (desk_after side s call) packet
now is_so side s call packet there passes =
    let said = says-only-what-is-saved side s call packet there in
    record {
      n = said.0;
      from = said.1;
      to = said.2;
      let_out_by = subst (λ (out : List Packet). Contains out packet) (said_after side s call said.0 packet there) said.3;
      passes = passes;
    }

-- what a test keeps of a list
pub all_kept : {X : Type 0} (P : X → Type 0) (test : X → Bool) (xs : List X) → ((x : X) → Contains xs x → test x ≡ true → P x) → All P (filter test xs)
all_kept P test xs holds k d below =
    holds (get_or (filter test xs) k d) (All-filter test (Contains xs) xs (All-contains_itself xs) k d below) (filter_passes test xs k d below)

-- ---- stations

-- legal facts, and packets that saved ones let out
pub record IsSoundStation (side : Side) (station : StationState) : Type 0 where
  pub legal : IsLegal side station.desk
  pub sent : All (IsSent side station.desk) station.sent
  pub told : All (IsTold side station.desk) station.told

-- of packets that a call adds to
all_after : (is_so : Packet → Bool) (side : Side) (s : DeskState) (call : Call) (packets : List Packet) → s.saved ≤ length s.facts → All (IsLetOut is_so side s) packets
    → All (IsLetOut is_so side (desk_after side s call)) (packets ++ filter is_so (reply side s call).out)
all_after is_so side s call packets within all =
    let next = desk_after side s call in
    let saved = (only-appends side s call).1 in
    All-append (IsLetOut is_so side next) packets (filter is_so (reply side s call).out)
    (All-weaker (IsLetOut is_so side s) (IsLetOut is_so side next) (still is_so side s next (λ n below. kept_on_call side s call n (omega (arith, below, within))) saved) packets all)
    (all_kept (IsLetOut is_so side next) is_so (reply side s call).out (now is_so side s call))

sound_call : (side : Side) (station : StationState) (call : Call) → IsSoundStation side station → IsSoundStation side (after_call side station call)
unfolding after_call
sound_call side station call sound =
    let s = station.desk in
    let within = sound.legal.within in
    let stays = stays-legal side s call in
    record {
      legal = record { legal = stays.0 sound.legal.legal; within = stays.1 within };
      sent = all_after is_for_peer side s call station.sent within sound.sent;
      told = all_after tells side s call station.told within sound.told;
    }

-- of packets that a restart keeps
all_again : (is_so : Packet → Bool) (side : Side) (station : StationState) (keep : ℕ) (packets : List Packet) → station.desk.saved ≤ keep
    → All (IsLetOut is_so side station.desk) packets → All (IsLetOut is_so side (after_restart station keep).desk) packets
unfolding after_restart
all_again is_so side station keep packets above all =
    let s = station.desk in
    let next = (after_restart station keep).desk in
    All-weaker (IsLetOut is_so side s) (IsLetOut is_so side next) (still is_so side s next (λ n below. kept_on_restart side s.point s.facts n keep (omega (arith, below, above))) above) packets all

sound_restart : (side : Side) (station : StationState) (keep : ℕ) → station.desk.saved ≤ keep → keep ≤ length station.desk.facts → IsSoundStation side station
    → IsSoundStation side (after_restart station keep)
unfolding after_restart
sound_restart side station keep above within sound =
    let s = station.desk in
    record {
      legal = record { legal = legal-front side s.point s.facts keep sound.legal.legal; within = grind (length-take, arith, within) };
      sent = all_again is_for_peer side station keep station.sent above sound.sent;
      told = all_again tells side station keep station.told above sound.told;
    }

pub stations-sound : (w : WorldState) (step : Step) → IsSound w → (side : Side) → IsSoundStation side (station_of side (after w step))
stations-sound w step sound = after-keeps IsSoundStation sound_call sound_restart w step (λ side. record { legal = sound.legal side; sent = sound.sent side; told = sound.told side })

pub legal-sound : (w : WorldState) (step : Step) → IsSound w → (side : Side) → IsLegal side (station_of side (after w step)).desk
legal-sound w step sound side = (stations-sound w step sound side).legal

pub sent-sound : (w : WorldState) (step : Step) → IsSound w → (side : Side) → All (IsSent side (station_of side (after w step)).desk) (station_of side (after w step)).sent
sent-sound w step sound side = (stations-sound w step sound side).sent

pub told-sound : (w : WorldState) (step : Step) → IsSound w → (side : Side) → All (IsTold side (station_of side (after w step)).desk) (station_of side (after w step)).told
told-sound w step sound side = (stations-sound w step sound side).told

-- ---- the point

same_point : (s : DeskState) (o : Outcome) → (next_of s o).point ≡ s.point
same_point s (Records fact) = refl
same_point s (RepeatsNomination n) = refl
same_point s (RepeatsMeeting n) = refl
same_point s (RepeatsPart n) = refl
same_point s (Keeps other part) = refl
same_point s (Saves n) = refl
same_point s (Resends id) = refl
same_point s Stops = refl
same_point s (Refuses refusal) = refl

abbrev IsAt : List ℕ → Side → StationState → Type 0
IsAt point side station = station.desk.point ≡ point

point_call : (point : List ℕ) (side : Side) (station : StationState) (call : Call) → IsAt point side station → IsAt point side (after_call side station call)
unfolding after_call desk_after
point_call point side station call is = same_point station.desk (desk_outcome side station.desk call) ∙ is

point_restart : (point : List ℕ) (side : Side) (station : StationState) (keep : ℕ) → station.desk.saved ≤ keep → keep ≤ length station.desk.facts → IsAt point side station
    → IsAt point side (after_restart station keep)
unfolding after_restart
point_restart point side station keep above within is = is

pub point-sound : (w : WorldState) (step : Step) → IsSound w → (after w step).matching.desk.point ≡ (after w step).initiating.desk.point
point-sound w step sound = stays M ∙ sym (stays I)
  where
    before : (side : Side) → IsAt w.initiating.desk.point side (station_of side w)
    before I = refl
    before M = sound.point

    stays : (side : Side) → IsAt w.initiating.desk.point side (station_of side (after w step))
    stays = after-keeps (IsAt w.initiating.desk.point) (point_call w.initiating.desk.point) (point_restart w.initiating.desk.point) w step before

-- ---- a new world

none_met : {X : Type 0} (x : X) → None ≡ Some x → ⊥
none_met x e = cc

pub new-sound : (point : List ℕ) → IsSound (new_world point)
unfolding bad_fact peer_of
new-sound point = record {
  point = refl;
  legal = legal;
  sent = sent;
  told = told;
  met = met;
  after = λ id table e. absurd (none_met table e);
  few = few;
  kept = kept;
}
  where
    legal : (side : Side) → IsLegal side (station_of side (new_world point)).desk
    legal I = record { legal = refl; within = omega arith }
    legal M = record { legal = refl; within = omega arith }

    sent : (side : Side) → All (IsSent side (station_of side (new_world point)).desk) (station_of side (new_world point)).sent
    sent I = All-nil (IsSent I (new_world point).initiating.desk)
    sent M = All-nil (IsSent M (new_world point).matching.desk)

    told : (side : Side) → All (IsTold side (station_of side (new_world point)).desk) (station_of side (new_world point)).told
    told I = All-nil (IsTold I (new_world point).initiating.desk)
    told M = All-nil (IsTold M (new_world point).matching.desk)

    met : (side : Side) → MeetsFrozen side (station_of side (new_world point)).desk (station_of (other side) (new_world point)).desk
    met I id table e = absurd (none_met table e)
    met M id table e = absurd (none_met table e)

    few : (side : Side) → AreKept (station_of side (new_world point)).desk.kept
    few I = kept-none
    few M = kept-none

    kept : (side : Side) → All (IsOfSent side (station_of (other side) (new_world point)).desk) (station_of side (new_world point)).desk.kept
    kept I = All-nil (IsOfSent I (new_world point).matching.desk)
    kept M = All-nil (IsOfSent M (new_world point).initiating.desk)
