-- When a side has written to its peer of a cycle: then the cycle is closed.
use Rattle.std.proofs.Common.{◌≡◌, Bool, true, false, take, Option, Some, None, is_some, Bor, refl, ap, ◌∙◌, subst}
use Rattle.std.specs.Prelude.{option_map}
use Rattle.std.specs.Option.{option_copied}
use Rattle.gi_pairs.specs.Table.{TableContents}
use Rattle.gi_pairs.specs.declared.cycle_id.CycleId.{CycleId}
use Rattle.gi_pairs.specs.declared.side.Side.{Side}
use Rattle.gi_pairs.specs.declared.side.Side.TheVariants.{I, M}
use Rattle.gi_desk.specs.History.{is_closed, peer_of}
use Rattle.gi_desk.specs.Machine.{DeskState}
use Rattle.gi_desk.specs.Queries.{confirmed, frozen}
use Rattle.gi_desk.proofs.Confirmed.{met_closed}
use Rattle.gi_desk.proofs.Legality.{legal-front}
use Rattle.gi_world.specs.Agreement.{IsLegal, saved_facts}
use Rattle.gi_world.proofs.Fronts.{front-closed, saved-front}
use Rattle.gi_world.proofs.Meetings.{some_in}
use Rattle.gi_audit.specs.Sent.{has_sent, sent_table}

-- ---- what tells it

some_mapped : {X Y : Type 0} (f : X → Y) (o : Option X) → is_some (option_map f o) ≡ is_some o
some_mapped f None = refl
some_mapped f (Some x) = refl

by-meeting : (s : DeskState) (id : CycleId) → is_some (confirmed M s id) ≡ has_sent M s id
unfolding confirmed
by-meeting s id = some_mapped _ (peer_of id (take s.saved s.facts))

some_copied : {X : Type 0} (o : Option (Bor X)) → is_some o ≡ is_some (option_copied o)
some_copied None = refl
some_copied (Some x) = refl

pub by-meeting-at : (side : Side) (s : DeskState) (id : CycleId) (found : Option (Bor TableContents)) → M ≡ side → option_copied found ≡ confirmed side s id → is_some found ≡ has_sent side s id
by-meeting-at side s id found at is = some_copied found ∙ ap is_some is ∙ subst (λ (side : Side). is_some (confirmed side s id) ≡ has_sent side s id) at (by-meeting s id)

-- ---- the table

-- where a saved fact met a table the cycle is closed
met_too : (s : DeskState) (id : CycleId) → IsLegal M s → is_some (peer_of id (saved_facts s)) ≡ true → is_closed id (saved_facts s) ≡ true
met_too s id legal met =
    let (peer, is) = some_in (peer_of id (saved_facts s)) met in
    met_closed M s.point (saved_facts s) id peer (legal-front M s.point s.facts s.saved legal.legal) is

sent_closed : (side : Side) (s : DeskState) (id : CycleId) → IsLegal side s → has_sent side s id ≡ true → is_closed id s.facts ≡ true
sent_closed I s id legal sent = front-closed (saved_facts s) s.facts id (saved-front s) sent
sent_closed M s id legal sent = front-closed (saved_facts s) s.facts id (saved-front s) (met_too s id legal sent)

pub sent-frozen : (side : Side) (s : DeskState) (id : CycleId) → IsLegal side s → has_sent side s id ≡ true → frozen side s.facts id ≡ sent_table side s id
unfolding frozen sent_table
sent-frozen side s id legal sent = rw (sent_closed side s id legal sent, sent) refl

pub none-sent : (side : Side) (s : DeskState) (id : CycleId) → has_sent side s id ≡ false → None ≡ sent_table side s id
unfolding sent_table
none-sent side s id unsent = rw unsent refl
