-- What was cut.
use Rattle.std.proofs.Common.{◌≡◌, ◌<◌, ◌≤◌, ◌+◌, ◌-◌, ℕ, zero, suc, List, [], ◌∷◌, min, nat_lt, Bool, true, false, Option, Some, None, refl, sym, ap, arith}
use Rattle.std.specs.Prelude.{if◌then◌else◌, All}
use Rattle.std.specs.List.{flat_map, range_with_len}
use Rattle.std.proofs.lemmas.Bool.Decides.{nat_tests}
use Rattle.std.proofs.lemmas.List.Elements.{All-append, All-cons, All-nil}
use Rattle.gi_pairs.specs.Row.{key_of}
use Rattle.gi_pairs.specs.Table.{TableContents, covered}
use Rattle.gi_pairs.specs.declared.cycle_id.CycleId.{CycleId}
use Rattle.gi_pairs.specs.declared.key.Key.{Key}
use Rattle.gi_pairs.specs.declared.row.Row.{Row}
use Rattle.gi_pairs.specs.declared.side.Side.{Side}
use Rattle.gi_messages.specs.declared.nomination_line.NominationLine.{NominationLine}
use Rattle.gi_facts.specs.declared.fact.Fact.{Fact}
use Rattle.gi_desk.specs.History.{frozen_table, is_closed}
use Rattle.gi_desk.specs.Machine.{DeskState, bad_fact}
use Rattle.gi_desk.specs.Queries.{confirmed, frozen}
use Rattle.gi_desk.specs.Writable.{FitsDesk}
use Rattle.gi_explanations.specs.Laws.{ExplainsTheConfirmed, ExplainsTheFrozen}
use Rattle.gi_explanations.specs.declared.question.Question.{Question}
use Rattle.gi_schedule.specs.Cuts.{cuts, cuts_if, cuts_of, cycle_lines, hour_cut, if_cut, key_cuts, line_of, peer_table, read_at, row_cuts}
use Rattle.gi_schedule.specs.Laws.{SaysWhatWasCut, IsTold}
use Rattle.gi_schedule.specs.Nominated.{nominated_line}
use Rattle.gi_schedule.specs.Wanted.{wants_day, wants_pair}
use Rattle.gi_schedule.specs.declared.cut_line.CutLine.{CutLine}
use Rattle.gi_schedule.specs.declared.wanted.Wanted.{Wanted}

-- ---- a line

-- what is confirmed is no more than what is processed
told : (id : CycleId) (key : Key) (hour nominated processed peer confirmed : ℕ) → confirmed ≤ processed → All IsTold (if_cut (line_of id key hour nominated processed peer confirmed))
told id key hour nominated processed peer confirmed low = by (nat_lt confirmed nominated) refl
  where
    line : CutLine
    line = line_of id key hour nominated processed peer confirmed

    by : (b : Bool) → nat_lt confirmed nominated ≡ b → All IsTold (if b then line ∷ [] else [])
    by true is =
        let below : confirmed < nominated = grind (arith, nat_tests, is) in
        let sum : (nominated - processed) + (min nominated processed - confirmed) ≡ nominated - confirmed = omega (arith, below, low) in
        All-cons IsTold line [] sum (All-nil IsTold)
    by false is = All-nil IsTold

-- ---- the hours of a cycle

-- the confirmed table reads no more than the side's own
abbrev IsLower : TableContents → TableContents → Type 0
IsLower own confirmed = (key : Key) (hour : ℕ) → read_at key hour confirmed ≤ read_at key hour own

hours_told : (id : CycleId) (key : Key) (line : Option NominationLine) (own peer confirmed : TableContents) (from count : ℕ) → IsLower own confirmed
    → All IsTold (flat_map (λ hour. if_cut (hour_cut id key line own peer confirmed hour)) (range_with_len from count))
hours_told id key line own peer confirmed from zero low = All-nil IsTold
hours_told id key line own peer confirmed from (suc count) low =
    All-append IsTold (if_cut (hour_cut id key line own peer confirmed from)) (flat_map (λ hour. if_cut (hour_cut id key line own peer confirmed hour)) (range_with_len (from + 1) count))
    (told id key from _ (read_at key from own) (read_at key from peer) (read_at key from confirmed) (low key from)) (hours_told id key line own peer confirmed (from + 1) count low)

rows_told : (side : Side) (s : DeskState) (wanted : Wanted) (id : CycleId) (own peer confirmed : TableContents) (rows : List Row) → IsLower own confirmed
    → All IsTold (flat_map (row_cuts side s wanted id own peer confirmed) rows)
rows_told side s wanted id own peer confirmed [] low = All-nil IsTold
rows_told side s wanted id own peer confirmed (row ∷ rows) low =
    All-append IsTold (row_cuts side s wanted id own peer confirmed row) (flat_map (row_cuts side s wanted id own peer confirmed) rows)
    (by (wants_pair wanted.portfolio row.pair)) (rows_told side s wanted id own peer confirmed rows low)
  where
    here : List CutLine
    here = key_cuts id (key_of row) (nominated_line side s.facts id (key_of row)) own peer confirmed

    by : (b : Bool) → All IsTold (if b then here else [])
    by true = hours_told id (key_of row) (nominated_line side s.facts id (key_of row)) own peer confirmed own.first (covered own.first own.last) low
    by false = All-nil IsTold

-- ---- the tables of a cycle

record IsFrozen (side : Side) (facts : List Fact) (id : CycleId) (own : TableContents) : Type 0 where
  pub closed : is_closed id facts ≡ true
  pub is : own ≡ frozen_table side facts id

own_frozen : (side : Side) (facts : List Fact) (id : CycleId) (own : TableContents) → frozen side facts id ≡ Some own → IsFrozen side facts id own
unfolding frozen
own_frozen side facts id own is = by (is_closed id facts) refl is
  where
    table : TableContents
    table = frozen_table side facts id

    by : (b : Bool) → is_closed id facts ≡ b → (if b then Some table else None) ≡ Some own → IsFrozen side facts id own
    by true closed e = let same : table ≡ own = cc in record { closed = closed; is = sym same }
    by false closed e = absurd cc

lower : ExplainsTheFrozen → ExplainsTheConfirmed → (side : Side) (s : DeskState) (id : CycleId) (own table : TableContents) → bad_fact side s.point s.facts ≡ None
    → FitsDesk side s.point s.facts → frozen side s.facts id ≡ Some own → confirmed side s id ≡ Some table → IsLower own table
lower froze confirms side s id own table legal fits own_is table_is = λ key hour.
    let q : Question = record { pair = key.pair; direction = key.direction; id = id; hour = hour } in
    let at = own_frozen side s.facts id own own_is in
    let processed = froze side s.point s.facts q legal fits at.closed in
    let both = confirms side s q table legal fits table_is in
    let own_reads = ap (read_at key hour) at.is in
    omega (arith, processed, both.2, own_reads)

cycle_told : ExplainsTheFrozen → ExplainsTheConfirmed → (side : Side) (s : DeskState) (wanted : Wanted) (id : CycleId) → bad_fact side s.point s.facts ≡ None
    → FitsDesk side s.point s.facts → All IsTold (cycle_lines side s wanted id)
cycle_told froze confirms side s wanted id legal fits = by (frozen side s.facts id) (peer_table s.facts id) (confirmed side s id) refl refl
  where
    by : (own peer table : Option TableContents) → frozen side s.facts id ≡ own → confirmed side s id ≡ table → All IsTold (cuts_if side s wanted id own peer table)
    by (Some own) (Some peer) (Some table) own_is table_is =
        rows_told side s wanted id own peer table own.rows (lower froze confirms side s id own table legal fits own_is table_is)
    by (Some own) (Some peer) None own_is table_is = All-nil IsTold
    by (Some own) None table own_is table_is = All-nil IsTold
    by None peer table own_is table_is = All-nil IsTold

wanted_told : ExplainsTheFrozen → ExplainsTheConfirmed → (side : Side) (s : DeskState) (wanted : Wanted) (id : CycleId) → bad_fact side s.point s.facts ≡ None
    → FitsDesk side s.point s.facts → All IsTold (cuts_of side s wanted id)
unfolding cuts_of
wanted_told froze confirms side s wanted id legal fits = by (wants_day wanted.day id.day)
  where
    by : (b : Bool) → All IsTold (if b then cycle_lines side s wanted id else [])
    by true = cycle_told froze confirms side s wanted id legal fits
    by false = All-nil IsTold

pub all_told : ExplainsTheFrozen → ExplainsTheConfirmed → SaysWhatWasCut
all_told froze confirms side s wanted [] legal fits = All-nil IsTold
all_told froze confirms side s wanted (id ∷ ids) legal fits =
    All-append IsTold (cuts_of side s wanted id) (cuts side s wanted ids) (wanted_told froze confirms side s wanted id legal fits) (all_told froze confirms side s wanted ids legal fits)
