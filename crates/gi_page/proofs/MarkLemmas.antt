-- The cycles of a gas day, one after the other.
use Rattle.std.proofs.Common.{◌≡◌, ◌+◌, ◌∙◌, ℕ, List, [], ◌∷◌, ◌++◌, add-one, sym, ap}
use Rattle.jiff_core.specs.declared.civil.date.Date.{Date}
use Rattle.gi_pairs.specs.declared.cycle_id.CycleId.{CycleId}
use Rattle.gi_pairs.specs.declared.side.Side.{Side}
use Rattle.gi_desk.specs.Machine.{DeskState}
use Rattle.gi_schedule.specs.InForce.{cycle_of}
use Rattle.gi_day_tables.specs.declared.cycle_mark.CycleMark.{CycleMark}
use Rattle.gi_page.specs.Marks.{mark_of, marks_of}

pub mark_more : (side : Side) (s : DeskState) (day own : Date) (n : ℕ) (old new : List CycleMark) (mark : CycleMark) → own ≡ day → old ≡ marks_of side s day n
    → mark ≡ mark_of side s (cycle_of own n) → new ≡ old ++ mark ∷ [] → new ≡ marks_of side s day (n + 1)
mark_more side s day own n old new mark own_is old_is mark_is new_is =
    let is = mark_is ∙ ap (λ (d : Date). mark_of side s (cycle_of d n)) own_is in new_is ∙ (λ t. old_is t ++ is t ∷ []) ∙ ap (marks_of side s day) (sym (add-one n))
