use Rattle.std.proofs.Common.{filter, sym}
use Rattle.std.proofs.lemmas.List.Folds.{flat_map-map}
use Rattle.gi_reports.specs.Open.{is_open}
use Rattle.gi_exports.specs.Laws.{cycle_line}
use Rattle.gi_exports.specs.Lines.{cycle_of}
use Rattle.gi_exports.proofs.laws.lists_open.Goals as goal

pub returns : goal.returns
returns c = λ side s ids. sym (flat_map-map cycle_line (cycle_of side s) (filter (is_open side s) ids))
