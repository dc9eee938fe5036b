use Rattle.gi_parts.proofs.Splits.{carries-all_rows}
use Rattle.gi_parts.proofs.laws.carries_all_rows.Goals as goal

pub returns : goal.returns
returns c = carries-all_rows
