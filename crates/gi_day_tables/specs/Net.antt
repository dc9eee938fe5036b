-- What is in force in the one direction, less that in the other.
use Rattle.std.specs.Prelude.{ℕ, List, codes, Option, Some, None}
use Rattle.gi_pairs.specs.declared.direction.Direction.TheVariants.{IM, MI}
use Rattle.gi_picture.specs.Numbers.{difference}
use Rattle.gi_picture.specs.declared.hour.Hour.{Hour}
use Rattle.gi_day_tables.specs.Columns.{column_of, flow_of, flows_of, sum_of}
use Rattle.gi_day_tables.specs.declared.column.Column.TheVariants.{InForce}

-- a dash where nothing is in force
unfoldable pub net_if : Option ℕ → Option ℕ → List ℕ
net_if None mi = codes "&ndash;"
net_if (Some im) None = codes "&ndash;"
net_if (Some im) (Some mi) = difference im mi

abbrev pub hour_net : Hour → List ℕ
hour_net hour = net_if (column_of InForce (flow_of IM hour)) (column_of InForce (flow_of MI hour))

abbrev pub day_net : List Hour → List ℕ
day_net hours = net_if (sum_of InForce (flows_of IM hours)) (sum_of InForce (flows_of MI hours))
