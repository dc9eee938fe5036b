-- What a table holds, from its fields.
use Rattle.gi_pairs.specs.Table.{TableContents}
use Rattle.gi_pairs.specs.declared.table.Table.TheInside.{Inside}

abbrev pub contents : Inside → TableContents
contents t = record { first = t.first; last = t.last; rows = t.rows }
