use Rattle.std.proofs.Common.{◌≡◌, ◌≤◌, false, vec_len}
use Rattle.std.specs.Io.KnownBytes.{Consumes}
use Rattle.gi_table_commands.specs.Input.{most_input}
use Rattle.gi_table_commands.proofs.input.read_input.Given as goal

-- what is read so far is what the reader has lost, and within the limit; each turn is one call, and none failed
abbrev pub invariant-loop : goal.invariant-loop
invariant-loop g l = record {
  read : Consumes (g.R.Read.remaining l.fn.input) (g.R.Read.remaining l.input) l.bytes.items;
  within : vec_len l.bytes ≤ most_input;
  counted : l.calls.made ≡ l.counter;
  sound : l.calls.failed ≡ false;
}
