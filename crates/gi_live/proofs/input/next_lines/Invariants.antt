use Rattle.std.proofs.Common.{◌≡◌, ◌<◌, ◌≤◌, false, length}
use Rattle.std.specs.Io.Buffered.{reader_remaining}
use Rattle.std.specs.List.{list_any}
use Rattle.gi_live.specs.Lines.{ResendsFirst, TakesLines, is_alone, lines_left}
use Rattle.gi_live.proofs.input.next_lines.Given as goal

abbrev pub invariant-loop : goal.invariant-loop
invariant-loop g l = record {
  taken : TakesLines (lines_left l.initial.kept (reader_remaining g.I.Read.remaining l.initial.input)) l.lines.items (lines_left l.kept (reader_remaining g.I.Read.remaining l.input));
  bytes : l.bytes ≤ 1_048_576;
  begun : l.counter ≡ 0 → (l.input ≡ l.initial.input) × (l.kept ≡ l.initial.kept);
  few : length l.lines.items ≤ l.counter;
  some : 0 < l.counter → 0 < length l.lines.items;
  together : list_any is_alone l.lines.items ≡ false;
  resends : ResendsFirst l.lines.items;
}
