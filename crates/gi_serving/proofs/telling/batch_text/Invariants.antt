use Rattle.std.proofs.Common.{◌≡◌, ◌++◌, drop, length, string_bytes}
use Rattle.std.specs.Vec.Iter.{into_iter_items, into_iter_len}
use Rattle.gi_serving.specs.Batches.{batch_text}
use Rattle.gi_serving.proofs.telling.batch_text.Given as goal

-- what is told of the lines from here on comes after what is told
abbrev pub invariant-loop-line : goal.invariant-loop-line
invariant-loop-line l = record {
  told : string_bytes l.text ++ batch_text (drop l.line-index l.lines) (into_iter_items l.initiating) (into_iter_items l.matching)
      ≡ batch_text l.lines l.fn.initiating.items l.fn.matching.items;
  left : into_iter_len l.initiating ≡ length (into_iter_items l.initiating);
  peer_left : into_iter_len l.matching ≡ length (into_iter_items l.matching);
}
