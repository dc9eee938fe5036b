-- How many facts one row takes.
use Rattle.std.specs.Prelude.{ℕ, ◌<◌, ◌≤◌, ◌&&◌, nat_le, Bool, List, length, take}
use Rattle.gi_facts.specs.Batch.{batch_text, most_facts}
use Rattle.gi_facts.specs.declared.fact.Fact.{Fact}

-- from 1 to 64 facts
abbrev pub is_batch : List Fact → Bool
is_batch facts = nat_le 1 (length facts) && nat_le (length facts) most_facts

-- the longest body that the facts of one row have where they are several, in bytes
abbrev pub most_bytes : ℕ
most_bytes = 1048576

-- The first k of the facts are the longest front that is one fact, or whose body is no longer than that.
pub record IsLongestFront (facts : List Fact) (k : ℕ) : Type 0 where
  pub some : 1 ≤ k
  pub there : k ≤ length facts
  pub within : 1 < k → length (batch_text (take k facts)) ≤ most_bytes
  pub longest : (m : ℕ) → k < m → m ≤ length facts → most_bytes < length (batch_text (take m facts))
