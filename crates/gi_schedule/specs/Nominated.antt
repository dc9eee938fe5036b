-- What was nominated for a pair and a direction as a cycle was closed.
use Rattle.std.specs.Prelude.{ℕ, ◌-◌, List, find, Bool, ◌&&◌, if◌then◌else◌, Option, Some, None}
use Rattle.std.specs.Str.{bytes_eq}
use Rattle.jiff_core.specs.declared.civil.date.Date.{Date}
use Rattle.gi_pairs.specs.Pair.{code_at}
use Rattle.gi_pairs.specs.Side.{other}
use Rattle.gi_pairs.specs.declared.cycle_id.CycleId.{CycleId}
use Rattle.gi_pairs.specs.declared.direction.Direction.{Direction}
use Rattle.gi_pairs.specs.declared.key.Key.{Key}
use Rattle.gi_pairs.specs.declared.side.Side.{Side}
use Rattle.gi_messages.specs.declared.message.Nomint.{Nomint}
use Rattle.gi_messages.specs.declared.nomination_line.NominationLine.{NominationLine}
use Rattle.gi_nominations.specs.Book.{in_force, is_of}
use Rattle.gi_processing.specs.Processing.{lines_of}
use Rattle.gi_processing.specs.Reduction.{is_in, quantity_at}
use Rattle.gi_facts.specs.declared.fact.Fact.{Fact}
use Rattle.gi_facts.specs.declared.fact.Fact.TheVariants.{Nominated}
use Rattle.gi_desk.specs.History.{documents_of, facts_before, is_closing}

-- the nomination in force of the side's portfolio, by the facts before the closing
abbrev pub nomination : Side → List Fact → CycleId → Key → Option Nomint
nomination side facts id key = in_force (code_at side key.pair) id.day (documents_of (facts_before (is_closing id) facts))

-- its line for the counterparty and the direction
abbrev pub is_line : List ℕ → Direction → NominationLine → Bool
is_line code direction line = bytes_eq line.counterparty code && is_in direction line

abbrev pub nominated_line : Side → List Fact → CycleId → Key → Option NominationLine
nominated_line side facts id key = find (is_line (code_at (other side) key.pair) key.direction) (lines_of (nomination side facts id key))

-- its quantity in an hour, numbered from 1, and 0 where there is no line
abbrev pub quantity_if : ℕ → Option NominationLine → ℕ
quantity_if hour None = 0
quantity_if hour (Some line) = quantity_at (hour - 1) line

-- the nomination in force once a fact more is there
abbrev pub taken : List ℕ → Date → Option Nomint → Option Fact → Option Nomint
taken portfolio day found (Some (Nominated document)) = if is_of portfolio day document then Some document else found
taken portfolio day found fact = found
