-- What the spelling of a line says of its table, and when two tables have one shape.
use Rattle.std.proofs.Common.{◌≤◌, inl, inr, ℕ, List, length, arith}
use Rattle.std.proofs.lemmas.List.Sorted.{length_permutation}
use Rattle.gi_pairs.specs.Limits.{most_processed_rows}
use Rattle.gi_messages.specs.declared.message.Delord.{Delord}
use Rattle.gi_table_commands.specs.Lines.{HasLines}
use Rattle.gi_table_commands.specs.Match.{IsFirstLineFault, IsLineFault, IsRefused, IsUnanswered, SpellsWhole}
use Rattle.gi_table_commands.specs.declared.fault.Fault.{Fault}
use Rattle.gi_table_commands.specs.declared.fault.Fault.TheVariants as fault
use Rattle.gi_table_commands.specs.declared.fault.Line.TheVariants.{Order, Own}

-- a table that is read from a whole message has few rows
pub few_rows : (bytes : List ℕ) (table : Delord) → SpellsWhole bytes table → length table.processed.rows ≤ most_processed_rows
few_rows bytes table is =
    let processed = is.spelled.stands.1.processed in
    let few = rw is.whole at processed.few in
    omega (arith, few, length_permutation processed.rows table.processed.rows processed.makes.same)

-- the second line is refused, and the first one is a whole DELORD
pub own_refused : (input first second : List ℕ) (order : Delord) (why : Fault) → HasLines input first second
    → SpellsWhole first order → IsLineFault Own second why → IsRefused input why
own_refused input first second order (fault.Message Order why) lines spelled refused = let other = refused.0 in cc
own_refused input first second order (fault.Message Own why) lines spelled refused =
    (first, second, lines, (order, spelled), refused)
own_refused input first second order (fault.WrongKind Order) lines spelled refused = let other = refused.0 in cc
own_refused input first second order (fault.WrongKind Own) lines spelled refused =
    (first, second, lines, (order, spelled), refused)
own_refused input first second order (fault.Parts Order) lines spelled refused = let other = refused.0 in cc
own_refused input first second order (fault.Parts Own) lines spelled refused =
    (first, second, lines, (order, spelled), refused)
own_refused input first second order fault.OutOfMemory lines spelled refused = tt
own_refused input first second order fault.CommandLine lines spelled refused = absurd refused
own_refused input first second order fault.Read lines spelled refused = absurd refused
own_refused input first second order fault.TooLarge lines spelled refused = absurd refused
own_refused input first second order fault.Lines lines spelled refused = absurd refused
own_refused input first second order fault.ShapeDiffers lines spelled refused = absurd refused
own_refused input first second order fault.Write lines spelled refused = absurd refused
own_refused input first second order (fault.Day why) lines spelled refused = absurd refused
own_refused input first second order (fault.Calendar why) lines spelled refused = absurd refused

-- the first line is refused
pub order_refused : (input first second : List ℕ) (why : Fault) → HasLines input first second
    → IsLineFault Order first why → IsRefused input why
order_refused input first second (fault.Message Own why) lines refused = let other = refused.0 in cc
order_refused input first second (fault.Message Order why) lines refused =
    (first, second, lines, refused)
order_refused input first second (fault.WrongKind Own) lines refused = let other = refused.0 in cc
order_refused input first second (fault.WrongKind Order) lines refused =
    (first, second, lines, refused)
order_refused input first second (fault.Parts Own) lines refused = let other = refused.0 in cc
order_refused input first second (fault.Parts Order) lines refused =
    (first, second, lines, refused)
order_refused input first second fault.OutOfMemory lines refused = tt
order_refused input first second fault.CommandLine lines refused = absurd refused
order_refused input first second fault.Read lines refused = absurd refused
order_refused input first second fault.TooLarge lines refused = absurd refused
order_refused input first second fault.Lines lines refused = absurd refused
order_refused input first second fault.ShapeDiffers lines refused = absurd refused
order_refused input first second fault.Write lines refused = absurd refused
order_refused input first second (fault.Day why) lines refused = absurd refused
order_refused input first second (fault.Calendar why) lines refused = absurd refused

-- the fault of two lines refuses the input
pub lines_refused : (input first second : List ℕ) (why : Fault) → HasLines input first second → IsFirstLineFault first second why → IsRefused input why
lines_refused input first second why lines (inl refused) = order_refused input first second why lines refused
lines_refused input first second why lines (inr refused) = own_refused input first second refused.0.0 why lines refused.0.1 refused.1

-- two tables of different shapes, or want of memory
pub unanswered_refused : (input first second : List ℕ) (order own : Delord) (why : Fault) → HasLines input first second
    → SpellsWhole first order → SpellsWhole second own → IsUnanswered order own why → IsRefused input why
unanswered_refused input first second order own fault.ShapeDiffers lines is_order is_own different = record {
  order = order;
  own = own;
  tables = record { first = first; second = second; lines = lines; is_order = is_order; is_own = is_own };
  different = different;
}
unanswered_refused input first second order own fault.OutOfMemory lines is_order is_own unanswered = tt
unanswered_refused input first second order own (fault.Message line why) lines is_order is_own unanswered = absurd unanswered
unanswered_refused input first second order own (fault.WrongKind line) lines is_order is_own unanswered = absurd unanswered
unanswered_refused input first second order own (fault.Parts line) lines is_order is_own unanswered = absurd unanswered
unanswered_refused input first second order own fault.CommandLine lines is_order is_own unanswered = absurd unanswered
unanswered_refused input first second order own fault.Read lines is_order is_own unanswered = absurd unanswered
unanswered_refused input first second order own fault.TooLarge lines is_order is_own unanswered = absurd unanswered
unanswered_refused input first second order own fault.Lines lines is_order is_own unanswered = absurd unanswered
unanswered_refused input first second order own fault.Write lines is_order is_own unanswered = absurd unanswered
unanswered_refused input first second order own (fault.Day why) lines is_order is_own unanswered = absurd unanswered
unanswered_refused input first second order own (fault.Calendar why) lines is_order is_own unanswered = absurd unanswered
