-- The rows of several parts: their refusals in order, and the table that they make.
use Rattle.std.proofs.Common.{◌≡◌, ℕ, ◌≤◌, List, length, nat_lt, true, false, Ok, Err, All, refl, arith}
use Rattle.std.proofs.lemmas.List.Sorted.{All-permutation, length_permutation}
use Rattle.gi_pairs.specs.Limits.{last_hour, most_rows}
use Rattle.gi_pairs.specs.Row.{IsRow}
use Rattle.gi_pairs.specs.Table.{IsTable, covered, keys_of, repeats, in_order, joined, join_refusal}
use Rattle.gi_pairs.specs.declared.row.Row.{Row}
use Rattle.gi_pairs.specs.declared.join_fault.JoinFault.TheVariants.{Overlap, TooMany}
use Rattle.gi_pairs.proofs.Building.{in_order-sorted}
use Rattle.gi_pairs.proofs.TableLaws.{in_order-permutation}

pub joined_twins : (first last most : ℕ) (rows : List Row) → repeats (keys_of rows) ≡ true → Err Overlap ≡ joined first last most rows
unfolding joined join_refusal
joined_twins first last most rows twins = rw twins refl

pub joined_many : (first last most : ℕ) (rows : List Row) → repeats (keys_of rows) ≡ false → nat_lt most (length rows) ≡ true → Err TooMany ≡ joined first last most rows
unfolding joined join_refusal
joined_many first last most rows twins count = rw (twins, count) refl

pub joined_table : (first last most : ℕ) (rows : List Row) → repeats (keys_of rows) ≡ false → nat_lt most (length rows) ≡ false
    → Ok (record { first = first; last = last; rows = in_order rows }) ≡ joined first last most rows
unfolding joined join_refusal
joined_table first last most rows twins count = rw (twins, count) refl

-- what the rows of several parts make is a table
pub is_joined : (first last most : ℕ) (rows : List Row) → 1 ≤ first → first ≤ last → last ≤ last_hour → All IsRow rows
    → All (λ (row : Row). length row.hours ≡ covered first last) rows → most ≤ most_rows → repeats (keys_of rows) ≡ false → length rows ≤ most
    → IsTable (record { first = first; last = last; rows = in_order rows })
is_joined first last most rows begins ordered ends all whole limit twins few =
    let moved = in_order-permutation rows in
    record {
      begins = begins;
      ordered = ordered;
      ends = ends;
      few = omega (arith, length_permutation rows (in_order rows) moved, few, limit);
      all = All-permutation IsRow rows (in_order rows) moved all;
      whole = All-permutation (λ (row : Row). length row.hours ≡ covered first last) rows (in_order rows) moved whole;
      sorted = in_order-sorted rows twins;
    }
