-- What the functions that make the lesser answer.
use Rattle.std.proofs.Common.{◌≡◌, ℕ, ◌≤◌, length, List, Result, Ok, Err, IsOk, sym, ◌∙◌, rules, subst}
use Rattle.gi_pairs.specs.Limits.{most_processed_rows}
use Rattle.gi_pairs.specs.Table.{IsTable, TableContents, built}
use Rattle.gi_pairs.specs.declared.table.TableFault.{TableFault}
use Rattle.gi_pairs.specs.declared.row.Row.{Row}
use Rattle.gi_lesser.specs.Lesser.{HasShapeOf, IsLesser, lesser_of}
use Rattle.gi_lesser.specs.Walk.{lesser_rows}
use Rattle.gi_lesser.proofs.LesserLaws.{AreMatched, lesser_of-IsLesser}
use Rattle.gi_lesser.proofs.WalkTable.{built-walked}

pub matched : (own peer : TableContents) → IsTable own → IsTable peer → HasShapeOf own peer → length own.rows ≤ most_processed_rows → length peer.rows ≤ most_processed_rows → AreMatched own peer
matched own peer a b shape own_few peer_few = record { own_table = a; peer_table = b; shape = shape; own_few = own_few; peer_few = peer_few }

-- the lesser of their rows makes the lesser
pub made : (own peer : TableContents) (first last : ℕ) (rows : List Row) (r : Result TableContents TableFault) → AreMatched own peer
    → first ≡ own.first → last ≡ own.last → rows ≡ lesser_rows own.rows peer.rows → r ≡ built first last rows → r ≡ Ok (lesser_of own peer)
made own peer first last rows r m from to walked exact = exact ∙ built-walked own peer first last rows m from to walked

pub ok_is : (r : Result TableContents TableFault) (t : TableContents) → r ≡ Ok t → IsOk r
ok_is (Ok x) t e = search rules
ok_is (Err f) t e = cc

pub same_ok : (x y : TableContents) (r : Result TableContents TableFault) → r ≡ Ok x → r ≡ Ok y → x ≡ y
same_ok x y r here there = cc

pub lesser_is : (own peer t : TableContents) → AreMatched own peer → t ≡ lesser_of own peer → IsLesser own peer t
lesser_is own peer t m e = subst (λ (u : TableContents). IsLesser own peer u) (sym e) (lesser_of-IsLesser own peer m)
