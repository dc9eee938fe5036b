-- When moves are equal, and their words.
use Rattle.std.specs.Prelude.{ℕ, List, Bool, nat_eq, codes}
use Rattle.std.specs.Ordering.{on}
use Rattle.gi_carrier.specs.declared.moves.Move.{Move}
use Rattle.gi_carrier.specs.declared.moves.Move.TheVariants.{Pass, Drop, Repeat, Hold}

-- the place of a move among the four
abbrev pub place_of : Move → ℕ
place_of Pass = 0
place_of Drop = 1
place_of Repeat = 2
place_of Hold = 3

abbrev pub move_eq : Move → Move → Bool
move_eq = on place_of nat_eq

-- the word of a move, in a plan and in what is printed
abbrev pub move_text : Move → List ℕ
move_text Pass = codes "pass"
move_text Drop = codes "drop"
move_text Repeat = codes "repeat"
move_text Hold = codes "hold"
