use Rattle.std.proofs.Common.{arith, ◌<◌, length, max, string_bytes}
use Rattle.gi_serving.specs.Making.{offices_of}
use Rattle.gi_pairs.specs.declared.side.Side.TheVariants.{I, M}
use Rattle.gi_serving.proofs.Faulting.{both_then, tells_then}
use Rattle.gi_serving.proofs.Places.{same_again, still_some}
use Rattle.gi_serving.proofs.Walking.{first_saved}
use Rattle.gi_serving.proofs.serving.made_and_saved.Goals as goal

pub turns-requires-clause-ours : goal.turns-requires-clause-ours
turns-requires-clause-ours g c =
    let old = c.args.both.now.initiating.seats.items in
    let some : 0 < length old = omega (arith, c.requires.ours) in
    still_some old c.made.new.both.initiating.seats.items c.in-Ok.ensures.ours some

pub turns-requires-clause-theirs : goal.turns-requires-clause-theirs
turns-requires-clause-theirs g c =
    let old = c.args.both.now.matching.seats.items in
    let some : 0 < length old = omega (arith, c.requires.theirs) in
    still_some old c.made.new.both.matching.seats.items c.in-Ok.ensures.theirs some

pub returns-in-Ok-turns-clause-ours : goal.returns-in-Ok-turns-clause-ours
returns-in-Ok-turns-clause-ours g c =
    same_again c.args.both.now.initiating.seats.items c.made.new.both.initiating.seats.items c.turns.new.self.initiating.seats.items c.in-Ok.ensures.ours c.turns.ensures.ours

pub returns-in-Ok-turns-clause-theirs : goal.returns-in-Ok-turns-clause-theirs
returns-in-Ok-turns-clause-theirs g c =
    same_again c.args.both.now.matching.seats.items c.made.new.both.matching.seats.items c.turns.new.self.matching.seats.items c.in-Ok.ensures.theirs c.turns.ensures.theirs

pub returns-in-Ok-turns-clause-made : goal.returns-in-Ok-turns-clause-made
returns-in-Ok-turns-clause-made g c =
    let old = offices_of c.args.both.now.initiating c.args.both.now.matching in
    let between = offices_of c.made.new.both.initiating c.made.new.both.matching in
    let new = offices_of c.turns.new.self.initiating c.turns.new.self.matching in
    first_saved c.args.both.now.sessions c.args.lines.now (max c.args.batch 1) old between new (string_bytes c.in-Ok.said) c.in-Ok.ensures.made c.in-Ok-turns.ensures.saves

pub returns-in-Ok-turns-clause-well : goal.returns-in-Ok-turns-clause-well
returns-in-Ok-turns-clause-well g c =
    both_then (g.B.Turns.takes I) (g.C.Turns.takes M) c.args.both.now.initiating.book c.made.new.both.initiating.book c.turns.new.self.initiating.book
    c.args.both.now.matching.book c.made.new.both.matching.book c.turns.new.self.matching.book c.in-Ok.ensures.well c.in-Ok-turns.ensures.well

pub returns-in-Err-turns-clause-tells : goal.returns-in-Err-turns-clause-tells
returns-in-Err-turns-clause-tells g c =
    tells_then (g.B.Turns.takes I) (g.C.Turns.takes M) c.args.both.now.initiating.book c.made.new.both.initiating.book c.turns.new.self.initiating.book
    c.args.both.now.matching.book c.made.new.both.matching.book c.turns.new.self.matching.book c.in-Err-turns.fault c.in-Ok.ensures.well c.in-Err-turns.ensures.tells
