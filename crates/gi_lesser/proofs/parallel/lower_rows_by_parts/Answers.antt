use Rattle.std.proofs.Common.{◌≡◌, ◌∙◌, ◌<◌, List, Vec, Global, ap, arith, length, sym}
use Rattle.std.specs.List.{flat_map}
use Rattle.std.proofs.lemmas.List.Folds.{flat_map-map}
use Rattle.std.proofs.lemmas.Bool.Decides.{nat_tests}
use Rattle.std.proofs.lemmas.Result.{IfOk-weaker}
use Rattle.gi_pairs.specs.declared.row.Row.{Row}
use Rattle.gi_lesser.specs.Walk.{lesser_rows}
use Rattle.gi_lesser.proofs.PartLaws.{parts_are_whole}
use Rattle.gi_lesser.proofs.parallel.lower_rows_by_parts.Goals as goal

pub returns : goal.returns
returns g c =
    let parts = c.in_ok-parts.parts.items in
    let some : 0 < length c.args.ours.now = grind (arith, nat_tests) in
    let whole = sym (flat_map-map (λ (l : List Row). l) (λ (part : Vec Row Global). part.items) parts)
    ∙ ap (flat_map (λ (l : List Row). l)) c.in_ok-parts.ensures
    ∙ sym (parts_are_whole c.args.ours.now c.args.theirs.now c.requires.ours c.requires.theirs some) in
    IfOk-weaker c.gather.result (λ (v : Vec Row Global). v.items ≡ flat_map (λ (part : Vec Row Global). part.items) parts) (λ v. v.items ≡ lesser_rows c.args.ours.now c.args.theirs.now) (λ v e. e ∙ whole) c.gather.ensures
