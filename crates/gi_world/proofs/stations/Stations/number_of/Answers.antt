use Rattle.std.proofs.Common.{◌≡◌, None, Some, ◌∙◌, ap, rules, subst, sym}
use Rattle.std.specs.List.{position}
use Rattle.gi_world.specs.World.{IsNumberOf, has_bytes}
use Rattle.gi_world.proofs.Numbers.{numbered, unnumbered}
use Rattle.gi_world.proofs.stations.Stations.number_of.Goals as goal

pub returns-in_err-place : goal.returns-in_err-place
returns-in_err-place c =
    let none : c.place_of.result ≡ None = search rules in
    let gives : c.from_residual.result ≡ None = search rules in
    subst (IsNumberOf c.args.self.now c.args.side c.args.bytes.now) (sym gives)
    (unnumbered _ c.args.bytes.now (ap (position (has_bytes c.args.bytes.now)) (sym c.sent_to.ensures) ∙ sym c.place_of.ensures ∙ none))

pub returns : goal.returns
returns c =
    let some : c.place_of.result ≡ Some c.in_ok-place.place = search rules in
    numbered _ c.args.bytes.now c.in_ok-place.place (ap (position (has_bytes c.args.bytes.now)) (sym c.sent_to.ensures) ∙ sym c.place_of.ensures ∙ some)
