use Rattle.std.proofs.Common.{ap, sym, ◌∙◌}
use Rattle.std.specs.Option.{option_copied}
use Rattle.gi_day.specs.Cycles.{hour_count}
use Rattle.gi_nominations.specs.Lines.{lines_fault}
use Rattle.gi_processing.proofs.processing.add_portfolio.Goals as goal

pub add_rows-requires-clause-sound : goal.add_rows-requires-clause-sound
add_rows-requires-clause-sound c =
    let document = c.in-Some.document.now in
    let held = sym c.in_force.ensures.value ∙ ap option_copied c.in-Some.is in
    ap (lines_fault (hour_count c.args.span.now.day)) c.as_slice.ensures ∙ (c.requires.sound c.args.portfolio document held).lines
