use Rattle.std.proofs.Common.{length, ap, ◌∙◌}
use Rattle.std.proofs.lemmas.List.{length-map}
use Rattle.gi_reports.specs.Refused.{first_places, refused_counts}
use Rattle.gi_commands.specs.Contents.{portfolios_in}
use Rattle.gi_commands.proofs.contents.portfolios.Goals as goal

pub returns : goal.returns
unfolding portfolios_in refused_counts
returns c =
    ap length (c.as_slice.ensures.value ∙ (c.in_ok-counts.ensures ∙ ap refused_counts (c.deref.ensures.value ∙ c.in_ok-contracted.ensures))) ∙ length-map (first_places _) _
