use Rattle.std.proofs.Common.{◌≡◌, ap, List, [], ℕ, inl, inr}
use Rattle.clap.proofs.OnLiterals.{clap_on_literals}
use Rattle.gi_command_line.specs.Asked.{at_once, match_tables}
use Rattle.gi_command_line.specs.CommandLine.{MeansMatch, asked, objections}
use Rattle.gi_command_line.proofs.laws.match_is_taken.Goals as goal

no_objection : (words : List (List ℕ)) → MeansMatch words → objections words ≡ []
unfolding clap_on_literals
no_objection words (program, inl alone) = ap objections alone
no_objection words (program, inr named) = ap objections named

asks : (words : List (List ℕ)) → MeansMatch words → asked words ≡ at_once match_tables
unfolding clap_on_literals
asks words (program, inl alone) = ap asked alone
asks words (program, inr named) = ap asked named

pub returns : goal.returns
returns c = λ words means. (no_objection words means, asks words means)
