use Rattle.gi_command_line.specs.Asked.{quantity_words}
use Rattle.gi_commands.proofs.ExplainingLemmas.{asks-of_parts}
use Rattle.gi_commands.proofs.explaining.question.Goals as goal

pub returns-clause-asked : goal.returns-clause-asked
returns-clause-asked c =
    asks-of_parts (quantity_words c.args.words) c.in-Ok.day c.in_ok-initiating.initiating c.in_ok-matching.matching
    c.in_ok-initiating.ensures c.in_ok-matching.ensures c.in-Ok.ensures.exact
