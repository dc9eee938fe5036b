use Rattle.std.proofs.lemmas.List.Sums.{fold-append}
use Rattle.gi_store.specs.Digests.{first_link, next_link}
use Rattle.gi_store.proofs.chain.digest_goes_on.Goals as goal

pub returns : goal.returns
returns c = fold-append next_link first_link c.args.front.now c.args.rest.now
