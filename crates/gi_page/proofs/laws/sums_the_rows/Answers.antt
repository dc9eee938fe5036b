use Rattle.gi_page.proofs.LawLemmas.{sums_the_rows}
use Rattle.gi_page.proofs.laws.sums_the_rows.Goals as goal

pub returns : goal.returns
returns c = sums_the_rows
