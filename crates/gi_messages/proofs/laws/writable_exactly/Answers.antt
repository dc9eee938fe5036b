use Rattle.gi_messages.proofs.WritingLemmas.{fits_from_writable, writable_from_fits}
use Rattle.gi_messages.proofs.laws.writable_exactly.Goals as goal

pub returns : goal.returns
returns c = λ m. (fits_from_writable m, writable_from_fits m)
