use Rattle.gi_audit.proofs.FirstPlaces.{differing-have-a-place, place-is-first}
use Rattle.gi_audit.proofs.ToldPlaces.{another-has-a-place}
use Rattle.gi_audit.proofs.laws.a_difference_has_its_place.Goals as goal

pub returns-clause-has : goal.returns-clause-has
returns-clause-has c = differing-have-a-place

pub returns-clause-first : goal.returns-clause-first
returns-clause-first c = place-is-first

pub returns-clause-told : goal.returns-clause-told
returns-clause-told c = another-has-a-place
