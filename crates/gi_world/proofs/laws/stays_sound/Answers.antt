use Rattle.gi_world.proofs.Soundness.{step-sound}
use Rattle.gi_world.proofs.laws.stays_sound.Goals as goal

pub returns : goal.returns
returns c = step-sound
