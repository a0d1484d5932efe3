use Rattle.journeys.proofs.Checking.{check_sound}
use Rattle.journeys.proofs.check_is_sound.Goals as goal

pub returns : goal.returns
returns c = check_sound
