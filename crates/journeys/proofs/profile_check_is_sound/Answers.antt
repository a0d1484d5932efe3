use Rattle.journeys.proofs.Profiled.{profile_sound}
use Rattle.journeys.proofs.profile_check_is_sound.Goals as goal

pub returns : goal.returns
returns c = profile_sound
