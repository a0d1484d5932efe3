use Rattle.journeys.proofs.Profiled.{profile_checked}
use Rattle.journeys.proofs.profiles_are_checked.Goals as goal

pub returns : goal.returns
returns c = profile_checked
