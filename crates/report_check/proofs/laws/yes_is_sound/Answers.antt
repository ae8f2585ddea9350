use Rattle.report_check.proofs.Sound.{yes_is_sound}
use Rattle.report_check.proofs.laws.yes_is_sound.Goals as goal

pub returns : goal.returns
returns c = yes_is_sound
