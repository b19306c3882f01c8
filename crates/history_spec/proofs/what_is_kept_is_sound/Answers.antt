use Rattle.history_spec.proofs.Keeping as laws
use Rattle.history_spec.proofs.what_is_kept_is_sound.Goals as goal

pub returns : goal.returns
returns c = laws.kept_sound
