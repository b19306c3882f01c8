use Rattle.history_spec.proofs.Behind as laws
use Rattle.history_spec.proofs.books_behind_are_sound.Goals as goal

pub returns : goal.returns
returns c = laws.are_sound
