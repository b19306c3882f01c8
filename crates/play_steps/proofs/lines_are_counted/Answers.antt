use Rattle.play_steps.proofs.Spelled as laws
use Rattle.play_steps.proofs.lines_are_counted.Goals as goal

pub returns : goal.returns
returns c = laws.lines_are_counted
