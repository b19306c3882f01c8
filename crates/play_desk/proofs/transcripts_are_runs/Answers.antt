use Rattle.play_desk.proofs.Transcribed as laws
use Rattle.play_desk.proofs.transcripts_are_runs.Goals as goal

pub returns : goal.returns
returns c = laws.transcripts_are_runs
