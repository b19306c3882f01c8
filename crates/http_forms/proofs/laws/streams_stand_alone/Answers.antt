use Rattle.http_forms.proofs.OneStream.{streams_stand_alone}
use Rattle.http_forms.proofs.laws.streams_stand_alone.Goals as goal

pub returns : goal.returns
returns c = streams_stand_alone
