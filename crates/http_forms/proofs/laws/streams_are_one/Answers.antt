use Rattle.http_forms.proofs.OneStream.{cut_streams_are_fronts, streams_are_one}
use Rattle.http_forms.proofs.laws.streams_are_one.Goals as goal

pub returns-clause-one : goal.returns-clause-one
returns-clause-one c = streams_are_one

pub returns-clause-front : goal.returns-clause-front
returns-clause-front c = cut_streams_are_fronts
