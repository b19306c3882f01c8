use Rattle.http_forms.proofs.Fronts.{requests_are_fronts}
use Rattle.http_forms.proofs.Pieces.{came_visit, gives_visit}
use Rattle.http_forms.proofs.reader.RequestReader.next.Goals as goal

pub remove_front-requires : goal.remove_front-requires
remove_front-requires g c =
    (requests_are_fronts _ c.in_ok-ended.ended _
    (came_visit _ _ c.in_ok-ended.ended _ c.in-Visit.request c.in-Visit.is c.in_ok-request.ensures c.deref.ensures.value)).0

pub returns-in-Visit-clause-next : goal.returns-in-Visit-clause-next
returns-in-Visit-clause-next g c =
    gives_visit _ _ _ _ _ c.in_ok-ended.ended _ c.in_ok-ended.ensures.read.0
    (came_visit _ _ c.in_ok-ended.ended _ c.in-Visit.request c.in-Visit.is c.in_ok-request.ensures c.deref.ensures.value)
    c.remove_front.ensures
