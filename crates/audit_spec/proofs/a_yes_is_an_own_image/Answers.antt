use Rattle.audit_spec.proofs.OwnImage as laws
use Rattle.audit_spec.proofs.a_yes_is_an_own_image.Goals as goal

pub returns : goal.returns
returns c = laws.own_image
