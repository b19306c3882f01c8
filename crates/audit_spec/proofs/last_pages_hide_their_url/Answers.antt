use Rattle.audit_spec.proofs.Nonces as laws
use Rattle.audit_spec.proofs.last_pages_hide_their_url.Goals as goal

pub returns : goal.returns
returns c = laws.hides_url
