use Rattle.audit_spec.proofs.Lawful as laws
use Rattle.audit_spec.proofs.a_yes_makes_sound_books.Goals as goal

pub returns : goal.returns
returns c = laws.sound_books c.records_are_exact.ensures
