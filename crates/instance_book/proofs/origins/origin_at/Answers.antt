use Rattle.std.proofs.Common.{ap, sym, subst, Some}
use Rattle.script_nodes.specs.Arena.{Arena}
use Rattle.kept_states.specs.MachineStates.Views.{suspended_of}
use Rattle.kept_states.specs.MachineStates.Fits.{Fits}
use Rattle.kept_states.specs.FrameCodec.Stored.{IsStored}
use Rattle.instance_book.proofs.Behind.{arena_again}
use Rattle.instance_book.proofs.origins.origin_at.Goals as goal

pub returns-clause-fits : goal.returns-clause-fits
returns-clause-fits c =
    subst (λ (a : Arena). Fits a (suspended_of c.in_ok-state_of.field-0)) (sym (arena_again c.args.script.now.script c.root-root.ensures.script)) c.in_ok-state_of.ensures.stored.fits

pub returns-clause-stored : goal.returns-clause-stored
returns-clause-stored c =
    subst (λ (a : Arena). IsStored a (suspended_of c.in_ok-state_of.field-0)) (sym (arena_again c.args.script.now.script c.root-root.ensures.script)) c.in_ok-state_of.ensures.stored

pub returns-clause-origin : goal.returns-clause-origin
returns-clause-origin c = λ are. ap Some (sym (c.in_ok-state_of.ensures.state are))
