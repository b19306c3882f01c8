use Rattle.machine_states.proofs.Fitting.{each_fits}
use Rattle.machine_states.proofs.each_state_fits.Goals as goal

pub returns : goal.returns
returns c = each_fits
