use Rattle.test_sites.proofs.FirstPasses.{all_own}
use Rattle.test_sites.proofs.threads.noted.Goals as goal

pub visitors_of-requires : goal.visitors_of-requires
visitors_of-requires g c = all_own c.passes.new.self c.in_ok-passes.passes.items c.in_ok-passes.ensures.passes
