use Rattle.std.specs.Prelude.{true}
use Rattle.script_value.specs.Views.{meaning}
use Rattle.page_names.specs.Views.{target_of}
use Rattle.disk_trio.specs.Trio.{trio_view}
use Rattle.web_outside.specs.Counted.{counted}
use Rattle.site.proofs.Seats.{takes_holds}
use Rattle.test_sites.proofs.passes.taken.Goals as goal

pub returns-in-Ok-clause-held : goal.returns-in-Ok-clause-held
returns-in-Ok-clause-held g c =
    takes_holds trio_view true counted c.args.pass.now c.take.new.pass (target_of c.args.target.now) (meaning c.in_ok-answer.answer) c.in-Ok.ticket c.in-Ok.ensures.took
