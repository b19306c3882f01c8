use Rattle.std.proofs.Common.{◌∙◌}
use Rattle.frame_codec.specs.PartedViews.{parted_of}
use Rattle.kept_states.proofs.Read.{alone_back}
use Rattle.kept_states.proofs.form.Form.read_alone.Goals as goal

pub returns-in_ok-read_front-in-Spelled : goal.returns-in_ok-read_front-in-Spelled
returns-in_ok-read_front-in-Spelled c =
    let a = c.args.script.now in
    rw c.in-Spelled.is (λ d of is. c.in_ok-read_front-in-Spelled.ensures ∙ alone_back a c.args.need d (parted_of c.in-Spelled.parts) of is.0 is.1)
