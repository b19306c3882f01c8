use Rattle.std.proofs.Common.{◌∙◌, ap, Option, option_map, sym}
use Rattle.frame_codec.specs.DeltaViews.{delta_of}
use Rattle.frame_codec.specs.PartedViews.{parted_of}
use Rattle.frame_codec.specs.declared.difference.Delta.{Delta}
use Rattle.kept_states.proofs.Read.{behind_back, behind_found}
use Rattle.kept_states.proofs.form.Form.read_behind.Goals as goal

pub returns-in-Some : goal.returns-in-Some
returns-in-Some c =
    let a = c.args.script.now in
    let read = ap (λ (o : Option Delta). option_map delta_of o) (sym c.in-Some.is) ∙ c.in_ok-delta-in-Spelled.ensures in
    rw c.in-Spelled.is (λ p d rise of is.
    behind_back a c.args.need p d (parted_of c.in-Spelled.parts) is.1.0 (delta_of c.in-Some.delta) rise of is.0 is.1.1.0 is.1.1.1 read)

pub returns-in-None : goal.returns-in-None
returns-in-None c =
    let a = c.args.script.now in
    let none = ap (λ (o : Option Delta). option_map delta_of o) (sym c.in-None.is) ∙ c.in_ok-delta-in-Spelled.ensures in
    rw c.in-Spelled.is (λ p d rise of is. absurd (behind_found a c.args.need p d (parted_of c.in-Spelled.parts) is.1.0 of is.0 is.1.1.0 is.1.1.1 none))
