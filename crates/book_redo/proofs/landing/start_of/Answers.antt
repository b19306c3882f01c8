use Rattle.std.proofs.Common.{◌∙◌, sym}
use Rattle.book_redo.proofs.landing.start_of.Goals as goal

pub returns : goal.returns
returns c = record { present = sym c.in_ok-place.ensures ∙ sym c.in_ok-script.ensures; told = sym c.in_ok-script.ensures }
