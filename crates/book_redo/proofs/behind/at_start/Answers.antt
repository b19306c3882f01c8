use Rattle.std.proofs.Common.{◌∙◌, sym, refl}
use Rattle.book_redo.proofs.behind.at_start.Goals as goal

pub returns : goal.returns
returns c = record { present = sym c.in_ok-place.ensures ∙ sym c.in_ok-script.ensures; links_are = refl; none = refl }
