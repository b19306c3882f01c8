use Rattle.web_cells.specs.Places.{Below}
use Rattle.web_cells.proofs.shades.place_of.Given as goal

abbrev pub invariant-loop-place : goal.invariant-loop-place
invariant-loop-place l = Below l.cell l.place l.shadows
