use Rattle.std.proofs.Common.{◌≡◌, ◌≤◌, ◌++◌, drop, length, map}
use Rattle.std.specs.Vec.{vec_len, vec_capacity}
use Rattle.script_nodes.specs.Views.{library_of}
use Rattle.site.specs.Beginnings.{libraries_of}
use Rattle.site.proofs.begin.copies.Given as goal

abbrev pub invariant-loop-shelf : goal.invariant-loop-shelf
invariant-loop-shelf g l = record {
  told : map library_of l.libraries.items ++ libraries_of {D = g.row.D.Denot} {N = g.row.N.Denot} (drop l.shelf-index l.shelves) ≡ libraries_of {D = g.row.D.Denot} {N = g.row.N.Denot} l.shelves;
  many : vec_len l.libraries ≡ l.shelf-index;
  room : length l.shelves ≤ vec_capacity l.libraries;
}
