-- One effect more.
use Rattle.std.proofs.Common.{ℕ, ◌<◌, List, [], ◌∷◌, ◌++◌}
use Rattle.script_value.specs.Val.{Val}
use Rattle.instance_cells.specs.Cells.{Effect, cell_of, cell_at, landed, commit, Stands, Holds, AreOn}

-- effects that hold over cells go on to with one more that stands on what they make of its cell
pub holds_push : (es : List Effect) (e : Effect) (cells : List Val) → Holds es cells → Stands e (cell_at (commit es cells) (cell_of e)) → Holds (es ++ e ∷ []) cells
holds_push [] e cells h s = (s, tt)
holds_push (d ∷ es) e cells h s = (h.0, holds_push es e (landed d cells) h.1 s)

-- effects that are on so many cells go on to be with one more that is
pub on_push : (n : ℕ) (es : List Effect) (e : Effect) → AreOn n es → cell_of e < n → AreOn n (es ++ e ∷ [])
on_push n [] e on h = (h, tt)
on_push n (d ∷ es) e on h = (on.0, on_push n es e on.1 h)
