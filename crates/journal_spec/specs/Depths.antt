-- How deep values nest that a run works on.
use Rattle.std.specs.Prelude.{◌≤◌, List, [], ◌∷◌, ⊤}
use Rattle.std.specs.List.{AllByRecursion}
use Rattle.script_value.specs.Val.{Val, depth}
use Rattle.instance_cells.specs.Cells.{Effect, read, set, add}
use Rattle.script_nodes.specs.Core.{Core, Cores, lit, var, bind, seq, branch, and_all, or_any, repeat, prim, call, send, finish, back, isolate, cell_ref, cell_shadow, inst_ref, inst_set, inst_add, no_cores, core}
use Rattle.script_nodes.specs.Setup.{Script, trees_of}
use Rattle.value_bytes.specs.Spelling.{most_levels}
use Rattle.replay_spec.specs.Tape.{Reads, recorded, present, Answer, Tape}
use Rattle.replay_spec.specs.Eval.{run}

-- a value is shallow: it nests no deeper than one may that is written
abbrev pub IsShallow : Val → Type 0
IsShallow v = depth v ≤ most_levels

-- all of these values are shallow
abbrev pub AreShallow : List Val → Type 0
AreShallow vs = AllByRecursion IsShallow vs

-- the literals of an expression are shallow
abbrev mutual
  pub HasShallow : Core → Type 0
  HasShallow (lit v) = IsShallow v
  HasShallow (var k) = ⊤
  HasShallow (bind es b) = HaveShallow es × HasShallow b
  HasShallow (branch t a b) = HasShallow t × HasShallow a × HasShallow b
  HasShallow (repeat n b) = HasShallow n × HasShallow b
  HasShallow (prim o es) = HaveShallow es
  HasShallow (call k es) = HaveShallow es
  HasShallow (seq es) = HaveShallow es
  HasShallow (and_all es) = HaveShallow es
  HasShallow (or_any es) = HaveShallow es
  HasShallow (send kind b) = HasShallow b
  HasShallow (finish b) = HasShallow b
  HasShallow (back b) = HasShallow b
  HasShallow (isolate b) = HasShallow b
  HasShallow (cell_ref c) = ⊤
  HasShallow (cell_shadow c e) = HasShallow e
  HasShallow (inst_ref c) = ⊤
  HasShallow (inst_set c e) = HasShallow e
  HasShallow (inst_add c e) = HasShallow e

  -- the literals of each of these expressions are shallow
  pub HaveShallow : Cores → Type 0
  HaveShallow no_cores = ⊤
  HaveShallow (core c cs) = HasShallow c × HaveShallow cs

-- a script's web cells and the literals of its trees are shallow
pub record IsShallowScript (s : Script) : Type 0 where
  pub web : AreShallow s.web
  pub trees : HaveShallow (trees_of s)

-- what a segment reads is shallow
abbrev pub AreShallowReads : Reads → Type 0
AreShallowReads (recorded vs) = AreShallow vs
AreShallowReads (present cells fuel) = AreShallow cells

-- answers, and what the segments after them read, are shallow
abbrev pub AreShallowAnswers : List Answer → Type 0
AreShallowAnswers [] = ⊤
AreShallowAnswers (a ∷ later) = IsShallow a.value × AreShallowReads a.segment.reads × AreShallowAnswers later

-- the value that an effect read or set is shallow
abbrev pub IsShallowEffect : Effect → Type 0
IsShallowEffect (read c v) = IsShallow v
IsShallowEffect (set c v) = IsShallow v
IsShallowEffect (add c n) = ⊤

-- A run over shallow values reads and writes shallow values.
abbrev pub RunsStayShallow : Type 0
RunsStayShallow =
    (s : Script) (t : Tape) → IsShallowScript s → AreShallowReads t.first.reads → AreShallowAnswers t.later
    → AllByRecursion IsShallowEffect (run s t).effects
