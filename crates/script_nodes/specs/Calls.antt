-- Which tasks a tree calls.
use Rattle.std.specs.Prelude.{ℕ, suc, ◌<◌, ⊤}
use Rattle.script_nodes.specs.Core.{Core, Cores, lit, var, bind, branch, repeat, prim, call, seq, and_all, or_any, send, finish, back, isolate, cell_ref, cell_shadow, inst_ref, inst_set, inst_add, no_cores, core}

-- each task that a tree calls is before the task of this number
abbrev mutual
  pub CallsBelow : ℕ → Core → Type 0
  CallsBelow n (lit v) = ⊤
  CallsBelow n (var k) = ⊤
  CallsBelow n (bind es b) = AllCallBelow n es × CallsBelow n b
  CallsBelow n (branch t a b) = CallsBelow n t × CallsBelow n a × CallsBelow n b
  CallsBelow n (repeat e b) = CallsBelow n e × CallsBelow n b
  CallsBelow n (prim o es) = AllCallBelow n es
  CallsBelow n (call k es) = (k < n) × AllCallBelow n es
  CallsBelow n (seq es) = AllCallBelow n es
  CallsBelow n (and_all es) = AllCallBelow n es
  CallsBelow n (or_any es) = AllCallBelow n es
  CallsBelow n (send kind b) = CallsBelow n b
  CallsBelow n (finish b) = CallsBelow n b
  CallsBelow n (back b) = CallsBelow n b
  CallsBelow n (isolate b) = CallsBelow n b
  CallsBelow n (cell_ref c) = ⊤
  CallsBelow n (cell_shadow c e) = CallsBelow n e
  CallsBelow n (inst_ref c) = ⊤
  CallsBelow n (inst_set c e) = CallsBelow n e
  CallsBelow n (inst_add c e) = CallsBelow n e

  -- each of these trees calls tasks below a number alone
  pub AllCallBelow : ℕ → Cores → Type 0
  AllCallBelow n no_cores = ⊤
  AllCallBelow n (core c cs) = CallsBelow n c × AllCallBelow n cs

-- bodies, from the task of this number on, that call earlier tasks alone
abbrev pub AreBelow : ℕ → Cores → Type 0
AreBelow n no_cores = ⊤
AreBelow n (core c cs) = CallsBelow n c × AreBelow (suc n) cs
