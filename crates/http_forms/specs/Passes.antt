-- What a visit and a tick do to a pass.
use Rattle.std.specs.Prelude.{ℕ, List, [], ◌∷◌, Vec, Result, Ok, Err, ⊤}
use Rattle.std.specs.declared.alloc.Global.{Global}
use Rattle.std.specs.declared.alloc.AllocError.{AllocError}
use Rattle.script_value.specs.Val.{Val}
use Rattle.script_value.specs.declared.outcome.Reply.{Reply}
use Rattle.page_names.specs.Names.{Destination}

-- what each shelf answers to a tick, in their order, or that there was no memory for their list
abbrev pub Swept : Type 0
Swept = Result (List (Result ℕ Reply)) AllocError

-- What a service does to its passes: which are its own; a visit, by the pass before it, the destination, the answer, the reply and the
-- pass after it; and a tick, by the pass before it, the tick, what the shelves answer and the pass after it.
pub record PassRules (Pass : Type 0) : Type 1 where
  pub IsOwn : Pass → Type 0
  pub Visits : Pass → Destination → Val → Reply → Pass → Type 0
  pub Ticks : Pass → ℕ → Swept → Pass → Type 0

-- what the shelves answer to a tick, where a vector has the answers
abbrev pub swept : Result (Vec (Result ℕ Reply) Global) AllocError → Swept
swept (Ok answers) = Ok answers.items
swept (Err e) = Err e

-- each shelf answered with how many instances it freed, and none refused
abbrev pub AreSwept : List (Result ℕ Reply) → Type 0
AreSwept [] = ⊤
AreSwept (Ok freed ∷ answers) = AreSwept answers
AreSwept (Err reply ∷ answers) = ⊥

-- a tick at this time that no shelf refuses meets the rule where nothing is done to the pass, so it may be left out
abbrev pub MaySkip : {P : Type 0} → PassRules P → P → ℕ → Type 0
MaySkip rules pass tick = (answers : List (Result ℕ Reply)) × AreSwept answers × rules.Ticks pass tick (Ok answers) pass

-- each tick that might be left out before may be left out after
abbrev pub KeepsSkips : {P : Type 0} → PassRules P → (old new : P) → Type 0
KeepsSkips rules old new = (tick : ℕ) → MaySkip rules old tick → MaySkip rules new tick
