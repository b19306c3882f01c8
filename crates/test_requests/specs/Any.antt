-- The rules of tests: whatever is answered is well.
use Rattle.std.specs.Prelude.{⊤}
use Rattle.http_forms.specs.Passes.{PassRules}

-- rules by which each visit and each tick is in order, for tests
abbrev pub any_rules : {P : Type 0} → PassRules P
any_rules = record { IsOwn = λ _. ⊤; Visits = λ _ _ _ _ _. ⊤; Ticks = λ _ _ _ _. ⊤ }
