-- The ranges of a shelf's limits.
use Rattle.std.specs.Prelude.{ℕ, ◌<◌}
use Rattle.server_limits.specs.Limits.{AreShelves, IsFuel, IsLife, AreInstances, ArePages}
use Rattle.shelf.specs.declared.rules.Rules.{Rules}

-- the rules of a shelf are within the limits of the options
pub record AreInRange (r : Rules) : Type 0 where
  pub number : r.number < r.shelves
  pub shelves : AreShelves r.shelves
  pub fuel : IsFuel r.fuel
  pub life : IsLife r.life
  pub instances : AreInstances r.instances
  pub pages : ArePages r.pages

-- These limits, for the shelf of this number.
abbrev pub numbered : Rules → (number : ℕ) → Rules
numbered rules number = record rules { number = number }
