-- A set of transactions beside their list.
use Rattle.std.specs.Prelude.{◌≡◌, ℕ, List}
use Rattle.std.specs.BTreeSet.{BTreeSet, contains_by}
use Rattle.std.specs.declared.cmp.Ordering.{Ordering}
use Rattle.std.specs.Ordering.{ordering_then, nat_cmp}
use Rattle.script_value.specs.declared.outcome.TxName.{TxName}
use Rattle.machine_states.specs.ReplaySpec.Names.{has}

-- how a name compares to a pair of numbers: by its ticket, and then by its entry
abbrev pub compared : TxName → ℕ × ℕ → Ordering
compared t pair = ordering_then (nat_cmp t.ticket pair.0) (nat_cmp t.entry pair.1)

-- the set has just the names of the list
abbrev pub HasJust : BTreeSet (ℕ × ℕ) → List TxName → Type 0
HasJust set names = (t : TxName) → contains_by (compared t) set ≡ has t names
