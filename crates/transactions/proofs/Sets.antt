-- One more name in a set and in a list.
use Rattle.std.proofs.Common.{◌≡◌, ◌∙◌, sym, ap, ℕ, true, cond, List, [], ◌∷◌, ◌++◌, arith}
use Rattle.std.specs.BTreeSet.{BTreeSet, contains_by}
use Rattle.std.specs.BTreeMap.{is_at}
use Rattle.std.specs.Ordering.{is_eq, ordering_then, nat_cmp}
use Rattle.std.proofs.lemmas.Bool.Decides.{nat_tests}
use Rattle.script_value.specs.declared.outcome.TxName.{TxName}
use Rattle.machine_states.specs.ReplaySpec.Names.{is_name, has}
use Rattle.transactions.specs.Sets.{compared, HasJust}

-- two names compare equal where they are the same
pub equal_names : (s t : TxName) → is_eq (compared s (t.ticket, t.entry)) ≡ is_name s t
equal_names s t = grind (arith, nat_tests)

pub has_behind : (t s : TxName) (names : List TxName) → has t (names ++ s ∷ []) ≡ cond (is_name s t) true (has t names)
has_behind t s [] = grind (arith, nat_tests)
has_behind t s (n ∷ names) = grind (arith, nat_tests, has_behind t s names)

pub one_more : (old new : BTreeSet (ℕ × ℕ)) (names : List TxName) (s : TxName) → HasJust old names
    → ((q : ℕ × ℕ) → contains_by (λ y. ordering_then (nat_cmp q.0 y.0) (nat_cmp q.1 y.1)) new
    ≡ cond (is_at (compared s) q) true (contains_by (λ y. ordering_then (nat_cmp q.0 y.0) (nat_cmp q.1 y.1)) old))
    → HasJust new (names ++ s ∷ [])
one_more old new names s just updates t =
    updates (t.ticket, t.entry)
    ∙ (ap (λ b. cond b true (contains_by (compared t) old)) (equal_names s t)
    ∙ (ap (cond (is_name s t) true) (just t) ∙ sym (has_behind t s names)))
