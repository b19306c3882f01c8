-- Rows of what histories are made of, each caller being its entry's number.
use Rattle.std.specs.Prelude.{◌≡◌, ℕ, [], ◌∷◌, refl}
use Rattle.shelf_lock.specs.Order.{made_by, longer, entry_limit}

-- an entry is a number, which is that of its caller
abbrev self : ℕ → ℕ
self e = e

-- the entries of a caller are found among those of others
own_entries : made_by self 1 (1 ∷ 2 ∷ 1 ∷ 0 ∷ []) ≡ 1 ∷ 1 ∷ []
own_entries = refl

-- a caller without an entry has none
no_entries : made_by self 3 (1 ∷ 2 ∷ 1 ∷ 0 ∷ []) ≡ []
no_entries = refl

-- of two histories the longer one is known
the_longer : longer {E = ℕ} (1 ∷ []) (1 ∷ 2 ∷ []) ≡ 1 ∷ 2 ∷ []
the_longer = refl

-- a history is known further where the other one is a front of it
its_own_where_it_is_longer : longer {E = ℕ} (1 ∷ 2 ∷ []) (1 ∷ []) ≡ 1 ∷ 2 ∷ []
its_own_where_it_is_longer = refl

-- a lock counts entries up to 2^62
the_limit : entry_limit ≡ 4611686018427387904
the_limit = refl
