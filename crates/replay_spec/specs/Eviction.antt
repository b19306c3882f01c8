-- Which pages of an instance go for a new one.
use Rattle.std.specs.Prelude.{ℕ, zero, suc, ◌+◌, ◌-◌, ◌==◌, not, List, [], ◌∷◌, length, filter, nat_lt, if◌then◌else◌}
use Rattle.replay_spec.specs.Book.{Use}
use Rattle.replay_spec.specs.Change.{used_by}

-- of a use and others, the one whose last number is the least; of several such the first
abbrev pub least : Use → List Use → Use
least u [] = u
least u (v ∷ vs) = if nat_lt v.last u.last then least v vs else least u vs

-- the uses without that of the page of this number
abbrev pub but : ℕ → List Use → List Use
but n us = filter (λ u. not (u.page == n)) us

-- so many pages of these uses, the least used first
abbrev pub least_used : ℕ → List Use → List ℕ
least_used zero us = []
least_used (suc k) [] = []
least_used (suc k) (u ∷ us) = let v = least u us in v.page ∷ least_used k (but v.page (u ∷ us))

-- how many pages have to go, so that with one more there are no more than the limit
abbrev pub too_many : (limit : ℕ) → List Use → ℕ
too_many limit us = (length us + 1) - limit

-- the pages that go where the segment of this number answers a page and shows one
abbrev pub goes_for : (limit : ℕ) → (page number : ℕ) → List Use → List ℕ
goes_for limit p n us = let now = used_by p n us in least_used (too_many limit now) now
