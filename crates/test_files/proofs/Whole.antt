-- The file that takes the place of another one.
use Rattle.std.proofs.Common.{ℕ, zero, suc, ◌<◌, ◌≤◌, List, [], ◌∷◌, length, get_or, refl, arith}
use Rattle.page_journal.specs.Replacing.{IsWholeFile}

-- the records of that file
abbrev pub bodies : List (List ℕ)
bodies = (120 ∷ 121 ∷ 122 ∷ []) ∷ [] ∷ []

-- that file
abbrev pub next : List ℕ
next = 75 ∷ 83 ∷ 87 ∷ 69 ∷ 66 ∷ 0 ∷ 0 ∷ 6 ∷ 1 ∷ 3 ∷ 0 ∷ 0 ∷ 0 ∷ 120 ∷ 121 ∷ 122 ∷ 1 ∷ 0 ∷ 0 ∷ 0 ∷ 0 ∷ 0 ∷ []

no_longer : (most : ℕ) → 3 ≤ most → (k : ℕ) (d : List ℕ) → k < 2 → length (get_or bodies k d) ≤ most
no_longer most le zero d lt = omega (arith, le)
no_longer most le (suc zero) d lt = omega arith
no_longer most le (suc (suc k)) d lt = absurd (omega (arith, lt))

pub is_whole : (most : ℕ) → 3 ≤ most → IsWholeFile next most
is_whole most le = record { rests = refl; fits = omega arith; longest = no_longer most le }
