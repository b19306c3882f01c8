-- How many links a page is from one whose state is kept by itself.
use Rattle.std.specs.Prelude.{ℕ, zero, suc, ◌+◌, Option, None, nat_lt, if◌then◌else◌}
use Rattle.frame_codec.specs.MachineStates.Machine.{Suspended}

-- the links of a page after one that has these: one more, or none where that has 32
abbrev pub next_links : ℕ → ℕ
next_links links = if nat_lt links 32 then links + 1 else 0

-- the links of a page with so many ancestors: a root has none
abbrev pub links_at : ℕ → ℕ
links_at zero = 0
links_at (suc n) = next_links (links_at n)

-- the state that a page of so many links is written after: none, or that of the page before
abbrev pub behind_at : (links : ℕ) → (before : Option Suspended) → Option Suspended
behind_at zero before = None
behind_at (suc n) before = before
