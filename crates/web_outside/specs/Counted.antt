-- The nonces of a counter.
use Rattle.std.specs.Prelude.{ℕ, ◌+◌, ◌%◌, ◌^◌}
use Rattle.web_outside.specs.declared.nonces.Counting.{Counting}

-- the number of this place from now on, in 64 bits
abbrev pub counted : Counting → ℕ → ℕ
counted c k = (c.next + k) % 2 ^ 64

-- the counter that begins at 0
abbrev pub from_zero : Counting
from_zero = record { next = 0 }
