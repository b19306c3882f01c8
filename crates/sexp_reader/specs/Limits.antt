-- How long a text may be, and how deep it may nest.
use Rattle.std.specs.Prelude.{ℕ}

-- how many bytes a text may have
abbrev pub most_bytes : ℕ
most_bytes = 65536

-- how many lists and marks may be open
abbrev pub most_levels : ℕ
most_levels = 128
