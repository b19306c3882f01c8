-- How much of the outside a program takes.
use Rattle.std.specs.Prelude.{ℕ}

-- how many bytes a whole input may have
abbrev pub most_of_input : ℕ
most_of_input = 16777216
