-- How many workers a server has at most, and how many scripts a setup.
use Rattle.std.specs.Prelude.{ℕ}

-- The most workers of a server, each of which serves links or holds a ticket.
abbrev pub most_workers : ℕ
most_workers = 16

-- The most scripts of a setup.
abbrev pub most_scripts : ℕ
most_scripts = 15
