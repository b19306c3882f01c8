-- The limits of a server's options.
use Rattle.std.specs.Prelude.{ℕ, ◌≤◌}

-- how many shelves a server may have
abbrev pub most_shelves : ℕ
most_shelves = 16

-- how much fuel a segment may be given
abbrev pub most_fuel : ℕ
most_fuel = 10000000

-- how many seconds a page may live
abbrev pub most_life : ℕ
most_life = 2147483648

-- how many instances a shelf may hold
abbrev pub most_instances : ℕ
most_instances = 4096

-- how many live pages an instance may have
abbrev pub most_pages : ℕ
most_pages = 1024

-- how many connections a worker may be told to serve
abbrev pub most_connections : ℕ
most_connections = 1000000

-- how many requests a connection may be told to carry
abbrev pub most_requests : ℕ
most_requests = 1000

-- a number is in the range from `low` up to `high`
abbrev pub IsWithin : (low high n : ℕ) → Type 0
IsWithin low high n = (low ≤ n) × (n ≤ high)

-- the fuel is in its range
abbrev pub IsFuel : ℕ → Type 0
IsFuel n = IsWithin 1 most_fuel n

-- the life is in its range
abbrev pub IsLife : ℕ → Type 0
IsLife n = IsWithin 1 most_life n

-- the number of instances is in its range
abbrev pub AreInstances : ℕ → Type 0
AreInstances n = IsWithin 1 most_instances n

-- the number of pages is in its range
abbrev pub ArePages : ℕ → Type 0
ArePages n = IsWithin 1 most_pages n

-- the number of shelves is in its range
abbrev pub AreShelves : ℕ → Type 0
AreShelves n = IsWithin 1 most_shelves n

-- the number of connections is in its range
abbrev pub AreConnections : ℕ → Type 0
AreConnections n = IsWithin 1 most_connections n
