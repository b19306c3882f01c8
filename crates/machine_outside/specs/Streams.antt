-- The sources of nonces that a key gives.
use Rattle.std.specs.Prelude.{ℕ, suc, zero, ◌++◌, ◌∷◌, [], List}
use Rattle.rand_chacha.specs.ChaCha.{of_seed}
use Rattle.machine_outside.specs.declared.machine.StreamNonces.{StreamNonces}

-- the source of this stream, at its start
abbrev pub source_of : (key : List ℕ) → (stream : ℕ) → StreamNonces
source_of key stream = record { words = record (of_seed key) { stream = stream } }

-- so many sources: stream 0, stream 1 and so on
abbrev pub sources_of : (key : List ℕ) → (count : ℕ) → List StreamNonces
sources_of key zero = []
sources_of key (suc count) = sources_of key count ++ source_of key count ∷ []
