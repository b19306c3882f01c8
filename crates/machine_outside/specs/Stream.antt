-- The nonces of a stream of ChaCha20.
use Rattle.std.specs.Prelude.{ℕ, suc, zero, ◌+◌, ◌*◌, ◌^◌}
use Rattle.rand_chacha.specs.ChaCha.{ChaCha, next_word}

-- the next two words of a stream as one nonce, the first word the upper half
abbrev pub here : ChaCha → ℕ
here g = (next_word 10 g).0 * 2 ^ 32 + (next_word 10 (next_word 10 g).1).0

-- the stream after its next two words
abbrev pub behind : ChaCha → ChaCha
behind g = (next_word 10 (next_word 10 g).1).1

-- the nonce of this place of a stream from here on
abbrev pub stream_nonce : ChaCha → ℕ → ℕ
stream_nonce g zero = here g
stream_nonce g (suc k) = stream_nonce (behind g) k
