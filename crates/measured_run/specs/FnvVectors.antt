-- Hashes of short texts, computed.
use Rattle.std.specs.Prelude.{◌≡◌, [], ◌∷◌, codes, map, refl}
use Rattle.page_names.specs.Hex.{hex16}
use Rattle.measured_run.specs.Fnv.{mixed, goes_on, fnv1a}

-- the hashes of three texts, as FNV-1a with 64 bits gives them
pub of_texts :
    map fnv1a ([] ∷ codes "a" ∷ codes "foobar" ∷ [])
    ≡ 0xcbf29ce484222325 ∷ 0xaf63dc4c8601ec8c ∷ 0x85944171f73967e8 ∷ []
unfolding mixed
of_texts = refl

-- a hash goes on after each piece
pub in_pieces : goes_on (goes_on (fnv1a []) (codes "foo")) (codes "bar") ≡ fnv1a (codes "foobar")
unfolding mixed
in_pieces = refl

-- sixteen digits, also where the first are 0
pub in_digits : map hex16 (0xcbf29ce484222325 ∷ 171 ∷ 0 ∷ []) ≡ codes "cbf29ce484222325" ∷ codes "00000000000000ab" ∷ codes "0000000000000000" ∷ []
unfolding hex16
in_digits = refl
