-- Links that are given one after the other, and handed back.
use Rattle.std.specs.Prelude.{◌≡◌, ◌+◌, ◌++◌, ◌∷◌, ◌⊎◌, [], ⊤, ℕ, Bool, true, false, List, Option, Some, None, Result, Ok, Err}

-- known links begin with this one, and lose it
abbrev pub LosesFirst : {L : Type 0} → Option (List L) → Option (List L) → L → Type 0
LosesFirst None new link = ⊤
LosesFirst (Some links) None link = ⊥
LosesFirst (Some links) (Some rest) link = links ≡ link ∷ rest

-- known links grow by this one
abbrev pub GainsLast : {L : Type 0} → Option (List L) → Option (List L) → L → Type 0
GainsLast None new link = ⊤
GainsLast (Some links) None link = ⊥
GainsLast (Some links) (Some more) link = more ≡ links ++ link ∷ []

-- the link that was given was the first of those to come; where none was given they stay
abbrev pub GivesFirst : {L E : Type 0} → Result (Option L) E → Option (List L) → Option (List L) → Type 0
GivesFirst (Ok (Some link)) old new = LosesFirst old new link
GivesFirst (Ok None) old new = new ≡ old
GivesFirst (Err e) old new = new ≡ old

-- how many links were given in all
abbrev pub given_after : {L E : Type 0} → Result (Option L) E → ℕ → ℕ
given_after (Ok (Some link)) given = given + 1
given_after (Ok None) given = given
given_after (Err e) given = given

-- whether a link is out
abbrev pub lent_after : {L E : Type 0} → Result (Option L) E → Bool → Bool
lent_after (Ok (Some link)) lent = true
lent_after (Ok None) lent = lent
lent_after (Err e) lent = lent

-- no link comes only once as many were given as may be, or where none is to come
abbrev pub EndsOnly : {L E : Type 0} → Result (Option L) E → ℕ → ℕ → Option (List L) → Type 0
EndsOnly (Ok (Some link)) given most coming = ⊤
EndsOnly (Ok None) given most coming = (given ≡ most) ⊎ (coming ≡ Some [])
EndsOnly (Err e) given most coming = ⊤

-- how many links are out
abbrev pub lent_count : Bool → ℕ
lent_count true = 1
lent_count false = 0
