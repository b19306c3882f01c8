-- What the code's own types of a head stand for.
use Rattle.std.specs.Prelude.{◌≡◌, ◌<◌, ◌^◌, ◌-◌, ℕ, List, [], ◌∷◌, min, length, Option, Result, Ok, Err, option_map}
use Rattle.http_forms.specs.declared.refused.Refused.{Refused}
use Rattle.http_forms.specs.declared.fields.Found.{Found}
use Rattle.http_forms.specs.declared.fields.Found.TheVariants as code

-- what was found of the values of a field: none, one or more
abbrev pub IsFound : List (List ℕ) → Found → Type 0
IsFound values code.Absent = values ≡ []
IsFound values (code.Once value) = values ≡ value.now ∷ []
IsFound values code.Often = 1 < length values

-- a number above 2^32 - 1 counts as that
abbrev pub capped : Result (Option ℕ) Refused → Result (Option ℕ) Refused
capped (Ok number) = Ok (option_map (λ n. min n (2 ^ 32 - 1)) number)
capped (Err refused) = Err refused
