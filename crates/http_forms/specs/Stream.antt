-- The requests of a link.
use Rattle.std.specs.Prelude.{◌≡◌, ℕ, ◌-◌, ◌||◌, Bool, true, false, List, [], ◌∷◌, drop, nat_le, ⊤}
use Rattle.http_forms.specs.Request.{Visit, unfinished, refused, visits, Decides}
use Rattle.http_forms.specs.declared.refused.Refused.{Refused}

-- How a stream stops: after a request that closes, or is the last that may come; with bytes that are refused; open, where the
-- rest is unfinished; or where nobody looked on, whatever the rest is.
pub data Stop : Type 0 where
  closed : Stop
  refusal : Refused → Stop
  pending : Stop
  cut : Stop

-- the connection closes after this request, where so many may come with it
abbrev pub closes_at : (left : ℕ) → Visit → Bool
closes_at left v = v.closes || nat_le left 1

-- what comes after a request: nothing where it closes
abbrev pub Behind : (closes : Bool) → List Visit → Stop → (goes_on : Type 0) → Type 0
Behind true vs stop goes_on = (vs ≡ []) × (stop ≡ closed)
Behind false vs stop goes_on = goes_on

-- the requests of these bytes, of which so many may come, each after the one before, and how they stop
abbrev pub Streams : (left : ℕ) → List ℕ → (ended : Bool) → List Visit → Stop → Type 0
Streams left bytes ended [] closed = ⊥
Streams left bytes ended [] (refusal reason) = Decides bytes ended (refused reason)
Streams left bytes ended [] pending = Decides bytes ended unfinished
Streams left bytes ended [] cut = ⊤
Streams left bytes ended (v ∷ vs) stop =
    Decides bytes ended (visits v) × Behind (closes_at left v) vs stop (Streams (left - 1) (drop v.length bytes) ended vs stop)
