-- What the machine's numbers of errors say of an accept.
use Rattle.std.specs.Prelude.{ℕ, ℤ, pos, Bool, List, [], ◌∷◌, Option, None, Some, if◌then◌else◌}
use Rattle.std.specs.List.{list_any}
use Rattle.std.specs.Ordering.{int_eq}
use Rattle.machine_outside.specs.declared.lobby.AcceptFault.{AcceptFault}
use Rattle.machine_outside.specs.declared.lobby.AcceptFault.TheVariants.{Connection as OfConnection, Room as OfRoom, Listener as OfListener}

-- the numbers of the errors of a single connection, or of its network
abbrev pub connection_errors : List ℕ
connection_errors = 1 ∷ 4 ∷ 64 ∷ 71 ∷ 92 ∷ 95 ∷ 100 ∷ 101 ∷ 103 ∷ 104 ∷ 110 ∷ 112 ∷ 113 ∷ []

-- the numbers of the errors that tell that there is no room for a connection at the moment
abbrev pub room_errors : List ℕ
room_errors = 12 ∷ 23 ∷ 24 ∷ 105 ∷ []

-- whether a number is one of these
abbrev pub is_among : List ℕ → ℤ → Bool
is_among errors number = list_any (λ error. int_eq (pos error) number) errors

-- what a number says: where it is none of these, or there is none, the listener failed
abbrev pub fault_of : Option ℤ → AcceptFault
fault_of None = OfListener
fault_of (Some number) =
    if is_among connection_errors number then OfConnection
    else (if is_among room_errors number then OfRoom else OfListener)
