use Rattle.std.specs.Prelude.{◌≡◌}
use Rattle.std.specs.Borrow.{MutBor}
use Rattle.server_command.specs.declared.outside.Outside.{Outside}

-- A reference is the one that was lent, to the value that it had.
abbrev pub IsLent : {T : Type 0} → MutBor T → MutBor T → Type 0
IsLent held lent = (held.now ≡ lent.now) × (held.ghost_name ≡ lent.ghost_name)

-- Two records of the outside hold the same rack, door, seeds and past.
abbrev pub HoldsTheSame : {W D R A C N S G P : Type 0} → Outside W D R A C N S G P → Outside W D R A C N S G P → Type 0
HoldsTheSame old new =
    (new.rack.ghost_name ≡ old.rack.ghost_name) × (new.door.ghost_name ≡ old.door.ghost_name)
    × (new.seeds.ghost_name ≡ old.seeds.ghost_name) × (new.past.ghost_name ≡ old.past.ghost_name)
