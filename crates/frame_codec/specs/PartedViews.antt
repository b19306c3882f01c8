-- What bytes in parts stand for.
use Rattle.std.specs.Prelude.{◌≡◌, ℕ, List, take, drop}
use Rattle.frame_codec.specs.Parted as spec
use Rattle.frame_codec.specs.declared.parted.Parted.{Parted}

-- the three parts of bytes: from one place on stand the frames, from a later one the bindings, and at first the form and the variables
abbrev pub cut : (bytes : List ℕ) → (frames_at shadows_at : ℕ) → spec.Parted
cut bytes i j = record { env = take i (take j bytes); frames = drop i (take j bytes); shadows = drop j bytes }

-- what bytes in parts stand for
abbrev pub parted_of : Parted → spec.Parted
parted_of p = cut p.bytes p.frames_at p.shadows_at

-- bytes in parts are made of these three
abbrev pub IsMadeOf : (env frames shadows : List ℕ) → Parted → Type 0
IsMadeOf env frames shadows p = parted_of p ≡ record { env = env; frames = frames; shadows = shadows }
