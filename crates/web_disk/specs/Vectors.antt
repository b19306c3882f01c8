-- Worked rows.
use Rattle.std.specs.Prelude.{◌≡◌, [], ◌∷◌, Some, true, false, refl}
use Rattle.web_disk.specs.Change.{Put, Torn, CutTo, Synced, span, is_touched, fresh, replayed}
use Rattle.web_disk.specs.Fates.{has_stopped}
use Rattle.web_disk.specs.Wrecks.{sound_end}
use Rattle.web_disk.specs.declared.wreck.Wreck.{Wreck}

-- a write over the last byte and after it
written : (replayed (Put 2 (7 ∷ 8 ∷ []) ∷ []) (fresh (1 ∷ 2 ∷ 3 ∷ []))).seen ≡ 1 ∷ 2 ∷ 7 ∷ 8 ∷ []
written = refl

-- a write touches the places that it writes
touched : (replayed (Put 2 (7 ∷ 8 ∷ []) ∷ []) (fresh (1 ∷ 2 ∷ 3 ∷ []))).touched ≡ span 2 4 ∷ []
touched = refl

-- a sync puts a write on the disk; then a cut touches what it takes away
synced_and_cut : (replayed (Put 2 (7 ∷ 8 ∷ []) ∷ Synced ∷ CutTo 3 ∷ []) (fresh (1 ∷ 2 ∷ 3 ∷ []))).touched ≡ span 3 4 ∷ []
synced_and_cut = refl

-- a write that fails changes no byte, and touches its places
failed : (replayed (Torn (span 1 3) ∷ []) (fresh (1 ∷ 2 ∷ 3 ∷ []))).seen ≡ 1 ∷ 2 ∷ 3 ∷ []
failed = refl

-- a range goes up to its high end, without it
low_end : is_touched (span 2 4 ∷ []) 2 ≡ true
low_end = refl

-- a range does not have its high end
high_end : is_touched (span 2 4 ∷ []) 4 ≡ false
high_end = refl

-- a crash that loses what was changed from place 3 on: it holds zeros, and is gone where nothing stands after it
abbrev wreck : Wreck
wreck = record { reached = 3; fill = 0; short = true }

-- of four places, of which the last two were touched, the write reached the first of these
reached_three : sound_end wreck (span 2 4 ∷ []) 4 ≡ 3
reached_three = refl

-- the third call is the first that fails after a stop at two
stopped : has_stopped (Some 2) 2 ≡ true
stopped = refl

-- the second call does not fail after a stop at two
not_yet : has_stopped (Some 2) 1 ≡ false
not_yet = refl
