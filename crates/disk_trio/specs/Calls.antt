-- What a call of a disk that was made did with its bytes.
use Rattle.std.specs.Prelude.{◌≡◌, ℕ, List, length, take, drop, OnOk, Result}
use Rattle.web_disk.specs.View.{View, Holds}

-- A read that was made gives as many of a disk's bytes as asked for, from this place on.
abbrev pub ReadsAt : {T E : Type 0} → View → (place : ℕ) → (old new : List ℕ) → Result T E → Type 0
ReadsAt view place old new result = OnOk result (new ≡ take (length old) (drop place view.seen))

-- A write that was made leaves a disk's bytes with this piece at this place.
abbrev pub WritesAt : {T E : Type 0} → (place : ℕ) → (piece : List ℕ) → (old new : View) → Result T E → Type 0
WritesAt place piece old new result = OnOk result (Holds old.seen place piece new.seen)

-- A cut that was made leaves so many of a disk's first bytes.
abbrev pub CutsTo : {T E : Type 0} → (len : ℕ) → (old new : View) → Result T E → Type 0
CutsTo len old new result = OnOk result (new.seen ≡ take len old.seen)
