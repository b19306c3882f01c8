-- The bytes of a request, as they are read.
use Rattle.std.specs.Prelude.{◌≡◌, ◌≤◌, ◌<◌, ◌++◌, ℕ, Bool, true, false, List, length, Option, Result, Ok, Err}
use Rattle.std.specs.Global.{Vec}
use Rattle.std.specs.Io.KnownBytes.{Consumes, Keeps, IsAtEnd}
use Rattle.web_outside.specs.View.{SourceView}
use Rattle.http_forms.specs.Reader.{IsEnough}
use Rattle.http_forms.specs.Request.{unfinished, Decides}
use Rattle.http_forms.specs.declared.reader.ReadStop.{ReadStop}
use Rattle.http_forms.specs.declared.reader.ReadStop.TheVariants.{Failed, Memory}

-- no byte of these is too many: each shorter front asks for more
abbrev pub NeedsAll : List ℕ → Type 0
NeedsAll bytes = (front rest : List ℕ) → bytes ≡ front ++ rest → 0 < length rest → Decides front false unfinished

-- bytes were read, and none of them was too many
pub record Takes (old new : Option (List ℕ)) (bytes : List ℕ) : Type 0 where
  pub consumed : Consumes old new bytes
  pub needed : NeedsAll bytes

-- what came of reading a piece of at most so many bytes after the bytes before, by how the reading ended
abbrev pub ReadsPiece : (old new : Option (List ℕ)) (before after : List ℕ) (wanted : ℕ) → Result ℕ ReadStop → Type 0
ReadsPiece old new before after wanted (Ok count) =
    (piece : List ℕ) × Consumes old new piece × (after ≡ before ++ piece) × (length piece ≡ count) × (count ≤ wanted)
    × (count ≡ 0 → IsAtEnd new)
ReadsPiece old new before after wanted (Err Failed) = Keeps old new × (after ≡ before)
ReadsPiece old new before after wanted (Err Memory) = (piece : List ℕ) × Consumes old new piece × (length piece ≤ wanted)

-- What came of reading a piece of at most so many bytes from a source to the end of these bytes.
abbrev pub ReadsPieceFrom : {S : Type 0} → (S → SourceView) → (old new : S) → (before after : Vec ℕ) → (wanted : ℕ) → Result ℕ ReadStop → Type 0
ReadsPieceFrom view old new before after wanted result = ReadsPiece (view old).left (view new).left before.items after.items wanted result

-- the bytes of a request were read, or a part of them, by how the reading ended
abbrev pub ReadsAll : (old new : Option (List ℕ)) (bytes : List ℕ) → Result Bool ReadStop → Type 0
ReadsAll old new bytes (Ok ended) = Takes old new bytes × (ended ≡ true → IsAtEnd new) × IsEnough bytes ended
ReadsAll old new bytes (Err Failed) = Takes old new bytes × Decides bytes false unfinished
ReadsAll old new bytes (Err Memory) = (read : List ℕ) × Takes old new read
