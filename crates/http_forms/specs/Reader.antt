-- How the bytes of a link are read.
use Rattle.std.specs.Prelude.{◌≡◌, ◌++◌, ℕ, Bool, true, false, List, [], length, Option, Result, Ok, Err, ⊤}
use Rattle.std.specs.Io.KnownBytes.{Consumes, Keeps, IsAtEnd}
use Rattle.http_forms.specs.Outcomes.{visit_in}
use Rattle.http_forms.specs.Progress.{IsDecided}
use Rattle.http_forms.specs.Request.{Outcome, unfinished, refused, Decides}
use Rattle.http_forms.specs.declared.reader.ReadStop.{ReadStop}
use Rattle.http_forms.specs.declared.reader.ReadStop.TheVariants.{Failed, Memory}
use Rattle.http_forms.specs.declared.reader.Incoming.{Incoming}
use Rattle.http_forms.specs.declared.reader.Incoming.TheVariants.{Visit, Refused, Nothing}
use Rattle.http_forms.specs.declared.reader.RequestReader.{RequestReader}

-- the bytes that were read and belong to no request yet
abbrev pub kept : RequestReader → List ℕ
kept r = r.bytes.items

-- bytes were read after those that were kept before: of them all the first were given, and the others are kept now
pub record Gets (old new : Option (List ℕ)) (before given after : List ℕ) : Type 0 where
  pub read : List ℕ
  pub consumed : Consumes old new read
  pub is : before ++ read ≡ given ++ after

-- what came of reading a piece after the bytes before, by how the reading ended
abbrev pub ReadsMore : (old new : Option (List ℕ)) (before after : List ℕ) → Result ℕ ReadStop → Type 0
ReadsMore old new before after (Ok count) =
    (piece : List ℕ) × Consumes old new piece × (after ≡ before ++ piece) × (length piece ≡ count) × (count ≡ 0 → IsAtEnd new)
ReadsMore old new before after (Err Failed) = Keeps old new × (after ≡ before)
ReadsMore old new before after (Err Memory) = (piece : List ℕ) × Consumes old new piece

-- the bytes are decided, unless there are none and the link has ended
abbrev pub IsEnough : List ℕ → (ended : Bool) → Type 0
IsEnough bytes ended = Decides bytes ended unfinished → (bytes ≡ []) × (ended ≡ true)

-- so many bytes were read that they are decided, or as many as could be
abbrev pub Fills : (old new : Option (List ℕ)) (before after : List ℕ) → Result Bool ReadStop → Type 0
Fills old new before after (Ok ended) = Gets old new before [] after × (ended ≡ true → IsAtEnd new) × IsEnough after ended
Fills old new before after (Err Failed) = Gets old new before [] after × Decides after false unfinished
Fills old new before after (Err Memory) = (read : List ℕ) × Consumes old new read

-- no byte is read where those that are kept are a request or refused: its reply waits for nothing that follows
abbrev pub ReadsNoFurther : (old new : Option (List ℕ)) (before : List ℕ) → Type 0
ReadsNoFurther old new before = IsDecided before → Keeps old new

-- what came is an outcome of this kind, unless memory ran out
abbrev pub Gives : Result Incoming ReadStop → (Outcome → Type 0) → Type 0
Gives (Ok (Visit request)) P = P (visit_in request)
Gives (Ok (Refused reason)) P = P (refused reason)
Gives (Ok Nothing) P = P unfinished
Gives (Err Failed) P = ⊥
Gives (Err Memory) P = ⊤

-- a request was given: just its bytes, after which the next one may begin
pub record GivesVisit (old new : Option (List ℕ)) (before after : List ℕ) (count : ℕ) (outcome : Outcome) : Type 0 where
  pub bytes : List ℕ
  pub got : Gets old new before bytes after
  pub size : length bytes ≡ count
  pub decided : Decides bytes false outcome

-- the bytes that are kept come to this; where the link had ended after them, they are its last ones
pub record Stands (old new : Option (List ℕ)) (before after : List ℕ) (outcome : Outcome) : Type 0 where
  pub got : Gets old new before [] after
  pub ended : Bool
  pub end : ended ≡ true → IsAtEnd new
  pub decided : Decides after ended outcome

-- what the next bytes of a link are, by those that were kept and those left in its source, before and now
abbrev pub Nexts : (old new : Option (List ℕ)) (before after : List ℕ) → Result Incoming ReadStop → Type 0
Nexts old new before after (Ok (Visit request)) = GivesVisit old new before after request.length (visit_in request)
Nexts old new before after (Ok (Refused reason)) = Stands old new before after (refused reason)
Nexts old new before after (Ok Nothing) = Gets old new before [] after × (after ≡ []) × IsAtEnd new
Nexts old new before after (Err Failed) = Gets old new before [] after × Decides after false unfinished
Nexts old new before after (Err Memory) = (read : List ℕ) × Consumes old new read
