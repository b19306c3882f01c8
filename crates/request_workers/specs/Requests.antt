-- What a link asks for.
use Rattle.std.specs.Prelude.{◌≡◌, ℕ, Bool, true, List, [], Option, Result, Ok, Err}
use Rattle.std.specs.Io.KnownBytes.{Consumes, IsAtEnd}
use Rattle.http_forms.specs.Outcomes.{visit_in}
use Rattle.http_forms.specs.Request.{Outcome, unfinished, refused, Decides}
use Rattle.request_workers.specs.Bytes.{Takes}
use Rattle.http_forms.specs.declared.reader.ReadStop.{ReadStop}
use Rattle.http_forms.specs.declared.reader.ReadStop.TheVariants.{Failed, Memory}
use Rattle.http_forms.specs.declared.reader.Incoming.{Incoming}
use Rattle.http_forms.specs.declared.reader.Incoming.TheVariants.{Visit, Refused, Nothing}

-- Bytes were read, none too many, and come to this. Where the link had ended after them, they are its last ones.
pub record Asks (old new : Option (List ℕ)) (outcome : Outcome) : Type 0 where
  pub bytes : List ℕ
  pub taken : Takes old new bytes
  pub ended : Bool
  pub end : ended ≡ true → IsAtEnd new
  pub decided : Decides bytes ended outcome

-- the link had ended before a byte
pub record IsOver (old new : Option (List ℕ)) : Type 0 where
  pub nothing : Consumes old new []
  pub end : IsAtEnd new

-- what was read, by what came of it
abbrev pub Comes : Option (List ℕ) → Option (List ℕ) → Result Incoming ReadStop → Type 0
Comes old new (Ok (Visit request)) = Asks old new (visit_in request)
Comes old new (Ok (Refused reason)) = Asks old new (refused reason)
Comes old new (Ok Nothing) = IsOver old new
Comes old new (Err Failed) = Asks old new unfinished
Comes old new (Err Memory) = (read : List ℕ) × Takes old new read
