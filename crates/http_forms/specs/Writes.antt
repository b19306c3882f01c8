-- What writing a text comes to.
use Rattle.std.specs.Prelude.{ℕ, Bool, List, ◌++◌, Option, Result, OnOk}
use Rattle.std.specs.Io.KnownBytes.{Appends}
use Rattle.web_outside.specs.Causes.{HasCause}
use Rattle.web_outside.specs.View.{SinkView}
use Rattle.web_outside.specs.Pieces.{AppendsPart}
use Rattle.web_outside.specs.declared.Failed.{Failed}
use Rattle.http_forms.specs.Reply.{message}
use Rattle.http_forms.specs.declared.status.Status.{Status}

-- what writing a text came to, by the bytes that are known and the count of faults: known bytes grew by it, or by a front of it
-- where the count rose
pub record WritesText (old new : Option (List ℕ)) (before after : ℕ) (text : List ℕ) (result : Result (Unit {0}) Failed) : Type 0 where
  pub ok : OnOk result (Appends old new text)
  pub part : AppendsPart old new text
  pub cause : HasCause before after result

-- what writing a text to a sink came to
abbrev pub Writes : (old new : SinkView) → List ℕ → Result (Unit {0}) Failed → Type 0
Writes old new text result = WritesText old.written new.written old.faults new.faults text result

-- What writing a text to a sink came to, by what contracts see of it.
abbrev pub WritesTo : {O : Type 0} → (O → SinkView) → (old new : O) → List ℕ → Result (Unit {0}) Failed → Type 0
WritesTo view old new text result = Writes (view old) (view new) text result

-- What writing a message to a sink came to, whose body is in two pieces.
abbrev pub WritesMessage : {O : Type 0} → (O → SinkView) → (old new : O) → Status → (closes : Bool) → (media_type body end : List ℕ)
    → Result (Unit {0}) Failed → Type 0
WritesMessage view old new code closes media_type body end result =
    WritesTo view old new (message code closes media_type (body ++ end)) result

-- The bytes that are known of a sink grew by a text.
abbrev pub AppendsTo : {O : Type 0} → (O → SinkView) → (old new : O) → List ℕ → Type 0
AppendsTo view old new text = Appends (view old).written (view new).written text
