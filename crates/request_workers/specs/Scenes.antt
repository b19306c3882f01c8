-- What is told on a link.
use Rattle.std.specs.Prelude.{◌≡◌, ◌≤◌, true}
use Rattle.std.specs.Io.KnownBytes.{Appends}
use Rattle.web_outside.specs.Causes.{Rose}
use Rattle.web_outside.specs.View.{LinkView}
use Rattle.web_outside.specs.Pieces.{AppendsPart, HandsOn}
use Rattle.http_forms.specs.Reply.{reply_text}
use Rattle.http_forms.specs.declared.reply.Answer.{Answer}

-- nothing was written
abbrev pub IsSilent : (old new : LinkView) → Type 0
IsSilent old new = new.output ≡ old.output

-- the bytes of the answer, after which the link closes, were written and handed on
pub record Tells (answer : Answer) (old new : LinkView) : Type 0 where
  pub written : Appends old.output.written new.output.written (reply_text answer true)
  pub handed : HandsOn new.output.written new.output.handed

-- a front of the bytes of the answer was written, and writing failed
pub record TellsPart (answer : Answer) (old new : LinkView) : Type 0 where
  pub written : AppendsPart old.output.written new.output.written (reply_text answer true)
  pub failed : Rose old.output.faults new.output.faults

-- neither count of faults of a link fell
pub record IsLater (old new : LinkView) : Type 0 where
  pub reads : old.input.faults ≤ new.input.faults
  pub writes : old.output.faults ≤ new.output.faults
