-- What becomes of a link and of a pass, by how the link was served.
use Rattle.std.specs.Prelude.{◌≡◌, ℕ, List, Bool, true, false, Option, Some, None, option_map, Result, Ok, Err}
use Rattle.std.specs.declared.alloc.AllocError.{AllocError}
use Rattle.web_outside.specs.Causes.{Rose}
use Rattle.web_outside.specs.View.{LinkView}
use Rattle.script_value.specs.Val.{Val}
use Rattle.script_value.specs.declared.outcome.Reply.{Reply}
use Rattle.script_value.specs.declared.outcome.Reply.TheVariants.{Refused}
use Rattle.script_value.specs.declared.outcome.Refusal.TheVariants.{Unknown}
use Rattle.script_value.specs.Views.{meaning}
use Rattle.script_value.specs.declared.value.Value.{Value}
use Rattle.page_names.specs.Names.{Destination}
use Rattle.page_names.specs.Views.{target_of}
use Rattle.page_names.specs.declared.names.Target.{Target}
use Rattle.http_forms.specs.Passes.{PassRules}
use Rattle.http_forms.specs.Request.{Visit, unfinished, refused, visits}
use Rattle.http_forms.specs.declared.refused.Refused.{Refused as Reason}
use Rattle.http_forms.specs.declared.reply.Answer.{Answer}
use Rattle.http_forms.specs.declared.reply.Answer.TheVariants as answers
use Rattle.http_forms.specs.declared.reader.Incoming.{Incoming}
use Rattle.http_forms.specs.declared.reader.Incoming.TheVariants as incoming
use Rattle.request_workers.specs.declared.serve.Served.{Served}
use Rattle.request_workers.specs.declared.serve.Served.TheVariants as served
use Rattle.request_workers.specs.Bytes.{Takes}
use Rattle.request_workers.specs.Requests.{Asks, IsOver}
use Rattle.request_workers.specs.Scenes.{IsSilent, Tells, TellsPart}

-- the reply of the visit of a destination; what names none is unknown, and then nothing is visited
abbrev pub Replies : {P : Type 0} → PassRules P → P → Option Destination → Val → Reply → P → Type 0
Replies rules before None answer reply after = (reply ≡ Refused Unknown) × (after ≡ before)
Replies rules before (Some destination) answer reply after = rules.Visits before destination answer reply after

-- The reply of the visit that a request asks for, by its target and its answer.
abbrev pub RepliesTo : {P : Type 0} → PassRules P → P → Option Target → Value → Reply → P → Type 0
RepliesTo rules before target answer reply after = Replies rules before (option_map target_of target) (meaning answer) reply after

-- one visit was made, the one that the bytes read ask for
pub record Visits {P : Type 0} (rules : PassRules P) (before after : P) (old new : LinkView) (reply : Reply) : Type 0 where
  pub visit : Visit
  pub asked : Asks old.input.left new.input.left (visits visit)
  pub replied : Replies rules before visit.destination visit.answer reply after

-- the bytes read were refused, and no visit was made
pub record Refuses {P : Type 0} (before after : P) (old new : LinkView) (reason : Reason) : Type 0 where
  pub asked : Asks old.input.left new.input.left (refused reason)
  pub same : after ≡ before

-- the link and the pass by how the link was served
abbrev pub Serves : {P : Type 0} → PassRules P → (before after : P) (old new : LinkView) → Served → Type 0
Serves rules before after old new (served.Answered reply) =
    Visits rules before after old new reply × Tells (answers.Reply reply) old new
Serves rules before after old new (served.Refused reason) =
    Refuses before after old new reason × Tells (answers.Refused reason) old new
Serves rules before after old new served.Idle = IsOver old.input.left new.input.left × (after ≡ before) × IsSilent old new
Serves rules before after old new served.ReadFault =
    Rose old.input.faults new.input.faults × Asks old.input.left new.input.left unfinished × (after ≡ before) × IsSilent old new
Serves rules before after old new (served.WriteFault (Some reply)) =
    Visits rules before after old new reply × TellsPart (answers.Reply reply) old new
Serves rules before after old new (served.WriteFault None) =
    (reason : Reason) × Refuses before after old new reason × TellsPart (answers.Refused reason) old new

-- there was no memory: no visit was made, and nothing was written
abbrev pub Drops : {P : Type 0} → (before after : P) (old new : LinkView) → Type 0
Drops before after old new = (after ≡ before) × IsSilent old new × ((read : List ℕ) × Takes old.input.left new.input.left read)

-- the link and the pass by how the link was served, or by there being no memory for it
abbrev pub ServesOrDrops : {P : Type 0} → PassRules P → (before after : P) (old new : LinkView) → Result Served AllocError → Type 0
ServesOrDrops rules before after old new (Ok how) = Serves rules before after old new how
ServesOrDrops rules before after old new (Err e) = Drops before after old new

-- what an incoming request is answered; nothing where nothing came
abbrev pub Answers : {P : Type 0} → PassRules P → P → Incoming → Option Answer → P → Type 0
Answers rules before (incoming.Visit request) (Some (answers.Reply reply)) after =
    RepliesTo rules before request.target request.answer reply after
Answers rules before (incoming.Refused reason) (Some (answers.Refused told)) after = (told ≡ reason) × (after ≡ before)
Answers rules before incoming.Nothing None after = after ≡ before
Answers rules before _ _ after = ⊥

-- how a link was served, by the answer and whether it was written whole
abbrev pub served_by : Answer → (whole : Bool) → Served
served_by (answers.Reply reply) true = served.Answered reply
served_by (answers.Reply reply) false = served.WriteFault (Some reply)
served_by (answers.Refused reason) true = served.Refused reason
served_by (answers.Refused reason) false = served.WriteFault None
