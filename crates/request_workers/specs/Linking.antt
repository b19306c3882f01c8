-- What becomes of a link that carries requests, one after the other.
use Rattle.std.specs.Prelude.{◌≡◌, ◌≤◌, ◌<◌, ◌+◌, ◌-◌, ◌^◌, ◌||◌, ◌++◌, ◌⊎◌, ◌∷◌, [], ℕ, List, Bool, true, false, length, map, min, Option, Some, None, IfSome, Result, Ok, Err, ⊤}
use Rattle.std.specs.Io.KnownBytes.{Appends, Consumes, IsAtEnd}
use Rattle.std.specs.declared.alloc.AllocError.{AllocError}
use Rattle.web_outside.specs.Causes.{Rose}
use Rattle.web_outside.specs.Pieces.{AppendsPart, HandsOn}
use Rattle.web_outside.specs.View.{SinkView, LinkView}
use Rattle.script_value.specs.declared.outcome.Reply.{Reply}
use Rattle.reply_words.specs.Words.{Told, page, word, told}
use Rattle.http_forms.specs.Passes.{PassRules, Swept}
use Rattle.http_forms.specs.Reader.{Gets}
use Rattle.http_forms.specs.Reply.{reply_text}
use Rattle.http_forms.specs.Request.{Visit, visits, Decides}
use Rattle.http_forms.specs.Stream.{Stop, closed, refusal, pending, cut, closes_at, Streams}
use Rattle.http_forms.specs.declared.refused.Refused.{Refused as Reason}
use Rattle.http_forms.specs.declared.request.Request.{Request}
use Rattle.http_forms.specs.declared.reply.Answer.TheVariants as answers
use Rattle.request_workers.specs.Serving.{Replies, RepliesTo}
use Rattle.request_workers.specs.declared.link.LinkEnd.{LinkEnd}
use Rattle.request_workers.specs.declared.link.LinkEnd.TheVariants as ends
use Rattle.request_workers.specs.declared.link.Links.{Links}

-- how many visits were answered with a page, and how many were not
pub record Visited : Type 0 where
  pub pages : ℕ
  pub refused : ℕ

-- the count of a connection that carried no visit
abbrev pub no_visit : Visited
no_visit = record { pages = 0; refused = 0 }

-- the counts of the visits of both together
abbrev pub both : Visited → Visited → Visited
both a b = record { pages = a.pages + b.pages; refused = a.refused + b.refused }

-- the count of one visit, by what its reply says
abbrev pub visited_told : Told → Visited
visited_told (page bytes) = record { pages = 1; refused = 0 }
visited_told (word status bytes) = record { pages = 0; refused = 1 }

-- the count of one visit, whether its reply was written or not
abbrev pub visited : Reply → Visited
visited reply = visited_told (told reply)

-- what a worker counted of a connection's visits
abbrev pub links_count : Links → Visited
links_count links = record { pages = links.pages; refused = links.refused }

-- one visit more can be counted
abbrev pub HasRoom : Links → Type 0
HasRoom links = (links.pages < 2 ^ 62) × (links.refused < 2 ^ 62)

-- a visit and its reply
pub record Exchange : Type 0 where
  pub visit : Visit
  pub reply : Reply

-- the visits among what a connection carried
abbrev pub visits_in : List Exchange → List Visit
visits_in exchanges = map (λ (e : Exchange). e.visit) exchanges

-- the count of the visits that were made, by their replies
abbrev pub counted : List Exchange → Visited
counted [] = no_visit
counted (e ∷ exchanges) = both (visited e.reply) (counted exchanges)

-- the bytes of the replies, in order, of requests of which so many may come
abbrev pub replies_text : (left : ℕ) → List Exchange → List ℕ
replies_text left [] = []
replies_text left (e ∷ exchanges) = reply_text (answers.Reply e.reply) (closes_at left e.visit) ++ replies_text (left - 1) exchanges

-- the bytes of what is said after the replies: a refusal, or nothing
abbrev pub stop_text : Stop → List ℕ
stop_text closed = []
stop_text (refusal reason) = reply_text (answers.Refused reason) true
stop_text pending = []
stop_text cut = []

-- the tick is what the clock shows, where it tells it, and at most 2^62 - 1
abbrev pub IsTick : (shown : Option ℕ) → (tick : ℕ) → Type 0
IsTick shown tick = IfSome shown (λ seconds. tick ≡ min seconds (2 ^ 62 - 1))

-- the shelves were swept at a tick of the clock
pub record Sweeps {P : Type 0} (rules : PassRules P) (shown : Option ℕ) (before : P) (swept : Swept) (after : P) : Type 0 where
  pub tick : ℕ
  pub told : IsTick shown tick
  pub ticked : rules.Ticks before tick swept after

-- the shelves were swept at a tick of the clock, and their answers came
abbrev pub SweepsAll : {P : Type 0} → PassRules P → (shown : Option ℕ) → (before after : P) → Type 0
SweepsAll rules shown before after = (said : List (Result ℕ Reply)) × Sweeps rules shown before (Ok said) after

-- the shelves were to be swept at a tick of the clock, and there was no memory for their answers
abbrev pub SweepsNone : {P : Type 0} → PassRules P → (shown : Option ℕ) → (before after : P) → Type 0
SweepsNone rules shown before after = (e : AllocError) × Sweeps rules shown before (Err e) after

-- what came of a tick of the clock, by whether there was memory for the shelves' answers
abbrev pub SweptBy : {P : Type 0} → PassRules P → (shown : Option ℕ) → (before : P) → (whole : Bool) → (after : P) → Type 0
SweptBy rules shown before true after = SweepsAll rules shown before after
SweptBy rules shown before false after = SweepsNone rules shown before after

-- one request: a tick, and then its visit
pub record Turned {P : Type 0} (rules : PassRules P) (shown : Option ℕ) (before : P) (exchange : Exchange) (after : P) : Type 0 where
  pub middle : P
  pub swept : SweepsAll rules shown before middle
  pub replied : Replies rules middle exchange.visit.destination exchange.visit.answer exchange.reply after

-- the pass goes through a tick and a visit for each of these exchanges, in order, and no others
abbrev pub Passes : {P : Type 0} → PassRules P → (shown : Option ℕ) → (before after : P) → List Exchange → Type 0
Passes rules shown before after [] = after ≡ before
Passes {P} rules shown before after (e ∷ exchanges) =
    (middle : P) × Turned rules shown before e middle × Passes rules shown middle after exchanges

-- where nothing was visited, the link is as it was given
abbrev pub IsUnserved : List Exchange → (old new : LinkView) → Type 0
IsUnserved [] old new = new ≡ old
IsUnserved (e ∷ exchanges) old new = ⊤

-- where a link stopped with a refusal there was a tick before it, and else none
abbrev pub SweepsBefore : {P : Type 0} → PassRules P → (shown : Option ℕ) → Stop → (before after : P) → Type 0
SweepsBefore rules shown (refusal reason) before after = SweepsAll rules shown before after
SweepsBefore rules shown _ before after = after ≡ before

-- after the visits there was a tick where another request was looked for; where there was no memory for its answers, none was
abbrev pub LastSweep : {P : Type 0} → PassRules P → (shown : Option ℕ) → LinkEnd → Stop → (unserved : Type 0) → (before after : P) → Type 0
LastSweep rules shown ends.Closed stop unserved before after = after ≡ before
LastSweep rules shown (ends.Refused reason) stop unserved before after = SweepsAll rules shown before after
LastSweep rules shown ends.Idle stop unserved before after = SweepsAll rules shown before after
LastSweep rules shown ends.ReadFault stop unserved before after = SweepsAll rules shown before after
LastSweep rules shown ends.WriteFault stop unserved before after = SweepsBefore rules shown stop before after
LastSweep rules shown ends.Memory stop unserved before after =
    SweepsAll rules shown before after ⊎ (SweepsNone rules shown before after × unserved)

-- this text was written and handed on
pub record Wrote (text : List ℕ) (old new : SinkView) : Type 0 where
  pub written : Appends old.written new.written text
  pub handed : HandsOn new.written new.handed

-- a front of this text was written, and writing failed
pub record WrotePart (text : List ℕ) (old new : SinkView) : Type 0 where
  pub written : AppendsPart old.written new.written text
  pub failed : Rose old.faults new.faults

-- this text was written, and where it was anything it was handed on
abbrev pub WroteAll : (text : List ℕ) → (old new : SinkView) → Type 0
WroteAll text old new = Wrote text old new ⊎ ((new ≡ old) × (text ≡ []))

-- what was written of a text, by the end of the link
abbrev pub TellsBy : LinkEnd → (text : List ℕ) → (old new : SinkView) → Type 0
TellsBy ends.Closed text old new = WroteAll text old new
TellsBy (ends.Refused reason) text old new = WroteAll text old new
TellsBy ends.Idle text old new = WroteAll text old new
TellsBy ends.ReadFault text old new = WroteAll text old new
TellsBy ends.WriteFault text old new = WrotePart text old new
TellsBy ends.Memory text old new = WroteAll text old new

-- how the stream stopped, by the end of the link; after a fault of the source its bytes are not the last ones, and a fault of the sink
-- comes only where a reply or a refusal was to be written
abbrev pub StopsBy : LinkEnd → Stop → List Exchange → (ended : Bool) → (old new : LinkView) → Type 0
StopsBy ends.Closed stop exchanges ended old new = stop ≡ closed
StopsBy (ends.Refused reason) stop exchanges ended old new = stop ≡ refusal reason
StopsBy ends.Idle stop exchanges ended old new = (stop ≡ pending) × (ended ≡ true)
StopsBy ends.ReadFault stop exchanges ended old new = (stop ≡ pending) × (ended ≡ false) × Rose old.input.faults new.input.faults
StopsBy ends.WriteFault stop exchanges ended old new =
    (stop ≡ pending → ⊥) × (stop ≡ cut → exchanges ≡ [] → ⊥)
StopsBy ends.Memory stop exchanges ended old new = stop ≡ cut

-- What became of a link, of which these bytes were kept before and so many requests may come: some bytes were read; they are
-- these requests, each visited after a tick; and what was written is their replies' bytes and those of a refusal.
pub record Linked {P : Type 0} (rules : PassRules P) (shown : Option ℕ) (left : ℕ) (before after : P) (kept : List ℕ)
    (old new : LinkView) (count : Visited) (end : LinkEnd) : Type 0 where
  pub read : List ℕ
  pub consumed : Consumes old.input.left new.input.left read
  pub ended : Bool
  pub at_end : ended ≡ true → IsAtEnd new.input.left
  pub exchanges : List Exchange
  pub stop : Stop
  pub stream : Streams left (kept ++ read) ended (visits_in exchanges) stop
  pub middle : P
  pub passed : Passes rules shown before middle exchanges
  pub last : LastSweep rules shown end stop (IsUnserved exchanges old new) middle after
  pub told : TellsBy end (replies_text left exchanges ++ stop_text stop) old.output new.output
  pub number : count ≡ counted exchanges
  pub stopped : StopsBy end stop exchanges ended old new

-- how a reply was written, after which the link closes or not, by why the link is served no further
abbrev pub WroteReply : Option LinkEnd → (closes : Bool) → (text : List ℕ) → (old new : SinkView) → Type 0
WroteReply None closes text old new = (closes ≡ false) × Wrote text old new
WroteReply (Some ends.Closed) closes text old new = (closes ≡ true) × Wrote text old new
WroteReply (Some ends.WriteFault) closes text old new = WrotePart text old new
WroteReply _ closes text old new = ⊥

-- a request was visited, and its reply written
pub record Answered {P : Type 0} (rules : PassRules P) (before after : P) (request : Request) (last : Bool)
    (old new : LinkView) (count count' : Visited) (end : Option LinkEnd) : Type 0 where
  pub reply : Reply
  pub replied : RepliesTo rules before request.target request.answer reply after
  pub input : new.input ≡ old.input
  pub wrote : WroteReply end (request.closes || last) (reply_text (answers.Reply reply) (request.closes || last)) old.output new.output
  pub number : count' ≡ both count (visited reply)

-- a refusal with this reason was written whole as the connection's last reply, or was begun where writing failed
abbrev pub WroteRefusal : LinkEnd → Reason → (old new : SinkView) → Type 0
WroteRefusal (ends.Refused said) reason old new = (said ≡ reason) × Wrote (reply_text (answers.Refused reason) true) old new
WroteRefusal ends.WriteFault reason old new = WrotePart (reply_text (answers.Refused reason) true) old new
WroteRefusal _ reason old new = ⊥

-- a refusal was written
pub record Refuses (reason : Reason) (old new : LinkView) (end : LinkEnd) : Type 0 where
  pub input : new.input ≡ old.input
  pub wrote : WroteRefusal end reason old.output new.output

-- a request was taken, visited and answered, and the link goes on after it
pub record GoesOn {P : Type 0} (rules : PassRules P) (shown : Option ℕ) (left : ℕ) (before after : P) (kept kept' : List ℕ)
    (old new : LinkView) (count count' : Visited) : Type 0 where
  pub exchange : Exchange
  pub turned : Turned rules shown before exchange after
  pub bytes : List ℕ
  pub got : Gets old.input.left new.input.left kept bytes kept'
  pub size : length bytes ≡ exchange.visit.length
  pub decided : Decides bytes false (visits exchange.visit)
  pub stays : closes_at left exchange.visit ≡ false
  pub wrote : Wrote (reply_text (answers.Reply exchange.reply) false) old.output new.output
  pub number : count' ≡ both count (visited exchange.reply)

-- one turn on a link, by why the link is served no further, if so
abbrev pub TurnsLink : {P : Type 0} → PassRules P → (shown : Option ℕ) → (left : ℕ) → (before after : P) → (kept kept' : List ℕ)
    → (old new : LinkView) → (count count' : Visited) → Option LinkEnd → Type 0
TurnsLink rules shown left before after kept kept' old new count count' None =
    GoesOn rules shown left before after kept kept' old new count count'
TurnsLink rules shown left before after kept kept' old new count count' (Some end) =
    (one : Visited) × Linked rules shown left before after kept old new one end × (one.pages + one.refused ≤ 1) × (count' ≡ both count one)
