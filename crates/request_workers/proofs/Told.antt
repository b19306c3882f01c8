-- A link that was answered.
use Rattle.std.proofs.Common.{◌≡◌, ◌∙◌, Some, Result, Ok, Err, OnOk, true, refl, sym, ap, subst, is_ok, option_map}
use Rattle.std.specs.Io.KnownBytes.{Appends}
use Rattle.web_outside.specs.Causes.{HasCause}
use Rattle.web_outside.specs.View.{SourceView, SinkView, LinkView}
use Rattle.script_value.specs.Views.{meaning}
use Rattle.page_names.specs.Views.{target_of}
use Rattle.web_outside.specs.Pieces.{AppendsPart, HandsOn}
use Rattle.http_forms.specs.Passes.{PassRules}
use Rattle.http_forms.specs.Request.{Visit, refused}
use Rattle.http_forms.specs.declared.request.Request.{Request}
use Rattle.http_forms.specs.Reply.{reply_text}
use Rattle.http_forms.specs.declared.reply.Answer.{Answer}
use Rattle.http_forms.specs.declared.reply.Answer.TheVariants as answers
use Rattle.http_forms.specs.declared.reader.Incoming.{Incoming}
use Rattle.http_forms.specs.declared.reader.Incoming.TheVariants as incoming
use Rattle.request_workers.specs.Requests.{Comes, Asks}
use Rattle.request_workers.specs.Serving.{Answers, Serves, served_by}

-- the visit that a request asks for
abbrev asked_in : Request → Visit
asked_in r = record {
  destination = option_map target_of r.target;
  answer = meaning r.answer;
  length = r.length;
  closes = r.closes;
}

-- the writing of an answer, and how it went
pub record IsWritten {T E : Type 0} (answer : Answer) (old new : SinkView) (result : Result T E) : Type 0 where
  pub ok : OnOk result (Appends old.written new.written (reply_text answer true))
  pub handed_on : OnOk result (HandsOn new.written new.handed)
  pub part : AppendsPart old.written new.written (reply_text answer true)
  pub cause : HasCause old.faults new.faults result

-- what came was answered, and the answer written: so the link was served
pub serves : {P T E : Type 0} (rules : PassRules P) (p q : P) (came : Incoming) (answer : Answer) (old new : LinkView) (result : Result T E)
    → Comes old.input.left new.input.left (Ok came) → Answers rules p came (Some answer) q
    → IsWritten answer old.output new.output result
    → Serves rules p q old new (served_by answer (is_ok result))
serves rules p q (incoming.Visit request) (answers.Reply reply) old new (Ok u) came answered written =
    (record { visit = asked_in request; asked = came; replied = answered }, record { written = written.ok; handed = written.handed_on })
serves rules p q (incoming.Visit request) (answers.Reply reply) old new (Err e) came answered written =
    (record { visit = asked_in request; asked = came; replied = answered }, record { written = written.part; failed = written.cause.failed })
serves rules p q (incoming.Refused reason) (answers.Refused told) old new (Ok u) came answered written =
    (record { asked = subst (λ x. Asks old.input.left new.input.left (refused x)) (sym answered.0) came; same = answered.1 }, record { written = written.ok; handed = written.handed_on })
serves rules p q (incoming.Refused reason) (answers.Refused told) old new (Err e) came answered written =
    (told, record { asked = subst (λ x. Asks old.input.left new.input.left (refused x)) (sym answered.0) came; same = answered.1 }, record { written = written.part; failed = written.cause.failed })
serves rules p q (incoming.Visit request) (answers.Refused told) old new result came answered written = absurd answered
serves rules p q (incoming.Refused reason) (answers.Reply reply) old new result came answered written = absurd answered
serves rules p q incoming.Nothing answer old new result came answered written = absurd answered

-- what is said of the halves of a link, before and after, is said of the link: they were put in one after the other
pub of_link : (S : LinkView → LinkView → Type 0) (link read wrote : LinkView) (i i' : SourceView) (o o' : SinkView)
    → i ≡ link.input → read ≡ record link { input = i' } → o ≡ read.output → wrote ≡ record read { output = o' }
    → S (record { input = i; output = o }) (record { input = i'; output = o' }) → S link wrote
of_link S link read wrote i i' o o' a b c d s =
    let same : o ≡ link.output = c ∙ ap (λ (r : LinkView). r.output) b in
    let before : record { input = i; output = o } ≡ link =
    subst (λ (x : SourceView). record { input = x; output = o } ≡ link) (sym a) (subst (λ (y : SinkView). record { input = link.input; output = y } ≡ link) (sym same) refl) in
    let after : record { input = i'; output = o' } ≡ wrote =
    subst (λ (x : SourceView). record { input = x; output = o' } ≡ wrote) (ap (λ (r : LinkView). r.input) b) (sym d) in
    subst (λ w. S link w) after (subst (λ w. S w (record { input = i'; output = o' })) before s)
