-- One request of a link.
use Rattle.std.proofs.Common.{◌≡◌, ◌≤◌, ◌+◌, ◌||◌, ◌++◌, ◌∷◌, inl, inr, [], ℕ, List, Bool, true, false, length, nat_le, option_map, Option, Some, None, Ok, Err, refl, sym, ap, ◌∙◌, subst, append-nil, arith}
use Rattle.std.specs.Prelude.{⊤, IfSome}
use Rattle.std.specs.Io.KnownBytes.{Consumes, IsAtEnd}
use Rattle.web_outside.specs.Causes.{Rose}
use Rattle.web_outside.specs.View.{SourceView, SinkView, LinkView}
use Rattle.script_value.specs.declared.outcome.Reply.{Reply}
use Rattle.script_value.specs.Views.{meaning}
use Rattle.page_names.specs.Views.{target_of}
use Rattle.http_forms.specs.Passes.{PassRules, MaySkip, KeepsSkips}
use Rattle.http_forms.specs.Outcomes.{visit_in}
use Rattle.http_forms.specs.Reader.{Gets, GivesVisit, Stands, Nexts}
use Rattle.http_forms.specs.declared.reader.Incoming.{Incoming}
use Rattle.http_forms.specs.declared.reader.ReadStop.{ReadStop}
use Rattle.http_forms.specs.Reply.{reply_text}
use Rattle.http_forms.specs.Request.{Visit, unfinished, refused, visits, Decides}
use Rattle.http_forms.specs.Stream.{Stop, closed, refusal, pending, cut, closes_at, Streams}
use Rattle.http_forms.specs.declared.refused.Refused.{Refused as Reason}
use Rattle.http_forms.specs.declared.request.Request.{Request}
use Rattle.http_forms.specs.declared.reply.Answer.TheVariants as answers
use Rattle.http_forms.proofs.Pieces.{consumes_none}
use Rattle.http_forms.proofs.Streaming.{streams_last, streams_more}
use Rattle.request_workers.specs.Linking.{Visited, no_visit, both, visited, Exchange, SweepsAll, SweepsNone, SweptBy, Turned, Wrote, WroteReply, WroteRefusal, Answered, Refuses, Linked, TurnsLink, TellsBy, StopsBy, LastSweep, stop_text}
use Rattle.request_workers.specs.declared.link.LinkEnd.{LinkEnd}
use Rattle.request_workers.specs.declared.link.LinkEnd.TheVariants as ends

-- the visit that a request asks for
abbrev asked_in : Request → Visit
asked_in r = record { destination = option_map target_of r.target; answer = meaning r.answer; length = r.length; closes = r.closes }

both_none : (a : Visited) → both a no_visit ≡ a
both_none a = grind arith

one_few : (reply : Reply) → (visited reply).pages + (visited reply).refused ≤ 1
one_few reply = grind arith

two_nils : (text : List ℕ) → text ≡ (text ++ []) ++ []
two_nils text = sym (append-nil (text ++ []) ∙ append-nil text)

-- a link on which no request more was taken
pub link_stops : {P : Type 0} (rules : PassRules P) (shown : Option ℕ) (left : ℕ) (p q : P) (kept read : List ℕ) (old new : LinkView)
    (stop : Stop) (ended : Bool) (end : LinkEnd) → Consumes old.input.left new.input.left read → (ended ≡ true → IsAtEnd new.input.left)
    → Streams left (kept ++ read) ended [] stop → LastSweep rules shown end stop (new ≡ old) p q → TellsBy end (stop_text stop) old.output new.output
    → StopsBy end stop [] ended old new → Linked rules shown left p q kept old new no_visit end
link_stops rules shown left p q kept read old new stop ended end consumed at_end streams last told stops = record {
  read = read;
  consumed = consumed;
  ended = ended;
  at_end = at_end;
  exchanges = [];
  stop = stop;
  stream = streams;
  middle = p;
  passed = refl;
  last = last;
  told = told;
  number = refl;
  stopped = stops;
}

-- and that nothing more is counted
pub stops : {P : Type 0} (rules : PassRules P) (shown : Option ℕ) (left : ℕ) (p q : P) (kept kept' : List ℕ) (old new : LinkView)
    (count : Visited) (end : LinkEnd) → Linked rules shown left p q kept old new no_visit end
    → TurnsLink rules shown left p q kept kept' old new count count (Some end)
stops rules shown left p q kept kept' old new count end linked = (no_visit, linked, (omega arith), sym (both_none count))

-- a link on which this was the last request that was taken
last_one : {P : Type 0} (rules : PassRules P) (shown : Option ℕ) (left : ℕ) (p q : P) (kept kept' bytes : List ℕ) (old new : LinkView)
    (e : Exchange) (stop : Stop) (end : LinkEnd) (got : Gets old.input.left new.input.left kept bytes kept')
    → Streams left (bytes ++ kept') false (e.visit ∷ []) stop → Turned rules shown p e q
    → LastSweep rules shown end stop ⊤ q q → stop_text stop ≡ []
    → TellsBy end (reply_text (answers.Reply e.reply) (closes_at left e.visit)) old.output new.output → StopsBy end stop (e ∷ []) false old new
    → Linked rules shown left p q kept old new (visited e.reply) end
last_one rules shown left p q kept kept' bytes old new e stop end got streams turned last none told stops = record {
  read = got.read;
  consumed = got.consumed;
  ended = false;
  at_end = λ x. cc;
  exchanges = e ∷ [];
  stop = stop;
  stream = subst (λ (xs : List ℕ). Streams left xs false (e.visit ∷ []) stop) (sym got.is) streams;
  middle = q;
  passed = (q, turned, refl);
  last = last;
  told = subst (λ (text : List ℕ). TellsBy end text old.output new.output)
      (two_nils _ ∙ ap (λ (w : List ℕ). (reply_text (answers.Reply e.reply) (closes_at left e.visit) ++ []) ++ w) (sym none)) told;
  number = sym (both_none (visited e.reply));
  stopped = stops;
}

-- a request was answered
answered_by : {P : Type 0} (rules : PassRules P) (shown : Option ℕ) (left : ℕ) (p q : P) (kept kept' bytes : List ℕ) (old new : LinkView)
    (count : Visited) (e : Exchange) (end : Option LinkEnd) (got : Gets old.input.left new.input.left kept bytes kept')
    → length bytes ≡ e.visit.length → Decides bytes false (visits e.visit) → Turned rules shown p e q
    → WroteReply end (closes_at left e.visit) (reply_text (answers.Reply e.reply) (closes_at left e.visit)) old.output new.output
    → TurnsLink rules shown left p q kept kept' old new count (both count (visited e.reply)) end
answered_by rules shown left p q kept kept' bytes old new count e None got size decided turned (stays, wrote) = record {
  exchange = e;
  turned = turned;
  bytes = bytes;
  got = got;
  size = size;
  decided = decided;
  stays = stays;
  wrote = subst (λ c. Wrote (reply_text (answers.Reply e.reply) c) old.output new.output) stays wrote;
  number = refl;
}
answered_by rules shown left p q kept kept' bytes old new count e (Some ends.Closed) got size decided turned (closes, wrote) = (
  visited e.reply,
  last_one rules shown left p q kept kept' bytes old new e closed ends.Closed got (streams_last left bytes kept' false e.visit decided closes)
      turned refl refl (inl wrote) refl,
  one_few e.reply,
  refl,
)
answered_by rules shown left p q kept kept' bytes old new count e (Some ends.WriteFault) got size decided turned wrote =
    by_closing (closes_at left e.visit) refl
  where
    by_closing : (b : Bool) → closes_at left e.visit ≡ b → TurnsLink rules shown left p q kept kept' old new count (both count (visited e.reply)) (Some ends.WriteFault)
    by_closing true closes = (
      visited e.reply,
      last_one rules shown left p q kept kept' bytes old new e closed ends.WriteFault got (streams_last left bytes kept' false e.visit decided closes)
          turned refl refl wrote ((λ x. cc), (λ x y. cc)),
      one_few e.reply,
      refl,
    )
    by_closing false stays = (
      visited e.reply,
      last_one rules shown left p q kept kept' bytes old new e cut ends.WriteFault got
          (streams_more left bytes kept' false e.visit [] cut decided size stays tt) turned refl refl wrote ((λ x. cc), (λ x y. cc)),
      one_few e.reply,
      refl,
    )
answered_by rules shown left p q kept kept' bytes old new count e (Some (ends.Refused r)) got size decided turned wrote = absurd wrote
answered_by rules shown left p q kept kept' bytes old new count e (Some ends.Idle) got size decided turned wrote = absurd wrote
answered_by rules shown left p q kept kept' bytes old new count e (Some ends.ReadFault) got size decided turned wrote = absurd wrote
answered_by rules shown left p q kept kept' bytes old new count e (Some ends.Memory) got size decided turned wrote = absurd wrote

-- the same, of the halves of the link
pub answered : {P : Type 0} (rules : PassRules P) (shown : Option ℕ) (left : ℕ) (p m q : P) (kept kept' : List ℕ) (old mid new : LinkView)
    (i i' : SourceView) (count count' : Visited) (request : Request) (last : Bool) (end : Option LinkEnd)
    → SweepsAll rules shown p m → i ≡ old.input → mid ≡ record old { input = i' }
    → GivesVisit i.left i'.left kept kept' request.length (visit_in request) → last ≡ nat_le left 1
    → Answered rules m q request last mid new count count' end
    → TurnsLink rules shown left p q kept kept' old new count count' end
answered rules shown left p m q kept kept' old mid new i i' count count' request last end swept at to given is done =
    let e : Exchange = record { visit = asked_in request; reply = done.reply } in
    let input : i' ≡ new.input = sym (done.input ∙ ap (λ (l : LinkView). l.input) to) in
    let got : Gets old.input.left new.input.left kept given.bytes kept' =
    subst (λ (s : SourceView). Gets s.left new.input.left kept given.bytes kept') at
    (subst (λ (s : SourceView). Gets i.left s.left kept given.bytes kept') input given.got) in
    let closes : request.closes || last ≡ closes_at left e.visit = ap (λ b. request.closes || b) is in
    let wrote = subst (λ (o : SinkView). WroteReply end (closes_at left e.visit) (reply_text (answers.Reply done.reply) (closes_at left e.visit)) o new.output)
    (ap (λ (l : LinkView). l.output) to)
    (subst (λ c. WroteReply end c (reply_text (answers.Reply done.reply) c) mid.output new.output) closes done.wrote) in
    subst (λ c. TurnsLink rules shown left p q kept kept' old new count c end) (sym done.number)
    (answered_by rules shown left p q kept kept' given.bytes old new count e end got given.size given.decided
    (record { middle = m; swept = swept; replied = done.replied }) wrote)

-- the bytes that came next were refused
refused_by : {P : Type 0} (rules : PassRules P) (shown : Option ℕ) (left : ℕ) (p m : P) (kept kept' : List ℕ) (old new : LinkView)
    (reason : Reason) (end : LinkEnd) → SweepsAll rules shown p m → Stands old.input.left new.input.left kept kept' (refused reason)
    → WroteRefusal end reason old.output new.output → Linked rules shown left p m kept old new no_visit end
refused_by rules shown left p m kept kept' old new reason (ends.Refused said) swept stands (is, wrote) =
    link_stops rules shown left p m kept stands.got.read old new (refusal reason) stands.ended (ends.Refused said) stands.got.consumed stands.end
    (subst (λ (xs : List ℕ). Decides xs stands.ended (refused reason)) (sym stands.got.is) stands.decided) swept (inl wrote) (sym (ap refusal is))
refused_by rules shown left p m kept kept' old new reason ends.WriteFault swept stands wrote =
    link_stops rules shown left p m kept stands.got.read old new (refusal reason) stands.ended ends.WriteFault stands.got.consumed stands.end
    (subst (λ (xs : List ℕ). Decides xs stands.ended (refused reason)) (sym stands.got.is) stands.decided) swept wrote ((λ x. cc), (λ x y. cc))
refused_by rules shown left p m kept kept' old new reason ends.Closed swept stands wrote = absurd wrote
refused_by rules shown left p m kept kept' old new reason ends.Idle swept stands wrote = absurd wrote
refused_by rules shown left p m kept kept' old new reason ends.ReadFault swept stands wrote = absurd wrote
refused_by rules shown left p m kept kept' old new reason ends.Memory swept stands wrote = absurd wrote

pub refuses : {P : Type 0} (rules : PassRules P) (shown : Option ℕ) (left : ℕ) (p m : P) (kept kept' : List ℕ) (old mid new : LinkView)
    (i i' : SourceView) (count : Visited) (reason : Reason) (end : LinkEnd) → SweepsAll rules shown p m → i ≡ old.input
    → mid ≡ record old { input = i' } → Stands i.left i'.left kept kept' (refused reason) → Refuses reason mid new end
    → TurnsLink rules shown left p m kept kept' old new count count (Some end)
refuses rules shown left p m kept kept' old mid new i i' count reason end swept at to stands done =
    let input : i' ≡ new.input = sym (done.input ∙ ap (λ (l : LinkView). l.input) to) in
    let stood : Stands old.input.left new.input.left kept kept' (refused reason) =
    subst (λ (s : SourceView). Stands s.left new.input.left kept kept' (refused reason)) at
    (subst (λ (s : SourceView). Stands i.left s.left kept kept' (refused reason)) input stands) in
    let wrote : WroteRefusal end reason old.output new.output =
    subst (λ (o : SinkView). WroteRefusal end reason o new.output) (ap (λ (l : LinkView). l.output) to) done.wrote in
    stops rules shown left p m kept kept' old new count end (refused_by rules shown left p m kept kept' old new reason end swept stood wrote)

-- the link ended
pub idles : {P : Type 0} (rules : PassRules P) (shown : Option ℕ) (left : ℕ) (p m : P) (kept kept' : List ℕ) (old new : LinkView)
    (i i' : SourceView) (count : Visited) → SweepsAll rules shown p m → i ≡ old.input → new ≡ record old { input = i' }
    → Gets i.left i'.left kept [] kept' → kept' ≡ [] → IsAtEnd i'.left
    → TurnsLink rules shown left p m kept kept' old new count count (Some ends.Idle)
idles rules shown left p m kept kept' old new i i' count swept at to got none over =
    let input : i' ≡ new.input = sym (ap (λ (l : LinkView). l.input) to) in
    stops rules shown left p m kept kept' old new count ends.Idle
    (link_stops rules shown left p m kept got.read old new pending true ends.Idle
    (subst (λ (s : SourceView). Consumes s.left new.input.left got.read) at (subst (λ (s : SourceView). Consumes i.left s.left got.read) input got.consumed))
    (λ e. subst (λ (s : SourceView). IsAtEnd s.left) input over)
    (subst (λ (xs : List ℕ). Decides xs true unfinished) (sym (got.is ∙ none)) refl)
    swept (inr (ap (λ (l : LinkView). l.output) to, refl)) (refl, refl))

-- reading failed
pub read_fails : {P : Type 0} (rules : PassRules P) (shown : Option ℕ) (left : ℕ) (p m : P) (kept kept' : List ℕ) (old new : LinkView)
    (i i' : SourceView) (count : Visited) → SweepsAll rules shown p m → i ≡ old.input → new ≡ record old { input = i' }
    → Gets i.left i'.left kept [] kept' → Decides kept' false unfinished → Rose i.faults i'.faults
    → TurnsLink rules shown left p m kept kept' old new count count (Some ends.ReadFault)
read_fails rules shown left p m kept kept' old new i i' count swept at to got still rose =
    let input : i' ≡ new.input = sym (ap (λ (l : LinkView). l.input) to) in
    stops rules shown left p m kept kept' old new count ends.ReadFault
    (link_stops rules shown left p m kept got.read old new pending false ends.ReadFault
    (subst (λ (s : SourceView). Consumes s.left new.input.left got.read) at (subst (λ (s : SourceView). Consumes i.left s.left got.read) input got.consumed))
    (λ e. cc)
    (subst (λ (xs : List ℕ). Decides xs false unfinished) (sym got.is) still)
    swept (inr (ap (λ (l : LinkView). l.output) to, refl))
    (refl, refl, subst (λ (s : SourceView). Rose s.faults new.input.faults) at (subst (λ (s : SourceView). Rose i.faults s.faults) input rose)))

-- memory ran out while bytes were read
pub read_lacks : {P : Type 0} (rules : PassRules P) (shown : Option ℕ) (left : ℕ) (p m : P) (kept kept' read : List ℕ) (old new : LinkView)
    (i i' : SourceView) (count : Visited) → SweepsAll rules shown p m → i ≡ old.input → new ≡ record old { input = i' }
    → Consumes i.left i'.left read
    → TurnsLink rules shown left p m kept kept' old new count count (Some ends.Memory)
read_lacks rules shown left p m kept kept' read old new i i' count swept at to consumed =
    let input : i' ≡ new.input = sym (ap (λ (l : LinkView). l.input) to) in
    stops rules shown left p m kept kept' old new count ends.Memory
    (link_stops rules shown left p m kept read old new cut false ends.Memory
    (subst (λ (s : SourceView). Consumes s.left new.input.left read) at (subst (λ (s : SourceView). Consumes i.left s.left read) input consumed))
    (λ e. cc) tt (inl swept) (inr (ap (λ (l : LinkView). l.output) to, refl)) refl)

-- there was no memory for the answers to the tick
pub tick_lacks : {P : Type 0} (rules : PassRules P) (shown : Option ℕ) (left : ℕ) (p m : P) (kept kept' : List ℕ) (old : LinkView)
    (count : Visited) → SweepsNone rules shown p m
    → TurnsLink rules shown left p m kept kept' old old count count (Some ends.Memory)
tick_lacks rules shown left p m kept kept' old count none =
    stops rules shown left p m kept kept' old old count ends.Memory
    (link_stops rules shown left p m kept [] old old cut false ends.Memory (consumes_none old.input.left)
    (λ e. cc) tt (inr (none, refl)) (inr (refl, refl)) refl)

-- a tick that might be left out before a visit may be left out after it
pub skips_kept : {P : Type 0} (rules : PassRules P) (old new : P) (ticked : Option ℕ) → IfSome ticked (MaySkip rules old)
    → KeepsSkips rules old new → IfSome ticked (MaySkip rules new)
skips_kept rules old new None may keeps = tt
skips_kept rules old new (Some tick) may keeps = keeps tick may

pub swept_all : {P : Type 0} (rules : PassRules P) (shown : Option ℕ) (p m : P) (whole : Bool) → whole ≡ true
    → SweptBy rules shown p whole m → SweepsAll rules shown p m
swept_all rules shown p m whole is swept = subst (λ b. SweptBy rules shown p b m) is swept

pub swept_none : {P : Type 0} (rules : PassRules P) (shown : Option ℕ) (p m : P) (whole : Bool) → whole ≡ false
    → SweptBy rules shown p whole m → SweptBy rules shown p false m
swept_none rules shown p m whole is swept = subst (λ b. SweptBy rules shown p b m) is swept

pub next_is : (old new : Option (List ℕ)) (before after : List ℕ) (came said : Incoming) → came ≡ said
    → Nexts old new before after (Ok came) → Nexts old new before after (Ok said)
next_is old new before after came said is next = subst (λ i. Nexts old new before after (Ok i)) is next

pub stop_is : (old new : Option (List ℕ)) (before after : List ℕ) (came said : ReadStop) → came ≡ said
    → Nexts old new before after (Err came) → Nexts old new before after (Err said)
stop_is old new before after came said is next = subst (λ i. Nexts old new before after (Err i)) is next
