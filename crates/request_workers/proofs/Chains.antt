-- Requests of a link, one after the other.
use Rattle.std.proofs.Common.{◌≡◌, ◌≤◌, ◌<◌, ◌+◌, ◌-◌, ◌++◌, ◌∷◌, inl, inr, [], ℕ, List, Bool, true, false, Option, sym, ap, ◌∙◌, subst, append-nil, append_assoc, arith, nat_le, ◌||◌}
use Rattle.std.specs.Prelude.{⊤}
use Rattle.std.proofs.lemmas.Bool.Decides.{nat_tests}
use Rattle.http_forms.specs.Request.{Visit}
use Rattle.web_outside.specs.Causes.{Rose}
use Rattle.web_outside.specs.View.{SinkView, LinkView}
use Rattle.web_outside.proofs.Consumed.{consumes_then}
use Rattle.web_outside.proofs.Writes.{appends_then, then_part}
use Rattle.http_forms.specs.Passes.{PassRules}
use Rattle.http_forms.specs.Reply.{reply_text}
use Rattle.http_forms.specs.Stream.{Stop, closes_at, Streams}
use Rattle.http_forms.specs.declared.reply.Answer.TheVariants as answers
use Rattle.http_forms.proofs.Streaming.{streams_more}
use Rattle.request_workers.specs.Linking.{Visited, Exchange, both, visited, Wrote, WroteAll, TellsBy, StopsBy, Linked, GoesOn, IsUnserved, LastSweep, replies_text, stop_text, visits_in}
use Rattle.request_workers.specs.Scenes.{IsLater}
use Rattle.request_workers.specs.declared.link.LinkEnd.{LinkEnd}
use Rattle.request_workers.specs.declared.link.LinkEnd.TheVariants as ends

rose_more : (a b c : ℕ) → a ≤ b → Rose b c → Rose a c
rose_more a b c le rose = omega (arith, le, rose)

wrote_all : (text more : List ℕ) (old mid new : SinkView) → Wrote text old mid → WroteAll more mid new → WroteAll (text ++ more) old new
wrote_all text more old mid new first (inl second) =
    inl (record { written = appends_then old.written mid.written new.written text more first.written second.written; handed = second.handed })
wrote_all text more old mid new first (inr (same, none)) =
    inl (subst (λ (s : SinkView). Wrote (text ++ more) old s) (sym same)
    (subst (λ (t : List ℕ). Wrote t old mid) (sym (ap (λ (m : List ℕ). text ++ m) none ∙ append-nil text)) first))

-- a reply was written, and then what the end of the link tells
tells_more : (end : LinkEnd) (text more : List ℕ) (old mid new : SinkView) → Wrote text old mid → old.faults ≤ mid.faults
    → TellsBy end more mid new → TellsBy end (text ++ more) old new
tells_more ends.Closed text more old mid new first later rest = wrote_all text more old mid new first rest
tells_more (ends.Refused r) text more old mid new first later rest = wrote_all text more old mid new first rest
tells_more ends.Idle text more old mid new first later rest = wrote_all text more old mid new first rest
tells_more ends.ReadFault text more old mid new first later rest = wrote_all text more old mid new first rest
tells_more ends.WriteFault text more old mid new first later rest = record {
  written = then_part old.written mid.written new.written text more first.written rest.written;
  failed = rose_more old.faults mid.faults new.faults later rest.failed;
}
tells_more ends.Memory text more old mid new first later rest = wrote_all text more old mid new first rest

-- why a link stopped, seen from before
stops_more : (end : LinkEnd) (stop : Stop) (e : Exchange) (es : List Exchange) (ended : Bool) (old mid new : LinkView)
    → old.input.faults ≤ mid.input.faults → StopsBy end stop es ended mid new → StopsBy end stop (e ∷ es) ended old new
stops_more ends.Closed stop e es ended old mid new later s = s
stops_more (ends.Refused r) stop e es ended old mid new later s = s
stops_more ends.Idle stop e es ended old mid new later s = s
stops_more ends.ReadFault stop e es ended old mid new later s =
    (s.0, s.1, rose_more old.input.faults mid.input.faults new.input.faults later s.2)
stops_more ends.WriteFault stop e es ended old mid new later s = (s.0, λ x y. cc)
stops_more ends.Memory stop e es ended old mid new later s = s

-- and its last tick
last_more : {P : Type 0} (rules : PassRules P) (shown : Option ℕ) (end : LinkEnd) (stop : Stop) (unserved : Type 0) (p q : P)
    → LastSweep rules shown end stop unserved p q → LastSweep rules shown end stop ⊤ p q
last_more rules shown ends.Closed stop unserved p q last = last
last_more rules shown (ends.Refused r) stop unserved p q last = last
last_more rules shown ends.Idle stop unserved p q last = last
last_more rules shown ends.ReadFault stop unserved p q last = last
last_more rules shown ends.WriteFault stop unserved p q last = last
last_more rules shown ends.Memory stop unserved p q (inl swept) = inl swept
last_more rules shown ends.Memory stop unserved p q (inr (none, as_given)) = inr (none, tt)

both_assoc : (a b c : Visited) → both (both a b) c ≡ both a (both b c)
both_assoc a b c = grind arith

-- a request that was answered, and then the rest of the link
pub one_more : {P : Type 0} (rules : PassRules P) (shown : Option ℕ) (left : ℕ) (p m q : P) (kept kept' : List ℕ) (old mid new : LinkView)
    (count count' one : Visited) (end : LinkEnd) (turn : GoesOn rules shown left p m kept kept' old mid count count') → IsLater old mid
    → Linked rules shown (left - 1) m q kept' mid new one end
    → Linked rules shown left p q kept old new (both (visited turn.exchange.reply) one) end
one_more rules shown left p m q kept kept' old mid new count count' one end turn later rest = record {
  read = turn.got.read ++ rest.read;
  consumed = consumes_then old.input.left mid.input.left new.input.left turn.got.read rest.read turn.got.consumed rest.consumed;
  ended = rest.ended;
  at_end = rest.at_end;
  exchanges = turn.exchange ∷ rest.exchanges;
  stop = rest.stop;
  stream = subst (λ (xs : List ℕ). Streams left xs rest.ended (turn.exchange.visit ∷ visits_in rest.exchanges) rest.stop)
      (sym (append_assoc turn.bytes kept' rest.read) ∙ (ap (λ (w : List ℕ). w ++ rest.read) (sym turn.got.is) ∙ append_assoc kept turn.got.read rest.read))
      (streams_more left turn.bytes (kept' ++ rest.read) rest.ended turn.exchange.visit (visits_in rest.exchanges) rest.stop
      turn.decided turn.size turn.stays rest.stream);
  middle = rest.middle;
  passed = (m, turn.turned, rest.passed);
  last = last_more rules shown end rest.stop (IsUnserved rest.exchanges mid new) rest.middle q rest.last;
  told = subst (λ (text : List ℕ). TellsBy end text old.output new.output)
      (sym (append_assoc (reply_text (answers.Reply turn.exchange.reply) (closes_at left turn.exchange.visit)) (replies_text (left - 1) rest.exchanges) (stop_text rest.stop)))
      (subst (λ c. TellsBy end (reply_text (answers.Reply turn.exchange.reply) c ++ (replies_text (left - 1) rest.exchanges ++ stop_text rest.stop)) old.output new.output)
      (sym turn.stays)
      (tells_more end _ _ old.output mid.output new.output turn.wrote later.writes rest.told));
  number = ap (both (visited turn.exchange.reply)) rest.number;
  stopped = stops_more end rest.stop turn.exchange rest.exchanges rest.ended old mid new later.reads rest.stopped;
}

-- How far a link was served: what will become of its rest says what becomes of it.
pub record Goes {P : Type 0} (rules : PassRules P) (shown : Option ℕ) (requests : ℕ) (start now : P) (kept : List ℕ)
    (first link : LinkView) (count : Visited) (left : ℕ) : Type 0 where
  pub own : rules.IsOwn now
  pub some : 0 < left
  pub few : count.pages + count.refused + left ≤ requests
  pub later : IsLater first link
  pub goes_on : (after : P) (new : LinkView) (one : Visited) (end : LinkEnd) → Linked rules shown left now after kept link new one end
      → Linked rules shown requests start after [] first new (both count one) end

visited_once : (a : Visited) (reply : _) (left requests : ℕ) → a.pages + a.refused + left ≤ requests → 1 < left
    → (both a (visited reply)).pages + (both a (visited reply)).refused + (left - 1) ≤ requests
visited_once a reply left requests few some = grind arith

-- one request more
pub goes_more : {P : Type 0} (rules : PassRules P) (shown : Option ℕ) (requests : ℕ) (start p m : P) (kept kept' : List ℕ)
    (first old mid : LinkView) (count count' : Visited) (left left' : ℕ) → Goes rules shown requests start p kept first old count left
    → GoesOn rules shown left p m kept kept' old mid count count' → rules.IsOwn m → IsLater old mid → left' ≡ left - 1 → 1 < left
    → Goes rules shown requests start m kept' first mid count' left'
goes_more rules shown requests start p m kept kept' first old mid count count' left left' goes turn own later next more =
    let reads = goes.later.reads in
    let writes = goes.later.writes in
    let reads' = later.reads in
    let writes' = later.writes in
    record {
      own = own;
      some = omega (arith, next, more);
      few = subst (λ (c : Visited). c.pages + c.refused + left' ≤ requests) (sym turn.number)
          (subst (λ (n : ℕ). (both count (visited turn.exchange.reply)).pages + (both count (visited turn.exchange.reply)).refused + n ≤ requests) (sym next)
          (visited_once count turn.exchange.reply left requests goes.few more));
      later = record { reads = omega (arith, reads, reads'); writes = omega (arith, writes, writes') };
      goes_on = λ after new one end linked.
          subst (λ (c : Visited). Linked rules shown requests start after [] first new c end)
          (sym (ap (λ (c : Visited). both c one) turn.number ∙ both_assoc count (visited turn.exchange.reply) one))
          (goes.goes_on after new (both (visited turn.exchange.reply) one) end
          (one_more rules shown left p m after kept kept' old mid new count count' one end turn later
          (subst (λ (n : ℕ). Linked rules shown n m after kept' mid new one end) next linked)));
    }

-- where a request does not close, another may come
pub more_come : (left : ℕ) (v : Visit) → closes_at left v ≡ false → 1 < left
more_come left v is = by_closing v.closes is
  where
    by_closing : (b : Bool) → b || nat_le left 1 ≡ false → 1 < left
    by_closing true e = cc
    by_closing false e = grind (arith, nat_tests, e)
