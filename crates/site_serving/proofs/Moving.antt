-- What a worker does under the rules of one kind of pass, it does under those of another that stands for it.
use Rattle.std.proofs.Common.{◌≡◌, inl, inr, ℕ, List, [], ◌∷◌, Option, Some, None, Ok, Err, refl, sym, subst}
use Rattle.web_outside.specs.View.{LinkView, PorchView}
use Rattle.script_value.specs.Val.{Val}
use Rattle.script_value.specs.declared.outcome.Reply.{Reply}
use Rattle.page_names.specs.Names.{Destination}
use Rattle.http_forms.specs.Passes.{PassRules, Swept}
use Rattle.http_forms.specs.Stream.{Stop, closed, refusal, pending, cut}
use Rattle.request_workers.specs.Counting.{Count}
use Rattle.request_workers.specs.Linking.{Exchange, LastSweep, Linked, Passes, SweepsAll, SweepsBefore, SweepsNone, Turned, Visited}
use Rattle.request_workers.specs.Serving.{Replies}
use Rattle.request_workers.specs.Working.{Turns, Worked, Works}
use Rattle.request_workers.specs.declared.link.LinkEnd.{LinkEnd}
use Rattle.request_workers.specs.declared.link.LinkEnd.TheVariants as ends

module _ {P Q : Type 0} (one : PassRules P) (two : PassRules Q) (stands : P → Q → Type 0) (shown : Option ℕ)
    (visit : (p p' : P) (q : Q) (target : Destination) (answer : Val) (reply : Reply) → stands p q → one.Visits p target answer reply p'
    → (q' : Q) × stands p' q' × two.Visits q target answer reply q')
    (tick : (p p' : P) (q : Q) (at : ℕ) (swept : Swept) → stands p q → one.Ticks p at swept p' → (q' : Q) × stands p' q' × two.Ticks q at swept q') where
  -- what stands for the pass after this, and what became of it
  abbrev Moves : (p' : P) → (Q → Type 0) → Type 0
  Moves p' R = (q' : Q) × stands p' q' × R q'

  stays : (p p' : P) (q : Q) → stands p q → p' ≡ p → Moves p' (λ q'. q' ≡ q)
  stays p p' q s same = (q, subst (λ x. stands x q) (sym same) s, refl)

  replied : (p p' : P) (q : Q) (target : Option Destination) (answer : Val) (reply : Reply) → stands p q → Replies one p target answer reply p'
      → Moves p' (λ q'. Replies two q target answer reply q')
  replied p p' q None answer reply s r = let same = stays p p' q s r.1 in (same.0, same.1, (r.0, same.2))
  replied p p' q (Some target) answer reply s v = visit p p' q target answer reply s v

  all : (p p' : P) (q : Q) → stands p q → SweepsAll one shown p p' → Moves p' (λ q'. SweepsAll two shown q q')
  all p p' q s (said, w) =
      let t = tick p p' q w.tick (Ok said) s w.ticked in (t.0, t.1, (said, record { tick = w.tick; told = w.told; ticked = t.2 }))

  none : (p p' : P) (q : Q) → stands p q → SweepsNone one shown p p' → Moves p' (λ q'. SweepsNone two shown q q')
  none p p' q s (e, w) =
      let t = tick p p' q w.tick (Err e) s w.ticked in (t.0, t.1, (e, record { tick = w.tick; told = w.told; ticked = t.2 }))

  turned : (p p' : P) (q : Q) (e : Exchange) → stands p q → Turned one shown p e p' → Moves p' (λ q'. Turned two shown q e q')
  turned p p' q e s t =
      let w = all p t.middle q s t.swept in
      let r = replied t.middle p' w.0 e.visit.destination e.visit.answer e.reply w.1 t.replied in
      (r.0, r.1, record { middle = w.0; swept = w.2; replied = r.2 })

  passed : (p p' : P) (q : Q) (es : List Exchange) → stands p q → Passes one shown p p' es → Moves p' (λ q'. Passes two shown q q' es)
  passed p p' q [] s same = stays p p' q s same
  passed p p' q (e ∷ es) s (middle, t, rest) =
      let first = turned p middle q e s t in
      let more = passed middle p' first.0 es first.1 rest in
      (more.0, more.1, (first.0, first.2, more.2))

  before : (stop : Stop) (p p' : P) (q : Q) → stands p q → SweepsBefore one shown stop p p' → Moves p' (λ q'. SweepsBefore two shown stop q q')
  before closed p p' q s same = stays p p' q s same
  before (refusal reason) p p' q s w = all p p' q s w
  before pending p p' q s same = stays p p' q s same
  before cut p p' q s same = stays p p' q s same

  last : (end : LinkEnd) (stop : Stop) (unserved : Type 0) (p p' : P) (q : Q) → stands p q → LastSweep one shown end stop unserved p p'
      → Moves p' (λ q'. LastSweep two shown end stop unserved q q')
  last ends.Closed stop unserved p p' q s same = stays p p' q s same
  last (ends.Refused reason) stop unserved p p' q s w = all p p' q s w
  last ends.Idle stop unserved p p' q s w = all p p' q s w
  last ends.ReadFault stop unserved p p' q s w = all p p' q s w
  last ends.WriteFault stop unserved p p' q s w = before stop p p' q s w
  last ends.Memory stop unserved p p' q s (inl w) = let t = all p p' q s w in (t.0, t.1, inl t.2)
  last ends.Memory stop unserved p p' q s (inr (w, given)) = let t = none p p' q s w in (t.0, t.1, inr (t.2, given))

  linked : (left : ℕ) (p p' : P) (q : Q) (kept : List ℕ) (old new : LinkView) (count : Visited) (end : LinkEnd) → stands p q
      → Linked one shown left p p' kept old new count end → Moves p' (λ q'. Linked two shown left q q' kept old new count end)
  linked left p p' q kept old new count end s l =
      let m = passed p l.middle q l.exchanges s l.passed in
      let e = last end l.stop _ l.middle p' m.0 m.1 l.last in (
        e.0,
        e.1,
        record {
          read = l.read;
          consumed = l.consumed;
          ended = l.ended;
          at_end = l.at_end;
          exchanges = l.exchanges;
          stop = l.stop;
          stream = l.stream;
          middle = m.0;
          passed = m.2;
          last = e.2;
          told = l.told;
          number = l.number;
          stopped = l.stopped;
        },
      )

  module _ {L : Type 0} (view : L → LinkView) (requests : ℕ) where
    turns : (p p' : P) (q : Q) (given back : L) (count : Count) → stands p q → Turns one view shown requests p p' given back count
        → Moves p' (λ q'. Turns two view shown requests q q' given back count)
    turns p p' q given back count s t =
        let l = linked requests p p' q [] (view given) (view back) t.visited t.end s t.linked in
        (l.0, l.1, record { visited = t.visited; end = t.end; linked = l.2; few = t.few; number = t.number })

    works : (p p' : P) (q : Q) (given back : List L) (count : Count) → stands p q → Works one view shown requests p p' given back count
        → Moves p' (λ q'. Works two view shown requests q q' given back count)
    works p p' q [] [] count s w = let same = stays p p' q s w.0 in (same.0, same.1, (same.2, w.1))
    works p p' q [] (b ∷ back) count s w = absurd w
    works p p' q (g ∷ given) [] count s w = absurd w
    works p p' q (g ∷ given) (b ∷ back) count s (middle, first, rest, t, more, sum) =
        let one = turns p middle q g b first s t in
        let others = works middle p' one.0 given back rest one.1 more in
        (others.0, others.1, (one.0, first, rest, one.2, others.2, sum))

    pub worked : (p p' : P) (q : Q) (old new : PorchView L) (count : Count) → stands p q → Worked one view shown requests p p' old new count
        → Moves p' (λ q'. Worked two view shown requests q q' old new count)
    worked p p' q old new count s w =
        let m = works p p' q w.given w.back count s w.works in
        (m.0, m.1, record { given = w.given; back = w.back; number = w.number; came = w.came; went = w.went; works = m.2 })
