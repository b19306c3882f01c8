-- What workers hold is out, and each publish of a desk's run is lawful.
use Rattle.std.proofs.Common.{◌≡◌, ◌≢◌, ◌⊎◌, ◌∙◌, ap, sym, subst, refl, inl, inr, ⊎_elim, ℕ, ◌+◌, ◌<◌, zero, suc, ◌==◌, Bool, true, false, if◌then◌else◌, List, [], ◌∷◌, ◌++◌, length, slice_get, slice_set, Option, Some, None, not, filter, arith}
use Rattle.std.proofs.lemmas.List.{length-append, length-set}
use Rattle.std.proofs.lemmas.Option.{same_Some}
use Rattle.server_limits.specs.Counts.{most_workers}
use Rattle.script_value.specs.Val.{Val}
use Rattle.page_names.specs.Names.{Destination}
use Rattle.script_nodes.specs.Setup.{Named}
use Rattle.replay_spec.specs.Book.{Book, draw}
use Rattle.replay_spec.specs.Rules.{Rules}
use Rattle.replay_spec.specs.Next.{Ticket}
use Rattle.replay_spec.specs.Step.{publish, sweep, compact, Fate, Reply, taken}
use Rattle.replay_spec.specs.Runs.{Shelf, empty_shelf}
use Rattle.replay_spec.specs.Invariant.{Among}
use Rattle.replay_spec.specs.Laws.{Takes, IsLawful}
use Rattle.replay_spec.proofs.Stand.{among_drawn, among_spent}
use Rattle.play_desk.specs.Target.{shelf_for}
use Rattle.play_desk.specs.Desk.{Desk, counting, happening, first_desk, first_shelves, taken_by, without_shelf}
use Rattle.play_desk.proofs.Kept.{compacted, published, swept, of_among, among_other}
use Rattle.play_desk.proofs.Places.{at_set, in_push, none_there, not_same}

-- The numbers that are out were drawn. What workers hold is out on its shelf, and of one shelf they hold different numbers.
pub record AreOut (n : ℕ) (ss : List Shelf) (held : List (Option Ticket)) : Type 0 where
  pub count : length ss ≡ n
  pub below : (k : ℕ) (s : Shelf) → slice_get ss k ≡ Some s → (m : ℕ) → Among m s.book.out → m < s.book.drawn
  pub out : (w : ℕ) (t : Ticket) → slice_get held w ≡ Some (Some t) → (s : Shelf) → slice_get ss (shelf_for n w t.target) ≡ Some s
      → Among t.number s.book.out
  pub apart : (v w : ℕ) (t u : Ticket) → slice_get held v ≡ Some (Some t) → slice_get held w ≡ Some (Some u)
      → shelf_for n v t.target ≡ shelf_for n w u.target → t.number ≡ u.number → v ≡ w

-- on the first shelves nothing is out
nothing_out : (rules : ℕ → Rules) (scripts : List Named) (n k : ℕ) (s : Shelf) → slice_get (first_shelves rules scripts n) k ≡ Some s → s.book.out ≡ []
nothing_out rules scripts zero k s e = absurd (let no : None ≡ Some s = e in cc)
nothing_out rules scripts (suc n) k s e =
    elim (in_push (first_shelves rules scripts n) (empty_shelf (rules n) scripts n) k s e) [
      | inl there ↦ nothing_out rules scripts n k s there
      | inr is ↦ ap (λ (x : Shelf). x.book.out) (sym is)
    ]

pub count_first : (rules : ℕ → Rules) (scripts : List Named) (n : ℕ) → length (first_shelves rules scripts n) ≡ n
count_first rules scripts zero = refl
count_first rules scripts (suc n) =
    let was = count_first rules scripts n in
    omega (arith, was, length-append (first_shelves rules scripts n) (empty_shelf (rules n) scripts n ∷ []))

pub first_orderly : (rules : ℕ → Rules) (scripts : List Named) (count : ℕ)
    → AreOut count (first_desk rules scripts count).shelves (first_desk rules scripts count).held
first_orderly rules scripts count = record {
  count = count_first rules scripts count;
  below = λ k s e m h. absurd (subst (Among m) (nothing_out rules scripts count k s e) h);
  out = λ w t h s e. absurd (none_there most_workers w t h);
  apart = λ v w t u h g same e. absurd (none_there most_workers v t h);
}

-- a place that is this one
moved : (ss : List Shelf) (j k : ℕ) (s : Shelf) → j ≡ k → slice_get ss k ≡ Some s → slice_get ss j ≡ Some s
moved ss j k s e here = subst (λ i. slice_get ss i ≡ Some s) (sym e) here

-- a shelf on which the same numbers are out
pub orderly_same : (n : ℕ) (ss : List Shelf) (held : List (Option Ticket)) (k : ℕ) (s new : Shelf) → slice_get ss k ≡ Some s
    → new.book.out ≡ s.book.out → new.book.drawn ≡ s.book.drawn → AreOut n ss held → AreOut n (slice_set ss k new) held
orderly_same n ss held k s new here out drawn o = record {
  count = length-set ss k new ∙ o.count;
  below = λ j x e m h. elim (at_set ss k j new x e) [
    | inl p ↦
        (let was : Among m s.book.out = subst (Among m) (ap (λ (y : Shelf). y.book.out) (sym p.1) ∙ out) h in
        omega (arith, o.below k s here m was, ap (λ (y : Shelf). y.book.drawn) p.1, drawn))
    | inr p ↦ o.below j x p.1 m h
  ];
  out = λ w t h x e. elim (at_set ss k (shelf_for n w t.target) new x e) [
    | inl p ↦ subst (Among t.number) (sym out ∙ ap (λ (y : Shelf). y.book.out) p.1) (o.out w t h s (moved ss (shelf_for n w t.target) k s p.0 here))
    | inr p ↦ o.out w t h x p.1
  ];
  apart = o.apart;
}

-- a ticket that is published is held no more, and its number is not out
pub orderly_spent : (n : ℕ) (ss : List Shelf) (held : List (Option Ticket)) (k worker : ℕ) (s new : Shelf) (t : Ticket) → slice_get ss k ≡ Some s
    → k ≡ shelf_for n worker t.target → slice_get held worker ≡ Some (Some t)
    → new.book.out ≡ filter (λ m. not (m == t.number)) s.book.out → new.book.drawn ≡ s.book.drawn → AreOut n ss held
    → AreOut n (slice_set ss k new) (slice_set held worker None)
orderly_spent n ss held k worker s new t here place holds out drawn o = record {
  count = length-set ss k new ∙ o.count;
  below = λ j x e m h. elim (at_set ss k j new x e) [
    | inl p ↦
        (let was : Among m (filter (λ i. not (i == t.number)) s.book.out) = subst (Among m) (ap (λ (y : Shelf). y.book.out) (sym p.1) ∙ out) h in
        omega (arith, o.below k s here m (among_spent m t.number s.book.out was).0, ap (λ (y : Shelf). y.book.drawn) p.1, drawn))
    | inr p ↦ o.below j x p.1 m h
  ];
  out = λ w u h x e. elim (at_set ss k (shelf_for n w u.target) new x e) [
    | inl p ↦
        (let was = old w u h in
        let other : u.number ≢ t.number = λ same. was.0 (o.apart w worker u t was.1 holds (p.0 ∙ place) same) in
        subst (Among u.number) (sym out ∙ ap (λ (y : Shelf). y.book.out) p.1)
        (among_other u.number t.number s.book.out other (o.out w u was.1 s (moved ss (shelf_for n w u.target) k s p.0 here))))
    | inr p ↦ o.out w u (old w u h).1 x p.1
  ];
  apart = λ v w x u g h same e. o.apart v w x u (old v x g).1 (old w u h).1 same e;
}
  where
    old : (w : ℕ) (u : Ticket) → slice_get (slice_set held worker None) w ≡ Some (Some u) → (w ≢ worker) × (slice_get held w ≡ Some (Some u))
    old w u h = elim (at_set held worker w None (Some u) h) [ inl p ↦ absurd (let no : None ≡ Some u = p.1 in cc) | inr p ↦ p ]

among_more : (n m : ℕ) (ms : List ℕ) → Among n ms → Among n (ms ++ m ∷ [])
among_more n m [] h = absurd h
among_more n m (k ∷ ms) (inl e) = inl e
among_more n m (k ∷ ms) (inr h) = inr (among_more n m ms h)

among_last : (n : ℕ) (ms : List ℕ) → Among n (ms ++ n ∷ [])
among_last n [] = inl refl
among_last n (k ∷ ms) = inr (among_last n ms)

-- a ticket that is taken has the number that was drawn
pub orderly_taken : (n : ℕ) (ss : List Shelf) (held : List (Option Ticket)) (k worker : ℕ) (s new : Shelf) (t : Ticket) → slice_get ss k ≡ Some s
    → k ≡ shelf_for n worker t.target → t.number ≡ s.book.drawn → new.book ≡ draw s.book → AreOut n ss held
    → AreOut n (slice_set ss k new) (slice_set held worker (Some t))
orderly_taken n ss held k worker s new t here place number is o = record {
  count = length-set ss k new ∙ o.count;
  below = λ j x e m h. elim (at_set ss k j new x e) [
    | inl p ↦
        (let was : Among m (s.book.out ++ s.book.drawn ∷ []) = subst (Among m) (ap (λ (y : Shelf). y.book.out) (sym p.1) ∙ out) h in
        let more : x.book.drawn ≡ s.book.drawn + 1 = ap (λ (y : Shelf). y.book.drawn) (sym p.1) ∙ ap (λ (b : Book). b.drawn) is in
        ⊎_elim (λ there. omega (arith, o.below k s here m there, more)) (λ last. omega (arith, last, more)) (among_drawn m s.book.drawn s.book.out was))
    | inr p ↦ o.below j x p.1 m h
  ];
  out = λ w u h x e. elim (at_set ss k (shelf_for n w u.target) new x e) [
    | inl p ↦ subst (Among u.number) (sym out ∙ ap (λ (y : Shelf). y.book.out) p.1) (is_out w u h p.0)
    | inr p ↦ elim (case w u h) [
      | inl q ↦ absurd (p.0 (mine w u q))
      | inr q ↦ o.out w u q.1 x p.1
    ]
  ];
  apart = λ v w x u g h same e. elim (case v x g) [
    | inl p ↦ elim (case w u h) [
      | inl q ↦ p.0 ∙ sym q.0
      | inr q ↦ absurd (fresh w u q.1 (sym same ∙ mine v x p) (sym e ∙ drawn_by v x p))
    ]
    | inr p ↦ elim (case w u h) [
      | inl q ↦ absurd (fresh v x p.1 (same ∙ mine w u q) (e ∙ drawn_by w u q))
      | inr q ↦ o.apart v w x u p.1 q.1 same e
    ]
  ];
}
  where
    out : new.book.out ≡ s.book.out ++ s.book.drawn ∷ []
    out = ap (λ (b : Book). b.out) is

    case : (w : ℕ) (u : Ticket) → slice_get (slice_set held worker (Some t)) w ≡ Some (Some u)
        → ((w ≡ worker) × (Some t ≡ Some u)) ⊎ ((w ≢ worker) × (slice_get held w ≡ Some (Some u)))
    case w u h = at_set held worker w (Some t) (Some u) h

    mine : (w : ℕ) (u : Ticket) → (w ≡ worker) × (Some t ≡ Some u) → shelf_for n w u.target ≡ k
    mine w u q = ap (λ i. shelf_for n i u.target) q.0 ∙ ap (λ (x : Ticket). shelf_for n worker x.target) (sym (same_Some t u q.1)) ∙ sym place

    drawn_by : (w : ℕ) (u : Ticket) → (w ≡ worker) × (Some t ≡ Some u) → u.number ≡ s.book.drawn
    drawn_by w u q = ap (λ (x : Ticket). x.number) (sym (same_Some t u q.1)) ∙ number

    fresh : (w : ℕ) (u : Ticket) → slice_get held w ≡ Some (Some u) → shelf_for n w u.target ≡ k → u.number ≡ s.book.drawn → ⊥
    fresh w u h at e = let low = o.below k s here u.number (o.out w u h s (moved ss (shelf_for n w u.target) k s at here)) in omega (arith, low, e)

    is_out : (w : ℕ) (u : Ticket) → slice_get (slice_set held worker (Some t)) w ≡ Some (Some u) → shelf_for n w u.target ≡ k
        → Among u.number (s.book.out ++ s.book.drawn ∷ [])
    is_out w u h at = elim (case w u h) [
      | inl q ↦ subst (λ m. Among m (s.book.out ++ s.book.drawn ∷ [])) (sym (drawn_by w u q)) (among_last s.book.drawn s.book.out)
      | inr q ↦ among_more u.number s.book.drawn s.book.out (o.out w u q.1 s (moved ss (shelf_for n w u.target) k s at here))
    ]

-- ---- the events

-- a take, by what it was answered
pub take_orderly : (n : ℕ) (d : Desk) (k worker : ℕ) (target : Destination) (answer : Val) (nonce : ℕ) (s new : Shelf) (r : Reply) → slice_get d.shelves k ≡ Some s
    → k ≡ shelf_for n worker target → Takes s.book nonce r new.book → AreOut n d.shelves d.held
    → (let x = taken_by d k worker target answer (r, new) in AreOut n x.1.shelves x.1.held)
take_orderly n d k worker target answer nonce s new (taken number drawn) here place took o =
    orderly_taken n d.shelves d.held k worker s new (record { target = target; answer = answer; number = number; nonce = drawn }) here place took.0 took.2 o
take_orderly n d k worker target answer nonce s new r here place took o =
    orderly_same n d.shelves d.held k s new here (ap (λ (b : Book). b.out) took) (ap (λ (b : Book). b.drawn) took) o

pub publish_orderly : (n : ℕ) (d : Desk) (k worker : ℕ) (t : Ticket) (fate : Fate) (s : Shelf) → slice_get d.shelves k ≡ Some s
    → k ≡ shelf_for n worker t.target → slice_get d.held worker ≡ Some (Some t) → AreOut n d.shelves d.held
    → AreOut n (slice_set d.shelves k (happening s (publish t) fate).1) (slice_set d.held worker None)
publish_orderly n d k worker t fate s here place holds o =
    let kept = published s.rules s.book (counting s.nonces) t fate in
    orderly_spent n d.shelves d.held k worker s (happening s (publish t) fate).1 t here place holds kept.out kept.drawn o

pub sweep_orderly : (n : ℕ) (d : Desk) (k tick : ℕ) (fate : Fate) (s : Shelf) → slice_get d.shelves k ≡ Some s → AreOut n d.shelves d.held
    → AreOut n (slice_set d.shelves k (happening s (sweep tick) fate).1) d.held
sweep_orderly n d k tick fate s here o =
    let kept = swept s.rules s.book (counting s.nonces) tick fate in
    orderly_same n d.shelves d.held k s (happening s (sweep tick) fate).1 here kept.out kept.drawn o

pub compact_orderly : (n : ℕ) (d : Desk) (k : ℕ) (fate : Fate) (s : Shelf) → slice_get d.shelves k ≡ Some s → AreOut n d.shelves d.held
    → AreOut n (slice_set d.shelves k (happening s compact fate).1) d.held
compact_orderly n d k fate s here o =
    let kept = compacted s.rules s.book (counting s.nonces) fate in
    orderly_same n d.shelves d.held k s (happening s compact fate).1 here kept.out kept.drawn o

-- a publish of what a worker holds
pub publish_lawful : (n : ℕ) (d : Desk) (k worker : ℕ) (t : Ticket) (s : Shelf) → slice_get d.shelves k ≡ Some s → k ≡ shelf_for n worker t.target
    → slice_get d.held worker ≡ Some (Some t) → AreOut n d.shelves d.held → IsLawful (publish t) s.book
publish_lawful n d k worker t s here place holds o =
    of_among s.book.out t.number (o.out worker t holds s (moved d.shelves (shelf_for n worker t.target) k s (sym place) here))

-- ---- a crash

-- what is held after it was held, and is of another shelf
pub held_elsewhere : (n k from w : ℕ) (held : List (Option Ticket)) (t : Ticket) → slice_get (without_shelf n k from held) w ≡ Some (Some t)
    → (slice_get held w ≡ Some (Some t)) × (shelf_for n (from + w) t.target ≢ k)
held_elsewhere n k from w [] t h = absurd (let no : None ≡ Some (Some t) = h in cc)
held_elsewhere n k from zero (o ∷ held) t h = at_first o h
  where
    unless : (b : Bool) (u : Ticket) → (shelf_for n from u.target == k) ≡ b → ◌≡◌ {A = Option (Option Ticket)} (Some (if b then None else Some u)) (Some (Some t))
        → (Some (Some u) ≡ Some (Some t)) × (shelf_for n (from + zero) t.target ≢ k)
    unless true u test e = absurd (cc)
    unless false u test e =
        let same : u ≡ t = same_Some u t (same_Some (Some u) (Some t) e) in (
          e,
          subst (λ (x : Ticket). shelf_for n (from + zero) x.target ≢ k) same
              (subst (λ m. shelf_for n m u.target ≢ k) (let is : from ≡ from + zero = omega arith in is) (λ is. not_same (shelf_for n from u.target) k test is)),
        )

    at_first : (o : Option Ticket) → slice_get (without_shelf n k from (o ∷ held)) zero ≡ Some (Some t)
        → (slice_get (o ∷ held) zero ≡ Some (Some t)) × (shelf_for n (from + zero) t.target ≢ k)
    at_first None e = absurd (let no : Some None ≡ Some (Some t) = e in cc)
    at_first (Some u) e = unless (shelf_for n from u.target == k) u refl e
held_elsewhere n k from (suc w) (o ∷ held) t h =
    let later = held_elsewhere n k (from + 1) w held t h in
    let is : from + 1 + w ≡ from + suc w = omega arith in
    (later.0, subst (λ m. shelf_for n m t.target ≢ k) is later.1)

-- nothing is out on a shelf that was opened again, and nobody holds a ticket of it
pub crash_orderly : (n : ℕ) (d : Desk) (k : ℕ) (s new : Shelf) → slice_get d.shelves k ≡ Some s → new.book.out ≡ [] → AreOut n d.shelves d.held
    → AreOut n (slice_set d.shelves k new) (without_shelf n k 0 d.held)
crash_orderly n d k s new here none o = record {
  count = length-set d.shelves k new ∙ o.count;
  below = λ j x e m h. elim (at_set d.shelves k j new x e) [
    | inl p ↦ absurd (subst (Among m) (ap (λ (y : Shelf). y.book.out) (sym p.1) ∙ none) h)
    | inr p ↦ o.below j x p.1 m h
  ];
  out = λ w t h x e.
      let was = held_elsewhere n k 0 w d.held t h in
      elim (at_set d.shelves k (shelf_for n w t.target) new x e) [
        | inl p ↦ absurd (was.1 (ap (λ i. shelf_for n i t.target) (let is : 0 + w ≡ w = omega arith in is) ∙ p.0))
        | inr p ↦ o.out w t was.0 x p.1
      ];
  apart = λ v w t u g h same e. o.apart v w t u (held_elsewhere n k 0 v d.held t g).0 (held_elsewhere n k 0 w d.held u h).0 same e;
}
