-- What a pass of a site knows, and what a worker has seen: the one stands for the other.
use Rattle.std.proofs.Common.{◌≡◌, ◌⊎◌, inl, inr, ◌∙◌, ◌≤◌, ◌<◌, ℕ, zero, suc, Bool, true, false, cond, List, [], ◌∷◌, ◌++◌, map, length, Option, Some, None, Result, Ok, Err, slice_get, set, length-append, refl, ap, sym, subst, arith, le-ltb}
use Rattle.std.specs.Prelude.{⊤}
use Rattle.web_disk.specs.View.{View}
use Rattle.web_outside.specs.View.{LinkView, PorchView}
use Rattle.request_workers.specs.Counting.{Count}
use Rattle.request_workers.specs.Working.{Worked}
use Rattle.script_value.specs.Val.{Val}
use Rattle.script_value.specs.declared.outcome.Reply.{Reply}
use Rattle.script_value.specs.declared.outcome.Reply.TheVariants as replies
use Rattle.script_value.specs.declared.outcome.Refusal.TheVariants as refusals
use Rattle.page_names.specs.Names.{Destination}
use Rattle.page_names.specs.Placing.{shelf_for}
use Rattle.replay_spec.specs.Step as step
use Rattle.site.specs.Shelves.{Ticket, ticket_of, reply_of, compacted_of}
use Rattle.http_forms.specs.Passes as passes
use Rattle.lock_row.specs.Spots.{Spot, spot, home_of, At, caller_at}
use Rattle.lock_row.specs.Rows.{IsNewPass}
use Rattle.lock_row.proofs.Places.{one_of}
use Rattle.history_spec.specs.Histories.{Entry, own_of, IsLegal, IsOpened}
use Rattle.history_spec.specs.Laws.{take_of}
use Rattle.history_spec.specs.Passes.{IsSeenBy, publish_of}
use Rattle.history_spec.proofs.Behind.{never_back}
use Rattle.history_spec.proofs.Going.{go_on}
use Rattle.history_spec.proofs.Passing.{own_append, own_one}
use Rattle.site.specs.declared.entry.KeptEntry.{KeptEntry}
use Rattle.site.specs.declared.opening.Opening.{Opening}
use Rattle.site.specs.declared.site.Site.{Site}
use Rattle.site.specs.Entries.{compacted_from, entry, entries_of}
use Rattle.site.specs.Opened.{Opened}
use Rattle.site.specs.Openings.{IsOwnOpening, book_then, count_of, opened_of, source_of, start_of}
use Rattle.site.specs.Passes.{Compacted, Follows, GoesFrom, Known, Published, Spots, Swept, Ticked, Took, has_freed, seen_by}
use Rattle.site.specs.Rules.{TicksAs, site_rules}
use Rattle.site.specs.Sites.{PublishesAt, TakesOn, VisitsAt, place_for}
use Rattle.site_serving.specs.Serving.{AreSeenBy, opened_as, openings_of}
use Rattle.site_serving.proofs.Moving.{worked}
use Rattle.site_serving.specs.Visits.{AreSwept, HappensAt, IsCompacted, IsFollowed, IsSwept, IsTicked, IsVisited, IsWorn, Makes, Seen, SweepsOn, VisitsOn, history_rules, nothing_seen, unseen}

is_none : {A : Type 0} (xs : List A) → length xs ≡ 0 → xs ≡ []
is_none [] e = refl
is_none (x ∷ xs) e = absurd (omega (arith, e))

-- among no shelves none has a place
none_of_none : (worker : ℕ) (target : Destination) → place_for 0 worker target ≡ None
none_of_none worker target =
    let k = shelf_for 0 worker target in
    ap (λ (b : Bool). cond b (Some k) None) (le-ltb k 0 (omega arith))

-- what stands between is of others, where the caller has no more entries than those added
others_only : (c : ℕ) (seen between added : List Entry) → own_of c added ≡ added → own_of c ((seen ++ between) ++ added) ≡ own_of c seen ++ added
    → own_of c between ≡ []
others_only c seen between added its own =
    let all = own_append c (seen ++ between) added in
    let front = own_append c seen between in
    let one = ap length (sym all ∙ own) in
    let two = length-append (own_of c (seen ++ between)) (own_of c added) in
    let three = ap length front ∙ length-append (own_of c seen) (own_of c between) in
    let four = length-append (own_of c seen) added in
    let five = ap length its in
    is_none (own_of c between) (omega (arith, one, two, three, four, five))

module _ {D N : Type 0} (view : D → View) (tells : Bool) (coming : N → ℕ → ℕ) (worker : ℕ) where
  abbrev words : Opening D N → Opened
  words o = opened_of view tells coming o

  -- what a pass knows of a shelf of this opening is what its worker has seen
  pub record Knows (o : Opening D N) (v : Known D N) (s : Seen) : Type 0 where
    pub opening : v.opening ≡ o ∷ []
    pub caller : v.caller ≡ worker
    pub front : s.front ≡ seen_by v
    pub opened : IsOpened (start_of view o).book
    pub clock : IsOwnOpening view tells o → s.tick ≤ (book_then view coming o s.front).clock

  -- what a call leaves stands for what it makes
  makes : (o : Opening D N) (v w : Known D N) (s : Seen) (added : List Entry) → Knows o v s → own_of worker added ≡ added
      → GoesFrom view tells coming v added w → (t : Seen) × Knows o w t × Makes (words o) worker added s t
  makes o v w s added k its g = (
    record s { front = (s.front ++ others) ++ added },
    record {
      opening = ap (λ (u : Known D N). u.opening) g.is ∙ k.opening;
      caller = ap (λ (u : Known D N). u.caller) g.is ∙ k.caller;
      front = whole;
      opened = k.opened;
      clock = λ own. let low = at own in let up = rises own (s.front ++ others) added refl in omega (arith, low, up);
    },
    record { others = others; is = refl; none = none; clock = at },
  )
    where
      others : List Entry
      others = g.grows.between

      whole : (s.front ++ others) ++ added ≡ seen_by w
      whole = ap (λ (l : List Entry). (l ++ others) ++ added) k.front ∙ sym g.grows.is

      none : own_of worker others ≡ []
      none =
          others_only worker (seen_by v) others added its
          (subst (λ c. own_of c ((seen_by v ++ others) ++ added) ≡ own_of c (seen_by v) ++ added) k.caller
          (subst (λ (l : List Entry). own_of v.caller l ≡ own_of v.caller (seen_by v) ++ added) g.grows.is g.grows.own))

      same : g.opening ≡ o
      same = let e : g.opening ∷ [] ≡ o ∷ [] = sym g.opening_is ∙ k.opening in cc e

      legal : IsOwnOpening view tells o → IsLegal (source_of coming o) (count_of view o.shelf.value) g.now (start_of view o) ((s.front ++ others) ++ added)
      legal own =
          subst (λ (l : List Entry). IsLegal (source_of coming o) (count_of view o.shelf.value) g.now (start_of view o) l) (sym whole)
          ((subst (λ (x : Opening D N). IsOwnOpening view tells x
          → IsLegal (source_of coming x) (count_of view x.shelf.value) g.now (start_of view x) (seen_by w)) same (λ y. (g.goes y).legal)) own)

      rises : IsOwnOpening view tells o → (front more : List Entry) → front ++ more ≡ (s.front ++ others) ++ added
          → (book_then view coming o front).clock ≤ (book_then view coming o ((s.front ++ others) ++ added)).clock
      rises own front more is =
          subst (λ (l : List Entry). (book_then view coming o front).clock ≤ (book_then view coming o l).clock) is
          (never_back (source_of coming o) (count_of view o.shelf.value) g.now (start_of view o) front more k.opened
          (subst (λ (l : List Entry). IsLegal (source_of coming o) (count_of view o.shelf.value) g.now (start_of view o) l) (sym is) (legal own))).0

      at : IsOwnOpening view tells o → s.tick ≤ (book_then view coming o (s.front ++ others)).clock
      at own =
          let low = k.clock own in
          let up = (never_back (source_of coming o) (count_of view o.shelf.value) g.now (start_of view o) s.front others k.opened
          ((go_on (source_of coming o) (count_of view o.shelf.value) g.now (start_of view o) (s.front ++ others)).2 added (legal own))).0 in
          omega (arith, low, up)

  -- one entry of the worker, and none
  makes_one : (o : Opening D N) (v w : Known D N) (s : Seen) (event : step.Event) (reply : step.Reply) → Knows o v s
      → GoesFrom view tells coming v (entry v.caller event reply ∷ []) w → (t : Seen) × Knows o w t × Makes (words o) worker (entry worker event reply ∷ []) s t
  makes_one o v w s event reply k g =
      makes o v w s (entry worker event reply ∷ []) k (own_one (entry worker event reply) worker refl)
      (subst (λ c. GoesFrom view tells coming v (entry c event reply ∷ []) w) k.caller g)

  makes_none : (o : Opening D N) (v w : Known D N) (s : Seen) → Knows o v s → GoesFrom view tells coming v [] w → (t : Seen) × Knows o w t × Makes (words o) worker [] s t
  makes_none o v w s k g = makes o v w s [] k refl g

  -- ---- a visit and a sweep of one shelf

  -- what a take makes that is told a ticket
  abbrev TakesTicket : Destination → Val → Ticket → Opened → Seen → Seen → Type 0
  TakesTicket target answer t o a b =
      ((ticket_of t).target ≡ target) × ((ticket_of t).answer ≡ answer) × Makes o worker (take_of worker (ticket_of t) ∷ []) a b

  taken : (target : Destination) (answer : Val) (t : Ticket) (o : Opening D N) (v w : Known D N) (s : Seen) → Knows o v s
      → Took view tells coming v target answer (Ok t) w → (u : Seen) × Knows o w u × TakesTicket target answer t (words o) s u
  taken target answer t o v w s k took =
      let m = makes o v w s (take_of worker (ticket_of t) ∷ []) k (own_one (take_of worker (ticket_of t)) worker refl)
      (subst (λ c. GoesFrom view tells coming v (take_of c (ticket_of t) ∷ []) w) k.caller took.goes) in
      (m.0, m.1, (took.target_is, took.answer_is, m.2))

  -- a take that was told none
  untaken : (target : Destination) (answer : Val) (reply : Reply) (o : Opening D N) (v w : Known D N) (s : Seen) → Knows o v s
      → Took view tells coming v target answer (Err reply) w → (u : Seen) × Knows o w u × IsVisited (words o) worker target answer reply s u
  untaken target answer reply o v w s k (told, inl g) =
      let m = makes_one o v w s (step.take target answer) (reply_of reply) k g in (m.0, m.1, IsVisited.untaken told m.2)
  untaken target answer reply o v w s k (told, inr worn) =
      let m = makes_none o v w s k worn.2 in (m.0, m.1, IsVisited.worn (worn.0, ap length m.1.front ∙ worn.1, m.2))

  -- what a publish makes: its entry, or none, where the lock was worn
  abbrev Publishes : Ticket → Reply → Opened → Seen → Seen → Type 0
  Publishes t reply o a b = Makes o worker (publish_of worker (ticket_of t) (reply_of reply) ∷ []) a b ⊎ IsWorn o worker reply a b

  published : (t : Ticket) (reply : Reply) (o : Opening D N) (v w : Known D N) (s : Seen) → Knows o v s → Published view tells coming v t reply w
      → (u : Seen) × Knows o w u × Publishes t reply (words o) s u
  published t reply o v w s k (inl g) =
      let m = makes o v w s (publish_of worker (ticket_of t) (reply_of reply) ∷ []) k (own_one (publish_of worker (ticket_of t) (reply_of reply)) worker refl)
      (subst (λ c. GoesFrom view tells coming v (publish_of c (ticket_of t) (reply_of reply) ∷ []) w) k.caller g) in
      (m.0, m.1, inl m.2)
  published t reply o v w s k (inr worn) = let m = makes_none o v w s k worn.2 in (m.0, m.1, inr (worn.0, ap length m.1.front ∙ worn.1, m.2))

  -- a take and what is after it are a visit
  visited : (target : Destination) (answer : Val) (t : Ticket) (reply : Reply) (o : Opened) (a c : Seen)
      → ((b : Seen) × TakesTicket target answer t o a b × Publishes t reply o b c) → IsVisited o worker target answer reply a c
  visited target answer t reply o a c (b, took, inl made) = IsVisited.published (ticket_of t) b took.0 took.1 took.2 made
  visited target answer t reply o a c (b, took, inr worn) = IsVisited.unpublished (ticket_of t) b took.0 took.1 took.2 worn

  swept_to : (o : Opening D N) (w : Known D N) (s m : Seen) (tick freed : ℕ) → Knows o w m
      → (Makes (words o) worker (entry worker (step.sweep tick) (step.swept freed) ∷ []) s m ⊎ ((freed ≡ 0) × Makes (words o) worker [] s m))
      → (IsOwnOpening view tells o → tick ≤ (book_then view coming o (seen_by w)).clock) → (u : Seen) × Knows o w u × IsSwept (words o) worker tick (Ok freed) s u
  swept_to o w s m tick freed k made reached =
      let clock : IsOwnOpening view tells o → tick ≤ (book_then view coming o m.front).clock =
      λ own. subst (λ (l : List Entry). tick ≤ (book_then view coming o l).clock) (sym k.front) (reached own) in (
        record m { tick = tick },
        record { opening = k.opening; caller = k.caller; front = k.front; opened = k.opened; clock = clock },
        record { middle = m; makes = made; clock = clock; is = refl },
      )

  swept : (o : Opening D N) (v w : Known D N) (s : Seen) (tick : ℕ) (r : Result ℕ Reply) → Knows o v s → Swept view tells coming v tick r w
      → (u : Seen) × Knows o w u × IsSwept (words o) worker tick r s u
  swept o v w s tick (Ok n) k (inl g, reached) =
      let m = makes_one o v w s (step.sweep tick) (step.swept n) k g in swept_to o w s m.0 tick n m.1 (inl m.2) (reached o m.1.opening)
  swept o v w s tick (Ok n) k (inr g, reached) =
      let m = makes_none o v w s k g.1 in swept_to o w s m.0 tick n m.1 (inr (g.0, m.2)) (reached o m.1.opening)
  swept o v w s tick (Err reply) k (inl g) =
      let m = makes_one o v w s (step.sweep tick) (reply_of reply) k g in (m.0, m.1, inl m.2)
  swept o v w s tick (Err reply) k (inr worn) =
      let m = makes_none o v w s k worn.2 in (m.0, m.1, inr (worn.0, ap length m.1.front ∙ worn.1, m.2))

  compacted : (o : Opening D N) (v w : Known D N) (s : Seen) → Knows o v s → Compacted view tells coming v w → (u : Seen) × Knows o w u × IsCompacted (words o) worker s u
  compacted o v w s k (Compacted.compacted told g long) =
      let m = makes_one o v w s step.compact (compacted_of told) k g in (
        m.0,
        m.1,
        IsCompacted.compacted told m.2
            (λ own. long (s.front ++ m.2.others) (entry worker step.compact (compacted_of told)) (sym m.1.front ∙ ap (λ (x : Seen). x.front) m.2.is) o m.1.opening own),
      )
  compacted o v w s k (Compacted.short g short) =
      let m = makes_none o v w s k g in (
        m.0,
        m.1,
        IsCompacted.short m.2 (λ own. subst (λ (l : List Entry). (book_then view coming o l).length < compacted_from) (sym m.1.front) (short o m.1.opening own)),
      )
  compacted o v w s k (Compacted.worn g full) = let m = makes_none o v w s k g in (m.0, m.1, IsCompacted.worn m.2 (ap length m.1.front ∙ full))

  followed : (freed : Bool) (o : Opening D N) (v w : Known D N) (s : Seen) → Knows o v s → Follows view tells coming freed v w
      → (u : Seen) × Knows o w u × IsFollowed (words o) worker freed s u
  followed true o v w s k follows = compacted o v w s k follows
  followed false o v w s k same = (s, subst (λ x. Knows o x s) (sym same) k, refl)

  ticked : (o : Opening D N) (v w : Known D N) (s : Seen) (tick : ℕ) (r : Result ℕ Reply) → Knows o v s → Ticked view tells coming v tick r w
      → (u : Seen) × Knows o w u × IsTicked (words o) worker tick r s u
  ticked o v w s tick r k t =
      let one = swept o v t.middle s tick r k t.swept in
      let two = followed (has_freed r) o t.middle w one.0 one.1 t.follows in
      (two.0, two.1, record { middle = one.0; swept = one.2; followed = two.2 })

  -- ---- all shelves

  -- what a pass knows of each shelf is what its worker has seen of it
  abbrev pub KnowsAll : List (Opening D N) → Spots D N → List Seen → Type 0
  KnowsAll [] [] [] = ⊤
  KnowsAll (o ∷ openings) (a ∷ pass) (s ∷ seen) = Knows o a.known s × KnowsAll openings pass seen
  KnowsAll openings pass seen = ⊥

  all_length : (openings : List (Opening D N)) (pass : Spots D N) (seen : List Seen) → KnowsAll openings pass seen → length pass ≡ length seen
  all_length [] [] [] all = refl
  all_length [] [] (s ∷ seen) all = absurd all
  all_length [] (a ∷ pass) seen all = absurd all
  all_length (o ∷ openings) [] seen all = absurd all
  all_length (o ∷ openings) (a ∷ pass) [] all = absurd all
  all_length (o ∷ openings) (a ∷ pass) (s ∷ seen) all = ap suc (all_length openings pass seen all.1)

  -- what becomes of the shelf at one place
  happens : (R : Known D N → Known D N → Type 0) (S : Opened → Seen → Seen → Type 0)
      → ((o : Opening D N) (v w : Known D N) (s : Seen) → Knows o v s → R v w → (u : Seen) × Knows o w u × S (words o) s u)
      → (k : ℕ) (openings : List (Opening D N)) (old new : Spots D N) (seen : List Seen) → KnowsAll openings old seen → At k R old new
      → (then : List Seen) × KnowsAll openings new then × HappensAt S k (opened_as view tells coming openings) seen then
  happens R S one k [] [] new [] all (a, w, here, is, r) = absurd (let no : ⊥ = cc here in no)
  happens R S one k [] [] new (s ∷ seen) all at = absurd all
  happens R S one k [] (b ∷ old) new seen all at = absurd all
  happens R S one k (o ∷ openings) [] new seen all at = absurd all
  happens R S one k (o ∷ openings) (b ∷ old) new [] all at = absurd all
  happens R S one zero (o ∷ openings) (b ∷ old) new (s ∷ seen) all (a, w, here, is, r) =
      let u = one o b.known w s all.0 (subst (λ (x : Spot (Opening D N) KeptEntry). R x.known w) (sym (one_of here)) r) in
      (u.0 ∷ seen, subst (λ p. KnowsAll (o ∷ openings) p (u.0 ∷ seen)) (sym is) (u.1, all.1), (u.2, refl))
  happens R S one (suc k) (o ∷ openings) (b ∷ old) new (s ∷ seen) all (a, w, here, is, r) =
      let more = happens R S one k openings old (set old k (spot a.table w)) seen all.1 (a, w, here, refl, r) in
      (s ∷ more.0, subst (λ p. KnowsAll (o ∷ openings) p (s ∷ more.0)) (sym is) (all.0, more.1), (refl, more.2))

  -- two calls at one place, the second after the first
  behind : (S T : Opened → Seen → Seen → Type 0) (k : ℕ) (os : List Opened) (a b c : List Seen) → HappensAt S k os a b → HappensAt T k os b c
      → HappensAt (λ o x z. (y : Seen) × S o x y × T o y z) k os a c
  behind S T zero (o ∷ os) (x ∷ a) (y ∷ b) (z ∷ c) one two = ((y, one.0, two.0), two.1 ∙ one.1)
  behind S T (suc k) (o ∷ os) (x ∷ a) (y ∷ b) (z ∷ c) one two = (two.0 ∙ one.0, behind S T k os a b c one.1 two.1)
  behind S T zero [] a b c one two = absurd one
  behind S T zero (o ∷ os) [] b c one two = absurd one
  behind S T zero (o ∷ os) (x ∷ a) [] c one two = absurd one
  behind S T zero (o ∷ os) (x ∷ a) (y ∷ b) [] one two = absurd two
  behind S T (suc k) [] a b c one two = absurd one
  behind S T (suc k) (o ∷ os) [] b c one two = absurd one
  behind S T (suc k) (o ∷ os) (x ∷ a) [] c one two = absurd one
  behind S T (suc k) (o ∷ os) (x ∷ a) (y ∷ b) [] one two = absurd two

  happens_as : (S T : Opened → Seen → Seen → Type 0) → ((o : Opened) (x y : Seen) → S o x y → T o x y) → (k : ℕ) (os : List Opened) (a b : List Seen)
      → HappensAt S k os a b → HappensAt T k os a b
  happens_as S T f zero (o ∷ os) (x ∷ a) (y ∷ b) h = (f o x y h.0, h.1)
  happens_as S T f (suc k) (o ∷ os) (x ∷ a) (y ∷ b) h = (h.0, happens_as S T f k os a b h.1)
  happens_as S T f zero [] a b h = absurd h
  happens_as S T f zero (o ∷ os) [] b h = absurd h
  happens_as S T f zero (o ∷ os) (x ∷ a) [] h = absurd h
  happens_as S T f (suc k) [] a b h = absurd h
  happens_as S T f (suc k) (o ∷ os) [] b h = absurd h
  happens_as S T f (suc k) (o ∷ os) (x ∷ a) [] h = absurd h

  as_many : (openings : List (Opening D N)) (pass : Spots D N) (seen : List Seen) → KnowsAll openings pass seen → length seen ≡ length openings
  as_many [] [] [] all = refl
  as_many [] [] (s ∷ seen) all = absurd all
  as_many [] (a ∷ pass) seen all = absurd all
  as_many (o ∷ openings) [] seen all = absurd all
  as_many (o ∷ openings) (a ∷ pass) [] all = absurd all
  as_many (o ∷ openings) (a ∷ pass) (s ∷ seen) all = ap suc (as_many openings pass seen all.1)

  -- a pass and its worker find the same shelf for a target
  no_place : (target : Destination) → place_for 0 0 target ≡ place_for 0 worker target
  no_place target = none_of_none 0 target ∙ sym (none_of_none worker target)

  same_place : (openings : List (Opening D N)) (pass : Spots D N) (seen : List Seen) (target : Destination) → KnowsAll openings pass seen
      → place_for (length pass) (caller_at pass) target ≡ place_for (length seen) worker target
  same_place [] [] [] target all = no_place target
  same_place [] [] (s ∷ seen) target all = absurd all
  same_place [] (a ∷ pass) seen target all = absurd all
  same_place (o ∷ openings) [] seen target all = absurd all
  same_place (o ∷ openings) (a ∷ pass) [] target all = absurd all
  same_place (o ∷ openings) (a ∷ pass) (s ∷ seen) target all =
      ap (λ c. place_for (length (a ∷ pass)) c target) all.0.caller ∙ ap (λ n. place_for n worker target) (all_length (o ∷ openings) (a ∷ pass) (s ∷ seen) all)

  module _ (openings : List (Opening D N)) where
    abbrev Visited : Option ℕ → Destination → Val → Reply → List Seen → List Seen → Type 0
    Visited place target answer reply old new = VisitsOn place (opened_as view tells coming openings) worker target answer reply old new

    -- a visit without a ticket
    visits_untaken : (place : Option ℕ) (p p' : Spots D N) (q : List Seen) (target : Destination) (answer : Val) (reply : Reply) → KnowsAll openings p q
        → TakesOn view tells coming place p target answer (Err reply) p' → (q' : List Seen) × KnowsAll openings p' q' × Visited place target answer reply q q'
    visits_untaken None p p' q target answer reply all took =
        let is : reply ≡ replies.Refused refusals.Unknown = (let e = took.0 in cc) in
        (q, subst (λ x. KnowsAll openings x q) (sym took.1) all, (is, refl))
    visits_untaken (Some k) p p' q target answer reply all took =
        happens (λ v w. Took view tells coming v target answer (Err reply) w) (λ o a b. IsVisited o worker target answer reply a b)
        (untaken target answer reply) k openings p p' q all took

    -- a visit with a ticket
    visits_taken : (place : Option ℕ) (p middle p' : Spots D N) (q : List Seen) (target : Destination) (answer : Val) (t : Ticket) (reply : Reply)
        → place ≡ place_for (length p) (caller_at p) target → KnowsAll openings p q
        → TakesOn view tells coming place p target answer (Ok t) middle → PublishesAt view tells coming middle t reply p'
        → (q' : List Seen) × KnowsAll openings p' q' × Visited place target answer reply q q'
    visits_taken None p middle p' q target answer t reply is all took published = absurd (let e = took.0 in let no : ⊥ = cc e in no)
    visits_taken (Some k) p middle p' q target answer t reply is all took (j, j_is, at) =
        let one = happens (λ v w. Took view tells coming v target answer (Ok t) w) (TakesTicket target answer t) (taken target answer t) k openings p middle q all took in
        let many : length one.0 ≡ length q = as_many openings middle one.0 one.1 ∙ sym (as_many openings p q all) in
        let there : Some j ≡ place_for (length q) worker target =
        sym j_is ∙ (same_place openings middle one.0 (ticket_of t).target one.1
        ∙ (ap (λ n. place_for n worker (ticket_of t).target) many ∙ ap (λ d. place_for (length q) worker d) took.4.target_is)) in
        let same : j ≡ k = one_of (there ∙ sym (is ∙ same_place openings p q target all)) in
        let two = happens (λ v w. Published view tells coming v t reply w) (Publishes t reply) (published t reply) k openings middle p' one.0 one.1
        (subst (λ i. At i (λ v w. Published view tells coming v t reply w) middle p') same at) in
        let os = opened_as view tells coming openings in (
          two.0,
          two.1,
          happens_as _ (λ o a b. IsVisited o worker target answer reply a b) (λ o x y h. visited target answer t reply o x y h) k os q two.0
              (behind (TakesTicket target answer t) (Publishes t reply) k os q one.0 two.0 one.2 two.2),
        )

    visits : (p p' : Spots D N) (q : List Seen) (target : Destination) (answer : Val) (reply : Reply) → KnowsAll openings p q
        → VisitsAt view tells coming p target answer reply p' → (q' : List Seen) × KnowsAll openings p' q' × Visited (place_for (length q) worker target) target answer reply q q'
    visits p p' q target answer reply all (inl (t, middle, took, published)) =
        subst (λ place. (q' : List Seen) × KnowsAll openings p' q' × Visited place target answer reply q q') (same_place openings p q target all)
        (visits_taken (place_for (length p) (caller_at p) target) p middle p' q target answer t reply refl all took published)
    visits p p' q target answer reply all (inr took) =
        subst (λ place. (q' : List Seen) × KnowsAll openings p' q' × Visited place target answer reply q q') (same_place openings p q target all)
        (visits_untaken (place_for (length p) (caller_at p) target) p p' q target answer reply all took)

  -- each shelf was swept
  all_swept : (tick : ℕ) (openings : List (Opening D N)) (old new : Spots D N) (seen : List Seen) (answers : List (Result ℕ Reply)) → KnowsAll openings old seen
      → length answers ≡ length old
      → ((k : ℕ) (r : Result ℕ Reply) → slice_get answers k ≡ Some r → (a : Spot (Opening D N) KeptEntry) → slice_get old k ≡ Some a
      → (w : Known D N) × (slice_get new k ≡ Some (spot a.table w)) × Ticked view tells coming a.known tick r w)
      → ((k : ℕ) → length answers ≤ k → slice_get new k ≡ slice_get old k)
      → (then : List Seen) × KnowsAll openings new then × AreSwept (opened_as view tells coming openings) worker tick answers seen then
  all_swept tick [] [] [] [] [] all len each past = ([], tt, tt)
  all_swept tick [] [] (y ∷ new) [] [] all len each past = absurd (let e = past 0 (omega arith) in let no : ⊥ = cc e in no)
  all_swept tick [] [] new [] (r ∷ answers) all len each past = absurd (omega (arith, len))
  all_swept tick [] [] new (s ∷ seen) answers all len each past = absurd all
  all_swept tick [] (a ∷ old) new seen answers all len each past = absurd all
  all_swept tick (o ∷ openings) [] new seen answers all len each past = absurd all
  all_swept tick (o ∷ openings) (a ∷ old) new [] answers all len each past = absurd all
  all_swept tick (o ∷ openings) (a ∷ old) new (s ∷ seen) [] all len each past = absurd (omega (arith, len))
  all_swept tick (o ∷ openings) (a ∷ old) [] (s ∷ seen) (r ∷ answers) all len each past =
      absurd (let e = (each 0 r refl a refl).1 in let no : ⊥ = cc e in no)
  all_swept tick (o ∷ openings) (a ∷ old) (y ∷ new) (s ∷ seen) (r ∷ answers) all len each past =
      let first = each 0 r refl a refl in
      let u = ticked o a.known first.0 s tick r all.0 first.2 in
      let known : first.0 ≡ y.known = ap (λ (x : Spot (Opening D N) KeptEntry). x.known) (sym (one_of first.1)) in
      let rest = all_swept tick openings old new seen answers all.1 (omega (arith, len)) (λ k x x_is b b_is. each (suc k) x x_is b b_is)
      (λ k le. past (suc k) (omega (arith, le))) in
      (u.0 ∷ rest.0, (subst (λ w. Knows o w u.0) known u.1, rest.1), (u.2, rest.2))

  module _ (openings : List (Opening D N)) where
    ticks : (p p' : Spots D N) (q : List Seen) (tick : ℕ) (answers : passes.Swept) → KnowsAll openings p q → TicksAs view tells coming p tick answers p'
        → (q' : List Seen) × KnowsAll openings p' q' × SweepsOn (opened_as view tells coming openings) worker tick answers q q'
    ticks p p' q tick (Ok answers) all t = all_swept tick openings p p' q answers all t.all t.so.ticked t.so.others
    ticks p p' q tick (Err e) all same = (q, subst (λ x. KnowsAll openings x q) (sym same) all, refl)

    -- What a worker did by the rules of a site, it did by those of histories.
    pub worked_so : {L : Type 0} (site : Site D N) (link : L → LinkView) (shown : Option ℕ) (requests : ℕ) (p p' : Spots D N) (q : List Seen)
        (old new : PorchView L) (count : Count) → KnowsAll openings p q → Worked (site_rules view tells coming site) link shown requests p p' old new count
        → (q' : List Seen) × KnowsAll openings p' q'
        × Worked (history_rules (opened_as view tells coming openings) worker) link shown requests q q' old new count
    worked_so site link shown requests p p' q old new count all w =
        worked (site_rules view tells coming site) (history_rules (opened_as view tells coming openings) worker) (KnowsAll openings) shown
        (visits openings) ticks link requests p p' q old new count all w

  -- ---- the first pass, and the last

  -- a worker that was just given its pass has seen nothing
  pub first_knows : (pass : Spots D N) → IsNewPass worker pass
      → ((k : ℕ) (a : Spot (Opening D N) KeptEntry) → slice_get pass k ≡ Some a
      → (o : Opening D N) × (a.known.opening ≡ o ∷ []) × IsOpened (start_of view o).book)
      → KnowsAll (openings_of (map (λ (s : Spot (Opening D N) KeptEntry). home_of s) pass)) pass
      (unseen (opened_as view tells coming (openings_of (map (λ (s : Spot (Opening D N) KeptEntry). home_of s) pass))))
  first_knows [] new each = tt
  first_knows (a ∷ pass) new each =
      let one = each 0 a refl in
      let fresh = new 0 a refl in
      let rest = first_knows pass (λ k s is. new (suc k) s is) (λ k s is. each (suc k) s is) in
      let others = openings_of (map (λ (s : Spot (Opening D N) KeptEntry). home_of s) pass) in
      let knows : Knows one.0 a.known nothing_seen = record {
        opening = one.1;
        caller = fresh.0;
        front = ap entries_of (sym fresh.1);
        opened = one.2;
        clock = λ own. omega arith;
      } in
      subst (λ os. KnowsAll (os ++ others) (a ∷ pass) (unseen (opened_as view tells coming (os ++ others)))) (sym one.1) (knows, rest)

  -- what a worker has seen at the end begins the histories
  pub last_seen : (openings : List (Opening D N)) (pass : Spots D N) (seen : List Seen) (histories : List (List KeptEntry)) → KnowsAll openings pass seen
      → length histories ≡ length pass
      → ((k : ℕ) (a : Spot (Opening D N) KeptEntry) (h : List KeptEntry) → slice_get pass k ≡ Some a → slice_get histories k ≡ Some h
      → IsSeenBy worker (seen_by a.known) (entries_of h))
      → AreSeenBy worker seen histories
  last_seen [] [] [] [] all len each = tt
  last_seen [] [] [] (h ∷ histories) all len each = absurd (omega (arith, len))
  last_seen [] [] (s ∷ seen) histories all len each = absurd all
  last_seen [] (a ∷ pass) seen histories all len each = absurd all
  last_seen (o ∷ openings) [] seen histories all len each = absurd all
  last_seen (o ∷ openings) (a ∷ pass) [] histories all len each = absurd all
  last_seen (o ∷ openings) (a ∷ pass) (s ∷ seen) [] all len each = absurd (omega (arith, len))
  last_seen (o ∷ openings) (a ∷ pass) (s ∷ seen) (h ∷ histories) all len each = (
    subst (λ (l : List Entry). IsSeenBy worker l (entries_of h)) (sym all.0.front) (each 0 a h refl refl),
    last_seen openings pass seen histories all.1 (omega (arith, len)) (λ k b x b_is x_is. each (suc k) b x b_is x_is),
  )
