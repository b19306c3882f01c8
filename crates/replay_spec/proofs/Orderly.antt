-- Each lawful event keeps a book orderly.
use Rattle.std.proofs.Common.{◌<◌, ◌≡◌, ◌≤◌, ◌==◌, ◌+◌, max, ℕ, List, [], ◌∷◌, ◌++◌, length, Option, Some, None, Bool, true, false, not, filter, refl, sym, ap, subst, ◌∙◌, inl, inr, ⊎_elim, arith}
use Rattle.std.specs.Prelude.{⊤, if◌then◌else◌}
use Rattle.std.proofs.lemmas.Option.{same_Some}
use Rattle.script_value.specs.declared.outcome.TxName.{TxName}
use Rattle.script_nodes.specs.Setup.{Named}
use Rattle.replay_spec.specs.Tape.{present, How, shows, Outcome, paged}
use Rattle.replay_spec.specs.Tape as tape
use Rattle.replay_spec.specs.Eval.{Segment}
use Rattle.replay_spec.specs.Book.{Instance, Change, opens, extends, ends, finishes, sweeps, Book, instance_at, page_at, landing, compacting, draw, spend}
use Rattle.replay_spec.specs.Rules.{Journal, Rules}
use Rattle.replay_spec.specs.Change.{instances_by, logged_by, clock_by, land}
use Rattle.replay_spec.specs.Compaction.{rewritten, reopened_with}
use Rattle.replay_spec.specs.Admission.{or_else, is_one, Place, Admission, begins, resumes, refused, admit}
use Rattle.replay_spec.specs.Next.{Ticket, Origin, starts, answers, Visit, url_for, comes_to, start_visit, page_visit}
use Rattle.replay_spec.specs.Step.{Reply, Decision, replies, records, compacts, unless, too_long, full_journal, with_room, change_by, reply_by, full, stopped, gone_for, doubting, decide}
use Rattle.replay_spec.specs.Runs.{lands}
use Rattle.replay_spec.specs.Invariant.{Among, AreDifferent, CanGo, HasPage, IsOf, IsDoubted, Unused, AreOrderly, IsOrderlyChange, IsOrderlyDoubt, IsOrderly}
use Rattle.replay_spec.specs.Laws.{IsLawful, Moment, then_book, book_after, AreLawful, Leads, OrderlyBooksStay, EachHasItsCells}
use Rattle.replay_spec.proofs.Numbered.{number_of}
use Rattle.replay_spec.proofs.Stand.{among_drawn, among_spent, Since, since_same, since_then, orderly_less, is_below, empty_orderly, Later}
use Rattle.replay_spec.proofs.Landed.{land_well}
use Rattle.replay_spec.proofs.Admitted.{Stands, Says, says}
use Rattle.replay_spec.proofs.Going.{Records, Goes, stays, draws, spends, publishes, fails, goes_to, fails_at, rewrites, fails_to_rewrite, keeps, keeps_rewritten, loses, goes}
use Rattle.replay_spec.proofs.Goers.{pages_of, goers_go, go_used}

-- what a decision records answers a page that is there, and is of the number that is spent
abbrev IsOrderlyDecision : Book → ℕ → Decision → Type 0
IsOrderlyDecision b n (replies r) = ⊤
IsOrderlyDecision b n (records r c inside) = IsOrderlyChange b.clock b.instances c × IsOf n c
IsOrderlyDecision b n (compacts r) = ⊥

unless_orderly : (b : Book) (n : ℕ) (o : Option Reply) (d : Decision) → IsOrderlyDecision b n d → IsOrderlyDecision b n (unless o d)
unless_orderly b n None d h = h
unless_orderly b n (Some r) d h = tt

-- the page that an origin answers stands, and so do the pages that go
abbrev IsThere : Book → (gone : List ℕ) → Origin → Type 0
IsThere b gone (starts k) = ⊤
IsThere b gone (answers k m) = HasPage b.instances k m × CanGo b.instances k gone

abbrev IsOrderlyOption : Book → ℕ → Option Change → Type 0
IsOrderlyOption b n None = ⊤
IsOrderlyOption b n (Some c) = IsOrderlyChange b.clock b.instances c × IsOf n c

room_orderly : (rules : Rules) (b : Book) (n : ℕ) (r : Reply) (inside : List TxName) (o : Option Change) → IsOrderlyOption b n o → IsOrderlyDecision b n (with_room rules b r inside o)
room_orderly rules b n r inside None h = tt
room_orderly rules b n r inside (Some c) h = unless_orderly b n (or_else (too_long rules.journal b c) (full_journal rules.journal b c)) (records r c inside) h

change_orderly : (rules : Rules) (b : Book) (gone : List ℕ) (v : Visit) (s : Segment) (origin : Origin) (how : How) → IsThere b gone origin → IsOrderlyOption b v.ticket.number (change_by rules b gone v s origin how)
change_orderly rules b gone v s (starts k) (shows kind) h = (tt, refl)
change_orderly rules b gone v s (starts k) tape.finishes h = tt
change_orderly rules b gone v s (starts k) tape.ends h = tt
change_orderly rules b gone v s (answers k m) (shows kind) h = (h, refl)
change_orderly rules b gone v s (answers k m) tape.finishes h = (h.0, refl)
change_orderly rules b gone v s (answers k m) tape.ends h = (h.0, refl)

stopped_orderly : (rules : Rules) (b : Book) (gone : List ℕ) (v : Visit) (s : Segment) (o : Outcome) → IsThere b gone v.origin → IsOrderlyDecision b v.ticket.number (stopped rules b gone v s o)
stopped_orderly rules b gone v s (paged how bytes) h =
    let c = change_by rules b gone v s v.origin how in
    let r = reply_by how bytes (url_for v) in
    unless_orderly b v.ticket.number (full rules how v.origin (length b.instances)) (with_room rules b r s.entered c)
    (room_orderly rules b v.ticket.number r s.entered c (change_orderly rules b gone v s v.origin how h))
stopped_orderly rules b gone v s (tape.faulted f) h = tt
stopped_orderly rules b gone v s (tape.out_of_fuel cost) h = tt

-- a page that is admitted stands there under its own numbers
pub stands_there : (b : Book) (at : Place) → Stands b at → (instance_at at.instance.number b.instances ≡ Some at.instance) × (page_at at.page.number at.instance.pages ≡ Some at.page)
stands_there b at h = (
  ap (λ n. instance_at n b.instances) (number_of (λ j. j.number) h.numbers.instance b.instances at.instance h.stands.here) ∙ h.stands.here,
  ap (λ n. page_at n at.instance.pages) (number_of (λ q. q.number) h.numbers.page at.instance.pages at.page h.stands.shown) ∙ h.stands.shown,
)

decided_by : (rules : Rules) (b : Book) (t : Ticket) (a : Admission) → IsOrderly b → Says b a → IsOrderlyDecision b t.number (decide rules b t a)
decided_by rules b t (begins k s) g h =
    let v = start_visit b t k s in let m = comes_to v (present s.script.cells rules.fuel) in stopped_orderly rules b [] v m m.outcome tt
decided_by rules b t (resumes at) g h =
    let v = page_visit b t at in
    let m = comes_to v (present at.instance.cells rules.fuel) in
    let there = stands_there b at h in
    stopped_orderly rules b (gone_for rules t at) v m m.outcome (
      (at.page, record { instance = at.instance; found = there.0; shown = there.1 }),
      λ i found n gone.
          let same : at.instance ≡ i = same_Some at.instance i (sym there.0 ∙ found) in
          subst (λ (j : Instance). is_one n (pages_of j.used) ≡ true) same
          (go_used (gone_for rules t at) at.instance.used n (goers_go rules.pages at.page.number t.number at.instance.used) gone),
    )
decided_by rules b t (refused r) g h = tt

-- so is what a publish records
pub recorded_orderly : {lawful : Type 0} (rules : Rules) (b : Book) (t : Ticket) (c : Change) (inside : List TxName) → IsOrderly b → Records lawful rules b t c inside
    → IsOrderlyChange b.clock b.instances c × IsOf t.number c
recorded_orderly rules b t c inside g h = subst (IsOrderlyDecision b t.number) h.decided (decided_by rules b t (admit b t.target) g (says b t.target))

pub different_more : (ns : List ℕ) (m : ℕ) → AreDifferent ns → (Among m ns → ⊥) → AreDifferent (ns ++ m ∷ [])
different_more [] m h new = (λ none. none, tt)
different_more (n ∷ ns) m h new =
    (λ there. ⊎_elim (λ old. h.0 old) (λ e. new (inl (sym e))) (among_drawn n m ns there), different_more ns m h.1 (λ there. new (inr there)))

different_spent : (m : ℕ) (ns : List ℕ) → AreDifferent ns → AreDifferent (filter (λ k. not (k == m)) ns)
different_spent m [] h = tt
different_spent m (n ∷ ns) h = by_test (n == m) (different_spent m ns h.1)
  where
    by_test : (b : Bool) → AreDifferent (filter (λ k. not (k == m)) ns) → AreDifferent (if not b then n ∷ filter (λ k. not (k == m)) ns else filter (λ k. not (k == m)) ns)
    by_test true rest = rest
    by_test false rest = (λ there. h.0 (among_spent n m ns there).0, rest)

-- a book with the same instances, in which fewer numbers are unused
still : (b c : Book) → IsOrderly b → c.shelf ≡ b.shelf → c.instances ≡ b.instances → c.clock ≡ b.clock → ((n : ℕ) → Unused c n → Unused b n)
    → ((n : ℕ) → Among n c.out → n < c.drawn) → AreDifferent c.out → ((n : ℕ) → IsDoubted n c.down → (n < c.drawn) × (Among n c.out → ⊥)) → c.logged ≤ c.drawn
    → IsOrderlyDoubt b.clock b.instances c.down → Later b c
still b c g shelf same clock fewer below different doubted logged doubt = record {
  orderly = record {
    below = below;
    different = different;
    doubted = doubted;
    logged = logged;
    instances = subst (AreOrderly (Unused c)) (sym same) (orderly_less (Unused b) (Unused c) b.instances fewer g.instances);
    doubt = subst (λ is. IsOrderlyDoubt c.clock is c.down) (sym same) (subst (λ n. IsOrderlyDoubt n b.instances c.down) (sym clock) doubt);
  };
  shelf = shelf;
  fewer = fewer;
  since = subst (Since (Unused b) b.instances) (sym same) (since_same (Unused b) b.instances);
  clock = omega (arith, clock);
}

pub same : (b : Book) → IsOrderly b → Later b b
same b g = still b b g refl refl refl (λ n u. u) g.below g.different g.doubted g.logged g.doubt

pub drawn_fewer : (b : Book) → b.logged ≤ b.drawn → (n : ℕ) → Unused (draw b) n → Unused b n
drawn_fewer b logged n (inl h) = ⊎_elim (λ there. inl there) (λ last. inr (inr (omega (arith, last, logged)))) (among_drawn n b.drawn b.out h)
drawn_fewer b logged n (inr h) = inr h

drawn : (b : Book) → IsOrderly b → Later b (draw b)
drawn b g = still b (draw b) g refl refl refl (drawn_fewer b g.logged)
    (λ n h. ⊎_elim (λ there. omega (arith, g.below n there)) (λ last. omega (arith, last)) (among_drawn n b.drawn b.out h))
    (different_more b.out b.drawn g.different (λ there. absurd (omega (arith, g.below b.drawn there))))
    (λ n h. let d = g.doubted n h in (omega (arith, d.0), λ there. ⊎_elim (λ old. d.1 old) (λ last. absurd (omega (arith, last, d.0))) (among_drawn n b.drawn b.out there)))
    (omega (arith, g.logged)) g.doubt

pub spent_fewer : (b : Book) (n m : ℕ) → Unused (spend n b) m → Unused b m
spent_fewer b n m (inl h) = inl (among_spent m n b.out h).0
spent_fewer b n m (inr h) = inr h

spent : (b : Book) (n : ℕ) → IsOrderly b → Later b (spend n b)
spent b n g = still b (spend n b) g refl refl refl (spent_fewer b n) (λ m h. g.below m (among_spent m n b.out h).0) (different_spent n b.out g.different)
    (λ m h. let d = g.doubted m h in (d.0, λ there. d.1 (among_spent m n b.out there).0)) g.logged g.doubt

pub lost_fewer : (journal : Option Journal) (b : Book) (scripts : List Named) (m : ℕ) → Unused (reopened_with journal scripts b) m → Unused b m
lost_fewer journal b scripts m (inl h) = absurd h
lost_fewer journal b scripts m (inr (inl h)) = absurd h
lost_fewer journal b scripts m (inr (inr h)) = inr (inr h)

lost : (journal : Option Journal) (b : Book) (scripts : List Named) → IsOrderly b → Later b (reopened_with journal scripts b)
lost journal b scripts g = still b (reopened_with journal scripts b) g refl refl refl (lost_fewer journal b scripts) (λ m h. absurd h) tt (λ m h. absurd h) (omega arith) tt

pub is_same : (m n : ℕ) (c : Change) → IsOf m c → IsOf n c → m ≡ n
is_same m n (opens o) e f = sym e ∙ f
is_same m n (extends x) e f = sym e ∙ f
is_same m n (ends x) e f = sym e ∙ f
is_same m n (finishes f) e g = sym e ∙ g
is_same m n (sweeps tick) e f = absurd e

-- a number in doubt was out, or was in doubt
pub doubt_fewer : (b : Book) (count n : ℕ) (c : Change) (inside : List TxName) → ((m : ℕ) → IsOf m c → Unused b m) → (m : ℕ) → Unused (doubting count (landing c inside) (spend n b)) m → Unused b m
doubt_fewer b count n c inside here m (inl h) = inl (among_spent m n b.out h).0
doubt_fewer b count n c inside here m (inr (inl h)) = here m h
doubt_fewer b count n c inside here m (inr (inr h)) = inr (inr h)

pub is_out : (b : Book) (n : ℕ) (c : Change) → Among n b.out → IsOf n c → (m : ℕ) → IsOf m c → Unused b m
is_out b n c out is_it m h = inl (subst (λ (x : ℕ). Among x b.out) (is_same n m c is_it h) out)

pub failed : (b : Book) (count n : ℕ) (c : Change) (inside : List TxName) → IsOrderly b → Among n b.out → IsOrderlyChange b.clock b.instances c → IsOf n c
    → Later b (doubting count (landing c inside) (spend n b))
failed b count n c inside g out fits is_it =
    still b (doubting count (landing c inside) (spend n b)) g refl refl refl (doubt_fewer b count n c inside (is_out b n c out is_it))
    (λ m h. g.below m (among_spent m n b.out h).0) (different_spent n b.out g.different)
    (λ m h. let e = is_same m n c h is_it in (subst (λ (x : ℕ). x < b.drawn) (sym e) (g.below n out), λ there. (among_spent m n b.out there).1 e))
    g.logged fits

pub failed_at : (b : Book) (count tick : ℕ) → IsOrderly b → b.clock < tick → Later b (doubting count (landing (sweeps tick) []) b)
failed_at b count tick g later = still b (doubting count (landing (sweeps tick) []) b) g refl refl refl fewer g.below g.different (λ m h. absurd h) g.logged later
  where
    fewer : (m : ℕ) → Unused (doubting count (landing (sweeps tick) []) b) m → Unused b m
    fewer m (inl h) = inl h
    fewer m (inr (inl h)) = absurd h
    fewer m (inr (inr h)) = inr (inr h)

rises : (c : Change) (clock : ℕ) (b : Book) → IsOrderlyChange b.clock b.instances c → b.clock ≤ clock_by c b.clock
rises (opens o) clock b h = omega arith
rises (extends x) clock b h = omega arith
rises (ends e) clock b h = omega arith
rises (finishes f) clock b h = omega arith
rises (sweeps tick) clock b h = omega (arith, h)

-- what is unused after a change that landed: neither its number, nor what was used
pub landed_fewer : (b d : Book) (c : Change) → d.logged ≡ max b.logged (logged_by c) → d.down ≡ None
    → ((m : ℕ) → Among m d.out → Unused b m × (IsOf m c → ⊥)) → (m : ℕ) → Unused d m → Unused b m × (IsOf m c → ⊥)
landed_fewer b d c logged up out m (inl h) = out m h
landed_fewer b d c logged up out m (inr (inl h)) = absurd (subst (IsDoubted m) up h)
landed_fewer b d c logged up out m (inr (inr h)) =
    let above : max b.logged (logged_by c) ≤ m = subst (λ (l : ℕ). l ≤ m) logged h in
    (inr (inr (omega (arith, above))), λ is_it. absurd (omega (arith, above, is_below m c is_it)))

-- a change landed in a book of which nothing is in doubt
landed : (b d : Book) (c : Change) (inside : List TxName) → IsOrderly b → IsOrderlyChange b.clock b.instances c → ((m : ℕ) → IsOf m c → Unused b m)
    → d.shelf ≡ b.shelf → d.instances ≡ instances_by b.scripts c inside b.instances → d.clock ≡ clock_by c b.clock → d.down ≡ None
    → ((m : ℕ) → Unused d m → Unused b m × (IsOf m c → ⊥)) → ((m : ℕ) → Among m d.out → m < d.drawn) → AreDifferent d.out → d.logged ≤ d.drawn → Later b d
landed b d c inside g fits here shelf is clock up fewer out different below =
    let all = land_well b.scripts b.clock (Unused b) (Unused d) b.instances c inside g.instances fits here fewer in
    record {
      orderly = record {
        below = out;
        different = different;
        doubted = λ m h. absurd (subst (IsDoubted m) up h);
        logged = below;
        instances = subst (AreOrderly (Unused d)) (sym is) all.0;
        doubt = subst (IsOrderlyDoubt d.clock d.instances) (sym up) tt;
      };
      shelf = shelf;
      fewer = λ m u. (fewer m u).0;
      since = subst (Since (Unused b) b.instances) (sym is) all.1;
      clock = subst (λ (n : ℕ). b.clock ≤ n) (sym clock) (rises c b.clock b fits);
    }

-- the change is one of a number that was drawn
is_within : (b : Book) (n : ℕ) (c : Change) → n < b.drawn → IsOf n c → logged_by c ≤ b.drawn
is_within b n (opens o) below e = omega (arith, below, e)
is_within b n (extends x) below e = omega (arith, below, e)
is_within b n (ends x) below e = omega (arith, below, e)
is_within b n (finishes f) below e = omega (arith, below, e)
is_within b n (sweeps tick) below e = absurd e

pub published_fewer : (rules : Rules) (b : Book) (n : ℕ) (c : Change) (inside : List TxName) → b.down ≡ None → IsOf n c
    → (m : ℕ) → Unused (land rules c inside (spend n b)) m → Unused b m × (IsOf m c → ⊥)
published_fewer rules b n c inside up is_it = landed_fewer b (land rules c inside (spend n b)) c refl up
    (λ m h. let there = among_spent m n b.out h in (inl there.0, λ e. there.1 (is_same m n c e is_it)))

pub published : (rules : Rules) (b : Book) (n : ℕ) (c : Change) (inside : List TxName) → IsOrderly b → Among n b.out → b.down ≡ None
    → IsOrderlyChange b.clock b.instances c → IsOf n c → Later b (land rules c inside (spend n b))
published rules b n c inside g out up fits is_it =
    landed b (land rules c inside (spend n b)) c inside g fits (is_out b n c out is_it) refl refl refl up (published_fewer rules b n c inside up is_it)
    (λ m h. g.below m (among_spent m n b.out h).0) (different_spent n b.out g.different) (omega (arith, g.logged, is_within b n c (g.below n out) is_it))

pub swept_fewer : (rules : Rules) (b : Book) (tick : ℕ) → b.down ≡ None → (m : ℕ) → Unused (land rules (sweeps tick) [] b) m → Unused b m × (IsOf m (sweeps tick) → ⊥)
swept_fewer rules b tick up = landed_fewer b (land rules (sweeps tick) [] b) (sweeps tick) refl up (λ m h. (inl h, λ e. e))

pub swept : (rules : Rules) (b : Book) (tick : ℕ) → IsOrderly b → b.clock < tick → b.down ≡ None → Later b (land rules (sweeps tick) [] b)
swept rules b tick g later up =
    landed b (land rules (sweeps tick) [] b) (sweeps tick) [] g later (λ m e. absurd e) refl refl refl up (swept_fewer rules b tick up) g.below g.different (omega (arith, g.logged))

pub kept_fewer : (rules : Rules) (scripts : List Named) (b : Book) (c : Change) (inside : List TxName)
    → (m : ℕ) → Unused (reopened_with rules.journal scripts (land rules c inside b)) m → Unused b m × (IsOf m c → ⊥)
kept_fewer rules scripts b c inside =
    landed_fewer b (reopened_with rules.journal scripts (land rules c inside b)) c refl refl (λ m h. absurd h)

pub is_doubted : (b : Book) (count : ℕ) (c : Change) (inside : List TxName) → b.down ≡ Some (record { count = count; work = landing c inside }) → (m : ℕ) → IsOf m c → Unused b m
is_doubted b count c inside down m e = inr (inl (subst (IsDoubted m) (sym down) e))

pub kept : (rules : Rules) (scripts : List Named) (b : Book) (count : ℕ) (c : Change) (inside : List TxName) → IsOrderly b → b.down ≡ Some (record { count = count; work = landing c inside })
    → Later b (reopened_with rules.journal scripts (land rules c inside b))
kept rules scripts b count c inside g down =
    landed b (reopened_with rules.journal scripts (land rules c inside b)) c inside g (subst (IsOrderlyDoubt b.clock b.instances) down g.doubt)
    (is_doubted b count c inside down) refl refl refl refl (kept_fewer rules scripts b c inside) (λ m h. absurd h) tt (omega arith)

-- a compaction leaves an orderly book
again_fewer : (rules : Rules) (b : Book) (m : ℕ) → Unused (rewritten rules b) m → Unused b m
again_fewer rules b m (inl h) = inl h
again_fewer rules b m (inr h) = inr h

rewrote : (rules : Rules) (b : Book) → IsOrderly b → Later b (rewritten rules b)
rewrote rules b g = still b (rewritten rules b) g refl refl refl (again_fewer rules b) g.below g.different g.doubted g.logged g.doubt

fail_fewer : (b : Book) (count m : ℕ) → Unused (doubting count compacting b) m → Unused b m
fail_fewer b count m (inl h) = inl h
fail_fewer b count m (inr (inl h)) = absurd h
fail_fewer b count m (inr (inr h)) = inr (inr h)

failed_again : (b : Book) (count : ℕ) → IsOrderly b → Later b (doubting count compacting b)
failed_again b count g = still b (doubting count compacting b) g refl refl refl (fail_fewer b count) g.below g.different (λ m h. absurd h) g.logged tt

pub went : {lawful : Type 0} (rules : Rules) (b d : Book) (o : Option Change) → Goes lawful rules b o d → lawful → IsOrderly b → Later b d
went rules b d o stays l g = same b g
went rules b d o draws l g = drawn b g
went rules b d o (spends n out) l g = spent b n g
went rules b d o (publishes t c inside h) l g = let fits = recorded_orderly rules b t c inside g h in published rules b t.number c inside g (h.out l) h.up fits.0 fits.1
went rules b d o (fails count t c inside h) l g = let fits = recorded_orderly rules b t c inside g h in failed b count t.number c inside g (h.out l) fits.0 fits.1
went rules b d o (goes_to tick later up unfed) l g = swept rules b tick g later up
went rules b d o (fails_at count tick later up unfed) l g = failed_at b count tick g later
went rules b d o (rewrites up unfed) l g = rewrote rules b g
went rules b d o (fails_to_rewrite count up unfed) l g = failed_again b count g
went rules b d o (keeps scripts count c inside down) l g = kept rules scripts b count c inside g down
went rules b d o (keeps_rewritten scripts count down) l g =
    let h = lost rules.journal (rewritten rules b) scripts (rewrote rules b g).orderly in
    record { orderly = h.orderly; shelf = h.shelf; fewer = h.fewer; since = h.since; clock = h.clock }
went rules b d o (loses scripts) l g = lost rules.journal b scripts g

pub stepped : (m : Moment) (b : Book) → IsOrderly b → IsLawful m.event b → Later b (then_book m b)
stepped m b g lawful = went m.rules b (then_book m b) (lands m.rules b m.event m.fate) (goes m.rules b m.nonce m.event m.fate) lawful g

pub later_then : (b c d : Book) → Later b c → Later c d → Later b d
later_then b c d one two = record {
  orderly = two.orderly;
  shelf = two.shelf ∙ one.shelf;
  fewer = λ n u. one.fewer n (two.fewer n u);
  since = since_then (Unused b) (Unused c) b.instances c.instances d.instances one.fewer one.since two.since;
  clock = omega (arith, one.clock, two.clock);
}

ran : (ms : List Moment) (b : Book) → IsOrderly b → AreLawful ms b → Later b (book_after ms b)
ran [] b g lawful = same b g
ran (m ∷ ms) b g lawful =
    let one = stepped m b g lawful.0 in
    later_then b (then_book m b) (book_after (m ∷ ms) b) one (ran ms (then_book m b) one.orderly lawful.1)

pub led : (b c : Book) → IsOrderly b → Leads b c → Later b c
led b c g l = subst (Later b) l.there (ran l.moments b g l.lawful)

pub books_stay : OrderlyBooksStay
books_stay = (
  empty_orderly,
  λ (b c : Book) (g : IsOrderly b) (l : Leads b c). let h = led b c g l in (h.orderly, h.shelf, h.fewer),
)

pub has_its_cells : EachHasItsCells
has_its_cells b g k i found = g.instances.sized k i found
