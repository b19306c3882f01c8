-- The pages of an instance that are used or evicted, where one more is shown.
use Rattle.std.proofs.Common.{◌≡◌, ◌==◌, ℕ, List, [], ◌∷◌, map, Some, None, Bool, true, false, not, filter, refl, sym, ap, subst, ◌∙◌, ⊎_elim, arith}
use Rattle.std.specs.Prelude.{if◌then◌else◌}
use Rattle.std.proofs.lemmas.Bool.{cases_eq}
use Rattle.std.proofs.lemmas.Bool.Decides.{nat_tests}
use Rattle.script_value.specs.declared.outcome.TxName.{TxName}
use Rattle.instance_cells.specs.Cells.{Effect}
use Rattle.script_nodes.specs.declared.script.SendKind.{SendKind}
use Rattle.replay_spec.specs.Book.{Page, Use, Eviction, Instance, page_at, evictor, is_evicted}
use Rattle.replay_spec.specs.Change.{put_in_order, put_page, used_in, unless_gone, evict, shown_by}
use Rattle.replay_spec.specs.Admission.{is_one}
use Rattle.replay_spec.specs.Invariant.{number_of, IsKept}
use Rattle.replay_spec.proofs.Numbered.{put_found, put_other}
use Rattle.replay_spec.proofs.Rising.{rising_put, kept_put, map_put}
use Rattle.replay_spec.proofs.Goers.{pages_of, used_in_pages, gone_pages}

-- a page that is evicted was so before or goes now
put_evicted : (m : ℕ) (e : Eviction) (es : List Eviction) → is_evicted m (put_in_order (λ (x : Eviction). x.page) e es) ≡ (if e.page == m then true else is_evicted m es)
put_evicted m e [] = refl
put_evicted m e (x ∷ es) = grind (arith, nat_tests, put_evicted m e es)

put_evictor : (m : ℕ) (e : Eviction) (es : List Eviction) → evictor m (put_in_order (λ (x : Eviction). x.page) e es) ≡ (if e.page == m then Some e.by else evictor m es)
put_evictor m e [] = refl
put_evictor m e (x ∷ es) = grind (arith, nat_tests, put_evictor m e es)

pub more_evicted : (m n : ℕ) (gone : List ℕ) (es : List Eviction) → is_evicted m (evict n gone es) ≡ (if is_one m gone then true else is_evicted m es)
more_evicted m n [] es = refl
more_evicted m n (p ∷ ps) es =
    let e : Eviction = record { page = p; by = n } in
    grind (arith, more_evicted m n ps (put_in_order (λ (x : Eviction). x.page) e es), put_evicted m e es)

pub more_evictor : (m n : ℕ) (gone : List ℕ) (es : List Eviction) → evictor m (evict n gone es) ≡ (if is_one m gone then Some n else evictor m es)
more_evictor m n [] es = refl
more_evictor m n (p ∷ ps) es =
    let e : Eviction = record { page = p; by = n } in
    grind (arith, more_evictor m n ps (put_in_order (λ (x : Eviction). x.page) e es), put_evictor m e es)

pub no_evictor : (m : ℕ) (es : List Eviction) → is_evicted m es ≡ false → evictor m es ≡ None
no_evictor m [] h = refl
no_evictor m (e ∷ es) h = grind (arith, no_evictor m es)

pub some_evictor : (m by : ℕ) (es : List Eviction) → evictor m es ≡ Some by → is_evicted m es ≡ true
some_evictor m by [] h = absurd (let no : ⊥ = cc in no)
some_evictor m by (e ∷ es) h = grind (arith, some_evictor m by es)

-- a number that names no page was not evicted, and does not go
pub unused_not : (n m : ℕ) (i : Instance) (gone : List ℕ) → IsKept i → page_at n i.pages ≡ None → ((k : ℕ) → is_one k gone ≡ true → page_at k i.pages ≡ None → ⊥)
    → is_evicted n (evict m gone i.evicted) ≡ false
unused_not n m i gone kept none there = by_tests (is_evicted n i.evicted) (is_one n gone) refl refl
  where
    by_tests : (a b : Bool) → is_evicted n i.evicted ≡ a → is_one n gone ≡ b → is_evicted n (evict m gone i.evicted) ≡ false
    by_tests true b e f = absurd (kept.evicted n e none)
    by_tests false true e f = absurd (there n f none)
    by_tests false false e f = more_evicted n m gone i.evicted ∙ rw (f, e) refl

pub unused_stays : (n : ℕ) (i : Instance) (gone : List ℕ) → IsKept i → page_at n i.pages ≡ None → ((k : ℕ) → is_one k gone ≡ true → page_at k i.pages ≡ None → ⊥)
    → evictor n (evict n gone i.evicted) ≡ None
unused_stays n i gone kept none there = no_evictor n (evict n gone i.evicted) (unused_not n n i gone kept none there)

abbrev stands : List Eviction → Page → Bool
stands es p = not (is_evicted p.number es)

fewer_stand : (n : ℕ) (gone : List ℕ) (es : List Eviction) (ps : List Page)
    → filter (stands (evict n gone es)) ps ≡ filter (λ q. not (is_one q.number gone)) (filter (stands es) ps)
fewer_stand n gone es [] = refl
fewer_stand n gone es (p ∷ ps) = grind (arith, more_evicted p.number n gone es, fewer_stand n gone es ps)

numbers_kept : (gone : List ℕ) (ps : List Page) → map number_of (filter (λ q. not (is_one q.number gone)) ps) ≡ filter (λ m. not (is_one m gone)) (map number_of ps)
numbers_kept gone [] = refl
numbers_kept gone (p ∷ ps) = grind (arith, numbers_kept gone ps)

-- the uses and evictions of an instance are kept after it shows a page
pub shown_kept : (effects : List Effect) (left : List TxName) (kind : SendKind) (gone : List ℕ) (p : Page) (i : Instance) → IsKept i → page_at p.number i.pages ≡ None
    → ((k : ℕ) → is_one k gone ≡ true → page_at k i.pages ≡ None → ⊥) → IsKept (shown_by effects left kind gone p i)
shown_kept effects left kind gone p i kept none there = record {
  rising = rising_put number_of p i.pages kept.rising;
  used =
      map_put (λ (v : Use). v.page) (λ (n : ℕ). n) (λ (v : Use). v.page) w (unless_gone gone us) (λ v. refl)
      ∙ (ap (λ (ns : List ℕ). put_in_order (λ (n : ℕ). n) p.number ns) pages
      ∙ (sym (map_put number_of (λ (n : ℕ). n) number_of p (filter (stands es) i.pages) (λ q. refl))
      ∙ ap (λ (ps : List Page). map number_of ps) (sym (kept_put number_of (stands es) p i.pages kept.rising none stays))));
  evicted = λ n went gone_too. behind n went gone_too;
}
  where
    us : List Use
    us = used_in p.parent p.number i.used

    w : Use
    w = record { page = p.number; last = p.number }

    es : List Eviction
    es = evict p.number gone i.evicted

    stays : stands es p ≡ true
    stays = ap (λ (b : Bool). not b) (unused_not p.number p.number i gone kept none there)

    pages : pages_of (unless_gone gone us) ≡ map number_of (filter (stands es) i.pages)
    pages =
        gone_pages gone us
        ∙ (ap (λ (ns : List ℕ). filter (λ m. not (is_one m gone)) ns) (used_in_pages p.parent p.number i.used ∙ kept.used)
        ∙ (sym (numbers_kept gone (filter (stands i.evicted) i.pages))
        ∙ ap (λ (ps : List Page). map number_of ps) (sym (fewer_stand p.number gone i.evicted i.pages))))

    was_there : (n : ℕ) → is_evicted n es ≡ true → page_at n i.pages ≡ None → ⊥
    was_there n went empty = let not_so = unused_not n p.number i gone kept empty there in let no : ⊥ = cc in no

    behind : (n : ℕ) → is_evicted n es ≡ true → page_at n (put_page p i.pages) ≡ None → ⊥
    behind n went empty = ⊎_elim
        (λ same. let found : page_at n (put_page p i.pages) ≡ Some p = subst (λ (m : ℕ). page_at m (put_page p i.pages) ≡ Some p) same (put_found number_of p i.pages) in let never : ⊥ = cc in never)
        (λ other. was_there n went (sym (put_other number_of n p i.pages other) ∙ empty)) (cases_eq p.number n)

-- what is used is not evicted
numbered_stands : (n : ℕ) (es : List Eviction) (ps : List Page) → is_one n (map number_of (filter (stands es) ps)) ≡ true → is_evicted n es ≡ false
numbered_stands n es [] h = absurd (let no : ⊥ = cc in no)
numbered_stands n es (p ∷ ps) h = by_test (is_evicted p.number es) refl (p.number == n) refl (numbered_stands n es ps)
  where
    by_test : (a : Bool) → is_evicted p.number es ≡ a → (b : Bool) → (p.number == n) ≡ b → (is_one n (map number_of (filter (stands es) ps)) ≡ true → is_evicted n es ≡ false) → is_evicted n es ≡ false
    by_test true e b f rest = rest (grind (arith, h, e))
    by_test false e true f rest = let same : p.number ≡ n = grind (arith, nat_tests, f) in subst (λ (m : ℕ). is_evicted m es ≡ false) same e
    by_test false e false f rest = rest (grind (arith, h, e, f))

pub used_stands : (i : Instance) (n : ℕ) → IsKept i → is_one n (pages_of i.used) ≡ true → is_evicted n i.evicted ≡ false
used_stands i n kept h = numbered_stands n i.evicted i.pages (subst (λ (ns : List ℕ). is_one n ns ≡ true) kept.used h)
