-- The pages of all callers together are those of the histories.
use Rattle.std.proofs.Common.{◌≡◌, ◌≢◌, ◌⊎◌, ◌≤◌, ◌<◌, ◌==◌, ℕ, zero, suc, ◌+◌, Bool, true, false, List, [], ◌∷◌, length, Some, slice_get, refl, ap, sym, ◌∙◌, inl, inr, arith}
use Rattle.std.proofs.lemmas.Bool.{eq-eqb, ne_eqb}
use Rattle.std.specs.Prelude.{if◌then◌else◌}
use Rattle.request_workers.specs.declared.tally.Tally.{Tally}
use Rattle.history_spec.specs.Histories.{Entry, own_of}
use Rattle.site.specs.declared.entry.KeptEntry.{KeptEntry}
use Rattle.site.specs.Entries.{entries_of}
use Rattle.site_serving.specs.Pages.{pages_by, pages_in, pages_of}
use Rattle.site_serving.specs.Totals.{total}

-- f of each number below n, added up
abbrev pub sum_below : ℕ → (ℕ → ℕ) → ℕ
sum_below zero f = 0
sum_below (suc n) f = f 0 + sum_below n (λ k. f (suc k))

sum_same : (n : ℕ) (f g : ℕ → ℕ) → ((k : ℕ) → f k ≡ g k) → sum_below n f ≡ sum_below n g
sum_same zero f g same = refl
sum_same (suc n) f g same =
    let first = same 0 in let rest = sum_same n (λ k. f (suc k)) (λ k. g (suc k)) (λ k. same (suc k)) in omega arith

sum_none : (n : ℕ) → sum_below n (λ k. 0) ≡ 0
sum_none zero = refl
sum_none (suc n) = let rest = sum_none n in omega arith

sum_both : (n : ℕ) (f g : ℕ → ℕ) → sum_below n (λ k. f k + g k) ≡ sum_below n f + sum_below n g
sum_both zero f g = refl
sum_both (suc n) f g = let rest = sum_both n (λ k. f (suc k)) (λ k. g (suc k)) in omega arith

-- one of them is greater by x
sum_more : (n c x : ℕ) (f g : ℕ → ℕ) → c < n → f c ≡ x + g c → ((k : ℕ) → k ≢ c → f k ≡ g k) → sum_below n f ≡ x + sum_below n g
sum_more zero c x f g lt here others = absurd (omega arith)
sum_more (suc n) zero x f g lt here others =
    let rest = sum_same n (λ k. f (suc k)) (λ k. g (suc k)) (λ k. others (suc k) (λ (e : suc k ≡ zero). absurd (omega (arith, e)))) in omega arith
sum_more (suc n) (suc c) x f g lt here others =
    let rest = sum_more n c x (λ k. f (suc k)) (λ k. g (suc k)) (omega (arith, lt)) here (λ k ne. others (suc k) (λ (e : suc k ≡ suc c). ne (omega (arith, e)))) in
    let first = others 0 (λ (e : zero ≡ suc c). absurd (omega (arith, e))) in
    omega arith

-- the entries of a caller in a history that has one more in front
own_first : (b : Bool) (e : Entry) (own : List Entry) → b ≡ true → pages_in (if b then e ∷ own else own) ≡ pages_by e.event e.reply + pages_in own
own_first true e own is = refl
own_first false e own is = absurd (let no : ⊥ = cc is in no)

own_other : (b : Bool) (e : Entry) (own : List Entry) → b ≡ false → (if b then e ∷ own else own) ≡ own
own_other true e own is = absurd (let no : ⊥ = cc is in no)
own_other false e own is = refl

-- No caller from n on has an entry. Then none has among the later ones, and the first one's caller is below n.
pub none_first : (b : Bool) (e : Entry) (own : List Entry) → (if b then e ∷ own else own) ≡ [] → (b ≡ false) × (own ≡ [])
none_first true e own is = absurd (let no : ⊥ = cc is in no)
none_first false e own is = (refl, is)

below_of : (n c : ℕ) → ((who : ℕ) → n ≤ who → (c == who) ≡ false) → c < n
below_of n c none = elim (lt_or c n) [ inl lt ↦ lt | inr le ↦ absurd (let t = eq-eqb c c refl in let f = none c le in let no : ⊥ = cc in no) ]
  where
    lt_or : (a b : ℕ) → (a < b) ⊎ (b ≤ a)
    lt_or a b = grind arith

pub own_sum : (n : ℕ) (es : List Entry) → ((who : ℕ) → n ≤ who → own_of who es ≡ []) → sum_below n (λ who. pages_in (own_of who es)) ≡ pages_in es
own_sum n [] none = sum_none n
own_sum n (e ∷ es) none =
    let parts : (who : ℕ) → n ≤ who → ((e.caller == who) ≡ false) × (own_of who es ≡ []) = λ who le. none_first (e.caller == who) e (own_of who es) (none who le) in
    let low = below_of n e.caller (λ who le. (parts who le).0) in
    let rest = own_sum n es (λ who le. (parts who le).1) in
    sum_more n e.caller (pages_by e.event e.reply) (λ who. pages_in (own_of who (e ∷ es))) (λ who. pages_in (own_of who es)) low
    (own_first (e.caller == e.caller) e (own_of e.caller es) (eq-eqb e.caller e.caller refl))
    (λ who ne. ap pages_in (own_other (e.caller == who) e (own_of who es) (ne_eqb e.caller who (λ (is : e.caller ≡ who). ne (sym is)))))
    ∙ ap (λ m. pages_by e.event e.reply + m) rest

-- the pages of one caller, over all shelves
abbrev pub caller_pages : ℕ → List (List KeptEntry) → ℕ
caller_pages who [] = 0
caller_pages who (h ∷ histories) = pages_in (own_of who (entries_of h)) + caller_pages who histories

-- no caller from n on has an entry in a history
abbrev pub NoneFrom : ℕ → List (List KeptEntry) → Type 0
NoneFrom n histories = (k : ℕ) (h : List KeptEntry) → slice_get histories k ≡ Some h → (who : ℕ) → n ≤ who → own_of who (entries_of h) ≡ []

pub callers_sum : (n : ℕ) (histories : List (List KeptEntry)) → NoneFrom n histories → sum_below n (λ who. caller_pages who histories) ≡ pages_of histories
callers_sum n [] none = sum_none n
callers_sum n (h ∷ histories) none =
    let first = own_sum n (entries_of h) (none 0 h refl) in
    let rest = callers_sum n histories (λ k x is. none (suc k) x is) in
    sum_both n (λ who. pages_in (own_of who (entries_of h))) (λ who. caller_pages who histories) ∙ (let sum : _ ≡ pages_of (h ∷ histories) = omega arith in sum)

-- tallies of which each counted what f says
pub tallies_sum : (tallies : List Tally) (f : ℕ → ℕ) → ((k : ℕ) (t : Tally) → slice_get tallies k ≡ Some t → t.pages ≡ f k) → (total tallies).pages ≡ sum_below (length tallies) f
tallies_sum [] f each = refl
tallies_sum (t ∷ tallies) f each =
    let first = each 0 t refl in let rest = tallies_sum tallies (λ k. f (suc k)) (λ k x is. each (suc k) x is) in omega arith
