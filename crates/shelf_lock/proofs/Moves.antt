-- Each step keeps the rule of the lock's table.
use Rattle.std.proofs.Common.{◌≡◌, ◌≢◌, ◌⊎◌, ℕ, suc, ◌+◌, ◌<◌, ◌≤◌, eqb, List, [], ◌∷◌, ◌++◌, length, set, get_or, sym, refl, ap, ◌∙◌, subst, ⊎_elim, inl, inr, arith, length-set, get_or-set_same, Bool, if◌then◌else◌, ne_eqb, eq-eqb, zero}
use Rattle.std.proofs.lemmas.List.{set-get_or}
use mathlib.Core.Option.{some, none, some-injective, some-ne-none}
use mathlib.Core.List.{IsPrefix}
use lib.ListN.{get_elem?}
use prog.Atomic.{either}
use Rattle.shelf_lock.specs.declared.kept.Kept.{Ghosts}
use Rattle.atomic_table.specs.Table.{State, Me, step, Act, keeps, takes, gives, stepped, Valid, carried_after, Allows, Splits, Joins, Final, Seen}
use Rattle.atomic_table.specs.Table.{opening as opening_of}
use Rattle.atomic_table.proofs.Lists.{at_set, set_here, set_again, exchanged}
use Rattle.shelf_lock.specs.declared.view.Role.{Role}
use Rattle.shelf_lock.specs.declared.view.Role.TheVariants.{Maker, Outside, Inside, Closer, Comparing, Noted, Spent}
use Rattle.shelf_lock.specs.declared.view.View.{View}
use Rattle.shelf_lock.specs.Order.{entry_limit, IsWithin, made_by, maker, appointer, appointed, posed, Facts, Of, Each, Told, Owned, both, nobody, noted, comparing, MadeBelow, Looked, Shut, Begins, Numbered, Fits, Ordered, Entered, Left, Adds}
use Rattle.shelf_lock.specs.Turns.{KeepsAll}
use Rattle.shelf_lock.proofs.Prefixes.{prefix_self, prefix_trans, adds_prefix, adds_others, longer_of}

head_is : {A : Type 0} (a b : A) → a ∷ [] ≡ b ∷ [] → a ≡ b
head_is a b e = ap (λ l. get_or l 0 a) e

abbrev pub carried_or : {A : Type 0} → A → List (ℕ × A) → A
carried_or a [] = a
carried_or a (x ∷ xs) = x.1

module _ {A : Type 0} where
  pub each_map : (P Q : A → Type 0) → ((x : A) → P x → Q x) → (xs : List A) → Each P xs → Each Q xs
  each_map P Q f [] all = tt
  each_map P Q f (x ∷ xs) all = (f x all.0, each_map P Q f xs all.1)

  pub each_both : (P Q R : A → Type 0) → ((x : A) → P x → Q x → R x) → (xs : List A) → Each P xs → Each Q xs → Each R xs
  each_both P Q R f [] a b = tt
  each_both P Q R f (x ∷ xs) a b = (f x a.0 b.0, each_both P Q R f xs a.1 b.1)

  pub each_append : (P : A → Type 0) (xs ys : List A) → Each P xs → Each P ys → Each P (xs ++ ys)
  each_append P [] ys a b = b
  each_append P (x ∷ xs) ys a b = (a.0, each_append P xs ys a.1 b)

module _ {S O E : Type 0} (g : Ghosts S O E) (start : S) (seats : ℕ) where
  abbrev W : Type 0
  W = View O E

  abbrev Rule : State S W → Type 0
  Rule = Ordered g start seats

  abbrev Fit : Facts E → ℕ → W → Role → Type 0
  Fit = Fits g start

  seats_stay : (K : ℕ → W → Type 0) (vs : List W) (me : ℕ) (w : W) → K me w → ((j : ℕ) (u : W) → j ≢ me → get_elem? vs j ≡ some u → K j u)
      → (j : ℕ) (u : W) → get_elem? (set vs me w) j ≡ some u → K j u
  seats_stay K vs me w mine others j u e = ⊎_elim (λ (t : (j ≡ me) × (w ≡ u)). subst (λ (x : ℕ × W). K x.0 x.1) (λ i. (sym t.0 i, t.1 i)) mine)
      (λ (t : (j ≢ me) × (get_elem? vs j ≡ some u)). others j u t.0 t.1) (at_set vs me j w u e)

  -- a load, or an exchange that fails
  unmoved : (s : State S W) (id : ℕ) (v : W) → Rule s → get_elem? s.views id ≡ some v → Rule record { words = set s.words 0 (get_or s.words 0 0); homes = s.homes; views = set s.views id v }
  unmoved s id v r at =
      subst (λ (x : List ℕ × List W). Rule record { words = x.0; homes = s.homes; views = x.1 }) (λ i. (sym (set-get_or s.words 0 0) i, sym (set_again s.views id v at) i)) r

  -- the gate goes from 0 to 1
  shuts : (k : Facts E) (id j : ℕ) (u : W) → k.gate ≡ 0 → (role : Role) → Fit k j u role → Fit (record k { gate = 1; holder = id }) j u role
  shuts k id j u free Maker f = f
  shuts k id j u free Outside f = f
  shuts k id j u free Inside f = let e = f.1 in absurd (omega arith)
  shuts k id j u free Closer f = let e = f.1 in absurd (omega arith)
  shuts k id j u free Comparing f = f
  shuts k id j u free Noted f = f
  shuts k id j u free Spent f = tt

  abbrev Goes : State S W → ℕ → W → ℕ → Type 0
  Goes s id v n = (w : W) × (a : Act S) × Valid s.homes [] a × Rule (stepped s 0 n id [] w a) × Entered g (step 1 0 0 1 none) (v, []) (get_or s.words 0 0) (w, carried_after [] a)

  comes_in : (s : State S W) (id : ℕ) (v : W) → v.role ≡ Outside → Rule s → get_elem? s.views id ≡ some v → get_or s.words 0 0 ≡ 0 → Goes s id v 1
  comes_in s id v out r at found =
      let k = r.facts in
      let free : k.gate ≡ 0 = sym r.gate_is ∙ found in
      let h = r.home (λ e. let o = free in absurd (omega arith)) in
      let y = h.value in
      let w = posed Inside (g.history y) v in
      let old : Fit k id v Outside = subst (Fit k id v) out (r.fits id v at) in
      let same : IsPrefix (g.history y) k.log × (made_by g.caller v.caller k.log ≡ made_by g.caller v.caller (g.history y)) = subst (λ l. IsPrefix l k.log × (made_by g.caller v.caller k.log ≡ made_by g.caller v.caller l)) (sym h.history_is) (prefix_self k.log, refl) in
      let whole : Begins g k.log w = (same.0, same.1, old.1.2) in
      let now : Facts E = record k { gate = 1; holder = id } in (
        w,
        takes 0 y,
        h.there,
        record {
          facts = now;
          one_word = length-set s.words 0 1 ∙ r.one_word;
          gate_is = (let one = r.one_word in get_or-set_same s.words 0 1 0 (omega arith));
          home = λ ne. absurd (ne refl);
          fits = seats_stay (λ j u. Fit now j u u.role) s.views id w ((old.0, whole, old.2), refl, refl, h.history_is) (λ j u _ e. shuts k id j u free u.role (r.fits j u e));
          few = r.few;
          within = r.within;
          unmade = r.unmade;
        },
        (
          (λ _. (y, refl, h.sound, (old.0.0 ∙ ap (λ (o : O). o ∷ []) (sym h.opening_is), old.0.1 ∙ sym h.first_is), subst (λ l. Begins g l v) (sym h.history_is) old.1, subst (λ (z : ℕ × List E). z.0 + length z.1 ≤ entry_limit) (λ i. (sym h.first_is i, sym h.history_is i)) r.within)),
          (λ ne. absurd (ne found)),
        ),
      )

  -- whatever the table is, an exchange of the gate from 0 to 1 takes the value, or changes nothing
  pub enters : (id : ℕ) (v : W) → v.role ≡ Outside → Allows Rule 1 id (v, []) 0 (λ n. either (eqb n 0) 1 n) (Entered g (step 1 0 0 1 none) (v, []))
  enters id v out s r len at small =
      exchanged (get_or s.words 0 0) 0 1 (Goes s id v) (comes_in s id v out r at) (λ ne. (v, keeps, tt, unmoved s id v r at, ((λ found. absurd (ne found)), (λ _. refl))))

  -- what was told stays, where another adds an entry
  told_grows : (old new : List E) (who : ℕ) (h : ℕ × List E) → h.0 ≢ who → Adds g.caller who old new → Told g old h → Told g new h
  told_grows old new who h apart adds t = (prefix_trans h.1 old new t.0 (adds_prefix g.caller who old new adds), adds_others g.caller who h.0 old new apart adds ∙ t.1)

  -- a seat outside goes on to know a beginning, where another adds an entry
  grows : (k : Facts E) (id j : ℕ) (v u : W) (log : List E) → Numbered g k id v → j ≢ id → Adds g.caller v.caller k.log log
      → Of g start u × Begins g k.log u × Numbered g k j u → Of g start u × Begins g log u × Numbered g k j u
  grows k id j v u log num other adds f =
      let apart : u.caller ≢ v.caller = λ e. other (sym f.2.1 ∙ (ap k.owner e ∙ num.1)) in (
        f.0,
        (
          prefix_trans u.seen k.log log f.1.0 (adds_prefix g.caller v.caller k.log log adds),
          adds_others g.caller v.caller u.caller k.log log apart adds ∙ f.1.1,
          each_both (Told g k.log) (Owned g k j u.caller) (Told g log) (λ h t o. told_grows k.log log v.caller h (λ e. other (sym o.1 ∙ (ap k.owner e ∙ num.1))) adds t) u.heard f.1.2 f.2.2,
        ),
        f.2,
      )

  -- the history grows by the seat inside, and the gate goes from 1 to 0
  opens : (k : Facts E) (id j : ℕ) (v u : W) (log : List E) → k.gate ≡ 1 → id ≡ k.holder → Numbered g k id v → j ≢ id → Adds g.caller v.caller k.log log
      → (role : Role) → Fit k j u role → Fit (record k { gate = 0; log = log }) j u role
  opens k id j v u log shut mine num other adds Maker f = f
  opens k id j v u log shut mine num other adds Outside f = grows k id j v u log num other adds f
  opens k id j v u log shut mine num other adds Comparing f = (grows k id j v u log num other adds f.0, f.1)
  opens k id j v u log shut mine num other adds Noted f = (f.0, prefix_trans u.seen k.log log f.1 (adds_prefix g.caller v.caller k.log log adds))
  opens k id j v u log shut mine num other adds Inside f = absurd (other (f.2 ∙ sym mine))
  opens k id j v u log shut mine num other adds Closer f = let e = f.1 in absurd (omega arith)
  opens k id j v u log shut mine num other adds Spent f = tt

  -- the seat inside puts back a value with at most one more entry, which is its own
  pub leaves : (id : ℕ) (v : W) (x y : S) → v.role ≡ Inside → v.seen ≡ g.history x → Of g x v → KeepsAll g v.caller x y → IsWithin g y
      → Allows Rule 1 id (v, (0, y) ∷ []) 0 (λ _. 0) (λ _. Left g.history (step 1 0 0 0 none) (v, (0, y) ∷ []) 0)
  leaves id v x y in_it sees of keeps_all within s r len at small =
      let k = r.facts in
      let old : Fit k id v Inside = subst (Fit k id v) in_it (r.fits id v at) in
      let shut = old.1 in
      let adds : Adds g.caller v.caller k.log (g.history y) = subst (λ l. Adds g.caller v.caller l (g.history y)) (sym sees ∙ old.3) keeps_all.3 in
      let w = posed Outside (g.history y) v in
      let now : Facts E = record k { gate = 0; log = g.history y } in (
        w,
        gives,
        tt,
        record {
          facts = now;
          one_word = length-set s.words 0 0 ∙ r.one_word;
          gate_is = (let one = r.one_word in get_or-set_same s.words 0 0 0 (omega arith));
          home = λ _. record {
            value = y;
            there = set_here s.homes 0 (some y) (omega arith);
            sound = keeps_all.0;
            opening_is = keeps_all.1 ∙ head_is (g.opening x) (g.opening start) (sym of.0 ∙ old.0.0.0);
            first_is = keeps_all.2 ∙ (sym of.1 ∙ old.0.0.1);
            history_is = refl;
          };
          fits = seats_stay (λ j u. Fit now j u u.role) s.views id w (old.0.0, (prefix_self (g.history y), refl, each_both (Told g k.log) (Owned g k id v.caller) (Told g (g.history y)) (λ h t o. told_grows k.log (g.history y) v.caller h o.2 adds t) v.heard old.0.1.2 old.0.2.2), old.0.2)
              (λ j u other e. opens k id j v u (g.history y) shut old.2 old.0.2 other adds u.role (r.fits j u e));
          few = r.few;
          within = subst (λ n. n + length (g.history y) ≤ entry_limit) (keeps_all.2 ∙ (sym of.1 ∙ old.0.0.1)) within;
          unmade = λ who le. (let own = old.0.2.0 in adds_others g.caller v.caller who k.log (g.history y) (λ e. absurd (omega arith)) adds) ∙ r.unmade who le;
        },
        (λ z is. ap (λ (l : List (ℕ × S)). (posed Outside (g.history (carried_or y l)) v, [])) is),
      )

  -- the moves at a seat that is known, of a table of one slot
  pub enters_at : (slots id : ℕ) (me : Me S W) → slots ≡ 1 → me.0.role ≡ Outside → me.1 ≡ []
      → Allows Rule slots id me 0 (λ n. either (eqb n 0) 1 n) (Entered g (step slots 0 0 1 none) me)
  enters_at slots id me one out idle =
      subst (λ (x : ℕ × List (ℕ × S)). Allows Rule x.0 id (me.0, x.1) 0 (λ n. either (eqb n 0) 1 n) (Entered g (step x.0 0 0 1 none) (me.0, x.1))) (λ i. (sym one i, sym idle i)) (enters id me.0 out)

  pub leaves_at : (slots id : ℕ) (me : Me S W) (x y : S) → slots ≡ 1 → me.1 ≡ (0, y) ∷ [] → me.0.role ≡ Inside → me.0.seen ≡ g.history x → Of g x me.0 → KeepsAll g me.0.caller x y → IsWithin g y
      → Allows Rule slots id me 0 (λ _. 0) (λ _. Left g.history (step slots 0 0 0 none) me 0)
  leaves_at slots id me x y one has in_it sees of keeps_all within =
      subst (λ (z : ℕ × List (ℕ × S)). Allows Rule z.0 id (me.0, z.1) 0 (λ _. 0) (λ _. Left g.history (step z.0 0 0 0 none) (me.0, z.1) 0)) (λ i. (sym one i, sym has i)) (leaves id me.0 x y in_it sees of keeps_all within)

  -- the table that `new` makes
  pub starts : (words : List ℕ) (slots : List S) → words ≡ 0 ∷ [] → slots ≡ start ∷ [] → g.history start ≡ [] → g.sound start → g.first start ≤ entry_limit → Rule (opening_of words slots (maker (g.opening start) (g.first start) 0))
  starts words slots is has empty sound few =
      subst (λ (x : List ℕ × List S). Rule (opening_of x.0 x.1 (maker (g.opening start) (g.first start) 0))) (λ i. (sym is i, sym has i)) record {
        facts = record { log = []; gate = 0; holder = 0; chief = 0; next = 0; owner = λ c. 0 };
        one_word = refl;
        gate_is = refl;
        home = λ _. record { value = start; there = refl; sound = sound; opening_is = refl; first_is = refl; history_is = empty };
        fits = alone;
        few = omega arith;
        within = omega (arith, few);
        unmade = λ who le. refl;
      }
    where
      alone : (j : ℕ) (u : W) → get_elem? (maker (g.opening start) (g.first start) 0 ∷ []) j ≡ some u → Fit (record { log = []; gate = 0; holder = 0; chief = 0; next = 0; owner = λ c. 0 }) j u u.role
      alone zero u e = subst (λ (x : W). Fit (record { log = []; gate = 0; holder = 0; chief = 0; next = 0; owner = λ c. 0 }) 0 x x.role) (some-injective _ _ e) ((refl, refl), refl, refl)
      alone (suc j) u e = absurd (some-ne-none u (sym e))

  -- the maker hands out its next number, to the seat that comes after all others
  abbrev renumber : Facts E → ℕ → Facts E
  renumber k seat = record k { next = k.next + 1; owner = λ c. if eqb c k.next then seat else k.owner c }

  keeps_number : (k : Facts E) (j seat : ℕ) (u : W) → Numbered g k j u → Numbered g (renumber k seat) j u
  keeps_number k j seat u f = (let l = f.0 in omega arith, ap (λ (b : Bool). if b then seat else k.owner u.caller) (ne_eqb u.caller k.next (λ e. let l = f.0 in omega arith)) ∙ f.1, each_map (Owned g k j u.caller) (Owned g (renumber k seat) j u.caller) (λ h o. (let l = o.0 in omega arith, ap (λ (b : Bool). if b then seat else k.owner h.0) (ne_eqb h.0 k.next (λ e. let l = o.0 in omega arith)) ∙ o.1, o.2)) u.heard f.2)

  renumbers : (k : Facts E) (id j seat : ℕ) (u : W) → id ≡ k.chief → j ≢ id → (role : Role) → Fit k j u role → Fit (renumber k seat) j u role
  renumbers k id j seat u mine other Maker f = absurd (other (f.1 ∙ sym mine))
  renumbers k id j seat u mine other Outside f = (f.0, f.1, keeps_number k j seat u f.2)
  renumbers k id j seat u mine other Inside f = ((f.0.0, f.0.1, keeps_number k j seat u f.0.2), f.1, f.2, f.3)
  renumbers k id j seat u mine other Closer f = ((f.0.0, f.0.1, keeps_number k j seat u f.0.2), f.1, f.2)
  renumbers k id j seat u mine other Comparing f = ((f.0.0, f.0.1, keeps_number k j seat u f.0.2), f.1)
  renumbers k id j seat u mine other Noted f = f
  renumbers k id j seat u mine other Spent f = tt

  at_end : {A : Type 0} (l : List A) (a b : A) (j : ℕ) → get_elem? (l ++ a ∷ []) j ≡ some b → (get_elem? l j ≡ some b) ⊎ ((j ≡ length l) × (a ≡ b))
  at_end [] a b zero e = inr (refl, some-injective a b e)
  at_end [] a b (suc j) e = absurd (some-ne-none b (sym e))
  at_end (x ∷ xs) a b zero e = inl e
  at_end (x ∷ xs) a b (suc j) e = ⊎_elim (λ t. inl t) (λ t. inr (ap suc t.0, t.1)) (at_end xs a b j e)

  pub appoints : (id : ℕ) (v : W) → v.role ≡ Maker → v.caller < seats → Splits Rule id v (appointer v) (appointed v)
  appoints id v is room s r at =
      let k = r.facts in
      let seat = length s.views in
      let old : Fit k id v Maker = subst (Fit k id v) is (r.fits id v at) in
      let now = renumber k seat in
      let nothing : made_by g.caller v.caller k.log ≡ [] = r.unmade v.caller (let e = old.2 in omega arith) in
      let fresh : Fit now seat (appointed v) Outside = (
        old.0,
        ((k.log, refl), nothing, tt),
        (let e = old.2 in omega arith, ap (λ (b : Bool). if b then seat else k.owner v.caller) (eq-eqb v.caller k.next old.2), tt),
      ) in
      let before : (j : ℕ) (u : W) → get_elem? (set s.views id (appointer v)) j ≡ some u → Fit now j u u.role =
      seats_stay (λ j u. Fit now j u u.role) s.views id (appointer v) (subst (Fit now id (appointer v)) (sym is) (old.0, old.1, ap (λ (c : ℕ). c + 1) old.2)) (λ j u other e. renumbers k id j seat u old.1 other u.role (r.fits j u e)) in
      record {
        facts = now;
        one_word = r.one_word;
        gate_is = r.gate_is;
        home = λ ne. let h = r.home ne in record { value = h.value; there = h.there; sound = h.sound; opening_is = h.opening_is; first_is = h.first_is; history_is = h.history_is };
        fits = λ j u e. ⊎_elim (λ t. before j u t) (λ t. subst (λ (x : ℕ × W). Fit now x.0 x.1 x.1.role) (λ i. ((sym (t.0 ∙ length-set s.views id (appointer v))) i, t.1 i)) fresh) (at_end (set s.views id (appointer v)) (appointed v) u j e);
        few = omega (arith, old.2, room);
        within = r.within;
        unmade = λ who le. r.unmade who (omega arith);
      }

  -- a load compares
  pub looks : (id : ℕ) (v : W) → v.role ≡ Comparing → (slots : ℕ) → Allows Rule slots id (v, []) 0 (λ n. n) (Looked g (step slots 0 0 0 none) (v, []))
  looks id v out slots s r len at small =
      let k = r.facts in
      let old : Fit k id v Comparing = subst (Fit k id v) out (r.fits id v at) in
      let w = posed Outside v.seen v in (
        w,
        keeps,
        tt,
        subst (λ (ws : List ℕ). Rule record { words = ws; homes = s.homes; views = set s.views id w }) (sym (set-get_or s.words 0 0)) record {
          facts = k;
          one_word = r.one_word;
          gate_is = r.gate_is;
          home = λ ne. let h = r.home ne in record { value = h.value; there = h.there; sound = h.sound; opening_is = h.opening_is; first_is = h.first_is; history_is = h.history_is };
          fits = seats_stay (λ j u. Fit k j u u.role) s.views id w old.0 (λ j u other e. r.fits j u e);
          few = r.few;
          within = r.within;
          unmade = r.unmade;
        },
        (refl, old.1),
      )

  -- a note is one more seat, which knows what its maker knows
  pub notes : (id : ℕ) (v : W) → v.role ≡ Outside → Splits Rule id v v (noted v)
  notes id v is s r at =
      let k = r.facts in
      let old : Fit k id v Outside = subst (Fit k id v) is (r.fits id v at) in
      record {
        facts = k;
        one_word = r.one_word;
        gate_is = r.gate_is;
        home = λ ne. let h = r.home ne in record { value = h.value; there = h.there; sound = h.sound; opening_is = h.opening_is; first_is = h.first_is; history_is = h.history_is };
        fits = λ j u e. ⊎_elim
            (λ t. seats_stay (λ j u. Fit k j u u.role) s.views id v (r.fits id v at) (λ j u other e. r.fits j u e) j u t)
            (λ t. subst (λ (x : ℕ × W). Fit k x.0 x.1 x.1.role) (λ i. ((sym (t.0 ∙ length-set s.views id v)) i, t.1 i)) (old.0, old.1.0))
            (at_end (set s.views id v) (noted v) u j e);
        few = r.few;
        within = r.within;
        unmade = r.unmade;
      }

  -- a seat takes a note in
  pub hears : (id : ℕ) (v : W) (other : ℕ) (n : W) → v.role ≡ Outside → n.role ≡ Noted → Joins Rule id v other n (comparing v n) nobody
  hears id v other n v_out n_is s r at apart there =
      let k = r.facts in
      let was : get_elem? s.views other ≡ some n = ⊎_elim (λ (t : (other ≡ id) × (comparing v n ≡ n)). absurd (apart t.0)) (λ (t : (other ≢ id) × (get_elem? s.views other ≡ some n)). t.1) (at_set s.views id other (comparing v n) n there) in
      let mine : Fit k id v Outside = subst (Fit k id v) v_out (r.fits id v at) in
      let theirs : Fit k other n Noted = subst (Fit k other n) n_is (r.fits other n was) in
      let l = longer_of g.caller v.caller v.seen n.seen k.log mine.1.0 theirs.1 mine.1.1 in
      let joined : Fit k id (comparing v n) Comparing = (
        (mine.0, (l.0, l.1, mine.1.2), mine.2),
        (l.2, l.3, (l.4, tt)),
      ) in
      record {
        facts = k;
        one_word = r.one_word;
        gate_is = r.gate_is;
        home = λ ne. let h = r.home ne in record { value = h.value; there = h.there; sound = h.sound; opening_is = h.opening_is; first_is = h.first_is; history_is = h.history_is };
        fits = seats_stay (λ j u. Fit k j u u.role) (set s.views id (comparing v n)) other nobody tt
            (λ j u ne e. seats_stay (λ i x. Fit k i x x.role) s.views id (comparing v n) joined (λ i x _ e'. r.fits i x e') j u e);
        few = r.few;
        within = r.within;
        unmade = r.unmade;
      }

  -- one seat takes over all numbers of another
  abbrev takeover : Facts E → ℕ → ℕ → Facts E
  takeover k id other = record k { owner = λ c. if eqb (k.owner c) other then id else k.owner c }

  goes_over : (k : Facts E) (id other c : ℕ) → k.owner c ≡ other → (takeover k id other).owner c ≡ id
  goes_over k id other c is = ap (λ (b : Bool). if b then id else k.owner c) (eq-eqb (k.owner c) other is)

  stays_with : (k : Facts E) (id other c j : ℕ) → j ≢ other → k.owner c ≡ j → (takeover k id other).owner c ≡ j
  stays_with k id other c j apart is = ap (λ (b : Bool). if b then id else k.owner c) (ne_eqb (k.owner c) other (λ e. apart (sym is ∙ e))) ∙ is

  numbered_stays : (k : Facts E) (id other j : ℕ) (u : W) → j ≢ other → Numbered g k j u → Numbered g (takeover k id other) j u
  numbered_stays k id other j u apart f = (f.0, stays_with k id other u.caller j apart f.1, each_map (Owned g k j u.caller) (Owned g (takeover k id other) j u.caller) (λ h o. (o.0, stays_with k id other h.0 j apart o.1, o.2)) u.heard f.2)

  third : (k : Facts E) (id other j : ℕ) (u : W) → j ≢ other → (role : Role) → Fit k j u role → Fit (takeover k id other) j u role
  third k id other j u apart Maker f = f
  third k id other j u apart Outside f = (f.0, f.1, numbered_stays k id other j u apart f.2)
  third k id other j u apart Inside f = ((f.0.0, f.0.1, numbered_stays k id other j u apart f.0.2), f.1, f.2, f.3)
  third k id other j u apart Closer f = ((f.0.0, f.0.1, numbered_stays k id other j u apart f.0.2), f.1, f.2)
  third k id other j u apart Comparing f = ((f.0.0, f.0.1, numbered_stays k id other j u apart f.0.2), f.1)
  third k id other j u apart Noted f = f
  third k id other j u apart Spent f = tt

  pub joins : (id : ℕ) (v : W) (other : ℕ) (w : W) → v.role ≡ Outside → w.role ≡ Outside → Joins Rule id v other w (both v w) nobody
  joins id v other w v_out w_out s r at apart there =
      let k = r.facts in
      let now = takeover k id other in
      let was : get_elem? s.views other ≡ some w = ⊎_elim (λ (t : (other ≡ id) × (both v w ≡ w)). absurd (apart t.0)) (λ (t : (other ≢ id) × (get_elem? s.views other ≡ some w)). t.1) (at_set s.views id other (both v w) w there) in
      let mine : Fit k id v Outside = subst (Fit k id v) v_out (r.fits id v at) in
      let theirs : Fit k other w Outside = subst (Fit k other w) w_out (r.fits other w was) in
      let here : id ≢ other = λ e. apart (sym e) in
      let differs : (c : ℕ) → k.owner c ≡ other → c ≢ v.caller = λ c is e. apart (sym is ∙ (ap k.owner e ∙ mine.2.1)) in
      let joined : Fit now id (both v w) Outside = (
        mine.0,
        (mine.1.0, mine.1.1, ((theirs.1.0, theirs.1.1), each_append (Told g k.log) w.heard v.heard theirs.1.2 mine.1.2)),
        (
          mine.2.0,
          stays_with k id other v.caller id here mine.2.1,
          (
            (theirs.2.0, goes_over k id other w.caller theirs.2.1, differs w.caller theirs.2.1),
            each_append (Owned g now id v.caller) w.heard v.heard
                (each_map (Owned g k other w.caller) (Owned g now id v.caller) (λ h o. (o.0, goes_over k id other h.0 o.1, differs h.0 o.1)) w.heard theirs.2.2)
                (each_map (Owned g k id v.caller) (Owned g now id v.caller) (λ h o. (o.0, stays_with k id other h.0 id here o.1, o.2)) v.heard mine.2.2),
          ),
        ),
      ) in
      let inner : (j : ℕ) (u : W) → j ≢ other → get_elem? (set s.views id (both v w)) j ≡ some u → Fit now j u u.role = λ j u ne e.
      seats_stay (λ i x. i ≢ other → Fit now i x x.role) s.views id (both v w) (λ _. subst (Fit now id (both v w)) (sym v_out) joined) (λ i x _ e' ne'. third k id other i x ne' x.role (r.fits i x e')) j u e ne in
      record {
        facts = now;
        one_word = r.one_word;
        gate_is = r.gate_is;
        home = λ ne. let h = r.home ne in record { value = h.value; there = h.there; sound = h.sound; opening_is = h.opening_is; first_is = h.first_is; history_is = h.history_is };
        fits = seats_stay (λ j u. Fit now j u u.role) (set s.views id (both v w)) other nobody tt inner;
        few = r.few;
        within = r.within;
        unmade = r.unmade;
      }

  -- the gate goes from 1 to 2, with the value as it was
  parks : (k : Facts E) (id j : ℕ) (u : W) → k.gate ≡ 1 → id ≡ k.holder → j ≢ id → (role : Role) → Fit k j u role → Fit (record k { gate = 2 }) j u role
  parks k id j u shut mine other Maker f = f
  parks k id j u shut mine other Outside f = f
  parks k id j u shut mine other Inside f = absurd (other (f.2 ∙ sym mine))
  parks k id j u shut mine other Closer f = let e = f.1 in absurd (omega arith)
  parks k id j u shut mine other Comparing f = f
  parks k id j u shut mine other Noted f = f
  parks k id j u shut mine other Spent f = tt

  pub closes : (id : ℕ) (v : W) (x : S) → v.role ≡ Inside → v.seen ≡ g.history x → g.sound x → Of g x v
      → Allows Rule 1 id (v, (0, x) ∷ []) 0 (λ _. 2) (λ _. Shut g (step 1 0 2 0 none) (v, (0, x) ∷ []) 2)
  closes id v x in_it sees sound of s r len at small =
      let k = r.facts in
      let old : Fit k id v Inside = subst (Fit k id v) in_it (r.fits id v at) in
      let now : Facts E = record k { gate = 2 } in
      let w = posed Closer v.seen v in (
        w,
        gives,
        tt,
        record {
          facts = now;
          one_word = length-set s.words 0 2 ∙ r.one_word;
          gate_is = (let one = r.one_word in get_or-set_same s.words 0 2 0 (omega arith));
          home = λ _. record {
            value = x;
            there = set_here s.homes 0 (some x) (omega arith);
            sound = sound;
            opening_is = head_is (g.opening x) (g.opening start) (sym of.0 ∙ old.0.0.0);
            first_is = sym of.1 ∙ old.0.0.1;
            history_is = sym sees ∙ old.3;
          };
          fits = seats_stay (λ j u. Fit now j u u.role) s.views id w (old.0, refl, old.3) (λ j u other e. parks k id j u old.1 old.2 other u.role (r.fits j u e));
          few = r.few;
          within = r.within;
          unmade = r.unmade;
        },
        refl,
      )

  -- at the end the value is at home, with the history that the closer has seen
  pub ends : (id : ℕ) (v : W) (ws : List ℕ) (xs : List S) (y : S) → Final (Seen Rule id v) ws xs → v.role ≡ Closer → get_elem? xs 0 ≡ some y → g.sound y × Of g y v × (g.history y ≡ v.seen) × MadeBelow g seats (g.history y) × (g.opening y ≡ g.opening start) × (g.first y ≡ g.first start) × IsWithin g y
  ends id v ws xs y f is taken =
      let r = f.1.0 in
      let k = r.facts in
      let fit : Fit k id v Closer = subst (Fit k id v) is (r.fits id v f.1.1) in
      let shut = fit.1 in
      let h = r.home (λ e. absurd (omega arith)) in
      let same : h.value ≡ y = some-injective h.value y (sym (f.4 0 h.value h.there) ∙ taken) in
      let below : MadeBelow g seats (g.history h.value) = subst (MadeBelow g seats) (sym h.history_is) (λ who le. r.unmade who (let few = r.few in omega arith)) in
      let here : g.sound h.value × Of g h.value v × (g.history h.value ≡ v.seen) × MadeBelow g seats (g.history h.value) × (g.opening h.value ≡ g.opening start) × (g.first h.value ≡ g.first start) × IsWithin g h.value = (h.sound, (fit.0.0.0 ∙ ap (λ (o : O). o ∷ []) (sym h.opening_is), fit.0.0.1 ∙ sym h.first_is), h.history_is ∙ sym fit.2, below, h.opening_is, h.first_is, subst (λ (z : ℕ × List E). z.0 + length z.1 ≤ entry_limit) (λ i. (sym h.first_is i, sym h.history_is i)) r.within) in
      subst (λ z. g.sound z × Of g z v × (g.history z ≡ v.seen) × MadeBelow g seats (g.history z) × (g.opening z ≡ g.opening start) × (g.first z ≡ g.first start) × IsWithin g z) same here

  pub looks_at : (slots id : ℕ) (me : Me S W) → me.0.role ≡ Comparing → me.1 ≡ [] → Allows Rule slots id me 0 (λ n. n) (Looked g (step slots 0 0 0 none) me)
  looks_at slots id me out idle = subst (λ (l : List (ℕ × S)). Allows Rule slots id (me.0, l) 0 (λ n. n) (Looked g (step slots 0 0 0 none) (me.0, l))) (sym idle) (looks id me.0 out slots)

  pub closes_at : (slots id : ℕ) (me : Me S W) (x : S) → slots ≡ 1 → me.1 ≡ (0, x) ∷ [] → me.0.role ≡ Inside → me.0.seen ≡ g.history x → g.sound x → Of g x me.0
      → Allows Rule slots id me 0 (λ _. 2) (λ _. Shut g (step slots 0 2 0 none) me 2)
  closes_at slots id me x one has in_it sees sound of =
      subst (λ (z : ℕ × List (ℕ × S)). Allows Rule z.0 id (me.0, z.1) 0 (λ _. 2) (λ _. Shut g (step z.0 0 2 0 none) (me.0, z.1) 2)) (λ i. (sym one i, sym has i)) (closes id me.0 x in_it sees sound of)
