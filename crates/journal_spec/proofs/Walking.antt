-- Bodies of a journal of any format, one after the other: what each makes, and what is made of those that stay.
use Rattle.std.proofs.Common.{◌≡◌, ℕ, ◌+◌, ◌≤◌, ◌==◌, List, [], ◌∷◌, length, Option, Some, None, Bool, true, false, refl, sym, ap, subst, ◌∙◌, arith, if◌then◌else◌}
use Rattle.std.specs.Prelude.{◌&&◌, is_some}
use Rattle.script_value.specs.declared.outcome.TxName.{TxName}
use Rattle.script_nodes.specs.Setup.{Named}
use Rattle.replay_spec.specs.Book.{Instance, Change, opens, extends, ends, finishes, sweeps, changed, renewed, instance_at}
use Rattle.replay_spec.specs.Change.{instances_by}
use Rattle.replay_spec.specs.Compaction.{stays_in}
use Rattle.replay_spec.specs.Recovery.{number_in, with_number, resettled, taken_in}
use Rattle.replay_spec.specs.Invariant.{Among, IsOf}
use Rattle.replay_spec.specs.Remade.{IsOrderlyMade}
use Rattle.replay_spec.proofs.Stand.{Since, since_same, since_then}
use Rattle.replay_spec.proofs.Landed.{none_by, never, land_well}
use Rattle.replay_spec.proofs.Recovered.{Unseen, new_number, more_seen}
use Rattle.replay_spec.proofs.Compacted.{more_among, line_orderly}
use Rattle.machine_states.specs.Machine.{Suspended, inside_of}
use Rattle.value_bytes.specs.Laws.{AreBytes}
use Rattle.journal_records.specs.Records.{Record, begins, changes, renews, draws, follows, promotes}
use Rattle.journal_records.specs.Old.{read_record_in}
use Rattle.journal_spec.specs.Before.{States, state_at, Made, plain}
use Rattle.journal_spec.specs.Retaking.{Told, unread, misread, told, landing, with_state, retaken}
use Rattle.journal_spec.specs.Lengths.{state_by, told_own, own_told}
use Rattle.journal_spec.specs.Making.{Texts, Making, made, damaged, has_script, beside, told_next, next_setup, promoted, promoted_by, made_in}
use Rattle.journal_spec.specs.Old.{told_at, told_of, landing_told, landing_of, change_next, next_at, with_bodies_at}
use Rattle.journal_spec.specs.Reading.{AreAllBytes}
use Rattle.journal_spec.specs.Copying.{inside_told, Entry, tells, settles, state_now, body_now, settled_by, entry_by}
use Rattle.journal_spec.proofs.Retaken.{held_fits, landing_is, retaken_orderly, filed_orderly}
use Rattle.journal_spec.proofs.Beside.{other_cons}

-- what one body more of a format makes of what was made, with its entry, if it stays
pub data Step (f : ℕ) (ls : List Instance) (texts : Texts) (body : List ℕ) (m : Made) : List Entry → Made → Type 0 where
  turns : (named : List (List ℕ × List ℕ)) (scripts : List Named) → read_record_in f body ≡ Some (renews named) → texts named ≡ Some scripts
      → Step f ls texts body m (settles scripts body ∷ []) (beside m.earlier (resettled (length body) scripts (plain m)))
  lands : (c : Change) (state : Option (List ℕ)) (names : List TxName) → read_record_in f body ≡ Some (changes c state) → (told_of f m c state ≡ misread → ⊥)
      → landing_of f m c (told_of f m c state) ≡ Some names → (b : Bool) → stays_in ls c ≡ b
      → Step f ls texts body m (if b then tells c (state_now f m c state) (body_now f m body c state) ∷ [] else []) (retaken (length body) c (Some names) (told_of f m c state) m)
  passes : (c : Change) (state : Option (List ℕ)) → read_record_in f body ≡ Some (changes c state) → (told_of f m c state ≡ misread → ⊥)
      → landing_of f m c (told_of f m c state) ≡ None → Step f ls texts body m [] (retaken (length body) c None (told_of f m c state) m)
  frees : read_record_in f body ≡ Some promotes → m.book.follows ≡ true → Step f ls texts body m [] (promoted (length body) m)

pub record Moved (f : ℕ) (ls : List Instance) (texts : Texts) (place : ℕ) (body : List ℕ) (m : Made) (r : Option Record) : Type 0 where
  pub then_ : Made
  pub its : List Entry
  pub is : next_at f texts place (length body) m r ≡ made then_
  pub entry : entry_by f ls texts m body r ≡ its
  pub step : Step f ls texts body m its then_

pub damaged_stays : (f : ℕ) (texts : Texts) (shelf place : ℕ) (bodies : List (List ℕ)) (p : ℕ) → with_bodies_at f texts shelf place bodies (damaged p) ≡ damaged p
damaged_stays f texts shelf place [] p = refl
damaged_stays f texts shelf place (body ∷ bodies) p = damaged_stays f texts shelf (place + 5 + length body) bodies p

pub no_book : (f : ℕ) (texts : Texts) (shelf place : ℕ) (bodies : List (List ℕ)) (p : ℕ) (e : Made) → made_in (with_bodies_at f texts shelf place bodies (damaged p)) ≡ Some e → ⊥
no_book f texts shelf place bodies p e is =
    let none : None ≡ Some e = sym (ap made_in (damaged_stays f texts shelf place bodies p)) ∙ is in let no : ⊥ = cc in no

-- the state that a script leaves is one
own_sure : (o : Option Suspended) → told_own o ≡ misread → ⊥
own_sure None e = let no : ⊥ = cc in no
own_sure (Some d) e = let no : ⊥ = cc in no

-- the bytes of a change's page are a state's, so its record is counted
abbrev Comes : (f place n : ℕ) → Made → Change → Option (List ℕ) → Type 0
Comes f place n m c state =
    (told_of f m c state ≡ misread → ⊥) × (change_next f place n m c state ≡ made (retaken n c (landing_of f m c (told_of f m c state)) (told_of f m c state) m))

module _ (f : ℕ) (ls : List Instance) (texts : Texts) (shelf place later : ℕ) (body : List ℕ) (bodies : List (List ℕ)) (m e : Made) where
  comes_told : (c : Change) (x : Told) → made_in (with_bodies_at f texts shelf later bodies (told_next place (length body) m c x)) ≡ Some e
      → (x ≡ misread → ⊥) × (told_next place (length body) m c x ≡ made (retaken (length body) c (landing_told m c x) x m))
  comes_told c unread is = (λ z. let no : ⊥ = cc in no, refl)
  comes_told c misread is = absurd (no_book f texts shelf later bodies place e is)
  comes_told c (told d) is = (λ z. let no : ⊥ = cc in no, refl)

  comes : (c : Change) (state : Option (List ℕ)) → made_in (with_bodies_at f texts shelf later bodies (change_next f place (length body) m c state)) ≡ Some e
      → Comes f place (length body) m c state
  comes c state is = by_format (f == 1) is
    where
      said : Bool → Told
      said t = if t then own_told m.book c else told_at f m.earlier m.book c state

      by_format : (t : Bool)
          → made_in (with_bodies_at f texts shelf later bodies (if t then made (retaken (length body) c (taken_in (plain m) c) (own_told m.book c) m) else told_next place (length body) m c (told_at f m.earlier m.book c state)))
          ≡ Some e
          → (said t ≡ misread → ⊥)
          × ((if t then made (retaken (length body) c (taken_in (plain m) c) (own_told m.book c) m) else told_next place (length body) m c (told_at f m.earlier m.book c state))
          ≡ made (retaken (length body) c (if t then taken_in (plain m) c else landing_told m c (said t)) (said t) m))
      by_format true is = (own_sure (state_by m.book c), refl)
      by_format false is = comes_told c (told_at f m.earlier m.book c state) is

  -- a record of a change that was read
  moved_change : (c : Change) (state : Option (List ℕ)) → read_record_in f body ≡ Some (changes c state) → next_at f texts place (length body) m (Some (changes c state)) ≡ change_next f place (length body) m c state
      → Comes f place (length body) m c state → Moved f ls texts place body m (Some (changes c state))
  moved_change c state read next h = by_landing (landing_of f m c x) refl
    where
      x : Told
      x = told_of f m c state

      its : Entry
      its = tells c (state_now f m c state) (body_now f m body c state)

      by_landing : (o : Option (List TxName)) → landing_of f m c x ≡ o → Moved f ls texts place body m (Some (changes c state))
      by_landing None g = record {
        then_ = retaken (length body) c None x m;
        its = [];
        is = next ∙ (h.1 ∙ ap (λ (o : Option (List TxName)). made (retaken (length body) c o x m)) g);
        entry = ap (λ (o : Option (List TxName)). if is_some o && stays_in ls c then its ∷ [] else []) g;
        step = passes c state read h.0 g;
      }
      by_landing (Some names) g = record {
        then_ = retaken (length body) c (Some names) x m;
        its = if stays_in ls c then its ∷ [] else [];
        is = next ∙ (h.1 ∙ ap (λ (o : Option (List TxName)). made (retaken (length body) c o x m)) g);
        entry = ap (λ (o : Option (List TxName)). if is_some o && stays_in ls c then its ∷ [] else []) g;
        step = lands c state names read h.0 g (stays_in ls c) refl;
      }

  pub moved : (r : Option Record) → read_record_in f body ≡ r → made_in (with_bodies_at f texts shelf later bodies (next_at f texts place (length body) m r)) ≡ Some e → Moved f ls texts place body m r
  moved None read is = absurd (no_book f texts shelf later bodies place e is)
  moved (Some (begins s named)) read is = absurd (no_book f texts shelf later bodies place e is)
  moved (Some (draws number)) read is = absurd (no_book f texts shelf later bodies place e is)
  moved (Some follows) read is = absurd (no_book f texts shelf later bodies place e is)
  moved (Some promotes) read is = by_role m.book.follows refl is
    where
      by_role : (t : Bool) → m.book.follows ≡ t → made_in (with_bodies_at f texts shelf later bodies (promoted_by place (length body) m t)) ≡ Some e
          → Moved f ls texts place body m (Some promotes)
      by_role false g is = absurd (no_book f texts shelf later bodies place e is)
      by_role true g is = record {
        then_ = promoted (length body) m;
        its = [];
        is = ap (promoted_by place (length body) m) g;
        entry = refl;
        step = frees read g;
      }
  moved (Some (renews named)) read is = by_setup (texts named) refl is
    where
      by_setup : (o : Option (List Named)) → texts named ≡ o → made_in (with_bodies_at f texts shelf later bodies (next_setup place (length body) m o)) ≡ Some e
          → Moved f ls texts place body m (Some (renews named))
      by_setup None g is = absurd (no_book f texts shelf later bodies place e is)
      by_setup (Some scripts) g is = record {
        then_ = beside m.earlier (resettled (length body) scripts (plain m));
        its = settles scripts body ∷ [];
        is = ap (next_setup place (length body) m) g;
        entry = ap (settled_by body) g;
        step = turns named scripts read g;
      }
  moved (Some (changes c state)) read is = by_script (has_script (length m.book.scripts) c) refl is
    where
      by_script : (t : Bool) → has_script (length m.book.scripts) c ≡ t
          → made_in (with_bodies_at f texts shelf later bodies (if t then change_next f place (length body) m c state else damaged place)) ≡ Some e
          → Moved f ls texts place body m (Some (changes c state))
      by_script false g is = absurd (no_book f texts shelf later bodies place e is)
      by_script true g is =
          moved_change c state read (ap (λ (t : Bool). if t then change_next f place (length body) m c state else damaged place) g) (comes c state is)

-- ---- what goes on with each body

told_orderly : (n : ℕ) (m : Made) (c : Change) (x : Told) → (x ≡ misread → ⊥) → IsOrderlyMade (plain m) → IsOrderlyMade (plain (retaken n c (landing_told m c x) x m))
told_orderly n m c unread sure g = retaken_orderly n c [] unread m g
told_orderly n m c misread sure g = absurd (sure refl)
told_orderly n m c (told d) sure g = retaken_orderly n c (inside_of d.frames) (told d) m g

-- a record of any format leaves what was made orderly
orderly_at : (f n : ℕ) (m : Made) (c : Change) (state : Option (List ℕ)) → (told_of f m c state ≡ misread → ⊥) → IsOrderlyMade (plain m)
    → IsOrderlyMade (plain (retaken n c (landing_of f m c (told_of f m c state)) (told_of f m c state) m))
orderly_at f n m c state sure g = by_format (f == 1) sure
  where
    said : Bool → Told
    said t = if t then own_told m.book c else told_at f m.earlier m.book c state

    by_format : (t : Bool) → (said t ≡ misread → ⊥) → IsOrderlyMade (plain (retaken n c (if t then taken_in (plain m) c else landing_told m c (said t)) (said t) m))
    by_format true sure = line_orderly (changed c n) (plain m) g
    by_format false sure = told_orderly n m c (told_at f m.earlier m.book c state) sure g

pub step_orderly : (f : ℕ) (ls : List Instance) (texts : Texts) (body : List ℕ) (m : Made) (es : List Entry) (n : Made) → Step f ls texts body m es n → IsOrderlyMade (plain m) → IsOrderlyMade (plain n)
step_orderly f ls texts body m es n (turns named scripts read is) g = line_orderly (renewed scripts (length body)) (plain m) g
step_orderly f ls texts body m es n (frees read fed) g = filed_orderly false (m.book.length + (length body + 5)) m g
step_orderly f ls texts body m es n (lands c state names read sure h b stay) g =
    subst (λ (o : Option (List TxName)). IsOrderlyMade (plain (retaken (length body) c o (told_of f m c state) m))) h (orderly_at f (length body) m c state sure g)
step_orderly f ls texts body m es n (passes c state read sure h) g =
    subst (λ (o : Option (List TxName)). IsOrderlyMade (plain (retaken (length body) c o (told_of f m c state) m))) h (orderly_at f (length body) m c state sure g)

-- What holds as bodies of this format are read: this of what was made; and what lands lands with what is told of its page.
pub record Reads (f : ℕ) (ls : List Instance) (texts : Texts) (Has : Made → Type 0) : Type 0 where
  pub goes_on : (body : List ℕ) (m : Made) (es : List Entry) (n : Made) → AreBytes body → Step f ls texts body m es n → IsOrderlyMade (plain m) → Has m → Has n
  pub lands : (m : Made) (c : Change) (state : Option (List ℕ)) (names : List TxName) → IsOrderlyMade (plain m) → Has m → landing_of f m c (told_of f m c state) ≡ Some names
      → landing m c (inside_told (told_of f m c state)) ≡ Some names

-- numbers are counted, an instance that is gone does not come again, and pages stand as they stood, with the states that were told of them
pub record Onward (m e : Made) : Type 0 where
  pub rises : m.book.logged ≤ e.book.logged
  pub gone : (n : ℕ) → (Unseen m.earlier.seen n → ⊥) → instance_at n m.book.instances ≡ None → instance_at n e.book.instances ≡ None
  pub seen : (n : ℕ) → Among n m.earlier.seen → Among n e.earlier.seen
  pub since : Since (Unseen m.earlier.seen) m.book.instances e.book.instances
  pub told : (n : ℕ) → (Unseen m.earlier.seen n → ⊥) → state_at n e.earlier.states ≡ state_at n m.earlier.states

onward_then : (m n e : Made) → Onward m n → Onward n e → Onward m e
onward_then m n e one two = record {
  rises = let a = one.rises in let b = two.rises in omega (arith, a, b);
  gone = λ i used none. two.gone i (λ unseen. used (λ there. unseen (one.seen i there))) (one.gone i used none);
  seen = λ i there. two.seen i (one.seen i there);
  since = since_then (Unseen m.earlier.seen) (Unseen n.earlier.seen) m.book.instances n.book.instances e.book.instances (λ i unseen there. unseen (one.seen i there)) one.since two.since;
  told = λ i used. two.told i (λ unseen. used (λ there. unseen (one.seen i there))) ∙ one.told i used;
}

onward_self : (m : Made) → Onward m m
onward_self m = record {
  rises = omega arith;
  gone = λ i used none. none;
  seen = λ i there. there;
  since = since_same (Unseen m.earlier.seen) m.book.instances;
  told = λ i used. refl;
}

-- instances stand as they stood after a record that lands
landed_since : (m : Made) (c : Change) (inside names : List TxName) → IsOrderlyMade (plain m) → landing m c inside ≡ Some names
    → Since (Unseen m.earlier.seen) m.book.instances (instances_by m.book.scripts c names m.book.instances)
landed_since m c inside names g f =
    let t = landing_is m c inside names f in
    (land_well m.book.scripts m.book.clock (Unseen m.earlier.seen) (Unseen (with_number (number_in c) m.earlier.seen)) m.book.instances c names g.instances
    (held_fits m.book c inside names t.0) (new_number c m.earlier.seen t.1) (more_seen c m.earlier.seen)).1

landed_gone : (m : Made) (c : Change) (inside names : List TxName) → IsOrderlyMade (plain m) → landing m c inside ≡ Some names → (n : ℕ) → (Unseen m.earlier.seen n → ⊥) → instance_at n m.book.instances ≡ None
    → instance_at n (instances_by m.book.scripts c names m.book.instances) ≡ None
landed_gone m c inside names g f n used none =
    none_by (instance_at n (instances_by m.book.scripts c names m.book.instances))
    (λ j found. let was = (landed_since m c inside names g f).was n j found used in never (instance_at n m.book.instances) was.instance none was.found)

-- the state that was told of a number stays told, where records tell of other numbers
old_state : (m : Made) (c : Change) (inside names : List TxName) (x : Told) → landing m c inside ≡ Some names → (n : ℕ) → (Unseen m.earlier.seen n → ⊥)
    → state_at n (with_state (number_in c) x m.earlier.states) ≡ state_at n m.earlier.states
old_state m c inside names x f n used = by_number c refl x
  where
    new : (q : ℕ) → IsOf q c → q ≡ n → ⊥
    new q is same = used (subst (Unseen m.earlier.seen) same (new_number c m.earlier.seen (landing_is m c inside names f).1 q is))

    other : (q : ℕ) → IsOf q c → (x : Told) → state_at n (with_state (Some q) x m.earlier.states) ≡ state_at n m.earlier.states
    other q is unread = refl
    other q is misread = refl
    other q is (told d) = other_cons q d n m.earlier.states (new q is)

    by_number : (b : Change) → c ≡ b → (x : Told) → state_at n (with_state (number_in b) x m.earlier.states) ≡ state_at n m.earlier.states
    by_number (opens o) e x = other o.number (subst (IsOf o.number) (sym e) refl) x
    by_number (extends y) e x = other y.number (subst (IsOf y.number) (sym e) refl) x
    by_number (ends y) e x = other y.number (subst (IsOf y.number) (sym e) refl) x
    by_number (finishes y) e x = other y.number (subst (IsOf y.number) (sym e) refl) x
    by_number (sweeps tick) e x = refl

-- where no page is told, the same pages stand
onward_still : (m n : Made) → m.book.logged ≤ n.book.logged → ((i : ℕ) → Among i m.earlier.seen → Among i n.earlier.seen) → Since (Unseen m.earlier.seen) m.book.instances n.book.instances
    → n.earlier.states ≡ m.earlier.states → Onward m n
onward_still m n rises seen since states = record {
  rises = rises;
  gone = λ i used none.
      none_by (instance_at i n.book.instances) (λ j found. let was = since.was i j found used in never (instance_at i m.book.instances) was.instance none was.found);
  seen = seen;
  since = since;
  told = λ i used. ap (λ (ss : States). state_at i ss) states;
}

step_onward : (f : ℕ) (ls : List Instance) (texts : Texts) (Has : Made → Type 0) → Reads f ls texts Has → (body : List ℕ) (m : Made) (es : List Entry) (n : Made) → IsOrderlyMade (plain m) → Has m
    → Step f ls texts body m es n → Onward m n
step_onward f ls texts Has reads body m es n g has (turns named scripts read is) =
    onward_still m (beside m.earlier (resettled (length body) scripts (plain m))) (omega arith) (λ i there. there) (since_same (Unseen m.earlier.seen) m.book.instances) refl
step_onward f ls texts Has reads body m es n g has (frees read fed) =
    onward_still m (promoted (length body) m) (omega arith) (λ i there. there) (since_same (Unseen m.earlier.seen) m.book.instances) refl
step_onward f ls texts Has reads body m es n g has (passes c state read sure h) =
    onward_still m (retaken (length body) c None (told_of f m c state) m) (omega arith) (λ i there. more_among c m.earlier.seen i there) (since_same (Unseen m.earlier.seen) m.book.instances) refl
step_onward f ls texts Has reads body m es n g has (lands c state names read sure h b stay) =
    let x = told_of f m c state in
    let lands_so = reads.lands m c state names g has h in
    record {
      rises = omega arith;
      gone = landed_gone m c (inside_told x) names g lands_so;
      seen = λ i there. more_among c m.earlier.seen i there;
      since = landed_since m c (inside_told x) names g lands_so;
      told = old_state m c (inside_told x) names x lands_so;
    }

pub onward : (f : ℕ) (ls : List Instance) (texts : Texts) (Has : Made → Type 0) → Reads f ls texts Has → (shelf place : ℕ) (bodies : List (List ℕ)) (m e : Made) → AreAllBytes bodies → IsOrderlyMade (plain m)
    → Has m → made_in (with_bodies_at f texts shelf place bodies (made m)) ≡ Some e → Onward m e
onward f ls texts Has reads shelf place [] m e small g has is = subst (Onward m) (let same : m ≡ e = cc in same) (onward_self m)
onward f ls texts Has reads shelf place (body ∷ bodies) m e small g has is =
    let go = moved f ls texts shelf place (place + 5 + length body) body bodies m e (read_record_in f body) refl is in
    let rest = subst (λ (x : Making). made_in (with_bodies_at f texts shelf (place + 5 + length body) bodies x) ≡ Some e) go.is is in
    onward_then m go.then_ e (step_onward f ls texts Has reads body m go.its go.then_ g has go.step)
    (onward f ls texts Has reads shelf (place + 5 + length body) bodies go.then_ e small.1 (step_orderly f ls texts body m go.its go.then_ go.step g)
    (reads.goes_on body m go.its go.then_ small.0 go.step g has) rest)
