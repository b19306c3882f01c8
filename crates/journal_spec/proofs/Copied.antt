-- Bodies that stay, one after the other, make what goes beside what all make.
use Rattle.std.proofs.Common.{◌≡◌, ℕ, ◌+◌, ◌≤◌, List, [], ◌∷◌, ◌++◌, filter, map, length, Option, Some, None, Bool, true, false, refl, sym, ap, subst, ◌∙◌, arith, if◌then◌else◌, slice_get}
use Rattle.std.specs.Prelude.{⊤}
use Rattle.std.proofs.lemmas.List.{append-nil}
use Rattle.std.proofs.lemmas.List.Elements.{filter-append}
use Rattle.script_value.specs.declared.outcome.TxName.{TxName}
use Rattle.script_nodes.specs.Setup.{Named}
use Rattle.replay_spec.specs.Book.{Instance, Change, opens, extends, ends, finishes, sweeps, Line, changed, renewed, instance_at, is_live, page_by}
use Rattle.replay_spec.specs.Change.{mend, shown_by, ended_by, opened_by, instances_by, logged_by, clock_by}
use Rattle.replay_spec.specs.Compaction.{is_there, stays_in, stays}
use Rattle.replay_spec.specs.Admission.{◌>>=◌, Place}
use Rattle.replay_spec.specs.Recovery.{if_can_go, page_of_numbers, resettled}
use Rattle.replay_spec.specs.Remade.{IsOrderlyMade}
use Rattle.replay_spec.proofs.Admitted.{came_from}
use Rattle.replay_spec.proofs.Found.{without_none}
use Rattle.replay_spec.proofs.Landed.{never}
use Rattle.replay_spec.proofs.Recovered.{Unseen, new_number, place_is}
use Rattle.replay_spec.proofs.Living.{lives, mend_lives, mend_dead, keeps_commute, without_dead, opened_lives, opened_dead}
use Rattle.replay_spec.proofs.Compacted.{more_among, with_less, line_orderly, place_lives}
use Rattle.value_bytes.specs.Laws.{AreBytes}
use Rattle.journal_records.specs.Records.{Record, changes, renews}
use Rattle.journal_records.specs.Reading.{read_record}
use Rattle.journal_records.specs.Old.{read_record_in}
use Rattle.journal_spec.specs.Before.{Made, plain}
use Rattle.journal_spec.specs.Retaking.{Told, unread, misread, told_in, if_held, held, landing, retaken}
use Rattle.journal_spec.specs.Making.{Texts, Making, made, beside, made_in}
use Rattle.journal_spec.specs.Old.{told_of, landing_of, with_bodies_at}
use Rattle.journal_spec.specs.Reading.{AreAllBytes}
use Rattle.journal_spec.specs.Copying.{inside_told, Entry, tells, settles, body_in, then_entry, entries_after, state_now, body_now, entry_by, entries}
use Rattle.journal_spec.proofs.Retaken.{landing_is, retaken_orderly}
use Rattle.journal_spec.proofs.Telling.{IsQuiet, quiet_if}
use Rattle.journal_spec.proofs.Beside.{Beside, held_beside, told_start, told_answer, lands_beside, kept_states, left_states}
use Rattle.journal_spec.proofs.OwnStates.{HoldsEntry, HoldEntries, HoldFrom}
use Rattle.journal_spec.proofs.Walking.{Step, turns, lands, passes, frees, moved, step_orderly, Reads, Onward, onward}

-- ---- what holds of entries

-- an entry lands on what was made
abbrev pub IsTakenEntry : Made → Entry → Type 0
IsTakenEntry k (tells c state body) =
    (names : List TxName) × ((landing k c (inside_told (told_in k.earlier k.book c state)) ≡ Some names) × (told_in k.earlier k.book c state ≡ misread → ⊥))
IsTakenEntry k (settles scripts body) = ⊤

abbrev pub AreTakenEntries : List Entry → Made → Type 0
AreTakenEntries [] k = ⊤
AreTakenEntries (e ∷ es) k = IsTakenEntry k e × AreTakenEntries es (then_entry e k)

-- an entry is what its body is read as, that of a change where it may be written
abbrev pub IsReadEntry : (sure : List ℕ → Type 0) → Texts → Entry → Type 0
IsReadEntry sure texts (tells c state body) = sure body → read_record body ≡ Some (changes c state)
IsReadEntry sure texts (settles scripts body) = (named : List (List ℕ × List ℕ)) × ((read_record body ≡ Some (renews named)) × (texts named ≡ Some scripts))

-- an entry has no greater number than is counted
abbrev pub IsBelowEntry : ℕ → Entry → Type 0
IsBelowEntry top (tells c state body) = logged_by c ≤ top
IsBelowEntry top (settles scripts body) = ⊤

-- each of these entries is read so, and counted
abbrev pub AreFacts : (sure : List ℕ → Type 0) → Texts → (top : ℕ) → List Entry → Type 0
AreFacts sure texts top [] = ⊤
AreFacts sure texts top (e ∷ es) = (IsReadEntry sure texts e × IsBelowEntry top e) × AreFacts sure texts top es

-- what is made of copies has the lines that stay
abbrev pub HasLines : List Instance → (m k : Made) → Type 0
HasLines ls m k = k.book.file.lines ≡ filter (stays ls) m.book.file.lines

-- Entries land one after the other, and make what goes beside what all bodies make; where each body is copied, with the lines that stay, and each
-- is bytes; and where this is so, a fact holds of each.
pub record Walked (P : Made → Option Record → Type 0) (same owned : Type 0) (sure : List ℕ → Type 0) (ls : List Instance) (texts : Texts) (e : Made) (es : List Entry) (k : Made) : Type 0 where
  pub taken : AreTakenEntries es k
  pub facts : AreFacts sure texts e.book.logged es
  pub at_end : Beside ls e (entries_after es k)
  pub lines : same → HasLines ls e (entries_after es k)
  pub small : same → AreAllBytes (map body_in es)
  pub own : owned → HoldEntries P es k

-- what holds of an entry that is written after others
record Next (P : Made → Option Record → Type 0) (same owned : Type 0) (sure : List ℕ → Type 0) (texts : Texts) (top : ℕ) (x : Entry) (k j : Made) : Type 0 where
  is : then_entry x k ≡ j
  taken : IsTakenEntry k x
  read : IsReadEntry sure texts x
  below : IsBelowEntry top x
  small : same → AreBytes (body_in x)
  own : owned → HoldsEntry P k x

walked_cons : (P : Made → Option Record → Type 0) (same here owned : Type 0) (sure : List ℕ → Type 0) (ls : List Instance) (texts : Texts) (e : Made) (x : Entry) (es : List Entry) (k j : Made)
    → Next P same here sure texts e.book.logged x k j → Walked P same owned sure ls texts e es j → Walked P same (here × owned) sure ls texts e (x ∷ es) k
walked_cons P same here owned sure ls texts e x es k j next w = record {
  taken = (next.taken, subst (AreTakenEntries es) (sym next.is) w.taken);
  facts = ((next.read, next.below), w.facts);
  at_end = subst (λ (y : Made). Beside ls e (entries_after es y)) (sym next.is) w.at_end;
  lines = λ p. subst (λ (y : Made). HasLines ls e (entries_after es y)) (sym next.is) (w.lines p);
  small = λ p. (next.small p, w.small p);
  own = λ o. (next.own o.0, subst (HoldEntries P es) (sym next.is) (w.own o.1));
}

-- a body without an entry asks for nothing
walked_past : (P : Made → Option Record → Type 0) (same here owned : Type 0) (sure : List ℕ → Type 0) (ls : List Instance) (texts : Texts) (e : Made) (es : List Entry) (k : Made) → Walked P same owned sure ls texts e es k
    → Walked P same (here × owned) sure ls texts e es k
walked_past P same here owned sure ls texts e es k w =
    record { taken = w.taken; facts = w.facts; at_end = w.at_end; lines = w.lines; small = w.small; own = λ o. w.own o.1 }

-- the body of a change in the newest format is read so where it may be written, and tells of its page what was told
pub record IsWritten (sure : List ℕ → Type 0) (m : Made) (c : Change) (state : Option (List ℕ)) (x : Told) (body : List ℕ) : Type 0 where
  pub read : sure body → read_record body ≡ Some (changes c state)
  pub told_so : told_in m.earlier m.book c state ≡ x

-- What holds of a format's records, after which what was made has this: a setup is told as in the newest format; a change that lands can be written
-- in that; and its body is then as it was, if this is so.
pub record Rewrites (f : ℕ) (same : Type 0) (sure : List ℕ → Type 0) (ls : List Instance) (texts : Texts) (e : Made) (Has : Made → Type 0) : Type 0 where
  pub reads : Reads f ls texts Has
  pub setups : (body : List ℕ) (named : List (List ℕ × List ℕ)) → AreBytes body → read_record_in f body ≡ Some (renews named) → read_record body ≡ Some (renews named)
  pub written : (m : Made) (body : List ℕ) (c : Change) (state : Option (List ℕ)) (names : List TxName) → IsOrderlyMade (plain m) → Has m → AreBytes body
      → read_record_in f body ≡ Some (changes c state) → (told_of f m c state ≡ misread → ⊥) → landing_of f m c (told_of f m c state) ≡ Some names
      → stays_in ls c ≡ true → IsOrderlyMade (plain (retaken (length body) c (Some names) (told_of f m c state) m))
      → Onward m e → Onward (retaken (length body) c (Some names) (told_of f m c state) m) e
      → IsWritten sure m c (state_now f m c state) (told_of f m c state) (body_now f m body c state)
  pub copied : same → (m : Made) (body : List ℕ) (c : Change) (state : Option (List ℕ)) → body_now f m body c state ≡ body

-- A fact of this format's records is carried to their copies: it holds of each setup, and of a change that stays, of whose page the same is told.
pub record IsCarried (f : ℕ) (ls : List Instance) (In P : Made → Option Record → Type 0) : Type 0 where
  pub setups : (k : Made) (named : List (List ℕ × List ℕ)) → P k (Some (renews named))
  pub stays : (m k : Made) (c : Change) (state bytes : Option (List ℕ)) → Beside ls m k → stays_in ls c ≡ true → told_in k.earlier k.book c bytes ≡ told_of f m c state
      → In m (Some (changes c state)) → P k (Some (changes c bytes))

-- ---- a record that stays

told_beside : (ls : List Instance) (m k : Made) (c : Change) (state : Option (List ℕ)) → Beside ls m k → stays_in ls c ≡ true → told_in k.earlier k.book c state ≡ told_in m.earlier m.book c state
told_beside ls m k (opens o) state h stay = told_start ls m k o.script state h
told_beside ls m k (extends x) state h stay = told_answer ls m k x.instance x.page state h stay
told_beside ls m k (ends e) state h stay = refl
told_beside ls m k (finishes f) state h stay = refl
told_beside ls m k (sweeps tick) state h stay = refl

held_kept : (ls : List Instance) (m k : Made) (c : Change) (inside : List TxName) → Beside ls m k → stays_in ls c ≡ true → held k.book c inside ≡ held m.book c inside
held_kept ls m k (opens o) inside h stay = held_beside ls m k (opens o) inside h refl
held_kept ls m k (extends x) inside h stay =
    held_beside ls m k (extends x) inside h
    (ap (λ (o : Option Place). o >>= (λ at. if_can_go x.evicted at.instance.used (if_held x.effects at.instance.cells inside))) (place_lives m.book ls x.instance x.page stay))
held_kept ls m k (ends e) inside h stay =
    held_beside ls m k (ends e) inside h (ap (λ (o : Option Place). o >>= (λ at. if_held e.effects at.instance.cells [])) (place_lives m.book ls e.instance e.page stay))
held_kept ls m k (finishes f) inside h stay = absurd (let no : ⊥ = cc in no)
held_kept ls m k (sweeps tick) inside h stay = held_beside ls m k (sweeps tick) inside h refl

instances_kept : (ls : List Instance) (m k : Made) (c : Change) (inside names : List TxName) → IsOrderlyMade (plain m) → Beside ls m k → landing m c inside ≡ Some names → stays_in ls c ≡ true
    → instances_by m.book.scripts c names k.book.instances ≡ filter (lives ls) (instances_by m.book.scripts c names m.book.instances)
instances_kept ls m k (opens o) inside names g h f stay =
    let none = g.instances.no_instance o.number (new_number (opens o) m.earlier.seen (landing_is m (opens o) inside names f).1 o.number refl) in
    ap (λ (is : List Instance). opened_by (slice_get m.book.scripts o.script) o names is) h.instances
    ∙ opened_lives (slice_get m.book.scripts o.script) o names ls m.book.instances g.instances.rising none stay
instances_kept ls m k (extends x) inside names g h f stay =
    let to = shown_by x.effects x.left x.kind x.evicted (page_by x names) in
    ap (λ (is : List Instance). mend x.instance to is) h.instances ∙ sym (mend_lives x.instance to ls m.book.instances (λ i. refl) stay)
instances_kept ls m k (ends e) inside names g h f stay =
    ap (λ (is : List Instance). mend e.instance (ended_by e) is) h.instances ∙ sym (mend_lives e.instance (ended_by e) ls m.book.instances (λ i. refl) stay)
instances_kept ls m k (finishes x) inside names g h f stay = absurd (let no : ⊥ = cc in no)
instances_kept ls m k (sweeps tick) inside names g h f stay =
    ap (λ (is : List Instance). filter (is_live tick) is) h.instances ∙ keeps_commute (is_live tick) (lives ls) m.book.instances

-- lines that stay, with one more
lines_more : (ls : List Instance) (l : Line) (b : Bool) (ms : List Line) → stays ls l ≡ b → filter (stays ls) (ms ++ l ∷ []) ≡ filter (stays ls) ms ++ (if b then l ∷ [] else [])
lines_more ls l b ms e = filter-append (stays ls) ms (l ∷ []) ∙ ap (λ (t : Bool). filter (stays ls) ms ++ (if t then l ∷ [] else [])) e

kept_beside : (ls : List Instance) (m k : Made) (c : Change) (n p : ℕ) (x : Told) (inside names : List TxName) → IsOrderlyMade (plain m) → IsOrderlyMade (plain k) → Beside ls m k
    → landing m c inside ≡ Some names → landing k c inside ≡ Some names → stays_in ls c ≡ true → (x ≡ unread → IsQuiet c) → (x ≡ misread → ⊥)
    → Beside ls (retaken n c (Some names) x m) (retaken p c (Some names) x k)
kept_beside ls m k c n p x inside names g gk h f fk stay quiet sure = record {
  shelf = h.shelf;
  scripts = h.scripts;
  clock = ap (λ (t : ℕ). clock_by c t) h.clock;
  instances = ap (λ (ss : List Named). instances_by ss c names k.book.instances) h.scripts ∙ instances_kept ls m k c inside names g h f stay;
  seen = with_less c k.earlier.seen m.earlier.seen h.seen;
  states = kept_states m k c inside names gk fk h.states x quiet sure;
  first = h.first;
  head = h.head;
}

-- ---- a record that goes

instances_left : (ls : List Instance) (m : Made) (c : Change) (inside names : List TxName) → IsOrderlyMade (plain m) → landing m c inside ≡ Some names → stays_in ls c ≡ false
    → ((n : ℕ) → (Unseen m.earlier.seen n → ⊥) → instance_at n (instances_by m.book.scripts c names m.book.instances) ≡ None → is_there n ls ≡ false)
    → filter (lives ls) m.book.instances ≡ filter (lives ls) (instances_by m.book.scripts c names m.book.instances)
instances_left ls m (opens o) inside names g f stay gone =
    let none = g.instances.no_instance o.number (new_number (opens o) m.earlier.seen (landing_is m (opens o) inside names f).1 o.number refl) in
    opened_dead (slice_get m.book.scripts o.script) o names ls m.book.instances none stay
instances_left ls m (extends x) inside names g f stay gone =
    sym (mend_dead x.instance (shown_by x.effects x.left x.kind x.evicted (page_by x names)) ls m.book.instances (λ i. refl) stay)
instances_left ls m (ends e) inside names g f stay gone = sym (mend_dead e.instance (ended_by e) ls m.book.instances (λ i. refl) stay)
instances_left ls m (finishes x) inside names g f stay gone =
    let at = came_from (page_of_numbers m.book x.instance x.page) _ names (landing_is m (finishes x) inside names f).0 in
    let there = (place_is m.book x.instance x.page at.0 at.1.0).0 in
    let dead = gone x.instance (λ unseen. never (instance_at x.instance m.book.instances) at.0.instance (g.instances.no_instance x.instance unseen) there) (without_none x.instance m.book.instances) in
    sym (without_dead x.instance ls m.book.instances dead)
instances_left ls m (sweeps tick) inside names g f stay gone = absurd (let no : ⊥ = cc in no)

clock_left : (ls : List Instance) (c : Change) (clock : ℕ) → stays_in ls c ≡ false → clock_by c clock ≡ clock
clock_left ls (opens o) clock stay = refl
clock_left ls (extends x) clock stay = refl
clock_left ls (ends e) clock stay = refl
clock_left ls (finishes f) clock stay = refl
clock_left ls (sweeps tick) clock stay = absurd (let no : ⊥ = cc in no)

left_beside : (ls : List Instance) (m k : Made) (c : Change) (n : ℕ) (x : Told) (inside names : List TxName) → IsOrderlyMade (plain m) → IsOrderlyMade (plain k) → Beside ls m k
    → landing m c inside ≡ Some names → stays_in ls c ≡ false
    → ((i : ℕ) → (Unseen m.earlier.seen i → ⊥) → instance_at i (instances_by m.book.scripts c names m.book.instances) ≡ None → is_there i ls ≡ false)
    → Beside ls (retaken n c (Some names) x m) k
left_beside ls m k c n x inside names g gk h f stay gone = record {
  shelf = h.shelf;
  scripts = h.scripts;
  clock = h.clock ∙ sym (clock_left ls c m.book.clock stay);
  instances = h.instances ∙ instances_left ls m c inside names g f stay gone;
  seen = λ i there. more_among c m.earlier.seen i (h.seen i there);
  states = left_states m k c x (Some names) gk h.seen (λ e. let no : ⊥ = cc in no) (new_number c m.earlier.seen (landing_is m c inside names f).1) h.states;
  first = h.first;
  head = h.head;
}

-- ---- all bodies

module _ (f : ℕ) (same : Type 0) (sure : List ℕ → Type 0) (ls : List Instance) (texts : Texts) (e : Made) (Has : Made → Type 0) (r : Rewrites f same sure ls texts e Has)
    (In P : Made → Option Record → Type 0) (carried : IsCarried f ls In P)
    (over : (n : ℕ) → instance_at n e.book.instances ≡ None → is_there n ls ≡ false) where
  -- one body, and then the others
  stepped : (owned : Type 0) (body : List ℕ) (m k : Made) (es rest : List Entry) (next : Made) → AreBytes body → IsOrderlyMade (plain m) → Has m → IsOrderlyMade (plain k) → Beside ls m k → (same → HasLines ls m k)
      → Step f ls texts body m es next → IsOrderlyMade (plain next) → Onward m e → Onward next e
      → ((j : Made) → IsOrderlyMade (plain j) → Beside ls next j → (same → HasLines ls next j) → Walked P same owned sure ls texts e rest j)
      → Walked P same (In m (read_record_in f body) × owned) sure ls texts e (es ++ rest) k
  stepped owned body m k es rest next small g has gk h lines (turns named scripts read is) gn from on go =
      let j = beside k.earlier (resettled (length body) scripts (plain k)) in
      let l = renewed scripts (length body) in
      walked_cons P same (In m (read_record_in f body)) owned sure ls texts e (settles scripts body) rest k j
      (record { is = refl; taken = tt; read = (named, (r.setups body named small read, is)); below = tt; small = λ p. small; own = λ o named. carried.setups k named })
      (go j (line_orderly l (plain k) gk)
      (record {
        shelf = h.shelf;
        scripts = refl;
        clock = h.clock;
        instances = h.instances;
        seen = h.seen;
        states = h.states;
        first = h.first;
        head = h.head;
      })
      (λ p. ap (λ (ms : List Line). ms ++ l ∷ []) (lines p) ∙ sym (lines_more ls l true m.book.file.lines refl)))
  stepped owned body m k es rest next small g has gk h lines (frees read fed) gn from on go =
      walked_past P same (In m (read_record_in f body)) owned sure ls texts e rest k
      (go k gk
      (record {
        shelf = h.shelf;
        scripts = h.scripts;
        clock = h.clock;
        instances = h.instances;
        seen = h.seen;
        states = h.states;
        first = h.first;
        head = h.head;
      })
      (λ p. lines p))
  stepped owned body m k es rest next small g has gk h lines (passes c state read told_so none) gn from on go =
      walked_past P same (In m (read_record_in f body)) owned sure ls texts e rest k
      (go k gk
      (record {
        shelf = h.shelf;
        scripts = h.scripts;
        clock = h.clock;
        instances = h.instances;
        seen = λ i there. more_among c m.earlier.seen i (h.seen i there);
        states = h.states;
        first = h.first;
        head = h.head;
      })
      (λ p. lines p))
  stepped owned body m k es rest next small g has gk h lines (lands c state names read told_so some false stay) gn from on go =
      let x = told_of f m c state in
      let n = length body in
      let lands_so = r.reads.lands m c state names g has some in
      walked_past P same (In m (read_record_in f body)) owned sure ls texts e rest k
      (go k gk
      (left_beside ls m k c n x (inside_told x) names g gk h lands_so stay
      (λ i used none. over i (on.gone i (λ unseen. used (λ there. unseen (more_among c m.earlier.seen i there))) none)))
      (λ p. lines p ∙ (sym (append-nil (filter (stays ls) m.book.file.lines)) ∙ sym (lines_more ls (changed c n) false m.book.file.lines stay))))
  stepped owned body m k es rest next small g has gk h lines (lands c state names read told_so some true stay) gn from on go =
      let x = told_of f m c state in
      let its = body_now f m body c state in
      let bytes = state_now f m c state in
      let n = length body in
      let p = length its in
      let lands_so = r.reads.lands m c state names g has some in
      let t = landing_is m c (inside_told x) names lands_so in
      let w = r.written m body c state names g has small read told_so some stay gn from on in
      let alike : told_in k.earlier k.book c bytes ≡ x = told_beside ls m k c bytes h stay ∙ w.told_so in
      let fk : landing k c (inside_told x) ≡ Some names = lands_beside ls m k c (inside_told x) names h lands_so (held_kept ls m k c (inside_told x) h stay) in
      let j = retaken p c (Some names) x k in
      let is : then_entry (tells c bytes its) k ≡ j =
      ap (λ (y : Told). retaken p c (landing k c (inside_told y)) y k) alike ∙ ap (λ (o : Option (List TxName)). retaken p c o x k) fk in
      let taken : IsTakenEntry k (tells c bytes its) =
      (names, (ap (λ (y : Told). landing k c (inside_told y)) alike ∙ fk, λ mis. told_so (sym alike ∙ mis))) in
      let orderly : IsOrderlyMade (plain j) = subst (λ (o : Option (List TxName)). IsOrderlyMade (plain (retaken p c o x k))) fk (retaken_orderly p c (inside_told x) x k gk) in
      let below : logged_by c ≤ e.book.logged = let rises = on.rises in omega (arith, rises) in
      walked_cons P same (In m (read_record_in f body)) owned sure ls texts e (tells c bytes its) rest k j
      (record {
        is = is;
        taken = taken;
        read = w.read;
        below = below;
        small = λ q. subst AreBytes (sym (r.copied q m body c state)) small;
        own = λ o. carried.stays m k c state bytes h stay alike (subst (In m) read o);
      })
      (go j orderly
      (kept_beside ls m k c n p x (inside_told x) names g gk h lands_so fk stay (λ un. quiet_if m.earlier m.book c bytes (inside_told x) names (w.told_so ∙ un) t.0) told_so)
      (λ z.
      ap (λ (ms : List Line). ms ++ changed c p ∷ []) (lines z)
      ∙ (ap (λ (bs : List ℕ). filter (stays ls) m.book.file.lines ++ changed c (length bs) ∷ []) (r.copied z m body c state) ∙ sym (lines_more ls (changed c n) true m.book.file.lines stay))))

  pub walk : (shelf place : ℕ) (bodies : List (List ℕ)) (m k : Made) → AreAllBytes bodies → IsOrderlyMade (plain m) → Has m → IsOrderlyMade (plain k) → Beside ls m k → (same → HasLines ls m k)
      → made_in (with_bodies_at f texts shelf place bodies (made m)) ≡ Some e
      → Walked P same (HoldFrom In f texts shelf place bodies (made m)) sure ls texts e (entries f ls texts shelf place bodies (made m)) k
  walk shelf place [] m k small g has gk h lines is =
      subst (λ (x : Made). Walked P same ⊤ sure ls texts x [] k) (let alike : m ≡ e = cc in alike)
      (record { taken = tt; facts = tt; at_end = h; lines = lines; small = λ p. tt; own = λ o. tt })
  walk shelf place (body ∷ bodies) m k small g has gk h lines is =
      let later = place + 5 + length body in
      let go = moved f ls texts shelf place later body bodies m e (read_record_in f body) refl is in
      let rest = subst (λ (x : Making). made_in (with_bodies_at f texts shelf later bodies x) ≡ Some e) go.is is in
      let gn = step_orderly f ls texts body m go.its go.then_ go.step g in
      let now = r.reads.goes_on body m go.its go.then_ small.0 go.step g has in
      let its_own : Making → Type 0 = λ x. In m (read_record_in f body) × HoldFrom In f texts shelf later bodies x in
      subst (λ (x : Making). Walked P same (its_own x) sure ls texts e (entry_by f ls texts m body (read_record_in f body) ++ entries f ls texts shelf later bodies x) k) (sym go.is)
      (subst (λ (es : List Entry). Walked P same (its_own (made go.then_)) sure ls texts e (es ++ entries f ls texts shelf later bodies (made go.then_)) k) (sym go.entry)
      (stepped (HoldFrom In f texts shelf later bodies (made go.then_)) body m k go.its (entries f ls texts shelf later bodies (made go.then_)) go.then_ small.0 g has gk h lines go.step gn (onward f ls texts Has r.reads shelf place (body ∷ bodies) m e small g has is)
      (onward f ls texts Has r.reads shelf later bodies go.then_ e small.1 gn now rest)
      (λ j gj hj lj. walk shelf later bodies go.then_ j small.1 gn now gj hj lj rest)))
