-- What the bodies of joined entries have: what all entries have; and none is passed over.
use Rattle.std.proofs.Common.{◌≡◌, ℕ, ◌+◌, List, [], ◌∷◌, ◌++◌, map, length, Option, Some, Bool, true, false, refl, sym, ap, subst, ◌∙◌, if◌then◌else◌, slice_get}
use Rattle.std.specs.Prelude.{◌&&◌, nat_lt, ⊤}
use Rattle.std.proofs.lemmas.Option.{same_Some}
use Rattle.script_value.specs.declared.outcome.TxName.{TxName}
use Rattle.replay_spec.specs.Book.{Change, opens, extends, ends, finishes, sweeps, Book}
use Rattle.replay_spec.specs.Compaction.{is_sweep}
use Rattle.replay_spec.specs.Recovery.{can_go, are_on, hold_over, page_of_numbers}
use Rattle.replay_spec.proofs.Admitted.{came_from, when_is}
use Rattle.replay_spec.proofs.Filed.{bare_like}
use Rattle.replay_spec.proofs.Recovered.{if_can}
use Rattle.value_bytes.specs.Laws.{AreBytes}
use Rattle.journal_records.specs.Records.{Record, changes, draws}
use Rattle.journal_records.specs.Reading.{read_record}
use Rattle.journal_spec.specs.Before.{Made}
use Rattle.journal_spec.specs.Retaking.{Told, unread, misread, told, told_in, if_held, held, landing, IsLanded}
use Rattle.journal_spec.specs.Lengths.{state_by}
use Rattle.journal_spec.specs.Making.{Texts, Making, nothing, made, made_in, with_body, with_bodies}
use Rattle.journal_spec.specs.Owning.{OfEach, IsOwnState, IsOwnRecord, IsLandedRecord}
use Rattle.journal_spec.specs.Reading.{AreAllBytes}
use Rattle.journal_spec.specs.Copying.{inside_told, Entry, tells, settles, body_in, line_of, then_entry, entry_ahead, entries_joined}
use Rattle.journal_spec.proofs.Retaken.{landing_is}
use Rattle.journal_spec.proofs.Telling.{IsQuiet}
use Rattle.journal_spec.proofs.OwnStates.{state_bare, own_by, HoldsEntry, HoldEntries}
use Rattle.journal_spec.proofs.Copied.{IsTakenEntry, AreTakenEntries, IsReadEntry, AreFacts}
use Rattle.journal_spec.proofs.Joining.{Alike, told_like, alike_entry, sweep_skips, join_entries, AreSure, entry_made}

-- ---- own states of joined entries

own_like : (e : Entry) (m k : Made) → Alike m k → HoldsEntry IsOwnRecord m e → HoldsEntry IsOwnRecord k e
own_like (settles scripts body) m k h own = λ named. tt
own_like (tells c state body) m k h own =
    let same : state_by k.book c ≡ state_by m.book c =
    state_bare k.book c ∙ (ap (λ (b : Book). state_by b c) (bare_like k.book m.book h.like) ∙ sym (state_bare m.book c)) in
    subst (IsOwnState k.book c) (sym (told_like m k c state h)) (own_by k.book m.book c (told_in m.earlier m.book c state) same own)

-- A fact of entries that stays where sweeps are joined: it needs no more than what was made alike, and holds of each sweep that lands, and of the
-- number that a compaction tells.
pub record IsJoined (P : Made → Option Record → Type 0) : Type 0 where
  pub alike : (e : Entry) (m k : Made) → Alike m k → HoldsEntry P m e → HoldsEntry P k e
  pub sweeps : (m : Made) (tick : ℕ) (state : Option (List ℕ)) (body : List ℕ) → IsTakenEntry m (tells (sweeps tick) state body) → P m (Some (changes (sweeps tick) state))
  pub drawn : (k : Made) (number : ℕ) → P k (Some (draws number))

pub own_is_joined : IsJoined IsOwnRecord
own_is_joined = record { alike = own_like; sweeps = λ m tick state body taken. tt; drawn = λ k number. tt }

module _ (P : Made → Option Record → Type 0) (j : IsJoined P) where
  held_alike : (es : List Entry) (m k : Made) → AreTakenEntries es m → Alike m k → HoldEntries P es m → HoldEntries P es k
  held_alike [] m k taken h held = tt
  held_alike (e ∷ es) m k taken h held = (j.alike e m k h held.0, held_alike es (then_entry e m) (then_entry e k) taken.1 (alike_entry e m k taken.0 h).1 held.1)

  held_ahead : (e : Entry) (es : List Entry) (m : Made) → IsTakenEntry m e → AreTakenEntries es (then_entry e m) → HoldEntries P (e ∷ es) m → HoldEntries P (entry_ahead e es) m
  held_ahead e [] m one all held = held
  held_ahead (settles scripts a) (f ∷ es) m one all held = held
  held_ahead (tells (opens o) p a) (f ∷ es) m one all held = held
  held_ahead (tells (extends x) p a) (f ∷ es) m one all held = held
  held_ahead (tells (ends x) p a) (f ∷ es) m one all held = held
  held_ahead (tells (finishes x) p a) (f ∷ es) m one all held = held
  held_ahead (tells (sweeps s) p a) (settles scripts b ∷ es) m one all held = held
  held_ahead (tells (sweeps s) p a) (tells (opens o) q b ∷ es) m one all held = held
  held_ahead (tells (sweeps s) p a) (tells (extends x) q b ∷ es) m one all held = held
  held_ahead (tells (sweeps s) p a) (tells (ends x) q b ∷ es) m one all held = held
  held_ahead (tells (sweeps s) p a) (tells (finishes x) q b ∷ es) m one all held = held
  held_ahead (tells (sweeps s) p a) (tells (sweeps t) q b ∷ es) m one all held =
      let mid = then_entry (tells (sweeps s) p a) m in
      let skipped = sweep_skips s t p q a b m one all.0 in
      (j.sweeps m t q b skipped.0, held_alike es (then_entry (tells (sweeps t) q b) mid) (then_entry (tells (sweeps t) q b) m) all.1 skipped.1 held.1.1)

  pub held_joined : (es : List Entry) (m : Made) → AreTakenEntries es m → HoldEntries P es m → HoldEntries P (entries_joined es) m
  held_joined [] m taken held = tt
  held_joined (e ∷ es) m taken held =
      held_ahead e (entries_joined es) m taken.0 (join_entries es (then_entry e m) taken.1).0 (held.0, held_joined es (then_entry e m) taken.1 held.1)

-- ---- bytes of joined entries

small_ahead : (e : Entry) (es : List Entry) → AreBytes (body_in e) → AreAllBytes (map body_in es) → AreAllBytes (map body_in (entry_ahead e es))
small_ahead e [] one all = (one, tt)
small_ahead e (f ∷ es) one all = by_test (is_sweep (line_of e) && is_sweep (line_of f))
  where
    by_test : (t : Bool) → AreAllBytes (map body_in (if t then f ∷ es else e ∷ f ∷ es))
    by_test true = all
    by_test false = (one, all)

pub small_joined : (es : List Entry) → AreAllBytes (map body_in es) → AreAllBytes (map body_in (entries_joined es))
small_joined [] h = tt
small_joined (e ∷ es) h = small_ahead e (entries_joined es) h.0 (small_joined es h.1)

-- ---- what lands is none that is passed over

-- what is held has these names inside
held_inside : (b : Book) (c : Change) (inside names : List TxName) → (IsQuiet c → inside ≡ []) → held b c inside ≡ Some names → names ≡ inside
held_inside b (opens o) inside names quiet e =
    let at = came_from (slice_get b.scripts o.script) _ names e in
    let can = if_can (can_go o.evicted []) (if_held o.effects at.0.script.cells inside) names at.1.1 in
    sym (when_is (are_on (length at.0.script.cells) o.effects && hold_over o.effects at.0.script.cells) inside names can.1).1
held_inside b (extends x) inside names quiet e =
    let at = came_from (page_of_numbers b x.instance x.page) _ names e in
    let can = if_can (can_go x.evicted at.0.instance.used) (if_held x.effects at.0.instance.cells inside) names at.1.1 in
    sym (when_is (are_on (length at.0.instance.cells) x.effects && hold_over x.effects at.0.instance.cells) inside names can.1).1
held_inside b (ends x) inside names quiet e =
    let at = came_from (page_of_numbers b x.instance x.page) _ names e in
    sym (when_is (are_on (length at.0.instance.cells) x.effects && hold_over x.effects at.0.instance.cells) [] names at.1.1).1 ∙ sym (quiet tt)
held_inside b (finishes x) inside names quiet e =
    let at = came_from (page_of_numbers b x.instance x.page) _ names e in
    sym (when_is (are_on (length at.0.instance.cells) x.effects && hold_over x.effects at.0.instance.cells) [] names at.1.1).1 ∙ sym (quiet tt)
held_inside b (sweeps tick) inside names quiet e = sym (when_is (nat_lt b.clock tick) [] names e).1 ∙ sym (quiet tt)

-- a record without a page tells no state
quiet_inside : (k : Made) (c : Change) (state : Option (List ℕ)) → IsQuiet c → inside_told (told_in k.earlier k.book c state) ≡ []
quiet_inside k (opens o) state quiet = absurd quiet
quiet_inside k (extends x) state quiet = absurd quiet
quiet_inside k (ends e) state quiet = refl
quiet_inside k (finishes f) state quiet = refl
quiet_inside k (sweeps tick) state quiet = refl

landed_told : (k : Made) (c : Change) (x : Told) → landing k c (inside_told x) ≡ Some (inside_told x) → (x ≡ misread → ⊥) → IsLanded k c x
landed_told k c unread f sure = f
landed_told k c misread f sure = absurd (sure refl)
landed_told k c (told d) f sure = f

landed_entry : (k : Made) (e : Entry) → IsTakenEntry k e → HoldsEntry IsLandedRecord k e
landed_entry k (settles scripts body) taken = λ named. tt
landed_entry k (tells c state body) (names, (f, sure)) =
    let x = told_in k.earlier k.book c state in
    let same = held_inside k.book c (inside_told x) names (λ quiet. quiet_inside k c state quiet) (landing_is k c (inside_told x) names f).0 in
    landed_told k c x (f ∙ ap (λ (ns : List TxName). Some ns) same) sure

pub landed_entries : (es : List Entry) (k : Made) → AreTakenEntries es k → HoldEntries IsLandedRecord es k
landed_entries [] k taken = tt
landed_entries (e ∷ es) k taken = (landed_entry k e taken.0, landed_entries es (then_entry e k) taken.1)

-- ---- bodies of entries

-- a fact of the record of each of these bodies, after what those before it make
abbrev pub EachFrom : (Made → Option Record → Type 0) → Texts → (shelf place : ℕ) → List (List ℕ) → Making → Type 0
EachFrom P texts shelf place [] x = ⊤
EachFrom P texts shelf place (body ∷ bodies) x =
    ((m : Made) → made_in x ≡ Some m → P m (read_record body)) × EachFrom P texts shelf (place + 5 + length body) bodies (with_body texts shelf place body x)

module _ (P : Made → Option Record → Type 0) (texts : Texts) (shelf : ℕ) where
  each_of : (place : ℕ) (all : List (List ℕ)) (x : Making) → EachFrom P texts shelf place all x → (front rest : List (List ℕ)) (body : List ℕ) (m : Made) → all ≡ front ++ body ∷ rest
      → made_in (with_bodies texts shelf place front x) ≡ Some m → P m (read_record body)
  each_of place [] x h [] rest body m is makes = absurd (let no : ⊥ = cc in no)
  each_of place [] x h (f ∷ front) rest body m is makes = absurd (let no : ⊥ = cc in no)
  each_of place (b ∷ bs) x h [] rest body m is makes = let same : b ≡ body = cc in subst (λ (y : List ℕ). P m (read_record y)) same (h.0 m makes)
  each_of place (b ∷ bs) x h (f ∷ front) rest body m is makes =
      let same : f ≡ b = cc in
      let others : bs ≡ front ++ body ∷ rest = cc in
      each_of (place + 5 + length b) bs (with_body texts shelf place b x) h.1 front rest body m others
      (subst (λ (y : List ℕ). made_in (with_bodies texts shelf place (y ∷ front) x) ≡ Some m) same makes)

  -- it holds of each body of a file, where it does from its start on
  pub of_each : (bodies : List (List ℕ)) → EachFrom P texts shelf 8 bodies nothing → OfEach P texts shelf bodies
  of_each bodies h front rest body m is makes = each_of 8 bodies nothing h front rest body m is makes

  module _ (sure : List ℕ → Type 0) (top : ℕ) where
    read_entry : (e : Entry) (k : Made) → IsReadEntry sure texts e → sure (body_in e) → HoldsEntry P k e → P k (read_record (body_in e))
    read_entry (settles scripts body) k (named, (read, is)) may held = subst (P k) (sym read) (held named)
    read_entry (tells c state body) k read may held = subst (P k) (sym (read may)) held

    -- and where it holds of entries, it does of their bodies
    pub each_made : (place : ℕ) (es : List Entry) (k : Made) → AreTakenEntries es k → AreFacts sure texts top es → AreSure sure (map body_in es) → HoldEntries P es k
        → EachFrom P texts shelf place (map body_in es) (made k)
    each_made place [] k taken facts all held = tt
    each_made place (e ∷ es) k taken facts all held =
        let later = place + 5 + length (body_in e) in (
          λ m is. subst (λ (y : Made). P y (read_record (body_in e))) (same_Some k m is) (read_entry e k facts.0.0 all.0 held.0),
          subst (EachFrom P texts shelf later (map body_in es)) (sym (entry_made sure texts shelf place e k taken.0 facts.0.0 all.0))
              (each_made later es (then_entry e k) taken.1 facts.1 all.1 held.1),
        )
