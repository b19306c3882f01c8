-- What a record of format 1 lands with, and how the state that its script leaves is told.
use Rattle.std.proofs.Common.{◌≡◌, ℕ, ◌+◌, ◌≤◌, ◌^◌, List, [], ◌∷◌, length, slice_get, Option, Some, None, Bool, true, false, refl, sym, ap, subst, ◌∙◌, if◌then◌else◌}
use Rattle.script_value.specs.declared.outcome.TxName.{TxName}
use Rattle.script_nodes.specs.Setup.{Named}
use Rattle.instance_cells.specs.Cells.{reads_of}
use Rattle.replay_spec.specs.Tape.{recorded}
use Rattle.replay_spec.specs.Book.{Instance, Change, opens, extends, ends, finishes, sweeps, Book, chain}
use Rattle.replay_spec.specs.Compaction.{stays_in}
use Rattle.replay_spec.specs.Admission.{◌>>=◌, Place}
use Rattle.replay_spec.specs.Next.{home, newest}
use Rattle.replay_spec.specs.Recovery.{number_in, is_repeated, taken_in, extension_visit, page_of_numbers}
use Rattle.replay_spec.specs.Remade.{IsOrderlyMade}
use Rattle.replay_spec.proofs.Admitted.{came_from}
use Rattle.replay_spec.proofs.Filed.{taken_parts}
use Rattle.machine_states.specs.Machine.{Suspended, inside_of}
use Rattle.value_bytes.specs.Spelling.{list_bytes}
use Rattle.value_bytes.specs.Laws.{AreBytes}
use Rattle.kept_states.specs.FrameCodec.Forms.{form_bytes, BindsBefore}
use Rattle.kept_states.specs.Links.{behind_at}
use Rattle.journal_records.specs.Fields.{script_bytes}
use Rattle.journal_records.specs.Records.{changes, renews, body_of}
use Rattle.journal_records.specs.Old.{read_record_in}
use Rattle.journal_records.specs.Laws.{AreRecordsExact}
use Rattle.journal_spec.specs.Before.{Earlier, Made, plain, links_behind, before_told}
use Rattle.journal_spec.specs.Retaking.{Told, unread, misread, told, script_for, told_in, held, landing, retaken}
use Rattle.journal_spec.specs.Lengths.{state_by, own_state, own_told}
use Rattle.journal_spec.specs.Making.{Texts, Making, made, made_in}
use Rattle.journal_spec.specs.Old.{with_bodies_at}
use Rattle.journal_spec.specs.Reading.{AreAllBytes}
use Rattle.journal_spec.specs.Whole.{HasWholeScripts, HasOwnStates}
use Rattle.journal_spec.specs.Copying.{inside_told, Entry, bytes_now, HasStored}
use Rattle.journal_spec.proofs.Fitting.{whole_by}
use Rattle.journal_spec.proofs.Telling.{own_before_is, IsQuiet, told_retaken, quiet_retaken}
use Rattle.journal_spec.proofs.Owned.{before_binds, instance_there}
use Rattle.journal_spec.proofs.Remaking.{Agrees, remade_agrees}
use Rattle.journal_spec.proofs.Files.{own_is_state}
use Rattle.journal_spec.proofs.Anew.{form_told, bytes_fit}
use Rattle.journal_spec.proofs.Walking.{Step, turns, lands, passes, frees, moved, Onward}
use Rattle.journal_spec.proofs.Copied.{IsWritten}
use Rattle.journal_spec.proofs.Staying.{before_rises_stored, new_stored}

-- each script of a book can be run, and its pages' states are those that their scripts left
abbrev pub IsOwn : Made → Type 0
IsOwn m = HasWholeScripts m.book × HasOwnStates m.earlier m.book

-- a record that is taken agrees with its page's state
pub agrees : (m : Made) (c : Change) (names : List TxName) → IsOrderlyMade (plain m) → IsOwn m → taken_in (plain m) c ≡ Some names → Agrees m.book c names (own_told m.book c)
agrees m c names g own h = remade_agrees _ m.book c names own.0 g.instances (taken_parts (plain m) c names h).1

lands_told : (m : Made) (c : Change) (names : List TxName) (x : Told) → is_repeated (number_in c) m.earlier.seen ≡ false → Agrees m.book c names x → landing m c (inside_told x) ≡ Some names
lands_told m c names unread new a =
    ap (λ (b : Bool). if b then None else held m.book c []) new ∙ (a.0 ∙ ap (λ (ns : List TxName). Some ns) (sym a.1))
lands_told m c names misread new a = absurd a
lands_told m c names (told d) new a =
    ap (λ (b : Bool). if b then None else held m.book c (inside_of d.frames)) new ∙ subst (λ (ns : List TxName). held m.book c ns ≡ Some names) (sym a.1) a.0

-- it lands with what is told of its page
pub lands_again : (m : Made) (c : Change) (names : List TxName) → IsOrderlyMade (plain m) → IsOwn m → taken_in (plain m) c ≡ Some names → landing m c (inside_told (own_told m.book c)) ≡ Some names
lands_again m c names g own h = lands_told m c names (own_told m.book c) (taken_parts (plain m) c names h).0 (agrees m c names g own h)

-- a record without a page tells no state
quiet_told : (earlier : Earlier) (b : Book) (c : Change) (state : Option (List ℕ)) → IsQuiet c → told_in earlier b c state ≡ unread
quiet_told earlier b (opens o) state quiet = absurd quiet
quiet_told earlier b (extends x) state quiet = absurd quiet
quiet_told earlier b (ends e) state quiet = refl
quiet_told earlier b (finishes f) state quiet = refl
quiet_told earlier b (sweeps tick) state quiet = refl

own_states_on : (n : ℕ) (m : Made) (c : Change) (names : List TxName) (x : Told) → IsOrderlyMade (plain m) → HasOwnStates m.earlier m.book → own_told m.book c ≡ x → Agrees m.book c names x
    → landing m c (inside_told x) ≡ Some names → let r = retaken n c (Some names) x m in HasOwnStates r.earlier r.book
own_states_on n m c names unread g own is a h =
    subst (λ (o : Option (List TxName)). let r = retaken n c o unread m in HasOwnStates r.earlier r.book) h
    (quiet_retaken n m c None [] (g, own) (quiet_told m.earlier m.book c None a.2))
own_states_on n m c names misread g own is a h = absurd a
own_states_on n m c names (told d) g own is a h =
    subst (λ (o : Option (List TxName)). let r = retaken n c o (told d) m in HasOwnStates r.earlier r.book) h
    (told_retaken n m c (inside_of d.frames) d (g, own) (own_is_state m.book c d is))

-- format 1 has no setup but the first one
no_setup : (rest : List ℕ) → read_record_in 1 (6 ∷ rest) ≡ None
unfolding read_record_in
no_setup rest = refl

setup_is_none : AreRecordsExact → (body : List ℕ) (named : List (List ℕ × List ℕ)) → AreBytes body → read_record_in 1 body ≡ Some (renews named) → ⊥
setup_is_none x body named small read =
    let b = x.alike 1 body (renews named) small read tt in
    let none : None ≡ Some (renews named) = sym (no_setup (list_bytes script_bytes named)) ∙ (ap (read_record_in 1) (sym b.spelled) ∙ read) in
    let no : ⊥ = cc in no

pub own_on : AreRecordsExact → (ls : List Instance) (texts : Texts) (body : List ℕ) (m : Made) (es : List Entry) (n : Made) → AreBytes body → Step 1 ls texts body m es n → IsOrderlyMade (plain m)
    → IsOwn m → IsOwn n
own_on x ls texts body m es n small (turns named scripts read is) g own = absurd (setup_is_none x body named small read)
own_on x ls texts body m es n small (passes c state read told_so none) g own = (record { setup = own.0.setup; instances = own.0.instances }, own.1)
own_on x ls texts body m es n small (frees read fed) g own = (record { setup = own.0.setup; instances = own.0.instances }, own.1)
own_on x ls texts body m es n small (lands c state names read told_so some b stay) g own = (
  record { setup = own.0.setup; instances = whole_by m.book.scripts m.book.instances c names g.instances.apart own.0.setup own.0.instances },
  own_states_on (length body) m c names (own_told m.book c) g own.1 refl (agrees m c names g own some) (lands_again m c names g own some),
)

-- its setup stays
pub setup_stays : AreRecordsExact → (ls : List Instance) (texts : Texts) (shelf place : ℕ) (bodies : List (List ℕ)) (m e : Made) → AreAllBytes bodies
    → made_in (with_bodies_at 1 texts shelf place bodies (made m)) ≡ Some e → e.book.scripts ≡ m.book.scripts
setup_stays x ls texts shelf place [] m e small is = let same : e ≡ m = cc in ap (λ (y : Made). y.book.scripts) same
setup_stays x ls texts shelf place (body ∷ bodies) m e small is =
    let later = place + 5 + length body in
    let go = moved 1 ls texts shelf place later body bodies m e (read_record_in 1 body) refl is in
    let rest = subst (λ (y : Making). made_in (with_bodies_at 1 texts shelf later bodies y) ≡ Some e) go.is is in
    setup_stays x ls texts shelf later bodies go.then_ e small.1 rest ∙ setup_step go.its go.then_ go.step
  where
    setup_step : (es : List Entry) (n : Made) → Step 1 ls texts body m es n → n.book.scripts ≡ m.book.scripts
    setup_step es n (turns named scripts read is) = absurd (setup_is_none x body named small.0 read)
    setup_step es n (passes c state read told_so none) = refl
    setup_step es n (frees read fed) = refl
    setup_step es n (lands c state names read told_so some b stay) = refl

-- ---- how the state is told

-- the script of a change's page, where what is bound before is bound by this state
record IsFormed (m : Made) (c : Change) (d : Suspended) : Type 0 where
  script : Named
  is : script_for m.book c ≡ Some script
  binds : BindsBefore (before_told m.earlier m.book c) d

formed : (m : Made) (c : Change) (d : Suspended) → IsOwn m → state_by m.book c ≡ Some d → IsFormed m c d
formed m (opens o) d own is =
    let at = came_from (slice_get m.book.scripts o.script) _ d is in
    record { script = at.0; is = at.1.0; binds = tt }
formed m (extends x) d own is =
    let b = m.book in
    let at = came_from (page_of_numbers b x.instance x.page) _ d is in
    let place = at.0 in
    let s = place.instance.script in
    let h = home s b.shelf place.instance.number in
    let qs = chain place.instance.pages place.page in
    let w = own.0.instances x.instance place.instance (instance_there b x.instance x.page place at.1.0) in
    let v = extension_visit b x place in
    let same : before_told m.earlier b (extends x) ≡ behind_at (links_behind place) (own_state b.shelf place) =
    own_before_is m.earlier b (extends x) own.1 ∙ ap (λ (o : Option Place). o >>= (λ y. behind_at (links_behind y) (own_state b.shelf y))) at.1.0 in
    record {
      script = s;
      is = ap (λ (o : Option Place). o >>= (λ y. Some y.instance.script)) at.1.0;
      binds =
          subst (λ (p : Option Suspended). BindsBefore p d) (sym same)
          (before_binds s w (links_behind place) h qs (newest v (recorded (reads_of x.effects))) d at.1.1);
    }
formed m (ends e) d own is = absurd (let no : ⊥ = cc in no)
formed m (finishes f) d own is = absurd (let no : ⊥ = cc in no)
formed m (sweeps tick) d own is = absurd (let no : ⊥ = cc in no)

pub written_again : AreRecordsExact → (m e : Made) (body : List ℕ) (c : Change) (state : Option (List ℕ)) (names : List TxName) (x : Told) → IsOrderlyMade (plain m) → IsOwn m → own_told m.book c ≡ x
    → Agrees m.book c names x → AreBytes body → read_record_in 1 body ≡ Some (changes c state) → HasStored e → stays_in e.book.instances c ≡ true
    → IsOrderlyMade (plain (retaken (length body) c (Some names) x m)) → Onward m e → Onward (retaken (length body) c (Some names) x m) e
    → let now = bytes_now (before_told m.earlier m.book c) state x in IsWritten (λ (bs : List ℕ). length bs ≤ 2 ^ 30) m c now x (body_of (changes c now))
written_again x m e body c state names unread g own is a small read has stay gn from on =
    record { read = λ may. x.back (changes c state) (x.fits 1 body (changes c state) small read); told_so = quiet_told m.earlier m.book c state a.2 }
written_again x m e body c state names misread g own is a small read has stay gn from on = absurd a
written_again x m e body c state names (told d) g own is a small read has stay gn from on =
    let before = before_told m.earlier m.book c in
    let f = formed m c d own (own_is_state m.book c d is) in
    let stored = new_stored m e (length body) c names d f.script f.is gn on has stay in
    record {
      read = λ may. x.back (changes c (Some (form_bytes before d))) (bytes_fit m.book c f.script state (form_bytes before d) f.is (x.fits 1 body (changes c state) small read) may);
      told_so = form_told before (script_for m.book c) f.script d f.is (before_rises_stored m e c g from has stay) stored f.binds;
    }
