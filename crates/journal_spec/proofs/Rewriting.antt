-- The records of a file of each format, as the newest format has them.
use Rattle.std.proofs.Common.{◌≡◌, ℕ, zero, suc, ◌≤◌, ◌^◌, List, [], ◌∷◌, length, Option, Some, true, false, refl, sym, ap, subst, ◌∙◌, arith, length-append}
use Rattle.std.specs.Prelude.{⊤, nat_le}
use Rattle.std.proofs.lemmas.Bool.{and_parts}
use Rattle.std.proofs.lemmas.Bool.Decides.{nat_tests}
use Rattle.std.proofs.lemmas.Option.{same_Some}
use Rattle.script_value.specs.declared.outcome.TxName.{TxName}
use Rattle.page_journal.specs.Records.{framed, frames, at_rest, is_format}
use Rattle.page_journal.proofs.Frames.{length-framed, length-at_rest}
use Rattle.replay_spec.specs.Book.{Instance, Change}
use Rattle.replay_spec.specs.Compaction.{stays_in}
use Rattle.replay_spec.specs.Invariant.{Among}
use Rattle.replay_spec.specs.Remade.{IsOrderlyMade}
use Rattle.machine_states.specs.Machine.{Suspended}
use Rattle.value_bytes.specs.Laws.{AreBytes}
use Rattle.kept_states.specs.FrameCodec.Forms.{form_bytes}
use Rattle.journal_records.specs.Records.{Record, changes, renews, body_of}
use Rattle.journal_records.specs.Reading.{read_record}
use Rattle.journal_records.specs.Old.{newest_format, read_record_in}
use Rattle.journal_records.specs.Laws.{AreRecordsExact}
use Rattle.journal_spec.specs.Before.{Made, plain, before_told}
use Rattle.journal_spec.specs.Retaking.{Told, unread, misread, told, script_for, told_in, landing, retaken}
use Rattle.journal_spec.specs.Lengths.{own_told}
use Rattle.journal_spec.specs.Making.{Texts, made_in}
use Rattle.journal_spec.specs.Old.{told_of, told_alone, landing_told, landing_of, book_of_format, format_of_now}
use Rattle.journal_spec.specs.Whole.{AreWhole}
use Rattle.journal_spec.specs.Owning.{IsOwnState, IsOwnRecord, IsOwnRecordIn}
use Rattle.journal_spec.specs.Reading.{AreAllBytes}
use Rattle.journal_spec.specs.Copying.{inside_told, bytes_now, state_now, body_now, copies, CopiesMakeTheBook, HasStored, IsToldAnew, MigrationsMakeTheBook}
use Rattle.journal_spec.specs.OwnCopies.{CanBeCopied, CopiesAreOwn}
use Rattle.journal_spec.proofs.Anew.{alone, alone_unread, binds_is, form_told, bytes_fit}
use Rattle.journal_spec.proofs.Walking.{Onward}
use Rattle.journal_spec.proofs.OwnStates.{state_beside, own_by}
use Rattle.journal_spec.proofs.OwnEntries.{IsJoined, own_is_joined}
use Rattle.journal_spec.proofs.Copied.{IsWritten, Rewrites, IsCarried}
use Rattle.journal_spec.proofs.Staying.{before_rises_stored, new_stored}
use Rattle.journal_spec.proofs.Again.{IsOwn, agrees, lands_again, own_on, setup_stays, written_again}
use Rattle.journal_spec.proofs.Joining.{AreSure}
use Rattle.journal_spec.proofs.Copying.{alike_now, AtStart, Rewritten, rewritten}

-- ---- what a journal has room for is short

abbrev IsShortBody : List ℕ → Type 0
IsShortBody body = length body ≤ 2 ^ 30

all_short : (bodies : List (List ℕ)) → length (frames bodies) ≤ 2 ^ 30 → AreSure IsShortBody bodies
all_short [] h = tt
all_short (body ∷ bodies) h =
    let long = length-append (framed body) (frames bodies) in
    let size = length-framed body in
    (omega (arith, h, long, size), all_short bodies (omega (arith, h, long, size)))

rest_short : (bodies : List (List ℕ)) (first d : List ℕ) (rest : List (List ℕ)) → bodies ≡ first ∷ (d ∷ rest) → length (at_rest bodies) ≤ 2 ^ 30 → AreSure IsShortBody rest
rest_short bodies first d rest is fits =
    let size = length-at_rest bodies in
    let all = subst (λ (bs : List (List ℕ)). AreSure IsShortBody bs) is (all_short bodies (omega (arith, fits, size))) in
    all.1.1

-- ---- from format 2 on a record lands with what is told

told_lands : (m : Made) (c : Change) (x : Told) (names : List TxName) → landing_told m c x ≡ Some names → landing m c (inside_told x) ≡ Some names
told_lands m c unread names h = h
told_lands m c misread names h = absurd (let no : ⊥ = cc in no)
told_lands m c (told d) names h = h

-- nothing is asked of what was made
abbrev Any : Made → Type 0
Any m = ⊤

any_start : (f : ℕ) (texts : Texts) (shelf : ℕ) (e : Made) → AtStart f texts shelf e Any
any_start f texts shelf e from later rest small is = record { begins = λ fed place n. tt; drawn = λ fed place n number. tt }

-- ---- the newest format

abbrev AnyBody : List ℕ → Type 0
AnyBody body = ⊤

newest_rewrites : AreRecordsExact → (ls : List Instance) (texts : Texts) (e : Made) → Rewrites newest_format (newest_format ≡ newest_format) AnyBody ls texts e Any
newest_rewrites x ls texts e = record {
  reads = record {
    goes_on = λ body m es n small step g has. tt;
    lands = λ m c state names g has h. told_lands m c (told_in m.earlier m.book c state) names h;
  };
  setups = λ body named small read. sym (x.newest body) ∙ read;
  written = λ m body c state names g has small read told_so lands stay gn from on. record { read = λ may. sym (x.newest body) ∙ read; told_so = refl };
  copied = λ same m body c state. refl;
}

any_bodies : (bodies : List (List ℕ)) → AreSure AnyBody bodies
any_bodies [] = tt
any_bodies (body ∷ bodies) = (tt, any_bodies bodies)

-- own states are carried
own_is_carried : (f : ℕ) (ls : List Instance) → IsCarried f ls (IsOwnRecordIn f) IsOwnRecord
own_is_carried f ls = record {
  setups = λ k named. tt;
  stays = λ m k c state bytes h stay alike own.
      subst (IsOwnState k.book c) (sym alike) (own_by k.book m.book c (told_of f m c state) (state_beside ls m k c h stay) own);
}

pub copies_make : AreRecordsExact → CopiesMakeTheBook
copies_make x texts shelf bodies m bytes makes unfed =
    let r = rewritten x (IsOwnRecordIn newest_format) IsOwnRecord own_is_joined newest_format (newest_format ≡ newest_format) AnyBody texts shelf bodies m Any (own_is_carried newest_format m.book.instances) (newest_rewrites x m.book.instances texts m)
    (any_start newest_format texts shelf m) bytes (ap made_in (format_of_now texts shelf bodies) ∙ makes) unfed (λ first d rest is. any_bodies rest) in
    (r.k, r.makes, r.compacted refl)

-- a file of it can be compacted
pub newest_copied : (texts : Texts) (shelf : ℕ) (bodies : List (List ℕ)) (m : Made) → CanBeCopied newest_format texts shelf bodies m
newest_copied texts shelf bodies m = record {
  known = refl;
  anew = record { stored = λ low. absurd (let no : false ≡ true = low in let never : ⊥ = cc in never); whole = λ one. absurd (omega (arith, one)) };
  room = λ older. absurd (older refl);
}

-- ---- formats 3 to 5 tell a page's state as the newest does

late_rewrites : AreRecordsExact → (f : ℕ) → (f ≡ newest_format → ⊥) → ((m : Made) (c : Change) (state : Option (List ℕ)) → told_of f m c state ≡ told_in m.earlier m.book c state)
    → ((m : Made) (c : Change) (x : Told) → landing_of f m c x ≡ landing_told m c x) → ((m : Made) (c : Change) (state : Option (List ℕ)) → state_now f m c state ≡ state)
    → ((m : Made) (body : List ℕ) (c : Change) (state : Option (List ℕ)) → body_now f m body c state ≡ body_of (changes c (state_now f m c state)))
    → (ls : List Instance) (texts : Texts) (e : Made) → Rewrites f (f ≡ newest_format) IsShortBody ls texts e Any
late_rewrites x f old told_is landing_is state_is body_is ls texts e = record {
  reads = record {
    goes_on = λ body m es n small step g has. tt;
    lands = λ m c state names g has h. told_lands m c (told_of f m c state) names (sym (landing_is m c (told_of f m c state)) ∙ h);
  };
  setups = λ body named small read. alike_now x f body (renews named) small tt read;
  written = λ m body c state names g has small read told_so lands stay gn from on. record {
    read = λ may.
        ap read_record (body_is m body c state)
        ∙ (ap (λ (s : Option (List ℕ)). read_record (body_of (changes c s))) (state_is m c state)
        ∙ (x.back (changes c state) (x.fits f body (changes c state) small read) ∙ ap (λ (s : Option (List ℕ)). Some (changes c s)) (sym (state_is m c state))));
    told_so = ap (λ (s : Option (List ℕ)). told_in m.earlier m.book c s) (state_is m c state) ∙ sym (told_is m c state);
  };
  copied = λ same m body c state. absurd (old same);
}

-- ---- format 2 tells it by itself

-- what is told of a page in format 2
abbrev told_2 : Made → Change → Option (List ℕ) → Told
told_2 m c state = told_alone (before_told m.earlier m.book c) (script_for m.book c) state

module _ (x : AreRecordsExact) (m e : Made) (body : List ℕ) (c : Change) (state : Option (List ℕ)) (names : List TxName) (g : IsOrderlyMade (plain m)) (small : AreBytes body)
    (read : read_record_in 2 body ≡ Some (changes c state)) (has : HasStored e) (stay : stays_in e.book.instances c ≡ true) (from : Onward m e) where
  abbrev before : Option Suspended
  before = before_told m.earlier m.book c

  -- with this told of its page
  written_told : (t : Told) → told_2 m c state ≡ t → (t ≡ misread → ⊥) → IsOrderlyMade (plain (retaken (length body) c (Some names) t m)) → Onward (retaken (length body) c (Some names) t m) e
      → IsWritten IsShortBody m c (bytes_now before state t) t (body_of (changes c (bytes_now before state t)))
  written_told unread is sure gn on =
      record { read = λ may. x.back (changes c state) (x.fits 2 body (changes c state) small read); told_so = alone_unread before (script_for m.book c) state is }
  written_told misread is sure gn on = absurd (sure refl)
  written_told (told d) is sure gn on =
      let a = alone before (script_for m.book c) state d is in
      let stored = new_stored m e (length body) c names d a.script a.is gn on has stay in
      record {
        read = λ may. x.back (changes c (Some (form_bytes before d))) (bytes_fit m.book c a.script state (form_bytes before d) a.is (x.fits 2 body (changes c state) small read) may);
        told_so = form_told before (script_for m.book c) a.script d a.is (before_rises_stored m e c g from has stay) stored (binds_is before d a.binds);
      }

alone_rewrites : AreRecordsExact → (texts : Texts) (e : Made) → HasStored e → Rewrites 2 (2 ≡ newest_format) IsShortBody e.book.instances texts e Any
alone_rewrites x texts e stored = record {
  reads = record {
    goes_on = λ body m es n small step g has. tt;
    lands = λ m c state names g has h. told_lands m c (told_2 m c state) names h;
  };
  setups = λ body named small read. alike_now x 2 body (renews named) small tt read;
  written = λ m body c state names g has small read told_so lands stay gn from on.
      written_told x m e body c state names g small read stored stay from (told_2 m c state) refl told_so gn on;
  copied = λ same m body c state. absurd (omega (arith, same));
}

-- ---- format 1 tells none, and each script makes it again

again_rewrites : AreRecordsExact → (texts : Texts) (e : Made) → HasStored e → Rewrites 1 (1 ≡ newest_format) IsShortBody e.book.instances texts e IsOwn
again_rewrites x texts e stored = record {
  reads = record {
    goes_on = λ body m es n small step g has. own_on x e.book.instances texts body m es n small step g has;
    lands = λ m c state names g has h. lands_again m c names g has h;
  };
  setups = λ body named small read. alike_now x 1 body (renews named) small tt read;
  written = λ m body c state names g has small read told_so lands stay gn from on.
      written_again x m e body c state names (own_told m.book c) g has refl (agrees m c names g has lands) small read stored stay gn from on;
  copied = λ same m body c state. absurd (omega (arith, same));
}

own_start : AreRecordsExact → (texts : Texts) (shelf : ℕ) (e : Made) → AreWhole e.book.scripts → AtStart 1 texts shelf e IsOwn
own_start x texts shelf e whole from later rest small is =
    let all : AreWhole from.book.scripts = subst AreWhole (setup_stays x [] texts shelf later rest from e small is) whole in
    record {
      begins = λ fed place n. (record { setup = all; instances = λ k i found. absurd (let no : ⊥ = cc in no) }, λ k n i p found shown. absurd (let no : ⊥ = cc in no));
      drawn = λ fed place n number. (record { setup = all; instances = λ k i found. absurd (let no : ⊥ = cc in no) }, λ k n i p found shown. absurd (let no : ⊥ = cc in no));
    }

-- ---- all formats

module _ (x : AreRecordsExact) (In : ℕ → Made → Option Record → Type 0) (P : Made → Option Record → Type 0) (j : IsJoined P) (texts : Texts) (shelf : ℕ)
    (bodies : List (List ℕ)) (m : Made) (carried : (f : ℕ) → IsCarried f m.book.instances (In f) P) (bytes : AreAllBytes bodies) (unfed : m.book.follows ≡ false) where
  -- a file of this format, of which that is known
  abbrev Comes : ℕ → Type 0
  Comes f =
      IsToldAnew f m → made_in (book_of_format f texts shelf bodies) ≡ Some m
      → ((f ≡ newest_format → ⊥) → length (at_rest (copies f texts shelf bodies m)) ≤ 2 ^ 30) → Rewritten (In f) P f (f ≡ newest_format) texts shelf bodies m

  older : (f : ℕ) → (f ≡ newest_format → ⊥) → (Has : Made → Type 0) → Rewrites f (f ≡ newest_format) IsShortBody m.book.instances texts m Has → AtStart f texts shelf m Has
      → made_in (book_of_format f texts shelf bodies) ≡ Some m → ((f ≡ newest_format → ⊥) → length (at_rest (copies f texts shelf bodies m)) ≤ 2 ^ 30)
      → Rewritten (In f) P f (f ≡ newest_format) texts shelf bodies m
  older f old Has r starts makes fits =
      rewritten x (In f) P j f (f ≡ newest_format) IsShortBody texts shelf bodies m Has (carried f) r starts bytes makes unfed (λ first d rest is. rest_short (copies f texts shelf bodies m) first d rest is (fits old))

  late : (f : ℕ) → (f ≡ newest_format → ⊥) → ((m : Made) (c : Change) (state : Option (List ℕ)) → told_of f m c state ≡ told_in m.earlier m.book c state)
      → ((m : Made) (c : Change) (x : Told) → landing_of f m c x ≡ landing_told m c x) → ((m : Made) (c : Change) (state : Option (List ℕ)) → state_now f m c state ≡ state)
      → ((m : Made) (body : List ℕ) (c : Change) (state : Option (List ℕ)) → body_now f m body c state ≡ body_of (changes c (state_now f m c state))) → Comes f
  late f old told_is landing_is state_is body_is anew makes fits =
      older f old Any (late_rewrites x f old told_is landing_is state_is body_is m.book.instances texts m) (any_start f texts shelf m) makes fits

  from_1 : Comes 1
  from_1 anew makes fits =
      older 1 (λ same. omega (arith, same)) IsOwn (again_rewrites x texts m (anew.stored refl)) (own_start x texts shelf m (anew.whole refl)) makes fits

  from_2 : Comes 2
  from_2 anew makes fits =
      older 2 (λ same. omega (arith, same)) Any (alone_rewrites x texts m (anew.stored refl)) (any_start 2 texts shelf m) makes fits

  from_3 : Comes 3
  from_3 = late 3 (λ same. omega (arith, same)) (λ m c state. refl) (λ m c x. refl) (λ m c state. refl) (λ m body c state. refl)

  from_4 : Comes 4
  from_4 = late 4 (λ same. omega (arith, same)) (λ m c state. refl) (λ m c x. refl) (λ m c state. refl) (λ m body c state. refl)

  from_5 : Comes 5
  from_5 = late 5 (λ same. omega (arith, same)) (λ m c state. refl) (λ m c x. refl) (λ m c state. refl) (λ m body c state. refl)

  from_6 : Comes 6
  from_6 anew makes fits =
      rewritten x (In newest_format) P j newest_format (newest_format ≡ newest_format) AnyBody texts shelf bodies m Any (carried newest_format) (newest_rewrites x m.book.instances texts m) (any_start newest_format texts shelf m) bytes makes unfed
      (λ first d rest is. any_bodies rest)

  by_format : (f : ℕ) → 1 ≤ f → f ≤ 6 → Comes f
  by_format zero low high = absurd (omega (arith, low))
  by_format (suc zero) low high = from_1
  by_format (suc (suc zero)) low high = from_2
  by_format (suc (suc (suc zero))) low high = from_3
  by_format (suc (suc (suc (suc zero)))) low high = from_4
  by_format (suc (suc (suc (suc (suc zero))))) low high = from_5
  by_format (suc (suc (suc (suc (suc (suc zero)))))) low high = from_6
  by_format (suc (suc (suc (suc (suc (suc (suc f))))))) low high = absurd (omega (arith, high))

  pub known_comes : (f : ℕ) → is_format f ≡ true → Comes f
  known_comes f known =
      let both = and_parts (nat_le 1 f) (nat_le f 6) known in
      by_format f (let low = both.0 in grind (arith, nat_tests, low)) (let high = both.1 in grind (arith, nat_tests, high))

-- own states
own_comes : (x : AreRecordsExact) (texts : Texts) (shelf : ℕ) (bodies : List (List ℕ)) (m : Made) → AreAllBytes bodies → m.book.follows ≡ false → (f : ℕ) → is_format f ≡ true
    → IsToldAnew f m → made_in (book_of_format f texts shelf bodies) ≡ Some m
    → ((f ≡ newest_format → ⊥) → length (at_rest (copies f texts shelf bodies m)) ≤ 2 ^ 30) → Rewritten (IsOwnRecordIn f) IsOwnRecord f (f ≡ newest_format) texts shelf bodies m
own_comes x texts shelf bodies m bytes unfed f known =
    known_comes x IsOwnRecordIn IsOwnRecord own_is_joined texts shelf bodies m (λ g. own_is_carried g m.book.instances) bytes unfed f known

pub migrations_make : AreRecordsExact → MigrationsMakeTheBook
migrations_make x format texts shelf bodies m known anew bytes makes unfed fits =
    let r = own_comes x texts shelf bodies m bytes unfed format known anew makes (λ older. fits) in (r.k, r.makes, r.migrated)

pub copies_own : AreRecordsExact → CopiesAreOwn
copies_own x format texts shelf bodies m k can bytes makes unfed again =
    let r = own_comes x texts shelf bodies m bytes unfed format can.known can.anew makes can.room in
    let same : k ≡ r.k = same_Some k r.k (sym again ∙ r.makes) in
    record { own = r.held; landed = r.landed; seen = λ n there. r.seen n (subst (λ (y : Made). Among n y.earlier.seen) same there); bytes = r.small }
