-- Bodies that stay make the book of the compacted file.
use Rattle.std.proofs.Common.{◌≡◌, ◌⊎◌, inl, inr, ℕ, zero, suc, ◌+◌, ◌<◌, ◌==◌, List, [], ◌∷◌, ◌++◌, map, length, Option, Some, None, Bool, true, false, refl, sym, ap, subst, ◌∙◌, ⊎_elim, arith, if◌then◌else◌}
use Rattle.std.specs.Int.{byte_at, bytes_low_first}
use Rattle.wire_bytes.specs.Spelling.{u64_bytes}
use Rattle.script_nodes.specs.Setup.{Named}
use Rattle.replay_spec.specs.Book.{Instance, File, Book, reopened}
use Rattle.replay_spec.specs.Rules.{first_file}
use Rattle.replay_spec.specs.Compaction.{last_sweeps, compaction, lines_length, file_length}
use Rattle.replay_spec.specs.Recovery.{first_of}
use Rattle.replay_spec.specs.Invariant.{Among}
use Rattle.replay_spec.specs.Remade.{IsOrderlyMade}
use Rattle.replay_spec.proofs.Living.{none_there, all_live}
use Rattle.replay_spec.proofs.Compacted.{first_orderly, unfollowed, parts_same}
use Rattle.value_bytes.specs.Laws.{AreBytes}
use Rattle.journal_records.specs.Fields.{numbers_end}
use Rattle.journal_records.specs.Records.{Record, begins, changes, renews, draws, follows, promotes, body_of}
use Rattle.journal_records.specs.Reading.{read_record}
use Rattle.journal_records.specs.Old.{read_record_in}
use Rattle.journal_records.specs.Roles.{is_role, behind_front}
use Rattle.journal_records.specs.Laws.{TellsNoPage, AreRecordsExact}
use Rattle.journal_records.proofs.Roles.{role_is}
use Rattle.journal_spec.specs.Before.{Earlier, nothing_told, Made, plain}
use Rattle.journal_spec.specs.Making.{Texts, Making, nothing, waits, waited, begun, made, other, beside, waiting, began, first_setup, first_by, start_by, fed_by, with_drawn, second_by, with_body, with_bodies, made_in, book_of}
use Rattle.journal_spec.specs.Old.{next_at, second_at, with_body_at, with_bodies_at, book_of_format}
use Rattle.journal_spec.specs.Owning.{OfEach, IsLandedRecord, AreLanded}
use Rattle.journal_spec.specs.Reading.{AreAllBytes}
use Rattle.journal_spec.specs.Copying.{Entry, body_in, line_of, entries_after, entry_by, entries, entries_joined, first_body_of, begin_in, entry_in, copies, SameStates, IsCompacted, IsMigrated}
use Rattle.journal_spec.proofs.Fitting.{any_fit}
use Rattle.journal_spec.proofs.Retaken.{filed_orderly}
use Rattle.journal_spec.proofs.Beside.{Beside}
use Rattle.journal_spec.proofs.OwnStates.{HoldEntries, HoldFrom, HoldIn, held_from}
use Rattle.journal_spec.proofs.OwnEntries.{IsJoined, held_joined, small_joined, landed_entries, EachFrom, of_each, each_made}
use Rattle.journal_spec.proofs.Walking.{no_book}
use Rattle.journal_spec.proofs.Copied.{HasLines, Walked, Rewrites, IsCarried, walk}
use Rattle.journal_spec.proofs.Joining.{AreSure, join_entries, facts_joined, lines_joined, entries_orderly, file_of_entries, length_of_entries, logged_of_entries, follows_of_entries, bodies_made}

-- what tells no page is a record of the newest format too
pub alike_now : AreRecordsExact → (f : ℕ) (body : List ℕ) (r : Record) → AreBytes body → TellsNoPage r → read_record_in f body ≡ Some r → read_record body ≡ Some r
alike_now x f body r small none read = let b = x.alike f body r small read none in ap read_record b.spelled ∙ x.back r b.fits

pub other_stays : (f : ℕ) (texts : Texts) (shelf place : ℕ) (bodies : List (List ℕ)) (p : ℕ) → with_bodies_at f texts shelf place bodies (other p) ≡ other p
other_stays f texts shelf place [] p = refl
other_stays f texts shelf place (body ∷ bodies) p = other_stays f texts shelf (place + 5 + length body) bodies p

-- ---- the first records

-- what the record tells that a journal begins with, of which a book is made: the same wherever it stands
pub record First (texts : Texts) (shelf n : ℕ) (r : Option Record) : Type 0 where
  pub scripts : List Named
  pub on : ℕ
  pub named : List (List ℕ × List ℕ)
  pub read : r ≡ Some (begins on named)
  pub is : (fed : Bool) (place : ℕ) → first_by texts fed shelf place n r ≡ begun (began fed shelf place n scripts)

-- the record with these names and texts makes a book wherever it stands
abbrev Anywhere : (shelf n s : ℕ) → Option (List Named) → Type 0
Anywhere shelf n s o = (ss : List Named) × ((fed : Bool) (place : ℕ) → first_setup fed shelf place n s o ≡ begun (began fed shelf place n ss))

pub first_is : (f : ℕ) (texts : Texts) (fed : Bool) (shelf place n later : ℕ) (bodies : List (List ℕ)) (m : Made) (r : Option Record)
    → made_in (with_bodies_at f texts shelf later bodies (first_by texts fed shelf place n r)) ≡ Some m → First texts shelf n r
first_is f texts fed shelf place n later bodies m None is = absurd (no_book f texts shelf later bodies place m is)
first_is f texts fed shelf place n later bodies m (Some (changes c state)) is = absurd (no_book f texts shelf later bodies place m is)
first_is f texts fed shelf place n later bodies m (Some (renews named)) is = absurd (no_book f texts shelf later bodies place m is)
first_is f texts fed shelf place n later bodies m (Some (draws number)) is = absurd (no_book f texts shelf later bodies place m is)
first_is f texts fed shelf place n later bodies m (Some follows) is = absurd (no_book f texts shelf later bodies place m is)
first_is f texts fed shelf place n later bodies m (Some promotes) is = absurd (no_book f texts shelf later bodies place m is)
first_is f texts fed shelf place n later bodies m (Some (begins s named)) is =
    let at = by_setup (texts named) is in
    record { scripts = at.0; on = s; named = named; read = refl; is = at.1 }
  where
    by_test : (scripts : List Named) (t : Bool) → (s == shelf) ≡ t → made_in (with_bodies_at f texts shelf later bodies (if t then begun (began fed shelf place n scripts) else other place)) ≡ Some m
        → Anywhere shelf n s (Some scripts)
    by_test scripts true e here = (scripts, λ led gate. ap (λ (t : Bool). if t then begun (began led shelf gate n scripts) else other gate) e)
    by_test scripts false e here =
        let none : None ≡ Some m = sym (ap made_in (other_stays f texts shelf later bodies place)) ∙ here in absurd (let no : ⊥ = cc in no)

    by_setup : (o : Option (List Named)) → made_in (with_bodies_at f texts shelf later bodies (first_setup fed shelf place n s o)) ≡ Some m → Anywhere shelf n s o
    by_setup None here = absurd (no_book f texts shelf later bodies place m here)
    by_setup (Some scripts) here = by_test scripts (s == shelf) refl here

-- what bodies tell after what was made of those before them, of which together a book is made of a shelf that does not follow another one's
-- journal: where the record stands that its journal begins with, and what stands after that
pub record Starting (In : Made → Option Record → Type 0) (f : ℕ) (texts : Texts) (shelf gate : ℕ) (all : List (List ℕ)) (x : Making) : Type 0 where
  pub fed : Bool
  pub place : ℕ
  pub first : List ℕ
  pub rest : List (List ℕ)
  pub bytes : AreAllBytes (first ∷ rest)
  pub one : First texts shelf (length first) (read_record_in f first)
  pub begins : begin_in all ≡ first
  pub same : (ls : List Instance) → entries f ls texts shelf gate all x ≡ entries f ls texts shelf (place + 5 + length first) rest (begun (began fed shelf place (length first) one.scripts))
  pub makes : with_bodies_at f texts shelf gate all x ≡ with_bodies_at f texts shelf (place + 5 + length first) rest (begun (began fed shelf place (length first) one.scripts))
  pub own : HoldFrom In f texts shelf gate all x
      → HoldFrom In f texts shelf (place + 5 + length first) rest (begun (began fed shelf place (length first) one.scripts))

-- the record that a journal begins with is none of a role
begins_so : (f : ℕ) (body : List ℕ) (bodies : List (List ℕ)) (on : ℕ) (named : List (List ℕ × List ℕ)) → AreBytes body → read_record_in f body ≡ Some (begins on named) → begin_in (body ∷ bodies) ≡ body
begins_so f body bodies on named small read =
    ap (λ (t : Bool). first_body_of (if t then behind_front bodies else body ∷ bodies)) (role_is f body (begins on named) small read)

module _ (In : Made → Option Record → Type 0) (f : ℕ) (texts : Texts) (shelf : ℕ) (m : Made) (unfed : m.book.follows ≡ false) where
  -- it stands here
  begins_here : (fed : Bool) (gate : ℕ) (body : List ℕ) (bodies : List (List ℕ)) (x : Making) → AreAllBytes (body ∷ bodies) → ((ls : List Instance) → entry_in f ls texts x body ≡ [])
      → with_body_at f texts shelf gate body x ≡ first_by texts fed shelf gate (length body) (read_record_in f body) → made_in (with_bodies_at f texts shelf gate (body ∷ bodies) x) ≡ Some m
      → Starting In f texts shelf gate (body ∷ bodies) x
  begins_here fed gate body bodies x bytes none is makes =
      let later = gate + 5 + length body in
      let one = first_is f texts fed shelf gate (length body) later bodies m (read_record_in f body) (ap (λ (y : Making). made_in (with_bodies_at f texts shelf later bodies y)) (sym is) ∙ makes) in
      let so : with_body_at f texts shelf gate body x ≡ begun (began fed shelf gate (length body) one.scripts) = is ∙ one.is fed gate in
      record {
        fed = fed;
        place = gate;
        first = body;
        rest = bodies;
        bytes = bytes;
        one = one;
        begins = begins_so f body bodies one.on one.named bytes.0 one.read;
        same = λ ls. ap (λ (es : List Entry). es ++ entries f ls texts shelf later bodies (with_body_at f texts shelf gate body x)) (none ls) ∙ ap (λ (y : Making). entries f ls texts shelf later bodies y) so;
        makes = ap (λ (y : Making). with_bodies_at f texts shelf later bodies y) so;
        own = λ held. subst (HoldFrom In f texts shelf later bodies) so held.1;
      }

  -- it stands after this one, which tells of a role
  begins_later : (gate : ℕ) (body : List ℕ) (bodies : List (List ℕ)) (x y : Making) → ((ls : List Instance) → entry_in f ls texts x body ≡ []) → is_role body ≡ true
      → with_body_at f texts shelf gate body x ≡ y → Starting In f texts shelf (gate + 5 + length body) bodies y → Starting In f texts shelf gate (body ∷ bodies) x
  begins_later gate body bodies x y none role is s =
      let later = gate + 5 + length body in
      record {
        fed = s.fed;
        place = s.place;
        first = s.first;
        rest = s.rest;
        bytes = s.bytes;
        one = s.one;
        begins = ap (λ (t : Bool). first_body_of (if t then behind_front bodies else body ∷ bodies)) role ∙ s.begins;
        same = λ ls. ap (λ (es : List Entry). es ++ entries f ls texts shelf later bodies (with_body_at f texts shelf gate body x)) (none ls)
            ∙ (ap (λ (z : Making). entries f ls texts shelf later bodies z) is ∙ s.same ls);
        makes = ap (λ (z : Making). with_bodies_at f texts shelf later bodies z) is ∙ s.makes;
        own = λ held. s.own (subst (HoldFrom In f texts shelf later bodies) is held.1);
      }

  from_waited : (gate : ℕ) (bodies : List (List ℕ)) → AreAllBytes bodies → made_in (with_bodies_at f texts shelf gate bodies waited) ≡ Some m → Starting In f texts shelf gate bodies waited
  from_waited gate [] bytes makes = absurd (let no : ⊥ = cc in no)
  from_waited gate (body ∷ bodies) bytes makes = begins_here false gate body bodies waited bytes (λ ls. refl) refl makes

  from_waits : (s gate : ℕ) (bodies : List (List ℕ)) → AreAllBytes bodies → made_in (with_bodies_at f texts shelf gate bodies (waits s)) ≡ Some m → Starting In f texts shelf gate bodies (waits s)
  from_waits s gate [] bytes makes =
      let at : waiting s ≡ m = cc in
      let no : true ≡ false = ap (λ (y : Made). y.book.follows) at ∙ unfed in
      absurd (let never : ⊥ = cc in never)
  from_waits s gate (body ∷ bodies) bytes makes = by_record (read_record_in f body) refl
    where
      later : ℕ
      later = gate + 5 + length body

      plainly : (r : Option Record) → read_record_in f body ≡ r → fed_by texts shelf gate (length body) r ≡ first_by texts true shelf gate (length body) r → Starting In f texts shelf gate (body ∷ bodies) (waits s)
      plainly r read alike =
          begins_here true gate body bodies (waits s) bytes (λ ls. refl)
          (ap (fed_by texts shelf gate (length body)) read ∙ (alike ∙ sym (ap (first_by texts true shelf gate (length body)) read))) makes

      by_record : (r : Option Record) → read_record_in f body ≡ r → Starting In f texts shelf gate (body ∷ bodies) (waits s)
      by_record (Some promotes) read =
          let is : with_body_at f texts shelf gate body (waits s) ≡ waited = ap (fed_by texts shelf gate (length body)) read in
          begins_later gate body bodies (waits s) waited (λ ls. refl) (role_is f body promotes bytes.0 read) is
          (from_waited (gate + 5 + length body) bodies bytes.1 (ap (λ (y : Making). made_in (with_bodies_at f texts shelf (gate + 5 + length body) bodies y)) (sym is) ∙ makes))
      by_record None read = plainly None read refl
      by_record (Some (begins t named)) read = plainly (Some (begins t named)) read refl
      by_record (Some (changes c state)) read = plainly (Some (changes c state)) read refl
      by_record (Some (renews named)) read = plainly (Some (renews named)) read refl
      by_record (Some (draws number)) read = plainly (Some (draws number)) read refl
      by_record (Some follows) read = plainly (Some follows) read refl

  pub from_start : (gate : ℕ) (bodies : List (List ℕ)) → AreAllBytes bodies → made_in (with_bodies_at f texts shelf gate bodies nothing) ≡ Some m → Starting In f texts shelf gate bodies nothing
  from_start gate [] bytes makes = absurd (let no : ⊥ = cc in no)
  from_start gate (body ∷ bodies) bytes makes = by_record (read_record_in f body) refl
    where
      plainly : (r : Option Record) → read_record_in f body ≡ r → start_by texts shelf gate (length body) r ≡ first_by texts false shelf gate (length body) r → Starting In f texts shelf gate (body ∷ bodies) nothing
      plainly r read alike =
          begins_here false gate body bodies nothing bytes (λ ls. refl)
          (ap (start_by texts shelf gate (length body)) read ∙ (alike ∙ sym (ap (first_by texts false shelf gate (length body)) read))) makes

      by_record : (r : Option Record) → read_record_in f body ≡ r → Starting In f texts shelf gate (body ∷ bodies) nothing
      by_record (Some follows) read =
          let is : with_body_at f texts shelf gate body nothing ≡ waits shelf = ap (start_by texts shelf gate (length body)) read in
          begins_later gate body bodies nothing (waits shelf) (λ ls. refl) (role_is f body follows bytes.0 read) is
          (from_waits shelf (gate + 5 + length body) bodies bytes.1 (ap (λ (y : Making). made_in (with_bodies_at f texts shelf (gate + 5 + length body) bodies y)) (sym is) ∙ makes))
      by_record None read = plainly None read refl
      by_record (Some (begins t named)) read = plainly (Some (begins t named)) read refl
      by_record (Some (changes c state)) read = plainly (Some (changes c state)) read refl
      by_record (Some (renews named)) read = plainly (Some (renews named)) read refl
      by_record (Some (draws number)) read = plainly (Some (draws number)) read refl
      by_record (Some promotes) read = plainly (Some promotes) read refl

-- what stands after the first record, and after one that tells of a compaction
record Second (In : Made → Option Record → Type 0) (f : ℕ) (ls : List Instance) (texts : Texts) (shelf place : ℕ) (bodies : List (List ℕ)) (first e : Made) : Type 0 where
  from : Made
  later : ℕ
  rest : List (List ℕ)
  small : AreAllBytes rest
  is : made_in (with_bodies_at f texts shelf later rest (made from)) ≡ Some e
  same : entries f ls texts shelf place bodies (begun first) ≡ entries f ls texts shelf later rest (made from)
  own : HoldFrom In f texts shelf place bodies (begun first) → HoldFrom In f texts shelf later rest (made from)
  which : (from ≡ first) ⊎ ((number : ℕ) × (from ≡ with_drawn number first))

second_is : (In : Made → Option Record → Type 0) (f : ℕ) (ls : List Instance) (texts : Texts) (shelf place : ℕ) (bodies : List (List ℕ)) (first e : Made) → AreAllBytes bodies
    → made_in (with_bodies_at f texts shelf place bodies (begun first)) ≡ Some e → Second In f ls texts shelf place bodies first e
second_is In f ls texts shelf place [] first e small is =
    record { from = first; later = place; rest = []; small = tt; is = is; same = refl; own = λ o. tt; which = inl refl }
second_is In f ls texts shelf place (body ∷ bodies) first e small is = by_record (read_record_in f body) refl
  where
    plainly : (r : Option Record) → read_record_in f body ≡ r → second_at f texts place (length body) first r ≡ next_at f texts place (length body) first r
        → Second In f ls texts shelf place (body ∷ bodies) first e
    plainly r read alike =
        let one : second_at f texts place (length body) first (read_record_in f body) ≡ next_at f texts place (length body) first (read_record_in f body) =
        ap (second_at f texts place (length body) first) read ∙ (alike ∙ sym (ap (next_at f texts place (length body) first) read)) in
        record {
          from = first;
          later = place;
          rest = body ∷ bodies;
          small = small;
          is = ap (λ (x : Making). made_in (with_bodies_at f texts shelf (place + 5 + length body) bodies x)) (sym one) ∙ is;
          same = ap (λ (x : Making). entry_by f ls texts first body (read_record_in f body) ++ entries f ls texts shelf (place + 5 + length body) bodies x) one;
          own = λ o. (o.0, subst (HoldFrom In f texts shelf (place + 5 + length body) bodies) one o.1);
          which = inl refl;
        }

    by_record : (r : Option Record) → read_record_in f body ≡ r → Second In f ls texts shelf place (body ∷ bodies) first e
    by_record (Some (draws number)) read = record {
      from = with_drawn number first;
      later = place + 5 + length body;
      rest = bodies;
      small = small.1;
      is = ap (λ (r : Option Record). made_in (with_bodies_at f texts shelf (place + 5 + length body) bodies (second_at f texts place (length body) first r))) (sym read) ∙ is;
      same = ap (λ (r : Option Record). entry_by f ls texts first body r ++ entries f ls texts shelf (place + 5 + length body) bodies (second_at f texts place (length body) first r)) read;
      own = λ o. subst (λ (r : Option Record). HoldFrom In f texts shelf (place + 5 + length body) bodies (second_at f texts place (length body) first r)) read o.1;
      which = inr (number, refl);
    }
    by_record None read = plainly None read refl
    by_record (Some (begins s named)) read = plainly (Some (begins s named)) read refl
    by_record (Some (changes c state)) read = plainly (Some (changes c state)) read refl
    by_record (Some (renews named)) read = plainly (Some (renews named)) read refl
    by_record (Some follows) read = plainly (Some follows) read refl
    by_record (Some promotes) read = plainly (Some promotes) read refl

-- the copies begin beside them
first_beside : (ls : List Instance) (fed : Bool) (shelf place n number : ℕ) (scripts : List Named) → Beside ls (began fed shelf place n scripts) (with_drawn number (began false shelf 8 n scripts))
first_beside ls fed shelf place n number scripts = record {
  shelf = refl;
  scripts = refl;
  clock = refl;
  instances = refl;
  seen = λ i there. there;
  states = λ j i k p found shown. absurd (let no : ⊥ = cc in no);
  first = refl;
  head = refl;
}

drawn_beside : (ls : List Instance) (fed : Bool) (shelf place n before number : ℕ) (scripts : List Named)
    → Beside ls (with_drawn before (began fed shelf place n scripts)) (with_drawn number (began false shelf 8 n scripts))
drawn_beside ls fed shelf place n before number scripts = record {
  shelf = refl;
  scripts = refl;
  clock = refl;
  instances = refl;
  seen = λ i there. there;
  states = λ j i k p found shown. absurd (let no : ⊥ = cc in no);
  first = refl;
  head = refl;
}

began_orderly : (fed : Bool) (shelf place n : ℕ) (scripts : List Named) → IsOrderlyMade (plain (began fed shelf place n scripts))
began_orderly fed shelf place n scripts =
    filed_orderly fed (place + 6 + n) (beside nothing_told (first_of shelf (first_file (14 + n) scripts))) (first_orderly shelf (first_file (14 + n) scripts))

drawn_orderly : (fed : Bool) (shelf place n number : ℕ) (scripts : List Named) → IsOrderlyMade (plain (with_drawn number (began fed shelf place n scripts)))
drawn_orderly fed shelf place n number scripts =
    let f : File = record (first_file (14 + n) scripts) { drawn = Some number } in
    filed_orderly fed (place + 6 + n + 14) (beside nothing_told (first_of shelf f)) (first_orderly shelf f)

-- ---- what copies make

module _ (P : Made → Option Record → Type 0) (same owned : Type 0) (sure : List ℕ → Type 0) (texts : Texts) (shelf n : ℕ) (scripts : List Named) (m : Made) (es : List Entry) (again : m.book ≡ reopened m.book) where
  abbrev start : Made
  start = with_drawn m.book.logged (began false shelf 8 n scripts)

  abbrev is : List Instance
  is = m.book.instances

  -- the book after the copies is the one that was compacted, but for its length and its file
  made_again : Walked P same owned sure is texts m es start → let k = entries_after (entries_joined es) start in
      (size : ℕ) (file : File) → k.book.length ≡ size → k.book.file ≡ file → k.book ≡ record m.book { length = size; file = file; follows = false }
  made_again w size file size_is file_is =
      let mid = entries_after es start in
      let ts = entries_joined es in
      let k = entries_after ts start in
      let joined = join_entries es start w.taken in
      let like = joined.1.like in
      let h = w.at_end in
      let whole : mid.book.instances ≡ is = h.instances ∙ all_live is is (λ i e. e) in
      let logged : k.book.logged ≡ m.book.logged = logged_of_entries sure texts m.book.logged ts start joined.0 (facts_joined sure texts m.book.logged es w.facts) refl in
      let unfed : k.book.follows ≡ false = follows_of_entries ts start joined.0 in
      let after : k.book ≡ reopened k.book = (entries_orderly ts start (drawn_orderly false shelf 8 n m.book.logged scripts)).again in
      let parts = parts_same k.book m.book size file (like.shelf ∙ h.shelf) (like.scripts ∙ h.scripts) (like.clock ∙ h.clock) logged size_is file_is (like.instances ∙ whole) in
      after ∙ (unfollowed k.book unfed ∙ (parts ∙ ap (λ (y : Book). record y { length = size; file = file; follows = false }) (sym again)))

  same_states : Walked P same owned sure is texts m es start → SameStates is m.earlier (entries_after (entries_joined es) start).earlier
  same_states w =
      let mid = entries_after es start in
      let joined = join_entries es start w.taken in
      let whole : mid.book.instances ≡ is = w.at_end.instances ∙ all_live is is (λ i e. e) in
      subst (λ (e : Earlier). SameStates is m.earlier e) (sym joined.1.earlier) (subst (λ (js : List Instance). SameStates js m.earlier mid.earlier) whole w.at_end.states)

  pub compacted : Walked P same owned sure is texts m es start → IsMigrated m (entries_after (entries_joined es) start) × (same → IsCompacted m (entries_after (entries_joined es) start))
  compacted w =
      let mid = entries_after es start in
      let ts = entries_joined es in
      let k = entries_after ts start in
      let joined = join_entries es start w.taken in
      let g = compaction m.book in
      let mid_file = file_of_entries es start w.taken in
      let k_file = file_of_entries ts start joined.0 in
      let first : start.book.file.scripts ≡ m.book.file.scripts = ap (λ (f : File). f.scripts) (sym mid_file) ∙ w.at_end.first in
      let head : start.book.file.head ≡ m.book.file.head = ap (λ (f : File). f.head) (sym mid_file) ∙ w.at_end.head in (
        record {
          book = made_again w k.book.length k.book.file refl refl;
          first = ap (λ (f : File). f.scripts) k_file ∙ first;
          drawn = ap (λ (f : File). f.drawn) k_file;
          states = same_states w;
        },
        λ (p : same).
            let lines : map line_of ts ≡ g.lines = lines_joined es ∙ ap last_sweeps (ap (λ (f : File). f.lines) (sym mid_file) ∙ w.lines p) in
            let file : k.book.file ≡ g = k_file ∙ (λ i. record { scripts = first i; head = head i; drawn = Some m.book.logged; lines = lines i }) in
            let size : k.book.length ≡ file_length g = length_of_entries ts start joined.0 ∙ (λ i. (head i + 14) + lines_length (lines i)) in
            record { book = made_again w (file_length g) g size file; states = same_states w },
      )

  pub copied : AreRecordsExact → m.book.logged < numbers_end + 1 → (first : List ℕ) → with_body texts shelf 8 first nothing ≡ begun (began false shelf 8 n scripts)
      → Walked P same owned sure is texts m es start → AreSure sure (map body_in (entries_joined es))
      → made_in (book_of texts shelf (first ∷ (body_of (draws m.book.logged) ∷ map body_in (entries_joined es)))) ≡ Some (entries_after (entries_joined es) start)
  copied x low first at_first w all =
      let d = body_of (draws m.book.logged) in
      let p = 8 + 5 + length first in
      let rest = map body_in (entries_joined es) in
      let facts = facts_joined sure texts m.book.logged es w.facts in
      ap (λ (y : Making). made_in (with_bodies texts shelf p (d ∷ rest) y)) at_first
      ∙ (ap (λ (r : Option Record). made_in (with_bodies texts shelf (p + 5 + length d) rest (second_by texts p (length d) (began false shelf 8 n scripts) r))) (x.back (draws m.book.logged) low)
      ∙ ap made_in (bodies_made sure texts m.book.logged shelf (p + 5 + length d) (entries_joined es) start (join_entries es start w.taken).0 facts all))

  -- what holds of each entry that is left holds of each body of the file
  pub each_copied : AreRecordsExact → m.book.logged < numbers_end + 1 → (first : List ℕ) → with_body texts shelf 8 first nothing ≡ begun (began false shelf 8 n scripts)
      → Walked P same owned sure is texts m es start → AreSure sure (map body_in (entries_joined es))
      → (Q : Made → Option Record → Type 0) → ((k : Made) (number : ℕ) → Q k (Some (draws number))) → HoldEntries Q (entries_joined es) start
      → OfEach Q texts shelf (first ∷ (body_of (draws m.book.logged) ∷ map body_in (entries_joined es)))
  each_copied x low first at_first w all Q drawn held =
      let d = body_of (draws m.book.logged) in
      let p = 8 + 5 + length first in
      let later = p + 5 + length d in
      let rest = map body_in (entries_joined es) in
      let back = x.back (draws m.book.logged) low in
      let behind : with_body texts shelf p d (with_body texts shelf 8 first nothing) ≡ made start =
      ap (with_body texts shelf p d) at_first ∙ ap (second_by texts p (length d) (began false shelf 8 n scripts)) back in
      let facts = facts_joined sure texts m.book.logged es w.facts in
      of_each Q texts shelf (first ∷ (d ∷ rest)) (
        λ k none. absurd (let no : ⊥ = cc in no),
        (
          λ k is. subst (Q k) (sym back) (drawn k m.book.logged),
          subst (EachFrom Q texts shelf later rest) (sym behind)
              (each_made Q texts shelf sure m.book.logged later (entries_joined es) start (join_entries es start w.taken).0 facts all held),
        ),
      )

-- the number that a compacted file tells is written in bytes
cons_small : (b : ℕ) (bytes : List ℕ) → b < 256 → AreBytes bytes → AreBytes (b ∷ bytes)
cons_small b bytes low small zero = low
cons_small b bytes low small (suc i) = small i

byte_small : (i n : ℕ) → byte_at i n < 256
byte_small zero n = omega arith
byte_small (suc i) n = omega arith

low_first_small : (i count n : ℕ) → AreBytes (bytes_low_first i count n)
low_first_small i zero n = λ k. omega arith
low_first_small i (suc count) n = cons_small (byte_at i n) (bytes_low_first (suc i) count n) (byte_small i n) (low_first_small (suc i) count n)

drawn_small : (n : ℕ) → AreBytes (body_of (draws n))
drawn_small n = cons_small 7 (u64_bytes n) (omega arith) (low_first_small 0 8 n)

-- what is asked of what the first records make
pub record Starts (shelf : ℕ) (scripts : List Named) (Has : Made → Type 0) : Type 0 where
  pub begins : (fed : Bool) (place n : ℕ) → Has (began fed shelf place n scripts)
  pub drawn : (fed : Bool) (place n number : ℕ) → Has (with_drawn number (began fed shelf place n scripts))

-- it holds of the first records after which bodies of this format make the book
abbrev pub AtStart : (f : ℕ) → Texts → (shelf : ℕ) → (e : Made) → (Has : Made → Type 0) → Type 0
AtStart f texts shelf e Has =
    (from : Made) (later : ℕ) (rest : List (List ℕ)) → AreAllBytes rest → made_in (with_bodies_at f texts shelf later rest (made from)) ≡ Some e → Starts shelf from.book.scripts Has

-- What the bodies of a file of this format that stay make: its book again. A fact holds of them where one does of those of the file, none is passed
-- over, they tell of no other number, and those that are copied are bytes.
pub record Rewritten (In P : Made → Option Record → Type 0) (f : ℕ) (same : Type 0) (texts : Texts) (shelf : ℕ) (bodies : List (List ℕ)) (m : Made) : Type 0 where
  pub k : Made
  pub makes : made_in (book_of texts shelf (copies f texts shelf bodies m)) ≡ Some k
  pub migrated : IsMigrated m k
  pub compacted : same → IsCompacted m k
  pub held : HoldIn In f texts shelf bodies → OfEach P texts shelf (copies f texts shelf bodies m)
  pub landed : AreLanded texts shelf (copies f texts shelf bodies m)
  pub seen : (i : ℕ) → Among i k.earlier.seen → Among i m.earlier.seen
  pub small : same → AreAllBytes (copies f texts shelf bodies m)

-- so it is of those of whose records this holds, for each fact that is carried to copies
pub rewritten : AreRecordsExact → (In P : Made → Option Record → Type 0) → IsJoined P → (f : ℕ) (same : Type 0) (sure : List ℕ → Type 0) (texts : Texts) (shelf : ℕ) (bodies : List (List ℕ)) (m : Made) (Has : Made → Type 0)
    → IsCarried f m.book.instances In P → Rewrites f same sure m.book.instances texts m Has → AtStart f texts shelf m Has
    → AreAllBytes bodies → made_in (book_of_format f texts shelf bodies) ≡ Some m → m.book.follows ≡ false
    → ((first d : List ℕ) (rest : List (List ℕ)) → copies f texts shelf bodies m ≡ first ∷ (d ∷ rest) → AreSure sure rest)
    → Rewritten In P f same texts shelf bodies m
rewritten x In P j f same sure texts shelf bodies m Has carried r starts bytes makes unfed all =
    let fits = any_fit x f texts shelf bodies m makes in
    let is = m.book.instances in
    let here = from_start In f texts shelf m unfed 8 bodies bytes makes in
    let fed = here.fed in
    let place = here.place in
    let first = here.first in
    let one = here.one in
    let n = length first in
    let scripts = one.scripts in
    let m0 = began fed shelf place n scripts in
    let two = second_is In f is texts shelf (place + 5 + n) here.rest m0 m here.bytes.1 (ap made_in (sym here.makes) ∙ makes) in
    let start = with_drawn m.book.logged (began false shelf 8 n scripts) in
    let es = entries f is texts shelf two.later two.rest (made two.from) in
    let setup : two.from.book.scripts ≡ scripts = ⊎_elim
    (λ alike. ap (λ (y : Made). y.book.scripts) alike)
    (λ (number, alike). ap (λ (y : Made). y.book.scripts) alike)
    two.which in
    let started = subst (λ (ss : List Named). Starts shelf ss Has) setup (starts two.from two.later two.rest two.small two.is) in
    let beside : Beside is two.from start = ⊎_elim
    (λ alike. subst (λ (y : Made). Beside is y start) (sym alike) (first_beside is fed shelf place n m.book.logged scripts))
    (λ (number, alike). subst (λ (y : Made). Beside is y start) (sym alike) (drawn_beside is fed shelf place n number m.book.logged scripts))
    two.which in
    let lines : HasLines is two.from start = ⊎_elim
    (λ alike. subst (λ (y : Made). HasLines is y start) (sym alike) refl)
    (λ (number, alike). subst (λ (y : Made). HasLines is y start) (sym alike) refl)
    two.which in
    let orderly : IsOrderlyMade (plain two.from) = ⊎_elim
    (λ alike. subst (λ (y : Made). IsOrderlyMade (plain y)) (sym alike) (began_orderly fed shelf place n scripts))
    (λ (number, alike). subst (λ (y : Made). IsOrderlyMade (plain y)) (sym alike) (drawn_orderly fed shelf place n number scripts))
    two.which in
    let has : Has two.from = ⊎_elim (λ alike. subst Has (sym alike) (started.begins fed place n)) (λ (number, alike). subst Has (sym alike) (started.drawn fed place n number)) two.which in
    let owned : Type 0 = HoldFrom In f texts shelf two.later two.rest (made two.from) in
    let w : Walked P same owned sure is texts m es start =
    walk f same sure is texts m Has r In P carried (λ i none. none_there i is none) shelf two.later two.rest two.from start two.small orderly has (drawn_orderly false shelf 8 n m.book.logged scripts) beside (λ p. lines) two.is in
    let low : m.book.logged < numbers_end + 1 = (let few = (fits.range bytes).drawn in let again : m.book.drawn ≡ m.book.logged = ap (λ (b : Book). b.drawn) fits.again in omega (arith, few, again)) in
    let alike : entries f is texts shelf 8 bodies nothing ≡ es = here.same is ∙ two.same in
    let others : copies f texts shelf bodies m ≡ first ∷ (body_of (draws m.book.logged) ∷ map body_in (entries_joined es)) =
    (λ i. here.begins i ∷ (body_of (draws m.book.logged) ∷ map body_in (entries_joined (alike i)))) in
    let now : with_body texts shelf 8 first nothing ≡ begun (began false shelf 8 n scripts) =
    ap (start_by texts shelf 8 n) (alike_now x f first (begins one.on one.named) here.bytes.0 tt one.read)
    ∙ (ap (first_by texts false shelf 8 n) (sym one.read) ∙ one.is false 8) in
    let ts = entries_joined es in
    let joined = join_entries es start w.taken in
    let may = all first (body_of (draws m.book.logged)) (map body_in ts) others in
    let whole = compacted P same owned sure texts shelf n scripts m es fits.again w in
    let its_own : HoldIn In f texts shelf bodies → owned =
    λ held. two.own (here.own (held_from In f texts shelf bodies held [] bodies 8 nothing refl (λ bs. refl))) in
    record {
      k = entries_after ts start;
      makes = ap (λ (bs : List (List ℕ)). made_in (book_of texts shelf bs)) others ∙ copied P same owned sure texts shelf n scripts m es fits.again x low first now w may;
      migrated = whole.0;
      compacted = whole.1;
      held = λ held.
          subst (OfEach P texts shelf) (sym others)
          (each_copied P same owned sure texts shelf n scripts m es fits.again x low first now w may P j.drawn (held_joined P j es start w.taken (w.own (its_own held))));
      landed =
          subst (AreLanded texts shelf) (sym others)
          (each_copied P same owned sure texts shelf n scripts m es fits.again x low first now w may IsLandedRecord (λ y number. tt) (landed_entries ts start joined.0));
      seen = λ i there. w.at_end.seen i (subst (λ (e : Earlier). Among i e.seen) joined.1.earlier there);
      small = λ p. subst AreAllBytes (sym others) (here.bytes.0, (drawn_small m.book.logged, small_joined es (w.small p)));
    }
