-- Of which shelf the book is that a record makes.
use Rattle.std.proofs.Common.{◌≡◌, ◌∙◌, ap, sym, subst, ℕ, ◌+◌, ◌==◌, Bool, true, false, List, ◌∷◌, length, Option, Some, None, refl, inl, inr, if◌then◌else◌}
use Rattle.std.specs.Prelude.{⊤}
use Rattle.script_nodes.specs.Setup.{Named}
use Rattle.replay_spec.specs.Book.{Change}
use Rattle.book_recovery.specs.InstanceBook.declared.in_order.InOrder.{InOrder}
use Rattle.journal_records.specs.Records.{Record, begins, changes, renews, draws, follows, promotes}
use Rattle.journal_records.specs.Old.{read_record_in}
use Rattle.setup_reader.specs.Texts.{setup_of_texts}
use Rattle.book_recovery.specs.JournalSpec.Before.{Made}
use Rattle.book_recovery.specs.JournalSpec.Retaking.{Told, unread, misread, told}
use Rattle.book_recovery.specs.JournalSpec.Making.{Making, nothing, waits, waited, begun, made, damaged, other, has_script, told_next, next_setup, promoted_by, began, first_setup, first_by, start_by, fed_by}
use Rattle.book_recovery.specs.JournalSpec.Old.{change_next, next_at, second_at, with_body_at}
use Rattle.record_audit.specs.AuditSpec.Findings.{shelf_by, shelf_in}
use Rattle.book_recovery.specs.declared.found.Found.{Found}
use Rattle.book_recovery.specs.declared.found.Found.TheVariants as found
use Rattle.book_recovery.specs.declared.reader.Reader.{Reader}
use Rattle.book_recovery.specs.Reading.{with_shelf, making_of, IsBefore, Gives, GivesWith, IsTaken}
use Rattle.book_recovery.proofs.Took.{one_given}
use Rattle.page_audit.specs.Auditing.{shelf_named, named_by, reader_for, IsShelfOf}

-- ---- a record that names no shelf makes the same for each

-- nothing was made of a setup, and the record names no shelf; or the records are damaged
abbrev CanMove : Making → Option Record → Type 0
CanMove (begun k) r = ⊥
CanMove (made k) r = ⊥
CanMove (damaged place) r = ⊤
CanMove (other place) r = ⊤
CanMove m r = shelf_named r ≡ None

-- what records of no setup make for the shelf of this number
abbrev moved : ℕ → Making → Making
moved t (waits s) = waits t
moved t m = m

abbrev HasNoSetup : Making → Type 0
HasNoSetup (begun k) = ⊥
HasNoSetup (made k) = ⊥
HasNoSetup m = ⊤

setup_is : (alone : Bool) (w : Made) (m : Making) → m ≡ making_of alone w → HasNoSetup m → ⊥
setup_is true w m e none = subst HasNoSetup e none
setup_is false w m e none = subst HasNoSetup e none

can_move : (m : Making) (r : Option Record) → CanMove m r → HasNoSetup m
can_move nothing r h = tt
can_move waited r h = tt
can_move (waits s) r h = tt
can_move (begun k) r h = absurd h
can_move (made k) r h = absurd h
can_move (damaged place) r h = tt
can_move (other place) r h = tt

gives_moved : (s t n : ℕ) (fed alone : Bool) (f : Found) (seen : InOrder (Unit {0})) (m : Making) → HasNoSetup m → Gives s n fed alone f seen m → Gives t n fed alone f seen (moved t m)
gives_moved s t n fed alone found.Nothing seen m none is = record { before = before_moved fed is.before; none = is.none }
  where
    before_moved : (fed : Bool) → IsBefore fed s n m → IsBefore fed t n (moved t m)
    before_moved true (e, long) = (ap (moved t) e, long)
    before_moved false (inl (e, long)) = inl (ap (moved t) e, long)
    before_moved false (inr (e, long)) = inr (ap (moved t) e, long)
gives_moved s t n fed alone (found.Made b library) seen m none is = absurd (setup_is alone is.whole m is.is none)
gives_moved s t n fed alone (found.Damaged place) seen m none is = ap (moved t) is
gives_moved s t n fed alone (found.Other place) seen m none is = ap (moved t) is
gives_moved s t n fed alone found.Memory seen m none is = tt

module _ (format place : ℕ) (body : List ℕ) (s t : ℕ) where
  -- what a record makes that names no shelf
  record Apart (now then_ : Making) : Type 0 where
    pub same : moved t now ≡ then_
    pub none : HasNoSetup now

  apart_damaged : (place : ℕ) → Apart (damaged place) (damaged place)
  apart_damaged place = record { same = refl; none = tt }

  first_apart : (fed : Bool) (r : Option Record) → shelf_named r ≡ None → Apart (first_by setup_of_texts fed s place (length body) r) (first_by setup_of_texts fed t place (length body) r)
  first_apart fed None e = apart_damaged place
  first_apart fed (Some (begins k named)) e = absurd (let no : ⊥ = cc in no)
  first_apart fed (Some (changes c state)) e = apart_damaged place
  first_apart fed (Some (renews named)) e = apart_damaged place
  first_apart fed (Some (draws number)) e = apart_damaged place
  first_apart fed (Some follows) e = apart_damaged place
  first_apart fed (Some promotes) e = apart_damaged place

  start_apart : (r : Option Record) → shelf_named r ≡ None → Apart (start_by setup_of_texts s place (length body) r) (start_by setup_of_texts t place (length body) r)
  start_apart (Some follows) e = record { same = refl; none = tt }
  start_apart None e = apart_damaged place
  start_apart (Some (begins k named)) e = absurd (let no : ⊥ = cc in no)
  start_apart (Some (changes c state)) e = apart_damaged place
  start_apart (Some (renews named)) e = apart_damaged place
  start_apart (Some (draws number)) e = apart_damaged place
  start_apart (Some promotes) e = apart_damaged place

  fed_apart : (r : Option Record) → shelf_named r ≡ None → Apart (fed_by setup_of_texts s place (length body) r) (fed_by setup_of_texts t place (length body) r)
  fed_apart (Some promotes) e = record { same = refl; none = tt }
  fed_apart None e = apart_damaged place
  fed_apart (Some (begins k named)) e = absurd (let no : ⊥ = cc in no)
  fed_apart (Some (changes c state)) e = apart_damaged place
  fed_apart (Some (renews named)) e = apart_damaged place
  fed_apart (Some (draws number)) e = apart_damaged place
  fed_apart (Some follows) e = apart_damaged place

  next_apart : (m : Making) → CanMove m (read_record_in format body)
      → Apart (with_body_at format setup_of_texts s place body (moved s m)) (with_body_at format setup_of_texts t place body m)
  next_apart nothing h = start_apart (read_record_in format body) h
  next_apart (waits k) h = fed_apart (read_record_in format body) h
  next_apart waited h = first_apart false (read_record_in format body) h
  next_apart (begun k) h = absurd h
  next_apart (made k) h = absurd h
  next_apart (damaged p) h = record { same = refl; none = tt }
  next_apart (other p) h = record { same = refl; none = tt }

-- for whichever shelf a reader takes it
gives_apart : (format place : ℕ) (body : List ℕ) (s t : ℕ) (old new : Reader) (m : Making) → CanMove m (read_record_in format body)
    → GivesWith format s place body old.follows old.alone old.found new.follows new.alone new.found old.seen new.seen → Gives t (place + 1) old.follows old.alone old.found old.seen m
    → Gives t (place + 5 + length body + 1) new.follows new.alone new.found new.seen (with_body_at format setup_of_texts t place body m)
gives_apart format place body s t old new m can gives is =
    let now = with_body_at format setup_of_texts s place body (moved s m) in
    let apart = next_apart format place body s t m can in
    let here = gives (moved s m) (gives_moved t s (place + 1) old.follows old.alone old.found old.seen m (can_move m (read_record_in format body) can) is) in
    subst (Gives t (place + 5 + length body + 1) new.follows new.alone new.found new.seen) apart.same
    (gives_moved s t (place + 5 + length body + 1) new.follows new.alone new.found new.seen now apart.none here)

-- ---- the shelf that a record names

by_named : (r : Option Record) (n s : ℕ) → shelf_named r ≡ Some s → shelf_by r n ≡ s
by_named None n s e = absurd (let no : ⊥ = cc in no)
by_named (Some (begins k named)) n s e = let same : k ≡ s = cc in same
by_named (Some (changes c state)) n s e = absurd (let no : ⊥ = cc in no)
by_named (Some (renews named)) n s e = absurd (let no : ⊥ = cc in no)
by_named (Some (draws number)) n s e = absurd (let no : ⊥ = cc in no)
by_named (Some follows) n s e = absurd (let no : ⊥ = cc in no)
by_named (Some promotes) n s e = absurd (let no : ⊥ = cc in no)

-- a fact of what a record of a setup makes
if_begun : (format : ℕ) (behind : List (List ℕ)) (reads shelf place : ℕ) (m : Made) (so : Bool) → reads ≡ shelf → IsShelfOf (if so then begun m else other place) format behind reads shelf
if_begun format behind reads shelf place m true e = e
if_begun format behind reads shelf place m false e = tt

if_told : (format : ℕ) (behind : List (List ℕ)) (reads shelf place n : ℕ) (m : Made) (c : Change) (x : Told) → reads ≡ shelf → IsShelfOf (told_next place n m c x) format behind reads shelf
if_told format behind reads shelf place n m c unread e = e
if_told format behind reads shelf place n m c misread e = tt
if_told format behind reads shelf place n m c (told d) e = e

if_made : (format : ℕ) (behind : List (List ℕ)) (reads shelf : ℕ) (k : Made) (x : Making) (so : Bool) → reads ≡ shelf → IsShelfOf x format behind reads shelf
    → IsShelfOf (if so then made k else x) format behind reads shelf
if_made format behind reads shelf k x true e h = e
if_made format behind reads shelf k x false e h = h

if_there : (format : ℕ) (behind : List (List ℕ)) (reads shelf place : ℕ) (x : Making) (so : Bool) → IsShelfOf x format behind reads shelf
    → IsShelfOf (if so then x else damaged place) format behind reads shelf
if_there format behind reads shelf place x true h = h
if_there format behind reads shelf place x false h = tt

if_next : (format : ℕ) (behind : List (List ℕ)) (reads shelf place n : ℕ) (m : Made) (o : Option (List Named)) → reads ≡ shelf → IsShelfOf (next_setup place n m o) format behind reads shelf
if_next format behind reads shelf place n m None e = tt
if_next format behind reads shelf place n m (Some scripts) e = e

if_fed : (format : ℕ) (behind : List (List ℕ)) (reads shelf place n : ℕ) (m : Made) (fed : Bool) → reads ≡ shelf → IsShelfOf (promoted_by place n m fed) format behind reads shelf
if_fed format behind reads shelf place n m true e = e
if_fed format behind reads shelf place n m false e = tt

module _ (format place n : ℕ) (behind : List (List ℕ)) (reads shelf : ℕ) where
  first_shelf : (fed : Bool) (r : Option Record) → ((s : ℕ) → shelf_named r ≡ Some s → reads ≡ shelf) → IsShelfOf (first_by setup_of_texts fed shelf place n r) format behind reads shelf
  first_shelf fed None h = tt
  first_shelf fed (Some (begins s named)) h = by_texts (setup_of_texts named)
    where
      by_texts : (o : Option (List Named)) → IsShelfOf (first_setup fed shelf place n s o) format behind reads shelf
      by_texts None = tt
      by_texts (Some scripts) = if_begun format behind reads shelf place (began fed shelf place n scripts) (s == shelf) (h s refl)
  first_shelf fed (Some (changes c state)) h = tt
  first_shelf fed (Some (renews named)) h = tt
  first_shelf fed (Some (draws number)) h = tt
  first_shelf fed (Some follows) h = tt
  first_shelf fed (Some promotes) h = tt

  start_shelf : (r : Option Record) → shelf ≡ shelf_by r (shelf_in format behind) → ((s : ℕ) → shelf_named r ≡ Some s → reads ≡ shelf)
      → IsShelfOf (start_by setup_of_texts shelf place n r) format behind reads shelf
  start_shelf (Some follows) e h = e
  start_shelf None e h = tt
  start_shelf (Some (begins s named)) e h = first_shelf false (Some (begins s named)) h
  start_shelf (Some (changes c state)) e h = tt
  start_shelf (Some (renews named)) e h = tt
  start_shelf (Some (draws number)) e h = tt
  start_shelf (Some promotes) e h = tt

  fed_shelf : (r : Option Record) → shelf ≡ shelf_by r (shelf_in format behind) → ((s : ℕ) → shelf_named r ≡ Some s → reads ≡ shelf)
      → IsShelfOf (fed_by setup_of_texts shelf place n r) format behind reads shelf
  fed_shelf (Some promotes) e h = e
  fed_shelf None e h = tt
  fed_shelf (Some (begins s named)) e h = first_shelf true (Some (begins s named)) h
  fed_shelf (Some (changes c state)) e h = tt
  fed_shelf (Some (renews named)) e h = tt
  fed_shelf (Some (draws number)) e h = tt
  fed_shelf (Some follows) e h = tt

  later_shelf : (m : Made) (r : Option Record) → reads ≡ shelf → IsShelfOf (next_at format setup_of_texts place n m r) format behind reads shelf
  later_shelf m None e = tt
  later_shelf m (Some (begins s named)) e = tt
  later_shelf m (Some (changes c state)) e =
      if_there format behind reads shelf place (change_next format place n m c state) (has_script (length m.book.scripts) c)
      (if_made format behind reads shelf _ _ (format == 1) e (if_told format behind reads shelf place n m c _ e))
  later_shelf m (Some (renews named)) e = if_next format behind reads shelf place n m (setup_of_texts named) e
  later_shelf m (Some (draws number)) e = tt
  later_shelf m (Some follows) e = tt
  later_shelf m (Some promotes) e = if_fed format behind reads shelf place n m m.book.follows e

  second_shelf : (m : Made) (r : Option Record) → reads ≡ shelf → IsShelfOf (second_at format setup_of_texts place n m r) format behind reads shelf
  second_shelf m (Some (draws number)) e = e
  second_shelf m None e = tt
  second_shelf m (Some (begins s named)) e = tt
  second_shelf m (Some (changes c state)) e = later_shelf m (Some (changes c state)) e
  second_shelf m (Some (renews named)) e = later_shelf m (Some (renews named)) e
  second_shelf m (Some follows) e = tt
  second_shelf m (Some promotes) e = later_shelf m (Some promotes) e

-- ---- one record more

module _ (format shelf place : ℕ) (body : List ℕ) (behind : List (List ℕ)) (old new : Reader) (m : Making) (its : old.format ≡ format)
    (taken : IsTaken (reader_for (read_record_in format body) old.found old) place body new) (memory : old.found ≡ found.Memory → ⊥)
    (of_shelf : IsShelfOf m format (body ∷ behind) old.shelf shelf) (gives : Gives shelf (place + 1) old.follows old.alone old.found old.seen m) where
  -- what is known after one record more
  pub record Next : Type 0 where
    pub shelf_is : IsShelfOf (with_body_at format setup_of_texts shelf place body m) format behind new.shelf shelf
    pub goes : Gives shelf (place + 5 + length body + 1) new.follows new.alone new.found new.seen (with_body_at format setup_of_texts shelf place body m)

  taken_with : (f : Found) → old.found ≡ f → IsTaken (reader_for (read_record_in format body) f old) place body new
  taken_with f e = subst (λ (g : Found). IsTaken (reader_for (read_record_in format body) g old) place body new) e taken

  gives_with : (f : Found) → old.found ≡ f → Gives shelf (place + 1) old.follows old.alone f old.seen m
  gives_with f e = subst (λ (g : Found). Gives shelf (place + 1) old.follows old.alone g old.seen m) e gives

  -- as a reader for the shelf itself
  same_gives : (now : Reader) → now.shelf ≡ shelf → now.format ≡ old.format → IsTaken now place body new → Gives shelf (place + 1) now.follows now.alone now.found now.seen m
      → Gives shelf (place + 5 + length body + 1) new.follows new.alone new.found new.seen (with_body_at format setup_of_texts shelf place body m)
  same_gives now is same t g = one_given format shelf place body now new is (same ∙ its) t m g

  -- or for whichever
  any_gives : CanMove m (read_record_in format body) → IsTaken old place body new
      → Gives shelf (place + 5 + length body + 1) new.follows new.alone new.found new.seen (with_body_at format setup_of_texts shelf place body m)
  any_gives can t =
      gives_apart format place body old.shelf shelf old new m can
      (subst (λ (k : ℕ). GivesWith k old.shelf place body old.follows old.alone old.found new.follows new.alone new.found old.seen new.seen) its t.gives) gives

  -- after a book
  behind_made : (alone : Bool) (w : Made) → m ≡ making_of alone w → IsTaken old place body new → Next
  behind_made true w e t =
      let is : old.shelf ≡ shelf = subst (λ (x : Making). IsShelfOf x format (body ∷ behind) old.shelf shelf) e of_shelf in
      record {
        shelf_is =
            subst (λ (x : Making). IsShelfOf (with_body_at format setup_of_texts shelf place body x) format behind new.shelf shelf) (sym e)
            (second_shelf format place (length body) behind new.shelf shelf w (read_record_in format body) (t.shelf ∙ is));
        goes = same_gives old is refl t gives;
      }
  behind_made false w e t =
      let is : old.shelf ≡ shelf = subst (λ (x : Making). IsShelfOf x format (body ∷ behind) old.shelf shelf) e of_shelf in
      record {
        shelf_is =
            subst (λ (x : Making). IsShelfOf (with_body_at format setup_of_texts shelf place body x) format behind new.shelf shelf) (sym e)
            (later_shelf format place (length body) behind new.shelf shelf w (read_record_in format body) (t.shelf ∙ is));
        goes = same_gives old is refl t gives;
      }

  -- after damage
  behind_damage : (x : Making) → m ≡ x → CanMove x (read_record_in format body) → ((reads : ℕ) → IsShelfOf (with_body_at format setup_of_texts shelf place body x) format behind reads shelf) → IsTaken old place body new → Next
  behind_damage x e can there t = record {
    shelf_is = subst (λ (y : Making). IsShelfOf (with_body_at format setup_of_texts shelf place body y) format behind new.shelf shelf) (sym e) (there new.shelf);
    goes = any_gives (subst (λ (y : Making). CanMove y (read_record_in format body)) (sym e) can) t;
  }

  -- before the record of a setup
  module _ (shelf_so : shelf ≡ shelf_by (read_record_in format body) (shelf_in format behind)) (free : shelf_named (read_record_in format body) ≡ None → CanMove m (read_record_in format body))
      (there : (reads : ℕ) → ((s : ℕ) → shelf_named (read_record_in format body) ≡ Some s → reads ≡ shelf) → IsShelfOf (with_body_at format setup_of_texts shelf place body m) format behind reads shelf) where
    by_name : (o : Option ℕ) → shelf_named (read_record_in format body) ≡ o → IsTaken (named_by o old) place body new → Next
    by_name None e t = record { shelf_is = there new.shelf (λ s is. absurd (let no : ⊥ = cc in no)); goes = any_gives (free e) t }
    by_name (Some s) e t =
        let is : s ≡ shelf = sym (shelf_so ∙ by_named (read_record_in format body) (shelf_in format behind) s e) in
        record {
          shelf_is = there new.shelf (λ k named. t.shelf ∙ is);
          goes = same_gives (with_shelf s old) is refl t gives;
        }

  before_setup : (fed : Bool) → IsBefore fed shelf (place + 1) m → IsTaken (named_by (shelf_named (read_record_in format body)) old) place body new → Next
  before_setup true (e, long) t =
      let so : shelf ≡ shelf_by (read_record_in format body) (shelf_in format behind) = subst (λ (x : Making). IsShelfOf x format (body ∷ behind) old.shelf shelf) e of_shelf in
      by_name so (λ none. subst (λ (x : Making). CanMove x (read_record_in format body)) (sym e) none)
      (λ reads h. subst (λ (x : Making). IsShelfOf (with_body_at format setup_of_texts shelf place body x) format behind reads shelf) (sym e)
      (fed_shelf format place (length body) behind reads shelf (read_record_in format body) so h)) (shelf_named (read_record_in format body)) refl t
  before_setup false (inl (e, long)) t =
      let so : shelf ≡ shelf_by (read_record_in format body) (shelf_in format behind) = subst (λ (x : Making). IsShelfOf x format (body ∷ behind) old.shelf shelf) e of_shelf in
      by_name so (λ none. subst (λ (x : Making). CanMove x (read_record_in format body)) (sym e) none)
      (λ reads h. subst (λ (x : Making). IsShelfOf (with_body_at format setup_of_texts shelf place body x) format behind reads shelf) (sym e)
      (start_shelf format place (length body) behind reads shelf (read_record_in format body) so h)) (shelf_named (read_record_in format body)) refl t
  before_setup false (inr (e, long)) t =
      let so : shelf ≡ shelf_by (read_record_in format body) (shelf_in format behind) = subst (λ (x : Making). IsShelfOf x format (body ∷ behind) old.shelf shelf) e of_shelf in
      by_name so (λ none. subst (λ (x : Making). CanMove x (read_record_in format body)) (sym e) none)
      (λ reads h. subst (λ (x : Making). IsShelfOf (with_body_at format setup_of_texts shelf place body x) format behind reads shelf) (sym e)
      (first_shelf format place (length body) behind reads shelf false (read_record_in format body) h)) (shelf_named (read_record_in format body)) refl t

  by_found : (f : Found) → old.found ≡ f → Next
  by_found found.Nothing e = before_setup old.follows (gives_with found.Nothing e).before (taken_with found.Nothing e)
  by_found (found.Made b library) e =
      let is = gives_with (found.Made b library) e in behind_made old.alone is.whole is.is (taken_with (found.Made b library) e)
  by_found (found.Damaged p) e = behind_damage (damaged p) (gives_with (found.Damaged p) e) tt (λ reads. tt) (taken_with (found.Damaged p) e)
  by_found (found.Other p) e = behind_damage (other p) (gives_with (found.Other p) e) tt (λ reads. tt) (taken_with (found.Other p) e)
  by_found found.Memory e = absurd (memory e)

  pub one_more : Next
  one_more = by_found old.found refl

-- ---- the reader that reads a record

-- where no record of a setup was read it is for the shelf that the record names
pub named_for : (r : Option Record) (f : Found) (old new : Reader) (o : Option ℕ) → f ≡ found.Nothing → o ≡ shelf_named r → new ≡ named_by o old → new ≡ reader_for r f old
named_for r f old new o empty is e = e ∙ (ap (λ (p : Option ℕ). named_by p old) is ∙ ap (λ (g : Found). reader_for r g old) (sym empty))

-- any other stays
pub stays_for : (r : Option Record) (f : Found) (old : Reader) → (f ≡ found.Nothing → ⊥) → old ≡ reader_for r f old
stays_for r found.Nothing old some = absurd (some refl)
stays_for r (found.Made b library) old some = refl
stays_for r (found.Damaged place) old some = refl
stays_for r (found.Other place) old some = refl
stays_for r found.Memory old some = refl
