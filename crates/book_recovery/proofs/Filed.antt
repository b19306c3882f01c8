-- What is known of a file after all of its records.
use Rattle.std.proofs.Common.{◌≡◌, ◌∙◌, ap, sym, subst, ℕ, ◌+◌, ◌==◌, Bool, true, false, List, [], ◌∷◌, ◌++◌, length, refl, append_assoc, if◌then◌else◌, inl, inr}
use Rattle.std.proofs.lemmas.List.{append-nil}
use Rattle.setup_reader.specs.Texts.{setup_of_texts}
use Rattle.page_journal.specs.Records.{newest, frames}
use Rattle.page_journal.specs.Taken.{TakesAll}
use Rattle.book_redo.specs.JournalSpec.Making.{Making, nothing, damaged, other}
use Rattle.book_redo.specs.JournalSpec.Old.{with_body_at, with_bodies_at, book_of_format}
use Rattle.file_notes.specs.Files.{marks_in}
use Rattle.book_recovery.proofs.Made.{other_number, same_number}
use Rattle.book_recovery.specs.declared.found.Found.{Found}
use Rattle.book_recovery.specs.declared.found.Found.TheVariants as found
use Rattle.book_recovery.specs.declared.reader.Reader.{Reader}
use Rattle.book_recovery.specs.Anew.{IsAnewIn, AreAnew, HasAnew, AnewWith, ReadsAnew}
use Rattle.book_recovery.specs.Noting.{mark_in, marks_of, IsFileOf, WhereMade, NotesWith, NotesFile}
use Rattle.book_recovery.specs.Reading.{seen_by, making_of, IsBefore, Gives, IsTaken}
use Rattle.book_recovery.proofs.Took.{one_given, all_taken, at_first, all_bytes}

-- ---- where the records are damaged, or another shelf's, no book is found

stays_damaged : (format shelf place : ℕ) (bodies : List (List ℕ)) (p : ℕ) → with_bodies_at format setup_of_texts shelf place bodies (damaged p) ≡ damaged p
stays_damaged format shelf place [] p = refl
stays_damaged format shelf place (body ∷ bodies) p = stays_damaged format shelf (place + 5 + length body) bodies p

stays_other : (format shelf place : ℕ) (bodies : List (List ℕ)) (p : ℕ) → with_bodies_at format setup_of_texts shelf place bodies (other p) ≡ other p
stays_other format shelf place [] p = refl
stays_other format shelf place (body ∷ bodies) p = stays_other format shelf (place + 5 + length body) bodies p

not_making : (alone : Bool) (w : _) (p : ℕ) → damaged p ≡ making_of alone w → ⊥
not_making true w p e = cc e
not_making false w p e = cc e

not_other : (alone : Bool) (w : _) (p : ℕ) → other p ≡ making_of alone w → ⊥
not_other true w p e = cc e
not_other false w p e = cc e

none_damaged : (shelf n p : ℕ) (fed alone : Bool) (f : Found) (seen : _) (P : Type 0) → Gives shelf n fed alone f seen (damaged p) → WhereMade f P
none_damaged shelf n p fed alone found.Nothing seen P is = absurd (never_damaged fed is.before)
  where
    never_damaged : (t : Bool) → IsBefore t shelf n (damaged p) → ⊥
    never_damaged true (e, long) = cc e
    never_damaged false (inl (e, long)) = cc e
    never_damaged false (inr (e, long)) = cc e
none_damaged shelf n p fed alone (found.Made b library) seen P is = absurd (not_making alone is.whole p is.is)
none_damaged shelf n p fed alone (found.Damaged q) seen P is = tt
none_damaged shelf n p fed alone (found.Other q) seen P is = tt
none_damaged shelf n p fed alone found.Memory seen P is = tt

none_other : (shelf n p : ℕ) (fed alone : Bool) (f : Found) (seen : _) (P : Type 0) → Gives shelf n fed alone f seen (other p) → WhereMade f P
none_other shelf n p fed alone found.Nothing seen P is = absurd (never_other fed is.before)
  where
    never_other : (t : Bool) → IsBefore t shelf n (other p) → ⊥
    never_other true (e, long) = cc e
    never_other false (inl (e, long)) = cc e
    never_other false (inr (e, long)) = cc e
none_other shelf n p fed alone (found.Made b library) seen P is = absurd (not_other alone is.whole p is.is)
none_other shelf n p fed alone (found.Damaged q) seen P is = tt
none_other shelf n p fed alone (found.Other q) seen P is = tt
none_other shelf n p fed alone found.Memory seen P is = tt

module _ (format shelf place : ℕ) (bodies : List (List ℕ)) (old new : Reader) (t : TakesAll IsTaken old place bodies new) (number : old.shelf ≡ shelf) (its : old.format ≡ format) where
  -- after what is no book none is found
  lost_damaged : (p : ℕ) (P : Type 0) → Gives shelf (place + 1) old.follows old.alone old.found old.seen (damaged p) → WhereMade new.found P
  lost_damaged p P is =
      none_damaged shelf (place + length (frames bodies) + 1) p new.follows new.alone new.found new.seen P
      (subst (Gives shelf (place + length (frames bodies) + 1) new.follows new.alone new.found new.seen) (stays_damaged format shelf place bodies p) (all_taken format shelf place bodies old new t number its (damaged p) is))

  lost_other : (p : ℕ) (P : Type 0) → Gives shelf (place + 1) old.follows old.alone old.found old.seen (other p) → WhereMade new.found P
  lost_other p P is =
      none_other shelf (place + length (frames bodies) + 1) p new.follows new.alone new.found new.seen P
      (subst (Gives shelf (place + length (frames bodies) + 1) new.follows new.alone new.found new.seen) (stays_other format shelf place bodies p) (all_taken format shelf place bodies old new t number its (other p) is))

  -- so what holds after a book that was found on the way holds at the end
  on_the_way : (P Q : Type 0) (m : Making) → Gives shelf (place + 1) old.follows old.alone old.found old.seen m → WhereMade old.found P → (P → WhereMade new.found Q) → WhereMade new.found Q
  on_the_way P Q m is here go = by_found old.found refl is here
    where
      by_found : (f : Found) → old.found ≡ f → Gives shelf (place + 1) old.follows old.alone f old.seen m → WhereMade f P → WhereMade new.found Q
      by_found found.Nothing e is here = go here
      by_found (found.Made b library) e is here = go here
      by_found (found.Damaged p) e is here = lost_damaged p Q (subst (λ (f : Found). Gives shelf (place + 1) old.follows old.alone f old.seen (damaged p)) (sym e) refl)
      by_found (found.Other p) e is here = lost_other p Q (subst (λ (f : Found). Gives shelf (place + 1) old.follows old.alone f old.seen (other p)) (sym e) refl)
      by_found found.Memory e is here = lost_damaged 0 Q (subst (λ (f : Found). Gives shelf (place + 1) old.follows old.alone f old.seen (damaged 0)) (sym e) tt)

-- ---- the notes

notes_given : (format shelf place : ℕ) (body : List ℕ) (old new : Reader) → old.shelf ≡ shelf → old.format ≡ format → IsTaken old place body new → (m : Making) → Gives shelf (place + 1) old.follows old.alone old.found old.seen m
    → NotesWith format shelf place body old.notes new.notes new.found m
notes_given format shelf place body old new number its t m is =
    subst (λ (f : ℕ). NotesWith f shelf place body old.notes new.notes new.found m) its
    (subst (λ (k : ℕ). NotesWith old.format k place body old.notes new.notes new.found m) number
    (t.notes m (subst (λ (k : ℕ). Gives k (place + 1) old.follows old.alone old.found old.seen m) (sym number) is)))

-- the file and the marks, after these bodies
abbrev AreNoted : (format shelf place : ℕ) → List (List ℕ) → (old new : Reader) → Making → Type 0
AreNoted format shelf place bodies old new m =
    IsFileOf new.notes (with_bodies_at format setup_of_texts shelf place bodies m) × (marks_in new.notes ≡ marks_in old.notes ++ marks_of format setup_of_texts shelf place bodies m)

all_noted : (format shelf place : ℕ) (bodies : List (List ℕ)) (old new : Reader) → TakesAll IsTaken old place bodies new → old.shelf ≡ shelf → old.format ≡ format → (m : Making) → Gives shelf (place + 1) old.follows old.alone old.found old.seen m
    → IsFileOf old.notes m → WhereMade new.found (AreNoted format shelf place bodies old new m)
all_noted format shelf place [] old new t number its m is file =
    subst (λ (r : Reader). WhereMade r.found (IsFileOf r.notes m × (marks_in r.notes ≡ marks_in old.notes ++ []))) (sym t) (by_found old.found)
  where
    by_found : (f : Found) → WhereMade f (IsFileOf old.notes m × (marks_in old.notes ≡ marks_in old.notes ++ []))
    by_found (found.Made b library) = (file, sym (append-nil (marks_in old.notes)))
    by_found found.Nothing = (file, sym (append-nil (marks_in old.notes)))
    by_found (found.Damaged p) = tt
    by_found (found.Other p) = tt
    by_found found.Memory = tt
all_noted format shelf place (body ∷ bodies) old new t number its m is file =
    let mid = t.0 in
    let later = place + 5 + length body in
    let next = with_body_at format setup_of_texts shelf place body m in
    let given = one_given format shelf place body old mid number its t.1 m is in
    let One : Type 0 = IsFileOf old.notes m → IsFileOf mid.notes next × (marks_in mid.notes ≡ marks_in old.notes ++ mark_in format m body) in
    on_the_way format shelf later bodies mid new t.2 (t.1.shelf ∙ number) (t.1.format ∙ its) One (AreNoted format shelf place (body ∷ bodies) old new m) next given (notes_given format shelf place body old mid number its t.1 m is)
    (λ one. then_so later mid next (one file) (all_noted format shelf later bodies mid new t.2 (t.1.shelf ∙ number) (t.1.format ∙ its) next given (one file).0))
  where
    then_so : (later : ℕ) (mid : Reader) (next : Making) → IsFileOf mid.notes next × (marks_in mid.notes ≡ marks_in old.notes ++ mark_in format m body) → WhereMade new.found (AreNoted format shelf later bodies mid new next)
        → WhereMade new.found (IsFileOf new.notes (with_bodies_at format setup_of_texts shelf later bodies next) × (marks_in new.notes ≡ marks_in old.notes ++ (mark_in format m body ++ marks_of format setup_of_texts shelf later bodies next)))
    then_so later mid next one more = by_found new.found more
      where
        by_found : (f : Found) → WhereMade f (AreNoted format shelf later bodies mid new next)
            → WhereMade f (IsFileOf new.notes (with_bodies_at format setup_of_texts shelf later bodies next) × (marks_in new.notes ≡ marks_in old.notes ++ (mark_in format m body ++ marks_of format setup_of_texts shelf later bodies next)))
        by_found (found.Made b library) h =
            (h.0, h.1 ∙ (ap (λ (ts : List Bool). ts ++ marks_of format setup_of_texts shelf later bodies next) one.1 ∙ append_assoc (marks_in old.notes) (mark_in format m body) (marks_of format setup_of_texts shelf later bodies next)))
        by_found found.Nothing h =
            (h.0, h.1 ∙ (ap (λ (ts : List Bool). ts ++ marks_of format setup_of_texts shelf later bodies next) one.1 ∙ append_assoc (marks_in old.notes) (mark_in format m body) (marks_of format setup_of_texts shelf later bodies next)))
        by_found (found.Damaged p) h = tt
        by_found (found.Other p) h = tt
        by_found found.Memory h = tt

-- of all records
pub noted_of_all : (format shelf : ℕ) (bodies : List (List ℕ)) (old new : Reader) → old.shelf ≡ shelf → old.format ≡ format → old.found ≡ found.Nothing → old.follows ≡ false → seen_by old.seen ≡ [] → marks_in old.notes ≡ []
    → TakesAll IsTaken old 8 bodies new → WhereMade new.found (NotesFile format shelf bodies new.notes (book_of_format format setup_of_texts shelf bodies))
noted_of_all format shelf bodies old new number its empty apart none unmarked t =
    by_found new.found (all_noted format shelf 8 bodies old new t number its nothing (at_first shelf old empty apart none) unmarked)
  where
    by_found : (f : Found) → WhereMade f (AreNoted format shelf 8 bodies old new nothing) → WhereMade f (NotesFile format shelf bodies new.notes (book_of_format format setup_of_texts shelf bodies))
    by_found (found.Made b library) h = record {
      file = h.0;
      marks = h.1 ∙ ap (λ (ts : List Bool). ts ++ marks_of format setup_of_texts shelf 8 bodies nothing) unmarked;
      bytes = all_bytes 8 bodies old new t;
    }
    by_found found.Nothing h = record {
      file = h.0;
      marks = h.1 ∙ ap (λ (ts : List Bool). ts ++ marks_of format setup_of_texts shelf 8 bodies nothing) unmarked;
      bytes = all_bytes 8 bodies old new t;
    }
    by_found (found.Damaged p) h = tt
    by_found (found.Other p) h = tt
    by_found found.Memory h = tt

-- ---- the bodies of an older file

anew_given : (format shelf place : ℕ) (body : List ℕ) (old new : Reader) → old.shelf ≡ shelf → old.format ≡ format → IsTaken old place body new → (m : Making) → Gives shelf (place + 1) old.follows old.alone old.found old.seen m
    → AnewWith format body old.anew new.anew new.found m
anew_given format shelf place body old new number its t m is =
    subst (λ (f : ℕ). AnewWith f body old.anew new.anew new.found m) its
    (t.anew m (subst (λ (k : ℕ). Gives k (place + 1) old.follows old.alone old.found old.seen m) (sym number) is))

-- these are kept of these bodies, after those that were
abbrev Adds : (format shelf place : ℕ) → List (List ℕ) → (old new : Reader) → Making → Type 0
Adds format shelf place bodies old new m = (anew : List (List ℕ)) × (AreAnew format setup_of_texts shelf place bodies m anew × HasAnew format anew old.anew new.anew)

has_none : (format : ℕ) (xs : List (List ℕ)) → xs ≡ (if format == newest then xs else xs ++ [])
has_none format xs = by_test (format == newest)
  where
    by_test : (t : Bool) → xs ≡ (if t then xs else xs ++ [])
    by_test true = refl
    by_test false = sym (append-nil xs)

has_more : (format : ℕ) (xs ys zs front rest : List (List ℕ)) → ys ≡ (if format == newest then xs else xs ++ front) → zs ≡ (if format == newest then ys else ys ++ rest) → zs ≡ (if format == newest then xs else xs ++ (front ++ rest))
has_more format xs ys zs front rest = by_test (format == newest)
  where
    by_test : (t : Bool) → ys ≡ (if t then xs else xs ++ front) → zs ≡ (if t then ys else ys ++ rest) → zs ≡ (if t then xs else xs ++ (front ++ rest))
    by_test true one two = two ∙ one
    by_test false one two = two ∙ (ap (λ (ws : List (List ℕ)). ws ++ rest) one ∙ append_assoc xs front rest)

all_anew : (format shelf place : ℕ) (bodies : List (List ℕ)) (old new : Reader) → TakesAll IsTaken old place bodies new → old.shelf ≡ shelf → old.format ≡ format → (m : Making) → Gives shelf (place + 1) old.follows old.alone old.found old.seen m
    → WhereMade new.found (Adds format shelf place bodies old new m)
all_anew format shelf place [] old new t number its m is =
    subst (λ (r : Reader). WhereMade r.found (Adds format shelf place [] old r m)) (sym t) (by_found old.found)
  where
    by_found : (f : Found) → WhereMade f (Adds format shelf place [] old old m)
    by_found (found.Made b library) = ([], (refl, has_none format old.anew.items))
    by_found found.Nothing = ([], (refl, has_none format old.anew.items))
    by_found (found.Damaged p) = tt
    by_found (found.Other p) = tt
    by_found found.Memory = tt
all_anew format shelf place (body ∷ bodies) old new t number its m is =
    let mid = t.0 in
    let later = place + 5 + length body in
    let next = with_body_at format setup_of_texts shelf place body m in
    let given = one_given format shelf place body old mid number its t.1 m is in
    let One : Type 0 = (front : List (List ℕ)) × (IsAnewIn format m body front × HasAnew format front old.anew mid.anew) in
    on_the_way format shelf later bodies mid new t.2 (t.1.shelf ∙ number) (t.1.format ∙ its) One (Adds format shelf place (body ∷ bodies) old new m) next given (anew_given format shelf place body old mid number its t.1 m is)
    (λ one. then_so mid one (all_anew format shelf later bodies mid new t.2 (t.1.shelf ∙ number) (t.1.format ∙ its) next given))
  where
    then_so : (mid : Reader) → (front : List (List ℕ)) × (IsAnewIn format m body front × HasAnew format front old.anew mid.anew)
        → WhereMade new.found (Adds format shelf (place + 5 + length body) bodies mid new (with_body_at format setup_of_texts shelf place body m)) → WhereMade new.found (Adds format shelf place (body ∷ bodies) old new m)
    then_so mid one more = by_found new.found more
      where
        by_found : (f : Found) → WhereMade f (Adds format shelf (place + 5 + length body) bodies mid new (with_body_at format setup_of_texts shelf place body m)) → WhereMade f (Adds format shelf place (body ∷ bodies) old new m)
        by_found (found.Made b library) h =
            (one.0 ++ h.0, ((one.0, h.0, (refl, (one.1.0, h.1.0))), has_more format old.anew.items mid.anew.items new.anew.items one.0 h.0 one.1.1 h.1.1))
        by_found found.Nothing h =
            (one.0 ++ h.0, ((one.0, h.0, (refl, (one.1.0, h.1.0))), has_more format old.anew.items mid.anew.items new.anew.items one.0 h.0 one.1.1 h.1.1))
        by_found (found.Damaged p) h = tt
        by_found (found.Other p) h = tt
        by_found found.Memory h = tt

-- of all records
pub anew_of_all : (format shelf : ℕ) (bodies : List (List ℕ)) (old new : Reader) → old.shelf ≡ shelf → old.format ≡ format → old.found ≡ found.Nothing → old.follows ≡ false → seen_by old.seen ≡ [] → old.anew.items ≡ []
    → TakesAll IsTaken old 8 bodies new → WhereMade new.found (ReadsAnew format shelf bodies new.anew.items)
anew_of_all format shelf bodies old new number its empty apart none bare t =
    by_found new.found (all_anew format shelf 8 bodies old new t number its nothing (at_first shelf old empty apart none))
  where
    older : (t : Bool) (anew ys : List (List ℕ)) → ys ≡ (if t then old.anew.items else old.anew.items ++ anew) → t ≡ false → anew ≡ ys
    older true anew ys e off = absurd (let never : ⊥ = cc off in never)
    older false anew ys e off = sym (e ∙ ap (λ (xs : List (List ℕ)). xs ++ anew) bare)

    newer : (t : Bool) (anew ys : List (List ℕ)) → ys ≡ (if t then old.anew.items else old.anew.items ++ anew) → t ≡ true → ys ≡ []
    newer true anew ys e on = e ∙ bare
    newer false anew ys e on = absurd (let never : ⊥ = cc on in never)

    by_found : (f : Found) → WhereMade f (Adds format shelf 8 bodies old new nothing) → WhereMade f (ReadsAnew format shelf bodies new.anew.items)
    by_found (found.Made b library) h = (
      λ old_format. subst (AreAnew format setup_of_texts shelf 8 bodies nothing) (older (format == newest) h.0 new.anew.items h.1.1 (other_number format newest old_format)) h.1.0,
      λ is. newer (format == newest) h.0 new.anew.items h.1.1 (same_number format newest is),
    )
    by_found found.Nothing h = (
      λ old_format. subst (AreAnew format setup_of_texts shelf 8 bodies nothing) (older (format == newest) h.0 new.anew.items h.1.1 (other_number format newest old_format)) h.1.0,
      λ is. newer (format == newest) h.0 new.anew.items h.1.1 (same_number format newest is),
    )
    by_found (found.Damaged p) h = tt
    by_found (found.Other p) h = tt
    by_found found.Memory h = tt
