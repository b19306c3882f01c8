-- Own records go on to be own, in what a crash leaves of them.
use Rattle.std.proofs.Common.{◌≡◌, refl, inl, inr, ⊎_elim, ℕ, true, ◌≤◌, ◌^◌, List, [], ◌∷◌, ◌++◌, length, get_or, Some, sym, ◌∙◌, ap, subst, arith}
use Rattle.book_recovery.specs.SetupReader.Texts.{setup_of_texts as texts}
use Rattle.web_disk.specs.View.{View, NoNewImage, Elapses, LeavesOnly}
use Rattle.web_disk.proofs.Moments.{started, goes_on}
use Rattle.page_journal.specs.Records.{Log, Damaged, Intact, is_format, newest, format_of, records, bodies_of, at_rest, stored}
use Rattle.page_journal.specs.Holding.{IsClosed, MayHold, Holdable, MayHoldNowAndThroughout, ClosedNowAndThroughout, EitherNowAndThroughout}
use Rattle.page_journal.specs.Settled.{IsSettled, view_of, bodies_in}
use Rattle.page_journal.specs.declared.journal.Journal.{Journal}
use Rattle.page_journal.proofs.Holds.{settled_images, just_these, before_or_after}
use Rattle.page_journal.proofs.Mending.{leaves_map}
use Rattle.book_recovery.specs.JournalSpec.Before.{Made}
use Rattle.book_recovery.specs.JournalSpec.Making.{made_in, book_of}
use Rattle.book_recovery.specs.JournalSpec.Owning.{AreOwn, AreOwnIn}
use Rattle.book_recovery.specs.JournalSpec.Standing.{Flight, still, adds, puts, with_flight, format_with, HasRoom, Hold}
use Rattle.book_recovery.proofs.JournalSpec.Between.{closed_format}
use Rattle.shelf.specs.Owning.{IsOwnImage, OwnRecords, HoldOwn, HoldsOwnRecords, HasOwnImages, StaysOwnThroughout}
use Rattle.shelf.proofs.Newest.{own_now}

-- and so is each first record, which tells no state
pub no_body : (front rest : List (List ℕ)) (body : List ℕ) → [] ≡ front ++ body ∷ rest → ⊥
no_body [] rest body is = cc is
no_body (first ∷ front) rest body is = cc is

pub none_own : (f shelf : ℕ) → AreOwnIn f texts shelf []
none_own f shelf = λ front rest body m is makes. absurd (no_body front rest body is)

behind_it : (first x : List ℕ) (xs ys : List (List ℕ)) → first ∷ xs ≡ x ∷ ys → xs ≡ ys
behind_it first x xs ys e = cc e

not_made : (shelf : ℕ) (first : List ℕ) (front rest : List (List ℕ)) (body : List ℕ) (m : Made) → first ∷ [] ≡ front ++ body ∷ rest → made_in (book_of texts shelf front) ≡ Some m → ⊥
not_made shelf first [] rest body m is makes = cc makes
not_made shelf first (x ∷ front) rest body m is makes = no_body front rest body (behind_it first x [] (front ++ body ∷ rest) is)

pub first_own : (shelf : ℕ) (first : List ℕ) → AreOwn texts shelf (first ∷ [])
first_own shelf first = λ front rest body m is makes. absurd (not_made shelf first front rest body m is makes)

-- what holds own records is read as own ones
same_bodies : (xs ys : List (List ℕ)) → Intact xs ≡ Intact ys → xs ≡ ys
same_bodies xs ys e = cc e

-- the records that an image is read as, in the format that it tells
own_read : (f shelf : ℕ) (bodies : List (List ℕ)) (image : List ℕ) → format_of image ≡ f → records image ≡ Intact bodies → AreOwnIn f texts shelf bodies → IsOwnImage shelf image
own_read f shelf bodies image tells reads own = λ these is.
    subst (λ (k : ℕ). AreOwnIn k texts shelf these) (sym tells) (subst (AreOwnIn f texts shelf) (same_bodies bodies these (sym reads ∙ is)) own)

pub own_seen : (shelf : ℕ) (image : List ℕ) (f : ℕ) (bodies : List (List ℕ)) → is_format f ≡ true → length (at_rest bodies) ≤ 2 ^ 30 → IsClosed f bodies image → IsOwnImage shelf image → AreOwnIn f texts shelf bodies
own_seen shelf image f bodies known fits closed own =
    subst (λ (k : ℕ). AreOwnIn k texts shelf bodies) (closed_format f bodies image closed) (own bodies (just_these f bodies image known fits closed))

own_closed : (f shelf : ℕ) (bodies : List (List ℕ)) (image : List ℕ) → is_format f ≡ true → length (at_rest bodies) ≤ 2 ^ 30 → AreOwnIn f texts shelf bodies → IsClosed f bodies image → IsOwnImage shelf image
own_closed f shelf bodies image known fits own closed = own_read f shelf bodies image (closed_format f bodies image closed) (just_these f bodies image known fits closed) own

may_format : (f : ℕ) (bodies : List (List ℕ)) (body image : List ℕ) → MayHold f bodies body image → format_of image ≡ f
may_format f bodies body image (inl closed) = closed_format f bodies image closed
may_format f bodies body image (inr flight) = ap (λ (l : List ℕ). get_or l 7 0) flight.is

own_held : (f shelf : ℕ) (bodies : List (List ℕ)) (t : Flight) (image : List ℕ) → is_format f ≡ true → HasRoom bodies t → AreOwnIn f texts shelf bodies → AreOwnIn (format_with f t) texts shelf (with_flight bodies t)
    → Hold f bodies t image → IsOwnImage shelf image
own_held f shelf bodies still image known room first own held = own_closed f shelf bodies image known room first held
own_held f shelf bodies (adds body) image known room first own held = ⊎_elim
    (λ before. own_read f shelf bodies image (may_format f bodies body image held) before first)
    (λ with. own_read f shelf (bodies ++ body ∷ []) image (may_format f bodies body image held) with own)
    (before_or_after f bodies body image known room held)
own_held f shelf bodies (puts other others) image known room first own held = ⊎_elim
    (λ closed. own_closed f shelf bodies image known room.0 first closed)
    (λ closed. own_closed other shelf others image room.2 room.1 own closed)
    held

pub own_image : (shelf : ℕ) (image : List ℕ) → HoldsOwnRecords shelf image → IsOwnImage shelf image
own_image shelf image (o, held) = own_held o.format shelf o.bodies o.flight image o.known o.room o.first o.own held

pub images_own : (shelf : ℕ) (v : View) (image : List ℕ) → HasOwnImages shelf v → v.images image → IsOwnImage shelf image
images_own shelf v image (o, held) left = own_image shelf image (o, held image left)

pub stored_own : (shelf : ℕ) (image : List ℕ) → IsOwnImage shelf image → AreOwnIn (format_of image) texts shelf (stored image)
stored_own shelf image own = by_log (records image) own
  where
    by_log : (l : Log) → ((bodies : List (List ℕ)) → l ≡ Intact bodies → AreOwnIn (format_of image) texts shelf bodies) → AreOwnIn (format_of image) texts shelf (bodies_of l)
    by_log (Damaged place) own = none_own (format_of image) shelf
    by_log (Intact bodies) own = own bodies refl

-- own records with one more that is own, in flight
abbrev pub with_added : (shelf : ℕ) (bodies : List (List ℕ)) (body : List ℕ) → Holdable bodies body → AreOwn texts shelf bodies → AreOwn texts shelf (bodies ++ body ∷ []) → OwnRecords shelf
with_added shelf bodies body room first own =
    record { format = newest; known = refl; bodies = bodies; flight = adds body; room = room; first = own_now shelf bodies first; own = own_now shelf (bodies ++ body ∷ []) own }

-- own records, and others that are put in their place
abbrev pub with_others : (f shelf : ℕ) (bodies others : List (List ℕ)) → is_format f ≡ true → HasRoom bodies (puts newest others) → AreOwnIn f texts shelf bodies → AreOwn texts shelf others → OwnRecords shelf
with_others f shelf bodies others known room first own =
    record { format = f; known = known; bodies = bodies; flight = puts newest others; room = room; first = first; own = own_now shelf others own }

-- a journal that can go on has its own records
pub settled_own : {D : Type 0} (view : D → View) (shelf : ℕ) (j : Journal D) → IsSettled view j → AreOwnIn j.format texts shelf (bodies_in view j) → HasOwnImages shelf (view_of view j)
settled_own view shelf j s own = (
  record { format = j.format; known = s.known; bodies = bodies_in view j; flight = still; room = omega (arith, s.end, s.fits); first = own; own = own },
  settled_images view j s,
)

pub stays_own : (shelf : ℕ) (old new : View) (o : OwnRecords shelf) → LeavesOnly old new (HoldOwn o) → StaysOwnThroughout shelf old new
stays_own shelf old new o run = leaves_map old new (HoldOwn o) (HoldsOwnRecords shelf) (λ image held. (o, held)) run

-- a recovery of own records leaves them at each moment
pub recovery_own : (shelf : ℕ) (old new : View) → MayHoldNowAndThroughout old new → ClosedNowAndThroughout old new → EitherNowAndThroughout old new → HasOwnImages shelf old → StaysOwnThroughout shelf old new
recovery_own shelf old new may closed either (o, held) = stays_own shelf old new o (by_flight o.format o.known o.bodies o.flight o.room held)
  where
    by_flight : (f : ℕ) → is_format f ≡ true → (bodies : List (List ℕ)) (t : Flight) → HasRoom bodies t → ((image : List ℕ) → old.images image → Hold f bodies t image) → LeavesOnly old new (Hold f bodies t)
    by_flight f known bodies still room held = closed f bodies known room held
    by_flight f known bodies (adds body) room held = may f bodies body known room held
    by_flight f known bodies (puts other others) room held = either f other bodies others known room.2 room.0 room.1 held

-- so does what leaves no other image than was there at first
pub quiet_own : (shelf : ℕ) (old new : View) → LeavesOnly old new old.images → HasOwnImages shelf old → StaysOwnThroughout shelf old new
quiet_own shelf old new run (o, held) = stays_own shelf old new o (leaves_map old new old.images (HoldOwn o) held run)

-- and a call that leaves no new image
pub quiet_run_own : (shelf : ℕ) (old new : View) → ((image : List ℕ) → old.since old.moment image → old.images image) → NoNewImage old new → Elapses old new → HasOwnImages shelf old
    → StaysOwnThroughout shelf old new
quiet_run_own shelf old new only_now less time (o, held) =
    stays_own shelf old new o (goes_on old old new (HoldOwn o) (started old (HoldOwn o) (λ image left. held image (only_now image left))) time (λ image left. held image (less image left)))
