-- How a disk goes on to stand for a book, by the calls of a journal.
use Rattle.std.proofs.Common.{◌≡◌, refl, inl, inr, ⊎_elim, ℕ, ◌≤◌, true, List, Option, Some, None, sym, ◌∙◌, ap, subst, arith}
use Rattle.std.proofs.lemmas.Option.{same_Some}
use Rattle.script_nodes.specs.Setup.{Named}
use Rattle.web_disk.specs.View.{View, NoNewImage, Elapses, LeavesOnly}
use Rattle.web_disk.proofs.Moments.{started, goes_on}
use Rattle.page_journal.specs.Records.{is_format}
use Rattle.page_journal.specs.Holding.{IsClosed, MayHoldNowAndThroughout, ClosedNowAndThroughout, EitherNowAndThroughout}
use Rattle.page_journal.specs.Settled.{IsSettled, view_of, bodies_in}
use Rattle.page_journal.specs.declared.journal.Journal.{Journal}
use Rattle.page_journal.proofs.Holds.{settled_images}
use Rattle.page_journal.proofs.Mending.{leaves_then, leaves_map}
use Rattle.replay_spec.specs.Book.{Doubt, Book, reopened}
use Rattle.replay_spec.specs.Step.{kept, recovered}
use Rattle.journal_spec.specs.Before.{Earlier, Made, made_of}
use Rattle.replay_spec.specs.Recovery.{of_length}
use Rattle.journal_spec.specs.Making.{Texts, Making, nothing, waits, waited, begun, made, damaged, other, waiting, made_in}
use Rattle.journal_spec.specs.Bytes.{book_in_bytes}
use Rattle.journal_spec.specs.Opening.{opened_book, opened_on}
use Rattle.journal_spec.specs.Standing.{MakesOf, MakesIn, Flight, still, adds, puts, IsFoundOne, IsOneOf, HasRoom, Between, Carries, Hold, Held, HeldOpened, if_kept, Stands, Throughout, StaysThroughout, OpensThroughout}
use Rattle.journal_spec.proofs.Between.{make_books, stand_alike}

-- a moment that is over leaves what a crash now may leave
abbrev pub OnlyNow : View → Type 0
OnlyNow v = (image : List ℕ) → v.since v.moment image → v.images image

-- a moment sees what a crash now may leave, whenever it began
abbrev pub CountsNow : View → Type 0
CountsNow v = (t : ℕ) (image : List ℕ) → t ≤ v.moment → v.images image → v.since t image

-- what a crash leaves at any moment of a call it leaves now
pub left_now : (v0 v1 : View) (P : List ℕ → Type 0) → CountsNow v1 → LeavesOnly v0 v1 P → (image : List ℕ) → v1.images image → P image
left_now v0 v1 P counts run image left = run.each image (counts v0.moment image run.later left)

-- what stands closed is held, whatever may be in flight
pub closed_holds : (f : ℕ) (bodies : List (List ℕ)) (t : Flight) (image : List ℕ) → IsClosed f bodies image → Hold f bodies t image
closed_holds f bodies still image closed = closed
closed_holds f bodies (adds body) image closed = inl closed
closed_holds f bodies (puts e others) image closed = inl closed

-- what may hold the bodies of the one may hold those of the other, where these are the same
pub carried : {texts : Texts} {shelf : ℕ} {a b : Book} (f : ℕ) (bodies : List (List ℕ)) (t : Flight) (k : Between texts shelf a b) → Carries f bodies t k
    → (image : List ℕ) → Hold f bodies t image → Held k image
carried f bodies t k c image h =
    subst (λ (n : ℕ). Hold n k.bodies k.flight image) (sym c.format)
    (subst (λ (bs : List (List ℕ)). Hold f bs k.flight image) (sym c.bodies_are) (subst (λ (u : Flight). Hold f bodies u image) (sym c.flight_is) h))

-- a call of the shelf that makes none of the disk, or one that leaves no new image
pub stays : (texts : Texts) (shelf : ℕ) (b : Book) (v : View) → OnlyNow v → (s : Stands texts shelf v b) → Throughout texts shelf b (if_kept s.0 b) v v
stays texts shelf b v only_now s = (s.1.0, started v (Held s.1.0) (λ image left. s.1.1 image (only_now image left)))

pub stays_then : (texts : Texts) (shelf : ℕ) (b : Book) (v0 v1 : View) → OnlyNow v0 → (s : Stands texts shelf v0 b) → NoNewImage v0 v1 → Elapses v0 v1
    → Throughout texts shelf b (if_kept s.0 b) v0 v1
stays_then texts shelf b v0 v1 only_now s no_new time =
    let k = s.1.0 in
    (k, goes_on v0 v0 v1 (Held k) (started v0 (Held k) (λ image left. s.1.1 image (only_now image left))) time (λ image left. s.1.1 image (no_new image left)))

pub stands_then : (texts : Texts) (shelf : ℕ) (b : Book) (v0 v1 : View) → (s : Stands texts shelf v0 b) → NoNewImage v0 v1 → (t : Stands texts shelf v1 b) × (t.0 ≡ s.0)
stands_then texts shelf b v0 v1 s no_new = ((s.0, (s.1.0, λ image left. s.1.1 image (no_new image left))), refl)

-- a run after a call that leaves no new image, on a file whose records stand closed
closed_then : {texts : Texts} {shelf : ℕ} {a b : Book} (f : ℕ) (bodies : List (List ℕ)) (v0 v1 v2 : View) → OnlyNow v0 → ((image : List ℕ) → v0.images image → IsClosed f bodies image)
    → NoNewImage v0 v1 → Elapses v0 v1 → (k : Between texts shelf a b) → k.format ≡ f → k.bodies ≡ bodies → LeavesOnly v1 v2 (Held k) → LeavesOnly v0 v2 (Held k)
closed_then f bodies v0 v1 v2 only_now closed no_new time k format these run =
    let held : (image : List ℕ) → v0.images image → Held k image =
    λ image left. carried f bodies k.flight k (record { format = format; bodies_are = these; flight_is = refl }) image (closed_holds f bodies k.flight image (closed image left)) in
    leaves_then v0 v1 v2 (Held k) (goes_on v0 v0 v1 (Held k) (started v0 (Held k) (λ image left. held image (only_now image left))) time (λ image left. held image (no_new image left))) run

-- a journal's file and nothing else stands for the book that its records make
pub settled_stands : {D : Type 0} (view : D → View) (texts : Texts) (shelf : ℕ) (j : Journal D) (b : Book) → IsSettled view j → MakesOf texts shelf j.format (bodies_in view j) b
    → b.down ≡ None → Stands texts shelf (view_of view j) b
settled_stands view texts shelf j b s makes up =
    let bodies = bodies_in view j in
    let same : if_kept 0 b ≡ b = ap (λ (d : Option Doubt). recovered (of_length 0) kept d b) up in
    let k : Between texts shelf b (if_kept 0 b) =
    record {
      format = j.format;
      known = s.known;
      bodies = bodies;
      flight = still;
      room = omega (arith, s.end, s.fits);
      first = makes;
      second = subst (MakesOf texts shelf j.format bodies) (sym same) makes;
    } in
    (0, (k, settled_images view j s))

-- a recovery
pub stays_by : (texts : Texts) (shelf : ℕ) (v0 v1 : View) → MayHoldNowAndThroughout v0 v1 → ClosedNowAndThroughout v0 v1 → EitherNowAndThroughout v0 v1
    → StaysThroughout texts shelf v0 v1
stays_by texts shelf v0 v1 may closed either = λ before after k held. by_flight k.format k.known k.bodies k.flight k.room held
  where
    by_flight : (f : ℕ) → is_format f ≡ true → (bodies : List (List ℕ)) (t : Flight) → HasRoom bodies t → ((image : List ℕ) → v0.images image → Hold f bodies t image) → LeavesOnly v0 v1 (Hold f bodies t)
    by_flight f known bodies still room held = closed f bodies known room held
    by_flight f known bodies (adds body) room held = may f bodies body known room held
    by_flight f known bodies (puts e others) room held = either f e bodies others known room.2 room.0 room.1 held

found_in_bytes : (texts : Texts) (shelf : ℕ) (bytes : List ℕ) (m : Made) (b : Book) → made_in (book_in_bytes texts shelf bytes) ≡ Some m → MakesIn texts shelf bytes b → m.book ≡ reopened b
found_in_bytes texts shelf bytes m b makes (earlier, is) = ap (λ (x : Made). x.book) (same_Some m (made_of b earlier) (sym makes ∙ is))

pub one_found : (texts : Texts) (shelf : ℕ) (v : View) (m : Made) → v.images v.seen → made_in (book_in_bytes texts shelf v.seen) ≡ Some m → IsFoundOne texts shelf v m.book
one_found texts shelf v m reads makes = λ before after k held. ⊎_elim
    (λ h. inl (found_in_bytes texts shelf v.seen m before makes h))
    (λ h. inr (found_in_bytes texts shelf v.seen m after makes h))
    (make_books texts shelf before after k v.seen (held v.seen reads))

-- what a shelf goes on with, where the records make this
goes_on_with : (shelf : ℕ) (scripts : List Named) (x : Making) (b : Book) (earlier : Earlier) (m : Made) → made_in x ≡ Some (made_of b earlier) → opened_on shelf scripts x ≡ Some m
    → m.book ≡ opened_book shelf scripts b
goes_on_with shelf scripts nothing b earlier m is opened = absurd (let no : ⊥ = cc in no)
goes_on_with shelf scripts waited b earlier m is opened = absurd (let no : ⊥ = cc in no)
goes_on_with shelf scripts (waits s) b earlier m is opened =
    ap (λ (y : Made). y.book) (sym (same_Some (waiting s) m opened)) ∙ ap (λ (y : Made). opened_book shelf scripts y.book) (same_Some (waiting s) (made_of b earlier) is)
goes_on_with shelf scripts (begun k) b earlier m is opened =
    ap (λ (y : Made). y.book) (sym (same_Some (record k { book = opened_book shelf scripts k.book }) m opened))
    ∙ ap (λ (y : Made). opened_book shelf scripts y.book) (same_Some k (made_of b earlier) is)
goes_on_with shelf scripts (made k) b earlier m is opened =
    ap (λ (y : Made). y.book) (sym (same_Some (record k { book = opened_book shelf scripts k.book }) m opened))
    ∙ ap (λ (y : Made). opened_book shelf scripts y.book) (same_Some k (made_of b earlier) is)
goes_on_with shelf scripts (damaged p) b earlier m is opened = absurd (let no : ⊥ = cc in no)
goes_on_with shelf scripts (other p) b earlier m is opened = absurd (let no : ⊥ = cc in no)

pub one_of : (texts : Texts) (shelf : ℕ) (scripts : List Named) (v : View) (m : Made) → v.images v.seen → opened_on shelf scripts (book_in_bytes texts shelf v.seen) ≡ Some m
    → IsOneOf texts shelf scripts v m.book
one_of texts shelf scripts v m reads opened = λ before after k held.
    let x = book_in_bytes texts shelf v.seen in
    ⊎_elim
    (λ (earlier, is). inl (goes_on_with shelf scripts x before earlier m is opened))
    (λ (earlier, is). inr (goes_on_with shelf scripts x after earlier m is opened))
    (make_books texts shelf before after k v.seen (held v.seen reads))

-- ---- an opening with a setup

pub recovery_opens : (texts : Texts) (shelf : ℕ) (scripts : List Named) (v0 v1 : View) → CountsNow v1 → StaysThroughout texts shelf v0 v1 → OpensThroughout texts shelf scripts v0 v1
recovery_opens texts shelf scripts v0 v1 counts stays before after k held =
    let run = stays before after k held in
    record { moments = leaves_map v0 v1 (Held k) (HeldOpened k scripts) (λ image h. inl h) run; stands = inl (left_now v0 v1 (Held k) counts run) }

-- a call that stood between the book that was found and the one with the setup, on a disk that stood between two books of which it is one
opens_from : (texts : Texts) (shelf : ℕ) (scripts : List Named) (b c : Book) (v0 v1 : View) → b ≡ reopened c → Throughout texts shelf b (opened_book shelf scripts b) v0 v1
    → (l : Between texts shelf c (opened_book shelf scripts c)) × LeavesOnly v0 v1 (Held l)
opens_from texts shelf scripts b c v0 v1 is (k, run) =
    let here : reopened b ≡ reopened c = ap reopened is in
    let there : reopened (opened_book shelf scripts b) ≡ reopened (opened_book shelf scripts c) = ap (λ (y : Book). reopened (opened_book shelf scripts y)) is in
    let l = (stand_alike texts shelf).1 b (opened_book shelf scripts b) c (opened_book shelf scripts c) here there k in
    (l.0, leaves_map v0 v1 (Held k) (Held l.0) (carried k.format k.bodies k.flight l.0 l.1) run)

pub opening_stays : (texts : Texts) (shelf : ℕ) (scripts : List Named) (v0 v1 v2 : View) (b : Book) → CountsNow v2 → StaysThroughout texts shelf v0 v1 → IsFoundOne texts shelf v0 b
    → Throughout texts shelf b (opened_book shelf scripts b) v1 v2 → OpensThroughout texts shelf scripts v0 v2
opening_stays texts shelf scripts v0 v1 v2 b counts stays found throughout before after k held =
    let first = leaves_map v0 v1 (Held k) (HeldOpened k scripts) (λ image h. inl h) (stays before after k held) in
    ⊎_elim
    (λ is.
    let l = opens_from texts shelf scripts b before v1 v2 is throughout in
    record {
      moments = leaves_then v0 v1 v2 (HeldOpened k scripts) first (leaves_map v1 v2 (Held l.0) (HeldOpened k scripts) (λ image h. inr (inl (l.0, h))) l.1);
      stands = inr (inl (l.0, left_now v1 v2 (Held l.0) counts l.1));
    })
    (λ is.
    let l = opens_from texts shelf scripts b after v1 v2 is throughout in
    record {
      moments = leaves_then v0 v1 v2 (HeldOpened k scripts) first (leaves_map v1 v2 (Held l.0) (HeldOpened k scripts) (λ image h. inr (inr (l.0, h))) l.1);
      stands = inr (inr (l.0, left_now v1 v2 (Held l.0) counts l.1));
    })
    (found before after k held)

-- a record is added, or a file gives place to another, after what makes room for it
pub written : (f : ℕ) (bodies : List (List ℕ)) (texts : Texts) (shelf : ℕ) (before after : Book) (v0 v1 v2 : View) (t : Flight) → OnlyNow v0 → ((image : List ℕ) → v0.images image → IsClosed f bodies image)
    → (k : Between texts shelf before after) → Carries f bodies t k → NoNewImage v0 v1 → Elapses v0 v1 → LeavesOnly v1 v2 (Hold f bodies t) → Throughout texts shelf before after v0 v2
written f bodies texts shelf before after v0 v1 v2 t only_now closed k carries no_new time run =
    let here : LeavesOnly v1 v2 (Held k) = leaves_map v1 v2 (Hold f bodies t) (Held k) (carried f bodies t k carries) run in
    (k, closed_then f bodies v0 v1 v2 only_now closed no_new time k carries.format carries.bodies_are here)

-- what a call left
pub left_standing : (texts : Texts) (shelf n : ℕ) (before after b : Book) (v0 v1 : View) → CountsNow v1
    → Throughout texts shelf before after v0 v1 → reopened before ≡ reopened b → reopened after ≡ reopened (if_kept n b) → (t : Stands texts shelf v1 b) × (t.0 ≡ n)
left_standing texts shelf n before after b v0 v1 counts (k, run) first second =
    let l = (stand_alike texts shelf).1 before after b (if_kept n b) first second k in
    ((n, (l.0, λ image left. carried k.format k.bodies k.flight l.0 l.1 image (run.each image (counts v0.moment image run.later left)))), refl)
