-- How often the disks of shelves have failed.
use Rattle.std.proofs.Common.{◌≡◌, ap, ℕ, ◌+◌, ◌≤◌, zero, suc, true, List, [], ◌∷◌, slice_get, slice_set, Some, None, arith}
use Rattle.std.specs.Prelude.{sum_by}
use Rattle.std.proofs.lemmas.List.Sums.{sum_by-cons}
use Rattle.web_outside.specs.Causes.{Rose}
use Rattle.web_outside.specs.declared.nonces.Counting.{Counting}
use Rattle.web_disk.specs.View.{View}
use Rattle.replay_spec.specs.Step.{Reply}
use Rattle.replay_spec.specs.Step as reply
use Rattle.shelf.specs.Views.{fate_by}
use Rattle.shelf.specs.Events.{TellsCount}
use Rattle.shelf.specs.declared.shelf.Shelf.{Shelf}
use Rattle.play_desk.specs.Desk.{is_fault}
use Rattle.play_desk.specs.Staff.{RoseBeside, faults_in, total}

-- a sum where one of its terms is another
sum_set : {A : Type 0} (f : A → ℕ) (xs : List A) (k : ℕ) (x y : A) → slice_get xs k ≡ Some x
    → sum_by f (slice_set xs k y) + f x ≡ sum_by f xs + f y
sum_set f [] k x y e = absurd (let no : None ≡ Some x = e in cc)
sum_set f (z ∷ xs) zero x y e =
    let same : z ≡ x = cc in
    let new : sum_by f (slice_set (z ∷ xs) zero y) ≡ f y + sum_by f xs = sum_by-cons f y xs in
    let old : sum_by f (z ∷ xs) ≡ f z + sum_by f xs = sum_by-cons f z xs in
    omega (arith, new, old, ap f same)
sum_set f (z ∷ xs) (suc k) x y e =
    let rest = sum_set f xs k x y e in
    let new : sum_by f (slice_set (z ∷ xs) (suc k) y) ≡ f z + sum_by f (slice_set xs k y) = sum_by-cons f z (slice_set xs k y) in
    let old : sum_by f (z ∷ xs) ≡ f z + sum_by f xs = sum_by-cons f z xs in
    omega (arith, rest, new, old)

-- a term is at most the sum
term_within : {A : Type 0} (f : A → ℕ) (xs : List A) (k : ℕ) (x : A) → slice_get xs k ≡ Some x → f x ≤ sum_by f xs
term_within f [] k x e = absurd (let no : None ≡ Some x = e in cc)
term_within f (z ∷ xs) zero x e =
    let same : z ≡ x = cc in
    let old : sum_by f (z ∷ xs) ≡ f z + sum_by f xs = sum_by-cons f z xs in
    omega (arith, old, ap f same)
term_within f (z ∷ xs) (suc k) x e =
    let rest = term_within f xs k x e in
    let old : sum_by f (z ∷ xs) ≡ f z + sum_by f xs = sum_by-cons f z xs in
    omega (arith, rest, old)

pub faults_set : {D : Type 0} (view : D → View) (xs : List (Shelf D Counting)) (k : ℕ) (x y : Shelf D Counting) → slice_get xs k ≡ Some x
    → faults_in view (slice_set xs k y) + (view x.journal.disk).faults ≡ faults_in view xs + (view y.journal.disk).faults
faults_set view xs k x y here = sum_set (λ s. (view s.journal.disk).faults) xs k x y here

pub faults_later : {D : Type 0} (view : D → View) (xs : List (Shelf D Counting)) (k : ℕ) (x y : Shelf D Counting) → slice_get xs k ≡ Some x
    → (view x.journal.disk).faults ≤ (view y.journal.disk).faults → faults_in view xs ≤ faults_in view (slice_set xs k y)
faults_later view xs k x y here le = (let same = faults_set view xs k x y here in omega (arith, same, le))

rises : (a b x y rack : ℕ) → b + x ≡ a + y → x ≤ a → Rose x y → Rose (total rack a) (total rack b)
rises a b x y rack same within rose = omega (arith, same, within, rose)

-- one disk failed, whatever the others did
pub faults_rise : {D : Type 0} (view : D → View) (xs : List (Shelf D Counting)) (k : ℕ) (x y : Shelf D Counting) → slice_get xs k ≡ Some x
    → Rose (view x.journal.disk).faults (view y.journal.disk).faults → RoseBeside (faults_in view xs) (faults_in view (slice_set xs k y))
faults_rise view xs k x y here rose = λ rack.
    rises (faults_in view xs) (faults_in view (slice_set xs k y)) (view x.journal.disk).faults (view y.journal.disk).faults rack
    (faults_set view xs k x y here) (term_within (λ s. (view s.journal.disk).faults) xs k x here) rose

-- a fault that is told rose
pub told_rise : (before now : ℕ) (r : Reply) → TellsCount before now r → is_fault (fate_by r) ≡ true → Rose before now
told_rise before now (reply.disk_failed count) told e = told.1
told_rise before now (reply.taken number nonce) told e = absurd (let no : ⊥ = cc in no)
told_rise before now (reply.shown page url) told e = absurd (let no : ⊥ = cc in no)
told_rise before now (reply.finished page) told e = absurd (let no : ⊥ = cc in no)
told_rise before now (reply.ended page) told e = absurd (let no : ⊥ = cc in no)
told_rise before now (reply.refusal why) told e = absurd (let no : ⊥ = cc in no)
told_rise before now (reply.fault why) told e = absurd (let no : ⊥ = cc in no)
told_rise before now (reply.out_of_fuel cost) told e = absurd (let no : ⊥ = cc in no)
told_rise before now (reply.shelf_full count) told e = absurd (let no : ⊥ = cc in no)
told_rise before now (reply.down count) told e = absurd (let no : ⊥ = cc in no)
told_rise before now (reply.oversize length) told e = absurd (let no : ⊥ = cc in no)
told_rise before now (reply.journal_full length) told e = absurd (let no : ⊥ = cc in no)
told_rise before now (reply.compacted length) told e = absurd (let no : ⊥ = cc in no)
told_rise before now reply.following told e = absurd (let no : ⊥ = cc in no)
told_rise before now reply.worn told e = absurd (let no : ⊥ = cc in no)
told_rise before now reply.memory told e = absurd (let no : ⊥ = cc in no)
told_rise before now (reply.swept count) told e = absurd (let no : ⊥ = cc in no)
told_rise before now (reply.live count) told e = absurd (let no : ⊥ = cc in no)
