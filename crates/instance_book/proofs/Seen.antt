-- Things in the order of their numbers, as the definitions see them.
use Rattle.std.proofs.Common.{◌≡◌, ◌∙◌, ap, sym, subst, ℕ, zero, suc, ◌<◌, ◌≤◌, ◌+◌, ◌==◌, not, List, [], ◌∷◌, ◌++◌, length, get_or, set, take, map, filter, Option, Some, None, option_map, refl, arith, Bool, IfSome}
use Rattle.std.specs.Borrow.{Bor}
use Rattle.std.specs.Option.{option_copied}
use Rattle.std.specs.List.{AllByRecursion}
use Rattle.std.proofs.lemmas.Bool.Decides.{nat_tests}
use Rattle.std.proofs.lemmas.List.{map-append}
use Rattle.script_nodes.specs.Setup.{Named, Library}
use Rattle.journal_records.specs.ReplaySpec.Book.{Page, Instance, at_number, instance_at, page_at}
use Rattle.journal_records.specs.ReplaySpec.Change.{put_in_order, put_page, put_instance, mend, without}
use Rattle.journal_records.specs.ReplaySpec.Marks.{number_of, mark_at}
use Rattle.instance_book.specs.declared.numbered.Numbered.{Numbered}
use Rattle.instance_book.specs.declared.page.KeptPage.{KeptPage}
use Rattle.instance_book.specs.declared.instance.KeptInstance.{KeptInstance}
use Rattle.instance_book.specs.Orders.{Rises, IsAt, numbers_of}
use Rattle.instance_book.specs.declared.book.Book.{Book}
use Rattle.instance_book.specs.Views.{page_of, mark_of, instance_of, Beside, book_of}
use Rattle.instance_book.specs.Swept.{cells_in, cells_at}
use Rattle.kept_states.specs.Kept.{Kept}
use Rattle.instance_book.specs.Places.{shown_of}
use Rattle.instance_book.proofs.Orders.{Ascends, rises, ascends}
use Rattle.instance_book.proofs.Lists.{within}

-- what stands after a reference that may be none
copied : {A B : Type 0} (f : A → B) (r : Option (Bor A)) → option_map (λ v. f v.now) r ≡ option_map f (option_copied r)
copied f None = refl
copied f (Some x) = refl

module _ {T B : Type 0} (number_of : B → ℕ) (view : Numbered T → B) (same : (x : Numbered T) → number_of (view x) ≡ x.number) where
  seen_at : (n : ℕ) (xs : List (Numbered T)) → at_number number_of n (map view xs) ≡ option_map view (at_number (λ thing. thing.number) n xs)
  seen_at n [] = refl
  seen_at n (x ∷ xs) = grind (arith, nat_tests, same x, seen_at n xs)

  pub seen_put : (x : Numbered T) (xs : List (Numbered T)) → map view (put_in_order (λ thing. thing.number) x xs) ≡ put_in_order number_of (view x) (map view xs)
  seen_put x [] = refl
  seen_put x (y ∷ ys) = grind (arith, nat_tests, same x, same y, seen_put x ys)

  pub found : (n : ℕ) (xs : List (Numbered T)) (r : Option (Bor (Numbered T))) → option_copied r ≡ at_number (λ thing. thing.number) n xs
      → option_map (λ v. view v.now) r ≡ at_number number_of n (map view xs)
  found n xs r h = copied view r ∙ (ap (option_map view) h ∙ sym (seen_at n xs))

  pub seen_none : (n : ℕ) (xs : List (Numbered T)) → at_number (λ thing. thing.number) n xs ≡ None → at_number number_of n (map view xs) ≡ None
  seen_none n xs h = seen_at n xs ∙ ap (option_map view) h

  pub seen_some : (n : ℕ) (xs : List (Numbered T)) (x : Numbered T) → at_number (λ thing. thing.number) n xs ≡ Some x → at_number number_of n (map view xs) ≡ Some (view x)
  seen_some n xs x h = seen_at n xs ∙ ap (option_map view) h

  -- the numbers, and copies that rise as their sources do
  numbers_seen : (xs : List (Numbered T)) → numbers_of xs ≡ map number_of (map view xs)
  numbers_seen [] = refl
  numbers_seen (x ∷ xs) = cc (same x, numbers_seen xs)

  pub same_numbers : (xs ys : List (Numbered T)) → map view xs ≡ map view ys → numbers_of xs ≡ numbers_of ys
  same_numbers xs ys e = numbers_seen xs ∙ (ap (map number_of) e ∙ sym (numbers_seen ys))

-- pages
pub page_seen : (n : ℕ) (xs : List (Numbered KeptPage)) (r : Option (Bor (Numbered KeptPage))) → option_copied r ≡ at_number (λ thing. thing.number) n xs
    → option_map (λ p. page_of p.now) r ≡ page_at n (map page_of xs)
page_seen n xs r h = found (λ (p : Page). p.number) page_of (λ x. refl) n xs r h

pub page_put : (x : Numbered KeptPage) (xs : List (Numbered KeptPage)) → map page_of (put_in_order (λ thing. thing.number) x xs) ≡ put_page (page_of x) (map page_of xs)
page_put x xs = seen_put (λ (p : Page). p.number) page_of (λ y. refl) x xs

-- pages with their states
pub shown_seen : (n : ℕ) (xs : List (Numbered KeptPage)) (r : Option (Bor (Numbered KeptPage))) → option_copied r ≡ at_number (λ thing. thing.number) n xs
    → option_map (λ p. shown_of p.now) r ≡ at_number (λ (x : Page × Kept). x.0.number) n (map shown_of xs)
shown_seen n xs r h = found (λ (x : Page × Kept). x.0.number) shown_of (λ x. refl) n xs r h

pub shown_put : (x : Numbered KeptPage) (xs : List (Numbered KeptPage))
    → map shown_of (put_in_order (λ thing. thing.number) x xs) ≡ put_in_order (λ (y : Page × Kept). y.0.number) (shown_of x) (map shown_of xs)
shown_put x xs = seen_put (λ (y : Page × Kept). y.0.number) shown_of (λ y. refl) x xs

-- marks of pages
pub mark_seen : (n : ℕ) (xs : List (Numbered KeptPage)) (r : Option (Bor (Numbered KeptPage))) → option_copied r ≡ at_number (λ thing. thing.number) n xs
    → option_map (λ p. mark_of p.now) r ≡ mark_at n (map mark_of xs)
mark_seen n xs r h = found number_of mark_of (λ x. refl) n xs r h

pub mark_none : (n : ℕ) (xs : List (Numbered KeptPage)) → at_number (λ thing. thing.number) n xs ≡ None → mark_at n (map mark_of xs) ≡ None
mark_none n xs h = seen_none number_of mark_of (λ x. refl) n xs h

pub mark_put : (x : Numbered KeptPage) (xs : List (Numbered KeptPage)) → map mark_of (put_in_order (λ thing. thing.number) x xs) ≡ put_in_order number_of (mark_of x) (map mark_of xs)
mark_put x xs = seen_put number_of mark_of (λ y. refl) x xs

pub pages_numbered : (xs : List (Numbered KeptPage)) → numbers_of xs ≡ map (λ (p : Page). p.number) (map page_of xs)
pages_numbered xs = numbers_seen (λ (p : Page). p.number) page_of (λ y. refl) xs

pub rises_with_pages : (xs ys : List (Numbered KeptPage)) → map page_of xs ≡ map page_of ys → Rises (numbers_of ys) → Rises (numbers_of xs)
rises_with_pages xs ys e rise = subst Rises (sym (same_numbers (λ (p : Page). p.number) page_of (λ y. refl) xs ys e)) rise

-- instances, under a setup
module _ (scripts : List Named) where
  abbrev view : Numbered KeptInstance → Instance
  view i = instance_of scripts i

  pub instance_seen : (n : ℕ) (xs : List (Numbered KeptInstance)) (r : Option (Bor (Numbered KeptInstance))) → option_copied r ≡ at_number (λ thing. thing.number) n xs
      → option_map (λ i. instance_of scripts i.now) r ≡ instance_at n (map (instance_of scripts) xs)
  instance_seen n xs r h = found (λ (i : Instance). i.number) view (λ x. refl) n xs r h

  pub instance_some : (n : ℕ) (xs : List (Numbered KeptInstance)) (x : Numbered KeptInstance) → at_number (λ thing. thing.number) n xs ≡ Some x → instance_at n (map (instance_of scripts) xs) ≡ Some (instance_of scripts x)
  instance_some n xs x h = seen_some (λ (i : Instance). i.number) view (λ y. refl) n xs x h

  pub instance_none : (n : ℕ) (xs : List (Numbered KeptInstance)) → at_number (λ thing. thing.number) n xs ≡ None → instance_at n (map (instance_of scripts) xs) ≡ None
  instance_none n xs h = seen_none (λ (i : Instance). i.number) view (λ y. refl) n xs h

  pub instance_put : (x : Numbered KeptInstance) (xs : List (Numbered KeptInstance)) → map (instance_of scripts) (put_in_order (λ thing. thing.number) x xs) ≡ put_instance (instance_of scripts x) (map (instance_of scripts) xs)
  instance_put x xs = seen_put (λ (i : Instance). i.number) view (λ y. refl) x xs

  pub seen_without : (n : ℕ) (xs : List (Numbered KeptInstance)) → map (instance_of scripts) (filter (λ thing. not (thing.number == n)) xs) ≡ without n (map (instance_of scripts) xs)
  seen_without n [] = refl
  seen_without n (x ∷ xs) = grind (arith, nat_tests, seen_without n xs)

  pub seen_kept : (p : Instance → Bool) (xs : List (Numbered KeptInstance)) → map (instance_of scripts) (filter (λ x. p (instance_of scripts x)) xs) ≡ filter p (map (instance_of scripts) xs)
  seen_kept p [] = refl
  seen_kept p (x ∷ xs) = grind (arith, nat_tests, seen_kept p xs)

  -- the one of a number is changed at its place, or nothing is
  mended_at : (xs : List (Numbered KeptInstance)) (n place : ℕ) (f : Instance → Instance) (x y : Numbered KeptInstance) → Ascends (numbers_of xs) → IsAt (numbers_of xs) n place
      → x ≡ get_or xs place x → y.number ≡ x.number → view y ≡ f (view x) → map view (set xs place y) ≡ mend n f (map view xs)
  mended_at [] n place f x y a at is number seen = absurd (omega (arith, at.within))
  mended_at (z ∷ zs) n zero f x y a at is number seen = grind (arith, nat_tests, at.here, is, number, seen)
  mended_at (z ∷ zs) n (suc k) f x y a at is number seen =
      let less : z.number < n = subst (λ m. z.number < m) at.here (rises (numbers_of (z ∷ zs)) a 0 (suc k) (omega arith) at.within) in
      grind (arith, nat_tests, mended_at zs n k f x y a.1 (record { within = omega (arith, at.within); here = at.here }) is number seen)

  pub mended : (xs : List (Numbered KeptInstance)) (n place : ℕ) (f : Instance → Instance) (x y : Numbered KeptInstance) → Rises (numbers_of xs) → IsAt (numbers_of xs) n place
      → x ≡ get_or xs place x → y.number ≡ x.number → instance_of scripts y ≡ f (instance_of scripts x) → map (instance_of scripts) (set xs place y) ≡ mend n f (map (instance_of scripts) xs)
  mended xs n place f x y rise at is number seen = mended_at xs n place f x y (ascends (numbers_of xs) rise) at is number seen

  mend_none : (n : ℕ) (f : Instance → Instance) (is : List Instance) → instance_at n is ≡ None → mend n f is ≡ is
  mend_none n f [] h = refl
  mend_none n f (i ∷ is) h = grind (arith, nat_tests, h, mend_none n f is)

  pub unmended : (xs : List (Numbered KeptInstance)) (n : ℕ) (f : Instance → Instance) → at_number (λ thing. thing.number) n xs ≡ None → map (instance_of scripts) xs ≡ mend n f (map (instance_of scripts) xs)
  unmended xs n f h = sym (mend_none n f (map view xs) (seen_none (λ (i : Instance). i.number) view (λ x. refl) n xs h))

  pub mend_nothing : (n : ℕ) (is : List Instance) → mend n (λ i. i) is ≡ is
  mend_nothing n [] = refl
  mend_nothing n (i ∷ is) = grind (arith, nat_tests, mend_nothing n is)

-- what holds of each
module _ {A : Type 0} (P : A → Type 0) where
  pub all_put : (number_of : A → ℕ) (x : A) (xs : List A) → P x → AllByRecursion P xs → AllByRecursion P (put_in_order number_of x xs)
  all_put number_of x [] p all = (p, tt)
  all_put number_of x (y ∷ ys) p all = grind (arith, nat_tests, p, all.0, all.1, all_put number_of x ys p all.1)

  pub all_kept : (p : A → Bool) (xs : List A) → AllByRecursion P xs → AllByRecursion P (filter p xs)
  all_kept p [] all = tt
  all_kept p (x ∷ xs) all = grind (arith, all.0, all.1, all_kept p xs all.1)

  pub all_set : (xs : List A) (place : ℕ) (x y : A) → x ≡ get_or xs place x → place < length xs → (P x → P y)
      → AllByRecursion P xs → AllByRecursion P (set xs place y)
  all_set [] place x y is h f all = absurd (omega arith)
  all_set (z ∷ zs) zero x y is h f all = (f (subst P (sym is) all.0), all.1)
  all_set (z ∷ zs) (suc k) x y is h f all = (all.0, all_set zs k x y is (omega arith) f all.1)

  pub all_at : (number_of : A → ℕ) (n : ℕ) (xs : List A) (x : A) → AllByRecursion P xs → at_number number_of n xs ≡ Some x → P x
  all_at number_of n [] x all h = absurd (cc)
  all_at number_of n (y ∷ ys) x all h = grind (arith, nat_tests, h, all.0, all_at number_of n ys x all.1)

  pub all_found : (number_of : A → ℕ) (n : ℕ) (xs : List A) (r : Option (Bor A)) → option_copied r ≡ at_number number_of n xs
      → AllByRecursion P xs → IfSome r (λ i. P i.now)
  all_found number_of n xs None h all = tt
  all_found number_of n xs (Some x) h all = all_at number_of n xs x.now all (sym h)

-- copies of things are as their sources, where this is told by what is seen of them
pub all_alike : {A B : Type 0} (P : A → Type 0) (view : A → B) → ((x y : A) → view x ≡ view y → P y → P x)
    → (xs ys : List A) → map view xs ≡ map view ys → AllByRecursion P ys → AllByRecursion P xs
all_alike P view f [] ys e all = tt
all_alike P view f (x ∷ xs) [] e all = absurd (cc)
all_alike P view f (x ∷ xs) (y ∷ ys) e all =
    let first : view x ≡ view y = cc in let rest : map view xs ≡ map view ys = cc in
    (f x y first all.0, all_alike P view f xs ys rest all.1)

-- the cells that are kept are those of the book
pub cells_seen : (library : Library) (beside : Beside) (n : ℕ) (b : Book) → cells_at n b ≡ cells_in n (book_of library beside b)
cells_seen library beside n b = kept b.instances.things.items
  where
    kept : (xs : List (Numbered KeptInstance)) → option_map (λ i. i.item.cells) (at_number (λ i. i.number) n xs) ≡ option_map (λ i. i.cells) (instance_at n (map (instance_of library.all) xs))
    kept [] = refl
    kept (x ∷ xs) = grind (arith, nat_tests, kept xs)

-- one copy more
taken_more : {A : Type 0} (xs : List A) (i : ℕ) (x : A) → i < length xs → x ≡ get_or xs i x → take (i + 1) xs ≡ take i xs ++ x ∷ []
taken_more [] i x h is = absurd (omega arith)
taken_more (y ∷ ys) zero x h is = ap (λ z. z ∷ []) (sym is)
taken_more (y ∷ ys) (suc i) x h is =
    let next : suc i + 1 ≡ suc (i + 1) = omega arith in rw next (ap (λ zs. y ∷ zs) (taken_more ys i x (omega arith) is))

pub copied_more : {A B : Type 0} (f : A → B) (xs ys : List A) (i : ℕ) (x y : A) → map f ys ≡ map f (take i xs) → i < length xs → x ≡ get_or xs i x → f y ≡ f x
    → map f (ys ++ y ∷ []) ≡ map f (take (i + 1) xs)
copied_more f xs ys i x y same h is e =
    map-append f ys (y ∷ []) ∙ (ap (λ zs. zs ++ f y ∷ []) same ∙ (ap (λ z. map f (take i xs) ++ z ∷ []) e ∙ (sym (map-append f (take i xs) (x ∷ [])) ∙ ap (map f) (sym (taken_more xs i x h is)))))

pub rises_with_instances : (xs ys : List (Numbered KeptInstance)) → map (instance_of []) xs ≡ map (instance_of []) ys → Rises (numbers_of ys) → Rises (numbers_of xs)
rises_with_instances xs ys e rise = subst Rises (sym (same_numbers (λ (i : Instance). i.number) (instance_of []) (λ y. refl) xs ys e)) rise

-- the order stays where a thing is changed in its place under its number
numbers_set : {T : Type 0} (xs : List (Numbered T)) (place : ℕ) (x y : Numbered T) → x ≡ get_or xs place x → place < length xs → y.number ≡ x.number → numbers_of (set xs place y) ≡ numbers_of xs
numbers_set [] place x y is h e = absurd (omega arith)
numbers_set (z ∷ zs) zero x y is h e = ap (λ n. n ∷ numbers_of zs) (e ∙ ap (λ (i : Numbered _). i.number) is)
numbers_set (z ∷ zs) (suc k) x y is h e = ap (λ ns. z.number ∷ ns) (numbers_set zs k x y is (omega arith) e)

pub rises_set : {T : Type 0} (xs : List (Numbered T)) (n place : ℕ) (x y : Numbered T) → Rises (numbers_of xs) → IsAt (numbers_of xs) n place → x ≡ get_or xs place x → y.number ≡ x.number → Rises (numbers_of (set xs place y))
rises_set xs n place x y rise at is e = subst Rises (sym (numbers_set xs place x y is (within xs n place at) e)) rise

-- the first of a number where it was written
pub first_set : {T : Type 0} (xs : List (Numbered T)) (n place : ℕ) (x y : Numbered T) → Rises (numbers_of xs) → IsAt (numbers_of xs) n place → x ≡ get_or xs place x → y.number ≡ x.number
    → at_number (λ thing. thing.number) n (set xs place y) ≡ Some y
first_set xs n place x y rise at is e = written xs place (ascends (numbers_of xs) rise) at is
  where
    written : (zs : List (Numbered _)) (k : ℕ) → Ascends (numbers_of zs) → IsAt (numbers_of zs) n k → x ≡ get_or zs k x → at_number (λ thing. thing.number) n (set zs k y) ≡ Some y
    written [] k a here this = absurd (omega (arith, here.within))
    written (z ∷ zs) zero a here this = grind (arith, nat_tests, here.here, this, e)
    written (z ∷ zs) (suc k) a here this =
        let less : z.number < n = subst (λ m. z.number < m) here.here (rises (numbers_of (z ∷ zs)) a 0 (suc k) (omega arith) here.within) in
        grind (arith, nat_tests, written zs k a.1 (record { within = omega (arith, here.within); here = here.here }) this)

-- what is seen stays where a thing is changed in its place and seen as before
pub seen_set : {A B : Type 0} (view : A → B) (xs : List A) (place : ℕ) (x y : A) → x ≡ get_or xs place x → place < length xs → view y ≡ view x → map view (set xs place y) ≡ map view xs
seen_set view [] place x y is h e = absurd (omega arith)
seen_set view (z ∷ zs) zero x y is h e = ap (λ v. v ∷ map view zs) (e ∙ ap view is)
seen_set view (z ∷ zs) (suc k) x y is h e = ap (λ vs. view z ∷ vs) (seen_set view zs k x y is (omega arith) e)

-- how many there are
pub length_seen : {T B : Type 0} (view : Numbered T → B) (xs : List (Numbered T)) → length (map view xs) ≡ length xs
length_seen view [] = refl
length_seen view (x ∷ xs) = ap suc (length_seen view xs)

pub same_length : (xs ys : List (Numbered KeptInstance)) → map (instance_of []) xs ≡ map (instance_of []) ys → length xs ≡ length ys
same_length xs ys e = sym (length_seen (instance_of []) xs) ∙ (ap (λ (is : List Instance). length is) e ∙ length_seen (instance_of []) ys)

pub length_mend : (n : ℕ) (f : Instance → Instance) (is : List Instance) → length (mend n f is) ≡ length is
length_mend n f [] = refl
length_mend n f (i ∷ is) = grind (arith, nat_tests, length_mend n f is)

pub length_put : (i : Instance) (is : List Instance) → length (put_instance i is) ≤ length is + 1
length_put i [] = omega arith
length_put i (j ∷ js) = grind (arith, nat_tests, length_put i js)

pub length_kept : {A : Type 0} (p : A → Bool) (is : List A) → length (filter p is) ≤ length is
length_kept p [] = omega arith
length_kept p (i ∷ is) = grind (arith, nat_tests, length_kept p is)

-- two changes of the instance that is there which agree on it
pub mend_agrees : (n : ℕ) (f g : Instance → Instance) (is : List Instance) (i : Instance) → instance_at n is ≡ Some i → f i ≡ g i → mend n f is ≡ mend n g is
mend_agrees n f g [] i h e = refl
mend_agrees n f g (j ∷ js) i h e = grind (arith, nat_tests, h, e, mend_agrees n f g js i)
