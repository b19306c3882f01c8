-- States that are given alike to the pages of a book.
use Rattle.std.proofs.Common.{◌≡◌, ◌∙◌, sym, subst, ℕ, List, [], ◌∷◌, map, ◌==◌, Bool, true, false, Option, Some, None, refl, arith}
use Rattle.std.proofs.lemmas.Bool.Decides.{nat_tests}
use Rattle.std.proofs.lemmas.Option.{none-some}
use Rattle.std.specs.List.{AllByRecursion}
use Rattle.script_nodes.specs.Setup.{Named}
use Rattle.replay_spec.specs.Book.{Page, Instance, instance_at, page_at, parent_of}
use Rattle.replay_spec.specs.Invariant.{Apart, AreAncestors}
use Rattle.replay_spec.proofs.Numbered.{number_of, first_there, later_there}
use Rattle.machine_states.specs.Machine.{Suspended}
use Rattle.book_recovery.specs.InstanceBook.KeptStates.Kept.{Kept}
use Rattle.book_recovery.specs.InstanceBook.declared.numbered.Numbered.{Numbered}
use Rattle.book_recovery.specs.InstanceBook.declared.page.KeptPage.{KeptPage}
use Rattle.book_recovery.specs.InstanceBook.declared.instance.KeptInstance.{KeptInstance}
use Rattle.book_recovery.specs.InstanceBook.declared.book.Book.{Book}
use Rattle.book_recovery.specs.InstanceBook.Views.{page_of, pages_of, instance_of, instances_of, script_in}
use Rattle.book_recovery.specs.InstanceBook.Places.{given, shown_of, IsKeptBehind, HaveStates, IsKept}
use Rattle.book_recovery.specs.InstanceBook.Makes.{HasStatesFrom}

module _ (f g : ℕ → Option Suspended) where
  -- these pages are given the same
  abbrev AreAlike : List Page → Type 0
  AreAlike ps = (n : ℕ) (p : Page) → page_at n ps ≡ Some p → g n ≡ f n

  parent_alike : (ps : List Page) → AreAlike ps → (parent : Option ℕ) (q : Page) → parent_of ps parent ≡ Some q → g q.number ≡ f q.number
  parent_alike ps alike None q is = absurd (none-some q is)
  parent_alike ps alike (Some n) q is = subst (λ (m : ℕ). g m ≡ f m) (sym (number_of (λ (p : Page). p.number) n ps q is)) (alike n q is)

  alike_behind : (s : Named) (ps : List Page) → AreAlike ps → (p : Page) (older : List Page) → AreAncestors ps p older → (d : Suspended) (x : Kept) → IsKeptBehind s (given f) older d x → IsKeptBehind s (given g) older d x
  alike_behind s ps alike p [] are d x kept = kept
  alike_behind s ps alike p (q ∷ older) are d x kept = (kept.0, ((parent_alike ps alike p.parent q are.0 ∙ kept.1.0.0, kept.1.0.1), kept.1.1))

  later_alike : (p : Page) (ps : List Page) → AreAlike (p ∷ ps) → AreAlike ps
  later_alike p ps alike n q shown = by_test (p.number == n) refl
    where
      by_test : (t : Bool) → (p.number == n) ≡ t → g n ≡ f n
      by_test true same =
          let here : p.number ≡ n = grind (arith, nat_tests, same) in subst (λ (m : ℕ). g m ≡ f m) here (alike p.number p (first_there (λ (q : Page). q.number) p ps))
      by_test false other = alike n q (grind (arith, nat_tests, other, shown))

  alike_pages : (s : Named) (ps : List Page) → AreAlike ps → (xs : List (Numbered KeptPage)) → AreAlike (map page_of xs) → HaveStates s (given f) ps (map shown_of xs) → HaveStates s (given g) ps (map shown_of xs)
  alike_pages s ps alike [] there all = tt
  alike_pages s ps alike (x ∷ xs) there all =
      let has = all.0 in (
        record {
          lineage = has.lineage;
          state = has.state;
          its = (there x.number (page_of x) (first_there (λ (q : Page). q.number) (page_of x) (map page_of xs)) ∙ has.its.0, has.its.1);
          bytes = has.bytes;
          kept = alike_behind s ps alike (page_of x) has.lineage.ancestors has.lineage.are has.state _ has.kept;
        },
        alike_pages s ps alike xs (later_alike (page_of x) (map page_of xs) there) all.1,
      )

  alike_instances : (scripts : List Named) (xs : List (Numbered KeptInstance)) → Apart (map (instance_of scripts) xs)
      → ((k : ℕ) (i : Instance) → instance_at k (map (instance_of scripts) xs) ≡ Some i → AreAlike i.pages)
      → AllByRecursion (IsKept scripts (given f)) xs → AllByRecursion (IsKept scripts (given g)) xs
  alike_instances scripts [] apart alike all = tt
  alike_instances scripts (x ∷ xs) apart alike all =
      let i = instance_of scripts x in
      let rest = map (instance_of scripts) xs in
      let same : AreAlike i.pages = alike i.number i (first_there (λ (j : Instance). j.number) i rest) in (
        record { placed = all.0.placed; states = alike_pages (script_in scripts x.item.script) (pages_of x.item.pages) same x.item.pages.things.items same all.0.states },
        alike_instances scripts xs apart.1 (λ n j found. alike n j (later_there (λ (y : Instance). y.number) n i j rest apart.0 found)) all.1,
      )

  pub alike_given : (scripts : List Named) (b : Book) → Apart (instances_of scripts b.instances)
      → ((k n : ℕ) (i : Instance) (p : Page) → instance_at k (instances_of scripts b.instances) ≡ Some i → page_at n i.pages ≡ Some p → g n ≡ f n)
      → HasStatesFrom (given f) scripts b → HasStatesFrom (given g) scripts b
  alike_given scripts b apart alike all = alike_instances scripts b.instances.things.items apart (λ k i found n p shown. alike k n i p found shown) all
