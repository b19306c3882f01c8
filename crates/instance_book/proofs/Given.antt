-- States that are given to more pages.
use Rattle.std.proofs.Common.{◌≡◌, ◌∙◌, sym, subst, ℕ, List, [], ◌∷◌, map, Option, Some, None, arith}
use Rattle.std.proofs.lemmas.Bool.Decides.{nat_tests}
use Rattle.std.proofs.lemmas.Option.{none-some}
use Rattle.std.specs.List.{AllByRecursion}
use Rattle.script_nodes.specs.Setup.{Named}
use Rattle.journal_records.specs.ReplaySpec.Book.{Page, Instance, instance_at, page_at, parent_of}
use Rattle.journal_records.specs.ReplaySpec.Invariant.{Apart, AreAncestors}
use Rattle.journal_records.proofs.ReplaySpec.Numbered.{number_of, first_there, later_there}
use Rattle.kept_states.specs.MachineStates.Machine.{Suspended}
use Rattle.kept_states.specs.Kept.{Kept}
use Rattle.instance_book.specs.declared.numbered.Numbered.{Numbered}
use Rattle.instance_book.specs.declared.page.KeptPage.{KeptPage}
use Rattle.instance_book.specs.declared.instance.KeptInstance.{KeptInstance}
use Rattle.instance_book.specs.declared.book.Book.{Book}
use Rattle.instance_book.specs.Views.{page_of, pages_of, instance_of, instances_of, script_in}
use Rattle.instance_book.specs.Places.{Source, given, shown_of, shown_in, IsKeptBehind, HaveStates, IsKept, IsPlaced}
use Rattle.instance_book.specs.Makes.{HasPlaces, HasStatesFrom, HasSomeStates}

-- what is given to a page stays so
module _ (f g : ℕ → Option Suspended) (more : (n : ℕ) (d : Suspended) → f n ≡ Some d → g n ≡ Some d) where
  more_behind : (s : Named) (older : List Page) (d : Suspended) (k : Kept) → IsKeptBehind s (given f) older d k → IsKeptBehind s (given g) older d k
  more_behind s [] d k kept = kept
  more_behind s (q ∷ older) d k kept = (kept.0, ((more q.number kept.0 kept.1.0.0, kept.1.0.1), kept.1.1))

  more_pages : (s : Named) (ps : List Page) (xs : List (Page × Kept)) → HaveStates s (given f) ps xs → HaveStates s (given g) ps xs
  more_pages s ps [] all = tt
  more_pages s ps (x ∷ xs) all =
      let has = all.0 in (
        record {
          lineage = has.lineage;
          state = has.state;
          its = (more x.0.number has.state has.its.0, has.its.1);
          bytes = has.bytes;
          kept = more_behind s has.lineage.ancestors has.state x.1 has.kept;
        },
        more_pages s ps xs all.1,
      )

  more_instances : (scripts : List Named) (xs : List (Numbered KeptInstance)) → AllByRecursion (IsKept scripts (given f)) xs → AllByRecursion (IsKept scripts (given g)) xs
  more_instances scripts [] all = tt
  more_instances scripts (x ∷ xs) all =
      (record { placed = all.0.placed; states = more_pages (script_in scripts x.item.script) (pages_of x.item.pages) (shown_in x.item.pages) all.0.states }, more_instances scripts xs all.1)

  pub more_given : (scripts : List Named) (b : Book) → HasStatesFrom (given f) scripts b → HasStatesFrom (given g) scripts b
  more_given scripts b all = more_instances scripts b.instances.things.items all

-- ---- what is given to a number that no page has

module _ (k : ℕ) where
  is_other : (ps : List Page) (parent : Option ℕ) (q : Page) → page_at k ps ≡ None → parent_of ps parent ≡ Some q → q.number ≡ k → ⊥
  is_other ps None q absent is same = none-some q is
  is_other ps (Some n) q absent is same =
      let here : n ≡ k = sym (number_of (λ (p : Page). p.number) n ps q is) ∙ same in
      none-some q (sym absent ∙ subst (λ (m : ℕ). page_at m ps ≡ Some q) here is)

  not_first : (p : Page) (ps : List Page) → page_at k (p ∷ ps) ≡ None → p.number ≡ k → ⊥
  not_first p ps absent same = none-some p (grind (arith, nat_tests, absent, same))

  not_later : (p : Page) (ps : List Page) → page_at k (p ∷ ps) ≡ None → page_at k ps ≡ None
  not_later p ps absent = grind (arith, nat_tests, absent, not_first p ps absent)

  module _ (f g : ℕ → Option Suspended) (other : (n : ℕ) (d : Suspended) → (n ≡ k → ⊥) → f n ≡ Some d → g n ≡ Some d) where
    other_behind : (s : Named) (ps : List Page) → page_at k ps ≡ None → (p : Page) (older : List Page) → AreAncestors ps p older → (d : Suspended) (x : Kept) → IsKeptBehind s (given f) older d x
        → IsKeptBehind s (given g) older d x
    other_behind s ps absent p [] are d x kept = kept
    other_behind s ps absent p (q ∷ older) are d x kept = (kept.0, ((other q.number kept.0 (is_other ps p.parent q absent are.0) kept.1.0.0, kept.1.0.1), kept.1.1))

    other_pages : (s : Named) (ps : List Page) → page_at k ps ≡ None → (xs : List (Numbered KeptPage)) → page_at k (map page_of xs) ≡ None → HaveStates s (given f) ps (map shown_of xs)
        → HaveStates s (given g) ps (map shown_of xs)
    other_pages s ps absent [] none all = tt
    other_pages s ps absent (x ∷ xs) none all =
        let has = all.0 in (
          record {
            lineage = has.lineage;
            state = has.state;
            its = (other x.number has.state (not_first (page_of x) (map page_of xs) none) has.its.0, has.its.1);
            bytes = has.bytes;
            kept = other_behind s ps absent (page_of x) has.lineage.ancestors has.lineage.are has.state _ has.kept;
          },
          other_pages s ps absent xs (not_later (page_of x) (map page_of xs) none) all.1,
        )

    other_instances : (scripts : List Named) (xs : List (Numbered KeptInstance)) → Apart (map (instance_of scripts) xs)
        → ((n : ℕ) (i : Instance) → instance_at n (map (instance_of scripts) xs) ≡ Some i → page_at k i.pages ≡ None)
        → AllByRecursion (IsKept scripts (given f)) xs → AllByRecursion (IsKept scripts (given g)) xs
    other_instances scripts [] apart absent all = tt
    other_instances scripts (x ∷ xs) apart absent all =
        let i = instance_of scripts x in
        let rest = map (instance_of scripts) xs in
        let none : page_at k i.pages ≡ None = absent i.number i (first_there (λ (j : Instance). j.number) i rest) in (
          record { placed = all.0.placed; states = other_pages (script_in scripts x.item.script) (pages_of x.item.pages) none x.item.pages.things.items none all.0.states },
          other_instances scripts xs apart.1 (λ n j found. absent n j (later_there (λ (y : Instance). y.number) n i j rest apart.0 found)) all.1,
        )

    pub other_given : (scripts : List Named) (b : Book) → Apart (instances_of scripts b.instances)
        → ((n : ℕ) (i : Instance) → instance_at n (instances_of scripts b.instances) ≡ Some i → page_at k i.pages ≡ None) → HasStatesFrom (given f) scripts b → HasStatesFrom (given g) scripts b
    other_given scripts b apart absent all = other_instances scripts b.instances.things.items apart absent all

-- ---- instances whose pages have states are of scripts of the setup

placed_all : (scripts : List Named) (shelf : Source ℕ) (xs : List (Numbered KeptInstance)) → AllByRecursion (IsKept scripts shelf) xs → AllByRecursion (IsPlaced scripts) xs
placed_all scripts shelf [] all = tt
placed_all scripts shelf (x ∷ xs) all = (all.0.placed, placed_all scripts shelf xs all.1)

pub places_of : (scripts : List Named) (b : Book) → HasSomeStates scripts b → HasPlaces scripts b
places_of scripts b some = placed_all scripts (given some.0) b.instances.things.items some.1
