-- A library with one setup more.
use Rattle.std.proofs.Common.{◌≡◌, ap, sym, subst, ℕ, zero, suc, ◌<◌, List, [], ◌∷◌, ◌++◌, length, map, refl, arith, length-append}
use Rattle.std.specs.List.{AllByRecursion}
use Rattle.script_nodes.specs.Arena.{IsScript, script_of}
use Rattle.script_nodes.specs.Setup.{Named}
use Rattle.script_nodes.specs.Views.{named_of}
use Rattle.script_nodes.specs.declared.setup.NamedScript.{NamedScript}
use Rattle.script_nodes.proofs.Scripts.{arena_again}
use Rattle.book_redo.specs.JournalSpec.Whole.{IsWhole, AreWhole}
use Rattle.book_redo.specs.InstanceBook.declared.numbered.Numbered.{Numbered}
use Rattle.book_redo.specs.InstanceBook.declared.instance.KeptInstance.{KeptInstance}
use Rattle.book_redo.specs.InstanceBook.declared.book.Book.{Book}
use Rattle.book_redo.specs.InstanceBook.Views.{script_in, instance_of, instances_of, pages_of}
use Rattle.book_redo.specs.InstanceBook.Places.{Source, source_in, shown_in, HaveStates, IsKept, IsPlaced}
use Rattle.book_redo.specs.InstanceBook.Makes.{HasPlaces, HasStatesFrom}
use Rattle.std.specs.Bool.{⊤}

-- a script of the program can be run
pub whole_named : (s : NamedScript) → IsScript s.script → IsWhole (named_of s)
whole_named s script =
    let same = arena_again s.script script in
    record { script = subst IsScript same script; means = ap script_of same }

module _ (more : List Named) where
  script_longer : (all : List Named) (k : ℕ) → k < length all → script_in (all ++ more) k ≡ script_in all k
  script_longer [] k low = absurd (omega (arith, low))
  script_longer (s ∷ all) zero low = refl
  script_longer (s ∷ all) (suc k) low = script_longer all k (omega (arith, low))

  module _ (all : List Named) where
    low_longer : (k : ℕ) → k < length all → k < length (all ++ more)
    low_longer k low = omega (arith, low, length-append all more)

    instance_longer : (i : Numbered KeptInstance) → IsPlaced all i → instance_of (all ++ more) i ≡ instance_of all i
    instance_longer i low = ap (λ (s : Named). record (instance_of all i) { script = s }) (script_longer all i.item.script low)

    each_longer : (xs : List (Numbered KeptInstance)) → AllByRecursion (IsPlaced all) xs → map (instance_of (all ++ more)) xs ≡ map (instance_of all) xs
    each_longer [] low = refl
    each_longer (x ∷ xs) low = λ i. instance_longer x low.0 i ∷ each_longer xs low.1 i

    placed_longer : (xs : List (Numbered KeptInstance)) → AllByRecursion (IsPlaced all) xs → AllByRecursion (IsPlaced (all ++ more)) xs
    placed_longer [] low = tt
    placed_longer (x ∷ xs) low = (low_longer x.item.script low.0, placed_longer xs low.1)

    kept_longer : (shelf : Source ℕ) (xs : List (Numbered KeptInstance)) → AllByRecursion (IsKept all shelf) xs → AllByRecursion (IsKept (all ++ more) shelf) xs
    kept_longer shelf [] are = tt
    kept_longer shelf (x ∷ xs) are =
        let P : Named → Type 0 = λ s. HaveStates s (source_in s shelf x.number) (pages_of x.item.pages) (shown_in x.item.pages) in (
          record { placed = low_longer x.item.script are.0.placed; states = subst P (sym (script_longer all x.item.script are.0.placed)) are.0.states },
          kept_longer shelf xs are.1,
        )

    pub instances_longer : (b : Book) → HasPlaces all b → instances_of (all ++ more) b.instances ≡ instances_of all b.instances
    instances_longer b low = each_longer b.instances.things.items low

    pub places_longer : (b : Book) → HasPlaces all b → HasPlaces (all ++ more) b
    places_longer b low = placed_longer b.instances.things.items low

    pub states_longer : (source : Source ⊤) (b : Book) → HasStatesFrom source all b → HasStatesFrom source (all ++ more) b
    states_longer source b are = kept_longer _ b.instances.things.items are

  -- each script can be run
  pub whole_longer : (all : List Named) → AreWhole all → AreWhole more → AreWhole (all ++ more)
  whole_longer [] first second = second
  whole_longer (s ∷ all) first second = by_place (whole_longer all (λ n. first (suc n)) second)
    where
      by_place : AreWhole (all ++ more) → AreWhole (s ∷ (all ++ more))
      by_place rest zero x found = first zero x found
      by_place rest (suc k) x found = rest k x found
