-- What is kept of a page's state tells it: whichever states are given to the pages of a book, a page has the same.
use Rattle.std.proofs.Common.{◌≡◌, ◌∙◌, ap, sym, subst, ℕ, zero, suc, ◌==◌, Bool, true, false, if◌then◌else◌, List, [], ◌∷◌, length, map, Option, Some, None, refl}
use Rattle.std.proofs.lemmas.Option.{none-some, same_Some}
use Rattle.std.specs.List.{AllByRecursion}
use Rattle.script_nodes.specs.Arena.{Arena}
use Rattle.script_nodes.specs.Setup.{Named}
use Rattle.replay_spec.specs.Book.{Page, Instance, at_number, page_at, instance_at, parent_of}
use Rattle.replay_spec.specs.Invariant.{AreAncestors}
use Rattle.replay_spec.proofs.Ancestors.{ancestors_one}
use Rattle.replay_spec.proofs.Numbered.{number_of}
use Rattle.machine_states.specs.Machine.{Suspended}
use Rattle.instance_book.specs.FrameCodec.Spelling.{state_bytes}
use Rattle.instance_book.specs.FrameCodec.Reading.{read_state}
use Rattle.instance_book.specs.FrameCodec.Stored.{IsStored}
use Rattle.instance_book.specs.FrameCodec.Deltas.{Delta, joined, delta_bytes, read_delta}
use Rattle.instance_book.specs.FrameCodec.Parted.{Parted, whole_of}
use Rattle.instance_book.proofs.FrameCodec.States.{states_are_exact}
use Rattle.instance_book.proofs.FrameCodec.Differences.{joins, delta_back, each_has_bytes}
use Rattle.instance_book.proofs.FrameCodec.Parts.{delta_whole}
use Rattle.instance_book.specs.KeptStates.Kept.{Kept, Form, spelled, whole, IsAlone, IsBehind, IsKeptBy}
use Rattle.instance_book.specs.KeptStates.Links.{links_at}
use Rattle.instance_book.specs.declared.numbered.Numbered.{Numbered}
use Rattle.instance_book.specs.declared.page.KeptPage.{KeptPage}
use Rattle.instance_book.specs.declared.instance.KeptInstance.{KeptInstance}
use Rattle.instance_book.specs.declared.book.Book.{Book}
use Rattle.instance_book.specs.Views.{page_of, pages_of, script_in, instance_of, instances_of}
use Rattle.instance_book.specs.Places.{given, arena_of, kept_at, shown_of, IsKeptBehind, HasState, HaveStates, IsKept}
use Rattle.instance_book.specs.Makes.{HasStatesFrom}
use Rattle.instance_book.proofs.States.{state_found}

-- ---- a form keeps one state

-- what is told after the byte of a form
abbrev behind_first : List ℕ → List ℕ
behind_first [] = []
behind_first (b ∷ bytes) = bytes

-- a form that keeps two states by themselves keeps one
one_alone : (a : Arena) (d e : Suspended) (f : Form) → IsStored a d → IsStored a e → IsAlone d f → IsAlone e f → d ≡ e
one_alone a d e (spelled parts) fits also first second =
    let same : state_bytes d ≡ state_bytes e = ap (λ (x : Parted). behind_first (whole_of x)) (sym first.1 ∙ second.1) in
    same_Some d e (sym (states_are_exact.back a d fits) ∙ (ap (λ (bytes : List ℕ). read_state a bytes) same ∙ states_are_exact.back a e also))
one_alone a d e (whole x) fits also first second = sym first.1 ∙ second.1

-- and so does one that keeps them after the same
one_behind : (a : Arena) (p d e : Suspended) (f : Form) → IsStored a p → IsStored a d → IsStored a e → IsBehind p d f → IsBehind p e f → d ≡ e
one_behind a p d e (spelled parts) before fits also first second =
    let x = first.1.0 in
    let y = second.1.0 in
    let bytes : delta_bytes x ≡ delta_bytes y = ap behind_first (sym (delta_whole parts x first.1.1.1) ∙ delta_whole parts y second.1.1.1) in
    let one = delta_back a p d x fits first.1.1.0 (each_has_bytes p d x first.0.0 first.1.1.0) in
    let two = delta_back a p e y also second.1.1.0 (each_has_bytes p e y second.0.0 second.1.1.0) in
    let same : x ≡ y = same_Some x y (sym one ∙ (ap (λ (bs : List ℕ). read_delta a bs) bytes ∙ two)) in
    sym (joins p d x before.shadows.rise fits.shadows.rise first.0.1 first.1.1.0)
    ∙ (ap (λ (z : Delta). joined p z) same ∙ joins p e y before.shadows.rise also.shadows.rise second.0.1 second.1.1.0)
one_behind a p d e (whole x) before fits also first second = sym first.1 ∙ second.1

one_by : (a : Arena) (before : Option Suspended) (links : ℕ) (d e : Suspended) (f : Form) → ((p : Suspended) → before ≡ Some p → IsStored a p) → IsStored a d → IsStored a e
    → IsKeptBy before links d f → IsKeptBy before links e f → d ≡ e
one_by a None links d e f fit fits also first second = one_alone a d e f fits also first second
one_by a (Some p) zero d e f fit fits also first second = one_alone a d e f fits also first second
one_by a (Some p) (suc n) d e f fit fits also first second = one_behind a p d e f (fit p refl) fits also first second

-- ---- a page has one state

parent_stands : (ps : List Page) (parent : Option ℕ) (q : Page) → parent_of ps parent ≡ Some q → page_at q.number ps ≡ Some q
parent_stands ps None q is = absurd (none-some q is)
parent_stands ps (Some n) q is =
    let here : n ≡ q.number = sym (number_of (λ (p : Page). p.number) n ps q is) in subst (λ (m : ℕ). page_at m ps ≡ Some q) here is

-- a page that is found is found with what is kept of its state
shown_there : (n : ℕ) (ys : List (Numbered KeptPage)) (q : Page) → page_at n (map page_of ys) ≡ Some q
    → (k : Kept) × (at_number (λ (y : Page × Kept). y.0.number) n (map shown_of ys) ≡ Some (q, k))
shown_there n [] q is = absurd (none-some q is)
shown_there n (y ∷ ys) q is = by_test (λ e. shown_there n ys q e) (y.number == n) is
  where
    by_test : (page_at n (map page_of ys) ≡ Some q → (k : Kept) × (at_number (λ (z : Page × Kept). z.0.number) n (map shown_of ys) ≡ Some (q, k)))
        → (t : Bool) → (if t then Some (page_of y) else page_at n (map page_of ys)) ≡ Some q
        → (k : Kept) × ((if t then Some (shown_of y) else at_number (λ (z : Page × Kept). z.0.number) n (map shown_of ys)) ≡ Some (q, k))
    by_test later true e = (kept_at y, ap (λ (p : Page). Some (p, kept_at y)) (same_Some (page_of y) q e))
    by_test later false e = later e

module _ (s : Named) (f g : ℕ → Option Suspended) (ys : List (Numbered KeptPage)) where
  abbrev ps : List Page
  ps = map page_of ys

  abbrev xs : List (Page × Kept)
  xs = map shown_of ys

  module _ (first : HaveStates s (given f) ps xs) (second : HaveStates s (given g) ps xs) where
    one_state : (older : List Page) (p : Page) (k : Kept) (x : HasState s (given f) ps p k) (y : HasState s (given g) ps p k) → x.lineage.ancestors ≡ older → y.lineage.ancestors ≡ older → x.state ≡ y.state
    one_state [] p k x y left right =
        let a = arena_of s.script in
        let kept : IsKeptBehind s (given f) [] x.state k = subst (λ (qs : List Page). IsKeptBehind s (given f) qs x.state k) left x.kept in
        let also : IsKeptBehind s (given g) [] y.state k = subst (λ (qs : List Page). IsKeptBehind s (given g) qs y.state k) right y.kept in
        one_by a None 0 x.state y.state k.form (λ p e. absurd (none-some p e)) x.its.1 y.its.1 kept.form also.form
    one_state (q ∷ older) p k x y left right =
        let a = arena_of s.script in
        let kept : IsKeptBehind s (given f) (q ∷ older) x.state k = subst (λ (qs : List Page). IsKeptBehind s (given f) qs x.state k) left x.kept in
        let also : IsKeptBehind s (given g) (q ∷ older) y.state k = subst (λ (qs : List Page). IsKeptBehind s (given g) qs y.state k) right y.kept in
        let are : AreAncestors ps p (q ∷ older) = subst (λ (qs : List Page). AreAncestors ps p qs) left x.lineage.are in
        let shown = shown_there q.number ys q (parent_stands ps p.parent q are.0) in
        let l = state_found s (given f) ps q.number xs (q, shown.0) first shown.1 in
        let r = state_found s (given g) ps q.number xs (q, shown.0) second shown.1 in
        let before : l.state ≡ r.state =
        one_state older q shown.0 l r (ancestors_one ps q l.lineage.ancestors older l.lineage.are are.1) (ancestors_one ps q r.lineage.ancestors older r.lineage.are are.1) in
        let one : kept.0 ≡ l.state = same_Some kept.0 l.state (sym kept.1.0.0 ∙ l.its.0) in
        let two : also.0 ≡ r.state = same_Some also.0 r.state (sym also.1.0.0 ∙ r.its.0) in
        let same : also.0 ≡ kept.0 = two ∙ (sym before ∙ sym one) in
        let links = links_at (length (q ∷ older)) in
        one_by a (Some kept.0) links x.state y.state k.form
        (λ z e. let here : kept.0 ≡ z = same_Some kept.0 z e in subst (λ (d : Suspended). IsStored a d) here kept.1.0.1) x.its.1 y.its.1 kept.1.1.form
        (subst (λ (d : Suspended). IsKeptBy (Some d) links y.state k.form) same also.1.1.form)

    -- what the one gives to a page that stands, the other gives
    same_given : (m : ℕ) (p : Page) → page_at m ps ≡ Some p → (d : Suspended) → f p.number ≡ Some d → g p.number ≡ Some d
    same_given m p found d is =
        let shown = shown_there m ys p found in
        let x = state_found s (given f) ps m xs (p, shown.0) first shown.1 in
        let y = state_found s (given g) ps m xs (p, shown.0) second shown.1 in
        let same : x.state ≡ y.state = one_state x.lineage.ancestors p shown.0 x y refl (ancestors_one ps p y.lineage.ancestors x.lineage.ancestors y.lineage.are x.lineage.are) in
        y.its.0 ∙ (ap (λ (e : Suspended). Some e) (sym same) ∙ (sym x.its.0 ∙ is))

-- ---- of a book

module _ (all : List Named) (f g : ℕ → Option Suspended) (n m : ℕ) (i : Instance) (p : Page) (shown : page_at m i.pages ≡ Some p) (d : Suspended) (is : f p.number ≡ Some d) where
  same_in : (xs : List (Numbered KeptInstance)) → AllByRecursion (IsKept all (given f)) xs → AllByRecursion (IsKept all (given g)) xs → instance_at n (map (instance_of all) xs) ≡ Some i
      → g p.number ≡ Some d
  same_in [] first second found = absurd (none-some i found)
  same_in (x ∷ xs) first second found = by_test (λ e. same_in xs first.1 second.1 e) (x.number == n) found
    where
      by_test : (instance_at n (map (instance_of all) xs) ≡ Some i → g p.number ≡ Some d)
          → (t : Bool) → (if t then Some (instance_of all x) else instance_at n (map (instance_of all) xs)) ≡ Some i → g p.number ≡ Some d
      by_test later true e =
          let same : instance_of all x ≡ i = same_Some (instance_of all x) i e in
          let here : page_at m (pages_of x.item.pages) ≡ Some p = subst (λ (j : Instance). page_at m j.pages ≡ Some p) (sym same) shown in
          same_given (script_in all x.item.script) f g x.item.pages.things.items first.0.states second.0.states m p here d is
      by_test later false e = later e

-- Where states are given to the pages of a book in two ways, a page that stands has the same by both.
pub one_given : (all : List Named) (f g : ℕ → Option Suspended) (b : Book) → HasStatesFrom (given f) all b → HasStatesFrom (given g) all b → (n m : ℕ) (i : Instance) (p : Page)
    → instance_at n (instances_of all b.instances) ≡ Some i → page_at m i.pages ≡ Some p → (d : Suspended) → f p.number ≡ Some d → g p.number ≡ Some d
one_given all f g b first second n m i p found shown d is = same_in all f g n m i p shown d is b.instances.things.items first second found
