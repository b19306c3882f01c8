-- The states of pages along their links.
use Rattle.std.proofs.Common.{◌≡◌, ◌∙◌, ap, sym, subst, ℕ, suc, ◌+◌, nat_lt, Bool, true, false, if◌then◌else◌, List, [], ◌∷◌, length, reverse, Option, Some, None, refl, arith}
use Rattle.std.proofs.lemmas.Option.{same_Some}
use Rattle.script_nodes.specs.Arena.{Arena, IsScript, script_of}
use Rattle.script_nodes.specs.Setup.{Named}
use Rattle.journal_records.specs.ReplaySpec.Book.{Page, at_number, page_at, parent_of}
use Rattle.journal_records.specs.ReplaySpec.Next.{Home, page_tape}
use Rattle.journal_records.specs.ReplaySpec.Invariant.{AreAncestors}
use Rattle.journal_records.proofs.ReplaySpec.Ancestors.{ancestors_one}
use Rattle.kept_states.specs.MachineStates.Machine.{Suspended}
use Rattle.kept_states.specs.MachineStates.Laws.{IsStateOf, EachPageHasOneState}
use Rattle.kept_states.specs.FrameCodec.Stored.{IsStored}
use Rattle.kept_states.specs.Kept.{Kept, IsAlone, IsBehind, IsKeptBy}
use Rattle.kept_states.specs.Links.{next_links, links_at}
use Rattle.kept_states.proofs.Read.{of_script}
use Rattle.instance_book.specs.declared.numbered.Numbered.{Numbered}
use Rattle.instance_book.specs.declared.in_order.InOrder.{InOrder}
use Rattle.instance_book.specs.declared.page.KeptPage.{KeptPage}
use Rattle.instance_book.specs.Views.{page_of, pages_of}
use Rattle.script_nodes.proofs.Scripts.{arena_again as its_arena}
use Rattle.instance_book.specs.Places.{Source, own, given, arena_of, kept_at, shown_of, shown_in, IsStateAt, HasState, IsKeptBehind, AreStatesOf}
use Rattle.instance_book.proofs.States.{links_of, state_found}

-- at no links the state is kept by itself
alone_behind : (s : Named) (h : Source Home) (older : List Page) (d : Suspended) (k : Kept) → k.links ≡ 0 → IsKeptBehind s h older d k → IsAlone d k.form
alone_behind s h [] d k none kept = kept.form
alone_behind s h (q ∷ older) d k none kept =
    subst (λ (n : ℕ). IsKeptBy (Some kept.0) n d k.form) (sym kept.1.1.links_are ∙ none) kept.1.1.form

-- at more links it is kept after that of the page before
record Behind (s : Named) (h : Source Home) (older : List Page) (d : Suspended) (k : Kept) (n : ℕ) : Type 0 where
  parent : Page
  rest : List Page
  are : older ≡ parent ∷ rest
  before : Suspended
  its : IsStateAt s h rest parent before
  links : n ≡ links_at (length rest)
  behind : IsBehind before d k.form

one_less : (m n : ℕ) → next_links m ≡ suc n → n ≡ m
one_less m n e = by_test (nat_lt m 32) e
  where
    by_test : (t : Bool) → (if t then m + 1 else 0) ≡ suc n → n ≡ m
    by_test true f = omega (arith, f)
    by_test false f = absurd (omega (arith, f))

link_behind : (s : Named) (h : Source Home) (older : List Page) (d : Suspended) (k : Kept) (n : ℕ) → k.links ≡ suc n → IsKeptBehind s h older d k → Behind s h older d k n
link_behind s h [] d k n more kept = absurd (let none = kept.links_are in omega (arith, more, none))
link_behind s h (q ∷ older) d k n more kept =
    let links : next_links (links_at (length older)) ≡ suc n = sym kept.1.1.links_are ∙ more in
    record {
      parent = q;
      rest = older;
      are = refl;
      before = kept.0;
      its = kept.1.0;
      links = one_less (links_at (length older)) n links;
      behind = subst (λ (m : ℕ). IsKeptBy (Some kept.0) m d k.form) links kept.1.1.form;
    }

-- a script is its nodes in pre-order
pub arena_again : (a : Arena) → IsScript a → arena_of (script_of a) ≡ a
arena_again a script = sym (its_arena a script)

module _ (law : EachPageHasOneState) (s : Named) (a : Arena) (script : IsScript a) (same : arena_of s.script ≡ a) (ps : InOrder KeptPage) where
  -- a state fits the script
  stored_by : (h : Source Home) (qs : List Page) (p : Page) (k : Kept) (has : HasState s h qs p k) → IsStored a has.state
  stored_by (own h) qs p k has =
      let tape = page_tape h (reverse has.lineage.ancestors) p in
      of_script a script tape has.state (subst (λ (b : Arena). IsStateOf b tape has.state) same has.its) has.bytes
  stored_by (given states) qs p k has = subst (λ (b : Arena). IsStored b has.state) same has.its.1

  pub is_of_script : (x : Numbered KeptPage) (has : AreStatesOf s ps x) → IsStored a has.own.state
  is_of_script x has = stored_by has.home (pages_of ps) (page_of x) (kept_at x) has.own

  -- a page has one state
  one_at : (h : Source Home) (older : List Page) (p : Page) (d e : Suspended) → IsStateAt s h older p d → IsStateAt s h older p e → d ≡ e
  one_at (own h) older p d e first second =
      (law (arena_of s.script) (subst (λ (b : Arena). IsScript b) (sym same) script) (page_tape h (reverse older) p)).1 d e first second
  one_at (given states) older p d e first second = same_Some d e (sym first.0 ∙ second.0)

  pub is_alone : (x : Numbered KeptPage) (has : AreStatesOf s ps x) → x.item.state.links ≡ 0 → IsAlone has.own.state (kept_at x).form
  is_alone x has none = alone_behind s has.home has.own.lineage.ancestors has.own.state (kept_at x) none has.own.kept

  module _ (p : Numbered KeptPage) (n : ℕ) (more : p.item.state.links ≡ suc n) where
    behind_of : (has : AreStatesOf s ps p) → Behind s has.home has.own.lineage.ancestors has.own.state (kept_at p) n
    behind_of has = link_behind s has.home has.own.lineage.ancestors has.own.state (kept_at p) n more has.own.kept

    ancestors : (has : AreStatesOf s ps p) → AreAncestors (pages_of ps) (page_of p) ((behind_of has).parent ∷ (behind_of has).rest)
    ancestors has = subst (λ (older : List Page). AreAncestors (pages_of ps) (page_of p) older) (behind_of has).are has.own.lineage.are

    -- it has a parent, which stands among them
    pub no_parent : AreStatesOf s ps p → p.item.parent ≡ None → ⊥
    no_parent has none = absurd (let found : None ≡ Some (behind_of has).parent = subst (λ (o : Option ℕ). parent_of (pages_of ps) o ≡ Some (behind_of has).parent) none (ancestors has).0 in cc)

    parent_at : (has : AreStatesOf s ps p) (number : ℕ) → p.item.parent ≡ Some number → page_at number (pages_of ps) ≡ Some (behind_of has).parent
    parent_at has number is = subst (λ (o : Option ℕ). parent_of (pages_of ps) o ≡ Some (behind_of has).parent) is (ancestors has).0

    pub no_page : AreStatesOf s ps p → (number : ℕ) → p.item.parent ≡ Some number → None ≡ page_at number (pages_of ps) → ⊥
    no_page has number is none = absurd (let found : None ≡ Some (behind_of has).parent = none ∙ parent_at has number is in cc)

    -- the page before has its state, after which this one's is kept
    module _ (x : Numbered KeptPage) (number : ℕ) (is : p.item.parent ≡ Some number) (page : Some (page_of x) ≡ page_at number (pages_of ps))
        (shown : Some (shown_of x) ≡ at_number (λ y. y.0.number) number (shown_in ps)) where
      pub parent_has : AreStatesOf s ps p → AreStatesOf s ps x
      parent_has has = record {
        home = has.home;
        all = has.all;
        own = state_found s has.home (pages_of ps) number (shown_in ps) (shown_of x) has.all (sym shown);
      }

      same_page : (has : AreStatesOf s ps p) → (behind_of has).parent ≡ page_of x
      same_page has = same_Some (behind_of has).parent (page_of x) (sym (parent_at has number is) ∙ sym page)

      same_rest : (has : AreStatesOf s ps p) → (behind_of has).rest ≡ (parent_has has).own.lineage.ancestors
      same_rest has =
          ancestors_one (pages_of ps) (page_of x) (behind_of has).rest (parent_has has).own.lineage.ancestors
          (subst (λ (q : Page). AreAncestors (pages_of ps) q (behind_of has).rest) (same_page has) (ancestors has).1) (parent_has has).own.lineage.are

      pub links_before : AreStatesOf s ps p → x.item.state.links ≡ n
      unfolding parent_has
      links_before has =
          links_of s has.home (pages_of ps) (page_of x) (kept_at x) (parent_has has).own
          ∙ ap (λ (older : List Page). links_at (length older)) (sym (same_rest has)) ∙ sym (behind_of has).links

      same_state : (has : AreStatesOf s ps p) → (behind_of has).before ≡ (parent_has has).own.state
      unfolding parent_has
      same_state has =
          let older = (parent_has has).own.lineage.ancestors in
          let its : IsStateAt s has.home older (page_of x) (behind_of has).before =
          subst (λ (qs : List Page). IsStateAt s has.home qs (page_of x) (behind_of has).before) (same_rest has)
          (subst (λ (q : Page). IsStateAt s has.home (behind_of has).rest q (behind_of has).before) (same_page has) (behind_of has).its) in
          one_at has.home older (page_of x) (behind_of has).before (parent_has has).own.state its (parent_has has).own.its

      pub is_behind : (has : AreStatesOf s ps p) (d : Suspended) → (parent_has has).own.state ≡ d → IsBehind d has.own.state (kept_at p).form
      is_behind has d e = subst (λ (c : Suspended). IsBehind c has.own.state (kept_at p).form) (same_state has ∙ e) (behind_of has).behind
