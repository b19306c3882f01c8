-- A tick, shelf after shelf.
use Rattle.std.proofs.Common.{◌≡◌, ◌≢◌, ℕ, List, [], ◌∷◌, ◌++◌, length, length-append, Some, slice_get, set, refl, ap, sym, ◌∙◌, subst, arith}
use Rattle.std.specs.Prelude.{Bool, Result}
use Rattle.std.proofs.lemmas.List.{set-set}
use Rattle.std.proofs.lemmas.Option.{slice_get_within}
use Rattle.shelf_lock.proofs.Prefixes.{snoc_each}
use Rattle.shelf_lock.specs.declared.view.View.{View}
use Rattle.web_disk.specs.View as disk
use Rattle.script_value.specs.declared.outcome.Reply.{Reply}
use Rattle.lock_row.specs.Spots.{Spot, spot, At}
use Rattle.lock_row.proofs.Places.{one_of, there}
use Rattle.lock_row.proofs.Loops.{apart_stays}
use Rattle.site.specs.declared.entry.KeptEntry.{KeptEntry}
use Rattle.site.specs.declared.opening.Opening.{Opening}
use Rattle.site.specs.Passes.{Spots, Known, Ticked}
use Rattle.site.specs.Sites.{TicksSoFar}

module _ {O E : Type 0} (k : ℕ) (R S T : View O E → View O E → Type 0) where
  -- two turns at one place, the second after the first
  pub at_both : (old middle new : List (Spot O E)) → ((u v w : View O E) → R u v → S v w → T u w) → At k R old middle → At k S middle new → At k T old new
  at_both old middle new joins one two =
      let same : spot one.0.table one.1 ≡ two.0 = one_of (sym (there k R old middle one) ∙ two.2) in
      let put : spot two.0.table two.1 ≡ spot one.0.table two.1 = ap (λ (z : Spot O E). spot z.table two.1) (sym same) in (
        one.0,
        two.1,
        one.2,
        two.3 ∙ ((λ i. set (one.3 i) k (put i)) ∙ set-set old k (spot one.0.table one.1) (spot one.0.table two.1)),
        joins one.0.known one.1 two.1 one.4 (subst (λ (z : Spot O E). S z.known two.1) (sym same) two.4),
      )

module _ {O E : Type 0} (k : ℕ) (R T : View O E → View O E → Type 0) where
  -- a turn that tells more
  pub at_alone : (old new : List (Spot O E)) → ((u v : View O E) → R u v → T u v) → At k R old new → At k T old new
  at_alone old new tells one = (one.0, one.1, one.2, one.3, tells one.0.known one.1 one.4)

module _ {D N : Type 0} (view : D → disk.View) (tells : Bool) (coming : N → ℕ → ℕ) where
  pub ticks_first : (old : Spots D N) (tick : ℕ) → TicksSoFar view tells coming old tick [] old
  ticks_first old tick = record { ticked = λ k r e. absurd (let no : ⊥ = cc e in no); others = λ k le. refl }

  -- one more shelf was swept
  pub ticks_on : (old : Spots D N) (tick : ℕ) (answers : List (Result ℕ Reply)) (new next : Spots D N) (r : Result ℕ Reply) → TicksSoFar view tells coming old tick answers new
      → At (length answers) (λ v w. Ticked view tells coming v tick r w) new next → TicksSoFar view tells coming old tick (answers ++ r ∷ []) next
  ticks_on old tick answers new next r far at =
      let n = length answers in
      let s = spot at.0.table at.1 in
      let beside : (k : ℕ) → k ≢ n → slice_get next k ≡ slice_get new k = λ k ne. ap (λ l. slice_get l k) at.3 ∙ apart_stays new k n s ne in
      let K : ℕ → Result ℕ Reply → Type 0 = λ k u. (a : Spot (Opening D N) KeptEntry) → slice_get old k ≡ Some a → (w : Known D N) × (slice_get next k ≡ Some (spot a.table w)) × Ticked view tells coming a.known tick u w in
      let before : (k : ℕ) (u : Result ℕ Reply) → slice_get answers k ≡ Some u → K k u = λ k u e a is.
      let within = slice_get_within answers k u e in
      let f = far.ticked k u e a is in (f.0, beside k (λ (z : k ≡ n). absurd (omega arith)) ∙ f.1, f.2) in
      let here : K n r = λ a is.
      let same : at.0 ≡ a = one_of (sym at.2 ∙ (far.others n (omega arith) ∙ is)) in (
        at.1,
        there n (λ v w. Ticked view tells coming v tick r w) new next at ∙ ap (λ (z : Spot (Opening D N) KeptEntry). Some (spot z.table at.1)) same,
        subst (λ (z : Spot (Opening D N) KeptEntry). Ticked view tells coming z.known tick r at.1) same at.4,
      ) in
      record {
        ticked = snoc_each K answers r before here;
        others = λ k le. let len = length-append answers (r ∷ []) in beside k (λ (z : k ≡ n). absurd (omega arith)) ∙ far.others k (omega arith);
      }
