-- Effects hold exactly where those on each cell hold over its value.
use Rattle.std.proofs.Common.{◌≡◌, ◌≢◌, ◌==◌, ℕ, ◌<◌, List, [], ◌∷◌, length, Bool, true, false, refl, sym, ap, subst, ◌∙◌, arith}
use Rattle.std.specs.Prelude.{if◌then◌else◌, slice_set}
use Rattle.std.proofs.Math.ListN.{length-set}
use Rattle.std.proofs.lemmas.Option.{unwrap_or-slice_get}
use Rattle.std.proofs.lemmas.List.{get_or-set_same, get_or-set_other, set-get_or}
use Rattle.std.proofs.lemmas.Bool.Decides.{nat_tests}
use Rattle.script_value.specs.Val.{Val, truth}
use Rattle.instance_cells.specs.Cells.{AreOn, Effect, cell_of, cell_at, left_by, Stands, landed, Holds}
use Rattle.instance_cells.specs.OneCell.{left_at, HoldsAt}

-- a write shows at its own cell alone
set_same : (cells : List Val) (c : ℕ) (v : Val) → c < length cells → cell_at (slice_set cells c v) c ≡ v
set_same cells c v h = unwrap_or-slice_get (slice_set cells c v) c (truth false) ∙ get_or-set_same cells c v (truth false) h

set_other : (cells : List Val) (d c : ℕ) (v : Val) → c ≢ d → cell_at (slice_set cells d v) c ≡ cell_at cells c
set_other cells d c v h =
    unwrap_or-slice_get (slice_set cells d v) c (truth false) ∙ (get_or-set_other cells d c v (truth false) h ∙ sym (unwrap_or-slice_get cells c (truth false)))

-- what an effect leaves of one cell
left_in : (e : Effect) (cells : List Val) (c : ℕ) → cell_of e < length cells → cell_at (landed e cells) c ≡ left_at c e (cell_at cells c)
left_in e cells c h = by_test (cell_of e == c) refl
  where
    by_test : (t : Bool) → (cell_of e == c) ≡ t → cell_at (landed e cells) c ≡ (if t then left_by e (cell_at cells c) else cell_at cells c)
    by_test true t =
        let same : cell_of e ≡ c = grind (arith, nat_tests) in
        subst (λ d. cell_at (landed e cells) d ≡ left_by e (cell_at cells d)) same (set_same cells (cell_of e) (left_by e (cell_at cells (cell_of e))) h)
    by_test false t =
        let other : c ≢ cell_of e = grind (arith, nat_tests) in
        set_other cells (cell_of e) c (left_by e (cell_at cells (cell_of e))) other

pub landed_length : (e : Effect) (cells : List Val) → length (landed e cells) ≡ length cells
landed_length e cells = length-set cells (cell_of e) (left_by e (cell_at cells (cell_of e)))

pub each_holds : (es : List Effect) (cells : List Val) → AreOn (length cells) es → Holds es cells → (c : ℕ) → HoldsAt c es (cell_at cells c)
each_holds [] cells on h c = tt
each_holds (e ∷ es) cells on h c = (
  λ same. subst (λ d. Stands e (cell_at cells d)) same h.0,
  subst (λ v. HoldsAt c es v) (left_in e cells c on.0) (each_holds es (landed e cells) (subst (λ n. AreOn n es) (sym (landed_length e cells)) on.1) h.1 c),
)

pub all_hold : (es : List Effect) (cells : List Val) → AreOn (length cells) es → ((c : ℕ) → c < length cells → HoldsAt c es (cell_at cells c)) → Holds es cells
all_hold [] cells on h = tt
all_hold (e ∷ es) cells on h = (
  (h (cell_of e) on.0).0 refl,
  all_hold es (landed e cells) (subst (λ n. AreOn n es) (sym (landed_length e cells)) on.1) (λ c in_range.
      subst (λ v. HoldsAt c es v) (sym (left_in e cells c on.0)) (h c (subst (λ n. c < n) (landed_length e cells) in_range)).1),
)

-- what a cell has is no write
pub kept : (cells : List Val) (c : ℕ) → cells ≡ slice_set cells c (cell_at cells c)
kept cells c = sym (ap (λ (v : Val). slice_set cells c v) (unwrap_or-slice_get cells c (truth false)) ∙ set-get_or cells c (truth false))
