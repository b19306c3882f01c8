use Rattle.std.proofs.Common.{ap, sym, subst, arith, List}
use Rattle.std.proofs.lemmas.Bool.Decides.{nat_tests}
use Rattle.script_value.specs.Val.{Val, depth, vals_of}
use Rattle.script_value.specs.Views.{meaning}
use Rattle.value_bytes.specs.Spelling.{Fits, AllFit}
use Rattle.value_bytes.proofs.Trees.{list_fits, list_has_fit}
use Rattle.value_bytes.proofs.write.+tests.Goals as goal
use Rattle.script_value.proofs.Folds.{item_depth}

pub all_fit-fits-requires : goal.all_fit-fits-requires
all_fit-fits-requires t c =
    let e = item_depth c.args.values.now c.loop-value.value-index c.value-item.result c.loop-value-test.true in
    let same = ap (λ v. depth (meaning v)) c.value-item.is in
    (omega (arith, e, same), tt)

pub fits-returns-then-len : goal.fits-returns-then-len
fits-returns-then-len t c =
    let l = ap meaning c.in-List.is in
    let items = c.as_slice.ensures in (
      λ h. subst Fits (sym l) (list_fits c.in-List.items (
        omega (arith, c.len.ensures, c.if-len.true),
        subst (λ (vs : List Val). AllFit (vals_of vs)) items (c.all_fit.ensures.0 h),
      )),
      λ f. c.all_fit.ensures.1 (subst (λ (vs : List Val). AllFit (vals_of vs)) (sym items) (list_has_fit c.in-List.items (subst Fits l f)).1),
    )

pub fits-returns-else-len : goal.fits-returns-else-len
fits-returns-else-len t c =
    let l = ap meaning c.in-List.is in (
      λ h. absurd (grind (arith, nat_tests, h, c.if-len.false)),
      λ f. absurd (omega (arith, (list_has_fit c.in-List.items (subst Fits l f)).0, c.len.ensures, c.if-len.false)),
    )
