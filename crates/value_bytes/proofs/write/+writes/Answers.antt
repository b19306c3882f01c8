use Rattle.std.proofs.Common.{ap, sym, subst, arith, ◌≡◌, ◌++◌, ◌∙◌, List, ℕ}
use Rattle.std.specs.Prelude.{OnOk}
use Rattle.script_value.specs.Val.{depth}
use Rattle.script_value.specs.Views.{meaning}
use Rattle.value_bytes.specs.Spelling.{Fits, value_bytes}
use Rattle.value_bytes.proofs.Trees.{fits_here, list_has_fit, list_whole}
use Rattle.value_bytes.proofs.write.+writes.Goals as goal
use Rattle.script_value.proofs.Folds.{item_depth}

pub write_all-write_parts-requires : goal.write_all-write_parts-requires
write_all-write_parts-requires t c =
    let e = item_depth c.args.values.now c.loop-value.value-index c.value-item.result c.loop-value-test.true in
    let same = ap (λ v. depth (meaning v)) c.value-item.is in
    (omega (arith, e, same), fits_here c.args.values.now c.loop-value.value-index c.value-item.result c.loop-value-test.true c.loop-value.invariant.fit c.value-item.is)

pub write_parts-overflow_cast-len : goal.write_parts-overflow_cast-len
write_parts-overflow_cast-len t c =
    let l = ap meaning c.in-List.is in
    record { fits = omega (arith, (list_has_fit c.in-List.items (subst Fits l c.requires)).0, c.len.ensures) }

pub write_parts-returns-in_ok-u32-in-List : goal.write_parts-returns-in_ok-u32-in-List
write_parts-returns-in_ok-u32-in-List t c =
    let l = ap meaning c.in-List.is in
    let whole = list_whole c.args.writer.now c.u8-in-List.new.self c.u32.new.self c.len.result c.in-List.items _ c.in_ok-u8-in-List.ensures.ok c.in_ok-u32-in-List.ensures.ok c.len.ensures c.as_slice.ensures in
    subst (λ (bytes : List ℕ). OnOk c.write_all.result (c.write_all.new.writer ≡ bytes)) (whole ∙ ap (λ v. c.args.writer.now ++ value_bytes v) (sym l)) c.write_all.ensures
