use Rattle.std.proofs.Common.{[], ◌∷◌, sym, subst, arith, ◌∙◌}
use Rattle.play_steps.specs.Played.{Lengthens}
use Rattle.play_steps.specs.declared.report.Report.{Report}
use Rattle.play_steps.proofs.Performed.{comes_called}
use Rattle.play_steps.proofs.Sweeping.{none_swept, one_swept, all_swept, longer}
use Rattle.play_steps.proofs.performing.sweep_all.Goals as goal

pub loop-shelf-init : goal.loop-shelf-init
loop-shelf-init g c = record {
  told = λ own devices. ([], none_swept _ _ c.args.time c.shelves-count.result, c.new.ensures.items);
  shelves = sym c.shelves-count.ensures;
  sound = c.requires.sound;
  own = λ own. own;
  home = λ devices here. here;
  later = λ devices. omega arith;
}

pub loop-shelf-preserved : goal.loop-shelf-preserved
loop-shelf-preserved g c =
    let grown = subst (λ (x : Report). Lengthens c.loop-shelf.told (x ∷ []) c.and_report-told.result) c.of_sweep.ensures c.and_report-told.ensures in
    let up = c.sweep-swept.ensures.later in
    record {
      told = λ own devices.
          let told = c.loop-shelf.invariant.told own devices in (
            _,
            one_swept _ _ _ _ _ _ _ _ c.sweep-swept.result (omega arith) told.1
                (comes_called _ _ _ _ _ c.sweep-swept.result (c.sweep-swept.ensures.step (c.loop-shelf.invariant.own own)) (up devices) (λ rose. rose devices)),
            longer c.loop-shelf.told c.and_report-told.result _ _ told.2 grown,
          );
      shelves = c.sweep-swept.ensures.shelves ∙ c.loop-shelf.invariant.shelves;
      sound = c.sweep-swept.ensures.sound;
      own = λ own. c.sweep-swept.ensures.own (c.loop-shelf.invariant.own own);
      home = λ devices here. c.sweep-swept.ensures.home devices (c.loop-shelf.invariant.home devices here);
      later = λ devices. omega (arith, up devices, c.loop-shelf.invariant.later devices);
    }

pub returns : goal.returns
returns g c = record {
  swept = λ own devices.
      let told = c.loop-shelf.invariant.told own devices in
      record {
        told = told.0;
        came = all_swept _ _ _ _ c.shelves-count.result _ told.0 c.shelves-count.ensures c.loop-shelf-test.false told.1;
        is = told.2;
      };
  sound = c.loop-shelf.invariant.sound;
  own = c.loop-shelf.invariant.own;
  home = c.loop-shelf.invariant.home;
  later = c.loop-shelf.invariant.later;
  shelves = c.loop-shelf.invariant.shelves ∙ c.shelves-count.ensures;
}
