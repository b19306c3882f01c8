use Rattle.std.proofs.Common.{◌≡◌, List, [], ◌∷◌, map, Err, refl, sym, ◌∙◌, subst}
use Rattle.script_nodes.specs.Setup.{Named}
use Rattle.script_nodes.specs.Views.{scripts_of, library_of}
use Rattle.shelf.specs.InstanceBook.declared.in_order.InOrder.{InOrder}
use Rattle.shelf.specs.InstanceBook.declared.instance.KeptInstance.{KeptInstance}
use Rattle.shelf.specs.InstanceBook.declared.numbered.Numbered.{Numbered}
use Rattle.shelf.specs.InstanceBook.Views.{instance_of, instances_of}
use Rattle.disk_trio.specs.Trio.{trio_view}
use Rattle.disk_trio.specs.declared.trio.Disks.{Disks}
use Rattle.site.specs.Beginnings.{IsOpenedOn}
use Rattle.site.proofs.begin.open_one.Goals as goal

-- a book in which nobody sees an instance has none
no_instances : (all : List Named) (is : InOrder KeptInstance) → instances_of all is ≡ [] → is.things.items ≡ []
no_instances all is none = by_items is.things.items none
  where
    by_items : (xs : List (Numbered KeptInstance)) → map (instance_of all) xs ≡ [] → xs ≡ []
    by_items [] e = refl
    by_items (x ∷ xs) e = absurd (let no : ⊥ = cc e in no)

pub returns-in-Ok-clause-opened : goal.returns-in-Ok-clause-opened
returns-in-Ok-clause-opened g c =
    let b = c.in-Ok.ensures in
    let k = c.new.ensures in
    let opened : IsOpenedOn {D = Disks g.row.F.Denot g.F.Disk} {N = g.row.N.Denot} trio_view g.F.Disk.tells (scripts_of c.args.setup.now) c.args.rules c.args.disk c.args.source c.in-Ok.shelf = record {
      rules_are = b.rules;
      nonces_are = b.nonces;
      in_order = b.in_order;
      opened = b.opened;
      book = b.book;
      one_of = b.one_of;
      own = b.own;
      own_if_empty = λ no none. b.own_if_empty no (no_instances (library_of c.in-Ok.shelf.library).all c.in-Ok.shelf.book.instances none);
      any_moment = b.migration;
      own_moments = b.own_moments;
      keeps = λ told. b.keeps told (λ e. let none : ⊥ = cc e in none);
      fits = λ told. b.fits told;
      later = b.later;
    } in
    record {
      opened_is = k.opened ∙ sym k.shelf;
      history_is = k.fresh;
      sound = k.sound;
      shelf = subst (λ (s : _). IsOpenedOn {D = Disks g.row.F.Denot g.F.Disk} {N = g.row.N.Denot} trio_view g.F.Disk.tells (scripts_of c.args.setup.now) c.args.rules c.args.disk c.args.source s) (sym k.shelf) opened;
    }

pub returns-in-Err-clause-unopened : goal.returns-in-Err-clause-unopened
returns-in-Err-clause-unopened g c =
    let b = c.in-Err.ensures in
    record { returned = record { any_moment = b.migration; own_moments = b.own_moments; later = b.later }; why = b.refused; cause = λ e. b.cause (λ i. Err (e i)); keeps = λ told no. b.keeps told (λ e. no (cc e)) }
