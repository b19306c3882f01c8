use Rattle.std.proofs.Common.{rules, ◌≡◌, ◌++◌, ◌<◌, length, refl, ap, sym, ◌∙◌, subst, arith, map, reverse}
use Rattle.std.proofs.lemmas.List.{reverse-reverse}
use Rattle.script_nodes.specs.Views.{scripts_of}
use Rattle.site.specs.declared.site.Site.{Site}
use Rattle.site.specs.Beginnings.{AreNew, AreUnopened, IsBegun, IsReady, site_of}
use Rattle.site.proofs.Begins.{disk_in, nonces_in, turned_fresh, sources_of, fresh_there, begun_of, under_of, as_many, unopened_none, unopened_after, same_parts, new_turned}
use Rattle.disk_trio.specs.Trio.{trio_view}
use Rattle.disk_trio.specs.Laws.{only_left}
use Rattle.disk_trio.specs.declared.trio.Disks.{Disks}
use Rattle.site.proofs.begin.Site+Disks+F+N.begin.Goals as goal

pub returns-in_default-clause-fault : goal.returns-in_default-clause-fault
returns-in_default-clause-fault g c =
    let range = c.requires.range.shelves in
    let disks = c.requires.disks in
    record {
      disks_back = unopened_none {D = Disks g.row.F.Denot g.F.Disk} trio_view g.F.Disk.tells (scripts_of c.args.setup) (only_left g.F.Disk) c.args.disks.items (omega arith);
      sources_back = refl;
    }

pub lock_all-requires : goal.lock_all-requires
lock_all-requires g c = record {
  fresh = λ k x e.
      let view = trio_view in
      let tells = g.F.Disk.tells in
      let coming = g.N.Nonces.nonce in
      let ks = c.in-Ok-open_all.shelves.items in
      let fresh = turned_fresh {D = Disks g.row.F.Denot g.F.Disk} {N = g.row.N.Denot} view tells coming (scripts_of c.args.setup) c.args.rules c.args.disks.items c.reverse.new.self.items c.args.nonces.items c.reverse-2.new.self.items ks c.reverse.ensures.items c.reverse-2.ensures.items c.in-Ok-open_all.ensures.opened in
      let long : length c.args.nonces.items ≡ length c.args.disks.items = c.requires.nonces ∙ sym c.requires.disks in
      let many : length ks ≡ length c.args.disks.items = c.in-Ok-open_all.ensures.many.0 ∙ sym c.requires.disks in
      let f = fresh_there {D = Disks g.row.F.Denot g.F.Disk} {N = g.row.N.Denot} view tells coming (scripts_of c.args.setup) c.args.rules c.args.disks.items c.args.nonces.items ks long fresh many k x e in
      (f.2.sound, f.2.history_is, f.2.opened_is);
}

-- the site that was begun
abbrev begun_site : (g : _) (c : goal.After-site_of g) → Site (Disks g.row.F.Denot g.F.Disk) g.row.N.Denot
begun_site g c = site_of {D = Disks g.row.F.Denot g.F.Disk} {N = g.row.N.Denot} c.in-Ok-lock_all.locked c.args.rules.fuel c.open_all.new.disks c.open_all.new.nonces c.in-Ok.histories

pub returns-in-Ok-lock_all-clause-begun : goal.returns-in-Ok-lock_all-clause-begun
returns-in-Ok-lock_all-clause-begun g c =
    let view = trio_view in
    let tells = g.F.Disk.tells in
    let coming = g.N.Nonces.nonce in
    let ks = c.in-Ok-open_all.shelves.items in
    let fresh = turned_fresh {D = Disks g.row.F.Denot g.F.Disk} {N = g.row.N.Denot} view tells coming (scripts_of c.args.setup) c.args.rules c.args.disks.items c.reverse.new.self.items c.args.nonces.items c.reverse-2.new.self.items ks c.reverse.ensures.items c.reverse-2.ensures.items c.in-Ok-open_all.ensures.opened in
    let long : length c.args.nonces.items ≡ length c.args.disks.items = c.requires.nonces ∙ sym c.requires.disks in
    let many : length ks ≡ length c.args.disks.items = c.in-Ok-open_all.ensures.many.0 ∙ sym c.requires.disks in
    let locked = c.in-Ok-lock_all.ensures.locked in
    subst (IsBegun {D = Disks g.row.F.Denot g.F.Disk} {N = g.row.N.Denot} view tells (scripts_of c.args.setup) c.args.rules c.args.disks.items c.args.nonces.items) (sym c.site_of.ensures)
    (begun_of {D = Disks g.row.F.Denot g.F.Disk} {N = g.row.N.Denot} view tells coming (scripts_of c.args.setup) c.args.rules c.args.disks.items c.args.nonces.items ks long fresh many (begun_site g c) locked.libraries refl locked.homes)

pub returns-in-Ok-lock_all-clause-ready : goal.returns-in-Ok-lock_all-clause-ready
returns-in-Ok-lock_all-clause-ready g c =
    let view = trio_view in
    let tells = g.F.Disk.tells in
    let coming = g.N.Nonces.nonce in
    let ks = c.in-Ok-open_all.shelves.items in
    let fresh = turned_fresh {D = Disks g.row.F.Denot g.F.Disk} {N = g.row.N.Denot} view tells coming (scripts_of c.args.setup) c.args.rules c.args.disks.items c.reverse.new.self.items c.args.nonces.items c.reverse-2.new.self.items ks c.reverse.ensures.items c.reverse-2.ensures.items c.in-Ok-open_all.ensures.opened in
    let long : length c.args.nonces.items ≡ length c.args.disks.items = c.requires.nonces ∙ sym c.requires.disks in
    let many : length ks ≡ length c.args.disks.items = c.in-Ok-open_all.ensures.many.0 ∙ sym c.requires.disks in
    let locked = c.in-Ok-lock_all.ensures.locked in
    let site = begun_site g c in
    let under = under_of {D = Disks g.row.F.Denot g.F.Disk} {N = g.row.N.Denot} view tells coming (scripts_of c.args.setup) c.args.rules c.args.disks.items c.args.nonces.items ks long fresh many site locked.libraries refl locked.homes in
    let same = as_many {D = Disks g.row.F.Denot g.F.Disk} {N = g.row.N.Denot} view tells coming (scripts_of c.args.setup) c.args.rules c.args.disks.items c.args.nonces.items ks long fresh many site locked.libraries refl locked.homes in
    let gone = c.in-Ok-open_all.ensures.gone in
    let room = c.in-Ok.ensures.capacity in
    let len = c.len.ensures in
    let whole = c.args.disks.ok.0 in
    let fuel = c.requires.range.fuel in
    let shelves = c.requires.range.shelves in
    let disks = c.requires.disks in
    let ready : IsReady {D = Disks g.row.F.Denot g.F.Disk} {N = g.row.N.Denot} site = record {
      whole = record {
        fuel = omega arith;
        some = omega arith;
        under = under;
        room = record {
          no_disks = gone.2;
          no_nonces = gone.3;
          no_histories = search (rules, arith);
          empty = (gone.0, gone.1, search rules);
          disks = search (rules, arith);
          nonces = search (rules, arith);
          histories = omega (arith, same, room, len, whole);
        };
      };
      given = locked.seats;
      left = locked.left;
    } in
    subst (IsReady {D = Disks g.row.F.Denot g.F.Disk} {N = g.row.N.Denot}) (sym c.site_of.ensures) ready

pub returns-in-Err-lock_all-clause-fault : goal.returns-in-Err-lock_all-clause-fault
returns-in-Err-lock_all-clause-fault g c =
    let view = trio_view in
    let tells = g.F.Disk.tells in
    let coming = g.N.Nonces.nonce in
    let ks = c.in-Ok-open_all.shelves.items in
    let js = c.in-Err-lock_all.shelves.items in
    let fresh = turned_fresh {D = Disks g.row.F.Denot g.F.Disk} {N = g.row.N.Denot} view tells coming (scripts_of c.args.setup) c.args.rules c.args.disks.items c.reverse.new.self.items c.args.nonces.items c.reverse-2.new.self.items ks c.reverse.ensures.items c.reverse-2.ensures.items c.in-Ok-open_all.ensures.opened in
    let long : length c.args.nonces.items ≡ length c.args.disks.items = c.requires.nonces ∙ sym c.requires.disks in
    let many : length ks ≡ length c.args.disks.items = c.in-Ok-open_all.ensures.many.0 ∙ sym c.requires.disks in
    let range = c.requires.range.shelves in
    let disks = c.requires.disks in
    let some : 0 < length c.args.disks.items = omega arith in
    let same = c.in-Err-lock_all.ensures.back in
    let gone = c.in-Ok-open_all.ensures.gone in
    let back : c.handed-in-Err-lock_all.result.disks.items ≡ map disk_in ks =
    c.handed-in-Err-lock_all.ensures.disks ∙ (ap reverse (c.give_back.ensures.disks ∙ ap (λ l. l ++ reverse (map disk_in js)) gone.0) ∙ (reverse-reverse (map disk_in js) ∙ same_parts {D = Disks g.row.F.Denot g.F.Disk} {N = g.row.N.Denot} (λ s. s.journal.disk) ks js same)) in
    let sources : c.handed-in-Err-lock_all.result.nonces.items ≡ map nonces_in ks =
    c.handed-in-Err-lock_all.ensures.nonces ∙ (ap reverse (c.give_back.ensures.nonces ∙ ap (λ l. l ++ reverse (map nonces_in js)) gone.1) ∙ (reverse-reverse (map nonces_in js) ∙ same_parts {D = Disks g.row.F.Denot g.F.Disk} {N = g.row.N.Denot} (λ s. s.nonces) ks js same)) in
    let un = unopened_after {D = Disks g.row.F.Denot g.F.Disk} {N = g.row.N.Denot} view tells coming (scripts_of c.args.setup) c.args.rules c.args.disks.items c.args.nonces.items ks long fresh many some in
    let told = c.handed-in-Err-lock_all.ensures.fault in
    record {
      disks_back = subst (λ l. AreUnopened {D = Disks g.row.F.Denot g.F.Disk} view tells (scripts_of c.args.setup) c.args.disks.items l c.handed-in-Err-lock_all.result.shelf c.handed-in-Err-lock_all.result.fault) (sym back)
          (subst (λ k. AreUnopened {D = Disks g.row.F.Denot g.F.Disk} view tells (scripts_of c.args.setup) c.args.disks.items (map disk_in ks) k c.handed-in-Err-lock_all.result.fault) (sym told.0)
          (subst (λ w. AreUnopened {D = Disks g.row.F.Denot g.F.Disk} view tells (scripts_of c.args.setup) c.args.disks.items (map disk_in ks) 0 w) (sym told.1) un));
      sources_back = sources ∙ sources_of {D = Disks g.row.F.Denot g.F.Disk} {N = g.row.N.Denot} view tells coming (scripts_of c.args.setup) c.args.rules c.args.disks.items c.args.nonces.items ks long fresh many;
    }

-- the disks were not opened
pub open_all-requires-clause-fresh : goal.open_all-requires-clause-fresh
open_all-requires-clause-fresh g c = subst AreNew (sym c.reverse.ensures.items) (new_turned c.args.disks.items c.requires.fresh)

-- disks and sources have the room that they had
pub give_back-requires : goal.give_back-requires
give_back-requires g c =
    let gone = c.in-Ok-open_all.ensures.gone in
    let room = c.open_all.ensures.room in
    let many = c.in-Err-lock_all.ensures.many in
    let opened = c.in-Ok-open_all.ensures.many.1 in
    let disks = c.requires.disks in
    let sources = c.requires.nonces in
    let d = c.args.disks.ok in
    let n = c.args.nonces.ok in
    let same_d = c.reverse.ensures.capacity in
    let same_n = c.reverse-2.ensures.capacity in
    record {
      room = (
        omega (arith, gone.2, room.0, many, opened, disks, d.0, d.1, same_d),
        omega (arith, gone.3, room.1, many, opened, sources, n.0, n.1, same_n),
      );
    }
