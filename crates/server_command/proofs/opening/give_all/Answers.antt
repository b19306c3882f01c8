use Rattle.std.proofs.Common.{◌≡◌, ◌∷◌, ◌++◌, ◌∙◌, [], length, ap, subst, arith, rules}
use Rattle.std.specs.Prelude.{IsTrue, ◌&&◌, vec_len}
use Rattle.std.proofs.lemmas.List.{length-append}
use Rattle.disk_trio.specs.Trio.{trio_view}
use Rattle.disk_trio.specs.declared.trio.Disks.{Disks}
use Rattle.trio_rack.specs.Trios.{AreGivenTo, LeavesOtherDisks}
use Rattle.trio_rack.proofs.Each.{GivesLast, gives_each, gives_more_of_each, gives_none_of_each}
use Rattle.server_command.proofs.Giving.{GivenAll, Holds, given_back, given_next, given_none}
use Rattle.server_command.proofs.Openings.{Gives, both_tell}
use Rattle.server_command.proofs.opening.give_all.Goals as goal

pub giving-init : goal.giving-init
giving-init g c = record {
  given = given_none {D = Disks g.row.D.Denot g.D.Disk} trio_view (IsTrue (g.R.Rack.tells && g.D.Disk.tells)) c.args.disks.items (g.R.Rack.view c.args.rack.now)
      (omega (arith, c.faults-count.ensures, c.faults-count.type_inv));
  each = λ t. gives_none_of_each (g.R.Rack.view c.args.rack.now) c.args.disks.items;
}

-- the shelf that is next is one of so many
pub give_trio-requires : goal.give_trio-requires
give_trio-requires g c =
    let front = c.pop.new.self.items in
    let all = c.giving.invariant.given in
    let number : c.len.result ≡ length front = c.len.ensures ∙ c.pop.new.self.ok.0 in
    let popped = ap length c.in-Some.ensures.items in
    let whole = ap length all.is in
    let size = length-append c.giving.disks.items all.back in
    let more = length-append front (c.in-Some.three ∷ []) in
    omega (arith, number, popped, whole, size, more, c.requires)

pub giving-preserved : goal.giving-preserved
giving-preserved g c =
    let told = IsTrue (g.R.Rack.tells && g.D.Disk.tells) in
    let now = g.R.Rack.view c.giving.rack in
    let after = g.R.Rack.view c.give_trio.new.rack in
    let front = c.pop.new.self.items in
    let three = c.in-Some.three in
    let number : c.len.result ≡ length front = c.len.ensures ∙ c.pop.new.self.ok.0 in
    let gives = subst (λ n. Gives now after n (trio_view three).faults) number (record { home = c.give_trio.ensures.home; others_out = c.give_trio.ensures.others_out; counts = c.give_trio.ensures.faults; counted = c.give_trio.ensures.counted_whole; others_counted = c.give_trio.ensures.others_counted; asked = c.give_trio.ensures.asked }) in
    let holds = subst (λ n. Holds told now after n (trio_view three).images) number
    (record { among = λ t out. c.give_trio.ensures.images (both_tell _ _ t).0 (both_tell _ _ t).1; others = c.give_trio.ensures.others }) in
    record {
      given = given_next {D = Disks g.row.D.Denot g.D.Disk} trio_view told c.args.disks.items c.giving.disks.items front three (g.R.Rack.view c.args.rack.now) now after c.in-Some.ensures.items
          c.giving.invariant.given gives holds;
      each = λ t. let all = c.giving.invariant.given in
          gives_more_of_each (g.R.Rack.view c.args.rack.now) now after c.args.disks.items front all.back three
          (subst (λ l. c.args.disks.items ≡ l ++ all.back) c.in-Some.ensures.items all.is) c.requires.few
          (subst (λ l. GivesLast {G = g.D.Disk} (g.R.Rack.view c.args.rack.now) now c.args.disks.items l) c.in-Some.ensures.items (c.giving.invariant.each t))
          (subst (λ n. AreGivenTo after n three) number (c.give_trio.ensures.each t))
          (subst (λ n. LeavesOtherDisks n now after) number c.give_trio.ensures.other_disks);
    }

pub returns : goal.returns
returns g c =
    let told = IsTrue (g.R.Rack.tells && g.D.Disk.tells) in
    let none : vec_len c.giving.disks ≡ 0 = search rules in
    let empty : c.giving.disks.items ≡ [] = search rules in
    let p = subst (λ l. GivenAll {D = Disks g.row.D.Denot g.D.Disk} trio_view told c.args.disks.items l (g.R.Rack.view c.args.rack.now) (g.R.Rack.view c.giving.rack)) empty c.giving.invariant.given in
    let back = given_back {D = Disks g.row.D.Denot g.D.Disk} trio_view told c.args.disks.items (g.R.Rack.view c.args.rack.now) (g.R.Rack.view c.giving.rack) p in
    record {
      back = back.0;
      given = back.1;
      each = λ t. gives_each (g.R.Rack.view c.args.rack.now) (g.R.Rack.view c.giving.rack) c.args.disks.items
          (subst (λ l. GivesLast {G = g.D.Disk} (g.R.Rack.view c.args.rack.now) (g.R.Rack.view c.giving.rack) c.args.disks.items l) empty (c.giving.invariant.each t));
    }
