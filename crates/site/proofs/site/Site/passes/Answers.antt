use Rattle.std.proofs.Common.{rules, ◌≡◌, ◌+◌, [], ℕ, Some, slice_get, ap, sym, ◌∙◌, subst, arith}
use Rattle.shelf_lock.proofs.Prefixes.{snoc_each}
use Rattle.lock_row.specs.Spots.{Homes, IsOf, one_dealt}
use Rattle.site.specs.declared.opening.Opening.{Opening}
use Rattle.site.specs.declared.site.Site.{Site}
use Rattle.lock_row.specs.Rows.{IsNewPass}
use Rattle.site.specs.Beginnings.{IsWhole, IsFirstPass, given_out}
use Rattle.site.proofs.Begins.{first_pass, whole_given, given_next}
use Rattle.site.proofs.site.Site.passes.Goals as goal

pub loop-caller-init : goal.loop-caller-init
loop-caller-init g c =
    let none : c.in_ok-passes.passes.items ≡ [] = search rules in
    let ready = c.requires.ready in
    record {
      site = λ i. record c.args.self.now { row = record c.args.self.now.row { seats = ready.given i; left = ready.left i } };
      many = search (rules, arith);
      room = search (rules, arith);
      passes = λ k p e. absurd (let no = sym (ap (λ l. slice_get l k) none) ∙ e in cc no);
    }

pub deal-requires : goal.deal-requires
deal-requires g c =
    let i = c.loop-caller.invariant in
    let left = ap (λ (s : Site g.row.D.Denot g.row.N.Denot). s.row.left) i.site in
    let n = c.requires.count in
    search (rules, arith, left)

pub loop-caller-preserved : goal.loop-caller-preserved
loop-caller-preserved g c =
    let i = c.loop-caller.invariant in
    let d = c.deal.ensures in
    let row : c.loop-caller.self.row ≡ given_out c.loop-caller.caller c.args.self.now.row = ap (λ (s : Site g.row.D.Denot g.row.N.Denot). s.row) i.site in
    let dealt : c.deal.new.self ≡ given_out (c.loop-caller.caller + 1) c.args.self.now.row = d.dealt ∙ (ap (λ (r : Homes (Opening g.row.D.Denot g.row.N.Denot)). one_dealt r) row ∙ given_next c.args.self.now.row c.loop-caller.caller) in
    let homes : c.deal.new.self.homes ≡ c.args.self.now.row.homes = ap (λ (r : Homes (Opening g.row.D.Denot g.row.N.Denot)). r.homes) dealt in
    let number : c.loop-caller.self.row.seats ≡ c.loop-caller.caller = ap (λ (r : Homes (Opening g.row.D.Denot g.row.N.Denot)). r.seats) row in
    let own : IsOf c.args.self.now.row c.deal.result = d.own ∙ homes in
    let pushed = c.push_reserved.ensures.items in
    record {
      site = ap (λ (s : Site g.row.D.Denot g.row.N.Denot). record s { row = c.deal.new.self }) i.site ∙ ap (λ (r : Homes (Opening g.row.D.Denot g.row.N.Denot)). record c.args.self.now { row = r }) dealt;
      many = search (rules, arith);
      room = search (rules, arith);
      passes = subst (λ l. (k : ℕ) (p : _) → slice_get l k ≡ Some p → IsOf c.args.self.now.row p × IsNewPass k p) (sym pushed)
          (snoc_each (λ (k : ℕ) (p : _). IsOf c.args.self.now.row p × IsNewPass k p) c.loop-caller.passes.items c.deal.result i.passes
          (own, subst (λ (k : ℕ). IsNewPass k c.deal.result) (number ∙ sym i.many.1) d.new));
    }

pub returns-clause-whole : goal.returns-clause-whole
returns-clause-whole g c =
    let i = c.loop-caller.invariant in
    subst (λ s. IsWhole {D = g.row.D.Denot} {N = g.row.N.Denot} s) (sym i.site) (whole_given {D = g.row.D.Denot} {N = g.row.N.Denot} c.args.self.now c.loop-caller.caller c.requires.ready.whole)

pub returns-clause-given : goal.returns-clause-given
returns-clause-given g c =
    let i = c.loop-caller.invariant in
    let last : c.loop-caller.caller ≡ c.args.n = search (rules, arith) in
    i.site ∙ ap (λ n. record c.args.self.now { row = given_out n c.args.self.now.row }) last

pub returns-clause-passes : goal.returns-clause-passes
returns-clause-passes g c k p e =
    let i = c.loop-caller.invariant in
    let whole = whole_given {D = g.row.D.Denot} {N = g.row.N.Denot} c.args.self.now c.loop-caller.caller c.requires.ready.whole in
    let at = i.passes k p e in
    subst (λ s. IsFirstPass {D = g.row.D.Denot} {N = g.row.N.Denot} s k p) (sym i.site)
    (first_pass {D = g.row.D.Denot} {N = g.row.N.Denot} (record c.args.self.now { row = given_out c.loop-caller.caller c.args.self.now.row }) k p whole at.0 at.1)
