use Rattle.std.proofs.Common.{◌≡◌, ◌∙◌, ap, sym, subst, refl, ℕ, List, [], map, true, None}
use Rattle.script_value.specs.Val.{Val}
use Rattle.script_value.specs.Views.{meaning}
use Rattle.script_value.specs.declared.value.Value.{Value}
use Rattle.script_value.specs.declared.outcome.Reply.{Reply}
use Rattle.script_value.specs.declared.outcome.TxName.{TxName}
use Rattle.instance_cells.specs.Views.{effect_of}
use Rattle.machine_states.specs.Views.{origin_of, suspended_of}
use Rattle.instance_book.specs.KeptStates.Kept.{Kept, IsKeptFrom}
use Rattle.replay_spec.specs.Book as spec
use Rattle.replay_spec.specs.Book.{page_by}
use Rattle.replay_spec.specs.Change.{extended_by}
use Rattle.replay_spec.specs.Recovery.{can_go}
use Rattle.replay_spec.specs.Step as step
use Rattle.replay_spec.specs.Step.{records}
use Rattle.replay_spec.proofs.Goers.{goers_go}
use Rattle.replay_spec.specs.Marks.{Mark}
use Rattle.journal_records.specs.Views.{page_change}
use Rattle.journal_records.specs.declared.records.PageRecord.{PageRecord}
use Rattle.book_visits.specs.Views.{reply_of}
use Rattle.instance_book.specs.Views.{pages_of, used_of, instance_with}
use Rattle.instance_book.specs.Changes.{gone_in}
use Rattle.book_visits.specs.Prepares.{next_page}
use Rattle.book_visits.specs.Segments.{extension_of, goers}
use Rattle.book_visits.proofs.preparing.extension.Goals as goal

pub returns-clause-shows : goal.returns-clause-shows
returns-clause-shows c scripts =
    let t = c.args.ticket.now in
    let p = c.args.page in
    let x = c.in_ok-extension.extension in
    let number = c.args.instance.now.number in
    let gone = goers c.args.limit t c.args.answered c.args.instance.now in
    let made = c.in_ok-extension.ensures in
    let next : Val → List ℕ → spec.Extension = λ v ns. record (extension_of t number c.args.answered p ns) { answer = v } in
    let told : page_change x.record ≡ spec.extends (next (meaning t.answer) gone) =
    ap (λ (r : PageRecord). page_change r) made.told
    ∙ (ap (λ (v : Value). spec.extends (next (meaning v) c.in_ok-evicted.evicted.items)) c.in_ok-try_clone.ensures
    ∙ ap (λ (ns : List ℕ). spec.extends (next (meaning t.answer) ns)) c.in_ok-evicted.ensures) in
    let inside : x.show.page.item.inside.items ≡ p.inside.items = ap (λ (q : spec.Page). q.inside) made.page.page in
    let i = instance_with scripts number c.args.instance.now.item in
    record {
      recorded = record {
        decision =
            ap (λ (r : Reply). records (reply_of r) (page_change x.record) x.show.page.item.inside.items) c.in_ok-reply.ensures
            ∙ (ap (λ (y : spec.Change). records (step.shown c.args.bytes t.url) y x.show.page.item.inside.items) told
            ∙ ap (λ (ns : List TxName). records (step.shown c.args.bytes t.url) (spec.extends (next (meaning t.answer) gone)) ns) inside);
        logged = refl;
      };
      change = (
        made.instance,
        made.goes scripts number
            ∙ (ap (λ (v : Val). extended_by (next v c.in_ok-evicted.evicted.items) p.inside.items i) c.in_ok-answer.ensures
            ∙ ap (λ (ns : List ℕ). extended_by (next (meaning t.answer) ns) p.inside.items i) c.in_ok-evicted.ensures),
      );
    }

pub returns-clause-state : goal.returns-clause-state
returns-clause-state c =
    let t = c.args.ticket.now in
    let p = c.args.page in
    let made = c.in_ok-extension.ensures in
    let its : spec.Page → spec.Page = next_page t c.args.answered (map effect_of p.effects.items) p.inside.items in
    let told : Val → spec.Page = λ v. page_by (record (extension_of t c.args.instance.now.number c.args.answered p []) { answer = v }) p.inside.items in
    record {
      instance = made.instance;
      page = made.page.page
          ∙ (ap told c.in_ok-answer.ensures ∙ ap its (sym made.page.page));
      state = subst (λ (k : Kept). IsKeptFrom (origin_of t.from) t.links (suspended_of p.state) k) (sym made.page.kept) c.in_ok-kept.ensures;
      told = made.state;
    }

pub returns-clause-shown : goal.returns-clause-shown
returns-clause-shown c =
    let t = c.args.ticket.now in
    let x = c.in_ok-extension.extension in
    let made = c.in_ok-extension.ensures in
    let gone : gone_in x ≡ goers c.args.limit t c.args.answered c.args.instance.now = ap (λ (r : PageRecord). r.evicted.items) made.told ∙ c.in_ok-evicted.ensures in
    let us = used_of c.args.instance.now.item.pages in
    record {
      unused = subst (λ (n : ℕ). spec.page_at n (pages_of c.args.instance.now.item.pages) ≡ None) (sym (ap (λ (q : spec.Page). q.number) made.page.page)) c.requires.unused;
      stays = ap (λ (m : Mark). m.gone) made.page.mark;
      goes = subst (λ (ns : List ℕ). can_go ns us ≡ true) (sym gone) (goers_go c.args.limit c.args.answered t.number us);
    }
