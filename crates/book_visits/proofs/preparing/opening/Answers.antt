use Rattle.std.proofs.Common.{◌≡◌, ◌∙◌, ap, sym, subst, refl, ℕ, List, map, None}
use Rattle.script_value.specs.declared.outcome.Reply.{Reply}
use Rattle.script_value.specs.declared.outcome.TxName.{TxName}
use Rattle.instance_cells.specs.Views.{effect_of}
use Rattle.machine_states.specs.Views.{suspended_of}
use Rattle.instance_book.specs.KeptStates.Kept.{Kept, IsKeptFrom}
use Rattle.replay_spec.specs.Book as spec
use Rattle.replay_spec.specs.Step as step
use Rattle.replay_spec.specs.Step.{records}
use Rattle.journal_records.specs.Views.{page_change}
use Rattle.journal_records.specs.declared.records.PageRecord.{PageRecord}
use Rattle.book_visits.specs.Views.{reply_of}
use Rattle.book_visits.specs.Prepares.{first_page}
use Rattle.book_visits.specs.Segments.{opening_of}
use Rattle.book_visits.proofs.preparing.opening.Goals as goal

pub returns-clause-opens : goal.returns-clause-opens
returns-clause-opens c =
    let t = c.args.ticket.now in
    let p = c.args.page in
    let o = c.in_ok-opening.opening in
    let opens = c.in_ok-opening.ensures.opens in
    let first : spec.Opening = opening_of t p in
    let told : page_change o.record ≡ spec.opens first = ap (λ (r : PageRecord). page_change r) opens.told ∙ ap (λ (ns : List ℕ). spec.opens (record first { evicted = ns })) c.new.ensures.items in
    let inside : o.page.item.inside.items ≡ p.inside.items = ap (λ (q : spec.Page). q.inside) opens.page.page in
    record {
      recorded = record {
        decision =
            ap (λ (r : Reply). records (reply_of r) (page_change o.record) o.page.item.inside.items) c.in_ok-reply.ensures
            ∙ (ap (λ (x : spec.Change). records (step.shown c.args.bytes t.url) x o.page.item.inside.items) told
            ∙ ap (λ (ns : List TxName). records (step.shown c.args.bytes t.url) (spec.opens first) ns) inside);
        logged = refl;
      };
      change = opens.begun;
    }

pub returns-clause-state : goal.returns-clause-state
returns-clause-state c =
    let t = c.args.ticket.now in
    let p = c.args.page in
    let opens = c.in_ok-opening.ensures.opens in
    record {
      script = opens.script;
      pages = opens.pages;
      shown = opens.shown;
      page = opens.page.page ∙ ap (first_page t (map effect_of p.effects.items) p.inside.items) (sym opens.page.page);
      state = subst (λ (k : Kept). IsKeptFrom None 0 (suspended_of p.state) k) (sym opens.page.kept) c.in_ok-kept.ensures;
      told = opens.state;
    }
