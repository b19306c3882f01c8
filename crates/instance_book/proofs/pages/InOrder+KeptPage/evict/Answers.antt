use Rattle.std.proofs.Common.{ap, refl, map, rules}
use Rattle.instance_book.specs.declared.numbered.Numbered.{Numbered}
use Rattle.instance_book.specs.declared.page.KeptPage.{KeptPage}
use Rattle.instance_book.specs.Views.{page_of, mark_of}
use Rattle.instance_book.specs.Places.{shown_of}
use Rattle.instance_book.proofs.Lists.{within}
use Rattle.instance_book.proofs.Seen.{rises_set, seen_set, mark_none}
use Rattle.instance_book.proofs.Marking.{gone_at, gone_none}
use Rattle.instance_book.proofs.pages.InOrder+KeptPage.evict.Goals as goal

pub invariant_of-self : goal.invariant_of-self
invariant_of-self c =
    let x = c.index_mut.result.now in
    let y : Numbered KeptPage = record { number = x.number; item = c.evict.new.self } in
    record { rising = rises_set c.args.self.now.things.items c.args.page c.in-Some.place x y c.args.self.now.rising c.in-Some.ensures.found c.index_mut.ensures.value refl }

pub returns-in-Some : goal.returns-in-Some
returns-in-Some c =
    let xs = c.args.self.now.things.items in
    let x = c.index_mut.result.now in
    let y : Numbered KeptPage = record { number = x.number; item = c.evict.new.self } in
    let here = within xs c.args.page c.in-Some.place c.in-Some.ensures.found in
    record {
      pages = seen_set page_of xs c.in-Some.place x y c.index_mut.ensures.value here (ap (λ (i : KeptPage). page_of (record { number = x.number; item = i })) c.evict.ensures);
      shown = seen_set shown_of xs c.in-Some.place x y c.index_mut.ensures.value here (ap (λ (i : KeptPage). shown_of (record { number = x.number; item = i })) c.evict.ensures);
      marks = gone_at xs c.args.page c.args.number c.in-Some.place x y c.args.self.now.rising c.in-Some.ensures.found c.index_mut.ensures.value (ap (λ (i : KeptPage). mark_of (record { number = x.number; item = i })) c.evict.ensures);
      room = λ h. search rules;
    }

pub returns-in-None : goal.returns-in-None
returns-in-None c = record {
  pages = refl;
  shown = refl;
  marks = gone_none c.args.page c.args.number (map mark_of c.args.self.now.things.items) (mark_none c.args.page c.args.self.now.things.items c.in-None.ensures.absent);
  room = λ h. h;
}
