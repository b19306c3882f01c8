use Rattle.std.proofs.Common.{◌≡◌, ◌∙◌, ap, sym, subst, ℕ, ◌+◌, ◌<◌, ◌^◌, List, [], Some, IfOk, refl, arith, inl}
use Rattle.std.specs.Option.{option_copied}
use Rattle.machine_states.specs.Views.{outcome_of, segment_of, state_of, suspended_of}
use Rattle.replay_spec.specs.Book as spec
use Rattle.replay_spec.specs.Book.{Instance, instance_at}
use Rattle.replay_spec.specs.Change.{ended_by}
use Rattle.replay_spec.specs.Next.{page_visit}
use Rattle.replay_spec.specs.Step.{extension}
use Rattle.replay_spec.specs.Eviction.{goes_for}
use Rattle.book_visits.specs.declared.prepared.Prepared.{Prepared}
use Rattle.instance_book.specs.Views.{no_journal, book_of, instance_of, instances_of}
use Rattle.instance_book.specs.Makes.{rules_with}
use Rattle.book_visits.specs.Views.{ticket_of}
use Rattle.book_visits.specs.Prepares.{ending_by, IsExtension, IsEnding, IsFinish}
use Rattle.replay_spec.proofs.Numbered.{number_of}
use Rattle.instance_book.proofs.Seen.{instance_some, instance_none}
use Rattle.book_visits.proofs.Lands.{extended, ending_lands, finish_lands, ending_room, ending_shows_none, finish_shows_none, page_shown, room_made, under}
use Rattle.book_visits.proofs.Itself.{ends_itself, extended_itself, finishes_itself}
use Rattle.book_visits.proofs.Timely.{timely, timely_if}
use Rattle.book_visits.proofs.preparing.prepare_page.Goals as goal

pub returns-in_default-clause-decided : goal.returns-in_default-clause-decided
returns-in_default-clause-decided c library beside fuel instances at found number fits =
    let none = instance_none library.all c.args.page.now.instance c.args.book.now.instances.things.items (sym c.instance.ensures.thing ∙ ap option_copied c.in_default.is) in
    absurd (cc (none, found))

pub returns-in-Shown-clause-room : goal.returns-in-Shown-clause-room
returns-in-Shown-clause-room c =
    let x = c.in-Some.instance.now in
    let n = c.args.page.now.instance in
    let some = instance_some [] n c.args.book.now.instances.things.items x (sym c.in-Some.ensures.thing) in
    let number : x.number ≡ n = number_of (λ (i : Instance). i.number) n (instances_of [] c.args.book.now.instances) (instance_of [] x) some in
    let same : instances_of [] c.with_room.new.book.instances ≡ instances_of [] c.args.book.now.instances =
    ap (λ (b : spec.Book). b.instances) (c.with_room.ensures.book (record { all = []; setup = [] }) no_journal) in
    let there : instance_at n (instances_of [] c.with_room.new.book.instances) ≡ Some (instance_of [] x) =
    subst (λ (is : List Instance). instance_at n is ≡ Some (instance_of [] x)) (sym same) some in
    room_made _ x _ n c.with_room.new.book c.extension-made.result c.with_room.result number there c.extension-made.ensures.shows (λ p h. (h []).change)
    c.extension-made.ensures.shown c.with_room.ensures.made c.with_room.ensures.room

pub returns-in-Shown-clause-decided : goal.returns-in-Shown-clause-decided
returns-in-Shown-clause-decided c library beside fuel instances at found number fits =
    let b = book_of library beside c.args.book.now in
    let x = c.in-Some.instance.now in
    let t = c.args.ticket.now in
    let s = segment_of c.args.segment in
    let some = instance_some library.all c.args.page.now.instance c.args.book.now.instances.things.items x (sym c.in-Some.ensures.thing) in
    let same : instance_of library.all x ≡ at.instance = cc (some, found) in
    let there : instance_at at.instance.number b.instances ≡ Some at.instance =
    subst (λ (n : ℕ). instance_at n b.instances ≡ Some at.instance) (sym (number_of (λ (j : Instance). j.number) c.args.page.now.instance b.instances at.instance found)) found in
    let goes : ℕ → Instance → List ℕ = λ answered i. goes_for c.args.pages answered t.number i.used in
    let rules = rules_with fuel c.args.life instances c.args.pages in
    let its : Instance → ℕ → spec.Extension = λ i answered. extension rules b (goes answered i) (page_visit b (ticket_of t) at) s i.number answered c.in-Shown.kind in
    let P : Instance → ℕ → ℕ → Prepared → Type 0 = λ i answered deadline p.
    IsExtension p t i c.in-Shown.bytes (record (its i answered) { deadline = deadline }) s.entered in
    let made : IfOk c.extension-made.result (P (instance_of library.all x) c.args.page.now.page c.deadline-deadline.result) = under (λ ss. P (instance_of ss x) c.args.page.now.page c.deadline-deadline.result) c.extension-made.result library.all c.extension-made.ensures.shows in
    let made2 : IfOk c.extension-made.result (P at.instance c.args.page.now.page c.deadline-deadline.result) = subst (λ (i : Instance). IfOk c.extension-made.result (P i c.args.page.now.page c.deadline-deadline.result)) same made in
    let made3 : IfOk c.extension-made.result (P at.instance at.page.number c.deadline-deadline.result) = subst (λ (n : ℕ). IfOk c.extension-made.result (P at.instance n c.deadline-deadline.result)) (sym number) made2 in
    let made4 : IfOk c.extension-made.result (P at.instance at.page.number (b.clock + c.args.life)) = subst (λ (d : ℕ). IfOk c.extension-made.result (P at.instance at.page.number d)) (c.deadline-deadline.ensures ∙ ap (λ (n : ℕ). n + c.args.life) c.clock.ensures.clock) made3 in
    extended library fuel c.args.life instances c.args.pages b t at (goes at.page.number at.instance) s c.in-Shown.kind c.in-Shown.bytes c.extension-made.result c.with_room.result
    fits there (ap outcome_of c.in-Shown.is) made4 c.with_room.ensures.made c.with_room.ensures.err

pub returns-in-Ok-clause-room : goal.returns-in-Ok-clause-room
returns-in-Ok-clause-room c = ending_room c.in-Ok.prepared.change _ _ c.args.book.now (c.in-Ok.ensures []).change

pub returns-in-Ok-clause-decided : goal.returns-in-Ok-clause-decided
returns-in-Ok-clause-decided c library beside fuel instances at found number fits =
    let b = book_of library beside c.args.book.now in
    let x = c.in-Some.instance.now in
    let t = c.args.ticket.now in
    let s = segment_of c.args.segment in
    let some = instance_some library.all c.args.page.now.instance c.args.book.now.instances.things.items x (sym c.in-Some.ensures.thing) in
    let same : instance_of library.all x ≡ at.instance = cc (some, found) in
    let there : instance_at at.instance.number b.instances ≡ Some at.instance =
    subst (λ (n : ℕ). instance_at n b.instances ≡ Some at.instance) (sym (number_of (λ (j : Instance). j.number) c.args.page.now.instance b.instances at.instance found)) found in
    let P : Instance → ℕ → Type 0 = λ i answered. IsEnding c.in-Ok.prepared t i answered c.in-Ended.bytes s.effects s.entered s.left (ended_by (ending_by t i.number answered s.effects s.left)) in
    let made : P at.instance at.page.number = subst (P at.instance) (sym number) (subst (λ (i : Instance). P i c.args.page.now.page) same (c.in-Ok.ensures library.all)) in
    ending_lands library fuel c.args.life instances c.args.pages b t at (goes_for c.args.pages at.page.number t.number at.instance.used) s c.in-Ended.bytes c.in-Ok.prepared there (ap outcome_of c.in-Ended.is) made

pub returns-in-Ok-finish-clause-decided : goal.returns-in-Ok-finish-clause-decided
returns-in-Ok-finish-clause-decided c library beside fuel instances at found number fits =
    let b = book_of library beside c.args.book.now in
    let s = segment_of c.args.segment in
    let its : at.instance.number ≡ c.args.page.now.instance = number_of (λ (j : Instance). j.number) c.args.page.now.instance b.instances at.instance found in
    let P : ℕ → ℕ → Type 0 = λ n answered. IsFinish c.in-Ok-finish.prepared c.args.ticket.now n answered c.in-Finished.bytes s.effects s.entered in
    let made : P at.instance.number at.page.number = subst (P at.instance.number) (sym number) (subst (λ (n : ℕ). P n c.args.page.now.page) (sym its) c.in-Ok-finish.ensures) in
    finish_lands library fuel c.args.life instances c.args.pages b c.args.ticket.now at (goes_for c.args.pages at.page.number c.args.ticket.now.number at.instance.used) s c.in-Finished.bytes c.in-Ok-finish.prepared (ap outcome_of c.in-Finished.is) made

pub returns-in-Shown-clause-state : goal.returns-in-Shown-clause-state
returns-in-Shown-clause-state c =
    let x = c.in-Some.instance.now in
    let some = instance_some [] c.args.page.now.instance c.args.book.now.instances.things.items x (sym c.in-Some.ensures.thing) in
    let number : x.number ≡ c.args.page.now.instance = number_of (λ (i : Instance). i.number) c.args.page.now.instance (instances_of [] c.args.book.now.instances) (instance_of [] x) some in
    page_shown c.args.ticket.now c.args.segment x.number c.args.page.now.instance c.args.page.now.page (suspended_of c.in-Shown.state) c.extension-made.result c.with_room.result number (ap state_of c.in-Shown.is)
    c.extension-made.ensures.state c.with_room.ensures.made

pub returns-in-Ok-clause-state : goal.returns-in-Ok-clause-state
returns-in-Ok-clause-state c = inl (ending_shows_none c.in-Ok.prepared.change _ _ (c.in-Ok.ensures []).change)

pub returns-in-Ok-finish-clause-state : goal.returns-in-Ok-finish-clause-state
returns-in-Ok-finish-clause-state c = inl (finish_shows_none _ c.in-Ok-finish.prepared.change _ _ _ c.in-Ok-finish.ensures.decision)

pub returns-in-Shown-clause-itself : goal.returns-in-Shown-clause-itself
returns-in-Shown-clause-itself c name =
    let n = c.args.page.now in
    let x = c.in-Some.instance.now in
    extended_itself c.args.book.now c.args.ticket.now (segment_of c.args.segment) name n (λ scripts. instance_of scripts x)
    (λ scripts. instance_some scripts n.instance c.args.book.now.instances.things.items x (sym c.in-Some.ensures.thing))
    c.in-Shown.bytes _ c.extension-made.result c.with_room.result c.extension-made.ensures.shows c.with_room.ensures.made (λ scripts. refl)

pub returns-in-Ok-clause-itself : goal.returns-in-Ok-clause-itself
returns-in-Ok-clause-itself c name =
    let n = c.args.page.now in
    let x = c.in-Some.instance.now in
    ends_itself c.args.book.now c.args.ticket.now (segment_of c.args.segment) name n (λ scripts. instance_of scripts x)
    (λ scripts. instance_some scripts n.instance c.args.book.now.instances.things.items x (sym c.in-Some.ensures.thing)) c.in-Ended.bytes c.in-Ok.prepared c.in-Ok.ensures

pub returns-in-Ok-finish-clause-itself : goal.returns-in-Ok-finish-clause-itself
returns-in-Ok-finish-clause-itself c name =
    finishes_itself c.args.book.now c.args.ticket.now (segment_of c.args.segment) name c.args.page.now c.in-Finished.bytes c.in-Ok-finish.prepared c.in-Ok-finish.ensures

pub returns-in-Shown-clause-deadline : goal.returns-in-Shown-clause-deadline
returns-in-Shown-clause-deadline c =
    let soon : c.deadline-deadline.result < 2 ^ 63 = omega (arith, c.clock.ensures.low, c.requires.life, c.deadline-deadline.ensures) in
    (timely_if _ c.extension-made.result c.with_room.result (λ p x. timely p _ (x []).recorded.decision (tt, soon)) c.extension-made.ensures.shows c.with_room.ensures.made).0

pub returns-in-Shown-clause-reply : goal.returns-in-Shown-clause-reply
returns-in-Shown-clause-reply c =
    let soon : c.deadline-deadline.result < 2 ^ 63 = omega (arith, c.clock.ensures.low, c.requires.life, c.deadline-deadline.ensures) in
    (timely_if _ c.extension-made.result c.with_room.result (λ p x. timely p _ (x []).recorded.decision (tt, soon)) c.extension-made.ensures.shows c.with_room.ensures.made).1

pub returns-in-Ok-clause-deadline : goal.returns-in-Ok-clause-deadline
returns-in-Ok-clause-deadline c = (timely c.in-Ok.prepared _ (c.in-Ok.ensures []).recorded.decision tt).0

pub returns-in-Ok-clause-reply : goal.returns-in-Ok-clause-reply
returns-in-Ok-clause-reply c = (timely c.in-Ok.prepared _ (c.in-Ok.ensures []).recorded.decision tt).1

pub returns-in-Ok-finish-clause-deadline : goal.returns-in-Ok-finish-clause-deadline
returns-in-Ok-finish-clause-deadline c = (timely c.in-Ok-finish.prepared _ c.in-Ok-finish.ensures.decision tt).0

pub returns-in-Ok-finish-clause-reply : goal.returns-in-Ok-finish-clause-reply
returns-in-Ok-finish-clause-reply c = (timely c.in-Ok-finish.prepared _ c.in-Ok-finish.ensures.decision tt).1
