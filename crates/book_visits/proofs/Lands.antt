-- What a prepared visit makes of a book is what the definitions make of it.
use Rattle.std.proofs.Common.{◌≡◌, ◌∙◌, ap, sym, subst, ℕ, ◌+◌, max, nat_le, List, [], length, slice_get, Option, Some, None, Result, Ok, Err, IfOk, IfErr, OnOk, refl, false, inr}
use Rattle.std.proofs.lemmas.Option.{get_or_from_slice_get, same_Some}
use Rattle.script_value.specs.declared.outcome.Reply.{Reply}
use Rattle.script_value.specs.declared.outcome.Reply.TheVariants as reply
use Rattle.script_value.specs.declared.outcome.TxName.{TxName}
use Rattle.script_nodes.specs.Setup.{Named, Library}
use Rattle.script_nodes.specs.declared.script.SendKind.{SendKind}
use Rattle.script_nodes.specs.declared.script.SendKind.TheVariants.{Suspend, Forward}
use Rattle.instance_cells.specs.Cells.{Effect}
use Rattle.replay_spec.specs.Tape.{shows, finishes, ends, paged}
use Rattle.replay_spec.specs.Eval.{Segment}
use Rattle.replay_spec.specs.Book as spec
use Rattle.replay_spec.specs.Book.{Instance, root_by, Book, instance_at, at_number, spend}
use Rattle.replay_spec.specs.Rules.{Rules}
use Rattle.replay_spec.specs.Change.{put_instance, mend, without, shown_by, extended_by, ended_by, fresh, opened_by}
use Rattle.replay_spec.specs.Admission.{Place}
use Rattle.replay_spec.specs.Next.{start_visit, page_visit, url_for}
use Rattle.replay_spec.specs.Step as step
use Rattle.replay_spec.specs.Step.{Decision, replies, records, compacts, settles, carried_out, opening, extension, ending, finish}
use Rattle.journal_records.specs.Fields as told
use Rattle.journal_records.specs.Views.{origin_of, page_change, change_with}
use Rattle.journal_records.specs.declared.records.PageRecord.{PageRecord}
use Rattle.book_visits.specs.declared.prepared.Prepared.{Prepared}
use Rattle.instance_book.specs.declared.change.Change.{Change}
use Rattle.instance_book.specs.declared.change.Change.TheVariants.{Opens, Extends, Ends, Finishes}
use Rattle.book_visits.specs.declared.ticket.Ticket.{Ticket}
use Rattle.instance_book.specs.declared.numbered.Numbered.{Numbered}
use Rattle.instance_book.specs.declared.instance.KeptInstance.{KeptInstance}
use Rattle.instance_book.specs.Places.{CanFollow}
use Rattle.book_visits.specs.Segments.{CanBeShown}
use Rattle.instance_book.proofs.Seen.{instance_some, mend_agrees}
use Rattle.std.specs.declared.alloc.AllocError.{AllocError}
use Rattle.instance_book.specs.declared.book.Book as RustBook
use Rattle.instance_book.specs.Views.{pages_of, used_of, script_in, no_script, instance_of, instances_of, HasRoomAt}
use Rattle.book_visits.specs.Views.{ticket_of, reply_of}
use Rattle.instance_book.specs.Changes.{instances_after, ended_with, gone_in, shown_with, HasRoomFor}
use Rattle.book_visits.specs.Changes.{put_into, decision_by, decision_of, IfExtends}
use Rattle.book_visits.specs.Fits.{IsFor, FitsStart}
use Rattle.instance_book.specs.Makes.{rules_with}
use Rattle.book_visits.specs.Prepares.{IsRecord, IsCarriedOut, Prepares, BeginsWithIts, first_instance, opening_by, extension_by, ending_by, finish_by, OpensWith, ExtendsBy, EndsBy, IsOpening, IsExtension, IsEnding, IsFinish, ExtendsTo, ShowsNone, AnswerKeepsState}
use Rattle.machine_states.specs.Machine.{Suspended}
use Rattle.machine_states.specs.Views.{segment_of, state_of}
use Rattle.machine_states.specs.declared.segment.Segment as stored

-- what a decision is answered with
abbrev reply_in : Decision → step.Reply
reply_in (replies r) = r
reply_in (records r c inside) = r
reply_in (compacts r) = r

reply_is : (r : step.Reply) (c : Option Change) → reply_in (decision_by r c) ≡ r
reply_is r None = refl
reply_is r (Some c) = refl

-- what a change makes of the instances
opens_as : (scripts : List Named) (c : Option Change) (f : List Named → Instance) (is : List Instance) → OpensWith c f → instances_after scripts c is ≡ put_instance (f scripts) is
opens_as scripts None f is h = absurd h
opens_as scripts (Some (Opens o)) f is h = ap (λ (k : Instance). put_instance k is) (h scripts)
opens_as scripts (Some (Extends x)) f is h = absurd h
opens_as scripts (Some (Ends x)) f is h = absurd h
opens_as scripts (Some (Finishes x)) f is h = absurd h

extends_as : (scripts : List Named) (c : Option Change) (i : Instance) (f : Instance → Instance) (is : List Instance) → instance_at i.number is ≡ Some i → ExtendsBy c i f → instances_after scripts c is ≡ mend i.number f is
extends_as scripts None i f is found h = absurd h
extends_as scripts (Some (Opens o)) i f is found h = absurd h
extends_as scripts (Some (Extends x)) i f is found h = ap (λ (m : ℕ). mend m (shown_with x.show (gone_in x)) is) h.0 ∙ mend_agrees i.number (shown_with x.show (gone_in x)) f is i found h.1
extends_as scripts (Some (Ends x)) i f is found h = absurd h
extends_as scripts (Some (Finishes x)) i f is found h = absurd h

ends_as : (scripts : List Named) (c : Option Change) (i : Instance) (f : Instance → Instance) (is : List Instance) → instance_at i.number is ≡ Some i → EndsBy c i f → instances_after scripts c is ≡ mend i.number f is
ends_as scripts None i f is found h = absurd h
ends_as scripts (Some (Opens o)) i f is found h = absurd h
ends_as scripts (Some (Extends x)) i f is found h = absurd h
ends_as scripts (Some (Ends e)) i f is found h =
    let g : Instance → Instance = ended_with e.record.page e.record.ticket e.after in
    ap (λ (m : ℕ). mend m g is) h.0 ∙ mend_agrees i.number g f is i found h.1
ends_as scripts (Some (Finishes x)) i f is found h = absurd h

-- the instance that a decision frees
abbrev FreesAs : List Named → Option Change → List Instance → Decision → Type 0
FreesAs scripts c is (records r (spec.finishes f) inside) = instances_after scripts c is ≡ without f.instance is
FreesAs scripts c is _ = Unit {0}

-- a page frees none
shows_as : (scripts : List Named) (r : step.Reply) (c : Option Change) (inside : List TxName) (is : List Instance) (p : PageRecord) → FreesAs scripts c is (records r (page_change p) inside)
shows_as scripts r c inside is p = by_origin (origin_of p.origin)
  where
    by_origin : (o : told.Origin) → FreesAs scripts c is (records r (change_with o p) inside)
    by_origin (told.start k) = tt
    by_origin (told.answered i n answer) = tt

finishes_as : (scripts : List Named) (r : step.Reply) (c : Option Change) (is : List Instance) → FreesAs scripts c is (decision_by r c)
finishes_as scripts r None is = tt
finishes_as scripts r (Some (Opens o)) is = shows_as scripts r (Some (Opens o)) o.page.item.inside.items is o.record
finishes_as scripts r (Some (Extends x)) is = shows_as scripts r (Some (Extends x)) x.show.page.item.inside.items is x.record
finishes_as scripts r (Some (Ends x)) is = tt
finishes_as scripts r (Some (Finishes f)) is = refl

-- the instance of a start that showed its first page
first_is : (scripts : List Named) (t : Ticket) (s : Named) (effects : List Effect) (left inside : List TxName) (kind : SendKind) (o : spec.Opening)
    → script_in scripts t.script ≡ s → t.cells ≡ s.script.cells
    → let x = opening_by t effects left o in
    first_instance scripts t x inside ≡ shown_by effects left kind [] (root_by x inside) (fresh s t.number)
first_is scripts t s effects left inside Suspend o script cells = rw (script, cells) refl
first_is scripts t s effects left inside Forward o script cells = rw (script, cells) refl

-- a book with other instances, and more logged
abbrev logged_with : ℕ → List Instance → Book → Book
logged_with n is b = record b { logged = max b.logged n; instances = is }

same_books : (n m : ℕ) (is js : List Instance) (b : Book) → n ≡ m → is ≡ js → logged_with n is b ≡ logged_with m js b
same_books n m is js b e f = rw (e, f) refl

module _ (library : Library) (fuel life instances pages : ℕ) (b : Book) (t : Ticket) where
  abbrev rules : Rules
  rules = rules_with fuel life instances pages

  -- what is prepared makes of the book what the decision makes of it
  carried : (p : Prepared) (d : Decision) (is : List Instance → List Instance) → decision_of p ≡ d → p.logged ≡ t.number + 1
      → ((n : ℕ) → carried_out rules (spend n b) d ≡ (reply_in d, logged_with (t.number + 1) (is b.instances) (spend n b)))
      → instances_after library.all p.change b.instances ≡ is b.instances → IsCarriedOut library rules b d p
  carried p d is decision logged landed made = record {
    decision = decision;
    lands = λ n.
        let reply : reply_in d ≡ reply_of p.reply = ap reply_in (sym decision) ∙ reply_is (reply_of p.reply) p.change in
        let book : logged_with (t.number + 1) (is b.instances) (spend n b) ≡ put_into library p (spend n b) = same_books (t.number + 1) p.logged (is b.instances) (instances_after library.all p.change b.instances) (spend n b) (sym logged) (sym made) in
        landed n ∙ (ap (λ (r : step.Reply). (r, logged_with (t.number + 1) (is b.instances) (spend n b))) reply ∙ ap (λ (c : Book). (reply_of p.reply, c)) book);
  }

  start_shows : (k : ℕ) (named : Named) (s : Segment) (kind : SendKind) (bytes : List ℕ) → s.outcome ≡ paged (shows kind) bytes → nat_le instances (length b.instances) ≡ false
      → let v = start_visit b (ticket_of t) k named in
      settles rules b [] v s ≡ records (step.shown bytes (url_for v)) (spec.opens (opening rules b v s k kind)) s.entered
  start_shows k named s kind bytes e full = rw (e, full) refl

  -- a start's page, whatever the ticket is for
  pub opening_itself : b.scripts ≡ library.setup → (begins : BeginsWithIts library t)
      → (bytes : List ℕ) (effects : List Effect) (left inside : List TxName) (o : spec.Opening) (p : Prepared)
      → IsOpening p t bytes (opening_by t effects left o) inside
      → IsCarriedOut library rules b (records (step.shown bytes t.url) (spec.opens (opening_by t effects left o)) inside) p
  opening_itself setup begins bytes effects left inside o p h =
      let x : spec.Opening = opening_by t effects left o in
      let d : Decision = records (step.shown bytes t.url) (spec.opens x) inside in
      let its : script_in library.all t.script ≡ begins.named = get_or_from_slice_get library.all t.script begins.named no_script begins.told in
      let first : Instance = shown_by effects left o.kind [] (root_by x inside) (fresh begins.named t.number) in
      let opened : opened_by (slice_get b.scripts t.start) x inside b.instances ≡ put_instance first b.instances =
      ap (λ (ss : List Named). opened_by (slice_get ss t.start) x inside b.instances) setup ∙ ap (λ (y : Option Named). opened_by y x inside b.instances) begins.present in
      let made : instances_after library.all p.change b.instances ≡ put_instance first b.instances =
      opens_as library.all p.change _ b.instances h.change ∙ ap (λ (i : Instance). put_instance i b.instances) (first_is library.all t begins.named effects left inside o.kind o its begins.cells) in
      carried p d (put_instance first) h.recorded.decision h.recorded.logged
      (λ n. ap (λ (is : List Instance). (step.shown bytes t.url, logged_with (t.number + 1) is (spend n b))) opened) made

  pub opening_lands : b.scripts ≡ library.setup → (k : ℕ) (named : Named) (s : Segment) (kind : SendKind) (bytes : List ℕ) (p : Prepared) → FitsStart library.all b t k named
      → s.outcome ≡ paged (shows kind) bytes → nat_le instances (length b.instances) ≡ false
      → IsOpening p t bytes (opening rules b (start_visit b (ticket_of t) k named) s t.start kind) s.entered
      → Prepares library rules b (settles rules b [] (start_visit b (ticket_of t) k named) s) (Ok p)
  opening_lands setup k named s kind bytes p fits e full o =
      let v = start_visit b (ticket_of t) k named in
      let record_of : ℕ → spec.Opening = λ m. opening rules b v s m kind in
      let same : records (step.shown bytes t.url) (spec.opens (record_of t.start)) s.entered ≡ records (step.shown bytes (url_for v)) (spec.opens (record_of k)) s.entered =
      ap (λ (u : List ℕ). records (step.shown bytes u) (spec.opens (record_of t.start)) s.entered) fits.run.url ∙ ap (λ (m : ℕ). records (step.shown bytes (url_for v)) (spec.opens (record_of m)) s.entered) fits.start in
      let present : slice_get library.setup t.start ≡ Some named =
      subst (λ (ss : List Named). slice_get ss t.start ≡ Some named) setup (subst (λ (m : ℕ). slice_get b.scripts m ≡ Some named) (sym fits.start) fits.present) in
      let begins : BeginsWithIts library t = record { named = named; told = fits.run.script; present = present; cells = fits.cells } in
      subst (λ (x : Decision). IsCarriedOut library rules b x p) (same ∙ sym (start_shows k named s kind bytes e full))
      (opening_itself setup begins bytes s.effects s.left s.entered (record_of t.start) p o)

  page_shows : (at : Place) (gone : List ℕ) (s : Segment) (kind : SendKind) (bytes : List ℕ) → s.outcome ≡ paged (shows kind) bytes
      → let v = page_visit b (ticket_of t) at in
      settles rules b gone v s ≡ records (step.shown bytes (url_for v)) (spec.extends (extension rules b gone v s at.instance.number at.page.number kind)) s.entered
  page_shows at gone s kind bytes e = rw e refl

  page_ends : (at : Place) (gone : List ℕ) (s : Segment) (bytes : List ℕ) → s.outcome ≡ paged ends bytes
      → let v = page_visit b (ticket_of t) at in
      settles rules b gone v s ≡ records (step.ended bytes) (spec.ends (ending v s at.instance.number at.page.number)) s.entered
  page_ends at gone s bytes e = rw e refl

  page_finishes : (at : Place) (gone : List ℕ) (s : Segment) (bytes : List ℕ) → s.outcome ≡ paged finishes bytes
      → let v = page_visit b (ticket_of t) at in
      settles rules b gone v s ≡ records (step.finished bytes) (spec.finishes (finish v s at.instance.number at.page.number)) s.entered
  page_finishes at gone s bytes e = rw e refl

  page_wants : (at : Place) (gone : List ℕ) (s : Segment) (kind : SendKind) (bytes : List ℕ) → s.outcome ≡ paged (shows kind) bytes
      → Prepares library rules b (settles rules b gone (page_visit b (ticket_of t) at) s) (Err reply.Memory)
  page_wants at gone s kind bytes e = subst IsRecord (sym (page_shows at gone s kind bytes e)) tt

  -- the page of an answer to a page of this instance, and the end and the finish with one, whatever the ticket is for
  module _ (i : Instance) (answered : ℕ) (bytes : List ℕ) (effects : List Effect) (inside left : List TxName) (p : Prepared) where
    pub extension_itself : instance_at i.number b.instances ≡ Some i → (x : spec.Extension)
        → IsExtension p t i bytes (extension_by t i.number answered effects left x) inside
        → IsCarriedOut library rules b (records (step.shown bytes t.url) (spec.extends (extension_by t i.number answered effects left x)) inside) p
    extension_itself found x h =
        let its : spec.Extension = extension_by t i.number answered effects left x in
        let d : Decision = records (step.shown bytes t.url) (spec.extends its) inside in
        carried p d (mend i.number (extended_by its inside)) h.recorded.decision h.recorded.logged (λ n. refl)
        (extends_as library.all p.change i (extended_by its inside) b.instances found h.change)

    pub ending_itself : instance_at i.number b.instances ≡ Some i → IsEnding p t i answered bytes effects inside left (ended_by (ending_by t i.number answered effects left))
        → IsCarriedOut library rules b (records (step.ended bytes) (spec.ends (ending_by t i.number answered effects left)) inside) p
    ending_itself found x =
        let e : spec.Ending = ending_by t i.number answered effects left in
        let d : Decision = records (step.ended bytes) (spec.ends e) inside in
        carried p d (mend i.number (ended_by e)) x.recorded.decision x.recorded.logged (λ n. refl) (ends_as library.all p.change i (ended_by e) b.instances found x.change)

  pub finish_itself : (instance answered : ℕ) (bytes : List ℕ) (effects : List Effect) (inside : List TxName) (p : Prepared) → IsFinish p t instance answered bytes effects inside
      → IsCarriedOut library rules b (records (step.finished bytes) (spec.finishes (finish_by t instance answered effects)) inside) p
  finish_itself instance answered bytes effects inside p x =
      let d : Decision = records (step.finished bytes) (spec.finishes (finish_by t instance answered effects)) inside in
      let made : FreesAs library.all p.change b.instances d = subst (FreesAs library.all p.change b.instances) x.decision (finishes_as library.all (reply_of p.reply) p.change b.instances) in
      carried p d (without instance) x.decision x.logged (λ n. refl) made

  pub extension_lands : (at : Place) (gone : List ℕ) (s : Segment) (kind : SendKind) (bytes : List ℕ) (p : Prepared) → IsFor library.all t (page_visit b (ticket_of t) at)
      → instance_at at.instance.number b.instances ≡ Some at.instance
      → s.outcome ≡ paged (shows kind) bytes
      → IsExtension p t at.instance bytes (extension rules b gone (page_visit b (ticket_of t) at) s at.instance.number at.page.number kind) s.entered
      → Prepares library rules b (settles rules b gone (page_visit b (ticket_of t) at) s) (Ok p)
  extension_lands at gone s kind bytes p fits found e h =
      let x : spec.Extension = extension rules b gone (page_visit b (ticket_of t) at) s at.instance.number at.page.number kind in
      let change : spec.Change = spec.extends x in
      let same : records (step.shown bytes t.url) change s.entered ≡ records (step.shown bytes (url_for (page_visit b (ticket_of t) at))) change s.entered =
      ap (λ (u : List ℕ). records (step.shown bytes u) change s.entered) fits.url in
      subst (λ (y : Decision). IsCarriedOut library rules b y p) (same ∙ sym (page_shows at gone s kind bytes e))
      (extension_itself at.instance at.page.number bytes s.effects s.entered s.left p found x h)

  pub ending_lands : (at : Place) (gone : List ℕ) (s : Segment) (bytes : List ℕ) (p : Prepared) → instance_at at.instance.number b.instances ≡ Some at.instance
      → s.outcome ≡ paged ends bytes → IsEnding p t at.instance at.page.number bytes s.effects s.entered s.left (ended_by (ending_by t at.instance.number at.page.number s.effects s.left))
      → Prepares library rules b (settles rules b gone (page_visit b (ticket_of t) at) s) (Ok p)
  ending_lands at gone s bytes p found e x =
      subst (λ (y : Decision). IsCarriedOut library rules b y p) (sym (page_ends at gone s bytes e))
      (ending_itself at.instance at.page.number bytes s.effects s.entered s.left p found x)

  pub finish_lands : (at : Place) (gone : List ℕ) (s : Segment) (bytes : List ℕ) (p : Prepared) → s.outcome ≡ paged finishes bytes
      → IsFinish p t at.instance.number at.page.number bytes s.effects s.entered
      → Prepares library rules b (settles rules b gone (page_visit b (ticket_of t) at) s) (Ok p)
  finish_lands at gone s bytes p e x =
      subst (λ (y : Decision). IsCarriedOut library rules b y p) (sym (page_finishes at gone s bytes e))
      (finish_itself at.instance.number at.page.number bytes s.effects s.entered p x)

  -- an extension for which room was wanted too
  pub extended : (at : Place) (gone : List ℕ) (s : Segment) (kind : SendKind) (bytes : List ℕ) (made : Result Prepared AllocError) (r : Result Prepared Reply)
      → IsFor library.all t (page_visit b (ticket_of t) at) → instance_at at.instance.number b.instances ≡ Some at.instance
      → s.outcome ≡ paged (shows kind) bytes
      → IfOk made (λ p. IsExtension p t at.instance bytes (extension rules b gone (page_visit b (ticket_of t) at) s at.instance.number at.page.number kind) s.entered)
      → IfOk r (λ p. made ≡ Ok p) → IfErr r (λ e. e ≡ reply.Memory)
      → Prepares library rules b (settles rules b gone (page_visit b (ticket_of t) at) s) r
  extended at gone s kind bytes made (Ok p) fits found e x is err =
      extension_lands at gone s kind bytes p fits found e
      (subst (λ (m : Result Prepared AllocError). IfOk m (λ q. IsExtension q t at.instance bytes (extension rules b gone (page_visit b (ticket_of t) at) s at.instance.number at.page.number kind) s.entered)) is x)
  extended at gone s kind bytes made (Err q) fits found e x is err =
      subst (λ (z : Reply). Prepares library rules b (settles rules b gone (page_visit b (ticket_of t) at) s) (Err z)) (sym err) (page_wants at gone s kind bytes e)

-- the room of what is prepared, in instances as they were
room_by : (c : Option Change) (i : Numbered KeptInstance) (f : Instance → Instance) (n : ℕ) (b : RustBook.Book) → i.number ≡ n → ExtendsBy c (instance_of [] i) f
    → IfExtends c (λ x. CanFollow x.show.page (gone_in x) (pages_of i.item.pages) (used_of i.item.pages))
    → instance_at n (instances_of [] b.instances) ≡ Some (instance_of [] i) → HasRoomAt n b.instances → HasRoomFor c b
room_by None i f n b number h follows there room = absurd h
room_by (Some (Opens o)) i f n b number h follows there room = absurd h
room_by (Some (Extends x)) i f n b number h follows there room = λ k found.
    let same : x.instance ≡ n = h.0 ∙ number in
    let here : at_number (λ y. y.number) n b.instances.things.items ≡ Some k = subst (λ (m : ℕ). at_number (λ y. y.number) m b.instances.things.items ≡ Some k) same found in
    let seen : instance_of [] i ≡ instance_of [] k = same_Some _ _ (sym there ∙ instance_some [] n b.instances.things.items k here) in
    record {
      room = room k here;
      next = subst (λ (z : Instance). CanFollow x.show.page (gone_in x) z.pages z.used) seen follows;
    }
room_by (Some (Ends x)) i f n b number h follows there room = absurd h
room_by (Some (Finishes x)) i f n b number h follows there room = absurd h

pub ending_room : (c : Option Change) (i : Instance) (f : Instance → Instance) (b : RustBook.Book) → EndsBy c i f → HasRoomFor c b
ending_room None i f b h = absurd h
ending_room (Some (Opens o)) i f b h = absurd h
ending_room (Some (Extends x)) i f b h = absurd h
ending_room (Some (Ends x)) i f b h = tt
ending_room (Some (Finishes x)) i f b h = absurd h

-- what was made whatever the setup was made under this one
pub under : {A E : Type 0} (P : List Named → A → Type 0) (r : Result A E) (scripts : List Named) → IfOk r (λ x. (ss : List Named) → P ss x) → IfOk r (P scripts)
under P (Ok x) scripts h = h scripts
under P (Err e) scripts h = tt

pub room_made : (P : Prepared → Type 0) (i : Numbered KeptInstance) (f : Instance → Instance) (n : ℕ) (b : RustBook.Book)
    (made : Result Prepared AllocError) (r : Result Prepared Reply) → i.number ≡ n → instance_at n (instances_of [] b.instances) ≡ Some (instance_of [] i)
    → IfOk made P → ((p : Prepared) → P p → ExtendsBy p.change (instance_of [] i) f) → IfOk made (CanBeShown i)
    → IfOk r (λ p. made ≡ Ok p) → OnOk r (HasRoomAt n b.instances) → IfOk r (λ p. HasRoomFor p.change b)
room_made P i f n b made (Ok p) number there made_so extends follows is room =
    let one : P p = subst (λ (m : Result Prepared AllocError). IfOk m P) is made_so in
    let its : CanBeShown i p = subst (λ (m : Result Prepared AllocError). IfOk m (CanBeShown i)) is follows in
    room_by p.change i f n b number (extends p one) its there room
room_made P i f n b made (Err q) number there made_so extends follows is room = tt

-- what shows no page
pub ending_shows_none : (c : Option Change) (i : Instance) (f : Instance → Instance) → EndsBy c i f → ShowsNone c
ending_shows_none None i f h = absurd h
ending_shows_none (Some (Opens o)) i f h = absurd h
ending_shows_none (Some (Extends x)) i f h = absurd h
ending_shows_none (Some (Ends x)) i f h = tt
ending_shows_none (Some (Finishes x)) i f h = absurd h

abbrev IsFinishing : Decision → Type 0
IsFinishing (records r (spec.opens o) inside) = ⊥
IsFinishing (records r (spec.extends x) inside) = ⊥
IsFinishing _ = Unit {0}

-- a page is no finish
page_is_none : (r : step.Reply) (inside : List TxName) (p : PageRecord) → IsFinishing (records r (page_change p) inside) → ⊥
page_is_none r inside p = by_origin (origin_of p.origin)
  where
    by_origin : (o : told.Origin) → IsFinishing (records r (change_with o p) inside) → ⊥
    by_origin (told.start k) h = h
    by_origin (told.answered i n answer) h = h

finishing_shows_none : (r : step.Reply) (c : Option Change) → IsFinishing (decision_by r c) → ShowsNone c
finishing_shows_none r None h = tt
finishing_shows_none r (Some (Opens o)) h = page_is_none r o.page.item.inside.items o.record h
finishing_shows_none r (Some (Extends x)) h = page_is_none r x.show.page.item.inside.items x.record h
finishing_shows_none r (Some (Ends x)) h = tt
finishing_shows_none r (Some (Finishes x)) h = tt

pub finish_shows_none : (r : step.Reply) (c : Option Change) (reply : step.Reply) (f : spec.Finish) (inside : List TxName) → decision_by r c ≡ records reply (spec.finishes f) inside → ShowsNone c
finish_shows_none r c reply f inside e = finishing_shows_none r c (subst IsFinishing (sym e) tt)

-- the page of an extension for which room was wanted too
pub page_shown : (t : Ticket) (s : stored.Segment) (n instance answered : ℕ) (d : Suspended) (made : Result Prepared AllocError) (r : Result Prepared Reply) → n ≡ instance → state_of s.outcome ≡ Some d
    → IfOk made (λ p. ExtendsTo t n answered (segment_of s).effects s.entered.items d p.change) → IfOk r (λ p. made ≡ Ok p) → IfOk r (λ p. AnswerKeepsState t s instance answered p.change)
page_shown t s n instance answered d made (Err q) e state page is = tt
page_shown t s n instance answered d made (Ok p) e state page is =
    let one : ExtendsTo t n answered (segment_of s).effects s.entered.items d p.change = subst (λ (m : Result Prepared AllocError). IfOk m (λ q. ExtendsTo t n answered (segment_of s).effects s.entered.items d q.change)) is page in
    inr (d, (state, subst (λ (m : ℕ). ExtendsTo t m answered (segment_of s).effects s.entered.items d p.change) e one))
