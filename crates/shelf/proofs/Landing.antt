-- A prepared visit lands, by what became of its record: first whatever its ticket was for, then where that was its own visit.
use Rattle.std.proofs.Common.{◌≡◌, ◌∙◌, ap, sym, subst, refl, ℕ, ◌+◌, ◌≤◌, ◌<◌, ◌^◌, Bool, true, Err, List, [], ◌∷◌, length, inl, inr, Option, Some, None, option_map, IfSome, Contains, arith}
use Rattle.std.proofs.lemmas.Bool.Decides.{nat_tests}
use Rattle.std.proofs.lemmas.Option.{slice_get_within}
use Rattle.script_value.specs.declared.outcome.Reply.{Reply}
use Rattle.script_nodes.specs.Setup.{Named, Library}
use Rattle.page_names.specs.Names.{Destination, start, page}
use Rattle.page_names.specs.Views.{target_of}
use Rattle.page_names.specs.declared.names.PageName.{PageName}
use Rattle.web_disk.specs.View.{View}
use Rattle.page_journal.specs.Settled.{length_of}
use Rattle.replay_spec.specs.Book as spec
use Rattle.replay_spec.specs.Book.{Doubt, changed, File, instance_at, spend, reopened}
use Rattle.replay_spec.specs.Change.{with_line, land}
use Rattle.replay_spec.specs.Recovery.{of_length, can_go}
use Rattle.replay_spec.proofs.Goers.{go_used}
use Rattle.replay_spec.specs.Admission.{◌>>=◌, refusal_of, admit}
use Rattle.replay_spec.specs.Eval as eval
use Rattle.replay_spec.specs.Invariant.{HasPage, CanGo, IsOf, IsOrderlyChange}
use Rattle.replay_spec.specs.Step as step
use Rattle.replay_spec.specs.Step.{replies, records, carried_out, publish_comes}
use Rattle.machine_states.specs.Machine.{Suspended}
use Rattle.journal_records.specs.Records.{changes, record_length, IsInGrammar, TimeFits}
use Rattle.book_recovery.specs.JournalSpec.Before.{state_at, Earlier}
use Rattle.book_recovery.specs.JournalSpec.Retaking as books_told
use Rattle.book_recovery.specs.JournalSpec.Retaking.{arena_of, Told, with_state}
use Rattle.book_recovery.specs.JournalSpec.Lengths.{state_by, told_bytes, state_told, told_own, own_before, own_body}
use Rattle.book_recovery.specs.JournalSpec.Keeping.{IsTakenAs, body_by}
use Rattle.book_recovery.specs.JournalSpec.Whole.{IsSpelledState, HasWholeScripts}
use Rattle.book_recovery.specs.JournalSpec.Whole as whole
use Rattle.book_recovery.specs.JournalSpec.Making.{has_script}
use Rattle.book_recovery.proofs.JournalSpec.Brief.{moved_told, length_short}
use Rattle.book_recovery.proofs.JournalSpec.Grammar.{TellsInRange, IsToldWith, in_grammar}
use Rattle.machine_states.specs.Views.{segment_of, suspended_of}
use Rattle.machine_states.specs.declared.segment.Segment.{Segment}
use Rattle.journal_records.specs.Fields as spec_records
use Rattle.journal_records.specs.Views.{origin_of as origin_in, page_of as told_page, change_with, page_change}
use Rattle.journal_records.specs.declared.records.PageRecord.{PageRecord}
use Rattle.book_recovery.specs.InstanceBook.declared.book.Book.{Book}
use Rattle.book_recovery.specs.InstanceBook.declared.change.Change.{Change}
use Rattle.book_recovery.specs.InstanceBook.declared.change.Change.TheVariants.{Opens, Extends, Ends, Finishes}
use Rattle.book_visits.specs.declared.prepared.Prepared.{Prepared}
use Rattle.book_visits.specs.declared.ticket.Ticket.{Ticket}
use Rattle.book_recovery.specs.InstanceBook.declared.in_order.InOrder.{InOrder}
use Rattle.book_recovery.specs.InstanceBook.Lists.{HasRoom}
use Rattle.book_recovery.specs.InstanceBook.declared.instance.KeptInstance.{KeptInstance}
use Rattle.book_recovery.specs.InstanceBook.Views.{Beside, no_journal, book_of, instances_of}
use Rattle.book_visits.specs.Views.{ticket_of, reply_of}
use Rattle.book_recovery.specs.InstanceBook.Places.{given}
use Rattle.book_recovery.specs.InstanceBook.Changes.{HasStateIn, change_of, inside_of, gone_in, HasRoomFor, CanShowAt}
use Rattle.book_visits.specs.Changes.{decision_by, put_into, HasDeadlineIn, HasDeadlineBy, IsSpelledIn}
use Rattle.book_visits.specs.Fits.{FitsAs, IsRunnable}
use Rattle.book_recovery.specs.InstanceBook.Makes.{Makes, MakesUnder}
use Rattle.book_recovery.specs.InstanceBook.Makes.{rules_with}
use Rattle.book_visits.specs.Prepares.{KeepsStateOf, IsChangeBy, IsDecisionBy, IsCarriedOut, HasItsScript}
use Rattle.shelf.specs.declared.shelf.Shelf.{Shelf}
use Rattle.shelf.specs.declared.doubt.Doubt as doubt_type
use Rattle.shelf.specs.Views.{unmeasured, rules_of, doubt_of, doubt_by, library_in, beside_of, book_in, fate_by, IsInOrder}
use Rattle.shelf.specs.Holding.{IsWhole, IsWholeFrom, IsWholeIn}
use Rattle.shelf.specs.Preparing.{CanBeLanded}
use Rattle.shelf.specs.Recording.{refusal_of_size, CanBeWritten, IsBody, IsWritten, state_in, behind_in, told_in, IsKeptIn, BindsIn, GoesOnAsGiven}
use Rattle.shelf.specs.Tickets.{GoesOnIfThere}
use Rattle.shelf.proofs.Beside.{admit_same, fits_at}
use Rattle.shelf.proofs.Landed as landed
use Rattle.shelf.proofs.Publishing.{told, unwritten, replies_is, records_is}
use Rattle.shelf.proofs.Sizes.{not_refused, size_is}
use Rattle.shelf.proofs.Shown.{kept_in, whole_from, GoesHere, behind_told, shown_given}
use Rattle.shelf.proofs.Stated.{start_shows, answer_shows, state_left, state_beside, before_left, before_beside}
use Rattle.shelf.proofs.Tickets.{as_given, of_its_script}
use Rattle.shelf.proofs.Told.{whole_in}
use Rattle.shelf.proofs.Steps as steps
use Rattle.shelf.proofs.Steps.{Comes, short_enough}
use Rattle.shelf.proofs.Taken.{is_of, IsTakenSo, is_taken, page_there, evicted_in, evicted_is, goes_there}

-- a number that is spent is not looked at by admission
admit_spent : (n : ℕ) (b : spec.Book) (d : Destination) → admit (spend n b) d ≡ admit b d
admit_spent n b (start name) = refl
admit_spent n b (page name p) = refl

-- ---- what is told of a change

page_from : (o : spec_records.Origin) (p : PageRecord) (state : Option (List ℕ)) → IsToldWith (change_with o p) state
page_from (spec_records.start script) p state = tt
page_from (spec_records.answered instance shown answer) p state = tt

page_with : (p : PageRecord) (state : Option (List ℕ)) → IsToldWith (page_change p) state
page_with p state = page_from (origin_in p.origin) p state

told_with : (t : Ticket) (c : Change) → IsToldWith (change_of c) (told_in t c)
told_with t (Opens o) = page_with o.record (told_in t (Opens o))
told_with t (Extends x) = page_with x.record (told_in t (Extends x))
told_with t (Ends e) = tt
told_with t (Finishes f) = tt

-- a start is of a script of the setup
script_there : (l : Library) (b : spec.Book) (t : Ticket) (d : Destination) (s : eval.Segment) (c : spec.Change) → b.scripts ≡ l.setup → HasItsScript l t d → IsChangeBy t s d c → has_script (length b.scripts) c ≡ true
script_there l b t (start name) s (spec.opens o) setup has is =
    let within = slice_get_within l.setup t.start has.named has.present in
    let place : o.script ≡ t.start = ap (λ (x : spec.Opening). x.script) is in
    let many : length b.scripts ≡ length l.setup = ap (λ (ss : List Named). length ss) setup in
    grind (arith, nat_tests, within, place, many)
script_there l b t (start name) s (spec.extends x) setup has is = refl
script_there l b t (start name) s (spec.ends e) setup has is = refl
script_there l b t (start name) s (spec.finishes f) setup has is = refl
script_there l b t (start name) s (spec.sweeps tick) setup has is = refl
script_there l b t (page name n) s (spec.opens o) setup has is = absurd is
script_there l b t (page name n) s (spec.extends x) setup has is = refl
script_there l b t (page name n) s (spec.ends e) setup has is = refl
script_there l b t (page name n) s (spec.finishes f) setup has is = refl
script_there l b t (page name n) s (spec.sweeps tick) setup has is = refl

has_page : (b : spec.Book) (name : List ℕ) (n : PageName) → refusal_of (admit b (page name n)) ≡ None → HasPage b.instances n.instance n.page
has_page b name n ok =
    let at = page_there b name n (admit b (page name n)) refl ok in
    (at.0.page, record { instance = at.0.instance; found = at.1.here; shown = at.1.shown })

-- the page that a change answers stands, and so do those that go for its page
orderly_there : (all : List Named) (b : spec.Book) (book : Book) → b.instances ≡ instances_of all book.instances → (t : Ticket) (d : Destination) (r : Segment) (c : Change) → refusal_of (admit b d) ≡ None → KeepsStateOf t r d (Some c)
    → IsChangeBy t (segment_of r) d (change_of c) → HasRoomFor (Some c) book → IsOrderlyChange b.clock b.instances (change_of c)
orderly_there all b book at t (start name) r (Opens o) ok keeps is rooms =
    subst (IsOrderlyChange b.clock b.instances) (sym (start_shows t (segment_of r) o.record is).1) tt
orderly_there all b book at t (start name) r (Extends x) ok (inl none) is rooms = absurd none
orderly_there all b book at t (start name) r (Extends x) ok (inr from) is rooms = absurd from.1.1
orderly_there all b book at t (start name) r (Ends e) ok keeps is rooms = absurd is
orderly_there all b book at t (start name) r (Finishes f) ok keeps is rooms = absurd is
orderly_there all b book at t (page name n) r (Opens o) ok (inl none) is rooms = absurd none
orderly_there all b book at t (page name n) r (Opens o) ok (inr from) is rooms = absurd from.1.1
orderly_there all b book at t (page name n) r (Extends x) ok (inl none) is rooms = absurd none
orderly_there all b book at t (page name n) r (Extends x) ok (inr from) is rooms =
    let so = answer_shows t (segment_of r) n.instance n.page x.record is in
    let went : gone_in x ≡ so.0.evicted = sym (evicted_is x.record) ∙ ap evicted_in so.1 in
    let goes : CanGo b.instances n.instance so.0.evicted =
    λ i found k gone.
    let here = subst (λ (is : List spec.Instance). instance_at n.instance is ≡ Some i) at found in
    let can = goes_there all book.instances x n.instance i from.1.1.instance here rooms in
    go_used so.0.evicted i.used k (subst (λ (ns : List ℕ). can_go ns i.used ≡ true) went can) gone in
    subst (IsOrderlyChange b.clock b.instances) (sym so.1) (has_page b name n ok, goes)
orderly_there all b book at t (page name n) r (Ends e) ok keeps is rooms = subst (λ (y : spec.Ending). HasPage b.instances y.instance y.page) (sym is) (has_page b name n ok)
orderly_there all b book at t (page name n) r (Finishes f) ok keeps is rooms = subst (λ (y : spec.Finish). HasPage b.instances y.instance y.page) (sym is) (has_page b name n ok)

-- there is room in a book of the same instances
pub room_same : (c : Option Change) (old new : Book) → new.instances ≡ old.instances → HasRoomFor c old → HasRoomFor c new
room_same None old new same room = tt
room_same (Some (Opens o)) old new same room =
    record {
      page = room.page;
      empty = room.empty;
      instance = subst HasRoom (sym same) room.instance;
      few = subst (λ (is : InOrder KeptInstance). length is.things.items + 1 < 2 ^ 32) (sym same) room.few;
    }
room_same (Some (Extends x)) old new same room = subst (CanShowAt x.instance x.show (gone_in x)) (sym same) room
room_same (Some (Ends e)) old new same room = tt
room_same (Some (Finishes f)) old new same room = tt

-- the nonce and the deadline of a page are such as records tell
page_in_range : (t : Ticket) (d : Destination) (s : eval.Segment) (p : PageRecord) → t.nonce < 2 ^ 64 → IsChangeBy t s d (page_change p) → TimeFits (told_page p []) → TellsInRange (page_change p)
page_in_range t d s p nonce is low = by_origin (origin_in p.origin) refl
  where
    its : spec_records.Origin → spec.Change
    its o = change_with o p

    start_nonce : (d : Destination) (o : spec.Opening) → IsChangeBy t s d (spec.opens o) → (o.nonce < 2 ^ 64) × (o.evicted ≡ [])
    start_nonce (start name) o h = subst (λ (x : spec.Opening). (x.nonce < 2 ^ 64) × (x.evicted ≡ [])) (sym h) (nonce, refl)
    start_nonce (page name n) o h = absurd h

    answer_nonce : (d : Destination) (x : spec.Extension) → IsChangeBy t s d (spec.extends x) → x.nonce < 2 ^ 64
    answer_nonce (start name) x h = absurd h
    answer_nonce (page name n) x h = subst (λ (y : spec.Extension). y.nonce < 2 ^ 64) (sym h) nonce

    by_origin : (o : spec_records.Origin) → origin_in p.origin ≡ o → TellsInRange (page_change p)
    by_origin (spec_records.start script) e =
        let here : IsChangeBy t s d (its (spec_records.start script)) = subst (λ (o : spec_records.Origin). IsChangeBy t s d (its o)) e is in
        subst (λ (o : spec_records.Origin). TellsInRange (its o)) (sym e) (let both = start_nonce d _ here in (both.0, low, both.1))
    by_origin (spec_records.answered instance shown answer) e =
        let here : IsChangeBy t s d (its (spec_records.answered instance shown answer)) = subst (λ (o : spec_records.Origin). IsChangeBy t s d (its o)) e is in
        subst (λ (o : spec_records.Origin). TellsInRange (its o)) (sym e) (answer_nonce d _ here, low)

range_there : (t : Ticket) (d : Destination) (s : eval.Segment) (c : Change) → t.nonce < 2 ^ 64 → IsChangeBy t s d (change_of c) → HasDeadlineIn c → TellsInRange (change_of c)
range_there t d s (Opens o) nonce is low = page_in_range t d s o.record nonce is low
range_there t d s (Extends x) nonce is low = page_in_range t d s x.record nonce is low
range_there t d s (Ends e) nonce is low = tt
range_there t d s (Finishes f) nonce is low = tt

-- a state is whole in a book of the same instances
whole_same : (all : List Named) (c : Change) (old new : Book) → old.instances ≡ new.instances → IsWholeIn all old c → IsWholeIn all new c
whole_same all (Opens o) old new same h = h
whole_same all (Extends x) old new same h = subst (λ (is : InOrder KeptInstance). IfSome (option_map (λ i. i.script) (instance_at x.instance (instances_of all is))) (λ s. IsWhole (arena_of s.script) (suspended_of x.state) x.show.page.item.inside.items)) same h
whole_same all (Ends e) old new same h = tt
whole_same all (Finishes f) old new same h = tt

spelled_in : (c : Change) → IsSpelledIn c → IsSpelledState (state_in c)
spelled_in (Opens o) h = h
spelled_in (Extends x) h = h
spelled_in (Ends e) h = tt
spelled_in (Finishes f) h = tt

-- ---- whatever the ticket is for

module _ {D N : Type 0} (view : D → View) (tells : Bool) (s : Shelf D N) (order : IsInOrder view tells s) (t : Ticket) (p : Prepared) (up : s.down ≡ None) (out : Contains (book_in view s).out t.number)
    (has : HasItsScript (library_in s) t (target_of t.target)) (can : CanBeLanded (library_in s) s.book t p) (rooms : HasRoomFor p.change s.book) where
  abbrev pub b : spec.Book
  b = book_in view s

  abbrev l : Library
  l = library_in s

  -- beside the book now, and with another journal or doubt
  abbrev beside_now : Beside
  beside_now = beside_of view s

  abbrev target : Destination
  target = target_of t.target

  pub none_down : b.down ≡ None
  none_down = ap (λ (o : Option doubt_type.Doubt). option_map doubt_of o) up

  admitted : refusal_of (admit b target) ≡ None
  admitted = ap refusal_of (admit_same l beside_now no_journal s.book target) ∙ can.admitted

  carried : IsCarriedOut l (rules_with 0 0 0 0) b (decision_by (reply_of p.reply) p.change) p
  carried = can.itself.lands l beside_now has

  -- nothing is recorded
  pub idle_book : (spent new : Book) → Makes (spend t.number) s.book spent → MakesUnder (λ library. put_into library p) spent new → p.change ≡ None → book_of l beside_now new ≡ spend t.number b
  idle_book spent new spending installing none =
      let here = ap (λ (o : Option Change). carried_out (rules_with 0 0 0 0) (spend t.number b) (decision_by (reply_of p.reply) o)) (sym none) ∙ carried.lands t.number in
      installing l beside_now ∙ (ap (put_into l p) (spending l beside_now) ∙ sym (ap (λ (x : step.Reply × spec.Book). x.1) here))

  -- its reply is what the visit comes to
  pub idle_comes : (x : Reply) → x ≡ p.reply → p.change ≡ None → IsCarriedOut l (unmeasured s.rules) b (publish_comes (unmeasured s.rules) b (ticket_of t)) p
      → Comes (rules_of s.rules) b (step.publish (ticket_of t)) (fate_by (reply_of x)) (reply_of x) (spend t.number b) None
  idle_comes x e none decided = told l s.rules b t x (replies_is l s.rules b _ p decided none ∙ ap (λ (y : Reply). replies (reply_of y)) (sym e))

  pub spent_book : (spent : Book) (n : ℕ) → Makes (spend t.number) s.book spent → n ≡ length_of s.journal → book_of l (record beside_now { length = n }) spent ≡ spend t.number b
  spent_book spent n spending e = spending l (record beside_now { length = n }) ∙ ap (λ (m : ℕ). spend t.number (book_of l (record beside_now { length = m }) s.book)) e

  -- a change
  module _ (c : Change) (some : p.change ≡ Some c) where
    abbrev pub told_change : spec.Change
    told_change = change_of c

    its : IsChangeBy t (segment_of can.segment) target told_change
    its = (subst (λ (o : Option Change). IsDecisionBy t (segment_of can.segment) target (decision_by (reply_of p.reply) o)) some can.itself.decision).0

    pub its_number : IsOf t.number told_change
    its_number = is_of t (segment_of can.segment) target told_change its

    -- the page that it answers stands, and those that go for its page can go
    orderly : IsOrderlyChange b.clock b.instances told_change
    orderly = orderly_there l.all b s.book refl t target can.segment c admitted (subst (KeepsStateOf t can.segment target) some can.state) its (subst (λ (o : Option Change). HasRoomFor o s.book) some rooms)

    pub can_be_written : t.nonce < 2 ^ 64 → CanBeWritten (length_of s.journal) (changes told_change (told_in t c))
    can_be_written nonce short parts =
        let few : length b.scripts ≤ 256 = omega (arith, order.few) in
        in_grammar b order.orderly order.range few t.number out told_change (told_in t c) its_number orderly
        (script_there l b t target (segment_of can.segment) told_change refl has its) (range_there t target (segment_of can.segment) c nonce its (subst HasDeadlineBy some can.deadline)) (told_with t c)
        (length_short told_change (told_in t c) short.body) parts

    pub kept_there : IsKeptIn t c
    kept_there = kept_in t can.segment target c (subst (KeepsStateOf t can.segment target) some can.state)

    pub whole_there : IsWholeFrom l.all t c
    whole_there = whole_from l.all t can.segment target c (subst (KeepsStateOf t can.segment target) some can.state) can.whole

    -- in the book with the number spent its ticket goes on from the page that it answers, and the page that it shows is whole
    module _ (spent : Book) (spending : Makes (spend t.number) s.book spent) (goes : GoesOnIfThere l spent t) where
      spent_admitted : refusal_of (admit (book_of l no_journal spent) target) ≡ None
      spent_admitted =
          ap (λ (y : spec.Book). refusal_of (admit y target)) (spending l no_journal) ∙ (ap refusal_of (admit_spent t.number (book_of l no_journal s.book) target) ∙ can.admitted)

      pub goes_there_on : GoesOnAsGiven l spent t c
      goes_there_on = as_given l spent t can.segment target c spent_admitted (subst (KeepsStateOf t can.segment target) some can.state) its goes

      pub whole_spent : IsRunnable l.all t → IsWholeIn l.all spent c
      whole_spent runs = whole_in l.all spent t c runs whole_there (of_its_script l spent t can.segment target c spent_admitted (subst (KeepsStateOf t can.segment target) some can.state) goes)

    -- it would be taken in again, with the state that is told
    abbrev pub its_told : Told
    its_told = told_own (state_in c)

    module _ (spent : Book) (same : spent.instances ≡ s.book.instances) (whole : IsWholeIn l.all spent c) (spelled : IsSpelledIn c) where
      whole_here : IsWholeIn l.all s.book c
      whole_here = whole_same l.all c spent s.book same whole

      taken_so : IsTakenSo l beside_now s.book t can.segment c
      taken_so =
          is_taken l beside_now s.book t can.segment target c admitted has (subst (KeepsStateOf t can.segment target) some can.state) its can.held whole_here spelled (subst (λ (o : Option Change). HasRoomFor o s.book) some rooms)

      pub taken : IsTakenAs b told_change (inside_of c) its_told
      taken = taken_so.0

      -- so its page has the state that is given to its number, where the ticket goes on from what is given to the page before
      pub shown_by : (f g : ℕ → Option Suspended) → ((n : ℕ) (d : Suspended) → f n ≡ Some d → g n ≡ Some d) → ((y : Suspended) → state_in c ≡ Some y → g t.number ≡ Some y) → GoesHere b f t c
          → HasStateIn l.all (given g) b.instances c
      shown_by f g more told_now goes =
          shown_given l beside_now s.book order.orderly t out can.segment f g more target c admitted has
          (subst (KeepsStateOf t can.segment target) some can.state) its whole_here spelled told_now goes

      module _ (earlier : Earlier) (goes : GoesHere b (λ n. state_at n earlier.states) t c) where
        pub read : BindsIn t c → books_told.told_in earlier b told_change (told_in t c) ≡ its_told
        read binds =
            let behind = behind_told b t can.segment earlier target c (subst (KeepsStateOf t can.segment target) some can.state) its goes in
            taken_so.1 earlier behind.0 behind.1 binds

        -- so its page has the state that is told, where the number was told of none
        pub shown : ((y : Suspended) (n : ℕ) (d : Suspended) → state_at n earlier.states ≡ Some d → state_at n ((t.number, y) ∷ earlier.states) ≡ Some d) → ((y : Suspended) → state_at t.number ((t.number, y) ∷ earlier.states) ≡ Some y)
            → HasStateIn l.all (given (λ n. state_at n (with_state (Some t.number) its_told earlier.states))) b.instances c
        shown more now = by_state (state_in c) refl
          where
            by_state : (o : Option Suspended) → state_in c ≡ o → HasStateIn l.all (given (λ n. state_at n (with_state (Some t.number) (told_own o) earlier.states))) b.instances c
            by_state None e =
                shown_by (λ n. state_at n earlier.states) (λ n. state_at n earlier.states) (λ n d h. h) (λ y f. absurd (let no : None ≡ Some y = sym e ∙ f in let not : ⊥ = cc in not)) goes
            by_state (Some y) e =
                shown_by (λ n. state_at n earlier.states) (λ n. state_at n ((t.number, y) ∷ earlier.states)) (more y)
                (λ z f. let same_state : y ≡ z = (let both : Some y ≡ Some z = sym e ∙ f in cc both) in now y ∙ ap (λ (w : Suspended). Some w) same_state) goes

    -- its record is short
    module _ (body : List ℕ) (written : IsBody (length_of s.journal) (changes told_change (told_in t c)) (record_length told_change (told_in t c)) body) where
      pub long : length (body_by told_change (told_in t c)) ≡ record_length told_change (told_in t c)
      long = size_is told_change (told_in t c) written.short.body

      pub room : length_of s.journal + 5 + length (body_by told_change (told_in t c)) ≤ 2 ^ 30
      room = omega (arith, long, written.short.whole)

      abbrev pub landed_book : spec.Book
      landed_book = land (of_length (length (body_by told_change (told_in t c)))) told_change (inside_of c) (spend t.number b)

      pub landed_is : (spent new : Book) (n : ℕ) (filed : File) → Makes (spend t.number) s.book spent → MakesUnder (λ library. put_into library p) spent new → n ≡ length_of s.journal + 5 + length body
          → filed ≡ with_line (changed told_change (length body)) b.file → book_of l (record beside_now { length = n; file = filed }) new ≡ landed_book
      landed_is spent new n filed spending installing e lined =
          let longer : n ≡ length_of s.journal + (length (body_by told_change (told_in t c)) + 5) = omega (arith, e, ap (λ (y : List ℕ). length y) written.is) in
          let more : filed ≡ with_line (changed told_change (length (body_by told_change (told_in t c)))) b.file = lined ∙ ap (λ (y : List ℕ). with_line (changed told_change (length y)) b.file) written.is in
          let beside = record beside_now { length = n; file = filed } in
          let here = ap (λ (o : Option Change). carried_out (rules_with 0 0 0 0) (spend t.number b) (decision_by (reply_of p.reply) o)) (sym some) ∙ carried.lands t.number in
          installing l beside ∙ (ap (put_into l p) (spending l beside)
          ∙ (ap (λ (x : step.Reply × spec.Book). record x.1 { length = n; file = filed }) (sym here)
          ∙ (ap (λ (m : ℕ). record landed_book { length = m; file = filed }) longer ∙ ap (λ (f : File). record landed_book { file = f }) more)))

      pub doubted_is : (count : ℕ) (spent : Book) (n : ℕ) (o : Option Doubt) → Makes (spend t.number) s.book spent → n ≡ length_of s.journal → o ≡ doubt_by count p.change
          → book_of l (record beside_now { length = n; down = o }) spent ≡ landed.doubted_in count told_change (inside_of c) (spend t.number b)
      doubted_is count spent n o spending e is =
          let down : o ≡ Some (record { count = count; work = spec.landing told_change (inside_of c) }) = is ∙ ap (doubt_by count) some in
          spending l (record beside_now { length = n; down = o })
          ∙ (ap (λ (m : ℕ). spend t.number (book_of l (record beside_now { length = m; down = o }) s.book)) e ∙ ap (λ (x : Option Doubt). spend t.number (book_of l (record beside_now { down = x }) s.book)) down)

    -- ---- where the ticket is for its visit

    module _ (fits : FitsAs l.all b t (admit b target)) where
      abbrev book_beside : spec.Book
      book_beside = book_of l no_journal s.book

      fits_beside : FitsAs l.all book_beside t (admit book_beside target)
      fits_beside = fits_at l beside_now no_journal s.book t target fits

      -- the state that is told is the one that the script leaves
      pub own_state : state_by b told_change ≡ state_in c
      own_state =
          let whole : HasWholeScripts book_beside = record { setup = order.scripts_are.setup; instances = order.scripts_are.instances } in
          state_beside l s.book beside_now no_journal told_change
          ∙ state_left l.all book_beside whole t can.segment target can.admitted fits_beside (can.own fits_beside) c (subst (KeepsStateOf t can.segment target) some can.state) its

      own_before_is : own_before b told_change ≡ behind_in t c
      own_before_is =
          let whole : HasWholeScripts book_beside = record { setup = order.scripts_are.setup; instances = order.scripts_are.instances } in
          before_beside l s.book beside_now no_journal told_change
          ∙ before_left l.all book_beside whole t can.segment target can.admitted fits_beside c (subst (KeepsStateOf t can.segment target) some can.state) its

      pub own_told : state_told b told_change ≡ told_in t c
      own_told = ap (λ (o : Option Suspended). o >>= told_bytes (own_before b told_change)) own_state ∙ ap (λ (o : Option Suspended). state_in c >>= told_bytes o) own_before_is

      pub own_written : IsInGrammar (changes told_change (told_in t c)) → IsSpelledIn c → whole.CanBeWritten b told_change
      own_written fits_grammar spelled = record {
        body = subst (λ (o : Option (List ℕ)). IsInGrammar (changes told_change o)) (sym own_told) fits_grammar;
        state = subst IsSpelledState (sym own_state) (spelled_in c spelled);
      }

      pub own_body_is : own_body b told_change ≡ body_by told_change (told_in t c)
      own_body_is = ap (body_by told_change) own_told

      module _ (decided : IsCarriedOut l (unmeasured s.rules) b (publish_comes (unmeasured s.rules) b (ticket_of t)) p) where
        comes_plain : publish_comes (unmeasured s.rules) b (ticket_of t) ≡ records (reply_of p.reply) told_change (inside_of c)
        comes_plain = records_is l s.rules b _ p decided c some

        pub unwritten_comes : (x : Reply) → IsWritten (length_of s.journal) (changes told_change (told_in t c)) (Err x)
            → Comes (rules_of s.rules) b (step.publish (ticket_of t)) (fate_by (reply_of x)) (reply_of x) (spend t.number b) None
        unwritten_comes x h =
            unwritten l s.rules b t (reply_of p.reply) told_change (inside_of c) comes_plain x (subst (λ (o : Option (List ℕ)). IsWritten (length_of s.journal) (changes told_change o) (Err x)) (sym own_told) h)

        module _ (body : List ℕ) (written : IsBody (length_of s.journal) (changes told_change (told_in t c)) (record_length told_change (told_in t c)) body) where
          comes_to : publish_comes (rules_of s.rules) b (ticket_of t) ≡ records (reply_of p.reply) told_change (inside_of c)
          comes_to =
              short_enough s.rules b (ticket_of t) (reply_of p.reply) told_change (inside_of c) comes_plain
              (ap (λ (o : Option (List ℕ)). refusal_of_size b.length (record_length told_change o)) own_told ∙ not_refused b.length (record_length told_change (told_in t c)) written.short)

          -- the book is measured by the shelf's own rules as by the body
          measured : landed_book body written ≡ land (rules_of s.rules) told_change (inside_of c) (spend t.number b)
          measured =
              let same : state_told (reopened (spend t.number b)) told_change ≡ told_in t c = moved_told b b.logged [] None told_change ∙ own_told in
              ap (λ (m : ℕ). record (landed_book body written) { length = b.length + (m + 5); file = with_line (changed told_change m) b.file }) (long body written ∙ ap (record_length told_change) (sym same))

          pub landed_comes : (x : Reply) → x ≡ p.reply → fate_by (reply_of p.reply) ≡ step.plain
              → Comes (rules_of s.rules) b (step.publish (ticket_of t)) (fate_by (reply_of x)) (reply_of x) (landed_book body written) (Some told_change)
          landed_comes x e plain =
              let there = steps.landed s.rules b (ticket_of t) (reply_of p.reply) told_change (inside_of c) comes_to plain in
              subst (λ (y : Reply). Comes (rules_of s.rules) b (step.publish (ticket_of t)) (fate_by (reply_of y)) (reply_of y) (landed_book body written) (Some told_change)) (sym e)
              (subst (λ (d : spec.Book). Comes (rules_of s.rules) b (step.publish (ticket_of t)) (fate_by (reply_of p.reply)) (reply_of p.reply) d (Some told_change)) (sym measured) there)

          pub doubted_comes : (count : ℕ)
              → Comes (rules_of s.rules) b (step.publish (ticket_of t)) (step.disk_fault count) (step.disk_failed count) (landed.doubted_in count told_change (inside_of c) (spend t.number b)) None
          doubted_comes count = steps.doubted s.rules b (ticket_of t) (reply_of p.reply) told_change (inside_of c) count comes_to

pub down_there : (o : Option doubt_type.Doubt) (d : Doubt) → o ≡ None → option_map doubt_of o ≡ Some d → ⊥
down_there o d e is = let none : option_map doubt_of o ≡ None = ap (λ (x : Option doubt_type.Doubt). option_map doubt_of x) e in cc (none, is)
