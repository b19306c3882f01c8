use Rattle.std.proofs.Common.{◌≡◌, ◌∙◌, ap, sym, subst, refl, ℕ, ◌+◌, ◌<◌, ◌^◌, ◌++◌, ◌∷◌, [], true, List, length, map, arith}
use Rattle.script_value.specs.declared.outcome.Reply.{Reply}
use Rattle.script_value.specs.declared.outcome.Reply.TheVariants as reply
use Rattle.web_disk.specs.View.{LeavesOnly}
use Rattle.page_journal.specs.Holding.{MayHold}
use Rattle.page_journal.specs.Settled.{length_of, bodies_in}
use Rattle.journal_records.specs.Records.{changes, record_length}
use Rattle.book_recovery.specs.InstanceBook.Makes.{shelf_from}
use Rattle.book_visits.specs.Views.{reply_of}
use Rattle.book_recovery.specs.InstanceBook.Views.{instances_of}
use Rattle.book_recovery.specs.InstanceBook.Changes.{change_of, HasStateFrom}
use Rattle.replay_spec.specs.Book.{changed, File}
use Rattle.replay_spec.specs.Change.{with_line}
use Rattle.page_journal.specs.Records.{newest}
use Rattle.value_bytes.specs.Laws.{AreBytes}
use Rattle.file_copies.specs.OfFileNotes.declared.note.Note.{Note}
use Rattle.file_copies.specs.OfFileNotes.Files.{file_in, marks_in}
use Rattle.file_copies.specs.OfFileNotes.Notes.{is_told}
use Rattle.shelf.proofs.Known.{told_still}
use Rattle.shelf.specs.Views.{library_in, book_in, fate_by}
use Rattle.shelf.specs.Events.{decision_of, TellsReply}
use Rattle.shelf.specs.Recording.{IsBody, told_in}
use Rattle.shelf.proofs.Tickets.{spent_keeps}
use Rattle.shelf.proofs.Standing.{no_call}
use Rattle.shelf.proofs.Sizes.{unwritten_count}
use Rattle.shelf.proofs.Publishing.{told_none, told_some, plain_count}
use Rattle.shelf.specs.Events.{LeavesDisk}
use Rattle.shelf.proofs.Quiet.{untouched, alone, told_page}
use Rattle.shelf.proofs.Landing as landing
use Rattle.shelf.proofs.Leaving.{Publishes, spent_publishes, landed_publishes, doubted_publishes}
use Rattle.shelf.proofs.shelf.Shelf.land.Goals as goal
use Rattle.shelf.proofs.shelf.Shelf.land.Goals.{In-Ok, In-Err, After-install, After-install-in-Ok-added, After-of_visit}

-- nothing is recorded

idle : (g : _) (c : After-install g) → Publishes g.D.Disk.view g.D.Disk.tells g.N.Nonces.nonce c.args.self.now (record c.args.self.now { book = c.install.new.book }) c.args.ticket.now c.install.result
idle g c =
    let view = g.D.Disk.view in
    let tells = g.D.Disk.tells in
    let l = library_in c.args.self.now in
    let s = c.args.self.now in
    let t = c.args.ticket.now in
    let p = c.args.prepared in
    let q = c.requires in
    let is = landing.idle_book view tells s q.in_order t p q.up q.out q.script q.landed q.room c.spend.new.self c.install.new.book c.spend.ensures.book c.install.ensures.book c.in_default.is in
    spent_publishes view tells g.N.Nonces.nonce s (record s { book = c.install.new.book }) t c.install.result q.in_order c.events_are_kept.ensures (g.met.D.Disk.only_now s.journal.disk) q.out is refl refl refl refl (no_call view tells s.journal)
    q.in_order.knows.noted (told_still s.notes) q.in_order.sound q.in_order.whole
    (λ source all. c.install.ensures.states source l.all (subst (HasStateFrom l.all (shelf_from source c.spend.new.self.shelf) (instances_of l.all c.spend.new.self.instances)) (sym c.in_default.is) tt) (c.spend.ensures.states source l.all all))
    (λ own. landing.idle_comes view tells s q.in_order t p q.up q.out q.script q.landed q.room c.install.result c.install.ensures.reply c.in_default.is (q.decided own))

pub returns-in_default-clause-event : goal.returns-in_default-clause-event
returns-in_default-clause-event g c = (idle g c).event

pub returns-in_default-clause-in_order : goal.returns-in_default-clause-in_order
returns-in_default-clause-in_order g c = (idle g c).in_order

pub returns-in_default-clause-own : goal.returns-in_default-clause-own
returns-in_default-clause-own g c = (idle g c).own

pub returns-in_default-clause-spent : goal.returns-in_default-clause-spent
returns-in_default-clause-spent g c = (idle g c).spent

pub returns-in_default-clause-tickets : goal.returns-in_default-clause-tickets
returns-in_default-clause-tickets g c = (idle g c).tickets

pub returns-in_default-clause-any_moment : goal.returns-in_default-clause-any_moment
returns-in_default-clause-any_moment g c = (idle g c).any_moment

pub returns-in_default-clause-own_moments : goal.returns-in_default-clause-own_moments
returns-in_default-clause-own_moments g c = (idle g c).own_moments

pub returns-in_default-clause-told : goal.returns-in_default-clause-told
returns-in_default-clause-told g c own =
    let s = c.args.self.now in
    subst (λ (x : Reply). TellsReply (decision_of g.D.Disk.view s c.args.ticket.now) (reply_of x)) (sym c.install.ensures.reply)
    (told_none (library_in s) s.rules _ _ c.args.prepared (c.requires.decided own) c.in_default.is)

pub returns-in_default-clause-memory : goal.returns-in_default-clause-memory
returns-in_default-clause-memory g c = (idle g c).memory

pub returns-in_default-clause-cause : goal.returns-in_default-clause-cause
returns-in_default-clause-cause g c = plain_count c.install.result _ _ (ap (λ (x : Reply). fate_by (reply_of x)) c.install.ensures.reply ∙ c.requires.plain)

pub returns-in_default-clause-quiet : goal.returns-in_default-clause-quiet
returns-in_default-clause-quiet g c = alone c.install.result (untouched (g.D.Disk.view c.args.self.now.journal.disk))

-- what is asked of a change

pub told_body-requires-clause-settled : goal.told_body-requires-clause-settled
told_body-requires-clause-settled g c told = (c.requires.in_order.fit told).settled (landing.none_down g.D.Disk.view g.D.Disk.tells c.args.self.now c.requires.in_order c.args.ticket.now c.args.prepared c.requires.up c.requires.out c.requires.script c.requires.landed c.requires.room)

pub told_body-requires-clause-kept : goal.told_body-requires-clause-kept
told_body-requires-clause-kept g c =
    let q = c.requires in
    landing.kept_there g.D.Disk.view g.D.Disk.tells c.args.self.now q.in_order c.args.ticket.now c.args.prepared q.up q.out q.script q.landed q.room c.in-Some.change c.in-Some.is

pub told_body-requires-clause-spelled : goal.told_body-requires-clause-spelled
told_body-requires-clause-spelled g c =
    let q = c.requires in
    let t = c.args.ticket.now in
    let nonce : t.nonce < 2 ^ 64 = omega arith in
    landing.can_be_written g.D.Disk.view g.D.Disk.tells c.args.self.now q.in_order t c.args.prepared q.up q.out q.script q.landed q.room c.in-Some.change c.in-Some.is nonce

-- its record was not written

unwritten : (g : _) (c : In-Err g)
    → Publishes g.D.Disk.view g.D.Disk.tells g.N.Nonces.nonce c.args.self.now (record c.args.self.now { journal = c.told_body.new.journal; book = c.spend.new.self; notes = c.told_body.new.notes }) c.args.ticket.now c.in-Err.reply
unwritten g c =
    let view = g.D.Disk.view in
    let tells = g.D.Disk.tells in
    let l = library_in c.args.self.now in
    let s = c.args.self.now in
    let t = c.args.ticket.now in
    let p = c.args.prepared in
    let q = c.requires in
    let told = c.told_body.ensures in
    let u = record s { journal = c.told_body.new.journal; book = c.spend.new.self; notes = c.told_body.new.notes } in
    let is =
    ap (λ (f : File). record (book_in view u) { file = f }) told.told.file
    ∙ landing.spent_book view tells s q.in_order t p q.up q.out q.script q.landed q.room c.spend.new.self (length_of c.told_body.new.journal) c.spend.ensures.book told.len in
    spent_publishes view tells g.N.Nonces.nonce s u t c.in-Err.reply q.in_order c.events_are_kept.ensures (g.met.D.Disk.only_now s.journal.disk) q.out is refl refl refl refl
    (record { settled = λ tells settled. told.settled tells; format = told.format; seen = told.seen; images = told.images; time = told.time }) told.noted told.told told.sound (λ none. told.whole ∙ q.in_order.whole none) (λ source. c.spend.ensures.states source l.all)
    (λ own. landing.unwritten_comes view tells s q.in_order t p q.up q.out q.script q.landed q.room c.in-Some.change c.in-Some.is own.fits (q.decided own) c.in-Err.reply c.in-Err.ensures.written)

pub returns-in-Err-clause-event : goal.returns-in-Err-clause-event
returns-in-Err-clause-event g c = (unwritten g (goal.at.returns-in-Err-clause-event g c).In-Err).event

pub returns-in-Err-clause-in_order : goal.returns-in-Err-clause-in_order
returns-in-Err-clause-in_order g c = (unwritten g (goal.at.returns-in-Err-clause-in_order g c).In-Err).in_order

pub returns-in-Err-clause-own : goal.returns-in-Err-clause-own
returns-in-Err-clause-own g c = (unwritten g (goal.at.returns-in-Err-clause-own g c).In-Err).own

pub returns-in-Err-clause-spent : goal.returns-in-Err-clause-spent
returns-in-Err-clause-spent g c = (unwritten g (goal.at.returns-in-Err-clause-spent g c).In-Err).spent

pub returns-in-Err-clause-tickets : goal.returns-in-Err-clause-tickets
returns-in-Err-clause-tickets g c = (unwritten g (goal.at.returns-in-Err-clause-tickets g c).In-Err).tickets

pub returns-in-Err-clause-any_moment : goal.returns-in-Err-clause-any_moment
returns-in-Err-clause-any_moment g c = (unwritten g (goal.at.returns-in-Err-clause-any_moment g c).In-Err).any_moment

pub returns-in-Err-clause-own_moments : goal.returns-in-Err-clause-own_moments
returns-in-Err-clause-own_moments g c = (unwritten g (goal.at.returns-in-Err-clause-own_moments g c).In-Err).own_moments

pub returns-in-Err-clause-told : goal.returns-in-Err-clause-told
returns-in-Err-clause-told g c own = told_some (library_in c.args.self.now) c.args.self.now.rules _ _ c.args.prepared (c.requires.decided own) c.in-Some.change _ c.in-Some.is

pub returns-in-Err-clause-memory : goal.returns-in-Err-clause-memory
returns-in-Err-clause-memory g c = (unwritten g (goal.at.returns-in-Err-clause-memory g c).In-Err).memory

pub returns-in-Err-clause-cause : goal.returns-in-Err-clause-cause
returns-in-Err-clause-cause g c =
    let change = c.in-Some.change in
    unwritten_count (length_of c.args.self.now.journal) (change_of change) (told_in c.args.ticket.now change) c.in-Err.reply _ _ c.in-Err.ensures.written

pub returns-in-Err-clause-quiet : goal.returns-in-Err-clause-quiet
returns-in-Err-clause-quiet g c =
    let told = c.told_body.ensures in
    alone c.in-Err.reply (record { faults = told.faults; seen = told.seen; images = told.images })

-- it was written, and is to be added

pub added-requires-clause-settled : goal.added-requires-clause-settled
added-requires-clause-settled g c told = c.told_body.ensures.settled told

written : (g : _) (c : In-Ok g) → let t = c.args.ticket.now in let change = c.in-Some.change in
    IsBody (length_of c.args.self.now.journal) (changes (change_of change) (told_in t change)) (record_length (change_of change) (told_in t change)) c.in-Ok.body
written g c = c.in-Ok.ensures.written

pub added-requires-clause-short : goal.added-requires-clause-short
added-requires-clause-short g c =
    let q = c.requires in
    let is = written g (goal.at.added-requires-clause-short g c).In-Ok in
    let size = landing.long g.D.Disk.view g.D.Disk.tells c.args.self.now q.in_order c.args.ticket.now c.args.prepared q.up q.out q.script q.landed q.room c.in-Some.change c.in-Some.is c.in-Ok.body is in
    omega (arith, size, is.short.whole, c.told_body.ensures.len, ap (λ (x : List ℕ). length x) (c.as_slice.ensures ∙ is.is))

-- it was added

landed : (g : _) (c : After-install-in-Ok-added g)
    → Publishes g.D.Disk.view g.D.Disk.tells g.N.Nonces.nonce c.args.self.now (record c.args.self.now { journal = c.added.new.journal; book = c.install-in-Ok-added.new.book; notes = c.visit.new.self }) c.args.ticket.now c.install-in-Ok-added.result
landed g c =
    let view = g.D.Disk.view in
    let tells = g.D.Disk.tells in
    let s = c.args.self.now in
    let q = c.requires in
    let told = c.told_body.ensures in
    let mid = c.told_body.new.journal in
    let new = c.added.new.journal in
    let body = c.in-Ok.body in
    let long : length_of new ≡ length_of s.journal + 5 + length body = omega (arith, c.in-Ok-added.ensures.len, told.len, ap (λ (x : List ℕ). length x) c.as_slice.ensures) in
    let filed : file_in c.visit.new.self ≡ with_line (changed (change_of c.in-Some.change) (length body)) (file_in s.notes) =
    c.visit.ensures.file ∙ (ap (λ (n : ℕ). with_line (changed (change_of c.in-Some.change) n) (file_in c.told_body.new.notes)) c.len.ensures ∙ ap (with_line (changed (change_of c.in-Some.change) (length body))) told.told.file) in
    let marks : marks_in c.visit.new.self ≡ marks_in s.notes ++ true ∷ [] = c.visit.ensures.marks ∙ ap (λ (ns : List Note). map is_told ns ++ true ∷ []) told.told.notes in
    let goes = (spent_keeps view s q.in_order.orderly c.spend.new.self c.spend.ensures.states c.args.ticket.now.number q.out c.spend.ensures.book c.args.ticket.now q.goes).goes in
    let on = landing.goes_there_on view g.D.Disk.tells s q.in_order c.args.ticket.now c.args.prepared q.up q.out q.script q.landed q.room c.in-Some.change c.in-Some.is c.spend.new.self c.spend.ensures.book goes in
    let whole = landing.whole_spent view g.D.Disk.tells s q.in_order c.args.ticket.now c.args.prepared q.up q.out q.script q.landed q.room c.in-Some.change c.in-Some.is c.spend.new.self c.spend.ensures.book goes q.runs in
    landed_publishes view tells g.N.Nonces.nonce s q.in_order c.args.ticket.now c.args.prepared q.up q.out q.script q.landed q.room q.plain q.shown q.decided
    (record {
      events = c.events_are_kept.ensures;
      between = c.events_stand_between.ensures;
      landings = c.landings_are_kept.ensures;
      landings_between = c.landings_stand_between.ensures;
      exact = c.records_are_exact.ensures;
    })
    c.in-Some.change c.in-Some.is c.spend.new.self c.spend.ensures.book c.spend.ensures.instances c.spend.ensures.states whole c.in-Ok.ensures.spelled on c.in-Ok.ensures.binds body c.in-Ok.ensures.written mid new
    (record { settled = λ tells settled. told.settled tells; format = told.format; seen = told.seen; images = told.images; time = told.time })
    (λ tells. subst (λ (x : List ℕ). LeavesOnly (view mid.disk) (view new.disk) (MayHold newest (bodies_in view mid) x)) c.as_slice.ensures (c.added.ensures.any_moment tells)) c.added.ensures.sound
    (record { only_now = g.met.D.Disk.only_now s.journal.disk; counts_now = g.met.D.Disk.counts_now new.disk; reads = λ tells. g.met.D.Disk.reads_image s.journal.disk tells; now = c.added.ensures.newest })
    c.visit.new.self filed c.visit.ensures.noted marks (subst AreBytes c.as_slice.ensures c.added.ensures.bytes) c.install-in-Ok-added.new.book c.install-in-Ok-added.ensures.book c.install-in-Ok-added.ensures.states c.install-in-Ok-added.result c.install-in-Ok-added.ensures.reply long c.in-Ok-added.ensures.whole
    (λ tells. let both = c.in-Ok-added.ensures.ok tells in (both.0, subst (λ (x : List ℕ). bodies_in view new ≡ bodies_in view mid ++ x ∷ []) c.as_slice.ensures both.1))

pub returns-in-Ok-added-clause-event : goal.returns-in-Ok-added-clause-event
returns-in-Ok-added-clause-event g c = (landed g (goal.at.returns-in-Ok-added-clause-event g c).After-install-in-Ok-added).event

pub returns-in-Ok-added-clause-in_order : goal.returns-in-Ok-added-clause-in_order
returns-in-Ok-added-clause-in_order g c = (landed g (goal.at.returns-in-Ok-added-clause-in_order g c).After-install-in-Ok-added).in_order

pub returns-in-Ok-added-clause-own : goal.returns-in-Ok-added-clause-own
returns-in-Ok-added-clause-own g c = (landed g (goal.at.returns-in-Ok-added-clause-own g c).After-install-in-Ok-added).own

pub returns-in-Ok-added-clause-spent : goal.returns-in-Ok-added-clause-spent
returns-in-Ok-added-clause-spent g c = (landed g (goal.at.returns-in-Ok-added-clause-spent g c).After-install-in-Ok-added).spent

pub returns-in-Ok-added-clause-tickets : goal.returns-in-Ok-added-clause-tickets
returns-in-Ok-added-clause-tickets g c = (landed g (goal.at.returns-in-Ok-added-clause-tickets g c).After-install-in-Ok-added).tickets

pub returns-in-Ok-added-clause-any_moment : goal.returns-in-Ok-added-clause-any_moment
returns-in-Ok-added-clause-any_moment g c = (landed g (goal.at.returns-in-Ok-added-clause-any_moment g c).After-install-in-Ok-added).any_moment

pub returns-in-Ok-added-clause-own_moments : goal.returns-in-Ok-added-clause-own_moments
returns-in-Ok-added-clause-own_moments g c = (landed g (goal.at.returns-in-Ok-added-clause-own_moments g c).After-install-in-Ok-added).own_moments

pub returns-in-Ok-added-clause-told : goal.returns-in-Ok-added-clause-told
returns-in-Ok-added-clause-told g c own = told_some (library_in c.args.self.now) c.args.self.now.rules _ _ c.args.prepared (c.requires.decided own) c.in-Some.change _ c.in-Some.is

pub returns-in-Ok-added-clause-memory : goal.returns-in-Ok-added-clause-memory
returns-in-Ok-added-clause-memory g c = (landed g (goal.at.returns-in-Ok-added-clause-memory g c).After-install-in-Ok-added).memory

pub returns-in-Ok-added-clause-cause : goal.returns-in-Ok-added-clause-cause
returns-in-Ok-added-clause-cause g c = plain_count c.install-in-Ok-added.result _ _ (ap (λ (x : Reply). fate_by (reply_of x)) c.install-in-Ok-added.ensures.reply ∙ c.requires.plain)

-- it is in doubt

doubted : (g : _) (c : After-of_visit g)
    → Publishes g.D.Disk.view g.D.Disk.tells g.N.Nonces.nonce c.args.self.now (record c.args.self.now { journal = c.added.new.journal; book = c.spend.new.self; down = c.of_visit.result; notes = c.told_body.new.notes }) c.args.ticket.now (reply.DiskFault c.in-Err-added.count)
doubted g c =
    let view = g.D.Disk.view in
    let tells = g.D.Disk.tells in
    let s = c.args.self.now in
    let q = c.requires in
    let told = c.told_body.ensures in
    let mid = c.told_body.new.journal in
    let new = c.added.new.journal in
    let goes = (spent_keeps view s q.in_order.orderly c.spend.new.self c.spend.ensures.states c.args.ticket.now.number q.out c.spend.ensures.book c.args.ticket.now q.goes).goes in
    let on = landing.goes_there_on view g.D.Disk.tells s q.in_order c.args.ticket.now c.args.prepared q.up q.out q.script q.landed q.room c.in-Some.change c.in-Some.is c.spend.new.self c.spend.ensures.book goes in
    let whole = landing.whole_spent view g.D.Disk.tells s q.in_order c.args.ticket.now c.args.prepared q.up q.out q.script q.landed q.room c.in-Some.change c.in-Some.is c.spend.new.self c.spend.ensures.book goes q.runs in
    doubted_publishes view tells g.N.Nonces.nonce s q.in_order c.args.ticket.now c.args.prepared q.up q.out q.script q.landed q.room q.plain q.shown q.decided
    (record {
      events = c.events_are_kept.ensures;
      between = c.events_stand_between.ensures;
      landings = c.landings_are_kept.ensures;
      landings_between = c.landings_stand_between.ensures;
      exact = c.records_are_exact.ensures;
    })
    c.in-Some.change c.in-Some.is c.spend.new.self c.spend.ensures.book c.spend.ensures.instances c.spend.ensures.states whole c.in-Ok.ensures.spelled on c.in-Ok.ensures.binds c.in-Ok.body c.in-Ok.ensures.written
    mid new (record { settled = λ tells settled. told.settled tells; format = told.format; seen = told.seen; images = told.images; time = told.time })
    (λ tells. subst (λ (x : List ℕ). LeavesOnly (view mid.disk) (view new.disk) (MayHold newest (bodies_in view mid) x)) c.as_slice.ensures (c.added.ensures.any_moment tells)) c.added.ensures.sound
    (record { only_now = g.met.D.Disk.only_now s.journal.disk; counts_now = g.met.D.Disk.counts_now new.disk; reads = λ tells. g.met.D.Disk.reads_image s.journal.disk tells; now = c.added.ensures.newest })
    c.in-Err-added.count c.of_visit.result c.of_visit.ensures (c.in-Err-added.ensures.same_len ∙ told.len) c.told_body.new.notes told.noted told.told

pub returns-clause-event : goal.returns-clause-event
returns-clause-event g c = (doubted g (goal.at.returns-clause-event g c).After-of_visit).event

pub returns-clause-in_order : goal.returns-clause-in_order
returns-clause-in_order g c = (doubted g (goal.at.returns-clause-in_order g c).After-of_visit).in_order

pub returns-clause-own : goal.returns-clause-own
returns-clause-own g c = (doubted g (goal.at.returns-clause-own g c).After-of_visit).own

pub returns-clause-spent : goal.returns-clause-spent
returns-clause-spent g c = (doubted g (goal.at.returns-clause-spent g c).After-of_visit).spent

pub returns-clause-tickets : goal.returns-clause-tickets
returns-clause-tickets g c = (doubted g (goal.at.returns-clause-tickets g c).After-of_visit).tickets

pub returns-clause-any_moment : goal.returns-clause-any_moment
returns-clause-any_moment g c = (doubted g (goal.at.returns-clause-any_moment g c).After-of_visit).any_moment

pub returns-clause-own_moments : goal.returns-clause-own_moments
returns-clause-own_moments g c = (doubted g (goal.at.returns-clause-own_moments g c).After-of_visit).own_moments

pub returns-clause-told : goal.returns-clause-told
returns-clause-told g c own = told_some (library_in c.args.self.now) c.args.self.now.rules _ _ c.args.prepared (c.requires.decided own) c.in-Some.change _ c.in-Some.is

pub returns-in-Ok-added-clause-quiet : goal.returns-in-Ok-added-clause-quiet
returns-in-Ok-added-clause-quiet g c =
    let p = c.args.prepared in
    let view = g.D.Disk.view in
    subst (λ (x : Reply). LeavesDisk (view c.args.self.now.journal.disk) (view c.added.new.journal.disk) (reply_of x)) (sym c.install-in-Ok-added.ensures.reply)
    (told_page (view c.args.self.now.journal.disk) (view c.added.new.journal.disk) c.in-Some.change p.change p.reply c.in-Some.is c.requires.landed.itself.reply)

pub install-requires-in-Ok-added : goal.install-requires-in-Ok-added
install-requires-in-Ok-added g c = landing.room_same c.args.prepared.change c.args.self.now.book c.spend.new.self c.spend.ensures.instances c.requires.room
