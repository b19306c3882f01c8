use Rattle.std.proofs.Common.{◌≡◌, ◌∙◌, ap, sym, subst, refl, ℕ, ◌+◌, ◌++◌, ◌∷◌, [], nat_le, true, false, arith, length, map, List, Option, Some, None, option_map}
use Rattle.std.proofs.lemmas.Bool.Decides.{nat_tests}
use Rattle.web_disk.specs.View.{LeavesOnly}
use Rattle.page_journal.specs.Holding.{MayHold}
use Rattle.page_journal.specs.Settled.{length_of, bodies_in}
use Rattle.replay_spec.specs.Book.{changed, sweeps}
use Rattle.replay_spec.specs.Change.{with_line}
use Rattle.replay_spec.specs.Step as step
use Rattle.book_visits.specs.Views.{reply_of}
use Rattle.script_value.specs.declared.outcome.Reply.{Reply}
use Rattle.shelf.specs.declared.doubt.Work.TheVariants.{Sweeps as DoubtedSweeps}
use Rattle.page_journal.specs.Records.{newest}
use Rattle.value_bytes.specs.Laws.{AreBytes}
use Rattle.file_copies.specs.OfFileNotes.declared.note.Note.{Note}
use Rattle.file_copies.specs.OfFileNotes.Files.{file_in, marks_in}
use Rattle.file_copies.specs.OfFileNotes.Notes.{is_told}
use Rattle.shelf.proofs.Known.{told_still}
use Rattle.shelf.specs.Views.{book_in}
use Rattle.shelf.proofs.Steps.{barred_by, early, barred_sweep}
use Rattle.shelf.proofs.Publishing.{bar_count}
use Rattle.shelf.proofs.Leads.{unfed, bars_none}
use Rattle.shelf.proofs.Standing.{no_call}
use Rattle.shelf.proofs.Order.{quiet}
use Rattle.shelf.proofs.Quiet.{untouched, alone}
use Rattle.shelf.proofs.Sizes.{unwritten_count}
use Rattle.shelf.proofs.Sweeping.{unwritten_sweep}
use Rattle.shelf.proofs.Freeing.{Sweeps, unswept, landed_sweeps, doubted_sweeps}
use Rattle.shelf.proofs.shelf.Shelf.sweep.Goals as goal
use Rattle.shelf.proofs.shelf.Shelf.sweep.Goals.{Then-tick-clock, In-Some, In-Err, After-free_expired, In-Err-added}

-- a tick at or below the clock

early_tick : (g : _) (c : Then-tick-clock g) → Sweeps g.D.Disk.view g.D.Disk.tells g.N.Nonces.nonce c.args.self.now c.args.self.now c.args.tick (step.swept 0)
early_tick g c =
    let s = c.args.self.now in
    let before : nat_le c.args.tick s.book.clock ≡ true = grind (arith, nat_tests, c.if-tick-clock.true, c.clock.ensures.clock) in
    unswept g.D.Disk.view g.D.Disk.tells g.N.Nonces.nonce s c.requires.in_order c.args.tick c.requires.tick c.events_are_kept.ensures (g.met.D.Disk.only_now s.journal.disk) s.journal s.notes c.requires.in_order.knows.noted (told_still s.notes) refl (λ sound. sound) refl (no_call g.D.Disk.view g.D.Disk.tells s.journal) c.requires.in_order.fed (step.swept 0)
    (λ given. refl) (early s.rules (book_in g.D.Disk.view s) c.args.tick before)

pub returns-then-tick-clock-clause-event : goal.returns-then-tick-clock-clause-event
returns-then-tick-clock-clause-event g c = (early_tick g (goal.at.returns-then-tick-clock-clause-event g c).Then-tick-clock).event

pub returns-then-tick-clock-clause-tickets : goal.returns-then-tick-clock-clause-tickets
returns-then-tick-clock-clause-tickets g c = λ t h. h

pub returns-then-tick-clock-clause-any_moment : goal.returns-then-tick-clock-clause-any_moment
returns-then-tick-clock-clause-any_moment g c = (early_tick g (goal.at.returns-then-tick-clock-clause-any_moment g c).Then-tick-clock).any_moment

pub returns-then-tick-clock-clause-own_moments : goal.returns-then-tick-clock-clause-own_moments
returns-then-tick-clock-clause-own_moments g c = (early_tick g (goal.at.returns-then-tick-clock-clause-own_moments g c).Then-tick-clock).own_moments

pub returns-then-tick-clock-clause-quiet : goal.returns-then-tick-clock-clause-quiet
returns-then-tick-clock-clause-quiet g c = tt

-- a shelf that is barred

bars : (g : _) (c : In-Some g) → step.barred (book_in g.D.Disk.view c.args.self.now) ≡ Some (reply_of c.in-Some.reply)
bars g c = sym c.barred.ensures.barred ∙ ap (λ (o : Option Reply). option_map reply_of o) c.in-Some.is

turned : (g : _) (c : In-Some g) → Sweeps g.D.Disk.view g.D.Disk.tells g.N.Nonces.nonce c.args.self.now c.args.self.now c.args.tick (reply_of c.in-Some.reply)
turned g c =
    let s = c.args.self.now in
    let r = c.in-Some.reply in
    let late : nat_le c.args.tick s.book.clock ≡ false = grind (arith, nat_tests, c.if-tick-clock.false, c.clock.ensures.clock) in
    unswept g.D.Disk.view g.D.Disk.tells g.N.Nonces.nonce s c.requires.in_order c.args.tick c.requires.tick c.events_are_kept.ensures (g.met.D.Disk.only_now s.journal.disk) s.journal s.notes c.requires.in_order.knows.noted (told_still s.notes) refl (λ sound. sound) refl (no_call g.D.Disk.view g.D.Disk.tells s.journal)
    c.requires.in_order.fed (reply_of r) (λ given. quiet r given) (barred_sweep s.rules (book_in g.D.Disk.view s) c.args.tick late (reply_of r) (bars g c))

pub returns-in-Some-clause-event : goal.returns-in-Some-clause-event
returns-in-Some-clause-event g c = (turned g (goal.at.returns-in-Some-clause-event g c).In-Some).event

pub returns-in-Some-clause-tickets : goal.returns-in-Some-clause-tickets
returns-in-Some-clause-tickets g c = λ t h. h

pub returns-in-Some-clause-any_moment : goal.returns-in-Some-clause-any_moment
returns-in-Some-clause-any_moment g c = (turned g (goal.at.returns-in-Some-clause-any_moment g c).In-Some).any_moment

pub returns-in-Some-clause-own_moments : goal.returns-in-Some-clause-own_moments
returns-in-Some-clause-own_moments g c = (turned g (goal.at.returns-in-Some-clause-own_moments g c).In-Some).own_moments

pub returns-in-Some-clause-quiet : goal.returns-in-Some-clause-quiet
returns-in-Some-clause-quiet g c = alone c.in-Some.reply (untouched (g.D.Disk.view c.args.self.now.journal.disk))

pub returns-in-Some-clause-cause : goal.returns-in-Some-clause-cause
returns-in-Some-clause-cause g c =
    let b = book_in g.D.Disk.view c.args.self.now in
    bar_count c.in-Some.reply _ _ (barred_by b (reply_of c.in-Some.reply) (bars g (goal.at.returns-in-Some-clause-cause g c).In-Some))

-- its record was not written

unwritten : (g : _) (c : In-Err g) → Sweeps g.D.Disk.view g.D.Disk.tells g.N.Nonces.nonce c.args.self.now (record c.args.self.now { journal = c.written.new.journal; notes = c.written.new.notes }) c.args.tick (reply_of c.in-Err.reply)
unwritten g c =
    let s = c.args.self.now in
    let done = c.written.ensures in
    let late : nat_le c.args.tick s.book.clock ≡ false = grind (arith, nat_tests, c.if-tick-clock.false, c.clock.ensures.clock) in
    let free = c.barred.ensures.free c.in_default.is in
    let bars = bars_none g.D.Disk.view s free in
    unswept g.D.Disk.view g.D.Disk.tells g.N.Nonces.nonce s c.requires.in_order c.args.tick c.requires.tick c.events_are_kept.ensures (g.met.D.Disk.only_now s.journal.disk) c.written.new.journal c.written.new.notes done.noted done.told done.len (λ before. done.sound) done.whole
    (record { settled = λ told settled. done.settled told; format = done.format; seen = done.seen; images = done.images; time = done.time }) (unfed g.D.Disk.view g.D.Disk.tells (record s { journal = c.written.new.journal; notes = c.written.new.notes }) free.leads) (reply_of c.in-Err.reply) (λ given. quiet c.in-Err.reply given)
    (unwritten_sweep s.rules (book_in g.D.Disk.view s) c.args.tick late bars c.in-Err.reply c.in-Err.ensures.written)

pub returns-in-Err-clause-event : goal.returns-in-Err-clause-event
returns-in-Err-clause-event g c = (unwritten g (goal.at.returns-in-Err-clause-event g c).In-Err).event

pub returns-in-Err-clause-in_order : goal.returns-in-Err-clause-in_order
returns-in-Err-clause-in_order g c = (unwritten g (goal.at.returns-in-Err-clause-in_order g c).In-Err).in_order

pub returns-in-Err-clause-own : goal.returns-in-Err-clause-own
returns-in-Err-clause-own g c = (unwritten g (goal.at.returns-in-Err-clause-own g c).In-Err).own

pub returns-in-Err-clause-tickets : goal.returns-in-Err-clause-tickets
returns-in-Err-clause-tickets g c = (unwritten g (goal.at.returns-in-Err-clause-tickets g c).In-Err).tickets

pub returns-in-Err-clause-any_moment : goal.returns-in-Err-clause-any_moment
returns-in-Err-clause-any_moment g c = (unwritten g (goal.at.returns-in-Err-clause-any_moment g c).In-Err).any_moment

pub returns-in-Err-clause-own_moments : goal.returns-in-Err-clause-own_moments
returns-in-Err-clause-own_moments g c = (unwritten g (goal.at.returns-in-Err-clause-own_moments g c).In-Err).own_moments

pub returns-in-Err-clause-cause : goal.returns-in-Err-clause-cause
returns-in-Err-clause-cause g c = unwritten_count (length_of c.args.self.now.journal) (sweeps c.args.tick) None c.in-Err.reply _ _ c.in-Err.ensures.written

pub returns-in-Err-clause-quiet : goal.returns-in-Err-clause-quiet
returns-in-Err-clause-quiet g c =
    let done = c.written.ensures in
    alone c.in-Err.reply (record { faults = done.faults; seen = done.seen; images = done.images })

-- it was added

landed : (g : _) (c : After-free_expired g)
    → Sweeps g.D.Disk.view g.D.Disk.tells g.N.Nonces.nonce c.args.self.now (record c.args.self.now { journal = c.added.new.journal; book = c.free_expired.new.self; notes = c.sweep.new.self }) c.args.tick (step.swept c.free_expired.result)
landed g c =
    let view = g.D.Disk.view in
    let s = c.args.self.now in
    let done = c.written.ensures in
    let mid = c.written.new.journal in
    let new = c.added.new.journal in
    let body = c.in-Ok.body in
    let late : nat_le c.args.tick s.book.clock ≡ false = grind (arith, nat_tests, c.if-tick-clock.false, c.clock.ensures.clock) in
    let filed : file_in c.sweep.new.self ≡ with_line (changed (sweeps c.args.tick) (length body)) (file_in s.notes) =
    c.sweep.ensures.file ∙ (ap (λ (n : ℕ). with_line (changed (sweeps c.args.tick) n) (file_in c.written.new.notes)) c.len.ensures ∙ ap (with_line (changed (sweeps c.args.tick) (length body))) done.told.file) in
    let marks : marks_in c.sweep.new.self ≡ marks_in s.notes ++ true ∷ [] = c.sweep.ensures.marks ∙ ap (λ (ns : List Note). map is_told ns ++ true ∷ []) done.told.notes in
    let long : length_of new ≡ length_of s.journal + 5 + length body = omega (arith, c.in-Ok-added.ensures.len, done.len, ap (λ (x : List ℕ). length x) c.as_slice.ensures) in
    landed_sweeps view g.D.Disk.tells g.N.Nonces.nonce s c.requires.in_order c.args.tick c.requires.tick late (c.barred.ensures.free c.in_default.is) c.events_are_kept.ensures c.events_stand_between.ensures c.records_are_exact.ensures body c.in-Ok.ensures.written mid new
    (record { settled = λ told settled. done.settled told; format = done.format; seen = done.seen; images = done.images; time = done.time })
    (λ told. subst (λ (x : List ℕ). LeavesOnly (view mid.disk) (view new.disk) (MayHold newest (bodies_in view mid) x)) c.as_slice.ensures (c.added.ensures.any_moment told)) c.added.ensures.sound
    (record { only_now = g.met.D.Disk.only_now s.journal.disk; counts_now = g.met.D.Disk.counts_now new.disk; reads = λ told. g.met.D.Disk.reads_image s.journal.disk told; now = c.added.ensures.newest })
    c.sweep.new.self filed c.sweep.ensures.noted marks (subst AreBytes c.as_slice.ensures c.added.ensures.bytes) c.free_expired.new.self c.free_expired.ensures.book c.free_expired.result c.free_expired.ensures.count c.free_expired.ensures.states long c.in-Ok-added.ensures.whole
    (λ told. let both = c.in-Ok-added.ensures.ok told in (both.0, subst (λ (x : List ℕ). bodies_in view new ≡ bodies_in view mid ++ x ∷ []) c.as_slice.ensures both.1))

pub returns-in-Ok-added-clause-event : goal.returns-in-Ok-added-clause-event
returns-in-Ok-added-clause-event g c = (landed g (goal.at.returns-in-Ok-added-clause-event g c).After-free_expired).event

pub returns-in-Ok-added-clause-in_order : goal.returns-in-Ok-added-clause-in_order
returns-in-Ok-added-clause-in_order g c = (landed g (goal.at.returns-in-Ok-added-clause-in_order g c).After-free_expired).in_order

pub returns-in-Ok-added-clause-own : goal.returns-in-Ok-added-clause-own
returns-in-Ok-added-clause-own g c = (landed g (goal.at.returns-in-Ok-added-clause-own g c).After-free_expired).own

pub returns-in-Ok-added-clause-tickets : goal.returns-in-Ok-added-clause-tickets
returns-in-Ok-added-clause-tickets g c = (landed g (goal.at.returns-in-Ok-added-clause-tickets g c).After-free_expired).tickets

pub returns-in-Ok-added-clause-any_moment : goal.returns-in-Ok-added-clause-any_moment
returns-in-Ok-added-clause-any_moment g c = (landed g (goal.at.returns-in-Ok-added-clause-any_moment g c).After-free_expired).any_moment

pub returns-in-Ok-added-clause-own_moments : goal.returns-in-Ok-added-clause-own_moments
returns-in-Ok-added-clause-own_moments g c = (landed g (goal.at.returns-in-Ok-added-clause-own_moments g c).After-free_expired).own_moments

-- it is in doubt

doubted : (g : _) (c : In-Err-added g)
    → Sweeps g.D.Disk.view g.D.Disk.tells g.N.Nonces.nonce c.args.self.now (record c.args.self.now { journal = c.added.new.journal; notes = c.written.new.notes; down = Some (record { count = c.in-Err-added.count; work = DoubtedSweeps c.args.tick }) }) c.args.tick
    (step.disk_failed c.in-Err-added.count)
doubted g c =
    let view = g.D.Disk.view in
    let s = c.args.self.now in
    let done = c.written.ensures in
    let mid = c.written.new.journal in
    let new = c.added.new.journal in
    let late : nat_le c.args.tick s.book.clock ≡ false = grind (arith, nat_tests, c.if-tick-clock.false, c.clock.ensures.clock) in
    doubted_sweeps view g.D.Disk.tells g.N.Nonces.nonce s c.requires.in_order c.args.tick c.requires.tick late (c.barred.ensures.free c.in_default.is) c.events_are_kept.ensures c.events_stand_between.ensures c.records_are_exact.ensures c.in-Ok.body c.in-Ok.ensures.written mid new
    (record { settled = λ told settled. done.settled told; format = done.format; seen = done.seen; images = done.images; time = done.time })
    (λ told. subst (λ (x : List ℕ). LeavesOnly (view mid.disk) (view new.disk) (MayHold newest (bodies_in view mid) x)) c.as_slice.ensures (c.added.ensures.any_moment told)) c.added.ensures.sound
    (record { only_now = g.met.D.Disk.only_now s.journal.disk; counts_now = g.met.D.Disk.counts_now new.disk; reads = λ told. g.met.D.Disk.reads_image s.journal.disk told; now = c.added.ensures.newest })
    c.in-Err-added.count (c.in-Err-added.ensures.same_len ∙ done.len) c.written.new.notes done.noted done.told

pub returns-clause-event : goal.returns-clause-event
returns-clause-event g c = (doubted g (goal.at.returns-clause-event g c).In-Err-added).event

pub returns-clause-in_order : goal.returns-clause-in_order
returns-clause-in_order g c = (doubted g (goal.at.returns-clause-in_order g c).In-Err-added).in_order

pub returns-clause-own : goal.returns-clause-own
returns-clause-own g c = (doubted g (goal.at.returns-clause-own g c).In-Err-added).own

pub returns-clause-tickets : goal.returns-clause-tickets
returns-clause-tickets g c = (doubted g (goal.at.returns-clause-tickets g c).In-Err-added).tickets

pub returns-clause-any_moment : goal.returns-clause-any_moment
returns-clause-any_moment g c = (doubted g (goal.at.returns-clause-any_moment g c).In-Err-added).any_moment

pub returns-clause-own_moments : goal.returns-clause-own_moments
returns-clause-own_moments g c = (doubted g (goal.at.returns-clause-own_moments g c).In-Err-added).own_moments
