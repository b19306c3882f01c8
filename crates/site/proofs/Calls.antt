-- What the calls of a shelf leave between turns.
use Rattle.std.proofs.Common.{◌≡◌, ℕ, ◌≤◌, ◌<◌, Bool, List, [], ◌∷◌, ◌++◌, IsTrue, length, ap, arith}
use Rattle.std.specs.Prelude.{Result}
use Rattle.script_value.specs.Val.{Val}
use Rattle.script_value.specs.declared.outcome.Reply as answers
use Rattle.page_names.specs.Names.{Destination}
use Rattle.web_disk.specs.View.{View}
use Rattle.shelf.specs.JournalSpec.Laws.{ImagesMakeBooks}
use Rattle.replay_spec.specs.Step as step
use Rattle.shelf.specs.Visits.{Ticket, ticket_of, reply_of}
use Rattle.shelf.specs.declared.shelf.Shelf.{Shelf}
use Rattle.shelf.specs.Views.{IsInOrder, IsOwnShelf, IsOwnVisit, IsEvent, book_in, swept_of, compacted_of}
use Rattle.shelf.specs.Events.{SpendsNumber, TellsCount, HasMoments, HasOwnMoments, LeavesItsDisk}
use Rattle.shelf.specs.Going.{TicketsGoOnToFit}
use Rattle.shelf.proofs.Order.{quiet}
use Rattle.history_spec.specs.Histories.{Entry}
use Rattle.history_spec.specs.Laws.{tickets_taken}
use Rattle.site.specs.declared.opening.Opening.{Opening}
use Rattle.site.specs.Entries.{entry}
use Rattle.site.specs.Openings.{IsOwnOpening, source_of, count_of}
use Rattle.site.specs.Sound.{IsSound, HasItsHistory, Holds}
use Rattle.site.proofs.Outs.{spent_out, drawn_take, drawn_publish, drawn_sweep, drawn_compact}
use Rattle.site.proofs.Sounds.{out_push, nonces_push, nonces_stay, some_push, some_same, take_told, kept_push, ever_push, ever_same, sound_push}
use Rattle.site.proofs.Following.{take_stays, sweep_stays, compact_stays, none_owed}
use Rattle.site.proofs.Holding.{fits_now}

module _ {D N : Type 0} (view : D → View) (tells : Bool) (coming : N → ℕ → ℕ) (o : Opening D N) (s t : Shelf D N) (es : List Entry) (p : IsSound view tells coming o s es) where
  -- a take does not touch the disk
  module _ (caller : ℕ) (target : Destination) (answer : Val) (r : step.Reply) (does : IsEvent view coming s t (step.take target answer) r) (journal : t.journal ≡ s.journal) where
    no_less : count_of view s ≤ count_of view t
    no_less = let same = ap (λ j. (view j.disk).faults) journal in omega arith

    pub take_history : (IsOwnShelf view tells s → IsOwnShelf view tells t) → IsOwnOpening view tells o
        → HasItsHistory view tells coming o t (es ++ entry caller (step.take target answer) r ∷ [])
    take_history keeps own =
        let h = p.history own in
        record {
          own = keeps h.own;
          kept = kept_push view tells coming o s t es p h caller (step.take target answer) r tt does no_less (take_told view tells coming o s t es p target answer r does) (drawn_take es caller target answer r);
          ever = ever_same view tells coming o s t es p h (entry caller (step.take target answer) r) journal;
        }

    pub take_sound : (IsOwnShelf view tells s → IsOwnShelf view tells t) → IsInOrder view tells t → t.rules ≡ s.rules → t.library ≡ s.library
        → IsSound view tells coming o t (es ++ entry caller (step.take target answer) r ∷ [])
    take_sound keeps order rules library =
        sound_push view tells coming o s t es p (entry caller (step.take target answer) r) order
        (out_push view tells coming o s t es p caller (step.take target answer) r tt tt does)
        (nonces_push view tells coming o s t es p caller (step.take target answer) r (drawn_take es caller target answer r) (does.nonces (source_of coming o) (length (tickets_taken es)) p.nonces))
        rules library no_less (some_same view tells coming o s t es p journal) (take_history keeps)
        (λ f. take_stays view tells coming o s t es p f caller target answer r does journal)

  -- what is held makes a visit of an own shelf
  pub own_visit : TicketsGoOnToFit → (caller : ℕ) (ticket : Ticket) → Holds view tells coming o es caller ticket → IsOwnOpening view tells o → IsOwnVisit view tells s ticket
  own_visit law caller ticket held own = record { own = (p.history own).own; fits = fits_now view tells coming o s es p law caller ticket held own }

  module _ (caller : ℕ) (ticket : Ticket) (result : answers.Reply) (held : Holds view tells coming o es caller ticket) (law : TicketsGoOnToFit) (images : ImagesMakeBooks) where
    abbrev published : Entry
    published = entry caller (step.publish (ticket_of ticket)) (reply_of result)

    pub publish_sound : (IsOwnVisit view tells s ticket → IsEvent view coming s t (step.publish (ticket_of ticket)) (reply_of result)) → IsInOrder view tells t
        → (IsOwnVisit view tells s ticket → IsOwnShelf view tells t) → SpendsNumber view s t ticket → (IsTrue tells → HasMoments view s t)
        → (IsTrue tells → IsOwnVisit view tells s ticket → HasOwnMoments view s t) → TellsCount (count_of view s) (count_of view t) (reply_of result) → count_of view s ≤ count_of view t
        → t.nonces ≡ s.nonces → t.rules ≡ s.rules → t.library ≡ s.library → IsSound view tells coming o t (es ++ published ∷ [])
    publish_sound event order keeps spent moments own_moments cause later nonces rules library =
        let x = step.publish (ticket_of ticket) in
        let r = reply_of result in
        let drawn = drawn_publish es caller (ticket_of ticket) result in
        sound_push view tells coming o s t es p published order
        (spent_out _ _ es caller (ticket_of ticket) r p.out held.owes spent)
        (nonces_push view tells coming o s t es p caller x r drawn (nonces_stay view tells coming o s t es p r (quiet result (length (tickets_taken es))) nonces))
        rules library later (λ told. some_push view tells coming o s t es p images (moments told) told)
        (λ own.
        let h = p.history own in
        let visit = own_visit law caller ticket held own in
        let kept = kept_push view tells coming o s t es p h caller x r held.owes (event visit) later cause drawn in
        record {
          own = keeps visit;
          kept = kept;
          ever = λ told. ever_push view tells coming o s t es p h images published (own_moments told visit) (ap (λ z. z.book) kept.shelf) told;
        })
        (λ f. absurd (none_owed view tells coming o s t es p f caller (ticket_of ticket) held.owes))

  pub sweep_sound : (caller tick : ℕ) (result : Result ℕ answers.Reply) → ImagesMakeBooks → IsEvent view coming s t (step.sweep tick) (swept_of result) → IsInOrder view tells t
      → (IsOwnShelf view tells s → IsOwnShelf view tells t) → (IsTrue tells → HasMoments view s t) → (IsTrue tells → IsOwnShelf view tells s → HasOwnMoments view s t)
      → TellsCount (count_of view s) (count_of view t) (swept_of result) → count_of view s ≤ count_of view t → t.rules ≡ s.rules → t.library ≡ s.library
      → (book_in view s).clock < tick → LeavesItsDisk view s t (swept_of result)
      → IsSound view tells coming o t (es ++ entry caller (step.sweep tick) (swept_of result) ∷ [])
  sweep_sound caller tick result images does order keeps moments own_moments cause later rules library early leaves =
      let x = step.sweep tick in
      let r = swept_of result in
      let e = entry caller x r in
      let drawn = drawn_sweep es caller tick result in
      sound_push view tells coming o s t es p e order (out_push view tells coming o s t es p caller x r tt tt does)
      (nonces_push view tells coming o s t es p caller x r drawn (does.nonces (source_of coming o) (length (tickets_taken es)) p.nonces))
      rules library later (λ told. some_push view tells coming o s t es p images (moments told) told)
      (λ own.
      let h = p.history own in
      let kept = kept_push view tells coming o s t es p h caller x r tt does later cause drawn in
      record {
        own = keeps h.own;
        kept = kept;
        ever = λ told. ever_push view tells coming o s t es p h images e (own_moments told h.own) (ap (λ z. z.book) kept.shelf) told;
      })
      (λ f. sweep_stays view tells coming o s t es p f caller tick result early does leaves)

  pub compact_sound : (caller : ℕ) (result : Result ℕ answers.Reply) → ImagesMakeBooks → IsEvent view coming s t step.compact (compacted_of result) → IsInOrder view tells t
      → (IsOwnShelf view tells s → IsOwnShelf view tells t) → (IsTrue tells → HasMoments view s t) → (IsTrue tells → IsOwnShelf view tells s → HasOwnMoments view s t)
      → TellsCount (count_of view s) (count_of view t) (compacted_of result) → count_of view s ≤ count_of view t → t.rules ≡ s.rules → t.library ≡ s.library
      → LeavesItsDisk view s t (compacted_of result) → IsSound view tells coming o t (es ++ entry caller step.compact (compacted_of result) ∷ [])
  compact_sound caller result images does order keeps moments own_moments cause later rules library leaves =
      let x = step.compact in
      let r = compacted_of result in
      let e = entry caller x r in
      let drawn = drawn_compact es caller result in
      sound_push view tells coming o s t es p e order (out_push view tells coming o s t es p caller x r tt tt does)
      (nonces_push view tells coming o s t es p caller x r drawn (does.nonces (source_of coming o) (length (tickets_taken es)) p.nonces))
      rules library later (λ told. some_push view tells coming o s t es p images (moments told) told)
      (λ own.
      let h = p.history own in
      let kept = kept_push view tells coming o s t es p h caller x r tt does later cause drawn in
      record {
        own = keeps h.own;
        kept = kept;
        ever = λ told. ever_push view tells coming o s t es p h images e (own_moments told h.own) (ap (λ z. z.book) kept.shelf) told;
      })
      (λ f. compact_stays view tells coming o s t es p f caller result does leaves)
