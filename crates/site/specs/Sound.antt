-- What holds of a shelf between turns.
use Rattle.std.specs.Prelude.{◌≡◌, ◌≤◌, ◌<◌, ◌^◌, ◌+◌, length, ℕ, Bool, true, IsTrue, List, [], map, Contains, None, Result, IfOk, IfErr, ⊤}
use Rattle.script_value.specs.Val.{Val}
use Rattle.script_value.specs.declared.outcome.Reply.{Reply}
use Rattle.script_value.specs.declared.outcome.Reply.TheVariants as reply
use Rattle.page_names.specs.Names.{Destination}
use mathlib.Core.List.{IsPrefix}
use Rattle.page_names.specs.Views.{target_of}
use Rattle.web_disk.specs.View.{View, LeavesOnly}
use Rattle.replay_spec.specs.Next as next
use Rattle.replay_spec.specs.Admission.{refusal_of, admit}
use Rattle.shelf.specs.Visits.{Ticket, ticket_of, FitsAs, IsRunnable, HasItsScript}
use Rattle.history_spec.specs.Histories.{Entry, Owes, IsOpened, tickets_left}
use Rattle.history_spec.specs.Laws.{tickets_taken}
use Rattle.history_spec.specs.Kept.{IsKept}
use Rattle.shelf.specs.declared.shelf.Shelf.{Shelf}
use Rattle.shelf.specs.Views.{IsInOrder, IsOwnShelf, HasGiven, book_in, shelf_of}
use Rattle.site.specs.declared.opening.Opening.{Opening}
use Rattle.site.specs.Opened as left
use Rattle.site.specs.Opened.{HasEnded}
use Rattle.site.specs.Openings.{opened_library, scripts_in, IsOwnOpening, opened_of, start_of, source_of, count_of, book_then}

-- The numbers that are out are those of the tickets that the entries leave. What a caller owes is among these, and no other caller
-- owes a ticket of its number.
pub record AreOut (out : List ℕ) (es : List Entry) : Type 0 where
  pub numbers : out ≡ map (λ t. t.number) (tickets_left es [])
  pub owned : (caller : ℕ) (t : next.Ticket) → Owes caller t es → Contains (tickets_left es []) t
  pub apart : (one other : ℕ) (t u : next.Ticket) → Owes one t es → Owes other u es → t.number ≡ u.number → one ≡ other

-- what a take is told that gives no ticket: the shelf is down or follows another one's journal, its numbers are used up, the target is not
-- admitted, or memory ended
abbrev pub IsNoTicket : Reply → Type 0
IsNoTicket (reply.Down count) = ⊤
IsNoTicket reply.Following = ⊤
IsNoTicket reply.Worn = ⊤
IsNoTicket (reply.Refused why) = ⊤
IsNoTicket reply.Memory = ⊤
IsNoTicket _ = ⊥

module _ {D N : Type 0} (view : D → View) (tells : Bool) (coming : N → ℕ → ℕ) where
  -- an image of the disk makes some book of the shelf
  abbrev pub MakesSome : Opening D N → (image : List ℕ) → Type 0
  MakesSome o image = left.MakesSome (opened_of view tells coming o) image

  -- an image of the disk makes the book after a beginning of the history
  abbrev pub IsLeft : Opening D N → List Entry → (image : List ℕ) → Type 0
  IsLeft o es image = left.IsLeft (opened_of view tells coming o) es image

  -- A shelf that was opened as an own one is one still, and has this legal history since. Where the disk tells its bytes, a crash at
  -- any moment since the opening left what makes the book of a beginning of the history.
  pub record HasItsHistory (o : Opening D N) (s : Shelf D N) (es : List Entry) : Type 0 where
    pub own : IsOwnShelf view tells s
    pub kept : IsKept (source_of coming o) (count_of view o.shelf.value) (count_of view s) (start_of view o)
        (shelf_of view (length (tickets_taken es)) s) (coming s.nonces) es
    pub ever : IsTrue tells → LeavesOnly (view o.shelf.value.journal.disk) (view s.journal.disk) (IsLeft o es)

  -- A shelf that followed another one's journal when it was opened has the book of the opening still, and nothing became of it.
  pub record StaysAsOpened (o : Opening D N) (s : Shelf D N) (es : List Entry) : Type 0 where
    pub book : book_in view s ≡ (start_of view o).book
    pub nothing : left.HasFollowed (opened_of view tells coming o) (view s.journal.disk) es

  -- The shelf is in order, with the limits and the scripts that it was opened with; the numbers that are out are those of the tickets that its
  -- entries leave; and its nonces go on. Where the disk tells its bytes, a crash at any moment since the opening left what makes
  -- a book. A shelf that was opened as an own one has its history. One that follows another one's journal is as it was opened.
  pub record IsSound (o : Opening D N) (s : Shelf D N) (es : List Entry) : Type 0 where
    pub in_order : IsInOrder view tells s
    pub opened : IsOpened (start_of view o).book
    pub out : AreOut (book_in view s).out es
    pub nonces : HasGiven (source_of coming o) (length (tickets_taken es)) (coming s.nonces)
    pub rules : s.rules ≡ o.shelf.value.rules
    pub library : s.library ≡ o.shelf.value.library
    pub later : count_of view o.shelf.value ≤ count_of view s
    pub counted : count_of view o.shelf.value < 2 ^ 64
    pub ever : IsTrue tells → LeavesOnly (view o.shelf.value.journal.disk) (view s.journal.disk) (MakesSome o)
    pub history : IsOwnOpening view tells o → HasItsHistory o s es
    pub followed : (start_of view o).book.follows ≡ true → StaysAsOpened o s es
    -- without an entry nothing was done
    pub untouched : es ≡ [] → s ≡ o.shelf.value

  -- after a beginning of the history the ticket's target was admitted, on a book of this setup, and the ticket was for the visit of it
  pub record IsForItsVisit (o : Opening D N) (es : List Entry) (t : Ticket) : Type 0 where
    pub front : List Entry
    pub begins : IsPrefix front es
    pub scripts : (book_then view coming o front).scripts ≡ scripts_in o
    pub admitted : refusal_of (admit (book_then view coming o front) (target_of t.target)) ≡ None
    pub fits : FitsAs (opened_library o).all (book_then view coming o front) t (admit (book_then view coming o front) (target_of t.target))

  -- The caller holds the ticket: by its own entries it owes it; and it can be run. On a shelf that was opened as an own one it is
  -- for its visit.
  pub record Holds (o : Opening D N) (es : List Entry) (caller : ℕ) (t : Ticket) : Type 0 where
    pub owes : Owes caller (ticket_of t) es
    pub runs : IsRunnable (opened_library o).all t
    pub script : HasItsScript (opened_library o) t (target_of t.target)
    pub visit : IsOwnOpening view tells o → IsForItsVisit o es t

  -- where a take gave a ticket, its caller holds it, and it is for this target and answer; else it was told why there is none
  pub record Gives (o : Opening D N) (es : List Entry) (caller : ℕ) (target : Destination) (answer : Val) (result : Result Ticket Reply) : Type 0 where
    pub held : IfOk result (λ t. Holds o es caller t)
    pub ticket : IfOk result (λ t. ((ticket_of t).target ≡ target) × ((ticket_of t).answer ≡ answer))
    pub refused : IfErr result IsNoTicket

  -- What is handed back with a history: the nonces go on, and the disk stands for the book. Without an entry the disk is the one of the
  -- opening, as it was then.
  pub record StandsFor (o : Opening D N) (disk : D) (nonces : N) (es : List Entry) : Type 0 where
    pub ended : HasEnded (IsTrue tells) (opened_of view tells coming o) (view disk) es
    pub coming_is : (k : ℕ) → coming nonces k ≡ source_of coming o (length (tickets_taken es) + k)
    pub untouched : es ≡ [] → disk ≡ o.shelf.value.journal.disk
