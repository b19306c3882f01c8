-- What a pass has seen of a shelf, and what a call of it does there.
use Rattle.std.specs.Prelude.{◌≡◌, ◌⊎◌, ◌≤◌, ◌<◌, ℕ, Bool, true, false, List, [], ◌∷◌, ◌++◌, length, nat_lt, Option, Some, Result, Ok, Err}
use Rattle.script_value.specs.Val.{Val}
use Rattle.script_value.specs.declared.outcome.Reply.{Reply}
use Rattle.script_value.specs.declared.outcome.Reply.TheVariants.{Worn}
use Rattle.script_nodes.specs.Setup.{Library}
use Rattle.page_names.specs.Names.{Destination}
use Rattle.web_disk.specs.View.{View}
use Rattle.shelf_lock.specs.declared.view.View as lock
use Rattle.shelf_lock.specs.declared.view.Role.TheVariants.{Outside}
use Rattle.shelf_lock.specs.Order.{posed, entry_limit}
use Rattle.lock_row.specs.Spots.{Spot}
use Rattle.replay_spec.specs.Step as step
use Rattle.shelf.specs.Visits.{Ticket, ticket_of, reply_of}
use Rattle.shelf.specs.Views.{compacted_of}
use Rattle.history_spec.specs.Histories.{Entry, own_of, IsOpened}
use Rattle.history_spec.specs.Laws.{take_of}
use Rattle.history_spec.specs.Passes.{Goes, publish_of}
use Rattle.site.specs.declared.entry.KeptEntry.{KeptEntry}
use Rattle.site.specs.declared.opening.Opening.{Opening}
use Rattle.site.specs.Entries.{compacted_from, entry, entries_of, IsGivenIn}
use Rattle.site.specs.Openings.{opened_library, IsOwnOpening, start_of, source_of, count_of, book_then}
use Rattle.site.specs.Sound.{Holds, IsNoTicket}

-- what a pass knows of a shelf
abbrev pub Known : Type 0 → Type 0 → Type 0
Known D N = lock.View (Opening D N) KeptEntry

-- what a pass of a site knows of each shelf
abbrev pub Spots : Type 0 → Type 0 → Type 0
Spots D N = List (Spot (Opening D N) KeptEntry)

-- the history that a pass has seen of a shelf
abbrev pub seen_by : {D N : Type 0} → Known D N → List Entry
seen_by v = entries_of v.seen

-- the seat of a worker at a shelf that was opened with these scripts, and with this fuel for a visit
pub record IsSeat {D N : Type 0} (library : Option Library) (fuel worker : ℕ) (v : Known D N) : Type 0 where
  pub opening : Opening D N
  pub opening_is : v.opening ≡ opening ∷ []
  pub library_is : library ≡ Some (opened_library opening)
  pub fuel_is : opening.shelf.value.rules.fuel ≡ fuel
  pub caller_is : v.caller ≡ worker

-- More of a history was seen: first what was seen before, then entries of others, and at the end those added, which are all the new
-- ones of this caller.
pub record Grows (caller : ℕ) (seen added es : List Entry) : Type 0 where
  pub between : List Entry
  pub is : es ≡ (seen ++ between) ++ added
  pub own : own_of caller es ≡ own_of caller seen ++ added

-- a sweep freed an instance
abbrev pub has_freed : Result ℕ Reply → Bool
has_freed (Ok freed) = nat_lt 0 freed
has_freed (Err r) = false

module _ {D N : Type 0} (view : D → View) (tells : Bool) (coming : N → ℕ → ℕ) where
  -- A call that ends with these entries: the pass has then seen a history of the shelf since its opening, with a book as it may be
  -- there. The history is legal where the shelf was opened as an own one. It begins with what the pass had seen and ends with the entries added, which are all new ones of
  -- its caller; what stands between are entries of others.
  pub record GoesFrom (v : Known D N) (added : List Entry) (w : Known D N) : Type 0 where
    pub opening : Opening D N
    pub opening_is : v.opening ≡ opening ∷ []
    pub opened : IsOpened (start_of view opening).book
    pub is : w ≡ posed Outside w.seen v
    pub grows : Grows v.caller (seen_by v) added (seen_by w)
    pub now : ℕ
    pub goes : IsOwnOpening view tells opening
        → Goes (source_of coming opening) (count_of view opening.shelf.value) now (start_of view opening) v.caller (seen_by v) added (seen_by w)

  -- the pass holds the ticket, by what it has seen: a take gave it there
  pub record HoldsTicket (v : Known D N) (t : Ticket) : Type 0 where
    pub opening : Opening D N
    pub opening_is : v.opening ≡ opening ∷ []
    pub holds : Holds view tells coming opening (seen_by v) v.caller t
    pub given : IsGivenIn v.seen t

  -- the history that was found is as long as a history may be, and no entry was made
  abbrev pub IsWorn : Known D N → Reply → Known D N → Type 0
  IsWorn v r w = (r ≡ Worn) × (length (seen_by w) ≡ entry_limit) × GoesFrom v [] w

  -- a take is one entry of the caller, with its answer; where that is a ticket, the pass holds it
  pub record Takes (v : Known D N) (target : Destination) (answer : Val) (t : Ticket) (w : Known D N) : Type 0 where
    pub goes : GoesFrom v (take_of v.caller (ticket_of t) ∷ []) w
    pub holds : HoldsTicket w t
    pub target_is : (ticket_of t).target ≡ target
    pub answer_is : (ticket_of t).answer ≡ answer

  -- a take gave the caller a ticket, or the reply why there is none
  abbrev pub Took : Known D N → Destination → Val → Result Ticket Reply → Known D N → Type 0
  Took v target answer (Ok t) w = Takes v target answer t w
  Took v target answer (Err r) w =
      IsNoTicket r × (GoesFrom v (entry v.caller (step.take target answer) (reply_of r) ∷ []) w ⊎ IsWorn v r w)

  -- a publish is one entry of the caller, with its reply
  abbrev pub Published : Known D N → Ticket → Reply → Known D N → Type 0
  Published v t r w = GoesFrom v (publish_of v.caller (ticket_of t) (reply_of r) ∷ []) w ⊎ IsWorn v r w

  -- the clock of the history that was seen is at the tick, at least, on a shelf that was opened as an own one
  abbrev pub HasReached : Known D N → (tick : ℕ) → Type 0
  HasReached w tick =
      (o : Opening D N) → w.opening ≡ o ∷ [] → IsOwnOpening view tells o → tick ≤ (book_then view coming o (seen_by w)).clock

  -- A sweep is one entry of the caller, with its answer; there is none where the clock was at the tick before. After an answer
  -- that is no refusal the clock is at the tick, at least.
  abbrev pub Swept : Known D N → (tick : ℕ) → Result ℕ Reply → Known D N → Type 0
  Swept v tick (Ok n) w =
      (GoesFrom v (entry v.caller (step.sweep tick) (step.swept n) ∷ []) w ⊎ ((n ≡ 0) × GoesFrom v [] w)) × HasReached w tick
  Swept v tick (Err r) w = GoesFrom v (entry v.caller (step.sweep tick) (reply_of r) ∷ []) w ⊎ IsWorn v r w

  -- on a shelf that was opened as an own one, the journal is long when these entries are made
  abbrev pub IsLongBehind : Known D N → List Entry → Type 0
  IsLongBehind w es =
      (o : Opening D N) → w.opening ≡ o ∷ [] → IsOwnOpening view tells o → compacted_from ≤ (book_then view coming o es).length

  -- on a shelf that was opened as an own one, the journal is not long when these entries are made
  abbrev pub IsShortBehind : Known D N → List Entry → Type 0
  IsShortBehind w es =
      (o : Opening D N) → w.opening ≡ o ∷ [] → IsOwnOpening view tells o → (book_then view coming o es).length < compacted_from

  -- What a turn does after a sweep that freed an instance. It compacts a journal that it finds long: that is one entry of the caller, with
  -- its answer. A shorter one is left as it is. Where the history is as long as it may be, nothing is compacted, and no entry is made.
  pub data Compacted (v w : Known D N) : Type 0 where
    compacted : (told : Result ℕ Reply) → GoesFrom v (entry v.caller step.compact (compacted_of told) ∷ []) w
        → ((front : List Entry) (last : Entry) → seen_by w ≡ front ++ last ∷ [] → IsLongBehind w front) → Compacted v w
    short : GoesFrom v [] w → IsShortBehind w (seen_by w) → Compacted v w
    worn : GoesFrom v [] w → length (seen_by w) ≡ entry_limit → Compacted v w

  -- where a sweep freed an instance, the turn after it may compact; else nothing more is done
  abbrev pub Follows : (freed : Bool) → (v w : Known D N) → Type 0
  Follows true v w = Compacted v w
  Follows false v w = w ≡ v

  -- a tick of a shelf: its sweep, which is answered, and what follows it
  pub record Ticked (v : Known D N) (tick : ℕ) (result : Result ℕ Reply) (w : Known D N) : Type 0 where
    pub middle : Known D N
    pub swept : Swept v tick result middle
    pub follows : Follows (has_freed result) middle w
