-- What a worker does at the shelves, by the entries of their histories.
use Rattle.std.specs.Prelude.{⊤, ◌≡◌, ◌⊎◌, ◌≤◌, ◌<◌, ◌^◌, ◌++◌, ◌∷◌, [], ℕ, zero, suc, Bool, true, false, List, length, Option, Some, None, Result, Ok, Err}
use Rattle.script_value.specs.Val.{Val}
use Rattle.script_value.specs.declared.outcome.Reply.{Reply}
use Rattle.script_value.specs.declared.outcome.Reply.TheVariants.{Refused, Worn}
use Rattle.script_value.specs.declared.outcome.Refusal.TheVariants.{Unknown}
use Rattle.page_names.specs.Names.{Destination}
use Rattle.replay_spec.specs.Next.{Ticket}
use Rattle.replay_spec.specs.Step.{take, sweep, compact, swept}
use Rattle.site.specs.Shelves.{reply_of, compacted_of}
use Rattle.http_forms.specs.Passes.{PassRules, Swept}
use Rattle.history_spec.specs.Histories.{Entry, own_of}
use Rattle.history_spec.specs.Laws.{take_of}
use Rattle.history_spec.specs.Passes.{publish_of}
use Rattle.site.specs.Entries.{compacted_from, entry}
use Rattle.site.specs.Opened.{Opened, book_then}
use Rattle.site.specs.Passes.{has_freed}
use Rattle.site.specs.Sites.{place_for}
use Rattle.site.specs.Sound.{IsNoTicket}

-- What a worker has seen of a shelf when a call of it is over: a beginning of the shelf's history; and the tick of its last sweep
-- there that was answered, 0 where none was.
pub record Seen : Type 0 where
  pub front : List Entry
  pub tick : ℕ

-- how many entries the history of a shelf may have
abbrev pub most_entries : ℕ
most_entries = 2 ^ 62

-- A caller has seen no entry and no tick.
abbrev pub nothing_seen : Seen
nothing_seen = record { front = []; tick = 0 }

-- a worker has seen nothing of any of these shelves
abbrev pub unseen : List Opened → List Seen
unseen [] = []
unseen (o ∷ openings) = nothing_seen ∷ unseen openings

module _ (o : Opened) (worker : ℕ) where
  -- A call of the worker made these entries, each by itself, and no other; before them stand entries of others. Where the shelf was
  -- opened as an own one, they stand on a clock that is at the tick of the worker's last sweep there, at least.
  pub record Makes (added : List Entry) (a b : Seen) : Type 0 where
    pub others : List Entry
    pub is : b ≡ record a { front = (a.front ++ others) ++ added }
    pub none : own_of worker others ≡ []
    pub clock : o.IsOwn → a.tick ≤ (book_then o (a.front ++ others)).clock

  -- the history is as long as it may be: this is told, and no entry was made
  abbrev pub IsWorn : Reply → (a b : Seen) → Type 0
  IsWorn reply a b = (reply ≡ Worn) × (length b.front ≡ most_entries) × Makes [] a b

  -- A visit: the worker's next entry is a take that gave no ticket; or the next two are a take and its publish; or it is a take, and
  -- after it the shelf's history was worn; or the history was worn at once.
  pub data IsVisited (target : Destination) (answer : Val) (reply : Reply) (a b : Seen) : Type 0 where
    untaken : IsNoTicket reply → Makes (entry worker (take target answer) (reply_of reply) ∷ []) a b → IsVisited target answer reply a b
    published : (t : Ticket) (middle : Seen) → t.target ≡ target → t.answer ≡ answer → Makes (take_of worker t ∷ []) a middle
        → Makes (publish_of worker t (reply_of reply) ∷ []) middle b → IsVisited target answer reply a b
    unpublished : (t : Ticket) (middle : Seen) → t.target ≡ target → t.answer ≡ answer → Makes (take_of worker t ∷ []) a middle
        → IsWorn reply middle b → IsVisited target answer reply a b
    worn : IsWorn reply a b → IsVisited target answer reply a b

  -- A sweep that was answered: the clock is at the tick, at least. It is the worker's next entry; there is none where the clock was
  -- there before.
  pub record IsAnswered (tick freed : ℕ) (a b : Seen) : Type 0 where
    pub middle : Seen
    pub makes : Makes (entry worker (sweep tick) (swept freed) ∷ []) a middle ⊎ ((freed ≡ 0) × Makes [] a middle)
    pub clock : o.IsOwn → tick ≤ (book_then o middle.front).clock
    pub is : b ≡ record middle { tick = tick }

  -- a sweep: it was answered; or it is the worker's next entry, which was refused; or the history was worn
  abbrev pub IsSwept : (tick : ℕ) → Result ℕ Reply → (a b : Seen) → Type 0
  IsSwept tick (Ok freed) a b = IsAnswered tick freed a b
  IsSwept tick (Err reply) a b = Makes (entry worker (sweep tick) (reply_of reply) ∷ []) a b ⊎ IsWorn reply a b

  -- What follows a sweep that freed an instance. A journal that is long then is compacted: that is the worker's next entry, with its answer.
  -- A shorter one is left as it is. Where the history is as long as it may be, nothing is compacted.
  pub data IsCompacted (a b : Seen) : Type 0 where
    compacted : (told : Result ℕ Reply) → (made : Makes (entry worker compact (compacted_of told) ∷ []) a b)
        → (o.IsOwn → compacted_from ≤ (book_then o (a.front ++ made.others)).length) → IsCompacted a b
    short : Makes [] a b → (o.IsOwn → (book_then o b.front).length < compacted_from) → IsCompacted a b
    worn : Makes [] a b → length b.front ≡ most_entries → IsCompacted a b

  -- where a sweep freed an instance, a compaction may follow; else nothing more is seen
  abbrev pub IsFollowed : (freed : Bool) → (a b : Seen) → Type 0
  IsFollowed true a b = IsCompacted a b
  IsFollowed false a b = b ≡ a

  -- a tick: a sweep, which is answered, and what follows it
  pub record IsTicked (tick : ℕ) (result : Result ℕ Reply) (a b : Seen) : Type 0 where
    pub middle : Seen
    pub swept : IsSwept tick result a middle
    pub followed : IsFollowed (has_freed result) middle b

-- this became of the shelf at this place, and of the others nothing more was seen
abbrev pub HappensAt : (Opened → Seen → Seen → Type 0) → (place : ℕ) → List Opened → (old new : List Seen) → Type 0
HappensAt happens zero (o ∷ openings) (a ∷ old) (b ∷ new) = happens o a b × (new ≡ old)
HappensAt happens (suc place) (o ∷ openings) (a ∷ old) (b ∷ new) = (b ≡ a) × HappensAt happens place openings old new
HappensAt happens place openings old new = ⊥

-- a visit of the shelf that the target is on; a target on none is unknown, and makes no entry
abbrev pub VisitsOn : Option ℕ → List Opened → (worker : ℕ) → Destination → Val → Reply → (old new : List Seen) → Type 0
VisitsOn None openings worker target answer reply old new = (reply ≡ Refused Unknown) × (new ≡ old)
VisitsOn (Some place) openings worker target answer reply old new =
    HappensAt (λ o a b. IsVisited o worker target answer reply a b) place openings old new

-- each shelf was swept at the tick, and answered in its place; after a sweep that freed an instance it may be compacted
abbrev pub AreSwept : List Opened → (worker tick : ℕ) → List (Result ℕ Reply) → (old new : List Seen) → Type 0
AreSwept [] worker tick [] [] [] = ⊤
AreSwept (o ∷ openings) worker tick (r ∷ answers) (a ∷ old) (b ∷ new) =
    IsTicked o worker tick r a b × AreSwept openings worker tick answers old new
AreSwept openings worker tick answers old new = ⊥

-- the shelves were swept, or there was no memory for their answers, and nothing was done
abbrev pub SweepsOn : List Opened → (worker tick : ℕ) → Swept → (old new : List Seen) → Type 0
SweepsOn openings worker tick (Ok answers) old new = AreSwept openings worker tick answers old new
SweepsOn openings worker tick (Err e) old new = new ≡ old

-- what visits and ticks of a worker make of what it has seen, where the shelves have these openings
abbrev pub history_rules : List Opened → (worker : ℕ) → PassRules (List Seen)
history_rules openings worker = record {
  IsOwn = λ seen. ⊤;
  Visits = λ old target answer reply new. VisitsOn (place_for (length old) worker target) openings worker target answer reply old new;
  Ticks = λ old tick swept new. SweepsOn openings worker tick swept old new;
}
