-- What the pass of one caller has seen of a history, and what a call of it may claim.
use Rattle.std.specs.Prelude.{◌≡◌, ◌≢◌, ◌⊎◌, ℕ, List, [], ◌∷◌, ◌++◌, ⊤}
use mathlib.Core.List.{IsPrefix}
use Rattle.script_value.specs.Val.{Val}
use Rattle.page_names.specs.Names.{Destination}
use Rattle.replay_spec.specs.Next.{Ticket}
use Rattle.replay_spec.specs.Step.{take, publish, Reply, taken}
use Rattle.replay_spec.specs.Runs.{Shelf}
use Rattle.history_spec.specs.Histories.{Entry, own_of, Owes, MayCome, IsNext, IsLegal}
use Rattle.history_spec.specs.Laws.{take_of}

-- A pass has seen a front of the history, with every entry of its caller that is in the history.
pub record IsSeenBy (caller : ℕ) (seen es : List Entry) : Type 0 where
  pub front : IsPrefix seen es
  pub own : own_of caller es ≡ own_of caller seen

-- A call that ends with these entries: the pass has then seen a legal history, which begins with what it had seen and ends with
-- the entries added. These are its caller's, and it has no other new one: what stands between are entries of others.
pub record Goes (source : ℕ → ℕ) (opened now : ℕ) (s : Shelf) (caller : ℕ) (seen added es : List Entry) : Type 0 where
  pub between : List Entry
  pub is : es ≡ (seen ++ between) ++ added
  pub legal : IsLegal source opened now s es
  pub own : own_of caller es ≡ own_of caller seen ++ added

-- Calls of this caller, one after the other: entries of others may stand between any two of those added.
pub record Makes (source : ℕ → ℕ) (opened now : ℕ) (s : Shelf) (caller : ℕ) (seen added es : List Entry) : Type 0 where
  pub front : IsPrefix seen es
  pub legal : IsLegal source opened now s es
  pub own : own_of caller es ≡ own_of caller seen ++ added

-- A turn finds a history that begins with what the pass had seen and has its entries. It goes on by one entry of its caller, or
-- by none; what the pass has seen then is the whole.
abbrev pub ATurnGoes : Type 0
ATurnGoes =
    (source : ℕ → ℕ) (opened now : ℕ) (s : Shelf) (caller : ℕ) (seen es : List Entry) → IsSeenBy caller seen es → IsLegal source opened now s es
    → Goes source opened now s caller seen [] es
    × ((e : Entry) → IsNext source opened now s es e → e.caller ≡ caller → Goes source opened now s caller seen (e ∷ []) (es ++ e ∷ []))

-- Calls compose: one makes what it added, and two make what both added. So a take and its publish make these two.
abbrev pub CallsCompose : Type 0
CallsCompose =
    (source : ℕ → ℕ) (opened now : ℕ) (s : Shelf) (caller : ℕ) (seen : List Entry)
    → ((added es : List Entry) → Goes source opened now s caller seen added es → Makes source opened now s caller seen added es)
    × ((one two mid es : List Entry) (then : ℕ) → Makes source opened then s caller seen one mid → Makes source opened now s caller mid two es
    → Makes source opened now s caller seen (one ++ two) es)

-- What others do is not seen and changes nothing of it: what the pass has seen is still a front, with all its caller's entries.
-- A longer front that it is told of takes the place of what it had seen.
abbrev pub SeenStays : Type 0
SeenStays =
    (caller : ℕ) (seen es : List Entry) → IsSeenBy caller seen es
    → ((e : Entry) → e.caller ≢ caller → IsSeenBy caller seen (es ++ e ∷ []))
    × ((told : List Entry) → IsPrefix seen told → IsPrefix told es → IsSeenBy caller told es)

-- A take that was answered is owed after it; what is owed by what a pass has seen is owed in every history of which it is
-- seen, so its publish may come there; after the publish it is not owed.
abbrev pub ATakeIsOwed : Type 0
ATakeIsOwed =
    (source : ℕ → ℕ) (opened now : ℕ) (s : Shelf) (caller : ℕ) (seen es : List Entry) (t : Ticket)
    → (Goes source opened now s caller seen (take_of caller t ∷ []) es → Owes caller t es)
    × (IsSeenBy caller seen es → Owes caller t seen → MayCome caller (publish t) es)
    × ((e : Entry) → e.event ≡ publish t → Goes source opened now s caller seen (e ∷ []) es → Owes caller t es → ⊥)

-- a reply that gives a ticket
abbrev pub IsTicket : Reply → Type 0
IsTicket (taken number nonce) = ⊤
IsTicket _ = ⊥

-- the publish of a ticket, with its reply
abbrev pub publish_of : (caller : ℕ) → Ticket → Reply → Entry
publish_of caller t reply = record { caller = caller; event = publish t; reply = reply }

-- A visit of this target with this answer, and its reply: its take, which was told a ticket, and the publish of that; or the
-- take alone, which was told this.
abbrev pub Visits : (source : ℕ → ℕ) → (opened now : ℕ) → Shelf → (caller : ℕ) → (seen : List Entry) → Destination → Val → Reply → (es : List Entry) → Type 0
Visits source opened now s caller seen target answer reply es =
    ((t : Ticket) × (t.target ≡ target) × (t.answer ≡ answer)
    × Makes source opened now s caller seen (take_of caller t ∷ publish_of caller t reply ∷ []) es)
    ⊎ ((IsTicket reply → ⊥) × Goes source opened now s caller seen (record { caller = caller; event = take target answer; reply = reply } ∷ []) es)

-- A take that was told a ticket and, whatever others did since, its publish are a visit.
abbrev pub TwoCallsVisit : Type 0
TwoCallsVisit =
    (source : ℕ → ℕ) (opened then now : ℕ) (s : Shelf) (caller : ℕ) (seen mid es : List Entry) (t : Ticket) (reply : Reply)
    → Goes source opened then s caller seen (take_of caller t ∷ []) mid
    → Goes source opened now s caller mid (publish_of caller t reply ∷ []) es
    → Visits source opened now s caller seen t.target t.answer reply es
