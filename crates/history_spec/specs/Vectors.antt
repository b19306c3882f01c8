-- Histories that compute: the shop of one item, and what no history is.
use Rattle.std.specs.Prelude.{ℕ, List, [], ◌∷◌, ◌++◌, codes, refl}
use Rattle.std.proofs.Common.{arith, inl, inr, ap}
use Rattle.page_names.specs.Names.{Destination, start}
use Rattle.replay_spec.specs.Next.{Ticket}
use Rattle.replay_spec.specs.Step.{Event, take, publish, sweep, crash, Reply, taken, ended, disk_failed, swept, step}
use Rattle.replay_spec.specs.Samples.{name, rules, opened, counted, at, nothing, link_to, shop}
use Rattle.history_spec.specs.Histories.{Entry, Owes, IsCounted, IsLegal}
use Rattle.history_spec.specs.Laws.{take_of}
use Rattle.history_spec.specs.Passes.{Makes}

-- a ticket for a target without pairs, whose nonce is its number
abbrev ticket : Destination → (number : ℕ) → Ticket
ticket target n = record { target = target; answer = nothing; number = n; nonce = n }

-- what one caller did and what it was answered
abbrev does : (caller : ℕ) → Event → Reply → Entry
does caller event reply = record { caller = caller; event = event; reply = reply }

-- caller 0 opens the shop; callers 1 and 2 take its page
abbrev open_shop : List Entry
open_shop =
    take_of 0 (ticket (start name) 0) ∷ does 0 (publish (ticket (start name) 0)) (link_to (codes "buy") 0 0)
    ∷ take_of 1 (ticket (at 0 0 0) 1) ∷ take_of 2 (ticket (at 0 0 0) 2) ∷ []

-- a caller publishes a visit of the shop's page, which ends with these words
abbrev buys : (caller number : ℕ) → (words : List ℕ) → Entry
buys caller n words = does caller (publish (ticket (at 0 0 0) n)) (ended words)

-- these entries are a legal history of a shelf that was opened with the shop
abbrev Happens : List Entry → Type 0
Happens es = IsLegal counted 0 0 (opened rules shop) es

-- callers 1 and 2 publish their visits of one page: the item is sold once, to the one that comes first
pub sold_once : Happens (open_shop ++ buys 1 1 (codes "bought") ∷ buys 2 2 (codes "sold out") ∷ [])
unfolding step
sold_once = (
  record { comes = tt; answered = refl; counted = tt },
  (
    record { comes = (0, omega arith, refl); answered = refl; counted = tt },
    (
      record { comes = tt; answered = refl; counted = tt },
      (
        record { comes = tt; answered = refl; counted = tt },
        (
          record { comes = (0, omega arith, refl); answered = refl; counted = tt },
          (record { comes = (0, omega arith, refl); answered = refl; counted = tt }, tt),
        ),
      ),
    ),
  ),
)

-- where caller 2 publishes first, the item is sold to it, and caller 1 is told that it is sold out
pub sold_to_the_other : Happens (open_shop ++ buys 2 2 (codes "bought") ∷ buys 1 1 (codes "sold out") ∷ [])
unfolding step
sold_to_the_other = (
  record { comes = tt; answered = refl; counted = tt },
  (
    record { comes = (0, omega arith, refl); answered = refl; counted = tt },
    (
      record { comes = tt; answered = refl; counted = tt },
      (
        record { comes = tt; answered = refl; counted = tt },
        (
          record { comes = (0, omega arith, refl); answered = refl; counted = tt },
          (record { comes = (0, omega arith, refl); answered = refl; counted = tt }, tt),
        ),
      ),
    ),
  ),
)

-- caller 1 made a visit, with the publish of caller 2 in between
pub visited :
    Makes counted 0 0 (opened rules shop) 1 (take_of 0 (ticket (start name) 0) ∷ [])
    (take_of 1 (ticket (at 0 0 0) 1) ∷ buys 1 1 (codes "sold out") ∷ [])
    (open_shop ++ buys 2 2 (codes "bought") ∷ buys 1 1 (codes "sold out") ∷ [])
visited = record { front = (_, refl); legal = sold_to_the_other; own = refl }

-- each caller owes what it took, until it has published it
pub owes_what_it_took : Owes 1 (ticket (at 0 0 0) 1) open_shop
owes_what_it_took = (0, omega arith, refl)

-- a caller that has published a ticket owes it no more
pub owes_no_more : Owes 1 (ticket (at 0 0 0) 1) (open_shop ++ buys 1 1 (codes "bought") ∷ []) → ⊥
owes_no_more h = let within = h.1 in omega (arith, within)

-- no caller publishes the ticket of another
pub not_anothers : (words : List ℕ) → Happens (open_shop ++ buys 0 1 words ∷ []) → ⊥
not_anothers words legal = let within = legal.1.1.1.1.0.comes.1 in omega (arith, within)

-- no caller publishes a ticket twice
pub not_twice : (words : List ℕ) → Happens (open_shop ++ buys 1 1 (codes "bought") ∷ buys 1 1 words ∷ []) → ⊥
not_twice words legal = let within = legal.1.1.1.1.1.0.comes.1 in omega (arith, within)

-- no caller publishes what nobody took, or before it is taken
pub not_before : (words : List ℕ) → Happens (buys 1 1 words ∷ open_shop) → ⊥
not_before words legal = let within = legal.0.comes.1 in omega (arith, within)

-- the number of a ticket that a reply gives
abbrev number_in : Reply → ℕ
number_in (taken number nonce) = number
number_in _ = 0

-- the nonce of a ticket that a reply gives
abbrev nonce_in : Reply → ℕ
nonce_in (taken number nonce) = nonce
nonce_in _ = 0

-- the number of a take is the next, and its nonce is the source's next
pub not_another_number : (nonce : ℕ) → Happens (does 0 (take (start name) nothing) (taken 1 nonce) ∷ []) → ⊥
unfolding step
not_another_number nonce legal = let same = ap number_in legal.0.answered in omega (arith, same)

-- no take is given another nonce than the source's next
pub not_another_nonce : (number : ℕ) → Happens (does 0 (take (start name) nothing) (taken number 1) ∷ []) → ⊥
unfolding step
not_another_nonce number legal = let same = ap nonce_in legal.0.answered in omega (arith, same)

-- a sweep to a tick that is over is an entry, and does nothing
pub swept_in_vain : Happens (does 3 (sweep 0) (swept 0) ∷ [])
unfolding step
swept_in_vain = (record { comes = tt; answered = refl; counted = tt }, tt)

-- a history ends with its shelf's crash
pub no_crash : (caller : ℕ) (reply : Reply) → Happens (does caller (crash (shop ∷ [])) reply ∷ []) → ⊥
no_crash caller reply legal = legal.0.comes

-- a fault of the disk raised its count since the opening, or found it at its end
pub counted_above : IsCounted 6 8 (disk_failed 7)
counted_above = (inl (omega arith), omega arith)

-- a count of faults that has met the last value stands still there
pub counted_at_the_end : IsCounted 18446744073709551615 18446744073709551615 (disk_failed 18446744073709551615)
counted_at_the_end = (inr refl, omega arith)

-- a fault is not counted where the count did not rise above the one at the opening
pub not_counted_before : IsCounted 7 8 (disk_failed 7) → ⊥
not_counted_before h = elim h.0 [ inl above ↦ omega (arith, above) | inr last ↦ omega (arith, last) ]

-- a fault is not counted above what the count is by now
pub not_counted_later : IsCounted 6 8 (disk_failed 9) → ⊥
not_counted_later h = let most = h.1 in omega (arith, most)
