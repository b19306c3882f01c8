-- Each event keeps numbers and clock in range.
use Rattle.std.proofs.Common.{◌≡◌, ℕ, ◌≤◌, ◌<◌, ◌==◌, List, [], Bool, true, false, Option, Some, None, refl, sym, subst, arith}
use Rattle.std.specs.Prelude.{nat_le, nat_lt, if◌then◌else◌, ⊤}
use Rattle.std.proofs.lemmas.Bool.Decides.{nat_tests}
use Rattle.script_value.specs.declared.outcome.TxName.{TxName}
use Rattle.script_nodes.specs.Setup.{Named}
use Rattle.replay_spec.specs.Book.{Change, opens, extends, ends, finishes, sweeps, Doubt, Book, Work, landing, compacting, spend}
use Rattle.replay_spec.specs.Compaction.{compacted_length, worked, rewritten, reopened_with}
use Rattle.replay_spec.specs.Rules.{Rules}
use Rattle.replay_spec.specs.Change.{logged_by, clock_by, land}
use Rattle.replay_spec.specs.Admission.{when, or_else, refusal_of, admit}
use Rattle.replay_spec.specs.Next.{Ticket}
use Rattle.replay_spec.specs.Step.{take, publish, sweep, compact, crash, Fate, plain, no_memory, disk_fault, lost, kept, Reply, worn, swept, Decision, replies, records, compacts, unless, barred, refused_by, full_journal, freed, publish_comes, sweep_comes, compact_comes, most_of_journal, journal_full, compacted, fate_of, settle, recovered, no_take, take_unless, take_by, step}
use Rattle.replay_spec.specs.Invariant.{IsOf, IsIn, IsDoubted, IsOrderly}
use Rattle.journal_records.specs.Fields.{numbers_end}
use Rattle.journal_spec.specs.Spelling.{IsTickInRange, IsWorkInRange, IsDoubtInRange, IsInRange, RangesAreKept}
use Rattle.journal_spec.proofs.Brief.{Comes, published_comes}

-- a decision's tick is in range
abbrev TicksFit : Decision → Type 0
TicksFit (replies r) = ⊤
TicksFit (compacts r) = ⊤
TicksFit (records r c inside) = IsTickInRange c

clock_range : (c : Change) (clock : ℕ) → IsTickInRange c → clock < numbers_end → clock_by c clock < numbers_end
clock_range (opens o) clock h low = low
clock_range (extends x) clock h low = low
clock_range (ends e) clock h low = low
clock_range (finishes f) clock h low = low
clock_range (sweeps tick) clock h low = h

landed_range : (rules : Rules) (b : Book) (c : Change) (inside : List TxName) → IsInRange b → IsTickInRange c → IsInRange (land rules c inside b)
landed_range rules b c inside h fits = record { drawn = h.drawn; clock = clock_range c b.clock fits h.clock; doubt = h.doubt }

rewritten_range : (rules : Rules) (b : Book) → IsInRange b → IsInRange (rewritten rules b)
rewritten_range rules b h = record { drawn = h.drawn; clock = h.clock; doubt = h.doubt }

carried_range : (rules : Rules) (b : Book) (d : Decision) → IsInRange b → TicksFit d → IsInRange (settle rules b plain d).1
carried_range rules b (replies r) h fits = h
carried_range rules b (compacts r) h fits = rewritten_range rules b h
carried_range rules b (records r c inside) h fits = landed_range rules b c inside h fits

settled_range : (rules : Rules) (b : Book) (fate : Fate) (d : Decision) → IsInRange b → TicksFit d → IsInRange (settle rules b fate d).1
settled_range rules b no_memory d h fits = h
settled_range rules b (disk_fault count) (replies r) h fits = h
settled_range rules b (disk_fault count) (compacts r) h fits = record { drawn = h.drawn; clock = h.clock; doubt = tt }
settled_range rules b (disk_fault count) (records r c inside) h fits = record { drawn = h.drawn; clock = h.clock; doubt = fits }
settled_range rules b plain d h fits = carried_range rules b d h fits
settled_range rules b lost d h fits = carried_range rules b d h fits
settled_range rules b kept d h fits = carried_range rules b d h fits

-- a number is drawn only where it is not the last
not_worn : (o : Option Reply) (t : Bool) (p : Option Reply) → or_else o (or_else (when t worn) p) ≡ None → t ≡ false
not_worn (Some r) t p e = absurd (let no : ⊥ = cc in no)
not_worn None true p e = absurd (let no : ⊥ = cc in no)
not_worn None false p e = refl

drawn_range : (b : Book) (nonce : ℕ) (o : Option Reply) → IsInRange b → (o ≡ None → (b.drawn == numbers_end) ≡ false) → IsInRange (take_unless o b nonce).1
drawn_range b nonce (Some r) h new = h
drawn_range b nonce None h new = let test = new refl in record { drawn = let low = h.drawn in grind (arith, nat_tests, test, low); clock = h.clock; doubt = h.doubt }

took_range : (b : Book) (nonce : ℕ) (target : _) (fate : Fate) → IsInRange b → IsInRange (take_by b target nonce fate).1
took_range b nonce target fate h = by_fate fate
  where
    one : IsInRange (take_unless (no_take b target) b nonce).1
    one = drawn_range b nonce (no_take b target) h (not_worn (barred b) (b.drawn == numbers_end) (refused_by (refusal_of (admit b target))))

    by_fate : (f : Fate) → IsInRange (take_by b target nonce f).1
    by_fate no_memory = h
    by_fate plain = one
    by_fate lost = one
    by_fate kept = one
    by_fate (disk_fault count) = one

published_ticks : (rules : Rules) (b : Book) (t : Ticket) (d : Decision) → Comes rules b t d → TicksFit d
published_ticks rules b t (replies r) h = tt
published_ticks rules b t (compacts r) h = tt
published_ticks rules b t (records r (opens o) inside) h = tt
published_ticks rules b t (records r (extends x) inside) h = tt
published_ticks rules b t (records r (ends e) inside) h = tt
published_ticks rules b t (records r (finishes f) inside) h = tt
published_ticks rules b t (records r (sweeps tick) inside) h = absurd h.0

swept_ticks : (tick : ℕ) (o p : Option Reply) (r : Reply) → tick < numbers_end → TicksFit (unless o (unless p (records r (sweeps tick) [])))
swept_ticks tick (Some x) p r low = tt
swept_ticks tick None (Some x) r low = tt
swept_ticks tick None None r low = low

swept_range : (rules : Rules) (b : Book) (tick : ℕ) (fate : Fate) (is_late : Bool) → IsInRange b → tick < numbers_end
    → IsInRange (if is_late then (swept 0, b) else settle rules b fate (sweep_comes rules b tick)).1
swept_range rules b tick fate true h low = h
swept_range rules b tick fate false h low =
    settled_range rules b fate (sweep_comes rules b tick) h (swept_ticks tick (barred b) (full_journal rules.journal b (sweeps tick)) (swept (freed tick b)) low)

-- what is in doubt has a number that was drawn
doubted_range : (c : Change) (drawn : ℕ) → ((n : ℕ) → IsOf n c → n < drawn) → logged_by c ≤ drawn
doubted_range (opens o) drawn h = let low = h o.number refl in omega (arith, low)
doubted_range (extends x) drawn h = let low = h x.number refl in omega (arith, low)
doubted_range (ends e) drawn h = let low = h e.number refl in omega (arith, low)
doubted_range (finishes f) drawn h = let low = h f.number refl in omega (arith, low)
doubted_range (sweeps tick) drawn h = omega arith

crashed_range : (rules : Rules) (scripts : List Named) (b : Book) (fate : Fate) (o : Option Doubt) → o ≡ b.down → IsOrderly b → IsInRange b
    → IsInRange (reopened_with rules.journal scripts (recovered rules fate o b))
crashed_range rules scripts b fate o is g h = by_fate fate o is
  where
    same : IsInRange (reopened_with rules.journal scripts b)
    same = record { drawn = let logged = g.logged in let low = h.drawn in omega (arith, logged, low); clock = h.clock; doubt = tt }

    kept_work : (w : Work) → IsWorkInRange w → ((n : ℕ) → IsIn n w → n < b.drawn) → IsInRange (reopened_with rules.journal scripts (worked rules w b))
    kept_work (landing c inside) tick below =
        let drawn = doubted_range c b.drawn below in
        record { drawn = let logged = g.logged in let low = h.drawn in omega (arith, logged, low, drawn); clock = clock_range c b.clock tick h.clock; doubt = tt }
    kept_work compacting tick below = record { drawn = let logged = g.logged in let low = h.drawn in omega (arith, logged, low); clock = h.clock; doubt = tt }

    by_fate : (f : Fate) (o : Option Doubt) → o ≡ b.down → IsInRange (reopened_with rules.journal scripts (recovered rules f o b))
    by_fate kept (Some doubt) is = kept_work doubt.work (subst IsDoubtInRange (sym is) h.doubt) (λ n e. (g.doubted n (subst (IsDoubted n) is e)).0)
    by_fate kept None is = same
    by_fate plain o is = same
    by_fate no_memory o is = same
    by_fate (disk_fault count) o is = same
    by_fate lost o is = same

compact_range : (o p : Option Reply) (r : Reply) → TicksFit (unless o (unless p (compacts r)))
compact_range (Some x) p r = tt
compact_range None (Some x) r = tt
compact_range None None r = tt

spent_range : (b : Book) (n : ℕ) → IsInRange b → IsInRange (spend n b)
spent_range b n h = record { drawn = h.drawn; clock = h.clock; doubt = h.doubt }

pub ranges_kept : RangesAreKept
unfolding step
ranges_kept rules b nonce (take target answer) fate g h gives = took_range b nonce target fate h
ranges_kept rules b nonce (publish t) fate g h gives =
    settled_range rules (spend t.number b) (fate_of rules.journal fate) (publish_comes rules b t) (spent_range b t.number h) (published_ticks rules b t (publish_comes rules b t) (published_comes rules b t))
ranges_kept rules b nonce (sweep tick) fate g h gives = swept_range rules b tick (fate_of rules.journal fate) (nat_le tick b.clock) h gives
ranges_kept rules b nonce compact fate g h gives =
    let n = compacted_length rules.journal b in
    settled_range rules b (fate_of rules.journal fate) (compact_comes rules b) h (compact_range (barred b) (when (nat_lt most_of_journal n) (journal_full n)) (compacted n))
ranges_kept rules b nonce (crash scripts) fate g h gives = crashed_range rules scripts b fate b.down refl g h
