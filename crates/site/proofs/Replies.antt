-- What replies tell.
use Rattle.std.proofs.Common.{◌≡◌, ◌⊎◌, inl, inr, ℕ, ◌≤◌, ◌<◌, ◌-◌, ◌^◌, refl, ap, sym, subst, ◌∙◌, arith}
use Rattle.std.specs.Prelude.{Option, Some, None, Bool, true, false, ◌==◌, ⊤, Result, Ok, Err, IfErr}
use mathlib.Core.Logic.{dite}
use native.Mathlib.Decide.{ℕ_discrete}
use Rattle.script_value.specs.declared.outcome.Refusal.{Refusal}
use Rattle.script_value.specs.declared.outcome.Reply as answers
use Rattle.script_value.specs.declared.outcome.Reply.TheVariants as answer
use Rattle.page_names.specs.Names.{Destination}
use Rattle.replay_spec.specs.Book.{Book, Doubt, draw}
use Rattle.replay_spec.specs.Admission.{when, or_else, refusal_of, admit}
use Rattle.replay_spec.specs.Step.{Reply, taken, shown, finished, ended, refusal, fault, out_of_fuel, shelf_full, disk_failed, down, oversize, journal_full, compacted, following, worn, memory, swept, live, refused_by, take_unless, take_by, take, Fate, plain, no_memory, disk_fault, lost, kept, step}
use Rattle.script_value.specs.Val.{Val}
use Rattle.replay_spec.specs.Rules.{Rules}
use Rattle.replay_spec.proofs.Admitted.{admit_drawn}
use Rattle.replay_spec.proofs.Barred.{barred_by}
use Rattle.web_outside.specs.Causes.{Rose}
use Rattle.history_spec.specs.Histories as histories
use Rattle.history_spec.specs.Histories.{IsCounted}
use Rattle.shelf.specs.Visits.{Ticket, reply_of}
use Rattle.shelf.specs.Views as views
use Rattle.shelf.specs.Views.{taken_of}
use Rattle.shelf.specs.Events.{TellsCount}
use Rattle.site.specs.Sound.{IsNoTicket}

-- a shelf reads the fate of a reply as its history does
pub same_fate : (r : Reply) → views.fate_by r ≡ histories.fate_by r
same_fate (taken n k) = refl
same_fate (shown p u) = refl
same_fate (finished p) = refl
same_fate (ended p) = refl
same_fate (refusal x) = refl
same_fate (fault f) = refl
same_fate (out_of_fuel c) = refl
same_fate (shelf_full c) = refl
same_fate (disk_failed c) = refl
same_fate (down c) = refl
same_fate following = refl
same_fate (oversize l) = refl
same_fate (journal_full l) = refl
same_fate (compacted l) = refl
same_fate worn = refl
same_fate memory = refl
same_fate (swept n) = refl
same_fate (live n) = refl

rose_counted : (opened before now count : ℕ) → opened ≤ before → opened < 2 ^ 64 → count ≡ now → Rose before now → ((opened < count) ⊎ (count ≡ 2 ^ 64 - 1)) × (count ≤ now)
rose_counted opened before now count le low is rose =
    (dite (ℕ_discrete count (2 ^ 64 - 1)) (λ e. inr e) (λ ne. inl (omega arith)), omega arith)

-- a count that rose in a call is above that of the opening, or the last
pub counted : (opened before now : ℕ) (r : Reply) → opened ≤ before → opened < 2 ^ 64 → TellsCount before now r → IsCounted opened now r
counted opened before now (taken n k) le low h = tt
counted opened before now (shown p u) le low h = tt
counted opened before now (finished p) le low h = tt
counted opened before now (ended p) le low h = tt
counted opened before now (refusal x) le low h = tt
counted opened before now (fault f) le low h = tt
counted opened before now (out_of_fuel c) le low h = tt
counted opened before now (shelf_full c) le low h = tt
counted opened before now (disk_failed c) le low h = rose_counted opened before now c le low h.0 h.1
counted opened before now (down c) le low h = tt
counted opened before now (oversize l) le low h = tt
counted opened before now (journal_full l) le low h = tt
counted opened before now (compacted l) le low h = tt
counted opened before now following le low h = tt
counted opened before now worn le low h = tt
counted opened before now memory le low h = tt
counted opened before now (swept n) le low h = tt
counted opened before now (live n) le low h = tt

-- what was taken was admitted, and is
took : (b c : Book) (nonce n k : ℕ) (o : Option Doubt) (follows worn_out : Bool) (r : Option Refusal) → take_unless (or_else (barred_by o follows) (or_else (when worn_out worn) (refused_by r))) b nonce ≡ (taken n k, c)
    → (r ≡ None) × (c ≡ draw b)
took b c nonce n k (Some doubt) follows worn_out r h = absurd (let no : down doubt.count ≡ taken n k = ap (λ p. p.0) h in cc)
took b c nonce n k None true worn_out r h = absurd (let no : following ≡ taken n k = ap (λ p. p.0) h in cc)
took b c nonce n k None false true r h = absurd (let no : worn ≡ taken n k = ap (λ p. p.0) h in cc)
took b c nonce n k None false false None h = (refl, sym (ap (λ p. p.1) h))
took b c nonce n k None false false (Some r) h = absurd (let no : refusal r ≡ taken n k = ap (λ p. p.0) h in cc)

pub take_admits : (rules : Rules) (b c : Book) (d : Destination) (a : Val) (nonce n k : ℕ) → step rules b nonce (take d a) plain ≡ (taken n k, c) → refusal_of (admit c d) ≡ None
unfolding step
take_admits rules b c d a nonce n k h =
    let t = took b c nonce n k b.down b.follows (b.drawn == 2 ^ 62) (refusal_of (admit b d)) h in
    ap (λ (x : Book). refusal_of (admit x d)) t.1 ∙ (ap refusal_of (admit_drawn b d) ∙ t.0)

-- no take is told a fault of the disk
no_fault : (b c : Book) (nonce count : ℕ) (o : Option Doubt) (follows worn_out : Bool) (r : Option Refusal) → take_unless (or_else (barred_by o follows) (or_else (when worn_out worn) (refused_by r))) b nonce ≡ (disk_failed count, c) → ⊥
no_fault b c nonce count (Some doubt) follows worn_out r h = let no : down doubt.count ≡ disk_failed count = ap (λ p. p.0) h in cc
no_fault b c nonce count None true worn_out r h = let no : following ≡ disk_failed count = ap (λ p. p.0) h in cc
no_fault b c nonce count None false true r h = let no : worn ≡ disk_failed count = ap (λ p. p.0) h in cc
no_fault b c nonce count None false false None h = let no : taken b.drawn nonce ≡ disk_failed count = ap (λ p. p.0) h in cc
no_fault b c nonce count None false false (Some r) h = let no : refusal r ≡ disk_failed count = ap (λ p. p.0) h in cc

faulty_take : (rules : Rules) (b c : Book) (d : Destination) (a : Val) (nonce count : ℕ) → step rules b nonce (take d a) (disk_fault count) ≡ (disk_failed count, c) → ⊥
unfolding step
faulty_take rules b c d a nonce count h = no_fault b c nonce count b.down b.follows (b.drawn == 2 ^ 62) (refusal_of (admit b d)) h

pub take_tells : (rules : Rules) (b c : Book) (d : Destination) (a : Val) (nonce before now : ℕ) (r : Reply) → step rules b nonce (take d a) (views.fate_by r) ≡ (r, c) → TellsCount before now r
take_tells rules b c d a nonce before now (taken n k) h = tt
take_tells rules b c d a nonce before now (shown p u) h = tt
take_tells rules b c d a nonce before now (finished p) h = tt
take_tells rules b c d a nonce before now (ended p) h = tt
take_tells rules b c d a nonce before now (refusal x) h = tt
take_tells rules b c d a nonce before now (fault f) h = tt
take_tells rules b c d a nonce before now (out_of_fuel n) h = tt
take_tells rules b c d a nonce before now (shelf_full n) h = tt
take_tells rules b c d a nonce before now (disk_failed n) h = absurd (faulty_take rules b c d a nonce n h)
take_tells rules b c d a nonce before now (down n) h = tt
take_tells rules b c d a nonce before now (oversize l) h = tt
take_tells rules b c d a nonce before now (journal_full l) h = tt
take_tells rules b c d a nonce before now (compacted l) h = tt
take_tells rules b c d a nonce before now following h = tt
take_tells rules b c d a nonce before now worn h = tt
take_tells rules b c d a nonce before now memory h = tt
take_tells rules b c d a nonce before now (swept n) h = tt
take_tells rules b c d a nonce before now (live n) h = tt

-- what a take is answered
abbrev IsOfTake : Reply → Type 0
IsOfTake (taken n k) = ⊤
IsOfTake (refusal x) = ⊤
IsOfTake (down c) = ⊤
IsOfTake following = ⊤
IsOfTake worn = ⊤
IsOfTake memory = ⊤
IsOfTake _ = ⊥

of_take : (b : Book) (nonce : ℕ) (o : Option Doubt) (follows worn_out : Bool) (r : Option Refusal) → IsOfTake (take_unless (or_else (barred_by o follows) (or_else (when worn_out worn) (refused_by r))) b nonce).0
of_take b nonce (Some doubt) follows worn_out r = tt
of_take b nonce None true worn_out r = tt
of_take b nonce None false true r = tt
of_take b nonce None false false (Some r) = tt
of_take b nonce None false false None = tt

by_fate : (b : Book) (d : Destination) (nonce : ℕ) (fate : Fate) → IsOfTake (take_by b d nonce fate).0
by_fate b d nonce no_memory = tt
by_fate b d nonce plain = of_take b nonce b.down b.follows (b.drawn == 2 ^ 62) (refusal_of (admit b d))
by_fate b d nonce (disk_fault count) = of_take b nonce b.down b.follows (b.drawn == 2 ^ 62) (refusal_of (admit b d))
by_fate b d nonce lost = of_take b nonce b.down b.follows (b.drawn == 2 ^ 62) (refusal_of (admit b d))
by_fate b d nonce kept = of_take b nonce b.down b.follows (b.drawn == 2 ^ 62) (refusal_of (admit b d))

take_is_answered : (rules : Rules) (b : Book) (d : Destination) (a : Val) (nonce : ℕ) (fate : Fate) → IsOfTake (step rules b nonce (take d a) fate).0
unfolding step
take_is_answered rules b d a nonce fate = by_fate b d nonce fate

no_ticket : (r : answers.Reply) → IsOfTake (reply_of r) → IsNoTicket r
no_ticket (answer.Page bytes url) h = h
no_ticket (answer.Finished bytes) h = h
no_ticket (answer.Ended bytes) h = h
no_ticket (answer.Refused why) h = tt
no_ticket (answer.Fault why) h = h
no_ticket (answer.Fuel cost) h = h
no_ticket (answer.ShelfFull count) h = h
no_ticket (answer.Oversize size) h = h
no_ticket (answer.JournalFull size) h = h
no_ticket (answer.DiskFault count) h = h
no_ticket (answer.Down count) h = tt
no_ticket answer.Following h = tt
no_ticket answer.Worn h = tt
no_ticket answer.Memory h = tt

-- what a take is told that gives no ticket
pub take_refused : (rules : Rules) (b c : Book) (d : Destination) (a : Val) (nonce : ℕ) (result : Result Ticket answers.Reply)
    → step rules b nonce (take d a) (views.fate_by (taken_of result)) ≡ (taken_of result, c) → IfErr result IsNoTicket
take_refused rules b c d a nonce (Ok t) h = tt
take_refused rules b c d a nonce (Err r) h =
    no_ticket r (subst IsOfTake (ap (λ (p : Reply × Book). p.0) h) (take_is_answered rules b d a nonce (views.fate_by (reply_of r))))
