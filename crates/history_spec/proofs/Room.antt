-- No more pages go than have to.
use Rattle.std.proofs.Common.{◌≡◌, ◌≤◌, ◌+◌, ◌-◌, ℕ, zero, suc, List, [], ◌∷◌, length, Option, Some, None, sym, ◌∙◌, subst, arith}
use Rattle.std.specs.Prelude.{⊤}
use Rattle.std.proofs.lemmas.Option.{same_Some}
use Rattle.script_value.specs.declared.outcome.TxName.{TxName}
use Rattle.replay_spec.specs.Tape.{present, How, shows, Outcome, paged}
use Rattle.replay_spec.specs.Tape as tape
use Rattle.replay_spec.specs.Eval.{Segment}
use Rattle.replay_spec.specs.Book.{Use, Instance, Change, extends, Book, instance_at}
use Rattle.replay_spec.specs.Rules.{Rules}
use Rattle.replay_spec.specs.Change.{used_by}
use Rattle.replay_spec.specs.Eviction.{least, but, least_used, too_many, goes_for}
use Rattle.replay_spec.specs.Admission.{or_else, Admission, begins, resumes, refused, admit}
use Rattle.replay_spec.specs.Next.{Ticket, Origin, starts, answers, Visit, url_for, comes_to, start_visit, page_visit}
use Rattle.replay_spec.specs.Step.{Fate, plain, no_memory, disk_fault, lost, kept, fate_of, Reply, Decision, replies, records, compacts, unless, barred, too_long, full_journal, with_room, change_by, reply_by, full, stopped, gone_for, decide}
use Rattle.replay_spec.specs.Runs.{recorded_by, recorded_under}
use Rattle.replay_spec.proofs.Admitted.{Says, says}
use Rattle.replay_spec.proofs.Orderly.{stands_there}
use Rattle.replay_spec.proofs.Room.{used_many}
use Rattle.history_spec.specs.Room.{NoneGoesTooSoon}

few_least : (k : ℕ) (us : List Use) → length (least_used k us) ≤ k
few_least zero us = omega arith
few_least (suc k) [] = omega arith
few_least (suc k) (u ∷ us) = let rest = few_least k (but (least u us).page (u ∷ us)) in omega (arith, rest)

few_go : (limit page number : ℕ) (us : List Use) → length (goes_for limit page number us) ≤ (length us + 1) - limit
few_go limit page n us =
    let now = used_by page n us in let few = few_least (too_many limit now) now in let many = used_many page n us in omega (arith, few, many)

-- no more pages of an instance go for the page that a change shows than are too many with it
abbrev Spares : (limit : ℕ) → List Instance → Change → Type 0
Spares limit is (extends x) = (i : Instance) → instance_at x.instance is ≡ Some i → length x.evicted ≤ (length i.used + 1) - limit
Spares limit is _ = ⊤

abbrev SparesIn : (limit : ℕ) → List Instance → Option Change → Type 0
SparesIn limit is None = ⊤
SparesIn limit is (Some c) = Spares limit is c

abbrev SparesBy : (limit : ℕ) → List Instance → Decision → Type 0
SparesBy limit is (replies r) = ⊤
SparesBy limit is (records r c inside) = Spares limit is c
SparesBy limit is (compacts r) = ⊤

unless_spares : (limit : ℕ) (is : List Instance) (o : Option Reply) (d : Decision) → SparesBy limit is d → SparesBy limit is (unless o d)
unless_spares limit is None d h = h
unless_spares limit is (Some r) d h = tt

room_spares : (rules : Rules) (b : Book) (r : Reply) (inside : List TxName) (o : Option Change) → SparesIn rules.pages b.instances o → SparesBy rules.pages b.instances (with_room rules b r inside o)
room_spares rules b r inside None h = tt
room_spares rules b r inside (Some c) h = unless_spares rules.pages b.instances (or_else (too_long rules.journal b c) (full_journal rules.journal b c)) (records r c inside) h

-- the same of pages that go for one that is shown after this
abbrev SparesFrom : (limit : ℕ) → List Instance → (gone : List ℕ) → Origin → Type 0
SparesFrom limit is gone (starts k) = ⊤
SparesFrom limit is gone (answers k page) = (i : Instance) → instance_at k is ≡ Some i → length gone ≤ (length i.used + 1) - limit

change_spares : (limit : ℕ) (rules : Rules) (b : Book) (is : List Instance) (gone : List ℕ) (v : Visit) (s : Segment) (origin : Origin) (how : How) → SparesFrom limit is gone origin
    → SparesIn limit is (change_by rules b gone v s origin how)
change_spares limit rules b is gone v s (starts k) (shows kind) h = tt
change_spares limit rules b is gone v s (starts k) tape.finishes h = tt
change_spares limit rules b is gone v s (starts k) tape.ends h = tt
change_spares limit rules b is gone v s (answers k page) (shows kind) h = h
change_spares limit rules b is gone v s (answers k page) tape.finishes h = tt
change_spares limit rules b is gone v s (answers k page) tape.ends h = tt

stopped_spares : (rules : Rules) (b : Book) (gone : List ℕ) (v : Visit) (s : Segment) (o : Outcome) → SparesFrom rules.pages b.instances gone v.origin
    → SparesBy rules.pages b.instances (stopped rules b gone v s o)
stopped_spares rules b gone v s (paged how bytes) h =
    let c = change_by rules b gone v s v.origin how in
    let r = reply_by how bytes (url_for v) in
    unless_spares rules.pages b.instances (full rules how v.origin (length b.instances)) (with_room rules b r s.entered c)
    (room_spares rules b r s.entered c (change_spares rules.pages rules b b.instances gone v s v.origin how h))
stopped_spares rules b gone v s (tape.faulted f) h = tt
stopped_spares rules b gone v s (tape.out_of_fuel cost) h = tt

decided_spares : (rules : Rules) (b : Book) (t : Ticket) (a : Admission) → Says b a → SparesBy rules.pages b.instances (decide rules b t a)
decided_spares rules b t (begins k s) h =
    let v = start_visit b t k s in let m = comes_to v (present s.script.cells rules.fuel) in stopped_spares rules b [] v m m.outcome tt
decided_spares rules b t (resumes at) h =
    let v = page_visit b t at in
    let m = comes_to v (present at.instance.cells rules.fuel) in
    stopped_spares rules b (gone_for rules t at) v m m.outcome
    (λ i there.
    let same : at.instance ≡ i = same_Some at.instance i (sym (stands_there b at h).0 ∙ there) in
    subst (λ (y : Instance). length (gone_for rules t at) ≤ (length y.used + 1) - rules.pages) same (few_go rules.pages at.page.number t.number at.instance.used))
decided_spares rules b t (refused r) h = tt

recorded_spares : (limit : ℕ) (is : List Instance) (d : Decision) (c : Change) → SparesBy limit is d → recorded_by d ≡ Some c → Spares limit is c
recorded_spares limit is (replies r) c h same = absurd (let no : ⊥ = cc in no)
recorded_spares limit is (records r other inside) c h same = subst (Spares limit is) (same_Some other c same) h
recorded_spares limit is (compacts r) c h same = absurd (let no : ⊥ = cc in no)

landed_spares : (limit : ℕ) (is : List Instance) (fate : Fate) (d : Decision) (c : Change) → SparesBy limit is d → recorded_under fate d ≡ Some c → Spares limit is c
landed_spares limit is no_memory d c h same = absurd (let no : ⊥ = cc in no)
landed_spares limit is (disk_fault count) d c h same = absurd (let no : ⊥ = cc in no)
landed_spares limit is plain d c h same = recorded_spares limit is d c h same
landed_spares limit is lost d c h same = recorded_spares limit is d c h same
landed_spares limit is kept d c h same = recorded_spares limit is d c h same

pub none_too_soon : NoneGoesTooSoon
none_too_soon rules b t fate x i same there =
    let d = decide rules b t (admit b t.target) in
    landed_spares rules.pages b.instances (fate_of rules.journal fate) (unless (barred b) d) (extends x)
    (unless_spares rules.pages b.instances (barred b) d (decided_spares rules b t (admit b t.target) (says b t.target))) same i there
