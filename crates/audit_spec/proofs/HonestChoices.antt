-- What a publish records passes the tests of its book.
use Rattle.std.proofs.Common.{◌≡◌, ◌≤◌, ℕ, zero, suc, ◌+◌, ◌==◌, List, [], ◌∷◌, map, length, Option, Some, None, Bool, true, refl, sym, ap, subst, ◌∙◌, slice_get, arith}
use Rattle.std.specs.Prelude.{⊤, ◌&&◌, nat_lt, nat_le, is_some}
use Rattle.std.proofs.lemmas.Bool.{and_from}
use Rattle.std.proofs.lemmas.Bool.Decides.{nat_tests}
use Rattle.script_value.specs.declared.outcome.TxName.{TxName}
use Rattle.page_names.specs.Names.{Destination, start, page}
use Rattle.script_nodes.specs.Setup.{Named}
use Rattle.replay_spec.specs.Tape.{present, How, shows, finishes, ends, Outcome, paged}
use Rattle.replay_spec.specs.Tape as tape
use Rattle.replay_spec.specs.Eval.{Segment}
use Rattle.replay_spec.specs.Book.{Use, Opening, Extension, Ending, Finish, Change, opens, extends, Book}
use Rattle.replay_spec.specs.Book as book
use Rattle.replay_spec.specs.Change.{used_by}
use Rattle.replay_spec.specs.Rules.{Rules}
use Rattle.replay_spec.specs.Eviction.{least, but, least_used, too_many, goes_for}
use Rattle.replay_spec.specs.Admission.{or_else, Place, why_not, Admission, begins, resumes, refused, admit}
use Rattle.replay_spec.specs.Next.{Ticket, starts, url_for, home_of, answered, newest, comes_to, start_visit, page_visit}
use Rattle.replay_spec.specs.Step.{Reply, Decision, replies, records, compacts, gone_for, unless, too_long, full_journal, with_room, opening, extension, ending, finish, reply_by, full, stopped, decide}
use Rattle.replay_spec.specs.Recovery.{are_effects, are_names, page_of_numbers, again, extension_visit, opening_visit, can_go}
use Rattle.replay_spec.specs.Invariant.{IsOrderly}
use Rattle.replay_spec.specs.Laws.{IsInFuel}
use Rattle.replay_spec.specs.Remade.{IsRemade, NameTheirCells}
use Rattle.replay_spec.proofs.Fuel.{more_is_same}
use Rattle.replay_spec.proofs.Second.{pages_past}
use Rattle.replay_spec.proofs.Tests.{equal_self, effects_self, names_self}
use Rattle.replay_spec.proofs.Admitted.{came_from, Stands, Says, says, resumes_place, start_is_no_page}
use Rattle.replay_spec.proofs.Recovered.{if_can}
use Rattle.replay_spec.proofs.Going.{Records}
use Rattle.replay_spec.proofs.Orderly.{stands_there}
use Rattle.replay_spec.proofs.Again.{place_there, recorded_remade}
use Rattle.server_limits.specs.Limits.{most_fuel}
use Rattle.journal_spec.specs.Whole.{IsWhole, HasWholeScripts}
use Rattle.audit_spec.specs.Tests.{holds_of, is_none, is_last, is_finish, ends_so, finishes_so, last_segment, are_numbers, most_life, is_due}
use Rattle.audit_spec.specs.Meaning.{IsOver}
use Rattle.audit_spec.proofs.Nonces.{hides_url}
use Rattle.audit_spec.proofs.HonestTests.{IsFair}

-- ---- the least used pages

numbers_self : (ns : List ℕ) → are_numbers ns ns ≡ true
numbers_self [] = refl
numbers_self (n ∷ ns) = and_from (n == n) (are_numbers ns ns) (equal_self n) (numbers_self ns)

-- as many as go are those that go
least_again : (k : ℕ) (us : List Use) → least_used (length (least_used k us)) us ≡ least_used k us
least_again zero us = refl
least_again (suc k) [] = refl
least_again (suc k) (u ∷ us) = let v = least u us in ap (λ (ns : List ℕ). v.page ∷ ns) (least_again k (but v.page (u ∷ us)))

least_go_so : (limit p n : ℕ) (us : List Use) → let gone = goes_for limit p n us in are_numbers gone (least_used (length gone) (used_by p n us)) ≡ true
least_go_so limit p n us =
    let now = used_by p n us in
    let gone = least_used (too_many limit now) now in
    ap (are_numbers gone) (least_again (too_many limit now) now) ∙ numbers_self gone

-- ---- each kind of change

due : (clock life : ℕ) → 1 ≤ life → life ≤ most_life → is_due clock (clock + life) ≡ true
due clock life low high =
    and_from (nat_lt clock (clock + life)) (nat_le (clock + life) (clock + most_life)) (grind (arith, nat_tests, low)) (grind (arith, nat_tests, high))

opening_fair : (b : Book) (o : Opening) (inside : List TxName) → IsRemade b (opens o) inside → o.evicted ≡ [] → is_due b.clock o.deadline ≡ true → IsFair b (opens o)
opening_fair b o inside (names, (made, same)) none timely =
    let at = came_from (slice_get b.scripts o.script) _ names made in
    let can = if_can (can_go o.evicted []) _ names at.1.1 in
    let admitted : is_some (slice_get b.scripts o.script) ≡ true = ap is_some at.1.0 in
    let test : Named → Bool = λ s. is_some (again o.kind o.effects o.left (comes_to (opening_visit b o s) (present s.script.cells most_fuel))) in
    let runs : holds_of test (slice_get b.scripts o.script) ≡ true = ap (holds_of test) at.1.0 ∙ ap is_some can.1 in
    let least : are_numbers o.evicted [] ≡ true = ap (λ (ns : List ℕ). are_numbers ns []) none in
    λ i. true ∷ (admitted i ∷ (runs i ∷ (least i ∷ (timely i ∷ []))))

-- a page that stands there can be answered
answerable : (b : Book) (k n : ℕ) (at : Place) → page_of_numbers b k n ≡ Some at → why_not b.clock at.instance at.page ≡ None
    → holds_of (λ (x : Place). is_none (why_not b.clock x.instance x.page)) (page_of_numbers b k n) ≡ true
answerable b k n at there why = ap (holds_of (λ (x : Place). is_none (why_not b.clock x.instance x.page))) there ∙ ap is_none why

extension_fair : (b : Book) (x : Extension) (at : Place) (inside : List TxName) → IsRemade b (extends x) inside → page_of_numbers b x.instance x.page ≡ Some at → why_not b.clock at.instance at.page ≡ None
    → are_numbers x.evicted (least_used (length x.evicted) (used_by x.page x.number at.instance.used)) ≡ true → is_due b.clock x.deadline ≡ true → IsFair b (extends x)
extension_fair b x at inside (names, (made, same)) there why gone timely =
    let found = came_from (page_of_numbers b x.instance x.page) _ names made in
    let can = if_can (can_go x.evicted found.0.instance.used) _ names found.1.1 in
    let admitted = answerable b x.instance x.page at there why in
    let test : Place → Bool = λ y. is_some (again x.kind x.effects x.left (comes_to (extension_visit b x y) (present y.instance.cells most_fuel))) in
    let runs : holds_of test (page_of_numbers b x.instance x.page) ≡ true = ap (holds_of test) found.1.0 ∙ ap is_some can.1 in
    let goers : Place → Bool = λ y. are_numbers x.evicted (least_used (length x.evicted) (used_by x.page x.number y.instance.used)) in
    let least : holds_of goers (page_of_numbers b x.instance x.page) ≡ true = ap (holds_of goers) there ∙ gone in
    λ i. true ∷ (admitted i ∷ (runs i ∷ (least i ∷ (timely i ∷ []))))

ending_fair : (b : Book) (e : Ending) (at : Place) → page_of_numbers b e.instance e.page ≡ Some at → why_not b.clock at.instance at.page ≡ None
    → ends_so e.effects e.left (last_segment b e.number e.answer at) ≡ true → IsFair b (book.ends e)
ending_fair b e at there why so =
    let admitted = answerable b e.instance e.page at there why in
    let test : Place → Bool = λ y. ends_so e.effects e.left (last_segment b e.number e.answer y) in
    let runs : holds_of test (page_of_numbers b e.instance e.page) ≡ true = ap (holds_of test) there ∙ so in
    λ i. true ∷ (admitted i ∷ (runs i ∷ (true ∷ (true ∷ []))))

finish_fair : (b : Book) (f : Finish) (at : Place) → page_of_numbers b f.instance f.page ≡ Some at → why_not b.clock at.instance at.page ≡ None
    → finishes_so f.effects (last_segment b f.number f.answer at) ≡ true → IsFair b (book.finishes f)
finish_fair b f at there why so =
    let admitted = answerable b f.instance f.page at there why in
    let test : Place → Bool = λ y. finishes_so f.effects (last_segment b f.number f.answer y) in
    let runs : holds_of test (page_of_numbers b f.instance f.page) ≡ true = ap (holds_of test) there ∙ so in
    λ i. true ∷ (admitted i ∷ (runs i ∷ (true ∷ (true ∷ []))))

-- ---- decisions

-- what is decided passes, if it is made again from its record
abbrev IsFairDecision : Book → Decision → Type 0
IsFairDecision b (replies r) = ⊤
IsFairDecision b (records r c inside) = IsRemade b c inside → IsFair b c
IsFairDecision b (compacts r) = ⊤

unless_fair : (b : Book) (o : Option Reply) (d : Decision) → IsFairDecision b d → IsFairDecision b (unless o d)
unless_fair b None d h = h
unless_fair b (Some r) d h = tt

recorded : (rules : Rules) (b : Book) (r : Reply) (inside : List TxName) (c : Change) → (IsRemade b c inside → IsFair b c) → IsFairDecision b (with_room rules b r inside (Some c))
recorded rules b r inside c h = unless_fair b (or_else (too_long rules.journal b c) (full_journal rules.journal b c)) (records r c inside) h

-- rules whose fuel and life are in their ranges
pub record IsBound (rules : Rules) : Type 0 where
  pub fuel : rules.fuel ≤ most_fuel
  pub low : 1 ≤ rules.life
  pub high : rules.life ≤ most_life

start_fair : (rules : Rules) (b : Book) (t : Ticket) (k : ℕ) (s : Named) (outcome : Outcome) → IsBound rules
    → let v = start_visit b t k s in let m = comes_to v (present s.script.cells rules.fuel) in IsFairDecision b (stopped rules b [] v m outcome)
start_fair rules b t k s (paged (shows kind) bytes) bound =
    let v = start_visit b t k s in
    let m = comes_to v (present s.script.cells rules.fuel) in
    let c = opens (opening rules b v m k kind) in
    let r = reply_by (shows kind) bytes (url_for v) in
    unless_fair b (full rules (shows kind) (starts k) (length b.instances)) (with_room rules b r m.entered (Some c))
    (recorded rules b r m.entered c (λ made. opening_fair b _ m.entered made refl (due b.clock rules.life bound.low bound.high)))
start_fair rules b t k s (paged finishes bytes) bound = tt
start_fair rules b t k s (paged ends bytes) bound = tt
start_fair rules b t k s (tape.faulted f) bound = tt
start_fair rules b t k s (tape.out_of_fuel cost) bound = tt

-- the segment of a last page is told without its nonce, and under the most fuel
last_same : (b : Book) (t : Ticket) (at : Place) (fuel : ℕ) (how : How) (bytes : List ℕ) → fuel ≤ most_fuel → IsWhole at.instance.script
    → let m = comes_to (page_visit b t at) (present at.instance.cells fuel) in
    m.outcome ≡ paged how bytes → IsOver (paged how bytes) → last_segment b t.number t.answer at ≡ m
last_same b t at fuel how bytes less whole e last =
    let v = page_visit b t at in
    let cs = at.instance.cells in
    let more : comes_to v (present cs most_fuel) ≡ comes_to v (present cs fuel) =
    more_is_same v.script.script (map (answered (home_of v)) v.pages) (newest v (present cs fuel)) (pages_past (home_of v) v.pages) fuel most_fuel cs less (subst IsInFuel (sym e) tt) in
    let over : IsOver (comes_to v (present cs most_fuel)).outcome = subst IsOver (sym (ap (λ (s : Segment). s.outcome) more ∙ e)) last in
    hides_url v 0 most_fuel cs whole over ∙ more

page_fair : (rules : Rules) (b : Book) (t : Ticket) (at : Place) (outcome : Outcome) → IsBound rules → HasWholeScripts b → Stands b at → why_not b.clock at.instance at.page ≡ None
    → let v = page_visit b t at in
    let m = comes_to v (present at.instance.cells rules.fuel) in
    m.outcome ≡ outcome → IsFairDecision b (stopped rules b (gone_for rules t at) v m outcome)
page_fair rules b t at (paged (shows kind) bytes) bound whole h why e =
    let v = page_visit b t at in
    let m = comes_to v (present at.instance.cells rules.fuel) in
    let c = extends (extension rules b (gone_for rules t at) v m at.instance.number at.page.number kind) in
    let r = reply_by (shows kind) bytes (url_for v) in
    unless_fair b (full rules (shows kind) v.origin (length b.instances)) (with_room rules b r m.entered (Some c))
    (recorded rules b r m.entered c
    (λ made. extension_fair b _ at m.entered made (place_there b at h) why (least_go_so rules.pages at.page.number t.number at.instance.used) (due b.clock rules.life bound.low bound.high)))
page_fair rules b t at (paged finishes bytes) bound whole h why e =
    let v = page_visit b t at in
    let m = comes_to v (present at.instance.cells rules.fuel) in
    let c = book.finishes (finish v m at.instance.number at.page.number) in
    let last = last_same b t at rules.fuel finishes bytes bound.fuel (whole.instances at.instance.number at.instance (stands_there b at h).0) e tt in
    let so : finishes_so m.effects (last_segment b t.number t.answer at) ≡ true =
    ap (finishes_so m.effects) last ∙ and_from (is_finish m.outcome) (are_effects m.effects m.effects) (ap is_finish e) (effects_self m.effects) in
    recorded rules b (Reply.finished bytes) m.entered c (λ made. finish_fair b _ at (place_there b at h) why so)
page_fair rules b t at (paged ends bytes) bound whole h why e =
    let v = page_visit b t at in
    let m = comes_to v (present at.instance.cells rules.fuel) in
    let c = book.ends (ending v m at.instance.number at.page.number) in
    let last = last_same b t at rules.fuel ends bytes bound.fuel (whole.instances at.instance.number at.instance (stands_there b at h).0) e tt in
    let so : ends_so m.effects m.left (last_segment b t.number t.answer at) ≡ true =
    ap (ends_so m.effects m.left) last
    ∙ and_from (is_last m.outcome) (are_effects m.effects m.effects && are_names m.left m.left) (ap is_last e)
    (and_from (are_effects m.effects m.effects) (are_names m.left m.left) (effects_self m.effects) (names_self m.left)) in
    recorded rules b (Reply.ended bytes) m.entered c (λ made. ending_fair b _ at (place_there b at h) why so)
page_fair rules b t at (tape.faulted f) bound whole h why e = tt
page_fair rules b t at (tape.out_of_fuel cost) bound whole h why e = tt

-- an admission says why nothing is against its page
why_admitted : (b : Book) (d : Destination) (at : Place) → admit b d ≡ resumes at → why_not b.clock at.instance at.page ≡ None
why_admitted b (start name) at e = absurd (start_is_no_page b name at e)
why_admitted b (page name n) at e = (resumes_place b name n at e).1

admitted_fair : (rules : Rules) (b : Book) (t : Ticket) (a : Admission) → IsBound rules → HasWholeScripts b → admit b t.target ≡ a → IsFairDecision b (decide rules b t a)
admitted_fair rules b t (begins k s) bound whole e = start_fair rules b t k s (comes_to (start_visit b t k s) (present s.script.cells rules.fuel)).outcome bound
admitted_fair rules b t (resumes at) bound whole e =
    page_fair rules b t at (comes_to (page_visit b t at) (present at.instance.cells rules.fuel)).outcome bound whole (subst (Says b) e (says b t.target)) (why_admitted b t.target at e) refl
admitted_fair rules b t (refused r) bound whole e = tt

pub recorded_fair : {lawful : Type 0} (rules : Rules) (b : Book) (t : Ticket) (c : Change) (inside : List TxName) → IsBound rules → IsOrderly b → NameTheirCells b → HasWholeScripts b
    → Records lawful rules b t c inside → IsFair b c
recorded_fair rules b t c inside bound g names whole h =
    subst (IsFairDecision b) h.decided (admitted_fair rules b t (admit b t.target) bound whole refl) (recorded_remade rules b t c inside bound.fuel g names h)
