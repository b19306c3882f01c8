-- No more pages are used than the limit allows.
use Rattle.std.proofs.Common.{◌≡◌, ◌≤◌, ◌==◌, ◌+◌, ◌-◌, ◌⊎◌, ℕ, zero, suc, List, [], ◌∷◌, length, Option, Some, None, Bool, true, false, not, filter, refl, sym, ap, subst, ◌∙◌, ⊎_elim, slice_get, arith}
use Rattle.std.specs.Prelude.{⊤}
use Rattle.std.proofs.lemmas.Bool.{cases_eq}
use Rattle.std.proofs.lemmas.Bool.Decides.{nat_tests}
use Rattle.std.proofs.lemmas.Option.{same_Some}
use Rattle.std.proofs.lemmas.List.{length-map}
use Rattle.script_value.specs.declared.outcome.TxName.{TxName}
use Rattle.script_nodes.specs.Setup.{Named}
use Rattle.replay_spec.specs.Tape.{present, How, shows, Outcome, paged}
use Rattle.replay_spec.specs.Tape as tape
use Rattle.replay_spec.specs.Eval.{Segment}
use Rattle.replay_spec.specs.Book.{Use, Instance, Opening, Change, opens, extends, ends, finishes, sweeps, Book, is_live, instance_at, is_evicted, root_by, page_by}
use Rattle.replay_spec.specs.Rules.{Rules}
use Rattle.replay_spec.specs.Change.{put_use, mend, used_by, unless_gone, shown_by, ended_by, fresh, opened_by, instances_by}
use Rattle.replay_spec.specs.Eviction.{least, but, least_used, too_many, goes_for}
use Rattle.replay_spec.specs.Admission.{or_else, is_one, Admission, begins, resumes, refused, admit}
use Rattle.replay_spec.specs.Next.{Ticket, Origin, starts, answers, Visit, url_for, comes_to, start_visit, page_visit}
use Rattle.replay_spec.specs.Step.{Reply, Decision, replies, records, compacts, unless, too_long, full_journal, with_room, change_by, reply_by, full, stopped, gone_for, decide}
use Rattle.replay_spec.specs.Runs.{lands}
use Rattle.replay_spec.specs.Invariant.{Apart, number_of, IsOrderly}
use Rattle.replay_spec.specs.Laws.{Moment, then_book}
use Rattle.replay_spec.specs.Evicting.{HasRoomFor, HasRoomIn, IsRoomy, AtMostPages}
use Rattle.replay_spec.proofs.Found.{KeepsNumber, mend_other, keep_found}
use Rattle.replay_spec.proofs.Admitted.{Says, says}
use Rattle.replay_spec.proofs.Going.{Records, Goes, stays, draws, spends, publishes, fails, goes_to, fails_at, rewrites, fails_to_rewrite, keeps, keeps_rewritten, loses, goes}
use Rattle.replay_spec.proofs.Orderly.{stands_there}
use Rattle.replay_spec.proofs.Differ.{put_from, mend_from}
use Rattle.replay_spec.proofs.Goers.{pages_of, used_pages, gone_pages, least_there}

pub gone_more : (n : ℕ) (ns : List ℕ) (us : List Use) → unless_gone (n ∷ ns) us ≡ unless_gone ns (but n us)
gone_more n ns [] = refl
gone_more n ns (u ∷ us) = by_test (u.page == n) refl (gone_more n ns us)
  where
    by_test : (b : Bool) → (u.page == n) ≡ b → unless_gone (n ∷ ns) us ≡ unless_gone ns (but n us) → unless_gone (n ∷ ns) (u ∷ us) ≡ unless_gone ns (but n (u ∷ us))
    by_test true e rest = let back : (n == u.page) ≡ true = grind (arith, nat_tests, e) in grind (arith, e, back, rest)
    by_test false e rest = let back : (n == u.page) ≡ false = grind (arith, nat_tests, e) in grind (arith, e, back, rest)

pub none_gone : (us : List Use) → unless_gone [] us ≡ us
none_gone [] = refl
none_gone (u ∷ us) = ap (λ (vs : List Use). u ∷ vs) (none_gone us)

pub but_fewer : (n : ℕ) (us : List Use) → length (but n us) ≤ length us
but_fewer n [] = omega arith
but_fewer n (u ∷ us) = grind (arith, but_fewer n us)

pub but_less : (n : ℕ) (us : List Use) → is_one n (pages_of us) ≡ true → length (but n us) + 1 ≤ length us
but_less n [] h = absurd (let no : ⊥ = cc in no)
but_less n (u ∷ us) h = grind (arith, nat_tests, h, but_less n us, but_fewer n us)

-- as many pages go as have to
fewer_left : (k : ℕ) (us : List Use) → length (unless_gone (least_used k us) us) ≤ length us - k
fewer_left zero us = let same = ap (λ (vs : List Use). length vs) (none_gone us) in omega (arith, same)
fewer_left (suc k) [] = omega arith
fewer_left (suc k) (u ∷ us) =
    let v = least u us in
    let less = but_less v.page (u ∷ us) (least_there u us) in
    let rest = fewer_left k (but v.page (u ∷ us)) in
    let same = ap (λ (vs : List Use). length vs) (gone_more v.page (least_used k (but v.page (u ∷ us))) (u ∷ us)) in
    omega (arith, less, rest, same)

-- how many are left depends on the pages alone
left_alike : (gone : List ℕ) (us vs : List Use) → pages_of us ≡ pages_of vs → length (unless_gone gone us) ≡ length (unless_gone gone vs)
left_alike gone us vs same =
    sym (length-map (unless_gone gone us) (λ (u : Use). u.page))
    ∙ (ap (λ (ns : List ℕ). length ns) (gone_pages gone us ∙ (ap (λ (ns : List ℕ). filter (λ m. not (is_one m gone)) ns) same ∙ sym (gone_pages gone vs)))
    ∙ length-map (unless_gone gone vs) (λ (u : Use). u.page))

room_for : (limit most p n : ℕ) (us : List Use) → 1 ≤ most → limit ≤ most → length (unless_gone (goes_for limit p n us) us) + 1 ≤ most
room_for limit most p n us one less =
    let now = used_by p n us in
    let alike = left_alike (goes_for limit p n us) us now (sym (used_pages p n us)) in
    let left = fewer_left (too_many limit now) now in
    omega (arith, one, less, alike, left)

put_most : (w : Use) (us : List Use) → length (put_use w us) ≤ length us + 1
put_most w [] = omega arith
put_most w (u ∷ us) = grind (arith, nat_tests, put_most w us)

-- each instance has room after one of them is changed
abbrev AreRoomy : (most : ℕ) → List Instance → Type 0
AreRoomy most is = (k : ℕ) (i : Instance) → instance_at k is ≡ Some i → length i.used ≤ most

-- as many pages have a use after an answer as before it
pub used_many : (p n : ℕ) (us : List Use) → length (used_by p n us) ≡ length us
used_many p n us = sym (length-map (used_by p n us) (λ (u : Use). u.page)) ∙ (ap (λ (ns : List ℕ). length ns) (used_pages p n us) ∙ length-map us (λ (u : Use). u.page))

mended : (most n : ℕ) (f : Instance → Instance) (is : List Instance) → KeepsNumber f → AreRoomy most is
    → ((i : Instance) → instance_at n is ≡ Some i → length (f i).used ≤ most) → AreRoomy most (mend n f is)
mended most n f is same_number h new k j found = ⊎_elim
    (λ same.
    ⊎_elim (λ old. h k j old)
    (λ (i, (there, is_it)). subst (λ (x : Instance). length x.used ≤ most) is_it (new i (ap (λ (m : ℕ). instance_at m is) (sym same) ∙ there)))
    (mend_from k n f is j same_number found))
    (λ other. h k j (sym (mend_other k n f is same_number (λ e. other (sym e))) ∙ found)) (cases_eq k n)

opened : (most : ℕ) (a : Option Named) (o : Opening) (inside : List TxName) (is : List Instance) → 1 ≤ most → AreRoomy most is → AreRoomy most (opened_by a o inside is)
opened most None o inside is one h k j found = h k j found
opened most (Some s) o inside is one h k j found =
    let i = shown_by o.effects o.left o.kind [] (root_by o inside) (fresh s o.number) in
    ⊎_elim (λ same. subst (λ (x : Instance). length x.used ≤ most) same one) (λ old. h k j old) (put_from (λ (x : Instance). x.number) k i j is found)

landed : (most : ℕ) (scripts : List Named) (is : List Instance) (c : Change) (inside : List TxName) → 1 ≤ most → Apart is → AreRoomy most is → HasRoomFor most is c
    → AreRoomy most (instances_by scripts c inside is)
landed most scripts is (opens o) inside one apart h room k j found = opened most (slice_get scripts o.script) o inside is one h k j found
landed most scripts is (extends x) inside one apart h room k j found =
    mended most x.instance (shown_by x.effects x.left x.kind x.evicted (page_by x inside)) is (λ i. refl) h
    (λ i there.
    let put = put_most (record { page = x.number; last = x.number }) (unless_gone x.evicted (used_by x.page x.number i.used)) in
    let alike = left_alike x.evicted (used_by x.page x.number i.used) i.used (used_pages x.page x.number i.used) in
    let most_left = room i there in
    omega (arith, put, alike, most_left)) k j found
landed most scripts is (ends e) inside one apart h room k j found =
    mended most e.instance (ended_by e) is (λ i. refl) h (λ i there. let many = used_many e.page e.number i.used in let old = h e.instance i there in omega (arith, many, old)) k j found
landed most scripts is (finishes f) inside one apart h room k j found = h k j (keep_found (λ i. not (i.number == f.instance)) k is j apart found)
landed most scripts is (sweeps tick) inside one apart h room k j found = h k j (keep_found (is_live tick) k is j apart found)

-- what a decision records has room
abbrev HasRoomBy : (most : ℕ) → List Instance → Decision → Type 0
HasRoomBy most is (replies r) = ⊤
HasRoomBy most is (records r c inside) = HasRoomFor most is c
HasRoomBy most is (compacts r) = ⊤

unless_room : (most : ℕ) (is : List Instance) (o : Option Reply) (d : Decision) → HasRoomBy most is d → HasRoomBy most is (unless o d)
unless_room most is None d h = h
unless_room most is (Some r) d h = tt

abbrev OptionRoom : (most : ℕ) → List Instance → Option Change → Type 0
OptionRoom most is None = ⊤
OptionRoom most is (Some c) = HasRoomFor most is c

with_room_room : (most : ℕ) (rules : Rules) (b : Book) (r : Reply) (inside : List TxName) (o : Option Change) → OptionRoom most b.instances o → HasRoomBy most b.instances (with_room rules b r inside o)
with_room_room most rules b r inside None h = tt
with_room_room most rules b r inside (Some c) h = unless_room most b.instances (or_else (too_long rules.journal b c) (full_journal rules.journal b c)) (records r c inside) h

abbrev GoneRoom : (most : ℕ) → List Instance → (gone : List ℕ) → Origin → Type 0
GoneRoom most is gone (starts k) = ⊤
GoneRoom most is gone (answers k m) = (i : Instance) → instance_at k is ≡ Some i → length (unless_gone gone i.used) + 1 ≤ most

change_room : (most : ℕ) (rules : Rules) (b : Book) (is : List Instance) (gone : List ℕ) (v : Visit) (s : Segment) (origin : Origin) (how : How) → GoneRoom most is gone origin
    → OptionRoom most is (change_by rules b gone v s origin how)
change_room most rules b is gone v s (starts k) (shows kind) h = tt
change_room most rules b is gone v s (starts k) tape.finishes h = tt
change_room most rules b is gone v s (starts k) tape.ends h = tt
change_room most rules b is gone v s (answers k m) (shows kind) h = h
change_room most rules b is gone v s (answers k m) tape.finishes h = tt
change_room most rules b is gone v s (answers k m) tape.ends h = tt

stopped_room : (most : ℕ) (rules : Rules) (b : Book) (gone : List ℕ) (v : Visit) (s : Segment) (o : Outcome) → GoneRoom most b.instances gone v.origin → HasRoomBy most b.instances (stopped rules b gone v s o)
stopped_room most rules b gone v s (paged how bytes) h =
    let c = change_by rules b gone v s v.origin how in
    let r = reply_by how bytes (url_for v) in
    unless_room most b.instances (full rules how v.origin (length b.instances)) (with_room rules b r s.entered c)
    (with_room_room most rules b r s.entered c (change_room most rules b b.instances gone v s v.origin how h))
stopped_room most rules b gone v s (tape.faulted f) h = tt
stopped_room most rules b gone v s (tape.out_of_fuel cost) h = tt

decided_room : (most : ℕ) (rules : Rules) (b : Book) (t : Ticket) (a : Admission) → 1 ≤ most → rules.pages ≤ most → Says b a → HasRoomBy most b.instances (decide rules b t a)
decided_room most rules b t (begins k s) one less h =
    let v = start_visit b t k s in let m = comes_to v (present s.script.cells rules.fuel) in stopped_room most rules b [] v m m.outcome tt
decided_room most rules b t (resumes at) one less h =
    let v = page_visit b t at in
    let m = comes_to v (present at.instance.cells rules.fuel) in
    stopped_room most rules b (gone_for rules t at) v m m.outcome
    (λ i there.
    let same : at.instance ≡ i = same_Some at.instance i (sym (stands_there b at h).0 ∙ there) in
    subst (λ (x : Instance). length (unless_gone (gone_for rules t at) x.used) + 1 ≤ most) same (room_for rules.pages most at.page.number t.number at.instance.used one less))
decided_room most rules b t (refused r) one less h = tt

recorded_room : {lawful : Type 0} (most : ℕ) (rules : Rules) (b : Book) (t : Ticket) (c : Change) (inside : List TxName) → 1 ≤ most → rules.pages ≤ most → Records lawful rules b t c inside → HasRoomFor most b.instances c
recorded_room most rules b t c inside one less h = subst (HasRoomBy most b.instances) h.decided (decided_room most rules b t (admit b t.target) one less (says b t.target))

went : {lawful : Type 0} (most : ℕ) (rules : Rules) (b d : Book) (o : Option Change) → Goes lawful rules b o d → 1 ≤ most → rules.pages ≤ most → IsOrderly b → IsRoomy most b → IsRoomy most d
went most rules b d o stays one less g h = h
went most rules b d o draws one less g h = record { instances = h.instances; doubt = h.doubt }
went most rules b d o (spends n out) one less g h = record { instances = h.instances; doubt = h.doubt }
went most rules b d o (publishes t c inside at) one less g h = record {
  instances = landed most b.scripts b.instances c inside one g.instances.apart h.instances (recorded_room most rules b t c inside one less at);
  doubt = subst (HasRoomIn most d.instances) (sym at.up) tt;
}
went most rules b d o (fails count t c inside at) one less g h = record { instances = h.instances; doubt = recorded_room most rules b t c inside one less at }
went most rules b d o (goes_to tick later up unfed) one less g h = record {
  instances = landed most b.scripts b.instances (sweeps tick) [] one g.instances.apart h.instances tt;
  doubt = subst (HasRoomIn most d.instances) (sym up) tt;
}
went most rules b d o (fails_at count tick later up unfed) one less g h = record { instances = h.instances; doubt = tt }
went most rules b d o (rewrites up unfed) one less g h = record { instances = h.instances; doubt = h.doubt }
went most rules b d o (fails_to_rewrite count up unfed) one less g h = record { instances = h.instances; doubt = tt }
went most rules b d o (keeps scripts count c inside down) one less g h =
    record { instances = landed most b.scripts b.instances c inside one g.instances.apart h.instances (subst (HasRoomIn most b.instances) down h.doubt); doubt = tt }
went most rules b d o (keeps_rewritten scripts count down) one less g h = record { instances = h.instances; doubt = tt }
went most rules b d o (loses scripts) one less g h = record { instances = h.instances; doubt = tt }

pub at_most : AtMostPages
at_most most one = (
  λ (rules : Rules) (scripts : List Named) (shelf : ℕ). record { instances = λ k i found. absurd (let no : ⊥ = cc in no); doubt = tt },
  λ (b : Book) (m : Moment) (g : IsOrderly b) (less : m.rules.pages ≤ most) (h : IsRoomy most b).
      went most m.rules b (then_book m b) (lands m.rules b m.event m.fate) (goes m.rules b m.nonce m.event m.fate) one less g h,
  λ (b : Book) (g : IsOrderly b) (h : IsRoomy most b) (k : ℕ) (i : Instance) (found : instance_at k b.instances ≡ Some i).
      let kept = g.instances.kept k i found in
      let same : length i.used ≡ length (filter (λ p. not (is_evicted p.number i.evicted)) i.pages) =
      sym (length-map i.used (λ (u : Use). u.page)) ∙ (ap (λ (ns : List ℕ). length ns) kept.used ∙ length-map (filter (λ p. not (is_evicted p.number i.evicted)) i.pages) number_of) in
      let less = h.instances k i found in
      omega (arith, same, less),
)
