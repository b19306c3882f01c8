-- A change that passes the tests is what a publish writes.
use Rattle.std.proofs.Common.{◌≡◌, ◌≤◌, ◌<◌, ◌==◌, ◌&&◌, ◌+◌, ◌-◌, ℕ, zero, suc, Bool, true, false, List, [], ◌∷◌, length, Option, Some, None, refl, sym, ap, subst, ◌∙◌, slice_get, arith}
use Rattle.std.specs.Prelude.{is_some, nat_le, nat_lt}
use Rattle.std.specs.Str.{bytes_eq}
use Rattle.std.proofs.lemmas.Bool.{and_parts, and_from}
use Rattle.std.proofs.lemmas.Bool.Decides.{nat_tests}
use Rattle.std.proofs.lemmas.Slice.Eq.{bytes_eq-Decides}
use Rattle.script_value.specs.Val.{Val}
use Rattle.script_value.specs.declared.outcome.TxName.{TxName}
use Rattle.page_names.specs.Names.{start}
use Rattle.page_names.specs.declared.names.PageName.{PageName}
use Rattle.instance_cells.specs.Cells.{Effect}
use Rattle.script_nodes.specs.Setup.{Named}
use Rattle.script_nodes.specs.declared.script.SendKind.{SendKind}
use Rattle.replay_spec.specs.Tape.{present, shows, Outcome, paged, faulted, out_of_fuel}
use Rattle.replay_spec.specs.Tape as tape
use Rattle.replay_spec.specs.Eval.{Segment}
use Rattle.replay_spec.specs.Book.{Use, Opening, Extension, Ending, Finish, Change, opens, extends, ends, finishes, sweeps, Book, instance_at, page_at}
use Rattle.replay_spec.specs.Rules.{Rules}
use Rattle.replay_spec.specs.Change.{used_by}
use Rattle.replay_spec.specs.Eviction.{least, but, least_used, too_many, goes_for}
use Rattle.replay_spec.specs.Admission.{◌>>=◌, when, Place, why_not, Admission, begins, resumes, started, admit}
use Rattle.replay_spec.specs.Next.{Ticket, answers, starts, Visit, url_for, comes_to, start_visit, page_visit}
use Rattle.replay_spec.specs.Step.{Reply, shelf_full, records, unless, with_room, opening, extension, ending, finish, change_by, reply_by, full, stopped, settles, gone_for, decide, publish_comes}
use Rattle.replay_spec.specs.Recovery.{are_effects, are_names, is_kind, page_of_numbers, opening_visit, extension_visit, shows_so, again}
use Rattle.replay_spec.proofs.Admitted.{StandsAt, at_stands, place_resumes}
use Rattle.replay_spec.proofs.Goers.{least_there}
use Rattle.replay_spec.proofs.Numbered.{number_of}
use Rattle.replay_spec.proofs.Recovered.{place_is}
use Rattle.replay_spec.proofs.Room.{but_less}
use Rattle.replay_spec.proofs.Tests.{equal_self, kind_means, names_mean}
use Rattle.replay_spec.proofs.Last.{without}
use Rattle.server_limits.specs.Limits.{most_fuel, most_life}
use Rattle.journal_spec.specs.Whole.{IsWhole, HasWholeScripts}
use Rattle.journal_spec.proofs.Remaking.{effects_mean}
use Rattle.audit_spec.specs.Tests.{holds_of, is_none, goes_on, can_be_answered, is_admitted, is_last, is_finish, ends_so, finishes_so, last_visit, last_segment, runs_so, are_numbers, least_go, is_due, is_in_time}
use Rattle.audit_spec.specs.Meaning.{AreApart, target_at, free_rules, unfed, IsPublished, IsDecided, IsOver}
use Rattle.audit_spec.proofs.Unfed.{publish_unfed}
use Rattle.audit_spec.proofs.Nonces.{hides_url}

-- ---- what the tests say

-- what passes a test is there
pub passes_there : {A : Type 0} (test : A → Bool) (o : Option A) → holds_of test o ≡ true → (x : A) × ((o ≡ Some x) × (test x ≡ true))
passes_there test None h = absurd (let no : ⊥ = cc in no)
passes_there test (Some x) h = (x, (refl, h))

-- what is there passes the test
pub passes_at : {A : Type 0} (test : A → Bool) (o : Option A) (x : A) → holds_of test o ≡ true → o ≡ Some x → test x ≡ true
passes_at test o x h e = subst (λ (y : Option _). holds_of test y ≡ true) e h

none_is : {A : Type 0} (o : Option A) → is_none o ≡ true → o ≡ None
none_is None h = refl
none_is (Some x) h = absurd (let no : ⊥ = cc in no)

numbers_mean : (ms ns : List ℕ) → are_numbers ms ns ≡ true → ms ≡ ns
numbers_mean [] [] h = refl
numbers_mean [] (n ∷ ns) h = absurd (let no : ⊥ = cc in no)
numbers_mean (m ∷ ms) [] h = absurd (let no : ⊥ = cc in no)
numbers_mean (m ∷ ms) (n ∷ ns) h =
    let both = and_parts (m == n) (are_numbers ms ns) h in
    let first : m ≡ n = grind (arith, nat_tests, both.0) in
    let rest = numbers_mean ms ns both.1 in
    cc

when_some : {A : Type 0} (b : Bool) (x : A) → is_some (when b x) ≡ true → b ≡ true
when_some true x h = refl
when_some false x h = absurd (let no : ⊥ = cc in no)

-- a segment shows a page of this kind, with these effects, and leaves these transactions
record ShowsSo (m : Segment) (kind : SendKind) (effects : List Effect) (left : List TxName) : Type 0 where
  bytes : List ℕ
  outcome : m.outcome ≡ paged (shows kind) bytes
  did : m.effects ≡ effects
  leaves : m.left ≡ left

shows_by : (m : Segment) (o : Outcome) (kind : SendKind) (effects : List Effect) (left : List TxName) → m.outcome ≡ o → is_some (shows_so o kind effects left m) ≡ true → ShowsSo m kind effects left
shows_by m (paged (shows k) bytes) kind effects left e h =
    let all = when_some (is_kind k kind && are_effects m.effects effects && are_names m.left left) m.entered h in
    let p = and_parts (is_kind k kind && are_effects m.effects effects) (are_names m.left left) all in
    let q = and_parts (is_kind k kind) (are_effects m.effects effects) p.0 in
    record {
      bytes = bytes;
      outcome = e ∙ ap (λ (l : SendKind). paged (shows l) bytes) (kind_means k kind q.0);
      did = effects_mean m.effects effects q.1;
      leaves = names_mean m.left left p.1;
    }
shows_by m (paged tape.finishes bytes) kind effects left e h = absurd (let no : ⊥ = cc in no)
shows_by m (paged tape.ends bytes) kind effects left e h = absurd (let no : ⊥ = cc in no)
shows_by m (faulted f) kind effects left e h = absurd (let no : ⊥ = cc in no)
shows_by m (out_of_fuel cost) kind effects left e h = absurd (let no : ⊥ = cc in no)

last_is : (o : Outcome) → is_last o ≡ true → (bytes : List ℕ) × (o ≡ paged tape.ends bytes)
last_is (paged (shows k) bytes) h = absurd (let no : ⊥ = cc in no)
last_is (paged tape.finishes bytes) h = absurd (let no : ⊥ = cc in no)
last_is (paged tape.ends bytes) h = (bytes, refl)
last_is (faulted f) h = absurd (let no : ⊥ = cc in no)
last_is (out_of_fuel cost) h = absurd (let no : ⊥ = cc in no)

finish_is : (o : Outcome) → is_finish o ≡ true → (bytes : List ℕ) × (o ≡ paged tape.finishes bytes)
finish_is (paged (shows k) bytes) h = absurd (let no : ⊥ = cc in no)
finish_is (paged tape.finishes bytes) h = (bytes, refl)
finish_is (paged tape.ends bytes) h = absurd (let no : ⊥ = cc in no)
finish_is (faulted f) h = absurd (let no : ⊥ = cc in no)
finish_is (out_of_fuel cost) h = absurd (let no : ⊥ = cc in no)

-- a deadline that is due is one life above the clock
record IsDue (clock deadline : ℕ) : Type 0 where
  above : clock < deadline
  near : deadline ≤ clock + most_life

due_is : (clock deadline : ℕ) → is_due clock deadline ≡ true → IsDue clock deadline
due_is clock deadline h =
    let both = and_parts (nat_lt clock deadline) (nat_le deadline (clock + most_life)) h in
    record { above = grind (arith, nat_tests, both.0); near = grind (arith, nat_tests, both.1) }

-- ---- how many go

-- no more go than there are
few_go : (k : ℕ) (us : List Use) → length (least_used k us) ≤ length us
few_go zero us = omega arith
few_go (suc k) [] = omega arith
few_go (suc k) (u ∷ us) =
    let v = least u us in
    let less = but_less v.page (u ∷ us) (least_there u us) in
    let rest = few_go k (but v.page (u ∷ us)) in
    omega (arith, less, rest)

-- ---- decisions

no_room : (n : ℕ) → nat_le (n + 1) n ≡ false
no_room n = grind (arith, nat_tests)

-- a start that shows a page, where there is room for one more instance
start_shows : (life limit : ℕ) (b : Book) (v : Visit) (m : Segment) (k : ℕ) (kind : SendKind) (bytes : List ℕ) → v.origin ≡ starts k → m.outcome ≡ paged (shows kind) bytes
    → settles (free_rules life limit b) b [] v m ≡ records (reply_by (shows kind) bytes (url_for v)) (opens (opening (free_rules life limit b) b v m k kind)) m.entered
start_shows life limit b v m k kind bytes from e =
    let rules = free_rules life limit b in
    let n = length b.instances in
    let r = reply_by (shows kind) bytes (url_for v) in
    let d = records r (opens (opening (free_rules life limit b) b v m k kind)) m.entered in
    ap (λ (o : Outcome). stopped rules b [] v m o) e
    ∙ (ap (λ o. unless (full rules (shows kind) o n) (with_room rules b r m.entered (change_by (free_rules life limit b) b [] v m o (shows kind)))) from
    ∙ ap (λ (t : Bool). unless (when t (shelf_full n)) d) (no_room n))

-- a visit of an answer that shows a page
page_shows : (life limit : ℕ) (b : Book) (gone : List ℕ) (v : Visit) (m : Segment) (i p : ℕ) (kind : SendKind) (bytes : List ℕ) → v.origin ≡ answers i p → m.outcome ≡ paged (shows kind) bytes
    → settles (free_rules life limit b) b gone v m ≡ records (reply_by (shows kind) bytes (url_for v)) (extends (extension (free_rules life limit b) b gone v m i p kind)) m.entered
page_shows life limit b gone v m i p kind bytes from e =
    let rules = free_rules life limit b in
    let r = reply_by (shows kind) bytes (url_for v) in
    ap (λ (o : Outcome). stopped rules b gone v m o) e
    ∙ ap (λ o. unless (full rules (shows kind) o (length b.instances)) (with_room rules b r m.entered (change_by (free_rules life limit b) b gone v m o (shows kind)))) from

page_ends : (life limit : ℕ) (b : Book) (gone : List ℕ) (v : Visit) (m : Segment) (i p : ℕ) (bytes : List ℕ) → v.origin ≡ answers i p → m.outcome ≡ paged tape.ends bytes
    → settles (free_rules life limit b) b gone v m ≡ records (Reply.ended bytes) (ends (ending v m i p)) m.entered
page_ends life limit b gone v m i p bytes from e =
    let rules = free_rules life limit b in
    ap (λ (o : Outcome). stopped rules b gone v m o) e
    ∙ ap (λ o. unless (full rules tape.ends o (length b.instances)) (with_room rules b (Reply.ended bytes) m.entered (change_by (free_rules life limit b) b gone v m o tape.ends))) from

page_finishes : (life limit : ℕ) (b : Book) (gone : List ℕ) (v : Visit) (m : Segment) (i p : ℕ) (bytes : List ℕ) → v.origin ≡ answers i p → m.outcome ≡ paged tape.finishes bytes
    → settles (free_rules life limit b) b gone v m ≡ records (Reply.finished bytes) (finishes (finish v m i p)) m.entered
page_finishes life limit b gone v m i p bytes from e =
    let rules = free_rules life limit b in
    ap (λ (o : Outcome). stopped rules b gone v m o) e
    ∙ ap (λ o. unless (full rules tape.finishes o (length b.instances)) (with_room rules b (Reply.finished bytes) m.entered (change_by (free_rules life limit b) b gone v m o tape.finishes))) from

-- a publish of a start of this script
start_decides : (rules : Rules) (b : Book) (t : Ticket) (k : ℕ) (s : Named) → b.down ≡ None → admit b t.target ≡ begins k s
    → publish_comes (without rules) (unfed b) t ≡ settles (without rules) b [] (start_visit b t k s) (comes_to (start_visit b t k s) (present s.script.cells rules.fuel))
start_decides rules b t k s up e = publish_unfed rules b t up ∙ ap (λ (a : Admission). decide (without rules) b t a) e

-- a publish of an answer to this page
page_decides : (rules : Rules) (b : Book) (t : Ticket) (at : Place) → b.down ≡ None → admit b t.target ≡ resumes at
    → publish_comes (without rules) (unfed b) t
    ≡ settles (without rules) b (gone_for rules t at) (page_visit b t at) (comes_to (page_visit b t at) (present at.instance.cells rules.fuel))
page_decides rules b t at up e = publish_unfed rules b t up ∙ ap (λ (a : Admission). decide (without rules) b t a) e

-- ---- admissions

-- a script of a setup in which no name stands twice is admitted under its name
admits_start : (b : Book) (k : ℕ) (s : Named) → AreApart b.scripts → slice_get b.scripts k ≡ Some s → admit b (start s.name) ≡ begins k s
admits_start b k s apart at =
    let named = apart k s at in
    ap (λ (o : Option ℕ). started (o >>= (λ j. slice_get b.scripts j >>= (λ x. Some (j, x))))) named
    ∙ ap (λ (o : Option Named). started (o >>= (λ x. Some (k, x)))) at

-- a page that can be answered stands under these numbers, and is admitted under the name that its URL tells
record IsAnswered (b : Book) (i p : ℕ) : Type 0 where
  at : Place
  there : page_of_numbers b i p ≡ Some at
  instance_is : at.instance.number ≡ i
  page_is : at.page.number ≡ p
  here : instance_at i b.instances ≡ Some at.instance
  admits : admit b (target_at b at) ≡ resumes at

is_answered : (b : Book) (i p : ℕ) → can_be_answered b i p ≡ true → IsAnswered b i p
is_answered b i p h =
    let found = passes_there (λ (at : Place). is_none (why_not b.clock at.instance at.page)) (page_of_numbers b i p) h in
    let at = found.0 in
    let none = none_is (why_not b.clock at.instance at.page) found.1.1 in
    let place = place_is b i p at found.1.0 in
    let its = number_of (λ j. j.number) i b.instances at.instance place.0 in
    let own = number_of (λ q. q.number) p at.instance.pages at.page place.1 in
    let name = at.instance.script.name in
    let n : PageName = record { shelf = b.shelf; instance = at.instance.number; page = at.page.number; nonce = at.page.nonce } in
    let stands : StandsAt b name n at = record {
      here = ap (λ (k : ℕ). instance_at k b.instances) its ∙ place.0;
      shown = ap (λ (k : ℕ). page_at k at.instance.pages) own ∙ place.1;
      fit =
          and_from (b.shelf == b.shelf && bytes_eq name name) (at.page.nonce == at.page.nonce)
          (and_from (b.shelf == b.shelf) (bytes_eq name name) (equal_self b.shelf) ((bytes_eq-Decides name name).1 refl)) (equal_self at.page.nonce);
    } in
    record {
      at = at;
      there = found.1.0;
      instance_is = its;
      page_is = own;
      here = place.0;
      admits = place_resumes b name n at (at_stands b name n at stands) none;
    }

-- ---- each kind of change

start_published : (b : Book) (o : Opening) → b.down ≡ None → AreApart b.scripts → runs_so b (opens o) ≡ true → least_go b (opens o) ≡ true → is_in_time b (opens o) ≡ true
    → (inside : List TxName) × IsPublished b (opens o) inside
start_published b o up apart runs goes timely =
    let found = passes_there (λ s. is_some (again o.kind o.effects o.left (comes_to (opening_visit b o s) (present s.script.cells most_fuel)))) (slice_get b.scripts o.script) runs in
    let s = found.0 in
    let m = comes_to (opening_visit b o s) (present s.script.cells most_fuel) in
    let show = shows_by m m.outcome o.kind o.effects o.left refl found.1.1 in
    let due = due_is b.clock o.deadline timely in
    let above = due.above in
    let near = due.near in
    let life = o.deadline - b.clock in
    let due_at : b.clock + life ≡ o.deadline = omega (arith, above) in
    let none = numbers_mean o.evicted [] goes in (
      m.entered,
      record {
        target = start s.name;
        asked = ap (λ (x : Option Named). x >>= (λ a. Some (start a.name))) found.1.0;
        life = life;
        lives = (omega (arith, above), omega (arith, near));
        limit = 1;
        room = omega arith;
        decided = λ t at told.
            let v = start_visit b t o.script s in
            let q = comes_to v (present s.script.cells most_fuel) in
            let same : q ≡ m = λ i. comes_to (start_visit b (record { target = t.target; answer = t.answer; number = told.0 i; nonce = told.1 i }) o.script s) (present s.script.cells most_fuel) in
            let admits : admit b t.target ≡ begins o.script s = ap (admit b) at ∙ admits_start b o.script s apart found.1.0 in
            let change : opens (opening (free_rules life 1 b) b v m o.script o.kind) ≡ opens o =
            λ i. opens (record { number = told.0 i; nonce = told.1 i; script = o.script; effects = show.did i; left = show.leaves i; kind = o.kind; deadline = due_at i; evicted = sym none i }) in (
              reply_by (shows o.kind) show.bytes (url_for v),
              start_decides (free_rules life 1 b) b t o.script s up admits
                  ∙ (ap (λ (x : Segment). settles (free_rules life 1 b) b [] v x) same
                  ∙ (start_shows life 1 b v m o.script o.kind show.bytes refl show.outcome
                  ∙ ap (λ (c : Change). records (reply_by (shows o.kind) show.bytes (url_for v)) c m.entered) change)),
            );
      },
    )

page_published : (b : Book) (x : Extension) → b.down ≡ None → is_admitted b (extends x) ≡ true → runs_so b (extends x) ≡ true → least_go b (extends x) ≡ true → is_in_time b (extends x) ≡ true
    → (inside : List TxName) × IsPublished b (extends x) inside
page_published b x up admitted runs goes timely =
    let found = is_answered b x.instance x.page admitted in
    let at = found.at in
    let m = comes_to (extension_visit b x at) (present at.instance.cells most_fuel) in
    let runs_at = passes_at (λ y. is_some (again x.kind x.effects x.left (comes_to (extension_visit b x y) (present y.instance.cells most_fuel)))) (page_of_numbers b x.instance x.page) at runs found.there in
    let show = shows_by m m.outcome x.kind x.effects x.left refl runs_at in
    let due = due_is b.clock x.deadline timely in
    let above = due.above in
    let near = due.near in
    let life = x.deadline - b.clock in
    let due_at : b.clock + life ≡ x.deadline = omega (arith, above) in
    let used = at.instance.used in
    let now = used_by x.page x.number used in
    let count = length x.evicted in
    let go_at = passes_at (λ y. are_numbers x.evicted (least_used (length x.evicted) (used_by x.page x.number y.instance.used))) (page_of_numbers b x.instance x.page) at goes found.there in
    let gone_is : x.evicted ≡ least_used count now = numbers_mean x.evicted (least_used count now) go_at in
    let few : count ≤ length now = subst (λ (ns : List ℕ). length ns ≤ length now) (sym gone_is) (few_go count now) in
    let limit = (length now + 1) - count in
    let as_many : too_many limit now ≡ count = omega (arith, few) in (
      m.entered,
      record {
        target = target_at b at;
        asked = ap (λ (o : Option Place). o >>= (λ y. Some (target_at b y))) found.there;
        life = life;
        lives = (omega (arith, above), omega (arith, near));
        limit = limit;
        room = omega (arith, few);
        decided = λ t is told.
            let v = page_visit b t at in
            let q = comes_to v (present at.instance.cells most_fuel) in
            let same : q ≡ m = λ i. comes_to (page_visit b (record { target = t.target; answer = told.0 i; number = told.1 i; nonce = told.2 i }) at) (present at.instance.cells most_fuel) in
            let admits : admit b t.target ≡ resumes at = ap (admit b) is ∙ found.admits in
            let gone : gone_for (free_rules life limit b) t at ≡ x.evicted =
            (λ i. goes_for limit (found.page_is i) (told.1 i) used) ∙ (ap (λ (k : ℕ). least_used k now) as_many ∙ sym gone_is) in
            let change : extends (extension (free_rules life limit b) b x.evicted v m at.instance.number at.page.number x.kind) ≡ extends x =
            λ i. extends (record { number = told.1 i; nonce = told.2 i; instance = found.instance_is i; page = found.page_is i; answer = told.0 i; effects = show.did i; left = show.leaves i; kind = x.kind; deadline = due_at i; evicted = x.evicted }) in
            let r = reply_by (shows x.kind) show.bytes (url_for v) in (
              r,
              page_decides (free_rules life limit b) b t at up admits
                  ∙ (ap (λ (y : Segment). settles (free_rules life limit b) b (gone_for (free_rules life limit b) t at) v y) same
                  ∙ (ap (λ (ns : List ℕ). settles (free_rules life limit b) b ns v m) gone
                  ∙ (page_shows life limit b x.evicted v m at.instance.number at.page.number x.kind show.bytes refl show.outcome
                  ∙ ap (λ (c : Change). records r c m.entered) change))),
            );
      },
    )

-- what a last segment comes to under any nonce
last_same : (b : Book) (at : Place) (number : ℕ) (answer : Val) (t : Ticket) → IsWhole at.instance.script → IsOver (last_segment b number answer at).outcome → t.answer ≡ answer → t.number ≡ number
    → comes_to (page_visit b t at) (present at.instance.cells most_fuel) ≡ last_segment b number answer at
last_same b at number answer t w over is_answer is_number =
    (λ i. comes_to (page_visit b (record { target = t.target; answer = is_answer i; number = is_number i; nonce = t.nonce }) at) (present at.instance.cells most_fuel))
    ∙ hides_url (last_visit b number answer at) t.nonce most_fuel at.instance.cells w over

ending_published : (b : Book) (e : Ending) → b.down ≡ None → HasWholeScripts b → is_admitted b (ends e) ≡ true → runs_so b (ends e) ≡ true
    → (inside : List TxName) × IsPublished b (ends e) inside
ending_published b e up whole admitted runs =
    let found = is_answered b e.instance e.page admitted in
    let at = found.at in
    let m = last_segment b e.number e.answer at in
    let runs_at = passes_at (λ y. ends_so e.effects e.left (last_segment b e.number e.answer y)) (page_of_numbers b e.instance e.page) at runs found.there in
    let two = and_parts (is_last m.outcome) (are_effects m.effects e.effects && are_names m.left e.left) runs_at in
    let more = and_parts (are_effects m.effects e.effects) (are_names m.left e.left) two.1 in
    let last = last_is m.outcome two.0 in
    let did = effects_mean m.effects e.effects more.0 in
    let leaves = names_mean m.left e.left more.1 in
    let over : IsOver m.outcome = subst IsOver (sym last.1) tt in
    let w = whole.instances e.instance at.instance found.here in (
      m.entered,
      record {
        target = target_at b at;
        asked = ap (λ (o : Option Place). o >>= (λ y. Some (target_at b y))) found.there;
        life = 1;
        lives = (omega arith, omega arith);
        limit = 1;
        room = omega arith;
        decided = λ t is told.
            let rules = free_rules 1 1 b in
            let v = page_visit b t at in
            let same = last_same b at e.number e.answer t w over told.0 told.1 in
            let admits : admit b t.target ≡ resumes at = ap (admit b) is ∙ found.admits in
            let change : ends (ending v m at.instance.number at.page.number) ≡ ends e =
            λ i. ends (record { number = told.1 i; instance = found.instance_is i; page = found.page_is i; answer = told.0 i; effects = did i; left = leaves i }) in (
              Reply.ended last.0,
              page_decides rules b t at up admits
                  ∙ (ap (λ (y : Segment). settles rules b (gone_for rules t at) v y) same
                  ∙ (page_ends 1 1 b (gone_for rules t at) v m at.instance.number at.page.number last.0 refl last.1
                  ∙ ap (λ (c : Change). records (Reply.ended last.0) c m.entered) change)),
            );
      },
    )

finish_published : (b : Book) (f : Finish) → b.down ≡ None → HasWholeScripts b → is_admitted b (finishes f) ≡ true → runs_so b (finishes f) ≡ true
    → (inside : List TxName) × IsPublished b (finishes f) inside
finish_published b f up whole admitted runs =
    let found = is_answered b f.instance f.page admitted in
    let at = found.at in
    let m = last_segment b f.number f.answer at in
    let runs_at = passes_at (λ y. finishes_so f.effects (last_segment b f.number f.answer y)) (page_of_numbers b f.instance f.page) at runs found.there in
    let two = and_parts (is_finish m.outcome) (are_effects m.effects f.effects) runs_at in
    let last = finish_is m.outcome two.0 in
    let did = effects_mean m.effects f.effects two.1 in
    let over : IsOver m.outcome = subst IsOver (sym last.1) tt in
    let w = whole.instances f.instance at.instance found.here in (
      m.entered,
      record {
        target = target_at b at;
        asked = ap (λ (o : Option Place). o >>= (λ y. Some (target_at b y))) found.there;
        life = 1;
        lives = (omega arith, omega arith);
        limit = 1;
        room = omega arith;
        decided = λ t is told.
            let rules = free_rules 1 1 b in
            let v = page_visit b t at in
            let same = last_same b at f.number f.answer t w over told.0 told.1 in
            let admits : admit b t.target ≡ resumes at = ap (admit b) is ∙ found.admits in
            let change : finishes (finish v m at.instance.number at.page.number) ≡ finishes f =
            λ i. finishes (record { number = told.1 i; instance = found.instance_is i; page = found.page_is i; answer = told.0 i; effects = did i }) in (
              Reply.finished last.0,
              page_decides rules b t at up admits
                  ∙ (ap (λ (y : Segment). settles rules b (gone_for rules t at) v y) same
                  ∙ (page_finishes 1 1 b (gone_for rules t at) v m at.instance.number at.page.number last.0 refl last.1
                  ∙ ap (λ (c : Change). records (Reply.finished last.0) c m.entered) change)),
            );
      },
    )

-- a change that passes the tests was decided
pub decided_by : (b : Book) (c : Change) → b.down ≡ None → HasWholeScripts b → AreApart b.scripts → goes_on b c ≡ true → is_admitted b c ≡ true → runs_so b c ≡ true → least_go b c ≡ true
    → is_in_time b c ≡ true → (inside : List TxName) × IsDecided b c inside
decided_by b (opens o) up whole apart goes admitted runs least timely = start_published b o up apart runs least timely
decided_by b (extends x) up whole apart goes admitted runs least timely = page_published b x up admitted runs least timely
decided_by b (ends e) up whole apart goes admitted runs least timely = ending_published b e up whole admitted runs
decided_by b (finishes f) up whole apart goes admitted runs least timely = finish_published b f up whole admitted runs
decided_by b (sweeps tick) up whole apart goes admitted runs least timely = ([], grind (arith, nat_tests, goes))
