-- A page that is shown is admitted.
use Rattle.std.proofs.Common.{◌≡◌, ◌≤◌, ◌<◌, ◌+◌, ◌==◌, ◌++◌, ℕ, List, [], length, Option, Some, None, true, false, refl, sym, ap, subst, ◌∙◌, inl, slice_get, arith}
use Rattle.std.specs.Prelude.{◌&&◌, ⊤}
use Rattle.std.specs.Str.{bytes_eq}
use Rattle.std.proofs.lemmas.Bool.Decides.{nat_tests}
use Rattle.std.proofs.lemmas.Bool.{and_from}
use Rattle.std.proofs.lemmas.Slice.Eq.{bytes_eq-Decides}
use Rattle.script_value.specs.declared.outcome.TxName.{TxName}
use Rattle.script_nodes.specs.PageNames.declared.names.PageName.{PageName}
use Rattle.script_nodes.specs.Setup.{Named}
use Rattle.script_nodes.specs.declared.script.SendKind.{SendKind}
use Rattle.replay_spec.specs.Names.{first_closed}
use Rattle.replay_spec.specs.Tape.{present, shows, Outcome, paged, Now}
use Rattle.replay_spec.specs.Tape as tape
use Rattle.replay_spec.specs.Eval.{Segment}
use Rattle.replay_spec.specs.Book.{Page, Instance, Opening, Extension, Change, opens, extends, ends, finishes, Book, instance_at, page_at, is_expired, evictor, spend, root_by, page_by}
use Rattle.replay_spec.specs.Rules.{Rules}
use Rattle.replay_spec.specs.Change.{put_instance, evict, shown_by, fresh, opened_by, land}
use Rattle.replay_spec.specs.Admission.{or_else, is_one, Place, why_not, Admission, begins, resumes, refused, admit}
use Rattle.replay_spec.specs.Next.{Ticket, starts, Visit, url_for, comes_to, start_visit, page_visit}
use Rattle.replay_spec.specs.Step.{publish, Reply, shown, Decision, records, gone_for, unless, barred, too_long, full_journal, with_room, opening, extension, ending, finish, reply_by, full, stopped, decide, publish_comes, step}
use Rattle.replay_spec.specs.Invariant.{Unused, IsOrderly, IsSound}
use Rattle.replay_spec.specs.Laws.{IsLawful, NamesDiffer, Lands, Spares}
use Rattle.replay_spec.specs.Promises.{IsAdmitted, AShownPageIsAdmitted}
use Rattle.replay_spec.proofs.Names.{none_open}
use Rattle.replay_spec.proofs.Numbered.{put_found}
use Rattle.replay_spec.proofs.Found.{mend_found}
use Rattle.replay_spec.proofs.Stand.{among_of}
use Rattle.replay_spec.proofs.Landed.{none_newly}
use Rattle.replay_spec.proofs.Admitted.{fits, at_stands, place_resumes, Says, says, Stands}
use Rattle.replay_spec.proofs.Orderly.{stands_there}
use Rattle.replay_spec.proofs.Follows.{left_of, follow}
use Rattle.replay_spec.proofs.Names.{has_none}
use Rattle.replay_spec.specs.Next.{newest}
use Rattle.replay_spec.proofs.Refused.{unchanged}
use Rattle.replay_spec.proofs.Goers.{goers_there}
use Rattle.replay_spec.proofs.Kept.{unused_stays}
use Rattle.replay_spec.proofs.Differ.{shown_open}

-- what a visit that showed a page changed, by its admission
abbrev ShowsBy : Rules → Book → Ticket → Admission → (url : List ℕ) → Change → (inside : List TxName) → Type 0
ShowsBy rules b t (begins k s) url c inside =
    let v = start_visit b t k s in
    let m = comes_to v (present s.script.cells rules.fuel) in
    (kind : SendKind) × ((url ≡ url_for v) × ((c ≡ opens (opening rules b v m k kind)) × (inside ≡ m.entered)))
ShowsBy rules b t (resumes at) url c inside =
    let v = page_visit b t at in
    let m = comes_to v (present at.instance.cells rules.fuel) in
    (kind : SendKind) × ((url ≡ url_for v) × ((c ≡ extends (extension rules b (gone_for rules t at) v m at.instance.number at.page.number kind)) × (inside ≡ m.entered)))
ShowsBy rules b t (refused r) url c inside = ⊥

-- what a decision that shows a page says, where it is this
abbrev IsShowing : ((url : List ℕ) → Change → (inside : List TxName) → Type 0) → Decision → Type 0
IsShowing P (records (shown bytes url) c inside) = P url c inside
IsShowing P d = ⊤

unless_showing : (P : (url : List ℕ) → Change → (inside : List TxName) → Type 0) (o : Option Reply) (d : Decision) → IsShowing P d → IsShowing P (unless o d)
unless_showing P None d h = h
unless_showing P (Some r) d h = tt

room_showing : (P : (url : List ℕ) → Change → (inside : List TxName) → Type 0) (rules : Rules) (b : Book) (r : Reply) (inside : List TxName) (c : Change)
    → IsShowing P (records r c inside) → IsShowing P (with_room rules b r inside (Some c))
room_showing P rules b r inside c h = unless_showing P (or_else (too_long rules.journal b c) (full_journal rules.journal b c)) (records r c inside) h

start_showing : (rules : Rules) (b : Book) (t : Ticket) (k : ℕ) (s : Named) (o : Outcome)
    → let v = start_visit b t k s in
    let m = comes_to v (present s.script.cells rules.fuel) in
    IsShowing (ShowsBy rules b t (begins k s)) (stopped rules b [] v m o)
start_showing rules b t k s (paged (shows kind) bytes) =
    let v = start_visit b t k s in
    let m = comes_to v (present s.script.cells rules.fuel) in
    let c = opens (opening rules b v m k kind) in
    let r = reply_by (shows kind) bytes (url_for v) in
    let P = ShowsBy rules b t (begins k s) in
    unless_showing P (full rules (shows kind) (starts k) (length b.instances)) (with_room rules b r m.entered (Some c))
    (room_showing P rules b r m.entered c (kind, (refl, (refl, refl))))
start_showing rules b t k s (paged tape.finishes bytes) = tt
start_showing rules b t k s (paged tape.ends bytes) = tt
start_showing rules b t k s (tape.faulted f) = tt
start_showing rules b t k s (tape.out_of_fuel cost) = tt

page_showing : (rules : Rules) (b : Book) (t : Ticket) (at : Place) (o : Outcome)
    → let v = page_visit b t at in
    let m = comes_to v (present at.instance.cells rules.fuel) in
    IsShowing (ShowsBy rules b t (resumes at)) (stopped rules b (gone_for rules t at) v m o)
page_showing rules b t at (paged (shows kind) bytes) =
    let v = page_visit b t at in
    let m = comes_to v (present at.instance.cells rules.fuel) in
    let c = extends (extension rules b (gone_for rules t at) v m at.instance.number at.page.number kind) in
    let r = reply_by (shows kind) bytes (url_for v) in
    let P = ShowsBy rules b t (resumes at) in
    unless_showing P (full rules (shows kind) v.origin (length b.instances)) (with_room rules b r m.entered (Some c))
    (room_showing P rules b r m.entered c (kind, (refl, (refl, refl))))
page_showing rules b t at (paged tape.finishes bytes) =
    let v = page_visit b t at in
    let m = comes_to v (present at.instance.cells rules.fuel) in
    room_showing (ShowsBy rules b t (resumes at)) rules b (Reply.finished bytes) m.entered (finishes (finish v m at.instance.number at.page.number)) tt
page_showing rules b t at (paged tape.ends bytes) =
    let v = page_visit b t at in
    let m = comes_to v (present at.instance.cells rules.fuel) in
    room_showing (ShowsBy rules b t (resumes at)) rules b (Reply.ended bytes) m.entered (ends (ending v m at.instance.number at.page.number)) tt
page_showing rules b t at (tape.faulted f) = tt
page_showing rules b t at (tape.out_of_fuel cost) = tt

decided_showing : (rules : Rules) (b : Book) (t : Ticket) (a : Admission) → IsShowing (ShowsBy rules b t a) (decide rules b t a)
decided_showing rules b t (begins k s) = start_showing rules b t k s (comes_to (start_visit b t k s) (present s.script.cells rules.fuel)).outcome
decided_showing rules b t (resumes at) = page_showing rules b t at (comes_to (page_visit b t at) (present at.instance.cells rules.fuel)).outcome
decided_showing rules b t (refused r) = tt

-- nothing is against a page that is not revoked, inside open transactions alone, and of a deadline above the clock
nothing_against : (clock : ℕ) (i : Instance) (p : Page) → is_one p.number i.revoked ≡ false → first_closed i.closed p.inside ≡ None → evictor p.number i.evicted ≡ None → clock < p.deadline → why_not clock i p ≡ None
nothing_against clock i p revoked open_names stays later =
    let expired : is_expired clock p ≡ false = grind (arith, nat_tests, later) in rw (revoked, open_names, stays, expired) refl

names_fit : (b : Book) (at : Place) (n : PageName) → n.shelf ≡ b.shelf → at.page.nonce ≡ n.nonce → fits b at.instance.script.name n at ≡ true
names_fit b at n shelf nonce =
    let name = at.instance.script.name in
    and_from (n.shelf == b.shelf && bytes_eq name name) (at.page.nonce == n.nonce)
    (and_from (n.shelf == b.shelf) (bytes_eq name name) (grind (arith, nat_tests, shelf)) ((bytes_eq-Decides name name).1 refl))
    (grind (arith, nat_tests, nonce))

-- the page of a ticket stands in the book under these numbers, and nothing is against it
admitted : (d : Book) (t : Ticket) (i : Instance) (p : Page) (url : List ℕ) → instance_at i.number d.instances ≡ Some i → page_at t.number i.pages ≡ Some p
    → p.number ≡ t.number → p.nonce ≡ t.nonce
    → url ≡ url_for (record { script = i.script; shelf = d.shelf; instance = i.number; origin = starts 0; pages = []; ticket = t })
    → is_one p.number i.revoked ≡ false → first_closed i.closed p.inside ≡ None → evictor p.number i.evicted ≡ None → d.clock < p.deadline → IsAdmitted d url t
admitted d t i p url here there number nonce spelt revoked open_names stays later =
    let n : PageName = record { shelf = d.shelf; instance = i.number; page = t.number; nonce = t.nonce } in
    let at : Place = record { instance = i; page = p } in
    record {
      name = i.script.name;
      numbers = n;
      at = at;
      spelt = spelt;
      admitted = place_resumes d i.script.name n at (at_stands d i.script.name n at (record { here = here; shown = there; fit = names_fit d at n refl nonce })) (nothing_against d.clock i p revoked open_names stays later);
      number = number;
      nonce = nonce;
    }

-- a start's page
started : (rules : Rules) (b : Book) (t : Ticket) (k : ℕ) (s : Named) (url : List ℕ) (kind : SendKind) → 1 ≤ rules.life → slice_get b.scripts k ≡ Some s
    → url ≡ url_for (start_visit b t k s)
    → let v = start_visit b t k s in
    let m = comes_to v (present s.script.cells rules.fuel) in
    IsAdmitted (land rules (opens (opening rules b v m k kind)) m.entered (spend t.number b)) url t
started rules b t k s url kind lives at spelt =
    admitted d t i p url (ap (λ (js : List Instance). instance_at t.number js) there ∙ put_found (λ (x : Instance). x.number) i b.instances) (put_found (λ (q : Page). q.number) p []) refl refl spelt
    (none_newly kind t.number [] [] refl refl)
    (none_open m.left m.entered (λ x own left. has_none x (left_of [] now m ((follow s.script).0 now) x left))) refl (omega (arith, lives))
  where
    v : Visit
    v = start_visit b t k s

    m : Segment
    m = comes_to v (present s.script.cells rules.fuel)

    now : Now
    now = (newest v (present s.script.cells rules.fuel)).segment

    o : Opening
    o = opening rules b v m k kind

    d : Book
    d = land rules (opens o) m.entered (spend t.number b)

    p : Page
    p = root_by o m.entered

    i : Instance
    i = shown_by o.effects o.left o.kind [] p (fresh s t.number)

    there : d.instances ≡ put_instance i b.instances
    there = ap (λ (x : Option Named). opened_by x o m.entered b.instances) at

-- an answer's page
extended : (rules : Rules) (b : Book) (t : Ticket) (at : Place) (url : List ℕ) (kind : SendKind) → 1 ≤ rules.life → IsOrderly b → Stands b at → Unused b t.number
    → first_closed (at.instance.closed ++ (comes_to (page_visit b t at) (present at.instance.cells rules.fuel)).left) (comes_to (page_visit b t at) (present at.instance.cells rules.fuel)).entered ≡ None
    → url ≡ url_for (page_visit b t at)
    → let v = page_visit b t at in
    let m = comes_to v (present at.instance.cells rules.fuel) in
    IsAdmitted (land rules (extends (extension rules b (gone_for rules t at) v m at.instance.number at.page.number kind)) m.entered (spend t.number b)) url t
extended rules b t at url kind lives g h unused open_names spelt =
    admitted d t i p url (mend_found at.instance.number f b.instances at.instance (λ j. refl) here) (put_found (λ (q : Page). q.number) p at.instance.pages) refl refl spelt
    (none_newly kind t.number at.instance.pages at.instance.revoked (g.instances.no_page t.number unused at.instance.number at.instance here) (g.instances.none_revoked t.number unused at.instance.number at.instance here))
    open_names not_evicted (omega (arith, lives))
  where
    v : Visit
    v = page_visit b t at

    m : Segment
    m = comes_to v (present at.instance.cells rules.fuel)

    x : Extension
    x = extension rules b (gone_for rules t at) v m at.instance.number at.page.number kind

    d : Book
    d = land rules (extends x) m.entered (spend t.number b)

    p : Page
    p = page_by x m.entered

    f : Instance → Instance
    f = shown_by x.effects x.left x.kind x.evicted p

    i : Instance
    i = f at.instance

    here : instance_at at.instance.number b.instances ≡ Some at.instance
    here = (stands_there b at h).0

    not_evicted : evictor t.number (evict t.number (gone_for rules t at) at.instance.evicted) ≡ None
    not_evicted = unused_stays t.number at.instance (gone_for rules t at) (g.instances.kept at.instance.number at.instance here)
        (g.instances.no_page t.number unused at.instance.number at.instance here)
        (λ n gone none. let q = goers_there rules.pages at.page.number t.number at.instance n (g.instances.kept at.instance.number at.instance here) gone in let some = q.1 in let no : ⊥ = cc in no)

-- by the admission of the ticket
by_admission : (rules : Rules) (b : Book) (t : Ticket) (a : Admission) (url : List ℕ) (c : Change) (inside : List TxName) → 1 ≤ rules.life → IsSound b → NamesDiffer b → IsLawful (publish t) b
    → admit b t.target ≡ a → Says b a → ShowsBy rules b t a url c inside → IsAdmitted (land rules c inside (spend t.number b)) url t
by_admission rules b t (begins k s) url c inside lives g differ out e says (kind, (spelt, (is, names))) =
    let m = comes_to (start_visit b t k s) (present s.script.cells rules.fuel) in
    subst (λ (x : Change). IsAdmitted (land rules x inside (spend t.number b)) url t) (sym is)
    (subst (λ (x : List TxName). IsAdmitted (land rules (opens (opening rules b (start_visit b t k s) m k kind)) x (spend t.number b)) url t) (sym names)
    (started rules b t k s url kind lives says spelt))
by_admission rules b t (resumes at) url c inside lives g differ out e says (kind, (spelt, (is, names))) =
    let v = page_visit b t at in
    let m = comes_to v (present at.instance.cells rules.fuel) in
    subst (λ (x : Change). IsAdmitted (land rules x inside (spend t.number b)) url t) (sym is)
    (subst (λ (x : List TxName). IsAdmitted (land rules (extends (extension rules b (gone_for rules t at) v m at.instance.number at.page.number kind)) x (spend t.number b)) url t) (sym names)
    (extended rules b t at url kind lives g.orderly says (inl (among_of b.out t.number out)) (shown_open rules b t at g differ out e) spelt))
by_admission rules b t (refused r) url c inside lives g differ out e says h = absurd h

pub shown_admitted : AShownPageIsAdmitted
shown_admitted rules b nonce t fate less lives g differ out bytes url e =
    let d = publish_comes rules b t in
    let r = step rules b nonce (publish t) fate in
    let lands : Lands rules (spend t.number b) d (shown bytes url) r.1 = subst (λ (x : Reply). Spares rules (spend t.number b) d x r.1) e ((unchanged rules b nonce fate).1 t) in
    let a = admit b t.target in
    let showing = unless_showing (ShowsBy rules b t a) (barred b) (decide rules b t a) (decided_showing rules b t a) in
    let by : ShowsBy rules b t a url lands.change lands.inside = subst (IsShowing (ShowsBy rules b t a)) lands.decided showing in
    subst (λ (x : Book). IsAdmitted x url t) (sym lands.landed)
    (by_admission rules b t a url lands.change lands.inside lives g differ out refl (says b t.target) by)
