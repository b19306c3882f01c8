-- The record of an event is none that is passed over, and makes the book after it, on any orderly book.
use Rattle.std.proofs.Common.{◌≡◌, ℕ, ◌+◌, ◌==◌, ◌<◌, List, [], ◌∷◌, ◌++◌, Option, Some, None, Bool, not, filter, length, false, refl, sym, ap, subst, ◌∙◌, inl, ⊎_elim, slice_get, arith}
use Rattle.std.specs.Prelude.{nat_lt, if◌then◌else◌, ⊤}
use Rattle.std.proofs.lemmas.Bool.Decides.{nat_tests}
use Rattle.script_value.specs.declared.outcome.TxName.{TxName}
use Rattle.instance_cells.specs.Cells.{reads_of}
use Rattle.script_nodes.specs.Setup.{Named}
use Rattle.replay_spec.specs.Tape.{recorded, present, shows, finishes, ends, Outcome, paged}
use Rattle.replay_spec.specs.Tape as tape
use Rattle.replay_spec.specs.Book.{Change, sweeps, Work, landing, compacting, Doubt, changed, Book, spend, reopened}
use Rattle.replay_spec.specs.Book as spec
use Rattle.replay_spec.specs.Rules.{Journal, Rules}
use Rattle.replay_spec.specs.Change.{record_length, with_line, land}
use Rattle.replay_spec.specs.Compaction.{rewritten, setup_for, going_on_with, reopened_with}
use Rattle.replay_spec.specs.Admission.{◌>>=◌, or_else, Place, Admission, begins, resumes, refused, admit}
use Rattle.replay_spec.specs.Next.{Ticket, starts, url_for, tape_for, comes_to, start_visit, page_visit}
use Rattle.replay_spec.specs.Step.{Reply, Decision, replies, records, compacts, unless, too_long, full_journal, with_room, opening, extension, ending, finish, reply_by, full, stopped, gone_for, decide}
use Rattle.replay_spec.specs.Recovery.{if_can_go, of_length, number_in, with_number}
use Rattle.replay_spec.specs.Invariant.{Among, IsOf, Unused, IsOrderly}
use Rattle.replay_spec.specs.Remade.{AreUsed}
use Rattle.replay_spec.proofs.Admitted.{Stands, Says, says}
use Rattle.replay_spec.proofs.Going.{Records, Goes, stays, draws, spends, publishes, fails, goes_to, fails_at, rewrites, fails_to_rewrite, keeps, keeps_rewritten, loses}
use Rattle.replay_spec.proofs.Orderly.{stands_there, recorded_orderly, is_same, is_doubted}
use Rattle.replay_spec.proofs.Numbers.{Uses}
use Rattle.replay_spec.proofs.Again.{passes, place_there}
use Rattle.replay_spec.proofs.Goers.{goers_go}
use Rattle.replay_spec.proofs.Compacted.{not_repeated}
use Rattle.replay_spec.proofs.Barred.{some_setup}
use Rattle.replay_spec.proofs.Reopened.{reopened_same}
use Rattle.journal_records.specs.Records as records
use Rattle.journal_records.specs.Records.{body_of, changes}
use Rattle.journal_spec.specs.Before.{Earlier, made_of, before_told}
use Rattle.journal_spec.specs.Retaking.{Told, unread, misread, told, told_in, if_held, held, landing as lands_in, states_with}
use Rattle.journal_spec.specs.Lengths.{state_over, own_before, state_told, told_own, own_told, own_body, journal_rules}
use Rattle.journal_spec.specs.Whole.{IsWhole, HasWholeScripts}
use Rattle.journal_spec.specs.Keeping.{IsTakenAs, IsTakenWork, IsTakenDoubt, AreOver, IsMeasured, IsOwnWork, IsOwnDoubt}
use Rattle.journal_spec.proofs.Brief.{moved_state, moved_told, short_measured, recorded_short}
use Rattle.journal_spec.proofs.Owned.{visit_state}
use Rattle.journal_spec.proofs.Remaking.{visit_held}
use Rattle.journal_spec.proofs.Fitting.{no_doubt}
use Rattle.journal_spec.proofs.Appending.{IsAppended, Appends}

-- ---- what a decision records would be taken, with the state that its script leaves

abbrev IsTakenDecision : Book → Decision → Type 0
IsTakenDecision b (replies r) = ⊤
IsTakenDecision b (compacts r) = ⊤
IsTakenDecision b (records r c inside) = IsTakenAs b c inside (own_told b c)

unless_taken : (b : Book) (o : Option Reply) (d : Decision) → IsTakenDecision b d → IsTakenDecision b (unless o d)
unless_taken b None d h = h
unless_taken b (Some r) d h = tt

room_taken : (rules : Rules) (b : Book) (r : Reply) (inside : List TxName) (c : Change) → IsTakenAs b c inside (own_told b c) → IsTakenDecision b (with_room rules b r inside (Some c))
room_taken rules b r inside c h = unless_taken b (or_else (too_long rules.journal b c) (full_journal rules.journal b c)) (records r c inside) h

start_taken : (rules : Rules) (b : Book) (t : Ticket) (k : ℕ) (s : Named) (outcome : Outcome) → IsWhole s → slice_get b.scripts k ≡ Some s
    → let v = start_visit b t k s in
    let m = comes_to v (present s.script.cells rules.fuel) in
    m.outcome ≡ outcome → IsTakenDecision b (stopped rules b [] v m outcome)
start_taken rules b t k s (paged (shows kind) bytes) w at e =
    let v = start_visit b t k s in
    let m = comes_to v (present s.script.cells rules.fuel) in
    let c = spec.opens (opening rules b v m k kind) in
    let r = reply_by (shows kind) bytes (url_for v) in
    let x = visit_state v rules.fuel s.script.cells kind bytes w e in
    let own : own_told b c ≡ told x.0 =
    ap told_own (ap (λ (o : Option Named). o >>= (λ a. state_over a.script (tape_for (start_visit b t k a) (recorded (reads_of m.effects))))) at ∙ x.1.0) in
    let can : held b c m.entered ≡ Some m.entered =
    ap (λ (o : Option Named). o >>= (λ a. if_can_go [] [] (if_held m.effects a.script.cells m.entered))) at ∙ visit_held v rules.fuel s.script.cells m.entered w refl in
    unless_taken b (full rules (shows kind) (starts k) (length b.instances)) (with_room rules b r m.entered (Some c))
    (room_taken rules b r m.entered c (subst (IsTakenAs b c m.entered) (sym own) (can, x.1.1)))
start_taken rules b t k s (paged finishes bytes) w at e = tt
start_taken rules b t k s (paged ends bytes) w at e = tt
start_taken rules b t k s (tape.faulted f) w at e = tt
start_taken rules b t k s (tape.out_of_fuel cost) w at e = tt

page_taken : (rules : Rules) (b : Book) (t : Ticket) (at : Place) (outcome : Outcome) → IsOrderly b → IsWhole at.instance.script → Stands b at
    → let v = page_visit b t at in
    let m = comes_to v (present at.instance.cells rules.fuel) in
    m.outcome ≡ outcome → IsTakenDecision b (stopped rules b (gone_for rules t at) v m outcome)
page_taken rules b t at (paged (shows kind) bytes) g w h e =
    let v = page_visit b t at in
    let m = comes_to v (present at.instance.cells rules.fuel) in
    let c = spec.extends (extension rules b (gone_for rules t at) v m at.instance.number at.page.number kind) in
    let r = reply_by (shows kind) bytes (url_for v) in
    let x = visit_state v rules.fuel at.instance.cells kind bytes w e in
    let own : own_told b c ≡ told x.0 =
    ap told_own (ap (λ (o : Option Place). o >>= (λ y. state_over y.instance.script.script (tape_for (page_visit b t y) (recorded (reads_of m.effects))))) (place_there b at h) ∙ x.1.0) in
    let sized = g.instances.sized at.instance.number at.instance (stands_there b at h).0 in
    let can : held b c m.entered ≡ Some m.entered =
    ap (λ (o : Option Place). o >>= (λ y. if_can_go (gone_for rules t at) y.instance.used (if_held m.effects y.instance.cells m.entered))) (place_there b at h)
    ∙ (ap (λ (can : Bool). if can then if_held m.effects at.instance.cells m.entered else None) (goers_go rules.pages at.page.number t.number at.instance.used) ∙ visit_held v rules.fuel at.instance.cells m.entered w sized) in
    unless_taken b (full rules (shows kind) v.origin (length b.instances)) (with_room rules b r m.entered (Some c))
    (room_taken rules b r m.entered c (subst (IsTakenAs b c m.entered) (sym own) (can, x.1.1)))
page_taken rules b t at (paged finishes bytes) g w h e =
    let v = page_visit b t at in
    let m = comes_to v (present at.instance.cells rules.fuel) in
    let c = spec.finishes (finish v m at.instance.number at.page.number) in
    let sized = g.instances.sized at.instance.number at.instance (stands_there b at h).0 in
    let can : held b c [] ≡ Some [] =
    ap (λ (o : Option Place). o >>= (λ y. if_held m.effects y.instance.cells [])) (place_there b at h) ∙ visit_held v rules.fuel at.instance.cells [] w sized in
    room_taken rules b (Reply.finished bytes) m.entered c (can, refl)
page_taken rules b t at (paged ends bytes) g w h e =
    let v = page_visit b t at in
    let m = comes_to v (present at.instance.cells rules.fuel) in
    let c = spec.ends (ending v m at.instance.number at.page.number) in
    let sized = g.instances.sized at.instance.number at.instance (stands_there b at h).0 in
    let can : held b c [] ≡ Some [] =
    ap (λ (o : Option Place). o >>= (λ y. if_held m.effects y.instance.cells [])) (place_there b at h) ∙ visit_held v rules.fuel at.instance.cells [] w sized in
    room_taken rules b (Reply.ended bytes) m.entered c (can, refl)
page_taken rules b t at (tape.faulted f) g w h e = tt
page_taken rules b t at (tape.out_of_fuel cost) g w h e = tt

admitted_taken : (rules : Rules) (b : Book) (t : Ticket) (a : Admission) → IsOrderly b → HasWholeScripts b → Says b a → IsTakenDecision b (decide rules b t a)
admitted_taken rules b t (begins k s) g whole h =
    start_taken rules b t k s (comes_to (start_visit b t k s) (present s.script.cells rules.fuel)).outcome (whole.setup k s h) h refl
admitted_taken rules b t (resumes at) g whole h =
    page_taken rules b t at (comes_to (page_visit b t at) (present at.instance.cells rules.fuel)).outcome g
    (whole.instances at.instance.number at.instance (stands_there b at h).0) h refl
admitted_taken rules b t (refused r) g whole h = tt

pub recorded_taken : {lawful : Type 0} (rules : Rules) (b : Book) (t : Ticket) (c : Change) (inside : List TxName) → IsOrderly b → HasWholeScripts b
    → Records lawful rules b t c inside → IsTakenAs b c inside (own_told b c)
recorded_taken rules b t c inside g whole h = subst (IsTakenDecision b) h.decided (admitted_taken rules b t (admit b t.target) g whole (says b t.target))

swept_taken : (b : Book) (tick : ℕ) → b.clock < tick → IsTakenAs b (sweeps tick) [] unread
swept_taken b tick later = (passes (nat_lt b.clock tick) [] (grind (arith, nat_tests, later)), refl)

-- ---- a record needs no more of a book than its shelf, setup, clock and instances

pub moved_held : (b : Book) (drawn : ℕ) (out : List ℕ) (down : Option Doubt) (c : Change) (inside : List TxName)
    → held (record b { drawn = drawn; out = out; down = down }) c inside ≡ held b c inside
moved_held b drawn out down (spec.opens o) inside = refl
moved_held b drawn out down (spec.extends x) inside = refl
moved_held b drawn out down (spec.ends e) inside = refl
moved_held b drawn out down (spec.finishes f) inside = refl
moved_held b drawn out down (sweeps tick) inside = refl

pub moved_in : (earlier : Earlier) (b : Book) (drawn : ℕ) (out : List ℕ) (down : Option Doubt) (c : Change) (state : Option (List ℕ))
    → told_in earlier (record b { drawn = drawn; out = out; down = down }) c state ≡ told_in earlier b c state
moved_in earlier b drawn out down (spec.opens o) state = refl
moved_in earlier b drawn out down (spec.extends x) state = refl
moved_in earlier b drawn out down (spec.ends e) state = refl
moved_in earlier b drawn out down (spec.finishes f) state = refl
moved_in earlier b drawn out down (sweeps tick) state = refl

pub moved_before : (earlier : Earlier) (b : Book) (drawn : ℕ) (out : List ℕ) (down : Option Doubt) (c : Change) → before_told earlier b c ≡ own_before b c
    → let d = record b { drawn = drawn; out = out; down = down } in before_told earlier d c ≡ own_before d c
moved_before earlier b drawn out down (spec.opens o) h = h
moved_before earlier b drawn out down (spec.extends x) h = h
moved_before earlier b drawn out down (spec.ends e) h = h
moved_before earlier b drawn out down (spec.finishes f) h = h
moved_before earlier b drawn out down (sweeps tick) h = h

moved_taken : (b : Book) (drawn : ℕ) (out : List ℕ) (down : Option Doubt) (c : Change) (inside : List TxName) (x : Told) → IsTakenAs b c inside x
    → IsTakenAs (record b { drawn = drawn; out = out; down = down }) c inside x
moved_taken b drawn out down c inside unread h = (moved_held b drawn out down c [] ∙ h.0, h.1)
moved_taken b drawn out down c inside misread h = h
moved_taken b drawn out down c inside (told d) h = (moved_held b drawn out down c inside ∙ h.0, h.1)

moved_doubt : (b : Book) (drawn : ℕ) (out : List ℕ) (down o : Option Doubt) (x : Told) → IsTakenDoubt b o x → IsTakenDoubt (record b { drawn = drawn; out = out; down = down }) o x
moved_doubt b drawn out down None x h = tt
moved_doubt b drawn out down (Some doubt) x h = by_work doubt.work h
  where
    by_work : (w : Work) → IsTakenWork b w x → IsTakenWork (record b { drawn = drawn; out = out; down = down }) w x
    by_work (landing c inside) h = moved_taken b drawn out down c inside x h
    by_work compacting h = absurd h

moved_measured : (b : Book) (drawn : ℕ) (out : List ℕ) (down : Option Doubt) (c : Change) → IsMeasured b c → IsMeasured (record b { drawn = drawn; out = out; down = down }) c
moved_measured b drawn out down c h =
    let P : Option (List ℕ) → Type 0 = λ s. records.record_length c s ≡ length (body_of (changes c s)) in
    subst P (sym (moved_told b drawn out down c)) h

moved_own : (b : Book) (drawn : ℕ) (out : List ℕ) (down o : Option Doubt) (x : Told) → IsOwnDoubt b o x → IsOwnDoubt (record b { drawn = drawn; out = out; down = down }) o x
moved_own b drawn out down None x h = tt
moved_own b drawn out down (Some doubt) x h = by_work doubt.work h
  where
    by_work : (w : Work) → IsOwnWork b w x → IsOwnWork (record b { drawn = drawn; out = out; down = down }) w x
    by_work (landing c inside) h = (h.0 ∙ ap told_own (sym (moved_state b drawn out down c)), moved_measured b drawn out down c h.1, h.2)
    by_work compacting h = absurd h

-- ---- numbers that were seen

-- the number of a change is none of these
abbrev pub IsNew : List ℕ → Change → Type 0
IsNew seen c = (m : ℕ) → IsOf m c → Among m seen → ⊥

pub there : (b : Book) (earlier : Earlier) (c : Change) (names : List TxName) → held b c names ≡ Some names → IsNew earlier.seen c → lands_in (made_of b earlier) c names ≡ Some names
there b earlier c names can new =
    ap (λ (is_old : Bool). if is_old then None else held (reopened b) c names) (not_repeated c earlier.seen new) ∙ (moved_held b b.logged [] None c names ∙ can)

-- and what is told then, with the state that its script left
abbrev pub told_after : Book → Option Change → Earlier → Earlier
told_after b None earlier = earlier
told_after b (Some c) earlier =
    record { seen = with_number (number_in c) earlier.seen; states = states_with (Some []) (number_in c) (own_told b c) earlier.states }

-- ---- numbers that were used go on to be

number_used : (b d : Book) (c : Change) (seen : List ℕ) → Uses b (Some c) d → AreUsed seen d → AreUsed (with_number (number_in c) seen) d
number_used b d (spec.opens o) seen u h n there x = ⊎_elim (λ e. (u n e).1 x) (λ old. h n old x) there
number_used b d (spec.extends o) seen u h n there x = ⊎_elim (λ e. (u n e).1 x) (λ old. h n old x) there
number_used b d (spec.ends o) seen u h n there x = ⊎_elim (λ e. (u n e).1 x) (λ old. h n old x) there
number_used b d (spec.finishes f) seen u h n there x = ⊎_elim (λ e. (u n e).1 x) (λ old. h n old x) there
number_used b d (sweeps tick) seen u h n there x = h n there x

pub used_then : (b d : Book) (o : Option Change) (earlier : Earlier) → Uses b o d → ((n : ℕ) → Unused d n → Unused b n) → AreUsed earlier.seen b → AreUsed (told_after b o earlier).seen d
used_then b d None earlier u fewer h = λ n there x. h n there (fewer n x)
used_then b d (Some c) earlier u fewer h = number_used b d c earlier.seen u (λ n there x. h n there (fewer n x))

-- ---- what an event lands

-- the record of a change is as long as its body, where that measures it
own_length : (shelf : ℕ) (b : Book) (c : Change) → IsMeasured b c → record_length (journal_rules shelf) b c ≡ length (own_body b c)
own_length shelf b c h = ap (λ (s : Option (List ℕ)). records.record_length c s) (moved_told b b.logged [] None c) ∙ h

-- two lands of a change whose records are as long
pub land_long : (rules : Rules) (shelf n : ℕ) (b : Book) (c : Change) (inside : List TxName) → AreOver rules shelf → record_length (journal_rules shelf) b c ≡ n
    → reopened (land rules c inside b) ≡ reopened (land (of_length n) c inside b)
land_long rules shelf n b c inside over long =
    ap (λ (j : Option Journal). reopened (land (record rules { journal = j }) c inside b)) over
    ∙ ap (λ (k : ℕ). record (reopened (land (of_length k) c inside b)) { length = b.length + (k + 5); file = with_line (changed c k) b.file }) long

pub land_own : (rules : Rules) (shelf : ℕ) (b : Book) (c : Change) (inside : List TxName) → AreOver rules shelf → IsMeasured b c
    → reopened (land rules c inside b) ≡ reopened (land (of_length (length (own_body b c))) c inside b)
land_own rules shelf b c inside over h = land_long rules shelf (length (own_body b c)) b c inside over (own_length shelf b c h)

-- the record of what was landed would be taken, and makes the book after the event; it was landed on a shelf that does not follow
abbrev pub IsMadeOf : Book → (seen : List ℕ) → Option Change → Book → Type 0
IsMadeOf b seen None d = reopened d ≡ reopened b
IsMadeOf b seen (Some c) d =
    (inside : List TxName) × (IsTakenAs b c inside (own_told b c) × (IsNew seen c × ((reopened d ≡ reopened (land (of_length (length (own_body b c))) c inside b)) × (b.follows ≡ false))))

pub record Follows (b : Book) (seen : List ℕ) (o : Option Change) (d : Book) : Type 0 where
  pub made : IsMadeOf b seen o d
  pub doubted : Told
  pub doubt : IsTakenDoubt d d.down doubted
  pub own : IsOwnDoubt d d.down doubted

up_own : (d : Book) (o : Option Doubt) → o ≡ None → IsOwnDoubt d o unread
up_own d o e = subst (λ (x : Option Doubt). IsOwnDoubt d x unread) (sym e) tt

-- a tick's record
swept_measured : (b : Book) (tick : ℕ) → IsMeasured b (sweeps tick)
swept_measured b tick = omega arith

-- an opening with the same setup
opened_same : (journal : Option Journal) (scripts : List Named) (b d : Book) → setup_for d scripts ≡ b.scripts → d.scripts ≡ b.scripts → reopened (reopened_with journal scripts d) ≡ reopened d
opened_same journal scripts b d same kept =
    let own : setup_for d d.scripts ≡ d.scripts = some_setup (λ (ss : List Named). ss ≡ d.scripts) d d.scripts refl refl in
    ap (λ (ss : List Named). reopened (going_on_with journal ss d)) (same ∙ (sym kept ∙ sym own)) ∙ ap reopened (reopened_same journal d)

-- where a publish's number is spent first
spent_land : (rules : Rules) (n : ℕ) (b : Book) (c : Change) (inside : List TxName) → reopened (land rules c inside (spend n b)) ≡ reopened (land rules c inside b)
spent_land rules n b c inside = by_journal rules.journal
  where
    by_journal : (j : Option Journal) → reopened (land (record rules { journal = j }) c inside (spend n b)) ≡ reopened (land (record rules { journal = j }) c inside b)
    by_journal None = refl
    by_journal (Some j) = refl

module _ {lawful : Type 0} (shelf : ℕ) (rules : Rules) (over : AreOver rules shelf) (b : Book) (g : IsOrderly b) (whole : HasWholeScripts b) (seen : List ℕ) where
  pub follow_by : (d : Book) (o : Option Change) → Goes lawful rules b o d → lawful → Appends b o d → d.scripts ≡ b.scripts → (x : Told) → IsTakenDoubt b b.down x → IsOwnDoubt b b.down x → AreUsed seen b
      → Follows b seen o d
  follow_by d o stays l h same x doubt own used = record { made = refl; doubted = x; doubt = doubt; own = own }
  follow_by d o draws l h same x doubt own used = record {
    made = refl;
    doubted = x;
    doubt = moved_doubt b (b.drawn + 1) (b.out ++ b.drawn ∷ []) b.down b.down x doubt;
    own = moved_own b (b.drawn + 1) (b.out ++ b.drawn ∷ []) b.down b.down x own;
  }
  follow_by d o (spends n out) l h same x doubt own used = record {
    made = refl;
    doubted = x;
    doubt = moved_doubt b b.drawn (filter (λ m. not (m == n)) b.out) b.down b.down x doubt;
    own = moved_own b b.drawn (filter (λ m. not (m == n)) b.out) b.down b.down x own;
  }
  follow_by d o (publishes t c inside at) l h same x doubt own used =
      let is_it = (recorded_orderly rules b t c inside g at).1 in
      record {
        made = (
          inside,
          (
            recorded_taken rules b t c inside g whole at,
            (
              λ m e there. used m there (inl (subst (λ (y : ℕ). Among y b.out) (is_same t.number m c is_it e) (at.out l))),
              (spent_land rules t.number b c inside ∙ land_own rules shelf b c inside over (short_measured c (state_told b c) (recorded_short shelf rules b t c inside over at)), at.unfed),
            ),
          ),
        );
        doubted = unread;
        doubt = no_doubt (land rules c inside (spend t.number b)) b.down at.up;
        own = up_own (land rules c inside (spend t.number b)) b.down at.up;
      }
  follow_by d o (fails count t c inside at) l h same x doubt own used =
      let out = filter (λ m. not (m == t.number)) b.out in
      let down = Some (record { count = count; work = landing c inside }) in
      record {
        made = refl;
        doubted = own_told b c;
        doubt = moved_taken b b.drawn out down c inside (own_told b c) (recorded_taken rules b t c inside g whole at);
        own = (
          ap told_own (sym (moved_state b b.drawn out down c)),
          moved_measured b b.drawn out down c (short_measured c (state_told b c) (recorded_short shelf rules b t c inside over at)),
          at.unfed,
        );
      }
  follow_by d o (goes_to tick later up unfed) l h same x doubt own used = record {
    made = ([], (swept_taken b tick later, (λ m e there. e, (land_own rules shelf b (sweeps tick) [] over (swept_measured b tick), unfed))));
    doubted = unread;
    doubt = no_doubt (land rules (sweeps tick) [] b) b.down up;
    own = up_own (land rules (sweeps tick) [] b) b.down up;
  }
  follow_by d o (fails_at count tick later up unfed) l h same x doubt own used =
      let down = Some (record { count = count; work = landing (sweeps tick) [] }) in
      record {
        made = refl;
        doubted = unread;
        doubt = moved_taken b b.drawn b.out down (sweeps tick) [] unread (swept_taken b tick later);
        own = (refl, moved_measured b b.drawn b.out down (sweeps tick) (swept_measured b tick), unfed);
      }
  follow_by d o (rewrites up unfed) l h same x doubt own used =
      let still = h.still refl in
      record {
        made = λ i. record (reopened b) { length = still.1 i; file = still.0 i; follows = sym unfed i };
        doubted = unread;
        doubt = no_doubt (rewritten rules b) b.down up;
        own = up_own (rewritten rules b) b.down up;
      }
  follow_by d o (fails_to_rewrite count up unfed) l h same x doubt own used =
      absurd (h.doubt (subst IsAppended (sym up) tt))
  follow_by d o (keeps setup count c inside down) l h same x doubt own used =
      let taken : IsTakenAs b c inside x = subst (λ (z : Option Doubt). IsTakenDoubt b z x) down doubt in
      let its : IsOwnWork b (landing c inside) x = subst (λ (z : Option Doubt). IsOwnDoubt b z x) down own in
      record {
        made = (
          inside,
          (
            subst (IsTakenAs b c inside) its.0 taken,
            (
              λ m e there. used m there (is_doubted b count c inside down m e),
              (opened_same rules.journal setup b (land rules c inside b) same refl ∙ land_own rules shelf b c inside over its.1, its.2),
            ),
          ),
        );
        doubted = unread;
        doubt = tt;
        own = tt;
      }
  follow_by d o (keeps_rewritten setup count down) l h same x doubt own used =
      absurd (subst (λ (z : Option Doubt). IsTakenDoubt b z x) down doubt)
  follow_by d o (loses setup) l h same x doubt own used = record { made = opened_same rules.journal setup b b same refl; doubted = unread; doubt = tt; own = tt }

-- a book of the same shelf, setup, clock and instances, and of the same journal
abbrev pub IsMoved : (b d : Book) → Type 0
IsMoved b d = d ≡ record b { drawn = d.drawn; out = d.out; down = d.down }

-- an event that lands nothing leaves nothing in doubt, or leaves such a book
pub still_by : {lawful : Type 0} (rules : Rules) (b d : Book) (o : Option Change) → Goes lawful rules b o d → Appends b o d → IsAppended b.down → o ≡ None → (d.down ≡ None → ⊥) → IsMoved b d
still_by rules b d o stays h a e up = refl
still_by rules b d o draws h a e up = refl
still_by rules b d o (spends n out) h a e up = refl
still_by rules b d o (publishes t x inside at) h a e up = absurd (let no : ⊥ = cc in no)
still_by rules b d o (fails count t x inside at) h a e up = refl
still_by rules b d o (goes_to tick later up' unfed) h a e up = absurd (let no : ⊥ = cc in no)
still_by rules b d o (fails_at count tick later up' unfed) h a e up = refl
still_by rules b d o (rewrites up' unfed) h a e up = absurd (up up')
still_by rules b d o (fails_to_rewrite count up' unfed) h a e up = absurd (h.doubt a)
still_by rules b d o (keeps setup count c inside down) h a e up = absurd (let no : ⊥ = cc in no)
still_by rules b d o (keeps_rewritten setup count down) h a e up = absurd (subst IsAppended down a)
still_by rules b d o (loses setup) h a e up = absurd (up refl)
