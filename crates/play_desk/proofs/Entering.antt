-- Steps of a desk, entered in a ledger.
use Rattle.std.proofs.Common.{◌≡◌, ◌∙◌, ap, sym, subst, refl, ℕ, zero, suc, true, false, List, map, [], ◌∷◌, ◌++◌, length, slice_get, slice_set, Option, Some, None, arith}
use Rattle.std.specs.Prelude.{nat_lt, option_and_then}
use Rattle.std.proofs.lemmas.Bool.Decides.{nat_tests}
use Rattle.std.proofs.lemmas.List.{length-set}
use Rattle.std.proofs.lemmas.Option.{slice_get_within}
use Rattle.script_value.specs.Val.{Val}
use Rattle.page_names.specs.Names.{Destination, destination_of}
use Rattle.replay_spec.specs.Next.{Ticket}
use Rattle.replay_spec.specs.Step.{take, publish, sweep, compact, crash, step, Fate, Reply, taken, swept, compacted, live}
use Rattle.replay_spec.specs.Runs.{Shelf}
use Rattle.replay_spec.proofs.Numbers.{crashed_out}
use Rattle.replay_spec.proofs.Refused.{unchanged}
use Rattle.play_desk.specs.Target.{answer_to, path_and_query, shelf_for}
use Rattle.play_desk.specs.Desk as desk
use Rattle.play_desk.specs.Desk.{Desk, counting, happening, told, desk_take, desk_publish, desk_sweep, desk_compact, desk_crash, taken_by, swept_by, compacted_by, crashed_by, without_shelf}
use Rattle.play_steps.specs.Rules.{Call, answered, event}
use Rattle.play_desk.specs.Ledger.{Entry, Ledger, ledger_of, entered, first_reply, holding, taken_in, take_on, take_at, ledger_take, publish_on, publish_held, ledger_publish, swept_in, ledger_sweep, compacted_in, ledger_compact, crashed_in, ledger_crash}
use Rattle.play_desk.specs.Laws.{AreRuns, AreLawfulRuns}
use Rattle.play_desk.proofs.ShelfRuns.{entry_of, one_run, one_lawful}
use Rattle.play_desk.proofs.Held.{AreOut, take_orderly, publish_orderly, publish_lawful, sweep_orderly, compact_orderly, crash_orderly}

-- a desk's event answers as the ledger's, given these replies, which enters these events
pub record EntersOne {X : Type 0} (d : Desk) (x : X × Desk) (over : Ledger → X × Ledger) : Type 0 where
  pub replies : List Reply
  pub entries : List Entry
  pub is : (later : List Reply) (before : List Entry) → over (ledger_of d (replies ++ later) before) ≡ (x.0, ledger_of x.1 later (before ++ entries))
  pub all : map (λ e. e.reply) entries ≡ replies
  pub runs : AreRuns entries d.shelves x.1.shelves
  pub lawful : (n : ℕ) → AreOut n d.shelves d.held → AreLawfulRuns entries d.shelves × AreOut n x.1.shelves x.1.held

-- a desk's call is an event, and so is the ledger's, which enters it
pub record EntersEvent {X : Type 0} (d : Desk) (by : Fate → X × Desk) (over : Ledger → Call Ledger Fate X) : Type 0 where
  pub over_by : Ledger → Fate → X × Ledger
  pub same : (later : List Reply) (before : List Entry) → over (ledger_of d later before) ≡ event (over_by (ledger_of d later before))
  pub one : (fate : Fate) → EntersOne d (by fate) (λ l. over_by l fate)

-- a desk's call and the ledger's are no event and have one answer, or are events
abbrev pub Enters : {X : Type 0} → (d : Desk) → Call Desk Fate X → (Ledger → Call Ledger Fate X) → Type 0
Enters d (answered a) over = (later : List Reply) (before : List Entry) → over (ledger_of d later before) ≡ answered a
Enters d (event by) over = EntersEvent d by over

-- the same, of what the ledger does over this desk
other_call : {X : Type 0} (d : Desk) (c : Call Desk Fate X) (over other : Ledger → Call Ledger Fate X) → Enters d c over
    → ((later : List Reply) (before : List Entry) → other (ledger_of d later before) ≡ over (ledger_of d later before)) → Enters d c other
other_call d (answered a) over other h same = λ later before. same later before ∙ h later before
other_call d (event by) over other h same =
    record { over_by = h.over_by; same = λ later before. same later before ∙ h.same later before; one = h.one }

-- a shelf that is there, and one that is not
is_there : (ss : List Shelf) (k : ℕ) (s : Shelf) → slice_get ss k ≡ Some s → nat_lt k (length ss) ≡ true
is_there ss k s e = let low = slice_get_within ss k s e in grind (arith, nat_tests)

not_there : (ss : List Shelf) (k : ℕ) → slice_get ss k ≡ None → nat_lt k (length ss) ≡ false
not_there [] k e = grind (arith, nat_tests)
not_there (s ∷ ss) zero e = absurd (cc)
not_there (s ∷ ss) (suc k) e = let low = not_there ss k e in grind (arith, nat_tests)

taken_same : (d : Desk) (k worker : ℕ) (target : Destination) (answer : Val) (s : Shelf) (r : Reply) (later : List Reply) (entries : List Entry)
    → taken_in (ledger_of d later entries) worker target answer r
    ≡ (let x = taken_by d k worker target answer (r, s) in (x.0, ledger_of x.1 later entries))
taken_same d k worker target answer s (taken number nonce) later entries = rw (length-set d.shelves k s) refl
taken_same d k worker target answer s r later entries = rw (length-set d.shelves k s) refl

taken_shelves : (d : Desk) (k worker : ℕ) (target : Destination) (answer : Val) (s : Shelf) (r : Reply)
    → (taken_by d k worker target answer (r, s)).1.shelves ≡ slice_set d.shelves k s
taken_shelves d k worker target answer s (taken number nonce) = refl
taken_shelves d k worker target answer s r = refl

take_on_enters : (d : Desk) (k worker : ℕ) (target : Destination) (answer : Val) (o : Option Shelf) → slice_get d.shelves k ≡ o
    → k ≡ shelf_for (length d.shelves) worker target → Enters d (desk.take_on d k worker target answer o) (λ l. take_on l k worker target answer)
take_on_enters d k worker target answer None here place = let test = not_there d.shelves k here in λ later before. rw test refl
take_on_enters d k worker target answer (Some s) here place =
    let test = is_there d.shelves k s here in
    record {
      over_by = λ l fate. taken_in (entered l k (take target answer) fate) worker target answer (first_reply l.replies);
      same = λ later before. rw test refl;
      one = λ fate.
          let x = happening s (take target answer) fate in
          record {
            replies = x.0 ∷ [];
            entries = entry_of k s (take target answer) fate ∷ [];
            is = λ later before. taken_same d k worker target answer x.1 x.0 later (before ++ entry_of k s (take target answer) fate ∷ []);
            all = refl;
            runs = subst (AreRuns (entry_of k s (take target answer) fate ∷ []) d.shelves) (sym (taken_shelves d k worker target answer x.1 x.0))
                (one_run d.shelves k s (take target answer) fate here);
            lawful = λ n o. (
              one_lawful d.shelves k s (take target answer) fate x.0 here tt,
              take_orderly n d k worker target answer (counting s.nonces) s x.1 x.0 here (place ∙ ap (λ c. shelf_for c worker target) o.count)
                  ((unchanged s.rules s.book (counting s.nonces) fate).0 target answer) o,
            );
          };
    }

take_at_enters : (d : Desk) (worker : ℕ) (answer : Val) (o : Option Destination)
    → Enters d (desk.take_at d worker answer o) (λ l. take_at l worker answer o)
take_at_enters d worker answer None = λ later before. refl
take_at_enters d worker answer (Some target) =
    let k = shelf_for (length d.shelves) worker target in
    other_call d (desk.take_on d k worker target answer (slice_get d.shelves k)) (λ l. take_on l k worker target answer)
    (λ l. take_at l worker answer (Some target)) (take_on_enters d k worker target answer (slice_get d.shelves k) refl refl) (λ later before. refl)

pub take_enters : (d : Desk) (worker : ℕ) (target : List ℕ) → Enters d (desk_take d worker target) (λ l. ledger_take l worker target)
take_enters d worker target = take_at_enters d worker (answer_to (path_and_query target).1) (destination_of (path_and_query target).0)

publish_on_enters : (d : Desk) (k worker : ℕ) (t : Ticket) (o : Option Shelf) → slice_get d.shelves k ≡ o
    → k ≡ shelf_for (length d.shelves) worker t.target → slice_get d.held worker ≡ Some (Some t)
    → Enters d (desk.publish_on d k worker t o) (λ l. publish_on l k worker t)
publish_on_enters d k worker t None here place holds = let test = not_there d.shelves k here in λ later before. rw test refl
publish_on_enters d k worker t (Some s) here place holds =
    let test = is_there d.shelves k s here in
    record {
      over_by = λ l fate. (told (first_reply l.replies), holding (entered l k (publish t) fate) worker None);
      same = λ later before. rw test refl;
      one = λ fate.
          let x = happening s (publish t) fate in
          record {
            replies = x.0 ∷ [];
            entries = entry_of k s (publish t) fate ∷ [];
            is = λ later before. rw (length-set d.shelves k x.1) refl;
            all = refl;
            runs = one_run d.shelves k s (publish t) fate here;
            lawful = λ n o.
                let there = place ∙ ap (λ c. shelf_for c worker t.target) o.count in (
                  one_lawful d.shelves k s (publish t) fate x.0 here (publish_lawful n d k worker t s here there holds o),
                  publish_orderly n d k worker t fate s here there holds o,
                );
          };
    }

-- the ticket that a worker holds
held_at : (o : Option (Option Ticket)) (t : Ticket) → option_and_then (λ x. x) o ≡ Some t → o ≡ Some (Some t)
held_at None t e = absurd (let no : None ≡ Some t = e in cc)
held_at (Some x) t e = ap Some e

publish_held_enters : (d : Desk) (worker : ℕ) (o : Option Ticket) → desk.ticket_of d worker ≡ o
    → Enters d (desk.publish_held d worker o) (λ l. publish_held l worker o)
publish_held_enters d worker None e = λ later before. refl
publish_held_enters d worker (Some t) e =
    let k = shelf_for (length d.shelves) worker t.target in
    other_call d (desk.publish_on d k worker t (slice_get d.shelves k)) (λ l. publish_on l k worker t) (λ l. publish_held l worker (Some t))
    (publish_on_enters d k worker t (slice_get d.shelves k) refl refl (held_at (slice_get d.held worker) t e)) (λ later before. refl)

pub publish_enters : (d : Desk) (worker : ℕ) → Enters d (desk_publish d worker) (λ l. ledger_publish l worker)
publish_enters d worker =
    other_call d (desk_publish d worker) (λ l. publish_held l worker (desk.ticket_of d worker)) (λ l. ledger_publish l worker)
    (publish_held_enters d worker (desk.ticket_of d worker) refl) (λ later before. refl)

swept_same : (d : Desk) (k : ℕ) (s : Shelf) (r : Reply) (later : List Reply) (entries : List Entry)
    → swept_in (ledger_of d later entries) r ≡ (let x = swept_by d k (r, s) in (x.0, ledger_of x.1 later entries))
swept_same d k s (swept count) later entries = rw (length-set d.shelves k s) refl
swept_same d k s r later entries = rw (length-set d.shelves k s) refl

swept_shelves : (d : Desk) (k : ℕ) (s : Shelf) (r : Reply) → (swept_by d k (r, s)).1.shelves ≡ slice_set d.shelves k s
swept_shelves d k s (swept count) = refl
swept_shelves d k s r = refl

swept_kept : (d : Desk) (k : ℕ) (s : Shelf) (r : Reply)
    → ◌≡◌ {A = List Shelf × List (Option Ticket)} (slice_set d.shelves k s, d.held) (let x = swept_by d k (r, s) in (x.1.shelves, x.1.held))
swept_kept d k s (swept count) = refl
swept_kept d k s r = refl

sweep_on_enters : (d : Desk) (k tick : ℕ) (o : Option Shelf) → slice_get d.shelves k ≡ o
    → Enters d (desk.sweep_on d k tick o) (λ l. ledger_sweep l k tick)
sweep_on_enters d k tick None here = let test = not_there d.shelves k here in λ later before. rw test refl
sweep_on_enters d k tick (Some s) here =
    let test = is_there d.shelves k s here in
    record {
      over_by = λ l fate. swept_in (entered l k (sweep tick) fate) (first_reply l.replies);
      same = λ later before. rw test refl;
      one = λ fate.
          let x = happening s (sweep tick) fate in
          record {
            replies = x.0 ∷ [];
            entries = entry_of k s (sweep tick) fate ∷ [];
            is = λ later before. swept_same d k x.1 x.0 later (before ++ entry_of k s (sweep tick) fate ∷ []);
            all = refl;
            runs = subst (AreRuns (entry_of k s (sweep tick) fate ∷ []) d.shelves) (sym (swept_shelves d k x.1 x.0))
                (one_run d.shelves k s (sweep tick) fate here);
            lawful = λ n o. (
              one_lawful d.shelves k s (sweep tick) fate x.0 here tt,
              subst (λ (p : List Shelf × List (Option Ticket)). AreOut n p.0 p.1) (swept_kept d k x.1 x.0) (sweep_orderly n d k tick fate s here o),
            );
          };
    }

pub sweep_enters : (d : Desk) (k tick : ℕ) → Enters d (desk_sweep d k tick) (λ l. ledger_sweep l k tick)
sweep_enters d k tick = sweep_on_enters d k tick (slice_get d.shelves k) refl

compacted_same : (d : Desk) (k : ℕ) (s : Shelf) (r : Reply) (later : List Reply) (entries : List Entry)
    → compacted_in (ledger_of d later entries) r ≡ (let x = compacted_by d k (r, s) in (x.0, ledger_of x.1 later entries))
compacted_same d k s (compacted length) later entries = rw (length-set d.shelves k s) refl
compacted_same d k s r later entries = rw (length-set d.shelves k s) refl

compacted_shelves : (d : Desk) (k : ℕ) (s : Shelf) (r : Reply) → (compacted_by d k (r, s)).1.shelves ≡ slice_set d.shelves k s
compacted_shelves d k s (compacted length) = refl
compacted_shelves d k s r = refl

compacted_kept : (d : Desk) (k : ℕ) (s : Shelf) (r : Reply)
    → ◌≡◌ {A = List Shelf × List (Option Ticket)} (slice_set d.shelves k s, d.held) (let x = compacted_by d k (r, s) in (x.1.shelves, x.1.held))
compacted_kept d k s (compacted length) = refl
compacted_kept d k s r = refl

compact_on_enters : (d : Desk) (k : ℕ) (o : Option Shelf) → slice_get d.shelves k ≡ o
    → Enters d (desk.compact_on d k o) (λ l. ledger_compact l k)
compact_on_enters d k None here = let test = not_there d.shelves k here in λ later before. rw test refl
compact_on_enters d k (Some s) here =
    let test = is_there d.shelves k s here in
    record {
      over_by = λ l fate. compacted_in (entered l k compact fate) (first_reply l.replies);
      same = λ later before. rw test refl;
      one = λ fate.
          let x = happening s compact fate in
          record {
            replies = x.0 ∷ [];
            entries = entry_of k s compact fate ∷ [];
            is = λ later before. compacted_same d k x.1 x.0 later (before ++ entry_of k s compact fate ∷ []);
            all = refl;
            runs = subst (AreRuns (entry_of k s compact fate ∷ []) d.shelves) (sym (compacted_shelves d k x.1 x.0))
                (one_run d.shelves k s compact fate here);
            lawful = λ n o. (
              one_lawful d.shelves k s compact fate x.0 here tt,
              subst (λ (p : List Shelf × List (Option Ticket)). AreOut n p.0 p.1) (compacted_kept d k x.1 x.0) (compact_orderly n d k fate s here o),
            );
          };
    }

pub compact_enters : (d : Desk) (k : ℕ) → Enters d (desk_compact d k) (λ l. ledger_compact l k)
compact_enters d k = compact_on_enters d k (slice_get d.shelves k) refl

crashed_same : (d : Desk) (k : ℕ) (s : Shelf) (r : Reply) (later : List Reply) (entries : List Entry)
    → crashed_in (ledger_of d later entries) k r ≡ (let x = crashed_by d k (r, s) in (x.0, ledger_of x.1 later entries))
crashed_same d k s (live count) later entries = rw (length-set d.shelves k s) refl
crashed_same d k s r later entries = rw (length-set d.shelves k s) refl

crash_kept : (d : Desk) (k : ℕ) (s : Shelf) (fate : Fate)
    → ◌≡◌ {A = List Shelf × List (Option Ticket)}
    (let x = crashed_by d k (happening s (crash d.scripts) fate) in (x.1.shelves, x.1.held))
    (slice_set d.shelves k (happening s (crash d.scripts) fate).1, without_shelf (length d.shelves) k 0 d.held)
unfolding step
crash_kept d k s fate = refl

crash_on_enters : (d : Desk) (k : ℕ) (o : Option Shelf) → slice_get d.shelves k ≡ o → Enters d (desk.crash_on d k o) (λ l. ledger_crash l k)
crash_on_enters d k None here = let test = not_there d.shelves k here in λ later before. rw test refl
crash_on_enters d k (Some s) here =
    let test = is_there d.shelves k s here in
    record {
      over_by = λ l fate. crashed_in (entered l k (crash l.scripts) fate) k (first_reply l.replies);
      same = λ later before. rw test refl;
      one = λ fate.
          let x = happening s (crash d.scripts) fate in
          record {
            replies = x.0 ∷ [];
            entries = entry_of k s (crash d.scripts) fate ∷ [];
            is = λ later before. crashed_same d k x.1 x.0 later (before ++ entry_of k s (crash d.scripts) fate ∷ []);
            all = refl;
            runs = subst (λ (ss : List Shelf). AreRuns (entry_of k s (crash d.scripts) fate ∷ []) d.shelves ss) (sym (ap (λ (p : List Shelf × List (Option Ticket)). p.0) (crash_kept d k s fate)))
                (one_run d.shelves k s (crash d.scripts) fate here);
            lawful = λ n o. (
              one_lawful d.shelves k s (crash d.scripts) fate x.0 here tt,
              subst (λ (p : List Shelf × List (Option Ticket)). AreOut n p.0 p.1) (sym (crash_kept d k s fate))
                  (subst (λ m. AreOut n (slice_set d.shelves k x.1) (without_shelf m k 0 d.held)) (sym o.count)
                  (crash_orderly n d k s x.1 here (crashed_out s.rules s.book (counting s.nonces) d.scripts fate) o)),
            );
          };
    }

pub crash_enters : (d : Desk) (k : ℕ) → Enters d (desk_crash d k) (λ l. ledger_crash l k)
crash_enters d k = crash_on_enters d k (slice_get d.shelves k) refl
