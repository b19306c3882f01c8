-- What a serving came to, by what its calls say.
use Rattle.std.proofs.Common.{◌≡◌, ◌≢◌, ◌∙◌, [], inl, inr, ap, subst, sym, ℕ, List, length, Some, None, IfSome, IsTrue, Result, Ok, refl, arith, codes}
use Rattle.std.specs.Prelude.{Err, IsErrOf, slice_get, sum_by}
use Rattle.std.proofs.lemmas.Option.{same_Some, slice_get_within}
use Rattle.trio_rack.specs.Trios.{shelves_of}
use Rattle.lock_row.proofs.Places.{get_there}
use Rattle.play_steps.specs.Played.{RoseBy}
use Rattle.web_disk.specs.View.{RackView, AreAmong}
use Rattle.web_outside.proofs.Writes.{appends_none}
use Rattle.script_nodes.specs.Setup.{Named}
use Rattle.command_words.specs.declared.Service.{Service}
use Rattle.request_workers.specs.Tallies.{count_of}
use Rattle.request_workers.specs.declared.tally.Tally.{Tally}
use Rattle.request_workers.specs.declared.tally.WorkEnd.{WorkEnd}
use Rattle.request_workers.specs.declared.tally.WorkEnd.TheVariants as ends
use Rattle.site_serving.specs.Totals.{total}
use Rattle.setup_reader.specs.declared.setup.Ending.TheVariants.{Input}
use Rattle.setup_reader.specs.Setup.{Fault, Parsed, setup_of}
use Rattle.setup_reader.specs.Faults.{fault_line}
use Rattle.site_serving.specs.Shelves.{Opened, Opening}
use Rattle.site_serving.specs.declared.serving.ServingFault.{ServingFault}
use Rattle.site_serving.specs.declared.serving.ServingFault.TheVariants as faults
use Rattle.site_serving.specs.Kept.{Kept}
use Rattle.site_serving.specs.Serving.{AreUntouched, ComesTo, IsUnserved, Leaves, opened_as}
use Rattle.server_command.specs.declared.program.Status.{Status}
use Rattle.server_command.specs.declared.program.Status.TheVariants as status
use Rattle.server_command.specs.declared.auditing.AuditEnd.{AuditEnd}
use Rattle.server_command.specs.declared.serving.ServeFault.{ServeFault}
use Rattle.server_command.specs.declared.serving.ServeFault.TheVariants as fault
use Rattle.play_steps.specs.declared.stage.Reopen.{Reopen}
use Rattle.play_steps.specs.declared.stage.Reopen.TheVariants as reopen
use Rattle.play_desk.specs.declared.opening.OpenFault.{OpenFault}
use Rattle.server_command.specs.Command.{TellsFaultLine, TellsNoSetup}
use Rattle.server_command.specs.Opening.{FailsAt, IsRefused, LeavesFrom, OpensOn, RefusesInOrder, RefusesOn}
use Rattle.server_command.specs.Output.{Answers, Chances, PrintsTo, Sinks, rules_for, served}
use Rattle.server_command.specs.Telling.{TellsOutcome, TellsUnopened, told, untold}
use Rattle.play_desk.specs.Asking.{AsksForFirst}
use Rattle.play_desk.specs.Opening.{IsKept}
use Rattle.server_command.specs.Racks.{AreBare, AtRest, Racks, Unfit, damaged, other, full, first_unfit, unfit_left}
use Rattle.server_command.specs.Serving.{AreOwn, Faults, HaveRisen, KeepsAll, KeepsAllBut, LeavesInput, LeavesServing, NoneIsLost, Opens, Outside, Served, Serves, ServesBy, Shuts, ShutsBy, serves_over, told_as, watch_of}
use Rattle.server_command.proofs.Endings.{no_chances, tells}
use Rattle.server_command.proofs.Shelves.{faults_sum, opened_fits, stands_from, untouched_at}

-- the shelves were opened on what their disks held
opens_of : {D P L N : Type 0} (o : Outside D P L N) (s : Service) (scripts : List Named) (sources : List N) (middle : RackView) (openings : List (Opening D N))
    → length sources ≡ s.options.shelves
    → (p : OpensOn o.views.disk o.views.told (IsTrue o.rack.tells) o.views.nonce (rules_for s.options) scripts sources o.rack.before middle openings)
    → Opens o.rack s scripts p.images
opens_of o s scripts sources middle openings count p = λ t. (
  record { held = p.taken.held t; all = λ none. p.taken.many ∙ count },
  opened_fits o.views.disk o.views.told (IsTrue o.rack.tells) o.views.nonce (rules_for s.options) scripts 0 p.images sources openings p.opened t,
)

-- links were served, or not
pub serves_of : {D P L N : Type 0} (o : Outside D P L N) (s : Service) (scripts : List Named) (sources : List N) (middle : RackView) (openings : List (Opening D N))
    (disks : List D) (result : Result Tally ServingFault) → length sources ≡ s.options.shelves → IfSome (o.seeds.gives s.options.shelves) (λ given. given ≡ sources)
    → (p : OpensOn o.views.disk o.views.told (IsTrue o.rack.tells) o.views.nonce (rules_for s.options) scripts sources o.rack.before middle openings)
    → (IsTrue o.rack.tells → IsTrue o.views.told) → length disks ≡ length sources
    → (IsTrue o.rack.tells → (k : ℕ) (d : D) → slice_get disks k ≡ Some d → AreAmong ((shelves_of o.rack.after).holds k) (o.views.disk d).images)
    → LeavesFrom (length disks) middle o.rack.after → RoseBy (sum_by (λ d. (o.views.disk d).faults) disks) middle.faults o.rack.after.faults
    → (IsTrue s.audit → IsTrue o.rack.tells → AreOwn o.views.disk o.views.told openings)
    → ComesTo o.views (opened_as o.views.disk o.views.told o.views.nonce openings) o.before o.after o.past (watch_of s) disks result
    → ServesBy (serves_over o) s scripts p.images (told_as result)
serves_of {D = D} {P = P} {L = L} {N = N} o s scripts sources middle openings disks result count drawn p tells many held others counts owned comes = by_result result comes
  where
    opened : List Opened
    opened = opened_as o.views.disk o.views.told o.views.nonce openings

    -- the disks of shelves of which nothing was served
    keeps : AreUntouched o.views.disk (IsTrue o.views.told) opened disks → KeepsAll o.rack scripts p.images
    keeps u t = record {
      held = p.taken.held t;
      read = λ k read left read_is left_is.
          let low = slice_get_within p.images k read read_is in
          let d = get_there disks k (omega (arith, low, p.taken.many, many)) in
          let at = untouched_at o.views.disk o.views.told o.views.nonce (IsTrue o.views.told) openings disks k d.0 u d.1 in
          p.kept t k at.0 read left at.1 read_is (at.2 left (held t k d.0 d.1 left left_is));
      unread = λ k left le is. p.taken.rest k (omega (arith, le, p.taken.many)) left (others k (omega (arith, le, p.taken.many, many)) left is);
    }

    whole : (end : WorkEnd) (kept : Kept) → Leaves o.views opened o.before o.after o.past (watch_of s) disks end kept → Served o s scripts p.images end kept
    whole end kept left = record {
      sources = sources;
      openings = openings;
      disks = disks;
      shelves = count;
      drawn = drawn;
      opened = p.opened;
      leaves = left;
      audited = owned;
      counted = λ own.
          let sum = faults_sum o.views.disk o.views.told o.views.nonce (IsTrue o.views.told) s.workers openings disks kept.histories own left.served.shelves in
          let later = p.taken.later in
          let rose = counts in
          omega (arith, sum, later, rose);
      stands = λ t k x h x_is h_is. stands_from o.views.disk o.views.told (IsTrue o.rack.tells) o.views.nonce (rules_for s.options) scripts 0 s.workers
          (shelves_of o.rack.after).holds p.images sources openings disks kept.histories (tells t) p.opened left.served.shelves
          (λ i j d at d_is. subst (λ m. AreAmong ((shelves_of o.rack.after).holds m) (o.views.disk d).images) (let same : i ≡ j = omega (arith, at) in same) (held t i d d_is))
          k k x h (omega arith) x_is h_is;
    }

    by_result : (r : Result Tally ServingFault) → ComesTo o.views opened o.before o.after o.past (watch_of s) disks r
        → ServesBy (serves_over o) s scripts p.images (told_as r)
    by_result (Ok tally) f =
        (record { kept = f.0; served = whole ends.Done f.0 f.1; counted = f.2 }, opens_of o s scripts sources middle openings count p)
    by_result (Err faults.Door) (inl none) = inl (none.0, opens_of o s scripts sources middle openings count p, keeps none.1)
    by_result (Err faults.Door) (inr f) =
        inr (total f.0.tallies, record { kept = f.0; served = whole ends.Failed f.0 f.1; counted = refl }, opens_of o s scripts sources middle openings count p)
    by_result (Err faults.Memory) f = (f.0, keeps f.1)

-- no sources were drawn, and nothing was asked of the rack
pub undrawn : {D P L N : Type 0} (o : Outside D P L N) (s : Service) (scripts : List Named) (why : ServeFault) → IsUnserved o.before o.after o.past → o.rack.after ≡ o.rack.before
    → (why ≡ fault.Door → ⊥) → ((w : OpenFault) → why ≡ fault.Shelf w → ⊥) → ((end : AuditEnd) → why ≡ fault.Audit end → ⊥)
    → ServesBy (serves_over o) s scripts [] (Err why)
undrawn o s scripts why none same door shelf audit = by_why why door shelf audit
  where
    keeps : KeepsAll o.rack scripts []
    keeps t = record {
      held = tt;
      read = λ k read left none is. absurd (let no : ⊥ = cc none in no);
      unread = λ k left le is. subst (λ (r : RackView). (shelves_of r).holds k left) same is;
    }

    by_why : (w : ServeFault) → (w ≡ fault.Door → ⊥) → ((x : OpenFault) → w ≡ fault.Shelf x → ⊥) → ((end : AuditEnd) → w ≡ fault.Audit end → ⊥)
        → ServesBy (serves_over o) s scripts [] (Err w)
    by_why fault.Key door shelf audit = (
      none,
      record {
        faults = ap (λ (r : RackView). r.faults) same;
        out = λ n. ap (λ (r : RackView). r.out n) same;
        holds = λ n image h. subst (λ (r : RackView). r.holds n image) same h;
        failed = λ n. ap (λ (r : RackView). r.failed n) same;
        asked = ap (λ (r : RackView). r.asked) same;
      },
    )
    by_why (fault.Shelf x) door shelf audit = absurd (shelf x refl)
    by_why (fault.Audit end) door shelf audit = absurd (audit end refl)
    by_why fault.Door door shelf audit = absurd (door refl)
    by_why fault.Memory door shelf audit = (none, keeps)

-- a shelf was not opened
pub refuses_of : {D P L N : Type 0} (o : Outside D P L N) (s : Service) (scripts : List Named) (f : OpenFault) → IsUnserved o.before o.after o.past
    → (p : RefusesOn (IsTrue o.rack.tells) scripts s.options.shelves o.rack.before o.rack.after f) → ServesBy (serves_over o) s scripts p.images (Err (fault.Shelf f))
refuses_of o s scripts f none p = (none, by_why f.why p.refused p.in_order p.kept)
  where
    Keeps : Reopen → Type 0
    Keeps w =
        IsTrue o.rack.tells → (k : ℕ) (read left : List ℕ) → slice_get p.images k ≡ Some read → (shelves_of o.rack.after).holds k left → (w ≡ reopen.Disk → k ≢ f.shelf)
        → IsKept scripts k ((shelves_of o.rack.before).holds k) read left

    all_kept : (w : Reopen) → IsTrue o.rack.tells → Keeps w → (w ≡ reopen.Disk → ⊥) → NoneIsLost o.rack scripts p.images
    all_kept w t kept not = record {
      held = p.held t;
      read = λ k read left read_is left_is. kept t k read left read_is left_is (λ e. absurd (not e));
      unread = λ k left le is. p.unread t k le left is;
    }

    -- nothing was opened on what a disk holds
    shuts : (w : Reopen) (why : Unfit) → (IsTrue o.rack.tells → first_unfit (unfit_left scripts) 0 p.images ≡ Some (f.shelf, why))
        → (IsTrue o.rack.tells → AsksForFirst s.options.shelves o.rack.before o.rack.after × (length p.images ≡ s.options.shelves) × AreBare o.rack.before o.rack.after p.images f.shelf) → Keeps w
        → (w ≡ reopen.Disk → ⊥) → Shuts o.rack s scripts p.images f.shelf why
    shuts w why h order kept not t = (
      record { held = p.held t; all = λ none. absurd (let no : None ≡ Some (f.shelf, why) = sym none ∙ h t in cc) },
      h t,
      all_kept w t kept not,
      (order t).0,
      (order t).1,
      (order t).2,
    )

    by_why : (w : Reopen) → IsRefused (IsTrue o.rack.tells) (FailsAt s.options.shelves o.rack.before o.rack.after) scripts p.images f.shelf w
        → (IsTrue o.rack.tells → RefusesInOrder scripts o.rack.before o.rack.after s.options.shelves p.images f.shelf w) → Keeps w
        → ShutsBy o.rack s scripts p.images f.shelf w
    by_why reopen.Disk h order kept = (
      h.0,
      h.1,
      λ t. record {
        read = λ k read left read_is left_is other. kept t k read left read_is left_is (λ e. other);
        unread = λ k left le is. p.unread t k le left is;
      },
      order,
    )
    by_why reopen.NotEmpty h order kept = h
    by_why (reopen.Damaged place) h order kept = shuts (reopen.Damaged place) (damaged place) h order kept (λ e. let no : ⊥ = cc e in no)
    by_why (reopen.Other place) h order kept = shuts (reopen.Other place) (other place) h order kept (λ e. let no : ⊥ = cc e in no)
    by_why (reopen.Full length) h order kept = shuts (reopen.Full length) (full length) h order kept (λ e. let no : ⊥ = cc e in no)
    by_why reopen.Memory h order kept = λ t. all_kept reopen.Memory t kept (λ e. let no : ⊥ = cc e in no)

-- a fault of a setup is all that is told
pub fault_left : (serves : Serves) (v : Service) (bytes : List ℕ) (fault : Fault) (s : Status) (out : Sinks) (door seeds : Faults) → setup_of Input bytes ≡ Err fault
    → TellsFaultLine fault s out → serves.unopened → AtRest serves.rack → (chances : Chances) × LeavesInput serves v bytes chances s out door seeds
fault_left serves v bytes fault status.Setup out door seeds is line none rest =
    (no_chances, (subst (λ r. Answers (served r no_chances) 3 out) (sym is) (refl, tells out.held out.held out.holds [] (fault_line fault) out.before out.after (appends_none out.held) line), none, rest))
fault_left serves v bytes fault status.Memory out door seeds is line none rest = (no_chances, (line, inl (none, rest)))
fault_left serves v bytes fault s out door seeds is line none rest = absurd line

-- memory ran out before a setup was served
pub memory_left : (serves : Serves) (v : Service) (bytes : List ℕ) (s : Status) (out : Sinks) (door seeds : Faults) → s ≡ status.Memory
    → PrintsTo out (codes "error 10 memory\n") → serves.unopened → AtRest serves.rack → (chances : Chances) × LeavesInput serves v bytes chances s out door seeds
memory_left serves v bytes s out door seeds is line none rest =
    subst (λ (x : Status). (chances : Chances) × LeavesInput serves v bytes chances x out door seeds) (sym is) (no_chances, (line, inl (none, rest)))

-- what is kept where a shelf was not opened
keeps_but : (rack : Racks) (v : Service) (scripts : List Named) (images : List (List ℕ)) (shelf : ℕ) (why : Reopen) → ShutsBy rack v scripts images shelf why
    → KeepsAllBut rack scripts images
keeps_but rack v scripts images shelf reopen.Disk h = inr (shelf, h.1, h.2)
keeps_but rack v scripts images shelf reopen.NotEmpty h = absurd h
keeps_but rack v scripts images shelf (reopen.Damaged place) h = inl (λ t. (h t).2)
keeps_but rack v scripts images shelf (reopen.Other place) h = inl (λ t. (h t).2)
keeps_but rack v scripts images shelf (reopen.Full length) h = inl (λ t. (h t).2)
keeps_but rack v scripts images shelf reopen.Memory h = inl h

-- a shelf was not opened, and that was told
pub shuts_told : (serves : Serves) (v : Service) (scripts : List Named) (images : List (List ℕ)) (shelf : ℕ) (why : Reopen) (s : Status) (out : Sinks)
    (door seeds : Faults) → serves.unopened × ShutsBy serves.rack v scripts images shelf why → TellsUnopened shelf why s out
    → LeavesServing serves v scripts images s out door seeds
shuts_told serves v scripts images shelf why s out door seeds by (untold is line) =
    subst (λ x. LeavesServing serves v scripts images x out door seeds) (sym is) (line, inl (by.0, keeps_but serves.rack v scripts images shelf why by.1))
shuts_told serves v scripts images shelf reopen.Disk s out door seeds by (told line is same p) =
    subst (λ x. LeavesServing serves v scripts images x out door seeds) (sym same)
    (shelf, by.1.1, by.1.0, subst (PrintsTo out) (sym (same_Some _ _ is)) p, by.0, by.1.2, by.1.3)
shuts_told serves v scripts images shelf reopen.NotEmpty s out door seeds by (told line is same p) = absurd by.1
shuts_told serves v scripts images shelf (reopen.Damaged place) s out door seeds by (told line is same p) =
    subst (λ x. LeavesServing serves v scripts images x out door seeds) (sym same)
    (shelf, damaged place, by.1, subst (PrintsTo out) (sym (same_Some _ _ is)) p, by.0)
shuts_told serves v scripts images shelf (reopen.Other place) s out door seeds by (told line is same p) =
    subst (λ x. LeavesServing serves v scripts images x out door seeds) (sym same)
    (shelf, other place, by.1, subst (PrintsTo out) (sym (same_Some _ _ is)) p, by.0)
shuts_told serves v scripts images shelf (reopen.Full length) s out door seeds by (told line is same p) =
    subst (λ x. LeavesServing serves v scripts images x out door seeds) (sym same)
    (shelf, full length, by.1, subst (PrintsTo out) (sym (same_Some _ _ is)) p, by.0)
shuts_told serves v scripts images shelf reopen.Memory s out door seeds by (told line is same p) = absurd (let no : None ≡ Some line = is in cc)

-- what a serving came to was told
pub told_left : (serves : Serves) (v : Service) (scripts : List Named) (images : List (List ℕ)) (outcome : Result Tally ServeFault) (s : Status) (out : Sinks)
    (door seeds : Faults) → ServesBy serves v scripts images outcome → (IsErrOf outcome fault.Key → HaveRisen seeds)
    → (IsErrOf outcome fault.Door → HaveRisen door) → TellsOutcome outcome s out → LeavesServing serves v scripts images s out door seeds
told_left serves v scripts images (Ok tally) status.Done out door seeds by key opened p = (count_of tally, by.0, by.1, p)
told_left serves v scripts images (Ok tally) status.Write out door seeds by key opened p = (count_of tally, by.0, by.1, p)
told_left serves v scripts images (Ok tally) status.Memory out door seeds by key opened p = (p, inr (count_of tally, by.0, by.1))
told_left serves v scripts images (Ok tally) s out door seeds by key opened p = absurd p
told_left serves v scripts images (Err fault.Key) s out door seeds by key opened p =
    subst (λ x. LeavesServing serves v scripts images x out door seeds) (sym p.0) (key refl, p.1, by.0, by.1)
told_left serves v scripts images (Err (fault.Shelf f)) s out door seeds by key opened p =
    shuts_told serves v scripts images f.shelf f.why s out door seeds by p
told_left serves v scripts images (Err (fault.Audit end)) s out door seeds by key opened p = absurd by
told_left serves v scripts images (Err fault.Door) s out door seeds by key opened p =
    subst (λ x. LeavesServing serves v scripts images x out door seeds) (sym p.0) (opened refl, p.1, by)
told_left serves v scripts images (Err fault.Memory) s out door seeds by key opened p =
    subst (λ x. LeavesServing serves v scripts images x out door seeds) (sym p.0) (p.1, inl (by.0, inl by.1))

-- no setup was read, and that was told
pub unread_left : (serves : Serves) (v : Service) (bytes : List ℕ) (s : Status) (out : Sinks) (door seeds : Faults) → TellsNoSetup bytes out s → serves.unopened
    → AtRest serves.rack → (chances : Chances) × LeavesInput serves v bytes chances s out door seeds
unread_left serves v bytes s out door seeds (inl h) none rest = fault_left serves v bytes h.0 s out door seeds h.1 h.2 none rest
unread_left serves v bytes s out door seeds (inr h) none rest = memory_left serves v bytes s out door seeds h.0 h.1 none rest

-- the same of the input that is the setup
pub input_served : (serves : Serves) (v : Service) (bytes : List ℕ) (setup : Parsed) (s : Status) (out : Sinks) (door seeds : Faults) → setup_of Input bytes ≡ Ok setup
    → ((images : List (List ℕ)) × LeavesServing serves v setup.scripts images s out door seeds) → (chances : Chances) × LeavesInput serves v bytes chances s out door seeds
input_served serves v bytes setup s out door seeds is (images, left) = (record { disks = images; fates = [] }, by_status s left)
  where
    by_status : (x : Status) → LeavesServing serves v setup.scripts images x out door seeds
        → LeavesInput serves v bytes (record { disks = images; fates = [] }) x out door seeds
    by_status status.Done p = (setup, is, p)
    by_status status.Write p = (setup, is, p)
    by_status status.Disk p = (setup, is, p)
    by_status status.Journal p = (setup, is, p)
    by_status status.Door p = (setup, is, p)
    by_status status.Key p = (setup, is, p)
    by_status status.Memory p = (p.0, inr (setup, is, p))
    by_status status.Usage p = absurd p
    by_status status.Setup p = absurd p
    by_status status.Line p = absurd p
    by_status status.Read p = absurd p
    by_status status.Long p = absurd p
    by_status status.Audit p = absurd p
    by_status status.Feed p = absurd p
