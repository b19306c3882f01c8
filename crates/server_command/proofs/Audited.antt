-- A serving after the audits of its journals, and what a command answers then.
use Rattle.std.proofs.Common.{◌≡◌, ◌≤◌, ◌∙◌, inl, inr, ℕ, List, length, Bool, true, false, IsTrue, Option, Some, None, Result, Ok, Err, refl, sym, subst, ap, arith, codes}
use Rattle.std.specs.Prelude.{⊤, IsErrOf}
use Rattle.std.specs.Io.KnownBytes.{Consumes, IsAtEnd}
use Rattle.web_outside.specs.Limits.{most_of_input}
use Rattle.web_outside.proofs.Writes.{appends_none}
use Rattle.web_disk.specs.View.{RackView}
use Rattle.script_nodes.specs.Setup.{Named}
use Rattle.disk_trio.proofs.Views.{rose_later}
use Rattle.command_words.specs.declared.Command.{Command}
use Rattle.command_words.specs.declared.Command.TheVariants.{Audit, Check, Export, Follow, Load, Play, Promote, Serve}
use Rattle.command_words.specs.declared.LoadOptions.{LoadOptions}
use Rattle.command_words.specs.declared.Service.{Service}
use Rattle.command_words.proofs.Holds.{same_asked}
use Rattle.setup_reader.specs.declared.setup.Ending.TheVariants.{Input}
use Rattle.setup_reader.specs.Setup.{Parsed, setup_of}
use Rattle.request_workers.specs.declared.tally.Tally.{Tally}
use Rattle.play_desk.specs.Laws.{TranscriptsAreRuns}
use Rattle.server_command.specs.declared.auditing.AuditEnd.{AuditEnd}
use Rattle.server_command.specs.declared.program.Status.{Status}
use Rattle.server_command.specs.declared.program.Status.TheVariants as status
use Rattle.server_command.specs.declared.serving.ServeFault.{ServeFault}
use Rattle.server_command.specs.declared.serving.ServeFault.TheVariants as fault
use Rattle.server_command.specs.Auditing.{ComesThrough, HoldYes, no_text}
use Rattle.server_command.specs.Command.{Around, CameServing, ComesTo, Ends, Explained, HasCause, IsComplete, IsSetupOf, JournalsOpen, Met, Prints, Untouched, asked_in, asks_in, code_of, met_in, serves_in}
use Rattle.server_command.specs.Ending.{ComesServed, ComesSo, EndsBehind, HasEnded, ServesSo, WithoutAudits, at_once, audited, behind, exported, fed, from_rack, plainly, promoted, served_from, stopped}
use Rattle.server_command.specs.Order.{Asks, AsksInOrder, AsksRack, ServesInOrder}
use Rattle.server_command.specs.Output.{Chances}
use Rattle.server_command.specs.Racks.{Racks, AtRest, racks_of}
use Rattle.server_command.specs.Serving.{HaveRisen, LeavesServing, Outside, outside}
use Rattle.server_command.specs.Telling.{TellsOutcome}
use Rattle.server_command.proofs.Audits.{hold_yes, stopped_leaves}
use Rattle.server_command.proofs.Caused.{audit_caused, caused, export_caused, follow_caused, promote_caused, stopped_caused}
use Rattle.server_command.proofs.Causes.{plain_asks, read_to_end, served_came}
use Rattle.server_command.proofs.Endings.{no_chances, whole_input}
use Rattle.server_command.proofs.Orders.{outcome_order}
use Rattle.server_command.proofs.Servings.{input_served, told_left}
use Rattle.server_command.proofs.Whole.{causes, completes, ends}

-- ---- a serving

-- audits that ended at a shelf were asked for
pub audits_true : (b : Bool) (r : Result ⊤ AuditEnd) (end : AuditEnd) → r ≡ Err end → (b ≡ false → r ≡ Ok tt) → IsTrue b
audits_true true r end is rests = refl
audits_true false r end is rests = absurd (let no : Err end ≡ Ok tt = sym is ∙ rests refl in cc)

pub yes_if : (rack : Racks) (count : ℕ) (r : Result ⊤ AuditEnd) → r ≡ Ok tt → ComesThrough rack count r → IsTrue rack.tells → HoldYes count rack.after
yes_if rack count r is comes t = hold_yes rack count (subst (ComesThrough rack count) is comes) t

-- after audits, or without
pub served_behind : {R D P L N : Type 0} (view : R → RackView) (s : Service) (asks : Asks) (scripts : List Named) (result : Result Tally ServeFault)
    (o : Outside D P L N) (old began : R) (b : Bool) (r : Result ⊤ AuditEnd) → s.audit ≡ b → view old ≡ o.rack.before → (b ≡ false → began ≡ old)
    → (IsTrue b → ComesThrough (racks_of o.rack.tells o.rack.before (view began)) s.options.shelves r) → r ≡ Ok tt
    → ServesSo s asks scripts result (served_from o (view began)) → ComesServed view s asks scripts result o
served_behind view s asks scripts result o old began true r on start same comes is served =
    behind (subst IsTrue (sym on) refl) began (subst (ComesThrough (racks_of o.rack.tells o.rack.before (view began)) s.options.shelves) is (comes refl)) served
served_behind view s asks scripts result o old began false r on start same comes is served =
    at_once (λ audit. absurd (let clash : IsTrue false = subst IsTrue on audit in let no : ⊥ = cc in no))
    (subst (λ (v : RackView). ServesSo s asks scripts result (served_from o v)) (ap view (same refl) ∙ start) served)

-- ---- a command

abbrev outside_in : {D P L N : Type 0} → Around D P L N → Outside D P L N
outside_in a = outside a.views a.rack a.door.before a.door.after a.seeds.before a.past

-- what a serving came to, where the words ask for it
pub serving_so : {D P L N : Type 0} (a : Around D P L N) (s : Service) (how : Status) → asked_in a.words ≡ Some (Serve s)
    → CameServing (serves_in a) s how (met_in a) → ServesInOrder (asks_in a) a.rack s.options.shelves how → ComesSo how a
serving_so a s how asked came order =
    ((came.0, inr (Serve s, (asked, came.1))), subst (λ x. AsksInOrder (asks_in a) a.rack x how) (sym asked) order)

pub plainly_served : {R D P L N : Type 0} (view : R → RackView) (a : Around D P L N) (s : Service) (how : Status) → asked_in a.words ≡ Some (Serve s)
    → (IsTrue s.audit → a.rack.after.asked ≡ a.rack.before.asked) → ComesSo how a → EndsBehind view how (ComesSo how) a
plainly_served view a s how asked none comes = plainly (subst (λ x. WithoutAudits x a.rack) (sym asked) none) comes

-- what was read of an input, and told of what its setup came to
pub record IsRead {D P L N : Type 0} (a : Around D P L N) (bytes : List ℕ) (scripts : List Named) : Type 0 where
  pub whole : Consumes a.input.before.left a.input.after.left bytes
  pub end : IsAtEnd a.input.after.left
  pub short : length bytes ≤ most_of_input
  pub setup : IsSetupOf bytes scripts

outcome_so : {D P L N : Type 0} (a : Around D P L N) (s : Service) (bytes : List ℕ) (scripts : List Named) (result : Result Tally ServeFault) (how : Status)
    → asked_in a.words ≡ Some (Serve s) → IsRead a bytes scripts → (IsErrOf result fault.Key → HaveRisen (met_in a).seeds)
    → (IsErrOf result fault.Door → HaveRisen (met_in a).door) → TellsOutcome result how (met_in a).output
    → ServesSo s (asks_in a) scripts result (outside_in a) → ComesSo how a
outcome_so a s bytes scripts result how asked read key door tells served =
    serving_so a s how asked
    (served_came (serves_in a) s how (met_in a) bytes refl read.whole read.end read.short
    (input_served (serves_in a) s bytes read.setup.0 how (met_in a).output (met_in a).door (met_in a).seeds read.setup.1 (
      served.0.0,
      subst (λ ss. LeavesServing (serves_in a) s ss served.0.0 how (met_in a).output (met_in a).door (met_in a).seeds) (sym read.setup.2)
          (told_left (serves_in a) s scripts served.0.0 result how (met_in a).output (met_in a).door (met_in a).seeds served.0.1 key door tells),
    )))
    (outcome_order (asks_in a) a.rack s.options.shelves result (met_in a).output how served.1 tells)

pub outcome_ends : {R D P L N : Type 0} (view : R → RackView) (a : Around D P L N) (s : Service) (bytes : List ℕ) (scripts : List Named)
    (result : Result Tally ServeFault) (how : Status) → asked_in a.words ≡ Some (Serve s) → IsRead a bytes scripts
    → (IsErrOf result fault.Key → HaveRisen (met_in a).seeds) → (IsErrOf result fault.Door → HaveRisen (met_in a).door)
    → TellsOutcome result how (met_in a).output → ComesServed view s (asks_in a) scripts result (outside_in a) → EndsBehind view how (ComesSo how) a
outcome_ends view a s bytes scripts result how asked read key door tells (at_once none served) =
    plainly_served view a s how asked none (outcome_so a s bytes scripts result how asked read key door tells served)
outcome_ends view a s bytes scripts result how asked read key door tells (behind on began passed served) =
    behind s asked on began passed
    (outcome_so (from_rack a (view began)) s bytes scripts result how asked
    (record { whole = read.whole; end = read.end; short = read.short; setup = read.setup }) key door tells served)
outcome_ends view a s bytes scripts result how asked read key door tells (stopped on e) =
    stopped s asked on (record {
      read = read_to_end (met_in a) bytes read.whole read.end read.short;
      setup = whole_input a.input.before.left a.input.after.left bytes (λ b. (setup : Parsed) × (setup_of Input b ≡ Ok setup)) read.whole read.end
          (read.setup.0, read.setup.1);
      drawn = e.drawn;
      shut = e.shut;
      stops = stopped_leaves no_text a.rack s.options.shelves e.end.shelf e.end.why how e.stops.0
          (met_in a).output.held (met_in a).output.held (met_in a).output.holds (met_in a).output.before (met_in a).output.before (met_in a).output.after
          (omega arith) (λ t. appends_none _) e.stops.1
          (let told = subst (λ r. TellsOutcome r how (met_in a).output) e.is tells in told);
    })

-- it is no serving
abbrev pub IsNoServing : Command → Type 0
IsNoServing (Serve s) = ⊥
IsNoServing c = ⊤

-- the rack is as it was
pub without_any : (asked : Option Command) (tells : Bool) (rack : RackView) → WithoutAudits asked (racks_of tells rack rack)
without_any None tells rack = tt
without_any (Some Check) tells rack = tt
without_any (Some (Play o)) tells rack = tt
without_any (Some (Load l)) tells rack = tt
without_any (Some (Serve s)) tells rack = λ on. refl
without_any (Some (Audit o)) tells rack = tt
without_any (Some (Export o)) tells rack = tt
without_any (Some (Follow o)) tells rack = tt
without_any (Some (Promote o)) tells rack = tt

-- ---- any other command

-- what is done with no serving and no audit
pub job_so : {R D P L N : Type 0} (view : R → RackView) (a : Around D P L N) (c : Command) (how : Status) → asked_in a.words ≡ Some c → IsNoServing c
    → (asks_in a).shut → (asks_in a).undrawn → (chances : Chances) → ComesTo (serves_in a) c chances how (met_in a) → AsksRack a.rack c how
    → EndsBehind view how (ComesSo how) a
job_so view a c how asked other shut undrawn chances comes order =
    plainly (subst (λ x. WithoutAudits x a.rack) (sym asked) (none c other))
    ((chances, inr (c, (asked, comes))), subst (λ x. AsksInOrder (asks_in a) a.rack x how) (sym asked) (in_order c other order))
  where
    none : (x : Command) → IsNoServing x → WithoutAudits (Some x) a.rack
    none Check other = tt
    none (Play o) other = tt
    none (Load l) other = tt
    none (Serve s) other = absurd other
    none (Audit o) other = tt
    none (Export o) other = tt
    none (Follow o) other = tt
    none (Promote o) other = tt

    in_order : (x : Command) → IsNoServing x → AsksRack a.rack x how → AsksInOrder (asks_in a) a.rack (Some x) how
    in_order Check other asks = (undrawn, shut, asks)
    in_order (Play o) other asks = (undrawn, shut, asks)
    in_order (Load l) other asks = (undrawn, shut, asks)
    in_order (Serve s) other asks = absurd other
    in_order (Audit o) other asks = (undrawn, shut, asks)
    in_order (Export o) other asks = (undrawn, shut, asks)
    in_order (Follow o) other asks = (undrawn, shut, asks)
    in_order (Promote o) other asks = (undrawn, shut, asks)

-- the words are no command
pub usage_so : {R D P L N : Type 0} (view : R → RackView) (a : Around D P L N) → asked_in a.words ≡ None → Prints (met_in a) (codes "error 2 usage\n")
    → Untouched (met_in a) → AtRest a.rack → (asks_in a).undrawn → (asks_in a).shut → EndsBehind view status.Usage (ComesSo status.Usage) a
usage_so view a none line same rest undrawn shut =
    plainly (subst (λ x. WithoutAudits x a.rack) (sym none) tt)
    ((no_chances, inl (none, line, same, rest)), subst (λ x. AsksInOrder (asks_in a) a.rack x status.Usage) (sym none) (undrawn, shut, rest))

-- there was no memory for the words
pub unworded_so : {R D P L N : Type 0} (view : R → RackView) (a : Around D P L N) (how : Status) → WithoutAudits (asked_in a.words) a.rack
    → Explained (serves_in a) how (met_in a) → AsksInOrder (asks_in a) a.rack (asked_in a.words) how → EndsBehind view how (ComesSo how) a
unworded_so view a how none why order = plainly none (why, order)

-- ---- what the command promises

plain_end : {D P L N : Type 0} → TranscriptsAreRuns → (result : ℕ) (how : Status) → result ≡ code_of how → (a : Around D P L N) → ComesSo how a → Ends result a
plain_end law result how code a so = ends a law result how code so.0 so.1

pub has_ended : {R D P L N : Type 0} (view : R → RackView) (a : Around D P L N) → TranscriptsAreRuns → (result : ℕ) (how : Status) → result ≡ code_of how
    → EndsBehind view how (ComesSo how) a → HasEnded view result a
has_ended {R = R} {D = D} {P = P} {L = L} {N = N} view a law result how code e = record { status = how; code = code; ends = by_end e }
  where
    by_end : EndsBehind view how (ComesSo how) a → EndsBehind view how (Ends result) a
    by_end (plainly none so) = plainly none (plain_end law result how code a so)
    by_end (behind s asked on began passed so) = behind s asked on began passed (plain_end law result how code (from_rack a (view began)) so)
    by_end (stopped s asked on p) = stopped s asked on p
    by_end (audited o asked p) = audited o asked p
    by_end (exported o asked p) = exported o asked p
    by_end (fed o asked p) = fed o asked p
    by_end (promoted o asked p) = promoted o asked p

-- ---- causes

pub has_cause : {R D P L N : Type 0} (view : R → RackView) (a : Around D P L N) (result : ℕ) (how : Status) → result ≡ code_of how
    → EndsBehind view how (ComesSo how) a → HasCause result (met_in a)
has_cause view a result how code (plainly none so) = causes (serves_in a) result how (met_in a) code so.0
has_cause view a result how code (behind s asked on began passed so) =
    let later = causes (serves_in (from_rack a (view began))) result how (met_in (from_rack a (view began))) code so.0 in
    record {
      usage = later.usage;
      read = later.read;
      write = later.write;
      disk = λ e. rose_later a.rack.before.faults (view began).faults a.rack.after.faults passed.1.later (later.disk e);
      door = later.door;
      key = later.key;
    }
has_cause view a result how code (stopped s asked on p) =
    caused result how (met_in a) code (stopped_caused (met_in a) no_text s.options.shelves how p.stops)
has_cause view a result how code (audited o asked p) = caused result how (met_in a) code (audit_caused (met_in a) o.shelves how p.leaves)
has_cause view a result how code (exported o asked p) = caused result how (met_in a) code (export_caused a.views.disk (met_in a) o.shelf how p.leaves)
has_cause view a result how code (fed o asked p) = caused result how (met_in a) code (follow_caused a.views.disk a o.shelf how p.leaves)
has_cause view a result how code (promoted o asked p) = caused result how (met_in a) code (promote_caused a.views.disk (met_in a) o.shelves how p.leaves)

-- ---- lawful inputs

-- nothing is promised of what ends where journals are audited
audits_open : (s : Service) (scripts : List Named) (rack : Racks) → IsTrue s.audit → JournalsOpen (Serve s) scripts rack → ⊥
audits_open s scripts rack on opens = let clash : IsTrue false = subst IsTrue opens.2 on in cc

never_complete : (result : ℕ) (met : Met) (asked : Command) → asked_in met.words ≡ Some asked
    → ((scripts : List Named) → JournalsOpen asked scripts met.rack → ⊥) → ((l : LoadOptions) → asked ≡ Load l → ⊥) → IsComplete result met
never_complete result met asked is shut no_load = record {
  plain = λ other p. plain_asks met.words other p;
  lawful = λ other bytes plain told lawful opens read write well.
      absurd (shut lawful.setup.scripts (subst (λ c. JournalsOpen c lawful.setup.scripts met.rack)
      (same_asked (asked_in met.words) other asked (plain_asks met.words other plain) is) opens));
  load = λ l plain opens write well. absurd (no_load l (same_asked (asked_in met.words) asked (Load l) is (plain_asks met.words (Load l) plain)));
}

pub is_complete : {R D P L N : Type 0} (view : R → RackView) (a : Around D P L N) (result : ℕ) (how : Status) → result ≡ code_of how
    → EndsBehind view how (ComesSo how) a → IsComplete result (met_in a)
is_complete view a result how code (plainly none so) = completes (serves_in a) result how (met_in a) refl code so.0
is_complete view a result how code (behind s asked on began passed so) =
    never_complete result (met_in a) (Serve s) asked (λ scripts opens. audits_open s scripts a.rack on opens) (λ l e. let no : ⊥ = cc in no)
is_complete view a result how code (stopped s asked on p) =
    never_complete result (met_in a) (Serve s) asked (λ scripts opens. audits_open s scripts a.rack on opens) (λ l e. let no : ⊥ = cc in no)
is_complete view a result how code (audited o asked p) =
    never_complete result (met_in a) (Audit o) asked (λ scripts opens. opens) (λ l e. let no : ⊥ = cc in no)
is_complete view a result how code (exported o asked p) =
    never_complete result (met_in a) (Export o) asked (λ scripts opens. opens) (λ l e. let no : ⊥ = cc in no)
is_complete view a result how code (fed o asked p) =
    never_complete result (met_in a) (Follow o) asked (λ scripts opens. opens) (λ l e. let no : ⊥ = cc in no)
is_complete view a result how code (promoted o asked p) =
    never_complete result (met_in a) (Promote o) asked (λ scripts opens. opens) (λ l e. let no : ⊥ = cc in no)
