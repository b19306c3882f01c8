-- Why a command ends so.
use Rattle.std.proofs.Common.{◌≡◌, ◌≢◌, ◌≤◌, ◌∷◌, ℕ, List, [], length, Option, Some, None, Result, Ok, Err, IfOk, IsErrOf, refl, sym, ap, ◌∙◌, subst, inl, inr, codes}
use Rattle.std.specs.Io.KnownBytes.{Consumes, IsAtEnd}
use Rattle.clap.specs.Faults.{fault_of as faults_in}
use Rattle.clap.specs.Simple.{subcommand_of}
use Rattle.clap.specs.declared.error.kind.ErrorKind.{ErrorKind}
use Rattle.web_outside.specs.Causes.{Rose}
use Rattle.web_outside.specs.Limits.{most_of_input}
use Rattle.web_outside.specs.Pieces.{AppendsUnlessFault, ConsumesSome, ReadsPast, ReadsUpTo}
use Rattle.web_outside.specs.declared.source.InputFault.{InputFault}
use Rattle.web_outside.specs.declared.source.InputFault.TheVariants as faults
use Rattle.command_words.specs.App.{app}
use Rattle.command_words.specs.Plain.{IsPlain}
use Rattle.command_words.specs.declared.Command.TheVariants.{Audit, Check, Export, Follow, Load, Play, Promote, Serve}
use Rattle.command_words.specs.declared.Service.{Service}
use Rattle.command_words.specs.declared.Command.{Command}
use Rattle.command_words.specs.Reads.{asked_from}
use Rattle.command_words.proofs.PlainWords.{plain_means}
use Rattle.server_command.specs.declared.jobs.Job.{Job}
use Rattle.server_command.specs.declared.jobs.Job.TheVariants as job
use Rattle.server_command.specs.declared.program.Status.{Status}
use Rattle.server_command.specs.declared.program.Status.TheVariants as status
use Rattle.server_command.specs.Output.{Chances}
use Rattle.server_command.specs.Racks.{AtRest}
use Rattle.server_command.specs.Command.{Met, Prints, Untouched, ReadToEnd, HasDone, HasServed, Leaves, Outputs, Comes, ComesServing, CameServing, ComesTo, Came, Explained, IsUnread, ReadsInput, asked_of, asked_unless, asked_in, unread_line, unread_status}
use Rattle.server_command.specs.Serving.{Serves, RackFailed, LeavesInput}
use Rattle.server_command.proofs.Endings.{whole_input, no_chances}

pub read_to_end : (met : Met) (bytes : List ℕ) → Consumes met.input met.unread bytes → IsAtEnd met.unread → length bytes ≤ most_of_input → ReadToEnd met
read_to_end met bytes read end short = record { end = end; short = whole_input met.input met.unread bytes (λ b. length b ≤ most_of_input) read end short }

-- what was done with the whole input explains the status
has_done : (asked : Command) (s : Status) (met : Met) (bytes : List ℕ) (chances : Chances) → Consumes met.input met.unread bytes → IsAtEnd met.unread → length bytes ≤ most_of_input
    → Leaves met.rack asked bytes s chances met.output → HasDone asked chances s met
has_done asked s met bytes chances read end short p =
    (read_to_end met bytes read end short, whole_input met.input met.unread bytes (λ b. Leaves met.rack asked b s chances met.output) read end p)

comes : (asked : Command) (s : Status) (met : Met) (bytes : List ℕ) (chances : Chances) → Consumes met.input met.unread bytes → IsAtEnd met.unread → length bytes ≤ most_of_input
    → Leaves met.rack asked bytes s chances met.output → Comes asked chances s met
comes asked status.Done met bytes chances read end short p = has_done asked status.Done met bytes chances read end short p
comes asked status.Usage met bytes chances read end short p = absurd p
comes asked status.Setup met bytes chances read end short p = has_done asked status.Setup met bytes chances read end short p
comes asked status.Line met bytes chances read end short p = has_done asked status.Line met bytes chances read end short p
comes asked status.Read met bytes chances read end short p = absurd p
comes asked status.Write met bytes chances read end short p = (has_done asked status.Write met bytes chances read end short p, p.0)
comes asked status.Memory met bytes chances read end short p =
    ((bytes, read), inr (has_done asked status.Memory met bytes chances read end short p))
comes asked status.Long met bytes chances read end short p = absurd p
comes asked status.Disk met bytes chances read end short p = (has_done asked status.Disk met bytes chances read end short p, p.1.all)
comes asked status.Journal met bytes chances read end short p = has_done asked status.Journal met bytes chances read end short p
comes asked status.Door met bytes chances read end short p = absurd p
comes asked status.Key met bytes chances read end short p = absurd p
comes asked status.Audit met bytes chances read end short p = absurd p
comes asked status.Feed met bytes chances read end short p = absurd p

pub came : (asked : Command) (s : Status) (met : Met) (bytes : List ℕ) → Consumes met.input met.unread bytes → IsAtEnd met.unread → length bytes ≤ most_of_input
    → Outputs met.rack asked bytes s met.output → Came asked s met
came asked s met bytes read end short p = (p.0, comes asked s met bytes p.0 read end short p.1)

-- what holds where the input was not read for this fault
unread : {A : Type 0} (r : Result A InputFault) (fault : InputFault) (P : Type 0) → r ≡ Err fault → (IsErrOf r fault → P) → P
unread r fault P is h = h (subst (λ x. IsErrOf x fault) (sym is) refl)

pub unread_by : {A : Type 0} (met : Met) (r : Result A InputFault) (fault : InputFault) → r ≡ Err fault
    → AppendsUnlessFault met.output.held met.output.holds (unread_line fault) met.output.before met.output.after
    → (IsErrOf r faults.Long → ReadsPast met.input met.unread most_of_input) → (IsErrOf r faults.Failed → Rose met.input_before met.input_after)
    → (IsErrOf r faults.Failed → ReadsUpTo met.input met.unread most_of_input) → ConsumesSome met.input met.unread
    → AtRest met.rack → IsUnread fault met
unread_by met r faults.Failed is line long failed short some rest = (unread r faults.Failed _ is failed, line, unread r faults.Failed _ is short, rest)
unread_by met r faults.Memory is line long failed short some rest = (line, some)
unread_by met r faults.Long is line long failed short some rest = (unread r faults.Long _ is long, line, rest)

came_unread : (asked : Command) (met : Met) (fault : InputFault) → IsUnread fault met → AtRest met.rack → Came asked (unread_status fault) met
came_unread asked met faults.Failed p rest = (no_chances, p)
came_unread asked met faults.Memory p rest = (no_chances, (p.1, inl (p.0, rest)))
came_unread asked met faults.Long p rest = (no_chances, p)

pub unread_came : (asked : Command) (s : Status) (met : Met) (fault : InputFault) → s ≡ unread_status fault → IsUnread fault met → AtRest met.rack
    → Came asked s met
unread_came asked s met fault e p rest = subst (λ x. Came asked x met) (sym e) (came_unread asked met fault p rest)

served_unread : (serves : Serves) (v : Service) (met : Met) (fault : InputFault) → IsUnread fault met → AtRest met.rack → serves.unopened
    → CameServing serves v (unread_status fault) met
served_unread serves v met faults.Failed p rest none = (no_chances, (p, none))
served_unread serves v met faults.Memory p rest none = (no_chances, (p, inl (none, rest)))
served_unread serves v met faults.Long p rest none = (no_chances, (p, none))

pub unread_served : (serves : Serves) (v : Service) (s : Status) (met : Met) (fault : InputFault) → s ≡ unread_status fault → IsUnread fault met
    → AtRest met.rack → serves.unopened → CameServing serves v s met
unread_served serves v s met fault e p rest none = subst (λ x. CameServing serves v x met) (sym e) (served_unread serves v met fault p rest none)

-- what was done with the whole input explains the status of a serving
has_served : (serves : Serves) (v : Service) (s : Status) (met : Met) (bytes : List ℕ) (chances : Chances) → Consumes met.input met.unread bytes → IsAtEnd met.unread
    → length bytes ≤ most_of_input → LeavesInput serves v bytes chances s met.output met.door met.seeds → HasServed serves v chances s met
has_served serves v s met bytes chances read end short p =
    (read_to_end met bytes read end short, whole_input met.input met.unread bytes (λ b. LeavesInput serves v b chances s met.output met.door met.seeds) read end p)

served_comes : (serves : Serves) (v : Service) (s : Status) (met : Met) (bytes : List ℕ) (chances : Chances) → serves.rack ≡ met.rack → Consumes met.input met.unread bytes
    → IsAtEnd met.unread → length bytes ≤ most_of_input → LeavesInput serves v bytes chances s met.output met.door met.seeds → ComesServing serves v chances s met
served_comes serves v status.Done met bytes chances same read end short p = has_served serves v status.Done met bytes chances read end short p
served_comes serves v status.Usage met bytes chances same read end short p = absurd p
served_comes serves v status.Setup met bytes chances same read end short p = has_served serves v status.Setup met bytes chances read end short p
served_comes serves v status.Line met bytes chances same read end short p = absurd p
served_comes serves v status.Read met bytes chances same read end short p = absurd p
served_comes serves v status.Write met bytes chances same read end short p =
    (has_served serves v status.Write met bytes chances read end short p, p.2.3.0)
served_comes serves v status.Memory met bytes chances same read end short p =
    ((p.0, (bytes, read)), inr (has_served serves v status.Memory met bytes chances read end short p))
served_comes serves v status.Long met bytes chances same read end short p = absurd p
served_comes serves v status.Disk met bytes chances same read end short p =
    (has_served serves v status.Disk met bytes chances read end short p, subst RackFailed same p.2.1.all)
served_comes serves v status.Journal met bytes chances same read end short p = has_served serves v status.Journal met bytes chances read end short p
served_comes serves v status.Door met bytes chances same read end short p =
    (has_served serves v status.Door met bytes chances read end short p, p.2.0)
served_comes serves v status.Audit met bytes chances same read end short p = absurd p
served_comes serves v status.Feed met bytes chances same read end short p = absurd p
served_comes serves v status.Key met bytes chances same read end short p =
    (has_served serves v status.Key met bytes chances read end short p, p.2.0)

pub served_came : (serves : Serves) (v : Service) (s : Status) (met : Met) (bytes : List ℕ) → serves.rack ≡ met.rack → Consumes met.input met.unread bytes → IsAtEnd met.unread
    → length bytes ≤ most_of_input → ((chances : Chances) × LeavesInput serves v bytes chances s met.output met.door met.seeds) → CameServing serves v s met
served_came serves v s met bytes same read end short p = (p.0, served_comes serves v s met bytes p.0 same read end short p.1)

-- a job reads its input
pub job_reads : (j : Job) → ReadsInput (Some (asked_of j))
job_reads job.Check = tt
job_reads (job.Play options) = tt

-- ---- words

pub asks : (words : List (List ℕ)) (asked : Command) → faults_in app words ≡ [] → asked_from (subcommand_of app words) ≡ Some asked → asked_in words ≡ Some asked
asks words asked fine found = ap (λ fs. asked_unless fs (asked_from (subcommand_of app words))) fine ∙ found

-- what words ask for that were read
pub asks_if : {E : Type 0} (words : List (List ℕ)) (r : Result Command E) (k : Command) → r ≡ Ok k → IfOk r (λ _. faults_in app words ≡ [])
    → IfOk r (λ x. asked_from (subcommand_of app words) ≡ Some x) → asked_in words ≡ Some k
asks_if words r k is fine found =
    asks words k (subst (λ x. IfOk x (λ _. faults_in app words ≡ [])) is fine)
    (subst (λ x. IfOk x (λ y. asked_from (subcommand_of app words) ≡ Some y)) is found)

none_unless : (faults : List ErrorKind) (asked : Option Command) → faults ≢ [] → asked_unless faults asked ≡ None
none_unless [] asked some = absurd (some refl)
none_unless (f ∷ fs) asked some = refl

pub asks_nothing : (words : List (List ℕ)) → faults_in app words ≢ [] → asked_in words ≡ None
asks_nothing words some = none_unless (faults_in app words) _ some

pub plain_asks : (words : List (List ℕ)) (asked : Command) → IsPlain words asked → asked_in words ≡ Some asked
plain_asks words asked p = let m = plain_means words asked p in asks words asked m.0 m.1

pub never_usage : (serves : Serves) (asked : Command) (chances : Chances) (met : Met) → ComesTo serves asked chances status.Usage met → ⊥
never_usage serves Check chances met h = h
never_usage serves (Play o) chances met h = h
never_usage serves (Serve v) chances met h = h
never_usage serves (Load l) chances met h = h.1
never_usage serves (Audit o) chances met h = h
never_usage serves (Export o) chances met h = h
never_usage serves (Follow o) chances met h = h
never_usage serves (Promote o) chances met h = h

-- memory ran out as the words were read
pub unworded : (serves : Serves) (s : Status) (met : Met) → s ≡ status.Memory → Prints met (codes "error 10 memory\n") → Untouched met → AtRest met.rack
    → Explained serves s met
unworded serves s met is line same rest = subst (λ (x : Status). Explained serves x met) (sym is) (no_chances, inl (line, same, rest))
