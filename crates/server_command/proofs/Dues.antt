-- Which status is due, and what lawful inputs end with.
use Rattle.std.proofs.Common.{◌≡◌, ◌≤◌, ◌<◌, ◌⊎◌, ℕ, List, [], length, nat_le, true, false, Option, Some, None, Result, Ok, Err, IfSome, IsTrue, refl, sym, ap, ◌∙◌, subst, inl, inr, ⊎_elim, arith, length-append}
use Rattle.std.proofs.lemmas.Bool.{le-leb, lt-leb}
use Rattle.std.specs.Io.KnownBytes.{Consumes}
use Rattle.trio_rack.specs.Trios.{shelves_of}
use Rattle.web_outside.specs.Causes.{Rose}
use Rattle.web_outside.specs.Limits.{most_of_input}
use Rattle.web_outside.specs.Pieces.{ReadsPast}
use Rattle.command_words.specs.declared.Command.TheVariants.{Audit, Check, Export, Follow, Load, Play, Promote, Serve}
use Rattle.command_words.specs.declared.LoadOptions.{LoadOptions}
use Rattle.command_words.specs.declared.Options.{Options}
use Rattle.command_words.specs.declared.Service.{Service}
use Rattle.command_words.specs.declared.Command.{Command}
use Rattle.command_words.proofs.Holds.{same_asked}
use Rattle.setup_reader.specs.Setup.{Parsed, Fault, setup_of}
use Rattle.setup_reader.proofs.Sections.{setup_found}
use Rattle.play_steps.specs.Transcript.{End, done, bad_line}
use Rattle.server_command.specs.declared.program.Status.{Status}
use Rattle.server_command.specs.declared.program.Status.TheVariants as status
use Rattle.server_command.specs.Racks.{Racks, AreTaken, Unfit, first_unfit, unfit_new, unfit_left, held_anew}
use Rattle.server_command.specs.Output.{Chances, output_of, counted, ending_of, ended, finished, served, written, run_of, steps_for, unless_shut, loaded, run_loaded, Sinks, BeforeOpening, at_first, at_crash}
use Rattle.server_command.specs.Remains.{HasOutgrown, TellsOutgrown}
use Rattle.measured_run.specs.Drawing.{most_steps}
use Rattle.measured_run.specs.Counting.{line_for}
use Rattle.server_command.specs.Command.{Met, ReadToEnd, Gives, HasDone, HasServed, Leaves, Settles, TakesDisks, Comes, ComesLoading, ComesServing, ComesTo, EndsAsLoad, ReadsInput, Refuses, Explains, Explained, IsDue, EndsAs, EndsOutgrown, EndsWell, IsLawful, AreFit, JournalsOpen, GoesWell, asked_in, code_of, due, due_to, reached_by, with_setup}
use Rattle.server_command.specs.Serving.{Serves, HaveRisen, LeavesInput, Opens, RackFailed, Shuts}
use Rattle.setup_reader.specs.declared.setup.Ending.TheVariants.{Input}
use Rattle.server_command.proofs.Racks.{fit_opens}

known : (P : List ℕ → Type 0) (left : Option (List ℕ)) (bytes : List ℕ) → left ≡ Some bytes → IfSome left P → P bytes
known P left bytes e h = subst (λ w. IfSome w P) e h

-- what was read is a front of the input
consumed_length : (old new : Option (List ℕ)) (bytes read : List ℕ) → old ≡ Some bytes → Consumes old new read → length read ≤ length bytes
consumed_length None new bytes read e c = let h : None ≡ Some bytes = e in cc
consumed_length (Some xs) None bytes read e c = absurd c
consumed_length (Some xs) (Some ys) bytes read e c =
    let same : xs ≡ bytes = cc in
    omega (arith, ap length same, ap length c, length-append read ys)

past_length : (old new : Option (List ℕ)) (bytes : List ℕ) (limit : ℕ) → old ≡ Some bytes → ReadsPast old new limit → limit < length bytes
past_length old new bytes limit e past = omega (arith, past.past, consumed_length old new bytes past.read e past.consumed)

-- an input of a length that may be
record IsShort (asked : Command) (met : Met) (bytes : List ℕ) (chances : Chances) : Type 0 where
  pub due_is : due met.words bytes chances ≡ (output_of asked bytes chances).status
  pub reached : reached_by (asked_in met.words) bytes ≡ with_setup asked (setup_of (ending_of asked) bytes)

is_short : (asked : Command) (met : Met) (bytes : List ℕ) (chances : Chances) → met.input ≡ Some bytes → asked_in met.words ≡ Some asked
    → ReadToEnd met → IsShort asked met bytes chances
is_short asked met bytes chances e is read =
    let short = known (λ b. length b ≤ most_of_input) met.input bytes e read.short in
    let test : nat_le (length bytes) most_of_input ≡ true = le-leb (length bytes) most_of_input short in
    record {
      due_is = ap (λ a. due_to a bytes chances) is ∙ rw test refl;
      reached = ap (λ a. reached_by a bytes) is ∙ rw test refl;
    }

due_long : (asked : Command) (met : Met) (bytes : List ℕ) (chances : Chances) → asked_in met.words ≡ Some asked → most_of_input < length bytes → IsDue 11 met bytes chances
due_long asked met bytes chances is long =
    let test : nat_le (length bytes) most_of_input ≡ false = lt-leb (length bytes) most_of_input long in
    let none : reached_by (asked_in met.words) bytes ≡ None = ap (λ a. reached_by a bytes) is ∙ rw test refl in
    record {
      same = sym (ap (λ a. due_to a bytes chances) is ∙ rw test refl);
      taken = subst (λ (r : Option (Command × Parsed)). TakesDisks met.rack r chances.disks) (sym none) tt;
    }

gives_due : (asked : Command) (met : Met) (bytes : List ℕ) (chances : Chances) (n : ℕ) → met.input ≡ Some bytes → asked_in met.words ≡ Some asked
    → ReadToEnd met → Gives met.rack asked bytes chances n met.output → IsDue n met bytes chances
gives_due asked met bytes chances n e is read h =
    let short = is_short asked met bytes chances e is read in
    record {
      same = sym (short.due_is ∙ h.answered.0);
      taken = subst (λ (r : Option (Command × Parsed)). TakesDisks met.rack r chances.disks) (sym short.reached) h.taken;
    }

left : (asked : Command) (s : Status) (met : Met) (bytes : List ℕ) (chances : Chances) → met.input ≡ Some bytes → HasDone asked chances s met
    → Leaves met.rack asked bytes s chances met.output
left asked s met bytes chances e h = known (λ b. Leaves met.rack asked b s chances met.output) met.input bytes e h.1

-- an edit of a run that was told to outgrow a journal outgrows it
outgrown : (rack : Racks) (reached : Option (Command × Parsed)) (chances : Chances) (out : Sinks) → TellsOutgrown rack reached chances out
    → HasOutgrown rack reached chances
outgrown rack (Some (Play o, setup)) chances out h = (h.0, h.1, h.2, h.3)
outgrown rack (Some (Check, setup)) chances out h = absurd h
outgrown rack (Some (Serve v, setup)) chances out h = absurd h
outgrown rack (Some (Load l, setup)) chances out h = absurd h
outgrown rack (Some (Audit o, setup)) chances out h = absurd h
outgrown rack (Some (Export o, setup)) chances out h = absurd h
outgrown rack (Some (Follow o, setup)) chances out h = absurd h
outgrown rack (Some (Promote o, setup)) chances out h = absurd h
outgrown rack None chances out h = absurd h

ends_outgrown : (asked : Command) (met : Met) (bytes : List ℕ) (chances : Chances)
    → reached_by (asked_in met.words) bytes ≡ with_setup asked (setup_of (ending_of asked) bytes)
    → TellsOutgrown met.rack (with_setup asked (setup_of (ending_of asked) bytes)) chances met.output
    → HasOutgrown met.rack (reached_by (asked_in met.words) bytes) chances
ends_outgrown asked met bytes chances reached h =
    subst (λ (r : Option (Command × Parsed)). HasOutgrown met.rack r chances) (sym reached)
    (outgrown met.rack (with_setup asked (setup_of (ending_of asked) bytes)) chances met.output h)

-- what was done with the whole input is due
asked_exact : (asked : Command) (s : Status) (met : Met) (bytes : List ℕ) (chances : Chances) → met.input ≡ Some bytes → asked_in met.words ≡ Some asked
    → Settles met.rack (reached_by (asked_in met.words) bytes) → Comes asked chances s met → EndsAs (code_of s) met bytes chances
asked_exact asked status.Done met bytes chances e is settles h =
    let short = is_short asked met bytes chances e is h.0 in
    inl (gives_due asked met bytes chances 0 e is h.0 ((left asked status.Done met bytes chances e h) (subst (Settles met.rack) short.reached settles)).0)
asked_exact asked status.Usage met bytes chances e is settles h = absurd h
asked_exact asked status.Setup met bytes chances e is settles h =
    inl (gives_due asked met bytes chances 3 e is h.0 (left asked status.Setup met bytes chances e h).0)
asked_exact asked status.Line met bytes chances e is settles h =
    let short = is_short asked met bytes chances e is h.0 in
    inl (gives_due asked met bytes chances 4 e is h.0 ((left asked status.Line met bytes chances e h) (subst (Settles met.rack) short.reached settles)).0)
asked_exact asked status.Read met bytes chances e is settles h = inr (inl (refl, h.0))
asked_exact asked status.Write met bytes chances e is settles h = inr (inr (inl (refl, h.1)))
asked_exact asked status.Memory met bytes chances e is settles h = inr (inr (inr (inr (inr (inr (inl refl))))))
asked_exact asked status.Long met bytes chances e is settles h =
    inl (due_long asked met bytes chances is (past_length met.input met.unread bytes most_of_input e h.0))
asked_exact asked status.Disk met bytes chances e is settles h = inr (inr (inr (inl (refl, h.1))))
asked_exact asked status.Journal met bytes chances e is settles h =
    let short = is_short asked met bytes chances e is h.0 in
    ⊎_elim (λ shut. inl (gives_due asked met bytes chances 8 e is h.0 shut.0))
    (λ out. inr (inr (inr (inr (inr (inr (inr (refl, ends_outgrown asked met bytes chances short.reached out))))))))
    ((left asked status.Journal met bytes chances e h) (subst (Settles met.rack) short.reached settles))
asked_exact asked status.Door met bytes chances e is settles h = absurd h
asked_exact asked status.Key met bytes chances e is settles h = absurd h
asked_exact asked status.Audit met bytes chances e is settles h = absurd h
asked_exact asked status.Feed met bytes chances e is settles h = absurd h

-- what is known of the input that was served
input_left : (serves : Serves) (v : Service) (s : Status) (met : Met) (bytes : List ℕ) (chances : Chances) → met.input ≡ Some bytes → HasServed serves v chances s met
    → LeavesInput serves v bytes chances s met.output met.door met.seeds
input_left serves v s met bytes chances e h = known (λ b. LeavesInput serves v b chances s met.output met.door met.seeds) met.input bytes e h.1

-- what is due of a setup whose shelves are opened, and of one of which a shelf is not
served_due : (v : Service) (met : Met) (bytes : List ℕ) (chances : Chances) (n : ℕ) → met.input ≡ Some bytes → asked_in met.words ≡ Some (Serve v)
    → ReadToEnd met → (served (setup_of Input bytes) chances).status ≡ n → TakesDisks met.rack (with_setup (Serve v) (setup_of Input bytes)) chances.disks
    → IsDue n met bytes chances
served_due v met bytes chances n e is read h taken =
    let short = is_short (Serve v) met bytes chances e is read in
    record {
      same = sym (short.due_is ∙ h);
      taken = subst (λ (r : Option (Command × Parsed)). TakesDisks met.rack r chances.disks) (sym short.reached) taken;
    }

-- the disks tell their bytes where a setup is served
tells_served : (v : Service) (met : Met) (bytes : List ℕ) (chances : Chances) (setup : Parsed) → met.input ≡ Some bytes → asked_in met.words ≡ Some (Serve v)
    → ReadToEnd met → setup_of Input bytes ≡ Ok setup → Settles met.rack (reached_by (asked_in met.words) bytes) → IsTrue met.rack.tells
tells_served v met bytes chances setup e is read ok settles =
    let short = is_short (Serve v) met bytes chances e is read in
    subst (Settles met.rack) (short.reached ∙ ap (with_setup (Serve v)) ok) settles

opened_due : (v : Service) (met : Met) (bytes : List ℕ) (chances : Chances) (setup : Parsed) → met.input ≡ Some bytes → asked_in met.words ≡ Some (Serve v)
    → ReadToEnd met → setup_of Input bytes ≡ Ok setup → AreTaken (unfit_left setup.scripts) (shelves_of met.rack.before).holds v.options.shelves chances.disks
    × (first_unfit (unfit_left setup.scripts) 0 chances.disks ≡ None) → IsDue 0 met bytes chances
opened_due v met bytes chances setup e is read ok h =
    served_due v met bytes chances 0 e is read
    (ap (λ r. (served r chances).status) ok ∙ ap (λ f. (unless_shut f (record { text = []; error = []; status = 0 })).status) h.1)
    (subst (λ (r : Result Parsed Fault). TakesDisks met.rack (with_setup (Serve v) r) chances.disks) (sym ok) h.0)

shut_due : (v : Service) (met : Met) (bytes : List ℕ) (chances : Chances) (setup : Parsed) (shelf : ℕ) (why : Unfit) → met.input ≡ Some bytes
    → asked_in met.words ≡ Some (Serve v) → ReadToEnd met → setup_of Input bytes ≡ Ok setup
    → AreTaken (unfit_left setup.scripts) (shelves_of met.rack.before).holds v.options.shelves chances.disks
    × (first_unfit (unfit_left setup.scripts) 0 chances.disks ≡ Some (shelf, why)) → IsDue 8 met bytes chances
shut_due v met bytes chances setup shelf why e is read ok h =
    served_due v met bytes chances 8 e is read
    (ap (λ r. (served r chances).status) ok ∙ ap (λ f. (unless_shut f (record { text = []; error = []; status = 0 })).status) h.1)
    (subst (λ (r : Result Parsed Fault). TakesDisks met.rack (with_setup (Serve v) r) chances.disks) (sym ok) h.0)

not_three : (f : Option (ℕ × Unfit)) → (unless_shut f (record { text = []; error = []; status = 0 })).status ≡ 3 → ⊥
not_three None three = omega arith
not_three (Some f) three = omega arith

faulty_due : (v : Service) (met : Met) (bytes : List ℕ) (chances : Chances) → met.input ≡ Some bytes → asked_in met.words ≡ Some (Serve v) → ReadToEnd met
    → (r : Result Parsed Fault) → setup_of Input bytes ≡ r → (served (setup_of Input bytes) chances).status ≡ 3 → IsDue 3 met bytes chances
faulty_due v met bytes chances e is read (Err f) ok three =
    served_due v met bytes chances 3 e is read three (subst (λ (r : Result Parsed Fault). TakesDisks met.rack (with_setup (Serve v) r) chances.disks) (sym ok) tt)
faulty_due v met bytes chances e is read (Ok setup) ok three =
    absurd (not_three (first_unfit (unfit_left setup.scripts) 0 chances.disks) (sym (ap (λ r. (served r chances).status) ok) ∙ three))

serving_exact : (serves : Serves) (v : Service) (s : Status) (met : Met) (bytes : List ℕ) (chances : Chances) → serves.rack ≡ met.rack → met.input ≡ Some bytes
    → asked_in met.words ≡ Some (Serve v) → Settles met.rack (reached_by (asked_in met.words) bytes) → ComesServing serves v chances s met
    → EndsAs (code_of s) met bytes chances
serving_exact serves v status.Done met bytes chances same e is settles h =
    let p = input_left serves v status.Done met bytes chances e h in
    let opens = subst (λ r. Opens r v p.0.scripts chances.disks) same p.2.2 in
    inl (opened_due v met bytes chances p.0 e is h.0 p.1 (opens (tells_served v met bytes chances p.0 e is h.0 p.1 settles)))
serving_exact serves v status.Usage met bytes chances same e is settles h = absurd h
serving_exact serves v status.Setup met bytes chances same e is settles h =
    let p = input_left serves v status.Setup met bytes chances e h in
    inl (faulty_due v met bytes chances e is h.0 (setup_of Input bytes) refl p.0.0)
serving_exact serves v status.Line met bytes chances same e is settles h = absurd h
serving_exact serves v status.Read met bytes chances same e is settles h = inr (inl (refl, h.0.0))
serving_exact serves v status.Write met bytes chances same e is settles h = inr (inr (inl (refl, h.1)))
serving_exact serves v status.Memory met bytes chances same e is settles h = inr (inr (inr (inr (inr (inr (inl refl))))))
serving_exact serves v status.Long met bytes chances same e is settles h =
    inl (due_long (Serve v) met bytes chances is (past_length met.input met.unread bytes most_of_input e h.0.0))
serving_exact serves v status.Disk met bytes chances same e is settles h = inr (inr (inr (inl (refl, h.1))))
serving_exact serves v status.Journal met bytes chances same e is settles h =
    let p = input_left serves v status.Journal met bytes chances e h in
    let shuts = subst (λ r. Shuts r v p.0.scripts chances.disks p.2.0 p.2.1) same p.2.2 in
    let shut = shuts (tells_served v met bytes chances p.0 e is h.0 p.1 settles) in
    inl (shut_due v met bytes chances p.0 p.2.0 p.2.1 e is h.0 p.1 (shut.0, shut.1))
serving_exact serves v status.Door met bytes chances same e is settles h = inr (inr (inr (inr (inl (refl, h.1)))))
serving_exact serves v status.Key met bytes chances same e is settles h = inr (inr (inr (inr (inr (inl (refl, h.1))))))
serving_exact serves v status.Audit met bytes chances same e is settles h = absurd h
serving_exact serves v status.Feed met bytes chances same e is settles h = absurd h

exact_to : (serves : Serves) (asked : Command) (s : Status) (met : Met) (bytes : List ℕ) (chances : Chances) → ReadsInput (asked_in met.words) → serves.rack ≡ met.rack → met.input ≡ Some bytes
    → asked_in met.words ≡ Some asked → Settles met.rack (reached_by (asked_in met.words) bytes) → ComesTo serves asked chances s met
    → EndsAs (code_of s) met bytes chances
exact_to serves Check s met bytes chances reads same e is settles h = asked_exact Check s met bytes chances e is settles h
exact_to serves (Play o) s met bytes chances reads same e is settles h = asked_exact (Play o) s met bytes chances e is settles h
exact_to serves (Serve v) s met bytes chances reads same e is settles h = serving_exact serves v s met bytes chances same e is settles h
exact_to serves (Load l) s met bytes chances reads same e is settles h = absurd (subst ReadsInput is reads)
exact_to serves (Audit o) s met bytes chances reads same e is settles h = absurd h
exact_to serves (Export o) s met bytes chances reads same e is settles h = absurd h
exact_to serves (Follow o) s met bytes chances reads same e is settles h = absurd h
exact_to serves (Promote o) s met bytes chances reads same e is settles h = absurd h

refused_exact : (s : Status) (met : Met) (bytes : List ℕ) (chances : Chances) → Refuses (asked_in met.words) s met → EndsAs (code_of s) met bytes chances
refused_exact status.Usage met bytes chances h = inl (record {
  same = sym (ap (λ a. due_to a bytes chances) h.0);
  taken = subst (λ (r : Option (Command × Parsed)). TakesDisks met.rack r chances.disks) (sym (ap (λ a. reached_by a bytes) h.0)) tt;
})
refused_exact status.Memory met bytes chances h = inr (inr (inr (inr (inr (inr (inl refl))))))
refused_exact s met bytes chances h = absurd h

exact : (serves : Serves) (s : Status) (met : Met) (bytes : List ℕ) (chances : Chances) → ReadsInput (asked_in met.words) → serves.rack ≡ met.rack → met.input ≡ Some bytes
    → Settles met.rack (reached_by (asked_in met.words) bytes) → Explains serves s chances met → EndsAs (code_of s) met bytes chances
exact serves s met bytes chances reads same e settles (inl h) = refused_exact s met bytes chances h
exact serves s met bytes chances reads same e settles (inr h) = exact_to serves h.0 s met bytes chances reads same e h.1.0 settles h.1.1

pub exact_if : (serves : Serves) (s : Status) (met : Met) (chances : Chances) (o : Option (List ℕ)) → serves.rack ≡ met.rack → met.input ≡ o → Explains serves s chances met
    → IfSome o (λ bytes. ReadsInput (asked_in met.words) → Settles met.rack (reached_by (asked_in met.words) bytes) → EndsAs (code_of s) met bytes chances)
exact_if serves s met chances None same e h = tt
exact_if serves s met chances (Some bytes) same e h = λ reads settles. exact serves s met bytes chances reads same e settles h

refused_complete : (s : Status) (met : Met) (asked : Command) → asked_in met.words ≡ Some asked → Refuses (asked_in met.words) s met → code_of s ≡ 10
refused_complete status.Usage met asked is h = absurd (let no : None ≡ Some asked = sym h.0 ∙ is in cc)
refused_complete status.Memory met asked is h = refl
refused_complete s met asked is h = absurd h

-- what a measured run came to is due
load_due : (l : LoadOptions) (s : Status) (met : Met) (chances : Chances) → IsTrue met.rack.tells → ComesLoading l chances s met
    → EndsAsLoad (code_of s) met l chances
load_due l status.Done met chances t h = (let g = (h.1 t).0 in inl (record { same = sym g.answered.0; taken = g.taken }))
load_due l status.Write met chances t h = inr (inl (refl, h.1.0))
load_due l status.Disk met chances t h = inr (inr (inl (refl, h.1.1.all)))
load_due l status.Journal met chances t h = (let g = (h.1 t).0 in inl (record { same = sym g.answered.0; taken = g.taken }))
load_due l status.Memory met chances t h = inr (inr (inr refl))
load_due l _ met chances t h = absurd h.1

-- what was asked for was the run
load_came : (serves : Serves) (l : LoadOptions) (s : Status) (met : Met) (chances : Chances) → asked_in met.words ≡ Some (Load l)
    → Explains serves s chances met → ComesLoading l chances s met ⊎ (code_of s ≡ 10)
load_came serves l s met chances is (inl h) = inr (refused_complete s met (Load l) is h)
load_came serves l s met chances is (inr h) =
    let one = same_asked (asked_in met.words) h.0 (Load l) h.1.0 is in
    inl (subst (λ a. ComesTo serves a chances s met) one h.1.1)

pub load_exact : (serves : Serves) (l : LoadOptions) (s : Status) (met : Met) (chances : Chances) → asked_in met.words ≡ Some (Load l)
    → IsTrue met.rack.tells → Explains serves s chances met → EndsAsLoad (code_of s) met l chances
load_exact serves l s met chances is t h =
    ⊎_elim (λ came. load_due l s met chances t came) (λ memory. inr (inr (inr memory))) (load_came serves l s met chances is h)

-- ---- lawful inputs

-- the status of a lawful input is 0 or 4, where the journals opens
ended_status : (text : List ℕ) (e : End) → ((ended text e).status ≡ 0) ⊎ ((ended text e).status ≡ 4)
ended_status text done = inl refl
ended_status text (bad_line n) = inr refl

abbrev IsFine : Command → Parsed → Chances → Type 0
IsFine asked setup chances =
    ((written asked (Ok setup) chances).status ≡ 0) ⊎ ((written asked (Ok setup) chances).status ≡ 4)

-- where no shelf is shut a measured run is told
opens_fine : (l : LoadOptions) (chances : Chances) → first_unfit unfit_new 0 chances.disks ≡ None → (loaded l chances).status ≡ 0
opens_fine l chances none =
    ap (λ f. (unless_shut f (record { text = line_for most_steps (run_loaded l chances.fates).told; error = []; status = 0 })).status) none

setup_status : (asked : Command) (setup : Parsed) (chances : Chances) (rack : Racks) → JournalsOpen asked setup.scripts rack
    → TakesDisks rack (Some (asked, setup)) chances.disks → IsFine asked setup chances
setup_status Check setup chances rack opens taken = inl refl
setup_status (Play o) setup chances rack opens taken =
    subst (λ f. ((unless_shut f (finished (run_of o setup.scripts (steps_for o setup) chances.fates))).status ≡ 0)
    ⊎ ((unless_shut f (finished (run_of o setup.scripts (steps_for o setup) chances.fates))).status ≡ 4))
    (sym (fit_opens unfit_new (held_anew rack.before) 0 chances.disks opens.1 taken.held))
    (ended_status _ (run_of o setup.scripts (steps_for o setup) chances.fates).end)
setup_status (Serve v) setup chances rack opens taken =
    subst (λ f. ((unless_shut f (record { text = []; error = []; status = 0 })).status ≡ 0)
    ⊎ ((unless_shut f (record { text = []; error = []; status = 0 })).status ≡ 4))
    (sym (fit_opens (unfit_left setup.scripts) (shelves_of rack.before).holds 0 chances.disks opens.1 taken.held)) (inl refl)
setup_status (Audit o) setup chances rack opens taken = absurd opens
setup_status (Export o) setup chances rack opens taken = absurd opens
setup_status (Follow o) setup chances rack opens taken = absurd opens
setup_status (Promote o) setup chances rack opens taken = absurd opens
setup_status (Load l) setup chances rack opens taken = inl (opens_fine l chances (fit_opens unfit_new (held_anew rack.before) 0 chances.disks opens.1 taken.held))

not_3 : (n : ℕ) → (n ≡ 0) ⊎ (n ≡ 4) → n ≡ 3 → ⊥
not_3 n (inl e) h = omega arith
not_3 n (inr e) h = omega arith

not_8 : (n : ℕ) → (n ≡ 0) ⊎ (n ≡ 4) → n ≡ 8 → ⊥
not_8 n (inl e) h = omega arith
not_8 n (inr e) h = omega arith

lawful_ok : (asked : Command) (bytes : List ℕ) (l : IsLawful asked bytes) → setup_of (ending_of asked) bytes ≡ Ok l.setup
lawful_ok asked bytes l = setup_found (ending_of asked) bytes l.setup l.spelled

-- a lawful input gives neither of these
lawful_gives : (asked : Command) (met : Met) (bytes : List ℕ) (chances : Chances) (n : ℕ) (l : IsLawful asked bytes) → JournalsOpen asked l.setup.scripts met.rack
    → Gives met.rack asked bytes chances n met.output → (n ≡ 0) ⊎ (n ≡ 4)
lawful_gives asked met bytes chances n l opens h =
    let ok = lawful_ok asked bytes l in
    let taken = subst (λ r. TakesDisks met.rack (with_setup asked r) chances.disks) ok h.taken in
    subst (λ m. (m ≡ 0) ⊎ (m ≡ 4)) (sym (ap (λ r. (written asked r chances).status) ok) ∙ h.answered.0)
    (setup_status asked l.setup chances met.rack opens taken)

-- where the journals open, what hangs on the disks is told
open_settles : (asked : Command) (met : Met) (bytes : List ℕ) (l : IsLawful asked bytes) → JournalsOpen asked l.setup.scripts met.rack
    → Settles met.rack (with_setup asked (setup_of (ending_of asked) bytes))
open_settles asked met bytes l opens =
    subst (λ r. Settles met.rack (with_setup asked r)) (sym (lawful_ok asked bytes l)) (tells asked l.setup opens)
  where
    tells : (a : Command) (setup : Parsed) → JournalsOpen a setup.scripts met.rack → Settles met.rack (Some (a, setup))
    tells Check setup h = tt
    tells (Play o) setup h = h.0
    tells (Serve v) setup h = h.0
    tells (Load l) setup h = h.0
    tells (Audit o) setup h = absurd h
    tells (Export o) setup h = absurd h
    tells (Follow o) setup h = absurd h
    tells (Promote o) setup h = absurd h

-- a run of steps ended well, or at a step that does not fit, or for want of memory; or an edit outgrew a journal
abbrev PlaysWell : (result : ℕ) → Met → (bytes : List ℕ) → Chances → Type 0
PlaysWell result met bytes chances =
    ((result ≡ 0) ⊎ ((result ≡ 4) ⊎ (result ≡ 10))) ⊎ EndsOutgrown result met bytes chances

play_complete : (o : Options) (s : Status) (met : Met) (bytes : List ℕ) (chances : Chances) → met.input ≡ Some bytes → asked_in met.words ≡ Some (Play o)
    → (l : IsLawful (Play o) bytes) → JournalsOpen (Play o) l.setup.scripts met.rack → (Rose met.input_before met.input_after → ⊥)
    → (Rose met.output.before met.output.after → ⊥) → (RackFailed met.rack → ⊥) → Comes (Play o) chances s met → PlaysWell (code_of s) met bytes chances
play_complete o status.Done met bytes chances e is l opens read write rack h = inl (inl refl)
play_complete o status.Usage met bytes chances e is l opens read write rack h = absurd h
play_complete o status.Setup met bytes chances e is l opens read write rack h =
    absurd (not_3 3 (lawful_gives (Play o) met bytes chances 3 l opens (left (Play o) status.Setup met bytes chances e h).0) refl)
play_complete o status.Line met bytes chances e is l opens read write rack h = inl (inr (inl refl))
play_complete o status.Read met bytes chances e is l opens read write rack h = absurd (read h.0)
play_complete o status.Write met bytes chances e is l opens read write rack h = absurd (write h.1)
play_complete o status.Memory met bytes chances e is l opens read write rack h = inl (inr (inr refl))
play_complete o status.Long met bytes chances e is l opens read write rack h =
    let long = past_length met.input met.unread bytes most_of_input e h.0 in absurd (omega (arith, long, l.short))
play_complete o status.Disk met bytes chances e is l opens read write rack h = absurd (rack h.1)
play_complete o status.Journal met bytes chances e is l opens read write rack h =
    ⊎_elim (λ shut. absurd (not_8 8 (lawful_gives (Play o) met bytes chances 8 l opens shut.0) refl))
    (λ out. inr (refl, ends_outgrown (Play o) met bytes chances (is_short (Play o) met bytes chances e is h.0).reached out))
    ((left (Play o) status.Journal met bytes chances e h) (open_settles (Play o) met bytes l opens))
play_complete o status.Door met bytes chances e is l opens read write rack h = absurd h
play_complete o status.Key met bytes chances e is l opens read write rack h = absurd h
play_complete o status.Audit met bytes chances e is l opens read write rack h = absurd h
play_complete o status.Feed met bytes chances e is l opens read write rack h = absurd h

same_setup : (r : Result Parsed Fault) (a b : Parsed) → r ≡ Ok a → r ≡ Ok b → a ≡ b
same_setup r a b e f = cc

serving_complete : (serves : Serves) (v : Service) (s : Status) (met : Met) (bytes : List ℕ) (chances : Chances) → serves.rack ≡ met.rack → met.input ≡ Some bytes
    → (l : IsLawful (Serve v) bytes) → JournalsOpen (Serve v) l.setup.scripts met.rack → (Rose met.input_before met.input_after → ⊥)
    → (Rose met.output.before met.output.after → ⊥) → GoesWell (Serve v) met → ComesServing serves v chances s met → (code_of s ≡ 0) ⊎ (code_of s ≡ 10)
serving_complete serves v status.Done met bytes chances same e l opens read write well h = inl refl
serving_complete serves v status.Usage met bytes chances same e l opens read write well h = absurd h
serving_complete serves v status.Setup met bytes chances same e l opens read write well h =
    let p = input_left serves v status.Setup met bytes chances e h in
    absurd (not_three (first_unfit (unfit_left l.setup.scripts) 0 chances.disks)
    (sym (ap (λ r. (served r chances).status) (lawful_ok (Serve v) bytes l)) ∙ p.0.0))
serving_complete serves v status.Line met bytes chances same e l opens read write well h = absurd h
serving_complete serves v status.Read met bytes chances same e l opens read write well h = absurd (read h.0.0)
serving_complete serves v status.Write met bytes chances same e l opens read write well h = absurd (write h.1)
serving_complete serves v status.Memory met bytes chances same e l opens read write well h = inr refl
serving_complete serves v status.Long met bytes chances same e l opens read write well h =
    let long = past_length met.input met.unread bytes most_of_input e h.0.0 in absurd (omega (arith, long, l.short))
serving_complete serves v status.Disk met bytes chances same e l opens read write well h = absurd (well.0 h.1)
serving_complete serves v status.Journal met bytes chances same e l opens read write well h =
    let p = input_left serves v status.Journal met bytes chances e h in
    let shuts = subst (λ r. Shuts r v p.0.scripts chances.disks p.2.0 p.2.1) same p.2.2 in
    let taken = shuts opens.0 in
    let is = ap (λ (x : Parsed). x.scripts) (same_setup (setup_of Input bytes) p.0 l.setup p.1 (lawful_ok (Serve v) bytes l)) in
    let fit = subst (λ ss. AreFit (unfit_left ss) (shelves_of met.rack.before).holds) (sym is) opens.1 in
    let none = fit_opens (unfit_left p.0.scripts) (shelves_of met.rack.before).holds 0 chances.disks fit taken.0.held in
    absurd (let no : None ≡ Some (p.2.0, p.2.1) = sym none ∙ taken.1 in cc)
serving_complete serves v status.Door met bytes chances same e l opens read write well h = absurd (well.1 h.1)
serving_complete serves v status.Key met bytes chances same e l opens read write well h = absurd (well.2 h.1)
serving_complete serves v status.Audit met bytes chances same e l opens read write well h = absurd h
serving_complete serves v status.Feed met bytes chances same e l opens read write well h = absurd h

-- a check has no steps, and takes no disks
four : (x : Result Parsed Fault) → (counted x).status ≡ 4 → ⊥
four (Err f) is = omega arith
four (Ok setup) is = omega arith

check_loses : (bytes : List ℕ) (chances : Chances) (shelf : ℕ) (text : List ℕ) → BeforeOpening Check bytes chances shelf text → ⊥
check_loses bytes chances shelf text (at_first o is) = let no : Check ≡ Play o = is in cc
check_loses bytes chances shelf text (at_crash o setup told is ok replied) = let no : Check ≡ Play o = is in cc

check_outgrows : (rack : Racks) (r : Result Parsed Fault) (chances : Chances) (out : Sinks) → TellsOutgrown rack (with_setup Check r) chances out → ⊥
check_outgrows rack (Err f) chances out h = h
check_outgrows rack (Ok setup) chances out h = h

check_complete : (s : Status) (met : Met) (bytes : List ℕ) (chances : Chances) → met.input ≡ Some bytes → (l : IsLawful Check bytes)
    → (Rose met.input_before met.input_after → ⊥) → (Rose met.output.before met.output.after → ⊥) → Comes Check chances s met
    → (code_of s ≡ 0) ⊎ (code_of s ≡ 10)
check_complete status.Done met bytes chances e l read write h = inl refl
check_complete status.Usage met bytes chances e l read write h = absurd h
check_complete status.Setup met bytes chances e l read write h =
    absurd (not_3 3 (lawful_gives Check met bytes chances 3 l tt (left Check status.Setup met bytes chances e h).0) refl)
check_complete status.Line met bytes chances e l read write h =
    absurd (four (setup_of Input bytes) ((left Check status.Line met bytes chances e h) (open_settles Check met bytes l tt)).0.answered.0)
check_complete status.Read met bytes chances e l read write h = absurd (read h.0)
check_complete status.Write met bytes chances e l read write h = absurd (write h.1)
check_complete status.Memory met bytes chances e l read write h = inr refl
check_complete status.Long met bytes chances e l read write h =
    let long = past_length met.input met.unread bytes most_of_input e h.0 in absurd (omega (arith, long, l.short))
check_complete status.Disk met bytes chances e l read write h =
    let disk = left Check status.Disk met bytes chances e h.0 in
    let loses = disk.2 (open_settles Check met bytes l tt) in
    absurd (check_loses bytes chances disk.0 loses.0 loses.1)
check_complete status.Journal met bytes chances e l read write h =
    ⊎_elim (λ shut. absurd (not_8 8 (lawful_gives Check met bytes chances 8 l tt shut.0) refl))
    (λ out. absurd (check_outgrows met.rack (setup_of Input bytes) chances met.output out))
    ((left Check status.Journal met bytes chances e h) (open_settles Check met bytes l tt))
check_complete status.Door met bytes chances e l read write h = absurd h
check_complete status.Key met bytes chances e l read write h = absurd h
check_complete status.Audit met bytes chances e l read write h = absurd h
check_complete status.Feed met bytes chances e l read write h = absurd h

-- a measured run on disks that hold nothing
loading_complete : (l : LoadOptions) (s : Status) (met : Met) (chances : Chances) → IsTrue met.rack.tells × AreFit unfit_new (held_anew met.rack.before)
    → (Rose met.output.before met.output.after → ⊥) → (RackFailed met.rack → ⊥) → ComesLoading l chances s met → (code_of s ≡ 0) ⊎ (code_of s ≡ 10)
loading_complete l status.Done met chances opens write well h = inl refl
loading_complete l status.Write met chances opens write well h = absurd (write h.1.0)
loading_complete l status.Disk met chances opens write well h = absurd (well h.1.1.all)
loading_complete l status.Journal met chances opens write well h =
    let g = (h.1 opens.0).0 in
    let fine = opens_fine l chances (fit_opens unfit_new (held_anew met.rack.before) 0 chances.disks opens.1 g.taken.held) in
    absurd (omega (arith, fine, g.answered.0))
loading_complete l status.Memory met chances opens write well h = inr refl
loading_complete l _ met chances opens write well h = absurd h.1

pub load_complete : (serves : Serves) (s : Status) (met : Met) (l : LoadOptions) → asked_in met.words ≡ Some (Load l) → JournalsOpen (Load l) [] met.rack
    → (Rose met.output.before met.output.after → ⊥) → GoesWell (Load l) met → (chances : Chances) → Explains serves s chances met
    → EndsWell (Load l) (code_of s)
load_complete serves s met l is opens write well chances h =
    ⊎_elim (λ came. loading_complete l s met chances opens write well came) (λ memory. inr memory) (load_came serves l s met chances is h)

-- what was asked for ended well, or an edit of its steps outgrew a journal
abbrev pub EndsSo : Command → (result : ℕ) → Met → (bytes : List ℕ) → Type 0
EndsSo asked result met bytes = EndsWell asked result ⊎ ((chances : Chances) × EndsOutgrown result met bytes chances)

complete_to : (serves : Serves) (asked : Command) (s : Status) (met : Met) (bytes : List ℕ) (chances : Chances) → serves.rack ≡ met.rack → met.input ≡ Some bytes
    → asked_in met.words ≡ Some asked → (l : IsLawful asked bytes) → JournalsOpen asked l.setup.scripts met.rack → (Rose met.input_before met.input_after → ⊥)
    → (Rose met.output.before met.output.after → ⊥) → GoesWell asked met → ComesTo serves asked chances s met → EndsSo asked (code_of s) met bytes
complete_to serves Check s met bytes chances same e is l opens read write well h = inl (check_complete s met bytes chances e l read write h)
complete_to serves (Play o) s met bytes chances same e is l opens read write well h =
    ⊎_elim inl (λ out. inr (chances, out)) (play_complete o s met bytes chances e is l opens read write well h)
complete_to serves (Serve v) s met bytes chances same e is l opens read write well h =
    inl (serving_complete serves v s met bytes chances same e l opens read write well h)
complete_to serves (Audit o) s met bytes chances same e is l opens read write well h = absurd h
complete_to serves (Export o) s met bytes chances same e is l opens read write well h = absurd h
complete_to serves (Follow o) s met bytes chances same e is l opens read write well h = absurd h
complete_to serves (Promote o) s met bytes chances same e is l opens read write well h = absurd h
complete_to serves (Load o) s met bytes chances same e is l opens read write well h = inl (loading_complete o s met chances opens write well h)

memory_ends : (asked : Command) (n : ℕ) → n ≡ 10 → EndsWell asked n
memory_ends Check n e = inr e
memory_ends (Play o) n e = inr (inr e)
memory_ends (Serve v) n e = inr e
memory_ends (Load l) n e = inr e
memory_ends (Audit o) n e = inr e
memory_ends (Export o) n e = inr e
memory_ends (Follow o) n e = inr e
memory_ends (Promote o) n e = inr e

-- what was asked for is what is lawful
record IsLawfulFor (asked : Command) (met : Met) (bytes : List ℕ) : Type 0 where
  pub lawful : IsLawful asked bytes
  pub opens : JournalsOpen asked lawful.setup.scripts met.rack
  pub well : GoesWell asked met

pub complete : (serves : Serves) (s : Status) (met : Met) (asked : Command) (bytes : List ℕ) → serves.rack ≡ met.rack → asked_in met.words ≡ Some asked
    → met.input ≡ Some bytes → (l : IsLawful asked bytes) → JournalsOpen asked l.setup.scripts met.rack → (Rose met.input_before met.input_after → ⊥)
    → (Rose met.output.before met.output.after → ⊥) → GoesWell asked met → (chances : Chances) → Explains serves s chances met → EndsSo asked (code_of s) met bytes
complete serves s met asked bytes same is e l opens read write well chances (inl h) = inl (memory_ends asked (code_of s) (refused_complete s met asked is h))
complete serves s met asked bytes same is e l opens read write well chances (inr h) =
    let one = same_asked (asked_in met.words) asked h.0 is h.1.0 in
    let these = subst (λ a. IsLawfulFor a met bytes) one (record { lawful = l; opens = opens; well = well }) in
    subst (λ a. EndsSo a (code_of s) met bytes) (sym one)
    (complete_to serves h.0 s met bytes chances same e h.1.0 these.lawful these.opens read write these.well h.1.1)

-- ---- the causes of what serving alone may end with, and of what the rack causes

door_of : (serves : Serves) (asked : Command) (chances : Chances) (met : Met) → ComesTo serves asked chances status.Door met → HaveRisen met.door
door_of serves Check chances met h = absurd h
door_of serves (Play o) chances met h = absurd h
door_of serves (Serve v) chances met h = h.1
door_of serves (Load l) chances met h = absurd h.1
door_of serves (Audit o) chances met h = absurd h
door_of serves (Export o) chances met h = absurd h
door_of serves (Follow o) chances met h = absurd h
door_of serves (Promote o) chances met h = absurd h

key_of : (serves : Serves) (asked : Command) (chances : Chances) (met : Met) → ComesTo serves asked chances status.Key met → HaveRisen met.seeds
key_of serves Check chances met h = absurd h
key_of serves (Play o) chances met h = absurd h
key_of serves (Serve v) chances met h = h.1
key_of serves (Load l) chances met h = absurd h.1
key_of serves (Audit o) chances met h = absurd h
key_of serves (Export o) chances met h = absurd h
key_of serves (Follow o) chances met h = absurd h
key_of serves (Promote o) chances met h = absurd h

disk_of : (serves : Serves) (asked : Command) (chances : Chances) (met : Met) → ComesTo serves asked chances status.Disk met → RackFailed met.rack
disk_of serves Check chances met h = h.1
disk_of serves (Play o) chances met h = h.1
disk_of serves (Serve v) chances met h = h.1
disk_of serves (Load l) chances met h = h.1.1.all
disk_of serves (Audit o) chances met h = absurd h
disk_of serves (Export o) chances met h = absurd h
disk_of serves (Follow o) chances met h = absurd h
disk_of serves (Promote o) chances met h = absurd h

is_door : (s : Status) → code_of s ≡ 9 → s ≡ status.Door
is_door s e = grind (arith, e)

is_key : (s : Status) → code_of s ≡ 14 → s ≡ status.Key
is_key s e = grind (arith, e)

is_disk : (s : Status) → code_of s ≡ 7 → s ≡ status.Disk
is_disk s e = grind (arith, e)

door_rose : (serves : Serves) (chances : Chances) (met : Met) → Explains serves status.Door chances met → HaveRisen met.door
door_rose serves chances met (inl h) = absurd h
door_rose serves chances met (inr h) = door_of serves h.0 chances met h.1.1

key_rose : (serves : Serves) (chances : Chances) (met : Met) → Explains serves status.Key chances met → HaveRisen met.seeds
key_rose serves chances met (inl h) = absurd h
key_rose serves chances met (inr h) = key_of serves h.0 chances met h.1.1

disk_rose : (serves : Serves) (chances : Chances) (met : Met) → Explains serves status.Disk chances met → RackFailed met.rack
disk_rose serves chances met (inl h) = absurd h
disk_rose serves chances met (inr h) = disk_of serves h.0 chances met h.1.1

pub door_cause : (serves : Serves) (s : Status) (met : Met) → Explained serves s met → code_of s ≡ 9 → HaveRisen met.door
door_cause serves s met h e = door_rose serves h.0 met (subst (λ x. Explains serves x h.0 met) (is_door s e) h.1)

pub key_cause : (serves : Serves) (s : Status) (met : Met) → Explained serves s met → code_of s ≡ 14 → HaveRisen met.seeds
key_cause serves s met h e = key_rose serves h.0 met (subst (λ x. Explains serves x h.0 met) (is_key s e) h.1)

pub disk_cause : (serves : Serves) (s : Status) (met : Met) → Explained serves s met → code_of s ≡ 7 → RackFailed met.rack
disk_cause serves s met h e = disk_rose serves h.0 met (subst (λ x. Explains serves x h.0 met) (is_disk s e) h.1)
