-- From what is written to what a command answers.
use Rattle.std.specs.Prelude.{count_by}
use Rattle.play_desk.specs.Desk.{is_fault}
use Rattle.std.proofs.Common.{◌≡◌, ◌≤◌, ◌++◌, ◌∷◌, ◌⊎◌, ℕ, Bool, List, [], length, Option, Some, None, Result, Ok, Err, IfSome, append-nil, sym, ap, ◌∙◌, refl, subst, inl, inr, arith, codes}
use Rattle.std.specs.Fmt.{decimal}
use Rattle.std.specs.Io.KnownBytes.{Appends, Consumes, IsAtEnd, Keeps}
use Rattle.web_outside.specs.Causes.{Rose}
use Rattle.web_outside.specs.Pieces.{AppendsUnlessFault}
use Rattle.web_outside.proofs.Writes.{appends_none, appends_then, appends_kept}
use Rattle.command_words.specs.declared.Command.{Command}
use Rattle.command_words.specs.declared.Command.TheVariants.{Audit, Check, Export, Follow, Load, Play, Promote, Serve}
use Rattle.script_nodes.specs.Setup.{Named}
use Rattle.setup_reader.specs.declared.setup.Ending.TheVariants.{Input}
use Rattle.setup_reader.specs.Setup.{Parsed, Fault, setup_of}
use Rattle.setup_reader.specs.Faults.{fault_line}
use Rattle.server_command.specs.declared.program.Status.{Status}
use Rattle.server_command.specs.declared.program.Status.TheVariants as status
use Rattle.web_disk.specs.View.{RackView}
use Rattle.disk_trio.proofs.Views.{rose_later}
use Rattle.play_steps.specs.declared.stage.Reopen.TheVariants as reopen
use Rattle.server_command.specs.Racks.{Racks, AtRest, racks_of}
use Rattle.server_command.specs.Remains.{IsAny, Remains, RemainsUnwritten, unopened}
use Rattle.server_command.specs.Output.{Chances, Sinks, output_of, counted, told_scripts, ending_of, faulty, sinks, Tells, Answers, BreaksOff, nothing}
use Rattle.server_command.specs.Command.{Counts, Known, Outputs, ReadsInput, StandFor, TakesDisks, TellsFaultLine, with_setup}

-- what was read to its end is the input
pub whole_input : (left rest : Option (List ℕ)) (bytes : List ℕ) (P : List ℕ → Type 0)
    → Consumes left rest bytes → IsAtEnd rest → P bytes → IfSome left P
whole_input None rest bytes P read end p = tt
whole_input (Some xs) None bytes P read end p = absurd read
whole_input (Some xs) (Some ys) bytes P read end p =
    subst P (sym (read ∙ (ap (λ w. bytes ++ w) end ∙ append-nil bytes))) p

pub since : (old new : Option (List ℕ)) (line : List ℕ) (before mid after : ℕ)
    → before ≤ mid → AppendsUnlessFault old new line mid after → AppendsUnlessFault old new line before after
since old new line before mid after le (inl p) = inl p
since old new line before mid after le (inr p) = inr (rose_later before mid after le p.0, p.1)

-- a line that was written after a text as far as it went
pub tells : (old mid new : Option (List ℕ)) (text line : List ℕ) (before after : ℕ)
    → Appends old mid text → AppendsUnlessFault mid new line before after → Tells text line (sinks old new before after)
tells old mid new text line before after p (inl q) = record {
  shown = line;
  cut = [];
  is = sym (append-nil line);
  grown = appends_then old mid new text line p q;
  whole = inl refl;
}
tells old mid new text line before after p (inr q) = record {
  shown = q.1.front;
  cut = q.1.rest;
  is = q.1.is;
  grown = appends_then old mid new text q.1.front p q.1.written;
  whole = inr q.0;
}

-- a text after which there is no line
pub tells_nothing : (old new : Option (List ℕ)) (text : List ℕ) (before after : ℕ) → Appends old new text → Tells text [] (sinks old new before after)
tells_nothing old new text before after p =
    record { shown = []; cut = []; is = refl; grown = subst (Appends old new) (sym (append-nil text)) p; whole = inl refl }

-- nothing was decided
abbrev pub no_chances : Chances
no_chances = record { disks = []; fates = [] }

pub at_rest : (told : Bool) (rack : RackView) → AtRest (racks_of told rack rack)
at_rest told rack = record { faults = refl; out = λ n. refl; holds = λ n image h. h; failed = λ n. refl; asked = refl }

-- no steps were begun, and the rack was not touched; or no setup was read
pub untouched : (told : Bool) (rack : RackView) (asked : Command) (setup : Result Parsed Fault) → Remains (racks_of told rack rack) asked setup no_chances [] IsAny 0
untouched told rack (Play o) (Ok setup) =
    (unopened 0 reopen.Memory tt refl (record { asked = inr (refl, refl); before = λ k low. absurd (omega (arith, low)); failed = λ e. let no : ⊥ = cc in absurd no; kept = record { kept = λ n but left is. inl is; behind = λ n above left is. is } }), (let none : count_by is_fault [] ≡ 0 = refl in omega (arith, none)))
untouched told rack (Play o) (Err e) = at_rest told rack
untouched told rack Check setup = at_rest told rack
untouched told rack (Serve v) setup = tt
untouched told rack (Load l) setup = tt
untouched told rack (Audit o) setup = tt
untouched told rack (Export o) setup = tt
untouched told rack (Follow o) setup = tt
untouched told rack (Promote o) setup = tt

unread : (rack : Racks) (asked : Command) (e : Fault) → AtRest rack → Remains rack asked (Err e) no_chances [] IsAny 0
unread rack Check e rest = rest
unread rack (Play o) e rest = rest
unread rack (Serve v) e rest = tt
unread rack (Load l) e rest = tt
unread rack (Audit o) e rest = tt
unread rack (Export o) e rest = tt
unread rack (Follow o) e rest = tt
unread rack (Promote o) e rest = tt

-- memory ran out before anything was written
pub early : (rack : Racks) (asked : Command) (bytes : List ℕ) (s : Status) (old new : Option (List ℕ)) (before after : ℕ) → s ≡ status.Memory
    → AppendsUnlessFault old new (codes "error 10 memory\n") before after
    → Known rack asked bytes (Remains rack asked (setup_of (ending_of asked) bytes) no_chances [] IsAny 0) → Outputs rack asked bytes s (sinks old new before after)
early rack asked bytes s old new before after e p remains =
    subst (λ x. Outputs rack asked bytes x (sinks old new before after)) (sym e)
    (no_chances, λ settles. ([], nothing, tells old old new [] _ before after (appends_none old) p, remains settles))

-- all of the text was written
pub record IsWhole (rack : Racks) (asked : Command) (bytes : List ℕ) (chances : Chances) (old new : Option (List ℕ)) : Type 0 where
  pub status : (output_of asked bytes chances).status ≡ 0
  pub error : (output_of asked bytes chances).error ≡ []
  pub text : Appends old new (output_of asked bytes chances).text
  pub taken : TakesDisks rack (with_setup asked (setup_of (ending_of asked) bytes)) chances.disks
  pub stand : StandFor rack asked (setup_of (ending_of asked) bytes) chances
  pub unwritten : RemainsUnwritten rack asked (setup_of (ending_of asked) bytes) chances old new

-- and handed on or not
pub whole_text : (rack : Racks) (asked : Command) (bytes : List ℕ) (chances : Chances) (s : Status) (old new : Option (List ℕ)) (before mid after : ℕ)
    → Known rack asked bytes (IsWhole rack asked bytes chances old new) → before ≤ mid → (s ≡ status.Done) ⊎ ((s ≡ status.Write) × Rose mid after)
    → Outputs rack asked bytes s (sinks old new before after)
whole_text rack asked bytes chances s old new before mid after whole le (inl e) =
    subst (λ x. Outputs rack asked bytes x (sinks old new before after)) (sym e) (
      chances,
      λ settles.
          (let w = whole settles in (
            record {
              answered = (w.status, subst (λ l. Tells (output_of asked bytes chances).text l (sinks old new before after)) (sym w.error) (tells_nothing old new _ before after w.text));
              taken = w.taken;
            },
            w.stand,
          )),
    )
whole_text rack asked bytes chances s old new before mid after whole le (inr e) =
    subst (λ x. Outputs rack asked bytes x (sinks old new before after)) (sym e.0)
    (chances, (rose_later before mid after le e.1, λ settles. (let w = whole settles in (inr (w.status, w.text), w.unwritten))))

-- a setup that has a fault is all that is told
pub faulty_output : (asked : Command) → ReadsInput (Some asked) → (bytes : List ℕ) (chances : Chances) (e : Fault) → setup_of (ending_of asked) bytes ≡ Err e
    → output_of asked bytes chances ≡ faulty e
faulty_output Check reads bytes chances e h = rw h refl
faulty_output (Play o) reads bytes chances e h = rw h refl
faulty_output (Serve v) reads bytes chances e h = rw h refl
faulty_output (Load l) reads bytes chances e h = absurd reads
faulty_output (Audit o) reads bytes chances e h = absurd reads
faulty_output (Export o) reads bytes chances e h = absurd reads
faulty_output (Follow o) reads bytes chances e h = absurd reads
faulty_output (Promote o) reads bytes chances e h = absurd reads

fault_tells : (rack : Racks) (asked : Command) → ReadsInput (Some asked) → (bytes : List ℕ) (e : Fault) (out : Sinks) → setup_of (ending_of asked) bytes ≡ Err e
    → AppendsUnlessFault out.held out.holds (fault_line e) out.before out.after → AtRest rack → Outputs rack asked bytes status.Setup out
fault_tells rack asked reads bytes e out h p rest =
    let is = faulty_output asked reads bytes no_chances e h in
    let told = tells out.held out.held out.holds [] (fault_line e) out.before out.after (appends_none out.held) p in (
      no_chances,
      (
        record {
          answered = subst (λ o. Answers o 3 out) (sym is) (refl, told);
          taken = subst (λ (r : Result Parsed Fault). TakesDisks rack (with_setup asked r) []) (sym h) tt;
        },
        rest,
      ),
    )

pub fault_outputs : (rack : Racks) (asked : Command) → ReadsInput (Some asked) → (bytes : List ℕ) (e : Fault) (s : Status) (out : Sinks) → setup_of (ending_of asked) bytes ≡ Err e
    → TellsFaultLine e s out → AtRest rack → Outputs rack asked bytes s out
fault_outputs rack asked reads bytes e status.Setup out h p rest = fault_tells rack asked reads bytes e out h p rest
fault_outputs rack asked reads bytes e status.Memory out h p rest =
    early rack asked bytes status.Memory out.held out.holds out.before out.after refl p
    (λ settles. subst (λ (r : Result Parsed Fault). Remains rack asked r no_chances [] IsAny 0) (sym h) (unread rack asked e rest))
fault_outputs rack asked reads bytes e s out h p rest = absurd p

-- the number of the scripts is all that is told
pub counts_outputs : (rack : Racks) (bytes : List ℕ) (setup : Parsed) (s : Status) (out : Sinks) → setup_of Input bytes ≡ Ok setup → Counts setup.scripts s out
    → AtRest rack → Outputs rack Check bytes s out
counts_outputs rack bytes setup status.Done out h p rest =
    let is : output_of Check bytes no_chances ≡ told_scripts setup.scripts = ap counted h in (
      no_chances,
      λ settles. (
        record {
          answered = subst (λ o. Answers o 0 out) (sym is) p;
          taken = subst (λ (r : Result Parsed Fault). TakesDisks rack (with_setup Check r) []) (sym h) tt;
        },
        rest,
      ),
    )
counts_outputs rack bytes setup status.Write out h p rest =
    let is : output_of Check bytes no_chances ≡ told_scripts setup.scripts = ap counted h in
    (no_chances, (p.0, λ settles. (subst (λ o. BreaksOff o out) (sym is) p.1, rest)))
counts_outputs rack bytes setup status.Memory out h p rest =
    early rack Check bytes status.Memory out.held out.holds out.before out.after refl p (λ settles. rest)
counts_outputs rack bytes setup s out h p rest = absurd p

-- what was written of the number of scripts
pub counts_told : (scripts : List Named) (text : List ℕ) (s : Status) (old mid new : Option (List ℕ)) (before between after : ℕ)
    → text ≡ codes "ok " ++ (decimal (length scripts) ++ 10 ∷ []) → Appends old mid text → Keeps mid new → before ≤ between
    → (s ≡ status.Done) ⊎ ((s ≡ status.Write) × Rose between after) → Counts scripts s (sinks old new before after)
counts_told scripts text s old mid new before between after is p kept le (inl e) =
    let grown = subst (Appends old new) is (appends_kept old mid new text p kept) in
    subst (λ x. Counts scripts x (sinks old new before after)) (sym e) (refl, tells_nothing old new _ before after grown)
counts_told scripts text s old mid new before between after is p kept le (inr e) =
    let grown = subst (Appends old new) is (appends_kept old mid new text p kept) in
    subst (λ x. Counts scripts x (sinks old new before after)) (sym e.0) (rose_later before between after le e.1, inr (refl, grown))
