-- Lines and the steps that they are, the texts of replies, and runs over a small stage, computed.
use Rattle.std.specs.Prelude.{◌≡◌, ℕ, ◌+◌, ◌==◌, Bool, true, false, List, [], ◌∷◌, ◌++◌, length, map, Option, Some, None, Result, Ok, Err, codes, refl, if◌then◌else◌}
use Rattle.std.specs.Fmt.{digits}
use Rattle.script_value.specs.declared.outcome.Fault.TheVariants as faults
use Rattle.script_value.specs.declared.outcome.Refusal.TheVariants as refusals
use Rattle.script_value.specs.declared.outcome.Reply.{Reply}
use Rattle.script_value.specs.declared.outcome.Reply.TheVariants as replies
use Rattle.play_steps.specs.declared.report.Report.TheVariants as reports
use Rattle.play_steps.specs.Reports.{take_report, sweep_report, compact_report}
use Rattle.play_steps.specs.Rules.{StageRules, Call, answered, event}
use Rattle.play_steps.specs.Step.{take, publish, get, tick, crash, compact, edit, aim_of, take_of, publish_of, get_of, tick_of, crash_of, compact_of, step_of, edit_head, edit_with, first_step, steps_of, lines_of, lines_in}
use Rattle.play_steps.specs.Texts.{reply_text, report_text}
use Rattle.play_steps.specs.Transcript.{Run, End, done, bad_line, text_of, transcript}
use Rattle.play_steps.specs.Played.{played}

-- lines, each ended by a newline
abbrev pub lines : List (List ℕ) → List ℕ
lines [] = []
lines (l ∷ ls) = l ++ 10 ∷ lines ls

-- one line of each kind
pub each_kind :
    map step_of (codes "take 0 /a" ∷ codes "publish 15" ∷ codes "get 9 !~" ∷ codes "tick 60" ∷ codes "crash 0"
    ∷ codes "compact 1" ∷ [])
    ≡ Some (take 0 (codes "/a")) ∷ Some (publish 15) ∷ Some (get 9 (codes "!~")) ∷ Some (tick 60) ∷ Some (crash 0) ∷ Some (compact 1) ∷ []
unfolding step_of take_of publish_of get_of tick_of crash_of compact_of aim_of
each_kind = refl

-- there is no worker 16, and a number has no leading zero and no sign
pub no_workers :
    map step_of (codes "take 16 /" ∷ codes "take 05 /" ∷ codes "publish 16" ∷ codes "publish 00" ∷ codes "get 016 /" ∷ codes "get +1 /"
    ∷ codes "publish -1" ∷ codes "publish" ∷ codes "publish " ∷ codes "take  /" ∷ [])
    ≡ None ∷ None ∷ None ∷ None ∷ None ∷ None ∷ None ∷ None ∷ None ∷ None ∷ []
unfolding step_of take_of publish_of get_of tick_of crash_of compact_of aim_of
no_workers = refl

-- a target has a byte or more, each from `!` to `~`; spaces are single, and none ends a line
pub no_targets :
    map step_of (codes "take 0" ∷ codes "take 0 " ∷ codes "get 0 " ∷ codes "take 0  /" ∷ codes "take  0 /" ∷ codes "get 0 /a /b" ∷ codes "get 0 /a "
    ∷ codes " get 0 /a" ∷ (codes "get 0 /" ++ 127 ∷ []) ∷ (codes "get 0 /" ++ 9 ∷ []) ∷ (codes "take 0 /" ++ 13 ∷ []) ∷ [])
    ≡ None ∷ None ∷ None ∷ None ∷ None ∷ None ∷ None ∷ None ∷ None ∷ None ∷ None ∷ []
unfolding step_of take_of publish_of get_of tick_of crash_of compact_of aim_of
no_targets = refl

-- the first time and the last
pub times :
    map step_of (codes "tick 0" ∷ codes "tick 4611686018427387903" ∷ [])
    ≡ Some (tick 0) ∷ Some (tick 4611686018427387903) ∷ []
unfolding step_of take_of publish_of get_of tick_of crash_of compact_of aim_of
times = refl

-- 2^62 is no time, nor what is beyond 2^64, and a time has no leading zero
pub no_times :
    map step_of (codes "tick 4611686018427387904" ∷ codes "tick 18446744073709551616" ∷ codes "tick 00" ∷ codes "tick 07" ∷ codes "tick"
    ∷ codes "tick " ∷ codes "tick 1 " ∷ codes "tick 0x1" ∷ codes "tick 1 2" ∷ [])
    ≡ None ∷ None ∷ None ∷ None ∷ None ∷ None ∷ None ∷ None ∷ None ∷ []
unfolding step_of take_of publish_of get_of tick_of crash_of compact_of aim_of
no_times = refl

-- the last number of 32 bits is one of a shelf, which need not be there
pub shelves :
    map step_of (codes "crash 15" ∷ codes "crash 4294967295" ∷ codes "compact 4294967295" ∷ [])
    ≡ Some (crash 15) ∷ Some (crash 4294967295) ∷ Some (compact 4294967295) ∷ []
unfolding step_of take_of publish_of get_of tick_of crash_of compact_of aim_of
shelves = refl

-- lines with a number of a shelf that is none are no steps
pub no_shelves :
    map step_of (codes "crash 4294967296" ∷ codes "crash 00" ∷ codes "crash 01" ∷ codes "crash" ∷ codes "crash " ∷ codes "crash  0"
    ∷ codes "crash 0 " ∷ codes "crash -1" ∷ codes "crash a" ∷ codes "crash0" ∷ [])
    ≡ None ∷ None ∷ None ∷ None ∷ None ∷ None ∷ None ∷ None ∷ None ∷ None ∷ []
unfolding step_of take_of publish_of get_of tick_of crash_of compact_of aim_of
no_shelves = refl

-- other words spell no step
pub no_steps :
    map step_of ([] ∷ codes "GET 0 /" ∷ codes "put 0 /" ∷ codes "Crash 0" ∷ codes "gets 0 /" ∷ codes "publish0" ∷ [])
    ≡ None ∷ None ∷ None ∷ None ∷ None ∷ None ∷ []
unfolding step_of take_of publish_of get_of tick_of crash_of compact_of aim_of
no_steps = refl

-- the lines of steps
pub spelled :
    lines_of (take 3 (codes "/a") ∷ publish 3 ∷ get 10 (codes "/b?c") ∷ tick 4611686018427387903 ∷ crash 10 ∷ [])
    ≡ lines (codes "take 3 /a" ∷ codes "publish 3" ∷ codes "get 10 /b?c" ∷ codes "tick 4611686018427387903" ∷ codes "crash 10" ∷ [])
unfolding digits
spelled = refl

-- a last line that no newline ends is no step, nor is an empty line; after what is no step nothing is read
pub an_open_line :
    map steps_of (codes "publish 1\npublish 2" ∷ codes "publish 1\n\npublish 2\n" ∷ [])
    ≡ (Some (publish 1) ∷ None ∷ []) ∷ (Some (publish 1) ∷ None ∷ []) ∷ []
unfolding steps_of first_step edit_head edit_with step_of take_of publish_of get_of tick_of crash_of compact_of aim_of
an_open_line = refl

-- an edit has its text after its line, with newlines in it or none, and a newline after it
pub edits :
    map steps_of (codes "edit a 3\nx\ny\ntick 7\n" ∷ codes "edit b-1 0\n\n" ∷ [])
    ≡ (Some (edit (codes "a") (codes "x\ny")) ∷ Some (tick 7) ∷ []) ∷ (Some (edit (codes "b-1") []) ∷ []) ∷ []
unfolding steps_of first_step edit_head edit_with step_of take_of publish_of get_of tick_of crash_of compact_of aim_of
edits = refl

-- a text that is cut short, one after which another byte stands than a newline, and lengths with a leading zero or above the most
pub no_edits :
    map steps_of (codes "edit a 3\nxy\n" ∷ codes "edit a 2\nxyz\n" ∷ codes "edit a 2\nxy" ∷ codes "edit a 02\nxy\n" ∷ codes "edit a\n\n"
    ∷ codes "edit a 16777217\nxy\n" ∷ [])
    ≡ (None ∷ []) ∷ (None ∷ []) ∷ (None ∷ []) ∷ (None ∷ []) ∷ (None ∷ []) ∷ (None ∷ []) ∷ []
unfolding steps_of first_step edit_head edit_with step_of take_of publish_of get_of tick_of crash_of compact_of aim_of
no_edits = refl

-- the line of an edit, those of its text and the newline after it
pub lines_of_edits : map lines_in (edit (codes "a") (codes "x\ny") ∷ edit (codes "a") [] ∷ edit (codes "a") (codes "\n\n") ∷ tick 7 ∷ []) ≡ 3 ∷ 2 ∷ 4 ∷ 1 ∷ []
lines_of_edits = refl

-- an input without a byte has no steps
pub no_lines : steps_of [] ≡ []
unfolding steps_of
no_lines = refl

-- replies with a page: its length counts its bytes, whichever they are
pub pages :
    map (reply_text 15) (replies.Page (codes "<p>\n</p>") (codes "/u") ∷ replies.Finished (codes "<p>1</p>") ∷ replies.Ended [] ∷ [])
    ≡ codes "15 200 8\n<p>\n</p>\n" ∷ codes "15 200 8\n<p>1</p>\n" ∷ codes "15 200 0\n\n" ∷ []
unfolding reply_text digits
pages = refl

-- a target that is not admitted
pub refused :
    map (λ r. reply_text 0 (replies.Refused r))
    (refusals.Unknown ∷ refusals.Revoked ∷ refusals.Closed (record { ticket = 7; entry = 1 }) ∷ refusals.Evicted 3 ∷ refusals.Expired 60 ∷ [])
    ≡ codes "0 404 unknown\n" ∷ codes "0 410 revoked\n" ∷ codes "0 410 closed\n" ∷ codes "0 410 evicted\n" ∷ codes "0 410 expired\n" ∷ []
unfolding reply_text digits
refused = refl

-- a script that stopped by itself
pub faulted :
    map (λ f. reply_text 1 (replies.Fault f))
    (faults.WrongType ∷ faults.Overflow ∷ faults.Zero ∷ faults.Bounds ∷ faults.Deep ∷ faults.Binding ∷ faults.NotPage ∷ [])
    ≡ codes "1 500 type\n" ∷ codes "1 500 overflow\n" ∷ codes "1 500 zero\n" ∷ codes "1 500 bounds\n" ∷ codes "1 500 deep\n"
    ∷ codes "1 500 binding\n" ∷ codes "1 500 page\n" ∷ []
unfolding reply_text digits
faulted = refl

-- what the shelf has no room or no strength for
pub not_served :
    map (reply_text 2)
    (replies.Fuel 9 ∷ replies.ShelfFull 1 ∷ replies.Oversize 1048577 ∷ replies.JournalFull 9 ∷ replies.DiskFault 1
    ∷ replies.Down 1 ∷ replies.Following ∷ replies.Worn ∷ replies.Memory ∷ [])
    ≡ codes "2 503 fuel\n" ∷ codes "2 503 shelf-full\n" ∷ codes "2 500 oversize\n" ∷ codes "2 503 journal-full\n"
    ∷ codes "2 503 disk\n" ∷ codes "2 503 down\n" ∷ codes "2 503 following\n" ∷ codes "2 503 worn\n" ∷ codes "2 503 memory\n"
    ∷ []
unfolding reply_text digits
not_served = refl

-- a number that was taken, a shelf that was swept, one whose file was compacted, and the replies in their places; a shelf that was opened again
pub other_texts :
    map report_text (take_report 4 (Ok 120) ∷ take_report 4 (Err replies.Worn) ∷ sweep_report 10 (Ok 0) ∷ sweep_report 10 (Err (replies.Down 3))
    ∷ compact_report 0 (Ok 330) ∷ compact_report 0 (Err (replies.JournalFull 9)) ∷ reports.Reopened 15 4096 ∷ [])
    ≡ codes "4 taken 120\n" ∷ codes "4 503 worn\n" ∷ codes "shelf 10 swept 0\n" ∷ codes "shelf 10 503 down\n" ∷ codes "shelf 0 length 330\n"
    ∷ codes "shelf 0 503 journal-full\n" ∷ codes "shelf 15 live 4096\n" ∷ []
unfolding report_text reply_text digits
other_texts = refl

-- A small stage of two shelves: the number that is drawn next, and the workers that hold a ticket.
pub record Desk : Type 0 where
  pub next : ℕ
  pub holders : List ℕ

-- whether a worker is among these
abbrev is_among : ℕ → List ℕ → Bool
is_among w [] = false
is_among w (x ∷ xs) = if x == w then true else is_among w xs

-- these workers without this one
abbrev without : ℕ → List ℕ → List ℕ
without w [] = []
without w (x ∷ xs) = if x == w then xs else x ∷ without w xs

-- what the outside decides of the events of the small stage
pub data Luck : Type 0 where
  good : Luck
  bad : Luck

-- a take of the small stage: the worker holds a ticket of the next number, or nothing happens
abbrev taken : Desk → ℕ → Luck → Result ℕ Reply × Desk
taken d w good = (Ok d.next, record { next = d.next + 1; holders = w ∷ d.holders })
taken d w bad = (Err replies.Worn, d)

-- a publish of the small stage: it ends with the words `hi`, or memory runs out, and the ticket is spent
abbrev shown : Desk → ℕ → Luck → Reply × Desk
shown d w good = (replies.Ended (codes "hi"), record { next = d.next; holders = without w d.holders })
shown d w bad = (replies.Memory, record { next = d.next; holders = without w d.holders })

-- a tick of the small stage counts as a number that was drawn, or the shelf is down
abbrev swept : Desk → ℕ → Luck → Result ℕ Reply × Desk
swept d time good = (Ok time, record { next = d.next + 1; holders = d.holders })
swept d time bad = (Err (replies.Down 1), d)

-- a compaction of the small stage tells the number that is drawn next, or the disk fails
abbrev compacted : Desk → Luck → Result ℕ Reply × Desk
compacted d good = (Ok d.next, d)
compacted d bad = (Err (replies.DiskFault 1), d)

-- a crash of the small stage takes each ticket, and a bad one the number too
abbrev crashed : Desk → Luck → ℕ × Desk
crashed d good = (d.next, record { next = d.next; holders = [] })
crashed d bad = (0, record { next = 0; holders = [] })

-- whether an event of the small stage fails
abbrev is_bad : Luck → Bool
is_bad good = false
is_bad bad = true

-- whether a target names nothing on the small stage: it begins with `#`
abbrev names_nothing : List ℕ → Bool
names_nothing [] = false
names_nothing (b ∷ bytes) = b == 35

-- how the small stage performs a take
abbrev desk_take : Desk → ℕ → List ℕ → Call Desk Luck (Result ℕ Reply)
desk_take d w target =
    if names_nothing target then answered (Err (replies.Refused refusals.Unknown)) else event (λ luck. taken d w luck)

-- how the small stage performs a publish
abbrev desk_publish : Desk → ℕ → Call Desk Luck Reply
desk_publish d w = event (λ luck. shown d w luck)

-- how the small stage performs a tick
abbrev desk_sweep : Desk → ℕ → ℕ → Call Desk Luck (Result ℕ Reply)
desk_sweep d shelf time = event (λ luck. swept d time luck)

-- how the small stage performs a compaction
abbrev desk_compact : Desk → ℕ → Call Desk Luck (Result ℕ Reply)
desk_compact d shelf = event (λ luck. compacted d luck)

-- how the small stage performs a crash
abbrev desk_crash : Desk → ℕ → Call Desk Luck ℕ
desk_crash d shelf = event (λ luck. crashed d luck)

-- an edit of the small stage: of a script whose name begins with `a` it sets the next number to how long the text is; no other
-- fits
abbrev desk_edit : Desk → (name text : List ℕ) → Option Desk
desk_edit d [] text = None
desk_edit d (b ∷ bytes) text = if b == 97 then Some (record { next = length text; holders = d.holders }) else None

-- the rules of the small stage
abbrev desk : StageRules
desk = record {
  State = Desk;
  Fate = Luck;
  plain = good;
  fails = is_bad;
  shelves = λ d. 2;
  holds = λ d w. is_among w d.holders;
  take = desk_take;
  publish = desk_publish;
  sweep = desk_sweep;
  compact = desk_compact;
  crash = desk_crash;
  edit = desk_edit;
}

-- the small stage with this next number and these workers that hold tickets
abbrev at : ℕ → List ℕ → Desk
at next holders = record { next = next; holders = holders }

-- what a run prints, how it ends, the state that it leaves and the fates that are left
abbrev seen : Run desk → List ℕ × End × Desk × List Luck
seen run = (text_of run, run.end, run.state, run.fates)

-- what a run of these lines over the small stage prints and leaves
abbrev of_lines : List (List ℕ) → List Luck → List ℕ × End × Desk × List Luck
of_lines ls fates = seen (transcript desk (at 0 []) 1 (played desk (at 0 []) (lines ls)) fates)

-- two workers take and publish in another order, and one of them never does
pub two_workers :
    of_lines (codes "take 0 /a" ∷ codes "take 1 /a" ∷ codes "take 2 /b" ∷ codes "publish 1" ∷ codes "publish 0" ∷ []) []
    ≡ (lines (codes "0 taken 0" ∷ codes "1 taken 1" ∷ codes "2 taken 2" ∷ codes "1 200 2" ∷ codes "hi" ∷ codes "0 200 2" ∷ codes "hi" ∷ []), done, at 3 (2 ∷ []), [])
unfolding transcript steps_of first_step edit_head edit_with step_of take_of publish_of get_of tick_of crash_of compact_of aim_of report_text reply_text digits
two_workers = refl

-- Fates are one an event: of a get whose take is refused one is used, and of another two. What is left is left.
pub fates_of_gets :
    of_lines (codes "get 0 /a" ∷ codes "get 0 /a" ∷ codes "get 0 /a" ∷ []) (bad ∷ good ∷ bad ∷ good ∷ good ∷ bad ∷ [])
    ≡ (lines (codes "0 503 worn" ∷ codes "0 503 memory" ∷ codes "0 200 2" ∷ codes "hi" ∷ []), done, at 2 [], bad ∷ [])
unfolding transcript steps_of first_step edit_head edit_with step_of take_of publish_of get_of tick_of crash_of compact_of aim_of report_text reply_text digits
fates_of_gets = refl

-- a tick sweeps the shelves in their order, also after one that is not swept; a fate that is not listed is plain
pub a_tick :
    of_lines (codes "tick 7" ∷ codes "tick 8" ∷ []) (bad ∷ good ∷ good ∷ [])
    ≡ (lines (codes "shelf 0 503 down" ∷ codes "shelf 1 swept 7" ∷ codes "shelf 0 swept 8" ∷ codes "shelf 1 swept 8" ∷ []), done, at 3 [], [])
unfolding transcript steps_of first_step edit_head edit_with step_of take_of publish_of get_of tick_of crash_of compact_of aim_of report_text reply_text digits
a_tick = refl

-- a publish needs a ticket, and a take or a get needs that the worker holds none; a refused take gives none
pub not_fitting :
    map (λ ls. of_lines ls (bad ∷ []))
    ((codes "publish 0" ∷ []) ∷ (codes "take 0 /a" ∷ codes "publish 0" ∷ []) ∷ (codes "get 0 /a" ∷ codes "take 1 /" ∷ codes "publish 0" ∷ [])
    ∷ (codes "take 1 /" ∷ codes "take 1 /" ∷ codes "tick 0" ∷ codes "take 1 /" ∷ []) ∷ (codes "tick 0" ∷ codes "take 1 /" ∷ codes "get 1 /" ∷ []) ∷ [])
    ≡ ([], bad_line 1, at 0 [], bad ∷ [])
    ∷ (codes "0 503 worn\n", bad_line 2, at 0 [], [])
    ∷ (lines (codes "0 503 worn" ∷ codes "1 taken 0" ∷ []), bad_line 3, at 1 (1 ∷ []), [])
    ∷ (lines (codes "1 503 worn" ∷ codes "1 taken 0" ∷ codes "shelf 0 swept 0" ∷ codes "shelf 1 swept 0" ∷ []), bad_line 4, at 3 (1 ∷ []), [])
    ∷ (lines (codes "shelf 0 503 down" ∷ codes "shelf 1 swept 0" ∷ codes "1 taken 1" ∷ []), bad_line 3, at 2 (1 ∷ []), []) ∷ []
unfolding transcript steps_of first_step edit_head edit_with step_of take_of publish_of get_of tick_of crash_of compact_of aim_of report_text reply_text digits
not_fitting = refl

-- a line that is no step ends the run: the replies before it stand, and nothing after it is played
pub a_bad_line :
    of_lines (codes "get 0 /a" ∷ codes "get 16 /a" ∷ codes "get 0 /a" ∷ []) (good ∷ good ∷ bad ∷ [])
    ≡ (lines (codes "0 200 2" ∷ codes "hi" ∷ []), bad_line 2, at 1 [], bad ∷ [])
unfolding transcript steps_of first_step edit_head edit_with step_of take_of publish_of get_of tick_of crash_of compact_of aim_of report_text reply_text digits
a_bad_line = refl

-- a take that names nothing is answered without an event: the fates are there for the events after it
pub no_event :
    of_lines (codes "take 0 #a" ∷ codes "get 0 #a" ∷ codes "get 0 /a" ∷ []) (bad ∷ good ∷ [])
    ≡ (lines (codes "0 404 unknown" ∷ codes "0 404 unknown" ∷ codes "0 503 worn" ∷ []), done, at 0 [], good ∷ [])
unfolding transcript steps_of first_step edit_head edit_with step_of take_of publish_of get_of tick_of crash_of compact_of aim_of report_text reply_text digits
no_event = refl

-- A crash takes one fate, and its tickets are gone; the shelf 2 is not there, and the run ends at its line.
pub crashes :
    of_lines (codes "take 0 /a" ∷ codes "take 1 /a" ∷ codes "crash 1" ∷ codes "take 0 /b" ∷ codes "crash 0" ∷ codes "crash 2" ∷ codes "tick 1" ∷ [])
    (good ∷ good ∷ good ∷ good ∷ bad ∷ bad ∷ [])
    ≡ (lines (codes "0 taken 0" ∷ codes "1 taken 1" ∷ codes "shelf 1 live 2" ∷ codes "0 taken 2" ∷ codes "shelf 0 live 0" ∷ []), bad_line 6, at 0 [], bad ∷ [])
unfolding transcript steps_of first_step edit_head edit_with step_of take_of publish_of get_of tick_of crash_of compact_of aim_of report_text reply_text digits
crashes = refl

-- A compaction takes one fate, and tickets stay; the shelf 2 is not there, and the run ends at its line.
pub compactions :
    of_lines (codes "take 0 /a" ∷ codes "compact 1" ∷ codes "compact 0" ∷ codes "publish 0" ∷ codes "compact 2" ∷ codes "tick 1" ∷ [])
    (good ∷ good ∷ bad ∷ good ∷ bad ∷ [])
    ≡ (lines (codes "0 taken 0" ∷ codes "shelf 1 length 1" ∷ codes "shelf 0 503 disk" ∷ codes "0 200 2" ∷ codes "hi" ∷ []), bad_line 5, at 1 [], bad ∷ [])
unfolding transcript steps_of first_step edit_head edit_with step_of take_of publish_of get_of tick_of crash_of compact_of aim_of report_text reply_text digits
compactions = refl

-- An edit brings the crash of each shelf, in order, each with a fate. Lines are counted inside its text too, and an edit that does not fit
-- ends the run at its own line.
pub edits_crash :
    of_lines (codes "take 0 /a" ∷ codes "edit a 3" ∷ codes "x" ∷ codes "y" ∷ codes "take 0 /b" ∷ codes "edit b 0" ∷ [] ∷ []) (good ∷ good ∷ bad ∷ bad ∷ [])
    ≡ (lines (codes "0 taken 0" ∷ codes "shelf 0 live 3" ∷ codes "shelf 1 live 0" ∷ codes "0 503 worn" ∷ []), bad_line 6, at 0 [], [])
unfolding transcript steps_of first_step edit_head edit_with step_of take_of publish_of get_of tick_of crash_of compact_of aim_of report_text reply_text digits
edits_crash = refl
