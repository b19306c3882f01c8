-- Lines read as events, computed.
use Rattle.std.specs.Prelude.{◌≡◌, ℕ, List, [], ◌∷◌, ◌++◌, map, replicate, Some, None, codes, refl}
use Rattle.percent_encoding.specs.Percent.{percent_decode}
use Rattle.page_names.specs.Names.{start, destination_of, named_by}
use Rattle.replay_spec.specs.Rules.{Rules}
use Rattle.replay_spec.specs.Next.{Ticket}
use Rattle.replay_spec.specs.Step.{Fate, plain, no_memory, Reply, taken, shown, ended, swept, memory}
use Rattle.replay_spec.specs.Step as event
use Rattle.play_steps.specs.Step.{take, publish, get, tick, edit}
use Rattle.play_steps.specs.declared.report.Report.TheVariants.{Taken, Replied, Swept}
use Rattle.script_value.specs.declared.outcome.Refusal.TheVariants.{Unknown}
use Rattle.script_value.specs.declared.outcome.Reply.TheVariants.{Refused, Ended}
use Rattle.script_nodes.specs.Setup.{Named}
use Rattle.play_steps.specs.Transcript.{bad_line, transcript}
use Rattle.play_desk.specs.Target.{answer_to}
use Rattle.play_desk.specs.Edits.{placed_at}
use Rattle.play_desk.specs.Desk.{first_desk}
use Rattle.play_desk.specs.Ledger.{Entry, reading, events_of}

-- the ticket of a visit of the script `s` without a query
abbrev ticket : (number nonce : ℕ) → Ticket
ticket n m = record { target = start (codes "s"); answer = answer_to []; number = n; nonce = m }

-- a take of the script `s` on shelf 0, with what it was answered
abbrev taking : Fate → Reply → Entry
taking fate r = record { shelf = 0; event = event.take (start (codes "s")) (answer_to []); fate = fate; reply = r }

-- the publish of a ticket on shelf 0, with what it was answered
abbrev publishing : (number nonce : ℕ) → Reply → Entry
publishing n m r = record { shelf = 0; event = event.publish (ticket n m); fate = plain; reply = r }

-- A publish is of the ticket that the worker's take was given, and a path that names nothing is no event and takes no reply.
-- Nothing is read after a line that does not fit.
pub lines_are_events :
    (rules : ℕ → Rules) (scripts : List Named)
    → reading (first_desk rules scripts 1) 1 (map Some (take 0 (codes "/servlets/s") ∷ take 1 (codes "/") ∷ publish 0 ∷ publish 0 ∷ tick 60 ∷ [])) []
    (taken 7 8 ∷ ended (codes "bye") ∷ memory ∷ [])
    ≡ record {
      told = Taken 0 7 ∷ Replied 1 (Refused Unknown) ∷ Replied 0 (Ended (codes "bye")) ∷ [];
      end = bad_line 4;
      state = record {
        scripts = scripts;
        count = 1;
        held = (first_desk rules scripts 1).held;
        replies = memory ∷ [];
        entries = taking plain (taken 7 8) ∷ publishing 7 8 (ended (codes "bye")) ∷ [];
      };
      fates = [];
    }
unfolding transcript destination_of named_by percent_decode
lines_are_events rules scripts = refl

-- a get whose take is given a ticket is two events
pub a_get_is_two_events :
    (rules : ℕ → Rules) (scripts : List Named)
    → events_of (first_desk rules scripts 1) 1 (map Some (get 2 (codes "/servlets/s") ∷ [])) [] (taken 3 4 ∷ shown (codes "p") (codes "u") ∷ [])
    ≡ taking plain (taken 3 4) ∷ publishing 3 4 (shown (codes "p") (codes "u")) ∷ []
unfolding transcript destination_of named_by percent_decode
a_get_is_two_events rules scripts = refl

-- a take that is given no ticket is an event too, and the worker may take again; a tick is a sweep of the shelf
pub refusals_are_events :
    (rules : ℕ → Rules) (scripts : List Named)
    → events_of (first_desk rules scripts 1) 1 (map Some (take 0 (codes "/servlets/s") ∷ get 0 (codes "/servlets/s") ∷ tick 60 ∷ [])) (no_memory ∷ [])
    (memory ∷ memory ∷ swept 0 ∷ [])
    ≡ taking no_memory memory ∷ taking plain memory ∷ record { shelf = 0; event = event.sweep 60; fate = plain; reply = swept 0 } ∷ []
unfolding transcript destination_of named_by percent_decode
refusals_are_events rules scripts = refl

-- a path that names nothing takes no fate from the event after it
pub what_names_nothing_takes_no_fate :
    (rules : ℕ → Rules) (scripts : List Named)
    → events_of (first_desk rules scripts 1) 1 (map Some (take 0 (codes "/") ∷ take 0 (codes "/servlets/s") ∷ [])) (no_memory ∷ []) (memory ∷ [])
    ≡ taking no_memory memory ∷ []
unfolding transcript destination_of named_by percent_decode
what_names_nothing_takes_no_fate rules scripts = refl

-- a script is put in the place of the one of its name, or after the others, and a sixteenth one nowhere
pub scripts_are_placed :
    (a b s : Named)
    → placed_at (a ∷ b ∷ []) s (Some 0) ∷ placed_at (a ∷ b ∷ []) s None ∷ placed_at (replicate 14 a) s None ∷ placed_at (replicate 15 a) s None ∷ []
    ≡ Some (s ∷ b ∷ []) ∷ Some (a ∷ b ∷ s ∷ []) ∷ Some (replicate 14 a ++ s ∷ []) ∷ None ∷ []
scripts_are_placed a b s = refl

-- an edit under what is no script's name does not fit, and ends the run
pub what_is_no_name_ends_a_run :
    (rules : ℕ → Rules) (scripts : List Named)
    → reading (first_desk rules scripts 1) 1 (map Some (tick 60 ∷ edit (codes "a b") [] ∷ tick 60 ∷ [])) [] (swept 0 ∷ [])
    ≡ record {
      told = Swept 0 0 ∷ [];
      end = bad_line 2;
      state = record {
        scripts = scripts;
        count = 1;
        held = (first_desk rules scripts 1).held;
        replies = [];
        entries = record { shelf = 0; event = event.sweep 60; fate = plain; reply = swept 0 } ∷ [];
      };
      fates = [];
    }
unfolding transcript
what_is_no_name_ends_a_run rules scripts = refl
