-- Runs of the machine over a script with a task, computed.
use Rattle.std.specs.Prelude.{◌≡◌, ℕ, pos, List, [], ◌∷◌, refl, codes}
use Rattle.std.specs.Fmt.{digits}
use Rattle.script_value.specs.Val.{number, text, symbol}
use Rattle.script_value.specs.declared.outcome.Op.TheVariants as op
use Rattle.script_nodes.specs.declared.script.SendKind.TheVariants.{Suspend}
use Rattle.script_nodes.specs.Core.{Core, lit, var, prim, call, send, isolate, seq, no_cores, cores_of}
use Rattle.script_nodes.specs.Arena.{Arena, arena_of}
use Rattle.replay_spec.specs.Tape.{present, shows, ends, paged}
use Rattle.machine_states.specs.Machine.{in_operand, in_seq, in_isolate, in_task, Suspended, steps}
use Rattle.machine_states.specs.Laws.{started, resumed, alone}
use Rattle.machine_states.specs.Vectors.{sym, now, pair, seen}

-- an expression whose value is this text
abbrev says : List ℕ → Core
says words = lit (text words)

-- a script with a task that asks for a number under words; two numbers are asked for and added
abbrev pub ask : Arena
ask = arena_of (record {
  web = [];
  cells = [];
  tasks = cores_of (
      prim op.StringToNumber (cores_of (prim op.ExtractBindingSingle (cores_of (sym (codes "n")
      ∷ send Suspend (prim op.List (cores_of (sym (codes "a") ∷ prim op.List (cores_of (prim op.List (cores_of (sym (codes "href") ∷ var 1 ∷ [])) ∷ [])) ∷ var 0 ∷ []))) ∷ []))
      ∷ [])) ∷ []);
  body =
      prim op.List (cores_of (sym (codes "p") ∷ prim op.NumberToString (cores_of (prim op.Add (cores_of (call 0 (cores_of (says (codes "1") ∷ [])) ∷ call 0 (cores_of (says (codes "2") ∷ [])) ∷ [])) ∷ []))
      ∷ []));
})

-- the body of the task is the tree at node 8
task_begins : ask.tasks ≡ 8 ∷ []
task_begins = refl

-- what is kept at the first page: the body is the part of number 1 of the call, node 4, whose caller has no variable; it has its
-- parameter alone
abbrev pub first_page : Suspended
first_page = record {
  env = text (codes "1") ∷ [];
  frames = in_operand 9 (symbol (codes "n") ∷ []) ∷ in_operand 8 [] ∷ in_task 4 1 [] ∷ in_operand 3 [] ∷ in_operand 2 [] ∷ in_operand 0 (symbol (codes "p") ∷ []) ∷ [];
  shadows = [];
}

-- the first segment stops at a page inside the task, and keeps the frames of the call
ask_first : seen (steps ask 27 (started ask (alone (now 0) (present [] 100))))
    ≡ record { outcome = paged (shows Suspend) (codes "<a href=\"/servlets/sum;0*0*0*0000000000000000\">1</a>"); kept = first_page; cost = 69 }
ask_first = refl

-- what is kept at the second page, after the answer 3: the body is called again, by node 6, with the first number done in the sum
abbrev second_page : Suspended
second_page = record {
  env = text (codes "2") ∷ [];
  frames = in_operand 9 (symbol (codes "n") ∷ []) ∷ in_operand 8 [] ∷ in_task 6 1 [] ∷ in_operand 3 (number (pos 3) ∷ []) ∷ in_operand 2 [] ∷ in_operand 0 (symbol (codes "p") ∷ []) ∷ [];
  shadows = [];
}

-- the second segment goes on in the task, and stops at the page of the second call
ask_second : seen (steps ask 26 (resumed ask first_page (record { value = pair (codes "3"); segment = record (now 1) { reads = present [] 100 } })))
    ≡ record { outcome = paged (shows Suspend) (codes "<a href=\"/servlets/sum;0*0*0*0000000000000000\">2</a>"); kept = second_page; cost = 63 }
ask_second = refl

-- after the answer 4 the two numbers are added
ask_last : seen (steps ask 7 (resumed ask second_page (record { value = pair (codes "4"); segment = record (now 2) { reads = present [] 100 } })))
    ≡ record { outcome = paged ends (codes "<p>7</p>"); kept = record { env = []; frames = []; shadows = [] }; cost = 0 }
unfolding digits
ask_last = refl

-- a script with a transaction in a task without parameters
abbrev pay : Arena
pay = arena_of (record { web = []; cells = []; tasks = cores_of (isolate (send Suspend (says (codes "card"))) ∷ []); body = seq (cores_of (call 0 no_cores ∷ says (codes "end") ∷ [])) })

-- the frame of a transaction in a task stands inside that of the task
pay_card : seen (steps pay 6 (started pay (alone (now 0) (present [] 100))))
    ≡ record {
      outcome = paged (shows Suspend) (codes "card");
      kept = record { env = []; frames = in_isolate 3 (record { ticket = 0; entry = 0 }) ∷ in_task 1 0 [] ∷ in_seq 0 0 ∷ []; shadows = [] };
      cost = 10;
    }
pay_card = refl
