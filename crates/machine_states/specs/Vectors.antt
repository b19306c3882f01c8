-- Runs of the machine, computed.
use Rattle.std.specs.Prelude.{◌≡◌, ℕ, pos, List, [], ◌∷◌, refl, codes}
use Rattle.script_value.specs.Val.{Val, number, text, symbol, list, no_vals, val}
use Rattle.script_value.specs.declared.outcome.Op.TheVariants as op
use Rattle.script_nodes.specs.declared.script.SendKind.TheVariants.{Suspend}
use Rattle.script_nodes.specs.Core.{Core, lit, var, bind, prim, seq, send, isolate, cell_shadow, no_cores, cores_of}
use Rattle.script_nodes.specs.Arena.{Arena, arena_of}
use Rattle.replay_spec.specs.Tape.{present, Now, recorded, shows, ends, Outcome, paged}
use Rattle.machine_states.specs.Machine.{in_binding, in_operand, in_seq, in_isolate, Suspended, Step, goes, stopped, steps}
use Rattle.machine_states.specs.Laws.{started, resumed, alone}

-- a literal of this symbol
abbrev pub sym : List ℕ → Core
sym s = lit (symbol s)

-- an expression that shows a link to the next page, and gives the number that the visitor answers
abbrev asked : List ℕ → Core
asked words =
    prim op.StringToNumber (cores_of (prim op.ExtractBindingSingle (cores_of (sym (codes "n")
    ∷ send Suspend (prim op.List (cores_of (sym (codes "a") ∷ prim op.List (cores_of (prim op.List (cores_of (sym (codes "href") ∷ var 0 ∷ [])) ∷ [])) ∷ lit (text words) ∷ []))) ∷ []))
    ∷ []))

-- the nodes of a script of this expression, with one web cell that begins with 5
abbrev script : Core → Arena
script c = arena_of (record { web = number (pos 5) ∷ []; cells = []; tasks = no_cores; body = c })

-- a script that asks for two numbers and adds them
abbrev sum : Arena
sum = script (bind (cores_of (asked (codes "1") ∷ asked (codes "2") ∷ []))
    (prim op.List (cores_of (sym (codes "p") ∷ prim op.NumberToString (cores_of (prim op.Add (cores_of (var 0 ∷ var 1 ∷ [])) ∷ [])) ∷ []))))

-- a segment of this number that reads nothing
abbrev pub now : ℕ → Now
now n = record { number = n; url = codes "/servlets/sum;0*0*0*0000000000000000"; reads = recorded [] }

-- how a machine stopped, what is kept of it, and what its segment cost
pub record Seen : Type 0 where
  pub outcome : Outcome
  pub kept : Suspended
  pub cost : ℕ

-- what a step that stopped came to, with what is kept
abbrev pub seen : Step → Seen
seen (stopped o names d s) = record { outcome = o; kept = d; cost = s.cost }
seen (goes m) = record { outcome = paged ends []; kept = record { env = m.point.env; frames = m.point.frames; shadows = [] }; cost = 0 }

-- what is kept at the first page: a `let` in its part 0, an operation with nothing done, and an operation with a symbol done
abbrev first_page : Suspended
first_page = record { env = []; frames = in_operand 2 (symbol (codes "n") ∷ []) ∷ in_operand 1 [] ∷ in_binding 0 [] ∷ []; shadows = [] }

-- the first segment of the sum stops at its first page, with three frames, at cost 60 in 20 steps
sum_first : seen (steps sum 20 (started sum (alone (now 0) (present [] 60))))
    ≡ record { outcome = paged (shows Suspend) (codes "<a href=\"/servlets/sum;0*0*0*0000000000000000\">1</a>"); kept = first_page; cost = 60 }
sum_first = refl

-- the bindings of a query with this one pair
abbrev pub pair : List ℕ → Val
pair v = list (val (list (val (symbol (codes "n")) (val (text v) no_vals))) no_vals)

-- what is kept at the second page, after the answer 3: the second binding is worked on
abbrev second_page : Suspended
second_page = record { env = []; frames = in_operand 13 (symbol (codes "n") ∷ []) ∷ in_operand 12 [] ∷ in_binding 0 (number (pos 3) ∷ []) ∷ []; shadows = [] }

-- the second segment of the sum goes on from what was kept, and stops at its second page
sum_second : seen (steps sum 22 (resumed sum first_page (record { value = pair (codes "3"); segment = record (now 1) { reads = present [] 100 } })))
    ≡ record { outcome = paged (shows Suspend) (codes "<a href=\"/servlets/sum;0*0*0*0000000000000000\">2</a>"); kept = second_page; cost = 59 }
sum_second = refl

-- an expression that shows a page of these words and waits
abbrev page : List ℕ → Core
page words = send Suspend (lit (text words))

-- a script of a page, and after a shadow a page in a transaction
abbrev pay : Arena
pay = script (seq (cores_of (page (codes "cart") ∷ isolate (seq (cores_of (cell_shadow 0 (lit (number (pos 7))) ∷ page (codes "card") ∷ []))) ∷ [])))

-- the segment of number 1 entered the transaction, and bound the cell
pay_card : seen (steps pay 10 (resumed pay (record { env = []; frames = in_seq 0 0 ∷ []; shadows = [] }) (record { value = list no_vals; segment = record (now 1) { reads = present [] 100 } })))
    ≡ record {
      outcome = paged (shows Suspend) (codes "card");
      kept = record { env = []; frames = in_seq 4 1 ∷ in_isolate 3 (record { ticket = 1; entry = 0 }) ∷ in_seq 0 1 ∷ []; shadows = (0, number (pos 7)) ∷ [] };
      cost = 12;
    }
pay_card = refl
