-- Runs of scripts with tasks, computed.
use Rattle.std.specs.Prelude.{◌≡◌, ℕ, pos, List, [], ◌∷◌, ◌++◌, map, codes, refl}
use Rattle.std.specs.Fmt.{digits}
use Rattle.script_value.specs.Val.{Val, number, text, symbol, list, no_vals, val}
use Rattle.script_value.specs.declared.outcome.Op.TheVariants as op
use Rattle.script_value.specs.declared.outcome.Refusal.TheVariants.{Closed}
use Rattle.script_nodes.specs.PageNames.Names.{start}
use Rattle.script_nodes.specs.declared.script.SendKind.TheVariants.{Suspend}
use Rattle.script_nodes.specs.Core.{Core, lit, var, bind, seq, prim, call, send, isolate, inst_ref, inst_add, no_cores, cores_of}
use Rattle.script_nodes.specs.Setup.{Script, Named}
use Rattle.replay_spec.specs.Tape.{present, recorded, Now, Tape, Outcome, paged, shows, ends}
use Rattle.replay_spec.specs.Eval.{run}
use Rattle.replay_spec.specs.Step.{taken, refusal, step}
use Rattle.replay_spec.specs.Samples.{name, rules, opened, Answers, at, link_to, takes, get, nothing, says, link, transaction}

-- a script of these instance cells, tasks and expression
abbrev script : List Val → List Core → Core → Named
script cells tasks body = record { name = name; text = []; script = record { web = []; cells = cells; tasks = cores_of tasks; body = body } }

-- a literal of this symbol
abbrev sym : List ℕ → Core
sym s = lit (symbol s)

-- `(string->number (extract-binding/single 'n (send/suspend (lambda (u) (list 'a (list (list 'href u)) t)))))`, t being the parameter
abbrev asking : Core
asking =
    prim op.StringToNumber (cores_of (prim op.ExtractBindingSingle (cores_of (sym (codes "n")
    ∷ send Suspend (prim op.List (cores_of (sym (codes "a") ∷ prim op.List (cores_of (prim op.List (cores_of (sym (codes "href") ∷ var 1 ∷ [])) ∷ [])) ∷ var 0 ∷ []))) ∷ []))
    ∷ []))

-- a script that asks for two numbers by one task, and adds them
abbrev ask : Named
ask = script [] (asking ∷ [])
    (prim op.List (cores_of (sym (codes "p") ∷ prim op.NumberToString (cores_of (prim op.Add (cores_of (call 0 (cores_of (says (codes "1") ∷ [])) ∷ call 0 (cores_of (says (codes "2") ∷ [])) ∷ [])) ∷ [])) ∷ [])))

-- the bindings of a query with this one pair
abbrev n_is : List ℕ → Val
n_is v = list (val (list (val (symbol (codes "n")) (val (text v) no_vals))) no_vals)

-- a run stops at a page with a link of these words
abbrev linked : List ℕ → Outcome
linked words = paged (shows Suspend) (codes "<a href=\"u\">" ++ words ++ codes "</a>")

-- a segment of this number that read nothing
abbrev segment : ℕ → Now
segment n = record { number = n; url = codes "u"; reads = recorded [] }

-- a tape of these answers, whose segments read nothing
abbrev over : List Val → Tape
over answers = record { first = segment 0; later = map (λ v. record { value = v; segment = segment 1 }) answers }

-- without an answer the run stops at the page of the first call
pub asked_once : (run ask.script (over [])).outcome ≡ linked (codes "1")
asked_once = refl

-- with one answer the run stops at the page of the second call
pub asked_twice : (run ask.script (over (n_is (codes "3") ∷ []))).outcome ≡ linked (codes "2")
asked_twice = refl

-- with two answers both calls give their numbers, which are added
pub added : (run ask.script (over (n_is (codes "3") ∷ n_is (codes "4") ∷ []))).outcome ≡ paged ends (codes "<p>7</p>")
unfolding digits
added = refl

-- a script of a cart, a task with a transaction of two pages, and a receipt
abbrev pay : Named
pay = script (number (pos 0) ∷ [])
    (isolate (seq (cores_of (link (codes "card") ∷ link (codes "pay") ∷ inst_add 0 (lit (number (pos 1))) ∷ []))) ∷ [])
    (seq (cores_of (link (codes "cart") ∷ call 0 no_cores ∷ send Suspend (prim op.NumberToString (cores_of (inst_ref 0 ∷ []))) ∷ says (codes "end") ∷ [])))

-- a transaction in a task is left and closed as one of the expression is: a payment is made once
pub paid_once :
    Answers (opened rules pay)
    (get (start name) nothing 0 ++ get (at 0 0 0) nothing 1 ++ get (at 0 1 1) nothing 2 ++ get (at 0 1 1) nothing 3 ++ get (at 0 2 2) nothing 4
    ++ takes (at 0 1 1) nothing ∷ takes (at 0 3 3) nothing ∷ get (at 0 0 0) nothing 5)
    (taken 0 0 ∷ link_to (codes "cart") 0 0 ∷ taken 1 1 ∷ link_to (codes "card") 0 1 ∷ taken 2 2 ∷ link_to (codes "pay") 0 2 ∷ taken 3 3 ∷ link_to (codes "pay") 0 3
    ∷ taken 4 4 ∷ link_to (codes "1") 0 4 ∷ refusal (Closed (transaction 1)) ∷ refusal (Closed (transaction 1)) ∷ taken 5 5 ∷ link_to (codes "card") 0 5 ∷ [])
unfolding step digits
paid_once = refl

-- a script of two tasks, of which the second calls the first twice; the variables of a body are its parameters alone
abbrev twice : Script
twice = record {
  web = [];
  cells = [];
  tasks = cores_of (
      prim op.StringAppend (cores_of (var 1 ∷ var 0 ∷ []))
      ∷ call 0 (cores_of (call 0 (cores_of (var 0 ∷ says (codes "b") ∷ [])) ∷ says (codes "c") ∷ []))
      ∷ []);
  body = bind (cores_of (says (codes "x") ∷ [])) (prim op.StringAppend (cores_of (call 1 (cores_of (says (codes "a") ∷ [])) ∷ var 0 ∷ [])));
}

-- a tape without an answer, over no cell, with a fuel of 100
abbrev alone : Tape
alone = record { first = record { number = 0; url = []; reads = present [] 100 }; later = [] }

-- a call is one charge of 1: the Let 1, its literal 3, the operation 1, the outer call 1, its operand 3, the calls in its body 2, their
-- operands 3, 3 and 3, the operations of the first task 2 with operands of 3, 3, 3 and 4, and the last variable 3
pub twice_run : run twice alone ≡ record { outcome = paged ends (codes "cbax"); entered = []; effects = []; left = []; cost = 38 }
twice_run = refl

-- a task without parameters has no variable, though the caller has
pub no_parameters :
    (run (record { web = []; cells = []; tasks = cores_of (var 0 ∷ []); body = bind (cores_of (says (codes "x") ∷ [])) (prim op.Not (cores_of (call 0 no_cores ∷ []))) }) alone).cost ≡ 8
no_parameters = refl
