-- From one expression to a script.
use Rattle.std.proofs.Common.{◌≡◌, ℕ, ◌+◌, ◌≤◌, Bool, true, false, List, [], ◌∷◌, length, Result, Ok, Err, refl, sym, subst, ap, ◌∙◌, arith}
use Rattle.std.proofs.lemmas.Bool.Decides.{nat_tests}
use Rattle.std.specs.Prelude.{codes, if◌then◌else◌}
use Rattle.script_value.specs.Val.{Val}
use Rattle.script_nodes.specs.declared.script.Node.{Node}
use Rattle.core_syntax.specs.declared.faults.SyntaxKind.{SyntaxKind}
use Rattle.core_syntax.specs.declared.faults.SyntaxKind.TheVariants.{Shape}
use Rattle.script_nodes.specs.Core.{Core, Cores, core, cores_of, count, count_all, height_all}
use Rattle.script_nodes.specs.Arena.{IsScript, script_of, arena_of}
use Rattle.script_nodes.specs.Layout.{layout_all, starts}
use Rattle.script_nodes.specs.Setup.{Script}
use Rattle.core_syntax.specs.Laid.{StandScript}
use Rattle.script_nodes.specs.Closed.{IsClosed, AreBodies}
use Rattle.core_syntax.specs.Expands.{IsLevel}
use Rattle.core_syntax.specs.Names.{◌>>=◌, parameters_in}
use Rattle.core_syntax.specs.Headings.{definition_of, is_definition, names_defined, task_of}
use Rattle.core_syntax.specs.Definitions.{Defined, nothing_defined, definable, definition_seen, task_definable, task_read, with_cell, form_defined, are_too_many, limited, at_form, begins_well, expanded, expanded_from, told}
use Rattle.core_syntax.specs.Forms.{core_of}
use Rattle.core_syntax.specs.Rows.{row_of}
use Rattle.core_syntax.specs.Shapes.{is_headed}
use Rattle.core_syntax.proofs.ByRow.{core_by_row}
use Rattle.core_syntax.proofs.Holds.{Holds}
use Rattle.core_syntax.proofs.Closed.{closed_core}
use Rattle.script_nodes.proofs.Scripts.{script_laid}

within_limits : (cs : Cores) → count_all cs ≤ 16384 → height_all cs ≤ 1024 → are_too_many cs ≡ false
within_limits cs p q = grind (arith, nat_tests)

closed_in : (r : Result Core SyntaxKind) (c : Core) (P : Core → Type 0) → Holds P r → r ≡ Ok c → P c
closed_in (Ok x) c P h e = let f : x ≡ c = cc in rw (← f) h
closed_in (Err k) c P h e = absurd (let no : ⊥ = cc in no)

-- the tree of an expression with these cells and tasks is closed
pub expression_closed : (d : Defined) (v : Val) (c : Core) → IsLevel d → core_of d.names [] false v ≡ Ok c → IsClosed (length d.web) (length d.cells) (parameters_in d.names) 0 false c
expression_closed d v c l e =
    let ks = parameters_in d.names in
    let k : IsClosed (length d.names.web) (length d.names.instance) ks 0 false c =
    closed_in (core_of d.names [] false v) c (λ c. IsClosed (length d.names.web) (length d.names.instance) ks 0 false c) (closed_core d.names [] false v) e in
    subst (λ (w : ℕ). IsClosed w (length d.cells) ks 0 false c) (sym l.web) (subst (λ (i : ℕ). IsClosed (length d.names.web) i ks 0 false c) (sym l.cells) k)

-- so are the bodies of its tasks
pub bodies_closed : (d : Defined) → IsLevel d → AreBodies (length d.web) (length d.cells) [] (parameters_in d.names) (cores_of d.tasks)
bodies_closed d l =
    let ks = parameters_in d.names in
    let cs = cores_of d.tasks in
    subst (λ (w : ℕ). AreBodies w (length d.cells) [] ks cs) (sym l.web) (subst (λ (i : ℕ). AreBodies (length d.names.web) i [] ks cs) (sym l.cells) l.tasks)

-- what an expression's nodes are, and those of bodies after them, where they fitted
pub record Made (d : Defined) (v : Val) (number : ℕ) (nodes : List Node) (firsts : List ℕ) : Type 0 where
  pub script : IsScript (record { nodes = nodes; web = d.web; cells = d.cells; tasks = firsts })
  pub table : at_form number (limited d (core_of d.names [] false v)) ≡ Ok (script_of (record { nodes = nodes; web = d.web; cells = d.cells; tasks = firsts }))

pub made : (d : Defined) (v : Val) (c : Core) (number : ℕ) (old nodes : List Node) (firsts : List ℕ)
    → IsLevel d → core_of d.names [] false v ≡ Ok c → old ≡ [] → StandScript old nodes firsts c (cores_of d.tasks) → Made d v number nodes firsts
made d v c number old nodes firsts l e o s =
    let cs = cores_of d.tasks in
    let means : Script = record { web = d.web; cells = d.cells; tasks = cs; body = c } in
    let none : length old ≡ 0 = ap length o in
    let start : length old + count c ≡ count c = omega arith in
    let same : nodes ≡ layout_all 0 (core c cs) = s.behind ∙ rw o refl in
    let places : firsts ≡ starts (count c) cs = s.first ∙ ap (λ k. starts k cs) start in
    let fits : are_too_many (core c cs) ≡ false = within_limits (core c cs) (let r = s.room in omega arith) s.low in
    let laid = script_laid means (parameters_in d.names) (expression_closed d v c l e) (bodies_closed d l) in
    let arena : arena_of means ≡ record { nodes = nodes; web = d.web; cells = d.cells; tasks = firsts } =
    λ i. record { nodes = sym same i; web = d.web; cells = d.cells; tasks = sym places i } in
    record {
      script = subst IsScript arena laid.0;
      table = rw (e, fits) (ap (λ (t : Script). Ok t) (sym laid.1 ∙ ap script_of arena));
    }

first_fault : {A : Type 0} (r : Result A SyntaxKind) (k : SyntaxKind) → told r ≡ Err k → r ≡ Err k
first_fault (Ok x) k e = absurd (let no : ⊥ = cc in no)
first_fault (Err j) k e = cc

err_then : {A B : Type 0} (r : Result A SyntaxKind) (f : A → Result B SyntaxKind) (k : SyntaxKind) → r ≡ Err k → r >>= f ≡ Err k
err_then r f k e = rw e refl

bad_by : {A B C : Type 0} (b : Bool) (r : Result A SyntaxKind) (q : Result B SyntaxKind) (f : A → Result C SyntaxKind) (g : B → Result C SyntaxKind) (k : SyntaxKind)
    → (if b then told r else told q) ≡ Err k → (if b then (r >>= f) else (q >>= g)) ≡ Err k
bad_by true r q f g k h = err_then r f k (first_fault r k h)
bad_by false r q f g k h = err_then q g k (first_fault q k h)

bad_definition : (v : Val) (vs : List Val) (k : SyntaxKind) → definition_seen v vs nothing_defined ≡ Err k → form_defined v vs nothing_defined ≡ Err k
bad_definition v vs k h =
    let later = names_defined (v ∷ vs) in
    bad_by (is_headed (codes "define") v) (definable (definition_of v) nothing_defined) (task_definable (task_of v) later nothing_defined)
    (λ x. Ok (with_cell x nothing_defined)) (task_read later nothing_defined) k h

bad_first : (v : Val) (vs : List Val) (k : SyntaxKind) (b : Bool) → is_definition v ≡ b → begins_well (v ∷ vs) ≡ Err k
    → expanded_from 0 nothing_defined (v ∷ vs) ≡ Err (k, 0)
bad_first v vs k true e h =
    let f : form_defined v vs nothing_defined ≡ Err k = bad_definition v vs k (rw e at h) in
    rw (e, f) refl
bad_first v [] k false e h =
    let f : row_of nothing_defined.names [] false v ≡ Err k = first_fault (row_of nothing_defined.names [] false v) k (rw e at h) in
    let g : core_of nothing_defined.names [] false v ≡ Err k = core_by_row nothing_defined.names [] false v ∙ rw f refl in
    rw (e, g) refl
bad_first v (w ∷ vs) k false e h = let s : Shape ≡ k = (let i = rw e at h in cc) in rw (e, s) refl

pub begins_badly : (vs : List Val) (k : SyntaxKind) → begins_well vs ≡ Err k → expanded vs ≡ Err (k, 0)
unfolding expanded
begins_badly [] k e = let s : Shape ≡ k = cc in rw s refl
begins_badly (v ∷ vs) k e = bad_first v vs k (is_definition v) refl e
