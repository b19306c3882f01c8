-- One form after the other.
use Rattle.std.proofs.Common.{◌≡◌, ℕ, ◌+◌, Bool, true, false, List, [], ◌∷◌, ◌++◌, length, Option, Some, None, Result, Ok, Err, refl, sym, subst, arith, length-append}
use Rattle.std.specs.Prelude.{codes, nat_lt, nat_le, ◌||◌, if◌then◌else◌}
use Rattle.std.proofs.lemmas.List.{map-append}
use Rattle.script_value.specs.Val.{Val}
use Rattle.core_syntax.specs.declared.faults.SyntaxKind.{SyntaxKind}
use Rattle.core_syntax.specs.declared.faults.SyntaxKind.TheVariants.{Duplicate, TooMany}
use Rattle.core_syntax.specs.declared.heads.CellKind.{CellKind}
use Rattle.core_syntax.specs.declared.heads.CellKind.TheVariants.{Web, Instance}
use Rattle.script_nodes.specs.Core.{Core, cores_of}
use Rattle.script_nodes.specs.Closed.{IsClosed, AreBodies}
use Rattle.core_syntax.specs.Names.{◌>>=◌, is_taken, parameters_in, repeats, Task}
use Rattle.core_syntax.specs.Shapes.{is_headed}
use Rattle.core_syntax.specs.Forms.{body_of}
use Rattle.core_syntax.specs.Headings.{Definition, definition_of, is_definition, names_defined, symbols_in, TaskForm, task_of}
use Rattle.core_syntax.specs.Expands.{IsLevel, IsOpen}
use Rattle.core_syntax.specs.Definitions.{Defined, nothing_defined, with_cell, with_later, with_task, defined, task_defined, task_within, form_defined, expanded, expanded_from}
use Rattle.core_syntax.proofs.Holds.{Holds}
use Rattle.core_syntax.proofs.Closed.{Closed, closed_body}
use Rattle.core_syntax.proofs.Growing.{bodies_more, bodies_last}

abbrev pub total : Defined → ℕ
total d = length d.names.web + length d.names.instance + length d.names.tasks

-- what is defined so far
pub record Stays (d : Defined) : Type 0 where
  pub level : IsLevel d
  pub opened : IsOpen d

-- before the first form
pub starts_level : (d : Defined) (vs : List Val) → d ≡ nothing_defined → Stays d × (expanded vs ≡ expanded_from (total d) d vs)
unfolding expanded
starts_level d vs e = rw e (record { level = record { web = refl; cells = refl; tasks = tt }; opened = refl }, refl)

-- one more than is defined
pub record Next (s t : Defined) : Type 0 where
  pub stays : Stays t
  pub one : total t ≡ total s + 1

next_cell : (kind : CellKind) (name : List ℕ) (v : Val) (s : Defined) → Stays s → Next s (with_cell (record { kind = kind; name = name; value = v }) s)
next_cell Web name v s l =
    let a = length-append s.web (v ∷ []) in
    let b = length-append s.names.web (name ∷ []) in
    let p = l.level.web in
    record {
      stays = record {
        level = record {
          web = omega arith;
          cells = l.level.cells;
          tasks = bodies_more (length s.names.web) (length s.names.instance) (length (s.names.web ++ name ∷ [])) (length s.names.instance) (omega arith) (omega arith) [] (parameters_in s.names) (cores_of s.tasks) l.level.tasks;
        };
        opened = l.opened;
      };
      one = omega arith;
    }
next_cell Instance name v s l =
    let a = length-append s.cells (v ∷ []) in
    let b = length-append s.names.instance (name ∷ []) in
    let p = l.level.cells in
    record {
      stays = record {
        level = record {
          web = l.level.web;
          cells = omega arith;
          tasks = bodies_more (length s.names.web) (length s.names.instance) (length s.names.web) (length (s.names.instance ++ name ∷ [])) (omega arith) (omega arith) [] (parameters_in s.names) (cores_of s.tasks) l.level.tasks;
        };
        opened = l.opened;
      };
      one = omega arith;
    }

tested : (a b : Bool) (x : Definition) (s t : Defined) → Next s (with_cell x s)
    → (if a then Err Duplicate else if b then Err TooMany else Ok x) >>= (λ x. Ok (with_cell x s)) ≡ Ok t → Next s t
tested true b x s t n e = absurd (let no : ⊥ = cc in no)
tested false true x s t n e = absurd (let no : ⊥ = cc in no)
tested false false x s t n e = let f : with_cell x s ≡ t = cc in rw (← f) n

cell_next : (o : Option Definition) (s t : Defined) → Stays s → defined o s ≡ Ok t → Next s t
cell_next None s t l e = absurd (let no : ⊥ = cc in no)
cell_next (Some x) s t l e =
    tested (is_taken s.names x.name) (nat_lt 63 (length s.names.web + length s.names.instance)) x s t (next_cell x.kind x.name x.value s l) e

next_task : (f : List ℕ) (n : ℕ) (c : Core) (s : Defined) → Stays s → IsClosed (length s.names.web) (length s.names.instance) (parameters_in s.names) n false c → Next s (with_task f n c s)
next_task f n c s l k =
    let t : Task = record { name = f; parameters = n } in
    let a = length-append s.names.tasks (t ∷ []) in
    let ks : parameters_in s.names ++ n ∷ [] ≡ parameters_in (with_task f n c s).names = sym (map-append (λ (t : Task). t.parameters) s.names.tasks (t ∷ [])) in
    record {
      stays = record {
        level = record {
          web = l.level.web;
          cells = l.level.cells;
          tasks = subst (λ (ns : List ℕ). AreBodies (length s.names.web) (length s.names.instance) [] ns (cores_of (s.tasks ++ c ∷ []))) ks
              (bodies_last (length s.names.web) (length s.names.instance) [] (parameters_in s.names) (parameters_in s.names) s.tasks n c refl l.level.tasks k);
        };
        opened = l.opened;
      };
      one = omega arith;
    }

by_body : (f : List ℕ) (n : ℕ) (s t : Defined) (r : Result Core SyntaxKind) → ((c : Core) → r ≡ Ok c → Next s (with_task f n c s)) → r >>= (λ c. Ok (with_task f n c s)) ≡ Ok t → Next s t
by_body f n s t (Ok c) g e = let same : with_task f n c s ≡ t = cc in rw (← same) (g c refl)
by_body f n s t (Err k) g e = absurd (let no : ⊥ = cc in no)

by_tests : (a b : Bool) (f : List ℕ) (n : ℕ) (s t : Defined) (r : Result Core SyntaxKind) → ((c : Core) → r ≡ Ok c → Next s (with_task f n c s))
    → (if a then Err Duplicate else if b then Err TooMany else (r >>= (λ c. Ok (with_task f n c s)))) ≡ Ok t → Next s t
by_tests true b f n s t r g e = absurd (let no : ⊥ = cc in no)
by_tests false true f n s t r g e = absurd (let no : ⊥ = cc in no)
by_tests false false f n s t r g e = by_body f n s t r g e

held : {A : Type 0} (P : A → Type 0) (r : Result A SyntaxKind) (x : A) → Holds P r → r ≡ Ok x → P x
held P (Ok y) x h e = let f : y ≡ x = cc in rw (← f) h
held P (Err k) x h e = absurd (let no : ⊥ = cc in no)

within_next : (later scope : List (List ℕ)) (s t : Defined) (x : TaskForm) → Stays s → task_within later scope s x ≡ Ok t → Next s t
within_next later scope s t x l e =
    let names = with_later later s.names in
    by_tests (repeats scope) (nat_le 16 (length s.names.tasks) || nat_lt 16 (length scope)) x.name (length scope) s t (body_of names scope false x.body)
    (λ c f. next_task x.name (length scope) c s l (held (Closed names scope false) (body_of names scope false x.body) c (closed_body names scope false x.body) f)) e

task_tested : (b : Bool) (later : List (List ℕ)) (x : TaskForm) (s t : Defined) → Stays s
    → (if b then Err Duplicate else Ok x) >>= (λ x. task_within later (symbols_in x.parameters []) s x) ≡ Ok t → Next s t
task_tested true later x s t l e = absurd (let no : ⊥ = cc in no)
task_tested false later x s t l e = within_next later (symbols_in x.parameters []) s t x l e

task_next : (o : Option TaskForm) (later : List (List ℕ)) (s t : Defined) → Stays s → task_defined o later s ≡ Ok t → Next s t
task_next None later s t l e = absurd (let no : ⊥ = cc in no)
task_next (Some x) later s t l e = task_tested _ later x s t l e

form_next : (b : Bool) (v : Val) (vs : List Val) (s t : Defined) → Stays s
    → (if b then defined (definition_of v) s else task_defined (task_of v) (names_defined (v ∷ vs)) s) ≡ Ok t → Next s t
form_next true v vs s t l e = cell_next (definition_of v) s t l e
form_next false v vs s t l e = task_next (task_of v) (names_defined (v ∷ vs)) s t l e

pub next_form : (v : Val) (vs : List Val) (s t : Defined) → Stays s → is_definition v ≡ true → form_defined v vs s ≡ Ok t
    → Next s t × (expanded_from (total s) s (v ∷ vs) ≡ expanded_from (total t) t vs)
next_form v vs s t l h e =
    let n = form_next (is_headed (codes "define") v) v vs s t l e in
    (n, rw (h, e, n.one) refl)
