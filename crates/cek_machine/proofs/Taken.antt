-- Where a move takes memory.
use Rattle.std.proofs.Common.{◌≡◌, ℕ, ◌+◌, ◌^◌, ℤ, min, Bool, true, false, List, [], ◌∷◌, Result, Ok, Err, refl, arith}
use Rattle.std.proofs.lemmas.List.{length_push}
use Rattle.script_value.specs.Val.{Val, size_of}
use Rattle.script_value.specs.declared.outcome.Fault.{Fault}
use Rattle.script_value.specs.declared.outcome.TxName.{TxName}
use Rattle.instance_cells.specs.Cells.{Effect, read, cell_at, sum, commit}
use Rattle.segment_progress.specs.Halts.{IsPaged}
use Rattle.segment_progress.specs.States.{IsGotOrPaged}
use Rattle.segments.specs.ReplaySpec.Tape.{Reads, recorded, present, State, Outcome, paged, faulted, out_of_fuel, End, got, stop, ◌>>=◌, after, charged, is_over, bound, note, set_in, set_cell, read_from, read_cell, added, add_to, add_in, add_cell, as_number}
use Rattle.segments.specs.ReplaySpec.Eval.{copied}
use Rattle.machine_states.specs.Machine.{Frame, gives, given}
use Rattle.cek_machine.specs.Spots.{NotesMore, TakesMemory}

notes : (e : Effect) (s : State) → NotesMore s (note e s)
notes e s = omega (arith, length_push s.effects e)

-- a stop with a page
pub paged_takes : (old new : State) (o : Outcome) (entered : List TxName) → IsPaged o → TakesMemory old (stop o entered new)
paged_takes old new (paged how bytes) entered h = tt
paged_takes old new (faulted k) entered h = absurd h
paged_takes old new (out_of_fuel cost) entered h = absurd h

-- an action that goes on, and its value is given, or stops with a page
pub page_takes : (old : State) (e : End Val) (env : List Val) (fs : List Frame) → IsGotOrPaged e → TakesMemory old (after e (λ v. gives v env fs))
page_takes old (got v new) env fs h = tt
page_takes old (stop o entered new) env fs h = paged_takes old new o entered h

-- a charge after a further effect
charge_takes : (inside : List TxName) (over : Bool) (cost : ℕ) (v : Val) (s t : State) (env : List Val) (fs : List Frame) → NotesMore s t
    → TakesMemory s (after (after (charged inside over cost t) (λ _ state. got v state)) (λ w. gives w env fs))
charge_takes inside true cost v s t env fs h = h
charge_takes inside false cost v s t env fs h = tt

-- a read of an instance cell
pub read_takes : (inside : List TxName) (c : ℕ) (s : State) (env : List Val) (fs : List Frame) → TakesMemory s (given (read_cell c >>= copied inside) env fs s)
read_takes inside c s env fs = by_reads s.segment.reads refl
  where
    by_reads : (r : Reads) → s.segment.reads ≡ r → TakesMemory s (after (after (read_from r c s) (copied inside)) (λ w. gives w env fs))
    by_reads (recorded []) e = rw e tt
    by_reads (recorded (v ∷ vs)) e = tt
    by_reads (present cells fuel) e =
        let v = cell_at (commit s.effects cells) c in
        let t = note (read c v) s in
        let cost = min (t.cost + (1 + size_of v)) (2 ^ 63) in
        charge_takes inside (is_over (bound t.segment.reads) cost) cost v s t env fs (notes (read c v) s)

-- a write of one
pub set_takes : (c : ℕ) (v : Val) (s : State) (env : List Val) (fs : List Frame) → TakesMemory s (given (set_cell c v) env fs s)
set_takes c v s env fs = by_reads s.segment.reads
  where
    by_reads : (r : Reads) → TakesMemory s (after (set_in r c v s) (λ w. gives w env fs))
    by_reads (recorded vs) = tt
    by_reads (present cells fuel) = tt

-- an add to one
pub add_takes : (inside : List TxName) (c : ℕ) (v : Val) (s : State) (env : List Val) (fs : List Frame) → TakesMemory s (given (add_cell inside c v) env fs s)
add_takes inside c v s env fs = by_reads s.segment.reads
  where
    by_sum : (w : Val) (n : ℤ) (r : Result Val Fault) → TakesMemory s (after (added inside c w n r s) (λ x. gives x env fs))
    by_sum w n (Ok x) = tt
    by_sum w n (Err k) = notes (read c w) s

    by_number : (w : Val) (r : Result ℤ Fault) → TakesMemory s (after (add_to inside c w r s) (λ x. gives x env fs))
    by_number w (Ok n) = by_sum w n (sum w n)
    by_number w (Err k) = notes (read c w) s

    by_reads : (r : Reads) → TakesMemory s (after (add_in inside r c v s) (λ x. gives x env fs))
    by_reads (recorded vs) = tt
    by_reads (present cells fuel) = by_number (cell_at (commit s.effects cells) c) (as_number v)
