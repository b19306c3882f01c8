-- The tests that an audit makes of the record of a change, on what the records before it make.
use Rattle.std.specs.Prelude.{ℕ, ◌+◌, ◌==◌, ◌&&◌, Bool, true, false, List, [], ◌∷◌, length, Option, Some, None, is_some, nat_le, nat_lt, slice_get, if◌then◌else◌}
use Rattle.std.specs.Cmp.Lexicographic.{pointwise}
use Rattle.script_value.specs.Val.{Val}
use Rattle.script_value.specs.declared.outcome.TxName.{TxName}
use Rattle.prim_spec.specs.Same.{same}
use Rattle.page_names.specs.Names.{start}
use Rattle.instance_cells.specs.Cells.{Effect}
use Rattle.replay_spec.specs.Tape.{present, How, Outcome, paged}
use Rattle.replay_spec.specs.Tape as tape
use Rattle.replay_spec.specs.Eval.{Segment}
use Rattle.replay_spec.specs.Book.{Change, opens, extends, ends, finishes, sweeps, Book}
use Rattle.replay_spec.specs.Change.{used_by}
use Rattle.replay_spec.specs.Eviction.{least_used}
use Rattle.replay_spec.specs.Admission.{Place, why_not}
use Rattle.replay_spec.specs.Next.{Visit, comes_to, page_visit}
use Rattle.replay_spec.specs.Recovery.{are_effects, are_names, page_of_numbers, opening_visit, extension_visit, again}
use Rattle.server_limits.specs.Limits.{most_fuel}
pub use Rattle.server_limits.specs.Limits.{most_life}
use Rattle.machine_states.specs.Machine.{Suspended}
use Rattle.frame_codec.specs.Difference.{same_frame}
use Rattle.journal_spec.specs.Before.{Made}
use Rattle.journal_spec.specs.Retaking.{Told, unread, told}
use Rattle.journal_spec.specs.Lengths.{state_by}
use Rattle.journal_spec.specs.Old.{told_at}

-- whether there is a value, and it passes a test
abbrev pub holds_of : {A : Type 0} → (A → Bool) → Option A → Bool
holds_of test None = false
holds_of test (Some x) = test x

-- whether there is none
abbrev pub is_none : {A : Type 0} → Option A → Bool
is_none None = true
is_none (Some x) = false

-- ---- sweep

-- whether time goes on by a change, if it is a sweep
abbrev pub goes_on : Book → Change → Bool
goes_on b (sweeps tick) = nat_lt b.clock tick
goes_on b _ = true

-- ---- target

-- whether a page stands under these numbers and can be answered
abbrev pub can_be_answered : Book → (instance page : ℕ) → Bool
can_be_answered b instance page =
    holds_of (λ at. is_none (why_not b.clock at.instance at.page)) (page_of_numbers b instance page)

-- whether what a change answers is admitted: a start of a script of the setup, or a page that can be answered
abbrev pub is_admitted : Book → Change → Bool
is_admitted b (opens o) = is_some (slice_get b.scripts o.script)
is_admitted b (extends x) = can_be_answered b x.instance x.page
is_admitted b (ends e) = can_be_answered b e.instance e.page
is_admitted b (finishes f) = can_be_answered b f.instance f.page
is_admitted b (sweeps tick) = true

-- ---- run

-- whether a run stops with a last page
abbrev pub is_last : Outcome → Bool
is_last (paged tape.ends bytes) = true
is_last _ = false

-- whether a run stops with a page that frees the instance
abbrev pub is_finish : Outcome → Bool
is_finish (paged tape.finishes bytes) = true
is_finish _ = false

-- whether a segment ends with these effects, and leaves these transactions
abbrev pub ends_so : List Effect → (left : List TxName) → Segment → Bool
ends_so effects left s = is_last s.outcome && (are_effects s.effects effects && are_names s.left left)

-- whether a segment finishes with these effects
abbrev pub finishes_so : List Effect → Segment → Bool
finishes_so effects s = is_finish s.outcome && are_effects s.effects effects

-- The visit that the record of a last page tells of, which tells no nonce: none is seen in what such a segment comes to.
abbrev pub last_visit : Book → (number : ℕ) → (answer : Val) → Place → Visit
last_visit b number answer at =
    page_visit b (record { target = start at.instance.script.name; answer = answer; number = number; nonce = 0 }) at

-- what the segment of a last page's record comes to over the present cells, with the most fuel that a shelf may have
abbrev pub last_segment : Book → (number : ℕ) → (answer : Val) → Place → Segment
last_segment b number answer at = comes_to (last_visit b number answer at) (present at.instance.cells most_fuel)

-- Whether the script of a change, run from its start over the answers of its page's chain and what these read, and then this answer over the
-- present cells, stops as the change tells: with a page of this kind, these effects and these transactions left.
abbrev pub runs_so : Book → Change → Bool
runs_so b (opens o) =
    holds_of (λ s. is_some (again o.kind o.effects o.left (comes_to (opening_visit b o s) (present s.script.cells most_fuel))))
    (slice_get b.scripts o.script)
runs_so b (extends x) =
    holds_of (λ at. is_some (again x.kind x.effects x.left (comes_to (extension_visit b x at) (present at.instance.cells most_fuel))))
    (page_of_numbers b x.instance x.page)
runs_so b (ends e) =
    holds_of (λ at. ends_so e.effects e.left (last_segment b e.number e.answer at)) (page_of_numbers b e.instance e.page)
runs_so b (finishes f) =
    holds_of (λ at. finishes_so f.effects (last_segment b f.number f.answer at)) (page_of_numbers b f.instance f.page)
runs_so b (sweeps tick) = true

-- ---- evicted

-- whether two lists of numbers are the same
abbrev pub are_numbers : (ms ns : List ℕ) → Bool
are_numbers [] [] = true
are_numbers (m ∷ ms) (n ∷ ns) = m == n && are_numbers ms ns
are_numbers _ _ = false

-- whether the pages that went are as many of the least used as they are, once the page that is answered was used; for a start none goes
abbrev pub least_go : Book → Change → Bool
least_go b (opens o) = are_numbers o.evicted []
least_go b (extends x) =
    holds_of (λ at. are_numbers x.evicted (least_used (length x.evicted) (used_by x.page x.number at.instance.used)))
    (page_of_numbers b x.instance x.page)
least_go b _ = true

-- ---- deadline

-- whether a deadline is above the clock, by one life at most
abbrev pub is_due : (clock deadline : ℕ) → Bool
is_due clock deadline = nat_lt clock deadline && nat_le deadline (clock + most_life)

-- whether the deadline of a change's page, if it shows one, is as a life sets it
abbrev pub is_in_time : Book → Change → Bool
is_in_time b (opens o) = is_due b.clock o.deadline
is_in_time b (extends x) = is_due b.clock x.deadline
is_in_time b _ = true

-- ---- state

-- whether two bindings of web cells are the same
abbrev pub same_binding : (ℕ × Val) → (ℕ × Val) → Bool
same_binding s t = s.0 == t.0 && same s.1 t.1

-- whether two states are the same
abbrev pub same_state : Suspended → Suspended → Bool
same_state d e = pointwise same d.env e.env && (pointwise same_frame d.frames e.frames && pointwise same_binding d.shadows e.shadows)

-- whether what is told of a page's state is this state; of a page that has none nothing is told
abbrev pub tells_state : Told → Option Suspended → Bool
tells_state unread None = true
tells_state (told d) (Some e) = same_state d e
tells_state _ _ = false

-- whether the state that a record of this format tells of its page is the one that the script leaves there; format 1 tells none
abbrev pub tells_own : (format : ℕ) → Made → Change → (state : Option (List ℕ)) → Bool
tells_own format m c state = if format == 1 then true else tells_state (told_at format m.earlier m.book c state) (state_by m.book c)
