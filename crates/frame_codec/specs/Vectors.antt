-- Worked rows.
use Rattle.std.specs.Prelude.{◌≡◌, ℕ, List, [], ◌∷◌, ◌++◌, length, Some, None, true, false, codes, refl}
use lib.Utf8.{encode}
use Rattle.std.specs.Str.{is_utf8, chars}
use Rattle.script_value.specs.Val.{symbol, truth}
use Rattle.script_value.specs.declared.value.Value.TheVariants.{Truth}
use Rattle.script_value.specs.declared.outcome.Op.TheVariants as op
use Rattle.script_nodes.specs.declared.script.Node.TheVariants as node
use Rattle.script_nodes.specs.declared.script.SendKind.TheVariants.{Suspend}
use Rattle.script_nodes.specs.Arena.{Arena}
use Rattle.machine_states.specs.Machine.{Frame, Suspended, in_binding, in_operand, in_turn, in_seq, in_count, in_isolate, in_task}
use Rattle.machine_states.specs.VectorsTasks as tasks
use Rattle.value_bytes.specs.Reading.{read_within}
use Rattle.frame_codec.specs.Spelling.{state_bytes, frame_bytes}
use Rattle.frame_codec.specs.Walk.{frames_fit, shadows_fit}
use Rattle.frame_codec.specs.Reading.{read_frame, read_state}
use Rattle.frame_codec.specs.Deltas.{Delta, IsDelta, joined, delta_bytes}
use Rattle.frame_codec.specs.Difference.{difference}
use Rattle.frame_codec.specs.Forms.{form_bytes, read_form}

-- a script that binds what stands in the query that a page is answered with, under the name n
abbrev pub asks : Arena
asks = record {
  nodes = node.Let (1 ∷ []) 6 ∷ node.Prim op.IsNull (2 ∷ []) ∷ node.Prim op.List (3 ∷ 4 ∷ []) ∷ node.Lit (Truth true)
      ∷ node.Send Suspend 5 ∷ node.Lit (Truth true) ∷ node.Var 0 ∷ [];
  web = truth false ∷ truth false ∷ [];
  cells = [];
  tasks = [];
}

-- the state at the first page of the script `asks`
abbrev pub first_page : Suspended
first_page = record {
  env = [];
  frames = in_operand 2 (symbol (codes "n") ∷ []) ∷ in_operand 1 [] ∷ in_binding 0 [] ∷ [];
  shadows = [];
}

-- how the state of the first page is written
abbrev first_page_bytes : List ℕ
first_page_bytes =
    0 ∷ 0 ∷ 0 ∷ 0 ∷ 3 ∷ 0 ∷ 0 ∷ 0 ∷ 1 ∷ 0 ∷ 0 ∷ 0 ∷ 0 ∷ 0 ∷ 0 ∷ 0 ∷ 0 ∷ 0 ∷ 0 ∷ 0 ∷ 0
    ∷ 6 ∷ 1 ∷ 0 ∷ 0 ∷ 0 ∷ 0 ∷ 0 ∷ 0 ∷ 0 ∷ 6 ∷ 2 ∷ 0 ∷ 0 ∷ 0 ∷ 1 ∷ 0 ∷ 0 ∷ 0 ∷ 4 ∷ 1 ∷ 0 ∷ 0 ∷ 0 ∷ 110 ∷ 0 ∷ 0 ∷ 0 ∷ 0 ∷ []

-- the state of the first page has these 49 bytes
forty_nine_bytes : state_bytes first_page ≡ first_page_bytes
forty_nine_bytes = refl

-- the bytes of the first page's state are read as this state
they_are_read : read_state asks first_page_bytes ≡ Some first_page
unfolding read_within is_utf8 chars encode
they_are_read = refl

-- nothing stands after a state
one_byte_more : read_state asks (first_page_bytes ++ 0 ∷ []) ≡ None
unfolding read_within is_utf8 chars encode
one_byte_more = refl

-- the frame of a turn has its kind, its node, a 1, the count of turns, and the values of those that are done
a_turn : frame_bytes (in_turn 3 2 (truth true ∷ []))
    ≡ 7 ∷ 3 ∷ 0 ∷ 0 ∷ 0 ∷ 1 ∷ 2 ∷ 0 ∷ 0 ∷ 0 ∷ 0 ∷ 0 ∷ 0 ∷ 0 ∷ 1 ∷ 0 ∷ 0 ∷ 0 ∷ 2 ∷ []
a_turn = refl

-- the bytes of a turn's frame are read as this frame, whatever follows them
a_turn_is_read : read_frame asks (frame_bytes (in_turn 3 2 (truth true ∷ [])) ++ 9 ∷ []) ≡ Some (in_turn 3 2 (truth true ∷ []), 9 ∷ [])
unfolding read_within
a_turn_is_read = refl

-- the frame of a `for/list` that waits for its count has a 0 after its node
a_count : read_frame asks (7 ∷ 3 ∷ 0 ∷ 0 ∷ 0 ∷ 0 ∷ []) ≡ Some (in_count 3, [])
a_count = refl

-- a part of a Let that is neither its body nor after as many values
a_part_that_is_none : read_frame asks (1 ∷ 0 ∷ 0 ∷ 0 ∷ 0 ∷ 2 ∷ 0 ∷ 0 ∷ 0 ∷ 0 ∷ 0 ∷ 0 ∷ 0 ∷ []) ≡ None
unfolding read_within
a_part_that_is_none = refl

-- the frames of the first page end at a node that sends a page; without the last they do not
whole_way : frames_fit asks [] (in_binding 0 [] ∷ in_operand 1 [] ∷ in_operand 2 (truth true ∷ []) ∷ []) ≡ true
whole_way = refl

-- frames do not fit a script that leave one out
short_way : frames_fit asks [] (in_binding 0 [] ∷ in_operand 1 [] ∷ []) ≡ false
short_way = refl

-- frames do not fit a script where one is of another kind than its node
another_kind : frames_fit asks [] (in_seq 0 0 ∷ in_operand 1 [] ∷ in_operand 2 (truth true ∷ []) ∷ []) ≡ false
another_kind = refl

-- the cells rise, each once, and are web cells of the script
rising : shadows_fit 0 2 ((0, truth true) ∷ (1, truth true) ∷ []) ≡ true
rising = refl

-- bindings do not fit a script where one cell is bound twice
twice : shadows_fit 0 2 ((1, truth true) ∷ (1, truth true) ∷ []) ≡ false
twice = refl

-- bindings do not fit a script where the numbers of cells fall
falling : shadows_fit 0 2 ((1, truth true) ∷ (0, truth true) ∷ []) ≡ false
falling = refl

-- bindings do not fit a script where there is no such cell
no_cell : shadows_fit 0 2 ((2, truth true) ∷ []) ≡ false
no_cell = refl

-- A page within a transaction, in the second part of a sequence there: against the page in the first part, only the last frame
-- differs.
abbrev in_a_transaction : ℕ → Suspended
in_a_transaction k = record {
  env = [];
  frames = in_seq 10 k ∷ in_isolate 9 (record { ticket = 1; entry = 0 }) ∷ in_seq 0 1 ∷ [];
  shadows = [];
}

-- what differs between the states at the first and at the second part of a transaction
abbrev its_difference : Delta
its_difference = record { env_shared = 0; env = []; frames_shared = 2; frames = in_seq 10 1 ∷ []; shadows = [] }

-- the delta between two states in a transaction shares the two outer frames and has one of its own
it_is_that : IsDelta (in_a_transaction 0) (in_a_transaction 1) its_difference
it_is_that = record {
  env = (refl, tt);
  frames = (refl, (refl, (refl, λ e. cc)));
  shadows = refl;
}

-- a delta makes of the first state the second one
with_it : joined (in_a_transaction 0) its_difference ≡ in_a_transaction 1
with_it = refl

-- the delta of two states is this one
it_is_computed : difference (in_a_transaction 0) (in_a_transaction 1) ≡ its_difference
it_is_computed = refl

-- a delta is written as its counts of what is shared, and what is its own
its_bytes : delta_bytes its_difference
    ≡ 0 ∷ 0 ∷ 0 ∷ 0 ∷ 0 ∷ 0 ∷ 0 ∷ 0 ∷ 2 ∷ 0 ∷ 0 ∷ 0 ∷ 1 ∷ 0 ∷ 0 ∷ 0 ∷ 2 ∷ 10 ∷ 0 ∷ 0 ∷ 0 ∷ 1 ∷ 0 ∷ 0 ∷ 0 ∷ 0 ∷ 0 ∷ 0 ∷ 0 ∷ []
its_bytes = refl

-- with the byte of its form a difference takes 30 bytes, where the state by itself takes 48
thirty_bytes : length (form_bytes (Some (in_a_transaction 0)) (in_a_transaction 1)) ≡ 30
thirty_bytes = refl

-- with the byte of its form a state in a transaction takes 48 bytes by itself
forty_eight_bytes : length (form_bytes None (in_a_transaction 1)) ≡ 48
forty_eight_bytes = refl

-- the bytes of a delta that changes nothing: all three frames are shared
abbrev nothing_differs : List ℕ
nothing_differs = 1 ∷ 0 ∷ 0 ∷ 0 ∷ 0 ∷ 0 ∷ 0 ∷ 0 ∷ 0 ∷ 3 ∷ 0 ∷ 0 ∷ 0 ∷ 0 ∷ 0 ∷ 0 ∷ 0 ∷ 0 ∷ 0 ∷ 0 ∷ 0 ∷ []

-- a state that does not differ from the one before is written as a delta without a frame of its own
it_is_the_same : form_bytes (Some first_page) first_page ≡ nothing_differs
it_is_the_same = refl

-- a delta that changes nothing is read as the state before
the_same_is_read : read_form asks (Some first_page) nothing_differs ≡ Some first_page
unfolding read_within
the_same_is_read = refl

-- a form that is not due is not read
not_by_itself : read_form asks None nothing_differs ≡ None
not_by_itself = refl

-- a state by itself is not read where a delta is due
not_behind_another : read_form asks (Some first_page) (0 ∷ first_page_bytes) ≡ None
not_behind_another = refl

-- two frames are said to be shared, and the third, which is, stands there
told_too_short : read_form asks (Some first_page)
    (1 ∷ 0 ∷ 0 ∷ 0 ∷ 0 ∷ 0 ∷ 0 ∷ 0 ∷ 0 ∷ 2 ∷ 0 ∷ 0 ∷ 0 ∷ 1 ∷ 0 ∷ 0 ∷ 0
    ∷ 6 ∷ 2 ∷ 0 ∷ 0 ∷ 0 ∷ 1 ∷ 0 ∷ 0 ∷ 0 ∷ 4 ∷ 1 ∷ 0 ∷ 0 ∷ 0 ∷ 110 ∷ 0 ∷ 0 ∷ 0 ∷ 0 ∷ []) ≡ None
unfolding read_within is_utf8 chars encode
told_too_short = refl

-- the bytes of the state at the first page of a task: its fourth frame is that of the call, whose caller has no variable
abbrev asking_state : List ℕ
asking_state =
    1 ∷ 0 ∷ 0 ∷ 0 ∷ 3 ∷ 1 ∷ 0 ∷ 0 ∷ 0 ∷ 49
    ∷ 6 ∷ 0 ∷ 0 ∷ 0 ∷ 6 ∷ 0 ∷ 0 ∷ 0 ∷ 0 ∷ 1 ∷ 0 ∷ 0 ∷ 0 ∷ 4 ∷ 1 ∷ 0 ∷ 0 ∷ 0 ∷ 112
    ∷ 6 ∷ 2 ∷ 0 ∷ 0 ∷ 0 ∷ 0 ∷ 0 ∷ 0 ∷ 0
    ∷ 6 ∷ 3 ∷ 0 ∷ 0 ∷ 0 ∷ 0 ∷ 0 ∷ 0 ∷ 0
    ∷ 10 ∷ 4 ∷ 0 ∷ 0 ∷ 0 ∷ 1 ∷ 0 ∷ 0 ∷ 0 ∷ 0 ∷ 0 ∷ 0 ∷ 0
    ∷ 6 ∷ 8 ∷ 0 ∷ 0 ∷ 0 ∷ 0 ∷ 0 ∷ 0 ∷ 0
    ∷ 6 ∷ 9 ∷ 0 ∷ 0 ∷ 0 ∷ 1 ∷ 0 ∷ 0 ∷ 0 ∷ 4 ∷ 1 ∷ 0 ∷ 0 ∷ 0 ∷ 110
    ∷ 0 ∷ 0 ∷ 0 ∷ 0 ∷ []

-- the state of a page in a task has these bytes
asked : state_bytes tasks.first_page ≡ asking_state
asked = refl

-- the state of a page in a task has 88 bytes
eighty_eight_bytes : length asking_state ≡ 88
eighty_eight_bytes = refl

-- the bytes of a page's state in a task are read as this state
asked_is_read : read_state tasks.ask asking_state ≡ Some tasks.first_page
unfolding read_within is_utf8 chars encode
asked_is_read = refl

-- the frames at the first page of a task, where these are the sum's and the call's
abbrev asking : Frame → Frame → List Frame
asking sum call = in_operand 0 (truth true ∷ []) ∷ in_operand 2 [] ∷ sum ∷ call ∷ in_operand 8 [] ∷ in_operand 9 (truth true ∷ []) ∷ []

-- the caller's variables are as many as it has, and the body's as many as the task has parameters
the_callers : frames_fit tasks.ask (truth true ∷ []) (asking (in_operand 3 []) (in_task 4 1 [])) ≡ true
the_callers = refl

-- frames do not fit a script where the caller has a variable more than it may have
one_too_many : frames_fit tasks.ask (truth true ∷ []) (asking (in_operand 3 []) (in_task 4 1 (truth true ∷ []))) ≡ false
one_too_many = refl

-- frames do not fit a script where the task's body has no variable and the task a parameter
none_given : frames_fit tasks.ask [] (asking (in_operand 3 []) (in_task 4 1 [])) ≡ false
none_given = refl

-- the body is that of the call that is worked on, and of no other call of the same task
the_other_call : frames_fit tasks.ask (truth true ∷ []) (asking (in_operand 3 []) (in_task 6 1 [])) ≡ false
the_other_call = refl

-- the body of the second call fits where the second operand of the sum is worked on
the_second_call : frames_fit tasks.ask (truth true ∷ []) (asking (in_operand 3 (truth true ∷ [])) (in_task 6 1 [])) ≡ true
the_second_call = refl

-- a part that is the number of no operand and not the body's
another_part : read_frame tasks.ask (10 ∷ 4 ∷ 0 ∷ 0 ∷ 0 ∷ 2 ∷ 0 ∷ 0 ∷ 0 ∷ 0 ∷ 0 ∷ 0 ∷ 0 ∷ []) ≡ None
unfolding read_within
another_part = refl
