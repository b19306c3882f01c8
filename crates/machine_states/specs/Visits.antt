-- A visit that goes on from the state of the page that it answers.
use Rattle.std.specs.Prelude.{◌≡◌, ◌≤◌, ◌<◌, ◌+◌, ◌*◌, ◌^◌, ℕ, List, [], ◌∷◌, ◌++◌, length}
use Rattle.script_value.specs.Val.{Val}
use Rattle.instance_cells.specs.Cells.{reads_of}
use Rattle.script_nodes.specs.Arena.{Arena, IsScript, script_of}
use Rattle.replay_spec.specs.Tape.{present}
use Rattle.replay_spec.specs.Book.{Page}
use Rattle.replay_spec.specs.Next.{Visit, home_of, newest, page_tape, comes_to}
use Rattle.replay_spec.specs.Laws.{Waits}
use Rattle.machine_states.specs.Machine.{Suspended}
use Rattle.machine_states.specs.Laws.{resumed, Stops, segment_of, IsStateOf}

-- a page that the visit shows, where these values were read for it
pub record IsShownBy (v : Visit) (read : List Val) (p : Page) : Type 0 where
  pub number : p.number ≡ v.ticket.number
  pub nonce : p.nonce ≡ v.ticket.nonce
  pub answer : p.answer ≡ v.ticket.answer
  pub reads : p.reads ≡ read

-- From the state of a page the visit comes to what it comes to by the definitions, in no more steps than its own cost and the
-- page's frames allow; and of a page that it shows the state where it stops is kept.
pub record GoesOn (a : Arena) (v : Visit) (d : Suspended) (cells : List Val) (fuel : ℕ) : Type 0 where
  pub stops : Stops a (resumed a d (newest v (present cells fuel)))
  pub comes : segment_of stops ≡ comes_to v (present cells fuel)
  pub shows : Waits stops.outcome → (p : Page) → IsShownBy v (reads_of stops.state.effects) p → IsStateOf a (page_tape (home_of v) v.pages p) stops.kept
  pub few : stops.count ≤ 2 * stops.state.cost + length d.frames + 2

-- a visit that goes on from the state of its page comes to what a run of the whole script comes to
abbrev pub AVisitGoesOn : Type 0
AVisitGoesOn =
    (a : Arena) → IsScript a → (v : Visit) → v.script.script ≡ script_of a
    → (ancestors : List Page) (page : Page) → v.pages ≡ ancestors ++ page ∷ [] → (d : Suspended) → IsStateOf a (page_tape (home_of v) ancestors page) d
    → (cells : List Val) (fuel : ℕ) → fuel < 2 ^ 63 → GoesOn a v d cells fuel
