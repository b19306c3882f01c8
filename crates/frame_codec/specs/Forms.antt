-- How the state of a page is written: by itself, or as what differs from the state of the page before.
use Rattle.std.specs.Prelude.{◌≡◌, ℕ, ◌==◌, List, [], ◌∷◌, ◌++◌, Option, Some, None, option_map, if◌then◌else◌, ⊤}
use Rattle.web_cells.specs.Shadows.{Rise}
use Rattle.web_cells.specs.Own.{BindsAllOf}
use Rattle.script_nodes.specs.Arena.{Arena}
use Rattle.value_bytes.specs.Laws.{AreBytes}
use Rattle.machine_states.specs.Machine.{Suspended}
use Rattle.frame_codec.specs.Spelling.{state_bytes}
use Rattle.frame_codec.specs.Stored.{IsStored}
use Rattle.frame_codec.specs.Reading.{read_state}
use Rattle.frame_codec.specs.Deltas.{joined, delta_bytes}
use Rattle.frame_codec.specs.Difference.{difference, read_difference}

-- how a state is written: 0 and its bytes; or 1 and those of what differs from the state that it is written after
abbrev pub form_bytes : (before : Option Suspended) → Suspended → List ℕ
form_bytes None d = 0 ∷ state_bytes d
form_bytes (Some p) d = 1 ∷ delta_bytes (difference p d)

-- the state that these bytes spell in the form that is due; none where there is none
abbrev pub read_form : Arena → (before : Option Suspended) → List ℕ → Option Suspended
read_form a before [] = None
read_form a None (form ∷ bytes) = if form == 0 then read_state a bytes else None
read_form a (Some p) (form ∷ bytes) = if form == 1 then option_map (joined p) (read_difference a p bytes) else None

-- the state that another is written after, if there is one, fits the script and has a spelling
abbrev pub IsStoredBefore : Arena → (before : Option Suspended) → Type 0
IsStoredBefore a None = ⊤
IsStoredBefore a (Some p) = IsStored a p

-- the web cells of the state that another is written after, if there is one, rise
abbrev pub RisesBefore : (before : Option Suspended) → Type 0
RisesBefore None = ⊤
RisesBefore (Some p) = Rise p.shadows

-- each web cell that the state before binds, if there is one, is bound
abbrev pub BindsBefore : (before : Option Suspended) → Suspended → Type 0
BindsBefore None d = ⊤
BindsBefore (Some p) d = BindsAllOf p.shadows d.shadows

-- these bytes spell a state in the form that is due, and it fits the script
pub record SpellsForm (a : Arena) (before : Option Suspended) (bytes : List ℕ) (d : Suspended) : Type 0 where
  pub whole : bytes ≡ form_bytes before d
  pub stored : IsStored a d
  pub binds : BindsBefore before d

-- After a state that fits the script: what is read is spelled so, and fits; where nothing is read no state has these bytes; and no
-- spelling is the front of another one.
pub record AreFormsExact (a : Arena) (before : Option Suspended) : Type 0 where
  pub exact : (bytes : List ℕ) (d : Suspended) → AreBytes bytes → read_form a before bytes ≡ Some d → SpellsForm a before bytes d
  pub none : (bytes : List ℕ) → read_form a before bytes ≡ None → (d : Suspended) → IsStored a d → ¬ (bytes ≡ form_bytes before d)
  pub prefix :
      (d e : Suspended) (rest : List ℕ) → IsStored a d → IsStored a e → BindsBefore before d → BindsBefore before e
      → form_bytes before d ++ rest ≡ form_bytes before e → (d ≡ e) × (rest ≡ [])

-- What is written of a state is read back, where the state binds what is bound before; and what is read is exact.
pub record FormsAreExact : Type 0 where
  pub back :
      (a : Arena) (before : Option Suspended) (d : Suspended) → RisesBefore before → IsStored a d → BindsBefore before d
      → read_form a before (form_bytes before d) ≡ Some d
  pub exact : (a : Arena) (before : Option Suspended) → IsStoredBefore a before → AreFormsExact a before
