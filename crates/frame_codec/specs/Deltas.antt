-- What differs between a page's state and its parent's, and how it is written.
use Rattle.std.specs.Prelude.{◌≡◌, ℕ, zero, suc, List, [], ◌∷◌, ◌++◌, take, drop, map, reverse, slice_get, Option, Some, None, ⊤}
use Rattle.script_value.specs.Val.{Val}
use Rattle.web_cells.specs.Shadows.{all_bound, Rise}
use Rattle.web_cells.specs.Own.{IsOwn, BindsAllOf}
use Rattle.script_nodes.specs.Arena.{Arena}
use Rattle.wire_bytes.specs.Spelling.{u32_bytes}
use Rattle.wire_bytes.specs.Reading.{read_u32}
use Rattle.value_bytes.specs.Spelling.{values_bytes, list_bytes, HaveBytes, FitsList}
use Rattle.value_bytes.specs.Reading.{Reader, read_list, read_values}
use Rattle.machine_states.specs.Machine.{Frame, Suspended}
use Rattle.frame_codec.specs.Spelling.{frame_bytes, shadow_bytes, IsShort, FrameHasBytes, ShadowHasBytes, StateHasBytes}
use Rattle.frame_codec.specs.Stored.{IsStored}
use Rattle.frame_codec.specs.Reading.{read_both, read_frame, read_shadow}

-- A difference: how many variables and frames are the parent's, and the others, the outermost first; and the bindings of web cells
-- that the parent has not or has with another value.
pub record Delta : Type 0 where
  pub env_shared : ℕ
  pub env : List Val
  pub frames_shared : ℕ
  pub frames : List Frame
  pub shadows : List (ℕ × Val)

-- two lists differ in their first items, or one of them is empty
abbrev pub Part : {A : Type 0} → List A → List A → Type 0
Part [] ys = ⊤
Part (x ∷ xs) [] = ⊤
Part (x ∷ xs) (y ∷ ys) = ¬ (x ≡ y)

-- the longest front that two lists share has this length, and this is the rest of the second
abbrev pub Shares : {A : Type 0} → (xs ys : List A) → (count : ℕ) → (rest : List A) → Type 0
Shares xs ys zero rest = (ys ≡ rest) × Part xs ys
Shares [] ys (suc n) rest = ⊥
Shares (x ∷ xs) [] (suc n) rest = ⊥
Shares (x ∷ xs) (y ∷ ys) (suc n) rest = (x ≡ y) × Shares xs ys n rest

-- the longest front of two lists whose items mean the same has this length
abbrev pub SharesFirst : {A B : Type 0} → (meaning : A → B) → (xs ys : List A) → (count : ℕ) → Type 0
SharesFirst meaning xs ys count = Shares (map meaning xs) (map meaning ys) count (map meaning (drop count ys))

-- at this place of a list stands what means the same as this item
abbrev pub StandsAt : {A B : Type 0} → (meaning : A → B) → List A → (place : ℕ) → A → Type 0
StandsAt meaning xs place x = slice_get (map meaning xs) place ≡ Some (meaning x)

-- the difference of a state from its parent
pub record IsDelta (p s : Suspended) (d : Delta) : Type 0 where
  pub env : Shares p.env s.env d.env_shared d.env
  pub frames : Shares (reverse p.frames) (reverse s.frames) d.frames_shared d.frames
  pub shadows : IsOwn p.shadows s.shadows d.shadows

-- A state goes on from its parent's: the web cells that each binds rise, and what the parent's binds is bound.
pub record GoesOnFrom (p s : Suspended) : Type 0 where
  pub rises : Rise p.shadows
  pub rise : Rise s.shadows
  pub all : BindsAllOf p.shadows s.shadows

-- the parent's state with a difference from it
abbrev pub joined : Suspended → Delta → Suspended
joined p d = record {
  env = take d.env_shared p.env ++ d.env;
  frames = reverse (take d.frames_shared (reverse p.frames) ++ d.frames);
  shadows = all_bound d.shadows p.shadows;
}

-- A difference: each shared count with what stands after it, and the bindings of web cells.
abbrev pub delta_bytes : Delta → List ℕ
delta_bytes d =
    u32_bytes d.env_shared ++ (values_bytes d.env
    ++ (u32_bytes d.frames_shared ++ (list_bytes frame_bytes d.frames ++ list_bytes shadow_bytes d.shadows)))

-- a difference has a spelling
pub record DeltaHasBytes (d : Delta) : Type 0 where
  pub env_shared : IsShort d.env_shared
  pub env : HaveBytes d.env
  pub frames_shared : IsShort d.frames_shared
  pub frames : FitsList FrameHasBytes d.frames
  pub shadows : FitsList ShadowHasBytes d.shadows

-- these are the bytes of a difference that has a spelling
abbrev pub IsSpellingOf : List ℕ → Delta → Type 0
IsSpellingOf bytes d = DeltaHasBytes d × (bytes ≡ delta_bytes d)

-- what a difference is made of
abbrev pub DeltaParts : Type 0
DeltaParts = ℕ × (List Val × (ℕ × (List Frame × List (ℕ × Val))))

-- the counts and lists of a delta, as they follow each other in its bytes
abbrev pub read_delta_parts : Arena → Reader DeltaParts
read_delta_parts a bytes =
    read_both read_u32 (read_both read_values (read_both read_u32 (read_both (read_list (read_frame a)) (read_list read_shadow)))) bytes

-- the difference of these parts, where no bytes stand after them
abbrev pub as_delta : Option (DeltaParts × List ℕ) → Option Delta
as_delta None = None
as_delta (Some (x, [])) =
    Some (record { env_shared = x.0; env = x.1.0; frames_shared = x.1.1.0; frames = x.1.1.1.0; shadows = x.1.1.1.1 })
as_delta (Some (x, b ∷ rest)) = None

-- the difference that these bytes say, whether a state has it or not
abbrev pub read_delta : Arena → List ℕ → Option Delta
read_delta a bytes = as_delta (read_delta_parts a bytes)

-- these bytes spell the difference of a state from its parent, and the state fits the script and has a spelling
pub record SpellsDelta (a : Arena) (p : Suspended) (bytes : List ℕ) (d : Delta) : Type 0 where
  pub whole : bytes ≡ delta_bytes d
  pub has : DeltaHasBytes d
  pub is : IsDelta p (joined p d) d
  pub stored : IsStored a (joined p d)

-- no state that fits the script, has a spelling and binds what its parent binds differs from its parent as these bytes spell
abbrev pub HasNoDelta : Arena → Suspended → List ℕ → Type 0
HasNoDelta a p bytes =
    (s : Suspended) (d : Delta) → IsStored a s → BindsAllOf p.shadows s.shadows → IsDelta p s d → DeltaHasBytes d → ¬ (bytes ≡ delta_bytes d)

-- a state has one difference from its parent
abbrev pub DeltasAreOne : Type 0
DeltasAreOne = (p s : Suspended) (d e : Delta) → IsDelta p s d → IsDelta p s e → d ≡ e

-- what differs between a state that has a spelling and its parent's has one
abbrev pub EachDeltaHasBytes : Type 0
EachDeltaHasBytes = (p s : Suspended) (d : Delta) → StateHasBytes s → IsDelta p s d → DeltaHasBytes d
