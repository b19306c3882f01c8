-- Which file a root names.
use Rattle.std.specs.Prelude.{◌≡◌, ℕ, ◌%◌, ◌==◌, Bool, true, IsTrue, List, [], ◌∷◌, if◌then◌else◌}
use Rattle.web_disk.specs.View.{View}
use Rattle.disk_trio.specs.declared.side.Side.{Side}
use Rattle.disk_trio.specs.declared.side.Side.TheVariants.{A, B}

-- the file that this byte names: a where it is even, else b
abbrev pub named_by : ℕ → Side
named_by b = if b % 2 == 0 then A else B

-- the file that a root with these bytes names, by its first byte; a where it has none
abbrev pub names : List ℕ → Side
names [] = A
names (b ∷ bytes) = named_by b

-- the other one of two files
abbrev pub other_side : Side → Side
other_side A = B
other_side B = A

-- the byte that is written to name a file
abbrev pub byte_of : Side → ℕ
byte_of A = 0
byte_of B = 1

-- Each of these images of a root names this file.
abbrev pub AllName : (List ℕ → Type 0) → Side → Type 0
AllName images side = (bytes : List ℕ) → images bytes → names bytes ≡ side

-- where it is known which file is the current one, whatever a crash leaves of the root names this one
abbrev pub IsNamed : {D : Type 0} → (tells : Bool) → (D → View) → (known : Bool) → Side → (root : D) → Type 0
IsNamed tells view known side root = known ≡ true → IsTrue tells → AllName (view root).images side
