-- What a path names, and the one spelling of each name.
pub use Rattle.page_names.specs.NameBytes.{is_name_byte, is_name}
use Rattle.std.specs.Prelude.{◌≡◌, ℕ, ◌^◌, ◌<◌, List, ◌∷◌, ◌++◌, Option, Some, None, IsTrue, option_map, codes, if◌then◌else◌}
use Rattle.std.specs.Fmt.{decimal}
use Rattle.percent_encoding.specs.Percent.{percent_decode}
use Rattle.script_value.specs.Pieces.{◌>>=◌, cut_at, behind, number_below}
use Rattle.page_names.specs.Hex.{hex_number, hex16}
use Rattle.page_names.specs.declared.names.PageName.{PageName}

-- the start of a script, or a page of it
pub data Destination : Type 0 where
  start : List ℕ → Destination
  page : List ℕ → PageName → Destination

-- the numbers of a page, as its URL has them: `S*I*K*N`
abbrev pub numbers_spelling : PageName → List ℕ
numbers_spelling p = decimal p.shelf ++ 42 ∷ (decimal p.instance ++ 42 ∷ (decimal p.page ++ 42 ∷ hex16 p.nonce))

-- the spelling of a destination: `/servlets/NAME` or `/servlets/NAME;S*I*K*N`
abbrev pub spelling : Destination → List ℕ
spelling (start name) = codes "/servlets/" ++ name
spelling (page name numbers) = codes "/servlets/" ++ (name ++ 59 ∷ numbers_spelling numbers)

-- the numbers fit their types
pub record IsPageName (p : PageName) : Type 0 where
  pub shelf : p.shelf < 2 ^ 32
  pub instance : p.instance < 2 ^ 64
  pub page : p.page < 2 ^ 64
  pub nonce : p.nonce < 2 ^ 64

-- the name is a name, and the numbers fit their types
abbrev pub IsDestination : Destination → Type 0
IsDestination (start name) = IsTrue (is_name name)
IsDestination (page name numbers) = IsTrue (is_name name) × IsPageName numbers

-- bytes that are a name
abbrev pub name_in : List ℕ → Option (List ℕ)
name_in bytes = if is_name bytes then Some bytes else None

-- the numbers of a page that these bytes spell
abbrev pub numbers_in : List ℕ → Option PageName
numbers_in bytes = do
  shelf ← cut_at 42 bytes
  instance ← cut_at 42 shelf.1
  rest ← cut_at 42 instance.1
  s ← number_below (2 ^ 32) shelf.0
  i ← number_below (2 ^ 64) instance.0
  k ← number_below (2 ^ 64) rest.0
  n ← hex_number rest.1
  Some (record { shelf = s; instance = i; page = k; nonce = n })

-- the destination that the bytes after `/servlets/` spell: a name alone, or one that `;` ends and a page's numbers
abbrev pub destination_in : List ℕ → Option (List ℕ × List ℕ) → Option Destination
destination_in bytes None = option_map start (name_in bytes)
destination_in bytes (Some parts) = do
  name ← name_in parts.0
  numbers ← numbers_in parts.1
  Some (page name numbers)

-- what decoded bytes name, if they spell anything
unfoldable pub named_by : List ℕ → Option Destination
named_by decoded = do
  bytes ← behind (codes "/servlets/") decoded
  destination_in bytes (cut_at 59 bytes)

-- what a path names: its escapes are decoded, once
unfoldable pub destination_of : List ℕ → Option Destination
destination_of path = named_by (percent_decode path)

-- what is found in these bytes is any destination whose spelling they are
abbrev pub FindsEach : List ℕ → Option Destination → Type 0
FindsEach bytes found = (d : Destination) → IsDestination d → bytes ≡ spelling d → found ≡ Some d

-- each destination is what its spelling names, as a path too
abbrev pub SpellingsAreRead : Type 0
SpellingsAreRead = (d : Destination) → IsDestination d → destination_of (spelling d) ≡ Some d

-- two destinations with one spelling are one
abbrev pub SpellingsDiffer : Type 0
SpellingsDiffer = (d e : Destination) → IsDestination d → IsDestination e → spelling d ≡ spelling e → d ≡ e
