-- The options of the commands, as a table, and options as they are written, in any order.
use Rattle.std.specs.Prelude.{⊤, ◌≡◌, ◌≤◌, ◌==◌, ◌-◌, ◌++◌, ◌∷◌, ◌⊎◌, ℕ, Bool, true, false, List, [], Option, Some, None, is_some, unwrap_or, codes, if◌then◌else◌}
use Rattle.std.specs.List.{AllByRecursion as Each}
use Rattle.std.specs.Fmt.{decimal}
use Rattle.std.specs.Str.{bytes_eq}
use Rattle.std.specs.Str.Parse.{digits_value}
use Rattle.server_limits.specs.Limits.{most_connections, most_fuel, most_instances, most_life, most_pages, most_requests, most_shelves}
use Rattle.server_limits.specs.Counts.{most_workers}

-- a text by its bytes
abbrev pub Text : Type 0
Text = List ℕ

-- what stands after an option: a number from the first to the second, a directory, or nothing; or such a number that stands without
-- a name, after the command's
pub data Kind : Type 0 where
  number : ℕ → ℕ → Kind
  bare : ℕ → ℕ → Kind
  directory : Kind
  flag : Kind

-- an option of the table: its name, its kind, and its default
pub record Item : Type 0 where
  pub name : Text
  pub kind : Kind
  -- what holds where the option is not written; an option with none has to be
  pub default : Option Text

-- the option of how much fuel a segment is given
abbrev pub fuel : Item
fuel = record { name = codes "fuel"; kind = number 1 most_fuel; default = Some (codes "100000") }

-- the option of how many seconds a page lives
abbrev pub life : Item
life = record { name = codes "life"; kind = number 1 most_life; default = Some (codes "3600") }

-- the option of how many instances a shelf may hold
abbrev pub instances : Item
instances = record { name = codes "instances"; kind = number 1 most_instances; default = Some (codes "256") }

-- the option of how many live pages an instance may have
abbrev pub pages : Item
pages = record { name = codes "pages"; kind = number 1 most_pages; default = Some (codes "64") }

-- where the journals stand; `-` is no directory, and they stand in memory then
abbrev pub journal : Item
journal = record { name = codes "journal"; kind = directory; default = Some (codes "-") }

-- the greatest number of a shelf
abbrev pub last_shelf : ℕ
last_shelf = most_shelves - 1

-- the option of how many shelves there are
abbrev pub shelves : Item
shelves = record { name = codes "shelves"; kind = number 1 most_shelves; default = Some (codes "1") }

-- the shelf whose journal is sent or followed
abbrev pub shelf : Item
shelf = record { name = codes "shelf"; kind = number 0 last_shelf; default = Some (codes "0") }

-- the option of the port that a server listens at; it has to be written
abbrev pub port : Item
port = record { name = codes "port"; kind = number 0 65535; default = None }

-- the option of how many workers a server has
abbrev pub workers : Item
workers = record { name = codes "workers"; kind = number 1 most_workers; default = Some (codes "4") }

-- the option of how many requests a connection may carry
abbrev pub requests : Item
requests = record { name = codes "requests"; kind = number 1 most_requests; default = Some (codes "100") }

-- the option of how many connections a worker serves at most
abbrev pub connections : Item
connections = record { name = codes "connections"; kind = number 1 most_connections; default = Some (codes "10000") }

-- the greatest number of a measured run
abbrev pub most_run : ℕ
most_run = 9223372036854775807

-- the number of a measured run
abbrev pub run_number : Item
run_number = record { name = codes "number"; kind = bare 1 most_run; default = None }

-- the options of `play`
abbrev pub play_items : List Item
play_items = fuel ∷ life ∷ instances ∷ pages ∷ journal ∷ shelves ∷ []

-- whether the journals are audited before they are served
abbrev pub audit : Item
audit = record { name = codes "audit"; kind = flag; default = Some (codes "false") }

-- the options of `serve`: those of `play`, and five of its own
abbrev pub serve_items : List Item
serve_items = fuel ∷ life ∷ instances ∷ pages ∷ journal ∷ shelves ∷ port ∷ connections ∷ workers ∷ requests ∷ audit ∷ []

-- what `load` takes: its number, and the options of `play`
abbrev pub load_items : List Item
load_items = run_number ∷ fuel ∷ life ∷ instances ∷ pages ∷ journal ∷ shelves ∷ []

-- the options of `export` and `follow`
abbrev pub feed_items : List Item
feed_items = journal ∷ shelf ∷ []

-- the options of `audit` and `promote`
abbrev pub shelves_items : List Item
shelves_items = journal ∷ shelves ∷ []

-- ---- options as they are written

-- an option as it is written, with the text after it
pub record Setting : Type 0 where
  pub item : Item
  pub text : Text

-- the text is a number of this range, in decimal and without leading zeros
abbrev pub IsPlainNumber : ℕ → ℕ → Text → Type 0
IsPlainNumber low high text = (n : ℕ) × (text ≡ decimal n) × (low ≤ n) × (n ≤ high)

-- a text is written as an option of this kind asks for
abbrev pub IsPlainText : Kind → Text → Type 0
IsPlainText (number low high) text = IsPlainNumber low high text
IsPlainText (bare low high) text = IsPlainNumber low high text
IsPlainText directory [] = ⊥
IsPlainText directory (x ∷ xs) = (x == 45) ≡ false
IsPlainText flag text = text ≡ codes "true"

-- the words of an option: `--name TEXT`, a flag as `--name`, and a number without a name as it is
abbrev pub words_for : Kind → Text → Text → List Text
words_for flag name text = (45 ∷ 45 ∷ name) ∷ []
words_for (bare low high) name text = text ∷ []
words_for kind name text = (45 ∷ 45 ∷ name) ∷ text ∷ []

-- the words of these options and their texts
abbrev pub spelled : List Setting → List Text
spelled [] = []
spelled (s ∷ rest) = words_for s.item.kind s.item.name s.text ++ spelled rest

-- the text that the settings give the option of this name
abbrev pub given : Text → List Setting → Option Text
given name [] = None
given name (s ∷ rest) = if bytes_eq s.item.name name then Some s.text else given name rest

-- the text of an option: the one that is written, or else its default
abbrev pub text_of : Item → List Setting → Text
text_of i settings = unwrap_or (given i.name settings) (unwrap_or i.default [])

-- the number of an option: the one that is written, or else its default
abbrev pub number_of : Item → List Setting → ℕ
number_of i settings = digits_value 10 (text_of i settings)

-- a flag is set where it is written
abbrev pub flag_of : Item → List Setting → Bool
flag_of i settings = bytes_eq (text_of i settings) (codes "true")

-- each option is written at most once
abbrev pub IsDistinct : List Setting → Type 0
IsDistinct [] = ⊤
IsDistinct (s ∷ rest) =
    Each (λ t. bytes_eq s.item.name t.item.name ≡ false) rest × IsDistinct rest

-- an option is one of this list
abbrev pub IsOneOf : Item → List Item → Type 0
IsOneOf i [] = ⊥
IsOneOf i (x ∷ xs) = (i ≡ x) ⊎ IsOneOf i xs

-- options of the table in any order, each at most once, those without a default all there
pub record ArePlain (table : List Item) (settings : List Setting) : Type 0 where
  pub known : Each (λ s. IsOneOf s.item table) settings
  pub fit : Each (λ s. IsPlainText s.item.kind s.text) settings
  pub once : IsDistinct settings
  pub there : Each (λ i. i.default ≡ None → is_some (given i.name settings) ≡ true) table
