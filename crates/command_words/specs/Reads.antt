-- What a parse found, as a command.
use Rattle.std.specs.Prelude.{◌≡◌, ◌<◌, ◌⊎◌, ℕ, Bool, List, [], codes, length, Option, Some, None, unwrap_or, option_and_then, if◌then◌else◌}
use Rattle.std.specs.List.{AllByRecursion as Each}
use Rattle.std.specs.Str.{bytes_eq}
use Rattle.std.specs.Str.Parse.{digits_value, without_leading_plus}
use Rattle.clap.specs.Values.{IsUnsignedIn}
use Rattle.clap.specs.Walk.{Row, first_of, one_of, rows_of}
use Rattle.clap.specs.Matches.{found_of}
use Rattle.clap.specs.declared.parser.matches.ArgMatches.{ArgMatches}
use Rattle.command_words.specs.Options.{Item, Kind, Text, shelves_items, bare, directory, feed_items, flag, load_items, number, play_items, serve_items}
use Rattle.command_words.specs.declared.Command.{Command}
use Rattle.command_words.specs.declared.Command.TheVariants.{Audit, Check, Export, Follow, Load, Play, Promote, Serve}
use Rattle.command_words.specs.declared.Options.{Options}
use Rattle.command_words.specs.declared.Service.{Service}
use Rattle.command_words.specs.declared.LoadOptions.{LoadOptions}
use Rattle.command_words.specs.declared.FeedOptions.{FeedOptions}
use Rattle.command_words.specs.declared.ShelvesOptions.{ShelvesOptions}

-- the rows of options that a parse found
abbrev pub rows_in : ArgMatches → List Row
rows_in m = rows_of (found_of m)

-- the number of a value, where a plus may stand first
abbrev pub value_number : Text → ℕ
value_number text = digits_value 10 (without_leading_plus text)

-- the number that a parse found for an option
abbrev pub number_at : List Row → Text → ℕ
number_at rows id = value_number (unwrap_or (one_of id rows) [])

-- the text that a parse found for an option
abbrev pub text_at : List Row → Text → Text
text_at rows id = unwrap_or (first_of id rows) []

-- whether a parse found an option without a value
abbrev pub flag_at : List Row → Text → Bool
flag_at rows id = bytes_eq (unwrap_or (one_of id rows) []) (codes "true")

-- what a parse found for the options that commands share
abbrev pub options_at : List Row → Options
options_at rows = record {
  fuel = number_at rows (codes "fuel");
  life = number_at rows (codes "life");
  instances = number_at rows (codes "instances");
  pages = number_at rows (codes "pages");
  journal = text_at rows (codes "journal");
  shelves = number_at rows (codes "shelves");
}

-- what a parse found for the options of `serve`
abbrev pub service_at : List Row → Service
service_at rows = record {
  options = options_at rows;
  port = number_at rows (codes "port");
  connections = number_at rows (codes "connections");
  workers = number_at rows (codes "workers");
  requests = number_at rows (codes "requests");
  audit = flag_at rows (codes "audit");
}

-- what a parse found for the options of `load`
abbrev pub load_at : List Row → LoadOptions
load_at rows = record { number = number_at rows (codes "number"); options = options_at rows }

-- what a parse found for the options of `audit` and `promote`
abbrev pub shelves_at : List Row → ShelvesOptions
shelves_at rows = record { journal = text_at rows (codes "journal"); shelves = number_at rows (codes "shelves") }

-- what a parse found for the options of `export` and `follow`
abbrev pub feed_at : List Row → FeedOptions
feed_at rows = record { journal = text_at rows (codes "journal"); shelf = number_at rows (codes "shelf") }

-- the command of this name, with the values in its rows
abbrev pub asked_as : Text → List Row → Option Command
asked_as name rows =
    if bytes_eq name (codes "check") then Some Check
    else (if bytes_eq name (codes "play") then Some (Play (options_at rows))
    else (if bytes_eq name (codes "serve") then Some (Serve (service_at rows))
    else (if bytes_eq name (codes "load") then Some (Load (load_at rows))
    else (if bytes_eq name (codes "audit") then Some (Audit (shelves_at rows))
    else (if bytes_eq name (codes "export") then Some (Export (feed_at rows))
    else (if bytes_eq name (codes "follow") then Some (Follow (feed_at rows))
    else (if bytes_eq name (codes "promote") then Some (Promote (shelves_at rows))
    else None)))))))

-- the command that the name and the options which a parse found ask for, if they ask for one
abbrev pub asked_from : Option (Text × List Row) → Option Command
asked_from = option_and_then (λ p. asked_as p.0 p.1)

-- ---- what the rows hold

-- the rows hold a number in this range under this name
abbrev pub HoldsNumber : ℕ → ℕ → List Row → Text → Type 0
HoldsNumber low high rows id = (t : Text) × (one_of id rows ≡ Some t) × IsUnsignedIn low high t

-- the rows hold a text of one byte or more under this name
abbrev pub HoldsText : List Row → Text → Type 0
HoldsText rows id = (t : Text) × (first_of id rows ≡ Some t) × (0 < length t)

-- the rows hold a flag under this name, set or not
abbrev pub HoldsFlag : List Row → Text → Type 0
HoldsFlag rows id = (one_of id rows ≡ Some (codes "true")) ⊎ (one_of id rows ≡ Some (codes "false"))

-- the rows hold a value under this name that an option of this kind takes
abbrev pub HoldsAs : Kind → List Row → Text → Type 0
HoldsAs (number low high) rows id = HoldsNumber low high rows id
HoldsAs (bare low high) rows id = HoldsNumber low high rows id
HoldsAs directory rows id = HoldsText rows id
HoldsAs flag rows id = HoldsFlag rows id

-- the rows hold a value for each option of the table
abbrev pub Holds : List Item → List Row → Type 0
Holds table rows = Each (λ i. HoldsAs i.kind rows i.name) table

-- the rows are of one of the commands, with each value that it needs
pub data HoldsFor (name : Text) (rows : List Row) : Type 0 where
  for_check : name ≡ codes "check" → HoldsFor name rows
  for_play : name ≡ codes "play" → Holds play_items rows → HoldsFor name rows
  for_serve : name ≡ codes "serve" → Holds serve_items rows → HoldsFor name rows
  for_load : name ≡ codes "load" → Holds load_items rows → HoldsFor name rows
  for_audit : name ≡ codes "audit" → Holds shelves_items rows → HoldsFor name rows
  for_export : name ≡ codes "export" → Holds feed_items rows → HoldsFor name rows
  for_follow : name ≡ codes "follow" → Holds feed_items rows → HoldsFor name rows
  for_promote : name ≡ codes "promote" → Holds shelves_items rows → HoldsFor name rows

-- the name and the options that a parse found have what the command needs
abbrev pub HoldsAsked : Option (Text × List Row) → Type 0
HoldsAsked None = ⊥
HoldsAsked (Some p) = HoldsFor p.0 p.1

-- the rows are of no command, or lack some value that it needs
abbrev pub LacksAsked : Option (Text × List Row) → Type 0
LacksAsked rows = HoldsAsked rows → ⊥

-- no option of this name has a number below this bound
abbrev pub HoldsNoNumber : ℕ → List Row → Text → Type 0
HoldsNoNumber bound rows id = (low high : ℕ) → high < bound → HoldsNumber low high rows id → ⊥

-- rows that ask for something ask for just this
abbrev pub AsksFor : Option (Text × List Row) → Command → Type 0
AsksFor rows asked = HoldsAsked rows → asked_from rows ≡ Some asked
