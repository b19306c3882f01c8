-- Plain words, and what they ask for.
use Rattle.std.specs.Prelude.{⊤, ◌≡◌, ◌≢◌, ◌<◌, ◌≤◌, ◌∷◌, List, [], codes, length, Result, Err, IfOk}
use Rattle.std.specs.Str.Parse.{digits_value}
use Rattle.server_limits.specs.Limits.{AreConnections, AreInstances, ArePages, AreShelves, IsFuel, IsLife, IsWithin, most_requests}
use Rattle.server_limits.specs.Counts.{most_workers}
use Rattle.command_words.specs.Options.{ArePlain, IsPlainNumber, Setting, Text, feed_items, shelves_items, flag_of, most_run, number_of, play_items, serve_items, spelled, text_of, last_shelf}
use Rattle.command_words.specs.Options.{audit, connections, fuel, instances, journal, life, pages, port, requests, shelf, shelves, workers}
use Rattle.command_words.specs.declared.Command.{Command}
use Rattle.command_words.specs.declared.Command.TheVariants.{Audit, Check, Export, Follow, Load, Play, Promote, Serve}
use Rattle.command_words.specs.declared.Options.{Options}
use Rattle.command_words.specs.declared.Service.{Service}
use Rattle.command_words.specs.declared.LoadOptions.{LoadOptions}
use Rattle.command_words.specs.declared.FeedOptions.{FeedOptions}
use Rattle.command_words.specs.declared.ShelvesOptions.{ShelvesOptions}
use Rattle.command_words.specs.declared.WordsFault.{WordsFault}
use Rattle.command_words.specs.declared.WordsFault.TheVariants.{Usage}

-- what settings ask for
abbrev pub chosen : List Setting → Options
chosen s = record {
  fuel = number_of fuel s;
  life = number_of life s;
  instances = number_of instances s;
  pages = number_of pages s;
  journal = text_of journal s;
  shelves = number_of shelves s;
}

-- what the options of `serve` choose
abbrev pub service_chosen : List Setting → Service
service_chosen s = record {
  options = chosen s;
  port = number_of port s;
  connections = number_of connections s;
  workers = number_of workers s;
  requests = number_of requests s;
  audit = flag_of audit s;
}

-- what the text of a number and settings ask for
abbrev pub load_chosen : Text → List Setting → LoadOptions
load_chosen text s = record { number = digits_value 10 text; options = chosen s }

-- what settings ask of one shelf
abbrev pub feed_chosen : List Setting → FeedOptions
feed_chosen s = record { journal = text_of journal s; shelf = number_of shelf s }

-- what settings ask of shelves
abbrev pub shelves_chosen : List Setting → ShelvesOptions
shelves_chosen s = record { journal = text_of journal s; shelves = number_of shelves s }

-- the words after the program's name are plain ones for this command
abbrev pub ArePlainFor : List Text → Command → Type 0
ArePlainFor words Check = words ≡ codes "check" ∷ []
ArePlainFor words (Play o) =
    (s : List Setting) × (words ≡ codes "play" ∷ spelled s) × ArePlain play_items s × (o ≡ chosen s)
ArePlainFor words (Serve v) =
    (s : List Setting) × (words ≡ codes "serve" ∷ spelled s) × ArePlain serve_items s × (v ≡ service_chosen s)
ArePlainFor words (Load l) =
    (text : Text) × (s : List Setting) × (words ≡ codes "load" ∷ text ∷ spelled s) × IsPlainNumber 1 most_run text
    × ArePlain play_items s × (l ≡ load_chosen text s)
ArePlainFor words (Audit a) =
    (s : List Setting) × (words ≡ codes "audit" ∷ spelled s) × ArePlain shelves_items s × (a ≡ shelves_chosen s)
ArePlainFor words (Export e) =
    (s : List Setting) × (words ≡ codes "export" ∷ spelled s) × ArePlain feed_items s × (e ≡ feed_chosen s)
ArePlainFor words (Follow f) =
    (s : List Setting) × (words ≡ codes "follow" ∷ spelled s) × ArePlain feed_items s × (f ≡ feed_chosen s)
ArePlainFor words (Promote p) =
    (s : List Setting) × (words ≡ codes "promote" ∷ spelled s) × ArePlain shelves_items s × (p ≡ shelves_chosen s)

-- plain words are the program's name, a command, for `load` its number, then its options
abbrev pub IsPlain : List Text → Command → Type 0
IsPlain words asked =
    (name : Text) × (after : List Text) × (words ≡ name ∷ after) × ArePlainFor after asked

-- plain words are a command, for which there may be no memory
abbrev pub AcceptsPlain : List Text → Result Command WordsFault → Type 0
AcceptsPlain words result = (asked : Command) → IsPlain words asked → result ≢ Err Usage

-- a command that was read of plain words is the one that they ask for
abbrev pub ReadsPlain : List Text → Result Command WordsFault → Type 0
ReadsPlain words result = (asked : Command) → IsPlain words asked → IfOk result (λ k. k ≡ asked)

-- ---- the ranges

-- each limit that the options set is in its range, and a journal's folder has a name
pub record AreInRange (o : Options) : Type 0 where
  pub fuel : IsFuel o.fuel
  pub life : IsLife o.life
  pub instances : AreInstances o.instances
  pub pages : ArePages o.pages
  pub journal : 0 < length o.journal
  pub shelves : AreShelves o.shelves

-- what the options of `serve` choose is in range
pub record CanServe (s : Service) : Type 0 where
  pub options : AreInRange s.options
  pub port : s.port ≤ 65535
  pub connections : AreConnections s.connections
  pub workers : IsWithin 1 most_workers s.workers
  pub requests : IsWithin 1 most_requests s.requests

-- what the options of `load` choose is in range
pub record CanLoad (l : LoadOptions) : Type 0 where
  pub options : AreInRange l.options
  pub low : 1 ≤ l.number
  pub high : l.number ≤ most_run

-- what the options of `export` and `follow` choose is in range
pub record CanFeed (f : FeedOptions) : Type 0 where
  pub journal : 0 < length f.journal
  pub shelf : f.shelf ≤ last_shelf

-- what the options of `audit` and `promote` choose is in range
pub record HasShelves (a : ShelvesOptions) : Type 0 where
  pub journal : 0 < length a.journal
  pub shelves : AreShelves a.shelves

-- what a command asks for is in range
abbrev pub IsInRange : Command → Type 0
IsInRange Check = ⊤
IsInRange (Play o) = AreInRange o
IsInRange (Serve s) = CanServe s
IsInRange (Load l) = CanLoad l
IsInRange (Audit a) = HasShelves a
IsInRange (Export e) = CanFeed e
IsInRange (Follow f) = CanFeed f
IsInRange (Promote p) = HasShelves p
