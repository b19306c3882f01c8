-- In which order a command asks the outside. After its words and its input come the seeds, then the disks, then the door: what comes
-- later is asked only where nothing before it ended the command. Want of memory may end it anywhere.
use Rattle.std.specs.Prelude.{⊤, ◌≡◌, ◌⊎◌, ℕ, List, length, Option, Some, None, Result, Err}
use Rattle.web_outside.specs.View.{DoorView, SeedsView}
use Rattle.command_words.specs.declared.Command.{Command}
use Rattle.command_words.specs.declared.Command.TheVariants.{Check, Load, Play, Serve}
use Rattle.request_workers.specs.declared.tally.Tally.{Tally}
use Rattle.site_serving.specs.Serving.{Pasts}
use Rattle.server_command.specs.declared.program.Status.{Status}
use Rattle.server_command.specs.declared.program.Status.TheVariants as status
use Rattle.server_command.specs.declared.serving.ServeFault.{ServeFault}
use Rattle.server_command.specs.declared.serving.ServeFault.TheVariants as fault
use Rattle.play_desk.specs.Asking.{AsksForAll, AsksForFirst, AsksForNone, AsksUntil}
use Rattle.server_command.specs.Opening.{AsksByCause}
use Rattle.server_command.specs.Racks.{Racks, AtRest}
use Rattle.server_command.specs.Serving.{AreDrawn}

-- what contracts see of something before a call and after it
pub record Both (T : Type 0) : Type 0 where
  pub before : T
  pub after : T

-- What a thing was before a call and is after it.
abbrev pub both : {T : Type 0} → (before after : T) → Both T
both before after = record { before = before; after = after }

-- the seeds gave so many sources of nonces
pub record HaveGiven {N : Type 0} (seeds : SeedsView N) (count : ℕ) : Type 0 where
  pub sources : List N
  pub many : length sources ≡ count
  pub drawn : AreDrawn seeds count sources

-- what was asked beside disks: nothing of the seeds, which are as they were; so many sources, and the seeds gave them; nothing of the
-- door, which is as it was, and nothing was kept in the past
pub record Asks : Type 1 where
  pub undrawn : Type 0
  pub drawn : (count : ℕ) → Type 0
  pub shut : Type 0

-- What was asked of this door and of these seeds, and kept in this past.
abbrev pub asks_of : {P L N : Type 0} → Both (DoorView P L) → Both (SeedsView N) → Pasts → Asks
asks_of door seeds past = record {
  undrawn = seeds.after ≡ seeds.before;
  drawn = λ count. HaveGiven seeds.before count;
  shut = (door.after ≡ door.before) × (past.after ≡ past.before);
}

-- neither the seeds nor the disks nor the door were asked
pub record AreIdle (asks : Asks) (rack : Racks) : Type 0 where
  pub seeds : asks.undrawn
  pub disks : AtRest rack
  pub door : asks.shut

-- the disks of so many shelves were asked for, each once and in order, and no other
abbrev pub AsksForDisks : Racks → (shelves : ℕ) → Type 0
AsksForDisks rack shelves = AsksForFirst shelves rack.before rack.after

-- of so many shelves, the disks of the first were asked for, up to one that was not taken
abbrev pub AsksForSome : Racks → (shelves : ℕ) → Type 0
AsksForSome rack shelves = (shelf : ℕ) × AsksUntil shelves shelf rack.before rack.after

-- no disk was asked for; or those of so many shelves were, each once and in order; or those of the first, up to one that was not taken
abbrev pub AsksForFew : Racks → (shelves : ℕ) → Type 0
AsksForFew rack shelves = AsksForNone rack.before rack.after ⊎ (AsksForDisks rack shelves ⊎ AsksForSome rack shelves)

-- What was asked where a setup of so many shelves was to be served. Before the setup was read nothing was; where the seeds failed no disk
-- was asked for; where a shelf was not opened the seeds had given a source for each, and the door was not asked.
abbrev pub ServesInOrder : Asks → Racks → (shelves : ℕ) → Status → Type 0
ServesInOrder asks rack shelves status.Key = AtRest rack × asks.shut
ServesInOrder asks rack shelves status.Disk = asks.drawn shelves × asks.shut × (AsksForDisks rack shelves ⊎ AsksForSome rack shelves)
ServesInOrder asks rack shelves status.Journal = asks.drawn shelves × asks.shut × AsksForDisks rack shelves
ServesInOrder asks rack shelves status.Door = asks.drawn shelves × AsksForDisks rack shelves
ServesInOrder asks rack shelves status.Done = asks.drawn shelves × AsksForDisks rack shelves
ServesInOrder asks rack shelves status.Write = asks.drawn shelves × AsksForDisks rack shelves
ServesInOrder asks rack shelves status.Memory = AsksForFew rack shelves
ServesInOrder asks rack shelves _ = AreIdle asks rack

-- no disk was asked for where the words, the input or the setup ended the command
abbrev pub RestsIfEarly : Racks → Status → Type 0
RestsIfEarly rack status.Usage = AtRest rack
RestsIfEarly rack status.Read = AtRest rack
RestsIfEarly rack status.Long = AtRest rack
RestsIfEarly rack status.Setup = AtRest rack
RestsIfEarly rack _ = ⊤

-- Of so many shelves, the disks of the first were asked for, up to that of one that was not opened. Or those of all were, in order, before
-- any was asked for again, as it is where a shelf crashes.
abbrev pub AsksForShelves : Racks → (shelves : ℕ) → Type 0
AsksForShelves rack shelves = AsksForSome rack shelves ⊎ AsksForAll shelves rack.before rack.after

-- What was asked of a rack where steps were to be performed over so many shelves, whatever its disks tell: before they were read nothing
-- was; where a shelf was not opened at first, no disk after its own was; where steps were performed, those of all were.
abbrev pub PlaysInOrder : Racks → (shelves : ℕ) → Status → Type 0
PlaysInOrder rack shelves status.Disk = AsksForShelves rack shelves
PlaysInOrder rack shelves status.Journal = AsksForShelves rack shelves
PlaysInOrder rack shelves status.Memory = AsksForNone rack.before rack.after ⊎ AsksForShelves rack shelves
PlaysInOrder rack shelves status.Done = AsksForAll shelves rack.before rack.after
PlaysInOrder rack shelves status.Line = AsksForAll shelves rack.before rack.after
PlaysInOrder rack shelves status.Write = AsksForAll shelves rack.before rack.after
PlaysInOrder rack shelves _ = AtRest rack

-- what was asked of a rack before a command ended so; a check takes no disk, however it ends
abbrev pub AsksRack : Racks → Command → Status → Type 0
AsksRack rack Check how = AtRest rack
AsksRack rack (Play o) how = PlaysInOrder rack o.shelves how
AsksRack rack (Load l) how = PlaysInOrder rack l.options.shelves how
AsksRack rack asked how = RestsIfEarly rack how

-- What was asked before a command ended so: the seeds and the door by a serving alone, and no disk by a check.
abbrev pub AsksInOrder : Asks → Racks → Option Command → Status → Type 0
AsksInOrder asks rack (Some (Serve s)) how = ServesInOrder asks rack s.options.shelves how
AsksInOrder asks rack (Some asked) how = asks.undrawn × asks.shut × AsksRack rack asked how
AsksInOrder asks rack None how = asks.undrawn × asks.shut × RestsIfEarly rack how

-- what was asked before a serving came to its counts, or to none
abbrev pub ComesInOrder : Asks → Racks → (shelves : ℕ) → Result Tally ServeFault → Type 0
ComesInOrder asks rack shelves (Err fault.Key) = AtRest rack × asks.shut
ComesInOrder asks rack shelves (Err fault.Memory) = AsksForFew rack shelves
ComesInOrder asks rack shelves (Err (fault.Shelf f)) =
    asks.drawn shelves × asks.shut × AsksByCause rack.before rack.after shelves f.shelf f.why
ComesInOrder asks rack shelves (Err (fault.Audit end)) = ⊥
ComesInOrder asks rack shelves outcome = asks.drawn shelves × AsksForDisks rack shelves
