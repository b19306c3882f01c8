-- What the program's records stand for.
use Rattle.std.specs.Prelude.{◌≡◌, ℕ, List, [], ◌∷◌, map, Option, Some, None, option_map, IfSome}
use Rattle.std.specs.Borrow.{Bor}
use Rattle.std.specs.Global.{Vec}
use Rattle.script_value.specs.Views.{meaning}
use Rattle.script_nodes.specs.declared.library.ScriptText.{ScriptText}
use Rattle.script_nodes.specs.Views.{scripts_of}
use Rattle.script_nodes.specs.Setup.{Named, texts_of}
use Rattle.instance_cells.specs.Cells as cells
use Rattle.instance_cells.specs.declared.effect.Effect.{Effect}
use Rattle.instance_cells.specs.Views.{effect_of}
use Rattle.replay_spec.specs.Book.{Change, Ending, Finish, ends, finishes, sweeps}
use Rattle.journal_records.specs.Fields as spec
use Rattle.value_bytes.specs.Spelling.{list_bytes}
use Rattle.journal_records.specs.Records.{Record, begins, changes, renews, draws, follows, promotes, Page, IsInGrammar, begin_of, renewal_of, bytes_in, page_bytes, ending_bytes, finish_bytes}
use Rattle.journal_records.specs.Reading.{change_from}
use Rattle.journal_records.specs.Old.{read_record_in}
use Rattle.journal_records.specs.Laws.{IsBodyOf}
use Rattle.journal_records.specs.declared.records.Origin.{Origin}
use Rattle.journal_records.specs.declared.records.Origin.TheVariants as origin
use Rattle.journal_records.specs.declared.records.PageRecord.{PageRecord}
use Rattle.journal_records.specs.declared.records.EndedRecord.{EndedRecord}
use Rattle.journal_records.specs.declared.records.FinishRecord.{FinishRecord}
use Rattle.journal_records.specs.declared.records.Logged.{Logged}
use Rattle.journal_records.specs.declared.records.Logged.TheVariants as logged
use Rattle.journal_records.specs.declared.records.Recorded.{Recorded}
use Rattle.journal_records.specs.declared.records.Recorded.TheVariants as recorded

-- the name and the text of a script that a journal tells
abbrev pub script_of : ScriptText → List ℕ × List ℕ
script_of s = (s.name, s.text)

-- the names and the texts of scripts that a journal tells
abbrev pub texts_in : Vec ScriptText → List (List ℕ × List ℕ)
texts_in scripts = map script_of scripts.items

-- the effects that a record tells
abbrev pub effects_in : Vec Effect → List cells.Effect
effects_in effects = map effect_of effects.items

-- the names and the texts of a setup, one after the other, after their count
abbrev pub setup_bytes : List Named → List ℕ
setup_bytes scripts = list_bytes spec.script_bytes (texts_of scripts)

-- where the segment began
abbrev pub origin_of : Origin → spec.Origin
origin_of (origin.Start script) = spec.start script
origin_of (origin.Answer instance page answer) = spec.answered instance page (meaning answer)

-- the page that was shown, with these bytes of its state
abbrev pub page_of : PageRecord → (state : List ℕ) → Page
page_of p state = record {
  ticket = p.ticket;
  nonce = p.nonce;
  origin = origin_of p.origin;
  effects = map effect_of p.effects.items;
  left = p.left.items;
  kind = p.kind;
  deadline = p.deadline;
  evicted = p.evicted.items;
  state = state;
}

-- the change of the book that a page is whose segment began so
abbrev pub change_with : spec.Origin → PageRecord → Change
change_with origin p = change_from origin (page_of p [])

-- the change of the book that a page is: an instance opens where it is of a start, and goes on where it is of an answer
abbrev pub page_change : PageRecord → Change
page_change p = change_with (origin_of p.origin) p

-- a copy of a page's record is of the same change, with the same deadline and pages that went
pub record IsSamePage (r copy : PageRecord) : Type 0 where
  pub change : page_change copy ≡ page_change r
  pub deadline : copy.deadline ≡ r.deadline
  pub gone : copy.evicted.items ≡ r.evicted.items

-- the last page without a name
abbrev pub ending_of : EndedRecord → Ending
ending_of e = record {
  number = e.ticket;
  instance = e.instance;
  page = e.page;
  answer = meaning e.answer;
  effects = map effect_of e.effects.items;
  left = e.left.items;
}

-- the last page with which the instance went
abbrev pub finish_of : FinishRecord → Finish
finish_of f = record {
  number = f.ticket;
  instance = f.instance;
  page = f.page;
  answer = meaning f.answer;
  effects = map effect_of f.effects.items;
}

-- what a record says that was read
abbrev pub logged_of : Logged → Record
logged_of (logged.Begin shelf scripts) = begins shelf (texts_in scripts)
logged_of (logged.Page p state) = changes (page_change p) (Some state)
logged_of (logged.Ended e) = changes (ends (ending_of e)) None
logged_of (logged.Finish f) = changes (finishes (finish_of f)) None
logged_of (logged.Sweep clock) = changes (sweeps clock) None
logged_of (logged.Texts scripts) = renews (texts_in scripts)
logged_of (logged.Drawn number) = draws number
logged_of logged.Follow = follows
logged_of logged.Promoted = promotes

-- the bytes of a state that are lent
abbrev pub lent_state : Option (Bor (List ℕ)) → Option (List ℕ)
lent_state state = option_map (λ bytes. bytes.now) state

-- the bytes of a state that are lent, and no bytes where there are none
abbrev pub lent_bytes : Option (Bor (List ℕ)) → List ℕ
lent_bytes state = bytes_in (lent_state state)

-- what a record says that is lent to be written
abbrev pub recorded_of : Recorded → Record
recorded_of (recorded.Begin shelf setup) = begin_of shelf (scripts_of setup.now)
recorded_of (recorded.Page p state) = changes (page_change p.now) (lent_state state)
recorded_of (recorded.Ended e) = changes (ends (ending_of e.now)) None
recorded_of (recorded.Finish f) = changes (finishes (finish_of f.now)) None
recorded_of (recorded.Sweep clock) = changes (sweeps clock) None
recorded_of (recorded.Texts setup) = renewal_of (scripts_of setup.now)
recorded_of (recorded.Drawn number) = draws number
recorded_of recorded.Follow = follows
recorded_of recorded.Promoted = promotes

-- the record that bytes are the body of in this format
abbrev pub ReadsRecord : (format : ℕ) → List ℕ → Option Logged → Type 0
ReadsRecord format bytes found = option_map logged_of found ≡ read_record_in format bytes

-- what is found can be written
abbrev pub FindsFitting : Option Logged → Type 0
FindsFitting found = IfSome found (λ l. IsInGrammar (logged_of l))

-- the bytes are the body of what is found
abbrev pub FindsItsBody : List ℕ → Option Logged → Type 0
FindsItsBody bytes found = IfSome found (λ l. IsBodyOf bytes (logged_of l))

-- the body of the record of a page, with these bytes of its state
abbrev pub page_body : PageRecord → (state : List ℕ) → List ℕ
page_body p state = 2 ∷ page_bytes (page_of p state)

-- the body of the record of a last page without a name
abbrev pub ended_body : EndedRecord → List ℕ
ended_body e = 3 ∷ ending_bytes (ending_of e)

-- the body of the record of a last page with which the instance went
abbrev pub finish_body : FinishRecord → List ℕ
finish_body f = 4 ∷ finish_bytes (finish_of f)
