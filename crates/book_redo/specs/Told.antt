-- What the record of a page tells of the page's state.
use Rattle.std.specs.Prelude.{◌≡◌, ℕ, ◌==◌, Bool, List, Option, Some, None, option_map, if◌then◌else◌}
use Rattle.script_nodes.specs.Setup.{Named, Library}
use Rattle.script_nodes.specs.Views.{named_of}
use Rattle.replay_spec.specs.Book.{Change}
use Rattle.machine_states.specs.Machine.{Suspended}
use Rattle.machine_states.specs.Views.{origin_of, suspended_of}
use Rattle.machine_states.specs.declared.frame.Suspended as stored
use Rattle.frame_codec.specs.Forms.{read_form}
use Rattle.instance_book.specs.KeptStates.Links.{behind_at}
use Rattle.journal_spec.specs.Retaking.{arena_of, Told, unread, told_as, told_in, script_for}
use Rattle.journal_spec.specs.Old.{read_alone, told_at}
use Rattle.instance_book.specs.declared.book.Book.{Book}
use Rattle.book_redo.specs.declared.behind.Behind.{Behind}
use Rattle.book_redo.specs.Redo.{is_read}
use Rattle.book_redo.specs.Renewing.{OfEach}

-- the state of the page's script that these bytes spell by itself, where it can be written after what the page goes on from
abbrev pub alone_behind : Behind → List ℕ → Option Suspended
alone_behind x bytes = read_alone (arena_of (named_of x.script.now).script) (behind_at x.links (origin_of x.from)) bytes

-- the state of the page's script that these bytes spell in the form that is due after what the page goes on from
abbrev pub form_behind : Behind → List ℕ → Option Suspended
form_behind x bytes = read_form (arena_of (named_of x.script.now).script) (behind_at x.links (origin_of x.from)) bytes

-- this is the state that bytes spell by itself, or there is none
abbrev pub ReadsAlone : Behind → (bytes : List ℕ) → Option stored.Suspended → Type 0
ReadsAlone x bytes d = option_map suspended_of d ≡ alone_behind x bytes

-- this is the state that bytes spell in the form that is due after what the page goes on from, or there is none
abbrev pub ReadsForm : Behind → (bytes : List ℕ) → Option stored.Suspended → Type 0
ReadsForm x bytes d = option_map suspended_of d ≡ form_behind x bytes

-- this is the state that these bytes spell in this format
abbrev pub ReadsAt : (format : ℕ) → Behind → (bytes : List ℕ) → Option stored.Suspended → Type 0
ReadsAt format x bytes d = option_map suspended_of d ≡ (if format == 2 then alone_behind x bytes else form_behind x bytes)

-- what is told of a page of this script, whose bytes are read as this state; of a page of no script nothing is read
abbrev pub told_for : Option Named → Option Suspended → Told
told_for None d = unread
told_for (Some s) d = told_as d

-- where records made this book and told its pages' states, the record of a change tells this state by these bytes in this format; none where it
-- tells no state
abbrev pub IsToldAt : (format : ℕ) → Library → Book → Change → (state : List ℕ) → Option stored.Suspended → Type 0
IsToldAt format library b c state d =
    OfEach library b (λ place n m. told_at format m.earlier m.book c (Some state) ≡ told_for (script_for m.book c) (option_map suspended_of d))

-- where records made this book and told its pages' states, this tells whether the record of a change tells a state by these bytes in the newest
-- format, or need tell none
abbrev pub IsReadThere : Library → Book → Change → (state : List ℕ) → Bool → Type 0
IsReadThere library b c state t = OfEach library b (λ place n m. t ≡ is_read (told_in m.earlier m.book c (Some state)))
