-- What visitors meet of a shelf that follows another one's journal.
use Rattle.std.specs.Prelude.{⊤, ◌≡◌, ℕ, Bool, true, IsTrue, List}
use mathlib.Core.List.{IsPrefix}
use Rattle.script_value.specs.Val.{Val}
use Rattle.script_value.specs.declared.outcome.Reply.{Reply}
use Rattle.script_value.specs.declared.outcome.Reply.TheVariants as reply
use Rattle.page_names.specs.Names.{Destination}
use Rattle.web_disk.specs.View.{View}
use Rattle.history_spec.specs.Histories.{Entry}
use Rattle.site.specs.declared.opening.Opening.{Opening}
use Rattle.site.specs.Opened.{HasEnded}
use Rattle.site.specs.Openings.{opened_of, start_of}
use Rattle.site_serving.specs.Visits.{Seen, IsVisited}

-- a visit is put off: the shelf follows another one's journal, or is down, or its history is as long as it may be; or memory was wanting
abbrev pub IsPutOff : Reply → Type 0
IsPutOff reply.Following = ⊤
IsPutOff (reply.Down count) = ⊤
IsPutOff reply.Worn = ⊤
IsPutOff reply.Memory = ⊤
IsPutOff _ = ⊥

-- Each visit of a shelf that followed another one's journal when it was opened is put off, whatever it asks for.
abbrev pub FollowersPutVisitsOff : {D N : Type 0} → (D → View) → Bool → (N → ℕ → ℕ) → Type 0
FollowersPutVisitsOff {D} {N} view tells coming =
    (o : Opening D N) (disk : D) (es : List Entry) → HasEnded (IsTrue tells) (opened_of view tells coming o) (view disk) es
    → (start_of view o).book.follows ≡ true
    → (worker : ℕ) (target : Destination) (answer : Val) (reply : Reply) (a b : Seen) → IsPrefix b.front es
    → IsVisited (opened_of view tells coming o) worker target answer reply a b → IsPutOff reply
