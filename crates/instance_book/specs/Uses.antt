-- The uses of pages, and which pages can't be answered any more.
use Rattle.std.specs.Prelude.{ℕ, Bool, true, false, nat_le, List, Option, Some, None, if◌then◌else◌}
use Rattle.journal_records.specs.ReplaySpec.Marks.{Mark, use_page}

-- the marks after a segment of this number answered a page, if it answered one
abbrev pub use_if : Option ℕ → (number : ℕ) → List Mark → List Mark
use_if None n ms = ms
use_if (Some p) n ms = use_page p n ms

-- whether there is a page for which a page went
abbrev pub is_gone : Option ℕ → Bool
is_gone None = false
is_gone (Some by) = true

-- whether a page of this deadline can't be answered any more, which went for that one, if for any
abbrev pub is_over_by : (clock deadline : ℕ) → (gone : Option ℕ) → Bool
is_over_by clock deadline gone = if nat_le deadline clock then true else is_gone gone
