-- What the bytes of a journal make, by the format that they tell.
use Rattle.std.specs.Prelude.{ℕ, List, [], ◌∷◌}
use Rattle.page_journal.specs.Records as journal
use Rattle.page_journal.specs.Records.{Log, records, format_of}
use Rattle.journal_spec.specs.Making.{Texts, Making, nothing, damaged}
use Rattle.journal_spec.specs.Old.{book_of_format}

-- what the records that a journal of this format holds make
abbrev pub by_log : (format : ℕ) → Texts → (shelf : ℕ) → Log → Making
by_log format texts shelf (journal.Damaged place) = damaged place
by_log format texts shelf (journal.Intact bodies) = book_of_format format texts shelf bodies

-- what the bytes of a journal make; nothing where there are none
abbrev pub book_in_bytes : Texts → (shelf : ℕ) → List ℕ → Making
book_in_bytes texts shelf [] = nothing
book_in_bytes texts shelf (b ∷ bytes) = by_log (format_of (b ∷ bytes)) texts shelf (records (b ∷ bytes))
