-- What the buffers keep, and what they tell.
use Rattle.std.specs.Prelude.{ℕ, List, drop, slice_range, Result}
use Rattle.std.specs.Io.KnownBytes.{WriteAppends, append_known, prepend_known}
use Rattle.web_outside.specs.View.{SourceView, SinkView}
use Rattle.machine_outside.specs.declared.buffers.ReadAhead.{ReadAhead}
use Rattle.machine_outside.specs.declared.buffers.Together.{Together}

-- the bytes that were read and not yet given
abbrev pub kept_ahead : {S : Type 0} → ReadAhead S → List ℕ
kept_ahead s = slice_range s.bytes s.start s.end

-- the bytes that are left are those that are kept, and then those that are left below
abbrev pub ahead_view : {S : Type 0} → (view : S → SourceView) → ReadAhead S → SourceView
ahead_view view s = record (view s.source) { left = prepend_known (kept_ahead s) (view s.source).left }

-- the bytes that were taken and not yet written
abbrev pub kept_together : {O : Type 0} → Together O → List ℕ
kept_together s = drop s.start s.bytes.items

-- the bytes that were written are those that were written below, and then those that are kept
abbrev pub together_view : {O : Type 0} → (view : O → SinkView) → Together O → SinkView
together_view view s = record (view s.sink) { written = append_known (view s.sink).written (kept_together s) }

-- A write below what is kept together took a front of this piece, or nothing where it failed.
abbrev pub PassesOn : {O E : Type 0} → (view : O → SinkView) → (old new : Together O) → Result ℕ E → (piece : List ℕ) → Type 0
PassesOn view old new result piece = WriteAppends (together_view view old).written (together_view view new).written result piece
