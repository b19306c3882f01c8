-- What is known of a file stays so with one record more.
use Rattle.std.proofs.Common.{◌≡◌, ◌+◌, List, [], ◌∷◌, ◌++◌, arith}
use Rattle.file_notes.specs.declared.note.Note.{Note}
use Rattle.file_notes.specs.Notes.{all_lengths}

pub lengths_append : (ns ms : List Note) → all_lengths (ns ++ ms) ≡ all_lengths ns + all_lengths ms
lengths_append [] ms = omega arith
lengths_append (n ∷ ns) ms = let h = lengths_append ns ms in omega (arith, h)
