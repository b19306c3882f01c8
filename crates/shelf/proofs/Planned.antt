-- What stays of a file is as long as the compacted file.
use Rattle.std.proofs.Common.{◌≡◌, ◌∙◌, ap, sym, ℕ, Bool, true, false, List, [], ◌∷◌, map, Option, Some, None, is_some, refl, arith}
use Rattle.std.specs.List.{AllByRecursion}
use Rattle.replay_spec.specs.Book.{Change, opens, extends, ends, finishes, sweeps, Line, changed, renewed}
use Rattle.replay_spec.specs.Compaction as spec
use Rattle.replay_spec.specs.Compaction.{line_length, lines_length, file_length}
use Rattle.file_copies.specs.OfFileNotes.declared.notes.FileNotes.{FileNotes}
use Rattle.file_copies.specs.OfFileNotes.Files.{file_in, drawn_length, total_in, IsNoted}
use Rattle.file_copies.specs.OfFileNotes.Notes.{note_by, note_of, length_in, all_lengths, is_told}
use Rattle.file_copies.proofs.OfFileNotes.Plans.{told_stay}

change_long : (c : Change) (n : ℕ) → length_in (note_by c n) ≡ n
change_long (opens o) n = refl
change_long (extends x) n = refl
change_long (ends e) n = refl
change_long (finishes f) n = refl
change_long (sweeps tick) n = refl

line_long : (l : Line) → length_in (note_of l) ≡ line_length l
line_long (changed c n) = change_long c n
line_long (renewed scripts n) = refl

lines_long : (ls : List Line) → all_lengths (map note_of ls) ≡ lines_length ls
lines_long [] = refl
lines_long (l ∷ ls) = let one = line_long l in let rest = lines_long ls in omega (arith, one, rest)

drawn_long : (t : Bool) (o : Option ℕ) → t ≡ is_some o → drawn_length t ≡ spec.drawn_length o
drawn_long true None e = absurd (let no : ⊥ = cc e in no)
drawn_long true (Some n) e = refl
drawn_long false None e = refl
drawn_long false (Some n) e = absurd (let no : ⊥ = cc e in no)

-- where recovery takes each record that is known of
pub total_is : (s : FileNotes) → IsNoted s → AllByRecursion (λ n. is_told n ≡ true) s.notes.items → total_in s ≡ file_length (file_in s)
total_is s noted told =
    let head = noted.head in
    let drawn = drawn_long s.drawn (file_in s).drawn noted.drawn in
    let notes : s.notes.items ≡ map note_of (file_in s).lines = sym (told_stay s.notes.items told) ∙ noted.lines in
    let lines : all_lengths s.notes.items ≡ lines_length (file_in s).lines = ap all_lengths notes ∙ lines_long (file_in s).lines in
    omega (arith, head, drawn, lines)
