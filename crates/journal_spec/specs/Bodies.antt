-- The bodies of a file's records, and those of its compaction.
use Rattle.std.specs.Prelude.{◌≡◌, ℕ, ◌&&◌, List, [], ◌∷◌, ◌++◌, map, filter, Option, Some, None, if◌then◌else◌}
use Rattle.replay_spec.specs.Book.{Instance, Line, changed, renewed, File, Book}
use Rattle.replay_spec.specs.Compaction.{stays, is_sweep, compaction}
use Rattle.replay_spec.specs.Recovery.{Made, then_line, first_of}
use Rattle.replay_spec.specs.Remade.{IsFiled}
use Rattle.journal_records.specs.Records.{begin_of, renewal_of, draws, body_of}
use Rattle.journal_spec.specs.Lengths.{own_body}

-- the body of a line's record, where this is the book before it
abbrev pub spelled : Book → Line → List ℕ
spelled b (changed c n) = own_body b c
spelled b (renewed scripts n) = body_of (renewal_of scripts)

-- the lines, each with the body of its record, where records before them make this
abbrev pub with_spelled : List Line → Made → List (Line × List ℕ)
with_spelled [] m = []
with_spelled (l ∷ ls) m = (l, spelled m.book l) ∷ with_spelled ls (then_line l m)

-- the body of the record that tells which numbers were drawn before a compaction, where the file was compacted
abbrev pub drawn_bodies : Option ℕ → List (List ℕ)
drawn_bodies None = []
drawn_bodies (Some n) = body_of (draws n) ∷ []

-- the bodies of all records of a file, in its order
abbrev pub bodies_of : (shelf : ℕ) → File → List (List ℕ)
bodies_of shelf f =
    body_of (begin_of shelf f.scripts) ∷ (drawn_bodies f.drawn ++ map (λ (x : Line × List ℕ). x.1) (with_spelled f.lines (first_of shelf f)))

-- a line before others, with their bodies, where of two sweeps that stand together the later one is left
abbrev pub ahead : Line × List ℕ → List (Line × List ℕ) → List (Line × List ℕ)
ahead x [] = x ∷ []
ahead x (y ∷ ys) = if is_sweep x.0 && is_sweep y.0 then y ∷ ys else x ∷ y ∷ ys

-- lines with their bodies, where of sweeps that stand together the last one is left
abbrev pub joined : List (Line × List ℕ) → List (Line × List ℕ)
joined [] = []
joined (x ∷ xs) = ahead x (joined xs)

-- the lines that a compaction keeps for these instances, with their bodies as they stand
abbrev pub copied : List Instance → List (Line × List ℕ) → List (Line × List ℕ)
copied is xs = joined (filter (λ (x : Line × List ℕ). stays is x.0) xs)

-- The bodies of the compacted file are that of the first record, that of the number drawn, and copies of those of the file that stay.
abbrev pub CompactionCopies : Type 0
CompactionCopies =
    (b : Book) → IsFiled b
    → bodies_of b.shelf (compaction b)
    ≡ body_of (begin_of b.shelf b.file.scripts) ∷ (body_of (draws b.logged)
    ∷ map (λ (x : Line × List ℕ). x.1) (copied b.instances (with_spelled b.file.lines (first_of b.shelf b.file))))
