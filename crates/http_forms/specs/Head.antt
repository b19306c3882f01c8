-- Where the head of a request ends.
use Rattle.std.specs.Prelude.{ℕ, suc, ◌-◌, ◌==◌, ◌&&◌, ◌||◌, Bool, List, [], ◌∷◌, Option, Some, None, slice_index, option_map, if◌then◌else◌}
use Rattle.std.specs.Option.{option_or}
use Rattle.std.specs.List.{count_by}

-- whether a byte ends a line
abbrev pub is_line_feed : ℕ → Bool
is_line_feed b = b == 10

-- the length of an empty line, LF or CR LF, that the bytes begin with
abbrev pub empty_line : List ℕ → Option ℕ
empty_line bytes =
    if slice_index bytes 0 == 10 then Some 1
    else (if slice_index bytes 0 == 13 && slice_index bytes 1 == 10 then Some 2 else None)

-- the byte is a line feed, or the carriage return before one
abbrev pub is_line_end : ℕ → List ℕ → Bool
is_line_end b behind = is_line_feed b || (b == 13 && slice_index behind 0 == 10)

-- the bytes without the empty lines that stand before the first line
abbrev pub without_blank : List ℕ → List ℕ
without_blank [] = []
without_blank (b ∷ bytes) = if is_line_end b bytes then without_blank bytes else b ∷ bytes

-- the length up to the end of the first empty line after a line: LF LF, or LF CR LF
abbrev pub lines_end : List ℕ → Option ℕ
lines_end [] = None
lines_end (b ∷ bytes) =
    option_map suc (if is_line_feed b then option_or (empty_line bytes) (lines_end bytes) else lines_end bytes)

-- the length of a head, which ends with the first empty line after its first line; empty lines before that line belong to it
abbrev pub head_end : List ℕ → Option ℕ
head_end [] = None
head_end (b ∷ bytes) = if is_line_end b bytes then option_map suc (head_end bytes) else lines_end (b ∷ bytes)

-- how many lines stand between the first line of a head and the empty line that ends it, by their line feeds
abbrev pub field_lines : (lines : List ℕ) → ℕ
field_lines lines = count_by is_line_feed lines - 2
