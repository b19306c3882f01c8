-- How far the search for the end of a head has come.
use Rattle.std.specs.Prelude.{◌≡◌, ◌≤◌, ◌+◌, ℕ, suc, ◌==◌, List, ◌++◌, length, take, Option, Some, None, slice_index, option_map, if◌then◌else◌}
use Rattle.std.specs.Option.{option_or}
use Rattle.memchr.specs.Find.{Nowhere, Passes, is_byte}
use Rattle.http_forms.specs.Head.{empty_line, lines_end, head_end}
use Rattle.http_forms.specs.declared.head.Phase.{Phase}
use Rattle.http_forms.specs.declared.head.Phase.TheVariants as phases
use Rattle.http_forms.specs.declared.head.HeadScanner.{HeadScanner}

-- how many of these bytes belong to the head, by what stands before them
abbrev pub end_from : Phase → List ℕ → Option ℕ
end_from phases.Blank bytes = head_end bytes
end_from phases.BlankReturn bytes = if slice_index bytes 0 == 10 then head_end bytes else lines_end bytes
end_from phases.Line bytes = lines_end bytes
end_from phases.LineFeed bytes = option_or (empty_line bytes) (lines_end bytes)
end_from phases.LineReturn bytes = if slice_index bytes 0 == 10 then Some 1 else lines_end bytes

-- how many bytes, with one that was taken before these, belong to the head, which may have ended with that one
abbrev pub end_behind : Option Phase → List ℕ → Option ℕ
end_behind None bytes = Some 1
end_behind (Some phase) bytes = option_map suc (end_from phase bytes)

-- none of the first so many bytes is a line feed
abbrev pub LacksLineFeed : List ℕ → ℕ → Type 0
LacksLineFeed bytes count = Nowhere (Passes (is_byte 10) bytes) 0 count

-- these bytes were passed over: whatever follows them, the head ends where it does from this phase on
abbrev pub HasPassed : Phase → List ℕ → Type 0
HasPassed phase passed = (more : List ℕ) → head_end (passed ++ more) ≡ option_map (λ n. length passed + n) (end_from phase more)

-- the scanner stands in these bytes: it has passed over those before its place
pub record StandsIn (s : HeadScanner) (bytes : List ℕ) : Type 0 where
  pub place : s.place ≤ length bytes
  pub passed : HasPassed s.phase (take s.place bytes)
