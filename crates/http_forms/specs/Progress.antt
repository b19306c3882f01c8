-- How far the bytes of a link have come towards a request.
use Rattle.std.specs.Prelude.{◌≡◌, ◌≤◌, ◌<◌, ◌++◌, ℕ, false, List, length, take, Some, None, Ok, IsSome}
use Rattle.httparse.specs.Spans.{IsWithin}
use Rattle.http_forms.specs.Head.{head_end, without_blank}
use Rattle.http_forms.specs.Judged.{asked_of}
use Rattle.http_forms.specs.Request.{Outcome, unfinished, refused, Decides}
use Rattle.http_forms.specs.Rows.{Judges}
use Rattle.http_forms.specs.Scan.{StandsIn}
use Rattle.http_forms.specs.declared.progress.ReadHead.{ReadHead}
use Rattle.http_forms.specs.declared.progress.Progress.{Progress}
use Rattle.http_forms.specs.declared.progress.Progress.TheVariants as progress
use Rattle.http_forms.specs.declared.progress.RequestScanner.{RequestScanner}

-- the bytes are a request or refused, and need no more
pub record IsDecided (bytes : List ℕ) : Type 0 where
  pub outcome : Outcome
  pub decides : Decides bytes false outcome
  pub finished : outcome ≡ unfinished → ⊥

-- these bytes with others after them are decided where they are so many, and unfinished where they are fewer
pub record IsDecidedAt (total : ℕ) (bytes : List ℕ) : Type 0 where
  pub whole : (more : List ℕ) → total ≤ length (bytes ++ more) → IsDecided (bytes ++ more)
  pub short : (more : List ℕ) → length (bytes ++ more) < total → Decides (bytes ++ more) false unfinished

-- the lines of the head that ends at this place of the bytes
abbrev pub lines_in : (end : ℕ) → List ℕ → List ℕ
lines_in end bytes = without_blank (take end bytes)

-- the bytes begin with this head, which is not refused
pub record HasHead (head : ReadHead) (bytes : List ℕ) : Type 0 where
  pub end : head_end bytes ≡ Some head.end
  pub short : head.end ≤ 16384
  pub target : IsWithin (length (lines_in head.end bytes)) head.asked.target
  pub judges : Judges (take head.end bytes) (Ok (asked_of (lines_in head.end bytes) head.asked))

-- the search for the head's end stands in the bytes, or they begin with the head that was found, or they are refused
abbrev pub FollowsBy : Progress → List ℕ → Type 0
FollowsBy (progress.Head scanner) bytes = StandsIn scanner bytes
FollowsBy (progress.Body head) bytes = HasHead head bytes
FollowsBy (progress.Refused reason) bytes = Decides bytes false (refused reason)

-- no head ends in the bytes and one may end yet, or they begin with the head that was found, or they are refused
abbrev pub KnowsBy : Progress → List ℕ → Type 0
KnowsBy (progress.Head scanner) bytes = (head_end bytes ≡ None) × (length bytes < 16384)
KnowsBy (progress.Body head) bytes = HasHead head bytes
KnowsBy (progress.Refused reason) bytes = Decides bytes false (refused reason)

-- the scanner has followed these bytes, with others after them or none
abbrev pub Follows : RequestScanner → List ℕ → Type 0
Follows s bytes = FollowsBy s.progress bytes

-- the scanner was shown just these bytes last
abbrev pub Knows : RequestScanner → List ℕ → Type 0
Knows s bytes = KnowsBy s.progress bytes

-- so many bytes after these decide them, where these hold the end of a head
abbrev pub Suffices : (count : ℕ) → (bytes : List ℕ) → Type 0
Suffices count bytes = (more : List ℕ) → IsSome (head_end bytes) → count ≤ length more → IsDecided (bytes ++ more)
