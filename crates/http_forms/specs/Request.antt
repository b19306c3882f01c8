-- What the bytes of a link ask for.
use Rattle.std.specs.Prelude.{◌≡◌, ℕ, ◌+◌, ◌&&◌, Bool, List, [], length, take, drop, nat_lt, nat_le, Option, Some, None, Result, Ok, Err, if◌then◌else◌}
use Rattle.script_value.specs.Val.{Val}
use Rattle.page_names.specs.Names.{Destination, destination_of}
use Rattle.http_forms.specs.Answers.{answer_of, path_and_query}
use Rattle.http_forms.specs.Head.{head_end}
use Rattle.http_forms.specs.Rows.{Asked, Judges}
use Rattle.http_forms.specs.declared.refused.Refused.{Refused}
use Rattle.http_forms.specs.declared.refused.Refused.TheVariants.{BadRequest, Head}

-- a visit that is asked for: of a destination, unless the path names none; how many bytes ask for it; and whether the connection
-- closes after it
pub record Visit : Type 0 where
  pub destination : Option Destination
  pub answer : Val
  pub length : ℕ
  pub closes : Bool

-- what bytes come to: more bytes are needed; or the bytes are refused; or they ask for a visit
pub data Outcome : Type 0 where
  unfinished : Outcome
  refused : Refused → Outcome
  visits : Visit → Outcome

-- what so many bytes without the end of a head come to: refused where they are too many, or some and the last, and else unfinished
abbrev pub without_head : (count : ℕ) → (ended : Bool) → Outcome
without_head count ended =
    if nat_le 16384 count then refused Head
    else (if ended && nat_lt 0 count then refused BadRequest else unfinished)

-- the visit that so many bytes ask for, with those of the body; the body of a GET is no answer
abbrev pub visit_of : (count : ℕ) → Asked → (body : List ℕ) → Outcome
visit_of count asked body =
    let parts = path_and_query asked.target in
    visits (record {
      destination = destination_of parts.0;
      answer = answer_of parts.1 (if asked.posts then body else []);
      length = count;
      closes = asked.closes;
    })

-- what a head of so many bytes and the bytes after it come to, of which the body may need more
abbrev pub with_head : (head : ℕ) → Result Asked Refused → (behind : List ℕ) → (ended : Bool) → Outcome
with_head head (Err r) behind ended = refused r
with_head head (Ok asked) behind ended =
    if nat_le asked.length (length behind) then visit_of (head + asked.length) asked (take asked.length behind)
    else (if ended then refused BadRequest else unfinished)

-- what the bytes come to, by the end of their head
abbrev pub DecidesAt : Option ℕ → List ℕ → Bool → Outcome → Type 0
DecidesAt None bytes ended outcome = outcome ≡ without_head (length bytes) ended
DecidesAt (Some n) bytes ended outcome =
    (judged : Result Asked Refused) × Judges (take n bytes) judged × (outcome ≡ with_head n judged (drop n bytes) ended)

-- what the bytes read so far come to, the last ones or not: the first row of the table that holds, or the visit
abbrev pub Decides : List ℕ → (ended : Bool) → Outcome → Type 0
Decides bytes ended outcome = DecidesAt (head_end bytes) bytes ended outcome
