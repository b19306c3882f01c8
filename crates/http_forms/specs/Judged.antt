-- What the code's verdict on a head stands for.
use Rattle.std.specs.Prelude.{◌≡◌, ℕ, List, Bool, Option, Result, Ok, Err, map}
use Rattle.httparse.specs.Spans.{header_bytes, span_bytes}
use Rattle.httparse.specs.declared.spans.HeaderSpan.{HeaderSpan}
use Rattle.httparse.specs.declared.spans.Span.{Span}
use Rattle.http_forms.specs.Found.{IsFound}
use Rattle.http_forms.specs.declared.fields.Found.{Found}
use Rattle.http_forms.specs.Rows as spec
use Rattle.http_forms.specs.Rows.{Judges}
use Rattle.http_forms.specs.declared.refused.Refused.{Refused}
use Rattle.http_forms.specs.declared.rows.Asked.{Asked}

-- what a head asks for, where its target stands in these lines
abbrev pub asked_of : (lines : List ℕ) → Asked → spec.Asked
asked_of lines a = record { target = span_bytes lines a.target; posts = a.posts; length = a.length; closes = a.closes }

-- what a head asks for, or why it is refused, as the program's verdict says it
abbrev pub judged_of : (lines : List ℕ) → Result Asked Refused → Result spec.Asked Refused
judged_of lines (Ok asked) = Ok (asked_of lines asked)
judged_of lines (Err refused) = Err refused

-- the length of the body that is asked for, or the refusal
abbrev pub length_of : Result spec.Asked Refused → Result ℕ Refused
length_of (Ok asked) = Ok asked.length
length_of (Err refused) = Err refused

-- this is the length of the body that a head asks for, or why the head is refused
pub record Measures (head : List ℕ) (result : Result ℕ Refused) : Type 0 where
  pub verdict : Result spec.Asked Refused
  pub judges : Judges head verdict
  pub is : result ≡ length_of verdict

-- the answer is that of the rows on the body, whatever values were found of Content-Type, and whatever lines the target stands in
abbrev pub JudgesBody : (method : List ℕ) → Span → Found → (closes : Bool) → Option ℕ → Result Asked Refused → Type 0
JudgesBody method target types closes announced result =
    (lines : List ℕ) (values : List (List ℕ)) → IsFound values types
    → judged_of lines result ≡ spec.body_verdict method (span_bytes lines target) values closes announced

-- The answer is that of the rows on the fields, where a head's target and its fields stand in these lines.
abbrev pub JudgesFields : (minor : ℕ) → (method : List ℕ) → Span → (lines : List ℕ) → List HeaderSpan → Result Asked Refused → Type 0
JudgesFields minor method target lines headers result =
    judged_of lines result ≡ spec.fields_verdict minor method (span_bytes lines target) (map (header_bytes lines) headers)
