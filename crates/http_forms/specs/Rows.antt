-- The rows of the table of refusals that a whole head decides, in their order.
use Rattle.std.specs.Prelude.{◌≡◌, ℕ, ◌==◌, ◌&&◌, ◌||◌, not, Bool, true, false, List, [], length, map, nat_lt, Option, Some, None, Result, Ok, Err, unwrap_or, is_some, codes, bytes_eq, if◌then◌else◌}
use Rattle.httparse.specs.Grammar.{RequestHead, ReadsRequest}
use Rattle.httparse.specs.Spans.{name_and_value}
use Rattle.http_forms.specs.Head.{without_blank, field_lines}
use Rattle.http_forms.specs.Fields.{values_of, is_one, is_none, announced, is_form, fields_say_close}
use Rattle.http_forms.specs.declared.refused.Refused.{Refused}
use Rattle.http_forms.specs.declared.refused.Refused.TheVariants.{BadRequest, Head, Chunked, Method, Length, TooLarge, MediaType}

-- what a head asks for that is not refused: its target, whether its method is POST, the length of its body, and whether the
-- connection closes after it
pub record Asked : Type 0 where
  pub target : List ℕ
  pub posts : Bool
  pub length : ℕ
  pub closes : Bool

-- whether the method of a request is GET
abbrev pub is_get : List ℕ → Bool
is_get method = bytes_eq method (codes "GET")

-- whether the method of a request is POST
abbrev pub is_post : List ℕ → Bool
is_post method = bytes_eq method (codes "POST")

-- the rows on the method, the length and the media type
abbrev pub body_verdict : (method target : List ℕ) → (types : List (List ℕ)) → (closes : Bool) → Option ℕ → Result Asked Refused
body_verdict method target types closes announced =
    if not (is_get method || is_post method) then Err Method
    else (if is_post method && not (is_some announced) then Err Length
    else (if nat_lt 65536 (unwrap_or announced 0) then Err TooLarge
    else (if is_post method && nat_lt 0 (unwrap_or announced 0) && not (is_form types) then Err MediaType
    else Ok (record { target = target; posts = is_post method; length = unwrap_or announced 0; closes = closes }))))

-- the rows on the method, the length and the media type, where a length was announced well, or not at all
abbrev pub length_verdict : (method target : List ℕ) → (types : List (List ℕ)) → (closes : Bool) → Result (Option ℕ) Refused → Result Asked Refused
length_verdict method target types closes (Ok announced) = body_verdict method target types closes announced
length_verdict method target types closes (Err refused) = Err refused

-- the connection closes after a request of version 1.0, and after one that says so
abbrev pub closes_by : (minor : ℕ) → (fields : List (List ℕ × List ℕ)) → Bool
closes_by minor fields = minor == 0 || fields_say_close fields

-- a head of version 1.1 lacks a Host: it has none, or more than one
abbrev pub lacks_host : (minor : ℕ) → (fields : List (List ℕ × List ℕ)) → Bool
lacks_host minor fields = minor == 1 && not (is_one (values_of (codes "Host") fields))

-- the rows on the fields: a Host at version 1.1, no Transfer-Encoding, and one length at most
abbrev pub fields_verdict : (minor : ℕ) → (method target : List ℕ) → (fields : List (List ℕ × List ℕ)) → Result Asked Refused
fields_verdict minor method target fields =
    if lacks_host minor fields then Err BadRequest
    else (if not (is_none (values_of (codes "Transfer-Encoding") fields)) then Err Chunked
    else length_verdict method target (values_of (codes "Content-Type") fields) (closes_by minor fields)
    (announced (values_of (codes "Content-Length") fields)))

-- the rows on the fields of a head in the grammar of `httparse`; what is no such head is a bad request
abbrev pub head_verdict : Option RequestHead → Result Asked Refused
head_verdict None = Err BadRequest
head_verdict (Some h) = fields_verdict h.minor h.method h.target (map name_and_value h.fields)

-- the head of `httparse`'s grammar that the bytes are, the whole of them, if they are one
abbrev pub IsParsed : List ℕ → Option RequestHead → Type 0
IsParsed bytes (Some h) = ReadsRequest bytes h []
IsParsed bytes None = (h : RequestHead) → ReadsRequest bytes h [] → ⊥

-- what bytes come to that are given to `httparse`
pub record Reads (bytes : List ℕ) (verdict : Result Asked Refused) : Type 0 where
  pub parsed : Option RequestHead
  pub grammar : IsParsed bytes parsed
  pub is : verdict ≡ head_verdict parsed

-- what the lines of a head come to, by whether they are too many or too long
abbrev pub JudgesLines : (too_much : Bool) → (lines : List ℕ) → Result Asked Refused → Type 0
JudgesLines true lines verdict = verdict ≡ Err Head
JudgesLines false lines verdict = Reads lines verdict

-- what a whole head comes to: the first row that refuses it, or what it asks for; empty lines before it are not looked at
abbrev pub Judges : (head : List ℕ) → Result Asked Refused → Type 0
Judges head verdict =
    let lines = without_blank head in
    JudgesLines (nat_lt 16384 (length head) || nat_lt 64 (field_lines lines)) lines verdict
