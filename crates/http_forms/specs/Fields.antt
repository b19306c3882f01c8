-- What the fields of a head say.
use Rattle.std.specs.Prelude.{ℕ, ◌==◌, ◌&&◌, Bool, true, false, List, [], ◌∷◌, length, map, nat_lt, Option, Some, None, Result, Ok, Err, codes, if◌then◌else◌}
use Rattle.std.specs.List.{list_all, list_any, slice_split}
use Rattle.std.specs.Char.{is_ascii_digit}
use Rattle.std.specs.Str.{str_eq_ignore_ascii_case}
use Rattle.std.specs.Str.Parse.{digits_value}
use Rattle.form_urlencoded.specs.Form.{split_once}
use Rattle.httparse.specs.Grammar.{trim_ows}
use Rattle.http_forms.specs.declared.refused.Refused.{Refused}
use Rattle.http_forms.specs.declared.refused.Refused.TheVariants.{BadRequest}

-- the values of the fields of this name, in order; names are compared in any case
abbrev pub values_of : List ℕ → List (List ℕ × List ℕ) → List (List ℕ)
values_of name [] = []
values_of name (field ∷ fields) =
    if str_eq_ignore_ascii_case field.0 name then field.1 ∷ values_of name fields else values_of name fields

-- whether a field has one value alone
abbrev pub is_one : List (List ℕ) → Bool
is_one (value ∷ []) = true
is_one _ = false

-- whether a field has no value
abbrev pub is_none : List (List ℕ) → Bool
is_none [] = true
is_none (value ∷ values) = false

-- the number that one digit or more spell, of whatever size; other bytes are a bad request
abbrev pub length_in : List ℕ → Result (Option ℕ) Refused
length_in digits =
    if nat_lt 0 (length digits) && list_all is_ascii_digit digits then Ok (Some (digits_value 10 digits))
    else Err BadRequest

-- the length that the fields Content-Length give the body: there may be none of them, or one that is digits
abbrev pub announced : List (List ℕ) → Result (Option ℕ) Refused
announced [] = Ok None
announced (value ∷ []) = length_in value
announced (value ∷ more ∷ values) = Err BadRequest

-- the media type of a value of Content-Type: its part before `;`, without the spaces and tabs around it
abbrev pub media_type : List ℕ → List ℕ
media_type value = trim_ows (split_once 59 value).0

-- there is one field Content-Type, and its media type is that of a form, in any case
abbrev pub is_form : List (List ℕ) → Bool
is_form (value ∷ []) = str_eq_ignore_ascii_case (media_type value) (codes "application/x-www-form-urlencoded")
is_form _ = false

-- whether a byte is a comma
abbrev pub is_comma : ℕ → Bool
is_comma b = b == 44

-- the options of a value of Connection: what stands between its commas, without the spaces and tabs around it
abbrev pub options : List ℕ → List (List ℕ)
options value = map trim_ows (slice_split is_comma value)

-- whether an option of a connection is `close`, in letters of either case
abbrev pub is_close : List ℕ → Bool
is_close option = str_eq_ignore_ascii_case option (codes "close")

-- one of these values of Connection has the option `close`, in any case
abbrev pub say_close : List (List ℕ) → Bool
say_close values = list_any (λ value. list_any is_close (options value)) values

-- A field Connection of a head says that the connection closes.
abbrev pub fields_say_close : (fields : List (List ℕ × List ℕ)) → Bool
fields_say_close fields = say_close (values_of (codes "Connection") fields)
