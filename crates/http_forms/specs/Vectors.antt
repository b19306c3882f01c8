-- Heads, requests and replies, computed.
use Rattle.std.specs.Prelude.{◌≡◌, ℕ, Bool, List, [], ◌∷◌, true, false, Some, None, Ok, Err, codes, map, refl}
use Rattle.std.specs.Fmt.{digits}
use Rattle.std.proofs.Common.{zero, suc, arith}
use Rattle.std.proofs.lemmas.List.Elements.{All-cons, All-nil}
use Rattle.std.proofs.lemmas.List.Sums.{AllPass-from_list_all}
use Rattle.std.proofs.lemmas.Str.{IsUtf8-from_ascii}
use Rattle.std.proofs.lemmas.Str.Ascii.{IsAscii-nil}
use Rattle.std.specs.Str.{IsAscii}
use Rattle.httparse.specs.Grammar.{crlf, Field, IsField, IsRequestHead, RequestHead, is_token_byte, is_uri_byte, is_value_byte, print_request}
use Rattle.httparse.proofs.OnLiterals.{httparse_on_literals}
use Rattle.form_urlencoded.proofs.OnLiterals.{form_urlencoded_on_literals}
use Rattle.script_value.specs.Val.{list, vals_of}
use Rattle.script_value.specs.declared.outcome.Reply.TheVariants.{Ended, Fault, Refused as NotAdmitted}
use Rattle.script_value.specs.declared.outcome.Fault.TheVariants.{Binding}
use Rattle.script_value.specs.declared.outcome.Refusal.TheVariants.{Expired}
use Rattle.page_names.specs.Names.{page, named_by, destination_of}
use Rattle.http_forms.specs.Head.{head_end, field_lines, without_blank}
use Rattle.http_forms.specs.Answers.{answer_of, binding_of}
use Rattle.http_forms.specs.Rows.{Asked, Judges, closes_by, head_verdict}
use Rattle.http_forms.specs.Request.{Visit, Decides, unfinished, refused, visits, without_head, with_head}
use Rattle.http_forms.specs.Stream.{Streams, closed, pending, refusal}
use Rattle.http_forms.specs.Reply.{reply_text}
use Rattle.http_forms.specs.declared.refused.Refused.TheVariants.{BadRequest, Head, Chunked, Method, Length, TooLarge, MediaType}
use Rattle.http_forms.specs.declared.reply.Answer.TheVariants.{Reply, Refused}

-- a head without a field ends with its empty line
pub short_head : head_end (codes "GET / HTTP/1.0\r\n\r\nmore") ≡ Some 18
short_head = refl

-- a line may end in LF alone
pub bare_feeds : head_end (codes "GET / HTTP/1.0\nA: b\n\n\n") ≡ Some 21
bare_feeds = refl

-- empty lines before the first line belong to the head, and do not end it
pub blanks_before : head_end (codes "\r\n\n\r\nGET / HTTP/1.0\n\r\n") ≡ Some 22
blanks_before = refl

-- empty lines alone are no head
pub only_blanks : head_end (codes "\r\n\n\r\n\n") ≡ None
only_blanks = refl

-- a head that lacks the last byte of its empty line has no end
pub one_byte_short : head_end (codes "GET / HTTP/1.0\r\n\r") ≡ None
one_byte_short = refl

-- a carriage return twice ends no line
pub two_returns : head_end (codes "GET / HTTP/1.0\n\r\r\n") ≡ None
two_returns = refl

-- the lines of a head's fields are counted without empty lines before them
pub two_fields : field_lines (without_blank (codes "\r\nGET / HTTP/1.1\r\nHost: h\r\nA: b\n\r\n")) ≡ 2
two_fields = refl

-- a field of this name and value, whose line ends with CR LF
abbrev field : (name value : List ℕ) → Field
field name value = record { name = name; raw = 32 ∷ value; end = crlf }

-- a head with this method, this target, this minor version and these fields
abbrev head : (method target : List ℕ) → (minor : ℕ) → List Field → RequestHead
head method target minor fields = record {
  blank = [];
  method = method;
  target = target;
  minor = minor;
  line_end = crlf;
  fields = fields;
  last = crlf;
}

-- a field that names the host
abbrev host : Field
host = field (codes "Host") (codes "h")

-- a field that says that the body is a form, in letters of both cases
abbrev form : Field
form = field (codes "content-TYPE") (codes "application/x-www-FORM-urlencoded ; charset=utf-8")

-- a field that says the body's length in these digits
abbrev sized : List ℕ → Field
sized digits = field (codes "Content-Length") digits

-- the head of an answer to a page by a form of three bytes
abbrev answered : RequestHead
answered = head (codes "POST") (codes "/servlets/all;0*0*0*0000000000000000?n=1") 1 (host ∷ form ∷ sized (codes "3") ∷ [])

-- the head of an answer to a page has these bytes
pub answered_bytes : print_request answered ≡ codes "POST /servlets/all;0*0*0*0000000000000000?n=1 HTTP/1.1\r\nHost: h\r\ncontent-TYPE: application/x-www-FORM-urlencoded ; charset=utf-8\r\nContent-Length: 3\r\n\r\n"
unfolding httparse_on_literals
answered_bytes = refl

-- what the head of an answer to a page asks for
abbrev asked : Asked
asked = record { target = codes "/servlets/all;0*0*0*0000000000000000?n=1"; posts = true; length = 3; closes = false }

-- the head of an answer to a page asks for its target, by a body of three bytes
pub answered_verdict : head_verdict (Some answered) ≡ Ok asked
unfolding httparse_on_literals
answered_verdict = refl

-- what stands after the body is not read
pub answered_request : with_head 40 (Ok asked) (codes "n=2&n=3") false
    ≡ visits (record {
      destination = Some (page (codes "all") (record { shelf = 0; instance = 0; page = 0; nonce = 0 }));
      answer = answer_of (codes "n=1") (codes "n=2");
      length = 43;
      closes = false;
    })
unfolding form_urlencoded_on_literals destination_of named_by
answered_request = refl

-- the query's pairs stand before the body's; an empty piece is no pair
pub pairs_in_order : answer_of (codes "a=b&&a=c") (codes "d&a=e=f")
    ≡ list (vals_of (map binding_of ((codes "a", codes "b") ∷ (codes "a", codes "c") ∷ (codes "d", []) ∷ (codes "a", codes "e=f") ∷ [])))
unfolding form_urlencoded_on_literals
pairs_in_order = refl

-- a request whose body has not yet come is unfinished
pub body_short : with_head 40 (Ok asked) (codes "n=") false ≡ unfinished
body_short = refl

-- a request whose body was cut short is a bad one
pub body_cut : with_head 40 (Ok asked) (codes "n=") true ≡ refused BadRequest
body_cut = refl

-- a connection that ends without a byte has no request
pub nothing_at_all : without_head 0 true ≡ unfinished
nothing_at_all = refl

-- a head that was cut short is a bad request
pub head_cut : without_head 16383 true ≡ refused BadRequest
head_cut = refl

-- a head of fewer than 16384 bytes may go on
pub head_open : without_head 16383 false ≡ unfinished
head_open = refl

-- a head of 16384 bytes and more is too long
pub head_long : without_head 16384 true ≡ refused Head
head_long = refl

-- a request closes at version 1.0, and where one of its options is `close`
pub closes_at_0 : closes_by 0 [] ≡ true
closes_at_0 = refl

-- a connection stays open where no option is `close` by itself
pub closes_not : closes_by 1 ((codes "connection", codes "closed, keep-alive") ∷ (codes "Conn", codes "close") ∷ []) ≡ false
unfolding httparse_on_literals
closes_not = refl

-- a connection closes by one of several options, in letters of either case
pub closes_by_option : closes_by 1 ((codes "connection", codes "a,\t Close ") ∷ (codes "Connection", codes "b") ∷ []) ≡ true
unfolding httparse_on_literals
closes_by_option = refl

-- of two causes the earlier row is answered
pub no_grammar : head_verdict None ≡ Err BadRequest
no_grammar = refl

-- a head of version 1.1 without a host is a bad request, before its body is looked at
pub no_host : head_verdict (Some (head (codes "PUT") (codes "/") 1 (field (codes "Transfer-Encoding") (codes "chunked") ∷ []))) ≡ Err BadRequest
unfolding httparse_on_literals
no_host = refl

-- a body in chunks is refused, before a bad length is
pub chunked : head_verdict (Some (head (codes "PUT") (codes "/") 1 (host ∷ sized (codes "x") ∷ field (codes "transfer-encoding") [] ∷ []))) ≡ Err Chunked
unfolding httparse_on_literals
chunked = refl

-- a length that is no number is a bad request, before the method is refused
pub no_number : head_verdict (Some (head (codes "PUT") (codes "/") 1 (host ∷ sized (codes "+3") ∷ []))) ≡ Err BadRequest
unfolding httparse_on_literals
no_number = refl

-- two lengths are a bad request, though they are the same
pub two_lengths : head_verdict (Some (head (codes "PUT") (codes "/") 1 (host ∷ sized (codes "3") ∷ sized (codes "3") ∷ []))) ≡ Err BadRequest
unfolding httparse_on_literals
two_lengths = refl

-- a method in small letters is refused, before a body that is too large is
pub other_method : head_verdict (Some (head (codes "get") (codes "/") 1 (host ∷ sized (codes "99999") ∷ []))) ≡ Err Method
unfolding httparse_on_literals
other_method = refl

-- a POST without a length is refused
pub no_length : head_verdict (Some (head (codes "POST") (codes "/") 1 (host ∷ []))) ≡ Err Length
unfolding httparse_on_literals
no_length = refl

-- a body of more than 65536 bytes is refused
pub too_large : head_verdict (Some (head (codes "POST") (codes "/") 1 (host ∷ sized (codes "65537") ∷ []))) ≡ Err TooLarge
unfolding httparse_on_literals
too_large = refl

-- a length of thirty digits is one that is too large
pub thirty_digits : head_verdict (Some (head (codes "GET") (codes "/") 0 (sized (codes "999999999999999999999999999999") ∷ []))) ≡ Err TooLarge
unfolding httparse_on_literals
thirty_digits = refl

-- a POST with two media types is refused
pub two_types : head_verdict (Some (head (codes "POST") (codes "/") 1 (host ∷ sized (codes "3") ∷ form ∷ field (codes "Content-Type") (codes "text/plain") ∷ []))) ≡ Err MediaType
unfolding httparse_on_literals
two_types = refl

-- a body of no bytes needs no media type, and one of a GET never does
pub empty_body : head_verdict (Some (head (codes "POST") (codes "/") 1 (host ∷ sized (codes "000") ∷ []))) ≡ Ok (record { target = codes "/"; posts = true; length = 0; closes = false })
unfolding httparse_on_literals
empty_body = refl

-- a GET may have a body of 65536 bytes, and one of version 1.0 closes the connection
pub get_with_body : head_verdict (Some (head (codes "GET") (codes "/") 0 (sized (codes "65536") ∷ []))) ≡ Ok (record { target = codes "/"; posts = false; length = 65536; closes = true })
unfolding httparse_on_literals
get_with_body = refl

-- a page is answered with status 200 as HTML, and the connection closes where this is said
pub a_page : reply_text (Reply (Ended (codes "<p>12</p>"))) true
    ≡ codes "HTTP/1.1 200 OK\r\nContent-Type: text/html; charset=utf-8\r\nContent-Length: 9\r\nConnection: close\r\n\r\n<p>12</p>"
unfolding reply_text digits
a_page = refl

-- a fault is answered with status 500 and its word
pub a_fault : reply_text (Reply (Fault Binding)) true
    ≡ codes "HTTP/1.1 500 Internal Server Error\r\nContent-Type: text/plain; charset=utf-8\r\nContent-Length: 8\r\nConnection: close\r\n\r\nbinding\n"
unfolding reply_text digits
a_fault = refl

-- an expired page is answered with status 410 and its word, and the connection stays open where this is said
pub an_old_page : reply_text (Reply (NotAdmitted (Expired 7))) false
    ≡ codes "HTTP/1.1 410 Gone\r\nContent-Type: text/plain; charset=utf-8\r\nContent-Length: 8\r\nConnection: keep-alive\r\n\r\nexpired\n"
unfolding reply_text digits
an_old_page = refl

-- another method is answered with status 405, and with those that are allowed
pub a_method : reply_text (Refused Method) true
    ≡ codes "HTTP/1.1 405 Method Not Allowed\r\nContent-Type: text/plain; charset=utf-8\r\nAllow: GET, POST\r\nContent-Length: 7\r\nConnection: close\r\n\r\nmethod\n"
unfolding reply_text digits
a_method = refl

-- ---- a link of two requests

-- the head of a request for the root
abbrev plain_head : RequestHead
plain_head = head (codes "GET") (codes "/") 1 (host ∷ [])

-- the path of the root is ASCII
slash : IsAscii (codes "/")
slash zero = omega arith
slash (suc i) = IsAscii-nil i

-- the head of a request for the root is one
is_head : IsRequestHead plain_head
unfolding httparse_on_literals is_token_byte
is_head = record {
  method = (omega arith, AllPass-from_list_all is_token_byte (codes "GET") refl);
  target = (omega arith, AllPass-from_list_all is_uri_byte (codes "/") refl);
  target_text = IsUtf8-from_ascii (codes "/") slash;
  minor = omega arith;
  fields = All-cons IsField host [] (record {
    name = (omega arith, AllPass-from_list_all is_token_byte (codes "Host") refl);
    raw = AllPass-from_list_all is_value_byte (32 ∷ codes "h") refl;
  }) (All-nil IsField);
}

-- the visit that a request for the root is
abbrev plain : Visit
plain = record { destination = destination_of (codes "/"); answer = answer_of [] []; length = 27; closes = false }

-- what the head of a request for the root asks for
abbrev asked_of_it : Asked
asked_of_it = record { target = codes "/"; posts = false; length = 0; closes = false }

-- the bytes of a request for the root are judged so
judged : Judges (codes "GET / HTTP/1.1\r\nHost: h\r\n\r\n") (Ok asked_of_it)
unfolding httparse_on_literals
judged = record { parsed = Some plain_head; grammar = (is_head, refl); is = refl }

-- two whole requests for the root and the beginning of a third one, as a connection brings them
abbrev link : List ℕ
link = codes "GET / HTTP/1.1\r\nHost: h\r\n\r\nGET / HTTP/1.1\r\nHost: h\r\n\r\nGET"

-- of two requests on a connection the first is decided by its own bytes
first_of_two : (ended : Bool) → Decides link ended (visits plain)
first_of_two ended = (Ok asked_of_it, judged, refl)

-- of two requests on a connection the second is decided by what follows the first
second_of_two : (ended : Bool) → Decides (codes "GET / HTTP/1.1\r\nHost: h\r\n\r\nGET") ended (visits plain)
second_of_two ended = (Ok asked_of_it, judged, refl)

-- the second request is the last one that may come
pub two_of_two : Streams 2 link false (plain ∷ plain ∷ []) closed
two_of_two = (first_of_two false, (second_of_two false, (refl, refl)))

-- a third request may come, and has begun
pub two_of_three : Streams 3 link false (plain ∷ plain ∷ []) pending
two_of_three = (first_of_two false, (second_of_two false, refl))

-- the link ends inside the third request
pub two_and_a_front : Streams 3 link true (plain ∷ plain ∷ []) (refusal BadRequest)
two_and_a_front = (first_of_two true, (second_of_two true, refl))
