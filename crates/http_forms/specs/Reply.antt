-- The bytes of a reply.
use Rattle.std.specs.Prelude.{ℕ, Bool, true, false, List, [], ◌++◌, length, codes}
use Rattle.std.specs.Fmt.{decimal}
use Rattle.reply_words.specs.Words.{Told, page, word, told}
use Rattle.reply_words.specs.declared.status.ReplyStatus.{ReplyStatus}
use Rattle.reply_words.specs.declared.status.ReplyStatus.TheVariants as replies
use Rattle.http_forms.specs.declared.refused.Refused.{Refused}
use Rattle.http_forms.specs.declared.refused.Refused.TheVariants as reasons
use Rattle.http_forms.specs.declared.status.Status.{Status}
use Rattle.http_forms.specs.declared.status.Status.TheVariants as status
use Rattle.http_forms.specs.declared.reply.Answer.{Answer}
use Rattle.http_forms.specs.declared.reply.Answer.TheVariants as answer

-- the number of a status and its reason
abbrev pub status_text : Status → List ℕ
status_text status.Ok = codes "200 OK"
status_text status.BadRequest = codes "400 Bad Request"
status_text status.NotFound = codes "404 Not Found"
status_text status.MethodNotAllowed = codes "405 Method Not Allowed"
status_text status.Gone = codes "410 Gone"
status_text status.LengthRequired = codes "411 Length Required"
status_text status.ContentTooLarge = codes "413 Content Too Large"
status_text status.UnsupportedMediaType = codes "415 Unsupported Media Type"
status_text status.HeaderFieldsTooLarge = codes "431 Request Header Fields Too Large"
status_text status.InternalServerError = codes "500 Internal Server Error"
status_text status.NotImplemented = codes "501 Not Implemented"
status_text status.ServiceUnavailable = codes "503 Service Unavailable"

-- the status of a reply that has no page
abbrev pub status_of : ReplyStatus → Status
status_of replies.NotFound = status.NotFound
status_of replies.Gone = status.Gone
status_of replies.InternalServerError = status.InternalServerError
status_of replies.ServiceUnavailable = status.ServiceUnavailable

-- the status of a request that is refused
abbrev pub refused_status : Refused → Status
refused_status reasons.BadRequest = status.BadRequest
refused_status reasons.Head = status.HeaderFieldsTooLarge
refused_status reasons.Chunked = status.NotImplemented
refused_status reasons.Method = status.MethodNotAllowed
refused_status reasons.Length = status.LengthRequired
refused_status reasons.TooLarge = status.ContentTooLarge
refused_status reasons.MediaType = status.UnsupportedMediaType

-- the word of a request that is refused
abbrev pub refused_word : Refused → List ℕ
refused_word reasons.BadRequest = codes "bad-request"
refused_word reasons.Head = codes "head"
refused_word reasons.Chunked = codes "chunked"
refused_word reasons.Method = codes "method"
refused_word reasons.Length = codes "length"
refused_word reasons.TooLarge = codes "too-large"
refused_word reasons.MediaType = codes "media-type"

-- the field that a reply to another method than GET and POST carries
abbrev pub allow : Status → List ℕ
allow status.MethodNotAllowed = codes "Allow: GET, POST\r\n"
allow _ = []

-- the first line of a message, ended by CR LF
abbrev pub status_line : Status → List ℕ
status_line code = codes "HTTP/1.1 " ++ (status_text code ++ codes "\r\n")

-- the line of a message that tells the media type of its body
abbrev pub type_line : (media_type : List ℕ) → List ℕ
type_line media_type = codes "Content-Type: " ++ (media_type ++ codes "; charset=utf-8\r\n")

-- the line of a message that tells the length of its body
abbrev pub length_line : (count : ℕ) → List ℕ
length_line count = codes "Content-Length: " ++ (decimal count ++ codes "\r\n")

-- the lines that stand before the length of the body
abbrev pub first_lines : Status → (media_type : List ℕ) → List ℕ
first_lines code media_type = status_line code ++ (type_line media_type ++ allow code)

-- the last line of a head and the empty one: whether the connection is closed after the body
abbrev pub last_lines : (closes : Bool) → List ℕ
last_lines true = codes "Connection: close\r\n\r\n"
last_lines false = codes "Connection: keep-alive\r\n\r\n"

-- the length of the body, the last lines and the body
abbrev pub length_and_body : (closes : Bool) → List ℕ → List ℕ
length_and_body closes body = length_line (length body) ++ (last_lines closes ++ body)

-- a message: its status, the media type of its body, and the body
abbrev pub message : Status → (closes : Bool) → (media_type body : List ℕ) → List ℕ
message code closes media_type body = first_lines code media_type ++ length_and_body closes body

-- a page is sent as HTML
abbrev pub page_message : (closes : Bool) → List ℕ → List ℕ
page_message closes bytes = message status.Ok closes (codes "text/html") bytes

-- a word, after which stands a newline, is sent as plain text
abbrev pub word_message : Status → (closes : Bool) → List ℕ → List ℕ
word_message code closes bytes = message code closes (codes "text/plain") (bytes ++ codes "\n")

-- what a reply says, as it is sent
abbrev pub told_message : (closes : Bool) → Told → List ℕ
told_message closes (page bytes) = page_message closes bytes
told_message closes (word code bytes) = word_message (status_of code) closes bytes

-- the bytes of an answer, which say whether the connection is closed after them
unfoldable pub reply_text : Answer → (closes : Bool) → List ℕ
reply_text (answer.Reply reply) closes = told_message closes (told reply)
reply_text (answer.Refused reason) closes = word_message (refused_status reason) closes (refused_word reason)
