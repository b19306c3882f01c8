-- What a target and a body say: the path names a destination, and the pairs of the query and the body are the answer.
use Rattle.std.specs.Prelude.{ℕ, List, ◌++◌, map}
use Rattle.std.specs.Str.Lossy.{utf8_lossy}
use Rattle.form_urlencoded.specs.Form.{decode, raw_pairs, split_once}
use Rattle.script_value.specs.Val.{Val, symbol, text, list, val, no_vals, vals_of}

-- the text that a name or a value of a pair stands for, as `form_urlencoded` says
abbrev pub text_of : List ℕ → List ℕ
text_of bytes = utf8_lossy (decode bytes)

-- a pair as a binding: a symbol and a text
abbrev pub binding_of : List ℕ × List ℕ → Val
binding_of p = list (val (symbol (text_of p.0)) (val (text (text_of p.1)) no_vals))

-- the answer that a query and a body give: the query's pairs in order, and then the body's
abbrev pub answer_of : (query body : List ℕ) → Val
answer_of query body = list (vals_of (map binding_of (raw_pairs query) ++ map binding_of (raw_pairs body)))

-- the path of a target, and its query after the first `?`
abbrev pub path_and_query : List ℕ → List ℕ × List ℕ
path_and_query target = split_once 63 target
