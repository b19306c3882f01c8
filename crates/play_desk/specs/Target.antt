-- What a target says: its path names a destination, and its query is the answer.
pub use Rattle.page_names.specs.Placing.{shelf_for}
pub use Rattle.http_forms.specs.Answers.{path_and_query}
use Rattle.std.specs.Prelude.{ℕ, List, []}
use Rattle.script_value.specs.Val.{Val}
use Rattle.http_forms.specs.Answers.{answer_of}

-- the answer that a query alone gives: its pairs in order
abbrev pub answer_to : List ℕ → Val
answer_to query = answer_of query []
