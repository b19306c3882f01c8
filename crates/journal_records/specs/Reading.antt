-- How records are read.
use Rattle.std.specs.Prelude.{ℕ, ◌+◌, ◌==◌, Bool, true, false, List, [], ◌∷◌, Option, Some, None, nat_lt, if◌then◌else◌}
use Rattle.script_value.specs.Val.{Val, number, truth, text, symbol, list, no_vals, val}
use Rattle.script_value.specs.Pieces.{◌>>=◌}
use Rattle.script_value.specs.declared.outcome.TxName.{TxName}
use Rattle.instance_cells.specs.Cells.{Effect, read, set, add}
use Rattle.script_nodes.specs.declared.script.SendKind.{SendKind}
use Rattle.script_nodes.specs.declared.script.SendKind.TheVariants.{Suspend, Forward}
use Rattle.replay_spec.specs.Book.{Opening, Extension, Ending, Finish, Change, opens, extends, ends, finishes, sweeps}
use Rattle.wire_bytes.specs.Reading.{read_u8, read_u32, read_u64, read_bytes}
use Rattle.value_bytes.specs.Reading.{Reader, seen_as, read_list, read_i64, read_value}
use Rattle.journal_records.specs.Fields.{Origin, start, answered, numbers_end, deadlines_end}
use Rattle.journal_records.specs.Records.{Record, begins, changes, renews, draws, follows, promotes, Page}

-- reads one thing, and another after it
infixr 10 ◌then◌
abbrev pub ◌then◌ : {A B : Type 0} → Reader A → Reader B → Reader (A × B)
◌then◌ first second bytes = do
  x ← first bytes
  y ← second x.1
  Some ((x.0, y.0), y.1)

-- a number of 64 bits below the limit
abbrev pub read_below : ℕ → Reader ℕ
read_below limit bytes = do
  n ← read_u64 bytes
  if nat_lt n.0 limit then Some n else None

-- a ticket, an instance, a page or a clock
abbrev pub read_number : Reader ℕ
read_number bytes = read_below numbers_end bytes

-- one more than a number that a record can have, or less
abbrev pub read_drawn : Reader ℕ
read_drawn bytes = read_below (numbers_end + 1) bytes

-- a deadline, which is below the end of those that can be told
abbrev pub read_deadline : Reader ℕ
read_deadline bytes = read_below deadlines_end bytes

-- the name of a transaction, of its ticket and its entry
abbrev pub name_from : ℕ × ℕ → TxName
name_from x = record { ticket = x.0; entry = x.1 }

-- the name of a transaction
abbrev pub read_name : Reader TxName
read_name bytes = seen_as name_from ((read_u64 then read_u32) bytes)

-- what an effect of this kind did to the cell
abbrev pub read_effect_of : (kind cell : ℕ) → Reader Effect
read_effect_of kind cell bytes =
    if kind == 0 then seen_as (read cell) (read_value bytes) else
    (if kind == 1 then seen_as (set cell) (read_value bytes) else
    (if kind == 2 then seen_as (add cell) (read_i64 bytes) else None))

-- an effect on a cell: its kind, its cell, and the value or the number
abbrev pub read_effect : Reader Effect
read_effect bytes = do
  kind ← read_u8 bytes
  cell ← read_u8 kind.1
  read_effect_of kind.0 cell.0 cell.1

-- how a page was sent, by the byte that says it
abbrev pub send_of : ℕ → Option SendKind
send_of kind = if kind == 0 then Some Suspend else (if kind == 1 then Some Forward else None)

-- how a page was sent
abbrev pub read_send : Reader SendKind
read_send bytes = do
  kind ← read_u8 bytes
  send ← send_of kind.0
  Some (send, kind.1)

-- whether a value is the empty list
abbrev pub is_nothing : Val → Bool
is_nothing (number n) = false
is_nothing (truth b) = false
is_nothing (text t) = false
is_nothing (symbol s) = false
is_nothing (list no_vals) = true
is_nothing (list (val v vs)) = false

-- the empty list, which is the answer of a start
abbrev pub read_nothing : Reader Val
read_nothing bytes = do
  v ← read_value bytes
  if is_nothing v.0 then Some v else None

-- a start of a script, of the script's place and of the answer that it has
abbrev pub start_from : ℕ × Val → Origin
start_from x = start x.0

-- a page of an instance, and its answer
abbrev pub read_answered : Reader (ℕ × (ℕ × Val))
read_answered bytes = (read_number then (read_number then read_value)) bytes

-- the answer to a page, of the instance, the page and the answer
abbrev pub answered_from : ℕ × (ℕ × Val) → Origin
answered_from x = answered x.0 x.1.0 x.1.1

-- where a segment began, of the kind that its first byte says
abbrev pub read_origin_of : ℕ → Reader Origin
read_origin_of kind bytes =
    if kind == 0 then seen_as start_from ((read_u8 then read_nothing) bytes) else
    (if kind == 1 then seen_as answered_from (read_answered bytes) else None)

-- where a segment began: at a start, or at an answer to a page
abbrev pub read_origin : Reader Origin
read_origin bytes = do
  kind ← read_u8 bytes
  read_origin_of kind.0 kind.1

-- effects on cells, after their count
abbrev pub read_effects : Reader (List Effect)
read_effects bytes = read_list read_effect bytes

-- names of transactions, after their count
abbrev pub read_names : Reader (List TxName)
read_names bytes = read_list read_name bytes

-- the fields of a page, in the order in which they are written
abbrev pub PageParts : Type 0
PageParts = ℕ × (ℕ × (Origin × (List Effect × (List TxName × (SendKind × (ℕ × (List ℕ × List ℕ)))))))

-- a page, of its fields
abbrev pub page_from : PageParts → Page
page_from x = record {
  ticket = x.0;
  nonce = x.1.0;
  origin = x.1.1.0;
  effects = x.1.1.1.0;
  left = x.1.1.1.1.0;
  kind = x.1.1.1.1.1.0;
  deadline = x.1.1.1.1.1.1.0;
  evicted = x.1.1.1.1.1.1.1.0;
  state = x.1.1.1.1.1.1.1.1;
}

-- a page whose last two fields, the pages that went for it and the bytes of its state, are read so
abbrev pub read_page_with : (gone state : Reader (List ℕ)) → Reader Page
read_page_with gone state bytes =
    seen_as page_from
    ((read_number then (read_u64 then (read_origin then (read_effects then (read_names then (read_send then (read_deadline then (gone then state)))))))) bytes)

-- a page, as it is written in the newest format
abbrev pub read_page : Reader Page
read_page bytes = read_page_with (read_list read_number) read_bytes bytes

-- the fields of an answer with a last page, in the order in which they are written
abbrev pub EndingParts : Type 0
EndingParts = ℕ × (ℕ × (ℕ × (Val × (List Effect × List TxName))))

-- an answer with a last page, of its fields
abbrev pub ending_from : EndingParts → Ending
ending_from x = record {
  number = x.0;
  instance = x.1.0;
  page = x.1.1.0;
  answer = x.1.1.1.0;
  effects = x.1.1.1.1.0;
  left = x.1.1.1.1.1;
}

-- an answer with a last page
abbrev pub read_ending : Reader Ending
read_ending bytes =
    seen_as ending_from ((read_number then (read_number then (read_number then (read_value then (read_effects then read_names))))) bytes)

-- the fields of an answer that freed its instance, in the order in which they are written
abbrev pub FinishParts : Type 0
FinishParts = ℕ × (ℕ × (ℕ × (Val × List Effect)))

-- an answer that freed its instance, of its fields
abbrev pub finish_from : FinishParts → Finish
finish_from x = record { number = x.0; instance = x.1.0; page = x.1.1.0; answer = x.1.1.1.0; effects = x.1.1.1.1 }

-- an answer that freed its instance
abbrev pub read_finish : Reader Finish
read_finish bytes = seen_as finish_from ((read_number then (read_number then (read_number then (read_value then read_effects)))) bytes)

-- the name and the text of a script of the setup
abbrev pub read_script : Reader (List ℕ × List ℕ)
read_script bytes = (read_bytes then read_bytes) bytes

-- the record that begins a file, of the shelf and the setup
abbrev pub begins_from : ℕ × List (List ℕ × List ℕ) → Record
begins_from x = begins x.0 x.1

-- the record that begins a file
abbrev pub read_begins : Reader Record
read_begins bytes = seen_as begins_from ((read_u32 then read_list read_script) bytes)

-- the opening of a script's instance that a page tells of
abbrev pub opening_from : (script : ℕ) → Page → Opening
opening_from script p = record {
  number = p.ticket;
  nonce = p.nonce;
  script = script;
  effects = p.effects;
  left = p.left;
  kind = p.kind;
  deadline = p.deadline;
  evicted = p.evicted;
}

-- the extension of an instance that a page tells of, by this answer to a page of it
abbrev pub extension_from : (instance page : ℕ) → (answer : Val) → Page → Extension
extension_from instance page answer p = record {
  number = p.ticket;
  nonce = p.nonce;
  instance = instance;
  page = page;
  answer = answer;
  effects = p.effects;
  left = p.left;
  kind = p.kind;
  deadline = p.deadline;
  evicted = p.evicted;
}

-- the change that a page makes of a book whose segment began so: it opens an instance or extends one
abbrev pub change_from : Origin → Page → Change
change_from (start script) p = opens (opening_from script p)
change_from (answered instance page answer) p = extends (extension_from instance page answer p)

-- a page without the bytes of its state
abbrev pub stateless : Page → Page
stateless p = record p { state = [] }

-- the change that a page makes of a book, of which its state is no part
abbrev pub page_change : Page → Change
page_change p = change_from p.origin (stateless p)

-- a record of this kind
abbrev pub read_kind : ℕ → Reader Record
read_kind kind rest =
    if kind == 1 then read_begins rest else
    (if kind == 2 then seen_as (λ p. changes (page_change p) (Some p.state)) (read_page rest) else
    (if kind == 3 then seen_as (λ e. changes (ends e) None) (read_ending rest) else
    (if kind == 4 then seen_as (λ f. changes (finishes f) None) (read_finish rest) else
    (if kind == 5 then seen_as (λ n. changes (sweeps n) None) (read_number rest) else
    (if kind == 6 then seen_as (λ s. renews s) (read_list read_script rest) else
    (if kind == 7 then seen_as (λ n. draws n) (read_drawn rest) else
    (if kind == 8 then Some (follows, rest) else
    (if kind == 9 then Some (promotes, rest) else None))))))))

-- the record at the front
abbrev pub read_front : Reader Record
read_front bytes = do
  kind ← read_u8 bytes
  read_kind kind.0 kind.1

-- what was read, where no bytes stand after it
abbrev pub alone : {A : Type 0} → Option (A × List ℕ) → Option A
alone None = None
alone (Some (x, [])) = Some x
alone (Some (x, b ∷ bytes)) = None

-- the record whose body this is
unfoldable pub read_record : List ℕ → Option Record
read_record bytes = alone (read_front bytes)
