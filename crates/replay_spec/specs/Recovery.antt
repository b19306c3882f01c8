-- What the records of a journal make: the book of a shelf, as after a crash.
use Rattle.std.specs.Prelude.{ℕ, max, ◌+◌, ◌==◌, ◌&&◌, Bool, true, false, Result, Ok, Err, List, [], ◌∷◌, length, Option, Some, None, nat_lt, slice_get, if◌then◌else◌}
use Rattle.std.specs.Ordering.{int_eq}
use Rattle.script_value.specs.Val.{Val, list, no_vals}
use Rattle.script_value.specs.declared.outcome.TxName.{TxName}
use Rattle.script_nodes.specs.PrimSpec.Same.{same}
use Rattle.script_nodes.specs.PageNames.Names.{start}
use Rattle.instance_cells.specs.Cells.{Effect, read, set, add, cell_of, cell_at, sum, landed}
use Rattle.script_nodes.specs.declared.script.SendKind.{SendKind}
use Rattle.script_nodes.specs.declared.script.SendKind.TheVariants.{Suspend, Forward}
use Rattle.script_nodes.specs.Setup.{Named}
use Rattle.replay_spec.specs.Names.{is_name}
use Rattle.replay_spec.specs.Tape.{present, shows, Outcome, paged}
use Rattle.replay_spec.specs.Eval.{Segment}
use Rattle.replay_spec.specs.Book.{Use, Opening, Extension, Change, opens, extends, ends, finishes, sweeps, Line, changed, renewed, File, Book, instance_at, page_at, reopened}
use Rattle.replay_spec.specs.Rules.{Rules, empty_book}
use Rattle.replay_spec.specs.Change.{logged_by, longer_by, with_line, land}
use Rattle.replay_spec.specs.Eviction.{but}
use Rattle.replay_spec.specs.Compaction.{drawn_length}
use Rattle.replay_spec.specs.Admission.{◌>>=◌, when, is_one, Place}
use Rattle.replay_spec.specs.Next.{Visit, comes_to, start_visit, page_visit}
use Rattle.server_limits.specs.Limits.{most_fuel}

-- whether two effects are the same
abbrev pub is_effect : Effect → Effect → Bool
is_effect (read c v) (read d w) = c == d && same v w
is_effect (set c v) (set d w) = c == d && same v w
is_effect (add c m) (add d n) = c == d && int_eq m n
is_effect _ _ = false

-- whether two lists of effects are the same
abbrev pub are_effects : List Effect → List Effect → Bool
are_effects [] [] = true
are_effects (d ∷ ds) (e ∷ es) = is_effect d e && are_effects ds es
are_effects _ _ = false

-- whether two lists of transactions are the same
abbrev pub are_names : List TxName → List TxName → Bool
are_names [] [] = true
are_names (s ∷ ss) (t ∷ ts) = is_name s t && are_names ss ts
are_names _ _ = false

-- whether two kinds of sent pages are the same
abbrev pub is_kind : SendKind → SendKind → Bool
is_kind Suspend Suspend = true
is_kind Forward Forward = true
is_kind _ _ = false

-- whether a result is no fault
abbrev pub is_ok : {A E : Type 0} → Result A E → Bool
is_ok (Ok x) = true
is_ok (Err e) = false

-- whether an effect stands over its cell's value
abbrev pub stands_over : Effect → Val → Bool
stands_over (read c v) w = same w v
stands_over (set c v) w = true
stands_over (add c n) w = is_ok (sum w n)

-- whether each effect is on one of so many cells
abbrev pub are_on : (cells : ℕ) → List Effect → Bool
are_on n [] = true
are_on n (e ∷ es) = nat_lt (cell_of e) n && are_on n es

-- whether each effect stands over these cells, the earlier writes applied
abbrev pub hold_over : List Effect → (cells : List Val) → Bool
hold_over [] cells = true
hold_over (e ∷ es) cells = stands_over e (cell_at cells (cell_of e)) && hold_over es (landed e cells)

-- the page that stands under these numbers
abbrev pub page_of_numbers : Book → (instance page : ℕ) → Option Place
page_of_numbers b instance page = do
  i ← instance_at instance b.instances
  p ← page_at page i.pages
  Some (record { instance = i; page = p })

-- the visit that the record of a start tells of, which does not look at a target
abbrev pub opening_visit : Book → Opening → Named → Visit
opening_visit b o s =
    start_visit b (record { target = start s.name; answer = list no_vals; number = o.number; nonce = o.nonce }) o.script s

-- the visit that the record of an answer tells of, which does not look at a target
abbrev pub extension_visit : Book → Extension → Place → Visit
extension_visit b x at =
    page_visit b (record { target = start at.instance.script.name; answer = x.answer; number = x.number; nonce = x.nonce }) at

-- the names that a run is inside which shows a page of this kind, with these effects, and leaves these transactions
abbrev pub shows_so : Outcome → SendKind → List Effect → (left : List TxName) → Segment → Option (List TxName)
shows_so (paged (shows k) bytes) kind effects left m =
    when (is_kind k kind && are_effects m.effects effects && are_names m.left left) m.entered
shows_so _ kind effects left m = None

-- the names that a page is inside which is made again from its record, where a run shows one of this kind with these effects
abbrev pub again : SendKind → List Effect → (left : List TxName) → Segment → Option (List TxName)
again kind effects left m = shows_so m.outcome kind effects left m

-- the empty list of names, where the effects of what ended or finished are on cells of the instance and hold over them
abbrev pub ended_so : List Effect → (cells : List Val) → Option (List TxName)
ended_so effects cells = when (are_on (length cells) effects && hold_over effects cells) []

-- whether a page is among those that are not evicted
abbrev pub is_used : ℕ → List Use → Bool
is_used n [] = false
is_used n (u ∷ us) = if u.page == n then true else is_used n us

-- whether these pages are among those that are not evicted, and none of them stands twice
abbrev pub can_go : List ℕ → List Use → Bool
can_go [] us = true
can_go (n ∷ ns) us = is_used n us && can_go ns (but n us)

-- these names, where the pages can go; else none
abbrev pub if_can_go : List ℕ → List Use → Option (List TxName) → Option (List TxName)
if_can_go ns us o = if can_go ns us then o else None

-- The names that the page of a record is inside, as its script tells, which is run again over the cells that stand there, with the
-- most fuel that a shelf may have, whatever the fuel was when the record was written.
-- None where the record can't be of this book: there is no such script, instance or page; the script does not show a page
-- so; it evicts a page that is not there or that was evicted; the effects do not hold; or the tick is over.
abbrev pub remade : Book → Change → Option (List TxName)
remade b (opens o) = do
  s ← slice_get b.scripts o.script
  if_can_go o.evicted [] (again o.kind o.effects o.left (comes_to (opening_visit b o s) (present s.script.cells most_fuel)))
remade b (extends x) = do
  at ← page_of_numbers b x.instance x.page
  if_can_go x.evicted at.instance.used (again x.kind x.effects x.left (comes_to (extension_visit b x at) (present at.instance.cells most_fuel)))
remade b (ends e) = do
  at ← page_of_numbers b e.instance e.page
  ended_so e.effects at.instance.cells
remade b (finishes f) = do
  at ← page_of_numbers b f.instance f.page
  ended_so f.effects at.instance.cells
remade b (sweeps tick) = when (nat_lt b.clock tick) []

-- the book that records made, and the numbers of the segments that they told of
pub record Made : Type 0 where
  pub book : Book
  pub seen : List ℕ

-- what a journal makes before its first change: the empty book of its shelf
abbrev pub nothing_made : Rules → List Named → (shelf : ℕ) → Made
nothing_made rules scripts shelf = record { book = empty_book rules scripts shelf; seen = [] }

-- the number that a change uses
abbrev pub number_in : Change → Option ℕ
number_in (opens o) = Some o.number
number_in (extends x) = Some x.number
number_in (ends e) = Some e.number
number_in (finishes f) = Some f.number
number_in (sweeps tick) = None

-- whether a record tells a number that was seen before
abbrev pub is_repeated : Option ℕ → List ℕ → Bool
is_repeated None seen = false
is_repeated (Some n) seen = is_one n seen

-- the numbers that were seen, with the one that a record tells
abbrev pub with_number : Option ℕ → List ℕ → List ℕ
with_number None seen = seen
with_number (Some n) seen = n ∷ seen

-- the names that a record would land with: none where it is passed over, since it repeats a number or can't be of this book
abbrev pub taken_in : Made → Change → Option (List TxName)
taken_in m c = if is_repeated (number_in c) m.seen then None else remade m.book c

-- the book after a record that is passed over, which counts all the same
abbrev pub counted : Rules → Change → Book → Book
counted rules c b = record b { logged = max b.logged (logged_by c); length = longer_by rules.journal b c }

-- the book after a record that lands with these names, or is passed over
abbrev pub redone : Rules → Change → Option (List TxName) → Book → Book
redone rules c None b = counted rules c b
redone rules c (Some inside) b = land rules c inside b

-- what is made with one record more
abbrev pub redo : Rules → Change → Made → Made
redo rules c m =
    record { book = reopened (redone rules c (taken_in m c) m.book); seen = with_number (number_in c) m.seen }

-- the rules under which a record of this length is read: recovery needs of rules no more than that
abbrev pub of_length : ℕ → Rules
of_length n = record { fuel = most_fuel; life = 0; instances = 0; pages = 0; journal = Some (record { begun = λ ss. 0; renewed = λ ss. 0; length_of = λ b c. n }) }

-- what is made with a record of another setup, whose body is so long
abbrev pub resettled : (length : ℕ) → List Named → Made → Made
resettled n scripts m = record m {
  book = record m.book { scripts = scripts; length = m.book.length + (n + 5); file = with_line (renewed scripts n) m.book.file };
}

-- what is made with one record more of a file
abbrev pub then_line : Line → Made → Made
then_line (changed c n) m = redo (of_length n) c m
then_line (renewed scripts n) m = resettled n scripts m

-- what is made with these records more of a file
abbrev pub lines_after : List Line → Made → Made
lines_after [] m = m
lines_after (l ∷ ls) m = lines_after ls (then_line l m)

-- the next number of a file that has its first records alone
abbrev pub used_up : Option ℕ → ℕ
used_up None = 0
used_up (Some n) = n

-- what the first records of a file make: the one of its setup, and the one that tells a number, where there is one
abbrev pub first_of : (shelf : ℕ) → File → Made
first_of shelf f = record {
  book = record {
    shelf = shelf;
    scripts = f.scripts;
    clock = 0;
    drawn = used_up f.drawn;
    logged = used_up f.drawn;
    length = f.head + drawn_length f.drawn;
    file = record f { lines = [] };
    out = [];
    down = None;
    follows = false;
    instances = [];
  };
  seen = [];
}

-- what the records of a file make
abbrev pub made_of_file : (shelf : ℕ) → File → Made
made_of_file shelf f = lines_after f.lines (first_of shelf f)
