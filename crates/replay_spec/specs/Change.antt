-- What a change makes of the book.
use Rattle.std.specs.Prelude.{ℕ, max, ◌+◌, ◌==◌, not, List, map, [], ◌∷◌, ◌++◌, filter, Option, Some, None, nat_lt, slice_get, if◌then◌else◌}
use Rattle.script_value.specs.declared.outcome.TxName.{TxName}
use Rattle.instance_cells.specs.Cells.{Effect, commit}
use Rattle.script_nodes.specs.Setup.{Named}
use Rattle.script_nodes.specs.declared.script.SendKind.{SendKind}
use Rattle.script_nodes.specs.declared.script.SendKind.TheVariants.{Suspend, Forward}
use Rattle.replay_spec.specs.Book.{Page, Use, Eviction, Instance, Opening, Extension, root_by, page_by, Ending, Change, opens, extends, ends, finishes, sweeps, Line, changed, File, Book, is_live, reopened}
use Rattle.replay_spec.specs.Rules.{Journal, Rules}
use Rattle.replay_spec.specs.Admission.{is_one}

-- the instances with the first of this number changed
abbrev pub mend : ℕ → (Instance → Instance) → List Instance → List Instance
mend n f [] = []
mend n f (i ∷ is) = if i.number == n then f i ∷ is else i ∷ mend n f is

-- a list in the order of its numbers with one more, in the place of the one of its number, if there is one
abbrev pub put_in_order : {A : Type 0} → (A → ℕ) → A → List A → List A
put_in_order number x [] = x ∷ []
put_in_order number x (y ∷ ys) =
    if nat_lt (number x) (number y) then x ∷ y ∷ ys else (if number x == number y then x ∷ ys else y ∷ put_in_order number x ys)

-- these pages with one more, at the place of its number
abbrev pub put_page : Page → List Page → List Page
put_page p ps = put_in_order (λ q. q.number) p ps

-- these instances with one more, or with one for another of its number
abbrev pub put_instance : Instance → List Instance → List Instance
put_instance i is = put_in_order (λ j. j.number) i is

-- the numbers of revoked pages after a page is shown: one that forwards revokes all that are there
abbrev pub revoked_by : SendKind → List Page → List ℕ → List ℕ
revoked_by Suspend ps revoked = revoked
revoked_by Forward ps revoked = map (λ p. p.number) ps

-- the uses of pages after a segment of this number answered a page
abbrev pub used_by : (page number : ℕ) → List Use → List Use
used_by p n [] = []
used_by p n (u ∷ us) = if u.page == p then record u { last = max u.last n } ∷ us else u ∷ used_by p n us

-- the uses of pages after a segment of this number answered a page, if it answered one
abbrev pub used_in : Option ℕ → (number : ℕ) → List Use → List Use
used_in None n us = us
used_in (Some p) n us = used_by p n us

-- the uses of pages without those of these, which went
abbrev pub unless_gone : List ℕ → List Use → List Use
unless_gone gone us = filter (λ u. not (is_one u.page gone)) us

-- the evictions with these pages, which went for the page of this number
abbrev pub evict : (by : ℕ) → List ℕ → List Eviction → List Eviction
evict n [] es = es
evict n (p ∷ ps) es = evict n ps (put_in_order (λ e. e.page) (record { page = p; by = n }) es)

-- the uses of pages with one more, in the order of page numbers
abbrev pub put_use : Use → List Use → List Use
put_use u us = put_in_order (λ v. v.page) u us

-- an instance after a segment that did this to its cells and left these transactions
abbrev pub done : List Effect → List TxName → Instance → Instance
done effects left i = record i { cells = commit effects i.cells; closed = i.closed ++ left }

-- An instance after a segment that did this to its cells, left these transactions and showed a page, for which these pages went. The
-- page that was answered is used by it, and may be one of them.
abbrev pub shown_by : List Effect → List TxName → SendKind → (gone : List ℕ) → Page → Instance → Instance
shown_by effects left kind gone p i = record (done effects left i) {
  revoked = revoked_by kind i.pages i.revoked;
  used = put_use (record { page = p.number; last = p.number }) (unless_gone gone (used_in p.parent p.number i.used));
  evicted = evict p.number gone i.evicted;
  pages = put_page p i.pages;
}

-- an instance after an answer that showed a page inside these transactions
abbrev pub extended_by : Extension → (inside : List TxName) → Instance → Instance
extended_by x inside i = shown_by x.effects x.left x.kind x.evicted (page_by x inside) i

-- an instance after a segment that ended
abbrev pub ended_by : Ending → Instance → Instance
ended_by e i = record (done e.effects e.left i) { used = used_by e.page e.number i.used }

-- an instance of this script before its first segment
abbrev pub fresh : Named → (number : ℕ) → Instance
fresh s n = record { number = n; script = s; cells = s.script.cells; closed = []; revoked = []; used = []; evicted = []; pages = [] }

-- the instances with the one that a start of this script opens, if there is a script
abbrev pub opened_by : Option Named → Opening → List TxName → List Instance → List Instance
opened_by None o inside is = is
opened_by (Some s) o inside is = put_instance (shown_by o.effects o.left o.kind [] (root_by o inside) (fresh s o.number)) is

-- all instances but the one of this number
abbrev pub without : ℕ → List Instance → List Instance
without n is = filter (λ i. not (i.number == n)) is

-- the instances after a change under this setup, whose new page is inside these transactions; a tick frees those whose
-- pages are all expired or evicted
abbrev pub instances_by : List Named → Change → List TxName → List Instance → List Instance
instances_by scripts (opens o) inside is = opened_by (slice_get scripts o.script) o inside is
instances_by scripts (extends x) inside is = mend x.instance (extended_by x inside) is
instances_by scripts (ends e) inside is = mend e.instance (ended_by e) is
instances_by scripts (finishes f) inside is = without f.instance is
instances_by scripts (sweeps tick) inside is = filter (is_live tick) is

-- one more than the number of the segment that made a change, and 0 for a tick
abbrev pub logged_by : Change → ℕ
logged_by (opens o) = o.number + 1
logged_by (extends x) = x.number + 1
logged_by (ends e) = e.number + 1
logged_by (finishes f) = f.number + 1
logged_by (sweeps tick) = 0

-- the time after a change: a sweep sets it to its tick, and no other change moves it
abbrev pub clock_by : Change → ℕ → ℕ
clock_by (sweeps tick) clock = tick
clock_by _ clock = clock

-- how long the body of a change's record is: it depends on no more of a book than its records tell
abbrev pub record_length : Journal → Book → Change → ℕ
record_length j b c = j.length_of (reopened b) c

-- how long a journal is with one more record: after its gate stand the length, the body and the next gate
abbrev pub longer_by : Option Journal → Book → Change → ℕ
longer_by None b c = b.length
longer_by (Some j) b c = b.length + (record_length j b c + 5)

-- the file with one record more, after all others
abbrev pub with_line : Line → File → File
with_line l f = record f { lines = f.lines ++ l ∷ [] }

-- the file after a change, with the length of its record
abbrev pub file_by : Option Journal → Book → Change → File
file_by None b c = b.file
file_by (Some j) b c = with_line (changed c (record_length j b c)) b.file

-- a change lands in the book, whose new page is inside these transactions
abbrev pub land : Rules → Change → List TxName → Book → Book
land rules c inside b = record b {
  clock = clock_by c b.clock;
  logged = max b.logged (logged_by c);
  length = longer_by rules.journal b c;
  file = file_by rules.journal b c;
  instances = instances_by b.scripts c inside b.instances;
}
