-- Which refusal is told where two hold at once, and what targets name nothing.
use Rattle.std.specs.Prelude.{◌≡◌, ℕ, ◌+◌, ◌-◌, ◌^◌, List, [], ◌∷◌, ◌++◌, pos, true, false, Option, Some, None, codes, refl}
use Rattle.std.specs.Fmt.{digits}
use Rattle.script_value.specs.Val.{Val, number, text, symbol}
use Rattle.script_value.specs.declared.outcome.Op.TheVariants as op
use Rattle.script_value.specs.declared.outcome.Fault.TheVariants.{NotPage}
use Rattle.script_value.specs.declared.outcome.Refusal.TheVariants.{Unknown, Revoked, Closed, Evicted, Expired}
use Rattle.script_value.specs.declared.outcome.TxName.{TxName}
use Rattle.script_nodes.specs.PageNames.Names.{Destination, start, page}
use Rattle.script_nodes.specs.PageNames.Hex.{hex16}
use Rattle.script_nodes.specs.declared.script.SendKind.TheVariants.{Suspend}
use Rattle.script_nodes.specs.Core.{lit, var, bind, prim, send, no_cores, cores_of}
use Rattle.script_nodes.specs.Setup.{Named}
use Rattle.replay_spec.specs.Book.{Page, Eviction, Instance, sweeps, landing, Doubt, Book}
use Rattle.replay_spec.specs.Rules.{Rules, first_file}
use Rattle.replay_spec.specs.Next.{url_of}
use Rattle.replay_spec.specs.Step.{Event, take, sweep, compact, crash, Fate, plain, no_memory, disk_fault, lost, Reply, taken, shown, ended, refusal, fault, shelf_full, down, oversize, journal_full, following, worn, memory, swept, live, step}
use Rattle.replay_spec.specs.Runs.{Shelf, empty_shelf, after, answers_to}
use Rattle.replay_spec.specs.Samples.{name, script, journal, rules, at, takes, publishing, nothing, plain_page, link}

-- a tick that may have been recorded when the disk failed
abbrev doubt : Doubt
doubt = record { count = 7; work = landing (sweeps 9) [] }

-- a script that shows a page, and after its answer another one
abbrev one_page : Named
one_page = script [] [] (link (codes "1") ∷ link (codes "2") ∷ [])

-- a script that shows a page, and after its answer comes to no page
abbrev no_page_then : Named
no_page_then = script [] [] (link (codes "1") ∷ lit (number (pos 1)) ∷ [])

-- a transaction of an earlier segment
abbrev closed_one : TxName
closed_one = record { ticket = 0; entry = 0 }

-- a page that was revoked, inside a closed transaction and expired at 5
abbrev old_page : Page
old_page = record plain_page { inside = closed_one ∷ []; deadline = 5 }

-- page 0 went for this one
abbrev went_for : (page : ℕ) → List Eviction
went_for n = record { page = 0; by = n } ∷ []

-- an instance of a script, with these pages revoked and these transactions closed
abbrev old : Named → (revoked : List ℕ) → (closed : List TxName) → Instance
old s revoked closed = record {
  number = 0;
  script = s;
  cells = [];
  closed = closed;
  revoked = revoked;
  used = record { page = 0; last = 0 } ∷ [];
  evicted = [];
  pages = old_page ∷ [];
}

-- a book of these instances, at time 5, with one number out
abbrev book : List Instance → Book
book is = record { shelf = 0; scripts = one_page ∷ []; clock = 5; drawn = 2; logged = 1; length = 100; file = first_file 100 (one_page ∷ []); out = 1 ∷ []; down = None; follows = false; instances = is }

-- what an event is answered, by these rules, on this book and with this fate
abbrev told : Rules → Book → Event → Fate → Reply
told r b event fate = (step r b 3 event fate).0

-- a take: down, then worn, then the target
pub down_before_worn : told rules (record (book []) { drawn = 2 ^ 62; down = Some doubt }) (take (start name) nothing) plain ≡ down 7
unfolding step
down_before_worn = refl

-- used-up numbers are told before a target that is unknown
pub worn_before_unknown : told rules (record (book []) { drawn = 2 ^ 62 }) (take (at 0 0 0) nothing) plain ≡ worn
unfolding step
worn_before_unknown = refl

-- a target: unknown, then revoked, then closed, then expired
pub unknown_before_revoked : told rules (book (old one_page (0 ∷ []) (closed_one ∷ []) ∷ [])) (take (at 0 0 1) nothing) plain ≡ refusal Unknown
unfolding step
unknown_before_revoked = refl

-- a page that is revoked is told as this, though its transaction is closed
pub revoked_before_closed : told rules (book (old one_page (0 ∷ []) (closed_one ∷ []) ∷ [])) (take (at 0 0 0) nothing) plain ≡ refusal Revoked
unfolding step
revoked_before_closed = refl

-- a page in a closed transaction is told as this, though it is expired
pub closed_before_expired : told rules (book (old one_page [] (closed_one ∷ []) ∷ [])) (take (at 0 0 0) nothing) plain ≡ refusal (Closed closed_one)
unfolding step
closed_before_expired = refl

-- a page in a closed transaction is told as this, though it is evicted
pub closed_before_evicted :
    told rules (book (record (old one_page [] (closed_one ∷ [])) { used = []; evicted = went_for 1 } ∷ [])) (take (at 0 0 0) nothing) plain ≡ refusal (Closed closed_one)
unfolding step
closed_before_evicted = refl

-- a page that is evicted is told as this, though it is expired
pub evicted_before_expired :
    told rules (book (record (old one_page [] []) { used = []; evicted = went_for 1 } ∷ [])) (take (at 0 0 0) nothing) plain ≡ refusal (Evicted 1)
unfolding step
evicted_before_expired = refl

-- a page that is expired is told as this where nothing else holds
pub expired_alone : told rules (book (old one_page [] [] ∷ [])) (take (at 0 0 0) nothing) plain ≡ refusal (Expired 5)
unfolding step
expired_alone = refl

-- ---- a publish: down, the target, a fault, what is full, the length of the record, that of the journal, the disk

-- a book of one instance that can still be answered
abbrev young : Named → Book
young s = record (book (old s [] [] ∷ [])) { clock = 4 }

-- the publish of an answer to page 0
abbrev answering : Event
answering = publishing (at 0 0 0) nothing 1 1

-- a publish is told that the shelf is down before its target is looked at
pub down_before_target : told rules (record (book []) { down = Some doubt }) answering plain ≡ down 7
unfolding step
down_before_target = refl

-- want of memory may be told before all other refusals
pub memory_before_down : told rules (record (book []) { down = Some doubt }) answering no_memory ≡ memory
unfolding step
memory_before_down = refl

-- a publish whose target is not admitted is told this before a fault of its segment
pub target_before_fault : told rules (book (old no_page_then [] [] ∷ [])) answering plain ≡ refusal (Expired 5)
unfolding step
target_before_fault = refl

-- a fault of a segment is told before a full shelf
pub fault_before_full : told (record rules { pages = 1 }) (young no_page_then) answering plain ≡ fault NotPage
unfolding step
fault_before_full = refl

-- a full shelf is told before a record that is too long
pub shelf_full_before_length :
    told (record rules { instances = 1; journal = Some (journal 100 1048577) }) (young one_page) (publishing (start name) nothing 1 1) plain ≡ shelf_full 1
unfolding step
shelf_full_before_length = refl

-- a record that is too long is told before a journal that would be
pub record_before_journal :
    told (record rules { journal = Some (journal 100 1048577) }) (record (young one_page) { length = 2 ^ 30 }) answering plain ≡ oversize 1048577
unfolding step
record_before_journal = refl

-- a journal that would be too long is told before the disk fails
pub journal_before_disk : told rules (record (young one_page) { length = 2 ^ 30 }) answering (disk_fault 8) ≡ journal_full 1073741879
unfolding step
journal_before_disk = refl

-- a record and a journal of just their most
pub just_room :
    told (record rules { journal = Some (journal 100 1048576) }) (record (young one_page) { length = 2 ^ 30 - 1048581 }) answering plain
    ≡ shown (codes "2") (url_of (record { name = name; shelf = 0; instance = 0 }) 1 1)
unfolding step
just_room = refl

-- a sweep: a tick at the clock, then down, then the journal, then the disk
pub clock_before_down : told rules (record (book []) { down = Some doubt }) (sweep 5) (disk_fault 8) ≡ swept 0
unfolding step
clock_before_down = refl

-- a sweep is told that the shelf is down before a journal that would be too long
pub down_before_journal : told rules (record (book []) { length = 2 ^ 30; down = Some doubt }) (sweep 6) plain ≡ down 7
unfolding step
down_before_journal = refl

-- a sweep is told of a journal that would be too long before the disk fails
pub sweep_journal_before_disk : told rules (record (book []) { length = 2 ^ 30 }) (sweep 6) (disk_fault 8) ≡ journal_full 1073741879
unfolding step
sweep_journal_before_disk = refl

-- a shelf that follows another one's journal, which is full, and which has no number left
abbrev follower : Book
follower = record (book []) { drawn = 2 ^ 62; length = 2 ^ 30; follows = true }

-- a take is told that the shelf is down before it is told that the shelf follows
pub down_before_following : told rules (record follower { down = Some doubt }) (take (at 0 0 0) nothing) plain ≡ down 7
unfolding step
down_before_following = refl

-- where there is no memory a take is told so before it is told that the shelf follows
pub memory_before_following : told rules follower (take (start name) nothing) no_memory ≡ memory
unfolding step
memory_before_following = refl

-- a take is told that the shelf follows before it is told that no number is left, and nothing changes
pub following_before_worn : step rules follower 3 (take (at 0 0 0) nothing) plain ≡ (following, follower)
unfolding step
following_before_worn = refl

-- a publish is told that the shelf follows before its target is looked at; it spends its number all the same
pub following_before_target : step rules follower 3 answering (disk_fault 8) ≡ (following, record follower { out = [] })
unfolding step
following_before_target = refl

-- a sweep at a tick that the clock has reached already is answered as on any shelf
pub clock_before_following : told rules follower (sweep 5) plain ≡ swept 0
unfolding step
clock_before_following = refl

-- a later sweep is told that the shelf follows before the journal is too long or the disk fails
pub following_before_journal : step rules follower 3 (sweep 6) (disk_fault 8) ≡ (following, follower)
unfolding step
following_before_journal = refl

-- a compaction is told that the shelf follows, and nothing changes
pub following_before_compaction : step rules follower 3 compact plain ≡ (following, follower)
unfolding step
following_before_compaction = refl

-- a shelf that follows, opened again with another setup, goes on with its own and follows
pub follows_on : step rules follower 3 (crash []) lost ≡ (live 0, record follower { drawn = 1; out = [] })
unfolding step
follows_on = refl

-- two scripts on shelf 7
abbrev two_pages : Named
two_pages = record {
  name = codes "s";
  text = [];
  script = record {
    web = [];
    cells = [];
    tasks = no_cores;
    body =
        bind (cores_of (link (codes "a") ∷ []))
        (bind (cores_of (send Suspend (prim op.List (cores_of (lit (symbol (codes "p")) ∷ var 0 ∷ []))) ∷ []))
        (prim op.List (cores_of (lit (symbol (codes "p")) ∷ var 0 ∷ var 1 ∷ []))));
  };
}

-- a setup of two scripts, of which the first ends with no page and the second shows pages
abbrev two_scripts : List Named
two_scripts =
    record { name = codes "t"; text = []; script = record { web = []; cells = []; tasks = no_cores; body = lit (number (pos 1)) } } ∷ two_pages ∷ []

-- rules of a small shelf without a journal
abbrev small : Rules
small = record { fuel = 1000; life = 60; instances = 4; pages = 4; journal = None }

-- the URL of a page of instance 0 on shelf 7
abbrev url : ℕ → ℕ → List ℕ
url n nonce = url_of (record { name = codes "s"; shelf = 7; instance = 0 }) n nonce

-- a page's URL has its script, shelf, instance, number and nonce
pub url_spelt : url 1 255 ≡ codes "/servlets/s;7*0*1*00000000000000ff"
unfolding hex16 digits
url_spelt = refl

-- the target that is a page of instance 0 on shelf 7
abbrev answered : List ℕ → ℕ → ℕ → Destination
answered script n nonce = page script (record { shelf = 7; instance = 0; page = n; nonce = nonce })

-- a take, and the publish of the ticket that it gives under this number, with a nonce of ten more
abbrev visit : Destination → Val → ℕ → List (Event × Fate)
visit target answer n = takes target answer ∷ (publishing target answer n (10 + n), plain) ∷ []

-- a source of nonces that counts from 10 on
abbrev from_ten : ℕ → ℕ
from_ten k = 10 + k

-- four visits: a start; an answer to page 0, and to page 1; page 0 again
abbrev visits : List (Event × Fate)
visits =
    visit (start (codes "s")) nothing 0 ++ visit (answered (codes "s") 0 10) (text (codes "x")) 1
    ++ visit (answered (codes "s") 1 11) (text (codes "y")) 2 ++ visit (answered (codes "s") 0 10) (text (codes "z")) 3

-- an empty shelf of number 7 with both scripts
abbrev empty : Shelf
empty = empty_shelf small two_scripts 7

-- four visits are answered with three pages and a last one
pub visits_replies :
    answers_to from_ten visits empty
    ≡ taken 0 10 ∷ shown (codes "a") (url 0 10) ∷ taken 1 11 ∷ shown (codes "<p>x</p>") (url 1 11)
    ∷ taken 2 12 ∷ ended (codes "<p>xy</p>") ∷ taken 3 13 ∷ shown (codes "<p>z</p>") (url 3 13) ∷ []
unfolding step
visits_replies = refl

-- a page of this number, nonce, parent and answer, which lives up to 60
abbrev page_with : ℕ → ℕ → Option ℕ → Val → Page
page_with n nonce parent answer = record plain_page { number = n; nonce = nonce; parent = parent; answer = answer; deadline = 60 }

-- the book after four visits: both answers to page 0 have it as their parent, and the one that ended left no page
abbrev visited : Book
visited = record {
  shelf = 7;
  scripts = two_scripts;
  clock = 0;
  drawn = 4;
  logged = 4;
  length = 0;
  file = first_file 0 two_scripts;
  out = [];
  down = None;
  follows = false;
  instances = record {
    number = 0;
    script = two_pages;
    cells = [];
    closed = [];
    revoked = [];
    used = record { page = 0; last = 3 } ∷ record { page = 1; last = 2 } ∷ record { page = 3; last = 3 } ∷ [];
    evicted = [];
    pages =
        page_with 0 10 None nothing ∷ page_with 1 11 (Some 0) (text (codes "x")) ∷ page_with 3 13 (Some 0) (text (codes "z")) ∷ [];
  } ∷ [];
}

-- four visits leave this book
pub visits_book : after from_ten visits empty ≡ record { rules = small; book = visited; nonces = 4 }
unfolding step
visits_book = refl

-- a visitor answers the page that came last: its parent's page and no other stands before it
pub through_the_last :
    answers_to from_ten (visit (answered (codes "s") 3 13) (text (codes "y")) 4) (record { rules = small; book = visited; nonces = 4 })
    ≡ taken 4 14 ∷ ended (codes "<p>zy</p>") ∷ []
unfolding step
through_the_last = refl

-- nothing is found under an unknown nonce, the name of another script, an unknown number, another shelf's, or an unknown name
pub unknown_nonce : step small visited 14 (take (answered (codes "s") 0 11) nothing) plain ≡ (refusal Unknown, visited)
unfolding step
unknown_nonce = refl

-- a page of another script's name is unknown
pub unknown_script : step small visited 14 (take (answered (codes "t") 0 10) nothing) plain ≡ (refusal Unknown, visited)
unfolding step
unknown_script = refl

-- a page of an unknown number is unknown
pub unknown_page : step small visited 14 (take (answered (codes "s") 2 12) nothing) plain ≡ (refusal Unknown, visited)
unfolding step
unknown_page = refl

-- a page of another shelf is unknown
pub unknown_shelf :
    step small visited 14 (take (page (codes "s") (record { shelf = 6; instance = 0; page = 0; nonce = 10 })) nothing) plain ≡ (refusal Unknown, visited)
unfolding step
unknown_shelf = refl

-- a start of an unknown name is unknown
pub unknown_start : step small visited 14 (take (start (codes "u")) nothing) plain ≡ (refusal Unknown, visited)
unfolding step
unknown_start = refl
