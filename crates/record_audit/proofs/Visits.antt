-- What a record's visit comes to.
use Rattle.std.proofs.Common.{◌≡◌, ◌∙◌, ap, sym, ℕ, Bool, List, [], map, Some, slice_get}
use Rattle.std.proofs.lemmas.Option.{get_or_from_slice_get}
use Rattle.script_value.specs.Val.{Val, list, no_vals}
use Rattle.script_nodes.specs.Setup.{Named, Library}
use Rattle.script_nodes.specs.Views.{named_of}
use Rattle.page_names.specs.Names.{start}
use Rattle.replay_spec.specs.Tape.{present, tape_behind}
use Rattle.replay_spec.specs.Eval.{Segment, run}
use Rattle.replay_spec.specs.Book as spec
use Rattle.replay_spec.specs.Book.{chain}
use Rattle.replay_spec.specs.Admission as admission
use Rattle.replay_spec.specs.Next.{Ticket, home, answered, page_visit, comes_to}
use Rattle.replay_spec.specs.Recovery.{page_of_numbers, opening_visit}
use Rattle.server_limits.specs.Limits.{most_fuel}
use Rattle.journal_records.specs.declared.records.PageRecord.{PageRecord}
use Rattle.book_redo.specs.InstanceBook.declared.place.Place.{Place}
use Rattle.book_redo.specs.InstanceBook.declared.book.Book.{Book}
use Rattle.book_redo.specs.InstanceBook.Views.{page_of, pages_of, script_in, no_script}
use Rattle.book_redo.specs.InstanceBook.Standing.{place_of, IsPlacedAt, book_under}
use Rattle.book_redo.proofs.Landed.{opening_in, opening_is, extension_is}
use Rattle.audit_spec.specs.Tests.{holds_of, runs_so}
use Rattle.record_audit.specs.declared.home.Home.{Home}
use Rattle.record_audit.specs.Runs.{newest_of, comes_behind, comes_at, StartRunsSo, AnswerRunsSo, shows_again}

-- what an answer to a place's page comes to
pub comes_there : (all : List Named) (b : spec.Book) (t : Ticket) (p : Place) → IsPlacedAt all p
    → comes_to (page_visit b t (place_of all p)) (present p.instance.now.item.cells most_fuel) ≡ comes_at b.shelf p t.answer t.number t.nonce
comes_there all b t p placed =
    let i = p.instance.now in
    let its : script_in all i.item.script ≡ named_of p.script.now = get_or_from_slice_get all i.item.script (named_of p.script.now) no_script placed in
    ap
    (λ (s : Named).
    run s.script
    (tape_behind (map (answered (home s b.shelf i.number)) (chain (pages_of i.item.pages) (page_of p.page.now)))
    (newest_of (home s b.shelf i.number) t.answer t.number t.nonce i.item.cells)))
    its

-- what stands under the numbers of a place, where a test of it comes to the same as that of a segment
pub holds_there : (all : List Named) (b : spec.Book) (t : admission.Place → Ticket) (k n : ℕ) (p : Place) (test : Segment → Bool) (r : Bool) (m : Segment) → IsPlacedAt all p
    → Some (place_of all p) ≡ page_of_numbers b k n
    → (let u = t (place_of all p) in m ≡ comes_at b.shelf p u.answer u.number u.nonce) → r ≡ test m
    → r ≡ holds_of (λ at. test (comes_to (page_visit b (t at) at) (present at.instance.cells most_fuel))) (page_of_numbers b k n)
holds_there all b t k n p test r m placed found comes so =
    so ∙ (ap test (comes ∙ sym (comes_there all b (t (place_of all p)) p placed))
    ∙ ap (holds_of (λ (at : admission.Place). test (comes_to (page_visit b (t at) at) (present at.instance.cells most_fuel)))) found)

-- the record of an answer
pub answer_so : (library : Library) (b : Book) (k n : ℕ) (answer : Val) (r : PageRecord) (p : Place) (so : Bool) (m : Segment) → IsPlacedAt library.all p
    → Some (place_of library.all p) ≡ page_of_numbers (book_under library b) k n → m ≡ comes_at b.shelf p answer r.ticket r.nonce → so ≡ shows_again r m
    → AnswerRunsSo library b k n answer r so
answer_so library b k n answer r p so m placed found comes test origin =
    holds_there library.all (book_under library b) (λ at. record { target = start at.instance.script.name; answer = answer; number = r.ticket; nonce = r.nonce }) k n p (shows_again r) so m
    placed found comes test
    ∙ sym (ap (runs_so (book_under library b)) (extension_is r k n answer origin))

-- the record of a start
pub start_so : (library : Library) (b : Book) (k : ℕ) (r : PageRecord) (h : Home) (so : Bool) (m : Segment) → Some (named_of h.script.now) ≡ slice_get library.setup k → h.shelf ≡ b.shelf
    → h.instance ≡ r.ticket → m ≡ comes_behind h [] (list no_vals) r.ticket r.nonce (named_of h.script.now).script.cells → so ≡ shows_again r m → StartRunsSo library b k r so
start_so library b k r h so m found shelf instance comes test origin =
    let c = book_under library b in
    let s = named_of h.script.now in
    let here : comes_behind h [] (list no_vals) r.ticket r.nonce s.script.cells ≡ comes_to (opening_visit c (opening_in r k) s) (present s.script.cells most_fuel) =
    ap (λ (n : ℕ). run s.script (tape_behind [] (newest_of (home s n h.instance) (list no_vals) r.ticket r.nonce s.script.cells))) shelf
    ∙ ap (λ (n : ℕ). run s.script (tape_behind [] (newest_of (home s b.shelf n) (list no_vals) r.ticket r.nonce s.script.cells))) instance in
    test ∙ (ap (shows_again r) (comes ∙ here)
    ∙ (ap (holds_of (λ (x : Named). shows_again r (comes_to (opening_visit c (opening_in r k) x) (present x.script.cells most_fuel)))) found
    ∙ sym (ap (runs_so c) (opening_is r k origin))))
