use Rattle.std.proofs.Common.{ℕ, Bool, true, subst, sym}
use Rattle.script_nodes.specs.Views.{library_of}
use Rattle.book_recovery.specs.JournalSpec.Making.{Making}
use Rattle.book_recovery.specs.Reading.{IsMadeAs}
use Rattle.shelf.specs.Following.{IsFedAt}
use Rattle.shelf.proofs.FedMore.{first_on, later_on, begun_at, made_at}
use Rattle.shelf.proofs.adopt.fed_more.Goals as goal
use Rattle.shelf.proofs.adopt.fed_more.Goals.{in-Begun, in-Made}

pub returns-then-taken-clause-more : goal.returns-then-taken-clause-more
returns-then-taken-clause-more c =
    let done = c.in_ok-taken-in-Waits.ensures in
    first_on c.args.number c.args.body.now c.args.follower.now c.args.book.now c.adopt_first.new.book c.args.library.now c.adopt_first.new.library c.args.notes.now c.adopt_first.new.notes c.in_ok-taken-in-Waits.taken c.if-taken.true c.in-Waits.is c.requires.fed
    done.begins done.kept done.notes

pub returns-then-taken-2-clause-more : goal.returns-then-taken-2-clause-more
returns-then-taken-2-clause-more c =
    let done = c.in_ok-taken.ensures in
    let n = c.args.number in
    let f = c.args.follower.now in
    let b = c.args.book.now in
    let library = c.args.library.now in
    let P : Bool → Type 0 = λ t. (k : ℕ) (m : Making) → IsFedAt f.fed n k f.seen b (library_of library) m → IsMadeAs n k true t b (library_of library) f.seen m in
    let made : P c.match-follower.alone = elim c.match-follower.branch [
      | in-Begun w ↦ subst P (sym w.alone-is) (begun_at n f b library w.in-Begun.is)
      | in-Made w ↦ subst P (sym w.alone-is) (made_at n f b library w.in-Made.is)
    ] in
    later_on n c.args.body.now f c.adopt.new.seen b c.adopt.new.book library c.adopt.new.library c.args.notes.now c.adopt.new.notes c.match-follower.alone c.in_ok-taken.taken c.if-taken-2.true made done.gives done.kept done.notes
