use Rattle.std.proofs.Common.{◌≡◌, ◌≢◌, ◌∙◌, sym, subst, ap, ℕ, Bool, true, false, [], Option, Some, None, IsTrue, arith}
use Rattle.std.proofs.lemmas.Bool.Decides.{nat_tests}
use Rattle.std.proofs.lemmas.Bool.{false≢true}
use Rattle.book_recovery.specs.SetupReader.Texts.{setup_of_texts as texts}
use Rattle.web_disk.specs.View.{View}
use Rattle.page_journal.specs.Records.{newest}
use Rattle.page_journal.specs.Settled.{length_of, bodies_in}
use Rattle.page_journal.specs.declared.journal.Journal.{Journal}
use Rattle.book_recovery.specs.JournalSpec.Making.{nothing}
use Rattle.book_recovery.specs.JournalSpec.Old.{book_of_format, format_of_now}
use Rattle.book_recovery.specs.InstanceBook.declared.in_order.InOrder.{InOrder}
use Rattle.book_recovery.specs.Found.{Finds}
use Rattle.book_recovery.specs.Reading.{Gives, IsKept}
use Rattle.book_recovery.specs.declared.found.Found.{Found}
use Rattle.book_recovery.specs.declared.found.Found.TheVariants as found
use Rattle.shelf.specs.Fed.{IsFedOf}
use Rattle.shelf.specs.Opening.{making_of}
use Rattle.shelf.specs.Reopening.{OpensParts}
use Rattle.shelf.specs.declared.follower.Fed.TheVariants as fed
use Rattle.shelf.specs.declared.follower.Follower.{Follower}
use Rattle.shelf.proofs.Reopening.{moved_here, leads_on, follows_found, role_refused, role_done, no_record, long_without}
use Rattle.shelf.proofs.Waiting.{goes_on_read}
use Rattle.shelf.proofs.reopen.open_bare.Goals as goal
use Rattle.shelf.proofs.reopen.open_bare.Goals.{in-Nothing+then-fed+then-len-eq-BARE+in_default-tell_role, in-Nothing+else-fed, else-fed-via-then-fed+else-len-eq-BARE, else-fed-via-else-fed, in_default-found}

-- what is told of a journal of the newest format that was read
gives_at : {D : Type 0} (view : D → View) (n : ℕ) (j : Journal D) → j.format ≡ newest → (follows_on alone : Bool) (y : Found) (seen : InOrder (Unit {0})) → Gives n (length_of j) follows_on alone y seen (book_of_format j.format texts n (bodies_in view j))
    → Gives n (length_of j) follows_on alone y seen (making_of view n j)
gives_at view n j now follows_on alone y seen gives =
    subst (Gives n (length_of j) follows_on alone y seen) (ap (λ (k : ℕ). book_of_format k texts n (bodies_in view j)) now ∙ format_of_now texts n (bodies_in view j)) gives

-- ---- a shelf that follows

pub returns-then-follows-clause-opened : goal.returns-then-follows-clause-opened
returns-then-follows-clause-opened g c =
    let view = g.D.Disk.view in
    let tells = g.D.Disk.tells in
    let n = c.args.number in
    let j0 = c.args.journal.now in
    let j1 = c.read_book.new.journal in
    let read = c.in-Ok.read in
    let quiet = c.read_book.ensures.quiet in
    let format = c.read_book.ensures.format in
    let ends = c.read_book.ensures.settled in
    let len = c.read_book.ensures.len in
    let only_now = g.met.D.Disk.only_now j1.disk in
    let x = c.records_are_exact.ensures in
    let all = goes_on_read view tells [] n j0 j1 c.requires.newest format ends only_now x quiet len read c.if-follows.true c.go_on_fed.new.notes c.go_on_fed.result c.go_on_fed.ensures.found
    c.in-Ok.ensures.found c.in-Ok.ensures.in_order c.in-Ok.ensures.gives c.in-Ok.ensures.kept c.in-Ok.ensures.handed c.in-Ok.ensures.notes in
    let parts = follows_found view tells c.args.fed n j0 j1 c.requires.newest c.requires.settled quiet format ends len read.notes c.go_on_fed.new.notes only_now x read.alone read.seen (format ∙ c.requires.newest)
    read.found c.go_on_fed.result c.go_on_fed.ensures.found
    (λ told. subst (λ (t : Bool). Finds n (length_of j1) t read.found (making_of view n j1)) c.if-follows.true
    (moved_here view tells c.args.fed n j0 j1 c.requires.newest c.requires.settled quiet format ends len read.notes c.go_on_fed.new.notes (λ k m. Finds n k read.follows read.found m) (c.in-Ok.ensures.found told))) all in
    rw c.follower_of.ensures parts

-- ---- one that does not

pub returns-in-Err-clause-opened : goal.returns-in-Err-clause-opened
returns-in-Err-clause-opened g c =
    let view = g.D.Disk.view in
    let n = c.args.number in
    let j0 = c.args.journal.now in
    let j1 = c.read_book.new.journal in
    let read = c.in-Ok.read in
    let quiet = c.read_book.ensures.quiet in
    let here = c.len.ensures.len in
    let test = c.if-len-eq-BARE.true in
    let same = c.read_book.ensures.len in
    let short : length_of j0 ≡ 9 = grind (arith, nat_tests, here, test, same) in
    let none : IsTrue g.D.Disk.tells → making_of view n j0 ≡ nothing = λ told.
    no_record n (length_of j0) read.follows read.alone read.found read.seen (making_of view n j0) c.in-Nothing.is c.if-follows.false short (gives_at view n j0 c.requires.newest read.follows read.alone read.found read.seen (c.in-Ok.ensures.gives told)) in
    subst (λ (t : Bool). OpensParts view g.D.Disk.tells t n j0 c.tell_role.new.journal c.args.follower.now c.args.notes.now (Rattle.std.proofs.Common.Err c.in-Err.fault)) (sym c.if-fed.true)
    (role_refused view g.D.Disk.tells n j0 j1 c.tell_role.new.journal c.requires.newest c.requires.settled quiet none c.args.follower.now c.args.notes.now c.in-Err.fault c.in-Err.ensures.told)

pub returns-clause-opened : goal.returns-clause-opened
returns-clause-opened g c =
    let view = g.D.Disk.view in
    let tells = g.D.Disk.tells in
    let n = c.args.number in
    let j0 = c.args.journal.now in
    let j1 = c.read_book.new.journal in
    let read = c.in-Ok.read in
    let quiet = c.read_book.ensures.quiet in
    let same = c.read_book.ensures.len in
    let none_out = c.requires.leads in
    let notes = c.go_on_fed-2.new.notes in
    let r = c.go_on_fed-2.result in
    let is : IsFedOf n read.found read.notes notes r = c.go_on_fed-2.ensures.found in
    let P : Journal _ → Option Follower → Type 0 = λ j f. OpensParts view tells c.args.fed n j0 j f notes r in
    let leading : (IsTrue tells → read.found ≡ found.Nothing → c.args.fed ≡ true → making_of view n j0 ≢ nothing) → P j1 c.args.follower.now = λ some.
    leads_on view tells c.args.fed n j0 j1 c.requires.newest c.requires.settled quiet c.read_book.ensures.format c.read_book.ensures.settled same read.notes notes
    read.found read.follows c.args.follower.now r c.if-follows.false none_out is c.in-Ok.ensures.found c.in-Ok.ensures.in_order c.in-Ok.ensures.notes some in
    let there : (j : Journal _) (f : Option Follower) → c.match-found.journal ≡ j → c.match-found.follower ≡ f → P j f → P c.match-found.journal c.match-found.follower = λ j f j_is f_is h.
    subst (λ (i : Journal _). P i c.match-found.follower) (sym j_is) (subst (P j) (sym f_is) h) in
    elim c.match-found.branch [
      | in-Nothing+then-fed+then-len-eq-BARE+in_default-tell_role w ↦
          let here = w.len.ensures.len in
          let test = w.if-len-eq-BARE.true in
          let short : length_of j0 ≡ 9 = grind (arith, nat_tests, here, test, same) in
          let short_there : length_of j1 ≡ 9 = grind (arith, nat_tests, here, test) in
          let none : IsTrue tells → making_of view n j0 ≡ nothing = λ told.
          no_record n (length_of j0) read.follows read.alone read.found read.seen (making_of view n j0) w.in-Nothing.is c.if-follows.false short (gives_at view n j0 c.requires.newest read.follows read.alone read.found read.seen (c.in-Ok.ensures.gives told)) in
          let unseen = subst (IsKept n read.alone read.seen) w.in-Nothing.is c.in-Ok.ensures.kept in
          there w.tell_role.new.journal _ w.journal-is w.follower-is
          (subst (λ (t : Bool). OpensParts view tells t n j0 w.tell_role.new.journal (Some (record { seen = read.seen; fed = fed.Waits; fallen = None })) notes r) (sym w.if-fed.true)
          (role_done view tells n j0 j1 w.tell_role.new.journal c.requires.newest c.requires.settled quiet none tt w.in_default-tell_role.ensures.told w.in_default-tell_role.ensures.newest
          (g.met.D.Disk.only_now w.tell_role.new.journal.disk) c.records_are_exact.ensures short_there read.seen unseen read.notes notes r (subst (λ (y : Found). IsFedOf n y read.notes notes r) w.in-Nothing.is is)))
      | in-Nothing+else-fed w ↦
          let some : IsTrue tells → c.args.fed ≡ true → making_of view n j0 ≢ nothing = λ told to nothing_there.
          let short = long_without n (length_of j0) read.follows read.alone read.found read.seen (making_of view n j0) w.in-Nothing.is c.if-follows.false nothing_there (gives_at view n j0 c.requires.newest read.follows read.alone read.found read.seen (c.in-Ok.ensures.gives told)) in
          elim w.else-fed.branch [
            | else-fed-via-then-fed+else-len-eq-BARE v ↦
                let here = v.len.ensures.len in
                let test = v.if-len-eq-BARE.false in
                let no : ⊥ = grind (arith, nat_tests, here, test, same, short) in no
            | else-fed-via-else-fed v ↦ false≢true (sym v.if-fed.false ∙ to)
          ] in
          there j1 c.args.follower.now w.journal-is w.follower-is (leading (λ told no to. some told to))
      | in_default-found w ↦
          there j1 c.args.follower.now w.journal-is w.follower-is (leading (λ told none to. absurd (w.in_default-found.not-Nothing none)))
    ]
