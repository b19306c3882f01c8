-- Shelves that are opened without a setup, and closed.
use Rattle.std.proofs.Common.{◌≡◌, ◌∙◌, inl, inr, ◌≤◌, ◌+◌, ◌-◌, ◌^◌, ◌++◌, ◌∷◌, ℕ, Bool, true, false, IsTrue, List, [], length, Ok, Err, refl, sym, ap, subst, arith, append-nil}
use Rattle.web_outside.specs.Causes.{Rose}
use Rattle.web_outside.specs.declared.nonces.Counting.{Counting}
use Rattle.web_disk.specs.View.{View, RackView, AreAmong, LeavesOnly}
use Rattle.web_disk.specs.declared.rack.RackFault.{RackFault}
use Rattle.web_disk.specs.declared.rack.RackFault.TheVariants as rack_fault
use Rattle.trio_rack.specs.Trios.{shelves_of}
use Rattle.page_journal.specs.Opened.{TellsFormat}
use Rattle.page_journal.specs.Records.{at_rest, at_rest_in, bodies_of, format_of, is_format, newest, stored}
use Rattle.page_journal.specs.Settled.{IsSettled, bodies_in}
use Rattle.page_journal.specs.declared.journal.Journal.{Journal}
use Rattle.page_journal.proofs.Frames.{closed_end}
use Rattle.page_journal.proofs.Mending.{leaves_map, leaves_then}
use Rattle.page_follower.specs.OfShelf.JournalSpec.Making.{Making, begun, damaged, made, made_in, nothing, other, waited, waits}
use Rattle.page_follower.specs.OfShelf.Following.{IsOpen, IsReadable}
use Rattle.page_follower.specs.OfShelf.Migrating.{bodies_now}
use Rattle.page_follower.specs.OfShelf.Opening.{HoldsAtRest, KeepsRecords, bodies_after, making_after}
use Rattle.page_follower.specs.OfShelf.Reopening.{IsBareFault, IsLawful, bare_bodies, follows_by, opened_bare}
use Rattle.page_follower.specs.OfShelf.declared.begin.BeginFault.{BeginFault}
use Rattle.page_follower.specs.OfShelf.declared.begin.BeginFault.TheVariants as begin
use Rattle.page_follower.specs.OfShelf.declared.shelf.Shelf.{Shelf}
use Rattle.play_steps.specs.Rules.{StaysUp}
use Rattle.play_desk.specs.Asking.{AsksForOne}
use Rattle.play_desk.specs.Opening.{LeavesOthers, TakesOne, reopen_of}
use Rattle.play_steps.specs.declared.stage.Reopen.TheVariants as reopen
use Rattle.play_desk.proofs.Asking.{asked_all}
use Rattle.server_command.specs.Bare.{AsksOne, GivesBack, HasOpened, IsUnfitBare, OpensAs, OpensSafely, StaysShut, refused, untaken, untaken_for}
use Rattle.server_command.specs.Racks.{ShelfFailed, racks_of}
use Rattle.server_command.proofs.Audits.{counts_stay}
use Rattle.server_command.proofs.Openings.{same_or_not}

-- ---- what is read

-- the records of a file at rest
pub stored_rest : (f : ℕ) (bodies : List (List ℕ)) → is_format f ≡ true → length (at_rest bodies) ≤ 2 ^ 30 → stored (at_rest_in f bodies) ≡ bodies
stored_rest f bodies known fits = ap bodies_of (closed_end f bodies 0 [] known fits (λ e. let no : ⊥ = omega (arith, e) in no))

-- the records that stay of a file of the newest format are those that stand there
pub after_now : (shelf : ℕ) (bytes : List ℕ) → format_of bytes ≡ newest → bodies_after shelf bytes ≡ stored bytes
after_now shelf bytes is = ap (λ f. bodies_now f shelf (stored bytes)) is

after_none : (shelf : ℕ) → bodies_after shelf [] ≡ []
after_none shelf = refl

after_told : (shelf f : ℕ) (bytes : List ℕ) → TellsFormat bytes f → f ≡ newest → bodies_after shelf bytes ≡ stored bytes
after_told shelf f [] tells is = after_none shelf
after_told shelf f (b ∷ bytes) tells is = after_now shelf (b ∷ bytes) (sym (tells (λ e. let no : ⊥ = cc in no)) ∙ is)

module _ {D : Type 0} (view : D → View) where
  -- the records of a shelf on whose disk nothing was lost, and these added
  pub records_kept : (shelf : ℕ) (old : View) (j : Journal D) (more : List (List ℕ)) → IsSettled view j → j.format ≡ newest
      → KeepsRecords shelf more old (view j.disk) → bodies_in view j ≡ bodies_after shelf old.seen ++ more
  records_kept shelf old j more s now (inl (none, (seen, images))) =
      let told : format_of old.seen ≡ newest = ap format_of (sym seen) ∙ (ap format_of s.file ∙ now) in
      ap stored seen ∙ (sym (after_now shelf old.seen told)
      ∙ (sym (append-nil (bodies_after shelf old.seen)) ∙ ap (λ m. bodies_after shelf old.seen ++ m) (sym none)))
  records_kept shelf old j more s now (inr (intact, inl (seen, only))) =
      let all = bodies_after shelf old.seen ++ more in
      let long : length (at_rest all) ≡ length (at_rest (bodies_in view j)) = sym (ap length seen) ∙ ap length s.file in
      ap stored seen ∙ stored_rest newest all refl (omega (arith, long, s.end, s.fits))
  records_kept shelf old j more s now (inr (intact, inr (none, (f, (tells, (seen, only)))))) =
      let is : f ≡ newest = ap format_of (sym seen) ∙ (ap format_of s.file ∙ now) in
      let known : is_format f ≡ true = ap is_format is in
      let long : length (at_rest (stored old.seen)) ≡ length (at_rest (bodies_in view j)) = sym (ap length seen) ∙ ap length s.file in
      ap stored seen ∙ (stored_rest f (stored old.seen) known (omega (arith, long, s.end, s.fits)) ∙ (sym (after_told shelf f old.seen tells is)
      ∙ (sym (append-nil (bodies_after shelf old.seen)) ∙ ap (λ m. bodies_after shelf old.seen ++ m) (sym none))))

  -- a shelf that was opened without a setup has a journal of the newest format
  pub opened_now : (tells : Bool) (s : Shelf D Counting) → IsOpen view tells s → s.journal.format ≡ newest
  opened_now tells s (inl p) = p.knows.newest_is
  opened_now tells s (inr p) = p.newest_is

  -- a settled journal of the newest format holds its records at rest
  pub rests : (j : Journal D) → IsSettled view j → j.format ≡ newest → HoldsAtRest newest (bodies_in view j) (view j.disk)
  rests j s now = (s.file ∙ ap (λ f. at_rest_in f (bodies_in view j)) now, s.durable)

-- a shelf that leads has no record more than those that stay
pub bare_leads : (fed : Bool) (shelf : ℕ) (m : Making) → follows_by (made_in (opened_bare fed shelf m)) ≡ false → bare_bodies fed m ≡ []
bare_leads false shelf m leads = refl
bare_leads true shelf nothing leads = absurd (let no : ⊥ = cc in no)
bare_leads true shelf (waits s) leads = refl
bare_leads true shelf m leads = refl

-- ---- what a crash leaves

-- what is so at each moment of two calls
pub keeps_quiet : (v0 v1 v2 : View) (P : List ℕ → Type 0) → ((image : List ℕ) → v1.images image → v1.since v0.moment image)
    → LeavesOnly v0 v1 P → LeavesOnly v1 v2 v1.images → LeavesOnly v0 v2 P
keeps_quiet v0 v1 v2 P counts first second =
    leaves_then v0 v1 v2 P first (leaves_map v1 v2 v1.images P (λ image now. first.each image (counts image now)) second)

pub safely_quiet : (fed : Bool) (shelf : ℕ) (v0 v1 v2 : View) → (v0.moment ≤ v1.moment → (image : List ℕ) → v1.images image → v1.since v0.moment image)
    → OpensSafely fed shelf v0 v1 → LeavesOnly v1 v2 v1.images → OpensSafely fed shelf v0 v2
safely_quiet fed shelf v0 v1 v2 counts p quiet = record {
  records = λ now bodies body room first among.
      let l = p.records now bodies body room first among in keeps_quiet v0 v1 v2 _ (counts l.later) l quiet;
  books = λ now before after k held. let l = p.books now before after k held in keeps_quiet v0 v1 v2 _ (counts l.later) l quiet;
  anew = λ before after k held. let l = p.anew before after k held in keeps_quiet v0 v1 v2 _ (counts l.later) l quiet;
  own = λ has. let l = p.own has in keeps_quiet v0 v1 v2 _ (counts l.later) l quiet;
}

-- a disk on which nothing was lost, of which nothing was written since
pub keeps_still : (shelf : ℕ) (more : List (List ℕ)) (v0 v1 v2 : View) → v2.seen ≡ v1.seen → AreAmong v2.images v1.images → KeepsRecords shelf more v0 v1
    → KeepsRecords shelf more v0 v2
keeps_still shelf more v0 v1 v2 same among (inl (none, (seen, images))) = inl (none, (same ∙ seen, λ image h. images image (among image h)))
keeps_still shelf more v0 v1 v2 same among (inr (intact, inl (seen, only))) =
    inr (intact, inl (same ∙ seen, λ image h. only image (among image h) ∙ sym same))
keeps_still shelf more v0 v1 v2 same among (inr (intact, inr (none, (f, (tells, (seen, only)))))) =
    inr (intact, inr (none, (f, (tells, (same ∙ seen, λ image h. only image (among image h) ∙ sym same)))))

-- ---- not opened

-- the disks of a shelf were not taken
pub untaken_shut : {D : Type 0} (view : D → View) (tells fed : Bool) (before after : RackView) (shelf : ℕ) (f : RackFault)
    → AsksOne (racks_of tells before after) shelf → (f ≡ rack_fault.Failed → ShelfFailed (racks_of tells before after) shelf)
    → (IsTrue tells → AreAmong ((shelves_of after).holds shelf) ((shelves_of before).holds shelf))
    → StaysShut view fed (racks_of tells before after) shelf (untaken_for f)
untaken_shut view tells fed before after shelf rack_fault.Failed rest failed among =
    record { rest = rest; failed = λ e. failed refl; shut = untaken tt among }
untaken_shut view tells fed before after shelf rack_fault.Memory rest failed among =
    record { rest = rest; failed = λ e. absurd (let no : ⊥ = cc in no); shut = untaken tt among }

-- no count of calls that failed for a shelf fell
pub failures_stay : (before mid after : RackView) (shelf : ℕ) → LeavesOthers shelf before mid → LeavesOthers shelf mid after
    → StaysUp (shelves_of before).failed (shelves_of after).failed
failures_stay before mid after shelf p q =
    counts_stay before after shelf (let one = p.failed in let two = q.failed in omega (arith, one, two))
    (λ n ne. q.others_failed n ne ∙ p.others_failed n ne)

-- disks were taken and given back
pub asks_one : {D : Type 0} (view : D → View) (told : Type 0) (tells : Bool) (before mid after : RackView) (shelf : ℕ) (disk : D)
    → AsksForOne shelf before mid → TakesOne shelf before mid → before.faults ≤ mid.faults → GivesBack view told shelf disk mid after
    → AsksOne (racks_of tells before after) shelf
asks_one view told tells before mid after shelf disk asked takes later g = record {
  asked = asked_all shelf before after (g.asked ∙ asked);
  others = λ n ne image h. takes.leaves.others n ne image (g.gives.leaves.others n ne image h);
  home = λ n home. elim (same_or_not n shelf) [
    | inl e ↦ subst (λ m. (shelves_of after).out m ≡ false) (sym e) g.gives.home
    | inr ne ↦ g.gives.leaves.others_out n ne ∙ (takes.leaves.others_out n ne ∙ home)
  ];
  later = omega (arith, later, g.later);
  failed_later = failures_stay before mid after shelf takes.leaves g.gives.leaves;
}

-- a call of one of them failed
pub shelf_failed : {D : Type 0} (view : D → View) (told : Type 0) (tells : Bool) (before mid after : RackView) (shelf : ℕ) (disk : D) → (fresh : ℕ) → fresh ≡ 0
    → TakesOne shelf before mid → before.faults ≤ mid.faults → GivesBack view told shelf disk mid after → Rose fresh (view disk).faults
    → ShelfFailed (racks_of tells before after) shelf
shelf_failed view told tells before mid after shelf disk fresh none takes later g rose =
    let here = takes.leaves.failed in
    let counted = g.counted in
    let counts = g.counts in
    record { all = omega (arith, later, none, rose, counts); here = omega (arith, here, none, rose, counted) }

-- ---- opened, or not

-- the bytes are why a shelf was not opened
unfit_bare : (shelf : ℕ) (v : View) (e : BeginFault) → IsBareFault shelf v e → IsUnfitBare shelf v.seen (reopen_of e)
unfit_bare shelf v (begin.Damaged place) p = p
unfit_bare shelf v (begin.Other place) p = p
unfit_bare shelf v (begin.Full n) p = p
unfit_bare shelf v begin.DiskFault p = tt
unfit_bare shelf v begin.Memory p = tt

-- what an opening goes on with is lawful only where its records are
lawful_before : (fed : Bool) (shelf : ℕ) (m : Making) → IsLawful (opened_bare fed shelf m) → IsLawful m
lawful_before false shelf m is = is
lawful_before true shelf nothing is = tt
lawful_before true shelf waited is = tt
lawful_before true shelf (waits s) is = tt
lawful_before true shelf (begun m) is = tt
lawful_before true shelf (made m) is = tt
lawful_before true shelf (damaged p) is = is
lawful_before true shelf (other p) is = is

disk_fault : (e : BeginFault) → reopen_of e ≡ reopen.Disk → e ≡ begin.DiskFault
disk_fault (begin.Damaged place) is = absurd (let no : ⊥ = cc in no)
disk_fault (begin.Other place) is = absurd (let no : ⊥ = cc in no)
disk_fault (begin.Full n) is = absurd (let no : ⊥ = cc in no)
disk_fault begin.DiskFault is = refl
disk_fault begin.Memory is = absurd (let no : ⊥ = cc in no)

module _ {D : Type 0} (view : D → View) (tells told fed : Bool) (before mid : RackView) (shelf : ℕ) (disk : D) (knows : IsTrue told → IsTrue tells)
    (asked : AsksForOne shelf before mid) (takes : TakesOne shelf before mid) (later : before.faults ≤ mid.faults)
    (among : IsTrue told → AreAmong (view disk).images ((shelves_of before).holds shelf)) (reads : IsTrue told → (view disk).images (view disk).seen)
    (fresh : (view disk).faults ≡ 0) where
  -- disks were taken for a shelf, and it was opened on them
  pub has_opened : (s : Shelf D Counting) → OpensAs view tells fed shelf disk (Ok s) → IsOpen view tells s → IsReadable view tells s → s.rules.number ≡ shelf
      → HasOpened view tells fed (racks_of told before mid) shelf s
  has_opened s p opens readable number =
      let kept : IsTrue told → KeepsRecords shelf (bare_bodies fed (making_after shelf (view disk))) (view disk) (view s.journal.disk) =
      λ t. p.keeps (knows t) (λ e. let no : ⊥ = cc in no) in
      record {
        taken = disk;
        asked = asked;
        takes = takes;
        rack_later = later;
        among = among;
        reads = reads;
        fresh = fresh;
        number = number;
        opens = opens;
        readable = readable;
        follows_is = λ t. (p.opened (knows t)).follows_on;
        records = λ t. records_kept view shelf (view disk) s.journal (bare_bodies fed (making_after shelf (view disk))) (readable.settled (knows t))
            (opened_now view tells s opens) (kept t);
        keeps = kept;
        safely = λ t. p.safely (knows t);
        lawful = λ t. lawful_before fed shelf (making_after shelf (view disk)) (p.opened (knows t)).lawful;
      }

  -- it was not, and they were given back
  pub refused_shut : (after : RackView) (given : D) (e : BeginFault) (n : Counting) → OpensAs view tells fed shelf disk (Err (e, given, n))
      → GivesBack view (IsTrue told) shelf given mid after → StaysShut view fed (racks_of told before after) shelf (reopen_of e)
  refused_shut after given e n p g = record {
    rest = asks_one view (IsTrue told) told before mid after shelf given asked takes later g;
    failed = λ is. shelf_failed view (IsTrue told) told before mid after shelf given (view disk).faults fresh takes later g
        (p.cause (ap (λ f. Err f) (disk_fault e is)));
    shut = refused disk given (record { among = among; reads = reads; left = g.left }) (λ t. unfit_bare shelf (view disk) e (p.refused (knows t)))
        (λ t other. p.keeps (knows t) (λ x. let same : e ≡ begin.DiskFault = cc in other (ap (λ f. reopen_of f) same)))
        (λ t. p.safely (knows t));
  }
