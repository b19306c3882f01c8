-- The file of a fresh shelf passes after any run.
use Rattle.std.proofs.Common.{◌≤◌, ◌<◌, ℕ, ◌+◌, List, [], ◌∷◌, ◌++◌, Option, Some, None, Bool, true, false, refl, sym, ap, subst, arith, if◌then◌else◌}
use Rattle.std.specs.Prelude.{⊤}
use Rattle.std.proofs.lemmas.Bool.Decides.{nat_tests}
use Rattle.script_nodes.specs.Setup.{Named}
use Rattle.replay_spec.specs.Book.{Change, sweeps, Work, landing, compacting, Doubt, changed, renewed, Book, reopened, are_same}
use Rattle.replay_spec.specs.Rules.{Journal, Rules, empty_book}
use Rattle.replay_spec.specs.Change.{record_length, land}
use Rattle.replay_spec.specs.Compaction.{rewritten, renewed_length, renewed_file, setup_for, going_on_with, reopened_with}
use Rattle.replay_spec.specs.Step.{step}
use Rattle.replay_spec.specs.Runs.{lands}
use Rattle.replay_spec.specs.Recovery.{first_of, made_of_file}
use Rattle.replay_spec.specs.Invariant.{IsOrderly}
use Rattle.replay_spec.specs.Laws.{Moment, then_book, book_after, AreLawful}
use Rattle.replay_spec.specs.Remade.{NameTheirCells, IsFiled}
use Rattle.replay_spec.proofs.Compacted.{first_orderly}
use Rattle.replay_spec.proofs.Going.{Goes, stays, draws, spends, publishes, fails, goes_to, fails_at, rewrites, fails_to_rewrite, keeps, keeps_rewritten, loses, goes}
use Rattle.replay_spec.proofs.Filing.{over}
use Rattle.journal_spec.specs.Lengths.{journal_rules}
use Rattle.journal_spec.specs.Making.{Texts}
use Rattle.journal_spec.specs.Bodies.{bodies_of}
use Rattle.journal_spec.specs.Whole.{AreWhole, HasWholeScripts}
use Rattle.journal_spec.specs.Events.{IsMet, AreMet}
use Rattle.journal_spec.proofs.Fitting.{WholeIn}
use Rattle.journal_spec.proofs.Fresh.{Standing, stands_first, rules_over, stands_next}
use Rattle.audit_spec.specs.Honest.{FindsNothing, AreLasting, HonestJournalsPass}
use Rattle.audit_spec.proofs.HonestTests.{IsFair, fair_like}
use Rattle.audit_spec.proofs.HonestLines.{AreFair, fair_more, fair_sweep, fair_compacted}
use Rattle.audit_spec.proofs.HonestChoices.{IsBound, recorded_fair}
use Rattle.audit_spec.proofs.HonestFiles.{whole_lines, file_passes}

-- work that may have been done passes
abbrev pub IsFairWork : Book → Work → Type 0
IsFairWork b (landing c inside) = IsFair b c
IsFairWork b compacting = ⊤

-- what is in doubt, if anything is, passes
abbrev pub IsFairDoubt : Book → Option Doubt → Type 0
IsFairDoubt b None = ⊤
IsFairDoubt b (Some doubt) = IsFairWork b doubt.work

-- the records of a book's file pass, and so does what is in doubt
record IsHonest (b : Book) : Type 0 where
  lines : AreFair b.file.lines (first_of b.shelf b.file)
  doubt : IsFairDoubt b b.down

-- ---- what an event makes of it

abbrev pub moved : Book → (drawn : ℕ) → (out : List ℕ) → Option Doubt → Book
moved b drawn out down = record b { drawn = drawn; out = out; down = down }

pub fair_moved : (b : Book) (drawn : ℕ) (out : List ℕ) (down : Option Doubt) (c : Change) → IsFair b c → IsFair (moved b drawn out down) c
fair_moved b drawn out down c fair = fair_like b (moved b drawn out down) c (record { shelf = refl; scripts = refl; clock = refl; instances = refl }) fair

pub doubt_moved : (b : Book) (drawn : ℕ) (out : List ℕ) (down o : Option Doubt) → IsFairDoubt b o → IsFairDoubt (moved b drawn out down) o
doubt_moved b drawn out down None h = tt
doubt_moved b drawn out down (Some doubt) h = by_work doubt.work h
  where
    by_work : (w : Work) → IsFairWork b w → IsFairWork (moved b drawn out down) w
    by_work (landing c inside) fair = fair_moved b drawn out down c fair
    by_work compacting fair = tt

-- the records with that of a change
lines_landed : (b : Book) (c : Change) (n : ℕ) → IsFiled b → IsFair b c → IsHonest b → AreFair (b.file.lines ++ changed c n ∷ []) (first_of b.shelf b.file)
lines_landed b c n filed fair h =
    fair_more b.file.lines (changed c n) (first_of b.shelf b.file) h.lines (fair_like b (made_of_file b.shelf b.file).book c filed.made fair)

-- the shelf is opened again
honest_going_on : (j : Journal) (scripts : List Named) (b : Book) → AreFair b.file.lines (first_of b.shelf b.file) → IsHonest (going_on_with (Some j) scripts b)
honest_going_on j scripts b fair = by_test (are_same scripts b.scripts)
  where
    by_test : (same : Bool)
        → IsHonest (record (reopened b) {
          scripts = scripts;
          length = if same then b.length else renewed_length (Some j) scripts b.length;
          file = if same then b.file else renewed_file (Some j) scripts b.file;
        })
    by_test true = record { lines = fair; doubt = tt }
    by_test false = record { lines = fair_more b.file.lines (renewed scripts (j.renewed scripts)) (first_of b.shelf b.file) fair tt; doubt = tt }

honest_reopened : (j : Journal) (scripts : List Named) (b : Book) → AreFair b.file.lines (first_of b.shelf b.file) → IsHonest (reopened_with (Some j) scripts b)
honest_reopened j scripts b fair = honest_going_on j (setup_for b scripts) b fair

pub tick_fair : (b : Book) (tick : ℕ) → b.clock < tick → IsFair b (sweeps tick)
tick_fair b tick later = fair_sweep b tick (grind (arith, nat_tests, later))

went : {lawful : Type 0} (r : Rules) (j : Journal) (b d : Book) (o : Option Change) → Goes lawful (over r j) b o d → IsBound (over r j) → IsOrderly b → NameTheirCells b → HasWholeScripts b
    → IsFiled b → IsHonest b → IsHonest d
went r j b d o stays bound g names whole filed h = h
went r j b d o draws bound g names whole filed h =
    record { lines = h.lines; doubt = doubt_moved b (b.drawn + 1) (b.out ++ b.drawn ∷ []) b.down b.down h.doubt }
went r j b d o (spends n out) bound g names whole filed h =
    record { lines = h.lines; doubt = doubt_moved b b.drawn d.out b.down b.down h.doubt }
went r j b d o (publishes t c inside at) bound g names whole filed h = record {
  lines = lines_landed b c _ filed (recorded_fair (over r j) b t c inside bound g names whole at) h;
  doubt = subst (IsFairDoubt d) (sym at.up) tt;
}
went r j b d o (fails count t c inside at) bound g names whole filed h = record {
  lines = h.lines;
  doubt = fair_moved b b.drawn d.out d.down c (recorded_fair (over r j) b t c inside bound g names whole at);
}
went r j b d o (goes_to tick later up unfed) bound g names whole filed h =
    record { lines = lines_landed b (sweeps tick) _ filed (tick_fair b tick later) h; doubt = subst (IsFairDoubt d) (sym up) tt }
went r j b d o (fails_at count tick later up unfed) bound g names whole filed h =
    record { lines = h.lines; doubt = fair_moved b b.drawn b.out d.down (sweeps tick) (tick_fair b tick later) }
went r j b d o (rewrites up unfed) bound g names whole filed h = record { lines = fair_compacted b filed h.lines; doubt = subst (IsFairDoubt d) (sym up) tt }
went r j b d o (fails_to_rewrite count up unfed) bound g names whole filed h = record { lines = h.lines; doubt = tt }
went r j b d o (keeps scripts count c inside down) bound g names whole filed h =
    honest_reopened j scripts (land (over r j) c inside b) (lines_landed b c (record_length j b c) filed (subst (IsFairDoubt b) down h.doubt) h)
went r j b d o (keeps_rewritten scripts count down) bound g names whole filed h = honest_reopened j scripts (rewritten (over r j) b) (fair_compacted b filed h.lines)
went r j b d o (loses scripts) bound g names whole filed h = honest_reopened j scripts b h.lines

-- ---- runs

-- the scripts of a book can be run whose file can be written
book_whole : (texts : Texts) (shelf : ℕ) (b : Book) → Standing texts shelf b → HasWholeScripts b
book_whole texts shelf b h =
    let f = b.file in
    let m = first_of b.shelf f in
    let filed = h.exact.filed in
    let begun : HasWholeScripts m.book = record { setup = h.spelled.file.whole; instances = λ k i found. absurd (let no : ⊥ = cc in no) } in
    let made = whole_lines texts f.lines m filed.taken h.spelled.file.lines (first_orderly b.shelf f) begun in
    record { setup = subst AreWhole filed.made.scripts made.setup; instances = subst WholeIn filed.made.instances made.instances }

honest_next : (texts : Texts) (shelf : ℕ) (m : Moment) (b : Book) → Standing texts shelf b → IsMet texts shelf m b → 1 ≤ m.rules.life → IsHonest b → IsHonest (then_book m b)
honest_next texts shelf m b h met lasting honest =
    let j = journal_rules b.shelf in
    let at = rules_over texts shelf m b h met in
    let bound : IsBound (over m.rules j) = record { fuel = met.fuel; low = lasting; high = met.limits.life } in
    subst (λ (r : Rules). IsHonest (step r b m.nonce m.event m.fate).1) (ap (λ (o : Option Journal). record m.rules { journal = o }) (sym at))
    (went m.rules j b (step (over m.rules j) b m.nonce m.event m.fate).1 (lands (over m.rules j) b m.event m.fate) (goes (over m.rules j) b m.nonce m.event m.fate) bound
    h.sound.orderly h.named (book_whole texts shelf b h) h.exact.filed honest)

ran : (texts : Texts) (shelf : ℕ) (ms : List Moment) (b : Book) → Standing texts shelf b → IsHonest b → AreLawful ms b → AreMet texts shelf ms b → AreLasting ms
    → Standing texts shelf (book_after ms b) × IsHonest (book_after ms b)
ran texts shelf [] b h honest lawful met lasting = (h, honest)
ran texts shelf (m ∷ ms) b h honest lawful met lasting =
    ran texts shelf ms (then_book m b) (stands_next texts shelf m b h lawful.0 met.0) (honest_next texts shelf m b h met.0 lasting.0 honest) lawful.1 met.1 lasting.1

pub honest_pass : HonestJournalsPass
honest_pass texts rules scripts shelf ms e given begins lawful met lasting =
    let b = empty_book rules scripts shelf in
    let c = book_after ms b in
    let end = ran texts shelf ms b (stands_first texts rules scripts shelf e given begins) (record { lines = tt; doubt = tt }) lawful met lasting in
    subst (λ (n : ℕ). FindsNothing 6 texts (bodies_of n c.file)) end.0.is_shelf (file_passes texts c.shelf c.file end.0.exact.filed.taken end.0.spelled.file end.1.lines)
