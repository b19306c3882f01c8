-- Each event leaves a file that can be written, with one body more where it lands a change.
use Rattle.std.proofs.Common.{◌≡◌, ◌<◌, ◌+◌, ◌^◌, ℕ, List, [], ◌∷◌, ◌++◌, map, length, Option, Some, Bool, true, false, refl, sym, ap, subst, ◌∙◌, append-nil, append_assoc, if◌then◌else◌}
use Rattle.script_value.specs.declared.outcome.TxName.{TxName}
use Rattle.script_nodes.specs.Setup.{Named}
use Rattle.replay_spec.specs.Book.{Change, sweeps, Line, changed, renewed, File, Book, spend, are_same}
use Rattle.replay_spec.specs.Rules.{Journal, Rules, begun_length, empty_book}
use Rattle.replay_spec.specs.Change.{record_length, with_line, land}
use Rattle.replay_spec.specs.Compaction.{rewritten, renewed_file, setup_for, reopened_with}
use Rattle.replay_spec.specs.Step.{Event, take, publish, sweep, compact, crash, Fate, fate_of, publish_comes, compact_comes, recovered, step}
use Rattle.replay_spec.specs.Runs.{lands}
use Rattle.replay_spec.specs.Recovery.{Made, redo, of_length, resettled, then_line, lines_after, first_of, made_of_file}
use Rattle.replay_spec.specs.Remade.{IsFiled}
use Rattle.replay_spec.proofs.Going.{Goes, stays, draws, spends, publishes, fails, goes_to, fails_at, rewrites, fails_to_rewrite, keeps, keeps_rewritten, loses, goes}
use Rattle.replay_spec.proofs.Events.{settled_setup, took_setup, swept_setup}
use Rattle.replay_spec.proofs.Barred.{recovered_setup, some_setup}
use Rattle.replay_spec.proofs.Filed.{like_back}
use Rattle.replay_spec.proofs.Filing.{over}
use Rattle.std.specs.Prelude.{nat_le}
use Rattle.journal_records.specs.Fields.{numbers_end}
use Rattle.journal_records.specs.Records as records
use Rattle.journal_records.specs.Records.{body_of, renewal_of, begin_of, IsInGrammar}
use Rattle.journal_records.proofs.Measured.{fits_measured}
use Rattle.journal_spec.specs.Lengths.{state_told, own_body, journal_rules}
use Rattle.journal_spec.specs.Making.{Texts}
use Rattle.journal_spec.specs.Bodies.{spelled, with_spelled, drawn_bodies, bodies_of}
use Rattle.journal_spec.specs.Opening.{opening_bodies}
use Rattle.journal_spec.specs.Whole.{CanBeWritten}
use Rattle.journal_spec.specs.Files.{AreWritten, IsWritten}
use Rattle.journal_spec.specs.Events.{BodiesGrow, IsGiven, Gives, CanLand, IsSpelled, EventsAreWritten}
use Rattle.journal_spec.proofs.Brief.{reopened_told}
use Rattle.journal_spec.proofs.Copies.{spelled_like}
use Rattle.journal_spec.proofs.Writing.{state_like, can_same, long_same, OneWritten, compaction_written}

-- ---- bodies

with_more : (ls : List Line) (l : Line) (m : Made) → with_spelled (ls ++ l ∷ []) m ≡ with_spelled ls m ++ (l, spelled (lines_after ls m).book l) ∷ []
with_more [] l m = refl
with_more (k ∷ ls) l m = ap (λ (xs : List (Line × List ℕ)). (k, spelled m.book k) ∷ xs) (with_more ls l (then_line k m))

seconds : (xs : List (Line × List ℕ)) (x : Line × List ℕ) → map (λ (y : Line × List ℕ). y.1) (xs ++ x ∷ []) ≡ map (λ (y : Line × List ℕ). y.1) xs ++ x.1 ∷ []
seconds [] x = refl
seconds (y ∷ ys) x = ap (λ (bs : List (List ℕ)). y.1 ∷ bs) (seconds ys x)

line_more : (shelf : ℕ) (l : Line) (f : File) → bodies_of shelf (with_line l f) ≡ bodies_of shelf f ++ spelled (made_of_file shelf f).book l ∷ []
line_more shelf l f =
    let m = first_of shelf f in
    let bodies = map (λ (x : Line × List ℕ). x.1) (with_spelled f.lines m) in
    let more = spelled (lines_after f.lines m).book l ∷ [] in
    let begin = body_of (begin_of shelf f.scripts) in
    ap (λ (bs : List (List ℕ)). begin ∷ (drawn_bodies f.drawn ++ bs))
    (ap (λ (xs : List (Line × List ℕ)). map (λ (y : Line × List ℕ). y.1) xs) (with_more f.lines l m)
    ∙ seconds (with_spelled f.lines m) (l, spelled (lines_after f.lines m).book l))
    ∙ ap (λ (bs : List (List ℕ)). begin ∷ bs) (sym (append_assoc (drawn_bodies f.drawn) bodies more))

abbrev Lands : (rules : Rules) → Book → Change → List TxName → Type 0
Lands rules b c inside = bodies_of b.shelf (land rules c inside b).file ≡ bodies_of b.shelf b.file ++ own_body b c ∷ []

land_over : (r : Rules) (j : Journal) (b : Book) (c : Change) (inside : List TxName) → IsFiled b → Lands (over r j) b c inside
land_over r j b c inside h =
    let l = changed c (record_length j b c) in
    line_more b.shelf l b.file
    ∙ ap (λ (x : List ℕ). bodies_of b.shelf b.file ++ x ∷ []) (spelled_like (made_of_file b.shelf b.file).book b l h.made)

pub land_more : (rules : Rules) (j : Journal) (b : Book) (c : Change) (inside : List TxName) → rules.journal ≡ Some j → IsFiled b → Lands rules b c inside
land_more rules j b c inside e h =
    subst (λ (r : Rules). Lands r b c inside) (ap (λ (o : Option Journal). record rules { journal = o }) (sym e)) (land_over rules j b c inside h)

renew_more : (j : Journal) (scripts : List Named) (b : Book) → bodies_of b.shelf (reopened_with (Some j) scripts b).file ≡ bodies_of b.shelf b.file ++ opening_bodies scripts b
renew_more j scripts b = by_test (are_same (setup_for b scripts) b.scripts)
  where
    by_test : (same : Bool)
        → bodies_of b.shelf (if same then b.file else renewed_file (Some j) (setup_for b scripts) b.file)
        ≡ bodies_of b.shelf b.file ++ (if same then [] else body_of (renewal_of (setup_for b scripts)) ∷ [])
    by_test true = sym (append-nil (bodies_of b.shelf b.file))
    by_test false = line_more b.shelf (renewed (setup_for b scripts) (j.renewed (setup_for b scripts))) b.file

pub grow : BodiesGrow
grow = (line_more, land_more, renew_more)

-- ---- what can be written

pub written_more : (texts : Texts) (ls : List Line) (l : Line) (m : Made) → AreWritten texts ls m → OneWritten texts l (lines_after ls m) → AreWritten texts (ls ++ l ∷ []) m
written_more texts [] l m h one = one
written_more texts (changed c n ∷ ls) l m h one = (h.0, h.1, written_more texts ls l (redo (of_length n) c m) h.2 one)
written_more texts (renewed scripts n ∷ ls) l m h one = (h.0, h.1, h.2, h.3, written_more texts ls l (resettled n scripts m) h.4 one)

line_written : (texts : Texts) (shelf : ℕ) (l : Line) (f : File) → IsWritten texts shelf f → OneWritten texts l (made_of_file shelf f) → IsWritten texts shelf (with_line l f)
line_written texts shelf l f h one = record {
  begins = h.begins;
  read = h.read;
  whole = h.whole;
  head = h.head;
  drawn = h.drawn;
  lines = written_more texts f.lines l (first_of shelf f) h.lines one;
}

pub measured : (b : Book) (c : Change) (shelf : ℕ) → CanBeWritten b c → length (own_body b c) < 2 ^ 63 → record_length (journal_rules shelf) b c ≡ length (own_body b c)
measured b c shelf can small =
    ap (λ (s : Option (List ℕ)). records.record_length c s) (reopened_told b c) ∙ fits_measured c (state_told b c) can.body small

landed_written : (texts : Texts) (r : Rules) (b : Book) (c : Change) (inside : List TxName) → IsFiled b → CanLand b (Some c) → IsWritten texts b.shelf b.file
    → IsWritten texts b.shelf (land (over r (journal_rules b.shelf)) c inside b).file
landed_written texts r b c inside h can written =
    let end = (made_of_file b.shelf b.file).book in
    let same = state_like b end c (like_back end b h.made) in
    let n = record_length (journal_rules b.shelf) b c in
    line_written texts b.shelf (changed c n) b.file written
    (can_same c b end same can.0, long_same c b end n same (measured b c b.shelf can.0 can.1), tt)

renewed_written : (texts : Texts) (scripts : List Named) (b : Book) → IsGiven texts (setup_for b scripts) → IsWritten texts b.shelf b.file
    → IsWritten texts b.shelf (reopened_with (Some (journal_rules b.shelf)) scripts b).file
renewed_written texts scripts b given written = by_test (are_same (setup_for b scripts) b.scripts)
  where
    by_test : (same : Bool) → IsWritten texts b.shelf (if same then b.file else renewed_file (Some (journal_rules b.shelf)) (setup_for b scripts) b.file)
    by_test true = written
    by_test false =
        let ss = setup_for b scripts in
        line_written texts b.shelf (renewed ss ((journal_rules b.shelf).renewed ss)) b.file written (given.renews, refl, given.read, given.whole, tt)

rewritten_written : (texts : Texts) (r : Rules) (j : Journal) (b : Book) → IsFiled b → b.logged < numbers_end + 1 → IsWritten texts b.shelf b.file
    → IsWritten texts b.shelf (rewritten (over r j) b).file
rewritten_written texts r j b h below written = compaction_written texts b h written below

-- what an event leaves
abbrev Leaves : Texts → Book → Book → Type 0
Leaves texts b d = (d.shelf ≡ b.shelf) × IsWritten texts d.shelf d.file

went : {lawful : Type 0} (texts : Texts) (r : Rules) (b d : Book) (o : Option Change) → Goes lawful (over r (journal_rules b.shelf)) b o d
    → IsFiled b → b.logged < numbers_end + 1 → CanLand b o → IsGiven texts d.scripts → IsWritten texts b.shelf b.file → Leaves texts b d
went texts r b d o stays h below can given written = (refl, written)
went texts r b d o draws h below can given written = (refl, written)
went texts r b d o (spends n out) h below can given written = (refl, written)
went texts r b d o (publishes t c inside at) h below can given written = (refl, landed_written texts r b c inside h can written)
went texts r b d o (fails count t c inside at) h below can given written = (refl, written)
went texts r b d o (goes_to tick later up unfed) h below can given written = (refl, landed_written texts r b (sweeps tick) [] h can written)
went texts r b d o (fails_at count tick later up unfed) h below can given written = (refl, written)
went texts r b d o (rewrites up unfed) h below can given written = (refl, rewritten_written texts r (journal_rules b.shelf) b h below written)
went texts r b d o (fails_to_rewrite count up unfed) h below can given written = (refl, written)
went texts r b d o (keeps scripts count c inside down) h below can given written =
    (refl, renewed_written texts scripts (land (over r (journal_rules b.shelf)) c inside b) given (landed_written texts r b c inside h can written))
went texts r b d o (keeps_rewritten scripts count down) h below can given written =
    (refl, renewed_written texts scripts (rewritten (over r (journal_rules b.shelf)) b) given (rewritten_written texts r (journal_rules b.shelf) b h below written))
went texts r b d o (loses scripts) h below can given written = (refl, renewed_written texts scripts b given written)

given_then : (texts : Texts) (rules : Rules) (b : Book) (nonce : ℕ) (event : Event) (fate : Fate) → Gives texts event → IsGiven texts b.scripts
    → IsGiven texts (step rules b nonce event fate).1.scripts
unfolding step
given_then texts rules b nonce (take target answer) fate h old = subst (IsGiven texts) (sym (took_setup b target nonce fate)) old
given_then texts rules b nonce (publish t) fate h old =
    subst (IsGiven texts) (sym (settled_setup rules (spend t.number b) (fate_of rules.journal fate) (publish_comes rules b t))) old
given_then texts rules b nonce (sweep tick) fate h old = subst (IsGiven texts) (sym (swept_setup rules b tick (fate_of rules.journal fate) (nat_le tick b.clock))) old
given_then texts rules b nonce compact fate h old = subst (IsGiven texts) (sym (settled_setup rules b (fate_of rules.journal fate) (compact_comes rules b))) old
given_then texts rules b nonce (crash scripts) fate h old =
    let y = recovered rules fate b.down b in some_setup (IsGiven texts) y scripts (subst (IsGiven texts) (sym (recovered_setup rules fate b.down b)) old) h

abbrev Then : Texts → Book → (nonce : ℕ) → Event → Fate → Rules → Type 0
Then texts b nonce event fate r = CanLand b (lands r b event fate) → let d = (step r b nonce event fate).1 in (d.shelf ≡ b.shelf) × IsSpelled texts d

one_written : (texts : Texts) (rules : Rules) (b : Book) (nonce : ℕ) (event : Event) (fate : Fate) → rules.journal ≡ Some (journal_rules b.shelf)
    → IsFiled b → b.logged < numbers_end + 1 → CanLand b (lands rules b event fate) → Gives texts event → IsSpelled texts b
    → let d = (step rules b nonce event fate).1 in (d.shelf ≡ b.shelf) × IsSpelled texts d
one_written texts rules b nonce event fate e h below can gives spelled =
    subst (Then texts b nonce event fate) (ap (λ (o : Option Journal). record rules { journal = o }) (sym e))
    (λ lands_so.
    let r = over rules (journal_rules b.shelf) in
    let given = given_then texts r b nonce event fate gives spelled.given in
    let left = went texts rules b (step r b nonce event fate).1 (lands r b event fate) (goes r b nonce event fate) h below lands_so given spelled.file in
    (left.0, record { file = left.1; given = given }))
    can

empty_written : (texts : Texts) (rules : Rules) (scripts : List Named) (shelf : ℕ) → rules.journal ≡ Some (journal_rules shelf) → IsGiven texts scripts
    → IsInGrammar (begin_of shelf scripts) → IsSpelled texts (empty_book rules scripts shelf)
empty_written texts rules scripts shelf e given begins = record {
  file = record {
    begins = begins;
    read = given.read;
    whole = given.whole;
    head = ap (λ (o : Option Journal). begun_length o scripts) e;
    drawn = tt;
    lines = tt;
  };
  given = given;
}

pub written : EventsAreWritten
written = (empty_written, one_written)
