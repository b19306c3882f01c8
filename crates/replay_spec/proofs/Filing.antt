-- Each event leaves a book that its file tells.
use Rattle.std.proofs.Common.{◌≡◌, ◌≤◌, ◌+◌, ◌==◌, max, ℕ, List, [], ◌∷◌, ◌++◌, Option, Some, None, Bool, true, false, not, filter, refl, sym, ap, subst, ◌∙◌, inl, inr, ◌⊎◌, ⊎_elim, if◌then◌else◌, arith}
use Rattle.std.specs.Prelude.{nat_le}
use Rattle.script_value.specs.declared.outcome.TxName.{TxName}
use Rattle.script_nodes.specs.Setup.{Named}
use Rattle.replay_spec.specs.Book.{Change, opens, extends, ends, finishes, sweeps, Work, landing, compacting, Doubt, Line, changed, renewed, Book, spend, reopened, are_same}
use Rattle.replay_spec.specs.Rules.{Journal, Rules, empty_book}
use Rattle.replay_spec.specs.Change.{logged_by, record_length, land}
use Rattle.replay_spec.specs.Compaction.{compaction, rewritten, renewed_length, renewed_file, setup_for, going_on_with, reopened_with}
use Rattle.replay_spec.specs.Step.{Event, take, publish, sweep, compact, crash, Fate, publish_comes, compact_comes, fate_of, recovered, step}
use Rattle.replay_spec.specs.Runs.{lands}
use Rattle.replay_spec.specs.Recovery.{remade, Made, number_in, is_repeated, with_number, taken_in, of_length, then_line, lines_after, first_of, made_of_file}
use Rattle.replay_spec.specs.Invariant.{Among, IsOf, Unused, IsSound}
use Rattle.replay_spec.specs.Laws.{IsLawful, Moment, then_book, book_after, AreLawful}
use Rattle.replay_spec.specs.Remade.{IsRemade, IsRemadeWork, IsRemadeDoubt, NameTheirCells, IsTakenLine, AreTaken, IsLike, IsFiled, IsExact, GivesByText, EventsAreFiled, AreUnder, FilesSuffice}
use Rattle.replay_spec.proofs.Barred.{some_setup, recovered_setup}
use Rattle.replay_spec.proofs.Going.{Goes, stays, draws, spends, publishes, fails, goes_to, fails_at, rewrites, fails_to_rewrite, keeps, keeps_rewritten, loses, goes}
use Rattle.replay_spec.proofs.Orderly.{recorded_orderly, drawn_fewer, spent_fewer, doubt_fewer, is_out, lost_fewer, published_fewer, swept_fewer, kept_fewer, is_doubted}
use Rattle.replay_spec.proofs.Again.{recorded_remade, swept_remade}
use Rattle.replay_spec.proofs.Events.{settled_setup, took_setup, swept_setup, stay_named}
use Rattle.replay_spec.proofs.Steps.{stepped}
use Rattle.replay_spec.proofs.Filed.{file_of_lines, length_of_lines, remade_like, land_like, taken_redo, taken_from}
use Rattle.replay_spec.proofs.Compacted.{not_repeated, first_orderly, lines_orderly, lines_follow, unfollowed, parts_same, compacted_parts}
use Rattle.server_limits.specs.Limits.{most_fuel}

-- the file with one line more makes what that line makes after the others
pub after_more : (ls : List Line) (l : Line) (m : Made) → lines_after (ls ++ l ∷ []) m ≡ then_line l (lines_after ls m)
after_more [] l m = refl
after_more (k ∷ ls) l m = after_more ls l (then_line k m)

pub taken_more : (ls : List Line) (l : Line) (m : Made) → AreTaken ls m → IsTakenLine (lines_after ls m) l → AreTaken (ls ++ l ∷ []) m
taken_more [] l m taken one = (one, tt)
taken_more (k ∷ ls) l m taken one = (taken.0, taken_more ls l (then_line k m) taken.1 one)

with_among : (c : Change) (seen : List ℕ) (n : ℕ) → Among n (with_number (number_in c) seen) → IsOf n c ⊎ Among n seen
with_among (opens o) seen n h = h
with_among (extends x) seen n h = h
with_among (ends e) seen n h = h
with_among (finishes f) seen n h = h
with_among (sweeps tick) seen n h = inr h

-- these rules with this journal
abbrev pub over : Rules → Journal → Rules
over r j = record r { journal = Some j }

abbrev moved : Book → (drawn length : ℕ) → (out : List ℕ) → Option Doubt → Book
moved b drawn length out down = record b { drawn = drawn; length = length; out = out; down = down }

-- numbers that are drawn and spent, and what is in doubt, make no difference
filed_moved : (b : Book) (drawn length : ℕ) (out : List ℕ) (down : Option Doubt) → ((n : ℕ) → Unused (moved b drawn length out down) n → Unused b n) → IsFiled b → IsFiled (moved b drawn length out down)
filed_moved b drawn length out down fewer h = record {
  taken = h.taken;
  made = record { shelf = h.made.shelf; scripts = h.made.scripts; clock = h.made.clock; instances = h.made.instances };
  logged = h.logged;
  used = λ n there x. h.used n there (fewer n x);
}

remade_moved : (b : Book) (drawn length : ℕ) (out : List ℕ) (down : Option Doubt) (c : Change) → remade (moved b drawn length out down) c ≡ remade b c
remade_moved b drawn length out down c = remade_like (moved b drawn length out down) b c (record { shelf = refl; scripts = refl; clock = refl; instances = refl })

again_moved : (b : Book) (drawn length : ℕ) (out : List ℕ) (down : Option Doubt) (c : Change) (inside : List TxName) → IsRemade b c inside → IsRemade (moved b drawn length out down) c inside
again_moved b drawn length out down c inside (names, (made, same)) = (names, (remade_moved b drawn length out down c ∙ made, same))

doubt_moved : (b : Book) (drawn length : ℕ) (out : List ℕ) (down o : Option Doubt) → IsRemadeDoubt b o → IsRemadeDoubt (moved b drawn length out down) o
doubt_moved b drawn length out down None h = tt
doubt_moved b drawn length out down (Some doubt) h = by_work doubt.work h
  where
    by_work : (w : Work) → IsRemadeWork b w → IsRemadeWork (moved b drawn length out down) w
    by_work (landing c inside) h = again_moved b drawn length out down c inside h
    by_work compacting h = tt

-- the file of a book after a change tells it
filed_landed : (r : Rules) (j : Journal) (b : Book) (c : Change) (inside : List TxName) (drawn : ℕ) (out : List ℕ) (down : Option Doubt) → IsFiled b → IsRemade b c inside
    → ((m : ℕ) → IsOf m c → Unused b m)
    → let d = record (land (over r j) c inside b) { drawn = drawn; out = out; down = down } in
    ((m : ℕ) → Unused d m → Unused b m × (IsOf m c → ⊥)) → IsFiled d
filed_landed r j b c inside drawn out down h (names, (made, same)) here fewer =
    let k = record_length j b c in
    let ls = b.file.lines in
    let m = first_of b.shelf b.file in
    let end = lines_after ls m in
    let new : is_repeated (number_in c) end.seen ≡ false = not_repeated c end.seen (λ x is_it there. h.used x there (here x is_it)) in
    let into : taken_in end c ≡ Some names = taken_from end c names new (remade_like end.book b c h.made ∙ made) in
    let next = after_more ls (changed c k) m ∙ taken_redo (of_length k) c end names into in
    let like = land_like (of_length k) (over r j) end.book b c names h.made in
    record {
      taken = taken_more ls (changed c k) m h.taken (names, into);
      made = subst (λ (x : Made). IsLike x.book (record (land (over r j) c inside b) { drawn = drawn; out = out; down = down })) (sym next)
          (record { shelf = like.shelf; scripts = like.scripts; clock = like.clock; instances = like.instances ∙ same });
      logged = subst (λ (x : Made). x.book.logged ≤ max b.logged (logged_by c)) (sym next) (let less = h.logged in omega (arith, less));
      used = λ n there x.
          let at = subst (λ (y : Made). Among n y.seen) next there in
          ⊎_elim (λ is_it. (fewer n x).1 is_it) (λ old. h.used n old (fewer n x).0) (with_among c end.seen n at);
    }

-- an exact book is exact after a change
exact_landed : (r : Rules) (j : Journal) (b : Book) (c : Change) (inside : List TxName) (drawn : ℕ) (out : List ℕ) (down : Option Doubt) → IsExact b → IsRemade b c inside
    → ((m : ℕ) → IsOf m c → Unused b m)
    → let d = record (land (over r j) c inside b) { drawn = drawn; out = out; down = down } in IsFiled d → IsExact d
exact_landed r j b c inside drawn out down e (names, (made, same)) here filed =
    let k = record_length j b c in
    let ls = b.file.lines in
    let m = first_of b.shelf b.file in
    let end = lines_after ls m in
    let h = e.filed in
    let new : is_repeated (number_in c) end.seen ≡ false = not_repeated c end.seen (λ x is_it there. h.used x there (here x is_it)) in
    let into : taken_in end c ≡ Some names = taken_from end c names new (remade_like end.book b c h.made ∙ made) in
    let next = after_more ls (changed c k) m ∙ taken_redo (of_length k) c end names into in
    record {
      filed = filed;
      logged = ap (λ (x : Made). x.book.logged) next ∙ ap (λ (n : ℕ). max n (logged_by c)) e.logged;
      length = ap (λ (x : Made). x.book.length) next ∙ ap (λ (n : ℕ). n + (k + 5)) e.length;
      follows = e.follows;
    }

-- the setups of two books are the same where their names and texts are
abbrev ByText : Book → Book → Type 0
ByText b d = are_same d.scripts b.scripts ≡ true → d.scripts ≡ b.scripts

-- the file of a book after another setup tells it
filed_going_on : (j : Journal) (scripts : List Named) (b : Book) → IsFiled b → (are_same scripts b.scripts ≡ true → scripts ≡ b.scripts) → IsFiled (going_on_with (Some j) scripts b)
filed_going_on j scripts b h text = by_test (are_same scripts b.scripts) text
  where
    by_test : (same : Bool) → (same ≡ true → scripts ≡ b.scripts)
        → IsFiled (record (reopened b) {
          scripts = scripts;
          length = if same then b.length else renewed_length (Some j) scripts b.length;
          file = if same then b.file else renewed_file (Some j) scripts b.file;
        })
    by_test true e = record {
      taken = h.taken;
      made = record { shelf = h.made.shelf; scripts = h.made.scripts ∙ sym (e refl); clock = h.made.clock; instances = h.made.instances };
      logged = h.logged;
      used = λ n there x. h.used n there (lost_fewer (Some j) b scripts n x);
    }
    by_test false e =
        let ls = b.file.lines in
        let m = first_of b.shelf b.file in
        let l = renewed scripts (j.renewed scripts) in
        let next = after_more ls l m in
        record {
          taken = taken_more ls l m h.taken tt;
          made = subst (λ (x : Made). IsLike x.book (record (reopened b) { scripts = scripts; length = renewed_length (Some j) scripts b.length; file = renewed_file (Some j) scripts b.file })) (sym next)
              (record { shelf = h.made.shelf; scripts = refl; clock = h.made.clock; instances = h.made.instances });
          logged = subst (λ (x : Made). x.book.logged ≤ b.logged) (sym next) h.logged;
          used = λ n there x. h.used n (subst (λ (y : Made). Among n y.seen) next there) (lost_fewer (Some j) b scripts n x);
        }

exact_going_on : (j : Journal) (scripts : List Named) (b : Book) → IsExact b → IsFiled (going_on_with (Some j) scripts b) → IsExact (going_on_with (Some j) scripts b)
exact_going_on j scripts b e filed = by_test (are_same scripts b.scripts) filed
  where
    by_test : (same : Bool)
        → IsFiled (record (reopened b) {
          scripts = scripts;
          length = if same then b.length else renewed_length (Some j) scripts b.length;
          file = if same then b.file else renewed_file (Some j) scripts b.file;
        })
        → IsExact (record (reopened b) {
          scripts = scripts;
          length = if same then b.length else renewed_length (Some j) scripts b.length;
          file = if same then b.file else renewed_file (Some j) scripts b.file;
        })
    by_test true f = record { filed = f; logged = e.logged; length = e.length; follows = e.follows }
    by_test false f =
        let next = after_more b.file.lines (renewed scripts (j.renewed scripts)) (first_of b.shelf b.file) in
        record {
          filed = f;
          logged = ap (λ (x : Made). x.book.logged) next ∙ e.logged;
          length = ap (λ (x : Made). x.book.length) next ∙ ap (λ (n : ℕ). n + (j.renewed scripts + 5)) e.length;
          follows = e.follows;
        }

pub exact_rewritten : (r : Rules) (j : Journal) (b : Book) → IsFiled b → IsFiled (rewritten (over r j) b) → IsExact (rewritten (over r j) b)
exact_rewritten r j b h filed = record {
  filed = filed;
  logged = (compacted_parts b h).2;
  length = length_of_lines (compaction b).lines (first_of b.shelf (compaction b)) (compacted_parts b h).0;
  follows = refl;
}

-- the compacted file of a book tells it
pub filed_rewritten : (r : Rules) (j : Journal) (b : Book) → IsFiled b → IsFiled (rewritten (over r j) b)
filed_rewritten r j b h =
    let parts = compacted_parts b h in
    let same = parts.2 in
    record {
      taken = parts.0;
      made = record { shelf = parts.1.shelf; scripts = parts.1.scripts; clock = parts.1.clock; instances = parts.1.instances };
      logged = omega (arith, same);
      used = λ n there x. h.used n (parts.3 n there) x;
    }

-- the book that an event leaves is told by its file
abbrev Leaves : Book → Book → Type 0
Leaves b d = IsFiled d × IsRemadeDoubt d d.down × (IsExact b → IsExact d)

-- a crash after what is in doubt was kept or lost leaves a book that its file tells
then_reopened : (j : Journal) (scripts : List Named) (b c : Book) → IsFiled c → (IsExact b → IsExact c)
    → (are_same (setup_for c scripts) c.scripts ≡ true → setup_for c scripts ≡ c.scripts) → Leaves b (reopened_with (Some j) scripts c)
then_reopened j scripts b c h exact text =
    let ss = setup_for c scripts in let f = filed_going_on j ss c h text in (f, tt, λ e. exact_going_on j ss c (exact e) f)

exact_moved : (b : Book) (drawn : ℕ) (out : List ℕ) (down : Option Doubt) → IsFiled (moved b drawn b.length out down) → IsExact b → IsExact (moved b drawn b.length out down)
exact_moved b drawn out down f e = record { filed = f; logged = e.logged; length = e.length; follows = e.follows }

went : {lawful : Type 0} (r : Rules) (j : Journal) (b d : Book) (o : Option Change) → Goes lawful (over r j) b o d → lawful → r.fuel ≤ most_fuel → IsSound b → NameTheirCells b
    → IsRemadeDoubt b b.down → IsFiled b → ByText b d → Leaves b d
went r j b d o stays l less g names doubt h text = (h, doubt, λ e. e)
went r j b d o draws l less g names doubt h text =
    let f = filed_moved b (b.drawn + 1) b.length (b.out ++ b.drawn ∷ []) b.down (drawn_fewer b g.orderly.logged) h in
    (f, doubt_moved b (b.drawn + 1) b.length (b.out ++ b.drawn ∷ []) b.down b.down doubt, exact_moved b (b.drawn + 1) (b.out ++ b.drawn ∷ []) b.down f)
went r j b d o (spends n out) l less g names doubt h text =
    let left = filter (λ m. not (m == n)) b.out in
    let f = filed_moved b b.drawn b.length left b.down (spent_fewer b n) h in
    (f, doubt_moved b b.drawn b.length left b.down b.down doubt, exact_moved b b.drawn left b.down f)
went r j b d o (publishes t c inside at) l less g names doubt h text =
    let again = recorded_remade (over r j) b t c inside less g.orderly names at in
    let is_it = (recorded_orderly (over r j) b t c inside g.orderly at).1 in
    let here = is_out b t.number c (at.out l) is_it in
    let out = filter (λ m. not (m == t.number)) b.out in
    let f = filed_landed r j b c inside b.drawn out b.down h again here (published_fewer (over r j) b t.number c inside at.up is_it) in
    (f, subst (IsRemadeDoubt d) (sym at.up) tt, λ e. exact_landed r j b c inside b.drawn out b.down e again here f)
went r j b d o (fails count t c inside at) l less g names doubt h text =
    let again = recorded_remade (over r j) b t c inside less g.orderly names at in
    let is_it = (recorded_orderly (over r j) b t c inside g.orderly at).1 in
    let out = filter (λ m. not (m == t.number)) b.out in
    let down = Some (record { count = count; work = landing c inside }) in
    let f = filed_moved b b.drawn b.length out down (doubt_fewer b count t.number c inside (is_out b t.number c (at.out l) is_it)) h in
    (f, again_moved b b.drawn b.length out down c inside again, exact_moved b b.drawn out down f)
went r j b d o (goes_to tick later up unfed) l less g names doubt h text =
    let f = filed_landed r j b (sweeps tick) [] b.drawn b.out b.down h (swept_remade b tick later) (λ m e. absurd e) (swept_fewer (over r j) b tick up) in
    (f, subst (IsRemadeDoubt d) (sym up) tt, λ e. exact_landed r j b (sweeps tick) [] b.drawn b.out b.down e (swept_remade b tick later) (λ m no. absurd no) f)
went r j b d o (fails_at count tick later up unfed) l less g names doubt h text =
    let down = Some (record { count = count; work = landing (sweeps tick) [] }) in
    let f = filed_moved b b.drawn b.length b.out down (λ m x. ⊎_elim (λ out. inl out) (λ y. ⊎_elim (λ no. absurd no) (λ high. inr (inr high)) y) x) h in
    (f, again_moved b b.drawn b.length b.out down (sweeps tick) [] (swept_remade b tick later), exact_moved b b.drawn b.out down f)
went r j b d o (rewrites up unfed) l less g names doubt h text =
    let f = filed_rewritten r j b h in (f, subst (IsRemadeDoubt d) (sym up) tt, λ e. exact_rewritten r j b h f)
went r j b d o (fails_to_rewrite count up unfed) l less g names doubt h text =
    let down = Some (record { count = count; work = compacting }) in
    let f = filed_moved b b.drawn b.length b.out down (λ m x. ⊎_elim (λ out. inl out) (λ y. ⊎_elim (λ no. absurd no) (λ high. inr (inr high)) y) x) h in
    (f, tt, exact_moved b b.drawn b.out down f)
went r j b d o (keeps scripts count c inside down) l less g names doubt h text =
    let again = subst (IsRemadeDoubt b) down doubt in
    let here = is_doubted b count c inside down in
    let c0 = land (over r j) c inside b in
    let f = filed_landed r j b c inside c0.logged [] None h again here (kept_fewer (over r j) scripts b c inside) in
    then_reopened j scripts b (reopened c0) f (λ e. exact_landed r j b c inside c0.logged [] None e again here f) text
went r j b d o (keeps_rewritten scripts count down) l less g names doubt h text =
    let f = filed_rewritten r j b h in then_reopened j scripts b (rewritten (over r j) b) f (λ e. exact_rewritten r j b h f) text
went r j b d o (loses scripts) l less g names doubt h text = then_reopened j scripts b b h (λ e. e) text

by_text : (rules : Rules) (b : Book) (nonce : ℕ) (event : Event) (fate : Fate) → GivesByText event b → ByText b (step rules b nonce event fate).1
unfolding step
by_text rules b nonce (take target answer) fate h same = took_setup b target nonce fate
by_text rules b nonce (publish t) fate h same = settled_setup rules (spend t.number b) (fate_of rules.journal fate) (publish_comes rules b t)
by_text rules b nonce (sweep tick) fate h same = swept_setup rules b tick (fate_of rules.journal fate) (nat_le tick b.clock)
by_text rules b nonce compact fate h same = settled_setup rules b (fate_of rules.journal fate) (compact_comes rules b)
by_text rules b nonce (crash scripts) fate h same =
    let c = recovered rules fate b.down b in
    some_setup (λ (ss : List Named). are_same ss b.scripts ≡ true → ss ≡ b.scripts) c scripts (λ _. recovered_setup rules fate b.down b) h same

abbrev Files : Book → (nonce : ℕ) → Event → Fate → Rules → Type 0
Files b nonce event fate r = let d = (step r b nonce event fate).1 in IsFiled d × IsRemadeDoubt d d.down × (IsExact b → IsExact d)

empty_filed : (rules : Rules) (scripts : List Named) (shelf : ℕ) → IsFiled (empty_book rules scripts shelf)
empty_filed rules scripts shelf = record {
  taken = tt;
  made = record { shelf = refl; scripts = refl; clock = refl; instances = refl };
  logged = omega arith;
  used = λ n there x. there;
}

one_filed : (rules : Rules) (b : Book) (nonce : ℕ) (event : Event) (fate : Fate) (j : Journal) → rules.journal ≡ Some j → rules.fuel ≤ most_fuel
    → IsSound b → NameTheirCells b → IsRemadeDoubt b b.down → IsFiled b → IsLawful event b → GivesByText event b → Files b nonce event fate rules
one_filed rules b nonce event fate j e less g names doubt h lawful text =
    subst (Files b nonce event fate) (ap (λ (o : Option Journal). record rules { journal = o }) (sym e))
    (went rules j b (step (over rules j) b nonce event fate).1 (lands (over rules j) b event fate) (goes (over rules j) b nonce event fate) lawful less g names doubt h
    (by_text (over rules j) b nonce event fate text))

pub filed : EventsAreFiled
filed = (empty_filed, one_filed)

-- the file of an exact book makes it, as after a crash
pub exact_made : (b : Book) → IsExact b → (made_of_file b.shelf b.file).book ≡ reopened b
exact_made b e =
    let m = first_of b.shelf b.file in
    let c = (made_of_file b.shelf b.file).book in
    let again : c ≡ reopened c = (lines_orderly b.file.lines m (first_orderly b.shelf b.file)).again in
    let file : c.file ≡ b.file = file_of_lines b.file.lines m e.filed.taken in
    let like = e.filed.made in
    again ∙ unfollowed c (lines_follow b.file.lines m) ∙ parts_same c b b.length b.file like.shelf like.scripts like.clock e.logged e.length file like.instances ∙ sym (unfollowed b e.follows)

ran : (j : Journal) (ms : List Moment) (b : Book) → IsSound b → NameTheirCells b → IsRemadeDoubt b b.down → IsFiled b → AreLawful ms b → AreUnder j ms b
    → IsFiled (book_after ms b) × (IsExact b → IsExact (book_after ms b))
ran j [] b g names doubt h lawful under = (h, λ e. e)
ran j (m ∷ ms) b g names doubt h lawful under =
    let d = then_book m b in
    let one = one_filed m.rules b m.nonce m.event m.fate j under.1 under.0 g names doubt h lawful.0 under.2.0 in
    let rest = ran j ms d (stepped m b g lawful.0).sound (stay_named.1 b m g.orderly names under.2.1) one.1 one.0 lawful.1 under.3 in
    (rest.0, λ e. rest.1 (one.2 e))

pub suffice : FilesSuffice
suffice = (
  λ (rules : Rules) (scripts : List Named) (shelf : ℕ). record { filed = empty_filed rules scripts shelf; logged = refl; length = omega arith; follows = refl },
  λ (j : Journal) (ms : List Moment) (b : Book) (g : IsSound b) (names : NameTheirCells b) (doubt : IsRemadeDoubt b b.down) (h : IsFiled b)
      (lawful : AreLawful ms b) (under : AreUnder j ms b).
      let all = ran j ms b g names doubt h lawful under in (all.0, λ e. exact_made (book_after ms b) (all.1 e)),
)
