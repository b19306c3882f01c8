-- A journal that passes goes on to pass with what a run adds to it.
use Rattle.std.proofs.Common.{◌≡◌, ℕ, ◌+◌, List, [], ◌∷◌, ◌++◌, length, Option, Some, None, refl, sym, ap, subst, ◌∙◌, append-nil, append_assoc, if◌then◌else◌, Bool, true, false}
use Rattle.std.specs.Prelude.{⊤}
use Rattle.std.proofs.lemmas.Option.{same_Some}
use Rattle.script_nodes.specs.Setup.{Named}
use Rattle.replay_spec.specs.Book.{Change, changed, sweeps, Book, reopened, are_same}
use Rattle.replay_spec.specs.Rules.{Rules}
use Rattle.replay_spec.specs.Step.{Event, take, publish, sweep, compact, crash}
use Rattle.replay_spec.specs.Runs.{lands}
use Rattle.replay_spec.specs.Invariant.{IsOf, Unused, IsOrderly}
use Rattle.replay_spec.specs.Laws.{IsLawful, Moment, then_book, AreLawful}
use Rattle.replay_spec.specs.Remade.{NameTheirCells, IsLike}
use Rattle.replay_spec.proofs.Compacted.{not_repeated}
use Rattle.replay_spec.proofs.Orderly.{recorded_orderly, is_out, is_doubted}
use Rattle.replay_spec.proofs.Barred.{some_setup}
use Rattle.replay_spec.proofs.Reopened.{same_self}
use Rattle.replay_spec.proofs.Going.{Goes, stays, draws, spends, publishes, fails, goes_to, fails_at, rewrites, fails_to_rewrite, keeps, keeps_rewritten, loses, goes}
use Rattle.journal_records.specs.Records.{Record, begins, changes, renews, draws, follows, promotes, renewal_of}
use Rattle.journal_records.specs.Reading.{read_record}
use Rattle.journal_records.specs.Old.{read_record_in}
use Rattle.journal_records.specs.Laws.{AreRecordsExact}
use Rattle.journal_spec.specs.Before.{Made, made_of, plain}
use Rattle.journal_spec.specs.Lengths.{own_body}
use Rattle.journal_spec.specs.Making.{Texts, Making, nothing, waits, waited, begun, made, damaged, other, made_in}
use Rattle.journal_spec.specs.Old.{with_body_at, with_bodies_at, book_of_format, format_of_now}
use Rattle.journal_spec.specs.Opening.{renewal_body, renewal_bodies}
use Rattle.journal_spec.specs.Whole.{HasWholeScripts, CanBeWritten, HasOwnStates}
use Rattle.journal_spec.specs.Events.{IsGiven, Gives}
use Rattle.journal_spec.specs.Owning.{IsOwnRecord, IsOwnRecordIn, AreOwn}
use Rattle.journal_spec.specs.Keeping.{AreOver, IsAppending, IsWritable, AreAppended, landed_bodies, told_bodies, left_bodies, bodies_left, KeepsDoubt}
use Rattle.journal_spec.proofs.Copies.{spelled_like}
use Rattle.journal_spec.proofs.Kept.{event_kept}
use Rattle.journal_spec.proofs.OwnStates.{HoldsAt}
use Rattle.journal_spec.proofs.Owned.{names_cells}
use Rattle.journal_spec.proofs.Telling.{own_are_told, own_before_of}
use Rattle.journal_spec.proofs.Writing.{state_like, can_same}
use Rattle.audit_spec.specs.Honest.{AreBound, AddedRecordsPass}
use Rattle.audit_spec.proofs.Passing.{own_of_none}
use Rattle.audit_spec.proofs.HonestTests.{IsFair, fair_like}
use Rattle.audit_spec.proofs.Held.{made_held}
use Rattle.audit_spec.proofs.HonestFound.{IsClear, AreClear, each_clear, finds_nothing, yes_is_clear}
use Rattle.audit_spec.proofs.HonestFiles.{IsReady, own_clear}
use Rattle.audit_spec.proofs.HonestChoices.{IsBound, recorded_fair}
use Rattle.audit_spec.proofs.HonestRuns.{IsFairDoubt, doubt_moved, fair_moved, tick_fair}

-- ---- what an event lands

-- a change that lands passes, and its number is unused
abbrev LandsFair : Book → Option Change → Type 0
LandsFair b None = ⊤
LandsFair b (Some c) = IsFair b c × ((n : ℕ) → IsOf n c → Unused b n)

went : {lawful : Type 0} (r : Rules) (b d : Book) (o : Option Change) → Goes lawful r b o d → lawful → IsBound r → IsOrderly b → NameTheirCells b → HasWholeScripts b → IsFairDoubt b b.down
    → LandsFair b o × IsFairDoubt d d.down
went r b d o stays l bound g names whole h = (tt, h)
went r b d o draws l bound g names whole h = (tt, doubt_moved b (b.drawn + 1) (b.out ++ b.drawn ∷ []) b.down b.down h)
went r b d o (spends n out) l bound g names whole h = (tt, doubt_moved b b.drawn d.out b.down b.down h)
went r b d o (publishes t c inside at) l bound g names whole h = (
  (recorded_fair r b t c inside bound g names whole at, is_out b t.number c (at.out l) (recorded_orderly r b t c inside g at).1),
  subst (IsFairDoubt d) (sym at.up) tt,
)
went r b d o (fails count t c inside at) l bound g names whole h =
    (tt, fair_moved b b.drawn d.out d.down c (recorded_fair r b t c inside bound g names whole at))
went r b d o (goes_to tick later up unfed) l bound g names whole h = ((tick_fair b tick later, λ n e. absurd e), subst (IsFairDoubt d) (sym up) tt)
went r b d o (fails_at count tick later up unfed) l bound g names whole h = (tt, fair_moved b b.drawn b.out d.down (sweeps tick) (tick_fair b tick later))
went r b d o (rewrites up unfed) l bound g names whole h = (tt, subst (IsFairDoubt d) (sym up) tt)
went r b d o (fails_to_rewrite count up unfed) l bound g names whole h = (tt, tt)
went r b d o (keeps scripts count c inside down) l bound g names whole h = ((subst (IsFairDoubt b) down h, is_doubted b count c inside down), tt)
went r b d o (keeps_rewritten scripts count down) l bound g names whole h = (tt, tt)
went r b d o (loses scripts) l bound g names whole h = (tt, tt)

-- ---- bodies

clear_more : (texts : Texts) (shelf place : ℕ) (front : List (List ℕ)) (body : List ℕ) (x : Making) → AreClear 6 texts shelf place front x
    → HoldsAt (IsClear 6) 6 (with_bodies_at 6 texts shelf place front x) body → AreClear 6 texts shelf place (front ++ body ∷ []) x
clear_more texts shelf place [] body x h one = (one, tt)
clear_more texts shelf place (f ∷ front) body x h one =
    (h.0, clear_more texts shelf (place + 5 + length f) front body (with_body_at 6 texts shelf place f x) h.1 one)

-- a fact of what was made is one at its body
at_made : (x : Making) (m : Made) (body : List ℕ) → made_in x ≡ Some m → IsClear 6 m (read_record_in 6 body) → HoldsAt (IsClear 6) 6 x body
at_made nothing m body e h = absurd (let never : ⊥ = cc in never)
at_made (waits s) m body e h = tt
at_made waited m body e h = tt
at_made (begun k) m body e h = subst (λ (y : Made). IsClear 6 y (read_record_in 6 body)) (sym (same_Some k m e)) h
at_made (made k) m body e h = subst (λ (y : Made). IsClear 6 y (read_record_in 6 body)) (sym (same_Some k m e)) h
at_made (damaged p) m body e h = absurd (let never : ⊥ = cc in never)
at_made (other p) m body e h = absurd (let never : ⊥ = cc in never)

always_clear : (x : Making) (body : List ℕ) → ((m : Made) → IsClear 6 m (read_record_in 6 body)) → HoldsAt (IsClear 6) 6 x body
always_clear nothing body h = tt
always_clear (waits s) body h = tt
always_clear waited body h = tt
always_clear (begun k) body h = h k
always_clear (made k) body h = h k
always_clear (damaged p) body h = tt
always_clear (other p) body h = tt

reopened_like : (b : Book) → IsLike (reopened b) b
reopened_like b = record { shelf = refl; scripts = refl; clock = refl; instances = refl }

module _ (exact : AreRecordsExact) (texts : Texts) (shelf : ℕ) where
  -- what is known of a journal on the way
  record IsOnward (bodies : List (List ℕ)) (b : Book) : Type 0 where
    keeps : KeepsDoubt texts shelf bodies b
    own : AreOwn texts shelf bodies
    clear : AreClear 6 texts shelf 8 bodies nothing
    doubt : IsFairDoubt b b.down

  here : (bodies : List (List ℕ)) (b : Book) → (h : IsOnward bodies b) → made_in (book_of_format 6 texts shelf bodies) ≡ Some (made_of b h.keeps.keeps.earlier)
  here bodies b h = ap made_in (format_of_now texts shelf bodies) ∙ h.keeps.keeps.makes

  told_own : (bodies : List (List ℕ)) (b : Book) → (h : IsOnward bodies b) → HasOwnStates h.keeps.keeps.earlier (reopened b)
  told_own bodies b h = own_are_told texts shelf bodies (made_of b h.keeps.keeps.earlier) h.keeps.keeps.makes h.own

  landed_clear : (bodies : List (List ℕ)) (b : Book) (c : Change) → (h : IsOnward bodies b) → IsFair b c → ((n : ℕ) → IsOf n c → Unused b n) → CanBeWritten b c
      → HoldsAt (IsClear 6) 6 (book_of_format 6 texts shelf bodies) (own_body b c)
  landed_clear bodies b c h fair new can =
      let earlier = h.keeps.keeps.earlier in
      let m = made_of b earlier in
      let like = reopened_like b in
      let r = h.keeps.keeps.recoverable in
      let is : IsReady (plain m) c = record {
        fair = fair_like b (reopened b) c like fair;
        new = not_repeated c earlier.seen (λ n is_it there. r.used n there (new n is_it));
        whole = record { setup = r.whole.setup; instances = r.whole.instances };
        can = can_same c b (reopened b) (sym (state_like (reopened b) b c like)) can;
      } in
      let one = own_clear m c is (told_own bodies b h) in
      at_made (book_of_format 6 texts shelf bodies) m (own_body b c) (here bodies b h)
      (subst (λ (body : List ℕ). IsClear 6 m (read_record_in 6 body)) (spelled_like (reopened b) b (changed c 0) like) one)

  -- with what an event lands
  with_landed : (bodies : List (List ℕ)) (b : Book) (o : Option Change) → (h : IsOnward bodies b) → LandsFair b o → IsWritable b o → AreClear 6 texts shelf 8 (bodies ++ landed_bodies b o) nothing
  with_landed bodies b None h fair can = subst (λ (bs : List (List ℕ)). AreClear 6 texts shelf 8 bs nothing) (sym (append-nil bodies)) h.clear
  with_landed bodies b (Some c) h fair can = clear_more texts shelf 8 bodies (own_body b c) nothing h.clear (landed_clear bodies b c h fair.0 fair.1 can)

  renewed_clear : (bodies : List (List ℕ)) (scripts before : List Named) → IsGiven texts scripts → AreClear 6 texts shelf 8 bodies nothing
      → AreClear 6 texts shelf 8 (bodies ++ renewal_bodies scripts before) nothing
  renewed_clear bodies scripts before given clear = by_test (are_same scripts before)
    where
      by_test : (same : Bool) → AreClear 6 texts shelf 8 (bodies ++ (if same then [] else renewal_body scripts ∷ [])) nothing
      by_test true = subst (λ (bs : List (List ℕ)). AreClear 6 texts shelf 8 bs nothing) (sym (append-nil bodies)) clear
      by_test false =
          clear_more texts shelf 8 bodies (renewal_body scripts) nothing clear
          (always_clear (book_of_format 6 texts shelf bodies) (renewal_body scripts)
          (λ m. subst (IsClear 6 m) (sym (exact.newest (renewal_body scripts) ∙ exact.back (renewal_of scripts) given.renews)) refl))

  with_told : (bodies : List (List ℕ)) (b : Book) (event : Event) → Gives texts event → AreClear 6 texts shelf 8 bodies nothing → AreClear 6 texts shelf 8 (bodies ++ told_bodies event b) nothing
  with_told bodies b (take target answer) given clear = subst (λ (bs : List (List ℕ)). AreClear 6 texts shelf 8 bs nothing) (sym (append-nil bodies)) clear
  with_told bodies b (publish t) given clear = subst (λ (bs : List (List ℕ)). AreClear 6 texts shelf 8 bs nothing) (sym (append-nil bodies)) clear
  with_told bodies b (sweep tick) given clear = subst (λ (bs : List (List ℕ)). AreClear 6 texts shelf 8 bs nothing) (sym (append-nil bodies)) clear
  with_told bodies b compact given clear = subst (λ (bs : List (List ℕ)). AreClear 6 texts shelf 8 bs nothing) (sym (append-nil bodies)) clear
  with_told bodies b (crash scripts) given clear =
      some_setup (λ (ss : List Named). AreClear 6 texts shelf 8 (bodies ++ renewal_bodies ss b.scripts) nothing) b scripts
      (subst (λ (same : Bool). AreClear 6 texts shelf 8 (bodies ++ (if same then [] else renewal_body b.scripts ∷ [])) nothing) (sym (same_self b.scripts))
      (subst (λ (bs : List (List ℕ)). AreClear 6 texts shelf 8 bs nothing) (sym (append-nil bodies)) clear))
      (renewed_clear bodies scripts b.scripts given clear)

  next : (bodies : List (List ℕ)) (m : Moment) (b : Book) → IsOnward bodies b → IsLawful m.event b → AreOver m.rules shelf → IsAppending m.event → Gives texts m.event
      → IsWritable b (lands m.rules b m.event m.fate) → IsBound m.rules → IsOnward (bodies ++ left_bodies m.rules b m.event m.fate) (then_book m b)
  next bodies m b h lawful over appending given can bound =
      let o = lands m.rules b m.event m.fate in
      let r = h.keeps.keeps.recoverable in
      let names : NameTheirCells b = record { setup = λ k s at. names_cells s (r.whole.setup k s at); instances = λ k i at. names_cells i.script (r.whole.instances k i at) } in
      let w = went m.rules b (then_book m b) o (goes m.rules b m.nonce m.event m.fate) lawful bound r.orderly names r.whole h.doubt in
      let before = own_before_of h.keeps.keeps.earlier b o (λ k n i p found shown. told_own bodies b h k n i p found shown) in
      let kept = event_kept exact texts shelf bodies m.rules b m.nonce m.event m.fate over appending given lawful h.keeps before can in
      record {
        keeps = kept.keeps;
        own = kept.own h.own;
        clear =
            subst (λ (bs : List (List ℕ)). AreClear 6 texts shelf 8 bs nothing) (append_assoc bodies (landed_bodies b o) (told_bodies m.event b))
            (with_told (bodies ++ landed_bodies b o) b m.event given (with_landed bodies b o h w.0 can));
        doubt = w.1;
      }

  ran : (ms : List Moment) (bodies : List (List ℕ)) (b : Book) → IsOnward bodies b → AreLawful ms b → AreAppended texts shelf ms b → AreBound ms
      → (c : Book) × IsOnward (bodies ++ bodies_left ms b) c
  ran [] bodies b h lawful appended bound = (b, subst (λ (bs : List (List ℕ)). IsOnward bs b) (sym (append-nil bodies)) h)
  ran (m ∷ ms) bodies b h lawful appended bound =
      let left = left_bodies m.rules b m.event m.fate in
      let is : IsBound m.rules = record { fuel = bound.0; low = bound.1.0; high = bound.1.1 } in
      let one = next bodies m b h lawful.0 appended.0 appended.1 appended.2 appended.3 is in
      let rest = ran ms (bodies ++ left) (then_book m b) one lawful.1 appended.4 bound.2 in
      (rest.0, subst (λ (bs : List (List ℕ)). IsOnward bs rest.0) (append_assoc bodies left (bodies_left ms (then_book m b))) rest.1)

-- what is own in the format that is written is own
own_now : (k : Made) (r : Option Record) → IsOwnRecordIn 6 k r → IsOwnRecord k r
own_now k None h = tt
own_now k (Some (begins s named)) h = tt
own_now k (Some (changes c state)) h = h
own_now k (Some (renews named)) h = tt
own_now k (Some (draws number)) h = tt
own_now k (Some follows) h = tt
own_now k (Some promotes) h = tt

pub added_pass : AreRecordsExact → AddedRecordsPass
added_pass exact texts shelf [] ms b lawful appended bound kept up says = absurd (let none : None ≡ Some (made_of b kept.keeps.earlier) = kept.keeps.makes in let never : ⊥ = cc in never)
added_pass exact texts shelf (first ∷ bodies) ms b lawful appended bound kept up says =
    let all = first ∷ bodies in
    let m = made_of b kept.keeps.earlier in
    let makes = ap made_in (format_of_now texts shelf all) ∙ kept.keeps.makes in
    let clear = yes_is_clear 6 texts shelf first bodies m (length all) makes says in
    let each = each_clear 6 texts shelf all (made_held (book_of_format 6 texts shelf all) m makes) clear in
    let own : AreOwn texts shelf all =
    λ front rest body k is made.
    let here = ap made_in (format_of_now texts shelf front) ∙ made in
    own_now k (read_record body) (subst (IsOwnRecordIn 6 k) (exact.newest body) (own_of_none 6 k (read_record_in 6 body) (each front rest body k is here))) in
    let end = ran exact texts shelf ms all b (record { keeps = kept; own = own; clear = clear; doubt = subst (IsFairDoubt b) (sym up) tt }) lawful appended bound in
    let k = end.1.keeps.keeps in
    finds_nothing 6 texts shelf first (bodies ++ bodies_left ms b) (made_of end.0 k.earlier) (ap made_in (format_of_now texts shelf (all ++ bodies_left ms b)) ∙ k.makes) end.1.clear
