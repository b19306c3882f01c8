-- Scripts go on to name cells that they have.
use Rattle.std.proofs.Common.{◌≡◌, ◌==◌, ℕ, List, [], Option, Some, None, Bool, not, refl, sym, ap, subst, ◌∙◌, ⊎_elim, slice_get, arith}
use Rattle.std.specs.Prelude.{nat_le, if◌then◌else◌}
use Rattle.script_value.specs.declared.outcome.TxName.{TxName}
use Rattle.script_nodes.specs.PageNames.Names.{Destination}
use Rattle.script_nodes.specs.Setup.{Named}
use Rattle.replay_spec.specs.Book.{Instance, Opening, Change, opens, extends, ends, finishes, sweeps, Book, is_live, instance_at, spend, root_by, page_by}
use Rattle.replay_spec.specs.Rules.{Rules}
use Rattle.replay_spec.specs.Change.{mend, shown_by, ended_by, fresh, opened_by, instances_by}
use Rattle.replay_spec.specs.Step.{Event, take, publish, sweep, compact, crash, Fate, swept, Decision, publish_comes, sweep_comes, compact_comes, fate_of, settle, recovered, take_by, step}
use Rattle.replay_spec.specs.Runs.{lands}
use Rattle.replay_spec.specs.Invariant.{Apart, IsOrderly}
use Rattle.replay_spec.specs.Laws.{Moment, then_book}
use Rattle.replay_spec.specs.Remade.{NamesItsCells, NameTheirCells, GivesNamed, CellsStayNamed}
use Rattle.replay_spec.proofs.Found.{KeepsNumber, keep_found}
use Rattle.replay_spec.proofs.Barred.{some_setup, recovered_setup}
use Rattle.replay_spec.proofs.Going.{goes}
use Rattle.replay_spec.proofs.Lands.{LandsAs, lands_as}
use Rattle.replay_spec.proofs.Differ.{put_from, mend_from}

-- a setup that is kept
pub settled_setup : (rules : Rules) (b : Book) (fate : Fate) (d : Decision) → (settle rules b fate d).1.scripts ≡ b.scripts
settled_setup rules b fate d = grind arith

pub took_setup : (b : Book) (target : Destination) (nonce : ℕ) (fate : Fate) → (take_by b target nonce fate).1.scripts ≡ b.scripts
took_setup b target nonce fate = grind arith

pub swept_setup : (rules : Rules) (b : Book) (tick : ℕ) (fate : Fate) (is_late : Bool) → (if is_late then (swept 0, b) else settle rules b fate (sweep_comes rules b tick)).1.scripts ≡ b.scripts
swept_setup rules b tick fate is_late = grind (arith, settled_setup rules b fate (sweep_comes rules b tick))

-- scripts name their cells after an event, too
abbrev Named_in : List Instance → Type 0
Named_in is = (k : ℕ) (i : Instance) → instance_at k is ≡ Some i → NamesItsCells i.script

named_mended : (n : ℕ) (f : Instance → Instance) (is : List Instance) → KeepsNumber f → ((i : Instance) → (f i).script ≡ i.script) → Named_in is → Named_in (mend n f is)
named_mended n f is same script h k j found = ⊎_elim
    (λ old. h k j old)
    (λ (i, (there, is_it)). subst NamesItsCells (sym (script i) ∙ ap (λ (x : Instance). x.script) is_it) (h k i there))
    (mend_from k n f is j same found)

named_opened : (s : Option Named) (o : Opening) (inside : List TxName) (is : List Instance) → ((a : Named) → s ≡ Some a → NamesItsCells a) → Named_in is → Named_in (opened_by s o inside is)
named_opened None o inside is fits h k j found = h k j found
named_opened (Some a) o inside is fits h k j found =
    let i = shown_by o.effects o.left o.kind [] (root_by o inside) (fresh a o.number) in
    ⊎_elim (λ same. subst (λ (x : Instance). NamesItsCells x.script) same (fits a refl)) (λ old. h k j old) (put_from (λ (x : Instance). x.number) k i j is found)

named_by : (scripts : List Named) (is : List Instance) (c : Change) (inside : List TxName) → Apart is → ((k : ℕ) (s : Named) → slice_get scripts k ≡ Some s → NamesItsCells s) → Named_in is
    → Named_in (instances_by scripts c inside is)
named_by scripts is (opens o) inside apart setup h k j found = named_opened (slice_get scripts o.script) o inside is (setup o.script) h k j found
named_by scripts is (extends x) inside apart setup h k j found = named_mended x.instance (shown_by x.effects x.left x.kind x.evicted (page_by x inside)) is (λ i. refl) (λ i. refl) h k j found
named_by scripts is (ends e) inside apart setup h k j found = named_mended e.instance (ended_by e) is (λ i. refl) (λ i. refl) h k j found
named_by scripts is (finishes f) inside apart setup h k j found = h k j (keep_found (λ i. not (i.number == f.instance)) k is j apart found)
named_by scripts is (sweeps tick) inside apart setup h k j found = h k j (keep_found (is_live tick) k is j apart found)

named_landed : (b d : Book) (o : Option Change) → IsOrderly b → NameTheirCells b → LandsAs b o d → Named_in d.instances
named_landed b d None g h is = subst Named_in (sym is) h.instances
named_landed b d (Some c) g h (inside, (fits, is)) = subst Named_in (sym is) (named_by b.scripts b.instances c inside g.instances.apart h.setup h.instances)

named_then : (b : Book) (m : Moment) → IsOrderly b → NameTheirCells b → ((k : ℕ) (s : Named) → slice_get (then_book m b).scripts k ≡ Some s → NamesItsCells s)
    → NameTheirCells (then_book m b)
named_then b m g h setup = record {
  setup = setup;
  instances = named_landed b (then_book m b) (lands m.rules b m.event m.fate) g h (lands_as m.rules b (then_book m b) (lands m.rules b m.event m.fate) (goes m.rules b m.nonce m.event m.fate) g);
}

-- the setup after an event
given : (rules : Rules) (b : Book) (nonce : ℕ) (x : Event) (fate : Fate) → NameTheirCells b → GivesNamed x
    → (k : ℕ) (s : Named) → slice_get (step rules b nonce x fate).1.scripts k ≡ Some s → NamesItsCells s
unfolding step
given rules b nonce (take target answer) fate h named k s at = h.setup k s (ap (λ (ss : List Named). slice_get ss k) (sym (took_setup b target nonce fate)) ∙ at)
given rules b nonce (publish t) fate h named k s at =
    h.setup k s (ap (λ (ss : List Named). slice_get ss k) (sym (settled_setup rules (spend t.number b) (fate_of rules.journal fate) (publish_comes rules b t))) ∙ at)
given rules b nonce (sweep tick) fate h named k s at =
    h.setup k s (ap (λ (ss : List Named). slice_get ss k) (sym (swept_setup rules b tick (fate_of rules.journal fate) (nat_le tick b.clock))) ∙ at)
given rules b nonce compact fate h named k s at =
    h.setup k s (ap (λ (ss : List Named). slice_get ss k) (sym (settled_setup rules b (fate_of rules.journal fate) (compact_comes rules b))) ∙ at)
given rules b nonce (crash scripts) fate h named k s at =
    let c = recovered rules fate b.down b in
    some_setup (λ (ss : List Named). slice_get ss k ≡ Some s → NamesItsCells s) c scripts
    (λ there. h.setup k s (ap (λ (ss : List Named). slice_get ss k) (sym (recovered_setup rules fate b.down b)) ∙ there)) (named k s) at

pub stay_named : CellsStayNamed
stay_named = (
  λ (rules : Rules) (scripts : List Named) (shelf : ℕ) (h : (k : ℕ) (s : Named) → slice_get scripts k ≡ Some s → NamesItsCells s).
      record { setup = h; instances = λ k i found. absurd (let no : ⊥ = cc in no) },
  λ (b : Book) (m : Moment) (g : IsOrderly b) (h : NameTheirCells b) (named : GivesNamed m.event).
      named_then b m g h (given m.rules b m.nonce m.event m.fate h named),
)
