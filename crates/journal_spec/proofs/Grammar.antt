-- Which changes are in the grammar: of an orderly book in range, those whose record is short.
use Rattle.std.proofs.Common.{◌≡◌, ℕ, ◌≤◌, ◌<◌, ◌^◌, ◌==◌, List, [], ◌∷◌, ◌++◌, length, Bool, true, false, Option, Some, None, refl, sym, ap, subst, inl, inr, if◌then◌else◌, arith, length-append, Contains}
use Rattle.std.specs.Prelude.{⊤}
use Rattle.std.specs.List.{flat_map, list_all, AllByRecursion}
use Rattle.std.proofs.lemmas.Bool.{cases_lt, and_parts}
use Rattle.std.proofs.lemmas.Bool.Decides.{nat_tests}
use Rattle.script_value.specs.declared.outcome.TxName.{TxName}
use Rattle.instance_cells.specs.Cells.{Effect, read, set, add}
use Rattle.wire_bytes.specs.Spelling.{u32_bytes, u64_bytes, byte_string}
use Rattle.value_bytes.specs.Spelling.{value_bytes, FitsList, list_bytes}
use Rattle.replay_spec.specs.Book.{Extension, Ending, Finish, Change, opens, extends, ends, finishes, sweeps, Book}
use Rattle.replay_spec.specs.Admission.{is_one}
use Rattle.replay_spec.specs.Invariant.{HasPage, IsOf, CanGo, IsOrderlyChange, IsOrderly}
use Rattle.replay_spec.proofs.Goers.{used_there}
use Rattle.replay_spec.proofs.Stand.{among_of}
use Rattle.journal_records.specs.Fields.{numbers_end, name_bytes, NameFits, effect_bytes, EffectFits, send_byte, origin_bytes, is_shallow, is_shallow_effect, IsTypedEffect}
use Rattle.journal_records.specs.Records.{Page, ChangeFits, opening_page, extension_page, page_bytes, ending_bytes, finish_bytes, effects_bytes, names_bytes, IsNumber, TimeFits, PartsFit}
use Rattle.journal_spec.specs.Making.{has_script}
use Rattle.journal_spec.specs.Spelling.{IsInRange}
use Rattle.journal_spec.proofs.Typed.{value_fits, effects_typed}
use Rattle.journal_spec.proofs.Brief.{IsShort}

-- the nonce, the time and the tick that a change tells are such as records tell
abbrev pub TellsInRange : Change → Type 0
TellsInRange (opens o) = (o.nonce < 2 ^ 64) × TimeFits (opening_page o []) × (o.evicted ≡ [])
TellsInRange (extends x) = (x.nonce < 2 ^ 64) × TimeFits (extension_page x [])
TellsInRange (ends e) = ⊤
TellsInRange (finishes f) = ⊤
TellsInRange (sweeps tick) = tick < numbers_end

-- just the changes that show a page are told with a state
abbrev pub IsToldWith : Change → Option (List ℕ) → Type 0
IsToldWith (opens o) state = ⊤
IsToldWith (extends x) state = ⊤
IsToldWith c (Some state) = ⊥
IsToldWith c None = ⊤

-- numbers of instances and of pages are below those to come
below : (b : Book) (k n : ℕ) → IsOrderly b → b.drawn ≤ numbers_end → HasPage b.instances k n → (k < numbers_end) × (n < numbers_end)
below b k n g drawn (p, at) = (
  elim (cases_lt k b.logged) [
    | inl low ↦ omega (arith, low, g.logged, drawn)
    | inr high ↦ absurd (let none = g.instances.no_instance k (inr (inr high)) in let some = at.found in let no : ⊥ = cc in no)
  ],
  elim (cases_lt n b.logged) [
    | inl low ↦ omega (arith, low, g.logged, drawn)
    | inr high ↦ absurd (let none = g.instances.no_page n (inr (inr high)) k at.instance at.found in let some = at.shown in let no : ⊥ = cc in no)
  ],
)

-- a list is no longer than its spelling
several : {A : Type 0} (f : A → List ℕ) → ((x : A) → 1 ≤ length (f x)) → (xs : List A) → length xs ≤ length (flat_map f xs)
several f h [] = omega arith
several f h (x ∷ xs) = omega (arith, h x, several f h xs, length-append (f x) (flat_map f xs))

effects_long : (es : List Effect) → length es ≤ length (flat_map effect_bytes es)
effects_long es = several effect_bytes each es
  where
    each : (e : Effect) → 1 ≤ length (effect_bytes e)
    each (read c v) = omega arith
    each (set c v) = omega arith
    each (add c n) = omega arith

names_long : (ts : List TxName) → length ts ≤ length (flat_map name_bytes ts)
unfolding name_bytes
names_long ts = several name_bytes (λ t. omega arith) ts

-- the parts of a short body have counts
effects_fit : (es : List Effect) (n : ℕ) → length (effects_bytes es) ≤ n → n < 2 ^ 32 → list_all is_shallow_effect es ≡ true → AllByRecursion IsTypedEffect es → FitsList EffectFits es
effects_fit es n within low shallow h =
    (omega (arith, effects_long es, within, low), effects_typed es n (omega (arith, within)) low shallow h)

names_fit : (ts : List TxName) (n : ℕ) → length (names_bytes ts) ≤ n → n < 2 ^ 32 → AllByRecursion NameFits ts → FitsList NameFits ts
names_fit ts n within low h = (omega (arith, names_long ts, within, low), h)

-- pages that go are such as stand
numbers_long : (ns : List ℕ) → length ns ≤ length (flat_map u64_bytes ns)
numbers_long ns = several u64_bytes (λ n. omega arith) ns

each_number : (ns : List ℕ) → ((n : ℕ) → is_one n ns ≡ true → n < numbers_end) → AllByRecursion IsNumber ns
each_number [] h = tt
each_number (n ∷ ns) h =
    (h n (let test : (n == n) ≡ true = grind (arith, nat_tests) in ap (λ (t : Bool). if t then true else is_one n ns) test), each_number ns (λ m there. h m (later m there)))
  where
    later : (m : ℕ) → is_one m ns ≡ true → (if n == m then true else is_one m ns) ≡ true
    later m e = by_test (n == m) e
      where
        by_test : (t : Bool) → is_one m ns ≡ true → (if t then true else is_one m ns) ≡ true
        by_test true e = refl
        by_test false e = e

numbers_fit : (b : Book) (k m : ℕ) → IsOrderly b → b.drawn ≤ numbers_end → HasPage b.instances k m → (gone : List ℕ) → CanGo b.instances k gone
    → (n : ℕ) → length (list_bytes u64_bytes gone) ≤ n → n < 2 ^ 32 → FitsList IsNumber gone
numbers_fit b k m g drawn (p, at) gone can n within low = (
  omega (arith, numbers_long gone, within, low),
  each_number gone (λ x there.
      let i = at.instance in
      let page = used_there i x (g.instances.kept k i at.found) (can i at.found x there) in
      (below b k x g drawn (page.0, record { instance = i; found = at.found; shown = page.1 })).1),
)

-- how long the parts of a page are
pub record Lengths (p : Page) : Type 0 where
  pub effects : length (effects_bytes p.effects) ≤ length (page_bytes p)
  pub left : length (names_bytes p.left) ≤ length (page_bytes p)
  pub evicted : length (list_bytes u64_bytes p.evicted) ≤ length (page_bytes p)
  pub state : length p.state ≤ length (page_bytes p)

pub page_long : (p : Page) → Lengths p
page_long p =
    let seven = list_bytes u64_bytes p.evicted ++ byte_string p.state in
    let six = u64_bytes p.deadline ++ seven in
    let five = send_byte p.kind ∷ [] ++ six in
    let four = names_bytes p.left ++ five in
    let three = effects_bytes p.effects ++ four in
    let two = origin_bytes p.origin ++ three in
    let one = u64_bytes p.nonce ++ two in
    let a = length-append (u64_bytes p.ticket) one in
    let b = length-append (u64_bytes p.nonce) two in
    let c = length-append (origin_bytes p.origin) three in
    let d = length-append (effects_bytes p.effects) four in
    let e = length-append (names_bytes p.left) five in
    let f = length-append (send_byte p.kind ∷ []) six in
    let g = length-append (u64_bytes p.deadline) seven in
    let i = length-append (list_bytes u64_bytes p.evicted) (byte_string p.state) in
    let h = length-append (u32_bytes (length p.state)) p.state in
    record {
      effects = omega (arith, a, b, c, d);
      left = omega (arith, a, b, c, d, e);
      evicted = omega (arith, a, b, c, d, e, f, g, i);
      state = omega (arith, a, b, c, d, e, f, g, h, i);
    }

-- and how long the answer of a page is
answer_long : (x : Extension) (state : List ℕ) → length (value_bytes x.answer) ≤ length (page_bytes (extension_page x state))
answer_long x state =
    let p = extension_page x state in
    let three = effects_bytes p.effects ++ (names_bytes p.left ++ (send_byte p.kind ∷ [] ++ (u64_bytes p.deadline ++ (list_bytes u64_bytes p.evicted ++ byte_string p.state)))) in
    let two = origin_bytes p.origin ++ three in
    let a = length-append (u64_bytes p.ticket) (u64_bytes p.nonce ++ two) in
    let b = length-append (u64_bytes p.nonce) two in
    let c = length-append (origin_bytes p.origin) three in
    let d = length-append (u64_bytes x.instance) (u64_bytes x.page ++ value_bytes x.answer) in
    let e = length-append (u64_bytes x.page) (value_bytes x.answer) in
    omega (arith, a, b, c, d, e)

ending_long : (x : Ending)
    → (length (effects_bytes x.effects) ≤ length (ending_bytes x))
    × (length (names_bytes x.left) ≤ length (ending_bytes x))
    × (length (value_bytes x.answer) ≤ length (ending_bytes x))
ending_long x =
    let four = effects_bytes x.effects ++ names_bytes x.left in
    let three = value_bytes x.answer ++ four in
    let two = u64_bytes x.page ++ three in
    let one = u64_bytes x.instance ++ two in
    let a = length-append (u64_bytes x.number) one in
    let b = length-append (u64_bytes x.instance) two in
    let c = length-append (u64_bytes x.page) three in
    let d = length-append (value_bytes x.answer) four in
    let e = length-append (effects_bytes x.effects) (names_bytes x.left) in
    (omega (arith, a, b, c, d, e), omega (arith, a, b, c, d, e), omega (arith, a, b, c, d, e))

finish_long : (f : Finish)
    → (length (effects_bytes f.effects) ≤ length (finish_bytes f)) × (length (value_bytes f.answer) ≤ length (finish_bytes f))
finish_long f =
    let three = value_bytes f.answer ++ effects_bytes f.effects in
    let two = u64_bytes f.page ++ three in
    let one = u64_bytes f.instance ++ two in
    let a = length-append (u64_bytes f.number) one in
    let b = length-append (u64_bytes f.instance) two in
    let c = length-append (u64_bytes f.page) three in
    let d = length-append (value_bytes f.answer) (effects_bytes f.effects) in
    (omega (arith, a, b, c, d), omega (arith, a, b, c, d))

-- the state in a short record is short
pub state_low : (c : Change) (state : List ℕ) → IsToldWith c (Some state) → IsShort c (Some state) → length state ≤ 1048576
state_low (opens o) state with brief = let long = (page_long (opening_page o state)).state in omega (arith, long, brief.low)
state_low (extends x) state with brief = let long = (page_long (extension_page x state)).state in omega (arith, long, brief.low)
state_low (ends e) state with brief = absurd with
state_low (finishes f) state with brief = absurd with
state_low (sweeps tick) state with brief = absurd with

-- a short record of a change that may land on the book is in the grammar
module _ (b : Book) (g : IsOrderly b) (range : IsInRange b) (few : length b.scripts ≤ 256) (k : ℕ) (out : Contains b.out k) where
  number_fits : (n : ℕ) → n ≡ k → n < numbers_end
  number_fits n is = let low = g.below k (among_of b.out k out) in omega (arith, is, low, range.drawn)

  pub in_grammar : (c : Change) (state : Option (List ℕ)) → IsOf k c → IsOrderlyChange b.clock b.instances c → has_script (length b.scripts) c ≡ true → TellsInRange c
      → IsToldWith c state → IsShort c state → PartsFit c → ChangeFits c state
  in_grammar (opens o) None is orderly script tells with brief parts = absurd (let none = brief.has in let no : ⊥ = cc in no)
  in_grammar (opens o) (Some state) is orderly script tells with brief parts =
      let p = opening_page o state in
      let long = page_long p in
      record {
        ticket = number_fits o.number is;
        nonce = tells.0;
        origin = let within : o.script < length b.scripts = grind (arith, nat_tests, script) in omega (arith, within, few);
        effects = effects_fit o.effects (length (page_bytes p)) long.effects (omega (arith, brief.low)) brief.shallow parts.0;
        left = names_fit o.left (length (page_bytes p)) long.left (omega (arith, brief.low)) parts.1;
        time = tells.1;
        evicted = subst (FitsList IsNumber) (sym tells.2) (omega arith, tt);
        state = omega (arith, long.state, brief.low);
      }
  in_grammar (extends x) None is orderly script tells with brief parts = absurd (let none = brief.has in let no : ⊥ = cc in no)
  in_grammar (extends x) (Some state) is orderly script tells with brief parts =
      let p = extension_page x state in
      let long = page_long p in
      let shallow = and_parts (is_shallow x.answer) (list_all is_shallow_effect x.effects) brief.shallow in
      let numbers = below b x.instance x.page g range.drawn orderly.0 in
      record {
        ticket = number_fits x.number is;
        nonce = tells.0;
        origin = record { instance = numbers.0; page = numbers.1; answer = value_fits x.answer (omega (arith, answer_long x state, brief.low)) shallow.0 parts.0 };
        effects = effects_fit x.effects (length (page_bytes p)) long.effects (omega (arith, brief.low)) shallow.1 parts.1;
        left = names_fit x.left (length (page_bytes p)) long.left (omega (arith, brief.low)) parts.2;
        time = tells.1;
        evicted = numbers_fit b x.instance x.page g range.drawn orderly.0 x.evicted orderly.1 (length (page_bytes p)) long.evicted (omega (arith, brief.low));
        state = omega (arith, long.state, brief.low);
      }
  in_grammar (ends e) (Some state) is orderly script tells with brief parts = absurd with
  in_grammar (ends e) None is orderly script tells with brief parts =
      let long = ending_long e in
      let shallow = and_parts (is_shallow e.answer) (list_all is_shallow_effect e.effects) brief.shallow in
      let numbers = below b e.instance e.page g range.drawn orderly in
      record {
        ticket = number_fits e.number is;
        answered = record { instance = numbers.0; page = numbers.1; answer = value_fits e.answer (omega (arith, long.2, brief.low)) shallow.0 parts.0 };
        effects = effects_fit e.effects (length (ending_bytes e)) long.0 (omega (arith, brief.low)) shallow.1 parts.1;
        left = names_fit e.left (length (ending_bytes e)) long.1 (omega (arith, brief.low)) parts.2;
      }
  in_grammar (finishes f) (Some state) is orderly script tells with brief parts = absurd with
  in_grammar (finishes f) None is orderly script tells with brief parts =
      let long = finish_long f in
      let shallow = and_parts (is_shallow f.answer) (list_all is_shallow_effect f.effects) brief.shallow in
      let numbers = below b f.instance f.page g range.drawn orderly in
      record {
        ticket = number_fits f.number is;
        answered = record { instance = numbers.0; page = numbers.1; answer = value_fits f.answer (omega (arith, long.1, brief.low)) shallow.0 parts.0 };
        effects = effects_fit f.effects (length (finish_bytes f)) long.0 (omega (arith, brief.low)) shallow.1 parts.1;
      }
  in_grammar (sweeps tick) state is orderly script tells with brief parts = absurd is
