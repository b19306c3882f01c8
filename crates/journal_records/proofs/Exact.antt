-- Records are spelled exactly.
use Rattle.std.proofs.Common.{◌≡◌, ℕ, ◌+◌, ◌<◌, ◌^◌, ◌==◌, true, List, [], ◌∷◌, ◌++◌, length, Option, Some, None, if◌then◌else◌, refl, sym, ap, subst, ◌∙◌, arith, inl, inr, lit≤}
use Rattle.std.proofs.lemmas.Bool.Decides.{nat_tests}
use Rattle.std.proofs.lemmas.List.{append-nil}
use Rattle.std.proofs.lemmas.Option.{cond_some, some_pair_parts, none-some}
use Rattle.script_value.specs.Pieces.{◌>>=◌}
use Rattle.script_value.specs.Val.{Val, number, truth, text, symbol, list, no_vals, val}
use Rattle.script_value.specs.declared.outcome.TxName.{TxName}
use Rattle.instance_cells.specs.Cells.{Effect, read, set, add}
use Rattle.script_nodes.specs.declared.script.SendKind.{SendKind}
use Rattle.script_nodes.specs.declared.script.SendKind.TheVariants.{Suspend, Forward}
use Rattle.replay_spec.specs.Book.{opens, extends, ends, finishes, sweeps}
use Rattle.wire_bytes.specs.Spelling.{u32_bytes, u64_bytes, byte_string}
use Rattle.wire_bytes.specs.Reading.{read_u8, read_u32, read_u64, read_bytes}
use Rattle.value_bytes.specs.Spelling.{value_bytes, HasBytes, most_levels}
use Rattle.value_bytes.specs.Reading.{seen_as, read_i64, read_value}
use Rattle.value_bytes.specs.Laws.{AreBytes, Spells, IsExact}
use Rattle.value_bytes.proofs.Numbers.{bind_some, seen_some, rest_are_bytes, u32_exact, u64_exact, i64_exact, string_exact}
use Rattle.value_bytes.proofs.Trees.{value_exact, chosen}
use Rattle.journal_records.specs.Fields.{name_bytes, NameFits, effect_bytes, EffectFits, send_byte, Origin, start, answered, nothing, origin_bytes, OriginFits, numbers_end, deadlines_end}
use Rattle.journal_records.specs.Records.{Page, Record, begins, changes, renews, draws, follows, promotes, page_bytes, PageFits, ending_bytes, EndingFits, finish_bytes, FinishFits, change_bytes, ChangeFits, body_of, IsInGrammar}
use Rattle.journal_records.specs.Reading.{name_from, read_name, read_effect_of, read_effect, send_of, read_send, is_nothing, read_nothing, start_from, answered_from, read_origin_of, read_origin, page_from, read_page, ending_from, read_ending, finish_from, read_finish, begins_from, read_begins, stateless, page_change, change_from, read_kind, read_front, alone, read_record}
use Rattle.journal_records.specs.Laws.{IsBodyOf}
use Rattle.journal_records.proofs.Codec.{Codec, both, listed, IsSeen, seen_exact, byte_codec, below_codec}

-- ---- numbers, values and names

abbrev pub number_codec : Codec ℕ
number_codec = below_codec numbers_end (lit≤ tt)

abbrev pub deadline_codec : Codec ℕ
deadline_codec = below_codec deadlines_end (lit≤ tt)

abbrev short_codec : Codec ℕ
short_codec = record { spelled = u32_bytes; fits = λ n. n < 2 ^ 32; read = read_u32; law = u32_exact }

abbrev pub long_codec : Codec ℕ
long_codec = record { spelled = u64_bytes; fits = λ n. n < 2 ^ 64; read = read_u64; law = u64_exact }

abbrev pub string_codec : Codec (List ℕ)
string_codec = record { spelled = byte_string; fits = λ t. length t < 2 ^ 32; read = read_bytes; law = string_exact }

abbrev value_codec : Codec Val
value_codec = record { spelled = value_bytes; fits = HasBytes; read = read_value; law = value_exact most_levels }

pub name_seen : IsSeen (both long_codec short_codec) name_from name_bytes NameFits
unfolding name_bytes
name_seen = record {
  from = λ t. (t.ticket, t.entry);
  there = λ x. refl;
  here = λ t. refl;
  bytes = λ t. refl;
  fit = λ t f. (f.ticket, f.entry);
  fitted = λ x f. record { ticket = f.0; entry = f.1 };
}

abbrev pub name_codec : Codec TxName
name_codec = record {
  spelled = name_bytes;
  fits = NameFits;
  read = read_name;
  law = seen_exact (both long_codec short_codec) name_from name_bytes NameFits name_seen;
}

-- ---- effects

pub effect_back : (e : Effect) (rest : List ℕ) → EffectFits e → read_effect (effect_bytes e ++ rest) ≡ Some (e, rest)
effect_back (read c v) rest fits = ap (seen_as (read c)) (value_codec.law.back v rest fits.1)
effect_back (set c v) rest fits = ap (seen_as (set c)) (value_codec.law.back v rest fits.1)
effect_back (add c n) rest fits = ap (seen_as (add c)) (i64_exact.back n rest fits.1)

-- after the kind and the cell
effect_spells : (kind c : ℕ) (bytes : List ℕ) (e : Effect) (rest : List ℕ) → AreBytes bytes → c < 256 → read_effect_of kind c bytes ≡ Some (e, rest)
    → Spells effect_bytes EffectFits (kind ∷ c ∷ bytes) e rest
effect_spells kind c bytes e rest small below h =
    elim (chosen (kind == 0) _ _ _ h) [
      | inl t ↦
          let k : kind ≡ 0 = grind (arith, nat_tests, t.0) in
          let s = seen_some (read c) (read_value bytes) e rest t.1 in
          let x = value_codec.law.exact bytes s.0 rest small s.1 in
          subst (λ f. Spells effect_bytes EffectFits (kind ∷ c ∷ bytes) f rest) s.2
          (record { whole = λ i. k i ∷ c ∷ x.whole i; fit = (below, x.fit) })
      | inr n ↦ elim (chosen (kind == 1) _ _ _ n.1) [
        | inl t ↦
            let k : kind ≡ 1 = grind (arith, nat_tests, t.0) in
            let s = seen_some (set c) (read_value bytes) e rest t.1 in
            let x = value_codec.law.exact bytes s.0 rest small s.1 in
            subst (λ f. Spells effect_bytes EffectFits (kind ∷ c ∷ bytes) f rest) s.2
            (record { whole = λ i. k i ∷ c ∷ x.whole i; fit = (below, x.fit) })
        | inr n ↦ elim (chosen (kind == 2) _ _ _ n.1) [
          | inl t ↦
              let k : kind ≡ 2 = grind (arith, nat_tests, t.0) in
              let s = seen_some (add c) (read_i64 bytes) e rest t.1 in
              let x = i64_exact.exact bytes s.0 rest small s.1 in
              subst (λ f. Spells effect_bytes EffectFits (kind ∷ c ∷ bytes) f rest) s.2
              (record { whole = λ i. k i ∷ c ∷ x.whole i; fit = (below, x.fit) })
          | inr n ↦ absurd (none-some (e, rest) n.1)
        ]
      ]
    ]

pub effect_exact : (bytes : List ℕ) (e : Effect) (rest : List ℕ) → AreBytes bytes → read_effect bytes ≡ Some (e, rest)
    → Spells effect_bytes EffectFits bytes e rest
effect_exact bytes e rest small h =
    let kind = bind_some (read_u8 bytes) (λ k. (read_u8 k.1 >>= λ c. read_effect_of k.0 c.0 c.1)) (e, rest) h in
    let k = byte_codec.law.exact bytes kind.0.0 kind.0.1 small kind.1 in
    let behind = rest_are_bytes bytes (kind.0.0 ∷ []) kind.0.1 k.whole small in
    let cell = bind_some (read_u8 kind.0.1) (λ c. read_effect_of kind.0.0 c.0 c.1) (e, rest) kind.2 in
    let c = byte_codec.law.exact kind.0.1 cell.0.0 cell.0.1 behind cell.1 in
    let s = effect_spells kind.0.0 cell.0.0 cell.0.1 e rest (rest_are_bytes kind.0.1 (cell.0.0 ∷ []) cell.0.1 c.whole behind) c.fit cell.2 in
    record { whole = k.whole ∙ ap (λ (r : List ℕ). kind.0.0 ∷ r) c.whole ∙ s.whole; fit = s.fit }

abbrev pub effect_codec : Codec Effect
effect_codec = record {
  spelled = effect_bytes;
  fits = EffectFits;
  read = read_effect;
  law = record { back = effect_back; exact = effect_exact };
}

-- ---- kinds of a send

pub send_back : (k : SendKind) (rest : List ℕ) → read_send (send_byte k ∷ rest) ≡ Some (k, rest)
send_back Suspend rest = refl
send_back Forward rest = refl

same_kind : (j k : SendKind) → Some j ≡ Some k → j ≡ k
same_kind j k e = cc

send_is : (b : ℕ) (k : SendKind) → send_of b ≡ Some k → b ≡ send_byte k
send_is b k e =
    elim (chosen (b == 0) _ _ _ e) [
      | inl t ↦ subst (λ j. b ≡ send_byte j) (same_kind Suspend k t.1) (grind (arith, nat_tests, t.0))
      | inr n ↦ elim (chosen (b == 1) _ _ _ n.1) [
        | inl t ↦ subst (λ j. b ≡ send_byte j) (same_kind Forward k t.1) (grind (arith, nat_tests, t.0))
        | inr n ↦ absurd (none-some k n.1)
      ]
    ]

pub send_exact : (bytes : List ℕ) (k : SendKind) (rest : List ℕ) → AreBytes bytes → read_send bytes ≡ Some (k, rest)
    → Spells (λ j. send_byte j ∷ []) (λ j. Unit {0}) bytes k rest
send_exact bytes k rest small h =
    let b = bind_some (read_u8 bytes) (λ x. (send_of x.0 >>= λ s. Some (s, x.1))) (k, rest) h in
    let c = byte_codec.law.exact bytes b.0.0 b.0.1 small b.1 in
    let s = bind_some (send_of b.0.0) (λ s. Some (s, b.0.1)) (k, rest) b.2 in
    let parts = some_pair_parts s.0 k b.0.1 rest s.2 in
    let is : b.0.0 ≡ send_byte k = send_is b.0.0 s.0 s.1 ∙ ap send_byte parts.0 in
    record { whole = c.whole ∙ (λ i. is i ∷ parts.1 i); fit = tt }

abbrev pub send_codec : Codec SendKind
send_codec = record {
  spelled = λ k. send_byte k ∷ [];
  fits = λ k. Unit {0};
  read = read_send;
  law = record { back = λ k rest fits. send_back k rest; exact = send_exact };
}

-- ---- origins

nothing_is : (v : Val) → is_nothing v ≡ true → v ≡ nothing
nothing_is (number n) e = absurd cc
nothing_is (truth b) e = absurd cc
nothing_is (text t) e = absurd cc
nothing_is (symbol s) e = absurd cc
nothing_is (list no_vals) e = refl
nothing_is (list (val v vs)) e = absurd cc

nothing_has_bytes : HasBytes nothing
nothing_has_bytes = record { deep = lit≤ tt; fits = (lit≤ tt, tt) }

nothing_back : (v : Val) (rest : List ℕ) → v ≡ nothing → read_nothing (value_bytes v ++ rest) ≡ Some (v, rest)
nothing_back v rest e =
    subst (λ w. read_nothing (value_bytes w ++ rest) ≡ Some (w, rest)) (sym e)
    (ap (λ (o : Option (Val × List ℕ)). o >>= λ x. if is_nothing x.0 then Some x else None) (value_codec.law.back nothing rest nothing_has_bytes))

nothing_exact : (bytes : List ℕ) (v : Val) (rest : List ℕ) → AreBytes bytes → read_nothing bytes ≡ Some (v, rest)
    → Spells value_bytes (λ w. w ≡ nothing) bytes v rest
nothing_exact bytes v rest small h =
    let b = bind_some (read_value bytes) (λ x. if is_nothing x.0 then Some x else None) (v, rest) h in
    let g = cond_some (is_nothing b.0.0) b.0 (v, rest) b.2 in
    let x = value_codec.law.exact bytes v rest small (b.1 ∙ ap (λ (p : Val × List ℕ). Some p) g.1) in
    record { whole = x.whole; fit = sym (ap (λ (p : Val × List ℕ). p.0) g.1) ∙ nothing_is b.0.0 g.0 }

abbrev nothing_codec : Codec Val
nothing_codec = record {
  spelled = value_bytes;
  fits = λ v. v ≡ nothing;
  read = read_nothing;
  law = record { back = nothing_back; exact = nothing_exact };
}

abbrev start_codec : Codec (ℕ × Val)
start_codec = both byte_codec nothing_codec

abbrev answer_codec : Codec (ℕ × (ℕ × Val))
answer_codec = both number_codec (both number_codec value_codec)

pub origin_back : (o : Origin) (rest : List ℕ) → OriginFits o → read_origin (origin_bytes o ++ rest) ≡ Some (o, rest)
origin_back (start script) rest fits = ap (seen_as start_from) (start_codec.law.back (script, nothing) rest (fits, refl))
origin_back (answered instance page answer) rest fits =
    ap (seen_as answered_from) (answer_codec.law.back (instance, (page, answer)) rest (fits.instance, (fits.page, fits.answer)))

origin_spells : (kind : ℕ) (bytes : List ℕ) (o : Origin) (rest : List ℕ) → AreBytes bytes → read_origin_of kind bytes ≡ Some (o, rest)
    → Spells origin_bytes OriginFits (kind ∷ bytes) o rest
origin_spells kind bytes o rest small h =
    elim (chosen (kind == 0) _ _ _ h) [
      | inl t ↦
          let k : kind ≡ 0 = grind (arith, nat_tests, t.0) in
          let s = seen_some start_from (start_codec.read bytes) o rest t.1 in
          let x = start_codec.law.exact bytes s.0 rest small s.1 in
          subst (λ p. Spells origin_bytes OriginFits (kind ∷ bytes) p rest) s.2 (record {
            whole = (λ i. k i ∷ x.whole i) ∙ ap (λ v. 0 ∷ s.0.0 ∷ (value_bytes v ++ rest)) x.fit.1;
            fit = x.fit.0;
          })
      | inr n ↦ elim (chosen (kind == 1) _ _ _ n.1) [
        | inl t ↦
            let k : kind ≡ 1 = grind (arith, nat_tests, t.0) in
            let s = seen_some answered_from (answer_codec.read bytes) o rest t.1 in
            let x = answer_codec.law.exact bytes s.0 rest small s.1 in
            subst (λ p. Spells origin_bytes OriginFits (kind ∷ bytes) p rest) s.2 (record {
              whole = λ i. k i ∷ x.whole i;
              fit = record { instance = x.fit.0; page = x.fit.1.0; answer = x.fit.1.1 };
            })
        | inr n ↦ absurd (none-some (o, rest) n.1)
      ]
    ]

pub origin_exact : (bytes : List ℕ) (o : Origin) (rest : List ℕ) → AreBytes bytes → read_origin bytes ≡ Some (o, rest)
    → Spells origin_bytes OriginFits bytes o rest
origin_exact bytes o rest small h =
    let kind = bind_some (read_u8 bytes) (λ k. read_origin_of k.0 k.1) (o, rest) h in
    let k = byte_codec.law.exact bytes kind.0.0 kind.0.1 small kind.1 in
    let s = origin_spells kind.0.0 kind.0.1 o rest (rest_are_bytes bytes (kind.0.0 ∷ []) kind.0.1 k.whole small) kind.2 in
    record { whole = k.whole ∙ s.whole; fit = s.fit }

abbrev pub origin_codec : Codec Origin
origin_codec = record {
  spelled = origin_bytes;
  fits = OriginFits;
  read = read_origin;
  law = record { back = origin_back; exact = origin_exact };
}

-- ---- the fields of each record

abbrev page_parts : Codec (ℕ × (ℕ × (Origin × (List Effect × (List TxName × (SendKind × (ℕ × (List ℕ × List ℕ))))))))
page_parts = both number_codec (both long_codec (both origin_codec (both (listed effect_codec) (both (listed name_codec) (both send_codec (both deadline_codec (both (listed number_codec) string_codec)))))))

page_seen : IsSeen page_parts page_from page_bytes PageFits
page_seen = record {
  from = λ p. (p.ticket, (p.nonce, (p.origin, (p.effects, (p.left, (p.kind, (p.deadline, (p.evicted, p.state))))))));
  there = λ x. refl;
  here = λ p. refl;
  bytes = λ p. refl;
  fit = λ p f. (f.ticket, (f.nonce, (f.origin, (f.effects, (f.left, (tt, (f.time, (f.evicted, f.state))))))));
  fitted = λ x f. record { ticket = f.0; nonce = f.1.0; origin = f.1.1.0; effects = f.1.1.1.0; left = f.1.1.1.1.0; time = f.1.1.1.1.1.1.0; evicted = f.1.1.1.1.1.1.1.0; state = f.1.1.1.1.1.1.1.1 };
}

page_exact : IsExact page_bytes PageFits read_page
page_exact = seen_exact page_parts page_from page_bytes PageFits page_seen

abbrev ending_parts : Codec (ℕ × (ℕ × (ℕ × (Val × (List Effect × List TxName)))))
ending_parts = both number_codec (both number_codec (both number_codec (both value_codec (both (listed effect_codec) (listed name_codec)))))

ending_seen : IsSeen ending_parts ending_from ending_bytes EndingFits
ending_seen = record {
  from = λ e. (e.number, (e.instance, (e.page, (e.answer, (e.effects, e.left)))));
  there = λ x. refl;
  here = λ e. refl;
  bytes = λ e. refl;
  fit = λ e f. (f.ticket, (f.answered.instance, (f.answered.page, (f.answered.answer, (f.effects, f.left)))));
  fitted = λ x f. record {
    ticket = f.0;
    answered = record { instance = f.1.0; page = f.1.1.0; answer = f.1.1.1.0 };
    effects = f.1.1.1.1.0;
    left = f.1.1.1.1.1;
  };
}

ending_exact : IsExact ending_bytes EndingFits read_ending
ending_exact = seen_exact ending_parts ending_from ending_bytes EndingFits ending_seen

abbrev finish_parts : Codec (ℕ × (ℕ × (ℕ × (Val × List Effect))))
finish_parts = both number_codec (both number_codec (both number_codec (both value_codec (listed effect_codec))))

finish_seen : IsSeen finish_parts finish_from finish_bytes FinishFits
finish_seen = record {
  from = λ f. (f.number, (f.instance, (f.page, (f.answer, f.effects))));
  there = λ x. refl;
  here = λ f. refl;
  bytes = λ f. refl;
  fit = λ e f. (f.ticket, (f.answered.instance, (f.answered.page, (f.answered.answer, f.effects))));
  fitted = λ x f. record {
    ticket = f.0;
    answered = record { instance = f.1.0; page = f.1.1.0; answer = f.1.1.1.0 };
    effects = f.1.1.1.1;
  };
}

finish_exact : IsExact finish_bytes FinishFits read_finish
finish_exact = seen_exact finish_parts finish_from finish_bytes FinishFits finish_seen

abbrev renews_parts : Codec (List (List ℕ × List ℕ))
renews_parts = listed (both string_codec string_codec)

abbrev drawn_codec : Codec ℕ
drawn_codec = below_codec (numbers_end + 1) (lit≤ tt)

abbrev begins_parts : Codec (ℕ × List (List ℕ × List ℕ))
begins_parts = both short_codec (listed (both string_codec string_codec))

-- ---- a record

-- the change that a page makes is written as the page
pub page_told : (o : Origin) (p : Page) → change_bytes (change_from o (stateless p)) p.state ≡ 2 ∷ page_bytes (record p { origin = o })
page_told (start script) p = refl
page_told (answered instance page answer) p = refl

pub page_fits : (o : Origin) (p : Page) → PageFits (record p { origin = o }) → ChangeFits (change_from o (stateless p)) (Some p.state)
page_fits (start script) p fits = fits
page_fits (answered instance page answer) p fits = fits

front_back : (r : Record) (rest : List ℕ) → IsInGrammar r → read_front (body_of r ++ rest) ≡ Some (r, rest)
front_back (begins shelf scripts) rest fits = ap (seen_as begins_from) (begins_parts.law.back (shelf, scripts) rest fits)
front_back (renews scripts) rest fits = ap (seen_as (λ s. renews s)) (renews_parts.law.back scripts rest fits)
front_back (draws n) rest fits = ap (seen_as (λ n. draws n)) (drawn_codec.law.back n rest fits)
front_back follows rest fits = refl
front_back promotes rest fits = refl
front_back (changes (opens o) None) rest fits = absurd fits
front_back (changes (opens o) (Some s)) rest fits = ap (seen_as (λ p. changes (page_change p) (Some p.state))) (page_exact.back _ rest fits)
front_back (changes (extends e) None) rest fits = absurd fits
front_back (changes (extends e) (Some s)) rest fits = ap (seen_as (λ p. changes (page_change p) (Some p.state))) (page_exact.back _ rest fits)
front_back (changes (ends e) None) rest fits = ap (seen_as (λ e. changes (ends e) None)) (ending_exact.back e rest fits)
front_back (changes (ends e) (Some s)) rest fits = absurd fits
front_back (changes (finishes f) None) rest fits = ap (seen_as (λ f. changes (finishes f) None)) (finish_exact.back f rest fits)
front_back (changes (finishes f) (Some s)) rest fits = absurd fits
front_back (changes (sweeps tick) None) rest fits = ap (seen_as (λ n. changes (sweeps n) None)) (number_codec.law.back tick rest fits)
front_back (changes (sweeps tick) (Some s)) rest fits = absurd fits

abbrev Body : List ℕ → Record → List ℕ → Type 0
Body bytes r rest = Spells body_of IsInGrammar bytes r rest

begins_spells : (kind : ℕ) (bytes : List ℕ) (r : Record) (rest : List ℕ) → AreBytes bytes → kind ≡ 1 → read_begins bytes ≡ Some (r, rest) → Body (kind ∷ bytes) r rest
begins_spells kind bytes r rest small k h =
    let s = seen_some begins_from (begins_parts.read bytes) r rest h in
    let x = begins_parts.law.exact bytes s.0 rest small s.1 in
    subst (λ q. Body (kind ∷ bytes) q rest) s.2 (record { whole = λ i. k i ∷ x.whole i; fit = x.fit })

page_spells : (kind : ℕ) (bytes : List ℕ) (r : Record) (rest : List ℕ) → AreBytes bytes → kind ≡ 2 → seen_as (λ p. changes (page_change p) (Some p.state)) (read_page bytes) ≡ Some (r, rest)
    → Body (kind ∷ bytes) r rest
page_spells kind bytes r rest small k h =
    let s = seen_some (λ p. changes (page_change p) (Some p.state)) (read_page bytes) r rest h in
    let p = s.0 in
    let x = page_exact.exact bytes p rest small s.1 in
    subst (λ q. Body (kind ∷ bytes) q rest) s.2 (record {
      whole = (λ i. k i ∷ x.whole i) ∙ ap (λ (b : List ℕ). b ++ rest) (sym (page_told p.origin p));
      fit = page_fits p.origin p x.fit;
    })

ending_spells : (kind : ℕ) (bytes : List ℕ) (r : Record) (rest : List ℕ) → AreBytes bytes → kind ≡ 3 → seen_as (λ e. changes (ends e) None) (read_ending bytes) ≡ Some (r, rest)
    → Body (kind ∷ bytes) r rest
ending_spells kind bytes r rest small k h =
    let s = seen_some (λ e. changes (ends e) None) (read_ending bytes) r rest h in
    let x = ending_exact.exact bytes s.0 rest small s.1 in
    subst (λ q. Body (kind ∷ bytes) q rest) s.2 (record { whole = λ i. k i ∷ x.whole i; fit = x.fit })

finish_spells : (kind : ℕ) (bytes : List ℕ) (r : Record) (rest : List ℕ) → AreBytes bytes → kind ≡ 4 → seen_as (λ f. changes (finishes f) None) (read_finish bytes) ≡ Some (r, rest)
    → Body (kind ∷ bytes) r rest
finish_spells kind bytes r rest small k h =
    let s = seen_some (λ f. changes (finishes f) None) (read_finish bytes) r rest h in
    let x = finish_exact.exact bytes s.0 rest small s.1 in
    subst (λ q. Body (kind ∷ bytes) q rest) s.2 (record { whole = λ i. k i ∷ x.whole i; fit = x.fit })

sweep_spells : (kind : ℕ) (bytes : List ℕ) (r : Record) (rest : List ℕ) → AreBytes bytes → kind ≡ 5
    → seen_as (λ n. changes (sweeps n) None) (number_codec.read bytes) ≡ Some (r, rest) → Body (kind ∷ bytes) r rest
sweep_spells kind bytes r rest small k h =
    let s = seen_some (λ n. changes (sweeps n) None) (number_codec.read bytes) r rest h in
    let x = number_codec.law.exact bytes s.0 rest small s.1 in
    subst (λ q. Body (kind ∷ bytes) q rest) s.2 (record { whole = λ i. k i ∷ x.whole i; fit = x.fit })

renews_spells : (kind : ℕ) (bytes : List ℕ) (r : Record) (rest : List ℕ) → AreBytes bytes → kind ≡ 6 → seen_as (λ s. renews s) (renews_parts.read bytes) ≡ Some (r, rest) → Body (kind ∷ bytes) r rest
renews_spells kind bytes r rest small k h =
    let s = seen_some (λ s. renews s) (renews_parts.read bytes) r rest h in
    let x = renews_parts.law.exact bytes s.0 rest small s.1 in
    subst (λ q. Body (kind ∷ bytes) q rest) s.2 (record { whole = λ i. k i ∷ x.whole i; fit = x.fit })

draws_spells : (kind : ℕ) (bytes : List ℕ) (r : Record) (rest : List ℕ) → AreBytes bytes → kind ≡ 7 → seen_as (λ n. draws n) (drawn_codec.read bytes) ≡ Some (r, rest) → Body (kind ∷ bytes) r rest
draws_spells kind bytes r rest small k h =
    let s = seen_some (λ n. draws n) (drawn_codec.read bytes) r rest h in
    let x = drawn_codec.law.exact bytes s.0 rest small s.1 in
    subst (λ q. Body (kind ∷ bytes) q rest) s.2 (record { whole = λ i. k i ∷ x.whole i; fit = x.fit })

-- a record without fields
bare_spells : (start_byte : ℕ) (bare : Record) → body_of bare ≡ start_byte ∷ [] → IsInGrammar bare
    → (kind : ℕ) (bytes : List ℕ) (r : Record) (rest : List ℕ) → kind ≡ start_byte → ◌≡◌ {A = Option (Record × List ℕ)} (Some (bare, bytes)) (Some (r, rest)) → Body (kind ∷ bytes) r rest
bare_spells start_byte bare spelled fits kind bytes r rest k h =
    let parts = some_pair_parts bare r bytes rest h in
    subst (λ q. Body (kind ∷ bytes) q rest) parts.0 (record {
      whole = (λ i. k i ∷ parts.1 i) ∙ ap (λ (b : List ℕ). b ++ rest) (sym spelled);
      fit = fits;
    })

pub kind_spells : (kind : ℕ) (bytes : List ℕ) (r : Record) (rest : List ℕ) → AreBytes bytes → read_kind kind bytes ≡ Some (r, rest) → Body (kind ∷ bytes) r rest
kind_spells kind bytes r rest small h =
    elim (chosen (kind == 1) _ _ _ h) [
      | inl t ↦ begins_spells kind bytes r rest small (grind (arith, nat_tests, t.0)) t.1
      | inr n ↦ elim (chosen (kind == 2) _ _ _ n.1) [
        | inl t ↦ page_spells kind bytes r rest small (grind (arith, nat_tests, t.0)) t.1
        | inr n ↦ elim (chosen (kind == 3) _ _ _ n.1) [
          | inl t ↦ ending_spells kind bytes r rest small (grind (arith, nat_tests, t.0)) t.1
          | inr n ↦ elim (chosen (kind == 4) _ _ _ n.1) [
            | inl t ↦ finish_spells kind bytes r rest small (grind (arith, nat_tests, t.0)) t.1
            | inr n ↦ elim (chosen (kind == 5) _ _ _ n.1) [
              | inl t ↦ sweep_spells kind bytes r rest small (grind (arith, nat_tests, t.0)) t.1
              | inr n ↦ elim (chosen (kind == 6) _ _ _ n.1) [
                | inl t ↦ renews_spells kind bytes r rest small (grind (arith, nat_tests, t.0)) t.1
                | inr n ↦ elim (chosen (kind == 7) _ _ _ n.1) [
                  | inl t ↦ draws_spells kind bytes r rest small (grind (arith, nat_tests, t.0)) t.1
                  | inr n ↦ elim (chosen (kind == 8) _ _ _ n.1) [
                    | inl t ↦ bare_spells 8 follows refl tt kind bytes r rest (grind (arith, nat_tests, t.0)) t.1
                    | inr n ↦ elim (chosen (kind == 9) _ _ _ n.1) [
                      | inl t ↦ bare_spells 9 promotes refl tt kind bytes r rest (grind (arith, nat_tests, t.0)) t.1
                      | inr n ↦ absurd (none-some (r, rest) n.1)
                    ]
                  ]
                ]
              ]
            ]
          ]
        ]
      ]
    ]

front_spells : (bytes : List ℕ) (r : Record) (rest : List ℕ) → AreBytes bytes → read_front bytes ≡ Some (r, rest) → Body bytes r rest
front_spells bytes r rest small h =
    let kind = bind_some (read_u8 bytes) (λ k. read_kind k.0 k.1) (r, rest) h in
    let k = byte_codec.law.exact bytes kind.0.0 kind.0.1 small kind.1 in
    let s = kind_spells kind.0.0 kind.0.1 r rest (rest_are_bytes bytes (kind.0.0 ∷ []) kind.0.1 k.whole small) kind.2 in
    record { whole = k.whole ∙ s.whole; fit = s.fit }

pub front_exact : IsExact body_of IsInGrammar read_front
front_exact = record { back = front_back; exact = front_spells }

-- ---- a whole body

pub alone_some : {A : Type 0} (o : Option (A × List ℕ)) (x : A) → alone o ≡ Some x → o ≡ Some (x, [])
alone_some None x e = absurd cc
alone_some (Some (y, [])) x e =
    let same : y ≡ x = cc in
    ap (λ z. Some (z, [])) same
alone_some (Some (y, b ∷ bytes)) x e = absurd cc

pub record_back : (r : Record) → IsInGrammar r → read_record (body_of r) ≡ Some r
unfolding read_record
record_back r fits = ap (λ (b : List ℕ). alone (read_front b)) (sym (append-nil (body_of r))) ∙ ap alone (front_back r [] fits)

pub record_spells : (bytes : List ℕ) (r : Record) → AreBytes bytes → read_record bytes ≡ Some r → IsBodyOf bytes r
unfolding read_record
record_spells bytes r small e =
    let s = front_spells bytes r [] small (alone_some (read_front bytes) r e) in
    record { spelled = s.whole ∙ append-nil (body_of r); fits = s.fit }
