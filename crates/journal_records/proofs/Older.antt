-- What is read in any format is such as is written.
use Rattle.std.proofs.Common.{◌≡◌, ℕ, ◌<◌, ◌^◌, ◌==◌, Bool, true, false, List, [], ◌∷◌, length, Some, None, nat_lt, if◌then◌else◌, refl, sym, ap, subst, ◌∙◌, inl, inr, lit≤}
use Rattle.std.proofs.lemmas.List.{append-nil}
use Rattle.std.proofs.lemmas.Option.{some_pair_parts, none-some}
use Rattle.wire_bytes.specs.Reading.{read_u8, read_bytes}
use Rattle.value_bytes.specs.Reading.{Reader, seen_as, read_list}
use Rattle.value_bytes.specs.Laws.{AreBytes, Spells}
use Rattle.value_bytes.proofs.Numbers.{bind_some, seen_some, rest_are_bytes}
use Rattle.value_bytes.proofs.Trees.{chosen}
use Rattle.journal_records.specs.Fields.{Origin, start, answered}
use Rattle.journal_records.specs.Records.{Page, PageFits, Record, changes, body_of, IsInGrammar}
use Rattle.journal_records.specs.Reading.{read_number, read_page_with, PageParts, page_from, stateless, change_from, page_change, alone, read_record}
use Rattle.journal_records.specs.Old.{read_page_in, read_shown, lacks, is_older_page, read_kind_in, read_front_in, read_record_in}
use Rattle.journal_records.specs.Laws.{TellsNoPage, IsBodyOf}
use Rattle.journal_records.proofs.Codec.{Codec, both, listed, byte_codec}
use Rattle.journal_records.proofs.Exact.{number_codec, long_codec, origin_codec, effect_codec, name_codec, send_codec, deadline_codec, string_codec, page_fits, kind_spells, alone_some}

-- ---- what a format does not tell

-- reads nothing
abbrev read_none : Reader (List ℕ)
read_none bytes = Some ([], bytes)

none_exact : (bytes xs rest : List ℕ) → read_none bytes ≡ Some (xs, rest) → Spells (λ ys. []) (λ ys. ys ≡ []) bytes xs rest
none_exact bytes xs rest e =
    let parts = some_pair_parts [] xs bytes rest e in
    record { whole = parts.1; fit = sym parts.0 }

none_back : (xs rest : List ℕ) → xs ≡ [] → read_none rest ≡ Some (xs, rest)
none_back xs rest is =
    let back : read_none rest ≡ Some (xs, rest) = (λ i. Some (sym is i, rest)) in
    back

-- nothing, which tells that there is nothing
abbrev none_codec : Codec (List ℕ)
none_codec = record {
  spelled = λ xs. [];
  fits = λ xs. xs ≡ [];
  read = read_none;
  law = record { back = none_back; exact = λ bytes xs rest small e. none_exact bytes xs rest e };
}

-- ---- a page

-- a page whose last two fields are read so
abbrev parts_with : (gone state : Codec (List ℕ)) → Codec PageParts
parts_with gone state =
    both number_codec (both long_codec (both origin_codec (both (listed effect_codec) (both (listed name_codec) (both send_codec (both deadline_codec (both gone state)))))))

-- where what fits the last two fields can be written, so can the page
fitting_page : (gone state : Codec (List ℕ)) → ((xs : List ℕ) → gone.fits xs → (listed number_codec).fits xs) → ((xs : List ℕ) → state.fits xs → length xs < 2 ^ 32)
    → (x : PageParts) → (parts_with gone state).fits x → PageFits (page_from x)
fitting_page gone state f g x fits = record {
  ticket = fits.0;
  nonce = fits.1.0;
  origin = fits.1.1.0;
  effects = fits.1.1.1.0;
  left = fits.1.1.1.1.0;
  time = fits.1.1.1.1.1.1.0;
  evicted = f x.1.1.1.1.1.1.1.0 fits.1.1.1.1.1.1.1.0;
  state = g x.1.1.1.1.1.1.1.1 fits.1.1.1.1.1.1.1.1;
}

fitting_parts : (gone state : Codec (List ℕ)) → ((xs : List ℕ) → gone.fits xs → (listed number_codec).fits xs) → ((xs : List ℕ) → state.fits xs → length xs < 2 ^ 32)
    → (bytes : List ℕ) (p : Page) (rest : List ℕ) → AreBytes bytes → seen_as page_from ((parts_with gone state).read bytes) ≡ Some (p, rest) → PageFits p
fitting_parts gone state f g bytes p rest small e =
    let s = seen_some page_from ((parts_with gone state).read bytes) p rest e in
    let x = (parts_with gone state).law.exact bytes s.0 rest small s.1 in
    subst PageFits s.2 (fitting_page gone state f g s.0 x.fit)

no_pages : (xs : List ℕ) → xs ≡ [] → (listed number_codec).fits xs
no_pages xs is = subst (listed number_codec).fits (sym is) (lit≤ tt, tt)

no_bytes : (xs : List ℕ) → xs ≡ [] → length xs < 2 ^ 32
no_bytes xs is = subst (λ (ys : List ℕ). length ys < 2 ^ 32) (sym is) (lit≤ tt)

-- reads the pages that went, where a format tells them
abbrev gone_by : (untold : Bool) → Reader (List ℕ)
gone_by untold bytes = if untold then Some ([], bytes) else read_list read_number bytes

-- reads the bytes of a state, where a format tells them
abbrev state_by : (bare : Bool) → Reader (List ℕ)
state_by bare bytes = if bare then Some ([], bytes) else read_bytes bytes

-- how a page is read whose last two fields are told or not
abbrev page_by : (untold bare : Bool) → Reader Page
page_by untold bare bytes = read_page_with (gone_by untold) (state_by bare) bytes

page_by_fits : (untold bare : Bool) (bytes : List ℕ) (p : Page) (rest : List ℕ) → AreBytes bytes → page_by untold bare bytes ≡ Some (p, rest) → PageFits p
page_by_fits true true bytes p rest small e = fitting_parts none_codec none_codec no_pages no_bytes bytes p rest small e
page_by_fits true false bytes p rest small e = fitting_parts none_codec string_codec no_pages (λ xs fits. fits) bytes p rest small e
page_by_fits false true bytes p rest small e = fitting_parts (listed number_codec) none_codec (λ xs fits. fits) no_bytes bytes p rest small e
page_by_fits false false bytes p rest small e = fitting_parts (listed number_codec) string_codec (λ xs fits. fits) (λ xs fits. fits) bytes p rest small e

page_in : (format : ℕ) (bytes : List ℕ) (p : Page) (rest : List ℕ) → AreBytes bytes → read_page_in format bytes ≡ Some (p, rest) → PageFits p
page_in format bytes p rest small e = page_by_fits (nat_lt format 6) (format == 1) bytes p rest small e

-- ---- a record

shown_fits : (format : ℕ) (bytes : List ℕ) (r : Record) (rest : List ℕ) → AreBytes bytes → read_shown format bytes ≡ Some (r, rest) → IsInGrammar r
shown_fits format bytes r rest small e =
    let s = seen_some (λ p. changes (page_change p) (Some p.state)) (read_page_in format bytes) r rest e in
    let p = s.0 in
    subst IsInGrammar s.2 (page_fits p.origin p (page_in format bytes p rest small s.1))

kind_fits : (format kind : ℕ) (bytes : List ℕ) (r : Record) (rest : List ℕ) → AreBytes bytes → read_kind_in format kind bytes ≡ Some (r, rest) → IsInGrammar r
kind_fits format kind bytes r rest small e =
    elim (chosen (lacks format kind) _ _ _ e) [
      | inl t ↦ absurd (none-some (r, rest) t.1)
      | inr n ↦ elim (chosen (is_older_page format kind) _ _ _ n.1) [
        | inl t ↦ shown_fits format bytes r rest small t.1
        | inr n ↦ (kind_spells kind bytes r rest small n.1).fit
      ]
    ]

front_fits : (format : ℕ) (bytes : List ℕ) (r : Record) (rest : List ℕ) → AreBytes bytes → read_front_in format bytes ≡ Some (r, rest) → IsInGrammar r
front_fits format bytes r rest small e =
    let kind = bind_some (read_u8 bytes) (λ k. read_kind_in format k.0 k.1) (r, rest) e in
    let k = byte_codec.law.exact bytes kind.0.0 kind.0.1 small kind.1 in
    kind_fits format kind.0.0 kind.0.1 r rest (rest_are_bytes bytes (kind.0.0 ∷ []) kind.0.1 k.whole small) kind.2

pub record_fits : (format : ℕ) (bytes : List ℕ) (r : Record) → AreBytes bytes → read_record_in format bytes ≡ Some r → IsInGrammar r
unfolding read_record_in
record_fits format bytes r small e = front_fits format bytes r [] small (alone_some (read_front_in format bytes) r e)

-- ---- a record that tells no page

no_page : (p : Page) → TellsNoPage (changes (page_change p) (Some p.state)) → ⊥
no_page p h = by_origin p.origin h
  where
    by_origin : (o : Origin) → TellsNoPage (changes (change_from o (stateless p)) (Some p.state)) → ⊥
    by_origin (start script) never = never
    by_origin (answered instance page answer) never = never

kind_alike : (format kind : ℕ) (bytes : List ℕ) (r : Record) (rest : List ℕ) → AreBytes bytes → read_kind_in format kind bytes ≡ Some (r, rest) → TellsNoPage r
    → Spells body_of IsInGrammar (kind ∷ bytes) r rest
kind_alike format kind bytes r rest small e none =
    elim (chosen (lacks format kind) _ _ _ e) [
      | inl t ↦ absurd (none-some (r, rest) t.1)
      | inr n ↦ elim (chosen (is_older_page format kind) _ _ _ n.1) [
        | inl t ↦
            let s = seen_some (λ p. changes (page_change p) (Some p.state)) (read_page_in format bytes) r rest t.1 in
            absurd (no_page s.0 (subst TellsNoPage (sym s.2) none))
        | inr n ↦ kind_spells kind bytes r rest small n.1
      ]
    ]

front_alike : (format : ℕ) (bytes : List ℕ) (r : Record) (rest : List ℕ) → AreBytes bytes → read_front_in format bytes ≡ Some (r, rest) → TellsNoPage r
    → Spells body_of IsInGrammar bytes r rest
front_alike format bytes r rest small e none =
    let kind = bind_some (read_u8 bytes) (λ k. read_kind_in format k.0 k.1) (r, rest) e in
    let k = byte_codec.law.exact bytes kind.0.0 kind.0.1 small kind.1 in
    let s = kind_alike format kind.0.0 kind.0.1 r rest (rest_are_bytes bytes (kind.0.0 ∷ []) kind.0.1 k.whole small) kind.2 none in
    record { whole = k.whole ∙ s.whole; fit = s.fit }

pub record_alike : (format : ℕ) (bytes : List ℕ) (r : Record) → AreBytes bytes → read_record_in format bytes ≡ Some r → TellsNoPage r → IsBodyOf bytes r
unfolding read_record_in
record_alike format bytes r small e none =
    let s = front_alike format bytes r [] small (alone_some (read_front_in format bytes) r e) none in
    record { spelled = s.whole ∙ append-nil (body_of r); fits = s.fit }

-- ---- the newest format

pub newest : (bytes : List ℕ) → read_record_in 6 bytes ≡ read_record bytes
unfolding read_record_in read_record
newest bytes = refl

-- ---- a whole body

pub whole_record : (format : ℕ) (bytes rest : List ℕ) (r : Record) → read_front_in format bytes ≡ Some (r, rest) → rest ≡ [] → read_record_in format bytes ≡ Some r
unfolding read_record_in
whole_record format bytes rest r e f = ap alone e ∙ ap (λ l. alone (Some (r, l))) f

alone_not : (r : Record) (rest : List ℕ) → (rest ≡ [] → ⊥) → alone (Some (r, rest)) ≡ None
alone_not r [] e = absurd (e refl)
alone_not r (b ∷ rest) e = refl

pub more_than_a_record : (format : ℕ) (bytes rest : List ℕ) (r : Record) → read_front_in format bytes ≡ Some (r, rest) → (rest ≡ [] → ⊥) → read_record_in format bytes ≡ None
unfolding read_record_in
more_than_a_record format bytes rest r e f = ap alone e ∙ alone_not r rest f

pub no_record : (format : ℕ) (bytes : List ℕ) → read_front_in format bytes ≡ None → read_record_in format bytes ≡ None
unfolding read_record_in
no_record format bytes e = ap alone e
