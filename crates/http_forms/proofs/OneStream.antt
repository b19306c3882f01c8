-- The requests of a link are one list, and they stay it.
use Rattle.std.proofs.Common.{◌≡◌, ◌-◌, ◌++◌, ◌∷◌, ℕ, List, [], Bool, true, false, drop, refl, sym, ap, ◌∙◌, subst}
use Rattle.std.proofs.lemmas.List.{drop-append-le}
use Rattle.http_forms.specs.Laws.{StreamsAreOne, CutStreamsAreFronts, StreamsStandAlone}
use Rattle.http_forms.specs.Request.{Visit, unfinished, refused, visits, Decides}
use Rattle.http_forms.specs.Stream.{Stop, closed, refusal, pending, cut, closes_at, Behind, Streams}
use Rattle.http_forms.proofs.Decisions.{outcomes_are_one, requests_stand_alone}
use Rattle.http_forms.proofs.Fronts.{requests_are_fronts}

same_visit : (v w : Visit) → visits v ≡ visits w → v ≡ w
same_visit v w is = cc

-- what no request comes of is no request
no_request : (left : ℕ) (bytes : List ℕ) (ended : Bool) (v : Visit) (stop : Stop) → Decides bytes ended (visits v)
    → Streams left bytes ended [] stop → (stop ≡ cut → ⊥) → ⊥
no_request left bytes ended v closed decided streams looked = streams
no_request left bytes ended v (refusal r) decided streams looked =
    let is : visits v ≡ refused r = outcomes_are_one bytes ended _ _ decided streams in cc
no_request left bytes ended v pending decided streams looked =
    let is : visits v ≡ unfinished = outcomes_are_one bytes ended _ _ decided streams in cc
no_request left bytes ended v cut decided streams looked = looked refl

-- and it is none for one reason
one_stop : (left : ℕ) (bytes : List ℕ) (ended : Bool) (s t : Stop) → Streams left bytes ended [] s → Streams left bytes ended [] t
    → (s ≡ cut → ⊥) → (t ≡ cut → ⊥) → s ≡ t
one_stop left bytes ended closed t x y p q = absurd x
one_stop left bytes ended cut t x y p q = absurd (p refl)
one_stop left bytes ended (refusal r) closed x y p q = absurd y
one_stop left bytes ended (refusal r) cut x y p q = absurd (q refl)
one_stop left bytes ended (refusal r) (refusal u) x y p q =
    let is : refused r ≡ refused u = outcomes_are_one bytes ended _ _ x y in let same : r ≡ u = cc in ap refusal same
one_stop left bytes ended (refusal r) pending x y p q =
    absurd (let is : refused r ≡ unfinished = outcomes_are_one bytes ended _ _ x y in let no : ⊥ = cc in no)
one_stop left bytes ended pending closed x y p q = absurd y
one_stop left bytes ended pending cut x y p q = absurd (q refl)
one_stop left bytes ended pending (refusal u) x y p q =
    absurd (let is : unfinished ≡ refused u = outcomes_are_one bytes ended _ _ x y in let no : ⊥ = cc in no)
one_stop left bytes ended pending pending x y p q = refl

-- of two readings of the same bytes the first requests are the same
same_behind : (left : ℕ) (bytes : List ℕ) (ended : Bool) (v w : Visit) (ws : List Visit) (t : Stop) → v ≡ w
    → Behind (closes_at left w) ws t (Streams (left - 1) (drop w.length bytes) ended ws t)
    → Behind (closes_at left v) ws t (Streams (left - 1) (drop v.length bytes) ended ws t)
same_behind left bytes ended v w ws t same behind =
    subst (λ (u : Visit). Behind (closes_at left u) ws t (Streams (left - 1) (drop u.length bytes) ended ws t)) (sym same) behind

pub streams_are_one : StreamsAreOne
streams_are_one left bytes ended [] [] s t x y p q = (refl, one_stop left bytes ended s t x y p q)
streams_are_one left bytes ended [] (w ∷ ws) s t x y p q = absurd (no_request left bytes ended w s y.0 x p)
streams_are_one left bytes ended (v ∷ vs) [] s t x y p q = absurd (no_request left bytes ended v t x.0 y q)
streams_are_one left bytes ended (v ∷ vs) (w ∷ ws) s t x y p q =
    let same : v ≡ w = same_visit v w (outcomes_are_one bytes ended _ _ x.0 y.0) in
    let rest = by_closing (closes_at left v) x.1 (same_behind left bytes ended v w ws t same y.1)
    (λ a b. streams_are_one (left - 1) (drop v.length bytes) ended vs ws s t a b p q) in
    (ap (λ u. u ∷ vs) same ∙ ap (λ us. w ∷ us) rest.0, rest.1)
  where
    by_closing : (b : Bool) → Behind b vs s (Streams (left - 1) (drop v.length bytes) ended vs s)
        → Behind b ws t (Streams (left - 1) (drop v.length bytes) ended ws t)
        → (Streams (left - 1) (drop v.length bytes) ended vs s → Streams (left - 1) (drop v.length bytes) ended ws t → (vs ≡ ws) × (s ≡ t))
        → (vs ≡ ws) × (s ≡ t)
    by_closing true a b later = (a.0 ∙ sym b.0, a.1 ∙ sym b.1)
    by_closing false a b later = later a b

pub cut_streams_are_fronts : CutStreamsAreFronts
cut_streams_are_fronts left bytes ended [] ws t x y q = (ws, refl)
cut_streams_are_fronts left bytes ended (v ∷ vs) [] t x y q = absurd (no_request left bytes ended v t x.0 y q)
cut_streams_are_fronts left bytes ended (v ∷ vs) (w ∷ ws) t x y q =
    let same : v ≡ w = same_visit v w (outcomes_are_one bytes ended _ _ x.0 y.0) in
    let rest = by_closing (closes_at left v) x.1 (same_behind left bytes ended v w ws t same y.1)
    (λ a b. cut_streams_are_fronts (left - 1) (drop v.length bytes) ended vs ws t a b q) in
    (rest.0, ap (λ us. w ∷ us) rest.1 ∙ ap (λ u. u ∷ (vs ++ rest.0)) (sym same))
  where
    by_closing : (b : Bool) → Behind b vs cut (Streams (left - 1) (drop v.length bytes) ended vs cut)
        → Behind b ws t (Streams (left - 1) (drop v.length bytes) ended ws t)
        → (Streams (left - 1) (drop v.length bytes) ended vs cut → Streams (left - 1) (drop v.length bytes) ended ws t
        → (more : List Visit) × (ws ≡ vs ++ more)) → (more : List Visit) × (ws ≡ vs ++ more)
    by_closing true a b later = absurd (let is : cut ≡ closed = a.1 in let no : ⊥ = cc in no)
    by_closing false a b later = later a b

pub streams_stand_alone : StreamsStandAlone
streams_stand_alone left bytes more ended [] closed x p = x
streams_stand_alone left bytes more ended [] (refusal r) x p = requests_stand_alone bytes more ended (refused r) x (λ e. cc)
streams_stand_alone left bytes more ended [] pending x p = absurd (p refl)
streams_stand_alone left bytes more ended [] cut x p = tt
streams_stand_alone left bytes more ended (v ∷ vs) stop x p = (
  requests_stand_alone bytes more ended (visits v) x.0 (λ e. cc),
  by_closing (closes_at left v) x.1 (λ a. streams_stand_alone (left - 1) (drop v.length bytes) more ended vs stop a p),
)
  where
    behind : drop v.length (bytes ++ more) ≡ drop v.length bytes ++ more
    behind = drop-append-le v.length bytes more (requests_are_fronts bytes false v x.0).0

    by_closing : (b : Bool) → Behind b vs stop (Streams (left - 1) (drop v.length bytes) false vs stop)
        → (Streams (left - 1) (drop v.length bytes) false vs stop → Streams (left - 1) (drop v.length bytes ++ more) ended vs stop)
        → Behind b vs stop (Streams (left - 1) (drop v.length (bytes ++ more)) ended vs stop)
    by_closing true a later = a
    by_closing false a later = subst (λ (xs : List ℕ). Streams (left - 1) xs ended vs stop) (sym behind) (later a)
