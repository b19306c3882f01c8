-- Requests after one another.
use Rattle.std.proofs.Common.{◌≡◌, ◌-◌, ◌++◌, ◌∷◌, ℕ, List, [], Bool, true, false, length, drop, refl, sym, ap, ◌∙◌, subst}
use Rattle.std.proofs.Math.Seq.{drop-append_seam}
use Rattle.http_forms.specs.Request.{Visit, visits, Decides}
use Rattle.http_forms.specs.Stream.{Stop, closed, closes_at, Behind, Streams}
use Rattle.http_forms.proofs.Decisions.{requests_stand_alone}

-- a request, and then those after it
pub streams_more : (left : ℕ) (bytes rest : List ℕ) (ended : Bool) (v : Visit) (vs : List Visit) (stop : Stop)
    → Decides bytes false (visits v) → length bytes ≡ v.length → closes_at left v ≡ false
    → Streams (left - 1) rest ended vs stop → Streams left (bytes ++ rest) ended (v ∷ vs) stop
streams_more left bytes rest ended v vs stop decided size stays streams =
    let behind : drop v.length (bytes ++ rest) ≡ rest = ap (λ n. drop n (bytes ++ rest)) (sym size) ∙ drop-append_seam bytes rest in (
      requests_stand_alone bytes rest ended (visits v) decided (λ e. cc),
      subst (λ c. Behind c vs stop (Streams (left - 1) (drop v.length (bytes ++ rest)) ended vs stop)) (sym stays)
          (subst (λ (xs : List ℕ). Streams (left - 1) xs ended vs stop) (sym behind) streams),
    )

-- a request after which the link closes
pub streams_last : (left : ℕ) (bytes rest : List ℕ) (ended : Bool) (v : Visit) → Decides bytes false (visits v) → closes_at left v ≡ true
    → Streams left (bytes ++ rest) ended (v ∷ []) closed
streams_last left bytes rest ended v decided closes = (
  requests_stand_alone bytes rest ended (visits v) decided (λ e. cc),
  subst (λ c. Behind c [] closed (Streams (left - 1) (drop v.length (bytes ++ rest)) ended [] closed)) (sym closes) (refl, refl),
)
