-- Shelves whose journals an audit answers yes are opened as own ones.
use Rattle.std.proofs.Common.{◌≡◌, ◌<◌, ◌+◌, ◌∷◌, ◌∙◌, ℕ, zero, suc, List, [], length, Bool, Some, ap, subst, sym, arith}
use Rattle.std.proofs.lemmas.Option.{same_Some}
use Rattle.std.specs.Prelude.{slice_get}
use Rattle.web_disk.specs.View.{RackView, View}
use Rattle.trio_rack.specs.Trios.{shelves_of}
use Rattle.script_nodes.specs.Setup.{Named}
use Rattle.replay_spec.specs.Rules.{Rules}
use Rattle.page_journal.specs.Records.{format_of}
use Rattle.setup_reader.specs.Texts.{setup_of_texts}
use Rattle.page_audit.proofs.AuditSpec.OwnImage.{own_image}
use Rattle.page_audit.specs.Audits.{audit_by}
use Rattle.site_serving.specs.Shelves.{IsOwnImage, IsOwnOpening, Opening}
use Rattle.server_command.specs.Auditing.{HoldYes, IsYes}
use Rattle.server_command.specs.Racks.{AreHeld}
use Rattle.server_command.specs.Serving.{AreOpened, AreOwn}

-- bytes that an audit answers yes are those of an own shelf
pub yes_own : (shelf : ℕ) (image : List ℕ) → IsYes image → IsOwnImage shelf image
yes_own shelf [] passed bodies is = absurd (let no : ⊥ = cc is in no)
yes_own shelf (byte ∷ bytes) passed bodies is =
    own_image (format_of (byte ∷ bytes)) setup_of_texts bodies passed.0
    (sym (ap (audit_by (format_of (byte ∷ bytes))) is) ∙ passed.1) shelf

module _ {D N : Type 0} (view : D → View) (tells : Bool) (told : Type 0) (nonce : N → ℕ → ℕ) (rules : ℕ → Rules) (scripts : List Named) where
  own_from : (holds : ℕ → List ℕ → Type 0) (k : ℕ) (images : List (List ℕ)) (sources : List N) (openings : List (Opening D N)) → told
      → AreHeld holds k images → ((n : ℕ) (image : List ℕ) → n < k + length images → holds n image → IsYes image)
      → AreOpened view tells told nonce rules scripts k images sources openings
      → (j : ℕ) (o : Opening D N) → slice_get openings j ≡ Some o → IsOwnOpening view tells o
  own_from holds k [] [] [] t held passed opened j o at = absurd (let no : ⊥ = cc in no)
  own_from holds k (image ∷ images) (source ∷ sources) (first ∷ openings) t held passed opened zero o at =
      subst (IsOwnOpening view tells) (same_Some _ _ at) (opened.0.own t (yes_own k image (passed k image (omega arith) held.0)))
  own_from holds k (image ∷ images) (source ∷ sources) (first ∷ openings) t held passed opened (suc j) o at =
      own_from holds (k + 1) images sources openings t held.1 (λ n i low h. passed n i (omega (arith, low)) h) opened.1 j o at
  own_from holds k images sources openings t held passed opened j o at = absurd opened

  pub all_own : (shelves : ℕ) (rack : RackView) (images : List (List ℕ)) (sources : List N) (openings : List (Opening D N)) → told → length images ≡ shelves
      → AreHeld (shelves_of rack).holds 0 images → HoldYes shelves rack → AreOpened view tells told nonce rules scripts 0 images sources openings
      → AreOwn view tells openings
  all_own shelves rack images sources openings t many held passed opened j o at =
      own_from (shelves_of rack).holds 0 images sources openings t held (λ n i low h. passed n i (omega (arith, low, many)) h) opened j o at
