-- Which bodies are of records that tell whether a shelf follows another one's journal.
use Rattle.std.proofs.Common.{◌≡◌, ◌⊎◌, ℕ, arith, ◌==◌, Bool, true, false, List, [], ◌∷◌, Some, refl, sym, ap, subst, ◌∙◌, inl, inr}
use Rattle.std.proofs.lemmas.Bool.{false≢true}
use Rattle.std.proofs.lemmas.Bool.Decides.{nat_tests}
use Rattle.std.proofs.lemmas.Option.{some_pair_parts, none-some}
use Rattle.value_bytes.specs.Laws.{AreBytes}
use Rattle.value_bytes.proofs.Trees.{chosen}
use Rattle.journal_records.specs.Records.{Record, begins, changes, renews, draws, follows, promotes, body_of}
use Rattle.journal_records.specs.Old.{lacks, is_older_page, read_record_in}
use Rattle.journal_records.specs.Roles.{tells_role, is_role}
use Rattle.journal_records.proofs.Exact.{alone_some}
use Rattle.journal_records.proofs.Older.{record_alike}

-- ---- what is read of such a body

pub follow_read : (format : ℕ) (r : Record) → read_record_in format (body_of follows) ≡ Some r → r ≡ follows
unfolding read_record_in
follow_read format r e =
    elim (chosen (lacks format 8) _ _ _ (alone_some _ r e)) [
      | inl t ↦ absurd (none-some (r, []) t.1)
      | inr n ↦ elim (chosen (is_older_page format 8) _ _ _ n.1) [
        | inl t ↦ absurd (none-some (r, []) t.1)
        | inr n ↦ sym (some_pair_parts follows r [] [] n.1).0
      ]
    ]

pub promoted_read : (format : ℕ) (r : Record) → read_record_in format (body_of promotes) ≡ Some r → r ≡ promotes
unfolding read_record_in
promoted_read format r e =
    elim (chosen (lacks format 9) _ _ _ (alone_some _ r e)) [
      | inl t ↦ absurd (none-some (r, []) t.1)
      | inr n ↦ elim (chosen (is_older_page format 9) _ _ _ n.1) [
        | inl t ↦ absurd (none-some (r, []) t.1)
        | inr n ↦ sym (some_pair_parts promotes r [] [] n.1).0
      ]
    ]

-- ---- which bodies are such

-- a body of a role is that of one of the two records
pub role_body : (body : List ℕ) → is_role body ≡ true → (body ≡ body_of follows) ⊎ (body ≡ body_of promotes)
role_body [] e = absurd (false≢true e)
role_body (kind ∷ []) e =
    elim (chosen (kind == 8) _ _ _ e) [
      | inl t ↦
          let k : kind ≡ 8 = grind (arith, nat_tests, t.0) in
          inl (λ i. k i ∷ [])
      | inr n ↦
          let k : kind ≡ 9 = grind (arith, nat_tests, n.1) in
          inr (λ i. k i ∷ [])
    ]
role_body (kind ∷ b ∷ bytes) e = absurd (false≢true e)

-- a body is of a role exactly where its record is
pub role_is : (format : ℕ) (body : List ℕ) (r : Record) → AreBytes body → read_record_in format body ≡ Some r → is_role body ≡ tells_role r
role_is format body r small e = by_body (is_role body) refl
  where
    told : (q : Record) → r ≡ q → tells_role q ≡ true → is_role body ≡ true → is_role body ≡ tells_role r
    told q same tells is = is ∙ (sym tells ∙ ap tells_role (sym same))

    untold : (q : Record) → read_record_in format body ≡ Some q → is_role body ≡ false → is_role body ≡ tells_role q
    untold follows f off = ap is_role (record_alike format body follows small f tt).spelled
    untold promotes f off = ap is_role (record_alike format body promotes small f tt).spelled
    untold (begins shelf scripts) f off = off
    untold (changes c state) f off = off
    untold (renews scripts) f off = off
    untold (draws number) f off = off

    by_body : (t : Bool) → is_role body ≡ t → is_role body ≡ tells_role r
    by_body true is =
        elim (role_body body is) [
          | inl f ↦ told follows (follow_read format r (subst (λ (b : List ℕ). read_record_in format b ≡ Some r) f e)) refl is
          | inr f ↦ told promotes (promoted_read format r (subst (λ (b : List ℕ). read_record_in format b ≡ Some r) f e)) refl is
        ]
    by_body false off = untold r e off
