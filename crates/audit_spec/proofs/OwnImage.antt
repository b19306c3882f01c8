-- What a yes says of each record; and the states of an audited file are own, for whichever shelf it is read.
use Rattle.std.proofs.Common.{◌≡◌, ℕ, List, [], ◌∷◌, ◌++◌, length, ◌+◌, Option, Some, None, refl, ap, subst, ◌∙◌, ⊎_elim}
use Rattle.std.specs.Prelude.{⊤}
use Rattle.journal_records.specs.Records.{Record, follows}
use Rattle.journal_records.specs.Old.{read_record_in}
use Rattle.journal_spec.specs.Before.{Made}
use Rattle.journal_spec.specs.Making.{Texts, Making, nothing, waits, waited, begun, made, damaged, other, start_by, made_in}
use Rattle.journal_spec.specs.Old.{with_body_at, with_bodies_at, book_of_format}
use Rattle.journal_spec.proofs.OwnStates.{HoldIn}
use Rattle.audit_spec.specs.Findings.{fault_of, Finding, first_finding, yes, answer_by, answer_over, shelf_in, audited}
use Rattle.audit_spec.specs.Meaning.{AYesIsAnOwnImage}
use Rattle.audit_spec.proofs.Held.{IsHeld, held_before, fed_clear}
use Rattle.audit_spec.proofs.HonestFound.{IsClear, found_none, each_clear, shelf_is}
use Rattle.audit_spec.proofs.Passing.{own_of_none}

-- what a yes is given for
pub record IsYes (x : Making) (count : ℕ) (f : Option Finding) (n : ℕ) : Type 0 where
  pub held : IsHeld x
  pub none : f ≡ None
  pub counts : n ≡ count

yes_by : (x : Making) (count : ℕ) (f : Option Finding) (n : ℕ) → IsHeld x → answer_by count f ≡ yes n → IsYes x count f n
yes_by x count None n held h = record { held = held; none = refl; counts = cc }
yes_by x count (Some f) n held h = absurd (let no : ⊥ = cc in no)

yes_over : (x : Making) (count : ℕ) (f : Option Finding) (n : ℕ) → answer_over x count f ≡ yes n → IsYes x count f n
yes_over nothing count f n h = yes_by nothing count f n tt h
yes_over (waits s) count f n h = yes_by (waits s) count f n tt h
yes_over waited count f n h = yes_by waited count f n tt h
yes_over (begun m) count f n h = yes_by (begun m) count f n tt h
yes_over (made m) count f n h = yes_by (made m) count f n tt h
yes_over (damaged place) count f n h = absurd (let no : ⊥ = cc in no)
yes_over (other place) count f n h = absurd (let no : ⊥ = cc in no)

pub is_yes : (format : ℕ) (texts : Texts) (bodies : List (List ℕ)) (n : ℕ) → audited format texts bodies ≡ yes n
    → let shelf = shelf_in format bodies in
    IsYes (book_of_format format texts shelf bodies) (length bodies) (first_finding format texts shelf 8 bodies nothing) n
is_yes format texts bodies n h =
    let shelf = shelf_in format bodies in
    yes_over (book_of_format format texts shelf bodies) (length bodies) (first_finding format texts shelf 8 bodies nothing) n h

-- no record of a file that is answered yes has a word
pub each_none : (format : ℕ) (texts : Texts) (bodies : List (List ℕ)) (n : ℕ) → audited format texts bodies ≡ yes n
    → HoldIn (IsClear format) format texts (shelf_in format bodies) bodies
each_none format texts bodies n h =
    let shelf = shelf_in format bodies in
    each_clear format texts shelf bodies (is_yes format texts bodies n h).held (found_none format texts shelf 8 bodies nothing (is_yes format texts bodies n h).none)

-- no change stands directly after the record that tells of following
behind_role : (format : ℕ) (texts : Texts) (bodies : List (List ℕ)) (n : ℕ) → audited format texts bodies ≡ yes n → (role : List ℕ) (rest : List (List ℕ)) (body : List ℕ) (m : Made)
    → bodies ≡ role ∷ body ∷ rest → read_record_in format role ≡ Some follows → fault_of format m (read_record_in format body) ≡ None
behind_role format texts bodies n h role rest body m is e =
    let s = shelf_in format bodies in
    let place = 8 + 5 + length role in
    let all = subst (λ (bs : List (List ℕ)). IsHeld (book_of_format format texts s bs)) is (is_yes format texts bodies n h).held in
    let fed : IsHeld (with_bodies_at format texts s place (body ∷ rest) (waits s)) =
    subst (λ (o : Option Record). IsHeld (with_bodies_at format texts s place (body ∷ rest) (start_by texts s 8 (length role) o))) e all in
    fed_clear format texts s place (length body) m (read_record_in format body)
    (held_before format texts s (place + 5 + length body) rest (with_body_at format texts s place body (waits s)) fed)

pub own_image : AYesIsAnOwnImage
own_image format texts bodies n h shelf [] rest body m is made_so = absurd (let no : ⊥ = cc in no)
own_image format texts bodies n h shelf (first ∷ front) rest body m is made_so = ⊎_elim
    (λ named.
    let same : shelf_in format bodies ≡ shelf = ap (shelf_in format) is ∙ named (body ∷ rest) in
    let there : made_in (book_of_format format texts (shelf_in format bodies) (first ∷ front)) ≡ Some m =
    ap (λ (k : ℕ). made_in (book_of_format format texts k (first ∷ front))) same ∙ made_so in
    own_of_none format m (read_record_in format body) (each_none format texts bodies n h (first ∷ front) rest body m is there))
    (λ (role, (alone, e)).
    own_of_none format m (read_record_in format body) (behind_role format texts bodies n h role rest body m (is ∙ ap (λ (bs : List (List ℕ)). bs ++ body ∷ rest) alone) e))
    (shelf_is format texts shelf first front m made_so)
