-- A change that stays has the same state in a book without what goes; and facts of records, by entries and by bodies.
use Rattle.std.proofs.Common.{◌≡◌, ℕ, ◌+◌, List, [], ◌∷◌, ◌++◌, length, Option, Some, true, refl, sym, ap, ◌∙◌, append_assoc}
use Rattle.std.specs.Prelude.{⊤}
use Rattle.std.proofs.lemmas.List.{append-nil}
use Rattle.instance_cells.specs.Cells.{reads_of}
use Rattle.replay_spec.specs.Tape.{recorded}
use Rattle.replay_spec.specs.Book.{Instance, Change, opens, extends, ends, finishes, sweeps, Book}
use Rattle.replay_spec.specs.Compaction.{stays_in}
use Rattle.replay_spec.specs.Admission.{◌>>=◌, Place}
use Rattle.replay_spec.specs.Next.{tape_for}
use Rattle.replay_spec.specs.Recovery.{extension_visit}
use Rattle.replay_spec.proofs.Filed.{bare}
use Rattle.replay_spec.proofs.Compacted.{place_lives}
use Rattle.journal_records.specs.Records.{Record, changes, renews}
use Rattle.journal_records.specs.Old.{read_record_in}
use Rattle.journal_spec.specs.Before.{Made}
use Rattle.journal_spec.specs.Retaking.{Told, unread, misread, told}
use Rattle.journal_spec.specs.Lengths.{state_over, state_by}
use Rattle.journal_spec.specs.Making.{Texts, Making, nothing, waits, waited, begun, made, damaged, other, made_in}
use Rattle.journal_spec.specs.Old.{with_body_at, with_bodies_at, book_of_format}
use Rattle.journal_spec.specs.Owning.{IsOwnState}
use Rattle.journal_spec.specs.Copying.{Entry, tells, settles, then_entry}
use Rattle.journal_spec.proofs.Beside.{Beside}

-- ---- the state that a change's script leaves

-- it needs no more of a book than its shelf, setup and instances
pub state_bare : (b : Book) (c : Change) → state_by b c ≡ state_by (bare b.shelf b.scripts b.clock b.instances) c
state_bare b (opens o) = refl
state_bare b (extends x) = refl
state_bare b (ends e) = refl
state_bare b (finishes f) = refl
state_bare b (sweeps tick) = refl

pub state_beside : (ls : List Instance) (m k : Made) (c : Change) → Beside ls m k → stays_in ls c ≡ true → state_by k.book c ≡ state_by m.book c
state_beside ls m k (opens o) h stay = λ i. state_by (bare (h.shelf i) (h.scripts i) (h.clock i) (h.instances i)) (opens o)
state_beside ls m k (extends x) h stay =
    (λ i. state_by (bare (h.shelf i) (h.scripts i) (h.clock i) (h.instances i)) (extends x))
    ∙ ap (λ (o : Option Place). o >>= (λ at. state_over at.instance.script.script (tape_for (extension_visit m.book x at) (recorded (reads_of x.effects)))))
    (place_lives m.book ls x.instance x.page stay)
state_beside ls m k (ends e) h stay = refl
state_beside ls m k (finishes f) h stay = refl
state_beside ls m k (sweeps tick) h stay = refl

-- what is own on one book is own on another, where the same script leaves it
pub own_by : (b d : Book) (c : Change) (x : Told) → state_by b c ≡ state_by d c → IsOwnState d c x → IsOwnState b c x
own_by b d c unread same own = tt
own_by b d c misread same own = tt
own_by b d c (told s) same own = same ∙ own

-- ---- entries

-- a fact of the record of an entry, after what was made
abbrev pub HoldsEntry : (Made → Option Record → Type 0) → Made → Entry → Type 0
HoldsEntry P k (tells c state body) = P k (Some (changes c state))
HoldsEntry P k (settles scripts body) = (named : List (List ℕ × List ℕ)) → P k (Some (renews named))

-- a fact of each of these entries, after those before it
abbrev pub HoldEntries : (Made → Option Record → Type 0) → List Entry → Made → Type 0
HoldEntries P [] k = ⊤
HoldEntries P (e ∷ es) k = HoldsEntry P k e × HoldEntries P es (then_entry e k)

-- ---- bodies of a format

-- a fact of the record of a body, after what was made
abbrev pub HoldsAt : (Made → Option Record → Type 0) → (format : ℕ) → Making → List ℕ → Type 0
HoldsAt P format (begun m) body = P m (read_record_in format body)
HoldsAt P format (made m) body = P m (read_record_in format body)
HoldsAt P format _ body = ⊤

-- a fact of the record of each of these bodies, the gate of the first at this place
abbrev pub HoldFrom : (Made → Option Record → Type 0) → (format : ℕ) → Texts → (shelf place : ℕ) → List (List ℕ) → Making → Type 0
HoldFrom P format texts shelf place [] x = ⊤
HoldFrom P format texts shelf place (body ∷ bodies) x =
    HoldsAt P format x body × HoldFrom P format texts shelf (place + 5 + length body) bodies (with_body_at format texts shelf place body x)

-- a fact of the record of each of these bodies, on what those before it make in this format
abbrev pub HoldIn : (Made → Option Record → Type 0) → (format : ℕ) → Texts → (shelf : ℕ) → List (List ℕ) → Type 0
HoldIn P format texts shelf bodies =
    (front rest : List (List ℕ)) (body : List ℕ) (m : Made) → bodies ≡ front ++ body ∷ rest → made_in (book_of_format format texts shelf front) ≡ Some m
    → P m (read_record_in format body)

module _ (P : Made → Option Record → Type 0) (format : ℕ) (texts : Texts) (shelf : ℕ) (all : List (List ℕ)) (held : HoldIn P format texts shelf all) where
  held_at : (front rest : List (List ℕ)) (body : List ℕ) (x : Making) → all ≡ front ++ body ∷ rest → with_bodies_at format texts shelf 8 front nothing ≡ x → HoldsAt P format x body
  held_at front rest body (begun m) is reach = held front rest body m is (ap made_in reach)
  held_at front rest body (made m) is reach = held front rest body m is (ap made_in reach)
  held_at front rest body nothing is reach = tt
  held_at front rest body (waits s) is reach = tt
  held_at front rest body waited is reach = tt
  held_at front rest body (damaged place) is reach = tt
  held_at front rest body (other place) is reach = tt

  -- it holds of those after a front of a file, where it does of each of the file
  pub held_from : (front bodies : List (List ℕ)) (place : ℕ) (x : Making) → all ≡ front ++ bodies
      → ((bs : List (List ℕ)) → with_bodies_at format texts shelf 8 (front ++ bs) nothing ≡ with_bodies_at format texts shelf place bs x) → HoldFrom P format texts shelf place bodies x
  held_from front [] place x is reach = tt
  held_from front (body ∷ bodies) place x is reach = (
    held_at front bodies body x is (ap (λ (bs : List (List ℕ)). with_bodies_at format texts shelf 8 bs nothing) (sym (append-nil front)) ∙ reach []),
    held_from (front ++ body ∷ []) bodies (place + 5 + length body) (with_body_at format texts shelf place body x) (is ∙ sym (append_assoc front (body ∷ []) bodies))
        (λ bs. ap (λ (cs : List (List ℕ)). with_bodies_at format texts shelf 8 cs nothing) (append_assoc front (body ∷ []) bs) ∙ reach (body ∷ bs)),
  )
