-- A setup is told after the records of a journal.
use Rattle.std.proofs.Common.{◌≡◌, inl, inr, ⊎_elim, ℕ, ◌≤◌, Bool, List, [], ◌∷◌, ◌++◌, length, Ok, Err, IsTrue, refl, ◌∙◌, ap, subst, arith}
use Rattle.web_disk.specs.View.{View, NoNewImage, Elapses, LeavesOnly}
use Rattle.web_outside.specs.Causes.{Rose}
use Rattle.page_journal.specs.Records.{newest, stored}
use Rattle.value_bytes.specs.Laws.{AreBytes}
use Rattle.page_journal.specs.Holding.{MayHold}
use Rattle.page_journal.specs.Settled.{IsSettled, view_of, bodies_in, length_of, length_with}
use Rattle.page_journal.specs.declared.journal.Journal.{Journal}
use Rattle.page_journal.proofs.Mending.{leaves_then}
use Rattle.shelf.specs.Opening.{TellsSetup}
use Rattle.shelf.specs.declared.begin.BeginFault.TheVariants as fault
use Rattle.shelf.proofs.Newest.{newest_images}
use Rattle.book_recovery.proofs.JournalSpec.Standings.{OnlyNow}

-- a call that leaves no new image, after which one leaves what has a property that all had before
run_after : (v0 v1 v2 : View) (P : List ℕ → Type 0) → OnlyNow v0 → ((image : List ℕ) → v0.images image → P image) → NoNewImage v0 v1 → Elapses v0 v1 → LeavesOnly v1 v2 P → LeavesOnly v0 v2 P
run_after v0 v1 v2 P only_now holds less time run =
    let first : LeavesOnly v0 v1 P = record {
      later = time.later;
      each = λ image left. ⊎_elim (λ was. holds image (only_now image was)) (λ here. holds image (less image here)) (time.nothing_else v0.moment image (omega arith) left);
      before = λ t image le left. ⊎_elim (λ was. inl was) (λ here. inr (holds image (less image here))) (time.nothing_else t image le left);
    } in
    leaves_then v0 v1 v2 P first run

module _ {D : Type 0} (view : D → View) (tells : Bool) (old mid new : Journal D) (body said : List ℕ) (is : said ≡ body) (now_is : old.format ≡ newest) (only_now : OnlyNow (view_of view old)) (settled : IsTrue tells → IsSettled view old)
    (seen : (view_of view mid).seen ≡ (view_of view old).seen) (images : NoNewImage (view_of view old) (view_of view mid)) (time : Elapses (view_of view old) (view_of view mid))
    (faults : (view_of view mid).faults ≡ (view_of view old).faults) (run : IsTrue tells → LeavesOnly (view_of view mid) (view_of view new) (MayHold newest (bodies_in view mid) said))
    (later : (view_of view mid).faults ≤ (view_of view new).faults) where
  bodies_same : bodies_in view mid ≡ bodies_in view old
  bodies_same = ap stored seen

  moments : IsTrue tells → LeavesOnly (view_of view old) (view_of view new) (MayHold newest (bodies_in view old) body)
  moments told =
      let P : List (List ℕ) → List ℕ → Type 0 = λ bs b. LeavesOnly (view_of view mid) (view_of view new) (MayHold newest bs b) in
      run_after (view_of view old) (view_of view mid) (view_of view new) (MayHold newest (bodies_in view old) body) only_now (λ image left. inl (newest_images view old (settled told) now_is image left)) images time
      (subst (P (bodies_in view old)) is (subst (λ (bs : List (List ℕ)). P bs said) bodies_same (run told)))

  pub told_setup : AreBytes said → (IsTrue tells → IsSettled view new × (bodies_in view new ≡ bodies_in view mid ++ said ∷ [])) → length_of new ≡ length_with mid said → length_of mid ≡ length_of old
      → TellsSetup {T = Unit {0}} view tells old new body (Ok tt)
  told_setup small ok len same = record {
    added = λ told. ((ok told).0, (ok told).1 ∙ (ap (λ (bs : List (List ℕ)). bs ++ said ∷ []) bodies_same ∙ ap (λ (b : List ℕ). bodies_in view old ++ b ∷ []) is));
    len = omega (arith, len, same, ap length is);
    bytes = subst AreBytes is small;
    moments = moments;
    refused = inr (inr refl);
    untouched = λ e. absurd (let no : ⊥ = cc e in no);
    cause = λ e. absurd (let no : ⊥ = cc e in no);
    later = omega (arith, later, faults);
  }

  pub failed_setup : Rose (view_of view mid).faults (view_of view new).faults → TellsSetup {T = Unit {0}} view tells old new body (Err fault.DiskFault)
  failed_setup cause = record {
    added = λ told. tt;
    len = tt;
    bytes = tt;
    moments = moments;
    refused = inl refl;
    untouched = λ e. absurd (let no : ⊥ = cc e in no);
    cause = λ e. omega (arith, cause, faults);
    later = omega (arith, later, faults);
  }
