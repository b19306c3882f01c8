-- A state that has a spelling can be told.
use Rattle.std.proofs.Common.{◌≡◌, ◌∙◌, ap, sym, subst, List, [], ◌∷◌, reverse, Option, Some, None, if◌then◌else◌, Bool, true, false, refl, ℕ, zero, suc, slice_get}
use Rattle.std.proofs.lemmas.Option.{get_or_from_slice_get}
use Rattle.script_nodes.specs.Setup.{Named}
use Rattle.std.specs.List.{list_all, AllByRecursion}
use Rattle.std.proofs.lemmas.Bool.{and_from}
use Rattle.std.proofs.lemmas.List.{reverse-reverse}
use Rattle.script_value.specs.Val.{Val}
use Rattle.value_bytes.specs.Spelling.{HasBytes}
use Rattle.book_recovery.specs.InstanceBook.KeptStates.Kept.{Form, spelled, whole, bytes_of, IsKeptBy, KeptAreWritten}
use Rattle.book_recovery.specs.InstanceBook.KeptStates.Links.{behind_at}
use Rattle.machine_states.specs.Machine.{Frame, in_binding, in_operand, in_body, in_seq, in_and, in_or, in_if, in_count, in_store, in_turn, in_isolate, in_call, in_task, in_page, in_finish, in_back, Suspended}
use Rattle.book_recovery.specs.InstanceBook.FrameCodec.Forms.{form_bytes, BindsBefore}
use Rattle.book_recovery.specs.InstanceBook.FrameCodec.Spelling.{FrameHasBytes, ShadowHasBytes, StateHasBytes}
use Rattle.book_recovery.proofs.InstanceBook.FrameCodec.States.{all_reversed}
use Rattle.journal_records.specs.Fields.{is_shallow}
use Rattle.journal_records.proofs.Measured.{value_shallow}
use Rattle.book_recovery.specs.JournalSpec.Lengths.{is_shallow_frame, is_shallow_state, told_bytes}
use Rattle.machine_states.specs.Views.{suspended_of}
use Rattle.book_recovery.specs.InstanceBook.declared.book.Book.{Book}
use Rattle.book_recovery.specs.InstanceBook.declared.change.Change.{Change}
use Rattle.book_recovery.specs.InstanceBook.declared.change.Change.TheVariants.{Opens, Extends, Ends, Finishes}
use Rattle.book_visits.specs.declared.ticket.Ticket.{Ticket}
use Rattle.book_recovery.specs.InstanceBook.Standing.{script_at}
use Rattle.book_visits.specs.Fits.{IsRunnable}
use Rattle.book_recovery.specs.InstanceBook.Places.{arena_of}
use Rattle.book_recovery.specs.InstanceBook.Views.{script_in, no_script}
use Rattle.shelf.specs.Holding.{IsWhole, IsWholeFrom, IsWholeIn, IsOfItsScript}
use Rattle.shelf.specs.Recording.{IsKeptAs}
use Rattle.shelf.proofs.Now.{of_some, if_some}

all_shallow : {A : Type 0} (P : A → Type 0) (test : A → Bool) → ((x : A) → P x → test x ≡ true) → (xs : List A) → AllByRecursion P xs → list_all test xs ≡ true
all_shallow P test f [] h = refl
all_shallow P test f (x ∷ xs) h = and_from (test x) (list_all test xs) (f x h.0) (all_shallow P test f xs h.1)

values_shallow : (vs : List Val) → AllByRecursion HasBytes vs → list_all is_shallow vs ≡ true
values_shallow vs h = all_shallow HasBytes is_shallow value_shallow vs h

frame_shallow : (f : Frame) → FrameHasBytes f → is_shallow_frame f ≡ true
frame_shallow (in_binding n done) h = values_shallow done h.1.1
frame_shallow (in_operand n done) h = values_shallow done h.1.1
frame_shallow (in_turn n turns done) h = values_shallow done h.1.1.1
frame_shallow (in_call n done) h = values_shallow done h.1.1
frame_shallow (in_task n k outer) h = values_shallow outer h.1.1.1
frame_shallow (in_body n bound) h = refl
frame_shallow (in_seq n k) h = refl
frame_shallow (in_and n k) h = refl
frame_shallow (in_or n k) h = refl
frame_shallow (in_if n k) h = refl
frame_shallow (in_count n) h = refl
frame_shallow (in_store n) h = refl
frame_shallow (in_isolate n name) h = refl
frame_shallow (in_page n kind) h = refl
frame_shallow (in_finish n) h = refl
frame_shallow (in_back n) h = refl

spelled_shallow : (d : Suspended) → StateHasBytes d → is_shallow_state d ≡ true
spelled_shallow d h =
    let all : AllByRecursion FrameHasBytes d.frames =
    subst (λ (fs : List Frame). AllByRecursion FrameHasBytes fs) (reverse-reverse d.frames) (all_reversed FrameHasBytes (reverse d.frames) h.frames.1) in
    let cell : ℕ × Val → Bool = λ s. is_shallow s.1 in
    and_from (list_all is_shallow d.env) _ (values_shallow d.env h.env.1)
    (and_from (list_all is_shallow_frame d.frames) (list_all cell d.shadows) (all_shallow FrameHasBytes is_shallow_frame frame_shallow d.frames all)
    (all_shallow ShadowHasBytes cell (λ s x. value_shallow s.1 x.1) d.shadows h.shadows.1))

pub spelled_told : (before : Option Suspended) (d : Suspended) → StateHasBytes d → told_bytes before d ≡ Some (form_bytes before d)
spelled_told before d h = ap (λ (b : Bool). if b then Some (form_bytes before d) else None) (spelled_shallow d h)

-- ---- what is kept of a state is written so

by_form : (before : Option Suspended) (links : ℕ) (d : Suspended) (f : Form) → IsKeptBy before links d f → (bytes : List ℕ) → bytes_of f ≡ Some bytes
    → StateHasBytes d × BindsBefore (behind_at links before) d
by_form None zero d (spelled parts) h bytes is = (h.0, tt)
by_form None (suc n) d (spelled parts) h bytes is = (h.0, tt)
by_form None links d (whole e) h bytes is = absurd (let no : ⊥ = cc is in no)
by_form (Some p) zero d (spelled parts) h bytes is = (h.0, tt)
by_form (Some p) zero d (whole e) h bytes is = absurd (let no : ⊥ = cc is in no)
by_form (Some p) (suc n) d (spelled parts) h bytes is = (h.0.0, h.0.1)
by_form (Some p) (suc n) d (whole e) h bytes is = absurd (let no : ⊥ = cc is in no)

-- what nests too deep has no bytes
deep_told : (before : Option Suspended) (d : Suspended) → is_shallow_state d ≡ false → None ≡ told_bytes before d
deep_told before d deep = sym (ap (λ (b : Bool). if b then Some (form_bytes before d) else None) deep)

module _ (law : KeptAreWritten) (before : Option Suspended) (links : ℕ) (d : Suspended) (f : Form) (kept : IsKeptBy before links d f) where
  pub kept_spelled : (bytes : List ℕ) → bytes_of f ≡ Some bytes → StateHasBytes d
  kept_spelled bytes is = (by_form before links d f kept bytes is).0

  pub kept_told : (bytes : Option (List ℕ)) → IsKeptAs d f bytes → bytes ≡ told_bytes (behind_at links before) d
  kept_told None deep = deep_told (behind_at links before) d deep
  kept_told (Some bytes) is = ap (λ (bs : List ℕ). Some bs) (law before links d f bytes kept is) ∙ sym (spelled_told (behind_at links before) d (kept_spelled bytes is))

-- ---- a page is whole under the script of its instance

pub whole_in : (all : List Named) (b : Book) (t : Ticket) (c : Change) → IsRunnable all t → IsWholeFrom all t c → IsOfItsScript all b t c → IsWholeIn all b c
whole_in all b t (Opens o) runs from its = from
whole_in all b t (Ends e) runs from its = tt
whole_in all b t (Finishes f) runs from its = tt
whole_in all b t (Extends x) runs from its =
    let s = runs.named in
    let P : Named → Type 0 = λ s. IsWhole (arena_of s.script) (suspended_of x.state) x.show.page.item.inside.items in
    let here : P s = of_some (slice_get all t.script) s P runs.script from in
    let is : script_in all t.script ≡ s = get_or_from_slice_get all t.script s no_script runs.script in
    if_some (script_at all x.instance b) s P (its ∙ ap (λ (n : Named). Some n) is) here
