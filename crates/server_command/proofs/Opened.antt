-- From the opening and the run of a desk to what a command answers.
use Rattle.std.proofs.Common.{◌≡◌, ◌≢◌, ◌≤◌, ◌<◌, ◌+◌, ◌∷◌, inl, inr, ℕ, List, [], IsTrue, Option, Some, None, Ok, refl, sym, subst}
use Rattle.std.proofs.lemmas.Option.{same_Some}
use Rattle.trio_rack.specs.Trios.{shelves_of}
use Rattle.web_outside.specs.Pieces.{AppendsUnlessFault}
use Rattle.command_words.specs.declared.Command.TheVariants.{Play}
use Rattle.command_words.specs.declared.Options.{Options}
use Rattle.setup_reader.specs.declared.setup.Ending.TheVariants.{Steps}
use Rattle.setup_reader.specs.Setup.{Parsed, setup_of}
use Rattle.play_steps.specs.declared.stage.Reopen.{Reopen}
use Rattle.play_steps.specs.declared.stage.Reopen.TheVariants as reopen
use Rattle.play_desk.specs.Asking.{AsksForFirst, AsksUntil}
use Rattle.play_desk.specs.Opening.{AllStayKept, IsClosedBy, IsNotEmpty}
use Rattle.server_command.specs.declared.program.Status.{Status}
use Rattle.server_command.specs.Command.{Outputs}
use Rattle.server_command.specs.Output.{sinks, steps_for}
use Rattle.server_command.specs.Racks.{Racks, ShelfFailed}
use Rattle.server_command.specs.Telling.{TellsUnopened, told, untold}
use Rattle.server_command.proofs.Playing.{HoldsSome, Lost, some_outputs, is_unopened, lost_outputs, memory_outputs, never_outputs, outgrown_outputs, unopened_early, unread_outputs}

pub holds_some : (rack : Racks) (o : Options) (shelf : ℕ) → (shelf < o.shelves) × IsNotEmpty rack.before shelf → HoldsSome rack o shelf
holds_some rack o shelf h = by_image h.1.some.image h.1.some.held h.1.some.some
  where
    by_image : (image : List ℕ) → rack.before.holds h.1.some.number image → image ≢ [] → HoldsSome rack o shelf
    by_image [] held some = absurd (some refl)
    by_image (b ∷ bytes) held some =
        record { within = h.0; empty = h.1.before; byte = b; bytes = bytes; held = (h.1.some.number, h.1.some.its, held) }

-- a run of steps did not begin
pub first_outputs : (rack : Racks) (o : Options) (bytes : List ℕ) (setup : Parsed) (shelf : ℕ) (why : Reopen) (s : Status) (old new : Option (List ℕ)) (before after : ℕ)
    → setup_of Steps bytes ≡ Ok setup → (IsTrue rack.tells → IsClosedBy rack.before o.shelves shelf why) → (why ≡ reopen.Disk → ShelfFailed rack shelf)
    → (IsTrue rack.tells → AllStayKept setup.scripts (shelves_of rack.before).holds (shelves_of rack.after).holds shelf why) → AsksUntil (shelf + 1) shelf rack.before rack.after
    → (why ≡ reopen.NotEmpty → AsksForFirst (shelf + 1) rack.before rack.after) → rack.before.faults ≤ rack.after.faults
    → TellsUnopened shelf why s (sinks old new before after) → Outputs rack (Play o) bytes s (sinks old new before after)
first_outputs rack o bytes setup shelf why s old new before after h closed failed kept asked all later (untold is line) =
    unopened_early rack o bytes setup shelf why s old new before after h
    (λ t. is_unopened rack setup.scripts o.shelves shelf why (closed t) failed (kept t) asked) later is line
first_outputs rack o bytes setup shelf reopen.Disk s old new before after h closed failed kept asked all later (told line is same p) =
    subst (λ x. Outputs rack (Play o) bytes x (sinks old new before after)) (sym same)
    (unread_outputs rack o bytes setup shelf old new before after h (failed refl)
    (λ t. is_unopened rack setup.scripts o.shelves shelf reopen.Disk (closed t) failed (kept t) asked) (subst (λ l. AppendsUnlessFault old new l before after) (sym (same_Some _ _ is)) p))
first_outputs rack o bytes setup shelf reopen.NotEmpty s old new before after h closed failed kept asked all later (told line is same p) =
    subst (λ x. Outputs rack (Play o) bytes x (sinks old new before after)) (sym same)
    (some_outputs rack o bytes setup shelf old new before after h (λ t. holds_some rack o shelf (closed t)) kept (all refl) (subst (λ l. AppendsUnlessFault old new l before after) (sym (same_Some _ _ is)) p))
first_outputs rack o bytes setup shelf (reopen.Damaged place) s old new before after h closed failed kept asked all later (told line is same p) =
    subst (λ x. Outputs rack (Play o) bytes x (sinks old new before after)) (sym same) (never_outputs rack o bytes setup old new before after h closed)
first_outputs rack o bytes setup shelf (reopen.Other place) s old new before after h closed failed kept asked all later (told line is same p) =
    subst (λ x. Outputs rack (Play o) bytes x (sinks old new before after)) (sym same) (never_outputs rack o bytes setup old new before after h closed)
first_outputs rack o bytes setup shelf (reopen.Full size) s old new before after h closed failed kept asked all later (told line is same p) =
    subst (λ x. Outputs rack (Play o) bytes x (sinks old new before after)) (sym same) (never_outputs rack o bytes setup old new before after h closed)
first_outputs rack o bytes setup shelf reopen.Memory s old new before after h closed failed kept asked all later (told line is same p) = absurd (let no : None ≡ Some line = is in cc)

-- a shelf was not opened again
pub again_outputs : (rack : Racks) (o : Options) (bytes : List ℕ) (setup : Parsed) (shelf : ℕ) (why : Reopen) (s : Status) (old mid new : Option (List ℕ)) (before between after : ℕ)
    → setup_of Steps bytes ≡ Ok setup → (IsTrue rack.tells → Lost rack o setup.scripts (steps_for o setup) shelf why old mid)
    → (why ≡ reopen.Disk → ShelfFailed rack shelf) → (why ≡ reopen.NotEmpty → ⊥) → (IsTrue rack.tells → (place : ℕ) → why ≡ reopen.Damaged place → ⊥) → (IsTrue rack.tells → (place : ℕ) → why ≡ reopen.Other place → ⊥)
    → before ≤ between → TellsUnopened shelf why s (sinks mid new between after) → Outputs rack (Play o) bytes s (sinks old new before after)
again_outputs rack o bytes setup shelf why s old mid new before between after h lost failed never damaged other le (untold is line) =
    memory_outputs rack o bytes setup s old mid new before between after h (λ t. inr (inl (shelf, why, lost t))) le is line
again_outputs rack o bytes setup shelf reopen.Disk s old mid new before between after h lost failed never damaged other le (told line is same p) =
    subst (λ x. Outputs rack (Play o) bytes x (sinks old new before after)) (sym same)
    (lost_outputs rack o bytes setup shelf old mid new before between after h lost le (failed refl) (subst (λ l. AppendsUnlessFault mid new l between after) (sym (same_Some _ _ is)) p))
again_outputs rack o bytes setup shelf reopen.NotEmpty s old mid new before between after h lost failed never damaged other le (told line is same p) = absurd (never refl)
again_outputs rack o bytes setup shelf (reopen.Damaged place) s old mid new before between after h lost failed never damaged other le (told line is same p) =
    subst (λ x. Outputs rack (Play o) bytes x (sinks old new before after)) (sym same) (never_outputs rack o bytes setup old new before after h (λ t. damaged t place refl))
again_outputs rack o bytes setup shelf (reopen.Other place) s old mid new before between after h lost failed never damaged other le (told line is same p) =
    subst (λ x. Outputs rack (Play o) bytes x (sinks old new before after)) (sym same) (never_outputs rack o bytes setup old new before after h (λ t. other t place refl))
again_outputs rack o bytes setup shelf (reopen.Full size) s old mid new before between after h lost failed never damaged other le (told line is same p) =
    subst (λ x. Outputs rack (Play o) bytes x (sinks old new before after)) (sym same)
    (outgrown_outputs rack o bytes setup shelf size old mid new before between after h lost le (subst (λ l. AppendsUnlessFault mid new l between after) (sym (same_Some _ _ is)) p))
again_outputs rack o bytes setup shelf reopen.Memory s old mid new before between after h lost failed never damaged other le (told line is same p) = absurd (let no : None ≡ Some line = is in cc)
