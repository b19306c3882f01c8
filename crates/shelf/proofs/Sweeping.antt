-- What a sweep comes to, by its record.
use Rattle.std.proofs.Common.{◌≡◌, ◌∙◌, ap, sym, subst, ℕ, ◌+◌, ◌-◌, max, false, nat_le, List, [], length, Some, None, Ok, Err, arith}
use Rattle.script_value.specs.declared.outcome.Reply.{Reply}
use Rattle.script_value.specs.declared.outcome.Reply.TheVariants as reply
use Rattle.replay_spec.specs.Book.{sweeps, changed, File, Book}
use Rattle.replay_spec.specs.Change.{instances_by, with_line, land}
use Rattle.replay_spec.specs.Invariant.{IsOrderly}
use Rattle.book_recovery.specs.JournalSpec.Whole.{AreWhole, HasWholeScripts}
use Rattle.book_recovery.proofs.JournalSpec.Fitting.{WholeIn, whole_by}
use Rattle.replay_spec.specs.Step as step
use Rattle.replay_spec.specs.Step.{freed}
use Rattle.journal_records.specs.Records.{changes, record_length}
use Rattle.book_recovery.specs.InstanceBook.Swept.{swept}
use Rattle.book_visits.specs.Views.{reply_of}
use Rattle.shelf.specs.declared.rules.Rules as limits_of
use Rattle.shelf.specs.Views.{rules_of, fate_by}
use Rattle.shelf.specs.Recording.{IsWritten}
use Rattle.shelf.proofs.Steps.{Comes, wanting_sweep, full_sweep, landed_sweep}
use Rattle.shelf.proofs.Sizes.{not_refused}

module _ (r : limits_of.Rules) (b : Book) (tick : ℕ) (late : nat_le tick b.clock ≡ false) (free : step.barred b ≡ None) where
  abbrev Answers : Reply → Type 0
  Answers x = Comes (rules_of r) b (step.sweep tick) (fate_by (reply_of x)) (reply_of x) b None

  pub unwritten_sweep : (x : Reply) → IsWritten b.length (changes (sweeps tick) None) (Err x) → Answers x
  unwritten_sweep (reply.Page bytes url) h = full_sweep r b tick late free (reply_of (reply.Page bytes url)) h
  unwritten_sweep (reply.Finished bytes) h = full_sweep r b tick late free (reply_of (reply.Finished bytes)) h
  unwritten_sweep (reply.Ended bytes) h = full_sweep r b tick late free (reply_of (reply.Ended bytes)) h
  unwritten_sweep (reply.Refused why) h = full_sweep r b tick late free (reply_of (reply.Refused why)) h
  unwritten_sweep (reply.Fault f) h = full_sweep r b tick late free (reply_of (reply.Fault f)) h
  unwritten_sweep (reply.Fuel cost) h = full_sweep r b tick late free (reply_of (reply.Fuel cost)) h
  unwritten_sweep (reply.ShelfFull count) h = full_sweep r b tick late free (reply_of (reply.ShelfFull count)) h
  unwritten_sweep (reply.Oversize n) h = full_sweep r b tick late free (reply_of (reply.Oversize n)) h
  unwritten_sweep (reply.JournalFull n) h = full_sweep r b tick late free (reply_of (reply.JournalFull n)) h
  unwritten_sweep (reply.DiskFault count) h = full_sweep r b tick late free (reply_of (reply.DiskFault count)) h
  unwritten_sweep (reply.Down count) h = full_sweep r b tick late free (reply_of (reply.Down count)) h
  unwritten_sweep reply.Following h = full_sweep r b tick late free step.following h
  unwritten_sweep reply.Worn h = full_sweep r b tick late free step.worn h
  unwritten_sweep reply.Memory h = wanting_sweep r b tick late

  -- what lands, with the count that was freed
  pub swept_comes : (body : List ℕ) (longer count : ℕ) (filed : File) (after : Book) → IsWritten b.length (changes (sweeps tick) None) (Ok body) → longer ≡ b.length + (record_length (sweeps tick) None + 5)
      → filed ≡ with_line (changed (sweeps tick) (record_length (sweeps tick) None)) b.file
      → after ≡ swept tick (record b { length = longer; file = filed }) → count ≡ length b.instances - length after.instances
      → Comes (rules_of r) b (step.sweep tick) step.plain (step.swept count) after (Some (sweeps tick))
  swept_comes body longer count filed after written e lined is many =
      let logged : max b.logged 0 ≡ b.logged = grind arith in
      let landed : after ≡ land (rules_of r) (sweeps tick) [] b =
      is ∙ (ap (λ (n : ℕ). record (swept tick b) { length = n; file = filed }) e
      ∙ (ap (λ (f : File). record (swept tick b) { length = b.length + (record_length (sweeps tick) None + 5); file = f }) lined
      ∙ ap (λ (n : ℕ). record (land (rules_of r) (sweeps tick) [] b) { logged = n }) (sym logged))) in
      let told : freed tick b ≡ count = sym (many ∙ ap (λ (c : Book). length b.instances - length c.instances) is) in
      let comes = landed_sweep r b tick late free (not_refused b.length (record_length (sweeps tick) None) written.short) in
      record {
        step = λ nonce. comes.step nonce ∙ (ap (λ (n : ℕ). (step.swept n, land (rules_of r) (sweeps tick) [] b)) told ∙ ap (λ (c : Book). (step.swept count, c)) (sym landed));
        landed = comes.landed;
      }

-- scripts stay whole after a sweep
pub swept_whole : (tick : ℕ) (b d : Book) → IsOrderly b → HasWholeScripts b → d.scripts ≡ b.scripts → d.instances ≡ instances_by b.scripts (sweeps tick) [] b.instances → HasWholeScripts d
swept_whole tick b d orderly whole same is = record {
  setup = subst AreWhole (sym same) whole.setup;
  instances = subst WholeIn (sym is) (whole_by b.scripts b.instances (sweeps tick) [] orderly.instances.apart whole.setup whole.instances);
}
