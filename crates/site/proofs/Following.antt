-- A shelf that follows another one's journal is as it was opened, after each event that may come.
use Rattle.std.proofs.Common.{◌≡◌, ⊎_elim, inl, inr, ℕ, ◌<◌, Bool, true, List, [], ◌∷◌, ◌++◌, Option, Some, None, Contains, length, sym, ◌∙◌, ap, subst}
use Rattle.std.proofs.lemmas.List.Elements.{Contains-push_cases}
use Rattle.std.specs.Prelude.{Result}
use Rattle.script_value.specs.Val.{Val}
use Rattle.script_value.specs.declared.outcome.Reply as answers
use Rattle.page_names.specs.Names.{Destination}
use Rattle.web_disk.specs.View.{View}
use Rattle.replay_spec.specs.Book.{Book, Doubt}
use Rattle.replay_spec.specs.Next as next
use Rattle.replay_spec.specs.Step.{Event, take, sweep, compact, Fate, Reply}
use Rattle.replay_spec.specs.Promises.{follower_reply, IsPutOff}
use Rattle.replay_spec.proofs.Following.{answers_no_visit}
use Rattle.shelf.specs.declared.shelf.Shelf.{Shelf}
use Rattle.shelf.specs.Events.{IsLeftAlone, LeavesDisk, LeavesItsDisk}
use Rattle.shelf.specs.Views as views
use Rattle.shelf.specs.Views.{IsEvent, book_in, rules_of, swept_of, compacted_of}
use Rattle.shelf.proofs.Quiet.{untouched}
use Rattle.history_spec.specs.Histories.{Entry, Owes}
use Rattle.history_spec.specs.Laws.{tickets_taken}
use Rattle.history_spec.specs.Following.{IsFollowers, IsAnsweredSo}
use Rattle.history_spec.proofs.Members.{contains_none}
use Rattle.site.specs.declared.opening.Opening.{Opening}
use Rattle.site.specs.Entries.{entry}
use Rattle.site.specs.Openings.{start_of, source_of}
use Rattle.site.specs.Sound.{IsSound, StaysAsOpened}
use Rattle.site.proofs.Outs.{owed_out}
use Rattle.site.proofs.Sounds.{stepped}

-- what is put off is answered so, and changes nothing
put_off : (b c : Book) (fate : Fate) (came : Reply × Book) (r : Reply) → came ≡ (r, c) → IsPutOff b fate came b → IsFollowers b r × (c ≡ b)
put_off b c fate came r is h =
    let reply : r ≡ came.0 = sym (ap (λ (x : Reply × Book). x.0) is) in
    (⊎_elim (λ e. inl (reply ∙ e)) (λ want. inr (reply ∙ want.0)) h.0, sym (ap (λ (x : Reply × Book). x.1) is) ∙ h.1)

alone_by : (o : Option Doubt) (old new : View) → LeavesDisk old new (follower_reply o) → IsLeftAlone old new
alone_by None old new h = h
alone_by (Some doubt) old new h = h

-- what is answered so leaves the disk alone
left_alone : (b : Book) (old new : View) (r : Reply) → IsFollowers b r → LeavesDisk old new r → IsLeftAlone old new
left_alone b old new r (inl e) h = alone_by b.down old new (subst (LeavesDisk old new) e h)
left_alone b old new r (inr e) h = subst (LeavesDisk old new) e h

both_alone : (u v w : View) → IsLeftAlone u v → IsLeftAlone v w → IsLeftAlone u w
both_alone u v w first last = record {
  faults = last.faults ∙ first.faults;
  seen = last.seen ∙ first.seen;
  images = λ image left. first.images image (last.images image left);
}

module _ {D N : Type 0} (view : D → View) (tells : Bool) (coming : N → ℕ → ℕ) (o : Opening D N) (s t : Shelf D N) (es : List Entry)
    (p : IsSound view tells coming o s es) (f : (start_of view o).book.follows ≡ true) where
  was : StaysAsOpened view tells coming o s es
  was = p.followed f

  follows_still : (book_in view s).follows ≡ true
  follows_still = ap (λ (b : Book). b.follows) was.book ∙ f

  -- one entry more
  grows : (caller : ℕ) (event : Event) (r : Reply) → IsAnsweredSo (book_in view s) event r → book_in view t ≡ book_in view s
      → IsLeftAlone (view s.journal.disk) (view t.journal.disk) → StaysAsOpened view tells coming o t (es ++ entry caller event r ∷ [])
  grows caller event r answered same alone =
      let e : Entry = entry caller event r in
      let start : Book = (start_of view o).book in
      let here : IsAnsweredSo start event r = subst (λ (b : Book). IsAnsweredSo b event r) was.book answered in
      record {
        book = same ∙ was.book;
        nothing = record {
          answered = λ d there. elim (Contains-push_cases es e d there) [
            | inl old ↦ was.nothing.answered d old
            | inr is ↦ subst (λ (x : Entry). IsAnsweredSo start x.event x.reply) is here
          ];
          alone = both_alone (view o.shelf.value.journal.disk) (view s.journal.disk) (view t.journal.disk) was.nothing.alone alone;
        };
      }

  abbrev nonce : ℕ
  nonce = source_of coming o (length (tickets_taken es))

  pub take_stays : (caller : ℕ) (target : Destination) (answer : Val) (r : Reply) → IsEvent view coming s t (take target answer) r → t.journal ≡ s.journal
      → StaysAsOpened view tells coming o t (es ++ entry caller (take target answer) r ∷ [])
  take_stays caller target answer r does journal =
      let off = put_off (book_in view s) (book_in view t) (views.fate_by r) _ r (stepped view tells coming o s t es p (take target answer) r does)
      ((answers_no_visit (rules_of s.rules) (book_in view s) nonce (views.fate_by r) follows_still).0 target answer) in
      grows caller (take target answer) r off.0 off.1 (subst (λ j. IsLeftAlone (view s.journal.disk) (view j.disk)) (sym journal) (untouched (view s.journal.disk)))

  pub sweep_stays : (caller tick : ℕ) (result : Result ℕ answers.Reply) → (book_in view s).clock < tick → IsEvent view coming s t (sweep tick) (swept_of result)
      → LeavesItsDisk view s t (swept_of result) → StaysAsOpened view tells coming o t (es ++ entry caller (sweep tick) (swept_of result) ∷ [])
  sweep_stays caller tick result early does leaves =
      let r = swept_of result in
      let off = put_off (book_in view s) (book_in view t) (views.fate_by r) _ r (stepped view tells coming o s t es p (sweep tick) r does)
      ((answers_no_visit (rules_of s.rules) (book_in view s) nonce (views.fate_by r) follows_still).2 tick early) in
      grows caller (sweep tick) r (inr off.0) off.1 (left_alone (book_in view s) (view s.journal.disk) (view t.journal.disk) r off.0 leaves)

  pub compact_stays : (caller : ℕ) (result : Result ℕ answers.Reply) → IsEvent view coming s t compact (compacted_of result)
      → LeavesItsDisk view s t (compacted_of result) → StaysAsOpened view tells coming o t (es ++ entry caller compact (compacted_of result) ∷ [])
  compact_stays caller result does leaves =
      let r = compacted_of result in
      let off = put_off (book_in view s) (book_in view t) (views.fate_by r) _ r (stepped view tells coming o s t es p compact r does)
      ((answers_no_visit (rules_of s.rules) (book_in view s) nonce (views.fate_by r) follows_still).3) in
      grows caller compact r off.0 off.1 (left_alone (book_in view s) (view s.journal.disk) (view t.journal.disk) r off.0 leaves)

  -- nobody has a ticket of it
  pub none_owed : (caller : ℕ) (u : next.Ticket) → Owes caller u es → ⊥
  none_owed caller u owes =
      let none : (book_in view s).out ≡ [] = ap (λ (b : Book). b.out) was.book ∙ p.opened.idle in
      contains_none u.number (subst (λ (l : List ℕ). Contains l u.number) none (owed_out (book_in view s).out es caller u p.out owes))
