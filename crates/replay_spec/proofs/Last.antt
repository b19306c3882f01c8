-- The journal is asked last.
use Rattle.std.proofs.Common.{◌≡◌, ℕ, List, [], length, Option, Some, None, refl}
use Rattle.script_value.specs.declared.outcome.TxName.{TxName}
use Rattle.replay_spec.specs.Tape.{present, Outcome, paged}
use Rattle.replay_spec.specs.Tape as tape
use Rattle.replay_spec.specs.Eval.{Segment}
use Rattle.replay_spec.specs.Book.{Change, Book}
use Rattle.replay_spec.specs.Rules.{Journal, Rules}
use Rattle.replay_spec.specs.Admission.{Admission, begins, resumes, refused, admit}
use Rattle.replay_spec.specs.Next.{Ticket, Visit, url_for, comes_to, start_visit, page_visit}
use Rattle.replay_spec.specs.Step.{Reply, Decision, unless, barred, reply_by, full, with_room, change_by, stopped, gone_for, decide}
use Rattle.replay_spec.specs.Remade.{through, JournalIsLast}

unless_last : (journal : Option Journal) (b : Book) (o : Option Reply) (d e : Decision) → d ≡ through journal b e → unless o d ≡ through journal b (unless o e)
unless_last journal b None d e h = h
unless_last journal b (Some r) d e h = refl

-- these rules without a journal
abbrev pub without : Rules → Rules
without rules = record rules { journal = None }

room_last : (rules : Rules) (b : Book) (r : Reply) (inside : List TxName) (o : Option Change) → with_room rules b r inside o ≡ through rules.journal b (with_room (without rules) b r inside o)
room_last rules b r inside None = refl
room_last rules b r inside (Some c) = refl

stopped_last : (rules : Rules) (b : Book) (gone : List ℕ) (v : Visit) (s : Segment) (o : Outcome) → stopped rules b gone v s o ≡ through rules.journal b (stopped (without rules) b gone v s o)
stopped_last rules b gone v s (paged how bytes) =
    let c = change_by rules b gone v s v.origin how in
    let r = reply_by how bytes (url_for v) in
    unless_last rules.journal b (full rules how v.origin (length b.instances)) (with_room rules b r s.entered c) (with_room (without rules) b r s.entered c) (room_last rules b r s.entered c)
stopped_last rules b gone v s (tape.faulted f) = refl
stopped_last rules b gone v s (tape.out_of_fuel cost) = refl

decided_last : (rules : Rules) (b : Book) (t : Ticket) (a : Admission) → decide rules b t a ≡ through rules.journal b (decide (without rules) b t a)
decided_last rules b t (begins k s) =
    let v = start_visit b t k s in
    let m = comes_to v (present s.script.cells rules.fuel) in
    stopped_last rules b [] v m m.outcome
decided_last rules b t (resumes at) =
    let v = page_visit b t at in
    let m = comes_to v (present at.instance.cells rules.fuel) in
    stopped_last rules b (gone_for rules t at) v m m.outcome
decided_last rules b t (refused r) = refl

pub last : JournalIsLast
last rules b t = unless_last rules.journal b (barred b) _ _ (decided_last rules b t (admit b t.target))
