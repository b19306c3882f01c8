-- What exporting the records of a journal comes to.
use Rattle.std.proofs.Common.{◌≡◌, ◌≤◌, ◌++◌, ◌∙◌, ℕ, Bool, true, false, List, [], ◌∷◌, Result, Ok, Err, OnOk, arith, append_assoc, sym, ap, refl, subst}
use Rattle.std.specs.Io.KnownBytes.{Appends, Keeps}
use Rattle.shelf.specs.WebOutside.View.{SinkView}
use Rattle.shelf.specs.WebOutside.Pieces.{AppendsPart, HandsOn}
use Rattle.shelf.specs.WebOutside.Causes.{Rose}
use Rattle.shelf.proofs.WebOutside.Writes.{appends_then, appends_kept, then_part, longer_part, whole_part}
use Rattle.shelf.specs.WebDisk.View.{View}
use Rattle.shelf.specs.PageJournal.Records.{framed}
use Rattle.shelf.specs.PageJournal.Taken.{TakesAll}
use Rattle.shelf.specs.JournalRecords.Roles.{feed_of, is_role}
use Rattle.page_follower.specs.Feed.{fed, feed_head, feed_with}
use Rattle.page_follower.specs.Sending.{SenderTakes, Writes, WritesPart, WritesUnless}
use Rattle.page_follower.specs.Causes.{HasExportCauses, IsExportCausedBy}
use Rattle.page_follower.specs.Exporting.{Exports, SendsAll, WritesSome}
use Rattle.page_follower.specs.declared.exporting.ExportFault.{ExportFault}
use Rattle.page_follower.specs.declared.exporting.ExportFault.TheVariants as fault
use Rattle.page_follower.specs.declared.sender.Sender.{Sender}
use Rattle.page_follower.proofs.Names.{kept_by_all}
use Rattle.page_follower.proofs.Taken.{feed_without, feed_with_it, sent_each}

-- a record, by whether it is of the feed: the feed with it begins with that of it and of those that follow
front_by_role : (body : List ℕ) (done rest : List (List ℕ)) (more : List ℕ) (r : Bool) → is_role body ≡ r
    → fed (feed_of (done ++ rest)) ≡ fed (feed_of done) ++ more → fed (feed_of (body ∷ (done ++ rest))) ≡ fed (feed_of (body ∷ done)) ++ more
front_by_role body done rest more true role later =
    ap fed (feed_without body (done ++ rest) role) ∙ later ∙ ap (λ l. fed l ++ more) (sym (feed_without body done role))
front_by_role body done rest more false role later =
    ap fed (feed_with_it body (done ++ rest) role) ∙ ap (λ l. framed body ++ l) later ∙ sym (append_assoc (framed body) (fed (feed_of done)) more)
    ∙ ap (λ l. fed l ++ more) (sym (feed_with_it body done role))

-- what stands in the feed of records after the first of them
feed_behind : (done rest : List (List ℕ)) → List ℕ
feed_behind [] rest = fed (feed_of rest)
feed_behind (body ∷ done) rest = feed_behind done rest

-- the feed of records begins with that of the first of them
feed_in_front : (done rest : List (List ℕ)) → fed (feed_of (done ++ rest)) ≡ fed (feed_of done) ++ feed_behind done rest
unfolding feed_behind
feed_in_front [] rest = refl
feed_in_front (body ∷ done) rest = front_by_role body done rest (feed_behind done rest) (is_role body) refl (feed_in_front done rest)

-- the first records of a journal were sent, and no write failed
pub sent_some : (old new : SinkView) (bodies done rest : List (List ℕ)) → bodies ≡ done ++ rest → Writes old new (fed (feed_of done))
    → WritesSome old new (fed (feed_of bodies))
sent_some old new bodies done rest is p =
    let whole : fed (feed_of done) ++ feed_behind done rest ≡ fed (feed_of bodies) = sym (feed_in_front done rest) ∙ ap (λ l. fed (feed_of l)) (sym is) in
    record {
      written = subst (AppendsPart old.written new.written) whole
          (longer_part old.written new.written (fed (feed_of done)) (feed_behind done rest) (whole_part old.written new.written (fed (feed_of done)) p.written));
      later = p.later;
    }

-- the first records of a journal were sent, the last of them in part
pub sent_part : (old new : SinkView) (bodies done rest : List (List ℕ)) → bodies ≡ done ++ rest → WritesPart old new (fed (feed_of done))
    → WritesPart old new (fed (feed_of bodies))
sent_part old new bodies done rest is p =
    let whole : fed (feed_of done) ++ feed_behind done rest ≡ fed (feed_of bodies) = sym (feed_in_front done rest) ∙ ap (λ l. fed (feed_of l)) (sym is) in
    record {
      written = subst (AppendsPart old.written new.written) whole
          (longer_part old.written new.written (fed (feed_of done)) (feed_behind done rest) p.written);
      later = p.later;
      rose = p.rose;
    }

-- the records that a sender took were sent
pub sent_by : {O : Type 0} (view : O → SinkView) (bodies : List (List ℕ)) (old new : Sender O) (f : Bool) → old.failed ≡ false → new.failed ≡ f
    → TakesAll (SenderTakes view) old 8 bodies new → WritesUnless f (view old.sink.now) (view new.sink.now) (fed (feed_of bodies))
sent_by view bodies old new f is ends taken =
    subst (λ b. WritesUnless b (view old.sink.now) (view new.sink.now) (fed (feed_of bodies))) ends
    (sent_each (λ s. view s.sink.now) (λ s. s.failed) (SenderTakes view) (λ a b place body t. t.1) bodies 8 old new is taken)

-- a sender keeps its sink
pub same_sink : {O : Type 0} (view : O → SinkView) (bodies : List (List ℕ)) (old new : Sender O) → TakesAll (SenderTakes view) old 8 bodies new
    → new.sink.ghost_name ≡ old.sink.ghost_name
same_sink view bodies old new taken =
    kept_by_all (λ s. s.sink.ghost_name) (SenderTakes view) (λ a b place body t. t.0) bodies 8 old new taken

-- a head that could not be written whole, and nothing after it
pub no_head : (old new : SinkView) (bodies : List (List ℕ)) → AppendsPart old.written new.written feed_head → old.faults ≤ new.faults
    → Rose old.faults new.faults → WritesPart old new (feed_with (feed_of bodies))
no_head old new bodies part later rose = record {
  written = longer_part old.written new.written feed_head (fed (feed_of bodies)) part;
  later = later;
  rose = rose;
}

-- a head, and records after it of which some were not sent
pub not_all : (old mid new : SinkView) (bodies : List (List ℕ)) (f : ExportFault) → Appends old.written mid.written feed_head → old.faults ≤ mid.faults
    → SendsAll mid new bodies (Err f) → Exports old new bodies (Err f)
not_all old mid new bodies fault.DiskFault p later q = record {
  written = then_part old.written mid.written new.written feed_head (fed (feed_of bodies)) p q.written;
  later = let a = q.later in omega arith;
}
not_all old mid new bodies fault.Unwritten p later q = record {
  written = then_part old.written mid.written new.written feed_head (fed (feed_of bodies)) p q.written;
  later = let a = q.later in omega arith;
  rose = let a = q.rose in omega arith;
}

-- a head, and all records after it
whole_feed : (old mid end : SinkView) (bodies : List (List ℕ)) → Appends old.written mid.written feed_head → Writes mid end (fed (feed_of bodies))
    → Appends old.written end.written (feed_with (feed_of bodies))
whole_feed old mid end bodies p q = appends_then old.written mid.written end.written feed_head (fed (feed_of bodies)) p q.written

-- a whole feed that was handed on
pub exported : (old mid end new : SinkView) (bodies : List (List ℕ)) → Appends old.written mid.written feed_head → old.faults ≤ mid.faults
    → Writes mid end (fed (feed_of bodies)) → Keeps end.written new.written → end.faults ≤ new.faults → HandsOn new.written new.handed
    → Exports old new bodies (Ok tt)
exported old mid end new bodies p later q keeps risen handed = record {
  writes = record {
    written = appends_kept old.written end.written new.written (feed_with (feed_of bodies)) (whole_feed old mid end bodies p q) keeps;
    later = let a = q.later in omega arith;
  };
  handed = handed;
}

-- a whole feed that was not handed on
pub not_handed : (old mid end new : SinkView) (bodies : List (List ℕ)) → Appends old.written mid.written feed_head → old.faults ≤ mid.faults
    → Writes mid end (fed (feed_of bodies)) → Keeps end.written new.written → end.faults ≤ new.faults → Rose end.faults new.faults
    → WritesPart old new (feed_with (feed_of bodies))
not_handed old mid end new bodies p later q keeps risen rose = record {
  written = whole_part old.written new.written (feed_with (feed_of bodies))
      (appends_kept old.written end.written new.written (feed_with (feed_of bodies)) (whole_feed old mid end bodies p q) keeps);
  later = let a = q.later in omega arith;
  rose = let a = q.later in omega arith;
}

-- ---- what failed

-- records were sent, and no write failed
pub sent_on : (old new : SinkView) (v w : View) (bytes : List ℕ) → Writes old new bytes → HasExportCauses old new v w (Ok tt)
sent_on old new v w bytes p = record { later = p.later; caused = tt }

-- records were sent, and then a call of the disk failed
pub sent_failed : (old new : SinkView) (v w : View) (bytes : List ℕ) → Writes old new bytes → Rose v.faults w.faults
    → HasExportCauses old new v w (Err fault.DiskFault)
sent_failed old new v w bytes p rose = record { later = p.later; caused = rose }

-- records were sent in part, since a write failed
pub sent_short : (old new : SinkView) (v w : View) (bytes : List ℕ) → WritesPart old new bytes → HasExportCauses old new v w (Err fault.Unwritten)
sent_short old new v w bytes p = record { later = p.later; caused = p.rose }

-- nothing is promised of what was handed on where exporting was not done
pub not_done : (r : Result (Unit {0}) ExportFault) (f : ExportFault) (P : Type 0) → r ≡ Err f → OnOk r P
not_done (Ok t) f P is = absurd (cc is)
not_done (Err e) f P is = tt

-- writes, and then what ended exporting
pub writes_then : (old mid new : SinkView) (v w : View) (r : Result (Unit {0}) ExportFault) → old.faults ≤ mid.faults → HasExportCauses mid new v w r
    → HasExportCauses old new v w r
writes_then old mid new v w r later p = record { later = let a = p.later in omega arith; caused = by_result r p.caused }
  where
    by_result : (x : Result (Unit {0}) ExportFault) → IsExportCausedBy mid new v w x → IsExportCausedBy old new v w x
    by_result (Ok t) c = c
    by_result (Err fault.DiskFault) c = c
    by_result (Err fault.Unwritten) c = let rose : Rose mid.faults new.faults = c in omega arith
