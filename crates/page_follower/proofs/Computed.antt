-- What a follower did with known bytes is what following computes from them.
use Rattle.std.proofs.Common.{◌≡◌, ◌≤◌, ◌+◌, ◌++◌, ◌∷◌, ◌∙◌, ℕ, zero, suc, Bool, List, [], Some, None, length, arith, sym, ap, refl, subst, append_assoc, append-nil, length-append}
use Rattle.std.specs.Io.KnownBytes.{Appends}
use Rattle.std.proofs.KnownBytes.{Appends-nil}
use Rattle.shelf.specs.WebOutside.View.{SourceView, SinkView}
use Rattle.shelf.proofs.WebOutside.Writes.{appends_then}
use Rattle.shelf.specs.JournalRecords.Roles.{feed_of}
use Rattle.page_follower.specs.Acks.{ack_line, acks_behind}
use Rattle.page_follower.specs.Comparing.{Compares, Progress}
use Rattle.page_follower.specs.Computed.{AdmitsEach, FollowingIsComputed, IsComputed, RefusesNext, does, nothing_told, outcome_for}
use Rattle.page_follower.specs.Feed.{Feed, complete, cut, ends_so, fed, feed_in, headless, most_of_feed, with_record}
use Rattle.page_follower.specs.Following.{Outcome, cut_at, differs_at, followed, follows, held_all, no_head, refused_at}
use Rattle.page_follower.specs.Held.{Begins, Feeds, Follows, HasAcked, HasAdopted, HasCompared, StopsAdopting, StopsComparing, adopted, compared, fed_behind, unread}
use Rattle.page_follower.specs.Held as held_by
use Rattle.page_follower.specs.Moments.{Offer, no_record}
use Rattle.page_follower.specs.declared.fault.FeedFault.TheVariants as fault
use Rattle.page_follower.specs.declared.fault.FollowEnd.{FollowEnd}
use Rattle.page_follower.specs.declared.fault.FollowEnd.TheVariants as end
use Rattle.page_follower.proofs.Followed.{adopted_so, compared_so, cut_head_in, differs_here, ends_here, no_head_in, refused_here}
use Rattle.page_follower.proofs.Parsed.{StandsAt, acked_at, at_end, begun_at, fed_append, finds_body, finds_cut, finds_end, finds_past, in_front_append, left_behind}

-- the lines of some records, and then of others
acks_join : (done n m : ℕ) → acks_behind done (n + m) ≡ acks_behind done n ++ acks_behind (done + n) m
acks_join done zero m = ap (λ k. acks_behind done k) (let e : zero + m ≡ m = omega arith in e) ∙ ap (λ d. acks_behind d m) (let e : done ≡ done + 0 = omega arith in e)
acks_join done (suc n) m =
    ap (acks_behind done) (let e : suc n + m ≡ suc (n + m) = omega arith in e)
    ∙ ap (λ l. ack_line (done + 1) ++ l) (acks_join (done + 1) n m)
    ∙ sym (append_assoc (ack_line (done + 1)) (acks_behind (done + 1) n) (acks_behind (done + 1 + n) m))
    ∙ ap (λ d. (ack_line (done + 1) ++ acks_behind (done + 1) n) ++ acks_behind d m) (let e : done + 1 + n ≡ done + suc n = omega arith in e)

-- ---- ends among the records that are held

-- what is told where following ended at a record that is held, or where the feed ended
abbrev Compared : (bytes : List ℕ) → (held same : List (List ℕ)) → (mid new : Progress) → Outcome → Type 0
Compared bytes held same mid new o =
    (new.sink ≡ mid.sink) × ((admits : List (List ℕ) → List ℕ → Bool) → followed admits held (feed_in bytes) ≡ does (length same) [] o)

by_compare : (bytes : List ℕ) (held same rest : List (List ℕ)) (h : List ℕ) (mid new : Progress) (e : FollowEnd) (o : Outcome)
    → length bytes ≤ most_of_feed → held ≡ same ++ h ∷ rest → StandsAt bytes mid same → Compares mid new h (Some e) → outcome_for e ≡ Some o
    → Compared bytes held same mid new o
by_compare bytes held same rest h mid new end.Held o fits all s c is = subst (Compared bytes held same mid new) (let x : held_all ≡ o = cc is in x) (
  c.tells.sink,
  λ admits. compared_so admits held same (h ∷ rest) bytes (ends_so complete) held_all all (finds_end bytes mid new same fits s c)
      (ends_here admits same (h ∷ rest) (8 + length (fed same)) complete),
)
by_compare bytes held same rest h mid new end.Promoted o fits all s c is = absurd c
by_compare bytes held same rest h mid new (end.Feed fault.Head) o fits all s c is = absurd c.none
by_compare bytes held same rest h mid new (end.Feed (fault.Cut p)) o fits all s c is = subst (Compared bytes held same mid new) (ap cut_at (sym c.none.0) ∙ (let x : cut_at p ≡ o = cc is in x)) (
  c.tells.sink,
  λ admits. compared_so admits held same (h ∷ rest) bytes (ends_so (cut mid.place)) (cut_at mid.place) all (finds_cut bytes mid new same fits s c.none.1)
      (ends_here admits same (h ∷ rest) (8 + length (fed same)) (cut mid.place)),
)
by_compare bytes held same rest h mid new (end.Feed fault.Long) o fits all s c is = absurd (finds_past bytes mid new same fits s c.none)
by_compare bytes held same rest h mid new (end.Feed fault.Failed) o fits all s c is = absurd (cc is)
by_compare bytes held same rest h mid new (end.Feed fault.Memory) o fits all s c is = absurd (cc is)
by_compare bytes held same rest h mid new (end.Other p) o fits all s c is = subst (Compared bytes held same mid new) (ap differs_at (sym (c.place_is ∙ s.place)) ∙ (let x : differs_at p ≡ o = cc is in x)) (
  c.tells.sink,
  λ admits.
      let found = finds_body bytes mid new same c.came.body fits s c.came.came in
      compared_so admits held same (h ∷ rest) bytes (with_record c.came.body found.0) (differs_at (8 + length (fed same))) all found.1
      (differs_here admits same rest h c.came.body (8 + length (fed same)) found.0 c.came.other),
)
by_compare bytes held same rest h mid new (end.Record p) o fits all s c is = absurd c
by_compare bytes held same rest h mid new (end.Full n) o fits all s c is = absurd c
by_compare bytes held same rest h mid new end.DiskFault o fits all s c is = absurd c
by_compare bytes held same rest h mid new end.Unwritten o fits all s c is = absurd (cc is)
by_compare bytes held same rest h mid new end.Memory o fits all s c is = absurd c

-- ---- ends after them

-- what is told where following ended after the records that are held
abbrev Adopted : (bytes : List ℕ) → (held fed_before more holds : List (List ℕ)) → (offer : Offer) → (mid new : Progress) → Outcome → Type 0
Adopted bytes held fed_before more holds offer mid new o =
    (new.sink ≡ mid.sink) × (holds ≡ held ++ more)
    × ((admits : List (List ℕ) → List ℕ → Bool) → AdmitsEach admits fed_before more → RefusesNext admits (fed_before ++ more) offer o
    → followed admits fed_before (feed_in bytes) ≡ does (length fed_before + length more) more o)

by_adopt : (bytes : List ℕ) (held before more holds : List (List ℕ)) (offer : Offer) (mid new : Progress) (e : FollowEnd) (o : Outcome)
    → length bytes ≤ most_of_feed → StandsAt bytes mid (before ++ more) → StopsAdopting mid new offer (held ++ more) holds e → outcome_for e ≡ Some o
    → Adopted bytes held before more holds offer mid new o
by_adopt bytes held before more holds offer mid new end.Held o fits s c is = subst (Adopted bytes held before more holds offer mid new) (let x : held_all ≡ o = cc is in x) (
  c.ended.tells.sink,
  c.stays,
  λ admits each refuses. adopted_so admits before more bytes (ends_so complete) held_all
      (finds_end bytes mid new (before ++ more) fits s c.ended ∙ in_front_append before more (ends_so complete)) each
      (ends_here admits (before ++ more) [] (8 + length (fed before) + length (fed more)) complete),
)
by_adopt bytes held before more holds offer mid new end.Promoted o fits s c is = absurd c
by_adopt bytes held before more holds offer mid new (end.Feed fault.Head) o fits s c is = absurd c.finds.none
by_adopt bytes held before more holds offer mid new (end.Feed (fault.Cut p)) o fits s c is =
    subst (Adopted bytes held before more holds offer mid new) (ap cut_at (sym c.finds.none.0) ∙ (let x : cut_at p ≡ o = cc is in x)) (
      c.finds.tells.sink,
      c.stays,
      λ admits each refuses. adopted_so admits before more bytes (ends_so (cut mid.place)) (cut_at mid.place)
          (finds_cut bytes mid new (before ++ more) fits s c.finds.none.1 ∙ in_front_append before more (ends_so (cut mid.place))) each
          (ends_here admits (before ++ more) [] (8 + length (fed before) + length (fed more)) (cut mid.place)),
    )
by_adopt bytes held before more holds offer mid new (end.Feed fault.Long) o fits s c is =
    absurd (finds_past bytes mid new (before ++ more) fits s c.finds.none)
by_adopt bytes held before more holds offer mid new (end.Feed fault.Failed) o fits s c is = absurd (cc is)
by_adopt bytes held before more holds offer mid new (end.Feed fault.Memory) o fits s c is = absurd (cc is)
by_adopt bytes held before more holds offer mid new (end.Other p) o fits s c is = absurd c
by_adopt bytes held before more holds offer mid new (end.Record p) o fits s c is =
    let l = ap length (fed_append before more) in
    let m = length-append (fed before) (fed more) in
    let here : mid.place ≡ 8 + length (fed before) + length (fed more) = let q = s.place in omega arith in
    subst (Adopted bytes held before more holds offer mid new) (ap refused_at (sym (c.0 ∙ here)) ∙ (let x : refused_at p ≡ o = cc is in x)) (
      c.1.tells.sink,
      c.1.stays,
      λ admits each refuses.
          let found = finds_body bytes mid new (before ++ more) c.1.body fits s c.1.came in
          adopted_so admits before more bytes (with_record c.1.body found.0) (refused_at (8 + length (fed before) + length (fed more)))
          (found.1 ∙ in_front_append before more (with_record c.1.body found.0)) each
          (refused_here admits (before ++ more) c.1.body (8 + length (fed before) + length (fed more)) found.0 (refuses _ c.1.body refl c.1.offers)),
    )
by_adopt bytes held before more holds offer mid new (end.Full n) o fits s c is = absurd (cc is)
by_adopt bytes held before more holds offer mid new end.DiskFault o fits s c is = absurd (cc is)
by_adopt bytes held before more holds offer mid new end.Unwritten o fits s c is = absurd (cc is)
by_adopt bytes held before more holds offer mid new end.Memory o fits s c is = absurd (cc is)

-- ---- the whole feed

-- where all that are held were compared and following goes on, they were acknowledged
all_acked : (begun between : Progress) (bodies : List (List ℕ)) → HasCompared begun between bodies → between.ending ≡ None → HasAcked begun between bodies
all_acked begun between bodies c goes = by_rest c.rest c.all (subst (StopsComparing c.mid between c.rest) goes c.stops)
  where
    by_rest : (rest : List (List ℕ)) → bodies ≡ c.same ++ rest → StopsComparing c.mid between rest None → HasAcked begun between bodies
    by_rest [] all stays =
        subst (HasAcked begun between) (sym (all ∙ append-nil c.same)) (subst (λ p. HasAcked begun p c.same) (sym stays) c.acked)
    by_rest (h ∷ rest) all stays = absurd stays

module _ (source : SourceView) (sink : SinkView) (held holds : List (List ℕ)) (bytes : List ℕ) (e : FollowEnd) (o : Outcome) (fits : length bytes ≤ most_of_feed)
    (is : outcome_for e ≡ Some o) where
  -- following ended at a record that is held
  by_held : (begun new : Progress) → Begins source sink begun None → StandsAt bytes begun [] → HasCompared begun new (feed_of held) → new.ending ≡ Some e
      → holds ≡ held → IsComputed bytes held holds sink.written new.sink.written o
  by_held begun new begins s c ends same = by_rest c.rest c.all (subst (StopsComparing c.mid new c.rest) ends c.stops)
    where
      by_rest : (rest : List (List ℕ)) → feed_of held ≡ c.same ++ rest → StopsComparing c.mid new rest (Some e)
          → IsComputed bytes held holds sink.written new.sink.written o
      by_rest [] all stops = absurd stops
      by_rest (h ∷ rest) all stops =
          let told = by_compare bytes (feed_of held) c.same rest h c.mid new e o fits all (acked_at bytes begun c.mid [] c.same s c.acked) stops is in record {
            adopted = [];
            acks = length c.same;
            offer = no_record;
            grows = same ∙ sym (append-nil held);
            acknowledges = subst (λ v. Appends sink.written v.written (acks_behind 0 (length c.same))) (sym told.0)
                (subst (λ n. Appends sink.written c.mid.sink.written (acks_behind n (length c.same))) begins.1.1
                (subst (λ v. Appends v.written c.mid.sink.written (acks_behind begun.acks (length c.same))) begins.1.0 c.acked.written));
            is = λ admits each refuses. told.1 admits;
          }

  -- following ended after them
  by_adopted : (begun between new : Progress) → Begins source sink begun None → StandsAt bytes begun [] → HasCompared begun between (feed_of held)
      → between.ending ≡ None → HasAdopted nothing_told between new held holds e → IsComputed bytes held holds sink.written new.sink.written o
  by_adopted begun between new begins s c goes a =
      let all = all_acked begun between (feed_of held) c goes in
      let told = by_adopt bytes held (feed_of held) a.more holds a.offer a.mid new e o fits
      (acked_at bytes between a.mid (feed_of held) a.more (acked_at bytes begun between [] (feed_of held) s all) a.acked) a.stops is in record {
        adopted = a.more;
        acks = length (feed_of held) + length a.more;
        offer = a.offer;
        grows = told.1;
        acknowledges = subst (λ v. Appends sink.written v.written (acks_behind 0 (length (feed_of held) + length a.more))) (sym told.0)
            (subst (Appends sink.written a.mid.sink.written) (sym (acks_join 0 (length (feed_of held)) (length a.more)))
            (appends_then sink.written between.sink.written a.mid.sink.written (acks_behind 0 (length (feed_of held)))
            (acks_behind (0 + length (feed_of held)) (length a.more))
            (subst (λ n. Appends sink.written between.sink.written (acks_behind n (length (feed_of held)))) begins.1.1
            (subst (λ v. Appends v.written between.sink.written (acks_behind begun.acks (length (feed_of held)))) begins.1.0 all.written))
            (subst (λ n. Appends between.sink.written a.mid.sink.written (acks_behind n (length a.more)))
            (all.acks ∙ ap (λ n. n + length (feed_of held)) begins.1.1) a.acked.written)));
        is = told.2;
      }

  -- nothing was done
  nothing_done : (new : Progress) (x : Outcome) → x ≡ o → new.sink ≡ sink → holds ≡ held → (feed : Feed) → feed_in bytes ≡ feed
      → ((admits : List (List ℕ) → List ℕ → Bool) → follows admits [] (feed_of held) 8 feed.bodies feed.ends ≡ does 0 [] x)
      → IsComputed bytes held holds sink.written new.sink.written o
  nothing_done new x same quiet stays feed all ends = record {
    adopted = [];
    acks = 0;
    offer = no_record;
    grows = stays ∙ sym (append-nil held);
    acknowledges = subst (λ v. Appends sink.written v.written []) (sym quiet) (Appends-nil sink.written);
    is = λ admits each refuses. ap (followed admits (feed_of held)) all ∙ ends admits ∙ ap (does 0 []) same;
  }

  -- there was no head
  by_none : (new : Progress) (f : FollowEnd) → f ≡ e → source.left ≡ Some bytes → Begins source sink new (Some f) → holds ≡ held
      → IsComputed bytes held holds sink.written new.sink.written o
  by_none new end.Held same known b stays = absurd b
  by_none new end.Promoted same known b stays = absurd b
  by_none new (end.Feed fault.Head) same known b stays =
      let l = left_behind source.left new.source.left bytes b.0.bytes known b.0.consumed in
      nothing_done new no_head (let h : outcome_for (end.Feed fault.Head) ≡ Some o = ap outcome_for same ∙ is in cc h) b.1.0 stays (ends_so headless)
      (no_head_in bytes b.0.bytes l.0 fits l.2 b.0.other b.0.no_front) (λ admits. ends_here admits [] (feed_of held) 8 headless)
  by_none new (end.Feed (fault.Cut p)) same known b stays =
      let l = left_behind source.left new.source.left bytes b.0.1.rest known b.0.1.consumed in
      let all : bytes ≡ b.0.1.rest = l.2 ∙ ap (λ r. b.0.1.rest ++ r) (at_end new.source.left l.0 l.1 b.0.1.end) ∙ append-nil b.0.1.rest in
      nothing_done new (cut_at 0) (ap cut_at (sym b.0.0) ∙ (let h : outcome_for (end.Feed (fault.Cut p)) ≡ Some o = ap outcome_for same ∙ is in cc h)) b.1.0 stays (ends_so (cut 0))
      (cut_head_in bytes b.0.1.missing fits (b.0.1.is ∙ ap (λ r. r ++ b.0.1.missing) (sym all)) b.0.1.some)
      (λ admits. ends_here admits [] (feed_of held) 8 (cut 0))
  by_none new (end.Feed fault.Long) same known b stays = absurd b.0
  by_none new (end.Feed fault.Failed) same known b stays =
      absurd (let h : outcome_for (end.Feed fault.Failed) ≡ Some o = ap outcome_for same ∙ is in cc h)
  by_none new (end.Feed fault.Memory) same known b stays = absurd b.0
  by_none new (end.Other p) same known b stays = absurd b
  by_none new (end.Record p) same known b stays = absurd b
  by_none new (end.Full n) same known b stays = absurd b
  by_none new end.DiskFault same known b stays = absurd b
  by_none new end.Unwritten same known b stays = absurd b
  by_none new end.Memory same known b stays = absurd b

pub following_is_computed : FollowingIsComputed
following_is_computed source left sink told held holds bytes e o known fits h is =
    subst (λ v. IsComputed bytes held holds sink.written v.written o) (sym h.sink_is) (by_follows h.new h.follows)
  where
    by_feeds : (begun new : Progress) → Begins source sink begun None → Feeds nothing_told begun new held holds e
        → IsComputed bytes held holds sink.written new.sink.written o
    by_feeds begun new begins (unread done rest all compares d none) =
        absurd (let x : outcome_for end.DiskFault ≡ Some o = ap outcome_for (sym d) ∙ is in cc x)
    by_feeds begun new begins (compared compares ends none) =
        by_held source sink held holds bytes e o fits is begun new begins (begun_at source sink begun bytes known begins) compares ends none.0
    by_feeds begun new begins (adopted between compares goes a) =
        by_adopted source sink held holds bytes e o fits is begun between new begins (begun_at source sink begun bytes known begins) compares goes a

    by_follows : (new : Progress) → Follows nothing_told source sink held holds new e → IsComputed bytes held holds sink.written new.sink.written o
    by_follows new (held_by.headless begins none) = by_none source sink held holds bytes e o fits is new e refl known begins none.0
    by_follows new (fed_behind begun begins fed) = by_feeds begun new begins fed
