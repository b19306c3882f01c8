-- The pages that a worker counts are the publishes of its caller that were answered with a page.
use Rattle.std.proofs.Common.{◌≡◌, ◌⊎◌, ℕ, zero, suc, ◌+◌, ◌≤◌, Bool, true, false, List, [], ◌∷◌, ◌++◌, length, Option, Some, None, slice_get, set, Result, Ok, Err, refl, ap, sym, ◌∙◌, subst, inl, inr, arith}
use Rattle.std.proofs.lemmas.Option.{slice_get_within}
use Rattle.web_disk.specs.View.{View}
use Rattle.web_outside.specs.View.{LinkView}
use Rattle.script_value.specs.Val.{Val}
use Rattle.script_value.specs.declared.outcome.Reply.{Reply}
use Rattle.script_value.specs.declared.outcome.Reply.TheVariants as replies
use Rattle.script_value.specs.declared.outcome.Refusal.TheVariants as refusals
use Rattle.page_names.specs.Names.{Destination}
use Rattle.replay_spec.specs.Step as step
use Rattle.site.specs.Shelves.{Ticket, ticket_of, reply_of, compacted_of}
use Rattle.history_spec.specs.Histories.{Entry, own_of}
use Rattle.history_spec.specs.Laws.{take_of}
use Rattle.history_spec.specs.Passes.{publish_of}
use Rattle.http_forms.specs.Passes as passes
use Rattle.http_forms.specs.Stream.{Stop, closed, refusal, pending, cut}
use Rattle.request_workers.specs.Counting.{Count, end_count}
use Rattle.request_workers.specs.Linking.{Exchange, IsUnserved, LastSweep, Linked, Passes, SweepsAll, SweepsBefore, Turned, Visited, counted, visited}
use Rattle.request_workers.specs.Serving.{Replies}
use Rattle.request_workers.specs.declared.link.LinkEnd.{LinkEnd}
use Rattle.request_workers.specs.declared.link.LinkEnd.TheVariants as ends
use Rattle.request_workers.specs.Working.{Turns, Works}
use Rattle.lock_row.specs.Spots.{Spot, spot, At, caller_at}
use Rattle.lock_row.proofs.Places.{get_there, one_of}
use Rattle.site.specs.declared.entry.KeptEntry.{KeptEntry}
use Rattle.site.specs.declared.opening.Opening.{Opening}
use Rattle.site.specs.declared.site.Site.{Site}
use Rattle.site.specs.Entries.{entry}
use Rattle.site.specs.Sound.{IsNoTicket}
use Rattle.site.specs.Passes.{Known, Spots, seen_by, has_freed, GoesFrom, Took, Published, Swept, Compacted, Follows, Ticked}
use Rattle.site.specs.Sites.{place_for, TakesOn, VisitsAt, Ticks}
use Rattle.site.specs.Rules.{TicksAs, site_rules}
use Rattle.site_serving.specs.Pages.{page_count, pages_in}

-- how many publishes of its own caller, of those answered with a page, a pass has seen at all shelves
abbrev pub own_pages : {D N : Type 0} → Spots D N → ℕ
own_pages [] = 0
own_pages (a ∷ pass) = pages_in (own_of a.known.caller (seen_by a.known)) + own_pages pass

pub pages_append : (xs ys : List Entry) → pages_in (xs ++ ys) ≡ pages_in xs + pages_in ys
pages_append [] ys = omega arith
pages_append (x ∷ xs) ys = let more = pages_append xs ys in omega arith

-- a reply counts as it is told
counts_as_told : (r : Reply) → (visited r).pages ≡ page_count (reply_of r)
counts_as_told (replies.Page bytes url) = refl
counts_as_told (replies.Finished bytes) = refl
counts_as_told (replies.Ended bytes) = refl
counts_as_told (replies.Refused refusals.Unknown) = refl
counts_as_told (replies.Refused refusals.Revoked) = refl
counts_as_told (replies.Refused (refusals.Closed name)) = refl
counts_as_told (replies.Refused (refusals.Evicted page)) = refl
counts_as_told (replies.Refused (refusals.Expired deadline)) = refl
counts_as_told (replies.Fault fault) = refl
counts_as_told (replies.Fuel cost) = refl
counts_as_told (replies.ShelfFull count) = refl
counts_as_told (replies.Oversize size) = refl
counts_as_told (replies.JournalFull size) = refl
counts_as_told (replies.DiskFault count) = refl
counts_as_told (replies.Down count) = refl
counts_as_told replies.Following = refl
counts_as_told replies.Worn = refl
counts_as_told replies.Memory = refl

no_ticket_counts : (r : Reply) → IsNoTicket r → (visited r).pages ≡ 0
no_ticket_counts (replies.Page bytes url) h = absurd h
no_ticket_counts (replies.Finished bytes) h = absurd h
no_ticket_counts (replies.Ended bytes) h = absurd h
no_ticket_counts (replies.Refused refusals.Unknown) h = refl
no_ticket_counts (replies.Refused refusals.Revoked) h = refl
no_ticket_counts (replies.Refused (refusals.Closed name)) h = refl
no_ticket_counts (replies.Refused (refusals.Evicted page)) h = refl
no_ticket_counts (replies.Refused (refusals.Expired deadline)) h = refl
no_ticket_counts (replies.Fault fault) h = absurd h
no_ticket_counts (replies.Fuel cost) h = absurd h
no_ticket_counts (replies.ShelfFull count) h = absurd h
no_ticket_counts (replies.Oversize size) h = absurd h
no_ticket_counts (replies.JournalFull size) h = absurd h
no_ticket_counts (replies.DiskFault count) h = absurd h
no_ticket_counts (replies.Down count) h = refl
no_ticket_counts replies.Following h = refl
no_ticket_counts replies.Worn h = refl
no_ticket_counts replies.Memory h = refl

module _ {D N : Type 0} where
  -- the caller's own pages at one shelf
  abbrev pages_at : Known D N → ℕ
  pages_at v = pages_in (own_of v.caller (seen_by v))

  -- what a step adds for its caller at a shelf
  record AddsAt (more : ℕ) (v w : Known D N) : Type 0 where
    pages : pages_at w ≡ pages_at v + more
    caller : w.caller ≡ v.caller

  -- what steps add for the caller of a pass
  pub record Adds (old new : Spots D N) (more : ℕ) : Type 0 where
    pub pages : own_pages new ≡ own_pages old + more
    pub caller : caller_at new ≡ caller_at old

  adds_none : (old new : Spots D N) → new ≡ old → Adds old new 0
  adds_none old new is = record { pages = (let e = ap own_pages is in omega arith); caller = ap caller_at is }

  adds_both : (old mid new : Spots D N) (one two sum : ℕ) → Adds old mid one → Adds mid new two → sum ≡ one + two → Adds old new sum
  adds_both old mid new one two sum a b is =
      record { pages = (let x = a.pages in let y = b.pages in omega arith); caller = b.caller ∙ a.caller }

  set_adds : (old : Spots D N) (k : ℕ) (a b : Spot (Opening D N) KeptEntry) (more : ℕ) → slice_get old k ≡ Some a → AddsAt more a.known b.known → Adds old (set old k b) more
  set_adds [] k a b more at adds = absurd (let no : ⊥ = cc at in no)
  set_adds (x ∷ xs) zero a b more at adds =
      let same : x ≡ a = one_of at in
      let eq = ap (λ (s : Spot (Opening D N) KeptEntry). pages_at s.known) same in
      let here = adds.pages in
      record { pages = omega arith; caller = adds.caller ∙ ap (λ (s : Spot (Opening D N) KeptEntry). s.known.caller) (sym same) }
  set_adds (x ∷ xs) (suc k) a b more at adds =
      let rest = (set_adds xs k a b more at adds).pages in record { pages = omega arith; caller = refl }

  at_adds : (k more : ℕ) (R : Known D N → Known D N → Type 0) (old new : Spots D N) → At k R old new → ((v w : Known D N) → R v w → AddsAt more v w) → Adds old new more
  at_adds k more R old new at adds =
      subst (λ p. Adds old p more) (sym at.3) (set_adds old k at.0 (spot at.0.table at.1) more at.2 (adds at.0.known at.1 at.4))

  -- shelves of which none got a page, and no further ones
  each_adds : (old new : Spots D N)
      → ((k : ℕ) (a : Spot (Opening D N) KeptEntry) → slice_get old k ≡ Some a → (w : Known D N) × (slice_get new k ≡ Some (spot a.table w)) × AddsAt 0 a.known w)
      → ((k : ℕ) → length old ≤ k → slice_get new k ≡ slice_get old k) → Adds old new 0
  each_adds [] [] each past = record { pages = refl; caller = refl }
  each_adds [] (y ∷ ys) each past = absurd (let e = past 0 (omega arith) in let no : ⊥ = cc e in no)
  each_adds (x ∷ xs) [] each past = absurd (let e = (each 0 x refl).1 in let no : ⊥ = cc e in no)
  each_adds (x ∷ xs) (y ∷ ys) each past =
      let first = each 0 x refl in
      let same : y ≡ spot x.table first.0 = one_of first.1 in
      let eq = ap (λ (s : Spot (Opening D N) KeptEntry). pages_at s.known) same in
      let here = first.2.pages in
      let rest = (each_adds xs ys (λ k a e. each (suc k) a e) (λ k le. past (suc k) (omega (arith, le)))).pages in
      record { pages = omega arith; caller = ap (λ (s : Spot (Opening D N) KeptEntry). s.known.caller) same ∙ first.2.caller }

module _ {D N : Type 0} (view : D → View) (tells : Bool) (coming : N → ℕ → ℕ) where
  goes_adds : (v w : Known D N) (added : List Entry) → GoesFrom view tells coming v added w → AddsAt (pages_in added) v w
  goes_adds v w added g =
      let same : w.caller ≡ v.caller = ap (λ (u : Known D N). u.caller) g.is in
      record {
        pages = ap (λ c. pages_in (own_of c (seen_by w))) same ∙ (ap pages_in g.grows.own ∙ pages_append (own_of v.caller (seen_by v)) added);
        caller = same;
      }

  took_adds : (v w : Known D N) (target : Destination) (answer : Val) (r : Result Ticket Reply) → Took view tells coming v target answer r w → AddsAt 0 v w
  took_adds v w target answer (Ok t) took = goes_adds v w (take_of v.caller (ticket_of t) ∷ []) took.goes
  took_adds v w target answer (Err r) (told, inl g) = goes_adds v w (entry v.caller (step.take target answer) (reply_of r) ∷ []) g
  took_adds v w target answer (Err r) (told, inr worn) = goes_adds v w [] worn.2

  -- a take that gave no ticket was answered with no page
  took_counts : (v w : Known D N) (target : Destination) (answer : Val) (r : Reply) → Took view tells coming v target answer (Err r) w → (visited r).pages ≡ 0
  took_counts v w target answer r took = no_ticket_counts r took.0

  published_adds : (v w : Known D N) (t : Ticket) (r : Reply) → Published view tells coming v t r w → AddsAt (visited r).pages v w
  published_adds v w t r (inl g) =
      subst (λ n. AddsAt n v w) (let told = counts_as_told r in let sum : page_count (reply_of r) + 0 ≡ (visited r).pages = omega arith in sum)
      (goes_adds v w (publish_of v.caller (ticket_of t) (reply_of r) ∷ []) g)
  published_adds v w t r (inr worn) = subst (λ x. AddsAt (visited x).pages v w) (sym worn.0) (goes_adds v w [] worn.2)

  swept_adds : (v w : Known D N) (tick : ℕ) (r : Result ℕ Reply) → Swept view tells coming v tick r w → AddsAt 0 v w
  swept_adds v w tick (Ok n) s = by_cases s.0
    where
      by_cases : GoesFrom view tells coming v (entry v.caller (step.sweep tick) (step.swept n) ∷ []) w ⊎ ((n ≡ 0) × GoesFrom view tells coming v [] w) → AddsAt 0 v w
      by_cases (inl g) = goes_adds v w (entry v.caller (step.sweep tick) (step.swept n) ∷ []) g
      by_cases (inr g) = goes_adds v w [] g.1
  swept_adds v w tick (Err r) (inl g) = goes_adds v w (entry v.caller (step.sweep tick) (reply_of r) ∷ []) g
  swept_adds v w tick (Err r) (inr worn) = goes_adds v w [] worn.2

  compacted_adds : (v w : Known D N) → Compacted view tells coming v w → AddsAt 0 v w
  compacted_adds v w (Compacted.compacted told g long) = goes_adds v w (entry v.caller step.compact (compacted_of told) ∷ []) g
  compacted_adds v w (Compacted.short g short) = goes_adds v w [] g
  compacted_adds v w (Compacted.worn g full) = goes_adds v w [] g

  follows_adds : (freed : Bool) (v w : Known D N) → Follows view tells coming freed v w → AddsAt 0 v w
  follows_adds true v w follows = compacted_adds v w follows
  follows_adds false v w same = record { pages = (let e = ap pages_at same in omega arith); caller = ap (λ (u : Known D N). u.caller) same }

  ticked_adds : (v w : Known D N) (tick : ℕ) (r : Result ℕ Reply) → Ticked view tells coming v tick r w → AddsAt 0 v w
  ticked_adds v w tick r t =
      let one = swept_adds v t.middle tick r t.swept in
      let two = follows_adds (has_freed r) t.middle w t.follows in
      record { pages = (let x = one.pages in let y = two.pages in omega arith); caller = two.caller ∙ one.caller }

  takes_adds : (place : Option ℕ) (old new : Spots D N) (target : Destination) (answer : Val) (r : Result Ticket Reply)
      → TakesOn view tells coming place old target answer r new → Adds old new 0
  takes_adds None old new target answer r t = adds_none old new t.1
  takes_adds (Some k) old new target answer r at =
      at_adds k 0 (λ v w. Took view tells coming v target answer r w) old new at (λ v w t. took_adds v w target answer r t)

  takes_counts : (place : Option ℕ) (old new : Spots D N) (target : Destination) (answer : Val) (r : Reply)
      → TakesOn view tells coming place old target answer (Err r) new → (visited r).pages ≡ 0
  takes_counts None old new target answer r t =
      let is : r ≡ replies.Refused refusals.Unknown = (let e = t.0 in cc) in ap (λ x. (visited x).pages) is
  takes_counts (Some k) old new target answer r at = took_counts at.0.known at.1 target answer r at.4

  visits_adds : (old new : Spots D N) (target : Destination) (answer : Val) (reply : Reply) → VisitsAt view tells coming old target answer reply new
      → Adds old new (visited reply).pages
  visits_adds old new target answer reply (inl (t, middle, took, published)) =
      adds_both old middle new 0 (visited reply).pages (visited reply).pages
      (takes_adds (place_for (length old) (caller_at old) target) old middle target answer (Ok t) took)
      (at_adds published.0 (visited reply).pages (λ v w. Published view tells coming v t reply w) middle new published.2
      (λ v w p. published_adds v w t reply p))
      (omega arith)
  visits_adds old new target answer reply (inr took) =
      let place = place_for (length old) (caller_at old) target in
      subst (Adds old new) (sym (takes_counts place old new target answer reply took)) (takes_adds place old new target answer (Err reply) took)

  ticks_adds : (old new : Spots D N) (tick : ℕ) (answers : List (Result ℕ Reply)) → Ticks view tells coming old tick answers new → Adds old new 0
  ticks_adds old new tick answers t = each_adds old new (λ k a here.
      let r = get_there answers k (let within = slice_get_within old k a here in let all = t.all in omega arith) in
      let s = t.so.ticked k r.0 r.1 a here in
      (s.0, s.1, ticked_adds a.known s.0 tick r.0 s.2))
      (λ k le. t.so.others k (let all = t.all in omega (arith, le)))

  as_adds : (old new : Spots D N) (tick : ℕ) (swept : passes.Swept) → TicksAs view tells coming old tick swept new → Adds old new 0
  as_adds old new tick (Ok answers) t = ticks_adds old new tick answers t
  as_adds old new tick (Err e) t = adds_none old new t

  module _ (site : Site D N) {L : Type 0} (link : L → LinkView) (shown : Option ℕ) (requests : ℕ) where
    replies_adds : (old new : Spots D N) (target : Option Destination) (answer : Val) (reply : Reply) → Replies (site_rules view tells coming site) old target answer reply new
        → Adds old new (visited reply).pages
    replies_adds old new None answer reply r = subst (λ x. Adds old new (visited x).pages) (sym r.0) (adds_none old new r.1)
    replies_adds old new (Some target) answer reply v = visits_adds old new target answer reply v

    -- a tick, and the visit after it
    turned_adds : (old new : Spots D N) (e : Exchange) → Turned (site_rules view tells coming site) shown old e new → Adds old new (visited e.reply).pages
    turned_adds old new e t =
        adds_both old t.middle new 0 (visited e.reply).pages (visited e.reply).pages (as_adds old t.middle t.swept.1.tick (Ok t.swept.0) t.swept.1.ticked)
        (replies_adds t.middle new e.visit.destination e.visit.answer e.reply t.replied) (omega arith)

    -- the visits of a link
    passes_adds : (old new : Spots D N) (es : List Exchange) → Passes (site_rules view tells coming site) shown old new es → Adds old new (counted es).pages
    passes_adds old new [] same = adds_none old new same
    passes_adds old new (e ∷ es) p =
        adds_both old p.0 new (visited e.reply).pages (counted es).pages (counted (e ∷ es)).pages (turned_adds old p.0 e p.1) (passes_adds p.0 new es p.2) refl

    -- ticks after which no visit was made
    all_adds : (old new : Spots D N) → SweepsAll (site_rules view tells coming site) shown old new → Adds old new 0
    all_adds old new s = as_adds old new s.1.tick (Ok s.0) s.1.ticked

    before_adds : (stop : Stop) (old new : Spots D N) → SweepsBefore (site_rules view tells coming site) shown stop old new → Adds old new 0
    before_adds closed old new same = adds_none old new same
    before_adds (refusal reason) old new s = all_adds old new s
    before_adds pending old new same = adds_none old new same
    before_adds cut old new same = adds_none old new same

    last_adds : (end : LinkEnd) (stop : Stop) (unserved : Type 0) (old new : Spots D N)
        → LastSweep (site_rules view tells coming site) shown end stop unserved old new → Adds old new 0
    last_adds ends.Closed stop unserved old new same = adds_none old new same
    last_adds (ends.Refused reason) stop unserved old new s = all_adds old new s
    last_adds ends.Idle stop unserved old new s = all_adds old new s
    last_adds ends.ReadFault stop unserved old new s = all_adds old new s
    last_adds ends.WriteFault stop unserved old new s = before_adds stop old new s
    last_adds ends.Memory stop unserved old new (inl s) = all_adds old new s
    last_adds ends.Memory stop unserved old new (inr (s, as_given)) = as_adds old new s.1.tick (Err s.0) s.1.ticked

    linked_adds : (old new : Spots D N) (before after : LinkView) (count : Visited) (end : LinkEnd)
        → Linked (site_rules view tells coming site) shown requests old new [] before after count end → Adds old new count.pages
    linked_adds old new before after count end l =
        adds_both old l.middle new (counted l.exchanges).pages 0 count.pages (passes_adds old l.middle l.exchanges l.passed) (last_adds end l.stop (IsUnserved l.exchanges before after) l.middle new l.last)
        (let same = ap (λ (v : Visited). v.pages) l.number in omega arith)

    -- the end of a link is no page
    no_page : (end : LinkEnd) → (end_count end).pages ≡ 0
    no_page ends.Closed = refl
    no_page (ends.Refused reason) = refl
    no_page ends.Idle = refl
    no_page ends.ReadFault = refl
    no_page ends.WriteFault = refl
    no_page ends.Memory = refl

    turns_adds : (old new : Spots D N) (given back : L) (count : Count) → Turns (site_rules view tells coming site) link shown requests old new given back count
        → Adds old new count.pages
    turns_adds old new given back count t =
        let same = ap (λ (c : Count). c.pages) t.number in
        let none = no_page t.end in
        subst (Adds old new) (let sum : t.visited.pages ≡ count.pages = omega arith in sum) (linked_adds old new (link given) (link back) t.visited t.end t.linked)

    -- what a worker counts as pages its caller has published, and the caller stays the same
    pub works_adds : (old new : Spots D N) (given back : List L) (count : Count) → Works (site_rules view tells coming site) link shown requests old new given back count
        → Adds old new count.pages
    works_adds old new [] [] count w = subst (λ (c : Count). Adds old new c.pages) (sym w.1) (adds_none old new w.0)
    works_adds old new [] (b ∷ back) count w = absurd w
    works_adds old new (g ∷ given) [] count w = absurd w
    works_adds old new (g ∷ given) (b ∷ back) count w =
        adds_both old w.0 new w.1.pages w.2.pages count.pages (turns_adds old w.0 g b w.1 w.3) (works_adds w.0 new given back w.2 w.4)
        (ap (λ (c : Count). c.pages) w.5)
