-- A shelf that follows another one's journal shows no page.
use Rattle.std.proofs.Common.{inl, inr, ℕ, Bool, List, ◌∷◌, ◌++◌, [], Option, Some, None, Contains, sym, subst}
use Rattle.std.specs.Prelude.{⊤}
use Rattle.std.proofs.lemmas.List.Elements.{Contains-append_left, Contains-push}
use mathlib.Core.List.{IsPrefix}
use Rattle.script_value.specs.declared.outcome.Reply as outcome
use Rattle.script_value.specs.declared.outcome.Reply.TheVariants as reply
use Rattle.web_disk.specs.View.{View}
use Rattle.replay_spec.specs.Book.{Book, Doubt}
use Rattle.replay_spec.specs.Step.{take, Reply, taken, down, following, memory}
use Rattle.replay_spec.specs.Promises.{follower_reply}
use Rattle.history_spec.specs.Histories.{Entry}
use Rattle.history_spec.specs.Following.{IsFollowers}
use Rattle.history_spec.specs.Laws.{take_of}
use Rattle.history_spec.specs.Passes.{publish_of}
use Rattle.site.specs.Entries.{entry}
use Rattle.site.specs.Opened.{Opened}
use Rattle.site.specs.Openings.{opened_of}
use Rattle.site.specs.Shelves.{reply_of}
use Rattle.site_serving.specs.Following.{IsPutOff, FollowersPutVisitsOff}
use Rattle.site_serving.specs.Visits.{Seen, Makes, untaken, published, unpublished, worn}

-- a reply puts an event off
abbrev PutsOff : Reply → Type 0
PutsOff (down count) = ⊤
PutsOff following = ⊤
PutsOff memory = ⊤
PutsOff _ = ⊥

put_off_by : (o : Option Doubt) → PutsOff (follower_reply o)
put_off_by None = tt
put_off_by (Some doubt) = tt

put_off : (b : Book) (r : Reply) → IsFollowers b r → PutsOff r
put_off b r (inl e) = subst PutsOff (sym e) (put_off_by b.down)
put_off b r (inr e) = subst PutsOff (sym e) tt

told : (r : outcome.Reply) → PutsOff (reply_of r) → IsPutOff r
told (reply.Page bytes url) h = h
told (reply.Finished bytes) h = h
told (reply.Ended bytes) h = h
told (reply.Refused why) h = h
told (reply.Fault fault) h = h
told (reply.Fuel cost) h = h
told (reply.ShelfFull count) h = h
told (reply.Oversize size) h = h
told (reply.JournalFull size) h = h
told (reply.DiskFault count) h = h
told (reply.Down count) h = tt
told reply.Following h = tt
told reply.Worn h = tt
told reply.Memory h = tt

-- what a call made stands in what was seen then, and in what is seen later
made_there : (o : Opened) (worker : ℕ) (e : Entry) (a b : Seen) → Makes o worker (e ∷ []) a b → Contains b.front e
made_there o worker e a b makes = subst (λ (s : Seen). Contains s.front e) (sym makes.is) (Contains-push (a.front ++ makes.others) e)

seen_later : (o : Opened) (worker : ℕ) (e : Entry) (added : List Entry) (a b : Seen) → Makes o worker added a b → Contains a.front e → Contains b.front e
seen_later o worker e added a b makes there =
    subst (λ (s : Seen). Contains s.front e) (sym makes.is)
    (Contains-append_left (a.front ++ makes.others) added e (Contains-append_left a.front makes.others e there))

in_whole : (front es : List Entry) (e : Entry) → IsPrefix front es → Contains front e → Contains es e
in_whole front es e begins there = subst (λ (l : List Entry). Contains l e) begins.1 (Contains-append_left front begins.0 e there)

pub visits_put_off : {D N : Type 0} (view : D → View) (tells : Bool) (coming : N → ℕ → ℕ) → FollowersPutVisitsOff view tells coming
visits_put_off view tells coming o disk es ended f worker target answer r a b begins (untaken no_ticket makes) =
    let start = opened_of view tells coming o in
    let e : Entry = entry worker (take target answer) (reply_of r) in
    told r (put_off start.start.book (reply_of r) ((ended.followed f).answered e (in_whole b.front es e begins (made_there start worker e a b makes))))
visits_put_off view tells coming o disk es ended f worker target answer r a b begins (published t middle target_is answer_is takes publishes) =
    let start = opened_of view tells coming o in
    let e : Entry = take_of worker t in
    let there = seen_later start worker e (publish_of worker t (reply_of r) ∷ []) middle b publishes (made_there start worker e a middle takes) in
    absurd (put_off start.start.book (taken t.number t.nonce) ((ended.followed f).answered e (in_whole b.front es e begins there)))
visits_put_off view tells coming o disk es ended f worker target answer r a b begins (unpublished t middle target_is answer_is takes is_worn) = subst IsPutOff (sym is_worn.0) tt
visits_put_off view tells coming o disk es ended f worker target answer r a b begins (worn is_worn) = subst IsPutOff (sym is_worn.0) tt
