use Rattle.std.proofs.Common.{refl, sym, subst, codes}
use Rattle.page_follower.specs.declared.fault.FeedFault.TheVariants as feed
use Rattle.page_follower.specs.declared.fault.FollowEnd.TheVariants as end
use Rattle.server_command.specs.Feeding.{TellsFeedFault, feed_line, told}
use Rattle.server_command.specs.Output.{sinks_of}
use Rattle.server_command.proofs.Feeds.{feed_told}
use Rattle.server_command.proofs.telling.tell_feed_fault.Goals as goal

pub returns-in-Head-clause-tells : goal.returns-in-Head-clause-tells
returns-in-Head-clause-tells g c =
    let old = g.O.Sink.view c.args.output.now in
    let new = g.O.Sink.view c.tell_feed.new.output in
    subst (λ f. TellsFeedFault f c.tell_feed.result (sinks_of old new)) (sym c.in-Head.is) (λ shelf. feed_told shelf (end.Feed feed.Head) (feed_line 0 (codes "head")) c.tell_feed.result (sinks_of old new) refl refl c.tell_feed.ensures.tells)

pub returns-in-Cut-clause-tells : goal.returns-in-Cut-clause-tells
returns-in-Cut-clause-tells g c =
    let old = g.O.Sink.view c.args.output.now in
    let new = g.O.Sink.view c.tell_feed-in-Cut.new.output in
    subst (λ f. TellsFeedFault f c.tell_feed-in-Cut.result (sinks_of old new)) (sym c.in-Cut.is) (λ shelf. feed_told shelf (end.Feed (feed.Cut c.in-Cut.place)) (feed_line c.in-Cut.place (codes "cut")) c.tell_feed-in-Cut.result (sinks_of old new) refl refl c.tell_feed-in-Cut.ensures.tells)

pub returns-in-Long-clause-tells : goal.returns-in-Long-clause-tells
returns-in-Long-clause-tells g c =
    let old = g.O.Sink.view c.args.output.now in
    let new = g.O.Sink.view c.tell_unread.new.output in
    subst (λ f. TellsFeedFault f c.tell_unread.result (sinks_of old new)) (sym c.in-Long.is) (λ shelf. told c.tell_unread.ensures.status c.tell_unread.ensures.line)

pub returns-in-Failed-clause-tells : goal.returns-in-Failed-clause-tells
returns-in-Failed-clause-tells g c =
    let old = g.O.Sink.view c.args.output.now in
    let new = g.O.Sink.view c.tell_unread-in-Failed.new.output in
    subst (λ f. TellsFeedFault f c.tell_unread-in-Failed.result (sinks_of old new)) (sym c.in-Failed.is) (λ shelf. told c.tell_unread-in-Failed.ensures.status c.tell_unread-in-Failed.ensures.line)

pub returns-in-Memory-clause-tells : goal.returns-in-Memory-clause-tells
returns-in-Memory-clause-tells g c =
    let old = g.O.Sink.view c.args.output.now in
    let new = g.O.Sink.view c.no_memory.new.output in
    subst (λ f. TellsFeedFault f c.no_memory.result (sinks_of old new)) (sym c.in-Memory.is) (λ shelf. told c.no_memory.ensures.status c.no_memory.ensures.line)
