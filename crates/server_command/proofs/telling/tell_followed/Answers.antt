use Rattle.std.proofs.Common.{refl, sym, subst, codes}
use Rattle.page_follower.specs.declared.fault.FollowEnd.TheVariants as end
use Rattle.play_steps.specs.declared.stage.Reopen.TheVariants as reopen
use Rattle.server_command.specs.Feeding.{TellsFollowed, feed_line, told}
use Rattle.server_command.specs.Output.{sinks_of}
use Rattle.server_command.proofs.Feeds.{feed_told, held_told, unopened_told}
use Rattle.server_command.proofs.telling.tell_followed.Goals as goal

pub returns-in-Held-clause-tells : goal.returns-in-Held-clause-tells
returns-in-Held-clause-tells g c =
    let old = g.O.Sink.view c.args.output.now in
    let new = g.O.Sink.view c.hand_on.new.output in
    subst (λ e. TellsFollowed c.args.shelf e c.hand_on.result (sinks_of old new)) (sym c.in-Held.is) (held_told c.args.shelf c.hand_on.result (sinks_of old new) c.hand_on.ensures.same c.hand_on.ensures.status)

pub returns-in-Promoted-clause-tells : goal.returns-in-Promoted-clause-tells
returns-in-Promoted-clause-tells g c =
    let old = g.O.Sink.view c.args.output.now in
    let new = g.O.Sink.view c.tell_feed.new.output in
    subst (λ e. TellsFollowed c.args.shelf e c.tell_feed.result (sinks_of old new)) (sym c.in-Promoted.is) (feed_told c.args.shelf end.Promoted (feed_line 0 (codes "promoted")) c.tell_feed.result (sinks_of old new) refl refl c.tell_feed.ensures.tells)

pub returns-in-Feed-clause-tells : goal.returns-in-Feed-clause-tells
returns-in-Feed-clause-tells g c =
    let old = g.O.Sink.view c.args.output.now in
    let new = g.O.Sink.view c.tell_feed_fault.new.output in
    subst (λ e. TellsFollowed c.args.shelf e c.tell_feed_fault.result (sinks_of old new)) (sym c.in-Feed.is) (c.tell_feed_fault.ensures.tells c.args.shelf)

pub returns-in-Other-clause-tells : goal.returns-in-Other-clause-tells
returns-in-Other-clause-tells g c =
    let old = g.O.Sink.view c.args.output.now in
    let new = g.O.Sink.view c.tell_feed-in-Other.new.output in
    subst (λ e. TellsFollowed c.args.shelf e c.tell_feed-in-Other.result (sinks_of old new)) (sym c.in-Other.is) (feed_told c.args.shelf (end.Other c.in-Other.place) (feed_line c.in-Other.place (codes "other")) c.tell_feed-in-Other.result (sinks_of old new) refl refl c.tell_feed-in-Other.ensures.tells)

pub returns-in-Record-clause-tells : goal.returns-in-Record-clause-tells
returns-in-Record-clause-tells g c =
    let old = g.O.Sink.view c.args.output.now in
    let new = g.O.Sink.view c.tell_feed-in-Record.new.output in
    subst (λ e. TellsFollowed c.args.shelf e c.tell_feed-in-Record.result (sinks_of old new)) (sym c.in-Record.is) (feed_told c.args.shelf (end.Record c.in-Record.place) (feed_line c.in-Record.place (codes "record")) c.tell_feed-in-Record.result (sinks_of old new) refl refl c.tell_feed-in-Record.ensures.tells)

pub returns-in-Full-clause-tells : goal.returns-in-Full-clause-tells
returns-in-Full-clause-tells g c =
    let old = g.O.Sink.view c.args.output.now in
    let new = g.O.Sink.view c.tell_unopened.new.output in
    subst (λ e. TellsFollowed c.args.shelf e c.tell_unopened.result (sinks_of old new)) (sym c.in-Full.is) (unopened_told c.args.shelf (end.Full c.in-Full.len) (reopen.Full c.in-Full.len) c.tell_unopened.result (sinks_of old new) refl refl c.tell_unopened.ensures.tells)

pub returns-in-DiskFault-clause-tells : goal.returns-in-DiskFault-clause-tells
returns-in-DiskFault-clause-tells g c =
    let old = g.O.Sink.view c.args.output.now in
    let new = g.O.Sink.view c.tell_unopened-in-DiskFault.new.output in
    subst (λ e. TellsFollowed c.args.shelf e c.tell_unopened-in-DiskFault.result (sinks_of old new)) (sym c.in-DiskFault.is) (unopened_told c.args.shelf end.DiskFault reopen.Disk c.tell_unopened-in-DiskFault.result (sinks_of old new) refl refl c.tell_unopened-in-DiskFault.ensures.tells)

pub returns-in-Memory-clause-tells : goal.returns-in-Memory-clause-tells
returns-in-Memory-clause-tells g c =
    let old = g.O.Sink.view c.args.output.now in
    let new = g.O.Sink.view c.no_memory.new.output in
    subst (λ e. TellsFollowed c.args.shelf e c.no_memory.result (sinks_of old new)) (sym c.in-Memory.is) (told c.no_memory.ensures.status c.no_memory.ensures.line)
