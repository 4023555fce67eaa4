use Rattle.nio_reactor.proofs.Seating.{after_open_channel}
use Rattle.nio_reactor.specs.Placing.{caller}
use Rattle.nio_reactor.proofs.table.open_as.Goals as goal

pub open_channel-requires : goal.open_channel-requires
open_channel-requires c = record { ready = (c.requires.callers (caller 0) c.requires.some).ready }

pub returns-in-Ok : goal.returns-in-Ok
returns-in-Ok c =
    after_open_channel c.args.words.now c.args.pass.now c.open_channel.new.p _ c.args.kind c.open_channel.result
    c.requires.some c.requires.callers c.open_channel.ensures.call c.open_channel.ensures.ready

pub returns-in-Ok-2 : goal.returns-in-Ok-2
returns-in-Ok-2 c =
    after_open_channel c.args.words.now c.args.pass.now c.open_channel.new.p _ c.args.kind c.open_channel.result
    c.requires.some c.requires.callers c.open_channel.ensures.call c.open_channel.ensures.ready

pub returns-in-Ok-2-2 : goal.returns-in-Ok-2-2
returns-in-Ok-2-2 c =
    after_open_channel c.args.words.now c.args.pass.now c.open_channel.new.p _ c.args.kind c.open_channel.result
    c.requires.some c.requires.callers c.open_channel.ensures.call c.open_channel.ensures.ready
