use Rattle.std.proofs.Common.{◌≡◌, ◌+◌, ◌<◌, true, false, length, Some, ap, arith, sym, ◌∙◌}
use Rattle.nio_group.specs.declared.channel.Channel.{Channel}
use Rattle.nio_group.specs.Group.{Group}
use Rattle.nio_group.specs.GroupKept.{group_of}
use Rattle.nio_group.specs.Making.{gives_way}
use Rattle.nio_group.proofs.MakingLemmas.{named, next-full, back-read, search-on, search-found}
use Rattle.nio_group.proofs.group.GroupCore.next_name.Goals as goal
use Rattle.std.proofs.lemmas.List.{get_or_read}
use Rattle.nio_group.specs.Group.{no_channel}

pub returns-then-gives_way : goal.returns-then-gives_way
returns-then-gives_way c =
    let i = c.self.inside in
    let g : Group = group_of i.flight i.channels.items i.shut i.limits in
    let n = c.loop-number.number in
    let x = c.index-channel.result.now in
    let made : c.channels-made.result ≡ length i.channels.items = rw (← c.self.view_is) at c.channels-made.ensures in
    let within : n < length i.channels.items = omega (arith, made, c.loop-number-test.true) in
    let full : length g.channels ≡ g.channel_limit = omega
    (arith, made, c.if-made-self.false, c.self.invariant.lawful.few_channels) in
    let so_far = rw (← c.self.view_is) at c.loop-number.invariant in
    let way : gives_way c.args.kind x c.index.result.now.in_flight ≡ true = sym c.gives_way.ensures
    ∙ c.if-gives_way.true in
    let back = sym (back-read c.args.kind n x c.index.result.now c.self.invariant within c.index-channel.ensures
    c.index.ensures) ∙ way in
    let is = get_or_read i.channels.items n x within c.index-channel.ensures no_channel in
    rw (← c.self.view_is)
    (sym
    (next-full g c.args.kind full
    ∙ sym so_far
    ∙ search-found i.flight c.args.kind n i.channels.items within back
    ∙ ap (λ (y : Channel). Some (named n (y.serial + 1))) (sym is)))

pub loop-number-preserved : goal.loop-number-preserved
loop-number-preserved c =
    let i = c.self.inside in
    let n = c.loop-number.number in
    let x = c.index-channel.result.now in
    let made : c.channels-made.result ≡ length i.channels.items = rw (← c.self.view_is) at c.channels-made.ensures in
    let within : n < length i.channels.items = omega (arith, made, c.loop-number-test.true) in
    let so_far = rw (← c.self.view_is) at c.loop-number.invariant in
    let way : gives_way c.args.kind x c.index.result.now.in_flight ≡ false = sym c.gives_way.ensures
    ∙ c.if-gives_way.false in
    let back = sym (back-read c.args.kind n x c.index.result.now c.self.invariant within c.index-channel.ensures
    c.index.ensures) ∙ way in
    rw (← c.self.view_is) (search-on i.flight c.args.kind n i.channels.items within back ∙ so_far)
