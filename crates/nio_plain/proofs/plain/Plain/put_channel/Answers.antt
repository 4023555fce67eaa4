use Rattle.std.proofs.Common.{◌≡◌, ◌+◌, ◌<◌, suc, max, Bool, false, length, map, refl, ◌∙◌, arith}
use Rattle.nio_history.specs.State.{put, unmade_channel}
use Rattle.nio_plain.proofs.Replying.{rows_of, state-push_channel, state-set_channel}
use Rattle.nio_plain.specs.PlainState.{channel_row, places, state_from, pipe_of}
use Rattle.nio_plain.proofs.plain.Plain.put_channel.Goals as goal

pub returns-then-number-len-clause-left : goal.returns-then-number-len-clause-left
returns-then-number-len-clause-left c =
    let p = c.args.self.now in
    let n = c.args.chan.number.0 in
    let xs = p.channels.items in
    let within : n < length xs = omega (arith, p.channels.ok.0) in
    let mark : length xs ≡ max (length xs) (suc n) = omega arith in
    state-set_channel _ _ _ (rows_of p) xs _ n c.new-channel.result within refl
    ∙ (λ i.
    state_from
    p.group
    (map pipe_of p.pipes.items)
    (places (λ (b : Bool). b) false p.interrupted.items)
    (mark i)
    (put (places channel_row unmade_channel xs) n (c.new-channel.ensures i))
    (rows_of p))

pub returns-else-number-len-clause-left : goal.returns-else-number-len-clause-left
returns-else-number-len-clause-left c =
    let p = c.args.self.now in
    let n = c.args.chan.number.0 in
    let xs = p.channels.items in
    let last : length xs ≡ n = omega (arith, p.channels.ok.0, c.requires.next) in
    let mark : length xs + 1 ≡ max (length xs) (suc n) = omega (arith, last) in
    state-push_channel _ _ _ (rows_of p) xs _ c.new-channel.result c.push_reserved.ensures.items
    ∙ (λ i.
    state_from
    p.group
    (map pipe_of p.pipes.items)
    (places (λ (b : Bool). b) false p.interrupted.items)
    (mark i)
    (put (places channel_row unmade_channel xs) (last i) (c.new-channel.ensures i))
    (rows_of p))
