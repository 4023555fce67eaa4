use Rattle.std.proofs.Common.{◌<◌, ◌≤◌, false, length, map, refl, ◌∙◌, arith}
use Rattle.nio_history.specs.State.{unmade_channel}
use Rattle.nio_plain.proofs.Replying.{rows_of}
use Rattle.nio_plain.proofs.Changing.{changed-step, changed-all}
use Rattle.nio_plain.proofs.Closing.{state-cancelled}
use Rattle.nio_plain.specs.PlainState.{pipe_of, places, state_from, channel_row, selector_row, no_selector}
use Rattle.nio_plain.specs.PlainState.{with_cancelled_key}
use Rattle.nio_plain.proofs.plain.Plain.cancel_keys_of.Goals as goal

pub loop-place-preserved : goal.loop-place-preserved
loop-place-preserved c =
    let xs = c.loop-place.self.selectors.items in
    let i = c.loop-place.place in
    let before = c.loop-place.invariant in
    let within : i < length xs = omega (arith, c.loop-place.self.selectors.ok.0, before.long) in
    record {
      cancelled = changed-step selector_row no_selector (λ r. with_cancelled_key r c.args.chan.0)
          (rows_of c.args.self.now) xs i c.index_mut.result.now c.cancel_key_of.new.self before.cancelled within
          c.index_mut.ensures.value c.cancel_key_of.ensures;
      long = before.long;
      limits = before.limits;
      rules = before.rules;
      channels = before.channels;
      interrupted = before.interrupted;
      group = before.group;
      pipes = before.pipes;
    }

pub returns-clause-left : goal.returns-clause-left
returns-clause-left c =
    let p = c.args.self.now in
    let kept = c.loop-place.invariant in
    let past : length p.selectors.items ≤ c.loop-place.place = omega (arith, p.selectors.ok.0) in
    let all = kept.cancelled
    ∙ changed-all selector_row no_selector (λ r. with_cancelled_key r c.args.chan.0) p.selectors.items
    c.loop-place.place past refl in
    (λ j. state_from (kept.group j) (map pipe_of (kept.pipes j).items)
    (places (λ b. b) false (kept.interrupted j).items) (length (kept.channels j).items)
    (places channel_row unmade_channel (kept.channels j).items) (all j))
    ∙ state-cancelled _ _ _ _ _ (rows_of p) c.args.chan.0
