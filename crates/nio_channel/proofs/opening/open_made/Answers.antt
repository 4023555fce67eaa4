use Rattle.std.proofs.Common.{◌≡◌, true, Some, None, refl, ap, rules}
use Rattle.nio_history.specs.Conditions.{is_made}
use Rattle.nio_history.specs.Permanent.{channel_made, channel_of_kind}
use Rattle.nio_history.proofs.PassViews.{lasts_over}
use Rattle.nio_steps.proofs.CallLaws.{returned, left_ask, left_after, ran_then}
use Rattle.nio_steps.specs.ChannelCalls.{opened_again, opened_channel}
use Rattle.nio_steps.specs.Plan.{reply}
use Rattle.nio_words.proofs.Views.{step_acts}
use Rattle.nio_words.specs.Passes.{limits_of, state_seen}
use Rattle.nio_channel.proofs.Chains.{call_from, left_at}
use Rattle.nio_channel.proofs.Chans.{first_opened}
use Rattle.nio_channel.proofs.Made.{all_made_after}
use Rattle.nio_channel.proofs.opening.open_made.Goals as goal

pub returns-in-Some-clause-call : goal.returns-in-Some-clause-call
returns-in-Some-clause-call c =
    let is : c.args.made ≡ Some c.in-Some.number = search rules in
    call_from (opened_channel (limits_of c.args.w.now) c.args.kind) is
    (returned (left_ask _ (step_acts c.raise_channels.ensures refl)
    (left_after (step_acts c.raise_channels.ensures refl))))

pub returns-in-Some-clause-opened : goal.returns-in-Some-clause-opened
returns-in-Some-clause-opened c =
    let made : is_made (state_seen c.args.p.now) c.in-Some.number ≡ true = search rules in
    record {
      has = record {
        inside = search rules;
        opened = first_opened ((state_seen c.raise_channels.new.p).chan c.in-Some.number.0)
            (lasts_over (channel_made c.in-Some.number.0) (step_acts c.raise_channels.ensures refl) made);
      };
      kind = lasts_over (channel_of_kind c.in-Some.number.0 c.args.kind) (step_acts c.raise_channels.ensures refl)
          (search rules);
    }

pub returns-in-None-clause-call : goal.returns-in-None-clause-call
returns-in-None-clause-call c =
    let is : c.args.made ≡ None = search rules in
    let same : opened_again c.reopen_first.result ≡ c.ok_or.result = search rules in
    call_from (opened_channel (limits_of c.args.w.now) c.args.kind) is
    (returned (ran_then (λ again. reply (opened_again again)) c.reopen_first.ensures.call
    (left_at (ap reply same) c.reopen_first.ensures.call.acts)))

pub returns-in-None-clause-spent : goal.returns-in-None-clause-spent
returns-in-None-clause-spent c = λ _.
    let none : c.args.made ≡ None = search rules in
    all_made_after c.reopen_first.ensures.call.acts (c.requires.all none)
