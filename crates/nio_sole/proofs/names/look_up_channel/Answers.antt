use Rattle.std.proofs.Common.{subst}
use Rattle.nio_history.specs.PassViews.{HasChannel}
use Rattle.nio_language.specs.declared.reply.Reply.TheVariants as reply
use Rattle.nio_serial.specs.Lines.{if_found}
use Rattle.nio_sole.proofs.Finding.{channel_found}
use Rattle.nio_sole.proofs.names.look_up_channel.Goals as goal
use Rattle.nio_steps.proofs.CallLaws.{left_bind, left_of_call}
use Rattle.nio_steps.proofs.PinBack.{no_pin_after}
use Rattle.nio_steps.proofs.PinLaws.{pins_are_given_back}
use Rattle.nio_words.specs.Views.{view}

pub returns-in-Some : goal.returns-in-Some
returns-in-Some c = record {
  call = λ now plan. left_bind (if_found now reply.NoChannel plan) (left_of_call c.in-Some.ensures.call);
  ready = c.in-Some.ensures.ready;
  unpinned = no_pin_after (λ acts run. pins_are_given_back.find_channel _ _ _ acts _ run) c.in-Some.ensures.call
      c.requires.unpinned;
  named = subst (HasChannel (view c.args.w.now c.find_channel.new.p))
      (channel_found _ _ _ _ _ c.in-Some.ensures.call.shape) c.in-Some.ensures.found;
}

pub returns-in-None : goal.returns-in-None
returns-in-None c = record {
  call = λ now plan. left_bind (if_found now reply.NoChannel plan) (left_of_call c.in-None.ensures.call);
  ready = c.in-None.ensures.ready;
  unpinned = no_pin_after (λ acts run. pins_are_given_back.find_channel _ _ _ acts _ run) c.in-None.ensures.call
      c.requires.unpinned;
  named = tt;
}
