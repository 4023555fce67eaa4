use Rattle.std.proofs.Common.{◌≡◌, List, ap, ◌∙◌, subst}
use Rattle.nio_select.specs.Asked.{Looked}
use Rattle.nio_select.specs.InHand.{selection_of}
use Rattle.nio_select.specs.InProgress.{poll_of, told_reply}
use Rattle.nio_steps.specs.Calls.{CallClause}
use Rattle.nio_steps.specs.SelectCalls.{Poll, Tells}
use Rattle.nio_steps.specs.declared.looked.LookedKey.{LookedKey}
use Rattle.nio_words.specs.Views.{view}
use Rattle.nio_poller.proofs.Telling.{adds_one}
use Rattle.nio_poller.specs.Polls.{told_of_channel}
use Rattle.nio_poller.specs.Until.{one_poll, told_one}
use Rattle.nio_poller.proofs.selecting.poll_once.Goals as goal

pub returns-in-Ok-clause-call : goal.returns-in-Ok-clause-call
returns-in-Ok-clause-call g c =
    let selection = c.args.selection in
    let waiting = c.args.waiting in
    let asked : c.asked-asked.result.now.keys ≡ selection.asked.keys = ap (λ (a : Looked). a.keys) c.asked-asked.ensures in
    let poll : Poll = poll_of c.in-Ok.told in
    record {
      poll = poll;
      call = subst
          (λ (one : Poll).
          CallClause c.args.me (Tells (selection_of selection) one)
          (view c.args.w.now c.args.p.now) (view c.args.w.now c.told.new.p) (told_reply c.told.result))
          (c.tells-told.ensures
          ∙ ap (λ (keys : List LookedKey).
          told_one waiting.until c.args.is_first (one_poll keys waiting.mode c.args.is_first poll)) asked)
          c.told.ensures.call;
      adds = adds_one _ _ _ _ _ _ c.in-Ok.told asked c.poll_mode.ensures c.in-Ok.ensures.polls;
      ready_is = λ channel.
          c.in-Ok.ensures.ready channel
          ∙ ap (λ (keys : List LookedKey). told_of_channel keys c.in-Ok.told.pairs.items channel) asked;
    }
