use Rattle.std.proofs.Common.{refl, ap}
use Rattle.nio_select.specs.InHand.{HeldSelector}
use Rattle.nio_caller.proofs.Calls.{acting_after, acts_at, call_at, keeps_lists, may_call_after, ready_of}
use Rattle.nio_caller.proofs.GoingOn as goes_on
use Rattle.nio_caller.proofs.NamedCalls.{has_same, met_on, missed, on_calls}
use Rattle.nio_caller.proofs.KeptProgress.{keeps_progress}
use Rattle.nio_caller.proofs.Selections.{elsewhere, may_at, put_back}
use Rattle.nio_caller.proofs.callers.Caller.take_list.Goals as goal

pub returns-then-not-has_selector-clause-call : goal.returns-then-not-has_selector-clause-call
returns-then-not-has_selector-clause-call g c =
    on_calls _ (missed _ _ c.if-not-has_selector.ensures.call)

pub invariant_of-self : goal.invariant_of-self
invariant_of-self g c =
    let acts = acts_at c.words.ensures c.self.inside.pass c.with_list.new.p c.in-Some.ensures.call.acts in
    record {
      may = may_call_after (goes_on.take_list _).pins (call_at c.words.ensures c.self.inside.pass c.with_list.new.p c.in-Some.ensures.call)
          (ready_of c.words.ensures c.with_list.ensures.ready) c.self.invariant.may;
      lists = put_back c.self.inside.lists c.self.inside.lists c.put.new.self c.args.sel c.in-Some.selector
          (ap (λ (x : HeldSelector). x.number) c.in-Some.ensures.taken) (λ t other. refl) c.put.ensures.put c.put.ensures.others
          _ _ (keeps_lists acts _ _ c.self.invariant.lists) (may_at c.words.ensures c.with_list.new.p c.in-Some.ensures.may);
      goes_on = keeps_progress acts _ (λ t. (goes_on.take_list _).spares t _ _ c.in-Some.ensures.call.shape)
          c.self.invariant.goes_on;
    }

pub invariant_of-self-in-None : goal.invariant_of-self-in-None
invariant_of-self-in-None g c =
    acting_after c.words.ensures (goes_on.take_list _) c.in-None.ensures.call c.with_list.ensures.ready c.self.invariant

pub returns-in-Some-clause-call : goal.returns-in-Some-clause-call
returns-in-Some-clause-call g c =
    met_on c.words.ensures c.put.new.self c.self.inside.progress c.args.sel _ _ _ c.if-not-has_selector.ensures.call
    c.self.view_is c.in-Some.ensures.call
    (record {
      lists = elsewhere c.self.inside.lists c.self.inside.lists c.put.new.self c.args.sel c.in-Some.selector
          (ap (λ (x : HeldSelector). x.number) c.in-Some.ensures.taken) (λ t other. refl) c.put.ensures.put
          c.put.ensures.others;
      selections = λ t other. refl;
      closings = λ t other. refl;
    })

pub returns-in-None-clause-call : goal.returns-in-None-clause-call
returns-in-None-clause-call g c =
    met_on c.words.ensures c.self.inside.lists c.self.inside.progress c.args.sel _ _ _ c.if-not-has_selector.ensures.call
    c.self.view_is c.in-None.ensures.call (has_same _ refl refl)
