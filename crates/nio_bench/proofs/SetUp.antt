-- What stands between the calls that are timed stays.
use Rattle.std.proofs.Common.{◌≡◌, true, false, Bool, Option, Some, None, List, [], ◌∷◌, ◌++◌, refl, ap, sym, subst, ◌∙◌}
use Rattle.std.specs.Prelude.{IfSome}
use Rattle.std.proofs.lemmas.List.Elements.{All-weaker, All-append}
use Rattle.nio_base.specs.declared.numbers.CallerNo.{CallerNo}
use Rattle.nio_base.specs.declared.numbers.ChanId.{ChanId}
use Rattle.nio_base.specs.declared.numbers.SelNo.{SelNo}
use Rattle.nio_history.proofs.Finds.{step_leaves}
use Rattle.nio_history.proofs.PassViews.{selector_after, channel_after}
use Rattle.nio_history.proofs.Put.{put-same}
use Rattle.nio_history.specs.Conditions.{IsSelector, has_pin}
use Rattle.nio_history.specs.Histories.{state_after}
use Rattle.nio_history.specs.PassViews.{Holds as HoldsNumber, PassView, known, ActsClause, HasChannel, HasNoPin, HasSelector}
use Rattle.nio_history.specs.State.{State}
use Rattle.nio_history.specs.declared.act.Act.{Act}
use Rattle.nio_history.specs.declared.act.Act.TheVariants.{MakeSelector}
use Rattle.nio_select.specs.InHand.{HeldList, HeldSelector}
use Rattle.nio_select.specs.InProgress.{HasList, MaySelect}
use Rattle.nio_select.proofs.Progress.{list_after}
use Rattle.nio_steps.proofs.Lists.{all-one}
use Rattle.nio_steps.proofs.PinBack.{no_pin_after}
use Rattle.nio_steps.specs.Calls.{CallClause}
use Rattle.nio_steps.specs.PinLaws.{GivesPinsBack}
use Rattle.nio_words.proofs.Pins.{changes_pins, no_pin_stays}
use Rattle.nio_words.proofs.Stepping.{still_ready}
use Rattle.nio_words.proofs.Views.{finds_drawn, step_acts}
use Rattle.nio_words.specs.Passes.{IsReady, limits_of, seen}
use Rattle.nio_words.specs.Steps.{Steps}
use Rattle.nio_words.specs.Views.{view}
use Rattle.nio_words.specs.declared.words.Pass.{Pass}
use Rattle.nio_words.specs.declared.words.Words.{Words}
use Rattle.nio_bench.specs.SetUp.{caller, selector, drawn, IsIdle, IsSetUp, StaysIdle}

-- who may select may do so after a call
may_still : {v0 v1 : PassView} {me : CallerNo} {acts : List Act} → ActsClause me acts v0 v1 → (selector : HeldSelector)
    → MaySelect v0 me selector → MaySelect v1 me selector
may_still {v0 = v0} {v1 = v1} {me = me} clause selector may =
    record { made = selector_after clause may.made; had = by_list selector.list may.had }
  where
    by_list : (o : Option HeldList) → IfSome o (HasList v0 me) → IfSome o (HasList v1 me)
    by_list None had = tt
    by_list (Some list) had = list_after list clause had

-- after a call
pub stays_after : {w : Words} {p q : Pass} {me : CallerNo} {s : SelNo} {acts : List Act}
    → ActsClause me acts (view w p) (view w q) → IsReady w q me → HasNoPin (view w q) me → IsIdle w p me s
    → StaysIdle w p q me s
stays_after clause ready none idle = record {
  idle = record { ready = ready; unpinned = none; selector = selector_after clause idle.selector };
  channels = λ c has. channel_after clause has;
  selects = may_still clause;
}

-- after a call that gives its pins back
pub stays_call : {R : Type 0} {Shape : List Act → R → Type 0} {answer : R} {w : Words} {p q : Pass} {me : CallerNo}
    {s : SelNo} → GivesPinsBack Shape → CallClause me Shape (view w p) (view w q) answer
    → IsReady w q me → IsIdle w p me s → StaysIdle w p q me s
stays_call {answer = answer} gives call ready idle =
    stays_after call.acts ready (no_pin_after (λ acts shape. gives acts answer shape) call idle.unpinned) idle

pub idle_call : {R : Type 0} {Shape : List Act → R → Type 0} {answer : R} {w : Words} {p q : Pass} {me : CallerNo}
    {s : SelNo} → GivesPinsBack Shape → CallClause me Shape (view w p) (view w q) answer
    → IsReady w q me → IsIdle w p me s → IsIdle w q me s
idle_call gives call ready idle = (stays_call gives call ready idle).idle

-- after a step
pub stays_step : {w : Words} {p q : Pass} {me : CallerNo} {s : SelNo} {act : Act} → Steps w p q me act
    → finds_drawn act ≡ false → changes_pins act ≡ false → IsIdle w p me s → StaysIdle w p q me s
stays_step {w = w} {p = p} {q = q} {me = me} {act = act} steps new keeps idle =
    stays_after (step_acts steps new) (still_ready w p q me me act steps idle.ready)
    (no_pin_stays (step_acts steps new) keeps idle.unpinned) idle

pub stays_then : {w : Words} {p q r : Pass} {me : CallerNo} {s : SelNo} → StaysIdle w p q me s → StaysIdle w q r me s
    → StaysIdle w p r me s
stays_then first second = record {
  idle = second.idle;
  channels = λ c has. second.channels c (first.channels c has);
  selects = λ s may. second.selects s (first.selects s may);
}

-- who may pass a selector to a call may select there without its list
pub may_without : {v : PassView} {me : CallerNo} {s : SelNo} {selector : HeldSelector}
    → selector ≡ record { number = s; list = None } → HasSelector v s → MaySelect v me selector
may_without {v = v} {me = me} is has = subst (MaySelect v me) (sym is) (record { made = has; had = tt })

-- with the channels that were opened
pub set_up_after : {w : Words} {p q : Pass} {me : CallerNo} {s : SelNo} (opened : List ChanId) → StaysIdle w p q me s
    → IsSetUp w p me s opened → IsSetUp w q me s opened
set_up_after {w = w} {p = p} {q = q} opened stays before = record {
  idle = stays.idle;
  channels = All-weaker (HasChannel (view w p)) (HasChannel (view w q)) stays.channels opened before.channels;
}

-- after the selector was made
pub idle_made : {w : Words} {p q : Pass} {found : Bool} → Steps w p q caller (MakeSelector selector found)
    → IsReady w p caller → seen p ≡ drawn → IsSelector (limits_of w) selector → IsIdle w q caller selector
idle_made {w = w} {p = p} {q = q} {found = found} steps ready is inside = record {
  ready = still_ready w p q caller caller _ steps ready;
  unpinned = no_pin_stays (step_acts steps refl) refl
      (λ s i. ap (λ events. has_pin (state_after events) caller s i) is);
  selector = record { inside = inside; made = made };
}
  where
    made : (known (view w q)).selector 0 ≡ true
    made =
        let leaves = step_leaves (limits_of w) (HoldsNumber (view w p)) caller (MakeSelector selector found) (seen p)
        (seen q) (step_acts steps refl).history in
        let before : State = state_after (seen p ++ leaves.between) in
        ap (λ st. st.selector 0) leaves.state ∙ put-same before.selector 0 true

-- with one channel more
pub one_more : {w : Words} {p : Pass} {me : CallerNo} {s : SelNo} (opened more : List ChanId) (c : ChanId)
    → more ≡ opened ++ c ∷ [] → HasChannel (view w p) c → IsSetUp w p me s opened
    → IsSetUp w p me s more
one_more {w = w} {p = p} {me = me} {s = s} opened more c is has before = subst (IsSetUp w p me s) (sym is) (record {
  idle = before.idle;
  channels = All-append (HasChannel (view w p)) opened (c ∷ []) before.channels (all-one (HasChannel (view w p)) c has);
})
