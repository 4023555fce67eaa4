-- A look that finds a name finds the one that was looked for.
use Rattle.std.specs.Bool.{then_some}
use Rattle.std.specs.Prelude.{IfSome}
use Rattle.std.proofs.Common.{◌≡◌, not, nat_lt, Bool, true, false, if◌then◌else◌, Option, Some, None, IsTrue, is_some}
use Rattle.std.proofs.Common.{List, [], ◌∷◌, subst}
use Rattle.nio_base.specs.declared.limits.Limits.{Limits}
use Rattle.nio_base.specs.declared.numbers.ChanId.{ChanId}
use Rattle.nio_base.specs.declared.numbers.KeyNo.{KeyNo}
use Rattle.nio_base.specs.declared.numbers.SelNo.{SelNo}
use Rattle.nio_history.specs.Questions.{Question, Answer, answer_of}
use Rattle.nio_history.specs.declared.act.Act.{Act}
use Rattle.nio_steps.specs.KeyCalls.{find_selector_plan, find_channel_plan, find_plan}
use Rattle.nio_steps.specs.Plan.{reply, ask}
use Rattle.nio_steps.specs.Runs.{Completes}
use Rattle.nio_words.specs.Passes.{limits_of}
use Rattle.nio_caller.specs.Callers.{Acting}
use Rattle.nio_caller.specs.NamedCalls.{Calls, FindsChannel, FindsKey, FindsSelector, IfFound}

found_here : {A : Type 0} (test : Bool) (y x : A) → reply (if test then Some y else None) ≡ reply (Some x)
    → x ≡ y
found_here true y x same = cc same
found_here false y x same = absurd (cc same)

-- a look that is refused beforehand, or asks one question
found_is : {A : Type 0} (past : Bool) (question : Question) (test : Answer → Bool) (y x : A) (acts : List Act)
    → Completes
    (if past then reply None else ask question (λ answer. reply (if test answer then Some y else None)))
    acts (Some x) → x ≡ y
found_is true question test y x [] run = absurd (cc run)
found_is true question test y x (act ∷ acts) run = absurd run
found_is false question test y x [] run = absurd (cc run)
found_is false question test y x (act ∷ []) run = found_here (test (answer_of act)) y x run.1
found_is false question test y x (act ∷ more ∷ acts) run = absurd run.1

selector_is : (l : Limits) (s x : SelNo) (acts : List Act) → FindsSelector l s acts (Some x) → x ≡ s
unfolding find_selector_plan
selector_is l s x acts run = found_is (not (nat_lt s.0 l.selectors)) _ _ s x acts run

channel_is : (l : Limits) (c x : ChanId) (acts : List Act) → FindsChannel l c acts (Some x) → x ≡ c
unfolding find_channel_plan
channel_is l c x acts run = found_is (not (nat_lt c.number.0 l.channels)) _ _ c x acts run

key_there : (l : Limits) (k x : KeyNo) (selector : Option SelNo) (acts : List Act)
    → IfFound None (Completes (find_plan l k.sel k.index k.serial)) selector acts (Some x) → x ≡ k
unfolding find_plan
key_there l k x (Some s) acts run = found_is (not (nat_lt k.index l.keys)) _ _ k x acts run
key_there l k x None acts run = absurd (cc run.1)

key_is : (l : Limits) (k x : KeyNo) (acts : List Act) → FindsKey l k acts (Some x) → x ≡ k
key_is l k x acts run = key_there l k x run.middle run.second run.runs_second

-- what holds of a name holds of it where it is answered
pub taken_has : {A : Type 0} (Has : A → Type 0) (taken : Bool) (name : A) → Has name → IfSome (then_some taken name) Has
taken_has Has true name has = has
taken_has Has false name has = tt

-- ---- in calls

module _ {A : Type 0} (Finds : Limits → A → List Act → Option A → Type 0)
    (is : (l : Limits) (name x : A) (acts : List Act) → Finds l name acts (Some x) → x ≡ name) {c0 c1 : Acting}
    (name : A) where
  looked : (r : Option A) → Calls (λ l. Finds l name) c0 c1 r → Calls (λ l. Finds l name) c0 c1 (then_some (is_some r) name)
  looked None call = call
  looked (Some x) call =
      subst (λ (y : A). Calls (λ l. Finds l name) c0 c1 (Some y)) (is (limits_of c0.table) name x _ call.call.shape) call

  there : (Has : A → Type 0) (r : Option A) → Calls (λ l. Finds l name) c0 c1 r → IfSome r Has → IsTrue (is_some r)
      → Has name
  there Has None call has some = absurd (cc some)
  there Has (Some x) call has some = subst Has (is (limits_of c0.table) name x _ call.call.shape) has

pub looked_selector : {c0 c1 : Acting} (s : SelNo) (r : Option SelNo) → Calls (λ l. FindsSelector l s) c0 c1 r
    → Calls (λ l. FindsSelector l s) c0 c1 (then_some (is_some r) s)
looked_selector s r call = looked FindsSelector selector_is s r call

pub selector_there : {c0 c1 : Acting} (Has : SelNo → Type 0) (s : SelNo) (r : Option SelNo)
    → Calls (λ l. FindsSelector l s) c0 c1 r → IfSome r Has → IsTrue (is_some r) → Has s
selector_there Has s r call = there FindsSelector selector_is s Has r call

pub looked_channel : {c0 c1 : Acting} (c : ChanId) (r : Option ChanId) → Calls (λ l. FindsChannel l c) c0 c1 r
    → Calls (λ l. FindsChannel l c) c0 c1 (then_some (is_some r) c)
looked_channel c r call = looked FindsChannel channel_is c r call

pub channel_there : {c0 c1 : Acting} (Has : ChanId → Type 0) (c : ChanId) (r : Option ChanId)
    → Calls (λ l. FindsChannel l c) c0 c1 r → IfSome r Has → IsTrue (is_some r) → Has c
channel_there Has c r call = there FindsChannel channel_is c Has r call

pub looked_key : {c0 c1 : Acting} (k : KeyNo) (r : Option KeyNo) → Calls (λ l. FindsKey l k) c0 c1 r
    → Calls (λ l. FindsKey l k) c0 c1 (then_some (is_some r) k)
looked_key k r call = looked FindsKey key_is k r call

pub key_there_is : {c0 c1 : Acting} (Has : KeyNo → Type 0) (k : KeyNo) (r : Option KeyNo)
    → Calls (λ l. FindsKey l k) c0 c1 r → IfSome r Has → IsTrue (is_some r) → Has k
key_there_is Has k r call = there FindsKey key_is k Has r call
