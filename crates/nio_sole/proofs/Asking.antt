-- A call of a line that leaves what is in progress as it is.
use Rattle.std.proofs.Common.{◌≡◌, ℕ, Bool, Option, List, Result, sym, subst}
use Rattle.std.specs.Prelude.{None}
use Rattle.nio_base.specs.declared.numbers.CallerNo.{CallerNo}
use Rattle.nio_base.specs.declared.numbers.KeyId.{KeyId}
use Rattle.nio_base.specs.declared.numbers.KeyNo.{KeyNo}
use Rattle.nio_base.specs.declared.numbers.SelNo.{SelNo}
use Rattle.nio_history.specs.Histories.{IsLegal}
use Rattle.nio_history.specs.PassViews.{PassView}
use Rattle.nio_history.specs.declared.found.Mode.{Mode}
use Rattle.nio_language.specs.declared.reply.Reply.{Reply}
use Rattle.nio_serial.specs.Documented.{Progress}
use Rattle.nio_serial.specs.Lines.{Said, makes, asks, refused, begin_line, told_line, failed_line}
use Rattle.nio_steps.proofs.CallLaws.{call_as, returned, left_bind, left_of_call, left_start}
use Rattle.nio_steps.specs.Calls.{CallClause}
use Rattle.nio_steps.specs.Plan.{Plan}
use Rattle.nio_steps.specs.Runs.{Completes}
use Rattle.nio_steps.specs.SelectCalls.{Selection, Begins, begin_lacks_memory, try_begin_plan, ListsKeys, ListsSelected}
use Rattle.nio_steps.specs.SelectCalls.{list_lacks_memory, keys_plan, selected_keys_plan, Poll, Tells, ToldReply}
use Rattle.nio_steps.specs.SelectCalls.{told_plan}
use Rattle.nio_steps.specs.declared.refusal.BeginError.{BeginError}
use Rattle.nio_steps.specs.declared.refusal.ListError.{ListError}

-- a whole call, its reply and what it leaves in progress
pub makes_ran : {R : Type 0} {me : CallerNo} {plan : Plan R} {answer : R} {v0 v1 : PassView} (said : R → Reply)
    (left : R → Progress)
    → CallClause me (Completes plan) v0 v1 answer
    → CallClause me (Completes (makes plan said left)) v0 v1 (record { reply = said answer; left = left answer })
makes_ran said left call =
    returned (left_bind (λ answer. Plan.reply (record { reply = said answer; left = left answer })) (left_of_call call))

pub asks_ran : {R : Type 0} {me : CallerNo} {plan : Plan R} {answer : R} {r : Reply} {v0 v1 : PassView}
    (said : R → Reply) (now : Progress)
    → CallClause me (Completes plan) v0 v1 answer → r ≡ said answer
    → CallClause me (Completes (asks now plan said)) v0 v1 (record { reply = r; left = now })
asks_ran {me = me} {plan = plan} {v0 = v0} {v1 = v1} said now call same =
    subst (λ (x : Reply). CallClause me (Completes (asks now plan said)) v0 v1 (record { reply = x; left = now }))
    (sym same) (makes_ran said (λ _. now) call)

-- a call on a key, by its name
pub on_key : {R : Type 0} {me : CallerNo} {k k' : KeyNo} {answer : R} {v0 v1 : PassView} (plan : KeyNo → Plan R)
    → k ≡ k' → CallClause me (Completes (plan k)) v0 v1 answer → CallClause me (Completes (plan k')) v0 v1 answer
on_key {me = me} {answer = answer} {v0 = v0} {v1 = v1} plan is call =
    subst (λ (x : KeyNo). CallClause me (Completes (plan x)) v0 v1 answer) is call

-- ---- lists

pub lists_ran : {me : CallerNo} (s : SelNo) {answer : Result (List KeyNo) ListError} {v0 v1 : PassView}
    → CallClause me (ListsKeys s) v0 v1 answer
    → CallClause me (Completes (keys_plan s (list_lacks_memory answer))) v0 v1 answer
lists_ran s {answer = answer} call =
    call_as (Completes (keys_plan s (list_lacks_memory answer))) answer (λ acts run. run) call

pub lists_selected_ran : {me : CallerNo} (s : SelNo) {answer : Result (List KeyNo) ListError} {v0 v1 : PassView}
    → CallClause me (ListsSelected s) v0 v1 answer
    → CallClause me (Completes (selected_keys_plan s (list_lacks_memory answer))) v0 v1 answer
lists_selected_ran s {answer = answer} call =
    call_as (Completes (selected_keys_plan s (list_lacks_memory answer))) answer (λ acts run. run) call

-- ---- beginnings

pub begins_ran : {me : CallerNo} (s : SelNo) (mode : Mode) {answer : Result Selection BeginError} {v0 v1 : PassView}
    → CallClause me (Begins s mode None) v0 v1 answer
    → CallClause me (Completes (try_begin_plan s mode None (begin_lacks_memory answer))) v0 v1 answer
begins_ran s mode {answer = answer} call =
    call_as (Completes (try_begin_plan s mode None (begin_lacks_memory answer))) answer (λ acts run. run) call

-- with another reply that is the same
pub replied_as : {me : CallerNo} {plan : Plan Said} {r r' : Reply} {left : Progress} {v0 v1 : PassView}
    → CallClause me (Completes plan) v0 v1 (record { reply = r; left = left }) → r' ≡ r
    → CallClause me (Completes plan) v0 v1 (record { reply = r'; left = left })
replied_as {me = me} {plan = plan} {left = left} {v0 = v0} {v1 = v1} call same =
    subst (λ (x : Reply). CallClause me (Completes plan) v0 v1 (record { reply = x; left = left })) (sym same) call

-- a line without a step
pub refused_at : {me : CallerNo} (now : Progress) (r : Reply) (pass : PassView) → IsLegal pass.limits pass.seen
    → CallClause me (Completes (refused now r)) pass pass (record { reply = r; left = now })
refused_at {me = me} now r pass legal = returned (left_start me (refused now r) pass legal)

-- by how long the selection waits
pub begin_by : {me : CallerNo} (now : Progress) (s : SelNo) {how how' : Option Mode} {said : Said} {v0 v1 : PassView}
    → how ≡ how' → CallClause me (Completes (begin_line now me s how')) v0 v1 said
    → CallClause me (Completes (begin_line now me s how)) v0 v1 said
begin_by {me = me} now s {said = said} {v0 = v0} {v1 = v1} is call =
    subst (λ (x : Option Mode). CallClause me (Completes (begin_line now me s x)) v0 v1 said) (sym is) call

-- by the caller's own selection
pub told_by : {me : CallerNo} (now : Progress) (s : SelNo) (elapsed : Bool)
    (pairs : List (KeyId × ℕ)) {own own' : Option Selection} {said : Said} {v0 v1 : PassView}
    → own ≡ own' → CallClause me (Completes (told_line now s elapsed pairs own')) v0 v1 said
    → CallClause me (Completes (told_line now s elapsed pairs own)) v0 v1 said
told_by {me = me} now s elapsed pairs {said = said} {v0 = v0} {v1 = v1} is call =
    subst (λ (x : Option Selection). CallClause me (Completes (told_line now s elapsed pairs x)) v0 v1 said)
    (sym is) call

pub failed_by : {me : CallerNo} (now : Progress) (s : SelNo) {own own' : Option Selection} {said : Said}
    {v0 v1 : PassView}
    → own ≡ own' → CallClause me (Completes (failed_line now s own')) v0 v1 said
    → CallClause me (Completes (failed_line now s own)) v0 v1 said
failed_by {me = me} now s {said = said} {v0 = v0} {v1 = v1} is call =
    subst (λ (x : Option Selection). CallClause me (Completes (failed_line now s x)) v0 v1 said) (sym is) call

-- ---- what a selection is told

pub tells_ran : {me : CallerNo} (x : Selection) (poll : Poll) (pairs : List (ℕ × ℕ)) {answer : ToldReply}
    {v0 v1 : PassView} → CallClause me (Tells x poll) v0 v1 answer → poll.pairs ≡ pairs
    → CallClause me (Completes (told_plan x pairs poll.elapsed)) v0 v1 answer
tells_ran x poll pairs {answer = answer} call same =
    call_as (Completes (told_plan x pairs poll.elapsed)) answer
    (λ acts run. subst (λ (ps : List (ℕ × ℕ)). Completes (told_plan x ps poll.elapsed) acts answer) same run) call
