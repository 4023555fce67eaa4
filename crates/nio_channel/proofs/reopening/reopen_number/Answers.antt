use denote.Enum.Bare.{same_true}
use Rattle.std.proofs.Common.{◌≡◌, true, Ok, Err, Result, refl, ap, sym, ◌∙◌, eq-eqb, rules}
use Rattle.std.specs.Result.{result_ok}
use Rattle.std.proofs.lemmas.Bool.{and_from}
use Rattle.nio_base.specs.Kind.{is_same_kind, kind_code}
use Rattle.nio_base.specs.contracts.kind.Kind.{the_type}
use Rattle.nio_base.specs.declared.numbers.ChanId.{ChanId}
use Rattle.nio_history.specs.Sets.{can_reopen}
use Rattle.nio_steps.proofs.CallLaws.{returned, left_ask, left_then, ran_then}
use Rattle.nio_steps.specs.ChannelCalls.{reopened}
use Rattle.nio_steps.specs.Plan.{reply}
use Rattle.nio_steps.specs.declared.refusal.ReopenError.{ReopenError}
use Rattle.nio_steps.specs.declared.refusal.ReopenError.TheVariants.{Lost, Open, SerialsSpent, Busy, Registered}
use Rattle.nio_words.proofs.Views.{step_acts}
use Rattle.nio_channel.proofs.Chains.{left_at}
use Rattle.nio_channel.proofs.Chans.{reopen_parts}
use Rattle.nio_channel.proofs.Made.{found_made}
use Rattle.nio_channel.proofs.reopening.reopen_number.Goals as goal

-- a refusal is passed over
reopened-is : (answer : Result ChanId ReopenError) → reopened answer ≡ reply (result_ok answer)
reopened-is (Ok c) = refl
reopened-is (Err Lost) = refl
reopened-is (Err Open) = refl
reopened-is (Err SerialsSpent) = refl
reopened-is (Err Busy) = refl
reopened-is (Err Registered) = refl

pub reopen_found-requires-clause-made : goal.reopen_found-requires-clause-made
reopen_found-requires-clause-made c =
    let can : can_reopen c.look_channel-found.result ≡ true = search rules in
    found_made (step_acts c.look_channel-found.ensures refl) (reopen_parts c.look_channel-found.result can).made

pub returns-then-eq-clause-call : goal.returns-then-eq-clause-call
returns-then-eq-clause-call c =
    let can : can_reopen c.look_channel-found.result ≡ true = search rules in
    let kinds : c.look_channel-found.result.kind ≡ c.args.kind =
    same_true the_type (search rules) _ _ (sym c.eq.ensures ∙ c.if-eq.true) in
    let same : is_same_kind c.look_channel-found.result.kind c.args.kind ≡ true =
    eq-eqb (kind_code c.look_channel-found.result.kind) (kind_code c.args.kind) (ap kind_code kinds) in
    returned (left_ask _ (step_acts c.look_channel-found.ensures refl)
    (left_then _ _ _ (and_from (can_reopen c.look_channel-found.result) _ can same)
    (ran_then reopened c.reopen_found.ensures.call
    (left_at (reopened-is c.reopen_found.result ∙ ap reply (sym c.ok.ensures.value))
    c.reopen_found.ensures.call.acts))))
