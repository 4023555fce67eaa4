use Rattle.std.proofs.Common.{◌≡◌, ℕ, suc, ◌==◌, false, if◌then◌else◌, None, Ok, Err, [], ◌∷◌, refl, ap}
use Rattle.std.proofs.Common.{sym, ◌∙◌, subst, add-one, eq-eqb, rules}
use Rattle.std.specs.Prelude.{is_some}
use Rattle.std.proofs.lemmas.Bool.{or_left}
use Rattle.nio_history.proofs.PassViews.{acts_nothing}
use Rattle.nio_history.specs.OwnEvents.{has, reopens}
use Rattle.nio_history.specs.PassViews.{ActsClause}
use Rattle.nio_history.specs.declared.act.Act.TheVariants.{Reopen}
use Rattle.nio_steps.proofs.CallLaws.{returned, left_ask, left_else}
use Rattle.nio_steps.specs.Names.{channel_of}
use Rattle.nio_steps.specs.Plan.{reply}
use Rattle.nio_steps.specs.declared.refusal.ReopenError.TheVariants.{Busy}
use Rattle.nio_words.proofs.Views.{step_acts}
use Rattle.nio_words.specs.Views.{view}
use Rattle.nio_channel.proofs.Chains.{left_at}
use Rattle.nio_channel.proofs.Chans.{reopen_parts}
use Rattle.nio_channel.proofs.Done.{has_done}
use Rattle.nio_channel.proofs.Held.{hold_stays}
use Rattle.nio_channel.proofs.Made.{reopened_now}
use Rattle.nio_channel.specs.Opened.{HasOpened}
use Rattle.nio_channel.proofs.reopening.reopen_clear.Goals as goal

pub returns-then-is_some-clause-took : goal.returns-then-is_some-clause-took
returns-then-is_some-clause-took c =
    sym (has_done (reopens c.args.number.0) (acts_nothing c.args.me (view c.args.w.now c.args.p.now)
    c.requires.held.ready.pass.legal))

pub reopen-requires-clause-made : goal.reopen-requires-clause-made
reopen-requires-clause-made c = (reopen_parts c.args.from c.requires.can).made

pub reopen-requires-clause-closed : goal.reopen-requires-clause-closed
reopen-requires-clause-closed c = (reopen_parts c.args.from c.requires.can).closed

pub reopen-requires-clause-serial : goal.reopen-requires-clause-serial
reopen-requires-clause-serial c = (reopen_parts c.args.from c.requires.can).below_last

pub reopen-requires-clause-clear : goal.reopen-requires-clause-clear
reopen-requires-clause-clear c =
    let none : c.args.registered ≡ None = search rules in
    c.requires.clear none

pub returns-then-reopen-clause-call : goal.returns-then-reopen-clause-call
returns-then-reopen-clause-call c =
    let free : is_some c.args.registered ≡ false = search rules in
    returned (left_else _ _ _ free (left_ask _ (step_acts c.reopen.ensures refl)
    (left_at (ap (λ b. reply (if b then Err Busy else Ok (channel_of c.args.number (suc c.args.from.serial))))
    c.if-reopen.true) (step_acts c.reopen.ensures refl))))

pub returns-then-reopen-clause-held : goal.returns-then-reopen-clause-held
returns-then-reopen-clause-held c = hold_stays c.reopen.ensures refl refl c.requires.held

pub returns-then-reopen-clause-took : goal.returns-then-reopen-clause-took
returns-then-reopen-clause-took c =
    sym (has_done (reopens c.args.number.0) (step_acts c.reopen.ensures refl)
    ∙ ap (λ b. has (reopens c.args.number.0) (Reopen c.args.number c.args.from b ∷ [])) c.if-reopen.true)

pub returns-clause-call : goal.returns-clause-call
returns-clause-call c =
    let free : is_some c.args.registered ≡ false = search rules in
    returned (left_else _ _ _ free (left_ask _ (step_acts c.reopen.ensures refl)
    (left_at (ap (λ b. reply (if b then Err Busy else Ok (channel_of c.args.number (suc c.args.from.serial))))
    c.if-reopen.false ∙ ap (λ (n : ℕ). reply (Ok (channel_of c.args.number n))) (sym (add-one c.args.from.serial)))
    (step_acts c.reopen.ensures refl))))

pub returns-clause-held : goal.returns-clause-held
returns-clause-held c = hold_stays c.reopen.ensures refl refl c.requires.held

pub returns-clause-next : goal.returns-clause-next
returns-clause-next c = ap (channel_of c.args.number) (add-one c.args.from.serial)

pub returns-clause-opened : goal.returns-clause-opened
returns-clause-opened c =
    let done = subst (λ b. ActsClause c.args.me (Reopen c.args.number c.args.from b ∷ [])
    (view c.args.w.now c.args.p.now) (view c.args.w.now c.reopen.new.p)) c.if-reopen.false
    (step_acts c.reopen.ensures refl) in
    subst (λ (n : ℕ). HasOpened (view c.args.w.now c.reopen.new.p) c.args.from.kind (channel_of c.args.number n))
    (sym (add-one c.args.from.serial)) (reopened_now done c.requires.held.channel)

pub returns-clause-took : goal.returns-clause-took
returns-clause-took c =
    sym (has_done (reopens c.args.number.0) (step_acts c.reopen.ensures refl)
    ∙ (ap (λ b. has (reopens c.args.number.0) (Reopen c.args.number c.args.from b ∷ [])) c.if-reopen.false
    ∙ or_left (c.args.number.0 == c.args.number.0) false (eq-eqb c.args.number.0 c.args.number.0 refl)))
