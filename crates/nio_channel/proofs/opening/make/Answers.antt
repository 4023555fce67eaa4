use Rattle.std.proofs.Common.{[], ◌∷◌, refl, subst}
use Rattle.nio_history.specs.PassViews.{ActsClause}
use Rattle.nio_history.specs.declared.act.Act.TheVariants.{MakeChannel}
use Rattle.nio_words.proofs.Views.{step_acts}
use Rattle.nio_words.specs.Views.{view}
use Rattle.nio_channel.proofs.Made.{all_made_more, kind_made}
use Rattle.nio_channel.proofs.opening.make.Goals as goal

pub returns-then-make_channel-clause-lower : goal.returns-then-make_channel-clause-lower
returns-then-make_channel-clause-lower c = all_made_more (step_acts c.make_channel.ensures refl) c.requires.lower

pub returns-else-make_channel-clause-lower : goal.returns-else-make_channel-clause-lower
returns-else-make_channel-clause-lower c = all_made_more (step_acts c.make_channel.ensures refl) c.requires.lower

pub returns-else-make_channel-clause-kind : goal.returns-else-make_channel-clause-kind
returns-else-make_channel-clause-kind c =
    kind_made
    (subst (λ b. ActsClause c.args.me (MakeChannel c.args.chan c.args.kind b ∷ []) (view c.args.w.now c.args.p.now)
    (view c.args.w.now c.make_channel.new.p)) c.if-make_channel.false (step_acts c.make_channel.ensures refl))
