use Rattle.std.proofs.Common.{Option, ◌≡◌, ◌∙◌, ap, subst, sym}
use Rattle.std.specs.Option.{ok_or}
use Rattle.nio_relay.specs.declared.plan.ProxyPlan.{ProxyPlan}
use Rattle.nio_command.specs.Texts.{texts_of}
use Rattle.nio_command.specs.Values.{ProxyValues}
use Rattle.nio_command.specs.Words.{AsksFor}
use Rattle.nio_command.specs.declared.command.WordsError.TheVariants.{Usage}
use Rattle.nio_command.specs.declared.way.ProxyWay.{ProxyWay}
use Rattle.nio_command.proofs.Commands.{plain_values, same_rest, some_as, some_no_err}
use Rattle.nio_command.proofs.command.read_proxy.Goals as goal

pub returns-in_err-texts-clause-only : goal.returns-in_err-texts-clause-only
returns-in_err-texts-clause-only c = λ plan way is ok.
    let only = c.in_ok-read_proxy_options.ensures.only is.values (same_rest _ plan way is)
    (plain_values is.values plan way is.asks) in
    absurd (some_no_err c.in_ok-read_proxy_options.field-0
    (λ t. texts_of t ≡ is.values) Usage c.in_err-texts.field-0.0 c.ok_or.result only
    c.ok_or.ensures.value c.in_err-texts.was)

pub returns-clause-only : goal.returns-clause-only
returns-clause-only c = λ plan way is ok.
    let only = c.in_ok-read_proxy_options.ensures.only is.values (same_rest _ plan way is)
    (plain_values is.values plan way is.asks) in
    let texts = some_as c.in_ok-read_proxy_options.field-0
    (λ t. texts_of t ≡ is.values) Usage c.ok_or.result c.in_ok-texts.texts only
    c.ok_or.ensures.value c.in_ok-texts.was in
    let read = c.read_proxy_plan.ensures.only plan way
    (subst (λ (v : ProxyValues). AsksFor v plan way) (sym texts) is.asks) in
    c.ok_or-2.ensures.value ∙ ap (λ (o : Option (ProxyPlan × ProxyWay)). ok_or o Usage) read
