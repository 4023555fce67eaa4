use Rattle.std.proofs.Common.{Option, ◌≡◌, ◌∙◌, ap, subst, sym}
use Rattle.std.specs.Option.{ok_or}
use Rattle.nio_relay.specs.declared.plan.PacketPlan.{PacketPlan}
use Rattle.nio_command.specs.Texts.{packet_texts_of}
use Rattle.nio_command.specs.Values.{PacketValues}
use Rattle.nio_command.specs.Words.{AsksForPackets}
use Rattle.nio_command.specs.declared.command.WordsError.TheVariants.{Usage}
use Rattle.nio_command.proofs.Commands.{packets_rest, plain_packet_values, some_as, some_no_err}
use Rattle.nio_command.proofs.command.read_packets.Goals as goal

pub returns-in_err-texts-clause-only : goal.returns-in_err-texts-clause-only
returns-in_err-texts-clause-only c = λ plan is ok.
    let only = c.in_ok-read_packet_options.ensures.only is.values (packets_rest _ plan is)
    (plain_packet_values is.values plan is.asks) in
    absurd (some_no_err c.in_ok-read_packet_options.field-0
    (λ t. packet_texts_of t ≡ is.values) Usage c.in_err-texts.field-0.0 c.ok_or.result only
    c.ok_or.ensures.value c.in_err-texts.was)

pub returns-clause-only : goal.returns-clause-only
returns-clause-only c = λ plan is ok.
    let only = c.in_ok-read_packet_options.ensures.only is.values (packets_rest _ plan is)
    (plain_packet_values is.values plan is.asks) in
    let texts = some_as c.in_ok-read_packet_options.field-0
    (λ t. packet_texts_of t ≡ is.values) Usage c.ok_or.result c.in_ok-texts.texts only
    c.ok_or.ensures.value c.in_ok-texts.was in
    let read = c.read_packet_plan.ensures.only plan
    (subst (λ (v : PacketValues). AsksForPackets v plan) (sym texts) is.asks) in
    c.ok_or-2.ensures.value ∙ ap (λ (o : Option PacketPlan). ok_or o Usage) read
