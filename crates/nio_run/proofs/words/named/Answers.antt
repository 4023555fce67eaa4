use Rattle.std.proofs.Common.{arith}
use Rattle.nio_command.specs.declared.command.Command.TheVariants.{Script, Check, CheckFirst, Race, Timed, Load, Proxy}
use Rattle.nio_command.specs.declared.command.Command.TheVariants.{Packets}
use Rattle.nio_run.proofs.Named.{its_servable, or_memory, without_options}
use Rattle.nio_run.proofs.words.named.Goals as goal

pub returns-clause-script : goal.returns-clause-script
returns-clause-script c = let its =
    c.command_of.ensures in (
      its.found Script,
      λ says. its.only Script says
          (λ lacks. without_options _ _ _ _ says (λ e. absurd (omega (arith, e))) (its.memory lacks)),
    )

pub returns-clause-check : goal.returns-clause-check
returns-clause-check c = let its =
    c.command_of.ensures in (
      its.found Check,
      λ says. its.only Check says
          (λ lacks. without_options _ _ _ _ says (λ e. absurd (omega (arith, e))) (its.memory lacks)),
    )

pub returns-clause-check_first : goal.returns-clause-check_first
returns-clause-check_first c = let its =
    c.command_of.ensures in (
      its.found CheckFirst,
      λ says. its.only CheckFirst says
          (λ lacks. without_options _ _ _ _ says (λ e. absurd (omega (arith, e))) (its.memory lacks)),
    )

pub returns-clause-race : goal.returns-clause-race
returns-clause-race c = let its =
    c.command_of.ensures in (
      its.found Race,
      λ says. its.only Race says
          (λ lacks. without_options _ _ _ _ says (λ e. absurd (omega (arith, e))) (its.memory lacks)),
    )

pub returns-clause-timed : goal.returns-clause-timed
returns-clause-timed c = let its =
    c.command_of.ensures in (
      its.found Timed,
      λ says. its.only Timed says
          (λ lacks. without_options _ _ _ _ says (λ e. absurd (omega (arith, e))) (its.memory lacks)),
    )

pub returns-clause-load : goal.returns-clause-load
returns-clause-load c = λ rounds. let its =
    c.command_of.ensures in (
      its.found (Load rounds),
      λ says. its.only (Load rounds) says
          (λ lacks. without_options _ _ _ _ says.says (λ e. absurd (omega (arith, e))) (its.memory lacks)),
    )

pub returns-clause-proxy : goal.returns-clause-proxy
returns-clause-proxy c = λ plan way. c.command_of.ensures.found (Proxy plan way)

pub returns-clause-proxy_only : goal.returns-clause-proxy_only
returns-clause-proxy_only c =
    λ plan way says. or_memory c.command_of.result (Proxy plan way) (c.command_of.ensures.only (Proxy plan way) says)

pub returns-clause-servable : goal.returns-clause-servable
returns-clause-servable c =
    λ plan way is. its_servable _ plan way (c.command_of.ensures.found (Proxy plan way) is)

pub returns-clause-packets : goal.returns-clause-packets
returns-clause-packets c = λ plan. c.command_of.ensures.found (Packets plan)

pub returns-clause-packets_only : goal.returns-clause-packets_only
returns-clause-packets_only c =
    λ plan says. or_memory c.command_of.result (Packets plan) (c.command_of.ensures.only (Packets plan) says)

pub returns-clause-relayable : goal.returns-clause-relayable
returns-clause-relayable c = λ plan is. (c.command_of.ensures.found (Packets plan) is).asks.in_range.packets
