-- The commands, by the words of the command line. The program's name isn't one of these words.
use Rattle.std.specs.Prelude.{◌≡◌, ◌⊎◌, ℕ, ◌≤◌, List, [], ◌∷◌, Option, Some, None, codes}
use Rattle.std.specs.Fmt.{decimal}
use Rattle.nio_relay.specs.Plan.{IsRelayable}
use Rattle.nio_relay.specs.declared.plan.PacketPlan.{PacketPlan}
use Rattle.nio_relay.specs.declared.plan.ProxyPlan.{ProxyPlan}
use Rattle.nio_command.specs.Options.{Text, AreOptions}
use Rattle.nio_command.specs.Values.{IsAddress, PacketValues, ProxyValues, address_text, packet_options, proxy_options}
use Rattle.nio_command.specs.declared.command.Command.{Command}
use Rattle.nio_command.specs.declared.way.ProxyWay.{ProxyWay}
use Rattle.nio_command.specs.declared.way.ProxyWay.TheVariants.{Select, Group, Future, Many}
use Rattle.nio_command.specs.declared.command.Command.TheVariants.{Script, Check, CheckFirst, Race, Timed, Load, Proxy}
use Rattle.nio_command.specs.declared.command.Command.TheVariants.{Packets}

-- the one word `script`
abbrev pub IsScriptCommand : List Text → Type 0
IsScriptCommand words = words ≡ codes "script" ∷ []

-- the one word `check`
abbrev pub IsCheckCommand : List Text → Type 0
IsCheckCommand words = words ≡ codes "check" ∷ []

-- the one word `check-1`
abbrev pub IsCheckFirstCommand : List Text → Type 0
IsCheckFirstCommand words = words ≡ codes "check-1" ∷ []

-- the one word `race`
abbrev pub IsRaceCommand : List Text → Type 0
IsRaceCommand words = words ≡ codes "race" ∷ []

-- the one word `timed`
abbrev pub IsTimedCommand : List Text → Type 0
IsTimedCommand words = words ≡ codes "timed" ∷ []

-- the word `load`, then the number of rounds, from 1 to 100,000
pub record IsLoadCommand (words : List Text) (rounds : ℕ) : Type 0 where
  pub some : 1 ≤ rounds
  pub few : rounds ≤ 100000
  pub says : words ≡ codes "load" ∷ decimal rounds ∷ []

-- after how many connections a proxy of this way ends at most
abbrev pub most_connections : ProxyWay → ℕ
most_connections Select = 4294967295
most_connections (Group count) = 16000
most_connections Future = 16000
most_connections (Many count) = 4294967295

-- both addresses are valid, there are from 1 connection to as many as the way can serve, and 16,000 at once
pub record IsInRange (plan : ProxyPlan) (way : ProxyWay) : Type 0 where
  pub listen : IsAddress plan.listen
  pub target : IsAddress plan.target
  pub some_connections : 1 ≤ plan.conns
  pub few_connections : plan.conns ≤ most_connections way
  pub at_once : plan.at_once ≡ 16000

-- The value of `--workers` asks for so many workers, from 1 to the most that there may be; where it isn't given there
-- are 4.
abbrev pub AsksForWorkers : ℕ → Option Text → ℕ → Type 0
AsksForWorkers most None count = count ≡ 4
AsksForWorkers most (Some workers) count = (1 ≤ count) × (count ≤ most) × (workers ≡ decimal count)

-- The values of `--way` and `--workers` ask for this way. With `select` and with `future` there is no `--workers`; a
-- group has 64 workers at most, and `many` 15.
abbrev pub AsksForWay : Text → Option Text → ProxyWay → Type 0
AsksForWay way workers Select = (way ≡ codes "select") × (workers ≡ None)
AsksForWay way workers (Group count) = (way ≡ codes "group") × AsksForWorkers 64 workers count
AsksForWay way workers Future = (way ≡ codes "future") × (workers ≡ None)
AsksForWay way workers (Many count) = (way ≡ codes "many") × AsksForWorkers 15 workers count

-- the values of the options ask for this plan and this way
pub record AsksFor (v : ProxyValues) (plan : ProxyPlan) (way : ProxyWay) : Type 0 where
  pub in_range : IsInRange plan way
  pub by_way : AsksForWay v.way v.workers way
  pub listen : v.listen ≡ address_text plan.listen
  pub target : v.target ≡ address_text plan.target
  pub conns : v.conns ≡ decimal plan.conns

-- the word `proxy`, then options that ask for this plan and this way
pub record IsProxyCommand (words : List Text) (plan : ProxyPlan) (way : ProxyWay) : Type 0 where
  pub values : ProxyValues
  pub asks : AsksFor values plan way
  pub rest : List Text
  pub begins : words ≡ codes "proxy" ∷ rest
  pub options : AreOptions rest (proxy_options values)

-- the addresses are valid, and there are from 1 to 1,000,000 packets
pub record ArePacketsInRange (plan : PacketPlan) : Type 0 where
  pub listen : IsAddress plan.listen
  pub local : IsAddress plan.local
  pub target : IsAddress plan.target
  pub packets : IsRelayable plan

-- the values of the options ask for this plan
pub record AsksForPackets (v : PacketValues) (plan : PacketPlan) : Type 0 where
  pub in_range : ArePacketsInRange plan
  pub listen : v.listen ≡ address_text plan.listen
  pub local : v.local ≡ address_text plan.local
  pub target : v.target ≡ address_text plan.target
  pub count : v.count ≡ decimal plan.count

-- the word `packets`, then options that ask for this plan
pub record IsPacketsCommand (words : List Text) (plan : PacketPlan) : Type 0 where
  pub values : PacketValues
  pub asks : AsksForPackets values plan
  pub rest : List Text
  pub begins : words ≡ codes "packets" ∷ rest
  pub options : AreOptions rest (packet_options values)

-- the words are this command
abbrev pub IsCommand : List Text → Command → Type 0
IsCommand words Script = IsScriptCommand words
IsCommand words Check = IsCheckCommand words
IsCommand words CheckFirst = IsCheckFirstCommand words
IsCommand words Race = IsRaceCommand words
IsCommand words Timed = IsTimedCommand words
IsCommand words (Load rounds) = IsLoadCommand words rounds
IsCommand words (Proxy plan way) = IsProxyCommand words plan way
IsCommand words (Packets plan) = IsPacketsCommand words plan

-- the first word is `proxy`
pub record BeginsProxy (words : List Text) : Type 0 where
  pub rest : List Text
  pub begins : words ≡ codes "proxy" ∷ rest

-- the first word is `packets`
pub record BeginsPackets (words : List Text) : Type 0 where
  pub rest : List Text
  pub begins : words ≡ codes "packets" ∷ rest

-- the words after the first are read as options
abbrev pub HasOptions : List Text → Type 0
HasOptions words = BeginsProxy words ⊎ BeginsPackets words

-- the words aren't a command
abbrev pub SaysNothing : List Text → Type 0
SaysNothing words = (command : Command) → ¬ (IsCommand words command)
