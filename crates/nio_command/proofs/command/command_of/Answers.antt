use Rattle.std.proofs.Common.{◌≡◌, arith, map, length, take, drop, ℕ, List, [], ◌∷◌, ◌-◌, ◌∙◌, ap, subst, sym, codes}
use Rattle.std.proofs.Common.{inl}
use Rattle.std.proofs.Common.{Option}
use Rattle.std.specs.Option.{ok_or}
use Rattle.nio_command.specs.Words.{IsCommand, IsPacketsCommand, IsProxyCommand}
use Rattle.nio_command.specs.declared.command.Command.{Command}
use Rattle.nio_command.specs.declared.command.Command.TheVariants.{Packets, Proxy}
use Rattle.nio_command.specs.declared.command.WordsError.TheVariants.{Usage}
use Rattle.std.specs.String.{string_bytes}
use Rattle.std.proofs.lemmas.Grind.{common_steps}
use Rattle.nio_command.proofs.Commands.{behind_load, behind_word, if_some_as, made, only_packets, only_proxy}
use Rattle.nio_command.proofs.Commands.{same_command, usage_from}
use Rattle.nio_command.proofs.command.command_of.Goals as goal
use Rattle.nio_command.proofs.command.command_of.Goals.{After-ok_or}

pub returns-in-len1-clause-found : goal.returns-in-len1-clause-found
returns-in-len1-clause-found c = grind (arith, common_steps)

pub returns-in-len1-clause-only : goal.returns-in-len1-clause-only
returns-in-len1-clause-only c = grind (arith, common_steps)

pub returns-in-len1-clause-usage : goal.returns-in-len1-clause-usage
returns-in-len1-clause-usage c =
    usage_from (map string_bytes c.args.words.now) c.ok_or-in-len1.result (returns-in-len1-clause-found c)
    (returns-in-len1-clause-only c)

pub returns-in_err-plan-in-len1-up-clause-memory : goal.returns-in_err-plan-in-len1-up-clause-memory
returns-in_err-plan-in-len1-up-clause-memory c = λ e. inl (record {
  rest = map string_bytes (take (length c.args.words.now - 1) (drop 1 c.args.words.now));
  begins = behind_word (codes "proxy") c.args.words.now c.word-item-2.result c.as_str.result.now c.word-item-2.is
      (omega arith) c.as_str.ensures.value
      (sym c.eq.ensures ∙ c.if-eq.true);
})

pub returns-in_ok-plan-in-len1-up-clause-found : goal.returns-in_ok-plan-in-len1-up-clause-found
returns-in_ok-plan-in-len1-up-clause-found c = λ command e.
    let plan = c.in_ok-plan-in-len1-up.plan in
    let way = c.in_ok-plan-in-len1-up.way in
    let begins = behind_word (codes "proxy") c.args.words.now c.word-item-2.result c.as_str.result.now
    c.word-item-2.is (omega arith) c.as_str.ensures.value (sym c.eq.ensures ∙ c.if-eq.true) in
    let found = c.read_proxy.ensures.found plan way c.in_ok-plan-in-len1-up.was in
    subst (IsCommand (map string_bytes c.args.words.now)) (sym (same_command (Proxy plan way) command e))
    (subst (λ (ws : List (List ℕ)). IsProxyCommand ws plan way) (sym begins) found)

pub returns-in_ok-plan-in-len1-up-clause-only : goal.returns-in_ok-plan-in-len1-up-clause-only
returns-in_ok-plan-in-len1-up-clause-only c = λ command is room.
    let plan = c.in_ok-plan-in-len1-up.plan in
    let way = c.in_ok-plan-in-len1-up.way in
    let begins = behind_word (codes "proxy") c.args.words.now c.word-item-2.result c.as_str.result.now
    c.word-item-2.is (omega arith) c.as_str.ensures.value (sym c.eq.ensures ∙ c.if-eq.true) in
    only_proxy (map string_bytes c.args.words.now)
    (map string_bytes (take (length c.args.words.now - 1) (drop 1 c.args.words.now)))
    c.read_proxy.result plan way begins c.in_ok-plan-in-len1-up.was c.read_proxy.ensures.only command is

pub returns-in_ok-plan-in-len1-up-clause-usage : goal.returns-in_ok-plan-in-len1-up-clause-usage
returns-in_ok-plan-in-len1-up-clause-usage c =
    usage_from (map string_bytes c.args.words.now)
    (made (Proxy c.in_ok-plan-in-len1-up.plan c.in_ok-plan-in-len1-up.way))
    (returns-in_ok-plan-in-len1-up-clause-found c) (returns-in_ok-plan-in-len1-up-clause-only c)

pub returns-in_ok-read_packets-in-len1-up-2-clause-found : goal.returns-in_ok-read_packets-in-len1-up-2-clause-found
returns-in_ok-read_packets-in-len1-up-2-clause-found c = λ command e.
    let plan = c.in_ok-read_packets-in-len1-up-2.field-0 in
    let begins = behind_word (codes "packets") c.args.words.now c.word-item-3.result c.as_str-2.result.now
    c.word-item-3.is (omega arith) c.as_str-2.ensures.value (sym c.eq-2.ensures ∙ c.if-eq-2.true) in
    let found = c.read_packets.ensures.found plan c.in_ok-read_packets-in-len1-up-2.was in
    subst (IsCommand (map string_bytes c.args.words.now)) (sym (same_command (Packets plan) command e))
    (subst (λ (ws : List (List ℕ)). IsPacketsCommand ws plan) (sym begins) found)

pub returns-in_ok-read_packets-in-len1-up-2-clause-only : goal.returns-in_ok-read_packets-in-len1-up-2-clause-only
returns-in_ok-read_packets-in-len1-up-2-clause-only c = λ command is room.
    let plan = c.in_ok-read_packets-in-len1-up-2.field-0 in
    let begins = behind_word (codes "packets") c.args.words.now c.word-item-3.result c.as_str-2.result.now
    c.word-item-3.is (omega arith) c.as_str-2.ensures.value (sym c.eq-2.ensures ∙ c.if-eq-2.true) in
    only_packets (map string_bytes c.args.words.now)
    (map string_bytes (take (length c.args.words.now - 1) (drop 1 c.args.words.now)))
    c.read_packets.result plan begins c.in_ok-read_packets-in-len1-up-2.was c.read_packets.ensures.only command is

pub returns-in_ok-read_packets-in-len1-up-2-clause-usage : goal.returns-in_ok-read_packets-in-len1-up-2-clause-usage
returns-in_ok-read_packets-in-len1-up-2-clause-usage c =
    usage_from (map string_bytes c.args.words.now) (made (Packets c.in_ok-read_packets-in-len1-up-2.field-0))
    (returns-in_ok-read_packets-in-len1-up-2-clause-found c) (returns-in_ok-read_packets-in-len1-up-2-clause-only c)

-- the words of the arm on `load`
are_two : (c : After-ok_or) → map string_bytes c.args.words.now ≡ codes "load" ∷ c.as_str-in-len2.result.now ∷ []
are_two c =
    behind_load c.args.words.now c.word-item-then-words-lt3.result c.rounds-item.result
    c.as_str-then-words-lt3.result.now c.as_str-in-len2.result.now
    c.word-item-then-words-lt3.is c.rounds-item.is (omega arith) (omega arith)
    c.as_str-then-words-lt3.ensures.value (sym c.eq-then-words-lt3.ensures ∙ c.if-eq-3.true)
    c.as_str-in-len2.ensures.value

pub returns-in-len2-clause-found : goal.returns-in-len2-clause-found
returns-in-len2-clause-found c = λ command ok.
    subst (λ (ws : List (List ℕ)). IsCommand ws command) (sym (are_two c))
    (if_some_as c.read_load.result (IsCommand (codes "load" ∷ c.as_str-in-len2.result.now ∷ [])) Usage c.ok_or.result
    command c.read_load.ensures.found c.ok_or.ensures.value ok)

pub returns-in-len2-clause-only : goal.returns-in-len2-clause-only
returns-in-len2-clause-only c = λ command is room.
    c.ok_or.ensures.value
    ∙ ap (λ (o : Option Command). ok_or o Usage)
    (c.read_load.ensures.only command (subst (λ (ws : List (List ℕ)). IsCommand ws command) (are_two c) is))

pub returns-in-len2-clause-usage : goal.returns-in-len2-clause-usage
returns-in-len2-clause-usage c =
    usage_from (map string_bytes c.args.words.now) c.ok_or.result (returns-in-len2-clause-found c)
    (returns-in-len2-clause-only c)
