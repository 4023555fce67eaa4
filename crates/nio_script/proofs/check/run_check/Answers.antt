use Rattle.std.proofs.Common.{◌≡◌, ◌≤◌, ◌⊎◌, ℕ, List, length, inl, inr, ⊎_elim, sym, subst}
use Rattle.std.specs.Prelude.{IfSome}
use Rattle.nio_language.specs.declared.reply.Reply.{Reply}
use Rattle.nio_script.specs.Check.{IsLegalHistory, IsFirstIllegal}
use Rattle.nio_script.specs.History.{Entry, IsHistory, IsFirstBadEntry}
use Rattle.nio_script.specs.declared.input.TheConstants.{LONGEST_INPUT}
use Rattle.nio_script.specs.declared.status.Status.TheVariants.{Done, BadScript, ReadFault, WriteFault, Memory, Illegal}
use Rattle.nio_script.proofs.Bytes.{if_known}
use Rattle.nio_script.proofs.Checking.{of_legal, of_illegal}
use Rattle.nio_script.proofs.check.run_check.Goals as goal
use Rattle.nio_script.proofs.check.run_check.Goals.{After-check_text}

-- the bytes that are told are the text
known : (g : _) (c : After-check_text g)
    → IfSome (g.S.Source.left c.args.input.now) (λ bytes. bytes ≡ c.deref.result.now)
known g c =
    subst (λ text. IfSome (g.S.Source.left c.args.input.now) (λ bytes. bytes ≡ text))
    (sym c.deref.ensures.value) c.in-Ok.ensures.whole.whole

pub returns-in-Ok-clause-of_legal : goal.returns-in-Ok-clause-of_legal
returns-in-Ok-clause-of_legal g c =
    let status = c.check_text.result in
    if_known (g.S.Source.left c.args.input.now) c.deref.result.now
    (λ text. (entries : List Entry) → length text ≤ LONGEST_INPUT → IsHistory c.args.rules text entries
    → IsLegalHistory c.args.rules c.args.limits entries
    → (status ≡ Done) ⊎ (status ≡ ReadFault) ⊎ (status ≡ WriteFault) ⊎ (status ≡ Memory))
    (known g (goal.at.returns-in-Ok-clause-of_legal g c).After-check_text)
    (λ entries fits history legal. of_legal _ _ entries status (c.check_text.ensures.of_history entries history) legal)

pub returns-in-Ok-clause-of_illegal : goal.returns-in-Ok-clause-of_illegal
returns-in-Ok-clause-of_illegal g c =
    let status = c.check_text.result in
    if_known (g.S.Source.left c.args.input.now) c.deref.result.now
    (λ text. (entries : List Entry) (number : ℕ) (right : Reply) → length text ≤ LONGEST_INPUT
    → IsHistory c.args.rules text entries
    → IsFirstIllegal c.args.rules c.args.limits entries number right → (status ≡ Illegal number) ⊎ (status ≡ ReadFault)
    ⊎ (status ≡ Memory))
    (known g (goal.at.returns-in-Ok-clause-of_illegal g c).After-check_text)
    (λ entries number right fits history first. of_illegal _ _ entries status number right
    (c.check_text.ensures.of_history entries history) first)

pub returns-in-Ok-clause-of_bad : goal.returns-in-Ok-clause-of_bad
returns-in-Ok-clause-of_bad g c =
    let status = c.check_text.result in
    if_known (g.S.Source.left c.args.input.now) c.deref.result.now
    (λ text. (line : ℕ) → length text ≤ LONGEST_INPUT → IsFirstBadEntry c.args.rules text line
    → (status ≡ BadScript line) ⊎ (status ≡ ReadFault) ⊎ (status ≡ Memory))
    (known g (goal.at.returns-in-Ok-clause-of_bad g c).After-check_text)
    (λ line fits bad. ⊎_elim inl (λ lacks. inr (inr lacks)) (c.check_text.ensures.of_bad line bad))
