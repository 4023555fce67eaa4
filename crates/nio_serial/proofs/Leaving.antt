-- What a line leaves in progress, whatever it finds.
use Rattle.std.proofs.Common.{nat_lt, Bool, true, false, if◌then◌else◌, Option, is_some, List}
use Rattle.std.specs.Prelude.{⊤}
use Rattle.nio_base.specs.declared.limits.Limits.{Limits}
use Rattle.nio_base.specs.declared.numbers.CallerNo.{CallerNo}
use Rattle.nio_history.specs.declared.act.Act.{Act}
use Rattle.nio_language.proofs.KeptNames.{kept_by_names}
use Rattle.nio_language.specs.WordRows.{word_row}
use Rattle.nio_language.specs.declared.call.Call.{Call}
use Rattle.nio_language.specs.declared.reply.Reply.{Reply}
use Rattle.nio_language.specs.declared.reply.Reply.TheVariants as reply
use Rattle.nio_language.specs.declared.word_row.LineName.{LineName}
use Rattle.nio_language.specs.declared.word_row.LineName.TheVariants.{Caller, Selector, Channel, Key}
use Rattle.nio_steps.proofs.Each.{Each}
use Rattle.nio_steps.proofs.EachLaws.{each_bind, each_run}
use Rattle.nio_steps.specs.KeyCalls.{find_selector_plan, find_channel_plan, find_plan}
use Rattle.nio_steps.specs.Plan.{Plan, ask, ◌>>=◌}
use Rattle.nio_steps.specs.Runs.{Completes}
use Rattle.nio_serial.specs.Documented.{Progress}
use Rattle.nio_serial.specs.Lines.{Said, makes, asks, refused, if_found, if_name, if_named, call_plan, line_plan}

each_any : {R : Type 0} (plan : Plan R) → Each (λ _. ⊤) (λ _. ⊤) plan
each_any (Plan.reply r) = tt
each_any (ask q next) = (tt, λ answer. each_any (next answer))

-- `P` holds of what the plan leaves in progress
abbrev pub Leaves : (Progress → Type 0) → Plan Said → Type 0
Leaves P plan = Each (λ _. ⊤) (λ said. P said.left) plan

pub makes-leaves : {R : Type 0} (P : Progress → Type 0) (plan : Plan R) (said : R → Reply) (left : R → Progress)
    → ((r : R) → P (left r)) → Leaves P (makes plan said left)
makes-leaves P plan said left each =
    each_bind (λ _. ⊤) (λ _. ⊤) (λ (s : Said). P s.left) plan _ (each_any plan) (λ r _. each r)

pub run-leaves : (P : Progress → Type 0) (plan : Plan Said) (acts : List Act) (said : Said) → Leaves P plan
    → Completes plan acts said → P said.left
run-leaves P plan acts said leaves run = (each_run (λ _. ⊤) (λ (s : Said). P s.left) plan acts said leaves run).1

-- `P` holds of what was in progress
module _ (P : Progress → Type 0) (now : Progress) (here : P now) where
  -- a line that leaves all that is in progress
  pub asks-leaves : {R : Type 0} (plan : Plan R) (said : R → Reply) → Leaves P (asks now plan said)
  asks-leaves plan said = makes-leaves P plan said (λ _. now) (λ _. here)

  pub if-leaves : (b : Bool) (r : Reply) (plan : Plan Said) → Leaves P plan
      → Leaves P (if b then plan else refused now r)
  if-leaves true r plan leaves = leaves
  if-leaves false r plan leaves = here

  -- ---- the look-ups

  pub found-leaves : {A : Type 0} (look : Plan (Option A)) (r : Reply) (plan : Plan Said) → Leaves P plan
      → Leaves P (look >>= if_found now r plan)
  found-leaves look r plan leaves =
      each_bind (λ _. ⊤) (λ _. ⊤) (λ (s : Said). P s.left) look (if_found now r plan) (each_any look)
      (λ found _. if-leaves (is_some found) r plan leaves)

  name-leaves : (l : Limits) (a : LineName) (plan : Plan Said) → Leaves P plan → Leaves P (if_name l now a plan)
  name-leaves l (Caller n) plan leaves = if-leaves (nat_lt n.0 l.callers) reply.NoCaller plan leaves
  name-leaves l (Selector s) plan leaves = found-leaves (find_selector_plan l s.0) reply.NoSelector plan leaves
  name-leaves l (Channel c) plan leaves =
      found-leaves (find_channel_plan l c.number.0 c.serial) reply.NoChannel plan leaves
  name-leaves l (Key s k) plan leaves =
      found-leaves (find_selector_plan l s.0) reply.NoSelector _
      (found-leaves (find_plan l s k.index k.serial) reply.NoKey plan leaves)

  pub named-leaves : (l : Limits) (word : Call) (plan : Plan Said) → Leaves P plan
      → Leaves P (if_named l now word plan)
  unfolding if_named
  named-leaves l word plan leaves =
      kept_by_names (λ p. Leaves P p) (if_name l now) (name-leaves l) (word_row word).names plan leaves

  -- a whole line
  pub line-leaves : (l : Limits) (me : CallerNo) (word : Call) → Leaves P (call_plan l now me word)
      → Leaves P (line_plan l now me word)
  unfolding line_plan
  line-leaves l me word leaves =
      if-leaves (nat_lt me.0 l.callers) reply.NoCaller _ (named-leaves l word (call_plan l now me word) leaves)
