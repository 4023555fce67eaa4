-- A refused call changes nothing.
use Rattle.std.proofs.Common.{◌≡◌, ℕ, Bool, true, false, Option, Some, None, is_some, refl, sym, ap, ◌∙◌}
use Rattle.nio_base.specs.declared.numbers.CallerNo.{CallerNo}
use Rattle.nio_base.specs.declared.limits.Limits.{Limits}
use Rattle.nio_group.specs.Run.{reply_to}
use Rattle.nio_language.specs.declared.call.Call.{Call}
use Rattle.nio_plain.proofs.CallChanges as change
use Rattle.nio_plain.proofs.CallChanges.{Change}
use Rattle.nio_plain.proofs.CallLawsCases.{change_of}
use Rattle.nio_plain.proofs.GroupSteps.{refused_step, same_effect}
use Rattle.nio_plain.specs.CallLaws.{changes_pipe, refuses, is_without_effect, RefusalsChangeNothing}
use Rattle.nio_plain.specs.ScriptState.{ScriptState, with_group}
use Rattle.nio_plain.specs.Seq.Replies.{Replied, yes_or_no}
use Rattle.nio_plain.specs.Seq.Grouping.{line_reply}
use Rattle.nio_plain.specs.Seq.Pipes.{own_sink, with_seal}
use Rattle.nio_plain.specs.declared.rules.Rules.{Rules}

abbrev Keeps : ScriptState → CallerNo → Call → Replied → Type 0
Keeps st me c done = is_without_effect c done.reply ≡ true → changes_pipe st me c done.reply ≡ false → done.left ≡ st

no_refusal : {P : Type 0} → false ≡ true → P
no_refusal e = absurd cc

-- a call that changes a pipe
changed : {P : Type 0} → true ≡ false → P
changed e = absurd cc

unsealed : (place : Option ℕ) (st : ScriptState) → is_some place ≡ false → with_seal place st ≡ st
unsealed None st e = refl
unsealed (Some i) st e = changed e

said : {P : Type 0} (b : Bool) → refuses (yes_or_no b) ≡ true → P
said true e = no_refusal e
said false e = no_refusal e

changes : {rules : Rules} {l : Limits} {st : ScriptState} {me : CallerNo} {c : Call} {done : Replied}
    → Change rules l st me c done → Keeps st me c done
changes (change.nothing c r _) e free = refl
changes {st = st} {me = me} (change.closec_again c _ _) e free = unsealed (own_sink st.pipes me c) st free
changes (change.pipe_spent target source _) e free = changed free
changes (change.pread_interrupted c n _) e free = changed free
changes (change.pwrite_closed c bytes i _ _) e free = changed free
changes (change.pwrite_interrupted c bytes i _ _) e free = changed free
changes {st = st} (change.group g s is _ made) e free =
    ap (with_group st) (refused_step st.group s (sym (same_effect g s is (line_reply (reply_to st.group s))) ∙ e))
changes {st = st} {me = me} change.interrupted e free = said (st.shared.interrupted me.0) e
changes _ e free = no_refusal e

pub refusals_change_nothing : RefusalsChangeNothing
refusals_change_nothing rules l st me c = changes (change_of rules l st me c)
