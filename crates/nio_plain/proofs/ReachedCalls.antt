-- Each call of the documented system leaves a sound state, and ends no invalid key and no closing.
use Rattle.std.proofs.Common.{◌≡◌, ℕ, Bool, true, false, cond, Some, None}
use Rattle.nio_base.specs.declared.limits.Limits.{Limits}
use Rattle.nio_base.specs.declared.numbers.CallerNo.{CallerNo}
use Rattle.nio_language.specs.declared.call.Call.{Call}
use Rattle.nio_language.specs.declared.reply.Reply.TheVariants as reply
use Rattle.nio_plain.proofs.ReachedChanges.{keeps_woken, keeps_unselected, keeps_shut, keeps_left, keeps_cancelled_key}
use Rattle.nio_plain.proofs.ReachedChannels.{keeps_selector, keeps_mode, keeps_closed_channel}
use Rattle.nio_plain.proofs.ReachedPipes.{keeps_made, keeps_pipe, keeps_pipe_spent}
use Rattle.nio_plain.proofs.ReachedRegistering.{next-is, keeps_new_key}
use Rattle.nio_plain.proofs.ReachedRemoving.{keeps_begun, keeps_ended, keeps_closed}
use Rattle.nio_plain.proofs.ReachedSound.{Sound, Keeps, same_stays}
use Rattle.nio_plain.specs.ScriptState.{ScriptState, Selection}
use Rattle.nio_plain.specs.Seq.{seq}
use Rattle.nio_plain.specs.Seq.Replies.{Replied}
use Rattle.nio_plain.specs.Seq.Selections.{is_caller, own_selection}
use Rattle.nio_plain.specs.declared.rules.Rules.{Rules}
use Rattle.nio_plain.proofs.CallChanges as change
use Rattle.nio_plain.proofs.CallChanges.{Change}
use Rattle.nio_plain.proofs.CallLawsCases.{change_of}

module _ (rules : Rules) (l : Limits) (st : ScriptState) (me : CallerNo) (sound : Sound rules l st) where
  -- a caller's own selection is the selector's
  pub own-is : (s : ℕ) (x : Selection) → own_selection st me s ≡ Some x → st.selection s ≡ Some x
  own-is s x e = by_caller (is_caller me (st.shared.turn s)) e
    where
      by_caller : (b : Bool) → cond b (st.selection s) None ≡ Some x → st.selection s ≡ Some x
      by_caller true now = now
      by_caller false now = absurd cc

  keeps_change : {c : Call} {done : Replied} → Change rules l st me c done → Keeps rules l st done
  keeps_change (change.selector s within) =
      keeps_selector rules l st (reply.Selector (record { 0 = s })) s within sound
  keeps_change (change.channel kind c is) = keeps_made rules l st kind c is sound
  keeps_change (change.blocking c on _ free) = keeps_mode rules l st reply.«Ok» c.number.0 on free sound
  keeps_change (change.register s c ops att k note may) =
      keeps_new_key rules l st s.0 c.number.0 sound k (next-is rules l st s.0 sound k may.next) (reply.Key k) ops note
      may.selector may.not_shut may.none may.made may.non_blocking may.is_open
  keeps_change (change.closec c _) =
      let kept = keeps_closed_channel rules l st c.number.0 reply.«Ok» sound in
      record { sound = kept.sound; stays = kept.stays }
  keeps_change (change.cancel s k) = keeps_cancelled_key rules l st reply.«Ok» s.0 k sound
  keeps_change (change.unselect s k) = keeps_unselected rules l st reply.Yes s.0 k.index sound
  keeps_change (change.begin s waiting how free) = keeps_begun rules l st me s.0 how sound
  keeps_change (change.told s elapsed pairs selection count why own) =
      keeps_ended rules l st s.0 selection pairs (own-is s.0 selection own) sound _
  keeps_change (change.failed s selection own) = keeps_left rules l st reply.Left s.0 sound
  keeps_change (change.wakeup s) = keeps_woken rules l st reply.«Ok» s.0 sound
  keeps_change (change.close s) = keeps_shut rules l st reply.Closing s.0 me sound
  keeps_change (change.close_end s closer free) = keeps_closed rules l st s.0 reply.Closed closer free sound
  keeps_change (change.pipe target source sink _ is then_is) =
      keeps_pipe rules l st me target source sink is then_is sound
  keeps_change (change.pipe_spent target source is) = keeps_pipe_spent rules l st source is sound
  keeps_change (change.pread_interrupted c n _) =
      keeps_closed_channel rules l st c.number.0 reply.ClosedByInterrupt sound
  keeps_change (change.pwrite_interrupted c bytes i _ _) =
      let kept = keeps_closed_channel rules l st c.number.0 reply.ClosedByInterrupt sound in
      record { sound = kept.sound; stays = kept.stays }
  -- the others change none of these parts
  keeps_change _ = record { sound = sound; stays = same_stays st.shared.key st.shared.entered }

  pub keeps_call : (word : Call) → Keeps rules l st (seq rules l st me word)
  keeps_call word = keeps_change (change_of rules l st me word)
