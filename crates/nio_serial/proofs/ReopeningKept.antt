-- What a reopening keeps of a state: it refuses and changes nothing, or a number that comes back has a new channel.
use Rattle.std.proofs.Common.{◌≡◌, Bool, true, false, cond, not, ◌&&◌, Ok, refl, ap, eq-eqb}
use Rattle.std.proofs.lemmas.Bool.{and_parts, and_from, not-false, cond_both}
use Rattle.nio_base.specs.Kind.{is_same_kind, kind_code}
use Rattle.nio_base.specs.declared.limits.Limits.{Limits}
use Rattle.nio_base.specs.declared.numbers.ChanId.{ChanId}
use Rattle.nio_history.specs.Sets.{fits_channel, can_reopen}
use Rattle.nio_history.specs.declared.found.Chan.{Chan}
use Rattle.nio_language.specs.declared.reply.Reply.TheVariants as reply
use Rattle.nio_plain.proofs.ReachedChannels.{IsNextChannel, keeps_channel}
use Rattle.nio_plain.proofs.ReachedLater.{IsLater, later_changed, later_same}
use Rattle.nio_plain.proofs.ReachedPipes.{returning-is}
use Rattle.nio_plain.proofs.ReachedReopening.{channels_next}
use Rattle.nio_plain.proofs.ReachedSound.{Sound}
use Rattle.nio_plain.specs.ScriptState.{ScriptState, with_shared}
use Rattle.nio_plain.specs.Seq.Modes.{has_key}
use Rattle.nio_plain.specs.Seq.Opening.{with_new_channel}
use Rattle.nio_plain.specs.declared.rules.Rules.TheVariants.{Now}
use Rattle.nio_steps.specs.declared.refusal.ReopenError.{ReopenError}
use Rattle.nio_steps.specs.declared.refusal.ReopenError.TheVariants.{Lost, Open, SerialsSpent, Registered}
use Rattle.nio_serial.proofs.NextChannel.{channels-again}
use Rattle.nio_serial.proofs.Resting.{Rests}
use Rattle.nio_serial.specs.Reopening.{Reopened, refuses, next_of_number, reopen_call}

module _ (l : Limits) (st : ScriptState) (c : ChanId) where
  abbrev chan : Chan
  chan = st.shared.chan c.number.0

  -- it is refused, or the number comes back
  pub reopen-cases : (P : Reopened → Type 0) → ((refusal : ReopenError) → P (refuses st refusal))
      → (can_reopen chan ≡ true → not (has_key l st.shared c.number.0) ≡ true
      → P (record {
        answer = Ok (next_of_number st.shared c);
        left = with_shared st (with_new_channel st.shared chan.kind (next_of_number st.shared c));
      }))
      → P (reopen_call l st c)
  reopen-cases P refused reopened =
      cond_both (not (fits_channel chan c.serial)) _ _ P (λ _. refused Lost) (λ _.
      cond_both (not chan.closed) _ _ P (λ _. refused Open) (λ _.
      cond_both (not (can_reopen chan)) _ _ P (λ _. refused SerialsSpent) (λ comes.
      by_key (has_key l st.shared c.number.0) refl (not-false (can_reopen chan) comes))))
    where
      by_key : (b : Bool) → has_key l st.shared c.number.0 ≡ b → can_reopen chan ≡ true
          → P (cond b (refuses st Registered) (record {
            answer = Ok (next_of_number st.shared c);
            left = with_shared st (with_new_channel st.shared chan.kind (next_of_number st.shared c));
          }))
      by_key true is comes = refused Registered
      by_key false is comes = reopened comes (ap not is)

-- what is true of the channel that the number has then
pub next-reopened : (l : Limits) (st : ScriptState) (c : ChanId) → Sound Now l st
    → can_reopen (st.shared.chan c.number.0) ≡ true → not (has_key l st.shared c.number.0) ≡ true
    → IsNextChannel Now st.shared (st.shared.chan c.number.0).kind (next_of_number st.shared c)
next-reopened l st c sound comes keyless =
    let n = c.number.0 in
    let x = st.shared.chan n in
    returning-is Now l st sound x.kind n
    (and_from (can_reopen x && is_same_kind x.kind x.kind) (not (has_key l st.shared n))
    (and_from (can_reopen x) (is_same_kind x.kind x.kind) comes (eq-eqb (kind_code x.kind) (kind_code x.kind) refl))
    keyless)

pub later-reopened : (l : Limits) (st : ScriptState) (c : ChanId) → Sound Now l st
    → IsLater Now l st (reopen_call l st c).left
later-reopened l st c sound =
    reopen-cases l st c (λ done. IsLater Now l st done.left) (λ _. later_same Now l st sound) (λ comes keyless.
    let kind = (st.shared.chan c.number.0).kind in
    let new = next_of_number st.shared c in
    let next = next-reopened l st c sound comes keyless in
    let kept = keeps_channel Now l st reply.«Ok» kind new next sound in
    later_changed Now l st (with_shared st (with_new_channel st.shared kind new)) kept.sound kept.stays
    (channels_next Now l st kind new next sound))

pub rests-reopened : (l : Limits) (st : ScriptState) (c : ChanId) → Rests l st.shared
    → Rests l (reopen_call l st c).left.shared
rests-reopened l st c rest =
    reopen-cases l st c (λ done. Rests l done.left.shared) (λ _. rest) (λ comes _.
    let x = st.shared.chan c.number.0 in
    record {
      unused = rest.unused;
      channels = channels-again l st.shared rest.channels x.kind c.number.0
          (and_parts x.made x.closed (and_parts (x.made && x.closed) _ comes).0).0;
      keys = rest.keys;
      frees = rest.frees;
    })
