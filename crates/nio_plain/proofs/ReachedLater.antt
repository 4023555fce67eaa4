-- What is true of the states that calls leave from a sound one on: each is sound, and what stays of keys, channels and
-- closings has stayed.
use Rattle.std.proofs.Common.{◌≡◌, ℕ, Bool, true, false, List, [], ◌∷◌, ◌++◌, refl, sym, ap, ◌∙◌, subst}
use Rattle.std.proofs.lemmas.Bool.{and_parts, both_ways}
use Rattle.nio_base.specs.declared.limits.Limits.{Limits}
use Rattle.nio_base.specs.declared.numbers.CallerNo.{CallerNo}
use Rattle.nio_base.specs.declared.numbers.ChanNo.{ChanNo}
use Rattle.nio_base.specs.declared.numbers.KeyId.{KeyId}
use Rattle.nio_history.specs.Sets.{fits, is_in_key_set}
use Rattle.nio_language.specs.declared.call.Call.{Call}
use Rattle.nio_language.specs.declared.call.ScriptCall.{ScriptCall}
use Rattle.nio_plain.proofs.CallLawsWakeups.{left_from-append}
use Rattle.nio_plain.proofs.ReachedCalls.{keeps_call}
use Rattle.nio_plain.proofs.ReachedReopening.{ChannelsStay, Lasts, channels_call, lasts_same, lasts_then}
use Rattle.nio_plain.proofs.ReachedSound.{Sound, Stays, in_set-published, same_stays, sound-opening, stays_then}
use Rattle.nio_plain.specs.Answer.{left_from, left_by_script}
use Rattle.nio_plain.specs.ReachedLaws.{KeepsChannelsOfKeys}
use Rattle.nio_plain.specs.ScriptState.{ScriptState, script_opening}
use Rattle.nio_plain.specs.Seq.{seq}
use Rattle.nio_plain.specs.declared.rules.Rules.{Rules}

-- what is true of a later state
pub record IsLater (rules : Rules) (l : Limits) (st later : ScriptState) : Type 0 where
  pub sound : Sound rules l later
  pub stays : Stays st.shared.key later.shared.key st.shared.entered later.shared.entered
  pub lasts : (c : ℕ) → Lasts (st.shared.chan c) (later.shared.chan c)
  pub keys : KeepsChannelsOfKeys st.shared later.shared

module _ (rules : Rules) (l : Limits) where
  pub later_same : (st : ScriptState) → Sound rules l st → IsLater rules l st st
  later_same st sound = record {
    sound = sound;
    stays = same_stays st.shared.key st.shared.entered;
    lasts = λ c. lasts_same (st.shared.chan c);
    keys = λ s k here there. (refl, refl);
  }

  -- one change
  pub later_changed : (st later : ScriptState) → Sound rules l later
      → Stays st.shared.key later.shared.key st.shared.entered later.shared.entered
      → ChannelsStay rules st.shared.key st.shared.chan later.shared.chan → IsLater rules l st later
  later_changed st later sound stays channels = record {
    sound = sound;
    stays = stays;
    lasts = channels.lasts;
    keys = λ s k here there. (
      stays.chan s k.index k.serial here there,
      channels.serial s k.index (and_parts (fits (st.shared.key s k.index) k.serial) _ here).1,
    );
  }

  -- one after the other: a key that is in the key set before and after was in it between
  pub later_then : (st mid later : ScriptState) → IsLater rules l st mid → IsLater rules l mid later
      → IsLater rules l st later
  later_then st mid later first second = record {
    sound = second.sound;
    stays = stays_then first.stays second.stays;
    lasts = λ c. lasts_then (st.shared.chan c) (mid.shared.chan c) (later.shared.chan c) (first.lasts c)
        (second.lasts c);
    keys = λ s k here there. between s k here there (is_in_key_set (mid.shared.key s k.index) k.serial) refl;
  }
    where
      between : (s : ℕ) (k : KeyId) → is_in_key_set (st.shared.key s k.index) k.serial ≡ true
          → is_in_key_set (later.shared.key s k.index) k.serial ≡ true → (m : Bool)
          → is_in_key_set (mid.shared.key s k.index) k.serial ≡ m
          → let c = (st.shared.key s k.index).chan in
          ((later.shared.key s k.index).chan ≡ c)
          × ((later.shared.chan c.0).serial ≡ (st.shared.chan c.0).serial)
      between s k here there true e =
          let one = first.keys s k here e in
          let two = second.keys s k e there in (
            two.0 ∙ one.0,
            ap (λ (n : ChanNo). (later.shared.chan n.0).serial) (sym one.0)
                ∙ (two.1 ∙ (ap (λ (n : ChanNo). (mid.shared.chan n.0).serial) one.0 ∙ one.1)),
          )
      between s k here there false e =
          let out = second.stays.outside s k.index k.serial (record {
            published = first.stays.published s k.index k.serial
                (in_set-published (st.shared.key s k.index) k.serial here);
            out = e;
          }) in
          absurd (both_ways (is_in_key_set (later.shared.key s k.index) k.serial) out.out there)

  pub later_call : (st : ScriptState) (me : CallerNo) → Sound rules l st → (word : Call)
      → IsLater rules l st (seq rules l st me word).left
  later_call st me sound word =
      let kept = keeps_call rules l st me sound word in
      later_changed st (seq rules l st me word).left kept.sound kept.stays (channels_call rules l st me sound word)

  pub later_left : (calls : List ScriptCall) (st : ScriptState) → Sound rules l st
      → IsLater rules l st (left_from rules l st calls)
  later_left [] st sound = later_same st sound
  later_left (c ∷ calls) st sound =
      let next = (seq rules l st c.caller c.call).left in
      let first = later_call st c.caller sound c.call in
      later_then st next (left_from rules l next calls) first (later_left calls next first.sound)

  -- ---- the states that scripts leave

  pub reached : (calls : List ScriptCall) → Sound rules l (left_by_script rules l calls)
  reached calls = (later_left calls script_opening (sound-opening rules l)).sound

  pub later_more : (calls more : List ScriptCall)
      → IsLater rules l (left_by_script rules l calls) (left_by_script rules l (calls ++ more))
  later_more calls more =
      let before = left_by_script rules l calls in
      subst (IsLater rules l before) (sym (left_from-append rules l script_opening calls more))
      (later_left more before (reached calls))

  -- after one of the calls
  pub later_after : (calls more : List ScriptCall) (c : ScriptCall)
      → IsLater rules l (seq rules l (left_by_script rules l calls) c.caller c.call).left
      (left_by_script rules l (calls ++ c ∷ more))
  later_after calls more c =
      let before = left_by_script rules l calls in
      let next = (seq rules l before c.caller c.call).left in
      subst (IsLater rules l next) (sym (left_from-append rules l script_opening calls (c ∷ more)))
      (later_left more next (keeps_call rules l before c.caller (reached calls) c.call).sound)
