-- What holds after a change of one selector or one key: a wakeup, a shutting, a selection given up, a
-- key that is unselected or cancelled; and of what no other part of a state rests on.
use Rattle.std.proofs.Common.{◌≡◌, ℕ, Bool, true, false, cond, Some, None, refl}
use Rattle.std.proofs.lemmas.Bool.{and_parts, both_ways}
use Rattle.nio_base.specs.declared.limits.Limits.{Limits}
use Rattle.nio_base.specs.declared.numbers.CallerNo.{CallerNo}
use Rattle.nio_base.specs.declared.numbers.KeyId.{KeyId}
use Rattle.nio_history.proofs.Put.{put_keeps, put_at_keeps}
use Rattle.nio_history.specs.Sets.{fits, in_key_set, is_in_key_set}
use Rattle.nio_history.specs.State.{put_at, with_gate, with_mark, with_key, with_closer, with_turn, with_begun}
use Rattle.nio_history.specs.declared.found.GateWord.{GateWord}
use Rattle.nio_history.specs.declared.found.Mark.{Mark}
use Rattle.nio_history.specs.declared.found.Stage.{Stage}
use Rattle.nio_language.specs.declared.reply.Reply.{Reply}
use Rattle.nio_plain.proofs.ReachedRemoving.{look-none, bound-none}
use Rattle.nio_plain.proofs.ReachedSound.{ClosingSound, LookSound, BoundSound, Sound, Keeps, Aged, here_or_there}
use Rattle.nio_plain.proofs.ReachedSound.{aged-same, aged-cancelled, in_set-cancelled, same_stays, keeps_cancelled}
use Rattle.nio_plain.specs.ScriptState.{ScriptState, with_shared, with_selection}
use Rattle.nio_plain.specs.Seq.Replies.{replied}
use Rattle.nio_plain.specs.Seq.Cancelling.{cancelled_key, cancelled_in_set}
use Rattle.nio_plain.specs.declared.rules.Rules.{Rules}

-- a wakeup is left
pub keeps_woken : (rules : Rules) (l : Limits) (st : ScriptState) (r : Reply) (s : ℕ) → Sound rules l st
    → Keeps rules l st (replied st r (with_gate st.shared s (record (st.shared.gate s) { woken = true })))
keeps_woken rules l st r s sound = record {
  sound = record {
    keys = sound.keys;
    free = sound.free;
    selected = sound.selected;
    closings = λ t. put_keeps
        (λ n (g : GateWord). ClosingSound g.shut (st.shared.closer n) (st.shared.entered n) (st.shared.key n))
        st.shared.gate s (record (st.shared.gate s) { woken = true }) (λ h. h) t (sound.closings t);
    looks = sound.looks;
    bounds = sound.bounds;
  };
  stays = same_stays st.shared.key st.shared.entered;
}

-- a key is taken out of the selected set
pub keeps_unselected : (rules : Rules) (l : Limits) (st : ScriptState) (r : Reply) (s i : ℕ) → Sound rules l st
    → Keeps rules l st (replied st r (with_mark st.shared s i (record (st.shared.mark s i) { selected = false })))
keeps_unselected rules l st r s i sound = record {
  sound = record {
    keys = sound.keys;
    free = sound.free;
    selected = λ t j. put_at_keeps (λ m n (x : Mark). x.selected ≡ true → in_key_set (st.shared.key m n) ≡ true)
        st.shared.mark s i (record (st.shared.mark s i) { selected = false }) (λ _ h. absurd (both_ways false refl h)) t
        j (sound.selected t j);
    closings = sound.closings;
    looks = sound.looks;
    bounds = sound.bounds;
  };
  stays = same_stays st.shared.key st.shared.entered;
}

-- a selector is shut
pub keeps_shut : (rules : Rules) (l : Limits) (st : ScriptState) (r : Reply) (s : ℕ) (me : CallerNo) → Sound rules l st
    → Keeps rules l st
    (replied st r (with_closer (with_gate st.shared s (record (st.shared.gate s) { shut = true })) s (Some me)))
keeps_shut rules l st r s me sound =
    let gate : GateWord = record (st.shared.gate s) { shut = true } in
    record {
      sound = record {
        keys = sound.keys;
        free = sound.free;
        selected = sound.selected;
        closings =
            here_or_there s
            (λ b t. ClosingSound (cond b gate (st.shared.gate t)).shut (cond b (Some me) (st.shared.closer t))
            (st.shared.entered t) (st.shared.key t))
            (record {
              closer_shut = λ _. refl;
              entered_shut = λ _. refl;
              entered_empty = (sound.closings s).entered_empty;
            })
            (λ t e. sound.closings t);
        looks = sound.looks;
        bounds = sound.bounds;
      };
      stays = same_stays st.shared.key st.shared.entered;
    }

-- a selection is given up
pub keeps_left : (rules : Rules) (l : Limits) (st : ScriptState) (r : Reply) (s : ℕ) → Sound rules l st
    → Keeps rules l st
    (record {
      reply = r;
      left =
          with_selection (with_shared st (with_begun (with_turn st.shared s None) s false)) s None;
    })
keeps_left rules l st r s sound = record {
  sound = record {
    keys = sound.keys;
    free = sound.free;
    selected = sound.selected;
    closings = sound.closings;
    looks = here_or_there s
        (λ b t. LookSound (cond b None (st.selection t)) (cond b None (st.shared.turn t)) (st.shared.key t))
        (look-none None (st.shared.key s)) (λ t e. sound.looks t);
    bounds = here_or_there s
        (λ b t. BoundSound rules (cond b None (st.selection t)) (st.shared.keys_high t) (st.shared.key t))
        (bound-none rules (st.shared.keys_high s) (st.shared.key s)) (λ t e. sound.bounds t);
  };
  stays = same_stays st.shared.key st.shared.entered;
}

-- ---- one key is cancelled

cancelled-where : (k : Stage) (q : ℕ) (b : Bool) → is_in_key_set k q ≡ b → Aged k (cond b (cancelled_key k) k)
cancelled-where k q true e = aged-cancelled k (and_parts (fits k q) (in_key_set k) e).1
cancelled-where k q false e = aged-same k

pub keeps_cancelled_key : (rules : Rules) (l : Limits) (st : ScriptState) (r : Reply) (s : ℕ) (id : KeyId)
    → Sound rules l st
    → Keeps rules l st
    (replied st r (with_key st.shared s id.index (cancelled_in_set (st.shared.key s id.index) id.serial)))
keeps_cancelled_key rules l st r s id sound =
    let k = st.shared.key s id.index in
    let after = cancelled_in_set k id.serial in
    keeps_cancelled rules l st r (put_at st.shared.key s id.index after)
    (λ t j. put_at_keeps (λ m n (x : Stage). Aged (st.shared.key m n) x) st.shared.key s id.index after
    (λ _. cancelled-where k id.serial (is_in_key_set k id.serial) refl) t j (aged-same (st.shared.key t j)))
    (λ t j. put_at_keeps (λ m n (x : Stage). in_key_set x ≡ true) st.shared.key s id.index after
    (in_set-cancelled (is_in_key_set k id.serial) k) t j)
    sound
