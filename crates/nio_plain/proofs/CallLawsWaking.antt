-- Only a call whose word's row says that it wakes sets a wakeup, shuts a selector or sets an interrupt status.
use Rattle.std.proofs.Common.{◌≡◌, ℕ, Bool, true, false, refl, ⊎_elim, sym, ap, ◌∙◌}
use Rattle.std.proofs.lemmas.Bool.{both_ways, cases_eq}
use Rattle.nio_base.specs.declared.limits.Limits.{Limits}
use Rattle.nio_base.specs.declared.numbers.CallerNo.{CallerNo}
use Rattle.nio_history.proofs.Put.{put-same}
use Rattle.nio_history.specs.State.{put}
use Rattle.nio_history.specs.declared.found.GateWord.{GateWord}
use Rattle.nio_language.specs.WordRows.{word_row}
use Rattle.nio_language.specs.declared.call.Call.{Call}
use Rattle.nio_plain.proofs.CallChanges as change
use Rattle.nio_plain.proofs.CallChanges.{Change}
use Rattle.nio_plain.proofs.CallLawsCases.{change_of}
use Rattle.nio_plain.proofs.Places.{put-elsewhere, put_kept}
use Rattle.nio_plain.specs.CallLaws.{WakesNobody, OnlyWakingCallsWake}
use Rattle.nio_plain.specs.ScriptState.{ScriptState}
use Rattle.nio_plain.specs.Seq.Replies.{Replied}
use Rattle.nio_plain.specs.declared.rules.Rules.{Rules}

-- where what is put at a number lacks a flag, the flag is only where it was before
put_without : {A : Type 0} (flag : A → Bool) (f : ℕ → A) (s : ℕ) (x : A) (n : ℕ) → flag x ≡ false
    → flag (put f s x n) ≡ true → flag (f n) ≡ true
put_without {A} flag f s x n lacks h =
    ⊎_elim
    (λ (e : n ≡ s). absurd (both_ways (flag x) lacks (sym (ap flag (ap (put f s x) e ∙ put-same f s x)) ∙ h)))
    (λ (ne : n ≡ s → ⊥). sym (ap flag (put-elsewhere f s n x ne)) ∙ h)
    (cases_eq n s)

module _ (rules : Rules) (l : Limits) (st : ScriptState) (me : CallerNo) where
  changes : {c : Call} {done : Replied} → Change rules l st me c done → (word_row c).wakes ≡ false
      → WakesNobody st done.left
  changes (change.wakeup s) wakes = absurd cc
  changes (change.close s) wakes = absurd cc
  changes (change.interrupt target) wakes = absurd cc
  changes (change.told t elapsed pairs selection count why own) _ =
      let gate : GateWord = record (st.shared.gate t.0) { woken = false } in
      record {
        woken = λ s h. put_without (λ (g : GateWord). g.woken) st.shared.gate t.0 gate s refl h;
        shut = λ s h. sym (put_kept (λ (g : GateWord). g.shut) st.shared.gate t.0 gate s refl) ∙ h;
        interrupted = λ n h. h;
      }
  changes change.interrupted _ = record {
    woken = λ s h. h;
    shut = λ s h. h;
    interrupted = λ n h. put_without (λ b. b) st.shared.interrupted me.0 false n refl h;
  }
  changes _ _ = record { woken = λ s h. h; shut = λ s h. h; interrupted = λ n h. h }

pub only_waking_calls_wake : OnlyWakingCallsWake
only_waking_calls_wake rules l st me c = changes rules l st me (change_of rules l st me c)
