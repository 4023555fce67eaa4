-- How the channels of numbers change: four kinds of step change one, and what each of them keeps every step
-- keeps.
use Rattle.std.proofs.Common.{◌≡◌, ℕ, ◌==◌, Bool, true, false, not, ◌&&◌, suc, if◌then◌else◌, refl, ap, sym, ◌∙◌}
use Rattle.std.proofs.Common.{subst, eqb-true}
use Rattle.std.specs.Bool.{beq}
use Rattle.std.proofs.lemmas.Bool.{and_parts}
use Rattle.nio_base.specs.Kind.{is_same_kind}
use Rattle.nio_base.specs.declared.kind.Kind.{Kind}
use Rattle.nio_base.specs.declared.kind.Kind.TheVariants.{Stream, Listener, Source, Sink, Datagram}
use Rattle.nio_base.specs.declared.numbers.CallerNo.{CallerNo}
use Rattle.nio_base.specs.declared.numbers.ChanNo.{ChanNo}
use Rattle.nio_history.proofs.Put.{put_keeps}
use Rattle.nio_history.specs.Acts.{effect, new_channel, closes_from, closed_from}
use Rattle.nio_history.specs.Answers.{Answers, is_same_channel}
use Rattle.nio_history.specs.State.{State}
use Rattle.nio_history.specs.declared.act.Act.{Act}
use Rattle.nio_history.specs.declared.act.Act.TheVariants.{MakeChannel, SetMode, CloseBit, Reopen}
use Rattle.nio_history.specs.declared.found.Chan.{Chan}

-- ---- channels that a test finds the same

pub same_kind : (x y : Kind) → is_same_kind x y ≡ true → x ≡ y
same_kind Stream Stream same = refl
same_kind Listener Listener same = refl
same_kind Source Source same = refl
same_kind Sink Sink same = refl
same_kind Datagram Datagram same = refl
same_kind x y same = absurd (cc same)

same_bit : (x y : Bool) → beq x y ≡ true → x ≡ y
same_bit true true same = refl
same_bit false false same = refl
same_bit x y same = absurd (cc same)

abbrev channel : Bool → Kind → Bool → Bool → ℕ → Chan
channel made kind closed blocking serial =
    record { made = made; kind = kind; closed = closed; blocking = blocking; serial = serial }

pub same_channel : (x y : Chan) → is_same_channel x y ≡ true → x ≡ y
same_channel x y same =
    let four =
    and_parts (beq x.made y.made && is_same_kind x.kind y.kind && beq x.closed y.closed && beq x.blocking y.blocking)
    (x.serial == y.serial) same in
    let three = and_parts (beq x.made y.made && is_same_kind x.kind y.kind && beq x.closed y.closed)
    (beq x.blocking y.blocking) four.0 in
    let two = and_parts (beq x.made y.made && is_same_kind x.kind y.kind) (beq x.closed y.closed) three.0 in
    let one = and_parts (beq x.made y.made) (is_same_kind x.kind y.kind) two.0 in
    ap (λ b. channel b x.kind x.closed x.blocking x.serial) (same_bit x.made y.made one.0)
    ∙ ap (λ k. channel y.made k x.closed x.blocking x.serial) (same_kind x.kind y.kind one.1)
    ∙ ap (λ b. channel y.made y.kind b x.blocking x.serial) (same_bit x.closed y.closed two.1)
    ∙ ap (λ b. channel y.made y.kind y.closed b x.serial) (same_bit x.blocking y.blocking three.1)
    ∙ ap (channel y.made y.kind y.closed y.blocking) (eqb-true x.serial y.serial four.1)

-- ---- the steps that change a channel

-- what closing keeps stays at a `close_bit`, whether it closes the channel or not
pub closing_keeps : (P : Chan → Type 0) (from x : Chan)
    → (closes_from from x ≡ true → P x → P (record x { closed = true; blocking = from.blocking }))
    → P x → P (closed_from from x)
closing_keeps P from x closed here = by_test (closes_from from x) refl
  where
    by_test : (b : Bool) → closes_from from x ≡ b
        → P (if b then record x { closed = true; blocking = from.blocking } else x)
    by_test true closes = closed closes here
    by_test false closes = here

-- what stands of the channel of each number, `R`, stays at the steps that `May` allows and that change a channel
pub record KeepsChannels (May : Act → Type 0) (st : State) (R : ℕ → Chan → Type 0) : Type 0 where
  pub made : (c : ChanNo) (kind : Kind) → May (MakeChannel c kind false) → (st.chan c.0).made ≡ false
      → R c.0 (st.chan c.0)
      → R c.0 (new_channel kind 0)
  pub mode : (c : ChanNo) (blocking : Bool) (found : Chan) → May (SetMode c blocking found) → R c.0 (st.chan c.0)
      → R c.0 (record (st.chan c.0) { blocking = blocking })
  pub closed : (c : ChanNo) (from found : Chan) → May (CloseBit c from found) → closes_from from (st.chan c.0) ≡ true
      → R c.0 (st.chan c.0)
      → R c.0 (record (st.chan c.0) { closed = true; blocking = from.blocking })
  pub reopened : (c : ChanNo) → May (Reopen c (st.chan c.0) false) → R c.0 (st.chan c.0)
      → R c.0 (new_channel (st.chan c.0).kind (suc (st.chan c.0).serial))

pub channels_keep : (May : Act → Type 0) (st : State) (me : CallerNo) (R : ℕ → Chan → Type 0) → KeepsChannels May st R
    → (act : Act) → May act → Answers st me act → (c : ℕ) → R c (st.chan c) → R c ((effect st me act).chan c)
channels_keep May st me R keeps (MakeChannel k kind true) may answers c =
    put_keeps R st.chan k.0 (st.chan k.0) (λ old. old) c
channels_keep May st me R keeps (MakeChannel k kind false) may answers c =
    let unmade : (st.chan k.0).made ≡ false = cc in
    put_keeps R st.chan k.0 (new_channel kind 0) (keeps.made k kind may unmade) c
channels_keep May st me R keeps (SetMode k blocking found) may answers c =
    put_keeps R st.chan k.0 (record (st.chan k.0) { blocking = blocking }) (keeps.mode k blocking found may) c
channels_keep May st me R keeps (CloseBit k from found) may answers c =
    put_keeps R st.chan k.0 (closed_from from (st.chan k.0))
    (closing_keeps (R k.0) from (st.chan k.0) (keeps.closed k from found may)) c
channels_keep May st me R keeps (Reopen k from true) may answers c =
    put_keeps R st.chan k.0 (st.chan k.0) (λ old. old) c
channels_keep May st me R keeps (Reopen k from false) may answers c =
    put_keeps R st.chan k.0 (new_channel from.kind (suc from.serial))
    (λ old. subst (λ x. R k.0 (new_channel x.kind (suc x.serial))) is_from
    (keeps.reopened k (subst (λ x. May (Reopen k x false)) (sym is_from) may) old)) c
  where
    by_test : (b : Bool) → false ≡ not b → b ≡ true
    by_test true e = refl
    by_test false e = absurd (cc e)

    is_from : st.chan k.0 ≡ from
    is_from = same_channel (st.chan k.0) from (by_test (is_same_channel (st.chan k.0) from) (cc answers))
channels_keep May st me R keeps act may answers c = λ h. h
