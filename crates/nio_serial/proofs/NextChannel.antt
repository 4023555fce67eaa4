-- The channel that is opened next, on a state whose high-water mark is exact.
use Rattle.std.proofs.Common.{◌≡◌, ℕ, suc, ◌+◌, ◌<◌, ◌≤◌, max, nat_lt, Bool, true, false, not, ◌&&◌, Option, Some, None}
use Rattle.std.proofs.Common.{refl, ap, sym, ◌∙◌, subst, arith, ⊎_elim}
use Rattle.std.proofs.lemmas.Bool.{and_parts, cases_lt, lt-ltb, le-ltb, ltb-true}
use Rattle.nio_base.specs.Kind.{is_same_kind}
use Rattle.nio_base.specs.declared.kind.Kind.{Kind}
use Rattle.nio_base.specs.declared.limits.Limits.{Limits}
use Rattle.nio_base.specs.declared.numbers.ChanId.{ChanId}
use Rattle.nio_history.proofs.ChannelChanges.{same_kind}
use Rattle.nio_history.specs.Acts.{new_channel}
use Rattle.nio_history.specs.Sets.{can_reopen}
use Rattle.nio_history.specs.State.{State, put}
use Rattle.nio_history.specs.declared.found.Chan.{Chan}
use Rattle.nio_plain.proofs.Found.{find_none, find_first, found_below}
use Rattle.nio_plain.proofs.ReachedSound.{some_same}
use Rattle.nio_plain.specs.Seq.Modes.{has_key}
use Rattle.nio_plain.specs.Seq.Opening.{unmade_number, number_comes_back, returning_number, channel_after, next_by}
use Rattle.nio_plain.specs.Seq.Opening.{next_channel}
use Rattle.nio_plain.specs.declared.rules.Rules.TheVariants.{Now}
use Rattle.nio_serial.proofs.Resting.{ChannelsRest, channels-changed, channels-more}

-- The channel is the first of the number at the high-water mark, or the next of a number that comes back.
pub data IsNext (l : Limits) (st : State) (kind : Kind) : ChanId → Type 0 where
  first : st.channels_high < l.channels
      → IsNext l st kind (record { number = record { 0 = st.channels_high }; serial = 0 })
  again : (c : ℕ) → number_comes_back Now l st kind c ≡ true → IsNext l st kind
      (record { number = record { 0 = c }; serial = suc (st.chan c).serial })

-- a number that comes back has a channel of the kind
pub record ComesBack (st : State) (kind : Kind) (c : ℕ) : Type 0 where
  pub made : (st.chan c).made ≡ true
  pub kind_is : (st.chan c).kind ≡ kind

pub comes-back : (l : Limits) (st : State) (kind : Kind) (c : ℕ) → number_comes_back Now l st kind c ≡ true
    → ComesBack st kind c
comes-back l st kind c is =
    let chan : Chan = st.chan c in
    let keyless = and_parts (can_reopen chan && is_same_kind chan.kind kind) (not (has_key l st c)) is in
    let both = and_parts (can_reopen chan) (is_same_kind chan.kind kind) keyless.0 in
    let reopens = and_parts (chan.made && chan.closed) _ both.0 in
    record {
      made = (and_parts chan.made chan.closed reopens.0).0;
      kind_is = same_kind chan.kind kind both.1;
    }

module _ (l : Limits) (st : State) (exact : (c : ℕ) → (st.chan c).made ≡ nat_lt c st.channels_high) where
  abbrev m : ℕ
  m = st.channels_high

  abbrev unmade : ℕ → Bool
  unmade c = not (st.chan c).made

  below_made : (c : ℕ) → c < m → unmade c ≡ false
  below_made c low = ap not (exact c ∙ lt-ltb c m low)

  pub mark-unmade : unmade m ≡ true
  mark-unmade = ap not (exact m ∙ le-ltb m m (omega arith))

  pub least-unmade : m < l.channels → unmade_number l st ≡ Some m
  least-unmade room = find_first unmade l.channels m room mark-unmade below_made

  pub none-unmade : l.channels ≤ m → unmade_number l st ≡ None
  none-unmade full = find_none unmade l.channels (λ n low. below_made n (omega arith))

  pub next-is : (kind : Kind) (c : ChanId) → next_channel Now l st kind ≡ Some c → IsNext l st kind c
  next-is kind c e =
      ⊎_elim
      (λ (room : m < l.channels). subst (IsNext l st kind)
      (some_same _ c (ap (next_by Now l st kind) (sym (least-unmade room)) ∙ e)) (first room))
      (λ (full : l.channels ≤ m). by_returning (returning_number Now l st kind) refl
      (ap (next_by Now l st kind) (sym (none-unmade full)) ∙ e))
      (cases_lt m l.channels)
    where
      by_returning : (o : Option ℕ) → returning_number Now l st kind ≡ o → channel_after st o ≡ Some c
          → IsNext l st kind c
      by_returning None is now = absurd cc
      by_returning (Some n) is now =
          subst (IsNext l st kind) (some_same _ c now)
          (again n (found_below (number_comes_back Now l st kind) l.channels n is).0)

  -- the number of a made channel is below the high-water mark, which stays where it is
  pub mark-stays : (c : ℕ) → (st.chan c).made ≡ true → max m (suc c) ≡ m
  mark-stays c made =
      let low : c < m = ltb-true c m (sym (exact c) ∙ made) in
      omega arith

-- with the next channel of a made number the high-water mark is exact, and stays where it is
pub channels-again : (l : Limits) (st : State) → ChannelsRest l st.channels_high st.chan → (kind : Kind) (c : ℕ)
    → (st.chan c).made ≡ true
    → ChannelsRest l (max st.channels_high (suc c)) (put st.chan c (new_channel kind (suc (st.chan c).serial)))
channels-again l st rest kind c made =
    let new = new_channel kind (suc (st.chan c).serial) in
    subst (λ (h : ℕ). ChannelsRest l h (put st.chan c new)) (sym (mark-stays l st rest.made c made))
    (channels-changed l st.channels_high st.chan rest c new (sym made))

-- with the channel that is opened next it is exact too
pub channels-next : (l : Limits) (st : State) → ChannelsRest l st.channels_high st.chan → (kind : Kind) (c : ChanId)
    → next_channel Now l st kind ≡ Some c
    → ChannelsRest l (max st.channels_high (suc c.number.0)) (put st.chan c.number.0 (new_channel kind c.serial))
channels-next l st rest kind c e = by_next c (next-is l st rest.made kind c e)
  where
    m : ℕ
    m = st.channels_high

    by_next : (d : ChanId) → IsNext l st kind d
        → ChannelsRest l (max st.channels_high (suc d.number.0)) (put st.chan d.number.0 (new_channel kind d.serial))
    by_next _ (first room) =
        let one_more : st.channels_high + 1 ≡ max st.channels_high (suc st.channels_high) = omega arith in
        subst (λ (n : ℕ). ChannelsRest l n (put st.chan st.channels_high (new_channel kind 0))) one_more
        (channels-more l st.channels_high st.chan rest room (new_channel kind 0) refl)
    by_next _ (again n is) = channels-again l st rest kind n (comes-back l st kind n is).made
