-- What holds between two calls, in the forms in which the equations take it.
use Rattle.std.proofs.Common.{◌≡◌, ℕ, ◌<◌, ◌==◌, nat_lt, Bool, true, false, cond, not, ◌&&◌, Option, Some, None}
use Rattle.std.proofs.Common.{option_map, is_some, map, refl, ap, sym, ◌∙◌}
use Rattle.std.proofs.lemmas.Bool.{and_parts, not-true}
use Rattle.nio_base.specs.declared.limits.Limits.{Limits}
use Rattle.nio_base.specs.declared.numbers.CallerNo.{CallerNo}
use Rattle.nio_base.specs.declared.numbers.KeyId.{KeyId}
use Rattle.nio_base.specs.declared.numbers.SelNo.{SelNo}
use Rattle.nio_history.specs.Sets.{in_key_set, is_in_key_set, in_cancelled_set}
use Rattle.nio_history.specs.State.{State, unmarked, unclaimed}
use Rattle.nio_history.specs.declared.found.Mark.{Mark}
use Rattle.nio_history.specs.declared.found.Stage.{Stage}
use Rattle.nio_plain.proofs.ReachedLater.{IsLater, later_call, later_same, later_then}
use Rattle.nio_plain.proofs.ReachedSound.{Sound, sound-opening}
use Rattle.nio_plain.specs.ScriptState.{ScriptState, script_opening}
use Rattle.nio_plain.specs.Seq.{seq}
use Rattle.nio_plain.specs.Seq.Selections.{is_looked, is_caller, own_selection}
use Rattle.nio_plain.specs.declared.rules.Rules.TheVariants.{Now}
use Rattle.nio_serial.proofs.Base.{IsOff}
use Rattle.nio_serial.proofs.ReopeningKept.{later-reopened}
use Rattle.nio_serial.specs.Between.{IsLeft, LeadsTo, no_call, line, reopening, IsBetween}
use Rattle.nio_serial.specs.Documented.{Progress, Selecting, settled, settled_mark, looked_pair, shown, documented}
use Rattle.nio_serial.specs.Lines.{if_own}
use Rattle.nio_serial.specs.Lines.{own_selection as own_now}
use Rattle.nio_serial.specs.Reopening.{reopen_call}

-- what documented calls lead to from a sound state is a later one
pub leads-later : (l : Limits) (before after : ScriptState) → Sound Now l before → LeadsTo l before after
    → IsLater Now l before after
leads-later l before _ sound no_call = later_same Now l before sound
leads-later l before _ sound (line st me word leads) =
    let first = leads-later l before st sound leads in
    later_then Now l before st (seq Now l st me word).left first (later_call Now l st me first.sound word)
leads-later l before _ sound (reopening st c leads) =
    let first = leads-later l before st sound leads in
    later_then Now l before st (reopen_call l st c).left first (later-reopened l st c first.sound)

-- a state that documented calls leave is sound
pub left_is_sound : (l : Limits) (st : ScriptState) → IsLeft l st → Sound Now l st
left_is_sound l st left = (leads-later l script_opening st (sound-opening Now l) left).sound

unmarked_from : (k : Stage) (m : Mark) → settled k ≡ unclaimed → settled_mark k m ≡ unmarked → m ≡ unmarked
unmarked_from k m key mark =
    let present : k.removed ≡ false = ap (λ x. x.removed) key in
    (λ j. record m { selected = not (sym present j) && m.selected }) ∙ mark

module _ (l : Limits) (st : State) (now : Progress) (between : IsBetween l st now) where
  abbrev ds : ScriptState
  ds = documented st now

  pub sound : Sound Now l ds
  sound = left_is_sound l ds between.left

  pub unpinned : (s i n : ℕ) → st.pinned s i n ≡ false
  unpinned = between.at_rest.unused.unpinned

  pub unchanging : (s i n : ℕ) → st.amid s i n ≡ false
  unchanging = between.at_rest.unused.unchanging

  pub off : (s i n : ℕ) → IsOff st.pinned st.amid s i n
  off s i n = record { unpinned = unpinned s i n; unchanging = unchanging s i n }

  pub untaken : (s i : ℕ) → st.taker s i ≡ None
  untaken = between.at_rest.unused.untaken

  pub unheld : (c : ℕ) → st.hold c ≡ None
  unheld = between.at_rest.unused.unheld

  pub none_due : (s i : ℕ) → st.put_due s i ≡ false
  none_due = between.at_rest.unused.none_due

  pub channels : (c : ℕ) → (st.chan c).made ≡ nat_lt c st.channels_high
  channels = between.at_rest.high.channels

  pub claimed : (s i : ℕ) → (st.key s i).claimed ≡ nat_lt i (st.keys_high s)
  claimed = between.at_rest.high.claimed

  pub published : (s i : ℕ) → (st.key s i).published ≡ nat_lt i (st.keys_high s)
  published = between.at_rest.high.published

  pub whole : (s i : ℕ) → (st.key s i).claimed ≡ (st.key s i).published
  whole s i = claimed s i ∙ sym (published s i)

  pub free : (s i : ℕ) → st.free s i ≡ true → (st.key s i).removed ≡ true
  free = between.at_rest.free.removed

  pub fresh_mark : (s i : ℕ) → nat_lt i (st.keys_high s) ≡ false → st.mark s i ≡ unmarked
  fresh_mark s i above =
      let fresh = between.at_rest.high.fresh s i above in
      unmarked_from (st.key s i) (st.mark s i) fresh.key fresh.mark

  pub fresh_free : (s i : ℕ) → nat_lt i (st.keys_high s) ≡ false → st.free s i ≡ false
  fresh_free s i above = (between.at_rest.high.fresh s i above).free

  pub within : (s i : ℕ) → in_key_set (st.key s i) ≡ true → s < l.selectors
  within s i in_set =
      sound.keys.selectors s
      (sound.keys.indexes.made s i (and_parts (st.key s i).published (not (st.key s i).removed) in_set).0)

  pub begun : (s : ℕ) → st.begun s ≡ is_some (st.turn s)
  begun s = (between.shown s).begun ∙ (sym (mapped (now.selection s)) ∙ ap is_some (sym (between.shown s).turn))
    where
      mapped : (o : Option Selecting) → is_some (option_map (λ x. x.caller) o) ≡ is_some o
      mapped None = refl
      mapped (Some x) = refl

  -- what a selection in progress looks at is in the key set
  pub looked_in_set : (s : ℕ) (y : Selecting) → now.selection s ≡ Some y → (k : KeyId)
      → is_looked (map looked_pair y.selection.looked) k ≡ true → is_in_key_set (st.key s k.index) k.serial ≡ true
  looked_in_set s y is k there =
      (sound.looks s).in_set (shown y.selection) (ap (option_map (λ x. shown x.selection)) is) k there

  -- a selection that goes by the list finds the cancelled set touched
  pub finds_cancelled : (s : ℕ) (y : Selecting) → now.selection s ≡ Some y → y.selection.listed ≡ true → (i : ℕ)
      → in_cancelled_set (st.key s i) ≡ true → st.touched s i ≡ true
  finds_cancelled s y is listed i there =
      let k = st.key s i in
      let both = and_parts (in_key_set k) k.cancelled there in
      (between.shown s).finds y is listed i both.1
      (not-true k.removed (and_parts k.published (not k.removed) both.0).1)

  -- the caller's own selection
  pub own-is : (me : CallerNo) (s : SelNo) → own_selection ds me s.0 ≡ option_map shown (own_now now me s)
  own-is me s = ap (λ o. cond (is_caller me o) (ds.selection s.0) None) (between.shown s.0).turn
      ∙ by_selection (now.selection s.0)
    where
      by_selection : (o : Option Selecting)
          → cond (is_caller me (option_map (λ x. x.caller) o)) (option_map (λ x. shown x.selection) o) None
          ≡ option_map shown (if_own me o)
      by_selection None = refl
      by_selection (Some x) = by_caller (x.caller.0 == me.0)
        where
          by_caller : (b : Bool)
              → cond b (Some (shown x.selection)) None ≡ option_map shown (cond b (Some x.selection) None)
          by_caller true = refl
          by_caller false = refl
