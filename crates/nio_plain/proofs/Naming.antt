-- The tests of the names of a line.
use Rattle.std.proofs.Common.{◌≡◌, true, false, ◌∙◌}
use Rattle.std.proofs.lemmas.Bool.{cond-true, cond-false}
use Rattle.nio_base.specs.declared.numbers.ChanId.{ChanId}
use Rattle.nio_base.specs.declared.numbers.KeyId.{KeyId}
use Rattle.nio_base.specs.declared.numbers.SelNo.{SelNo}
use Rattle.nio_history.specs.Sets.{is_valid_key, was_opened, was_published}
use Rattle.nio_language.specs.declared.reply.Reply.{Reply}
use Rattle.nio_language.specs.declared.reply.Reply.TheVariants as reply
use Rattle.nio_plain.specs.Naming.{LetsThrough, Refuses}
use Rattle.nio_plain.specs.ScriptState.{ScriptState}
use Rattle.nio_plain.specs.Seq.Replies.{unchanged}
use Rattle.nio_plain.specs.Seq.Keys.{with_valid_key}
use Rattle.nio_plain.specs.Seq.Names.{with_named_channel, with_named_selector, with_named_key}

module _ (st : ScriptState) where
  pub channel-through : (c : ChanId) → was_opened (st.shared.chan c.number.0) c.serial ≡ true
      → LetsThrough (with_named_channel st c)
  channel-through c h =
      λ a. cond-true (was_opened (st.shared.chan c.number.0) c.serial) a (unchanged st reply.NoChannel) h

  pub channel-refused : (c : ChanId) → was_opened (st.shared.chan c.number.0) c.serial ≡ false
      → Refuses st (with_named_channel st c) reply.NoChannel
  channel-refused c h =
      λ a. cond-false (was_opened (st.shared.chan c.number.0) c.serial) a (unchanged st reply.NoChannel) h

  pub selector-through : (s : SelNo) → st.shared.selector s.0 ≡ true → LetsThrough (with_named_selector st s)
  selector-through s h = λ a. cond-true (st.shared.selector s.0) a (unchanged st reply.NoSelector) h

  pub selector-refused : (s : SelNo) → st.shared.selector s.0 ≡ false
      → Refuses st (with_named_selector st s) reply.NoSelector
  selector-refused s h = λ a. cond-false (st.shared.selector s.0) a (unchanged st reply.NoSelector) h

  module _ (s : SelNo) (k : KeyId) where
    pub key-through : st.shared.selector s.0 ≡ true → was_published (st.shared.key s.0 k.index) k.serial ≡ true
        → LetsThrough (with_named_key st s k)
    key-through h p =
        λ a. selector-through s h _
        ∙ cond-true (was_published (st.shared.key s.0 k.index) k.serial) a (unchanged st reply.NoKey) p

    pub key-no_selector : st.shared.selector s.0 ≡ false → Refuses st (with_named_key st s k) reply.NoSelector
    key-no_selector h = λ a. selector-refused s h _

    pub key-no_key : st.shared.selector s.0 ≡ true → was_published (st.shared.key s.0 k.index) k.serial ≡ false
        → Refuses st (with_named_key st s k) reply.NoKey
    key-no_key h p =
        λ a. selector-through s h _
        ∙ cond-false (was_published (st.shared.key s.0 k.index) k.serial) a (unchanged st reply.NoKey) p

    pub valid-refused : (r : Reply) → Refuses st (with_named_key st s k) r → Refuses st (with_valid_key st s k) r
    valid-refused r h = λ a. h _

    pub valid-through : LetsThrough (with_named_key st s k) → is_valid_key (st.shared.key s.0 k.index) k.serial ≡ true
        → LetsThrough (with_valid_key st s k)
    valid-through t h =
        λ a. t _ ∙ cond-true (is_valid_key (st.shared.key s.0 k.index) k.serial) a (unchanged st reply.CancelledKey) h

    pub valid-cancelled : LetsThrough (with_named_key st s k)
        → is_valid_key (st.shared.key s.0 k.index) k.serial ≡ false
        → Refuses st (with_valid_key st s k) reply.CancelledKey
    valid-cancelled t h =
        λ a. t _ ∙ cond-false (is_valid_key (st.shared.key s.0 k.index) k.serial) a (unchanged st reply.CancelledKey) h
