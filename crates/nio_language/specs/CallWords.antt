-- A call is a word and its arguments.
use Rattle.std.specs.Prelude.{ℕ, List, codes}
use Rattle.nio_language.specs.Arguments.{Arguments, nothing, one_caller, one_selector, one_channel, one_kind}
use Rattle.nio_language.specs.Arguments.{channel_mode}
use Rattle.nio_language.specs.Arguments.{channel_selector, channel_bytes, channel_count, registration, selector_key}
use Rattle.nio_language.specs.Arguments.{key_ops, key_number, selector_wait, selector_told, on_group}
use Rattle.nio_language.specs.GroupCalls.{group_word, group_word_text}
use Rattle.nio_language.specs.declared.call.Call.{Call}
use Rattle.nio_language.specs.declared.call.Call.TheVariants as call
use Rattle.nio_language.specs.declared.call_word.CallWord.{CallWord}
use Rattle.nio_language.specs.declared.call_word.CallWord.TheVariants as word
use Rattle.nio_language.specs.declared.call_word.CallerWord.TheVariants as on_caller
use Rattle.nio_language.specs.declared.call_word.ChannelWord.TheVariants as on_channel
use Rattle.nio_language.specs.declared.call_word.KeyOpsWord.TheVariants as on_key_ops
use Rattle.nio_language.specs.declared.call_word.KeyWord.TheVariants as on_key
use Rattle.nio_language.specs.declared.call_word.LoneWord.TheVariants as alone
use Rattle.nio_language.specs.declared.call_word.SelectorWord.TheVariants as on_selector

abbrev pub call_word_text : CallWord → List ℕ
call_word_text (word.Alone alone.Selector) = codes "selector"
call_word_text word.Channel = codes "channel"
call_word_text word.Blocking = codes "blocking"
call_word_text (word.OnChannel on_channel.IsBlocking) = codes "is-blocking"
call_word_text (word.OnChannel on_channel.IsOpen) = codes "is-open"
call_word_text (word.OnChannel on_channel.IsRegistered) = codes "is-registered"
call_word_text word.KeyFor = codes "key-for"
call_word_text word.Register = codes "register"
call_word_text (word.OnChannel on_channel.Closec) = codes "closec"
call_word_text (word.OnKey on_key.Valid) = codes "valid"
call_word_text (word.OnKey on_key.Interest) = codes "interest"
call_word_text (word.OnKey on_key.Ready) = codes "ready"
call_word_text (word.OnKeyOps on_key_ops.Iset) = codes "iset"
call_word_text (word.OnKeyOps on_key_ops.Ior) = codes "ior"
call_word_text (word.OnKeyOps on_key_ops.Iand) = codes "iand"
call_word_text (word.OnKey on_key.Cancel) = codes "cancel"
call_word_text (word.OnKey on_key.Unselect) = codes "unselect"
call_word_text word.Attach = codes "attach"
call_word_text (word.OnKey on_key.Attachment) = codes "attachment"
call_word_text word.Begin = codes "begin"
call_word_text word.Told = codes "told"
call_word_text (word.OnSelector on_selector.Failed) = codes "failed"
call_word_text (word.OnSelector on_selector.Wakeup) = codes "wakeup"
call_word_text (word.OnSelector on_selector.Close) = codes "close"
call_word_text (word.OnSelector on_selector.CloseEnd) = codes "close-end"
call_word_text (word.OnSelector on_selector.Keys) = codes "keys"
call_word_text (word.OnSelector on_selector.Selected) = codes "selected"
call_word_text (word.OnCaller on_caller.Interrupt) = codes "interrupt"
call_word_text (word.Alone alone.Interrupted) = codes "interrupted"
call_word_text (word.OnCaller on_caller.Pipe) = codes "pipe"
call_word_text word.Pwrite = codes "pwrite"
call_word_text word.Pread = codes "pread"
call_word_text (word.OnGroup w) = group_word_text w

-- a call's word and its arguments
abbrev pub call_parts : Call → CallWord × Arguments
call_parts call.Selector = (word.Alone alone.Selector, nothing)
call_parts (call.Channel kind) = (word.Channel, one_kind kind)
call_parts (call.Blocking c on) = (word.Blocking, channel_mode c on)
call_parts (call.IsBlocking c) = (word.OnChannel on_channel.IsBlocking, one_channel c)
call_parts (call.IsOpen c) = (word.OnChannel on_channel.IsOpen, one_channel c)
call_parts (call.IsRegistered c) = (word.OnChannel on_channel.IsRegistered, one_channel c)
call_parts (call.KeyFor c s) = (word.KeyFor, channel_selector c s)
call_parts (call.Register s c ops att) = (word.Register, registration s c ops att)
call_parts (call.Closec c) = (word.OnChannel on_channel.Closec, one_channel c)
call_parts (call.Valid s k) = (word.OnKey on_key.Valid, selector_key s k)
call_parts (call.Interest s k) = (word.OnKey on_key.Interest, selector_key s k)
call_parts (call.Ready s k) = (word.OnKey on_key.Ready, selector_key s k)
call_parts (call.Iset s k ops) = (word.OnKeyOps on_key_ops.Iset, key_ops s k ops)
call_parts (call.Ior s k ops) = (word.OnKeyOps on_key_ops.Ior, key_ops s k ops)
call_parts (call.Iand s k ops) = (word.OnKeyOps on_key_ops.Iand, key_ops s k ops)
call_parts (call.Cancel s k) = (word.OnKey on_key.Cancel, selector_key s k)
call_parts (call.Unselect s k) = (word.OnKey on_key.Unselect, selector_key s k)
call_parts (call.Attach s k att) = (word.Attach, key_number s k att)
call_parts (call.Attachment s k) = (word.OnKey on_key.Attachment, selector_key s k)
call_parts (call.Begin s waiting) = (word.Begin, selector_wait s waiting)
call_parts (call.Told s elapsed pairs) = (word.Told, selector_told s elapsed pairs)
call_parts (call.Failed s) = (word.OnSelector on_selector.Failed, one_selector s)
call_parts (call.Wakeup s) = (word.OnSelector on_selector.Wakeup, one_selector s)
call_parts (call.Close s) = (word.OnSelector on_selector.Close, one_selector s)
call_parts (call.CloseEnd s) = (word.OnSelector on_selector.CloseEnd, one_selector s)
call_parts (call.Keys s) = (word.OnSelector on_selector.Keys, one_selector s)
call_parts (call.Selected s) = (word.OnSelector on_selector.Selected, one_selector s)
call_parts (call.Interrupt t) = (word.OnCaller on_caller.Interrupt, one_caller t)
call_parts call.Interrupted = (word.Alone alone.Interrupted, nothing)
call_parts (call.Pipe t) = (word.OnCaller on_caller.Pipe, one_caller t)
call_parts (call.Pwrite c bytes) = (word.Pwrite, channel_bytes c bytes)
call_parts (call.Pread c n) = (word.Pread, channel_count c n)
call_parts (call.Group g) = (word.OnGroup (group_word g), on_group g)

abbrev pub call_word : Call → CallWord
call_word call = (call_parts call).0

abbrev pub arguments : Call → Arguments
arguments call = (call_parts call).1
