-- Each kind of step as a plan: its question, and what its answer holds.
use Rattle.std.specs.Prelude.{ℕ, Bool, false, Option, None, Result, Ok}
use Rattle.nio_base.specs.declared.kind.Kind.{Kind}
use Rattle.nio_base.specs.declared.numbers.CallerNo.{CallerNo}
use Rattle.nio_base.specs.declared.numbers.ChanNo.{ChanNo}
use Rattle.nio_base.specs.declared.numbers.KeyId.{KeyId}
use Rattle.nio_base.specs.declared.numbers.SelNo.{SelNo}
use Rattle.nio_history.specs.Questions.{Question, Answer, flag, word, gate_word, stage, operations, channel, number}
use Rattle.nio_history.specs.Questions.{enrolled_key, holder, key_mark, exchange, index_word}
use Rattle.nio_history.specs.State.{open_gate, unclaimed, unmade_channel, unmarked}
use Rattle.nio_history.specs.declared.found.Chan.{Chan}
use Rattle.nio_history.specs.declared.found.GateWord.{GateWord}
use Rattle.nio_history.specs.declared.found.IndexWord.{IndexWord}
use Rattle.nio_history.specs.declared.found.Mark.{Mark}
use Rattle.nio_history.specs.declared.found.Stage.{Stage}
use Rattle.nio_steps.specs.Plan.{Plan, reply, ask}

-- ---- what an answer holds
--
-- The last case of each is an answer to a question of another kind, which no act has.

abbrev pub flag_in : Answer → Bool
flag_in (flag found) = found
flag_in _ = false

abbrev pub word_in : Answer → ℕ
word_in (word found) = found
word_in _ = 0

abbrev pub gate_in : Answer → GateWord
gate_in (gate_word found) = found
gate_in _ = open_gate

abbrev pub stage_in : Answer → Stage
stage_in (stage found) = found
stage_in _ = unclaimed

abbrev pub operations_in : Answer → ℕ
operations_in (operations found) = found
operations_in _ = 0

abbrev pub channel_in : Answer → Chan
channel_in (channel found) = found
channel_in _ = unmade_channel

abbrev pub number_in : Answer → ℕ
number_in (number found) = found
number_in _ = 0

abbrev pub enrolled_in : Answer → Option KeyId
enrolled_in (enrolled_key found) = found
enrolled_in _ = None

abbrev pub holder_in : Answer → Option CallerNo
holder_in (holder found) = found
holder_in _ = None

abbrev pub mark_in : Answer → Mark
mark_in (key_mark found) = found
mark_in _ = unmarked

abbrev pub exchange_in : Answer → Result (Unit {0}) Mark
exchange_in (exchange found) = found
exchange_in _ = Ok tt

abbrev pub index_in : Answer → IndexWord
index_in (index_word found) = found
index_in _ = record { stage = unclaimed; pinned = false }

-- ---- the kinds, in the order in which `Act` lists them

abbrev pub draw_bit : CallerNo → Plan Bool
draw_bit n = ask (Question.draw_bit n) (λ answer. reply (flag_in answer))

abbrev pub make_selector : SelNo → Plan Bool
make_selector s = ask (Question.make_selector s) (λ answer. reply (flag_in answer))

abbrev pub look_selectors : Plan ℕ
look_selectors = ask Question.look_selectors (λ answer. reply (word_in answer))

abbrev pub wake : SelNo → Plan Bool
wake s = ask (Question.wake s) (λ answer. reply (flag_in answer))

abbrev pub look_gate : SelNo → Plan GateWord
look_gate s = ask (Question.look_gate s) (λ answer. reply (gate_in answer))

abbrev pub set_interrupt : CallerNo → Plan Bool
set_interrupt n = ask (Question.set_interrupt n) (λ answer. reply (flag_in answer))

abbrev pub take_interrupt : Plan Bool
take_interrupt = ask Question.take_interrupt (λ answer. reply (flag_in answer))

abbrev pub look_interrupt : Plan Bool
look_interrupt = ask Question.look_interrupt (λ answer. reply (flag_in answer))

abbrev pub look_key : SelNo → ℕ → Plan Stage
look_key s i = ask (Question.look_key s i) (λ answer. reply (stage_in answer))

abbrev pub cancel_key : SelNo → ℕ → Plan Stage
cancel_key s i = ask (Question.cancel_key s i) (λ answer. reply (stage_in answer))

abbrev pub look_interest : SelNo → ℕ → Plan ℕ
look_interest s i = ask (Question.look_interest s i) (λ answer. reply (operations_in answer))

abbrev pub swap_interest : SelNo → ℕ → ℕ → Plan ℕ
swap_interest s i ops = ask (Question.swap_interest s i ops) (λ answer. reply (operations_in answer))

abbrev pub or_interest : SelNo → ℕ → ℕ → Plan ℕ
or_interest s i ops = ask (Question.or_interest s i ops) (λ answer. reply (operations_in answer))

abbrev pub and_interest : SelNo → ℕ → ℕ → Plan ℕ
and_interest s i ops = ask (Question.and_interest s i ops) (λ answer. reply (operations_in answer))

abbrev pub swap_note : SelNo → ℕ → ℕ → Plan ℕ
swap_note s i att = ask (Question.swap_note s i att) (λ answer. reply (word_in answer))

abbrev pub look_note : SelNo → ℕ → Plan ℕ
look_note s i = ask (Question.look_note s i) (λ answer. reply (word_in answer))

abbrev pub make_channel : ChanNo → Kind → Plan Bool
make_channel c kind = ask (Question.make_channel c kind) (λ answer. reply (flag_in answer))

abbrev pub look_channel : ChanNo → Plan Chan
look_channel c = ask (Question.look_channel c) (λ answer. reply (channel_in answer))

abbrev pub claim : SelNo → ℕ → ChanNo → Plan Bool
claim s i c = ask (Question.claim s i c) (λ answer. reply (flag_in answer))

abbrev pub raise_keys : SelNo → ℕ → Plan ℕ
raise_keys s n = ask (Question.raise_keys s n) (λ answer. reply (number_in answer))

abbrev pub look_keys : SelNo → Plan ℕ
look_keys s = ask (Question.look_keys s) (λ answer. reply (number_in answer))

abbrev pub publish : SelNo → ℕ → Plan Stage
publish s i = ask (Question.publish s i) (λ answer. reply (stage_in answer))

abbrev pub look_reg : ChanNo → SelNo → Plan (Option KeyId)
look_reg c s = ask (Question.look_reg c s) (λ answer. reply (enrolled_in answer))

abbrev pub enrol : ChanNo → SelNo → ℕ → ℕ → Plan (Option KeyId)
enrol c s i serial = ask (Question.enrol c s i serial) (λ answer. reply (enrolled_in answer))

abbrev pub take_turn : SelNo → Plan (Option CallerNo)
take_turn s = ask (Question.take_turn s) (λ answer. reply (holder_in answer))

abbrev pub begin_look : SelNo → Plan GateWord
begin_look s = ask (Question.begin_look s) (λ answer. reply (gate_in answer))

abbrev pub give_turn : SelNo → Plan (Unit {0})
give_turn s = ask (Question.give_turn s) (λ _. reply tt)

abbrev pub remove : SelNo → ℕ → Plan Stage
remove s i = ask (Question.remove s i) (λ answer. reply (stage_in answer))

abbrev pub look_mark : SelNo → ℕ → Plan Mark
look_mark s i = ask (Question.look_mark s i) (λ answer. reply (mark_in answer))

abbrev pub mark : SelNo → ℕ → Mark → ℕ → Plan (Result (Unit {0}) Mark)
mark s i from told = ask (Question.mark s i from told) (λ answer. reply (exchange_in answer))

abbrev pub unselect_bit : SelNo → ℕ → Plan Bool
unselect_bit s i = ask (Question.unselect_bit s i) (λ answer. reply (flag_in answer))

abbrev pub end_wake : SelNo → Plan GateWord
end_wake s = ask (Question.end_wake s) (λ answer. reply (gate_in answer))

abbrev pub look_channels : Plan ℕ
look_channels = ask Question.look_channels (λ answer. reply (number_in answer))

abbrev pub raise_channels : ℕ → Plan ℕ
raise_channels n = ask (Question.raise_channels n) (λ answer. reply (number_in answer))

abbrev pub try_hold_bit : ChanNo → Plan (Option CallerNo)
try_hold_bit c = ask (Question.try_hold_bit c) (λ answer. reply (holder_in answer))

abbrev pub release : ChanNo → Plan (Unit {0})
release c = ask (Question.release c) (λ _. reply tt)

abbrev pub set_mode : ChanNo → Bool → Plan Chan
set_mode c blocking = ask (Question.set_mode c blocking) (λ answer. reply (channel_in answer))

abbrev pub close_bit : ChanNo → Chan → Plan Chan
close_bit c from = ask (Question.close_bit c from) (λ answer. reply (channel_in answer))

abbrev pub shut_bit : SelNo → Plan Bool
shut_bit s = ask (Question.shut_bit s) (λ answer. reply (flag_in answer))

abbrev pub enter : SelNo → Plan (Option CallerNo)
enter s = ask (Question.enter s) (λ answer. reply (holder_in answer))

abbrev pub pin : SelNo → ℕ → Plan Stage
pin s i = ask (Question.pin s i) (λ answer. reply (stage_in answer))

abbrev pub unpin : SelNo → ℕ → Plan (Unit {0})
unpin s i = ask (Question.unpin s i) (λ _. reply tt)

abbrev pub clear_mark : SelNo → ℕ → Plan Mark
clear_mark s i = ask (Question.clear_mark s i) (λ answer. reply (mark_in answer))

abbrev pub claim_again : SelNo → ℕ → ChanNo → Stage → Plan Bool
claim_again s i c from = ask (Question.claim_again s i c from) (λ answer. reply (flag_in answer))

abbrev pub look_free : SelNo → ℕ → Plan ℕ
look_free s j = ask (Question.look_free s j) (λ answer. reply (word_in answer))

abbrev pub put_free : SelNo → ℕ → Plan (Unit {0})
put_free s i = ask (Question.put_free s i) (λ _. reply tt)

abbrev pub take_free : SelNo → ℕ → Plan Bool
take_free s i = ask (Question.take_free s i) (λ answer. reply (flag_in answer))

abbrev pub reopen : ChanNo → Chan → Plan Bool
reopen c from = ask (Question.reopen c from) (λ answer. reply (flag_in answer))

abbrev pub touch : SelNo → ℕ → Plan Bool
touch s i = ask (Question.touch s i) (λ answer. reply (flag_in answer))

abbrev pub look_touched : SelNo → ℕ → Plan ℕ
look_touched s j = ask (Question.look_touched s j) (λ answer. reply (word_in answer))

abbrev pub take_touched : SelNo → ℕ → Plan ℕ
take_touched s j = ask (Question.take_touched s j) (λ answer. reply (word_in answer))

abbrev pub look_index : SelNo → ℕ → Plan IndexWord
look_index s i = ask (Question.look_index s i) (λ answer. reply (index_in answer))

abbrev pub take_list : SelNo → Plan (Option CallerNo)
take_list s = ask (Question.take_list s) (λ answer. reply (holder_in answer))
