-- What a word tells of its part: the other way round from the encodings.
use Rattle.std.specs.Prelude.{ℕ, ◌-◌, ◌/◌, ◌%◌, ◌^◌, ◌==◌, Bool, not, if◌then◌else◌, Option, Some, None, Result, Ok}
use Rattle.std.specs.Prelude.{Err}
use Rattle.nio_base.specs.declared.kind.Kind.{Kind}
use Rattle.nio_base.specs.declared.kind.Kind.TheVariants.{Stream, Listener, Source, Sink, Datagram}
use Rattle.nio_base.specs.declared.numbers.CallerNo.{CallerNo}
use Rattle.nio_base.specs.declared.numbers.KeyId.{KeyId}
use Rattle.nio_history.specs.declared.found.Chan.{Chan as Channel}
use Rattle.nio_history.specs.declared.found.GateWord.{GateWord}
use Rattle.nio_history.specs.declared.found.IndexWord.{IndexWord}
use Rattle.nio_history.specs.declared.found.Mark.{Mark as KeyMark}
use Rattle.nio_history.specs.declared.found.Stage.{Stage}
use Rattle.nio_words.specs.Encodings.{channel_word, stage_word, mark_word}

-- bit k is set
abbrev pub is_set : ℕ → ℕ → Bool
is_set word k = word / 2 ^ k % 2 == 1

abbrev pub gate_of : ℕ → GateWord
gate_of word = record { woken = is_set word 0; shut = is_set word 1 }

abbrev pub stage_of : ℕ → Stage
stage_of word = record {
  claimed = is_set word 0;
  published = is_set word 1;
  cancelled = is_set word 2;
  removed = is_set word 3;
  chan = record { 0 = word / 2 ^ 12 % 2 ^ 20 };
  serial = word / 2 ^ 32;
}

-- how many pins are on an index
abbrev pub pins_of : ℕ → ℕ
pins_of word = word / 2 ^ 4 % 2 ^ 8

abbrev pub index_of : ℕ → IndexWord
index_of word = record { stage = stage_of word; pinned = not (pins_of word == 0) }

-- what an exchange from a stage without pins finds: whether its index was pinned, and so another word stood
-- there
abbrev pub was_pinned : Stage → ℕ → Bool
was_pinned from word = not (word == stage_word from 0)

abbrev pub operations_of : ℕ → ℕ
operations_of word = word % 256

abbrev pub mark_of : ℕ → KeyMark
mark_of word = record { selected = is_set word 8; ready = operations_of word }

-- what an exchange from a mark finds: that its word stood there, or else the mark that did
abbrev pub exchange_found : KeyMark → ℕ → Result (Unit {0}) KeyMark
exchange_found from word = if word == mark_word from then Ok tt else Err (mark_of word)

-- a number of 32 bits
abbrev pub number_of : ℕ → ℕ
number_of word = word % 2 ^ 32

abbrev pub kind_of : ℕ → Kind
kind_of code =
    if code == 0 then Stream else if code == 1 then Listener else if code == 2 then Source else if code == 3 then Sink
    else Datagram

abbrev pub chan_of : ℕ → Channel
chan_of word = record {
  made = is_set word 0;
  kind = kind_of (word / 2 ^ 1 % 8);
  closed = is_set word 4;
  blocking = not (is_set word 5);
  serial = word / 2 ^ 32;
}

-- what an exchange from a channel finds: whether its number had another one
abbrev pub is_other_channel : Channel → ℕ → Bool
is_other_channel from word = not (word == channel_word from)

-- 0 for nobody, and else one more than the caller's number
abbrev pub holder_of : ℕ → Option CallerNo
holder_of word = if word == 0 then None else Some (record { 0 = number_of (word - 1) })

-- 0 for none, and else one more than the index, beside the serial
abbrev pub enrolled_of : ℕ → Option KeyId
enrolled_of word = if word == 0 then None else Some (record { index = number_of (word - 1); serial = word / 2 ^ 32 })
