-- What a step says besides its part and its instruction.
use Rattle.std.specs.Prelude.{ℕ, Bool, false}
use Rattle.nio_base.specs.declared.kind.Kind.{Kind}
use Rattle.nio_base.specs.declared.kind.Kind.TheVariants.{Stream}
use Rattle.nio_base.specs.declared.numbers.ChanNo.{ChanNo}
use Rattle.nio_base.specs.declared.numbers.KeyId.{KeyId}
use Rattle.nio_history.specs.State.{unclaimed, unmarked, unmade_channel}
use Rattle.nio_history.specs.declared.found.Chan.{Chan as Channel}
use Rattle.nio_history.specs.declared.found.Mark.{Mark as KeyMark}
use Rattle.nio_history.specs.declared.found.Stage.{Stage}
use Rattle.nio_words.specs.declared.step.Details.{Details}
use Rattle.nio_words.specs.declared.step.Details.TheVariants.{OfKind, ForChannel, Again, Number, Enrolled, Mode, Found}
use Rattle.nio_words.specs.declared.step.Details.TheVariants.{Told}

abbrev pub kind_of_details : Details → Kind
kind_of_details (OfKind kind) = kind
kind_of_details _ = Stream

abbrev pub channel_of_details : Details → ChanNo
channel_of_details (ForChannel c) = c
channel_of_details (Again c from) = c
channel_of_details _ = record { 0 = 0 }

abbrev pub stage_of_details : Details → Stage
stage_of_details (Again c from) = from
stage_of_details _ = unclaimed

abbrev pub number_of_details : Details → ℕ
number_of_details (Number n) = n
number_of_details _ = 0

abbrev pub key_of_details : Details → KeyId
key_of_details (Enrolled k) = k
key_of_details _ = record { index = 0; serial = 0 }

abbrev pub mode_of_details : Details → Bool
mode_of_details (Mode blocking) = blocking
mode_of_details _ = false

abbrev pub found_of_details : Details → Channel
found_of_details (Found from) = from
found_of_details _ = unmade_channel

abbrev pub mark_of_details : Details → KeyMark
mark_of_details (Told selected ready told) = record { selected = selected; ready = ready }
mark_of_details _ = unmarked

abbrev pub told_of_details : Details → ℕ
told_of_details (Told selected ready told) = told
told_of_details _ = 0
