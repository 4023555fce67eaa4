use Rattle.std.proofs.Common.{◌≡◌, ◌++◌}
use Rattle.nio_load.specs.Generator.{channel_lines, lines_below, text_of}
use Rattle.nio_load.proofs.generator.push_channels.Given as goal

abbrev pub invariant-loop-channel : goal.invariant-loop-channel
invariant-loop-channel l = l.text.items ≡ l.initial.text.items ++ text_of (lines_below l.channel channel_lines)
