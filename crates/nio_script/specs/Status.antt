-- The exit statuses.
use Rattle.std.specs.Prelude.{ℕ}
use Rattle.nio_script.specs.declared.status.Status.{Status}
use Rattle.nio_script.specs.declared.status.Status.TheVariants.{Done, Usage, BadScript, ReadFault, WriteFault, Memory}
use Rattle.nio_script.specs.declared.status.Status.TheVariants.{NetFault, Illegal, TooLong}

-- the exit status of the process
abbrev pub code_of : Status → ℕ
code_of Done = 0
code_of Usage = 2
code_of (BadScript line) = 3
code_of ReadFault = 4
code_of WriteFault = 5
code_of Memory = 6
code_of NetFault = 7
code_of (Illegal line) = 8
code_of TooLong = 9
