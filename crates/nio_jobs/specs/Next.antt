-- What is due once an operation of a proxy has completed.
use Rattle.std.specs.Prelude.{ℕ, ◌+◌, ◌-◌, ◌%◌, ◌==◌, if◌then◌else◌, List, slice_index_or, slice_set}
use Rattle.nio_base.specs.declared.numbers.GChan.{GChan}
use Rattle.nio_base.specs.declared.group.Finished.{Finished}
use Rattle.nio_base.specs.declared.group.Finished.TheVariants as finished
use Rattle.nio_base.specs.declared.group.OpKind.{OpKind}
use Rattle.nio_base.specs.declared.group.OpKind.TheVariants.{Accept, Connect, Read, Write}
use Rattle.nio_jobs.specs.Directions.{capacity, held_after_read, held_after_write}
use Rattle.nio_jobs.specs.Directions.{write_after_read, read_after_read, write_after_write, read_after_write}
use Rattle.nio_jobs.specs.declared.next.Next.{Next}
use Rattle.nio_jobs.specs.declared.next.Next.TheVariants as next
use Rattle.nio_jobs.specs.declared.next.Start.{Start}

-- the listener's channel
abbrev pub listener : GChan
listener = record { number = 0; serial = 0 }

-- the other stream of a connection: clients have odd numbers, and the target of each has the next one
abbrev pub peer : GChan → GChan
peer chan = record chan { number = if chan.number % 2 == 1 then chan.number + 1 else chan.number - 1 }

-- how many bytes the direction from this stream holds
abbrev pub held_by : List ℕ → GChan → ℕ
held_by held chan = slice_index_or held chan.number 0

abbrev pub start_of : GChan → OpKind → ℕ → Start
start_of chan kind len = record { chan = chan; kind = kind; len = len }

-- both streams of a target that was connected are read
abbrev pub next_after_connected : GChan → Next
next_after_connected target = next.Both (start_of (peer target) Read capacity) (start_of target Read capacity)

-- bytes of the source were read, or written to the sink: what is due in their direction is started
abbrev pub next_after_reading : GChan → ℕ → ℕ → Next
next_after_reading source held n =
    next.Both (start_of (peer source) Write (write_after_read held n)) (start_of source Read (read_after_read held n))

abbrev pub next_after_writing : GChan → ℕ → ℕ → Next
next_after_writing sink held k =
    next.Both (start_of sink Write (write_after_write held k)) (start_of (peer sink) Read (read_after_write held k))

abbrev pub next_after_count : List ℕ → GChan → OpKind → ℕ → Next
next_after_count held chan Accept n = next.Nothing
next_after_count held chan Connect n = next.Nothing
next_after_count held chan Read n = next_after_reading chan (held_by held chan) n
next_after_count held chan Write n = next_after_writing chan (held_by held (peer chan)) n

-- an operation on a channel has completed so
abbrev pub next_after : List ℕ → GChan → OpKind → Finished → Next
next_after held chan kind (finished.Count n) = next_after_count held chan kind n
next_after held chan kind finished.End = next.Nothing
next_after held chan kind finished.Connected = next_after_connected chan
next_after held chan kind (finished.Accepted client) = next.Accepted
next_after held chan kind (finished.Failed why) = next.Nothing

-- how many bytes the directions hold then
abbrev pub held_after_count : List ℕ → GChan → OpKind → ℕ → List ℕ
held_after_count held chan Accept n = held
held_after_count held chan Connect n = held
held_after_count held chan Read n = slice_set held chan.number (held_after_read (held_by held chan) n)
held_after_count held chan Write n =
    slice_set held (peer chan).number (held_after_write (held_by held (peer chan)) n)

abbrev pub held_after_finished : List ℕ → GChan → OpKind → Finished → List ℕ
held_after_finished held chan kind (finished.Count n) = held_after_count held chan kind n
held_after_finished held chan kind finished.End = held
held_after_finished held chan kind finished.Connected = held
held_after_finished held chan kind (finished.Accepted client) = held
held_after_finished held chan kind (finished.Failed why) = held
