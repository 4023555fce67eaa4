-- A row for each call of scripts: what it names, and what a race does with its line.
use Rattle.std.specs.Prelude.{ℕ, Bool, true, false, List, ⊤}
use Rattle.nio_base.specs.declared.numbers.ChanId.{ChanId}
use Rattle.nio_language.specs.declared.call.Call.{Call}
use Rattle.nio_language.specs.declared.call.Call.TheVariants as call
use Rattle.nio_language.specs.declared.word_row.LineName.{LineName}
use Rattle.nio_language.specs.declared.word_row.LineName.TheVariants.{Caller, Selector, Channel, Key}
use Rattle.nio_language.specs.declared.word_row.LineNames.{LineNames}
use Rattle.nio_language.specs.declared.word_row.LineNames.TheVariants.{None, One, Two}

-- ---- names

-- P holds of each name
abbrev pub EachName : (LineName → Type 0) → LineNames → Type 0
EachName P None = ⊤
EachName P (One a) = P a
EachName P (Two a b) = P a × P b

-- what f makes of each name; that of the first name is outermost, so the first one is looked up first
abbrev pub by_names : {A : Type 0} → (LineName → A → A) → LineNames → A → A
by_names f None x = x
by_names f (One a) x = f a x
by_names f (Two a b) x = f a (f b x)

-- ---- rows

-- a read of up to so many bytes from this channel, a write of these bytes into it, its closing, or none of these
pub data PipeUse : Type 0 where
  reads : ChanId → ℕ → PipeUse
  writes : ChanId → List ℕ → PipeUse
  closes : ChanId → PipeUse
  neither : PipeUse

pub record WordRow : Type 0 where
  -- what has to be there before its call is made
  pub names : LineNames
  -- Its call waits for the channel's hold. Where another caller has that, it replies `busy`, and a race makes the
  -- line again.
  pub waits_for_hold : Bool
  -- It may end the wait of a caller that blocks. Once a race has made its line, the code (nio_race's `racer.rt`) rings
  -- each caller's bell; no clause says so.
  pub wakes : Bool
  -- It may stand behind a race's `go`. Those that open a selector, a channel or a pipe may not, nor those on the
  -- group.
  pub may_race : Bool
  -- what it does where its channel is an end of a pipe
  pub on_pipe : PipeUse

-- A call's row: its names; whether it waits for the hold, may end a wait, and may stand behind `go`; and what it does
-- with a pipe. Each row says each of these, so that a new call can't leave one out.
abbrev pub row : LineNames → Bool → Bool → Bool → PipeUse → WordRow
row names waits_for_hold wakes may_race on_pipe = record {
  names = names;
  waits_for_hold = waits_for_hold;
  wakes = wakes;
  may_race = may_race;
  on_pipe = on_pipe;
}

abbrev pub word_row : Call → WordRow
word_row call.Selector = row None false false false neither
word_row (call.Channel kind) = row None false false false neither
word_row (call.Blocking c on) = row (One (Channel c)) true false true neither
word_row (call.IsBlocking c) = row (One (Channel c)) false false true neither
word_row (call.IsOpen c) = row (One (Channel c)) false false true neither
word_row (call.IsRegistered c) = row (One (Channel c)) false false true neither
word_row (call.KeyFor c s) = row (Two (Channel c) (Selector s)) false false true neither
word_row (call.Register s c ops att) = row (Two (Selector s) (Channel c)) true false true neither
word_row (call.Closec c) = row (One (Channel c)) false false true (closes c)
word_row (call.Valid s k) = row (One (Key s k)) false false true neither
word_row (call.Interest s k) = row (One (Key s k)) false false true neither
word_row (call.Ready s k) = row (One (Key s k)) false false true neither
word_row (call.Iset s k ops) = row (One (Key s k)) false false true neither
word_row (call.Ior s k ops) = row (One (Key s k)) false false true neither
word_row (call.Iand s k ops) = row (One (Key s k)) false false true neither
word_row (call.Cancel s k) = row (One (Key s k)) false false true neither
word_row (call.Unselect s k) = row (One (Key s k)) false false true neither
word_row (call.Attach s k att) = row (One (Key s k)) false false true neither
word_row (call.Attachment s k) = row (One (Key s k)) false false true neither
word_row (call.Begin s waiting) = row (One (Selector s)) false false true neither
word_row (call.Told s elapsed pairs) = row (One (Selector s)) false false true neither
word_row (call.Failed s) = row (One (Selector s)) false false true neither
word_row (call.Wakeup s) = row (One (Selector s)) false true true neither
word_row (call.Close s) = row (One (Selector s)) false true true neither
word_row (call.CloseEnd s) = row (One (Selector s)) false false true neither
word_row (call.Keys s) = row (One (Selector s)) false false true neither
word_row (call.Selected s) = row (One (Selector s)) false false true neither
word_row (call.Interrupt target) = row (One (Caller target)) false true true neither
word_row call.Interrupted = row None false false true neither
word_row (call.Pipe target) = row (One (Caller target)) false false false neither
word_row (call.Pwrite c bytes) = row (One (Channel c)) false false true (writes c bytes)
word_row (call.Pread c n) = row (One (Channel c)) false false true (reads c n)
-- the channels of a group aren't the table's: a call on the group finds its channel itself
word_row (call.Group g) = row None false false false neither
