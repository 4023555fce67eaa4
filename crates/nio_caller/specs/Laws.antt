-- What a caller has seen made is found by each look for it: a call that names it isn't refused for it.
use Rattle.std.specs.Prelude.{◌≡◌, ◌++◌, Option, Some, List}
use Rattle.nio_base.specs.Limits.{IsFit}
use Rattle.nio_base.specs.declared.numbers.CallerNo.{CallerNo}
use Rattle.nio_base.specs.declared.numbers.ChanId.{ChanId}
use Rattle.nio_base.specs.declared.numbers.KeyNo.{KeyNo}
use Rattle.nio_base.specs.declared.numbers.SelNo.{SelNo}
use Rattle.nio_history.specs.PassViews.{PassView, ActsClause, HasSelector, HasChannel, HasKey}
use Rattle.nio_history.specs.declared.act.Act.{Act}
use Rattle.nio_caller.specs.Callers.{StillHas}
use Rattle.nio_caller.specs.NamedCalls.{FindsChannel, FindsKey, FindsSelector}

-- The caller looked for a selector that it had seen made before, among other acts: the look found it.
abbrev pub SelectorsAreFound : Type 0
SelectorsAreFound =
    (me : CallerNo) (old new : PassView) (s : SelNo) (before look more : List Act) (found : Option SelNo)
    → IsFit old.limits → HasSelector old s → ActsClause me (before ++ (look ++ more)) old new
    → FindsSelector old.limits s look found → found ≡ Some s

-- the same of a channel
abbrev pub ChannelsAreFound : Type 0
ChannelsAreFound =
    (me : CallerNo) (old new : PassView) (c : ChanId) (before look more : List Act) (found : Option ChanId)
    → HasChannel old c → ActsClause me (before ++ (look ++ more)) old new → FindsChannel old.limits c look found
    → found ≡ Some c

-- the same of a key, in a selector that it had seen made
abbrev pub KeysAreFound : Type 0
KeysAreFound =
    (me : CallerNo) (old new : PassView) (k : KeyNo) (before look more : List Act) (found : Option KeyNo)
    → IsFit old.limits → HasSelector old k.sel → HasKey old k → ActsClause me (before ++ (look ++ more)) old new
    → FindsKey old.limits k look found → found ≡ Some k

-- What may be passed to a call may be passed to a later one, whatever the caller does.
abbrev pub NamesStay : Type 0
NamesStay = (me : CallerNo) (old new : PassView) (acts : List Act) → ActsClause me acts old new → StillHas old new
