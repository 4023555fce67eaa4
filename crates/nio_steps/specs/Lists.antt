-- A selector's list, as the calls of the caller that has it take it and give it on.
use Rattle.std.specs.Prelude.{◌≡◌, ℕ, ◌*◌, ◌<◌, ◌==◌, if◌then◌else◌, Option, Some, None, IsTrue, IsFalse, List, fold}
use Rattle.std.specs.List.{All, AllPairs, Contains}
use Rattle.nio_base.specs.Limits.{IsFit}
use Rattle.nio_base.specs.declared.limits.Limits.{Limits}
use Rattle.nio_base.specs.declared.numbers.CallerNo.{CallerNo}
use Rattle.nio_base.specs.declared.numbers.SelNo.{SelNo}
use Rattle.nio_history.specs.Conditions.{has_list}
use Rattle.nio_history.specs.Histories.{state_after, mine}
use Rattle.nio_history.specs.Lists.{ListEntry, entry, owes_look}
use Rattle.nio_history.specs.declared.act.Act.{Act}
use Rattle.nio_history.specs.declared.act.Act.TheVariants.{LookKeys}
use Rattle.nio_history.specs.declared.event.Event.{Event}
use Rattle.nio_steps.specs.ChannelCalls.{words_below}
use Rattle.nio_steps.specs.declared.looked.LookedKey.{LookedKey}

-- what the list has of an index
abbrev pub listed_at : List LookedKey → ℕ → Option ListEntry
listed_at known i = fold (λ found e. if e.index == i then Some (record {
  serial = e.serial;
  channel = e.channel;
  interest = e.interest;
}) else found) None known

-- the caller found a high-water mark of the selector's keys, and the index is in one of the words of 64 indexes that
-- have an index below the mark
pub record IsFoundBelow (own : List Act) (s : SelNo) (i : ℕ) : Type 0 where
  pub mark : ℕ
  pub found : Contains own (LookKeys s mark)
  pub below : i < 64 * words_below mark

-- It is what the caller knows of each index from its own acts, and the caller owes no look: its indexes rise, so none
-- stands there twice, and each is below a high-water mark that the caller found.
pub record IsListOf (own : List Act) (s : SelNo) (known : List LookedKey) : Type 0 where
  pub rise : AllPairs (λ x y. x.index < y.index) known
  pub entries : (i : ℕ) → listed_at known i ≡ entry s.0 i own
  pub whole : (i : ℕ) → IsFalse (owes_look s.0 i own)
  pub below : All (λ e. IsFoundBelow own s e.index) known

-- After this history the caller has the selector's list, and this is the list.
pub record KnowsList (l : Limits) (n : CallerNo) (before : List Event) (s : SelNo) (known : List LookedKey) : Type 0
  where
    pub fit : IsFit l
    pub had : IsTrue (has_list (state_after before) n s)
    pub right : IsListOf (mine n before) s known
