-- Two histories in which a channel is closed while another caller registers it. They begin as the worked history of
-- `nio_history` does: caller u registers channel c with selector s.
use Rattle.std.specs.Prelude.{false, None, IsTrue, List, [], ◌∷◌, ◌++◌, take}
use Rattle.nio_history.specs.Histories.{state_after, event_of, IsLegal}
use Rattle.nio_history.specs.Sets.{is_valid}
use Rattle.nio_history.specs.Worked.{u, v, s, c, chan, stage, enrolled, small_limits, worked_history}
use Rattle.nio_history.specs.declared.act.Act.TheVariants.{LookChannel, Publish, LookReg, CloseBit}
use Rattle.nio_history.specs.declared.event.Event.{Event}
use Rattle.nio_orderly.specs.Careful.{IsCareful}
use Rattle.nio_orderly.specs.Owed.{publishes_key, publisher_duty, OwesSince, Owed}

-- v closes the channel just after u published the key, before u looked at the channel again
abbrev pub closed_meanwhile : List Event
closed_meanwhile = take 27 worked_history ++ event_of v (CloseBit c (chan false false) (chan false false)) ∷ []

-- the key is valid though its channel is closed, and u owes its cancelling
pub record DebtStands : Type 0 where
  pub legal : IsLegal small_limits closed_meanwhile
  pub careful : IsCareful closed_meanwhile
  pub valid : IsTrue (is_valid ((state_after closed_meanwhile).key 0 0))
  pub closed : IsTrue ((state_after closed_meanwhile).chan 0).closed
  pub owing : OwesSince closed_meanwhile (publishes_key 0 0 (enrolled 0 0)) (publisher_duty 0 0 (enrolled 0 0))

-- u publishes the key but hasn't enrolled it for the channel, and looks at the channel; then v closes the channel,
-- and finds no key enrolled for it
abbrev pub unenrolled_key : List Event
unenrolled_key =
    take 25 worked_history
    ++ event_of u (Publish s 0 (stage 0 false false false))
    ∷ event_of u (LookChannel c (chan false false))
    ∷ event_of v (CloseBit c (chan false false) (chan false false))
    ∷ event_of v (LookReg c s None) ∷ []

-- each step is allowed, but the history isn't careful, and the cancellation is lost: the key is valid, its channel
-- is closed, and nobody owes anything
pub record CancellationIsLost : Type 0 where
  pub legal : IsLegal small_limits unenrolled_key
  pub careless : ¬ IsCareful unenrolled_key
  pub valid : IsTrue (is_valid ((state_after unenrolled_key).key 0 0))
  pub closed : IsTrue ((state_after unenrolled_key).chan 0).closed
  pub lost : ¬ Owed unenrolled_key
