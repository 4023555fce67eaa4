use Rattle.nio_orderly.proofs.OrderlyClosings.{close_channel_closes, finish_closes, after_close_channel}
use Rattle.nio_orderly.proofs.OrderlyClosings.{no_key_after_close_channel, no_key_after_finish, no_key_after_close}
use Rattle.nio_orderly.proofs.laws.closing_calls_law.Goals as goal

pub returns : goal.returns
returns c = record {
  closes = close_channel_closes;
  finishes = finish_closes;
  channel = after_close_channel;
  no_key_of_channel = no_key_after_close_channel;
  no_key_of_selector = no_key_after_finish;
  no_key_after_close = no_key_after_close;
}
