use Rattle.nio_serial.proofs.LeftLaws.{leading-empties-closed, leading-keeps-channels-of-keys, leading-keeps-closed}
use Rattle.nio_serial.proofs.LeftLaws.{leading-keeps-invalid, leading-keeps-kinds, leading-keeps-opened}
use Rattle.nio_serial.proofs.LeftLaws.{leading-keeps-published, leading-makes-other-keys, left-are-within-key-set}
use Rattle.nio_serial.proofs.LeftLaws.{left-finds-keys-of-channels, left-group-is-lawful, left-group-is-left-by-a-run}
use Rattle.nio_serial.proofs.LeftLaws.{left-has-keys-below-high, left-has-looked-in-key-set, left-has-no-key-at-free}
use Rattle.nio_serial.proofs.LeftLaws.{left-has-no-valid-key-of-closed, left-has-one-key-of-a-channel}
use Rattle.nio_serial.proofs.LeftLaws.{left-has-registered-in-key-sets, left-has-registered-non-blocking}
use Rattle.nio_serial.proofs.LeftLaws.{left-makes-new-channels, left-makes-new-keys, reopened-is-new}
use Rattle.nio_serial.proofs.laws.left_law.Goals as goal

pub returns : goal.returns
returns c =
    record {
      within = left-are-within-key-set;
      below = left-has-keys-below-high;
      looked = left-has-looked-in-key-set;
      published = leading-keeps-published;
      invalid = leading-keeps-invalid;
      free = left-has-no-key-at-free;
      new_keys = left-makes-new-keys;
      other_keys = leading-makes-other-keys;
      opened = leading-keeps-opened;
      closed = leading-keeps-closed;
      kinds = leading-keeps-kinds;
      new_channels = left-makes-new-channels;
      reopened = reopened-is-new;
      keys = leading-keeps-channels-of-keys;
      found = left-finds-keys-of-channels;
      one = left-has-one-key-of-a-channel;
      registered = left-has-registered-in-key-sets;
      non_blocking = left-has-registered-non-blocking;
      no_valid_key = left-has-no-valid-key-of-closed;
      emptied = leading-empties-closed;
      run = left-group-is-left-by-a-run;
      lawful = left-group-is-lawful;
    }
