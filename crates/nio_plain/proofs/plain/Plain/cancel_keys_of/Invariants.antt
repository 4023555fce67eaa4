use Rattle.std.proofs.Common.{◌≡◌, vec_len}
use Rattle.nio_plain.specs.PlainState.{places, changed, selector_row, no_selector, with_cancelled_key}
use Rattle.nio_plain.proofs.plain.Plain.cancel_keys_of.Given as goal

abbrev pub invariant-loop-place : goal.invariant-loop-place
invariant-loop-place l = record {
  cancelled : places selector_row no_selector l.self.selectors.items ≡ changed (λ r. with_cancelled_key r l.chan.0)
      (places selector_row no_selector l.initial.self.selectors.items) l.place;
  long : vec_len l.self.selectors ≡ vec_len l.initial.self.selectors;
  limits : l.self.limits ≡ l.initial.self.limits;
  rules : l.self.rules ≡ l.initial.self.rules;
  channels : l.self.channels ≡ l.initial.self.channels;
  interrupted : l.self.interrupted ≡ l.initial.self.interrupted;
  group : l.self.group ≡ l.initial.self.group;
  pipes : l.self.pipes ≡ l.initial.self.pipes;
}
