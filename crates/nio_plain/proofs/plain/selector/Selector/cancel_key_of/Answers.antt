use Rattle.std.proofs.Common.{true, ◌<◌, cond, ℕ, Option, length, ap, sym, ◌∙◌, arith}
use Rattle.std.proofs.lemmas.List.{length-set}
use Rattle.nio_base.specs.declared.numbers.KeyId.{KeyId}
use Rattle.nio_history.specs.State.{put}
use Rattle.nio_plain.proofs.Closing.{cancelled-one}
use Rattle.nio_plain.proofs.Places.{places-set, places_at}
use Rattle.nio_plain.specs.PlainState.{places, key_row, no_key, selector_row, cancelled_row}
use Rattle.nio_plain.specs.Seq.Cancelling.{has_index}
use Rattle.nio_plain.proofs.plain.selector.Selector.cancel_key_of.Goals as goal

pub returns-in-Some : goal.returns-in-Some
returns-in-Some c =
    let xs = c.args.self.now.keys.items in
    let i = c.in-Some.id.index in
    let k = c.index_mut.result.now in
    let within : i < length xs = omega (arith, c.args.self.now.keys.ok.0, c.in-Some.ensures.made) in
    let key = record k { cancelled = true } in
    let keys = places key_row no_key xs in
    let at = places_at key_row no_key xs i k within c.index_mut.ensures.value in
    let set_there = places-set key_row no_key xs i key within ∙ ap (λ r. put keys i (cancelled_row r)) (sym at) in
    let by_name = ap (λ (o : Option KeyId). λ (j : ℕ). cond (has_index o j) (cancelled_row (keys j)) (keys j))
    c.in-Some.ensures.key in
    let cancelled = set_there ∙ (sym (cancelled-one keys i) ∙ by_name) in
    let len = length-set xs i key in
    λ j. record (selector_row c.args.self.now) {
      keys_high = len j;
      keys = cancelled j;
    }
