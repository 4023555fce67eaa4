use Rattle.std.proofs.Common.{◌≡◌, ◌<◌, ap, ◌∙◌, suc, max, ◌++◌, ◌∷◌, [], length, arith}
use Rattle.std.proofs.lemmas.List.{length_push, length-set}
use Rattle.nio_history.specs.State.{put}
use Rattle.nio_plain.proofs.Places.{places-push, places-set}
use Rattle.nio_plain.proofs.Rows.{get-insert}
use Rattle.nio_plain.specs.PlainState.{places, key_row, no_key, selector_row}
use Rattle.nio_plain.proofs.plain.selector.Selector.add_key.Goals as goal

pub returns-in_ok-insert-clause-ok : goal.returns-in_ok-insert-clause-ok
returns-in_ok-insert-clause-ok c =
    let self = c.args.self.now in
    let xs = self.keys.items in
    let key = c.args.key in
    let id = c.args.id in
    let within : id.index < length xs = omega (arith, self.keys.ok.0) in
    let len : length xs ≡ max (length xs) (suc id.index) = omega arith in
    let kept = length-set xs id.index key in
    let enrolled = get-insert self.enrolled c.insert.new.self key.chan.0 id c.in_ok-insert.ensures.updates in
    let keys = places-set key_row no_key xs id.index key within in
    let mark = kept ∙ len in
    λ i. record (selector_row self) {
      keys_high = mark i;
      keys = keys i;
      enrolled = enrolled i;
    }

pub returns-in_ok-push-clause-ok : goal.returns-in_ok-push-clause-ok
returns-in_ok-push-clause-ok c =
    let self = c.args.self.now in
    let xs = self.keys.items in
    let key = c.args.key in
    let id = c.args.id in
    let pushed : c.push.new.self.items ≡ xs ++ key ∷ [] = c.in_ok-push.ensures.items
    ∙ ap (λ ys. ys ++ key ∷ []) c.in_ok-reserve.ensures.items in
    let index : length xs ≡ id.index = omega (arith, self.keys.ok.0, c.requires.there) in
    let len = ap length pushed ∙ length_push xs key in
    let mark : length c.push.new.self.items ≡ max (length xs) (suc id.index) = omega (arith, len) in
    let keys = ap (places key_row no_key) pushed
    ∙ (places-push key_row no_key xs key ∙ ap (λ n. put (places key_row no_key xs) n (key_row key)) index) in
    let enrolled = get-insert self.enrolled c.insert-else-index-len.new.self key.chan.0 id
    c.in_ok-insert-2.ensures.updates in
    λ i. record (selector_row self) {
      keys_high = mark i;
      keys = keys i;
      enrolled = enrolled i;
    }
