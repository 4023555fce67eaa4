use Rattle.std.proofs.Common.{◌≡◌, ◌≢◌, ℕ, ◌+◌, ◌<◌, [], ◌∷◌, ◌++◌, length, sym, ap, subst, arith, length-append}
use Rattle.std.specs.Prelude.{All, AllPairs}
use Rattle.std.proofs.lemmas.List.Elements.{All-push}
use Rattle.std.proofs.lemmas.List.Quantifiers.{all_pairs_push}
use Rattle.nio_serve.specs.Changes.{new_slot}
use Rattle.nio_serve.specs.declared.slot.Slot.{Slot}
use Rattle.nio_serve.proofs.connections.make_slots.Goals as goal

pub loop-number-preserved : goal.loop-number-preserved
loop-number-preserved c =
    let before = c.loop-number.invariant in
    let number = c.loop-number.number in
    let slots = c.loop-number.slots.items in
    let idle = c.loop-number.idle.items in
    let IsNewSlot : Slot → Type 0 = λ slot. slot ≡ new_slot in
    let IsBelow : ℕ → Type 0 = λ i. i < number + 1 in
    let more_slots : c.push.new.self.items ≡ slots ++ c.new.result ∷ [] = c.in_ok-push.ensures.items in
    let more_idle : c.push_back.new.self.items ≡ idle ++ number ∷ [] = c.in_ok-push_back.ensures.items in
    record {
      slots = subst (All IsNewSlot) (sym more_slots) (All-push IsNewSlot slots c.new.result before.slots c.new.ensures);
      count = omega (arith, before.count, ap length more_slots, length-append slots (c.new.result ∷ []));
      idle = subst (All IsBelow) (sym more_idle)
          (All-push IsBelow idle number (λ k d few. omega (arith, before.idle k d few)) (omega arith));
      once = subst (AllPairs (λ i j. i ≢ j)) (sym more_idle)
          (all_pairs_push (λ i j. i ≢ j) idle number before.once
          (λ k d few same. absurd (omega (arith, before.idle k d few, same))));
      all = omega (arith, before.all, ap length more_idle, length-append idle (number ∷ []));
    }
