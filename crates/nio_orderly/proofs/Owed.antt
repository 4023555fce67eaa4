-- Nothing is lost: the debts stand in every legal and careful history.
use Rattle.std.proofs.Common.{◌≡◌, ℕ, true, false, not, inl, Option, Some, None, is_some, List, refl, ap, sym, ◌∙◌}
use Rattle.std.proofs.Common.{subst}
use Rattle.std.proofs.lemmas.Bool.{and_parts, or_right, not-true}
use Rattle.nio_base.specs.declared.numbers.CallerNo.{CallerNo}
use Rattle.nio_base.specs.declared.numbers.ChanNo.{ChanNo}
use Rattle.nio_history.proofs.Soundness.{legal-sound}
use Rattle.nio_history.specs.Histories.{state_after, mine}
use Rattle.nio_history.specs.OwnEvents.{since_entered}
use Rattle.nio_history.specs.Sets.{in_key_set, is_valid}
use Rattle.nio_history.specs.declared.event.Event.{Event}
use Rattle.nio_history.specs.declared.found.Stage.{Stage}
use Rattle.nio_orderly.proofs.Cancelling.{cancelling_owed}
use Rattle.nio_orderly.proofs.Clearing.{IsComing, clearing_owed}
use Rattle.nio_orderly.proofs.KeysStand.{keys_stand}
use Rattle.nio_orderly.proofs.Standing.{shut_closer}
use Rattle.nio_orderly.specs.Owed.{owes, clearing_duty, OwesClearing, NothingIsLost}

-- a valid key is published and isn't removed
pub valid_coming : (events : List Event) (s i : ℕ) → is_valid ((state_after events).key s i) ≡ true
    → IsComing events s i
valid_coming events s i valid =
    let k : Stage = (state_after events).key s i in
    let set = (and_parts (in_key_set k) (not k.cancelled) valid).0 in
    let both = and_parts k.published (not k.removed) set in
    record { unremoved = not-true k.removed both.1; how = inl both.0 }

pub nothing_is_lost : NothingIsLost
nothing_is_lost l events fit legal careful = record {
  channels = cancelling_owed l fit events legal careful;
  selectors = λ s i valid shut. by_closer s i valid ((state_after events).closer s) refl
      (shut_closer l events legal s shut);
  turns = (legal-sound l events legal).begun_turn;
  not_entered = (legal-sound l events legal).begun_open;
  modes = λ c registered. subst (λ (m : ChanNo). ((state_after events).chan m.0).blocking ≡ false) registered.of_channel
      ((keys_stand l fit events legal careful).unblocked registered.selector registered.index registered.in_set);
}
  where
    by_closer : (s i : ℕ) → is_valid ((state_after events).key s i) ≡ true → (o : Option CallerNo)
        → (state_after events).closer s ≡ o → is_some ((state_after events).closer s) ≡ true
        → OwesClearing events s i
    by_closer s i valid None none some =
        let clash : false ≡ true = sym (ap is_some none) ∙ some in
        absurd cc
    by_closer s i valid (Some n) closer some = record {
      closer = n;
      is_closer = closer;
      owing = or_right (not ((state_after events).entered s))
          (owes (clearing_duty s i) (since_entered s (mine n events)))
          (clearing_owed l fit events legal careful s i n closer (valid_coming events s i valid));
    }
