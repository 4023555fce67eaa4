-- Where an own act stands in a history.
use Rattle.std.proofs.Common.{◌≡◌, ℕ, Bool, true, false, cond, List, [], ◌∷◌, ◌++◌, map, refl, ap, sym, ◌∙◌, eqb-true}
use Rattle.std.proofs.Common.{eq-eqb}
use Rattle.std.proofs.lemmas.List.{append-nil}
use Rattle.std.specs.List.{filter, Contains}
use Rattle.nio_base.specs.declared.numbers.CallerNo.{CallerNo}
use Rattle.nio_history.proofs.Legal.{not_empty}
use Rattle.nio_history.specs.Histories.{is_by, mine, event_of}
use Rattle.nio_history.specs.declared.act.Act.{Act}
use Rattle.nio_history.specs.declared.event.Event.{Event}
use Rattle.nio_steps.proofs.Lists.{parted}

pub mine-own_first : (n : CallerNo) (e : Event) (events : List Event) → is_by n e ≡ true
    → mine n (e ∷ events) ≡ e.act ∷ mine n events
mine-own_first n e events by =
    ap (λ b. map (λ x. x.act) (cond b (e ∷ filter (is_by n) events) (filter (is_by n) events))) by

mine-other_first : (n : CallerNo) (e : Event) (events : List Event) → is_by n e ≡ false
    → mine n (e ∷ events) ≡ mine n events
mine-other_first n e events by =
    ap (λ b. map (λ x. x.act) (cond b (e ∷ filter (is_by n) events) (filter (is_by n) events))) by

-- the history is cut at the event of that act
pub record Cut (n : CallerNo) (events : List Event) (xs : List Act) (act : Act) (ys : List Act) : Type 0 where
  pub past : List Event
  pub later : List Event
  pub parts : events ≡ past ++ event_of n act ∷ later
  pub mine_past : mine n past ≡ xs
  pub mine_later : mine n later ≡ ys

pub cut_at : (n : CallerNo) (events : List Event) (xs : List Act) (act : Act) (ys : List Act)
    → mine n events ≡ xs ++ act ∷ ys → Cut n events xs act ys
cut_at n [] xs act ys own = absurd (not_empty xs act ys own)
cut_at n (e ∷ events) xs act ys own = by_test (is_by n e) refl xs own (λ zs rest. cut_at n events zs act ys rest)
  where
    by_test : (b : Bool) → is_by n e ≡ b → (zs : List Act) → mine n (e ∷ events) ≡ zs ++ act ∷ ys
        → ((zs' : List Act) → mine n events ≡ zs' ++ act ∷ ys → Cut n events zs' act ys) → Cut n (e ∷ events) zs act ys
    by_test true by [] own' rec =
        let both : e.act ∷ mine n events ≡ act ∷ ys = sym (mine-own_first n e events by) ∙ own' in
        let same_caller : e.caller ≡ n = ap (λ (k : ℕ). record { 0 = k }) (eqb-true e.caller.0 n.0 by) in
        let same_act : e.act ≡ act = cc both in
        let same : e ≡ event_of n act = ap (λ (m : CallerNo). event_of m e.act) same_caller
        ∙ ap (event_of n) same_act in
        record { past = []; later = events; parts = ap (λ x. x ∷ events) same; mine_past = refl; mine_later = cc both }
    by_test true by (z ∷ zs) own' rec =
        let both : e.act ∷ mine n events ≡ z ∷ (zs ++ act ∷ ys) = sym (mine-own_first n e events by) ∙ own' in
        let cut = rec zs (cc both) in
        let first : e.act ≡ z = cc both in
        record {
          past = e ∷ cut.past;
          later = cut.later;
          parts = ap (λ rest. e ∷ rest) cut.parts;
          mine_past = mine-own_first n e cut.past by
              ∙ (ap (λ x. x ∷ mine n cut.past) first ∙ ap (λ rest. z ∷ rest) cut.mine_past);
          mine_later = cut.mine_later;
        }
    by_test false by zs own' rec =
        let cut = rec zs (sym (mine-other_first n e events by) ∙ own') in
        record {
          past = e ∷ cut.past;
          later = cut.later;
          parts = ap (λ rest. e ∷ rest) cut.parts;
          mine_past = mine-other_first n e cut.past by ∙ cut.mine_past;
          mine_later = cut.mine_later;
        }

-- the history is cut at an event of that act
pub record At (n : CallerNo) (events : List Event) (act : Act) : Type 0 where
  pub past : List Event
  pub later : List Event
  pub parts : events ≡ past ++ event_of n act ∷ later

pub at_own : (n : CallerNo) (events : List Event) (act : Act) → Contains (mine n events) act → At n events act
at_own n events act there =
    let found = parted (mine n events) act there in
    let cut = cut_at n events found.past act found.later found.parts in
    record { past = cut.past; later = cut.later; parts = cut.parts }

-- the history is cut where what the caller did is cut
pub record PartedOwn (n : CallerNo) (events : List Event) (xs ys : List Act) : Type 0 where
  pub past : List Event
  pub later : List Event
  pub parts : events ≡ past ++ later
  pub mine_past : mine n past ≡ xs
  pub mine_later : mine n later ≡ ys

pub part_at : (n : CallerNo) (events : List Event) (xs ys : List Act) → mine n events ≡ xs ++ ys
    → PartedOwn n events xs ys
part_at n events xs [] own = record {
  past = events;
  later = [];
  parts = sym (append-nil events);
  mine_past = own ∙ append-nil xs;
  mine_later = refl;
}
part_at n events xs (y ∷ ys) own =
    let cut = cut_at n events xs y ys own in
    record {
      past = cut.past;
      later = event_of n y ∷ cut.later;
      parts = cut.parts;
      mine_past = cut.mine_past;
      mine_later = mine-own_first n (event_of n y) cut.later (eq-eqb n.0 n.0 refl)
          ∙ ap (λ acts. y ∷ acts) cut.mine_later;
    }
