-- What a caller has in progress goes to its racer.
use Rattle.std.proofs.Common.{◌≡◌, ◌≢◌, ℕ, ◌+◌, ◌<◌, ◌≤◌, ◌==◌, Bool, true, false, if◌then◌else◌, Option, Some, None}
use Rattle.std.proofs.Common.{option_map, List, [], ◌∷◌, ◌++◌, length, vec_len, IsFalse, refl, sym, ap, ◌∙◌, subst}
use Rattle.std.proofs.Common.{⊎_elim, eqb-true, arith}
use Rattle.std.proofs.Math.Bool.{Bool-set}
use Rattle.std.proofs.Math.Logic.{∥∥₁_elim, ∥∥₁_map}
use Rattle.std.proofs.lemmas.Bool.{cases_lt}
use Rattle.std.proofs.lemmas.List.Elements.{All-push}
use Rattle.std.proofs.lemmas.List.{get_or_past, get_or_push, get_or_append_left, length-append}
use Rattle.nio_base.specs.declared.limits.Limits.{Limits}
use Rattle.nio_base.specs.declared.numbers.CallerNo.{CallerNo}
use Rattle.nio_base.specs.declared.numbers.SelNo.{SelNo}
use Rattle.nio_history.specs.Conditions.{IsCaller, has_pin}
use Rattle.nio_history.specs.Histories.{mine, state_after}
use Rattle.nio_history.specs.declared.act.Act.{Act}
use Rattle.nio_history.specs.declared.event.Event.{Event}
use Rattle.nio_plain.specs.Seq.Selections.{is_caller}
use Rattle.nio_serial.specs.Documented.{Progress, Selecting, nothing_yet}
use Rattle.nio_serial.specs.Lines.{if_own}
use Rattle.nio_sole.specs.Made.{HasMade}
use Rattle.nio_sole.proofs.Desks.{none_made}
use Rattle.nio_sole.specs.Stands.{slot, selecting_of, group_of, pipes_of, progress_of, AreMade, HasPlaces, Stands}
use Rattle.nio_sole.specs.declared.desk.Begun.{Begun}
use Rattle.nio_sole.specs.declared.desk.Desk.{Desk}
use Rattle.nio_sole.specs.declared.desk.Shut.{Shut}
use Rattle.nio_words.specs.Passes.{Holds, IsPassOf, limits_of, seen}
use Rattle.nio_words.specs.Views.{view}
use Rattle.nio_words.specs.declared.words.Words.{Words}
use Rattle.nio_race.specs.Race.{own_progress, own_selection_of}
use Rattle.nio_race.specs.SetOff.{own_begun, other_begun, own_shut, other_shut, AddsRacer, AreRacers, AreSetOffWithout}
use Rattle.nio_race.specs.SetOff.{IsSetOffWithout, MovedBelow, TakesOver}
use Rattle.nio_race.specs.declared.racer.Racer.{Racer}

-- ---- one place

own-begun-part : (n : CallerNo) (o : Option Begun)
    → option_map selecting_of (own_begun n o) ≡ own_selection_of n (option_map selecting_of o)
own-begun-part n None = refl
own-begun-part n (Some x) = by_test (x.caller.0 == n.0)
  where
    by_test : (b : Bool)
        → option_map selecting_of (if b then Some x else None) ≡ (if b then Some (selecting_of x) else None)
    by_test true = refl
    by_test false = refl

other_number : (a n m : CallerNo) → n ≢ m → (a.0 == m.0) ≡ true → (a.0 == n.0) ≡ false
other_number a n m other by = by_test (a.0 == n.0) refl
  where
    by_test : (b : Bool) → (a.0 == n.0) ≡ b → b ≡ false
    by_test false is = refl
    by_test true is =
        absurd (other
        (ap {B = CallerNo} (λ (k : ℕ). record { 0 = k }) (sym (eqb-true a.0 n.0 is) ∙ eqb-true a.0 m.0 by)))

others-begun-part : (n m : CallerNo) (o : Option Begun) → n ≢ m
    → own_selection_of n (option_map selecting_of (other_begun m o)) ≡ own_selection_of n (option_map selecting_of o)
others-begun-part n m None other = refl
others-begun-part n m (Some x) other = by_test (x.caller.0 == m.0) refl
  where
    by_test : (b : Bool) → (x.caller.0 == m.0) ≡ b
        → own_selection_of n (option_map selecting_of (if b then None else Some x)) ≡ own_selection_of n
        (Some (selecting_of x))
    by_test true is = sym (ap (λ b. if b then Some (selecting_of x) else None) (other_number x.caller n m other is))
    by_test false is = refl

abbrev pub own_closing : CallerNo → Option CallerNo → Option CallerNo
own_closing n o = if is_caller n o then o else None

own-shut-part : (n : CallerNo) (o : Option Shut)
    → option_map (λ x. x.caller) (own_shut n o) ≡ own_closing n (option_map (λ x. x.caller) o)
own-shut-part n None = refl
own-shut-part n (Some x) = by_test (x.caller.0 == n.0)
  where
    by_test : (b : Bool) → option_map (λ x. x.caller) (if b then Some x else None) ≡ (if b then Some x.caller else None)
    by_test true = refl
    by_test false = refl

others-shut-part : (n m : CallerNo) (o : Option Shut) → n ≢ m
    → own_closing n (option_map (λ x. x.caller) (other_shut m o)) ≡ own_closing n (option_map (λ x. x.caller) o)
others-shut-part n m None other = refl
others-shut-part n m (Some x) other = by_test (x.caller.0 == m.0) refl
  where
    by_test : (b : Bool) → (x.caller.0 == m.0) ≡ b
        → own_closing n (option_map (λ x. x.caller) (if b then None else Some x)) ≡ own_closing n (Some x.caller)
    by_test true is = sym (ap (λ b. if b then Some x.caller else None) (other_number x.caller n m other is))
    by_test false is = refl

-- ---- all places

module _ {A B : Type 0} (own other : Option A → Option A) (count : ℕ) (from from' to' : List (Option A))
    (moved : MovedBelow own other count from from' to')
    (few : length from ≡ count) (view_of : Option A → B) (part : B → B) where
  -- what was moved, where the view of a caller's own is its part of the view
  pub all_moved : ((o : Option A) → view_of (own o) ≡ part (view_of o)) → view_of None ≡ part (view_of None) → (s : ℕ)
      → view_of (slot to' s) ≡ part (view_of (slot from s))
  all_moved is none s = ⊎_elim
      (λ (below : s < count). ap view_of (moved.moved s below) ∙ is (slot from s))
      (λ (past : count ≤ s). ap view_of (moved.unmoved s past)
      ∙ (none ∙ ap (λ o. part (view_of o))
      (sym (get_or_past from s None (subst (λ (k : ℕ). k ≤ s) (sym few) past)))))
      (cases_lt s count)

  -- what was left
  pub all_left : ((o : Option A) → part (view_of (other o)) ≡ part (view_of o)) → (s : ℕ)
      → part (view_of (slot from' s)) ≡ part (view_of (slot from s))
  all_left is s = ⊎_elim
      (λ (below : s < count). ap (λ o. part (view_of o)) (moved.left s below) ∙ is (slot from s))
      (λ (past : count ≤ s). ap (λ o. part (view_of o)) (moved.unleft s past))
      (cases_lt s count)

-- ---- the parts of two desks

module _ (w : Words) (d d' r : Desk) (n : CallerNo) (places : HasPlaces w d)
    (begun : MovedBelow (own_begun n) (other_begun n) (limits_of w).selectors d.selections.items d'.selections.items
    r.selections.items)
    (shut : MovedBelow (own_shut n) (other_shut n) (limits_of w).selectors d.closings.items d'.closings.items
    r.closings.items)
    (lens : (vec_len d'.selections ≡ (limits_of w).selectors) × (vec_len r.selections ≡ (limits_of w).selectors)
    × (vec_len d'.closings ≡ (limits_of w).selectors) × (vec_len r.closings ≡ (limits_of w).selectors)) where
  pub moved_progress : r.group ≡ None → r.pipes.items ≡ [] → progress_of r ≡ own_progress n (progress_of d)
  moved_progress no_group no_pipes = λ i. record {
    selection = λ s. all_moved (own_begun n) (other_begun n) (limits_of w).selectors d.selections.items
        d'.selections.items r.selections.items begun (omega (arith, places.selections)) (option_map selecting_of)
        (own_selection_of n) (own-begun-part n) refl s i;
    closing = λ s. all_moved (own_shut n) (other_shut n) (limits_of w).selectors d.closings.items d'.closings.items
        r.closings.items shut (omega (arith, places.closings)) (option_map (λ x. x.caller)) (own_closing n)
        (own-shut-part n) refl s i;
    group = group_of (no_group i);
    pipes = pipes_of (no_pipes i);
  }

  pub left_progress : (m : CallerNo) → m ≢ n → own_progress m (progress_of d') ≡ own_progress m (progress_of d)
  left_progress m other = λ i. record {
    selection = λ s. all_left (own_begun n) (other_begun n) (limits_of w).selectors d.selections.items
        d'.selections.items r.selections.items begun (omega (arith, places.selections)) (option_map selecting_of)
        (own_selection_of m) (λ o. others-begun-part m n o other) s i;
    closing = λ s. all_left (own_shut n) (other_shut n) (limits_of w).selectors d.closings.items d'.closings.items
        r.closings.items shut (omega (arith, places.closings)) (option_map (λ x. x.caller)) (own_closing m)
        (λ o. others-shut-part m n o other) s i;
    group = nothing_yet.group;
    pipes = nothing_yet.pipes;
  }

  from_own : {A : Type 0} (b : Bool) (x y : A) → (if b then Some x else None) ≡ Some y → Some x ≡ Some y
  from_own true x y is = is
  from_own false x y is = absurd cc

  from_other : {A : Type 0} (b : Bool) (x y : A) → (if b then None else Some x) ≡ Some y → Some x ≡ Some y
  from_other true x y is = absurd cc
  from_other false x y is = is

  begun_own : (o : Option Begun) (x : Begun) → own_begun n o ≡ Some x → o ≡ Some x
  begun_own None x is = absurd cc
  begun_own (Some y) x is = from_own (y.caller.0 == n.0) y x is

  begun_other : (o : Option Begun) (x : Begun) → other_begun n o ≡ Some x → o ≡ Some x
  begun_other None x is = absurd cc
  begun_other (Some y) x is = from_other (y.caller.0 == n.0) y x is

  shut_own : (o : Option Shut) (x : Shut) → own_shut n o ≡ Some x → o ≡ Some x
  shut_own None x is = absurd cc
  shut_own (Some y) x is = from_own (y.caller.0 == n.0) y x is

  shut_other : (o : Option Shut) (x : Shut) → other_shut n o ≡ Some x → o ≡ Some x
  shut_other None x is = absurd cc
  shut_other (Some y) x is = from_other (y.caller.0 == n.0) y x is

  nothing_moved : {A B : Type 0} (o : Option A) (x : A) → o ≡ None → o ≡ Some x → B
  nothing_moved o x none is = let clash : None ≡ Some x = sym none ∙ is in absurd cc

  pub moved_places : r.pipes.items ≡ [] → HasPlaces w r
  moved_places no_pipes = record {
    selections = lens.1;
    closings = lens.3;
    selects = λ s x is. ⊎_elim
        (λ (below : s < (limits_of w).selectors). places.selects s x (begun_own _ x (sym (begun.moved s below) ∙ is)))
        (λ (past : (limits_of w).selectors ≤ s). nothing_moved _ x (begun.unmoved s past) is)
        (cases_lt s (limits_of w).selectors);
    closes = λ s x is. ⊎_elim
        (λ (below : s < (limits_of w).selectors). places.closes s x (shut_own _ x (sym (shut.moved s below) ∙ is)))
        (λ (past : (limits_of w).selectors ≤ s). nothing_moved _ x (shut.unmoved s past) is)
        (cases_lt s (limits_of w).selectors);
    pipes = none_made no_pipes;
  }

  pub left_places : AreMade (view w d'.pass) d'.pipes.items → HasPlaces w d'
  left_places made = record {
    selections = lens.0;
    closings = lens.2;
    selects = λ s x is. ⊎_elim
        (λ (below : s < (limits_of w).selectors). places.selects s x (begun_other _ x (sym (begun.left s below) ∙ is)))
        (λ (past : (limits_of w).selectors ≤ s). places.selects s x (sym (begun.unleft s past) ∙ is))
        (cases_lt s (limits_of w).selectors);
    closes = λ s x is. ⊎_elim
        (λ (below : s < (limits_of w).selectors). places.closes s x (shut_other _ x (sym (shut.left s below) ∙ is)))
        (λ (past : (limits_of w).selectors ≤ s). places.closes s x (sym (shut.unleft s past) ∙ is))
        (cases_lt s (limits_of w).selectors);
    pipes = made;
  }

-- ---- what a caller made

own_is_own : (n : CallerNo) (o : Option Selecting) → if_own n (own_selection_of n o) ≡ if_own n o
own_is_own n None = refl
own_is_own n (Some x) = by_test (x.caller.0 == n.0) refl
  where
    by_test : (b : Bool) → (x.caller.0 == n.0) ≡ b → if_own n (if b then Some x else None) ≡ if_own n (Some x)
    by_test true is = refl
    by_test false is = sym (ap (λ b. if b then Some x.selection else None) is)

own_closes : (n : CallerNo) (o : Option CallerNo) → is_caller n (own_closing n o) ≡ is_caller n o
own_closes n None = refl
own_closes n (Some x) = by_test (x.0 == n.0) refl
  where
    by_test : (b : Bool) → (x.0 == n.0) ≡ b → is_caller n (if b then Some x else None) ≡ (x.0 == n.0)
    by_test true is = refl
    by_test false is = sym is

pub own_made : (l : Limits) (acts : List Act) (n : CallerNo) (now : Progress) → HasMade l acts n now
    → HasMade l acts n (own_progress n now)
own_made l acts n now made = record {
  calls = made.calls;
  are = made.are;
  ongoing = record {
    selection = λ s. made.ongoing.selection s ∙ sym (own_is_own n (now.selection s));
    closes = λ s. made.ongoing.closes s ∙ sym (own_closes n (now.closing s));
  };
}

-- ---- the racers, one after the other

-- The desk has still what belongs to the callers from number k on: its pass acts for them, and it has in progress what
-- they had in progress at `go`.
pub record HasLeft (w : Words) (go : List Event) (now : Progress) (d : Desk) (k : ℕ) : Type 0 where
  pub pass : IsPassOf w d.pass
  pub sight : seen d.pass ≡ go
  pub holds : (n : CallerNo) → k ≤ n.0 → n.0 < (limits_of w).callers → Holds d.pass n
  pub places : HasPlaces w d
  pub progress : (n : CallerNo) → k ≤ n.0 → own_progress n (progress_of d) ≡ own_progress n now

-- what stood at `go`: no caller had a call at work, and each made whole calls
pub record StoodAtGo (w : Words) (go : List Event) (now : Progress) : Type 0 where
  pub unpinned : (n : CallerNo) (s : SelNo) (i : ℕ) → IsFalse (has_pin (state_after go) n s i)
  pub made : ∥ ((n : CallerNo) → HasMade (limits_of w) (mine n go) n now) ∥₁

pub stood_at_go : (w : Words) (d : Desk) → Stands w d → StoodAtGo w (seen d.pass) (progress_of d)
stood_at_go w d stands = record {
  unpinned = λ n s i. ∥∥₁_elim stands.between (Bool-set _ _) (λ between. between.at_rest.unused.unpinned s.0 i n.0);
  made = stands.made;
}

pub first_left : (w : Words) (d : Desk) → Stands w d → HasLeft w (seen d.pass) (progress_of d) d 0
first_left w d stands = record {
  pass = (stands.ready (record { 0 = 0 }) (omega (arith, stands.fit.some_callers))).pass;
  sight = refl;
  holds = λ n above below. (stands.ready n below).number;
  places = stands.places;
  progress = λ n above. refl;
}

above_is_other : (n : CallerNo) (k : ℕ) → k + 1 ≤ n.0 → n ≢ record { 0 = k }
above_is_other n k above same = let is : n.0 ≡ k = ap (λ (m : CallerNo). m.0) same in absurd (omega (arith, above, is))

pub next_left : (w : Words) (go : List Event) (now : Progress) (d d' : Desk) (k : ℕ) (r : Racer) → HasLeft w go now d k
    → TakesOver w d d' (record { 0 = k }) r → HasLeft w go now d' (k + 1)
next_left w go now d d' k r left takes = record {
  pass = takes.pass.sees.pass;
  sight = takes.pass.sees.sight ∙ left.sight;
  holds = λ n above below. (takes.pass.numbers n).1
      (left.holds n (omega (arith, above)) below, above_is_other n k above);
  places = takes.places;
  progress = λ n above. takes.others n (above_is_other n k above) ∙ left.progress n (omega (arith, above));
}

pub racer_set_off : (w : Words) (go : List Event) (now : Progress) (d d' : Desk) (k : ℕ) (r : Racer)
    → k < (limits_of w).callers → StoodAtGo w go now → HasLeft w go now d k
    → TakesOver w d d' (record { 0 = k }) r → IsSetOffWithout w go now k r
racer_set_off w go now d d' k r below stood left takes =
    let n : CallerNo = record { 0 = k } in
    let sight : seen r.desk.pass ≡ go = takes.pass.sees.given_sight ∙ left.sight in
    let progress : progress_of r.desk ≡ own_progress n now = takes.own ∙ left.progress n (omega arith) in
    record {
      number = takes.number_is;
      stands = record {
        caller = subst (λ (m : CallerNo). IsCaller (limits_of w) m) (sym takes.number_is) below;
        ready = record {
          pass = takes.pass.sees.given_pass;
          number = (takes.pass.given_number r.number).1 takes.number_is;
        };
        unpinned = λ s i. subst (λ (es : List Event). IsFalse (has_pin (state_after es) r.number s i)) (sym sight)
            (stood.unpinned r.number s i);
        places = takes.own_places;
        made = ∥∥₁_map stood.made
            (λ made. subst
            (λ (m : CallerNo). HasMade (limits_of w) (mine m (seen r.desk.pass)) m (progress_of r.desk))
            (sym takes.number_is)
            (subst (λ (es : List Event). HasMade (limits_of w) (mine n es) n (progress_of r.desk)) (sym sight)
            (subst (λ (p : Progress). HasMade (limits_of w) (mine n go) n p) (sym progress)
            (own_made (limits_of w) (mine n go) n now (made n)))));
      };
      unanswered = takes.unanswered;
      in_memory = takes.in_memory;
      endless = takes.endless;
      sight = sight;
      progress = progress;
    }

pub none_set_off : (w : Words) (go : List Event) (now : Progress) → AreSetOffWithout w go now 0 []
none_set_off w go now = record { count_is = refl; each = λ k r below is. absurd (omega (arith, below)) }

pub one_set_off : (w : Words) (go : List Event) (now : Progress) (k : ℕ) (racers : List Racer) (r : Racer)
    → AreSetOffWithout w go now k racers → IsSetOffWithout w go now k r
    → AreSetOffWithout w go now (k + 1) (racers ++ r ∷ [])
one_set_off w go now k racers r before at = record {
  count_is = length-append racers (r ∷ []) ∙ ap (λ m. m + 1) before.count_is;
  each = λ j x below is. ⊎_elim
      (λ (earlier : j < k). before.each j x earlier
      (sym (get_or_append_left racers (r ∷ []) x j (subst (λ (m : ℕ). j < m) (sym before.count_is) earlier)) ∙ is))
      (λ (last : k ≤ j).
      let same : j ≡ k = omega (arith, below, last) in
      let it : r ≡ x = sym (get_or_push racers r x j (before.count_is ∙ sym same)) ∙ is in
      subst (λ (m : ℕ). IsSetOffWithout w go now m x) (sym same) (subst (IsSetOffWithout w go now k) it at))
      (cases_lt j k);
}

-- what is kept while racers are made
pub record IsSettingOff (w : Words) (first d : Desk) (k : ℕ) (racers : List Racer) : Type 0 where
  pub left : HasLeft w (seen first.pass) (progress_of first) d k
  pub set_off : AreSetOffWithout w (seen first.pass) (progress_of first) k racers
  pub racers_are : AreRacers w racers
  pub pipes : d.pipes ≡ first.pipes

pub begins : (w : Words) (d : Desk) (racers : List Racer) → Stands w d → racers ≡ [] → IsSettingOff w d d 0 racers
begins w d racers stands none = record {
  left = first_left w d stands;
  set_off = subst (AreSetOffWithout w (seen d.pass) (progress_of d) 0) (sym none)
      (none_set_off w (seen d.pass) (progress_of d));
  racers_are = subst (AreRacers w) (sym none) (λ k r below. absurd (omega (arith, below)));
  pipes = refl;
}

pub goes_on : (w : Words) (first d d' : Desk) (k : ℕ) (racers racers' : List Racer) → Stands w first
    → k < (limits_of w).callers → IsSettingOff w first d k racers
    → AddsRacer w d d' (record { 0 = k }) racers racers' → IsSettingOff w first d' (k + 1) racers'
goes_on w first d d' k racers racers' stands below at adds =
    let go = seen first.pass in
    let now = progress_of first in
    record {
      left = next_left w go now d d' k adds.racer at.left adds.takes_over;
      set_off = subst (AreSetOffWithout w go now (k + 1)) (sym adds.added)
          (one_set_off w go now k racers adds.racer at.set_off
          (racer_set_off w go now d d' k adds.racer below (stood_at_go w first stands) at.left adds.takes_over));
      racers_are = subst (AreRacers w) (sym adds.added)
          (All-push (λ (r : Racer). IsPassOf w r.desk.pass) racers adds.racer at.racers_are
          adds.takes_over.pass.sees.given_pass);
      pipes = adds.takes_over.pipes ∙ at.pipes;
    }
