-- What is left in orderly histories: what is owed, and what is left once a closing has answered.
use Rattle.std.proofs.Common.{◌≡◌, ℕ, ◌==◌, Bool, true, false, ◌&&◌, ◌||◌, if◌then◌else◌, Some, None, List, [], ◌∷◌}
use Rattle.std.proofs.Common.{◌++◌, refl, ap, sym, ◌∙◌, subst, append_assoc, eq-eqb, ◌⊎◌, inl, inr}
use Rattle.std.proofs.lemmas.Bool.{and_from, false_from_ne_true}
use Rattle.nio_base.specs.declared.limits.Limits.{Limits}
use Rattle.nio_base.specs.declared.numbers.ChanId.{ChanId}
use Rattle.nio_base.specs.declared.numbers.SelNo.{SelNo}
use Rattle.nio_history.proofs.LastsOnceSound.{permanent_stands}
use Rattle.nio_history.proofs.Stays.{beginnings_are_legal}
use Rattle.nio_history.specs.Acts.{takes_close}
use Rattle.nio_history.specs.Conditions.{is_closer, is_held_by}
use Rattle.nio_history.specs.Histories.{state_after, mine, event_of, IsLegal}
use Rattle.nio_history.specs.OwnEvents.{has, since_first, since_entered, enters}
use Rattle.nio_history.specs.Permanent.{selector_closed_by}
use Rattle.nio_history.specs.Sets.{is_valid}
use Rattle.nio_history.specs.declared.act.Act.{Act}
use Rattle.nio_history.specs.declared.act.Act.TheVariants.{CloseBit, Enter}
use Rattle.nio_history.specs.declared.found.Chan.{Chan}
use Rattle.nio_orderly.proofs.ActLists.{owes-settled}
use Rattle.nio_orderly.proofs.AfterClosing.{only_publishers_owe, closed_selectors_have_no_key, publisher_settled}
use Rattle.nio_orderly.proofs.AfterClosing.{settled_loses_no_key}
use Rattle.nio_orderly.proofs.CallLists.{whole_is_orderly, beginnings_are_orderly}
use Rattle.nio_orderly.proofs.ClosingsKept.{closing-always}
use Rattle.nio_orderly.proofs.Kept.{EnterKept}
use Rattle.nio_orderly.proofs.ListWords.{InFirst, InSecond, split_at, no_such_act, has-second, since_first-parts}
use Rattle.nio_orderly.proofs.OrderlyCare.{table_call_is_kept, made_is_kept, orderly_is_careful, whole_is_settled}
use Rattle.nio_orderly.proofs.OrderlyCare.{Opened, first_opened, IsEnter, is_enter, enter_settled}
use Rattle.nio_orderly.proofs.Owed.{nothing_is_lost}
use Rattle.nio_orderly.specs.Orderly.{IsOrderly}
use Rattle.nio_orderly.specs.OrderlyCare.{OrderlyOwes, WholeLosesNoKey, CloseChannelCloses, FinishCloses}
use Rattle.nio_orderly.specs.OrderlyCare.{AfterCloseChannel, NoKeyAfterCloseChannel, NoKeyAfterFinish, NoKeyAfterClose}
use Rattle.nio_orderly.specs.Owed.{owes, closing_duty, clearing_duty, key_of}
use Rattle.nio_steps.proofs.OwnActs.{Cut, cut_at}
use Rattle.nio_steps.proofs.Walks.{always_weaker, always_any, always_run}
use Rattle.nio_steps.specs.ChannelCalls.{cancel_keys, close_channel_plan}
use Rattle.nio_steps.specs.Names.{channel_of}
use Rattle.nio_steps.specs.Runs.{Completes}
use Rattle.nio_steps.specs.SelectCalls.{closed, try_finish_plan, ShutReply, closing, already_closed, ClosesRest}
use Rattle.nio_steps.specs.TableCalls.{close_channel, try_finish}

pub orderly_owes : OrderlyOwes
orderly_owes l events fit legal orderly = nothing_is_lost l events fit legal (orderly_is_careful l events orderly)

pub whole_loses_no_key : WholeLosesNoKey
whole_loses_no_key l events fit legal whole =
    settled_loses_no_key l events fit legal (orderly_is_careful l events (whole_is_orderly l events whole))
    (λ n. whole_is_settled l events n whole)

-- ---- closing a channel

-- a `close_channel` that answers true closed the channel, and cancelled its keys since
record HasClosing (c : ChanId) (acts : List Act) : Type 0 where
  before : List Act
  from : Chan
  found : Chan
  since : List Act
  parts : acts ≡ before ++ CloseBit c.number from found ∷ since
  serial : from.serial ≡ c.serial
  takes : takes_close from found ≡ true

has_closing : (l : Limits) (c : ChanId) (acts : List Act) → Completes (close_channel_plan l c) acts true
    → HasClosing c acts
has_closing l c acts run =
    always_run (λ xs answer. answer ≡ true → HasClosing c xs) (close_channel_plan l c) acts true
    (closing-always l c (λ xs answer. answer ≡ true → HasClosing c xs) (λ xs before is. absurd (cc is))
    (λ xs from found before serial takes.
    always_weaker (λ _ _. Unit {0})
    (λ more answer. answer ≡ true → HasClosing c (xs ++ CloseBit c.number from found ∷ more)) (cancel_keys l c)
    (λ more answer any is. record {
      before = xs;
      from = from;
      found = found;
      since = more;
      parts = refl;
      serial = serial;
      takes = takes;
    }) (always_any (cancel_keys l c)))) run refl

pub close_channel_closes : CloseChannelCloses
close_channel_closes l n c events own acts did run = record {
  before = own ++ closing.before;
  act = CloseBit c.number closing.from closing.found;
  since = closing.since;
  did = did ∙ (ap (λ xs. own ++ xs) closing.parts
      ∙ sym (append_assoc own closing.before (CloseBit c.number closing.from closing.found ∷ closing.since)));
  closed = and_from ((c.number.0 == c.number.0) && (closing.from.serial == c.serial))
      (takes_close closing.from closing.found)
      (and_from (c.number.0 == c.number.0) (closing.from.serial == c.serial) (eq-eqb c.number.0 c.number.0 refl)
      (eq-eqb closing.from.serial c.serial closing.serial)) closing.takes;
  settled = λ s below k. subst (λ (q : ℕ). owes (closing_duty (channel_of c.number q) s k) closing.since ≡ false)
      closing.serial
      ((table_call_is_kept l (close_channel c) true acts run).closes closing.before c.number closing.from closing.found
      closing.since closing.parts closing.takes s k below);
}
  where
    closing : HasClosing c acts
    closing = has_closing l c acts run

pub after_close_channel : AfterCloseChannel
after_close_channel l n c before after own acts fit goes_on legal orderly did run =
    only_publishers_owe l n c before after fit goes_on legal (orderly_is_careful l after orderly)
    (close_channel_closes l n c before own acts did run)

pub no_key_after_close_channel : NoKeyAfterCloseChannel
no_key_after_close_channel l n c before after own acts fit goes_on legal whole did run s i of_channel =
    false_from_ne_true (is_valid ((state_after after).key s i)) (λ valid.
    publisher_settled l after c.number.0 s (key_of (state_after after) s i) fit legal
    (λ m. whole_is_settled l after m whole)
    (after_close_channel l n c before after own acts fit goes_on legal (whole_is_orderly l after whole) did run s i
    valid of_channel))

-- ---- finishing the closing of a selector

record BeginsClearing (s : SelNo) (acts : List Act) : Type 0 where
  later : List Act
  parts : acts ≡ Enter s None ∷ later

begins_clearing : (s : SelNo) (acts : List Act) → Completes (try_finish_plan s) acts closed → BeginsClearing s acts
unfolding try_finish_plan
begins_clearing s [] run = absurd (cc run)
begins_clearing s (Enter s' None ∷ acts) run =
    let same : s' ≡ s = cc run.0 in
    record { later = acts; parts = ap (λ (t : SelNo). Enter t None ∷ acts) same }
begins_clearing s (Enter s' (Some n) ∷ []) run = absurd (cc run.1)
begins_clearing s (Enter s' (Some n) ∷ act ∷ acts) run = absurd run.1
begins_clearing s (_ ∷ acts) run = absurd (cc run.0)

-- a clearing out that was begun before the selector is entered again is settled
settled_before : (s : SelNo) (since acts later : List Act) → EnterKept s (since ++ Enter s None ∷ later) → (i : ℕ)
    → owes (clearing_duty s.0 i) since ≡ false
settled_before s since acts later kept i =
    by_part (split_at kept.clearing kept.rest since (Enter s None) later (sym kept.parts))
  where
    by_part : InFirst kept.clearing kept.rest since (Enter s None) later
        ⊎ InSecond kept.clearing kept.rest since (Enter s None) later → owes (clearing_duty s.0 i) since ≡ false
    by_part (inl there) =
        absurd (no_such_act (enters s.0) since (Enter s None) there.rest
        (ap (has (enters s.0)) (sym there.parts) ∙ kept.once) (eq-eqb s.0 s.0 refl))
    by_part (inr there) =
        ap (owes (clearing_duty s.0 i)) there.before_is
        ∙ owes-settled (clearing_duty s.0 i) kept.clearing there.start (kept.settled i)

pub finish_closes : FinishCloses
finish_closes l n s events own acts legal orderly did run = record {
  closer = closer_now;
  entered = ap (has (enters s.0)) did_so
      ∙ has-second (enters s.0) own (Enter s None ∷ begins.later)
      (ap (λ b. b || has (enters s.0) begins.later) (eq-eqb s.0 s.0 refl));
  settled = λ i. ap (λ acts'. owes (clearing_duty s.0 i) (since_entered s.0 acts')) did_so
      ∙ (ap (owes (clearing_duty s.0 i)) (since_first-parts (enters s.0) own (Enter s None ∷ begins.later))
      ∙ by_test i (has (enters s.0) own) refl);
}
  where
    begins : BeginsClearing s acts
    begins = begins_clearing s acts run

    did_so : mine n events ≡ own ++ Enter s None ∷ begins.later
    did_so = did ∙ ap (λ xs. own ++ xs) begins.parts

    cut : Cut n events own (Enter s None) begins.later
    cut = cut_at n events own (Enter s None) begins.later did_so

    closer_now : is_closer (state_after events) n s ≡ true
    closer_now = subst (λ evs. is_held_by n ((state_after evs).closer s.0) ≡ true) (sym cut.parts)
        (permanent_stands l cut.past (event_of n (Enter s None) ∷ cut.later) (subst (IsLegal l) cut.parts legal)
        (selector_closed_by s n)
        (legal.steps cut.past (event_of n (Enter s None)) cut.later cut.parts).condition.1)

    by_test : (i : ℕ) (b : Bool) → has (enters s.0) own ≡ b
        → owes (clearing_duty s.0 i)
        (if b then since_first (enters s.0) own ++ Enter s None ∷ begins.later
        else since_first (enters s.0) (Enter s None ∷ begins.later)) ≡ false
    by_test i false none =
        ap (λ b. owes (clearing_duty s.0 i) (if b then begins.later else since_first (enters s.0) begins.later))
        (eq-eqb s.0 s.0 refl)
        ∙ enter_settled s begins.later
        ((table_call_is_kept l (try_finish s) closed acts run).enters [] s begins.later begins.parts) i
    by_test i true entered =
        owes-settled (clearing_duty s.0 i) since (Enter s None ∷ begins.later)
        (settled_before s since acts (begins.later ++ more) kept i)
      where
        since : List Act
        since = since_first (enters s.0) own

        more : List Act
        more = (orderly n).later

        first : Opened (enters s.0) own
        first = first_opened (enters s.0) own entered

        its : IsEnter s.0 first.act
        its = is_enter s.0 first.act first.opening

        entered_it : first.act ≡ Enter s None
        entered_it = its.is ∙ ap (λ (t : SelNo). Enter t None) same_selector
          where
            same_selector : its.selector ≡ s
            same_selector = ap (λ (k : ℕ). record { 0 = k }) its.same

        parts : mine n events ++ more ≡ first.before ++ Enter s None ∷ (since ++ Enter s None ∷ (begins.later ++ more))
        parts =
            ap (λ xs. xs ++ more) did_so
            ∙ (append_assoc own (Enter s None ∷ begins.later) more
            ∙ (ap (λ xs. xs ++ Enter s None ∷ (begins.later ++ more))
            (first.parts ∙ ap (λ act. first.before ++ act ∷ since) entered_it)
            ∙ append_assoc first.before (Enter s None ∷ since) (Enter s None ∷ (begins.later ++ more))))

        kept : EnterKept s (since ++ Enter s None ∷ (begins.later ++ more))
        kept = (made_is_kept l (mine n events ++ more) (orderly n).whole).enters first.before s
            (since ++ Enter s None ∷ (begins.later ++ more)) parts

pub no_key_after_finish : NoKeyAfterFinish
no_key_after_finish l n s before after own acts fit goes_on legal orderly did run =
    closed_selectors_have_no_key l n s before after fit goes_on legal (orderly_is_careful l after orderly)
    (finish_closes l n s before own acts (beginnings_are_legal l before after goes_on legal)
    (beginnings_are_orderly l before goes_on.0 (subst (IsOrderly l) (sym goes_on.1) orderly)) did run)

pub no_key_after_close : NoKeyAfterClose
no_key_after_close l n s before after own acts fit goes_on legal orderly did both =
    by_reply both.middle both.runs_second
  where
    by_reply : (middle : ShutReply) → ClosesRest s middle both.second true → (i : ℕ)
        → is_valid ((state_after after).key s.0 i) ≡ false
    by_reply already_closed second = absurd (cc second.0)
    by_reply closing second =
        let last = second.1.last in
        let parts = did ∙ (ap (λ xs. own ++ xs) both.parts ∙ (ap (λ xs. own ++ (both.first ++ xs)) second.1.parts
        ∙ (ap (λ xs. own ++ xs) (sym (append_assoc both.first second.1.before last.acts))
        ∙ sym (append_assoc own (both.first ++ second.1.before) last.acts)))) in
        no_key_after_finish l n s before after (own ++ (both.first ++ second.1.before)) last.acts fit goes_on legal
        orderly parts
        (subst (Completes (try_finish_plan s) last.acts) second.1.answers second.1.made)
