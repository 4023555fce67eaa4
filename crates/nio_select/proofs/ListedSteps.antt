-- The laws of plans about selections that go by the selector's list, over the calls on a pass.
use Rattle.std.proofs.Common.{◌≡◌, Ok, Some, List, ◌∷◌, ◌++◌, IsTrue, ap, sym, ◌∙◌, subst, append_assoc}
use Rattle.std.specs.List.{All}
use Rattle.nio_base.specs.declared.limits.Limits.{Limits}
use Rattle.nio_history.proofs.Stays.{facts_are_permanent}
use Rattle.nio_history.specs.Histories.{state_after, mine, event_of, IsLegal}
use Rattle.nio_history.specs.Permanent.{list_had_by, selector_made}
use Rattle.nio_history.specs.Sets.{was_published, was_cancelled, was_removed, is_valid_key}
use Rattle.nio_history.specs.declared.act.Act.TheVariants.{LookKeys}
use Rattle.nio_history.specs.declared.event.Event.{Event}
use Rattle.nio_steps.specs.ListLaws.{CancelledListedKeysGo, CancelledListedKeysGoAtEnd, ValidKeysAreListed}
use Rattle.nio_steps.specs.SelectCalls.{Begins, Tells, done}
use Rattle.nio_history.specs.Conditions.{IsSelector}
use Rattle.nio_select.proofs.GoneOn.{done_in}
use Rattle.nio_select.specs.Asked.{AreBelow}
use Rattle.nio_select.specs.Laws.{CancelledListedKeysAreGone, CancelledListedKeysAreGoneAtEnd, ListsAreKept}
use Rattle.nio_select.specs.Laws.{ValidListedKeysAreAsked}

pub listed_keys_are_gone : CancelledListedKeysGo → CancelledListedKeysAreGone
listed_keys_are_gone law old new me s mode list selection i serial knows call published cancelled below =
    let clause = call.acts.history in
    let later : List Event = clause.goes_on.0 in
    let parts : old.seen ++ later ≡ new.seen = clause.goes_on.1 in
    let begins : Begins s mode (Some list) (mine me later) (Ok selection) =
    subst (λ acts. Begins s mode (Some list) acts (Ok selection)) (done_in me old new later parts) call.shape in
    subst (λ events. IsTrue (was_removed ((state_after events).key s.0 i) serial)
    × All (λ entry. ¬ ((entry.index ≡ i) × (entry.serial ≡ serial))) selection.looked) parts
    (law old.limits me old.seen later s mode list selection i serial
    (subst (IsLegal old.limits) (sym parts) clause.legal) knows begins published cancelled below)

pub listed_keys_are_asked : ValidKeysAreListed → ValidListedKeysAreAsked
listed_keys_are_asked law old new me s mode list selection i serial knows call published valid below =
    let clause = call.acts.history in
    let later : List Event = clause.goes_on.0 in
    let parts : old.seen ++ later ≡ new.seen = clause.goes_on.1 in
    law old.limits me old.seen later s mode list selection i serial
    (subst (IsLegal old.limits) (sym parts) clause.legal) knows
    (subst (λ acts. Begins s mode (Some list) acts (Ok selection)) (done_in me old new later parts) call.shape) published
    (subst (λ events. IsTrue (is_valid_key ((state_after events).key s.0 i) serial)) (sym parts) valid) below

pub listed_keys_are_gone_at_end : CancelledListedKeysGoAtEnd → CancelledListedKeysAreGoneAtEnd
listed_keys_are_gone_at_end law old new me selection poll answer mark i serial past listed selects knows call finds
    published cancelled below =
    let s = selection.selector in
    let looked = finds.after.0 in
    let e = event_of me (LookKeys s mark) in
    let in_call = looked ++ e ∷ finds.later in
    let whole : old.seen ++ in_call ≡ new.seen
    = sym (append_assoc old.seen looked (e ∷ finds.later))
    ∙ (ap (λ events. events ++ e ∷ finds.later) finds.after.1 ∙ sym finds.parts) in
    let legal : IsLegal old.limits (old.seen ++ in_call) = subst (IsLegal old.limits)
    (sym whole) call.acts.history.legal in
    let run = subst (λ acts. Tells selection poll acts (done answer)) (done_in me old new in_call whole) call.shape in
    subst (λ events. IsTrue (was_removed ((state_after events).key s.0 i) serial)) whole
    (law old.limits me old.seen looked finds.later selection poll answer mark i serial legal selects.begun listed knows
    run
    (subst (λ events. IsTrue (was_published ((state_after events).key s.0 i) serial)) (sym finds.after.1) published)
    (subst (λ events. IsTrue (was_cancelled ((state_after events).key s.0 i) serial)) (sym finds.after.1) cancelled)
    below)

pub lists_are_kept : ListsAreKept
lists_are_kept old new me list has same more legal = record {
  lister = record {
    selector = record {
      inside = subst (λ (l : Limits). IsSelector l list.selector) (sym same) has.lister.selector.inside;
      made = facts_are_permanent new.limits old.seen new.seen more legal (selector_made list.selector.0)
          has.lister.selector.made;
    };
    had = facts_are_permanent new.limits old.seen new.seen more legal (list_had_by list.selector me) has.lister.had;
  };
  below = subst (λ (l : Limits). AreBelow l.keys list.keys) (sym same) has.below;
}
