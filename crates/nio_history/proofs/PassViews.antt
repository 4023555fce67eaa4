-- What one call did with a pass, and then another; and what a pass has after a call, as before it.
use Rattle.std.proofs.Common.{◌≡◌, true, IsTrue, List, [], ◌++◌, map, length, drop, refl, ap, sym, ◌∙◌, subst}
use Rattle.std.proofs.Common.{append_assoc}
use Rattle.std.proofs.lemmas.List.{append-nil, map-append, drop_at}
use Rattle.nio_base.specs.declared.limits.Limits.{Limits}
use Rattle.nio_base.specs.declared.numbers.CallerNo.{CallerNo}
use Rattle.nio_base.specs.declared.numbers.ChanId.{ChanId}
use Rattle.nio_base.specs.declared.numbers.KeyNo.{KeyNo}
use Rattle.nio_base.specs.declared.numbers.SelNo.{SelNo}
use Rattle.nio_history.proofs.Clauses.{clause_nothing, clause_then}
use Rattle.nio_history.proofs.Stays.{facts_are_permanent}
use Rattle.nio_history.specs.Conditions.{IsSelector, IsChannel, IsKey}
use Rattle.nio_history.specs.Histories.{mine, event_of, HistoryClause, IsLegal}
use Rattle.nio_history.specs.Permanent.{PermanentFact, selector_made, channel_opened, key_published, stands}
use Rattle.nio_history.specs.PassViews.{PassView, Holds, known, done_between, ActsClause, HasSelector, HasChannel}
use Rattle.nio_history.specs.PassViews.{HasKey}
use Rattle.nio_history.specs.declared.act.Act.{Act}

-- these acts are what was done
pub done-is : (me : CallerNo) (acts : List Act) (old new : PassView) → ActsClause me acts old new
    → done_between me old new ≡ acts
done-is me acts old new clause =
    ap (drop (length (mine me old.seen))) clause.history.own
    ∙ drop_at (mine me old.seen) acts (length (mine me old.seen)) refl

-- nothing was done
pub acts_nothing : (me : CallerNo) (pass : PassView) → IsLegal pass.limits pass.seen → ActsClause me [] pass pass
acts_nothing me pass legal = record {
  history = clause_nothing pass.limits (Holds pass) me pass.seen legal;
  limits = refl;
  held = refl;
  only = λ alone. (alone, sym (append-nil pass.seen));
}

pub acts_then : (me : CallerNo) (first second : List Act) (v0 v1 v2 : PassView) → ActsClause me first v0 v1
    → ActsClause me second v1 v2 → ActsClause me (first ++ second) v0 v2
acts_then me first second v0 v1 v2 p q = record {
  history = clause_then v0.limits (Holds v0) me first second v0.seen v1.seen v2.seen p.history
      (subst (λ held. HistoryClause v0.limits (λ n. IsTrue (held n)) me second v1.seen v2.seen) p.held
      (subst (λ (l : Limits). HistoryClause l (Holds v1) me second v1.seen v2.seen) p.limits q.history));
  limits = q.limits ∙ p.limits;
  held = q.held ∙ p.held;
  only = λ alone.
      let here = p.only alone in
      let there = q.only here.0 in (
        there.0,
        there.1 ∙ (ap (λ events. events ++ map (event_of me) second) here.1
            ∙ (append_assoc v0.seen (map (event_of me) first) (map (event_of me) second)
            ∙ ap (λ events. v0.seen ++ events) (sym (map-append (event_of me) first second)))),
      );
}

-- ---- what is passed to a call may be passed to a later one

-- what is permanent stands after the acts of a call
pub lasts_over : {me : CallerNo} {acts : List Act} {old new : PassView} (f : PermanentFact) → ActsClause me acts old new
    → stands f (known old) ≡ true → stands f (known new) ≡ true
lasts_over {old = old} {new = new} f clause here =
    facts_are_permanent old.limits old.seen new.seen clause.history.goes_on clause.history.legal f here

pub selector_after : {me : CallerNo} {acts : List Act} {old new : PassView} {s : SelNo} → ActsClause me acts old new
    → HasSelector old s → HasSelector new s
selector_after {s = s} clause has = record {
  inside = subst (λ (l : Limits). IsSelector l s) (sym clause.limits) has.inside;
  made = lasts_over (selector_made s.0) clause has.made;
}

pub channel_after : {me : CallerNo} {acts : List Act} {old new : PassView} {c : ChanId} → ActsClause me acts old new
    → HasChannel old c → HasChannel new c
channel_after {c = c} clause has = record {
  inside = subst (λ (l : Limits). IsChannel l c.number) (sym clause.limits) has.inside;
  opened = lasts_over (channel_opened c.number.0 c.serial) clause has.opened;
}

pub key_after : {me : CallerNo} {acts : List Act} {old new : PassView} {k : KeyNo} → ActsClause me acts old new
    → HasKey old k → HasKey new k
key_after {k = k} clause has = record {
  inside = subst (λ (l : Limits). IsKey l k.sel k.index) (sym clause.limits) has.inside;
  published = lasts_over (key_published k.sel.0 k.index k.serial) clause has.published;
}
