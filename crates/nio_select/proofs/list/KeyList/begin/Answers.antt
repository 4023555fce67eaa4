use Rattle.std.proofs.Common.{ℕ, Option, Ok, Err, Result, List, Some, ap, sym, ◌∙◌, subst}
use Rattle.nio_base.specs.declared.numbers.SelNo.{SelNo}
use Rattle.nio_steps.specs.Calls.{CallClause}
use Rattle.nio_steps.specs.SelectCalls.{Begins, Selection}
use Rattle.nio_steps.specs.declared.looked.LookedKey.{LookedKey}
use Rattle.nio_steps.specs.declared.refusal.BeginError.{BeginError}
use Rattle.nio_words.specs.Views.{view}
use Rattle.nio_select.specs.Asked.{Looked, known_of}
use Rattle.nio_select.specs.Beginning.{begun_with}
use Rattle.nio_select.specs.InHand.{HeldList}
use Rattle.nio_select.specs.InProgress.{IsLister}
use Rattle.nio_select.proofs.Progress.{selects, list_after}
use Rattle.nio_select.proofs.list.KeyList.begin.Goals as goal

pub returns-in-Ok-clause-call : goal.returns-in-Ok-clause-call
returns-in-Ok-clause-call c =
    let answer : Result Selection BeginError = begun_with c.self.inside.selector c.args.mode c.begin.new.asked (Ok c.in-Ok.bound) in
    subst (λ (s : SelNo). CallClause c.args.me (Begins s c.args.mode (Some c.args.self.keys))
    (view c.args.w.now c.args.p.now) (view c.args.w.now c.begin.new.p) answer) (ap (λ v. v.selector) c.self.view_is)
    (subst (λ (k : Option (List LookedKey)). CallClause c.args.me (Begins c.self.inside.selector c.args.mode k)
    (view c.args.w.now c.args.p.now) (view c.args.w.now c.begin.new.p) answer)
    (ap known_of c.set_stamp.ensures ∙ ap (λ (v : HeldList). Some v.keys) c.self.view_is) (c.in-Ok.ensures.call c.args.mode))

pub returns-in-Ok-clause-begun : goal.returns-in-Ok-clause-begun
returns-in-Ok-clause-begun c =
    selects c.args.self.selector c.args.mode (Some c.args.self.keys) _ c.requires.list.lister.selector.inside
    c.in-Ok.ensures.below
    (λ listed. subst (IsLister (view c.args.w.now c.args.p.now) c.args.me) (sym (ap (λ v. v.selector) c.self.view_is))
    c.requires.list.lister)
    (returns-in-Ok-clause-call c)

pub returns-in-Err-clause-call : goal.returns-in-Err-clause-call
returns-in-Err-clause-call c =
    let answer : Result Selection BeginError = Err c.in-Err.error in
    subst (λ (s : SelNo). CallClause c.args.me (Begins s c.args.mode (Some c.args.self.keys))
    (view c.args.w.now c.args.p.now) (view c.args.w.now c.begin.new.p) answer) (ap (λ v. v.selector) c.self.view_is)
    (subst (λ (k : Option (List LookedKey)). CallClause c.args.me (Begins c.self.inside.selector c.args.mode k)
    (view c.args.w.now c.args.p.now) (view c.args.w.now c.begin.new.p) answer)
    (ap known_of c.set_stamp.ensures ∙ ap (λ (v : HeldList). Some v.keys) c.self.view_is) (c.in-Err.ensures.call c.args.mode))

pub returns-in-Err-clause-refused : goal.returns-in-Err-clause-refused
returns-in-Err-clause-refused c = (
  ap (λ (keys : List LookedKey). held c.self.inside.selector c.self.inside.number keys)
      (c.in-Err.ensures.refused ∙ ap (λ (v : Looked). v.keys) c.set_stamp.ensures)
      ∙ c.self.view_is,
  list_after c.args.self (returns-in-Err-clause-call c).acts c.requires.list,
)
  where
    held : SelNo → ℕ → List LookedKey → HeldList
    held s number keys = record { selector = s; number = number; keys = keys }
