-- Whole selections, from their beginning on.
use Rattle.std.proofs.Common.{◌≡◌, ℕ, Option, Result, Ok, Err, List, [], ◌++◌, inl, inr, ◌⊎◌, refl, sym}
use Rattle.std.proofs.Common.{Some, None, ap, ◌∙◌, subst}
use Rattle.std.specs.List.{Contains}
use Rattle.std.proofs.lemmas.List.{append-nil}
use Rattle.std.proofs.lemmas.List.Elements.{Contains-append_cases}
use Rattle.nio_base.specs.declared.numbers.CallerNo.{CallerNo}
use Rattle.nio_base.specs.declared.numbers.ChanNo.{ChanNo}
use Rattle.nio_base.specs.declared.numbers.SelNo.{SelNo}
use Rattle.nio_history.proofs.PassViews.{done-is, acts_then}
use Rattle.nio_history.specs.PassViews.{PassView, done_between, ActsClause}
use Rattle.nio_history.specs.declared.act.Act.{Act}
use Rattle.nio_history.specs.declared.act.Act.TheVariants.{Mark}
use Rattle.nio_history.specs.declared.found.Mark.{Mark as KeyMark}
use Rattle.nio_history.specs.declared.found.Mode.{Mode}
use Rattle.nio_select.specs.InHand.{HeldList, HeldSelector, known_by, list_after}
use Rattle.nio_steps.specs.Calls.{CallClause}
use Rattle.nio_steps.specs.SelectCalls.{Selection, Begins, begin_finds_busy, not_begun}
use Rattle.nio_steps.specs.Waiting.{Retries}
use Rattle.nio_steps.specs.declared.refusal.BeginError.{BeginError}
use Rattle.nio_steps.specs.declared.selected.Selected.{Selected}
use Rattle.nio_poller.proofs.Marks.{begins-unmarked}
use Rattle.nio_poller.proofs.Telling.{adds_none, told_until-none}
use Rattle.nio_poller.specs.Polled.{Polled}
use Rattle.nio_poller.specs.Selecting.{Answers, MarksReady, SelectsUntil}
use Rattle.nio_poller.specs.Telling.{PollsClause}
use Rattle.nio_poller.specs.Until.{begun_with}
use Rattle.nio_poller.specs.declared.selecting.SelectError.{SelectError}
use Rattle.nio_poller.specs.declared.until.Waiting.{Waiting}

-- a selection that doesn't begin leaves the list
list_kept : (list : Option HeldList) (refusal : BeginError) → list_after list (Err refusal) ≡ list
list_kept None refusal = refl
list_kept (Some list) refusal = refl

-- a beginning with a mode that is this one
pub begins_with : {me : CallerNo} {v0 v1 : PassView} (selector : HeldSelector) (found mode : Mode)
    (answer : Result Selection BeginError) → found ≡ mode
    → CallClause me (Retries (Begins selector.number found (known_by selector)) begin_finds_busy) v0 v1 answer
    → CallClause me (Retries (Begins selector.number mode (known_by selector)) begin_finds_busy) v0 v1 answer
begins_with {me = me} {v0 = v0} {v1 = v1} selector found mode answer is =
    subst
    (λ (m : Mode).
    CallClause me (Retries (Begins selector.number m (known_by selector)) begin_finds_busy) v0 v1 answer) is

abbrev mode_of : Waiting → Mode
mode_of waiting = begun_with waiting.until waiting.mode

module _ {me : CallerNo} {v0 v1 : PassView} (selector : HeldSelector) (waiting : Waiting) where
  -- a selection that doesn't begin
  pub select_refused : {now : HeldSelector} {p : Option (List Polled)} {ready : ChanNo → ℕ}
      {result : Result Selected SelectError} (refusal found : BeginError) → found ≡ refusal → now ≡ selector
      → CallClause me (Retries (Begins selector.number (mode_of waiting) (known_by selector)) begin_finds_busy) v0 v1 (Err found)
      → Answers (not_begun refusal) result
      → SelectsUntil waiting.until me waiting.mode selector now v0 v1 p p ready result
  select_refused {p = p} {result = result} refusal found is same begins answers =
      let acts = done_between me v0 v1 in
      record {
        polls = [];
        reply = not_begun found;
        call = record {
          acts = begins.acts;
          shape = record {
            first = acts;
            middle = Err found;
            second = [];
            parts = sym (append-nil acts);
            runs_first = begins.shape;
            runs_second = (refl, sym (told_until-none waiting.until [] waiting.mode), refl);
          };
        };
        answers = subst (λ (e : BeginError). Answers (not_begun e) result) (sym is) answers;
        adds = adds_none p;
        marks = λ on i told from there. absurd
            (begins-unmarked selector.number (mode_of waiting) (known_by selector) acts (Err found) begins.shape on i told from there);
        list = same ∙ ap (λ list. record selector { list = list }) (sym (list_kept selector.list found));
      }

  -- a selection that begins, and then polls and is told
  pub select_begun : {now : HeldSelector} {v2 : PassView} {p0 p1 : Option (List Polled)} {ready : ChanNo → ℕ}
      {result : Result Selected SelectError} (selection : Selection)
      → CallClause me (Retries (Begins selector.number (mode_of waiting) (known_by selector)) begin_finds_busy) v0 v1 (Ok selection)
      → PollsClause me selection waiting v1 v2 p0 p1 ready result
      → now ≡ record selector { list = list_after selector.list (Ok selection) }
      → SelectsUntil waiting.until me waiting.mode selector now v0 v2 p0 p1 ready result
  select_begun {v2 = v2} {ready = ready} selection begins rest same_list =
      record {
        polls = rest.polls;
        reply = rest.reply;
        call = record {
          acts = subst (λ acts. ActsClause me acts v0 v2) (sym same) both;
          shape = record {
            first = xs;
            middle = Ok selection;
            second = ys;
            parts = same;
            runs_first = begins.shape;
            runs_second = rest.call.shape;
          };
        };
        answers = rest.answers;
        adds = rest.adds;
        marks = λ on i told from there. by_place on i told from
            (Contains-append_cases xs ys (Mark on i from told (Ok tt))
            (subst (λ acts. Contains acts (Mark on i from told (Ok tt))) same there));
        list = same_list;
      }
    where
      xs : List Act
      xs = done_between me v0 v1

      ys : List Act
      ys = done_between me v1 v2

      both : ActsClause me (xs ++ ys) v0 v2
      both = acts_then me xs ys v0 v1 v2 begins.acts rest.call.acts

      same : done_between me v0 v2 ≡ xs ++ ys
      same = done-is me (xs ++ ys) v0 v2 both

      by_place : (on : SelNo) (i told : ℕ) (from : KeyMark) → Contains xs (Mark on i from told (Ok tt))
          ⊎ Contains ys (Mark on i from told (Ok tt)) → MarksReady ready selection.looked i told
      by_place on i told from (inl before) =
          absurd (begins-unmarked selector.number (mode_of waiting) (known_by selector) xs (Ok selection) begins.shape on i told from before)
      by_place on i told from (inr later) = rest.marks on i told from later
