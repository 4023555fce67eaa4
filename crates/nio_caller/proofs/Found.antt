-- A look finds what its caller had seen made.
use Rattle.std.proofs.Common.{◌≡◌, ℕ, ◌<◌, ◌==◌, not, nat_lt, Bool, true, false, if◌then◌else◌, Option, Some, None}
use Rattle.std.proofs.Common.{List, [], ◌∷◌, ◌++◌, refl, ap, sym, ◌∙◌, subst, append_assoc, arith}
use Rattle.std.proofs.lemmas.Bool.{lt-ltb}
use Rattle.nio_base.specs.declared.numbers.CallerNo.{CallerNo}
use Rattle.nio_base.specs.declared.numbers.SelNo.{SelNo}
use Rattle.nio_history.proofs.Bits.{bits_below-at}
use Rattle.nio_history.proofs.Legal.{legal_beginning, legal_next}
use Rattle.nio_history.proofs.PassViews.{done-is}
use Rattle.nio_history.proofs.Stays.{facts_are_permanent}
use Rattle.nio_history.specs.Answers.{answer_from}
use Rattle.nio_history.specs.Histories.{IsLegal, event_of, mine, state_after}
use Rattle.nio_history.specs.PassViews.{PassView, ActsClause, known}
use Rattle.nio_history.specs.Permanent.{PermanentFact, channel_opened, key_published, selector_made, stands}
use Rattle.nio_history.specs.Questions.{Question, Answer, answer_of, question_of}
use Rattle.nio_history.specs.Sets.{was_opened, was_published}
use Rattle.nio_history.specs.State.{State}
use Rattle.nio_history.specs.declared.act.Act.{Act}
use Rattle.nio_history.specs.declared.event.Event.{Event}
use Rattle.nio_select.proofs.GoneOn.{done_in}
use Rattle.nio_steps.proofs.OwnActs.{Cut, cut_at}
use Rattle.nio_steps.specs.KeyCalls.{find_selector_plan, find_channel_plan, find_plan, has_bit}
use Rattle.nio_steps.specs.Plan.{reply, ask}
use Rattle.nio_steps.specs.Runs.{Completes}
use Rattle.nio_steps.specs.Steps.{channel_in, stage_in, word_in}
use Rattle.nio_caller.specs.Laws.{ChannelsAreFound, KeysAreFound, SelectorsAreFound}
use Rattle.nio_caller.specs.NamedCalls.{IfFound}

-- ---- an act of the caller's, with what it did before it since `old`

module _ (me : CallerNo) (old new : PassView) (before : List Act) (act : Act) (more : List Act)
    (clause : ActsClause me (before ++ act ∷ more) old new) where
  abbrev later : List Event
  later = clause.history.goes_on.0

  own : mine me later ≡ before ++ act ∷ more
  own =
      sym (done_in me old new later clause.history.goes_on.1)
      ∙ done-is me (before ++ act ∷ more) old new clause

  pub at : Cut me later before act more
  at = cut_at me later before act more own

  -- the history up to the act
  abbrev pub past : List Event
  past = old.seen ++ at.past

  pub legal : IsLegal old.limits (past ++ event_of me act ∷ at.later)
  legal =
      subst (IsLegal old.limits)
      (sym clause.history.goes_on.1
      ∙ (ap (λ events. old.seen ++ events) at.parts ∙ sym (append_assoc old.seen at.past (event_of me act ∷ at.later))))
      clause.history.legal

  pub answered : (question : Question) → question_of act ≡ question
      → answer_of act ≡ answer_from (state_after past) me question
  answered question asks =
      (legal_next old.limits past (event_of me act) at.later legal).answers ∙ ap (answer_from (state_after past) me) asks

  -- what had been permanent before stood
  stood : (f : PermanentFact) → stands f (known old) ≡ true → stands f (state_after past) ≡ true
  stood f here =
      facts_are_permanent old.limits old.seen past (at.past, refl)
      (legal_beginning old.limits past (event_of me act ∷ at.later) legal) f here

-- ---- a look that is refused beforehand, or asks one question

found_by : {A : Type 0} (past : Bool) (question : Question) (test : Answer → Bool) (name : A) (acts : List Act)
    (found : Option A) → past ≡ false
    → Completes
    (if past then reply None else ask question (λ answer. reply (if test answer then Some name else None)))
    acts found
    → ((act : Act) → acts ≡ act ∷ [] → question_of act ≡ question → test (answer_of act) ≡ true) → found ≡ Some name
found_by true question test name acts found allowed run tells = absurd (cc allowed)
found_by false question test name [] found allowed run tells = absurd (cc run)
found_by false question test name (act ∷ []) found allowed run tells =
    by_test (test (answer_of act)) (tells act refl run.0) run.1
  where
    by_test : (b : Bool) → b ≡ true → reply (if b then Some name else None) ≡ reply found → found ≡ Some name
    by_test true is same = cc same
    by_test false is same = absurd (cc is)
found_by false question test name (act ∷ other ∷ acts) found allowed run tells = absurd run.1

is_allowed : (n most : ℕ) → n < most → not (nat_lt n most) ≡ false
is_allowed n most below = ap not (lt-ltb n most below)

pub channels_are_found : ChannelsAreFound
unfolding find_channel_plan
channels_are_found me old new c before look more found has clause run =
    found_by (not (nat_lt c.number.0 old.limits.channels)) _ (λ answer. was_opened (channel_in answer) c.serial) c look
    found (is_allowed c.number.0 old.limits.channels has.inside) run
    (λ act is asks.
    let its : ActsClause me (before ++ act ∷ more) old new
    = subst (λ (acts : List Act). ActsClause me (before ++ (acts ++ more)) old new) is clause in
    ap (λ answer. was_opened (channel_in answer) c.serial) (answered me old new before act more its _ asks)
    ∙ stood me old new before act more its (channel_opened c.number.0 c.serial) has.opened)

pub selectors_are_found : SelectorsAreFound
unfolding find_selector_plan
selectors_are_found me old new s before look more found fit has clause run =
    found_by (not (nat_lt s.0 old.limits.selectors)) _ (λ answer. has_bit (word_in answer) s.0) s look found
    (is_allowed s.0 old.limits.selectors has.inside) run
    (λ act is asks.
    let its : ActsClause me (before ++ act ∷ more) old new
    = subst (λ (acts : List Act). ActsClause me (before ++ (acts ++ more)) old new) is clause in
    ap (λ answer. has_bit (word_in answer) s.0) (answered me old new before act more its _ asks)
    ∙ has_made (state_after (past me old new before act more its))
    (stood me old new before act more its (selector_made s.0) has.made))
  where
    has_made : (st : State) → st.selector s.0 ≡ true → has_bit (word_in (answer_from st me Question.look_selectors)) s.0 ≡ true
    has_made st made =
        let inside : s.0 < old.limits.selectors = has.inside in
        let few = fit.few_selectors in
        ap (λ bit. bit == 1)
        (bits_below-at 64 st.selector s.0 (omega (arith, inside, few)) ∙ ap (λ (b : Bool). if b then 1 else 0) made)

pub keys_are_found : KeysAreFound
unfolding find_plan
keys_are_found me old new k before look more found fit has_selector has clause run =
    by_selector run.middle
    (selectors_are_found me old new k.sel before run.first (run.second ++ more) run.middle fit has_selector both
    run.runs_first)
    run.runs_second
  where
    both : ActsClause me (before ++ (run.first ++ (run.second ++ more))) old new
    both =
        subst (λ (acts : List Act). ActsClause me (before ++ acts) old new) (append_assoc run.first run.second more)
        (subst (λ (acts : List Act). ActsClause me (before ++ (acts ++ more)) old new) run.parts clause)

    after_first : ActsClause me ((before ++ run.first) ++ (run.second ++ more)) old new
    after_first =
        subst (λ (acts : List Act). ActsClause me acts old new)
        (sym (append_assoc before run.first (run.second ++ more))) both

    by_selector : (middle : Option SelNo) → middle ≡ Some k.sel
        → IfFound None (Completes (find_plan old.limits k.sel k.index k.serial)) middle run.second found → found ≡ Some k
    by_selector None is second = absurd (cc is)
    by_selector (Some s) is second =
        found_by (not (nat_lt k.index old.limits.keys)) _ (λ answer. was_published (stage_in answer) k.serial) k run.second
        found (is_allowed k.index old.limits.keys has.inside.1) second
        (λ act only asks.
        let its : ActsClause me ((before ++ run.first) ++ act ∷ more) old new
        = subst (λ (acts : List Act). ActsClause me ((before ++ run.first) ++ (acts ++ more)) old new) only after_first in
        ap (λ answer. was_published (stage_in answer) k.serial)
        (answered me old new (before ++ run.first) act more its _ asks)
        ∙ stood me old new (before ++ run.first) act more its (key_published k.sel.0 k.index k.serial) has.published)
