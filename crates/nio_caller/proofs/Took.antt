-- What a caller did in a call on a channel, the look at the channel aside.
use Rattle.std.proofs.Common.{◌≡◌, ℕ, not, nat_lt, Bool, true, false, ◌&&◌, ◌||◌, if◌then◌else◌, Option, Some, None}
use Rattle.std.proofs.Common.{Result, Ok, Err, List, [], ◌∷◌, ◌++◌, refl, ap, sym, ◌∙◌, subst, is_ok, is_some, eq-eqb}
use Rattle.std.proofs.lemmas.List.{append-nil}
use Rattle.std.proofs.lemmas.List.Folds.{list_any-append}
use Rattle.nio_base.specs.declared.limits.Limits.{Limits}
use Rattle.nio_base.specs.declared.numbers.CallerNo.{CallerNo}
use Rattle.nio_base.specs.declared.numbers.ChanId.{ChanId}
use Rattle.nio_base.specs.declared.numbers.ChanNo.{ChanNo}
use Rattle.nio_history.proofs.PassViews.{acts_then, done-is}
use Rattle.nio_history.specs.OwnEvents.{closes, has, reopens}
use Rattle.nio_history.specs.PassViews.{PassView, ActsClause, HasChannel, done_between}
use Rattle.nio_history.specs.Questions.{Question, Answer, answer_of, question_of}
use Rattle.nio_history.specs.Sets.{was_opened}
use Rattle.nio_history.specs.declared.act.Act.{Act}
use Rattle.nio_history.specs.declared.act.Act.TheVariants.{LookChannel}
use Rattle.nio_history.specs.declared.found.Chan.{Chan}
use Rattle.nio_select.specs.InHand.{HeldSelector}
use Rattle.nio_steps.specs.KeyCalls.{find_channel_plan}
use Rattle.nio_steps.specs.Plan.{reply, ask}
use Rattle.nio_steps.specs.Runs.{Completes}
use Rattle.nio_steps.specs.Steps.{channel_in}
use Rattle.nio_words.specs.Passes.{limits_of}
use Rattle.nio_words.specs.Views.{view}
use Rattle.nio_words.specs.declared.words.Pass.{Pass}
use Rattle.nio_words.specs.declared.words.Words.{Words}
use Rattle.nio_caller.specs.Callers.{Acting, Progress, sees}
use Rattle.nio_caller.specs.NamedCalls.{Calls, FindsChannel, as_called}
use Rattle.nio_caller.specs.Piping.{finds_opened}
use Rattle.nio_caller.proofs.Calls.{acts_at}
use Rattle.nio_caller.proofs.Found.{channels_are_found}
use Rattle.nio_caller.proofs.NamedCalls.{acting}

-- a channel that the caller had seen opened isn't missed
pub not_missed : {c0 c1 : Acting} (c : ChanId) → Calls (λ l. FindsChannel l c) c0 c1 None → HasChannel (sees c0) c → ⊥
not_missed {c0 = c0} {c1 = c1} c look has =
    let done = done_between c0.number (sees c0) (sees c1) in
    let clause = subst (λ (acts : List Act). ActsClause c0.number acts (sees c0) (sees c1)) (sym (append-nil done))
    look.call.acts in
    let found = channels_are_found c0.number (sees c0) (sees c1) c [] done [] None has clause look.call.shape in
    cc found

-- ---- acts of a kind that no look is of

module _ (p : Act → Bool) (no_look : (c : ChanNo) (found : Chan) → p (LookChannel c found) ≡ false) where
  of_look : (n : ChanNo) (act : Act) → question_of act ≡ Question.look_channel n → p act ≡ false
  of_look n (LookChannel c found) asks = no_look c found
  of_look n _ asks = absurd (cc asks)

  none_looked : {R : Type 0} (past : Bool) (n : ChanNo) (refusal : R) (next : Answer → R) (acts : List Act) (r : R)
      → Completes (if past then reply refusal else ask (Question.look_channel n) (λ answer. reply (next answer))) acts r
      → has p acts ≡ false
  none_looked past n refusal next [] r run = refl
  none_looked true n refusal next (act ∷ acts) r run = absurd run
  none_looked false n refusal next (act ∷ []) r run = ap (λ b. b || false) (of_look n act run.0)
  none_looked false n refusal next (act ∷ other ∷ acts) r run = absurd run.1

  pub none_finds : (l : Limits) (c : ChanId) (acts : List Act) (r : Option ChanId) → FindsChannel l c acts r
      → has p acts ≡ false
  unfolding find_channel_plan
  none_finds l c acts r run = none_looked (not (nat_lt c.number.0 l.channels)) c.number None _ acts r run

  -- after a look, with a call on the channel
  took_then : {c0 c1 : Acting} {v : PassView} (c : ChanId) (r : Option ChanId) (acts : List Act)
      → Calls (λ l. FindsChannel l c) c0 c1 r → ActsClause c1.number acts (sees c1) v
      → has p (done_between c0.number (sees c0) v) ≡ has p (done_between c1.number (sees c1) v)
  took_then {c0 = c0} {c1 = c1} {v = v} c r acts look clause =
      let first = done_between c0.number (sees c0) (sees c1) in
      let its = subst (λ (n : CallerNo). ActsClause n acts (sees c1) v) look.same.number clause in
      ap (has p)
      (done-is c0.number (first ++ acts) (sees c0) v
      (acts_then c0.number first acts (sees c0) (sees c1) v look.call.acts its))
      ∙ (list_any-append p first acts
      ∙ (ap (λ b. b || has p acts) (none_finds (limits_of c0.table) c first r look.call.shape)
      ∙ ap (has p) (sym (done-is c1.number acts (sees c1) v clause))))

  pub took_by : {w v : Words} {p0 : Pass} {me : CallerNo} {selectors : List (Option HeldSelector)} {progress : Progress}
      {c0 c1 : Acting}
      {acts : List Act} → w ≡ v → (p1 : Pass) (b : Bool) (c : ChanId) → Calls (λ l. FindsChannel l c) c0 c1 (Some c)
      → acting v p0 me selectors progress ≡ c1 → ActsClause me acts (view w p0) (view w p1)
      → b ≡ has p (done_between me (view w p0) (view w p1)) → b ≡ has p (done_between c0.number (sees c0) (view v p1))
  took_by {v = v} {p0 = p0} {me = me} {c0 = c0} {acts = acts} at p1 b c look is clause took =
      took
      ∙ (ap (λ (x : Words). has p (done_between me (view x p0) (view x p1))) at
      ∙ sym (took_then {v = view v p1} c (Some c) acts (subst (λ (x : Acting). Calls (λ l. FindsChannel l c) c0 x (Some c))
      (sym is) look) (acts_at at p0 p1 clause)))

  -- where the channel wasn't found there is no such act
  pub took_none : {c0 c1 : Acting} (c : ChanId) → Calls (λ l. FindsChannel l c) c0 c1 None
      → false ≡ has p (done_between c0.number (sees c0) (sees c1))
  took_none {c0 = c0} c look = sym (none_finds (limits_of c0.table) c _ None look.call.shape)

-- ---- looks that find the channel opened

found_act : (c : ChanId) (act : Act) → question_of act ≡ Question.look_channel c.number
    → finds_opened c act ≡ was_opened (channel_in (answer_of act)) c.serial
found_act c (LookChannel n found) asks =
    let same : n ≡ c.number = cc asks in
    ap (λ b. b && was_opened found c.serial) (eq-eqb n.0 c.number.0 (ap (λ (m : ChanNo). m.0) same))
found_act c _ asks = absurd (cc asks)

look_finds : (past : Bool) (c y : ChanId) (acts : List Act) (found : Option ChanId)
    → Completes (if past then reply None else ask (Question.look_channel c.number)
    (λ answer. reply (if was_opened (channel_in answer) c.serial then Some y else None))) acts found
    → has (finds_opened c) acts ≡ is_some found
look_finds true c y [] found run = ap is_some (let same : None ≡ found = cc run in same)
look_finds true c y (act ∷ acts) found run = absurd run
look_finds false c y [] found run = absurd (cc run)
look_finds false c y (act ∷ []) found run =
    ap (λ b. b || false) (found_act c act run.0)
    ∙ by_test (was_opened (channel_in (answer_of act)) c.serial) run.1
  where
    by_test : (b : Bool) → reply (if b then Some y else None) ≡ reply found → (b || false) ≡ is_some found
    by_test true same = ap is_some (let is : Some y ≡ found = cc same in is)
    by_test false same = ap is_some (let is : None ≡ found = cc same in is)
look_finds false c y (act ∷ other ∷ acts) found run = absurd run.1

looks_find : (l : Limits) (c : ChanId) (acts : List Act) (found : Option ChanId) → FindsChannel l c acts found
    → has (finds_opened c) acts ≡ is_some found
unfolding find_channel_plan
looks_find l c acts found run = look_finds (not (nat_lt c.number.0 l.channels)) c _ acts found run

pub or_no : (x b : Bool) → b ≡ false → x ≡ (x || b)
or_no true b none = refl
or_no false b none = sym none

-- a call on a channel found it opened where its look did
pub finds_none : {c0 c1 : Acting} (c : ChanId) → Calls (λ l. FindsChannel l c) c0 c1 None
    → has (finds_opened c) (done_between c0.number (sees c0) (sees c1)) ≡ false
finds_none {c0 = c0} c look = looks_find (limits_of c0.table) c _ None look.call.shape

pub finds_by : {w v : Words} {p0 : Pass} {me : CallerNo} {selectors : List (Option HeldSelector)} {progress : Progress}
    {c0 c1 : Acting}
    {acts : List Act} → w ≡ v → (p1 : Pass) (c : ChanId) → Calls (λ l. FindsChannel l c) c0 c1 (Some c)
    → acting v p0 me selectors progress ≡ c1 → ActsClause me acts (view w p0) (view w p1)
    → has (finds_opened c) (done_between c0.number (sees c0) (view v p1)) ≡ true
finds_by {v = v} {p0 = p0} {me = me} {selectors = selectors} {progress = progress} {c0 = c0} {acts = acts} at p1 c look is clause =
    by_look (subst (λ (x : Acting). Calls (λ l. FindsChannel l c) c0 x (Some c)) (sym is) look)
  where
    by_look : Calls (λ l. FindsChannel l c) c0 (acting v p0 me selectors progress) (Some c)
        → has (finds_opened c) (done_between c0.number (sees c0) (view v p1)) ≡ true
    by_look looked =
        let first = done_between c0.number (sees c0) (view v p0) in
        let its = subst (λ (n : CallerNo). ActsClause n acts (view v p0) (view v p1)) looked.same.number (acts_at at p0 p1 clause) in
        ap (has (finds_opened c))
        (done-is c0.number (first ++ acts) (sees c0) (view v p1)
        (acts_then c0.number first acts (sees c0) (view v p0) (view v p1) looked.call.acts its))
        ∙ (list_any-append (finds_opened c) first acts
        ∙ ap (λ b. b || has (finds_opened c) acts) (looks_find (limits_of c0.table) c first (Some c) looked.call.shape))

pub is_ok_called : {T E : Type 0} (answer : Result T E) → is_ok (as_called answer) ≡ is_ok answer
is_ok_called (Ok value) = refl
is_ok_called (Err error) = refl

pub no_close : (k : ChanId) (c : ChanNo) (found : Chan) → closes k (LookChannel c found) ≡ false
no_close k c found = refl

pub no_reopen : (n : ℕ) (c : ChanNo) (found : Chan) → reopens n (LookChannel c found) ≡ false
no_reopen n c found = refl
