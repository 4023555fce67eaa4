-- The line `block`.
use Rattle.std.proofs.Common.{◌≡◌, ℕ, ◌==◌, not, Bool, true, false, Option, Some, None, List, [], ◌∷◌, All, map, ◌++◌}
use Rattle.std.proofs.Common.{bit_and, if◌then◌else◌, Result, Ok, Err, IfOk, ⊎_elim, arith, refl, sym, ap, ◌∙◌, subst}
use Rattle.std.proofs.Common.{eqb-true, eq-eqb}
use Rattle.std.proofs.Math.Logic.{∥∥₁_map}
use Rattle.std.proofs.lemmas.List.{append-nil}
use Rattle.std.proofs.lemmas.List.Elements.{All-cons, All-head, All-nil, All-tail}
use Rattle.std.proofs.lemmas.Nat.Bits.{bit_at_and, same_from_bits}
use Rattle.std.proofs.lemmas.Option.{same_Some}
use Rattle.std.specs.List.{Contains}
use Rattle.std.specs.declared.alloc.AllocError.{AllocError}
use Rattle.nio_base.specs.declared.numbers.CallerNo.{CallerNo}
use Rattle.nio_base.specs.declared.numbers.SelNo.{SelNo}
use Rattle.nio_history.specs.PassViews.{PassView, done_between}
use Rattle.nio_history.specs.declared.act.Act.{Act}
use Rattle.nio_history.specs.declared.act.Act.TheVariants.{Mark}
use Rattle.nio_history.specs.declared.found.Mark.{Mark as KeyMark}
use Rattle.nio_history.specs.declared.found.Mode.TheVariants.{Now as WithoutWaiting, Wait}
use Rattle.nio_language.specs.declared.reply.Reply.{Reply}
use Rattle.nio_language.specs.declared.reply.Reply.TheVariants as reply
use Rattle.nio_orderly.specs.Made.{after_calls, table_call, waiting_call}
use Rattle.nio_poller.specs.Polled.{Polled}
use Rattle.nio_poller.specs.Selecting.{Answers, SelectClause, looked_by, polls_of, told_from}
use Rattle.nio_poller.specs.declared.selecting.SelectError.{SelectError}
use Rattle.nio_poller.specs.declared.selecting.SelectError.TheVariants as select_error
use Rattle.nio_race.proofs.PartKept.{all_of_map}
use Rattle.nio_race.proofs.Standing.{stands_made}
use Rattle.nio_race.specs.Quiet.{AreStillUntold, AreUntold}
use Rattle.nio_race.specs.Racers.{BlocksOn, LooksAndBlocksOn, StandsFor}
use Rattle.nio_race.specs.Runs.{Blocks, LooksAndBlocks, TellsNothing}
use Rattle.nio_select.specs.InHand.{HeldSelector}
use Rattle.nio_serial.specs.Documented.{Progress}
use Rattle.nio_serial.specs.Left.{IsOngoing}
use Rattle.nio_serial.specs.Lines.{if_own, with_selection}
use Rattle.nio_sole.proofs.Calls.{made_more}
use Rattle.nio_sole.specs.Made.{HasMade}
use Rattle.nio_sole.specs.Stands.{HasPlaces, progress_of}
use Rattle.nio_sole.specs.declared.desk.Desk.{Desk}
use Rattle.nio_steps.proofs.CallLaws.{call_as}
use Rattle.nio_steps.proofs.WaitingLaws.{then_call}
use Rattle.nio_steps.specs.Calls.{CallClause}
use Rattle.nio_steps.specs.KeyCalls.{find_selector_plan}
use Rattle.nio_steps.specs.Ongoing.{nothing_ongoing, changed, select_change}
use Rattle.nio_steps.specs.Runs.{Completes}
use Rattle.nio_steps.specs.SelectCalls.{Selection, Poll, SelectReply, selected, not_begun, left, SelectsRest}
use Rattle.nio_steps.specs.SelectCalls.{MakesSelection}
use Rattle.nio_steps.specs.TableCalls.{find_selector, select}
use Rattle.nio_steps.specs.declared.looked.LookedKey.{LookedKey}
use Rattle.nio_steps.specs.declared.refusal.BeginError.{BeginError}
use Rattle.nio_steps.specs.declared.refusal.BeginError.TheVariants as begin_error
use Rattle.nio_steps.specs.declared.selected.Selected.{Selected}
use Rattle.nio_words.specs.Passes.{IsReady, acts_seen, limits_of}
use Rattle.nio_words.specs.Views.{view}
use Rattle.nio_words.specs.declared.words.Words.{Words}

-- ---- a selection without the selector's list

abbrev pub without_list : SelNo → HeldSelector
without_list s = record { number = s; list = None }

pub without_its_list : {me : CallerNo} {s : SelNo} {old new : HeldSelector} {v0 v1 : PassView}
    {before after : Option (List Polled)} {result result' : Result Selected SelectError}
    → old ≡ without_list s → result ≡ result'
    → SelectClause me Wait old new v0 v1 before after (λ _. 0) result
    → SelectClause me Wait (without_list s) new v0 v1 before after (λ _. 0) result'
without_its_list {me} {s} {old} {new} {v0} {v1} {before} {after} {result} {result'} is same clause =
    subst
    (λ (selector : HeldSelector). SelectClause me Wait selector new v0 v1 before after (λ _. 0) result') is
    (subst (λ (r : Result Selected SelectError). SelectClause me Wait old new v0 v1 before after (λ _. 0) r) same
    clause)

-- ---- a poller that tells nothing

and_none : (n : ℕ) → bit_and n 0 ≡ 0
and_none n = same_from_bits (bit_and n 0) 0 (λ i. simp (bit_at_and) (omega arith))

-- where no channel is ready no mark succeeds
unmarked : {before after : List Polled} {me : CallerNo} {s : SelNo} {selector : HeldSelector} {v0 v1 : PassView}
    {result : Result Selected SelectError} → SelectClause me Wait (without_list s) selector v0 v1 (Some before) (Some after) (λ _. 0) result
    → (x : SelNo) (i told : ℕ) (from : KeyMark) → Contains (done_between me v0 v1) (Mark x i from told (Ok tt)) → ⊥
unmarked clause x i told from there =
    let ready = clause.marks x i told from there in
    let none : told ≡ 0 = sym (eqb-true (bit_and told 0) told ready.bits) ∙ and_none told in
    let some : not (told == 0) ≡ true = ready.some in
    let clash : false ≡ true = ap not (sym (eq-eqb told 0 none)) ∙ some in
    absurd cc

abbrev polled : List LookedKey → Poll → Polled
polled asked poll = record { asked = asked; mode = Wait; answer = poll }

-- where no poll of a selection told anything, the selection was told nothing
untold_from : (looked : List LookedKey) (answers : List Poll) → AreUntold (polls_of looked Wait answers)
    → All TellsNothing (told_from answers)
untold_from looked [] each = All-nil TellsNothing
untold_from looked (first ∷ later) each =
    let P : Polled → Type 0 = λ poll. TellsNothing poll.answer in
    let at_once : Polled = record { asked = looked; mode = WithoutWaiting; answer = first } in
    All-cons TellsNothing (record first { elapsed = false }) later (All-head P at_once (map (polled looked) later) each)
    (all_of_map P (polled looked) later (All-tail P at_once (map (polled looked) later) each))

-- the same of a poller that told nothing before the selection
untold : {before after : List Polled} {me : CallerNo} {s : SelNo} {selector : HeldSelector} {v0 v1 : PassView}
    {result : Result Selected SelectError}
    (clause : SelectClause me Wait (without_list s) selector v0 v1 (Some before) (Some after) (λ _. 0) result)
    → before ≡ [] → AreStillUntold before after → All TellsNothing (told_from clause.polls)
untold {before} {after} clause none still =
    let polls = polls_of (looked_by clause.call.shape.middle) Wait clause.polls in
    let added : after ≡ polls = same_Some _ _ clause.adds ∙ ap (λ (earlier : List Polled). earlier ++ polls) none in
    untold_from (looked_by clause.call.shape.middle) clause.polls
    (subst AreUntold added (still (subst AreUntold (sym none) (All-nil (λ (poll : Polled). TellsNothing poll.answer)))))

-- ---- its reply

said_selected : (r : SelectReply) (x : Selected) → Answers r (Ok x) → r ≡ selected x
said_selected (selected y) x is = ap selected (cc (sym is))
said_selected (not_begun begin_error.ClosedSelector) x is = absurd (cc is)
said_selected (not_begun begin_error.Busy) x is = absurd is
said_selected (not_begun begin_error.Memory) x is = absurd (cc is)
said_selected left x is = ⊎_elim (λ fault. absurd (cc fault)) (λ memory. absurd (cc memory)) is

said_closed : (r : SelectReply) → Answers r (Err select_error.ClosedSelector) → r ≡ not_begun begin_error.ClosedSelector
said_closed (selected y) is = absurd (cc is)
said_closed (not_begun begin_error.ClosedSelector) is = refl
said_closed (not_begun begin_error.Busy) is = absurd is
said_closed (not_begun begin_error.Memory) is = absurd (cc is)
said_closed left is = ⊎_elim (λ fault. absurd (cc fault)) (λ memory. absurd (cc memory)) is

module _ (w : Words) (d d' : Desk) (me : CallerNo) (s : SelNo) {before after : List Polled} (none : before ≡ [])
    (still : AreStillUntold before after) where
  -- the selection answered
  pub blocks_selected : {selector : HeldSelector} (x : Selected)
      → SelectClause me Wait (without_list s) selector (view w d.pass) (view w d'.pass) (Some before) (Some after) (λ _. 0) (Ok x)
      → progress_of d' ≡ with_selection (progress_of d) s None
      → BlocksOn w d d' me s (reply.Selected x.count x.why)
  blocks_selected x clause leaves =
      call_as (Blocks (progress_of d) s) (record { reply = reply.Selected x.count x.why; left = progress_of d' })
      (λ xs run. record {
        polls = told_from clause.polls;
        answer = selected x;
        selects = run.0;
        untold = untold clause none still;
        unmarked = run.1;
        says = ap (λ (p : Progress). record { reply = reply.Selected x.count x.why; left = p }) leaves;
      }) its
    where
      its : CallClause me (λ xs (r : SelectReply). MakesSelection s Wait None (told_from clause.polls) xs r
          × ((y : SelNo) (i told : ℕ) (from : KeyMark) → Contains xs (Mark y i from told (Ok tt)) → ⊥)) (view w d.pass)
          (view w d'.pass) (selected x)
      its = record {
        acts = clause.call.acts;
        shape = (
          subst (λ (r : SelectReply). MakesSelection s Wait None (told_from clause.polls)
              (done_between me (view w d.pass) (view w d'.pass)) r) (said_selected clause.reply x clause.answers)
              clause.call.shape,
          unmarked clause,
        );
      }

  -- the selector is closed
  pub blocks_closed : {selector : HeldSelector} → SelectClause me Wait (without_list s) selector (view w d.pass) (view w d'.pass) (Some before) (Some after) (λ _. 0)
      (Err select_error.ClosedSelector) → progress_of d' ≡ progress_of d
      → BlocksOn w d d' me s reply.ClosedSelector
  blocks_closed clause leaves =
      call_as (Blocks (progress_of d) s) (record { reply = reply.ClosedSelector; left = progress_of d' })
      (λ xs run. record {
        polls = told_from clause.polls;
        answer = not_begun begin_error.ClosedSelector;
        selects = run.0;
        untold = untold clause none still;
        unmarked = run.1;
        says = ap (λ (p : Progress). record { reply = reply.ClosedSelector; left = p }) leaves;
      }) its
    where
      its : CallClause me (λ xs (r : SelectReply). MakesSelection s Wait None (told_from clause.polls) xs r
          × ((y : SelNo) (i told : ℕ) (from : KeyMark) → Contains xs (Mark y i from told (Ok tt)) → ⊥)) (view w d.pass)
          (view w d'.pass) (not_begun begin_error.ClosedSelector)
      its = record {
        acts = clause.call.acts;
        shape = (
          subst (λ (r : SelectReply). MakesSelection s Wait None (told_from clause.polls)
              (done_between me (view w d.pass) (view w d'.pass)) r) (said_closed clause.reply clause.answers)
              clause.call.shape,
          unmarked clause,
        );
      }

module _ (w : Words) (d d' : Desk) (me : CallerNo) (s : SelNo) where
  -- ---- the whole line

  pub blocks_found : (d1 : Desk) (found : SelNo) (r : Reply) → progress_of d1 ≡ progress_of d
      → CallClause me (Completes (find_selector_plan (limits_of w) s.0)) (view w d.pass) (view w d1.pass) (Some found)
      → BlocksOn w d1 d' me s r → LooksAndBlocksOn w d d' me s r
  blocks_found d1 found r same looks blocks =
      then_call looks
      (subst (λ (p : Progress). CallClause me (Blocks p s) (view w d1.pass) (view w d'.pass)
      (record { reply = r; left = progress_of d' })) same blocks)

  -- the same of what may lack memory
  pub line_of_found : (d1 : Desk) (found : SelNo) (result : Result Reply AllocError) → progress_of d1 ≡ progress_of d
      → CallClause me (Completes (find_selector_plan (limits_of w) s.0)) (view w d.pass) (view w d1.pass) (Some found)
      → IfOk result (λ r. BlocksOn w d1 d' me s r) → IfOk result (LooksAndBlocksOn w d d' me s)
  line_of_found d1 found (Ok r) same looks blocks = blocks_found d1 found r same looks blocks
  line_of_found d1 found (Err e) same looks blocks = tt

  pub blocks_nowhere : progress_of d' ≡ progress_of d
      → CallClause me (Completes (find_selector_plan (limits_of w) s.0)) (view w d.pass) (view w d'.pass) None
      → LooksAndBlocksOn w d d' me s reply.NoSelector
  blocks_nowhere same looks =
      call_as (LooksAndBlocks (limits_of w) (progress_of d) s)
      (record { reply = reply.NoSelector; left = progress_of d' })
      (λ xs run. record {
        first = xs;
        middle = None;
        second = [];
        parts = sym (append-nil xs);
        runs_first = run;
        runs_second = (refl, ap (λ (p : Progress). record { reply = reply.NoSelector; left = p }) same);
      }) looks

-- ---- what stands after it

module _ (w : Words) (d d' : Desk) (me : CallerNo) (stands : StandsFor w d me) where
  -- after a look-up
  pub stands_looked : (n : ℕ) (found : Option SelNo) → IsReady w d'.pass me → HasPlaces w d'
      → progress_of d' ≡ progress_of d
      → CallClause me (Completes (find_selector_plan (limits_of w) n)) (view w d.pass) (view w d'.pass) found
      → StandsFor w d' me
  stands_looked n found ready places same looks =
      stands_made w d' me stands.caller ready places
      (∥∥₁_map stands.made
      (λ m. subst (λ (acts : List Act). HasMade (limits_of w) acts me (progress_of d')) (sym looks.acts.history.own)
      (subst (λ (p : Progress). HasMade (limits_of w)
      (acts_seen d.pass me ++ done_between me (view w d.pass) (view w d'.pass)) me p) (sym same)
      (made_more (limits_of w) (acts_seen d.pass me) (done_between me (view w d.pass) (view w d'.pass)) me
      (progress_of d) (progress_of d) (table_call (find_selector n) found) m looks.shape tt m.ongoing))))

  -- what is in progress after a selection that answered so
  ongoing_selected : (s : SelNo) (polls : List Poll) (x : Selected) (m : HasMade (limits_of w) (acts_seen d.pass me) me
      (progress_of d)) (begun : Result Selection BeginError) (acts : List Act) → SelectsRest polls begun acts (selected x)
      → IsOngoing me (with_selection (progress_of d) s None)
      (changed (after_calls nothing_ongoing m.calls) (select_change s begun))
  ongoing_selected s polls x m (Err refusal) acts rest = absurd (cc rest.2)
  ongoing_selected s polls x m (Ok selection) acts rest = record {
    selection = λ k. by_place k (k == s.0);
    closes = m.ongoing.closes;
  }
    where
      by_place : (k : ℕ) (b : Bool)
          → (if b then None else (if b then Some selection else (after_calls nothing_ongoing m.calls).selection k))
          ≡ if_own me (if b then None else (progress_of d).selection k)
      by_place k true = refl
      by_place k false = m.ongoing.selection k

  -- and after one that didn't begin
  ongoing_refused : (s : SelNo) (polls : List Poll) (refusal : BeginError) (m : HasMade (limits_of w)
      (acts_seen d.pass me) me (progress_of d)) (begun : Result Selection BeginError) (acts : List Act)
      → SelectsRest polls begun acts (not_begun refusal)
      → IsOngoing me (progress_of d) (changed (after_calls nothing_ongoing m.calls) (select_change s begun))
  ongoing_refused s polls refusal m (Err _) acts rest = m.ongoing
  ongoing_refused s polls refusal m (Ok selection) acts rest = absurd rest

  -- after a selection that answered
  pub stands_selected : {before after : List Polled} {selector : HeldSelector} (s : SelNo) (x : Selected) → IsReady w d'.pass me → HasPlaces w d'
      → progress_of d' ≡ with_selection (progress_of d) s None
      → SelectClause me Wait (without_list s) selector (view w d.pass) (view w d'.pass) (Some before) (Some after) (λ _. 0) (Ok x)
      → StandsFor w d' me
  stands_selected s x ready places leaves clause =
      stands_made w d' me stands.caller ready places
      (∥∥₁_map stands.made
      (λ m. subst (λ (acts : List Act). HasMade (limits_of w) acts me (progress_of d'))
      (sym clause.call.acts.history.own)
      (subst (λ (p : Progress). HasMade (limits_of w)
      (acts_seen d.pass me ++ done_between me (view w d.pass) (view w d'.pass)) me p) (sym leaves)
      (made_more (limits_of w) (acts_seen d.pass me) (done_between me (view w d.pass) (view w d'.pass)) me
      (progress_of d) (with_selection (progress_of d) s None)
      (waiting_call (select s Wait None (told_from clause.polls))
      (record { begun = made.middle; answer = selected x }))
      m (record { makes = made; begun = refl }) tt
      (ongoing_selected s (told_from clause.polls) x m made.middle made.second made.runs_second)))))
    where
      made : MakesSelection s Wait None (told_from clause.polls) (done_between me (view w d.pass) (view w d'.pass))
          (selected x)
      made = subst (λ (r : SelectReply). MakesSelection s Wait None (told_from clause.polls)
          (done_between me (view w d.pass) (view w d'.pass)) r) (said_selected clause.reply x clause.answers)
          clause.call.shape

  -- after one that found the selector closed
  pub stands_closed : {before after : List Polled} {selector : HeldSelector} (s : SelNo) → IsReady w d'.pass me → HasPlaces w d'
      → progress_of d' ≡ progress_of d
      → SelectClause me Wait (without_list s) selector (view w d.pass) (view w d'.pass) (Some before) (Some after) (λ _. 0)
      (Err select_error.ClosedSelector) → StandsFor w d' me
  stands_closed s ready places same clause =
      stands_made w d' me stands.caller ready places
      (∥∥₁_map stands.made
      (λ m. subst (λ (acts : List Act). HasMade (limits_of w) acts me (progress_of d'))
      (sym clause.call.acts.history.own)
      (subst (λ (p : Progress). HasMade (limits_of w)
      (acts_seen d.pass me ++ done_between me (view w d.pass) (view w d'.pass)) me p) (sym same)
      (made_more (limits_of w) (acts_seen d.pass me) (done_between me (view w d.pass) (view w d'.pass)) me
      (progress_of d) (progress_of d)
      (waiting_call (select s Wait None (told_from clause.polls))
      (record { begun = made.middle; answer = not_begun begin_error.ClosedSelector }))
      m (record { makes = made; begun = refl }) tt
      (ongoing_refused s (told_from clause.polls) begin_error.ClosedSelector m made.middle made.second
      made.runs_second)))))
    where
      made : MakesSelection s Wait None (told_from clause.polls) (done_between me (view w d.pass) (view w d'.pass))
          (not_begun begin_error.ClosedSelector)
      made = subst (λ (r : SelectReply). MakesSelection s Wait None (told_from clause.polls)
          (done_between me (view w d.pass) (view w d'.pass)) r) (said_closed clause.reply clause.answers)
          clause.call.shape
