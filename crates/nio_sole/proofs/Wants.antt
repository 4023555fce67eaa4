-- A line that lacks memory, as a whole run of a plan with a reply that nobody gives.
use Rattle.std.proofs.Common.{◌≡◌, ⊎_elim, ℕ, Bool, true, false, Option, Some, Ok, Err, List, [], ◌++◌, refl, sym}
use Rattle.std.proofs.Common.{ap, ◌∙◌, subst, append_assoc}
use Rattle.std.specs.Prelude.{None}
use Rattle.nio_base.specs.declared.numbers.CallerNo.{CallerNo}
use Rattle.nio_base.specs.declared.numbers.ChanId.{ChanId}
use Rattle.nio_base.specs.declared.numbers.KeyId.{KeyId}
use Rattle.nio_base.specs.declared.numbers.KeyNo.{KeyNo}
use Rattle.nio_base.specs.declared.numbers.SelNo.{SelNo}
use Rattle.nio_history.proofs.PassViews.{acts_nothing, acts_then}
use Rattle.nio_history.specs.Histories.{IsLegal}
use Rattle.nio_history.specs.PassViews.{PassView, done_between}
use Rattle.nio_history.specs.declared.act.Act.{Act}
use Rattle.nio_history.specs.declared.found.Mode.{Mode}
use Rattle.nio_language.specs.declared.call.Call.{Call}
use Rattle.nio_language.specs.declared.call.Call.TheVariants as call
use Rattle.nio_language.specs.declared.call.Waiting.{Waiting}
use Rattle.nio_language.specs.declared.group_call.GroupCall.{GroupCall}
use Rattle.nio_language.specs.declared.reply.Reply.{Reply}
use Rattle.nio_language.specs.declared.reply.Reply.TheVariants as reply
use Rattle.nio_plain.specs.Seq.Selections.{mode_of}
use Rattle.nio_serial.specs.Documented.{Progress}
use Rattle.nio_serial.specs.Lines.{Said, asks, refused}
use Rattle.nio_serial.specs.Replies.{begin_reply, list_reply}
use Rattle.nio_sole.proofs.Desks.{left_as}
use Rattle.nio_sole.specs.Makes.{BeginLacks, CallLacks, Lacks, LacksMemory, ListLacks, Makes}
use Rattle.nio_sole.specs.Stands.{progress_of}
use Rattle.nio_sole.specs.declared.desk.Desk.{Desk}
use Rattle.nio_steps.proofs.CallLaws.{call_as, call_of_acts}
use Rattle.nio_steps.proofs.RunLaws.{follows_bind, follows_more}
use Rattle.nio_steps.specs.Calls.{CallClause}
use Rattle.nio_steps.specs.Plan.{Plan}
use Rattle.nio_steps.specs.Runs.{Completes, Follows}
use Rattle.nio_steps.specs.SelectCalls.{Begins, ListsKeys, ListsSelected, keys_plan, selected_keys_plan, try_begin_plan}
use Rattle.nio_steps.specs.declared.refusal.BeginError.{BeginError}
use Rattle.nio_steps.specs.declared.refusal.ListError.{ListError}
use Rattle.nio_words.specs.Views.{view}
use Rattle.nio_words.specs.declared.words.Words.{Words}

-- ---- a call that lacks memory, behind no look-ups

pub lacks_ran : {R : Type 0} {me : CallerNo} {Shape : List Act → R → Type 0} {answer : R} {v0 v1 : PassView}
    (word : Call) → CallClause me Shape v0 v1 answer
    → ((acts : List Act) → Shape acts answer → CallLacks word acts)
    → CallClause me (LacksMemory (λ plan. plan) word) v0 v1 tt
lacks_ran word ran fits =
    call_as (LacksMemory (λ plan. plan) word) tt
    (λ acts shape. record {
      looked = [];
      found = λ plan. refl;
      tried = acts;
      lacks = fits acts shape;
      parts = refl;
    }) ran

-- nothing was done
pub lacks_at : {me : CallerNo} (word : Call) (pass : PassView) → IsLegal pass.limits pass.seen → CallLacks word []
    → CallClause me (LacksMemory (λ plan. plan) word) pass pass tt
lacks_at {me = me} word pass legal lacks =
    call_of_acts (LacksMemory (λ plan. plan) word) [] tt (acts_nothing me pass legal)
    (record {
      looked = [];
      found = λ plan. refl;
      tried = [];
      lacks = lacks;
      parts = refl;
    })

-- ---- behind look-ups that found every name

pub lacks_behind : {me : CallerNo} {v0 v1 v2 : PassView} (around : Plan Said → Plan Said) (word : Call)
    (some : Plan Said)
    → ((plan : Plan Said) → CallClause me (Follows (around plan)) v0 v1 plan)
    → CallClause me (LacksMemory (λ plan. plan) word) v1 v2 tt → CallClause me (LacksMemory around word) v0 v2 tt
lacks_behind {me = me} {v0 = v0} {v1 = v1} {v2 = v2} around word some finds lacks =
    let xs = done_between me v0 v1 in
    let ys = done_between me v1 v2 in
    let its = lacks.shape in
    call_of_acts (LacksMemory around word) (xs ++ ys) tt
    (acts_then me xs ys v0 v1 v2 (finds some).acts lacks.acts)
    (record {
      looked = xs ++ its.looked;
      found = λ plan. follows_more (around plan) xs plan its.looked plan (finds plan).shape (its.found plan);
      tried = its.tried;
      lacks = its.lacks;
      parts = ap (λ (zs : List Act). xs ++ zs) its.parts ∙ sym (append_assoc xs its.looked its.tried);
    })

-- ---- as a whole run

-- A line that lacks memory: its look-ups alone were made; or the beginning or the listing was refused for want of
-- memory; or the listing was made, and its reply lacks memory.
pub data Want : Type 0 where
  begin_unmade : SelNo → Waiting → Want
  begin_refused : SelNo → Waiting → Mode → Want
  told_unmade : SelNo → Bool → List (KeyId × ℕ) → Want
  keys_refused : SelNo → Want
  keys_unsaid : SelNo → Want
  selected_refused : SelNo → Want
  selected_unsaid : SelNo → Want
  pipe_unmade : CallerNo → Want
  read_unmade : ChanId → ℕ → Want
  group_unmade : GroupCall → Want

abbrev pub word_of : Want → Call
word_of (begin_unmade s waiting) = call.Begin s waiting
word_of (begin_refused s waiting mode) = call.Begin s waiting
word_of (told_unmade s elapsed pairs) = call.Told s elapsed pairs
word_of (keys_refused s) = call.Keys s
word_of (keys_unsaid s) = call.Keys s
word_of (selected_refused s) = call.Selected s
word_of (selected_unsaid s) = call.Selected s
word_of (pipe_unmade target) = call.Pipe target
word_of (read_unmade c n) = call.Pread c n
word_of (group_unmade g) = call.Group g

abbrev pub want_plan : Progress → Want → Plan Said
want_plan now (begin_unmade s waiting) = refused now reply.Busy
want_plan now (begin_refused s waiting mode) = asks now (try_begin_plan s mode None true) begin_reply
want_plan now (told_unmade s elapsed pairs) = refused now reply.Busy
want_plan now (keys_refused s) = asks now (keys_plan s true) list_reply
want_plan now (keys_unsaid s) = asks now (keys_plan s false) list_reply
want_plan now (selected_refused s) = asks now (selected_keys_plan s true) list_reply
want_plan now (selected_unsaid s) = asks now (selected_keys_plan s false) list_reply
want_plan now (pipe_unmade target) = refused now reply.ChannelsSpent
want_plan now (read_unmade c n) = refused now reply.Busy
want_plan now (group_unmade g) = refused now reply.Busy

-- the acts are a whole run of what was made of the line
pub record RunsWant (now : Progress) (around : Plan Said → Plan Said) (word : Call) (acts : List Act) : Type 0 where
  pub want : Want
  pub is : word ≡ word_of want
  pub r : Reply
  pub run : Completes (around (want_plan now want)) acts (record { reply = r; left = now })

module _ (now : Progress) (around : Plan Said → Plan Said) (looked tried : List Act)
    (found : (plan : Plan Said) → Follows (around plan) looked plan) where
  runs : (word : Call) (want : Want) (r : Reply) → word ≡ word_of want
      → Completes (want_plan now want) tried (record { reply = r; left = now })
      → RunsWant now around word (looked ++ tried)
  runs word want r is run = record {
    want = want;
    is = is;
    r = r;
    run = follows_more (around (want_plan now want)) looked (want_plan now want) tried
        (Plan.reply (record { reply = r; left = now })) (found (want_plan now want)) run;
  }

  nothing : (r : Reply) → tried ≡ [] → Completes (refused now r) tried (record { reply = r; left = now })
  nothing r none =
      subst (λ (acts : List Act). Completes (refused now r) acts (record { reply = r; left = now })) (sym none) refl

  asked : {R : Type 0} (plan : Plan R) (said : R → Reply) (answer : R) → Completes plan tried answer
      → Completes (asks now plan said) tried (record { reply = said answer; left = now })
  asked plan said answer run =
      follows_bind plan (λ a. Plan.reply (record { reply = said a; left = now })) tried (Plan.reply answer) run

  begin_runs : (s : SelNo) (waiting : Waiting) (how : Option Mode) → BeginLacks s how tried
      → RunsWant now around (call.Begin s waiting) (looked ++ tried)
  begin_runs s waiting None lacks = absurd lacks
  begin_runs s waiting (Some mode) lacks =
      ⊎_elim
      (λ (none : tried ≡ []). runs (call.Begin s waiting) (begin_unmade s waiting) reply.Busy refl
      (nothing reply.Busy none))
      (λ (run : Begins s mode None tried (Err BeginError.Memory)).
      runs (call.Begin s waiting) (begin_refused s waiting mode) reply.Busy refl
      (asked (try_begin_plan s mode None true) begin_reply (Err BeginError.Memory) run)) lacks

  keys_runs : (s : SelNo) → ListLacks (ListsKeys s) tried → RunsWant now around (call.Keys s) (looked ++ tried)
  keys_runs s lacks =
      ⊎_elim
      (λ (run : ListsKeys s tried (Err ListError.Memory)).
      runs (call.Keys s) (keys_refused s) reply.Busy refl
      (asked (keys_plan s true) list_reply (Err ListError.Memory) run))
      (λ (made : (keys : List KeyNo) × ListsKeys s tried (Ok keys)).
      runs (call.Keys s) (keys_unsaid s) (list_reply (Ok made.0)) refl
      (asked (keys_plan s false) list_reply (Ok made.0) made.1)) lacks

  selected_runs : (s : SelNo) → ListLacks (ListsSelected s) tried
      → RunsWant now around (call.Selected s) (looked ++ tried)
  selected_runs s lacks =
      ⊎_elim
      (λ (run : ListsSelected s tried (Err ListError.Memory)).
      runs (call.Selected s) (selected_refused s) reply.Busy refl
      (asked (selected_keys_plan s true) list_reply (Err ListError.Memory) run))
      (λ (made : (keys : List KeyNo) × ListsSelected s tried (Ok keys)).
      runs (call.Selected s) (selected_unsaid s) (list_reply (Ok made.0)) refl
      (asked (selected_keys_plan s false) list_reply (Ok made.0) made.1)) lacks

  lacks_runs : (word : Call) → CallLacks word tried → RunsWant now around word (looked ++ tried)
  lacks_runs call.Selector lacks = absurd lacks
  lacks_runs (call.Channel kind) lacks = absurd lacks
  lacks_runs (call.Blocking c on) lacks = absurd lacks
  lacks_runs (call.IsBlocking c) lacks = absurd lacks
  lacks_runs (call.IsOpen c) lacks = absurd lacks
  lacks_runs (call.IsRegistered c) lacks = absurd lacks
  lacks_runs (call.KeyFor c s) lacks = absurd lacks
  lacks_runs (call.Register s c ops att) lacks = absurd lacks
  lacks_runs (call.Closec c) lacks = absurd lacks
  lacks_runs (call.Valid s k) lacks = absurd lacks
  lacks_runs (call.Interest s k) lacks = absurd lacks
  lacks_runs (call.Ready s k) lacks = absurd lacks
  lacks_runs (call.Iset s k ops) lacks = absurd lacks
  lacks_runs (call.Ior s k ops) lacks = absurd lacks
  lacks_runs (call.Iand s k ops) lacks = absurd lacks
  lacks_runs (call.Cancel s k) lacks = absurd lacks
  lacks_runs (call.Unselect s k) lacks = absurd lacks
  lacks_runs (call.Attach s k att) lacks = absurd lacks
  lacks_runs (call.Attachment s k) lacks = absurd lacks
  lacks_runs (call.Begin s waiting) lacks = begin_runs s waiting (mode_of waiting) lacks
  lacks_runs (call.Told s elapsed pairs) lacks =
      runs (call.Told s elapsed pairs) (told_unmade s elapsed pairs) reply.Busy refl (nothing reply.Busy lacks)
  lacks_runs (call.Failed s) lacks = absurd lacks
  lacks_runs (call.Wakeup s) lacks = absurd lacks
  lacks_runs (call.Close s) lacks = absurd lacks
  lacks_runs (call.CloseEnd s) lacks = absurd lacks
  lacks_runs (call.Keys s) lacks = keys_runs s lacks
  lacks_runs (call.Selected s) lacks = selected_runs s lacks
  lacks_runs (call.Interrupt target) lacks = absurd lacks
  lacks_runs call.Interrupted lacks = absurd lacks
  lacks_runs (call.Pipe target) lacks =
      runs (call.Pipe target) (pipe_unmade target) reply.ChannelsSpent refl (nothing reply.ChannelsSpent lacks)
  lacks_runs (call.Pwrite c bytes) lacks = absurd lacks
  lacks_runs (call.Pread c n) lacks =
      runs (call.Pread c n) (read_unmade c n) reply.Busy refl (nothing reply.Busy lacks)
  lacks_runs (call.Group g) lacks =
      runs (call.Group g) (group_unmade g) reply.Busy refl (nothing reply.Busy lacks)

-- what was made of the line, on a desk
pub record Wants (around : Plan Said → Plan Said) (w : Words) (old new : Desk) (me : CallerNo) (word : Call)
    : Type 0 where
  pub want : Want
  pub is : word ≡ word_of want
  pub r : Reply
  pub makes : Makes w old new me (around (want_plan (progress_of old) want)) r

pub wants : (around : Plan Said → Plan Said) (w : Words) (d d' : Desk) (me : CallerNo) (word : Call)
    → Lacks around w d d' me word → Wants around w d d' me word
wants around w d d' me word lacks =
    let now = progress_of d in
    let its = lacks.call.shape in
    let run : RunsWant now around word (done_between me (view w d.pass) (view w d'.pass)) =
    subst (RunsWant now around word) (sym its.parts)
    (lacks_runs now around its.looked its.tried its.found word its.lacks) in
    let made : CallClause me (Completes (around (want_plan now run.want))) (view w d.pass) (view w d'.pass)
    (record { reply = run.r; left = now }) = record { acts = lacks.call.acts; shape = run.run } in
    record {
      want = run.want;
      is = run.is;
      r = run.r;
      makes = record {
        call = left_as made (sym lacks.same);
        ready = lacks.ready;
        places = lacks.places;
      };
    }
