-- What a line leaves between two lines.
use Rattle.std.proofs.Common.{◌≡◌, ℕ, ◌<◌, ◌≤◌, nat_lt, Bool, true, false, if◌then◌else◌, [], Result, Ok}
use Rattle.std.proofs.Common.{Err, refl, sym, ap, ◌∙◌, subst}
use Rattle.std.proofs.Math.Bool.{Bool-set}
use Rattle.std.proofs.Math.Logic.{∥∥₁_elim, ∥∥₁_map, ∥∥₁_map₂}
use Rattle.std.proofs.lemmas.Bool.{lt-ltb, le-ltb}
use Rattle.std.proofs.lemmas.List.{append-nil}
use Rattle.std.specs.declared.alloc.AllocError.{AllocError}
use Rattle.nio_base.specs.Limits.{IsFit}
use Rattle.nio_base.specs.declared.limits.Limits.{Limits}
use Rattle.nio_base.specs.declared.numbers.CallerNo.{CallerNo}
use Rattle.nio_channel.proofs.Idle.{ready_after}
use Rattle.nio_history.specs.Histories.{mine}
use Rattle.nio_history.specs.PassViews.{PassView, HasNoPin, done_between, known}
use Rattle.nio_language.specs.declared.call.Call.{Call}
use Rattle.nio_language.specs.declared.call.Call.TheVariants as call
use Rattle.nio_language.specs.declared.reply.Reply.{Reply}
use Rattle.nio_language.specs.declared.reply.Reply.TheVariants as reply
use Rattle.nio_plain.specs.ScriptState.{ScriptState}
use Rattle.nio_plain.specs.Seq.{seq, call_of}
use Rattle.nio_plain.specs.Seq.Replies.{unchanged}
use Rattle.nio_plain.specs.declared.rules.Rules.TheVariants.{Now}
use Rattle.nio_serial.specs.Between.{IsBetween}
use Rattle.nio_serial.specs.Documented.{Progress, documented}
use Rattle.nio_serial.specs.Lines.{Said, refused, if_named, call_plan, line_plan}
use Rattle.nio_serial.specs.Replies.{begin_reply, list_reply}
use Rattle.nio_sole.proofs.Alone.{sole_view, alone}
use Rattle.nio_sole.proofs.Calls.{Leads, leads_named, leads_refused, leads_begin_memory, leads_keys_memory}
use Rattle.nio_sole.proofs.Calls.{leads_selected_memory}
use Rattle.nio_sole.proofs.Lines.{AreBetween, line_of_named, line_stands, named-rests, keys-same, selected-same}
use Rattle.nio_sole.proofs.Memory.{stays_along, begin_memory_stays, keys_memory_stays, selected_memory_stays}
use Rattle.nio_sole.proofs.Others.{call_made}
use Rattle.nio_sole.proofs.ValueSets.{reply_set, script_set}
use Rattle.nio_sole.specs.Made.{HasMade}
use Rattle.nio_sole.proofs.Wants.{Want, begin_unmade, begin_refused, told_unmade, keys_refused, keys_unsaid}
use Rattle.nio_sole.proofs.Wants.{selected_refused, selected_unsaid, pipe_unmade, read_unmade, group_unmade}
use Rattle.nio_sole.proofs.Wants.{wants, word_of, want_plan}
use Rattle.nio_sole.specs.Makes.{Makes, MakesCall, Lacks}
use Rattle.nio_sole.specs.Said.{state_at, SaysLine}
use Rattle.nio_sole.specs.Stands.{progress_of, Stands}
use Rattle.nio_sole.specs.declared.desk.Desk.{Desk}
use Rattle.nio_steps.specs.Calls.{CallClause}
use Rattle.nio_steps.specs.Plan.{Plan}
use Rattle.nio_steps.specs.Runs.{Completes}
use Rattle.nio_words.specs.Passes.{limits_of, seen, state_seen, acts_seen}
use Rattle.nio_words.specs.Views.{view}
use Rattle.nio_words.specs.declared.words.Words.{Words}

-- ---- before a line

pub has_no_pin : (w : Words) (d : Desk) (me : CallerNo) → Stands w d → HasNoPin (view w d.pass) me
has_no_pin w d me stands s i =
    ∥∥₁_elim stands.between (Bool-set _ _) (λ between. between.at_rest.unused.unpinned s.0 i me.0)

pub has_made : (w : Words) (d : Desk) (me : CallerNo) → Stands w d
    → ∥ HasMade (limits_of w) (acts_seen d.pass me) me (progress_of d) ∥₁
has_made w d me stands = ∥∥₁_map stands.made (λ made. made me)

-- ---- a line of a number that is no caller's

seq-past : (l : Limits) (st : ScriptState) (me : CallerNo) (word : Call) → nat_lt me.0 l.callers ≡ false
    → seq Now l st me word ≡ unchanged st reply.NoCaller
unfolding seq
seq-past l st me word past = ap (λ (b : Bool). if b then call_of Now l st me word else unchanged st reply.NoCaller) past

line-past : (l : Limits) (now : Progress) (me : CallerNo) (word : Call) → nat_lt me.0 l.callers ≡ false
    → line_plan l now me word ≡ refused now reply.NoCaller
unfolding line_plan
line-past l now me word past =
    ap (λ (b : Bool). if b then if_named l now word (call_plan l now me word) else refused now reply.NoCaller) past

pub no_caller : (w : Words) (d : Desk) (me : CallerNo) (word : Call) → Stands w d
    → nat_lt me.0 (limits_of w).callers ≡ false → SaysLine w d d me word (Ok reply.NoCaller)
no_caller w d me word stands past =
    let e = seq-past (limits_of w) (state_at d) me word past in
    record {
      stands = stands;
      reply = sym (ap (λ a. a.reply) e);
      left = sym (ap (λ a. a.left) e);
      memory = tt;
      later = ([], append-nil (seen d.pass));
      made = record {
        acts = [];
        grew = sym (append-nil (seen d.pass));
        run = line-past (limits_of w) (progress_of d) me word past;
      };
      lacks = tt;
      still = tt;
    }

-- ---- after a line

pub stands_after : (w : Words) (d d' : Desk) (me : CallerNo) (plan : Plan Said) (r : Reply) → Stands w d
    → Makes w d d' me plan r
    → ∥ AreBetween (limits_of w) (sole_view w d'.pass) (progress_of d') ∥₁ → Stands w d'
stands_after w d d' me plan r stands made after = record {
  fit = stands.fit;
  ready = λ n below. ready_after n made.call.acts made.ready.pass (stands.ready n below);
  places = made.places;
  between = ∥∥₁_map after (λ are. are.between);
  made = ∥∥₁_map after (λ are. are.made);
}

are_between : (w : Words) (d : Desk) → Stands w d → ∥ AreBetween (limits_of w) (sole_view w d.pass) (progress_of d) ∥₁
are_between w d stands = ∥∥₁_map₂ stands.between stands.made (λ between made. record { between = between; made = made })

line_said : (w : Words) (d d' : Desk) (me : CallerNo) (word : Call) (r : Reply) → Stands w d
    → nat_lt me.0 (limits_of w).callers ≡ true
    → Makes w d d' me (if_named (limits_of w) (progress_of d) word (call_plan (limits_of w) (progress_of d) me word)) r
    → SaysLine w d d' me word (Ok r)
line_said w d d' me word r stands drawn made =
    let said : Said = record { reply = r; left = progress_of d' } in
    let run = line_of_named me (progress_of d) word (limits_of w) (sole_view w d.pass) (sole_view w d'.pass) said drawn
    (alone w d.pass d'.pass me stands.ready made.call) in
    let after = ∥∥₁_map (are_between w d stands)
    (λ before. line_stands me (progress_of d) word (sole_view w d.pass) (sole_view w d'.pass) said stands.fit refl
    before run) in
    record {
      stands = stands_after w d d' me _ r stands made (∥∥₁_map after (λ x. x.0));
      reply = ∥∥₁_elim after (reply_set _ _) (λ x. sym (ap (λ a. a.reply) x.1));
      left = ∥∥₁_elim after (script_set _ _) (λ x. sym (ap (λ a. a.left) x.1));
      memory = tt;
      later = made.call.acts.history.goes_on;
      made = record {
        acts = done_between me (sole_view w d.pass) (sole_view w d'.pass);
        grew = (run.acts.only refl).1;
        run = run.shape;
      };
      lacks = tt;
      still = tt;
    }

-- ---- want of memory

-- what stands after a call that leaves the state and what is in progress
rested : (me : CallerNo) (now : Progress) (plan : Plan Said) (v0 v1 : PassView) (said : Said)
    → Leads v0.limits me now plan → v0.only ≡ true → AreBetween v0.limits v0 now
    → CallClause me (Completes plan) v0 v1 said → said.left ≡ now → known v1 ≡ known v0
    → AreBetween v0.limits v1 now × (documented (known v1) now ≡ documented (known v0) now)
rested me now plan v0 v1 said leads only before call left same = (
  record {
    between = subst (λ st. IsBetween v0.limits st now) (sym same) before.between;
    made = λ n. subst (λ (x : Progress). HasMade v0.limits (mine n v1.seen) n x) left
        (call_made me now plan v0 v1 said leads only before.between call before.made n);
  },
  ap (λ st. documented st now) same,
)

module _ (me : CallerNo) (now : Progress) (v0 v1 : PassView) (fit : IsFit v0.limits)
    (drawn : nat_lt me.0 v0.limits.callers ≡ true) (only : v0.only ≡ true) (before : AreBetween v0.limits v0 now)
    (said : Said) (left : said.left ≡ now) where
  -- the look-ups alone were made
  unmade : (word : Call) (r : Reply)
      → CallClause me (Completes (if_named v0.limits now word (refused now r))) v0 v1 said
      → AreBetween v0.limits v1 now × (documented (known v1) now ≡ documented (known v0) now)
  unmade word r call =
      let leads = leads_named v0.limits me now word (refused now r) (leads_refused v0.limits me now r) in
      rested me now _ v0 v1 said leads only before call left
      (stays_along me _ v0 v1 said only (named-rests v0.limits me now word (refused now r) (known v0) refl) call)

  -- a whole line was made, which leaves the documented state
  unsaid : (word : Call) → (seq Now v0.limits (documented (known v0) now) me word).left ≡ documented (known v0) now
      → CallClause me (Completes (if_named v0.limits now word (call_plan v0.limits now me word))) v0 v1 said
      → AreBetween v0.limits v1 now × (documented (known v1) now ≡ documented (known v0) now)
  unsaid word same call =
      let x = line_stands me now word v0 v1 said fit only before
      (line_of_named me now word v0.limits v0 v1 said drawn call) in (
        subst (AreBetween v0.limits v1) left x.0,
        ap (documented (known v1)) (sym left)
            ∙ (sym (ap (λ a. a.left) x.1) ∙ same),
      )

  wanted : (want : Want)
      → CallClause me (Completes (if_named v0.limits now (word_of want) (want_plan now want))) v0 v1 said
      → AreBetween v0.limits v1 now × (documented (known v1) now ≡ documented (known v0) now)
  unfolding call_plan
  wanted (begin_unmade s waiting) run = unmade (call.Begin s waiting) reply.Busy run
  wanted (begin_refused s waiting mode) run =
      rested me now _ v0 v1 said
      (leads_named v0.limits me now (call.Begin s waiting) _
      (leads_begin_memory v0.limits me now s mode begin_reply)) only before run left
      (begin_memory_stays me now s v0 v1 only waiting mode begin_reply said before.between run)
  wanted (told_unmade s elapsed pairs) run = unmade (call.Told s elapsed pairs) reply.Busy run
  wanted (keys_refused s) run =
      rested me now _ v0 v1 said
      (leads_named v0.limits me now (call.Keys s) _ (leads_keys_memory v0.limits me now s list_reply)) only before
      run left
      (keys_memory_stays me now s v0 v1 only list_reply said run)
  wanted (keys_unsaid s) run = unsaid (call.Keys s) (keys-same v0.limits (documented (known v0) now) me s) run
  wanted (selected_refused s) run =
      rested me now _ v0 v1 said
      (leads_named v0.limits me now (call.Selected s) _ (leads_selected_memory v0.limits me now s list_reply)) only
      before run left
      (selected_memory_stays me now s v0 v1 only list_reply said run)
  wanted (selected_unsaid s) run =
      unsaid (call.Selected s) (selected-same v0.limits (documented (known v0) now) me s) run
  wanted (pipe_unmade target) run = unmade (call.Pipe target) reply.ChannelsSpent run
  wanted (read_unmade c n) run = unmade (call.Pread c n) reply.Busy run
  wanted (group_unmade g) run = unmade (call.Group g) reply.Busy run

lacks_said : (w : Words) (d d' : Desk) (me : CallerNo) (word : Call) (e : AllocError) → Stands w d
    → nat_lt me.0 (limits_of w).callers ≡ true
    → Lacks (if_named (limits_of w) (progress_of d) word) w d d' me word → SaysLine w d d' me word (Err e)
lacks_said w d d' me word e stands drawn lacks =
    let now = progress_of d in
    let its = wants (if_named (limits_of w) now word) w d d' me word lacks in
    let said : Said = record { reply = its.r; left = progress_of d' } in
    let call = subst
    (λ (x : Call). CallClause me (Completes (if_named (limits_of w) now x (want_plan now its.want)))
    (sole_view w d.pass) (sole_view w d'.pass) said) its.is (alone w d.pass d'.pass me stands.ready its.makes.call) in
    let after = ∥∥₁_map (are_between w d stands)
    (λ before. wanted me now (sole_view w d.pass) (sole_view w d'.pass) stands.fit drawn refl before said lacks.same
    its.want call) in
    let run = alone w d.pass d'.pass me stands.ready lacks.call in
    record {
      stands = stands_after w d d' me _ its.r stands its.makes
          (∥∥₁_map after
          (λ x. subst (λ (p : Progress). AreBetween (limits_of w) (sole_view w d'.pass) p) (sym lacks.same) x.0));
      reply = tt;
      left = tt;
      memory = ap (documented (state_seen d'.pass)) lacks.same ∙ ∥∥₁_elim after (script_set _ _) (λ x. x.1);
      later = lacks.call.acts.history.goes_on;
      made = tt;
      lacks = record {
        acts = done_between me (sole_view w d.pass) (sole_view w d'.pass);
        grew = (run.acts.only refl).1;
        run = run.shape;
      };
      still = lacks.same;
    }

pub says_line : (w : Words) (d d' : Desk) (me : CallerNo) (word : Call) (result : Result Reply AllocError) → Stands w d
    → nat_lt me.0 (limits_of w).callers ≡ true
    → MakesCall (if_named (limits_of w) (progress_of d) word) w d d' me word result → SaysLine w d d' me word result
says_line w d d' me word (Ok r) stands drawn made = line_said w d d' me word r stands drawn made
says_line w d d' me word (Err e) stands drawn lacks = lacks_said w d d' me word e stands drawn lacks

pub drawn_below : (a b : ℕ) → a < b → nat_lt a b ≡ true
drawn_below a b below = lt-ltb a b below

pub past_limit : (a b : ℕ) → b ≤ a → nat_lt a b ≡ false
past_limit a b past = le-ltb a b past
