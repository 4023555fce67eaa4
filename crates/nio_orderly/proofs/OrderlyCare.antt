-- Orderly histories lose no cancellation.
use Rattle.std.proofs.Common.{◌≡◌, ℕ, Bool, true, false, ◌||◌, if◌then◌else◌, Some, None, List, [], ◌∷◌, ◌++◌, refl, ap}
use Rattle.std.proofs.Common.{sym, ◌∙◌, subst, append_assoc, eqb-true}
use Rattle.std.specs.List.{All}
use Rattle.std.proofs.lemmas.List.Elements.{All-head, All-tail}
use Rattle.nio_base.specs.declared.limits.Limits.{Limits}
use Rattle.nio_base.specs.declared.numbers.SelNo.{SelNo}
use Rattle.nio_history.specs.Histories.{mine}
use Rattle.nio_history.specs.OwnEvents.{OwnClaim, has, since_first, since_entered, enters, own_claim}
use Rattle.nio_history.specs.declared.act.Act.{Act}
use Rattle.nio_history.specs.declared.act.Act.TheVariants.{DrawBit, Publish, Enter}
use Rattle.nio_history.specs.declared.found.Stage.{Stage}
use Rattle.nio_orderly.proofs.ActLists.{owes-settled}
use Rattle.nio_orderly.proofs.Careful.{rules_before}
use Rattle.nio_orderly.proofs.ClosingsKept.{close_channel-keeps, try_finish-keeps}
use Rattle.nio_orderly.proofs.Kept.{PublishKept, EnterKept, Kept, kept-append, kept-none, kept-one, keeping}
use Rattle.nio_orderly.proofs.Registration.{register-kept}
use Rattle.nio_orderly.proofs.WaitedCalls.{calls_without_waiting}
use Rattle.nio_orderly.specs.Careful.{KeepsRules}
use Rattle.nio_orderly.specs.Made.{Made, draw, table_call, waiting_call, IsRun}
use Rattle.nio_orderly.specs.Orderly.{AreRuns, HasMadeCalls}
use Rattle.nio_orderly.specs.OrderlyCare.{OrderlyIsCareful, WholeIsSettled}
use Rattle.nio_orderly.specs.Owed.{owes, publisher_duty, clearing_duty}
use Rattle.nio_orderly.specs.Settled.{claimed_key, IsSettled}
use Rattle.nio_orderly.specs.Waited.{waits}
use Rattle.nio_steps.proofs.CallWalks.{each_call}
use Rattle.nio_steps.proofs.PlanWalks.{walks_run}
use Rattle.nio_steps.proofs.Walks.{always_weaker, always_itself}
use Rattle.nio_steps.specs.ChannelCalls.{try_register_plan}
use Rattle.nio_steps.specs.Runs.{Completes}
use Rattle.nio_steps.specs.TableCalls.{TableCall, row_of}

-- ---- each call, and lists of calls

pub table_call_is_kept : (l : Limits) (call : TableCall) (answer : (row_of call).Reply) (acts : List Act)
    → IsRun l (table_call call answer) acts → Kept l acts
table_call_is_kept l call answer acts run =
    walks_run {w = keeping l} ((row_of call).plan l ((row_of call).lacks_memory answer)) acts answer
    (each_call l ((row_of call).lacks_memory answer) call
    (record {
      registers = λ s c ops att. record {
        always = always_weaker (Completes (try_register_plan l s c ops att)) (λ xs _. Kept l xs)
            (try_register_plan l s c ops att) (register-kept l s c ops att)
            (always_itself (try_register_plan l s c ops att));
      };
      closes = close_channel-keeps l;
      finishes = λ s _. try_finish-keeps s;
    })
    (λ s _. record { gives = refl; marks = λ i from bits. refl; removes = λ i. refl })
    (λ s mode known _. record { takes = λ j. refl; looks = λ i. refl })) run

unwaiting_is_kept : (l : Limits) (call : Made) (acts : List Act) → waits call ≡ false → IsRun l call acts → Kept l acts
unwaiting_is_kept l (draw n) acts is run = subst (Kept l) (sym run) (kept-one l (DrawBit n false) refl)
unwaiting_is_kept l (table_call call answer) acts is run = table_call_is_kept l call answer acts run
unwaiting_is_kept l (waiting_call call answer) acts is run = absurd (cc is)

unwaiting_are_kept : (l : Limits) (calls : List Made) (acts : List Act) → All (λ call. waits call ≡ false) calls
    → AreRuns l calls acts → Kept l acts
unwaiting_are_kept l [] acts at_once none = subst (Kept l) (sym none) (kept-none l)
unwaiting_are_kept l (call ∷ calls) acts at_once runs =
    subst (Kept l) (sym runs.parts)
    (kept-append l runs.first runs.second
    (unwaiting_is_kept l call runs.first (All-head (λ x. waits x ≡ false) call calls at_once) runs.is_first)
    (unwaiting_are_kept l calls runs.second (All-tail (λ x. waits x ≡ false) call calls at_once) runs.is_second))

-- a call that waits is a list of those
pub made_is_kept : (l : Limits) (acts : List Act) → HasMadeCalls l acts → Kept l acts
made_is_kept l acts made =
    let its = calls_without_waiting l acts made.calls made.are in
    unwaiting_are_kept l its.calls acts its.unwaiting its.runs

-- ---- orderly histories are careful

pub orderly_is_careful : OrderlyIsCareful
orderly_is_careful l events orderly n before s i found later parts claim its =
    rules_before s.0 i claim before later more (rules kept.claim (claim_is (sym kept.claimed ∙ its)))
  where
    more : List Act
    more = (orderly n).later

    kept : PublishKept before s i found (later ++ more)
    kept = (made_is_kept l (mine n events ++ more) (orderly n).whole).publishes before s i found (later ++ more)
        (ap (λ acts. acts ++ more) parts ∙ append_assoc before (Publish s i found ∷ later) more)

    claim_is : {x y : OwnClaim} → Some x ≡ Some y → x ≡ y
    claim_is same = cc

    rules : (x : OwnClaim) → x ≡ claim → KeepsRules s.0 i claim before (later ++ more)
    rules x same =
        subst (λ (y : OwnClaim). KeepsRules s.0 i y before (later ++ more)) (claim_is (sym kept.claimed ∙ its))
        (record {
          enrolled = kept.enrolled;
          enrolled_alone = kept.enrolled_alone;
          mode = kept.mode;
          prepared = kept.prepared;
        })

-- ---- whole calls are settled

-- the first act that opens a span
pub record Opened (opens : Act → Bool) (acts : List Act) : Type 0 where
  pub before : List Act
  pub act : Act
  pub parts : acts ≡ before ++ act ∷ since_first opens acts
  pub opening : opens act ≡ true

pub first_opened : (opens : Act → Bool) (acts : List Act) → has opens acts ≡ true → Opened opens acts
first_opened opens [] there = absurd (cc there)
first_opened opens (x ∷ acts) there = by_test (opens x) refl (first_opened opens acts)
  where
    by_test : (b : Bool) → opens x ≡ b → (has opens acts ≡ true → Opened opens acts) → Opened opens (x ∷ acts)
    by_test true is later =
        record {
          before = [];
          act = x;
          parts = ap (λ b. x ∷ (if b then acts else since_first opens acts)) (sym is);
          opening = is;
        }
    by_test false is later =
        let rest = later (sym (ap (λ b. b || has opens acts) is) ∙ there) in
        record {
          before = x ∷ rest.before;
          act = rest.act;
          parts = ap (λ xs. x ∷ xs) rest.parts
              ∙ ap (λ b. x ∷ (rest.before ++ rest.act ∷ (if b then acts else since_first opens acts))) (sym is);
          opening = rest.opening;
        }

pub record IsEnter (s : ℕ) (act : Act) : Type 0 where
  pub selector : SelNo
  pub is : act ≡ Enter selector None
  pub same : selector.0 ≡ s

pub is_enter : (s : ℕ) (act : Act) → enters s act ≡ true → IsEnter s act
is_enter s (Enter s' None) such = record { selector = s'; is = refl; same = eqb-true s'.0 s such }
is_enter s _ such = absurd (cc such)

-- after an entering nothing is owed once it is settled
pub enter_settled : (s : SelNo) (later : List Act) → EnterKept s later → (i : ℕ)
    → owes (clearing_duty s.0 i) later ≡ false
enter_settled s later kept i =
    ap (owes (clearing_duty s.0 i)) kept.parts
    ∙ owes-settled (clearing_duty s.0 i) kept.clearing kept.rest (kept.settled i)

entered_settled : (l : Limits) (own : List Act) → Kept l own → (s i : ℕ) → has (enters s) own ≡ true
    → owes (clearing_duty s i) (since_entered s own) ≡ false
entered_settled l own kept s i entered =
    subst (λ (t : ℕ). owes (clearing_duty t i) (since_entered s own) ≡ false) its.same
    (enter_settled its.selector (since_entered s own)
    (kept.enters first.before its.selector (since_entered s own)
    (first.parts ∙ ap (λ act. first.before ++ act ∷ since_entered s own) its.is)) i)
  where
    first : Opened (enters s) own
    first = first_opened (enters s) own entered

    its : IsEnter s first.act
    its = is_enter s first.act first.opening

pub kept_is_settled : (l : Limits) (own : List Act) → Kept l own → IsSettled l own
kept_is_settled l own kept = record {
  published = λ before s i found later parts unremoved claim its. publish_settled before s i found later claim its
      unremoved (kept.publishes before s i found later parts);
  closed = λ before c from found later parts takes s below k. kept.closes before c from found later parts takes s k
      below;
  entered = λ s i entered. entered_settled l own kept s i entered;
}
  where
    publish_settled : (before : List Act) (s : SelNo) (i : ℕ) (found : Stage) (later : List Act) (claim : OwnClaim)
        → own_claim s.0 i before ≡ Some claim → found.removed ≡ false
        → PublishKept before s i found later
        → owes (publisher_duty claim.channel.0 s.0 (claimed_key i claim)) later ≡ false
    publish_settled before s i found later claim its unremoved publish =
        let both : Some publish.claim ≡ Some claim = sym publish.claimed ∙ its in
        let same : publish.claim ≡ claim = cc both in
        ap (λ (x : OwnClaim). owes (publisher_duty x.channel.0 s.0 (claimed_key i claim)) later) (sym same)
        ∙ publish.settled unremoved claim.serial

pub whole_is_settled : WholeIsSettled
whole_is_settled l events n whole = kept_is_settled l (mine n events) (made_is_kept l (mine n events) (whole n))
