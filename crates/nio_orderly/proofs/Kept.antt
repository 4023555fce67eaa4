-- What whole calls keep, whatever their caller did before and does after them: each publish keeps the rules of
-- careful histories, and of what a publish, a closing of a channel or an entering leaves to do, nothing is owed.
use Rattle.std.proofs.Common.{◌≡◌, ℕ, suc, ◌==◌, ◌<◌, Bool, true, false, ◌&&◌, ◌||◌, if◌then◌else◌, Some}
use Rattle.std.proofs.Common.{None, List, [], ◌∷◌, ◌++◌, refl, ap, sym, ◌∙◌, subst, append_assoc, ◌⊎◌, inl, inr}
use Rattle.std.proofs.lemmas.List.{append-nil}
use Rattle.nio_base.specs.declared.limits.Limits.{Limits}
use Rattle.nio_base.specs.declared.numbers.ChanNo.{ChanNo}
use Rattle.nio_base.specs.declared.numbers.KeyId.{KeyId}
use Rattle.nio_base.specs.declared.numbers.SelNo.{SelNo}
use Rattle.nio_history.specs.Acts.{takes_close}
use Rattle.nio_history.specs.OwnEvents.{OwnClaim, has, count, under, takes_hold, enters, releases, sets_mode, own_claim}
use Rattle.nio_history.specs.Questions.{Question, question_of}
use Rattle.nio_history.specs.declared.act.Act.{Act}
use Rattle.nio_history.specs.declared.act.Act.TheVariants.{Claim, ClaimAgain, Publish, CloseBit, Enter}
use Rattle.nio_history.specs.declared.found.Chan.{Chan}
use Rattle.nio_history.specs.declared.found.Stage.{Stage}
use Rattle.nio_orderly.proofs.ActLists.{owes-settled}
use Rattle.nio_orderly.proofs.ListWords.{InFirst, InSecond, split_at, first_or_later, has-first, has-second}
use Rattle.nio_orderly.proofs.ListWords.{no_such_act, since_from-opened, until_released-append, is_prepared-grows}
use Rattle.nio_orderly.proofs.ListWords.{own_claim-later}
use Rattle.nio_orderly.specs.Careful.{until_released, its_hold, enrols_for, enrols_this_key, is_prepared}
use Rattle.nio_orderly.specs.Owed.{Duty, owes, publisher_duty, closing_duty, clearing_duty}
use Rattle.nio_steps.proofs.PlanWalks.{Walk, is_plain, pinned_calm}
use Rattle.nio_steps.specs.Names.{channel_of}

-- ---- what is kept

-- it claimed index i of selector s for a key with this serial
abbrev pub claims_key : ℕ → ℕ → ℕ → Act → Bool
claims_key s i q (Claim s' i' c false) = (s'.0 == s) && (i' == i) && (q == 0)
claims_key s i q (ClaimAgain s' i' c from false) = (s'.0 == s) && (i' == i) && (q == suc from.serial)
claims_key s i q _ = false

-- A publish of index i of selector s, by what its caller did before it and later. It is done under a hold of the
-- channel of its claim, which it claimed the index under, and which is given back later.
pub record PublishKept (before : List Act) (s : SelNo) (i : ℕ) (found : Stage) (later : List Act) : Type 0 where
  pub claim : OwnClaim
  pub claimed : own_claim s.0 i before ≡ Some claim
  pub held : has (takes_hold claim.channel.0) before ≡ true
  pub given_back : has (releases claim.channel.0) later ≡ true
  pub claimed_under : has (claims_key s.0 i claim.serial) (under claim.channel.0 before) ≡ true
  pub enrolled : has (enrols_this_key claim.channel.0 s.0 i claim.serial) (under claim.channel.0 before) ≡ true
  pub enrolled_alone : count (enrols_for claim.channel.0) (its_hold claim.channel.0 before later) ≡ 1
  pub mode : has (sets_mode claim.channel.0) (its_hold claim.channel.0 before later) ≡ false
  pub prepared : is_prepared s.0 i before ≡ true
  pub settled : found.removed ≡ false → (serial : ℕ)
      → owes (publisher_duty claim.channel.0 s.0 (record { index = i; serial = serial })) later ≡ false

-- What a caller did after it entered selector s: it cleared the selector out before it entered it again.
pub record EnterKept (s : SelNo) (later : List Act) : Type 0 where
  pub clearing : List Act
  pub rest : List Act
  pub parts : later ≡ clearing ++ rest
  pub once : has (enters s.0) clearing ≡ false
  pub settled : (i : ℕ) → owes (clearing_duty s.0 i) clearing ≡ false

pub record Kept (l : Limits) (acts : List Act) : Type 0 where
  pub publishes : (before : List Act) (s : SelNo) (i : ℕ) (found : Stage) (later : List Act)
      → acts ≡ before ++ Publish s i found ∷ later → PublishKept before s i found later
  pub closes : (before : List Act) (c : ChanNo) (from found : Chan) (later : List Act)
      → acts ≡ before ++ CloseBit c from found ∷ later → takes_close from found ≡ true
      → (s : ℕ) (k : KeyId) → s < l.selectors → owes (closing_duty (channel_of c from.serial) s k) later ≡ false
  pub enters : (before : List Act) (s : SelNo) (later : List Act) → acts ≡ before ++ Enter s None ∷ later
      → EnterKept s later

-- ---- of acts before and after

hold_is : (c : ℕ) (past before later future : List Act) → has (takes_hold c) before ≡ true
    → has (releases c) later ≡ true → its_hold c (past ++ before) (later ++ future) ≡ its_hold c before later
hold_is c past before later future held given_back =
    ap (λ xs. xs ++ until_released c (later ++ future)) (since_from-opened (takes_hold c) past before held)
    ∙ ap (λ xs. under c before ++ xs)
    (until_released-append c later future
    ∙ ap (λ b. if b then until_released c later else later ++ until_released c future) given_back)

publish_amid : (past before : List Act) (s : SelNo) (i : ℕ) (found : Stage) (later future : List Act)
    → PublishKept before s i found later
    → PublishKept (past ++ before) s i found (later ++ future)
publish_amid past before s i found later future kept =
    let c = kept.claim.channel.0 in
    let same = hold_is c past before later future kept.held kept.given_back in
    record {
      claim = kept.claim;
      claimed = own_claim-later s.0 i past before kept.claim kept.claimed;
      held = has-second (takes_hold c) past before kept.held;
      given_back = has-first (releases c) later future kept.given_back;
      claimed_under = ap (has (claims_key s.0 i kept.claim.serial))
          (since_from-opened (takes_hold c) past before kept.held) ∙ kept.claimed_under;
      enrolled = ap (has (enrols_this_key c s.0 i kept.claim.serial))
          (since_from-opened (takes_hold c) past before kept.held) ∙ kept.enrolled;
      enrolled_alone = ap (count (enrols_for c)) same ∙ kept.enrolled_alone;
      mode = ap (has (sets_mode c)) same ∙ kept.mode;
      prepared = is_prepared-grows s.0 i past before kept.prepared;
      settled = λ in_set serial. owes-settled (publisher_duty c s.0 (record { index = i; serial = serial })) later
          future (kept.settled in_set serial);
    }

pub kept-append : (l : Limits) (xs ys : List Act) → Kept l xs → Kept l ys → Kept l (xs ++ ys)
kept-append l xs ys first second = record {
  publishes = λ before s i found later parts. publishes_in before s i found later
      (split_at xs ys before (Publish s i found) later parts);
  closes = λ before c from found later parts takes s k below. closes_in before c from found later takes s k below
      (split_at xs ys before (CloseBit c from found) later parts);
  enters = λ before s later parts. enters_in before s later (split_at xs ys before (Enter s None) later parts);
}
  where
    publishes_in : (before : List Act) (s : SelNo) (i : ℕ) (found : Stage) (later : List Act)
        → InFirst xs ys before (Publish s i found) later ⊎ InSecond xs ys before (Publish s i found) later
        → PublishKept before s i found later
    publishes_in before s i found later (inl there) =
        subst (PublishKept before s i found) (sym there.later_is)
        (publish_amid [] before s i found there.rest ys (first.publishes before s i found there.rest there.parts))
    publishes_in before s i found later (inr there) =
        subst (λ done. PublishKept done s i found later) (sym there.before_is)
        (subst (PublishKept (xs ++ there.start) s i found) (append-nil later)
        (publish_amid xs there.start s i found later [] (second.publishes there.start s i found later there.parts)))

    closes_in : (before : List Act) (c : ChanNo) (from found : Chan) (later : List Act)
        → takes_close from found ≡ true → (s : ℕ) (k : KeyId) → s < l.selectors
        → InFirst xs ys before (CloseBit c from found) later ⊎ InSecond xs ys before (CloseBit c from found) later
        → owes (closing_duty (channel_of c from.serial) s k) later ≡ false
    closes_in before c from found later takes s k below (inl there) =
        let duty : Duty = closing_duty (channel_of c from.serial) s k in
        subst (λ acts. owes duty acts ≡ false) (sym there.later_is)
        (owes-settled duty there.rest ys (first.closes before c from found there.rest there.parts takes s k below))
    closes_in before c from found later takes s k below (inr there) =
        second.closes there.start c from found later there.parts takes s k below

    enters_in : (before : List Act) (s : SelNo) (later : List Act) → InFirst xs ys before (Enter s None) later
        ⊎ InSecond xs ys before (Enter s None) later → EnterKept s later
    enters_in before s later (inl there) =
        let kept = first.enters before s there.rest there.parts in
        record {
          clearing = kept.clearing;
          rest = kept.rest ++ ys;
          parts = there.later_is ∙ (ap (λ acts. acts ++ ys) kept.parts ∙ append_assoc kept.clearing kept.rest ys);
          once = kept.once;
          settled = kept.settled;
        }
    enters_in before s later (inr there) = second.enters there.start s later there.parts

-- ---- of acts that leave nothing to do

-- it published a key, closed a channel that was open, or found a selector's turn free as its closer
abbrev pub is_loud : Act → Bool
is_loud (Publish s i found) = true
is_loud (CloseBit c from found) = takes_close from found
is_loud (Enter s None) = true
is_loud _ = false

pub kept-calm : (l : Limits) (acts : List Act) → has is_loud acts ≡ false → Kept l acts
kept-calm l acts none = record {
  publishes = λ before s i found later parts. absurd
      (no_such_act is_loud before (Publish s i found) later (ap (has is_loud) (sym parts) ∙ none) refl);
  closes = λ before c from found later parts takes s k below. absurd
      (no_such_act is_loud before (CloseBit c from found) later (ap (has is_loud) (sym parts) ∙ none) takes);
  enters = λ before s later parts. absurd
      (no_such_act is_loud before (Enter s None) later (ap (has is_loud) (sym parts) ∙ none) refl);
}

pub kept-none : (l : Limits) → Kept l []
kept-none l = kept-calm l [] refl

-- it asks for no such act
abbrev pub calm : Question → Bool
calm (Question.publish s i) = false
calm (Question.close_bit c from) = false
calm (Question.enter s) = false
calm _ = true

pub calm-act : (act : Act) → calm (question_of act) ≡ true → is_loud act ≡ false
calm-act (Publish s i found) is = absurd (cc is)
calm-act (CloseBit c from found) is = absurd (cc is)
calm-act (Enter s found) is = absurd (cc is)
calm-act _ is = refl

pub calm-one : (act : Act) → calm (question_of act) ≡ true → has is_loud (act ∷ []) ≡ false
calm-one act is = ap (λ b. b || false) (calm-act act is)

pub kept-one : (l : Limits) (act : Act) → calm (question_of act) ≡ true → Kept l (act ∷ [])
kept-one l act is = kept-calm l (act ∷ []) (calm-one act is)

-- ---- of an act that leaves something to do, and acts that do it

further_kept : (act : Act) (before further : List Act) (s : SelNo) (i : ℕ) (found : Stage) (later : List Act)
    → before ≡ act ∷ further → PublishKept further s i found later
    → PublishKept before s i found later
further_kept act before further s i found later is kept =
    subst (λ done. PublishKept done s i found later) (sym is)
    (subst (PublishKept (act ∷ further) s i found) (append-nil later)
    (publish_amid (act ∷ []) further s i found later [] kept))

pub kept-closing : (l : Limits) (c : ChanNo) (from found : Chan) (acts : List Act) → Kept l acts
    → ((s : ℕ) (k : KeyId) → s < l.selectors → owes (closing_duty (channel_of c from.serial) s k) acts ≡ false)
    → Kept l (CloseBit c from found ∷ acts)
kept-closing l c from found acts kept settled = record {
  publishes = λ before s i stage later parts. publishes_in before s i stage later
      (first_or_later closing acts before (Publish s i stage) later parts);
  closes = λ before c' from' found' later parts takes s k below. closes_in before c' from' found' later takes s k below
      (first_or_later closing acts before (CloseBit c' from' found') later parts);
  enters = λ before s later parts. enters_in before s later (first_or_later closing acts before (Enter s None) later
      parts);
}
  where
    closing : Act
    closing = CloseBit c from found

    publishes_in : (before : List Act) (s : SelNo) (i : ℕ) (stage : Stage) (later : List Act)
        → ((CloseBit c from found ≡ Publish s i stage) × (acts ≡ later))
        ⊎ ((further : List Act) × (before ≡ CloseBit c from found ∷ further)
        × (acts ≡ further ++ Publish s i stage ∷ later))
        → PublishKept before s i stage later
    publishes_in before s i stage later (inl first) = absurd (cc first.0)
    publishes_in before s i stage later (inr there) =
        further_kept (CloseBit c from found) before there.0 s i stage later there.1
        (kept.publishes there.0 s i stage later there.2)

    closes_in : (before : List Act) (c' : ChanNo) (from' found' : Chan) (later : List Act)
        → takes_close from' found' ≡ true → (s : ℕ) (k : KeyId) → s < l.selectors
        → ((CloseBit c from found ≡ CloseBit c' from' found') × (acts ≡ later))
        ⊎ ((further : List Act) × (before ≡ CloseBit c from found ∷ further)
        × (acts ≡ further ++ CloseBit c' from' found' ∷ later))
        → owes (closing_duty (channel_of c' from'.serial) s k) later ≡ false
    closes_in before c' from' found' later takes s k below (inl first) =
        let same : c ≡ c' = cc first.0 in
        let same_from : from ≡ from' = cc first.0 in
        subst (λ (d : ChanNo). owes (closing_duty (channel_of d from'.serial) s k) later ≡ false) same
        (subst (λ (f : Chan). owes (closing_duty (channel_of c f.serial) s k) later ≡ false) same_from
        (subst (λ xs. owes (closing_duty (channel_of c from.serial) s k) xs ≡ false) first.1 (settled s k below)))
    closes_in before c' from' found' later takes s k below (inr there) =
        kept.closes there.0 c' from' found' later there.2 takes s k below

    enters_in : (before : List Act) (s : SelNo) (later : List Act)
        → ((CloseBit c from found ≡ Enter s None) × (acts ≡ later))
        ⊎ ((further : List Act) × (before ≡ CloseBit c from found ∷ further) × (acts ≡ further ++ Enter s None ∷ later))
        → EnterKept s later
    enters_in before s later (inl first) = absurd (cc first.0)
    enters_in before s later (inr there) = kept.enters there.0 s later there.2

pub kept-entering : (l : Limits) (s : SelNo) (acts : List Act) → Kept l acts → has (enters s.0) acts ≡ false
    → ((i : ℕ) → owes (clearing_duty s.0 i) acts ≡ false) → Kept l (Enter s None ∷ acts)
kept-entering l s acts kept once settled = record {
  publishes = λ before s' i found later parts. publishes_in before s' i found later
      (first_or_later (Enter s None) acts before (Publish s' i found) later parts);
  closes = λ before c from found later parts takes s' k below. closes_in before c from found later takes s' k below
      (first_or_later (Enter s None) acts before (CloseBit c from found) later parts);
  enters = λ before s' later parts. enters_in before s' later
      (first_or_later (Enter s None) acts before (Enter s' None) later parts);
}
  where
    publishes_in : (before : List Act) (s' : SelNo) (i : ℕ) (found : Stage) (later : List Act)
        → ((Enter s None ≡ Publish s' i found) × (acts ≡ later))
        ⊎ ((further : List Act) × (before ≡ Enter s None ∷ further)
        × (acts ≡ further ++ Publish s' i found ∷ later))
        → PublishKept before s' i found later
    publishes_in before s' i found later (inl first) = absurd (cc first.0)
    publishes_in before s' i found later (inr there) =
        further_kept (Enter s None) before there.0 s' i found later there.1
        (kept.publishes there.0 s' i found later there.2)

    closes_in : (before : List Act) (c : ChanNo) (from found : Chan) (later : List Act)
        → takes_close from found ≡ true → (s' : ℕ) (k : KeyId) → s' < l.selectors
        → ((Enter s None ≡ CloseBit c from found) × (acts ≡ later))
        ⊎ ((further : List Act) × (before ≡ Enter s None ∷ further)
        × (acts ≡ further ++ CloseBit c from found ∷ later))
        → owes (closing_duty (channel_of c from.serial) s' k) later ≡ false
    closes_in before c from found later takes s' k below (inl first) = absurd (cc first.0)
    closes_in before c from found later takes s' k below (inr there) =
        kept.closes there.0 c from found later there.2 takes s' k below

    enters_in : (before : List Act) (s' : SelNo) (later : List Act)
        → ((Enter s None ≡ Enter s' None) × (acts ≡ later))
        ⊎ ((further : List Act) × (before ≡ Enter s None ∷ further) × (acts ≡ further ++ Enter s' None ∷ later))
        → EnterKept s' later
    enters_in before s' later (inl first) =
        let same : s ≡ s' = cc first.0 in
        subst (λ (t : SelNo). EnterKept t later) same
        (record {
          clearing = acts;
          rest = [];
          parts = sym first.1 ∙ sym (append-nil acts);
          once = once;
          settled = settled;
        })
    enters_in before s' later (inr there) = kept.enters there.0 s' later there.2

-- ---- of plans

pub plain_calm : (question : Question) → is_plain question ≡ true → calm question ≡ true
plain_calm (Question.publish s i) is = absurd (cc is)
plain_calm (Question.close_bit c from) is = absurd (cc is)
plain_calm (Question.enter s) is = absurd (cc is)
plain_calm _ is = refl

abbrev pub keeping : Limits → Walk
keeping l = record {
  Holds = Kept l;
  Calm = λ question. calm question ≡ true;
  none = kept-none l;
  append = kept-append l;
  one = kept-one l;
  plain = plain_calm;
  pinned = λ s i. pinned_calm (Kept l) (kept-append l) s i (λ act asks. kept-one l act (ap calm asks))
      (λ act asks. kept-one l act (ap calm asks));
}
