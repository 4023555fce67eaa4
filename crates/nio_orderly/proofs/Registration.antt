-- A registration that publishes a key keeps the rules of careful histories, and leaves no key to cancel.
use Rattle.std.proofs.Common.{◌≡◌, ℕ, zero, suc, ◌+◌, ◌-◌, ◌*◌, ◌==◌, nat_lt, Bool, true, false, not, ◌&&◌, ◌||◌}
use Rattle.std.proofs.Common.{if◌then◌else◌, Option, Some, None, is_some, Result, Ok, Err, List, [], ◌∷◌, ◌++◌, refl}
use Rattle.std.proofs.Common.{ap, sym, ◌∙◌, subst, append_assoc, eq-eqb, arith, ◌⊎◌, inl, inr}
use Rattle.std.proofs.lemmas.Bool.{and_parts, and_from, not-true, not-false, lt-ltb}
use Rattle.std.proofs.lemmas.List.{append-nil}
use Rattle.nio_base.specs.Kind.{valid_operations}
use Rattle.nio_base.specs.declared.limits.Limits.{Limits}
use Rattle.nio_base.specs.declared.numbers.ChanId.{ChanId}
use Rattle.nio_base.specs.declared.numbers.ChanNo.{ChanNo}
use Rattle.nio_base.specs.declared.numbers.KeyId.{KeyId}
use Rattle.nio_base.specs.declared.numbers.KeyNo.{KeyNo}
use Rattle.nio_base.specs.declared.numbers.SelNo.{SelNo}
use Rattle.nio_history.proofs.Claims.{claim_after, own_claim-more}
use Rattle.nio_history.proofs.OneMore.{since_from-more, since_first-none, since_first-append}
use Rattle.nio_history.specs.OwnEvents.{OwnClaim, has, count, under, since_from, since_first, takes_hold, releases}
use Rattle.nio_history.specs.OwnEvents.{sets_mode, claim_changed, own_claim}
use Rattle.nio_history.specs.Questions.{Question, Answer, question_of, answer_of}
use Rattle.nio_history.specs.Sets.{fits_channel, is_open_channel}
use Rattle.nio_history.specs.declared.act.Act.{Act}
use Rattle.nio_history.specs.declared.act.Act.TheVariants.{LookGate, CancelKey, LookChannel, Claim, RaiseKeys, LookKeys}
use Rattle.nio_history.specs.declared.act.Act.TheVariants.{Publish, Enrol, TryHoldBit, Release, SetMode, CloseBit}
use Rattle.nio_history.specs.declared.act.Act.TheVariants.{Enter, Unpin, ClaimAgain, Reopen}
use Rattle.nio_history.specs.declared.found.Stage.{Stage}
use Rattle.nio_orderly.proofs.ActLists.{owes-settled}
use Rattle.nio_orderly.proofs.Kept.{PublishKept, claims_key, Kept, kept-calm, is_loud}
use Rattle.nio_orderly.proofs.ListWords.{one_such, has-first, has-second}
use Rattle.nio_orderly.proofs.ListWords.{count-one, since_from-none, until_released-done}
use Rattle.nio_orderly.specs.Careful.{enrols_for, enrols_this_key, claims, leaves_below, finds_open, until_released}
use Rattle.nio_orderly.specs.Careful.{is_prepared}
use Rattle.nio_orderly.specs.Owed.{owes, publisher_duty, settles_key}
use Rattle.nio_steps.proofs.SelectionLaws.{count-append, count-none, none_of-append}
use Rattle.nio_steps.specs.ChannelCalls.{under_hold, register_enrolled, register_over, claim_taken, claim_free}
use Rattle.nio_steps.specs.ChannelCalls.{claim_at_bit, claim_in_word, search_free, words_below, claim_new, settle_key}
use Rattle.nio_steps.specs.ChannelCalls.{publish_key, make_key, make_claimed, register_first, register_next}
use Rattle.nio_steps.specs.ChannelCalls.{register_rest, register_unblocked, register_held, try_register_plan}
use Rattle.nio_base.specs.Ops.{is_within}
use Rattle.nio_steps.specs.KeyCalls.{has_bit}
use Rattle.nio_steps.specs.Names.{key}
use Rattle.nio_steps.specs.Plan.{Plan, reply, ask, ◌>>=◌, ◌>>◌, when}
use Rattle.nio_steps.specs.Runs.{Completes}
use Rattle.nio_steps.specs.Steps.{flag_in, word_in, gate_in, stage_in, channel_in, number_in, enrolled_in, holder_in}
use Rattle.nio_steps.specs.Steps.{put_free, cancel_key, unpin, release}
use Rattle.nio_steps.specs.Sweeps.{found_or, seek, seek_to}
use Rattle.nio_steps.specs.declared.refusal.ChannelError.{ChannelError}

-- ---- following a plan

-- after whatever acts along the plan, `End` holds of what the caller has done by then and of the reply
abbrev pub Leads : {R : Type 0} → (List Act → R → Type 0) → List Act → Plan R → Type 0
Leads End own (reply r) = End own r
Leads End own (ask question next) = (act : Act) → question_of act ≡ question
    → Leads End (own ++ act ∷ []) (next (answer_of act))

pub leads_run : {R : Type 0} (End : List Act → R → Type 0) (own : List Act) (plan : Plan R) (acts : List Act) (r : R)
    → Leads End own plan → Completes plan acts r → End (own ++ acts) r
leads_run End own (reply a) [] r here run = let same : a ≡ r =
    cc run in subst (λ xs. End xs r) (sym (append-nil own)) (subst (End own) same here)
leads_run End own (reply a) (act ∷ acts) r here run = absurd run
leads_run End own (ask q next) [] r here run = absurd (cc run)
leads_run End own (ask q next) (act ∷ acts) r here run =
    subst (λ xs. End xs r) (append_assoc own (act ∷ []) acts)
    (leads_run End (own ++ act ∷ []) (next (answer_of act)) acts r (here act run.0) run.1)

pub leads_bind : {A B : Type 0} (Mid : List Act → A → Type 0) (End : List Act → B → Type 0) (own : List Act)
    (plan : Plan A) (f : A → Plan B)
    → Leads Mid own plan → ((own' : List Act) (a : A) → Mid own' a → Leads End own' (f a)) → Leads End own (plan >>= f)
leads_bind Mid End own (reply a) f here later = later own a here
leads_bind Mid End own (ask q next) f here later =
    λ act asks. leads_bind Mid End (own ++ act ∷ []) (next (answer_of act)) f (here act asks) later

pub leads_if : {R : Type 0} (End : List Act → R → Type 0) (own : List Act) (b : Bool) (x y : Plan R)
    → (b ≡ true → Leads End own x) → (b ≡ false → Leads End own y) → Leads End own (if b then x else y)
leads_if End own true x y this that = this refl
leads_if End own false x y this that = that refl

-- what a search leaves: it found something, or goes on
abbrev pub Here : {A : Type 0} → (List Act → Type 0) → (List Act → A → Type 0) → List Act → Option A → Type 0
Here Before Found own None = Before own
Here Before Found own (Some x) = Found own x

leads_tries : {A : Type 0} (Before : List Act → Type 0) (Found : List Act → A → Type 0) (n i : ℕ) (own : List Act)
    (f : ℕ → Plan (Option A))
    → ((k : ℕ) (own' : List Act) → Before own' → Leads (Here Before Found) own' (f k)) → Before own
    → Leads (Here Before Found) own (seek n i f)
unfolding seek
leads_tries Before Found zero i own f each here = here
leads_tries {A = A} Before Found (suc n) i own f each here =
    leads_bind (Here Before Found) (Here Before Found) own (f i) (found_or (seek n (i + 1) f)) (each i own here)
    (by_found (λ own' before. leads_tries Before Found n (i + 1) own' f each before))
  where
    by_found : ((own' : List Act) → Before own' → Leads (Here Before Found) own' (seek n (i + 1) f))
        → (own' : List Act) (x : Option A) → Here Before Found own' x
        → Leads (Here Before Found) own' (found_or (seek n (i + 1) f) x)
    by_found later own' (Some x) found = found
    by_found later own' None before = later own' before

pub leads_seek : {A : Type 0} (Before : List Act → Type 0) (Found : List Act → A → Type 0) (b i : ℕ) (own : List Act)
    (f : ℕ → Plan (Option A))
    → ((k : ℕ) (own' : List Act) → Before own' → Leads (Here Before Found) own' (f k)) → Before own
    → Leads (Here Before Found) own (seek_to b i f)
leads_seek Before Found b i own f each here = leads_tries Before Found (b - i) i own f each here

-- ---- before a key is enrolled

-- the caller has enrolled and published no key, set no mode, closed nothing, given no number to a new channel
record Quiet (c : ChanNo) (own : List Act) : Type 0 where
  unenrolled : has (enrols_for c.0) own ≡ false
  unset : has (sets_mode c.0) own ≡ false
  calm : has is_loud own ≡ false

-- and it holds the channel
record Holding (c : ChanNo) (own : List Act) : Type 0 where
  held : has (takes_hold c.0) own ≡ true
  quiet : Quiet c own

-- a question that changes nothing of this
abbrev still : Question → Bool
still (Question.enrol c s i serial) = false
still (Question.set_mode c blocking) = false
still (Question.publish s i) = false
still (Question.close_bit c from) = false
still (Question.reopen c from) = false
still (Question.enter s) = false
still _ = true

quiet-none : (c : ChanNo) → Quiet c []
quiet-none c = record { unenrolled = refl; unset = refl; calm = refl }

quiet-one : (c : ChanNo) (act : Act) → still (question_of act) ≡ true → Quiet c (act ∷ [])
quiet-one c (Enrol c' s i serial found) is = absurd (cc is)
quiet-one c (SetMode c' blocking found) is = absurd (cc is)
quiet-one c (Publish s i found) is = absurd (cc is)
quiet-one c (CloseBit c' from found) is = absurd (cc is)
quiet-one c (Reopen c' from found) is = absurd (cc is)
quiet-one c (Enter s found) is = absurd (cc is)
quiet-one c _ is = record { unenrolled = refl; unset = refl; calm = refl }

quiet-append : (c : ChanNo) (xs ys : List Act) → Quiet c xs → Quiet c ys → Quiet c (xs ++ ys)
quiet-append c xs ys first second = record {
  unenrolled = none_of-append (enrols_for c.0) xs ys first.unenrolled second.unenrolled;
  unset = none_of-append (sets_mode c.0) xs ys first.unset second.unset;
  calm = none_of-append is_loud xs ys first.calm second.calm;
}

quiet-more : (c : ChanNo) (own : List Act) (act : Act) → still (question_of act) ≡ true → Quiet c own
    → Quiet c (own ++ act ∷ [])
quiet-more c own act is before = quiet-append c own (act ∷ []) before (quiet-one c act is)

holding-more : (c : ChanNo) (own : List Act) (act : Act) → still (question_of act) ≡ true → Holding c own
    → Holding c (own ++ act ∷ [])
holding-more c own act is before =
    record {
      held = has-first (takes_hold c.0) own (act ∷ []) before.held;
      quiet = quiet-more c own act is before.quiet;
    }

-- ---- plans that leave it so

record Stays (c : ChanNo) {R : Type 0} (plan : Plan R) : Type 0 where
  leads : (own : List Act) → Holding c own → Leads (λ own' _. Holding c own') own plan

stays_reply : {R : Type 0} {c : ChanNo} (r : R) → Stays c (reply r)
stays_reply r = record { leads = λ own here. here }

stays_ask : {R : Type 0} {c : ChanNo} (question : Question) (next : Answer → Plan R) → still question ≡ true
    → ((answer : Answer) → Stays c (next answer)) → Stays c (ask question next)
stays_ask {c = c} question next is later = record {
  leads = λ own here act asks. (later (answer_of act)).leads (own ++ act ∷ [])
      (holding-more c own act (ap still asks ∙ is) here);
}

stays_bind : {A B : Type 0} {c : ChanNo} (plan : Plan A) (f : A → Plan B) → Stays c plan → ((a : A) → Stays c (f a))
    → Stays c (plan >>= f)
stays_bind {c = c} plan f here later = record {
  leads = λ own holding. leads_bind (λ own' _. Holding c own') (λ own' _. Holding c own') own plan f
      (here.leads own holding) (λ own' a holding'. (later a).leads own' holding');
}

stays_if : {R : Type 0} {c : ChanNo} (b : Bool) (x y : Plan R) → Stays c x → Stays c y → Stays c (if b then x else y)
stays_if {c = c} b x y this that = record {
  leads = λ own holding. leads_if (λ own' _. Holding c own') own b x y (λ _. this.leads own holding)
      (λ _. that.leads own holding);
}

ruleset staying = (stays_reply, stays_ask, stays_bind, stays_if)

over-stays : {c : ChanNo} (s : SelNo) (ops att : ℕ) (enrolled : Option KeyId)
    → Stays c (register_over s ops att enrolled)
over-stays s ops att None = search staying depth 12
over-stays s ops att (Some k) =
    stays_ask _ _ refl
    (λ answer. stays_bind (register_enrolled s ops att k (stage_in answer)) _ (search staying depth 18)
    (λ over. stays_ask _ _ refl (λ _. stays_reply over)))

-- ---- an index for the key

-- the caller claimed the key's index for the channel, under its hold of it, and has the pin of that claim
record Claimed (s : SelNo) (c : ChanNo) (k : KeyId) (own : List Act) : Type 0 where
  holding : Holding c own
  under_hold : has (claims_key s.0 k.index k.serial) (under c.0 own) ≡ true
  claim : own_claim s.0 k.index own ≡ Some (record { channel = c; serial = k.serial })

-- and it found the keys' high-water mark above the index, or raised it above
record Below (s : SelNo) (c : ChanNo) (k : KeyId) (own : List Act) : Type 0 where
  claimed : Claimed s c k own
  below : has (leaves_below s.0 k.index) own ≡ true

-- the caller found the keys' high-water mark so
record Marked (s : SelNo) (c : ChanNo) (mark : ℕ) (own : List Act) : Type 0 where
  holding : Holding c own
  below : (i : ℕ) → nat_lt i mark ≡ true → has (leaves_below s.0 i) own ≡ true

marked-more : (s : SelNo) (c : ChanNo) (mark : ℕ) (own : List Act) (act : Act) → still (question_of act) ≡ true
    → Marked s c mark own → Marked s c mark (own ++ act ∷ [])
marked-more s c mark own act is before = record {
  holding = holding-more c own act is before.holding;
  below = λ i low. has-first (leaves_below s.0 i) own (act ∷ []) (before.below i low);
}

same_place : (s : SelNo) (i : ℕ) (s' : SelNo) (i' : ℕ) → s' ≡ s → i' ≡ i → ((s'.0 == s.0) && (i' == i)) ≡ true
same_place s i s' i' first second =
    ap (λ (x : SelNo). (x.0 == s.0) && (i' == i)) first ∙ (ap (λ (x : ℕ). (s.0 == s.0) && (x == i)) second
    ∙ (ap (λ b. b && (i == i)) (eq-eqb s.0 s.0 refl) ∙ eq-eqb i i refl))

-- a claim that succeeded is the caller's claim of the index
claims-new : (s : SelNo) (i : ℕ) (c : ChanNo) (own : List Act) (act : Act) → question_of act ≡ Question.claim s i c
    → flag_in (answer_of act) ≡ false
    → own_claim s.0 i (own ++ act ∷ []) ≡ Some (record { channel = c; serial = 0 })
claims-new s i c own (Claim s' i' c' false) asks free =
    let channel' : c' ≡ c = cc asks in
    own_claim-more s.0 i own (Claim s' i' c' false)
    ∙ (ap (λ b. claim_after (if b then Some (Some (record { channel = c'; serial = 0 })) else None)
    (own_claim s.0 i own)) (same_place s i s' i' (cc asks) (cc asks))
    ∙ ap (λ (d : ChanNo). Some (record { channel = d; serial = 0 })) channel')
claims-new s i c own (Claim s' i' c' true) asks free = absurd (cc free)
claims-new s i c own _ asks free = absurd (cc asks)

claims-again : (s : SelNo) (i : ℕ) (c : ChanNo) (from : Stage) (own : List Act) (act : Act)
    → question_of act ≡ Question.claim_again s i c from → flag_in (answer_of act) ≡ false
    → own_claim s.0 i (own ++ act ∷ []) ≡ Some (record { channel = c; serial = suc from.serial })
claims-again s i c from own (ClaimAgain s' i' c' from' false) asks free =
    own_claim-more s.0 i own (ClaimAgain s' i' c' from' false) ∙ (its_place ∙ its_claim (cc asks) (cc asks))
  where
    its_place : claim_after (claim_changed s.0 i (ClaimAgain s' i' c' from' false)) (own_claim s.0 i own)
        ≡ Some (record { channel = c'; serial = suc from'.serial })
    its_place =
        ap (λ b. claim_after (if b then Some (Some (record { channel = c'; serial = suc from'.serial })) else None)
        (own_claim s.0 i own)) (same_place s i s' i' (cc asks) (cc asks))

    its_claim : c' ≡ c → from' ≡ from
        → ◌≡◌ {A = Option OwnClaim} (Some (record { channel = c'; serial = suc from'.serial }))
        (Some (record { channel = c; serial = suc from.serial }))
    its_claim channel' stage' = λ j. Some (record { channel = channel' j; serial = suc (stage' j).serial })
claims-again s i c from own (ClaimAgain s' i' c' from' true) asks free = absurd (cc free)
claims-again s i c from own _ asks free = absurd (cc asks)

-- an act that doesn't take the hold is done under the same hold
under-more : (c : ℕ) (own : List Act) (act : Act) → takes_hold c act ≡ false
    → under c (own ++ act ∷ []) ≡ under c own ++ act ∷ []
under-more c own act none =
    since_from-more (takes_hold c) own act ∙ ap (λ b. if b then [] else under c own ++ act ∷ []) none

claims-under : (s : SelNo) (i q : ℕ) (c : ChanNo) (own : List Act) (act : Act) → takes_hold c.0 act ≡ false
    → claims_key s.0 i q act ≡ true → has (claims_key s.0 i q) (under c.0 (own ++ act ∷ [])) ≡ true
claims-under s i q c own act none claims_it =
    ap (has (claims_key s.0 i q)) (under-more c.0 own act none)
    ∙ has-second (claims_key s.0 i q) (under c.0 own) (act ∷ []) (ap (λ b. b || false) claims_it)

new-claims : (s : SelNo) (i : ℕ) (c : ChanNo) (act : Act) → question_of act ≡ Question.claim s i c
    → flag_in (answer_of act) ≡ false → (takes_hold c.0 act ≡ false) × (claims_key s.0 i 0 act ≡ true)
new-claims s i c (Claim s' i' c' false) asks free =
    (refl, and_from ((s'.0 == s.0) && (i' == i)) (0 == 0) (same_place s i s' i' (cc asks) (cc asks)) refl)
new-claims s i c (Claim s' i' c' true) asks free = absurd (cc free)
new-claims s i c _ asks free = absurd (cc asks)

again-claims : (s : SelNo) (i : ℕ) (c : ChanNo) (from : Stage) (act : Act)
    → question_of act ≡ Question.claim_again s i c from → flag_in (answer_of act) ≡ false
    → (takes_hold c.0 act ≡ false) × (claims_key s.0 i (suc from.serial) act ≡ true)
again-claims s i c from (ClaimAgain s' i' c' from' false) asks free =
    let stage' : from' ≡ from = cc asks in (
      refl,
      and_from ((s'.0 == s.0) && (i' == i)) (suc from.serial == suc from'.serial)
          (same_place s i s' i' (cc asks) (cc asks))
          (eq-eqb (suc from.serial) (suc from'.serial) (ap (λ (x : Stage). suc x.serial) (sym stage'))),
    )
again-claims s i c from (ClaimAgain s' i' c' from' true) asks free = absurd (cc free)
again-claims s i c from _ asks free = absurd (cc asks)

claim_taken-leads : (s : SelNo) (c : ChanNo) (mark i : ℕ) (own : List Act) → nat_lt i mark ≡ true → Marked s c mark own
    → Leads (Here (Marked s c mark) (λ own' k. Below s c k own')) own (claim_taken s c i)
claim_taken-leads s c mark i own low marked = λ look asks claim asks'.
    let looked = own ++ look ∷ [] in
    let after = marked-more s c mark looked claim (ap still asks')
    (marked-more s c mark own look (ap still asks) marked) in
    leads_if (Here (Marked s c mark) (λ own' k. Below s c k own')) (looked ++ claim ∷ []) (flag_in (answer_of claim))
    (put_free s i >> reply None)
    (reply (Some (record { index = i; serial = suc (stage_in (answer_of look)).serial })))
    (λ pinned put asks''. marked-more s c mark (looked ++ claim ∷ []) put (ap still asks'') after)
    (λ free. record {
      claimed =
          let its = again-claims s i c (stage_in (answer_of look)) claim asks' free in
          record {
            holding = after.holding;
            under_hold = claims-under s i (suc (stage_in (answer_of look)).serial) c looked claim its.0 its.1;
            claim = claims-again s i c (stage_in (answer_of look)) looked claim asks' free;
          };
      below = after.below i low;
    })

claim_free-leads : (s : SelNo) (c : ChanNo) (mark i : ℕ) (own : List Act) → nat_lt i mark ≡ true → Marked s c mark own
    → Leads (Here (Marked s c mark) (λ own' k. Below s c k own')) own (claim_free s c i)
claim_free-leads s c mark i own low marked = λ take asks.
    let after = marked-more s c mark own take (ap still asks) marked in
    leads_if (Here (Marked s c mark) (λ own' k. Below s c k own')) (own ++ take ∷ []) (flag_in (answer_of take))
    (claim_taken s c i) (reply None)
    (λ _. claim_taken-leads s c mark i (own ++ take ∷ []) low after) (λ _. after)

search-leads : (s : SelNo) (c : ChanNo) (mark : ℕ) (own : List Act) → Marked s c mark own
    → Leads (Here (Marked s c mark) (λ own' k. Below s c k own')) own (search_free s c mark)
search-leads s c mark own marked =
    leads_seek (Marked s c mark) (λ own' k. Below s c k own') (words_below mark) 0 own (claim_in_word s c mark)
    (λ j own' here look asks.
    leads_seek (Marked s c mark) (λ own' k. Below s c k own') 64 0 (own' ++ look ∷ [])
    (claim_at_bit s c mark j (word_in (answer_of look)))
    (λ b before here'. leads_if (Here (Marked s c mark) (λ own' k. Below s c k own')) before
    (has_bit (word_in (answer_of look)) b && nat_lt (64 * j + b) mark) (claim_free s c (64 * j + b)) (reply None)
    (λ both. claim_free-leads s c mark (64 * j + b) before
    (and_parts (has_bit (word_in (answer_of look)) b) (nat_lt (64 * j + b) mark) both).1 here') (λ _. here'))
    (marked-more s c mark own' look (ap still asks) here)) marked

new-leads : (s : SelNo) (c : ChanNo) (b i : ℕ) (own : List Act) → Holding c own
    → Leads (Here (Holding c) (λ own' k. Claimed s c k own')) own (seek_to b i (claim_new s c))
new-leads s c b i own holding =
    leads_seek (Holding c) (λ own' k. Claimed s c k own') b i own (claim_new s c)
    (λ j before here claim asks. by_test j before here claim asks (flag_in (answer_of claim)) refl) holding
  where
    by_test : (j : ℕ) (before : List Act) → Holding c before → (claim : Act) → question_of claim ≡ Question.claim s j c
        → (was : Bool) → flag_in (answer_of claim) ≡ was
        → Here (Holding c) (λ own' k. Claimed s c k own') (before ++ claim ∷ [])
        (if was then None else Some (record { index = j; serial = 0 }))
    by_test j before here claim asks true was = holding-more c before claim (ap still asks) here
    by_test j before here claim asks false was =
        let its = new-claims s j c claim asks was in
        record {
          holding = holding-more c before claim (ap still asks) here;
          under_hold = claims-under s j 0 c before claim its.0 its.1;
          claim = claims-new s j c before claim asks was;
        }

-- ---- its claim stays

-- a question that leaves a claim, and the hold under which it was made
abbrev leaves_claims : Question → Bool
leaves_claims (Question.claim s i c) = false
leaves_claims (Question.claim_again s i c from) = false
leaves_claims (Question.unpin s i) = false
leaves_claims (Question.try_hold_bit c) = false
leaves_claims _ = true

claim-stays : (s i : ℕ) (own : List Act) (act : Act) (claim : Option OwnClaim) → leaves_claims (question_of act) ≡ true
    → own_claim s i own ≡ claim → own_claim s i (own ++ act ∷ []) ≡ claim
claim-stays s i own act claim is has_it =
    own_claim-more s i own act ∙ (ap (λ x. claim_after x (own_claim s i own)) (unchanged act is) ∙ has_it)
  where
    unchanged : (act' : Act) → leaves_claims (question_of act') ≡ true → claim_changed s i act' ≡ None
    unchanged (Claim s' i' c found) is' = absurd (cc is')
    unchanged (ClaimAgain s' i' c from found) is' = absurd (cc is')
    unchanged (Unpin s' i') is' = absurd (cc is')
    unchanged _ is' = refl

not_claims : (s i : ℕ) (act : Act) → leaves_claims (question_of act) ≡ true → claims s i act ≡ false
not_claims s i (Claim s' i' c found) is = absurd (cc is)
not_claims s i (ClaimAgain s' i' c from found) is = absurd (cc is)
not_claims s i _ is = refl

not_taking : (c : ℕ) (act : Act) → leaves_claims (question_of act) ≡ true → takes_hold c act ≡ false
not_taking c (TryHoldBit c' found) is = absurd (cc is)
not_taking c _ is = refl

claimed-more : (s : SelNo) (c : ChanNo) (k : KeyId) (own : List Act) (act : Act) → still (question_of act) ≡ true
    → leaves_claims (question_of act) ≡ true → Claimed s c k own → Claimed s c k (own ++ act ∷ [])
claimed-more s c k own act is leaves before = record {
  holding = holding-more c own act is before.holding;
  under_hold = ap (has (claims_key s.0 k.index k.serial)) (under-more c.0 own act (not_taking c.0 act leaves))
      ∙ has-first (claims_key s.0 k.index k.serial) (under c.0 own) (act ∷ []) before.under_hold;
  claim = claim-stays s.0 k.index own act (Some (record { channel = c; serial = k.serial })) leaves before.claim;
}

-- ---- the gate is found open

-- what is prepared stays so, where the index isn't claimed
prepared-more : (s i : ℕ) (own : List Act) (act : Act) → claims s i act ≡ false → is_prepared s i own ≡ true
    → is_prepared s i (own ++ act ∷ []) ≡ true
prepared-more s i own act unclaimed before = by_test (has (leaves_below s i) own) refl
  where
    early : List Act
    early = since_first (leaves_below s i) own

    by_test : (b : Bool) → has (leaves_below s i) own ≡ b → is_prepared s i (own ++ act ∷ []) ≡ true
    by_test true is =
        ap (λ xs. has (finds_open s) (since_from (claims s i) xs))
        (since_first-append (leaves_below s i) own (act ∷ []) is)
        ∙ (ap (has (finds_open s))
        (since_from-more (claims s i) early act
        ∙ ap (λ b. if b then [] else since_from (claims s i) early ++ act ∷ []) unclaimed)
        ∙ has-first (finds_open s) (since_from (claims s i) early) (act ∷ []) before)
    by_test false is =
        let clash : false
        ≡ true = sym
        (ap (λ xs. has (finds_open s) (since_from (claims s i) xs))
        (since_first-none (leaves_below s i) own is)) ∙ before in
        absurd (cc clash)

prepared-now : (s i : ℕ) (own : List Act) (act : Act) → claims s i act ≡ false → finds_open s act ≡ true
    → has (leaves_below s i) own ≡ true → is_prepared s i (own ++ act ∷ []) ≡ true
prepared-now s i own act unclaimed open' below =
    ap (λ xs. has (finds_open s) (since_from (claims s i) xs))
    (since_first-append (leaves_below s i) own (act ∷ []) below)
    ∙ (ap (has (finds_open s))
    (since_from-more (claims s i) early act
    ∙ ap (λ b. if b then [] else since_from (claims s i) early ++ act ∷ []) unclaimed)
    ∙ has-second (finds_open s) (since_from (claims s i) early) (act ∷ []) (ap (λ b. b || false) open'))
  where
    early : List Act
    early = since_first (leaves_below s i) own

gate-open : (s : SelNo) (act : Act) → question_of act ≡ Question.look_gate s → (gate_in (answer_of act)).shut ≡ false
    → finds_open s.0 act ≡ true
gate-open s (LookGate s' found) asks unshut =
    let same : s' ≡ s = cc asks in
    ap (λ (x : SelNo). (x.0 == s.0) && not found.shut) same
    ∙ (ap (λ b. b && not found.shut) (eq-eqb s.0 s.0 refl) ∙ ap not unshut)
gate-open s _ asks unshut = absurd (cc asks)

record Prepared (s : SelNo) (c : ChanNo) (k : KeyId) (own : List Act) : Type 0 where
  claimed : Claimed s c k own
  prepared : is_prepared s.0 k.index own ≡ true

prepared-still : (s : SelNo) (c : ChanNo) (k : KeyId) (own : List Act) (act : Act) → still (question_of act) ≡ true
    → leaves_claims (question_of act) ≡ true → Prepared s c k own → Prepared s c k (own ++ act ∷ [])
prepared-still s c k own act is leaves before = record {
  claimed = claimed-more s c k own act is leaves before.claimed;
  prepared = prepared-more s.0 k.index own act (not_claims s.0 k.index act leaves) before.prepared;
}

-- ---- the key is enrolled

record Enrolled (s : SelNo) (c : ChanNo) (k : KeyId) (own : List Act) : Type 0 where
  held : has (takes_hold c.0) own ≡ true
  unset : has (sets_mode c.0) own ≡ false
  calm : has is_loud own ≡ false
  claim : own_claim s.0 k.index own ≡ Some (record { channel = c; serial = k.serial })
  prepared : is_prepared s.0 k.index own ≡ true
  claimed_under : has (claims_key s.0 k.index k.serial) (under c.0 own) ≡ true
  enrolled : has (enrols_this_key c.0 s.0 k.index k.serial) (under c.0 own) ≡ true
  alone : count (enrols_for c.0) (under c.0 own) ≡ 1

enrolled-now : (s : SelNo) (c : ChanNo) (k : KeyId) (own : List Act) (act : Act)
    → question_of act ≡ Question.enrol c s k.index k.serial → Prepared s c k own → Enrolled s c k (own ++ act ∷ [])
enrolled-now s c k own (Enrol c' s' i serial found) asks before = record {
  held = has-first (takes_hold c.0) own (enrolling ∷ []) before.claimed.holding.held;
  unset = none_of-append (sets_mode c.0) own (enrolling ∷ []) quiet.unset refl;
  calm = none_of-append is_loud own (enrolling ∷ []) quiet.calm refl;
  claim = claim-stays s.0 k.index own enrolling (Some (record { channel = c; serial = k.serial })) refl
      before.claimed.claim;
  prepared = prepared-more s.0 k.index own enrolling refl before.prepared;
  claimed_under = ap (has (claims_key s.0 k.index k.serial)) (since_from-more (takes_hold c.0) own enrolling)
      ∙ has-first (claims_key s.0 k.index k.serial) (under c.0 own) (enrolling ∷ []) before.claimed.under_hold;
  enrolled = ap (has (enrols_this_key c.0 s.0 k.index k.serial)) (since_from-more (takes_hold c.0) own enrolling)
      ∙ has-second (enrols_this_key c.0 s.0 k.index k.serial) (under c.0 own) (enrolling ∷ [])
      (ap (λ b. b || false) its_key);
  alone = ap (count (enrols_for c.0)) (since_from-more (takes_hold c.0) own enrolling)
      ∙ one_in_all (count-append (enrols_for c.0) (under c.0 own) (enrolling ∷ []))
      (count-none (enrols_for c.0) (under c.0 own) (since_from-none (enrols_for c.0) (takes_hold c.0) own
      quiet.unenrolled))
      (count-one (enrols_for c.0) enrolling its_channel);
}
  where
    enrolling : Act
    enrolling = Enrol c' s' i serial found

    quiet : Quiet c own
    quiet = before.claimed.holding.quiet

    one_in_all : {all first second : ℕ} → all ≡ first + second → first ≡ 0 → second ≡ 1 → all ≡ 1
    one_in_all sum none one = omega arith

    its_channel : (c'.0 == c.0) ≡ true
    its_channel = let same : c' ≡ c = cc asks in ap (λ (d : ChanNo). d.0 == c.0) same ∙ eq-eqb c.0 c.0 refl

    its_selector : (s'.0 == s.0) ≡ true
    its_selector = let same : s' ≡ s = cc asks in ap (λ (t : SelNo). t.0 == s.0) same ∙ eq-eqb s.0 s.0 refl

    its_key : ((c'.0 == c.0) && (s'.0 == s.0) && (i == k.index) && (serial == k.serial)) ≡ true
    its_key =
        all_four (c'.0 == c.0) (s'.0 == s.0) (i == k.index) (serial == k.serial) its_channel its_selector
        (eq-eqb i k.index (cc asks)) (eq-eqb serial k.serial (cc asks))
      where
        all_four : (p q r t : Bool) → p ≡ true → q ≡ true → r ≡ true → t ≡ true → (p && q && r && t) ≡ true
        all_four true true true t a b d e = e
        all_four false q r t a b d e = absurd (cc a)
        all_four true false r t a b d e = absurd (cc b)
        all_four true true false t a b d e = absurd (cc d)
enrolled-now s c k own _ asks before = absurd (cc asks)

-- ---- the key is published

record Published (s : SelNo) (c : ChanNo) (k : KeyId) (own : List Act) : Type 0 where
  before : List Act
  found : Stage
  later : List Act
  parts : own ≡ before ++ Publish s k.index found ∷ later
  enrolled : Enrolled s c k before
  quiet : Quiet c later
  settled : found.removed ≡ false → (serial : ℕ)
      → owes (publisher_duty c.0 s.0 (record { index = k.index; serial = serial })) later ≡ false

published-more : (s : SelNo) (c : ChanNo) (k : KeyId) (own : List Act) (act : Act) → still (question_of act) ≡ true
    → Published s c k own → Published s c k (own ++ act ∷ [])
published-more s c k own act is there = record {
  before = there.before;
  found = there.found;
  later = there.later ++ act ∷ [];
  parts = ap (λ xs. xs ++ act ∷ []) there.parts
      ∙ append_assoc there.before (Publish s k.index there.found ∷ there.later) (act ∷ []);
  enrolled = there.enrolled;
  quiet = quiet-more c there.later act is there.quiet;
  settled = λ in_set serial. owes-settled (publisher_duty c.0 s.0 (record { index = k.index; serial = serial }))
      there.later (act ∷ []) (there.settled in_set serial);
}

-- what a registration leaves: nothing is published, or a key is
abbrev Registers : SelNo → ChanNo → List Act → Type 0
Registers s c own = (has is_loud own ≡ false) ⊎ ((k : KeyId) × Published s c k own)

registers-more : (s : SelNo) (c : ChanNo) (own : List Act) (act : Act) → still (question_of act) ≡ true
    → Registers s c own → Registers s c (own ++ act ∷ [])
registers-more s c own act is (inl calm) = inl (none_of-append is_loud own (act ∷ []) calm (quiet-one c act is).calm)
registers-more s c own act is (inr there) = inr (there.0, published-more s c there.0 own act is there.1)

-- what the publisher does then settles the key: it looks at the channel, and cancels the key where it is closed
cancels-it : (s : SelNo) (i serial : ℕ) (act : Act) → question_of act ≡ Question.cancel_key s i
    → settles_key s.0 (record { index = i; serial = serial }) act ≡ true
cancels-it s i serial (CancelKey s' i' found) asks = ap (λ b. b || false) (same_place s i s' i' (cc asks) (cc asks))
cancels-it s i serial _ asks = absurd (cc asks)

looked-open : (c : ChanId) (s i serial : ℕ) (act : Act) → question_of act ≡ Question.look_channel c.number
    → is_open_channel (channel_in (answer_of act)) c.serial ≡ true
    → owes (publisher_duty c.number.0 s (record { index = i; serial = serial })) (act ∷ []) ≡ false
looked-open c s i serial (LookChannel c' found) asks open' =
    let same : c' ≡ c.number = cc asks in
    ap (λ b. if b then (b && found.closed) && true else true)
    (ap (λ (d : ChanNo). d.0 == c.number.0) same ∙ eq-eqb c.number.0 c.number.0 refl)
    ∙ ap (λ b. b && true)
    (not-true found.closed (and_parts (fits_channel found c.serial) (not found.closed) open').1)
looked-open c s i serial _ asks open' = absurd (cc asks)

looked-closed : (c : ChanNo) (s : SelNo) (i serial : ℕ) (act later : Act) → question_of act ≡ Question.look_channel c
    → question_of later ≡ Question.cancel_key s i
    → owes (publisher_duty c.0 s.0 (record { index = i; serial = serial })) (act ∷ later ∷ []) ≡ false
looked-closed c s i serial (LookChannel c' found) later asks asks' =
    let same : c' ≡ c = cc asks in
    let k : KeyId = record { index = i; serial = serial } in
    ap (λ b. if b then (b && found.closed) && not (has (settles_key s.0 k) (later ∷ []))
    else owes (publisher_duty c.0 s.0 k) (later ∷ [])) (ap (λ (d : ChanNo). d.0 == c.0) same ∙ eq-eqb c.0 c.0 refl)
    ∙ (ap (λ b. found.closed && not (b || false)) (cancels-it s i serial later asks') ∙ by_either found.closed)
  where
    by_either : (b : Bool) → (b && false) ≡ false
    by_either true = refl
    by_either false = refl
looked-closed c s i serial _ later asks asks' = absurd (cc asks)

settle-leads : (s : SelNo) (c : ChanId) (k : KeyId) (before : List Act) (found : Stage) → Enrolled s c.number k before
    → Leads (λ own _. Registers s c.number own) (before ++ Publish s k.index found ∷ []) (settle_key s c k)
settle-leads s c k before found enrolled = λ look asks.
    let published = before ++ Publish s k.index found ∷ [] in
    leads_bind (λ own _. Registers s c.number own) (λ own _. Registers s c.number own) (published ++ look ∷ [])
    (when (not (is_open_channel (channel_in (answer_of look)) c.serial)) (cancel_key s k.index))
    (λ _. reply (Ok (key s k)))
    (leads_if (λ own _. Registers s c.number own) (published ++ look ∷ [])
    (not (is_open_channel (channel_in (answer_of look)) c.serial))
    (cancel_key s k.index >> reply tt) (reply tt)
    (λ closed cancelled asks'. inr (
      k,
      record {
        before = before;
        found = found;
        later = look ∷ cancelled ∷ [];
        parts = append_assoc published (look ∷ []) (cancelled ∷ [])
            ∙ append_assoc before (Publish s k.index found ∷ []) (look ∷ cancelled ∷ []);
        enrolled = enrolled;
        quiet = quiet-append c.number (look ∷ []) (cancelled ∷ []) (quiet-one c.number look (ap still asks))
            (quiet-one c.number cancelled (ap still asks'));
        settled = λ in_set serial. looked-closed c.number s k.index serial look cancelled asks asks';
      },
    ))
    (λ open'. inr (
      k,
      record {
        before = before;
        found = found;
        later = look ∷ [];
        parts = append_assoc before (Publish s k.index found ∷ []) (look ∷ []);
        enrolled = enrolled;
        quiet = quiet-one c.number look (ap still asks);
        settled = λ in_set serial. looked-open c s.0 k.index serial look asks
            (not-false (is_open_channel (channel_in (answer_of look)) c.serial) open');
      },
    )))
    (λ own _ here. here)

published-leads : (s : SelNo) (c : ChanId) (k : KeyId) (own : List Act) (published : Act)
    → question_of published ≡ Question.publish s k.index → Enrolled s c.number k own
    → Leads (λ xs _. Registers s c.number xs) (own ++ published ∷ [])
    (if (stage_in (answer_of published)).removed then reply (Err ChannelError.ClosedSelector) else settle_key s c k)
published-leads s c k own (Publish s' i found) asks enrolled =
    let first : s' ≡ s = cc asks in
    let second : i ≡ k.index = cc asks in
    let now : own ++ Publish s' i found ∷ [] ≡ own ++ Publish s k.index found ∷ [] =
    ap (λ (t : SelNo). own ++ Publish t i found ∷ []) first ∙ ap (λ (j : ℕ). own ++ Publish s j found ∷ []) second in
    subst (λ xs. Leads (λ ys _. Registers s c.number ys) xs
    (if found.removed then reply (Err ChannelError.ClosedSelector) else settle_key s c k)) (sym now)
    (leads_if (λ ys _. Registers s c.number ys) (own ++ Publish s k.index found ∷ []) found.removed
    (reply (Err ChannelError.ClosedSelector)) (settle_key s c k)
    (λ removed. inr (
      k,
      record {
        before = own;
        found = found;
        later = [];
        parts = refl;
        enrolled = enrolled;
        quiet = quiet-none c.number;
        settled = λ in_set serial. let clash : true ≡ false = sym removed ∙ in_set in absurd (cc clash);
      },
    ))
    (λ _. settle-leads s c k own found enrolled))
published-leads s c k own _ asks enrolled = absurd (cc asks)

publish-leads : (s : SelNo) (c : ChanId) (ops att : ℕ) (k : KeyId) (own : List Act) → Prepared s c.number k own
    → Leads (λ own' _. Registers s c.number own') own (publish_key s c ops att k)
publish-leads s c ops att k own prepared =
    λ touched its_touch swapped its_ops attached its_note enrolling its_key published asks.
    let own1 = own ++ touched ∷ [] in
    let own2 = own1 ++ swapped ∷ [] in
    let own3 = own2 ++ attached ∷ [] in
    published-leads s c k (own3 ++ enrolling ∷ []) published asks
    (enrolled-now s c.number k own3 enrolling its_key
    (prepared-still s c.number k own2 attached (ap still its_note) (ap leaves_claims its_note)
    (prepared-still s c.number k own1 swapped (ap still its_ops) (ap leaves_claims its_ops)
    (prepared-still s c.number k own touched (ap still its_touch) (ap leaves_claims its_touch) prepared))))

make-leads : (s : SelNo) (c : ChanId) (ops att : ℕ) (k : KeyId) (own : List Act) → Below s c.number k own
    → Leads (λ own' _. Registers s c.number own') own (make_key s c ops att k)
make-leads s c ops att k own below = λ looked asks.
    let claimed = claimed-more s c.number k own looked (ap still asks) (ap leaves_claims asks) below.claimed in
    leads_if (λ own' _. Registers s c.number own') (own ++ looked ∷ []) (gate_in (answer_of looked)).shut
    (reply (Err ChannelError.ClosedSelector)) (publish_key s c ops att k)
    (λ shut. inl claimed.holding.quiet.calm)
    (λ unshut. publish-leads s c ops att k (own ++ looked ∷ []) (record {
      claimed = claimed;
      prepared = prepared-now s.0 k.index own looked (not_claims s.0 k.index looked (ap leaves_claims asks))
          (gate-open s looked asks unshut) below.below;
    }))

make_claimed-leads : (s : SelNo) (c : ChanId) (ops att : ℕ) (k : KeyId) (own : List Act) → Below s c.number k own
    → Leads (λ own' _. Registers s c.number own') own (make_claimed s c ops att k)
make_claimed-leads s c ops att k own below =
    leads_bind (λ own' _. Registers s c.number own') (λ own' _. Registers s c.number own') own (make_key s c ops att k)
    (λ answer. (unpin s k.index >> reply answer)) (make-leads s c ops att k own below)
    (λ own' answer here unpinned asks. registers-more s c.number own' unpinned (ap still asks) here)

-- ---- an index is claimed, or none

raised : (s : SelNo) (i : ℕ) (act : Act) → question_of act ≡ Question.raise_keys s (i + 1)
    → leaves_below s.0 i act ≡ true
raised s i (RaiseKeys s' n found) asks =
    let first : s' ≡ s = cc asks in
    let second : n ≡ i + 1 = cc asks in
    ap (λ (t : SelNo). (t.0 == s.0) && nat_lt i n) first
    ∙ (ap (λ b. b && nat_lt i n) (eq-eqb s.0 s.0 refl) ∙ lt-ltb i n (omega (arith, second)))
raised s i _ asks = absurd (cc asks)

first-leads : (s : SelNo) (c : ChanId) (ops att : ℕ) (found : Option KeyId) (own : List Act)
    → Here (Holding c.number) (λ own' k. Claimed s c.number k own') own found
    → Leads (λ own' _. Registers s c.number own') own (register_first s c ops att found)
first-leads s c ops att None own holding = inl holding.quiet.calm
first-leads s c ops att (Some k) own claimed = λ raise asks.
    make_claimed-leads s c ops att k (own ++ raise ∷ []) (record {
      claimed = claimed-more s c.number k own raise (ap still asks) (ap leaves_claims asks) claimed;
      below = has-second (leaves_below s.0 k.index) own (raise ∷ [])
          (ap (λ b. b || false) (raised s k.index raise asks));
    })

next-leads : (l : Limits) (s : SelNo) (c : ChanId) (ops att mark : ℕ) (found : Option KeyId) (own : List Act)
    → Here (Marked s c.number mark) (λ own' k. Below s c.number k own') own found
    → Leads (λ own' _. Registers s c.number own') own (register_next l s c ops att mark found)
next-leads l s c ops att mark None own marked =
    leads_bind (Here (Holding c.number) (λ own' k. Claimed s c.number k own')) (λ own' _. Registers s c.number own') own
    (seek_to l.keys mark (claim_new s c.number)) (register_first s c ops att)
    (new-leads s c.number l.keys mark own marked.holding) (λ own' found here. first-leads s c ops att found own' here)
next-leads l s c ops att mark (Some k) own there = λ cleared asks.
    make_claimed-leads s c ops att k (own ++ cleared ∷ []) (record {
      claimed = claimed-more s c.number k own cleared (ap still asks) (ap leaves_claims asks) there.claimed;
      below = has-first (leaves_below s.0 k.index) own (cleared ∷ []) there.below;
    })

marked-now : (s : SelNo) (c : ChanNo) (own : List Act) (act : Act) → question_of act ≡ Question.look_keys s
    → Holding c own → Marked s c (number_in (answer_of act)) (own ++ act ∷ [])
marked-now s c own (LookKeys s' found) asks before = record {
  holding = holding-more c own (LookKeys s' found) refl before;
  below = λ i low. has-second (leaves_below s.0 i) own (LookKeys s' found ∷ [])
      (ap (λ b. (b && nat_lt i found) || false)
      (let first : s' ≡ s = cc asks in ap (λ (t : SelNo). t.0 == s.0) first ∙ eq-eqb s.0 s.0 refl)
      ∙ ap (λ b. b || false) low);
}
marked-now s c own _ asks before = absurd (cc asks)

rest-leads : (l : Limits) (s : SelNo) (c : ChanId) (ops att : ℕ) (over : Option (Result KeyNo ChannelError))
    (own : List Act) → Holding c.number own
    → Leads (λ own' _. Registers s c.number own') own (register_rest l s c ops att over)
rest-leads l s c ops att (Some answer) own holding = inl holding.quiet.calm
rest-leads l s c ops att None own holding = λ look asks.
    let mark = number_in (answer_of look) in
    leads_bind (Here (Marked s c.number mark) (λ own' k. Below s c.number k own'))
    (λ own' _. Registers s c.number own') (own ++ look ∷ []) (search_free s c.number mark)
    (register_next l s c ops att mark)
    (search-leads s c.number mark (own ++ look ∷ []) (marked-now s c.number own look asks holding))
    (λ own' found here. next-leads l s c ops att mark found own' here)

held-leads : (l : Limits) (s : SelNo) (c : ChanId) (ops att : ℕ) (own : List Act) → Holding c.number own
    → Leads (λ own' _. Registers s c.number own') own (register_held l s c ops att)
held-leads l s c ops att own holding = λ look asks.
    let looked = holding-more c.number own look (ap still asks) holding in
    leads_if (λ own' _. Registers s c.number own') (own ++ look ∷ [])
    (not (is_open_channel (channel_in (answer_of look)) c.serial)) (reply (Err ChannelError.ClosedChannel)) _
    (λ _. inl looked.quiet.calm)
    (λ _. leads_if (λ own' _. Registers s c.number own') (own ++ look ∷ []) (channel_in (answer_of look)).blocking
    (reply (Err ChannelError.IllegalBlockingMode)) (register_unblocked l s c ops att) (λ _. inl looked.quiet.calm)
    (λ _ enrolled asks'.
    leads_bind (λ own' _. Holding c.number own') (λ own' _. Registers s c.number own')
    ((own ++ look ∷ []) ++ enrolled ∷ []) (register_over s ops att (enrolled_in (answer_of enrolled)))
    (register_rest l s c ops att)
    ((over-stays s ops att (enrolled_in (answer_of enrolled))).leads ((own ++ look ∷ []) ++ enrolled ∷ [])
    (holding-more c.number (own ++ look ∷ []) enrolled (ap still asks') looked))
    (λ own' over here. rest-leads l s c ops att over own' here)))

-- ---- the whole registration

releases-it : (c : ChanNo) (act : Act) → question_of act ≡ Question.release c → releases c.0 act ≡ true
releases-it c (Release c') asks = let same : c' ≡ c =
    cc asks in ap (λ (d : ChanNo). d.0 == c.0) same ∙ eq-eqb c.0 c.0 refl
releases-it c _ asks = absurd (cc asks)

publish-kept : (s : SelNo) (c : ChanNo) (k : KeyId) (own : List Act) (there : Published s c k own)
    → has (releases c.0) there.later ≡ true → PublishKept there.before s k.index there.found there.later
publish-kept s c k own there given_back = record {
  claim = record { channel = c; serial = k.serial };
  claimed = enrolled.claim;
  held = enrolled.held;
  given_back = given_back;
  claimed_under = enrolled.claimed_under;
  enrolled = enrolled.enrolled;
  enrolled_alone =
      all_one (count-append (enrols_for c.0) (under c.0 there.before) (until_released c.0 there.later)) enrolled.alone
      (count-none (enrols_for c.0) (until_released c.0 there.later)
      (until_released-done (enrols_for c.0) c.0 there.later there.quiet.unenrolled));
  mode = none_of-append (sets_mode c.0) (under c.0 there.before) (until_released c.0 there.later)
      (since_from-none (sets_mode c.0) (takes_hold c.0) there.before enrolled.unset)
      (until_released-done (sets_mode c.0) c.0 there.later there.quiet.unset);
  prepared = enrolled.prepared;
  settled = there.settled;
}
  where
    enrolled : Enrolled s c k there.before
    enrolled = there.enrolled

    all_one : {all first second : ℕ} → all ≡ first + second → first ≡ 1 → second ≡ 0 → all ≡ 1
    all_one sum one none = omega arith

registers-kept : (l : Limits) (s : SelNo) (c : ChanNo) (own : List Act) (act : Act)
    → question_of act ≡ Question.release c → Registers s c own → Kept l (own ++ act ∷ [])
unfolding published-more
registers-kept l s c own act asks (inl calm) =
    kept-calm l (own ++ act ∷ []) (none_of-append is_loud own (act ∷ []) calm (quiet-one c act (ap still asks)).calm)
registers-kept l s c own act asks (inr registered) = record {
  publishes = λ xs s' i found ys parts. its_publish xs s' i found ys
      (one_such is_loud there.before there.later xs ys (Publish s k.index there.found)
      (Publish s' i found) there.enrolled.calm there.quiet.calm refl (sym there.parts ∙ parts));
  closes = λ xs c' from found ys parts takes t k' below. absurd
      (cc (one_such is_loud there.before there.later xs ys (Publish s k.index there.found)
      (CloseBit c' from found) there.enrolled.calm there.quiet.calm takes (sym there.parts ∙ parts)).1);
  enters = λ xs s' ys parts. absurd
      (cc (one_such is_loud there.before there.later xs ys (Publish s k.index there.found)
      (Enter s' None) there.enrolled.calm there.quiet.calm refl (sym there.parts ∙ parts)).1);
}
  where
    k : KeyId
    k = registered.0

    there : Published s c k (own ++ act ∷ [])
    there = published-more s c k own act (ap still asks) registered.1

    given_back : has (releases c.0) there.later ≡ true
    given_back = has-second (releases c.0) registered.1.later (act ∷ []) (ap (λ b. b || false) (releases-it c act asks))

    its_publish : (xs : List Act) (s' : SelNo) (i : ℕ) (found : Stage) (ys : List Act)
        → (there.before ≡ xs) × (Publish s k.index there.found ≡ Publish s' i found) × (there.later ≡ ys)
        → PublishKept xs s' i found ys
    its_publish xs s' i found ys same =
        let first : s ≡ s' = cc same.1 in
        let second : k.index ≡ i = cc same.1 in
        let third : there.found ≡ found = cc same.1 in
        subst (λ zs. PublishKept xs s' i found zs) same.2
        (subst (λ zs. PublishKept zs s' i found there.later) same.0
        (subst (λ (t : SelNo). PublishKept there.before t i found there.later) first
        (subst (λ (j : ℕ). PublishKept there.before s j found there.later) second
        (subst (λ (f : Stage). PublishKept there.before s k.index f there.later) third
        (publish-kept s c k (own ++ act ∷ []) there given_back)))))

takes-it : (c : ChanNo) (act : Act) → question_of act ≡ Question.try_hold_bit c
    → is_some (holder_in (answer_of act)) ≡ false → takes_hold c.0 act ≡ true
takes-it c (TryHoldBit c' None) asks free = let same : c' ≡ c =
    cc asks in ap (λ (d : ChanNo). d.0 == c.0) same ∙ eq-eqb c.0 c.0 refl
takes-it c (TryHoldBit c' (Some n)) asks free = absurd (cc free)
takes-it c _ asks free = absurd (cc asks)

under_hold-leads : (l : Limits) (s : SelNo) (c : ChanNo) (own : List Act) (steps : Plan (Result KeyNo ChannelError))
    → Quiet c own
    → ((own' : List Act) → Holding c own' → Leads (λ xs _. Registers s c xs) own' steps)
    → Leads (λ xs _. Kept l xs) own (under_hold ChannelError.Busy c steps)
under_hold-leads l s c own steps quiet leads = λ held asks.
    let more = quiet-more c own held (ap still asks) quiet in
    leads_if (λ xs _. Kept l xs) (own ++ held ∷ []) (is_some (holder_in (answer_of held)))
    (reply (Err ChannelError.Busy)) (steps >>= λ answer. (release c >> reply answer))
    (λ _. kept-calm l (own ++ held ∷ []) more.calm)
    (λ free. leads_bind (λ xs _. Registers s c xs) (λ xs _. Kept l xs) (own ++ held ∷ []) steps
    (λ answer. (release c >> reply answer))
    (leads (own ++ held ∷ [])
    (record {
      held = has-second (takes_hold c.0) own (held ∷ []) (ap (λ b. b || false) (takes-it c held asks free));
      quiet = more;
    }))
    (λ xs answer here released asks'. registers-kept l s c xs released asks' here))

register-leads : (l : Limits) (s : SelNo) (c : ChanId) (ops att : ℕ)
    → Leads (λ own _. Kept l own) [] (try_register_plan l s c ops att)
unfolding try_register_plan
register-leads l s c ops att = λ look asks.
    let quiet = quiet-one c.number look (ap still asks) in
    let found = channel_in (answer_of look) in
    leads_if (λ own _. Kept l own) (look ∷ []) (not (is_within ops (valid_operations found.kind)))
    (reply (Err ChannelError.IllegalOps)) _ (λ _. kept-calm l (look ∷ []) quiet.calm)
    (λ _. leads_if (λ own _. Kept l own) (look ∷ []) (not (is_open_channel found c.serial))
    (reply (Err ChannelError.ClosedChannel)) (under_hold ChannelError.Busy c.number (register_held l s c ops att))
    (λ _. kept-calm l (look ∷ []) quiet.calm)
    (λ _. under_hold-leads l s c.number (look ∷ []) (register_held l s c ops att) quiet
    (λ own holding. held-leads l s c ops att own holding)))

pub register-kept : (l : Limits) (s : SelNo) (c : ChanId) (ops att : ℕ) (acts : List Act)
    (answer : Result KeyNo ChannelError) → Completes (try_register_plan l s c ops att) acts answer → Kept l acts
register-kept l s c ops att acts answer run =
    leads_run (λ own _. Kept l own) [] (try_register_plan l s c ops att) acts answer (register-leads l s c ops att) run
