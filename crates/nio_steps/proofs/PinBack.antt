-- What a run of a plan does to the pins of its caller.
use Rattle.std.proofs.Common.{◌≡◌, ℕ, suc, ◌+◌, ◌-◌, ◌==◌, Bool, true, false, ◌&&◌, if◌then◌else◌, Option, Some, None}
use Rattle.std.proofs.Common.{List, [], ◌∷◌, ◌++◌, refl, ap, sym, ◌∙◌, subst, append_assoc, zero}
use Rattle.std.specs.Prelude.{fold}
use Rattle.std.specs.Option.{option_or}
use Rattle.std.proofs.lemmas.List.{append-nil}
use Rattle.std.proofs.lemmas.List.Sums.{fold-append}
use Rattle.nio_base.specs.declared.numbers.CallerNo.{CallerNo}
use Rattle.nio_base.specs.declared.numbers.ChanNo.{ChanNo}
use Rattle.nio_base.specs.declared.numbers.SelNo.{SelNo}
use Rattle.nio_history.proofs.OwnPins.{pins_are_own}
use Rattle.nio_history.proofs.Stays.{beginnings_are_legal}
use Rattle.nio_history.specs.Histories.{mine, IsLegal}
use Rattle.nio_history.specs.OwnEvents.{is_yes, last, pin_changed, keeps_pin}
use Rattle.nio_history.specs.PassViews.{PassView, done_between, HasNoPin}
use Rattle.nio_history.specs.Questions.{Question, question_of, answer_of}
use Rattle.nio_history.specs.declared.act.Act.{Act}
use Rattle.nio_history.specs.declared.act.Act.TheVariants.{Pin, Unpin, Claim, ClaimAgain}
use Rattle.nio_history.specs.declared.found.Stage.{Stage}
use Rattle.nio_steps.proofs.Walks.{Always, always_weaker, always_bind}
use Rattle.nio_steps.specs.Calls.{CallClause}
use Rattle.nio_steps.specs.Plan.{Plan, reply, ◌>>=◌, ◌>>◌}
use Rattle.nio_steps.specs.Steps.{unpin, flag_in}
use Rattle.nio_steps.specs.Sweeps.{found_or, seek, seek_to}

-- the caller keeps no pin that it took in these acts, or none but one on this index
abbrev pub NoPins : List Act → Type 0
NoPins acts = (s i : ℕ) → keeps_pin s i acts ≡ false

abbrev pub OnlyPin : SelNo → ℕ → List Act → Type 0
OnlyPin s i acts = (s' i' : ℕ) → ((s.0 == s') && (i == i')) ≡ false → keeps_pin s' i' acts ≡ false

-- ---- acts one after the other

or_assoc : (a b c : Option Bool) → option_or (option_or a b) c ≡ option_or a (option_or b c)
or_assoc (Some x) b c = refl
or_assoc None b c = refl

from_first : (tells : Act → Option Bool) (acts : List Act) (before : Option Bool)
    → fold (λ told act. option_or (tells act) told) before acts ≡ option_or (last tells acts) before
from_first tells [] before = refl
from_first tells (act ∷ acts) before =
    from_first tells acts (option_or (tells act) before)
    ∙ (sym (or_assoc (last tells acts) (tells act) before)
    ∙ ap (λ told. option_or told before)
    (ap (option_or (last tells acts)) (or_none (tells act))
    ∙ sym (from_first tells acts (option_or (tells act) None))))
  where
    or_none : (a : Option Bool) → a ≡ option_or a None
    or_none (Some x) = refl
    or_none None = refl

last-append : (tells : Act → Option Bool) (acts later : List Act)
    → last tells (acts ++ later) ≡ option_or (last tells later) (last tells acts)
last-append tells acts later =
    fold-append (λ told act. option_or (tells act) told) None acts later ∙ from_first tells later (last tells acts)

yes_neither : (a b : Option Bool) → is_yes a ≡ false → is_yes b ≡ false → is_yes (option_or a b) ≡ false
yes_neither (Some x) b first second = first
yes_neither None b first second = second

keeps-append : (s i : ℕ) (acts later : List Act) → keeps_pin s i acts ≡ false → keeps_pin s i later ≡ false
    → keeps_pin s i (acts ++ later) ≡ false
keeps-append s i acts later first second =
    ap is_yes (last-append (pin_changed s i) acts later)
    ∙ yes_neither (last (pin_changed s i) later) (last (pin_changed s i) acts) second first

pub no_pins-append : (acts later : List Act) → NoPins acts → NoPins later → NoPins (acts ++ later)
no_pins-append acts later first second s i = keeps-append s i acts later (first s i) (second s i)

pub only_pin-append : (s : SelNo) (i : ℕ) (acts later : List Act) → OnlyPin s i acts → OnlyPin s i later
    → OnlyPin s i (acts ++ later)
only_pin-append s i acts later first second s' i' other =
    keeps-append s' i' acts later (first s' i' other) (second s' i' other)

-- ---- one act

-- the question neither pins nor claims an index, nor takes a pin off
abbrev pub leaves_pins : Question → Bool
leaves_pins (Question.pin s i) = false
leaves_pins (Question.unpin s i) = false
leaves_pins (Question.claim s i c) = false
leaves_pins (Question.claim_again s i c from) = false
leaves_pins _ = true

pub leaves-none : (act : Act) → leaves_pins (question_of act) ≡ true → NoPins (act ∷ [])
leaves-none (Pin s i found) leaves = absurd (cc leaves)
leaves-none (Unpin s i) leaves = absurd (cc leaves)
leaves-none (Claim s i c found) leaves = absurd (cc leaves)
leaves-none (ClaimAgain s i c from found) leaves = absurd (cc leaves)
leaves-none _ leaves = λ s i. refl

pin_if : (b : Bool) (x : Bool) → b ≡ false → is_yes (option_or (if b then Some x else None) None) ≡ false
pin_if true x no_match = absurd (cc no_match)
pin_if false x no_match = refl

pub pin-only : (s : SelNo) (i : ℕ) (act : Act) → question_of act ≡ Question.pin s i → OnlyPin s i (act ∷ [])
pin-only s i (Pin s'' i'' found) asks s' i' other =
    let first : s'' ≡ s = cc asks in
    let second : i'' ≡ i = cc asks in
    pin_if ((s''.0 == s') && (i'' == i')) true
    (ap (λ (x : SelNo). (x.0 == s') && (i'' == i')) first
    ∙ (ap (λ (x : ℕ). (s.0 == s') && (x == i')) second ∙ other))
pin-only s i _ asks s' i' other = absurd (cc asks)

-- a claim leaves a pin on its index alone
pub claim-only : (s : SelNo) (i : ℕ) (act : Act) (c : ChanNo) → question_of act ≡ Question.claim s i c
    → OnlyPin s i (act ∷ [])
claim-only s i (Claim s'' i'' c'' true) c asks s' i' other = refl
claim-only s i (Claim s'' i'' c'' false) c asks s' i' other =
    let first : s'' ≡ s = cc asks in
    let second : i'' ≡ i = cc asks in
    pin_if ((s''.0 == s') && (i'' == i')) true
    (ap (λ (x : SelNo). (x.0 == s') && (i'' == i')) first
    ∙ (ap (λ (x : ℕ). (s.0 == s') && (x == i')) second ∙ other))
claim-only s i _ c asks s' i' other = absurd (cc asks)

pub claim_again-only : (s : SelNo) (i : ℕ) (act : Act) (c : ChanNo) (from : Stage)
    → question_of act ≡ Question.claim_again s i c from → OnlyPin s i (act ∷ [])
claim_again-only s i (ClaimAgain s'' i'' c'' from'' true) c from asks s' i' other = refl
claim_again-only s i (ClaimAgain s'' i'' c'' from'' false) c from asks s' i' other =
    let first : s'' ≡ s = cc asks in
    let second : i'' ≡ i = cc asks in
    pin_if ((s''.0 == s') && (i'' == i')) true
    (ap (λ (x : SelNo). (x.0 == s') && (i'' == i')) first
    ∙ (ap (λ (x : ℕ). (s.0 == s') && (x == i')) second ∙ other))
claim_again-only s i _ c from asks s' i' other = absurd (cc asks)

-- a claim that found the index claimed, or pinned, leaves no pin
pub claim-none : (s : SelNo) (i : ℕ) (act : Act) (c : ChanNo) → question_of act ≡ Question.claim s i c
    → flag_in (answer_of act) ≡ true → NoPins (act ∷ [])
claim-none s i (Claim s'' i'' c'' true) c asks was s' i' = refl
claim-none s i (Claim s'' i'' c'' false) c asks was s' i' = absurd (cc was)
claim-none s i _ c asks was s' i' = absurd (cc asks)

pub claim_again-none : (s : SelNo) (i : ℕ) (act : Act) (c : ChanNo) (from : Stage)
    → question_of act ≡ Question.claim_again s i c from → flag_in (answer_of act) ≡ true → NoPins (act ∷ [])
claim_again-none s i (ClaimAgain s'' i'' c'' from'' true) c from asks was s' i' = refl
claim_again-none s i (ClaimAgain s'' i'' c'' from'' false) c from asks was s' i' = absurd (cc was)
claim_again-none s i _ c from asks was s' i' = absurd (cc asks)

-- an unpinning leaves no pin on its index
unpin-gives : (s : SelNo) (i : ℕ) (act : Act) → question_of act ≡ Question.unpin s i → (s' i' : ℕ) (b : Bool)
    → ((s.0 == s') && (i == i')) ≡ b
    → last (pin_changed s' i') (act ∷ []) ≡ (if b then Some false else None)
unpin-gives s i (Unpin s'' i'') asks s' i' b is =
    let first : s'' ≡ s = cc asks in
    let second : i'' ≡ i = cc asks in
    let test : ((s''.0 == s') && (i'' == i')) ≡ b = ap (λ (x : SelNo). (x.0 == s') && (i'' == i')) first
    ∙ (ap (λ (x : ℕ). (s.0 == s') && (x == i')) second ∙ is) in
    ap (λ (c : Bool). option_or (if c then Some false else None) None) test ∙ by_test b
  where
    by_test : (c : Bool) → option_or (if c then Some false else None) None ≡ (if c then Some false else None)
    by_test true = refl
    by_test false = refl
unpin-gives s i _ asks s' i' b is = absurd (cc asks)

-- acts that keep no pin but one, and then the unpinning
pub unpinned : (s : SelNo) (i : ℕ) (acts : List Act) (act : Act) → question_of act ≡ Question.unpin s i
    → OnlyPin s i acts → NoPins (acts ++ act ∷ [])
unpinned s i acts act asks only s' i' =
    ap is_yes (last-append (pin_changed s' i') acts (act ∷ [])) ∙ by_test ((s.0 == s') && (i == i')) refl
  where
    by_test : (b : Bool) → ((s.0 == s') && (i == i')) ≡ b
        → is_yes (option_or (last (pin_changed s' i') (act ∷ [])) (last (pin_changed s' i') acts)) ≡ false
    by_test true is =
        ap (λ told. is_yes (option_or told (last (pin_changed s' i') acts))) (unpin-gives s i act asks s' i' true is)
    by_test false is =
        ap (λ told. is_yes (option_or told (last (pin_changed s' i') acts))) (unpin-gives s i act asks s' i' false is)
        ∙ only s' i' is

-- ---- plans

pub no_pins : NoPins []
no_pins s i = refl

-- ---- plans that may claim an index: a run that gives one keeps a pin on it alone

abbrev pub PinsFound : {A : Type 0} → SelNo → (A → ℕ) → List Act → Option A → Type 0
PinsFound s index acts None = NoPins acts
PinsFound s index acts (Some x) = OnlyPin s (index x) acts

pub found-append : {A : Type 0} (s : SelNo) (index : A → ℕ) (acts later : List Act) (found : Option A) → NoPins acts
    → PinsFound s index later found → PinsFound s index (acts ++ later) found
found-append s index acts later None none more = no_pins-append acts later none more
found-append s index acts later (Some x) none only = only_pin-append s (index x) acts later (λ s' i' _. none s' i') only

pub found_leaves : {A : Type 0} (s : SelNo) (index : A → ℕ) (acts : List Act) (plan : Plan (Option A)) → NoPins acts
    → Always (PinsFound s index) plan → Always (λ xs r. PinsFound s index (acts ++ xs) r) plan
found_leaves s index acts plan none here =
    always_weaker (PinsFound s index) (λ xs r. PinsFound s index (acts ++ xs) r) plan
    (λ xs r found. found-append s index acts xs r none found) here

found_turns : {A : Type 0} (s : SelNo) (index : A → ℕ) (n i : ℕ) (f : ℕ → Plan (Option A))
    → ((k : ℕ) → Always (PinsFound s index) (f k)) → Always (PinsFound s index) (seek n i f)
unfolding seek
found_turns s index zero i f each = no_pins
found_turns {A = A} s index (suc n) i f each =
    always_bind (PinsFound s index) (PinsFound s index) (f i) (found_or (seek n (i + 1) f)) (each i)
    (by_found (found_turns s index n (i + 1) f each))
  where
    by_found : Always (PinsFound s index) (seek n (i + 1) f) → (xs : List Act) (here : Option A)
        → PinsFound s index xs here → Always (λ ys r. PinsFound s index (xs ++ ys) r) (found_or (seek n (i + 1) f) here)
    by_found later xs (Some x) only = subst (OnlyPin s (index x)) (sym (append-nil xs)) only
    by_found later xs None none = found_leaves s index xs (seek n (i + 1) f) none later

pub found_seek : {A : Type 0} (s : SelNo) (index : A → ℕ) (b i : ℕ) (f : ℕ → Plan (Option A))
    → ((k : ℕ) → Always (PinsFound s index) (f k)) → Always (PinsFound s index) (seek_to b i f)
found_seek s index b i f each = found_turns s index (b - i) i f each

-- what is done with a pin on an index, which is then given back
pub leaves_pinned : {A : Type 0} (s : SelNo) (i : ℕ) (before : List Act) (plan : Plan A) → OnlyPin s i before
    → Always (λ acts _. NoPins acts) plan
    → Always (λ acts _. NoPins (before ++ acts)) (plan >>= λ answer. (unpin s i >> reply answer))
leaves_pinned s i before plan only here =
    always_bind (λ acts _. NoPins acts) (λ acts _. NoPins (before ++ acts)) plan
    (λ answer. unpin s i >> reply answer) here
    (λ xs a none act asks. subst NoPins (append_assoc before xs (act ∷ []))
    (unpinned s i (before ++ xs) act asks (only_pin-append s i before xs only (λ s' i' _. none s' i'))))

-- after one act more
pub again : {R : Type 0} (before : List Act) (act : Act) (plan : Plan R)
    → Always (λ acts _. NoPins ((before ++ act ∷ []) ++ acts)) plan
    → Always (λ acts _. NoPins (before ++ act ∷ acts)) plan
again before act plan here =
    always_weaker (λ acts _. NoPins ((before ++ act ∷ []) ++ acts)) (λ acts _. NoPins (before ++ act ∷ acts)) plan
    (λ acts _ none. subst NoPins (append_assoc before (act ∷ []) acts) none) here

-- ---- of a call on a pass

-- a caller that has no pin when it makes a call of this shape has none when the call returns
pub no_pin_after : {R : Type 0} {me : CallerNo} {Shape : List Act → R → Type 0} {answer : R} {old new : PassView}
    → ((acts : List Act) → Shape acts answer → NoPins acts) → CallClause me Shape old new answer → HasNoPin old me
    → HasNoPin new me
no_pin_after {me = me} {old = old} {new = new} gives call none s i =
    let history = call.acts.history in
    let legal_old : IsLegal old.limits old.seen = beginnings_are_legal old.limits old.seen new.seen history.goes_on
    history.legal in
    pins_are_own old.limits me s i new.seen history.legal
    ∙ (ap (keeps_pin s.0 i) history.own
    ∙ keeps-append s.0 i (mine me old.seen) (done_between me old new)
    (sym (pins_are_own old.limits me s i old.seen legal_old) ∙ none s i)
    (gives (done_between me old new) call.shape s.0 i))
