-- The words over a caller's acts say what the lists before and after say.
use Rattle.std.proofs.Common.{◌≡◌, ◌⊎◌, ℕ, Bool, true, false, ◌||◌, if◌then◌else◌, inl, inr, Option, Some, None, is_some, List}
use Rattle.std.proofs.Common.{[], ◌∷◌, ◌++◌, append_assoc, refl, ap, sym, ◌∙◌, subst}
use Rattle.std.proofs.lemmas.Bool.{or_parts, or_cases, or_right}
use Rattle.std.proofs.lemmas.List.{append-nil}
use Rattle.std.specs.Prelude.{fold}
use Rattle.std.specs.Option.{ForSome, option_or}
use Rattle.nio_base.specs.declared.numbers.KeyId.{KeyId}
use Rattle.nio_history.proofs.Keeping.{has_neither}
use Rattle.std.proofs.lemmas.List.Sums.{fold-append}
use Rattle.nio_history.specs.OwnEvents.{has, last, since_from, takes_hold, under, enrolled_found, finds_outside, enrols_key}
use Rattle.nio_history.specs.OwnEvents.{publishes, since_key_enrolled, is_clear_by, is_clear}
use Rattle.nio_history.specs.Spans.{HasAct, IsLast, IsSpan, opened, unopened, IsFoundOutside, IsClear, HasIsSaid, LastIsSaid}
use Rattle.nio_history.specs.Spans.{SpanIsSaid, ClearIsSaid}
use Rattle.nio_history.specs.declared.act.Act.{Act}
use Rattle.nio_history.specs.declared.act.Act.TheVariants.{LookKey, Pin, LookIndex}

-- ---- such an act

pub has_act : (p : Act → Bool) (own : List Act) → has p own ≡ true → HasAct p own
has_act p [] here = absurd cc
has_act p (x ∷ own) here =
    elim (or_cases (p x) (has p own) here) [
      | inl first ↦ record { before = []; act = x; after = own; parts = refl; such = first }
      | inr later ↦
          let rest = has_act p own later in
          record {
            before = x ∷ rest.before;
            act = rest.act;
            after = rest.after;
            parts = ap (λ xs. x ∷ xs) rest.parts;
            such = rest.such;
          }
    ]

pub has_there : (p : Act → Bool) (before : List Act) (act : Act) (after : List Act) → p act ≡ true
    → has p (before ++ act ∷ after) ≡ true
has_there p [] act after such = ap (λ b. b || has p after) such
has_there p (x ∷ before) act after such =
    or_right (p x) (has p (before ++ act ∷ after)) (has_there p before act after such)

pub has_is_said : HasIsSaid
has_is_said p own =
    (has_act p own, λ it. subst (λ acts. has p acts ≡ true) (sym it.parts) (has_there p it.before it.act it.after it.such))

-- ---- the latest answer

-- the answer after an act, by the one before
abbrev next : {A : Type 0} → (Act → Option A) → Option A → Act → Option A
next tells told act = option_or (tells act) told

-- acts without an answer leave the one before
none_told : {A : Type 0} (tells : Act → Option A) (acts : List Act) (told : Option A)
    → has (λ a. is_some (tells a)) acts ≡ false → fold (λ x act. next tells x act) told acts ≡ told
none_told tells [] told none = refl
none_told tells (x ∷ acts) told none =
    let parts = or_parts (is_some (tells x)) (has (λ a. is_some (tells a)) acts) none in
    none_told tells acts (next tells told x) parts.1 ∙ by_answer (tells x) told parts.0
  where
    by_answer : {A : Type 0} (o : Option A) (was : Option A) → is_some o ≡ false → option_or o was ≡ was
    by_answer None was unanswered = refl
    by_answer (Some a) was unanswered = absurd (cc unanswered)

-- the latest answer stands in these acts, or stood before
abbrev LastIn : {A : Type 0} → (Act → Option A) → List Act → Option A → A → Type 0
LastIn tells acts told answer =
    IsLast tells acts answer ⊎ ((told ≡ Some answer) × (has (λ a. is_some (tells a)) acts ≡ false))

one_before : {A : Type 0} (tells : Act → Option A) (x : Act) (acts : List Act) (told : Option A) (answer : A)
    → (o : Option A) → tells x ≡ o → LastIn tells acts (option_or o told) answer → LastIn tells (x ∷ acts) told answer
one_before tells x acts told answer o told_x (inl later) = inl (record {
  before = x ∷ later.before;
  act = later.act;
  after = later.after;
  parts = ap (λ xs. x ∷ xs) later.parts;
  told = later.told;
  none_after = later.none_after;
})
one_before tells x acts told answer None told_x (inr here) =
    inr (here.0, ap (λ o. is_some o || has (λ a. is_some (tells a)) acts) told_x ∙ here.1)
one_before tells x acts told answer (Some a) told_x (inr here) = inl (record {
  before = [];
  act = x;
  after = acts;
  parts = refl;
  told = told_x ∙ here.0;
  none_after = here.1;
})

last_act : {A : Type 0} (tells : Act → Option A) (acts : List Act) (told : Option A) (answer : A)
    → fold (λ x act. next tells x act) told acts ≡ Some answer → LastIn tells acts told answer
last_act tells [] told answer is = inr (is, refl)
last_act tells (x ∷ acts) told answer is =
    one_before tells x acts told answer (tells x) refl (last_act tells acts (next tells told x) answer is)

last_there : {A : Type 0} (tells : Act → Option A) (acts : List Act) (answer : A) → IsLast tells acts answer
    → last tells acts ≡ Some answer
last_there tells acts answer it =
    ap (λ xs. last tells xs) it.parts
    ∙ (fold-append (λ x act. next tells x act) None it.before (it.act ∷ it.after)
    ∙ (none_told tells it.after (next tells (last tells it.before) it.act) it.none_after
    ∙ ap (λ o. option_or o (last tells it.before)) it.told))

last_found : {A : Type 0} (tells : Act → Option A) (acts : List Act) (answer : A) → last tells acts ≡ Some answer
    → IsLast tells acts answer
last_found tells acts answer is = by_last (last_act tells acts None answer is)
  where
    by_last : {A : Type 0} {tells' : Act → Option A} {acts' : List Act} {answer' : A}
        → LastIn tells' acts' None answer' → IsLast tells' acts' answer'
    by_last (inl it) = it
    by_last (inr not_so) = absurd (cc (not_so.0))

pub last_is_said : {A : Type 0} → LastIsSaid A
last_is_said tells own answer = (last_found tells own answer, last_there tells own answer)

-- ---- the span since an act

-- the span after an act, by the one before
abbrev more : (Act → Bool) → List Act → Act → List Act
more opens since act = if opens act then [] else since ++ act ∷ []

none_opens : (opens : Act → Bool) (acts since : List Act) → has opens acts ≡ false
    → fold (λ x act. more opens x act) since acts ≡ since ++ acts
none_opens opens [] since none = sym (append-nil since)
none_opens opens (x ∷ acts) since none =
    let parts = or_parts (opens x) (has opens acts) none in
    ap (λ b. fold (λ xs act. more opens xs act) (if b then [] else since ++ x ∷ []) acts) parts.0
    ∙ (none_opens opens acts (since ++ x ∷ []) parts.1 ∙ append_assoc since (x ∷ []) acts)

-- acts that open no span go on with the one before
pub since_from-on : (opens : Act → Bool) (before after : List Act) → has opens after ≡ false
    → since_from opens (before ++ after) ≡ since_from opens before ++ after
since_from-on opens before after none =
    fold-append (λ x act. more opens x act) [] before after ∙ none_opens opens after (since_from opens before) none

-- the span was opened by one of these acts
record OpenedIn (opens : Act → Bool) (acts span : List Act) : Type 0 where
  before : List Act
  act : Act
  parts : acts ≡ before ++ act ∷ span
  such : opens act ≡ true
  none : has opens span ≡ false

-- or it goes on over them
abbrev SpanIn : (Act → Bool) → List Act → List Act → List Act → Type 0
SpanIn opens acts since span = OpenedIn opens acts span ⊎ ((span ≡ since ++ acts) × (has opens acts ≡ false))

opened_later : (opens : Act → Bool) (x : Act) (acts span : List Act) → OpenedIn opens acts span
    → OpenedIn opens (x ∷ acts) span
opened_later opens x acts span it = record {
  before = x ∷ it.before;
  act = it.act;
  parts = ap (λ xs. x ∷ xs) it.parts;
  such = it.such;
  none = it.none;
}

one_more : (opens : Act → Bool) (x : Act) (acts since : List Act) (b : Bool) (span : List Act) → opens x ≡ b
    → SpanIn opens acts (if b then [] else since ++ x ∷ []) span → SpanIn opens (x ∷ acts) since span
one_more opens x acts since b span opens_x (inl it) = inl (opened_later opens x acts span it)
one_more opens x acts since true span opens_x (inr here) = inl (record {
  before = [];
  act = x;
  parts = ap (λ xs. x ∷ xs) (sym here.0);
  such = opens_x;
  none = subst (λ xs. has opens xs ≡ false) (sym here.0) here.1;
})
one_more opens x acts since false span opens_x (inr here) =
    inr (here.0 ∙ append_assoc since (x ∷ []) acts, ap (λ b. b || has opens acts) opens_x ∙ here.1)

span_in : (opens : Act → Bool) (acts since : List Act)
    → SpanIn opens acts since (fold (λ x act. more opens x act) since acts)
span_in opens [] since = inr (sym (append-nil since), refl)
span_in opens (x ∷ acts) since =
    one_more opens x acts since (opens x) (fold (λ xs act. more opens xs act) (more opens since x) acts) refl
    (span_in opens acts (more opens since x))

pub span_of : (opens : Act → Bool) (own : List Act) → IsSpan opens own (since_from opens own)
span_of opens own = by_span (since_from opens own) (span_in opens own [])
  where
    by_span : (span : List Act) → SpanIn opens own [] span → IsSpan opens own span
    by_span span (inl it) = opened it.before it.act it.parts it.such it.none
    by_span span (inr whole) = unopened (sym whole.0) (subst (λ xs. has opens xs ≡ false) (sym whole.0) whole.1)

pub span_is : (opens : Act → Bool) (own since : List Act) → IsSpan opens own since → since_from opens own ≡ since
span_is opens own since (opened before act parts opens_it none) =
    ap (λ xs. since_from opens xs) parts
    ∙ (fold-append (λ x a. more opens x a) [] before (act ∷ since)
    ∙ (ap (λ b. fold (λ x a. more opens x a) (if b then [] else since_from opens before ++ act ∷ []) since) opens_it
    ∙ none_opens opens since [] none))
span_is opens own since (unopened same none) = ap (λ xs. since_from opens xs) same ∙ none_opens opens since [] none

pub span_is_said : SpanIsSaid
span_is_said opens own since =
    (λ is. subst (λ xs. IsSpan opens own xs) is (span_of opens own), span_is opens own since)

-- ---- a clear number

-- acts after an act of a span
pub has_after : (p : Act → Bool) (before : List Act) (act : Act) (after : List Act) → has p (before ++ act ∷ after) ≡ false
    → has p after ≡ false
has_after p [] act after none = (or_parts (p act) (has p after) none).1
has_after p (x ∷ before) act after none = has_after p before act after (or_parts (p x) (has p (before ++ act ∷ after)) none).1

none_of_two : (p q : Act → Bool) (acts : List Act) → has (λ act. p act || q act) acts ≡ false
    → (has p acts ≡ false) × (has q acts ≡ false)
none_of_two p q [] none = (refl, refl)
none_of_two p q (x ∷ acts) none =
    let parts = or_parts (p x || q x) (has (λ act. p act || q act) acts) none in
    let first = or_parts (p x) (q x) parts.0 in
    let rest = none_of_two p q acts parts.1 in (
      ap (λ b. b || has p acts) first.0 ∙ rest.0,
      ap (λ b. b || has q acts) first.1 ∙ rest.1,
    )

-- it enrols a key for the channel, or publishes the key of the index
abbrev ends : ℕ → ℕ → KeyId → Act → Bool
ends c s k act = enrols_key c s act || publishes s k.index act

outside_at : (c s : ℕ) (held : List Act) (k : KeyId) (before : List Act) (act : Act) (after : List Act)
    → held ≡ before ++ act ∷ after → finds_outside s k act ≡ true → has (λ a. ends c s k a) after ≡ false
    → IsFoundOutside c s held k
outside_at c s held k before act after parts outside none =
    let both = none_of_two (enrols_key c s) (publishes s k.index) after none in
    record {
      before = before;
      act = act;
      after = after;
      parts = parts;
      outside = outside;
      none_enrolled = both.0;
      unpublished = both.1;
    }

found_outside : (c s : ℕ) (held : List Act) (k : KeyId)
    → has (finds_outside s k) (since_key_enrolled c s k.index held) ≡ true → IsFoundOutside c s held k
found_outside c s held k here =
    by_span (since_key_enrolled c s k.index held) (span_of (λ a. ends c s k a) held)
    (has_act (finds_outside s k) (since_key_enrolled c s k.index held) here)
  where
    by_span : (since : List Act) → IsSpan (λ a. ends c s k a) held since → HasAct (finds_outside s k) since
        → IsFoundOutside c s held k
    by_span since (opened before act parts opens none) it =
        outside_at c s held k (before ++ act ∷ it.before) it.act it.after
        (parts ∙ (ap (λ acts. before ++ act ∷ acts) it.parts
        ∙ sym (append_assoc before (act ∷ it.before) (it.act ∷ it.after))))
        it.such
        (has_after (λ a. ends c s k a) it.before it.act it.after
        (subst (λ acts. has (λ a. ends c s k a) acts ≡ false) it.parts none))
    by_span since (unopened same none) it =
        outside_at c s held k it.before it.act it.after (same ∙ it.parts) it.such
        (has_after (λ a. ends c s k a) it.before it.act it.after
        (subst (λ acts. has (λ a. ends c s k a) acts ≡ false) it.parts none))

-- an act that finds a key ends no span
finds_on : (c s : ℕ) (k : KeyId) (act : Act) → finds_outside s k act ≡ true → ends c s k act ≡ false
finds_on c s k (LookKey s' i found) finds = refl
finds_on c s k (Pin s' i found) finds = refl
finds_on c s k (LookIndex s' i found) finds = refl
finds_on c s k act finds = absurd (cc finds)

outside_there : (c s : ℕ) (held : List Act) (k : KeyId) → IsFoundOutside c s held k
    → has (finds_outside s k) (since_key_enrolled c s k.index held) ≡ true
outside_there c s held k it =
    let none : has (λ a. ends c s k a) (it.act ∷ it.after) ≡ false =
    ap (λ b. b || has (λ a. ends c s k a) it.after) (finds_on c s k it.act it.outside)
    ∙ has_neither (enrols_key c s) (publishes s k.index) it.after it.none_enrolled it.unpublished in
    subst (λ acts. has (finds_outside s k) acts ≡ true)
    (sym (ap (λ acts. since_key_enrolled c s k.index acts) it.parts
    ∙ since_from-on (λ a. ends c s k a) it.before (it.act ∷ it.after) none))
    (has_there (finds_outside s k) (since_key_enrolled c s k.index it.before) it.act it.after it.outside)

clear_by : (c s : ℕ) (own held : List Act) → IsSpan (takes_hold c) own held → (told : Option (Option KeyId))
    → last (enrolled_found c s) held ≡ told → is_clear_by c s held told ≡ true → IsClear c s own
clear_by c s own held span None is here = absurd (cc here)
clear_by c s own held span (Some enrolled) is here = record {
  held = held;
  span = span;
  enrolled = enrolled;
  found = last_found (enrolled_found c s) held enrolled is;
  outside = by_key enrolled here;
}
  where
    by_key : (o : Option KeyId) → is_clear_by c s held (Some o) ≡ true → ForSome o (IsFoundOutside c s held)
    by_key None here' = λ k none. absurd (cc none)
    by_key (Some k) here' = λ k' same.
        let it : k ≡ k' = cc in
        subst (IsFoundOutside c s held) it (found_outside c s held k here')

pub clear_is_said : ClearIsSaid
clear_is_said c s own = (
  clear_by c s own (under c own) (span_of (takes_hold c) own) (last (enrolled_found c s) (under c own)) refl,
  λ it. back it (span_is (takes_hold c) own it.held it.span),
)
  where
    by_key : (held : List Act) (o : Option KeyId) → ForSome o (IsFoundOutside c s held)
        → is_clear_by c s held (Some o) ≡ true
    by_key held None outside = refl
    by_key held (Some k) outside = outside_there c s held k (outside k refl)

    back : (it : IsClear c s own) → under c own ≡ it.held → is_clear c s own ≡ true
    back it same =
        ap (λ held. is_clear_by c s held (last (enrolled_found c s) held)) same
        ∙ (ap (is_clear_by c s it.held) (last_there (enrolled_found c s) it.held it.enrolled it.found)
        ∙ by_key it.held it.enrolled it.outside)
