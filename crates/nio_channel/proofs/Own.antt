-- What the caller's own acts under a hold tell after one act more.
use Rattle.std.proofs.Common.{◌≡◌, ℕ, ◌==◌, Bool, true, false, not, ◌&&◌, ◌||◌, if◌then◌else◌, Option, Some, None, List}
use Rattle.std.proofs.Common.{[], ◌∷◌, ◌++◌, refl, ap, ◌∙◌}
use Rattle.std.specs.Option.{option_or}
use Rattle.std.proofs.lemmas.Bool.{or_left, or_right, or_from}
use Rattle.std.proofs.Math.Bool.{and-false}
use Rattle.nio_base.specs.declared.numbers.ChanNo.{ChanNo}
use Rattle.nio_base.specs.declared.numbers.KeyId.{KeyId}
use Rattle.nio_base.specs.declared.numbers.SelNo.{SelNo}
use Rattle.nio_history.proofs.Claims.{claim_after, own_claim-more}
use Rattle.nio_history.proofs.LastsAlone.{same_two}
use Rattle.nio_history.proofs.OneMore.{has-more, last-more, since_from-more}
use Rattle.nio_history.specs.Found.{finds}
use Rattle.nio_history.specs.Permanent.{channel_closed}
use Rattle.nio_history.specs.OwnEvents.{OwnClaim, is_yes, has, last, under, takes_hold, releases, finds_outside}
use Rattle.nio_history.specs.OwnEvents.{is_outside, enrolled_found, enrols_key, publishes, since_key_enrolled}
use Rattle.nio_history.specs.OwnEvents.{claim_changed, own_claim, leaves_unpublished, is_unpublished, is_clear}
use Rattle.nio_history.specs.OwnEvents.{is_clear_by}
use Rattle.nio_history.specs.Sets.{is_in_key_set}
use Rattle.nio_history.specs.declared.act.Act.{Act}
use Rattle.nio_history.specs.declared.act.Act.TheVariants.{LookChannel, Claim, Publish, LookReg, Enrol, TryHoldBit}
use Rattle.nio_history.specs.declared.act.Act.TheVariants.{Release, SetMode, CloseBit, Pin, Unpin, ClaimAgain, LookKey}
use Rattle.nio_history.specs.declared.act.Act.TheVariants.{TakeList}
use Rattle.nio_history.specs.declared.found.Stage.{Stage}
use Rattle.nio_history.proofs.Unpublished.{is_unpublished-more}

-- ---- acts of no consequence to a hold and the channel under it, to enrolled keys and to publishing

abbrev pub is_quiet : Act → Bool
is_quiet (LookChannel c found) = false
is_quiet (SetMode c blocking found) = false
is_quiet (CloseBit c from found) = false
is_quiet (Publish s i found) = false
is_quiet (LookReg c s found) = false
is_quiet (Enrol c s i serial found) = false
is_quiet (TryHoldBit c found) = false
is_quiet (Release c) = false
is_quiet _ = true

pub quiet_holds : (c : ℕ) (act : Act) → is_quiet act ≡ true → takes_hold c act ≡ false
quiet_holds c (TryHoldBit c' found) quiet = absurd cc
quiet_holds c act quiet = refl

pub quiet_keeps : (c : ℕ) (act : Act) → is_quiet act ≡ true → releases c act ≡ false
quiet_keeps c (Release c') quiet = absurd cc
quiet_keeps c act quiet = refl

pub quiet_unclosed : (c n : ℕ) (act : Act) → is_quiet act ≡ true → finds act (channel_closed c n) ≡ false
quiet_unclosed c n (LookChannel c' found) quiet = absurd cc
quiet_unclosed c n (SetMode c' blocking found) quiet = absurd cc
quiet_unclosed c n (CloseBit c' from found) quiet = absurd cc
quiet_unclosed c n (TakeList s None) quiet = refl
quiet_unclosed c n (TakeList s (Some holder)) quiet = refl
quiet_unclosed c n act quiet = refl

quiet_tells : (c s : ℕ) (act : Act) → is_quiet act ≡ true → enrolled_found c s act ≡ None
quiet_tells c s (LookReg c' s' found) quiet = absurd cc
quiet_tells c s (Enrol c' s' i serial found) quiet = absurd cc
quiet_tells c s act quiet = refl

quiet_opens : (c s i : ℕ) (act : Act) → is_quiet act ≡ true → (enrols_key c s act || publishes s i act) ≡ false
quiet_opens c s i (Publish s' i' found) quiet = absurd cc
quiet_opens c s i (Enrol c' s' i' serial found) quiet = absurd cc
quiet_opens c s i act quiet = refl

-- ---- under the hold

pub under-more : (c : ℕ) (own : List Act) (act : Act) → takes_hold c act ≡ false
    → under c (own ++ act ∷ []) ≡ under c own ++ act ∷ []
under-more c own act keeps =
    since_from-more (takes_hold c) own act ∙ ap (λ b. if b then [] else under c own ++ act ∷ []) keeps

has_longer : (p : Act → Bool) (own : List Act) (act : Act) → has p own ≡ true → has p (own ++ act ∷ []) ≡ true
has_longer p own act here = has-more p own act ∙ or_left (has p own) (p act) here

-- what it found under its hold it has found
pub under_longer : (p : Act → Bool) (c : ℕ) (own : List Act) (act : Act) → takes_hold c act ≡ false
    → has p (under c own) ≡ true → has p (under c (own ++ act ∷ [])) ≡ true
under_longer p c own act keeps here = ap (has p) (under-more c own act keeps) ∙ has_longer p (under c own) act here

-- what it found at no time under its hold, and not now
pub under_never : (p : Act → Bool) (c : ℕ) (own : List Act) (act : Act) → takes_hold c act ≡ false → p act ≡ false
    → has p (under c own) ≡ false → has p (under c (own ++ act ∷ [])) ≡ false
under_never p c own act keeps now before =
    ap (has p) (under-more c own act keeps)
    ∙ (has-more p (under c own) act ∙ or_from (has p (under c own)) (p act) before now)

-- what it just found under its hold
pub under_found : (p : Act → Bool) (c : ℕ) (own : List Act) (act : Act) → takes_hold c act ≡ false → p act ≡ true
    → has p (under c (own ++ act ∷ [])) ≡ true
under_found p c own act keeps found =
    ap (has p) (under-more c own act keeps)
    ∙ (has-more p (under c own) act ∙ or_right (has p (under c own)) (p act) found)

-- ---- the enrolled key

told-more : (c s : ℕ) (own : List Act) (act : Act) → takes_hold c act ≡ false
    → last (enrolled_found c s) (under c (own ++ act ∷ [])) ≡ option_or (enrolled_found c s act)
    (last (enrolled_found c s) (under c own))
told-more c s own act keeps =
    ap (last (enrolled_found c s)) (under-more c own act keeps) ∙ last-more (enrolled_found c s) (under c own) act

pub told_over : (c s : ℕ) (own : List Act) (act : Act) → takes_hold c act ≡ false → enrolled_found c s act ≡ None
    → last (enrolled_found c s) (under c (own ++ act ∷ [])) ≡ last (enrolled_found c s) (under c own)
told_over c s own act takes silent =
    told-more c s own act takes ∙ ap (λ told. option_or told (last (enrolled_found c s) (under c own))) silent

pub told_quiet : (c s : ℕ) (own : List Act) (act : Act) → is_quiet act ≡ true
    → last (enrolled_found c s) (under c (own ++ act ∷ [])) ≡ last (enrolled_found c s) (under c own)
told_quiet c s own act quiet = told_over c s own act (quiet_holds c act quiet) (quiet_tells c s act quiet)

pub told_look : (c : ChanNo) (s : SelNo) (enrolled : Option KeyId) (own : List Act)
    → last (enrolled_found c.0 s.0) (under c.0 (own ++ LookReg c s enrolled ∷ [])) ≡ Some enrolled
told_look c s enrolled own =
    told-more c.0 s.0 own (LookReg c s enrolled) refl
    ∙ ap (λ b. option_or (if b then Some enrolled else None) (last (enrolled_found c.0 s.0) (under c.0 own)))
    (same_two c.0 s.0)

pub told_enrol : (c : ChanNo) (s : SelNo) (k : KeyId) (before : Option KeyId) (own : List Act)
    → last (enrolled_found c.0 s.0) (under c.0 (own ++ Enrol c s k.index k.serial before ∷ [])) ≡ Some (Some k)
told_enrol c s k before own =
    told-more c.0 s.0 own (Enrol c s k.index k.serial before) refl
    ∙ ap (λ b. option_or (if b then Some (Some k) else None) (last (enrolled_found c.0 s.0) (under c.0 own)))
    (same_two c.0 s.0)

-- ---- no key in the key set is enrolled

-- an act that takes no hold, tells nothing of the key that is enrolled there, and neither enrols nor publishes
clear_longer : (c s : ℕ) (own : List Act) (act : Act) → takes_hold c act ≡ false → enrolled_found c s act ≡ None
    → ((i : ℕ) → (enrols_key c s act || publishes s i act) ≡ false) → is_clear c s own ≡ true
    → is_clear c s (own ++ act ∷ []) ≡ true
clear_longer c s own act keeps silent spares clear =
    ap (λ held. is_clear_by c s held (last (enrolled_found c s) held)) (under-more c own act keeps)
    ∙ (ap (is_clear_by c s (under c own ++ act ∷ [])) (last-more (enrolled_found c s) (under c own) act
    ∙ ap (λ told. option_or told (last (enrolled_found c s) (under c own))) silent)
    ∙ by_told (last (enrolled_found c s) (under c own)) clear)
  where
    by_told : (told : Option (Option KeyId)) → is_clear_by c s (under c own) told ≡ true
        → is_clear_by c s (under c own ++ act ∷ []) told ≡ true
    by_told None clear' = absurd cc
    by_told (Some None) clear' = refl
    by_told (Some (Some k)) clear' =
        ap (has (finds_outside s k)) (since_from-more (λ a. enrols_key c s a || publishes s k.index a) (under c own) act
        ∙ ap (λ b. if b then [] else since_key_enrolled c s k.index (under c own) ++ act ∷ []) (spares k.index))
        ∙ has_longer (finds_outside s k) (since_key_enrolled c s k.index (under c own)) act clear'

pub clear_quiet : (c s : ℕ) (own : List Act) (act : Act) → is_quiet act ≡ true → is_clear c s own ≡ true
    → is_clear c s (own ++ act ∷ []) ≡ true
clear_quiet c s own act quiet =
    clear_longer c s own act (quiet_holds c act quiet) (quiet_tells c s act quiet) (λ i. quiet_opens c s i act quiet)

-- a look at which key is enrolled in another selector
pub clear_look_else : (c : ChanNo) (s : ℕ) (s' : SelNo) (enrolled : Option KeyId) (own : List Act) → (s'.0 == s) ≡ false
    → is_clear c.0 s own ≡ true → is_clear c.0 s (own ++ LookReg c s' enrolled ∷ []) ≡ true
clear_look_else c s s' enrolled own other =
    clear_longer c.0 s own (LookReg c s' enrolled) refl
    (ap (λ b. if b then Some enrolled else None) (ap (λ b. (c.0 == c.0) && b) other ∙ and-false (c.0 == c.0)))
    (λ i. refl)

-- none was found enrolled
pub clear_none : (c : ChanNo) (s : SelNo) (own : List Act) → is_clear c.0 s.0 (own ++ LookReg c s None ∷ []) ≡ true
clear_none c s own = ap (is_clear_by c.0 s.0 (under c.0 (own ++ LookReg c s None ∷ []))) (told_look c s None own)

-- the one that is enrolled was just found outside the key set
clear_found : (c s : ℕ) (k : KeyId) (act : Act) (own : List Act) → is_quiet act ≡ true → finds_outside s k act ≡ true
    → last (enrolled_found c s) (under c own) ≡ Some (Some k) → is_clear c s (own ++ act ∷ []) ≡ true
clear_found c s k act own quiet found told =
    ap (is_clear_by c s (under c (own ++ act ∷ []))) (told_quiet c s own act quiet ∙ told)
    ∙ (ap (λ held. has (finds_outside s k) (since_key_enrolled c s k.index held))
    (under-more c own act (quiet_holds c act quiet))
    ∙ (ap (has (finds_outside s k)) (since_from-more (λ a. enrols_key c s a || publishes s k.index a) (under c own) act
    ∙ ap (λ b. if b then [] else since_key_enrolled c s k.index (under c own) ++ act ∷ [])
    (quiet_opens c s k.index act quiet))
    ∙ (has-more (finds_outside s k) (since_key_enrolled c s k.index (under c own)) act
    ∙ or_right (has (finds_outside s k) (since_key_enrolled c s k.index (under c own))) (finds_outside s k act) found)))

pub clear_looked : (c : ℕ) (s : SelNo) (k : KeyId) (stage : Stage) (own : List Act)
    → is_in_key_set stage k.serial ≡ false
    → last (enrolled_found c s.0) (under c own) ≡ Some (Some k)
    → is_clear c s.0 (own ++ LookKey s k.index stage ∷ []) ≡ true
clear_looked c s k stage own out told =
    clear_found c s.0 k (LookKey s k.index stage) own refl
    (ap (λ b. is_outside k.serial (if b then Some stage else None)) (same_two s.0 k.index) ∙ ap not out) told

pub clear_pinned : (c : ℕ) (s : SelNo) (k : KeyId) (stage : Stage) (own : List Act)
    → is_in_key_set stage k.serial ≡ false
    → last (enrolled_found c s.0) (under c own) ≡ Some (Some k)
    → is_clear c s.0 (own ++ Pin s k.index stage ∷ []) ≡ true
clear_pinned c s k stage own out told =
    clear_found c s.0 k (Pin s k.index stage) own refl
    (ap (λ b. is_outside k.serial (if b then Some stage else None)) (same_two s.0 k.index) ∙ ap not out) told

-- ---- the claim

-- acts that neither claim an index, nor take a pin off one, nor publish a key
abbrev pub keeps_claims : Act → Bool
keeps_claims (Claim s i c found) = false
keeps_claims (ClaimAgain s i c from found) = false
keeps_claims (Unpin s i) = false
keeps_claims (Publish s i found) = false
keeps_claims _ = true

claim_silent : (s i : ℕ) (act : Act) → keeps_claims act ≡ true → claim_changed s i act ≡ None
claim_silent s i (Claim s' i' c found) keeps = absurd cc
claim_silent s i (ClaimAgain s' i' c from found) keeps = absurd cc
claim_silent s i (Unpin s' i') keeps = absurd cc
claim_silent s i act keeps = refl

unpublished_silent : (s i : ℕ) (act : Act) → keeps_claims act ≡ true → leaves_unpublished s i act ≡ None
unpublished_silent s i (Claim s' i' c found) keeps = absurd cc
unpublished_silent s i (ClaimAgain s' i' c from found) keeps = absurd cc
unpublished_silent s i (Publish s' i' found) keeps = absurd cc
unpublished_silent s i act keeps = refl

pub claim_stays : (s i : ℕ) (own : List Act) (act : Act) → keeps_claims act ≡ true
    → own_claim s i (own ++ act ∷ []) ≡ own_claim s i own
claim_stays s i own act keeps =
    own_claim-more s i own act ∙ ap (λ x. claim_after x (own_claim s i own)) (claim_silent s i act keeps)

pub unpublished_stays : (s i : ℕ) (own : List Act) (act : Act) → keeps_claims act ≡ true
    → is_unpublished s i (own ++ act ∷ []) ≡ is_unpublished s i own
unpublished_stays s i own act keeps =
    is_unpublished-more s i own act
    ∙ ap (λ x. is_yes (option_or x (last (leaves_unpublished s i) own))) (unpublished_silent s i act keeps)

pub claim_published : (s i : ℕ) (s' : SelNo) (i' : ℕ) (stage : Stage) (own : List Act)
    → own_claim s i (own ++ Publish s' i' stage ∷ []) ≡ own_claim s i own
claim_published s i s' i' stage own = own_claim-more s i own (Publish s' i' stage)

-- the index was just claimed
pub claim_now : (s : SelNo) (i : ℕ) (act : Act) (claim : OwnClaim) (own : List Act)
    → claim_changed s.0 i act ≡ (if (s.0 == s.0) && (i == i) then Some (Some claim) else None)
    → own_claim s.0 i (own ++ act ∷ []) ≡ Some claim
claim_now s i act claim own tells =
    own_claim-more s.0 i own act
    ∙ ap (λ x. claim_after x (own_claim s.0 i own))
    (tells ∙ ap (λ b. if b then Some (Some claim) else None) (same_two s.0 i))

pub unpublished_now : (s : SelNo) (i : ℕ) (act : Act) (own : List Act)
    → leaves_unpublished s.0 i act ≡ (if (s.0 == s.0) && (i == i) then Some true else None)
    → is_unpublished s.0 i (own ++ act ∷ []) ≡ true
unpublished_now s i act own tells =
    is_unpublished-more s.0 i own act
    ∙ ap (λ x. is_yes (option_or x (last (leaves_unpublished s.0 i) own)))
    (tells ∙ ap (λ b. if b then Some true else None) (same_two s.0 i))
