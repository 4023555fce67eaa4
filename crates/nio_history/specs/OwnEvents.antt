-- What a caller knows from its own acts: general words over the list of its acts, oldest first, and
-- small tests of one act. What is "found" is what a look found, of a key also what pinning its index found;
-- of the key that is enrolled for a channel a caller knows too what it enrolled itself.
use Rattle.std.specs.Prelude.{ℕ, suc, ◌==◌, nat_lt, Bool, true, false, not, ◌&&◌, ◌||◌, if◌then◌else◌, Option, Some}
use Rattle.std.specs.Prelude.{None, List, [], ◌∷◌, ◌++◌, fold, count_by}
use Rattle.std.specs.List.{list_any}
use Rattle.std.specs.Option.{option_or}
use Rattle.nio_base.specs.declared.numbers.ChanId.{ChanId}
use Rattle.nio_base.specs.declared.numbers.ChanNo.{ChanNo}
use Rattle.nio_base.specs.declared.numbers.KeyId.{KeyId}
use Rattle.nio_history.specs.Acts.{takes_close}
use Rattle.nio_history.specs.Sets.{is_in_key_set}
use Rattle.nio_history.specs.declared.act.Act.{Act}
use Rattle.nio_history.specs.declared.act.Act.TheVariants.{LookKey, LookChannel, Claim, LookKeys, LookReg, Enrol}
use Rattle.nio_history.specs.declared.act.Act.TheVariants.{GiveTurn, TryHoldBit, Release, SetMode, Enter, Publish, Pin}
use Rattle.nio_history.specs.declared.act.Act.TheVariants.{Unpin, ClaimAgain, PutFree, TakeFree}
use Rattle.nio_history.specs.declared.found.Stage.{Stage}
use Rattle.nio_history.specs.declared.act.Act.TheVariants.{Reopen, CloseBit, Touch, LookIndex, TakeList}

-- ---- general words

-- it did such an act
abbrev pub has : (Act → Bool) → List Act → Bool
has p own = list_any p own

-- how many such acts it did
abbrev pub count : (Act → Bool) → List Act → ℕ
count p own = count_by p own

-- the answer of `tells` for the latest act that it has an answer for; None where it has none for any act
abbrev pub last : {A : Type 0} → (Act → Option A) → List Act → Option A
last tells own = fold (λ told act. option_or (tells act) told) None own

-- the same for the first such act
abbrev pub first : {A : Type 0} → (Act → Option A) → List Act → Option A
first tells own = fold (λ told act. option_or told (tells act)) None own

-- what it did after the last act that opens a span, or all that it did where none does
abbrev pub since_from : (Act → Bool) → List Act → List Act
since_from opens own = fold (λ since act. if opens act then [] else since ++ act ∷ []) [] own

-- what it did after the first act that opens a span, or nothing where none does
abbrev pub since_first : (Act → Bool) → List Act → List Act
since_first opens [] = []
since_first opens (act ∷ later) = if opens act then later else since_first opens later

-- whether a fact that may be unknown (None) is known to be true
abbrev pub is_yes : Option Bool → Bool
is_yes None = false
is_yes (Some b) = b

-- it closed the channel of number c with this serial, which was open
abbrev pub closes : ChanId → Act → Bool
closes c (CloseBit c' from found) = (c'.0 == c.number.0) && (from.serial == c.serial) && takes_close from found
closes c _ = false

-- ---- spans

-- it took the hold of channel c
abbrev pub takes_hold : ℕ → Act → Bool
takes_hold c (TryHoldBit c' None) = c'.0 == c
takes_hold c _ = false

-- what it did under its present hold of channel c, where it has it
abbrev pub under : ℕ → List Act → List Act
under c own = since_from (takes_hold c) own

-- it found the turn of selector s free, as the closer
abbrev pub enters : ℕ → Act → Bool
enters s (Enter s' None) = s'.0 == s
enters s _ = false

-- what it did since it entered selector s
abbrev pub since_entered : ℕ → List Act → List Act
since_entered s own = since_first (enters s) own

-- it took index i of selector s out of the free ones
abbrev pub takes_free : ℕ → ℕ → Act → Bool
takes_free s i (TakeFree s' i' true) = (s'.0 == s) && (i' == i)
takes_free s i _ = false

-- what it did since it took the index last
abbrev pub since_taken : ℕ → ℕ → List Act → List Act
since_taken s i own = since_from (takes_free s i) own

-- ---- tests of one act

-- it found channel c in non-blocking mode
abbrev pub finds_unblocked : ℕ → Act → Bool
finds_unblocked c (LookChannel c' found) = (c'.0 == c) && not found.blocking
finds_unblocked c _ = false

-- it gave number c to a new channel
abbrev pub reopens : ℕ → Act → Bool
reopens c (Reopen c' from false) = c'.0 == c
reopens c _ = false

-- it set the mode of the channel of number c, or gave the number to a new one, which is in blocking mode
abbrev pub sets_mode : ℕ → Act → Bool
sets_mode c (SetMode c' blocking found) = c'.0 == c
sets_mode c (Reopen c' from false) = c'.0 == c
sets_mode c _ = false

-- the stage that it found at index i of selector s
abbrev pub stage_found : ℕ → ℕ → Act → Option Stage
stage_found s i (LookKey s' i' found) = if (s'.0 == s) && (i' == i) then Some found else None
stage_found s i (Pin s' i' found) = if (s'.0 == s) && (i' == i) then Some found else None
stage_found s i (LookIndex s' i' found) = if (s'.0 == s) && (i' == i) then Some found.stage else None
stage_found s i _ = None

abbrev pub is_outside : ℕ → Option Stage → Bool
is_outside serial None = false
is_outside serial (Some found) = not (is_in_key_set found serial)

-- it found the key outside the key set: removed, not published, or of another serial
abbrev pub finds_outside : ℕ → KeyId → Act → Bool
finds_outside s k act = is_outside k.serial (stage_found s k.index act)

-- it found the keys' high-water mark of selector s above index i
abbrev pub finds_below : ℕ → ℕ → Act → Bool
finds_below s i (LookKeys s' found) = (s'.0 == s) && nat_lt i found
finds_below s i _ = false

-- which key it found enrolled for channel c in selector s, or enrolled there
abbrev pub enrolled_found : ℕ → ℕ → Act → Option (Option KeyId)
enrolled_found c s (LookReg c' s' found) = if (c'.0 == c) && (s'.0 == s) then Some found else None
enrolled_found c s (Enrol c' s' i serial _) =
    if (c'.0 == c) && (s'.0 == s) then Some (Some (record { index = i; serial = serial })) else None
enrolled_found c s _ = None

-- it gave back the turn of selector s
abbrev pub gives_turn : ℕ → Act → Bool
gives_turn s (GiveTurn s') = s'.0 == s
gives_turn s _ = false

-- it gave back the hold of channel c
abbrev pub releases : ℕ → Act → Bool
releases c (Release c') = c'.0 == c
releases c _ = false

-- it took its pin off index i of selector s
abbrev pub unpins : ℕ → ℕ → Act → Bool
unpins s i (Unpin s' i') = (s'.0 == s) && (i' == i)
unpins s i _ = false

-- it put index i of selector s among the free ones, or claimed it again
abbrev pub gives_index : ℕ → ℕ → Act → Bool
gives_index s i (PutFree s' i') = (s'.0 == s) && (i' == i)
gives_index s i (ClaimAgain s' i' c from false) = (s'.0 == s) && (i' == i)
gives_index s i _ = false

-- ---- its pin on an index

-- whether an act puts a pin on index i, or takes it off
abbrev pub pin_changed : ℕ → ℕ → Act → Option Bool
pin_changed s i (Pin s' i' found) = if (s'.0 == s) && (i' == i) then Some true else None
pin_changed s i (Claim s' i' c false) = if (s'.0 == s) && (i' == i) then Some true else None
pin_changed s i (ClaimAgain s' i' c from false) = if (s'.0 == s) && (i' == i) then Some true else None
pin_changed s i (Unpin s' i') = if (s'.0 == s) && (i' == i) then Some false else None
pin_changed s i _ = None

-- it pinned or claimed index i of selector s, and didn't take the pin off since
abbrev pub keeps_pin : ℕ → ℕ → List Act → Bool
keeps_pin s i own = is_yes (last (pin_changed s i) own)

-- it pinned index i of selector s, or claimed it, which pins it too
abbrev pub pins_index : ℕ → ℕ → Act → Bool
pins_index s i (Pin s' i' found) = (s'.0 == s) && (i' == i)
pins_index s i (Claim s' i' c false) = (s'.0 == s) && (i' == i)
pins_index s i (ClaimAgain s' i' c from false) = (s'.0 == s) && (i' == i)
pins_index s i _ = false

-- it touched index i of selector s
abbrev pub touches : ℕ → ℕ → Act → Bool
touches s i (Touch s' i' found) = (s'.0 == s) && (i' == i)
touches s i _ = false

-- what it did since it pinned the index last
abbrev pub since_pinned : ℕ → ℕ → List Act → List Act
since_pinned s i own = since_from (pins_index s i) own

-- it has a pin on index i of selector s, and touched it since it pinned it
abbrev pub keeps_touch : ℕ → ℕ → List Act → Bool
keeps_touch s i own = keeps_pin s i own && has (touches s i) (since_pinned s i own)

-- ---- a list that it took

-- it took the list of selector s
abbrev pub takes_list : ℕ → Act → Bool
takes_list s (TakeList s' None) = s'.0 == s
takes_list s _ = false

-- ---- a free index that it took

-- whether an act takes index i out of the free ones, or gives it away: it puts it back, or claims it again
abbrev pub taken_changed : ℕ → ℕ → Act → Option Bool
taken_changed s i (TakeFree s' i' true) = if (s'.0 == s) && (i' == i) then Some true else None
taken_changed s i (PutFree s' i') = if (s'.0 == s) && (i' == i) then Some false else None
taken_changed s i (ClaimAgain s' i' c from false) = if (s'.0 == s) && (i' == i) then Some false else None
taken_changed s i _ = None

-- it took index i of selector s when it was free, and neither put it back nor claimed it since
abbrev pub keeps_taken : ℕ → ℕ → List Act → Bool
keeps_taken s i own = is_yes (last (taken_changed s i) own)

-- ---- its claim of an index

-- a claim of an index: for which channel, and with which serial
pub record OwnClaim : Type 0 where
  pub channel : ChanNo
  pub serial : ℕ

-- what an act does to the caller's claim of index i: it makes one, or it takes the pin off, and then there
-- is none
abbrev pub claim_changed : ℕ → ℕ → Act → Option (Option OwnClaim)
claim_changed s i (Claim s' i' c false) =
    if (s'.0 == s) && (i' == i) then Some (Some (record { channel = c; serial = 0 })) else None
claim_changed s i (ClaimAgain s' i' c from false) =
    if (s'.0 == s) && (i' == i) then Some (Some (record { channel = c; serial = suc from.serial })) else None
claim_changed s i (Unpin s' i') = if (s'.0 == s) && (i' == i) then Some None else None
claim_changed s i _ = None

abbrev pub or_none : {A : Type 0} → Option (Option A) → Option A
or_none None = None
or_none (Some x) = x

-- its claim of index i of selector s, while it still has the pin of that claim
abbrev pub own_claim : ℕ → ℕ → List Act → Option OwnClaim
own_claim s i own = or_none (last (claim_changed s i) own)

-- whether an act claims index i, or publishes its key
abbrev pub leaves_unpublished : ℕ → ℕ → Act → Option Bool
leaves_unpublished s i (Claim s' i' c false) = if (s'.0 == s) && (i' == i) then Some true else None
leaves_unpublished s i (ClaimAgain s' i' c from false) = if (s'.0 == s) && (i' == i) then Some true else None
leaves_unpublished s i (Publish s' i' found) = if (s'.0 == s) && (i' == i) then Some false else None
leaves_unpublished s i _ = None

-- it claimed index i, and hasn't published the key since
abbrev pub is_unpublished : ℕ → ℕ → List Act → Bool
is_unpublished s i own = is_yes (last (leaves_unpublished s i) own)

-- it enrolled a key for channel c in selector s
abbrev pub enrols_key : ℕ → ℕ → Act → Bool
enrols_key c s (Enrol c' s' i serial found) = (c'.0 == c) && (s'.0 == s)
enrols_key c s _ = false

-- it published the key of index i of selector s
abbrev pub publishes : ℕ → ℕ → Act → Bool
publishes s i (Publish s' i' found) = (s'.0 == s) && (i' == i)
publishes s i _ = false

-- ---- a channel's enrolled key

-- what it did under its hold since it last enrolled a key for the channel or published the key of index i
abbrev pub since_key_enrolled : ℕ → ℕ → ℕ → List Act → List Act
since_key_enrolled c s i held = since_from (λ act. enrols_key c s act || publishes s i act) held

-- by what it did under its hold, none was enrolled, or the key that was it found outside the key set; a look
-- that is older than its own enrolling or publishing there doesn't count
abbrev pub is_clear_by : ℕ → ℕ → List Act → Option (Option KeyId) → Bool
is_clear_by c s held None = false
is_clear_by c s held (Some None) = true
is_clear_by c s held (Some (Some k)) = has (finds_outside s k) (since_key_enrolled c s k.index held)

-- the same of channel c in selector s, under its present hold of c
abbrev pub is_clear : ℕ → ℕ → List Act → Bool
is_clear c s own = is_clear_by c s (under c own) (last (enrolled_found c s) (under c own))
