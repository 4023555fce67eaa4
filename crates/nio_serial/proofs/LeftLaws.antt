-- The laws of the states that documented calls leave.
use Rattle.std.proofs.Common.{◌≡◌, Ok, subst}
use Rattle.nio_base.specs.declared.limits.Limits.{Limits}
use Rattle.nio_base.specs.declared.numbers.CallerNo.{CallerNo}
use Rattle.nio_base.specs.declared.numbers.ChanId.{ChanId}
use Rattle.nio_group.specs.Group.{Group}
use Rattle.nio_language.specs.declared.call.Call.{Call}
use Rattle.nio_language.specs.declared.call.Call.TheVariants as call
use Rattle.nio_plain.proofs.ReachedGroups.{IsRunTo, is_lawful, is_left_by_a_run, run_on, run_to_itself}
use Rattle.nio_plain.proofs.ReachedLater.{IsLater}
use Rattle.nio_plain.proofs.ReachedLaws.{are_within_key_set, empties_closed, finds_keys_of_channels}
use Rattle.nio_plain.proofs.ReachedLaws.{has_keys_below_high, has_looked_in_key_set, has_no_key_at_free}
use Rattle.nio_plain.proofs.ReachedLaws.{has_no_valid_key_of_closed, has_one_key_of_a_channel}
use Rattle.nio_plain.proofs.ReachedLaws.{has_registered_in_key_sets, has_registered_non_blocking, keeps_closed}
use Rattle.nio_plain.proofs.ReachedLaws.{keeps_invalid, keeps_kinds, keeps_opened, keeps_published, makes_new_keys}
use Rattle.nio_plain.proofs.ReachedLaws.{makes_other_keys}
use Rattle.nio_plain.proofs.ReachedReopening.{makes_new_channels, next_is_new}
use Rattle.nio_plain.specs.ReachedLaws.{IsNew}
use Rattle.nio_plain.specs.ScriptState.{ScriptState, script_opening}
use Rattle.nio_plain.specs.Seq.{seq}
use Rattle.nio_plain.specs.Seq.Opening.{with_new_channel}
use Rattle.nio_plain.specs.declared.rules.Rules.TheVariants.{Now}
use Rattle.nio_serial.proofs.Facts.{leads-later, left_is_sound}
use Rattle.nio_serial.proofs.ReopeningKept.{next-reopened, reopen-cases}
use Rattle.nio_serial.specs.Between.{IsLeft, LeadsTo, no_call, line, reopening}
use Rattle.nio_serial.specs.LeftLaws.{LeadingEmptiesClosed, LeadingKeepsChannelsOfKeys, LeadingKeepsClosed}
use Rattle.nio_serial.specs.LeftLaws.{LeadingKeepsInvalid, LeadingKeepsKinds, LeadingKeepsOpened, LeadingKeepsPublished}
use Rattle.nio_serial.specs.LeftLaws.{LeadingMakesOtherKeys, LeftAreWithinKeySet, LeftFindsKeysOfChannels}
use Rattle.nio_serial.specs.LeftLaws.{LeftGroupIsLawful, LeftGroupIsLeftByARun, LeftHasKeysBelowHigh}
use Rattle.nio_serial.specs.LeftLaws.{LeftHasLookedInKeySet, LeftHasNoKeyAtFree, LeftHasNoValidKeyOfClosed}
use Rattle.nio_serial.specs.LeftLaws.{LeftHasOneKeyOfAChannel, LeftHasRegisteredInKeySets, LeftHasRegisteredNonBlocking}
use Rattle.nio_serial.specs.LeftLaws.{LeftMakesNewChannels, LeftMakesNewKeys, ReopenedIsNew}
use Rattle.nio_serial.specs.Reopening.{Reopened, next_of_number}

-- ---- one state

pub left-are-within-key-set : LeftAreWithinKeySet
left-are-within-key-set l st left = are_within_key_set Now l st (left_is_sound l st left)

pub left-has-keys-below-high : LeftHasKeysBelowHigh
left-has-keys-below-high l st left = has_keys_below_high Now l st (left_is_sound l st left)

pub left-has-looked-in-key-set : LeftHasLookedInKeySet
left-has-looked-in-key-set l st left = has_looked_in_key_set Now l st (left_is_sound l st left)

pub left-has-no-key-at-free : LeftHasNoKeyAtFree
left-has-no-key-at-free l st left = has_no_key_at_free Now l st (left_is_sound l st left)

pub left-makes-new-keys : LeftMakesNewKeys
left-makes-new-keys l st left = makes_new_keys Now l st (left_is_sound l st left)

pub left-makes-new-channels : LeftMakesNewChannels
left-makes-new-channels l st left = makes_new_channels Now l st (left_is_sound l st left)

pub reopened-is-new : ReopenedIsNew
reopened-is-new l st c new left =
    reopen-cases l st c
    (λ (done : Reopened). done.answer ≡ Ok new → IsNew st.shared done.left.shared new) (λ refusal e. absurd cc)
    (λ comes keyless e.
    let same : next_of_number st.shared c ≡ new = cc in
    let next = next-reopened l st c (left_is_sound l st left) comes keyless in
    subst (λ (n : ChanId).
    IsNew st.shared (with_new_channel st.shared (st.shared.chan c.number.0).kind (next_of_number st.shared c)) n) same
    (next_is_new Now l st (st.shared.chan c.number.0).kind (next_of_number st.shared c) next))

pub left-finds-keys-of-channels : LeftFindsKeysOfChannels
left-finds-keys-of-channels l st left = finds_keys_of_channels Now l st (left_is_sound l st left)

pub left-has-one-key-of-a-channel : LeftHasOneKeyOfAChannel
left-has-one-key-of-a-channel l st left = has_one_key_of_a_channel Now l st (left_is_sound l st left)

pub left-has-registered-in-key-sets : LeftHasRegisteredInKeySets
left-has-registered-in-key-sets l st left = has_registered_in_key_sets Now l st (left_is_sound l st left)

pub left-has-registered-non-blocking : LeftHasRegisteredNonBlocking
left-has-registered-non-blocking l st left = has_registered_non_blocking Now l st (left_is_sound l st left)

pub left-has-no-valid-key-of-closed : LeftHasNoValidKeyOfClosed
left-has-no-valid-key-of-closed l st left = has_no_valid_key_of_closed Now l st (left_is_sound l st left)

-- ---- an earlier and a later state

leads : (l : Limits) (st later : ScriptState) → IsLeft l st → LeadsTo l st later → IsLater Now l st later
leads l st later left leading = leads-later l st later (left_is_sound l st left) leading

-- a later state from one call on
leads_on : (l : Limits) (st : ScriptState) (me : CallerNo) (word : Call) (later : ScriptState) → IsLeft l st
    → LeadsTo l (seq Now l st me word).left later → IsLater Now l (seq Now l st me word).left later
leads_on l st me word later left leading = leads l (seq Now l st me word).left later (line st me word left) leading

pub leading-keeps-published : LeadingKeepsPublished
leading-keeps-published l st later left leading = keeps_published Now l st later (leads l st later left leading)

pub leading-keeps-invalid : LeadingKeepsInvalid
leading-keeps-invalid l st later left leading = keeps_invalid Now l st later (leads l st later left leading)

pub leading-makes-other-keys : LeadingMakesOtherKeys
leading-makes-other-keys l st first later left leading =
    makes_other_keys Now l st later first (left_is_sound l st left)
    (leads_on l st first.caller first.call later left leading)

pub leading-keeps-opened : LeadingKeepsOpened
leading-keeps-opened l st later left leading = keeps_opened Now l st later (leads l st later left leading)

pub leading-keeps-closed : LeadingKeepsClosed
leading-keeps-closed l st later left leading = keeps_closed Now l st later (leads l st later left leading)

pub leading-keeps-kinds : LeadingKeepsKinds
leading-keeps-kinds l st later left leading = keeps_kinds Now l st later (leads l st later left leading)

pub leading-keeps-channels-of-keys : LeadingKeepsChannelsOfKeys
leading-keeps-channels-of-keys l st later left leading = (leads l st later left leading).keys

pub leading-empties-closed : LeadingEmptiesClosed
leading-empties-closed l st me s later left leading =
    empties_closed Now l st later me s (leads_on l st me (call.CloseEnd s) later left leading)

-- ---- the group

-- a run of the group goes from the first state's to what is run to from the second's
leads_run : (l : Limits) (before after : ScriptState) (g : Group) → LeadsTo l before after → IsRunTo after.group g
    → IsRunTo before.group g
leads_run l before _ g no_call rest = rest
leads_run l before _ g (line st me word leading) rest =
    leads_run l before st g leading (run_on Now l st me word g rest)
leads_run l before _ g (reopening st c leading) rest =
    leads_run l before st g leading
    (reopen-cases l st c (λ (done : Reopened). IsRunTo done.left.group g → IsRunTo st.group g) (λ _ same. same)
    (λ _ _ same. same) rest)

run_to : (l : Limits) (st : ScriptState) → IsLeft l st → IsRunTo script_opening.group st.group
run_to l st left = leads_run l script_opening st st.group left (run_to_itself st.group)

pub left-group-is-left-by-a-run : LeftGroupIsLeftByARun
left-group-is-left-by-a-run l st left = is_left_by_a_run st.group (run_to l st left)

pub left-group-is-lawful : LeftGroupIsLawful
left-group-is-lawful l st left = is_lawful st.group (run_to l st left)
