-- Channels that are made, opened and closed, after a step.
use Rattle.std.proofs.Common.{◌≡◌, ℕ, ◌+◌, ◌<◌, Bool, true, false, if◌then◌else◌, List, [], ◌∷◌, ◌++◌, refl, ap, subst}
use Rattle.std.proofs.Common.{sym, ◌∙◌, below_more, arith, suc, ◌==◌, ◌&&◌, not, eq-eqb}
use Rattle.std.specs.Prelude.{nat_lt}
use Rattle.std.proofs.lemmas.Bool.{and_parts, and_from, le-ltb}
use Rattle.nio_base.specs.Kind.{kind_code, is_same_kind}
use Rattle.nio_base.specs.declared.kind.Kind.{Kind}
use Rattle.nio_base.specs.declared.limits.Limits.{Limits}
use Rattle.nio_base.specs.declared.numbers.CallerNo.{CallerNo}
use Rattle.nio_base.specs.declared.numbers.ChanId.{ChanId}
use Rattle.nio_base.specs.declared.numbers.ChanNo.{ChanNo}
use Rattle.nio_history.proofs.Finds.{step_leaves}
use Rattle.nio_history.proofs.Put.{put-same}
use Rattle.nio_history.proofs.Soundness.{legal-sound}
use Rattle.nio_history.specs.Acts.{new_channel, closed_from, takes_close}
use Rattle.nio_history.specs.Conditions.{AllMade, IsChannel, is_made}
use Rattle.nio_history.specs.Histories.{state_after}
use Rattle.nio_history.specs.Found.{finds, channel_tells}
use Rattle.nio_history.specs.Permanent.{channel_made, channel_of_kind, channel_closed, stands}
use Rattle.nio_history.specs.PassViews.{PassView, Holds, known, ActsClause, HasChannel}
use Rattle.nio_history.specs.Sets.{was_opened, was_closed, is_open_channel}
use Rattle.nio_history.specs.State.{State}
use Rattle.nio_history.specs.declared.act.Act.{Act}
use Rattle.nio_history.specs.declared.act.Act.TheVariants.{MakeChannel, LookChannel, LookChannels, CloseBit, Reopen}
use Rattle.nio_history.specs.declared.found.Chan.{Chan}
use Rattle.nio_history.proofs.PassViews.{lasts_over, channel_after}
use Rattle.nio_words.proofs.Views.{look_tells, found_now}
use Rattle.nio_channel.proofs.Chans.{opened_closed, opened_before, takes_closed}
use Rattle.nio_steps.specs.Names.{channel_of}
use Rattle.nio_channel.specs.Closed.{IsClosed}
use Rattle.nio_channel.specs.Opened.{HasOpened}

pub all_made_after : {me : CallerNo} {acts : List Act} {v0 v1 : PassView} {n : ℕ} → ActsClause me acts v0 v1
    → AllMade (known v0) n → AllMade (known v1) n
all_made_after clause here c below = lasts_over (channel_made c) clause (here c below)

-- a number that was just made is made
made_now : {me : CallerNo} {c : ChanNo} {kind : Kind} {found : Bool} {v0 v1 : PassView}
    → ActsClause me (MakeChannel c kind found ∷ []) v0 v1 → ((known v1).chan c.0).made ≡ true
made_now {me = me} {c = c} {kind = kind} {found = found} {v0 = v0} {v1 = v1} clause =
    let leaves = step_leaves v0.limits (Holds v0) me (MakeChannel c kind found) v0.seen v1.seen clause.history in
    let before : State = state_after (v0.seen ++ leaves.between) in
    let told : found ≡ (before.chan c.0).made = cc leaves.step.answers in
    ap (λ st. (st.chan c.0).made) leaves.state
    ∙ (ap (λ x. x.made) (put-same before.chan c.0 (if found then before.chan c.0 else new_channel kind 0))
    ∙ by_found found (before.chan c.0) told)
  where
    by_found : (b : Bool) (was : Chan) → b ≡ was.made → (if b then was else new_channel kind 0).made ≡ true
    by_found true was told = sym told
    by_found false was told = refl

-- with it, every channel below the next is
pub all_made_more : {me : CallerNo} {c : ChanNo} {kind : Kind} {found : Bool} {v0 v1 : PassView}
    → ActsClause me (MakeChannel c kind found ∷ []) v0 v1
    → AllMade (known v0) c.0 → AllMade (known v1) (c.0 + 1)
all_made_more clause here = below_more _ _ (all_made_after clause here) (made_now clause)

-- every channel below the high-water mark that was found is made
pub all_made_below : {me : CallerNo} {mark : ℕ} {v0 v1 : PassView} → ActsClause me (LookChannels mark ∷ []) v0 v1
    → AllMade (known v1) mark
all_made_below {mark = mark} {v0 = v0} {v1 = v1} clause c below =
    let told : mark ≡ (known v1).channels_high = cc (look_tells clause refl) in
    (legal-sound v0.limits v1.seen clause.history.legal).channels_below c (subst (λ n. c < n) told below)

-- a number that was just made, and wasn't before, has channels of this kind
pub kind_made : {me : CallerNo} {c : ChanNo} {kind : Kind} {v0 v1 : PassView}
    → ActsClause me (MakeChannel c kind false ∷ []) v0 v1 → stands (channel_of_kind c.0 kind) (known v1) ≡ true
kind_made {me = me} {c = c} {kind = kind} {v0 = v0} {v1 = v1} clause =
    let leaves = step_leaves v0.limits (Holds v0) me (MakeChannel c kind false) v0.seen v1.seen clause.history in
    let before : State = state_after (v0.seen ++ leaves.between) in
    ap (stands (channel_of_kind c.0 kind)) leaves.state
    ∙ (ap (λ x. x.made && is_same_kind x.kind kind) (put-same before.chan c.0 (new_channel kind 0))
    ∙ eq-eqb (kind_code kind) (kind_code kind) refl)

-- ---- a channel of the caller

-- its number is made
pub is_made_of : {pass : PassView} {c : ChanId} → HasChannel pass c → is_made (known pass) c.number ≡ true
is_made_of {pass = pass} {c = c} has =
    let now = (known pass).chan c.number.0 in (and_parts now.made (not (nat_lt now.serial c.serial)) has.opened).0

-- a number that was found made is
pub found_made : {me : CallerNo} {c : ChanNo} {found : Chan} {v0 v1 : PassView}
    → ActsClause me (LookChannel c found ∷ []) v0 v1 → found.made ≡ true → is_made (known v1) c ≡ true
found_made {c = c} {found = found} clause made =
    found_now (channel_made c.0) clause (and_from (c.0 == c.0) found.made (eq-eqb c.0 c.0 refl) made)

-- its kind stays
pub kind_found : {me : CallerNo} {c : ChanNo} {found : Chan} (kind : Kind) {v0 v1 : PassView}
    → ActsClause me (LookChannel c found ∷ []) v0 v1 → found.made ≡ true → is_same_kind found.kind kind ≡ true
    → stands (channel_of_kind c.0 kind) (known v1) ≡ true
kind_found {c = c} {found = found} kind clause made same =
    found_now (channel_of_kind c.0 kind) clause
    (and_from (c.0 == c.0) (found.made && is_same_kind found.kind kind) (eq-eqb c.0 c.0 refl)
    (and_from found.made (is_same_kind found.kind kind) made same))

pub opened_after : {me : CallerNo} {acts : List Act} {v0 v1 : PassView} {kind : Kind} {c : ChanId}
    → ActsClause me acts v0 v1 → HasOpened v0 kind c → HasOpened v1 kind c
opened_after {kind = kind} {c = c} clause here = record {
  has = channel_after clause here.has;
  kind = lasts_over (channel_of_kind c.number.0 kind) clause here.kind;
}

-- what a look at the number finds of a channel that was opened
pub opened_found : {me : CallerNo} {c : ChanId} {found : Chan} {v0 v1 : PassView}
    → ActsClause me (LookChannel c.number found ∷ []) v0 v1 → HasChannel v0 c → was_opened found c.serial ≡ true
opened_found {c = c} {found = found} {v1 = v1} clause has =
    let told : found ≡ (known v1).chan c.number.0 = cc (look_tells clause refl) in
    ap (λ x. was_opened x c.serial) told ∙ (channel_after clause has).opened

-- a channel that a step found closed is closed
pub closed_found : {me : CallerNo} {act : Act} (c : ChanId) (found : Chan) {v0 v1 : PassView}
    → ActsClause me (act ∷ []) v0 v1
    → finds act (channel_closed c.number.0 c.serial)
    ≡ channel_tells c.number.0 found (channel_closed c.number.0 c.serial)
    → was_closed found c.serial ≡ true → IsClosed v1 c
closed_found c found clause tells closed =
    found_now (channel_closed c.number.0 c.serial) clause
    (tells
    ∙ and_from (c.number.0 == c.number.0) (was_closed found c.serial) (eq-eqb c.number.0 c.number.0 refl) closed)

-- so is one that a look found not open
pub unopen_closed : {me : CallerNo} {c : ChanId} {found : Chan} {v0 v1 : PassView}
    → ActsClause me (LookChannel c.number found ∷ []) v0 v1 → HasChannel v0 c
    → is_open_channel found c.serial ≡ false → IsClosed v1 c
unopen_closed {c = c} {found = found} clause has unopen =
    closed_found c found clause refl (opened_closed found c.serial (opened_found clause has) unopen)

-- it stays closed
pub closed_after : {me : CallerNo} {acts : List Act} {v0 v1 : PassView} (c : ChanId) → ActsClause me acts v0 v1
    → IsClosed v0 c → IsClosed v1 c
closed_after c clause closed = lasts_over (channel_closed c.number.0 c.serial) clause closed

-- ---- closing

-- the number after a closing
closing_leaves : {me : CallerNo} {c : ChanNo} {from found : Chan} {v0 v1 : PassView}
    → ActsClause me (CloseBit c from found ∷ []) v0 v1 → (known v1).chan c.0 ≡ closed_from from found
closing_leaves {me = me} {c = c} {from = from} {found = found} {v0 = v0} {v1 = v1} clause =
    let leaves = step_leaves v0.limits (Holds v0) me (CloseBit c from found) v0.seen v1.seen clause.history in
    let before : State = state_after (v0.seen ++ leaves.between) in
    let told : found ≡ before.chan c.0 = cc leaves.step.answers in
    ap (λ st. st.chan c.0) leaves.state
    ∙ (put-same before.chan c.0 (closed_from from (before.chan c.0)) ∙ ap (closed_from from) (sym told))

-- what a closing finds of a channel that was opened
pub opened_then : {me : CallerNo} {c : ChanId} {from found : Chan} {v0 v1 : PassView}
    → ActsClause me (CloseBit c.number from found ∷ []) v0 v1 → HasChannel v0 c → was_opened found c.serial ≡ true
opened_then {c = c} {from = from} {found = found} clause has =
    sym (opened_before from found c.serial)
    ∙ (ap (λ x. was_opened x c.serial) (sym (closing_leaves clause)) ∙ (channel_after clause has).opened)

-- a channel that was found open is closed by a closing that takes
pub taken_closed : {me : CallerNo} {c : ChanId} {from found : Chan} {v0 v1 : PassView}
    → ActsClause me (CloseBit c.number from found ∷ []) v0 v1 → HasChannel v0 c
    → is_open_channel from c.serial ≡ true → takes_close from found ≡ true → IsClosed v1 c
taken_closed {c = c} {from = from} {found = found} clause has opens takes =
    ap (λ x. was_closed x c.serial) (closing_leaves clause)
    ∙ takes_closed from found c.serial opens
    (and_parts found.made (not (nat_lt found.serial c.serial)) (opened_then clause has)).0 takes

-- ---- giving a number to a new channel

pub reopened_now : {me : CallerNo} {c : ChanNo} {from : Chan} {v0 v1 : PassView}
    → ActsClause me (Reopen c from false ∷ []) v0 v1 → IsChannel v0.limits c
    → HasOpened v1 from.kind (channel_of c (suc from.serial))
reopened_now {me = me} {c = c} {from = from} {v0 = v0} {v1 = v1} clause inside =
    let leaves = step_leaves v0.limits (Holds v0) me (Reopen c from false) v0.seen v1.seen clause.history in
    let before : State = state_after (v0.seen ++ leaves.between) in
    let now : (known v1).chan c.0 ≡ new_channel from.kind (suc from.serial) =
    ap (λ st. st.chan c.0) leaves.state ∙ put-same before.chan c.0 (new_channel from.kind (suc from.serial)) in
    record {
      has = record {
        inside = subst (λ (l : Limits). IsChannel l c) (sym clause.limits) inside;
        opened = ap (λ x. was_opened x (suc from.serial)) now
            ∙ ap not (le-ltb (suc from.serial) (suc from.serial) (omega arith));
      };
      kind = ap (λ x. x.made && is_same_kind x.kind from.kind) now
          ∙ eq-eqb (kind_code from.kind) (kind_code from.kind) refl;
    }
