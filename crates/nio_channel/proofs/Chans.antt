-- Channels that are open, closed or just being closed, by what a look or a closing found of their number.
use Rattle.std.proofs.Common.{◌≡◌, ℕ, suc, ◌==◌, ◌<◌, ◌≤◌, Bool, true, false, not, ◌&&◌, ◌||◌, if◌then◌else◌, refl, ap}
use Rattle.std.proofs.Common.{sym}
use Rattle.std.proofs.Common.{◌∙◌, arith, eqb-true, eq-eqb}
use Rattle.std.specs.Prelude.{nat_lt}
use Rattle.std.proofs.lemmas.Bool.{and_parts, and_from, or_left, or_right, or_from, or_parts, not-true}
use Rattle.std.proofs.lemmas.Bool.{ltb-true, ltb-false, le-ltb}
use Rattle.std.proofs.Math.Bool.{and-false}
use Rattle.nio_base.specs.declared.numbers.ChanId.{ChanId}
use Rattle.nio_history.specs.Acts.{closes_from, closed_from, takes_close}
use Rattle.nio_history.specs.Sets.{fits_channel, was_opened, was_closed, is_open_channel, can_reopen}
use Rattle.nio_base.specs.Numbers.{last_serial}
use Rattle.nio_history.specs.declared.act.Act.TheVariants.{CloseBit}
use Rattle.nio_history.specs.declared.found.Chan.{Chan}
use Rattle.nio_history.specs.OwnEvents.{closes}

-- what stands of a channel that a look finds open
pub record IsOpen (found : Chan) (n : ℕ) : Type 0 where
  pub made : found.made ≡ true
  pub serial : found.serial ≡ n
  pub open_now : found.closed ≡ false

pub open_parts : (found : Chan) (n : ℕ) → is_open_channel found n ≡ true → IsOpen found n
open_parts found n is =
    let parts = and_parts (fits_channel found n) (not found.closed) is in
    let fit = and_parts found.made (found.serial == n) parts.0 in
    record {
      made = fit.0;
      serial = eqb-true found.serial n fit.1;
      open_now = not-true found.closed parts.1;
    }

pub open_from : (found : Chan) (n : ℕ) → IsOpen found n → is_open_channel found n ≡ true
open_from found n is =
    and_from (fits_channel found n) (not found.closed)
    (and_from found.made (found.serial == n) is.made (eq-eqb found.serial n is.serial)) (ap not is.open_now)

-- the present channel of a number was opened
pub present_opened : (found : Chan) (n : ℕ) → fits_channel found n ≡ true → was_opened found n ≡ true
present_opened found n present =
    let fit = and_parts found.made (found.serial == n) present in
    let same : found.serial ≡ n = eqb-true found.serial n fit.1 in
    and_from found.made (not (nat_lt found.serial n)) fit.0 (ap not (le-ltb found.serial n (omega arith)))

-- where a channel that was opened isn't the present one of its number, a later one was opened
pub later_opened : (found : Chan) (n : ℕ) → was_opened found n ≡ true → fits_channel found n ≡ false
    → was_opened found (suc n) ≡ true
later_opened found n opened another =
    and_from found.made (not (nat_lt found.serial (suc n))) parts.0
    (ap not (le-ltb found.serial (suc n) (omega (arith, above, other))))
  where
    parts : (found.made ≡ true) × (not (nat_lt found.serial n) ≡ true)
    parts = and_parts found.made (not (nat_lt found.serial n)) opened

    above : n ≤ found.serial
    above = ltb-false found.serial n (not-true (nat_lt found.serial n) parts.1)

    other : found.serial ≡ n → ⊥
    other same =
        let clash : true ≡ false =
        sym (and_from found.made (found.serial == n) parts.0 (eq-eqb found.serial n same)) ∙ another in
        absurd (cc clash)

-- the first channel of a number that has one was opened
pub first_opened : (found : Chan) → found.made ≡ true → was_opened found 0 ≡ true
first_opened found made =
    and_from found.made (not (nat_lt found.serial 0)) made (ap not (le-ltb found.serial 0 (omega arith)))

-- a channel that is the present one of its number and is closed was closed
pub present_closed : (found : Chan) (n : ℕ) → fits_channel found n ≡ true → found.closed ≡ true
    → was_closed found n ≡ true
present_closed found n present closed =
    or_right (nat_lt n found.serial) (fits_channel found n && found.closed)
    (and_from (fits_channel found n) found.closed present closed)

-- what stands of a number that can be given to a new channel
pub record CanReopen (found : Chan) : Type 0 where
  pub made : found.made ≡ true
  pub closed : found.closed ≡ true
  pub below_last : found.serial < last_serial

pub reopen_parts : (found : Chan) → can_reopen found ≡ true → CanReopen found
reopen_parts found can =
    let both = and_parts (found.made && found.closed) (nat_lt found.serial last_serial) can in
    let two = and_parts found.made found.closed both.0 in
    record { made = two.0; closed = two.1; below_last = ltb-true found.serial last_serial both.1 }

-- where a closed channel's number can't be given to a new one, its serial is the last
pub spent_serial : (found : Chan) → found.made ≡ true → found.closed ≡ true → can_reopen found ≡ false
    → last_serial ≤ found.serial
spent_serial found made closed spent = by_test (nat_lt found.serial last_serial) refl
  where
    by_test : (b : Bool) → nat_lt found.serial last_serial ≡ b → last_serial ≤ found.serial
    by_test true below =
        let clash : true ≡ false =
        sym (and_from (found.made && found.closed) (nat_lt found.serial last_serial)
        (and_from found.made found.closed made closed) below) ∙ spent in
        absurd (cc clash)
    by_test false above = ltb-false found.serial last_serial above

-- an open channel wasn't closed
pub open_unclosed : (found : Chan) (n : ℕ) → is_open_channel found n ≡ true → was_closed found n ≡ false
open_unclosed found n opens =
    let is = open_parts found n opens in
    let same : found.serial ≡ n = is.serial in
    or_from (nat_lt n found.serial) (fits_channel found n && found.closed) (le-ltb n found.serial (omega arith))
    (ap (λ b. fits_channel found n && b) is.open_now ∙ no_and (fits_channel found n))
  where
    no_and : (b : Bool) → (b && false) ≡ false
    no_and true = refl
    no_and false = refl

-- a channel that was opened and isn't open was closed
pub opened_closed : (found : Chan) (n : ℕ) → was_opened found n ≡ true → is_open_channel found n ≡ false
    → was_closed found n ≡ true
opened_closed found n opened unopen = by_test (nat_lt n found.serial) refl
  where
    parts : (found.made ≡ true) × (not (nat_lt found.serial n) ≡ true)
    parts = and_parts found.made (not (nat_lt found.serial n)) opened

    closed_now : fits_channel found n ≡ true → found.closed ≡ true
    closed_now fit = by_closed found.closed refl
      where
        by_closed : (b : Bool) → found.closed ≡ b → b ≡ true
        by_closed true is = refl
        by_closed false is =
            let clash : true ≡ false =
            sym (and_from (fits_channel found n) (not found.closed) fit (ap not is)) ∙ unopen in
            absurd (cc clash)

    by_test : (b : Bool) → nat_lt n found.serial ≡ b → was_closed found n ≡ true
    by_test true later = or_left (nat_lt n found.serial) (fits_channel found n && found.closed) later
    by_test false latest =
        let above : n ≤ found.serial = ltb-false found.serial n (not-true (nat_lt found.serial n) parts.1) in
        let below : found.serial ≤ n = ltb-false n found.serial latest in
        let fit : fits_channel found n ≡ true =
        and_from found.made (found.serial == n) parts.0 (eq-eqb found.serial n (omega (arith, above, below))) in
        or_right (nat_lt n found.serial) (fits_channel found n && found.closed)
        (and_from (fits_channel found n) found.closed fit (closed_now fit))

-- ---- closing

-- a closing from a channel that was found open in non-blocking mode takes, where it finds the channel open
pub takes_unblocked : (from found : Chan) (n : ℕ) → is_open_channel from n ≡ true → from.blocking ≡ false
    → is_open_channel found n ≡ true → takes_close from found ≡ true
takes_unblocked from found n opens unblocked still =
    let was = open_parts from n opens in
    let is = open_parts found n still in
    and_from (closes_from from found) (not found.closed)
    (and_from (found.serial == from.serial) (found.blocking || not from.blocking)
    (eq-eqb found.serial from.serial (is.serial ∙ sym was.serial))
    (or_right found.blocking (not from.blocking) (ap not unblocked))) (ap not is.open_now)

-- so where it doesn't take, the channel was closed
pub closed_unblocked : (from found : Chan) (n : ℕ) → is_open_channel from n ≡ true → from.blocking ≡ false
    → takes_close from found ≡ false → was_opened found n ≡ true → was_closed found n ≡ true
closed_unblocked from found n opens unblocked fails opened =
    opened_closed found n opened (by_test (is_open_channel found n) refl)
  where
    by_test : (b : Bool) → is_open_channel found n ≡ b → is_open_channel found n ≡ false
    by_test true still =
        let clash : true ≡ false = sym (takes_unblocked from found n opens unblocked still) ∙ fails in absurd (cc clash)
    by_test false is = is

-- a closing that doesn't take and finds the channel open finds it in non-blocking mode
pub fails_open : (from found : Chan) (n : ℕ) → is_open_channel from n ≡ true → takes_close from found ≡ false
    → is_open_channel found n ≡ true → found.blocking ≡ false
fails_open from found n opens fails still =
    (or_parts found.blocking (not from.blocking) (by_serial (by_closes (closes_from from found) refl))).0
  where
    was : IsOpen from n
    was = open_parts from n opens

    is : IsOpen found n
    is = open_parts found n still

    by_closes : (b : Bool) → closes_from from found ≡ b → closes_from from found ≡ false
    by_closes true closes =
        let clash : true ≡ false =
        sym (and_from (closes_from from found) (not found.closed) closes (ap not is.open_now)) ∙ fails in
        absurd (cc clash)
    by_closes false fails_now = fails_now

    by_serial : closes_from from found ≡ false → (found.blocking || not from.blocking) ≡ false
    by_serial closes =
        sym (ap (λ b. b && (found.blocking || not from.blocking))
        (eq-eqb found.serial from.serial (is.serial ∙ sym was.serial))) ∙ closes

-- a closing that takes closes the channel
pub takes_closed : (from found : Chan) (n : ℕ) → is_open_channel from n ≡ true → found.made ≡ true
    → takes_close from found ≡ true → was_closed (closed_from from found) n ≡ true
takes_closed from found n opens made takes =
    let closes = (and_parts (closes_from from found) (not found.closed) takes).0 in
    let same = (and_parts (found.serial == from.serial) (found.blocking || not from.blocking) closes).0 in
    ap (λ (b : Bool). was_closed (if b then record found { closed = true; blocking = from.blocking } else found) n)
    closes
    ∙ or_right (nat_lt n found.serial) (fits_channel found n && true)
    (and_from (fits_channel found n) true
    (and_from found.made (found.serial == n) made
    (eq-eqb found.serial n (eqb-true found.serial from.serial same ∙ (open_parts from n opens).serial))) refl)

-- whether it takes or not, the number has had the same channels
pub opened_before : (from found : Chan) (n : ℕ) → was_opened (closed_from from found) n ≡ was_opened found n
opened_before from found n = by_test (closes_from from found)
  where
    by_test : (b : Bool)
        → was_opened (if b then record found { closed = true; blocking = from.blocking } else found) n
        ≡ was_opened found n
    by_test true = refl
    by_test false = refl

-- ---- acts

-- it is this closing that closed the channel, or it isn't
pub closes_now : (c : ChanId) (from found : Chan) → is_open_channel from c.serial ≡ true
    → takes_close from found ≡ true → closes c (CloseBit c.number from found) ≡ true
closes_now c from found opens takes =
    and_from ((c.number.0 == c.number.0) && (from.serial == c.serial)) (takes_close from found)
    (and_from (c.number.0 == c.number.0) (from.serial == c.serial) (eq-eqb c.number.0 c.number.0 refl)
    (eq-eqb from.serial c.serial (open_parts from c.serial opens).serial)) takes

pub closes_not : (c : ChanId) (from found : Chan) → takes_close from found ≡ false
    → closes c (CloseBit c.number from found) ≡ false
closes_not c from found fails =
    ap (λ b. (c.number.0 == c.number.0) && (from.serial == c.serial) && b) fails
    ∙ and-false ((c.number.0 == c.number.0) && (from.serial == c.serial))
