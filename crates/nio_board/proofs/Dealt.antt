-- A worker's channel, and what the table has for it.
use Rattle.std.proofs.Common.{◌≡◌, ℕ, ◌+◌, ◌-◌, ◌*◌, ◌/◌, ◌%◌, ◌<◌, ◌≤◌, ◌==◌, Bool, true, false, if◌then◌else◌, max}
use Rattle.std.proofs.Common.{refl, sym, ap, ◌∙◌, arith, eq-eqb, eqb-true}
use Rattle.std.proofs.Math.Nat.{add_comm}
use Rattle.std.proofs.lemmas.Bool.{false≢true}
use Rattle.std.proofs.lemmas.Nat.{div-mul-add}
use Rattle.nio_base.specs.declared.numbers.ChanNo.{ChanNo}
use Rattle.nio_board.specs.BoardLaws.{DealtComesBack}
use Rattle.nio_board.specs.Called.{board_channel, dealt_channel}
use Rattle.nio_board.specs.declared.deal.Deal.{Deal}

chan_as : (a b : ChanNo) → a.0 ≡ b.0 → a ≡ b
chan_as a b same = ap (λ (n : ℕ). let c : ChanNo = record { 0 = n } in c) same

-- the links of connection k are 2k + 1 and 2k + 2
half : (k r : ℕ) → r < 2 → (2 * k + 1 + r - 1) / 2 ≡ k
half k r small = omega (arith, small)

rest : (k r : ℕ) → r < 2 → (2 * k + 1 + r - 1) % 2 ≡ r
rest k r small = omega (arith, small)

-- the connection that a worker v of w has as its j-th
quotient : (v w j : ℕ) → v < w → (v + j * w) / max w 1 ≡ j
quotient v w j within =
    let order : v + j * w ≡ j * w + v = add_comm v (j * w) in
    let some : max w 1 ≡ w = omega (arith, within) in
    ap (λ m. (v + j * w) / m) some ∙ (ap (λ k. k / w) order ∙ div-mul-add j w v within)

-- a link of the j-th connection is the worker's link of that connection
its_link : (v w j r : ℕ) → v < w → r < 2
    → 2 * ((2 * (v + j * w) + 1 + r - 1) / 2 / max w 1) + 1 + (2 * (v + j * w) + 1 + r - 1) % 2 ≡ 2 * j + 1 + r
its_link v w j r within small =
    let number : (2 * (v + j * w) + 1 + r - 1) / 2 / max w 1 ≡ j =
    ap (λ n. n / max w 1) (half (v + j * w) r small) ∙ quotient v w j within in
    ap (λ n. 2 * n + 1 + (2 * (v + j * w) + 1 + r - 1) % 2) number ∙ ap (λ n. 2 * j + 1 + n) (rest (v + j * w) r small)

-- ---- there and back

abbrev listener_there : ChanNo
listener_there = record { 0 = 0 }

abbrev link_in_table : Deal → ChanNo → ChanNo
link_in_table deal c = record { 0 = 2 * (deal.worker + ((c.0 - 1) / 2) * deal.workers) + 1 + (c.0 - 1) % 2 }

abbrev link_of_worker : Deal → ChanNo → ChanNo
link_of_worker deal d = record { 0 = 2 * ((d.0 - 1) / 2 / max deal.workers 1) + 1 + (d.0 - 1) % 2 }

dealt_is : (deal : Deal) (c : ChanNo) (b : Bool) → (c.0 == 0) ≡ b
    → dealt_channel deal c ≡ (if b then deal.listener else link_in_table deal c)
dealt_is deal c b is = ap (λ (x : Bool). if x then deal.listener else link_in_table deal c) is

board_is : (deal : Deal) (d : ChanNo) (b : Bool) → (d.0 == deal.listener.0) ≡ b
    → board_channel deal d ≡ (if b then listener_there else link_of_worker deal d)
board_is deal d b is = ap (λ (x : Bool). if x then listener_there else link_of_worker deal d) is

some_link : (c : ChanNo) → (c.0 == 0) ≡ false → 1 ≤ c.0
some_link c is = grind (arith, eq-eqb c.0 0)

link_back : (deal : Deal) (c : ChanNo) → deal.worker < deal.workers → (c.0 == 0) ≡ false
    → link_of_worker deal (link_in_table deal c) ≡ c
link_back deal c within is =
    let some : 1 ≤ c.0 = some_link c is in
    chan_as (link_of_worker deal (link_in_table deal c)) c
    (its_link deal.worker deal.workers ((c.0 - 1) / 2) ((c.0 - 1) % 2) within (omega arith) ∙ omega (arith, some))

pub comes_back : DealtComesBack
comes_back deal c within apart = by_zero (c.0 == 0) refl
  where
    by_listener : (c.0 == 0) ≡ false → (b : Bool) → ((link_in_table deal c).0 == deal.listener.0) ≡ b
        → board_channel deal (link_in_table deal c) ≡ c
    by_listener is true same =
        let none : c.0 ≡ 0 = apart (dealt_is deal c false is
        ∙ chan_as (link_in_table deal c) deal.listener (eqb-true _ _ same)) in
        absurd (false≢true (sym is ∙ eq-eqb c.0 0 none))
    by_listener is false other = board_is deal (link_in_table deal c) false other ∙ link_back deal c within is

    by_zero : (b : Bool) → (c.0 == 0) ≡ b → board_channel deal (dealt_channel deal c) ≡ c
    by_zero true is =
        ap (board_channel deal) (dealt_is deal c true is)
        ∙ (board_is deal deal.listener true (eq-eqb deal.listener.0 deal.listener.0 refl)
        ∙ chan_as listener_there c (sym (eqb-true c.0 0 is)))
    by_zero false is =
        ap (board_channel deal) (dealt_is deal c false is)
        ∙ by_listener is ((link_in_table deal c).0 == deal.listener.0) refl
