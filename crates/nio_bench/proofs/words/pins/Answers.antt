use Rattle.std.proofs.Common.{◌≡◌, ℕ, ◌==◌, Bool, true, false, if◌then◌else◌, not, Option, Some, None, is_some, [], ◌∷◌}
use Rattle.std.proofs.Common.{◌++◌, refl, ap, sym, ◌∙◌, subst, eq-eqb}
use Rattle.std.proofs.lemmas.Bool.{and_from}
use Rattle.std.specs.Prelude.{IsTrue}
use Rattle.nio_base.specs.declared.numbers.CallerNo.{CallerNo}
use Rattle.nio_base.specs.declared.numbers.ChanNo.{ChanNo}
use Rattle.nio_base.specs.declared.numbers.SelNo.{SelNo}
use Rattle.nio_history.proofs.Finds.{step_leaves}
use Rattle.nio_history.proofs.Put.{put-same}
use Rattle.nio_history.specs.Conditions.{holds, is_held_by, has_pin}
use Rattle.nio_history.specs.Histories.{state_after}
use Rattle.nio_history.specs.Permanent.{channel_made}
use Rattle.nio_history.specs.PassViews.{PassView, Holds, known, ActsClause}
use Rattle.nio_history.specs.declared.act.Act.TheVariants.{TryHoldBit, Claim}
use Rattle.nio_words.proofs.Pins.{pin_then, pin_after}
use Rattle.nio_words.proofs.Views.{step_acts, found_now}
use Rattle.nio_bench.proofs.words.pins.Goals as goal

not_false : (b : Bool) → not b ≡ false → b ≡ true
not_false true e = refl
not_false false e = cc

not_true : (b : Bool) → not b ≡ true → b ≡ false
not_true true e = cc
not_true false e = refl

none_of : (o : Option CallerNo) → is_some o ≡ false → o ≡ None
none_of None e = refl
none_of (Some n) e = absurd cc

-- who took a hold that nobody had has it
held_now : {me : CallerNo} {c : ChanNo} {found : Option CallerNo} {v0 v1 : PassView}
    → ActsClause me (TryHoldBit c found ∷ []) v0 v1 → found ≡ None → IsTrue (holds (known v1) me c)
held_now {me = me} {c = c} {v0 = v0} {v1 = v1} clause none =
    let free = subst (λ found. ActsClause me (TryHoldBit c found ∷ []) v0 v1) none clause in
    let leaves = step_leaves v0.limits (Holds v0) me (TryHoldBit c None) v0.seen v1.seen free.history in
    ap (λ st. is_held_by me (st.hold c.0)) leaves.state
    ∙ (ap (is_held_by me) (put-same (state_after (v0.seen ++ leaves.between)).hold c.0 (Some me))
    ∙ eq-eqb me.0 me.0 refl)

-- who claimed an index that wasn't claimed has a pin on it
pinned_now : {me : CallerNo} {s : SelNo} {i : ℕ} {c : ChanNo} {found : Bool} {v0 v1 : PassView}
    → ActsClause me (Claim s i c found ∷ []) v0 v1 → found ≡ false → IsTrue (has_pin (known v1) me s i)
pinned_now {me = me} {s = s} {i = i} {c = c} {v0 = v0} {v1 = v1} clause new =
    let claims = subst (λ found. ActsClause me (Claim s i c found ∷ []) v0 v1) new clause in
    pin_after claims s i
    ∙ ap (λ b. pin_then (if b then Some true else None) (has_pin (known v0) me s i))
    (and_from (s.0 == s.0) (i == i) (eq-eqb s.0 s.0 refl) (eq-eqb i i refl))

pub try_hold_bit-requires-clause-made : goal.try_hold_bit-requires-clause-made
try_hold_bit-requires-clause-made c =
    found_now (channel_made c.args.c.0) (step_acts c.look_channel.ensures refl)
    (and_from (c.args.c.0 == c.args.c.0) c.look_channel.result.made (eq-eqb c.args.c.0 c.args.c.0 refl)
    (not_false c.look_channel.result.made c.if-not-look_channel.false))

pub claim-requires-clause-holds : goal.claim-requires-clause-holds
claim-requires-clause-holds c =
    held_now (step_acts c.try_hold_bit.ensures refl)
    (none_of c.try_hold_bit.result (sym c.is_some.ensures ∙ c.if-is_some.false))

pub returns-clause-pinned : goal.returns-clause-pinned
returns-clause-pinned c = λ claimed. pinned_now (step_acts c.claim.ensures refl) (not_true c.claim.result claimed)
