use Rattle.std.proofs.Common.{◌≡◌, ◌<◌, Bool, false, true, sym, ◌∙◌, subst, arith}
use Rattle.nio_words.proofs.Draws.{draw_allowed, draws_undrawn, draws_drawn}
use Rattle.nio_words.specs.Decodings.{is_set}
use Rattle.nio_words.specs.Telling.{TellsDrawn}
use Rattle.nio_words.proofs.words.Words.draw_as.Goals as goal

pub perform-callers-requires-clause-rule : goal.perform-callers-requires-clause-rule
perform-callers-requires-clause-rule g c =
    let w = c.args.self.now in
    let p = c.args.p.now in
    let n = c.args.number in
    let below : n.0 < 64 = omega (arith, c.requires.1.1, w.fit.few_callers) in
    rw (c.requires.0, w.key)
    (draw_allowed w.limits _ p.seat.id p.seat.me.0 p.seat.me.1 n below p.unspent c.requires.1.1)

pub returns-then-not-drawn : goal.returns-then-not-drawn
returns-then-not-drawn g c =
    let w = c.args.self.now in
    let n = c.args.number in
    let below : n.0 < 64 = omega (arith, c.requires.1.1, w.fit.few_callers) in
    let found : is_set c.perform-callers.result n.0 ≡ false = sym c.is_set-drawn.ensures ∙ c.if-not-drawn.true in
    let told : TellsDrawn c.args.p.now.seat.me.0 n
    (is_set c.perform-callers.result n.0) c.perform-callers.new.seat.me.0 =
    rw c.requires.0 at c.perform-callers.ensures.told.1 in
    let undrawn : TellsDrawn c.args.p.now.seat.me.0 n false c.perform-callers.new.seat.me.0 = subst
    (λ (b : Bool). TellsDrawn c.args.p.now.seat.me.0 n b c.perform-callers.new.seat.me.0) found told in
    rw (c.requires.0, c.if-not-drawn.true)
    (draws_undrawn w c.args.p.now _ n below c.requires.1.1 c.requires.1.0 c.perform-callers.ensures.seat.0 undrawn)

pub returns-else-not-drawn : goal.returns-else-not-drawn
returns-else-not-drawn g c =
    let w = c.args.self.now in
    let n = c.args.number in
    let found : is_set c.perform-callers.result n.0 ≡ true = sym c.is_set-drawn.ensures ∙ c.if-not-drawn.false in
    let told : TellsDrawn c.args.p.now.seat.me.0 n
    (is_set c.perform-callers.result n.0) c.perform-callers.new.seat.me.0 =
    rw c.requires.0 at c.perform-callers.ensures.told.1 in
    let drawn : TellsDrawn c.args.p.now.seat.me.0 n true c.perform-callers.new.seat.me.0 = subst
    (λ (b : Bool). TellsDrawn c.args.p.now.seat.me.0 n b c.perform-callers.new.seat.me.0) found told in
    rw (c.requires.0, c.if-not-drawn.false)
    (draws_drawn w c.args.p.now _ n c.requires.1.0 c.perform-callers.ensures.seat.0 drawn)
