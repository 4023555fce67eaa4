use Rattle.std.proofs.Common.{◌≡◌, ◌<◌, ◌≤◌, length, refl, ap, ◌∙◌, arith}
use Rattle.nio_language.specs.declared.reply.Reply.TheVariants as reply
use Rattle.nio_plain.proofs.Replying.{unchanged_as, replied_as, selector_made-below, selector_made-past}
use Rattle.nio_plain.proofs.Replying.{state-push_selector, rows_of}
use Rattle.nio_plain.proofs.Opening.{selector_call-spent, selector_call-found, state-new_selector}
use Rattle.nio_plain.proofs.Places.{places_past}
use Rattle.nio_plain.specs.PlainState.{selector_row, no_selector}
use Rattle.nio_plain.proofs.plain.Plain.open_selector.Goals as goal

pub returns-then-number-self : goal.returns-then-number-self
returns-then-number-self c =
    let xs = c.args.self.now.selectors.items in
    let full : c.args.self.now.limits.selectors ≤ length xs = omega (arith, c.args.self.now.selectors.ok.0) in
    unchanged_as c.args.self.now reply.SelectorsSpent _
    (selector_call-spent c.args.self.now.limits _ _ _ _ _ _ (length xs) (selector_made-below xs)
    (selector_made-past xs) full)

pub returns : goal.returns
returns c =
    let p = c.args.self.now in
    let xs = p.selectors.items in
    let room : length xs < p.limits.selectors = omega (arith, p.selectors.ok.0) in
    let number : c.len-number.result ≡ length xs = omega (arith, p.selectors.ok.0) in
    let past = places_past selector_row no_selector xs (length xs) (omega arith) in
    let made = selector_call-found p.limits _ _ _ _ _ (rows_of p) (length xs) (selector_made-below xs)
    (selector_made-past xs) room in
    replied_as _ _ _ _ _ made
    (ap (λ n. reply.Selector (record { 0 = n })) number)
    (state-push_selector p c.push.new.self.items c.new.result _ c.in_ok-push.ensures.items c.new.ensures
    ∙ state-new_selector p.limits _ _ _ _ _ (rows_of p) (length xs) past)
    (record { limits = refl; rules = refl })
