use Rattle.std.proofs.Common.{◌<◌, ◌≤◌, false, is_some, refl, sym, ap, ◌∙◌, length, arith, map}
use Rattle.nio_history.specs.State.{put, unmade_channel}
use Rattle.nio_language.specs.declared.reply.Reply.TheVariants as reply
use Rattle.nio_plain.proofs.Replying.{unchanged_as, replied_as, failed_as, state-same_selector, state-set_selector}
use Rattle.nio_plain.proofs.Replying.{rows_of, with_rows, is_some-caller_of, selector_made-below, selector_made-past}
use Rattle.nio_plain.proofs.Places.{places_at}
use Rattle.nio_plain.proofs.Selecting.{begin-no_selector, begin-negative, begin-shut, begin-busy, begin-begun}
use Rattle.nio_plain.proofs.Selecting.{state-begun, looked-begun}
use Rattle.nio_plain.specs.PlainState.{places, channel_row, SelectorRow, state_of, selector_row, no_selector}
use Rattle.nio_plain.specs.PlainState.{with_selection_begun, looked_below, pipe_of}
use Rattle.nio_plain.proofs.plain.Plain.begin.Goals as goal

pub returns-then-sel-len : goal.returns-then-sel-len
returns-then-sel-len c =
    let p = c.args.self.now in
    let past : length p.selectors.items ≤ c.args.sel.0 = omega (arith, p.selectors.ok.0) in
    unchanged_as p reply.NoSelector _
    (begin-no_selector p.rules (state_of p) c.args.me c.args.sel c.args.waiting
    (selector_made-past p.selectors.items c.args.sel.0 past))

pub returns-in_default : goal.returns-in_default
returns-in_default c =
    let p = c.args.self.now in
    let within : c.args.sel.0 < length p.selectors.items = omega (arith, p.selectors.ok.0) in
    unchanged_as p reply.NegativeTimeout _
    (begin-negative p.rules (state_of p) c.args.me c.args.sel c.args.waiting
    (selector_made-below p.selectors.items c.args.sel.0 within) (sym c.mode_of.ensures ∙ c.in_default.is))

pub returns-then-is_shut : goal.returns-then-is_shut
returns-then-is_shut c =
    let p = c.args.self.now in
    let s = c.args.sel.0 in
    let within : s < length p.selectors.items = omega (arith, p.selectors.ok.0) in
    let at = places_at selector_row no_selector p.selectors.items s c.index-selector.result.now within
    c.index-selector.ensures in
    unchanged_as p reply.ClosedSelector _
    (begin-shut p.rules (state_of p) c.args.me c.args.sel c.args.waiting
    (selector_made-below p.selectors.items s within)
    c.in-Some.mode (sym c.mode_of.ensures ∙ c.in-Some.is)
    (ap (λ (r : SelectorRow). r.gate.shut) at ∙ sym c.if-is_shut.ensures))

pub returns-then-is_some : goal.returns-then-is_some
returns-then-is_some c =
    let p = c.args.self.now in
    let s = c.args.sel.0 in
    let x = c.index-selector.result.now in
    let within : s < length p.selectors.items = omega (arith, p.selectors.ok.0) in
    let at = places_at selector_row no_selector p.selectors.items s x within c.index-selector.ensures in
    unchanged_as p reply.Busy _
    (begin-busy p.rules (state_of p) c.args.me c.args.sel c.args.waiting
    (selector_made-below p.selectors.items s within)
    c.in-Some.mode (sym c.mode_of.ensures ∙ c.in-Some.is)
    (ap (λ (r : SelectorRow). r.gate.shut) at ∙ sym c.if-is_shut.ensures)
    (ap (λ (r : SelectorRow). is_some r.turn) at ∙ (is_some-caller_of x.selecting ∙ sym c.if-is_some.ensures)))

pub returns-in_err-looked : goal.returns-in_err-looked
returns-in_err-looked c =
    let p = c.args.self.now in
    let within : c.args.sel.0 < length p.selectors.items = omega (arith, p.selectors.ok.0) in
    failed_as _ _ _ _ c.from_residual.ensures.0
    (state-same_selector p c.args.sel.0 c.index_mut.result.now c.begin.new.self within c.index_mut.ensures.value
    c.in_err-looked.ensures.memory)
    (record { limits = refl; rules = refl })

pub returns : goal.returns
returns c =
    let p = c.args.self.now in
    let s = c.args.sel.0 in
    let x = c.index-selector.result.now in
    let y = c.index_mut.result.now in
    let within : s < length p.selectors.items = omega (arith, p.selectors.ok.0) in
    let at = places_at selector_row no_selector p.selectors.items s x within c.index-selector.ensures in
    let at' = places_at selector_row no_selector p.selectors.items s y within c.index_mut.ensures.value in
    let rows = rows_of p in
    let made = selector_made-below p.selectors.items s within in
    let not_shut = ap (λ (r : SelectorRow). r.gate.shut) at ∙ sym c.if-is_shut.ensures in
    let free = ap (λ (r : SelectorRow). is_some r.turn) at
    ∙ (is_some-caller_of x.selecting ∙ sym c.if-is_some.ensures) in
    let how = c.in-Some.mode in
    let left = c.in_ok-looked.ensures.left ∙ ap (λ r. with_selection_begun p.rules r c.args.me how) (sym at') in
    let looked = c.in_ok-looked.ensures.looked
    ∙ (ap (λ (r : SelectorRow). looked_below r.keys r.keys_high) (sym at')
    ∙ sym (looked-begun p.rules p.group (map pipe_of p.pipes.items) (places (λ b. b) false p.interrupted.items)
    (length p.channels.items) (places channel_row unmade_channel p.channels.items) s rows)) in
    replied_as p _ _ _ _
    (begin-begun p.rules (state_of p) c.args.me c.args.sel c.args.waiting made c.in-Some.mode
    (sym c.mode_of.ensures ∙ c.in-Some.is) not_shut free)
    (ap reply.Looked looked)
    (state-set_selector p _ s c.begin.new.self within refl
    ∙ (ap (λ r. with_rows p (put rows s r)) left ∙ state-begun p.rules _ _ _ _ _ s rows c.args.me how))
    (record { limits = refl; rules = refl })
