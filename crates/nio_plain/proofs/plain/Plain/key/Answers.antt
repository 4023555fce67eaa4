use Rattle.std.proofs.Common.{◌≡◌, ℕ, ◌<◌, ◌≤◌, ltb, eqb, true, false, ◌||◌, ◌&&◌, ap, ◌∙◌, length, arith, ⊎_elim}
use Rattle.std.proofs.lemmas.Bool.{cases_lt, lt-ltb, le-ltb, eq-eqb, ne_eqb, or_left}
use Rattle.nio_history.specs.Sets.{was_published}
use Rattle.nio_plain.proofs.Replying.{selector_made-below, selector_made-past}
use Rattle.nio_plain.proofs.Naming.{key-through, key-no_selector, key-no_key}
use Rattle.nio_plain.proofs.Places.{places_at, places_past}
use Rattle.nio_plain.specs.PlainState.{SelectorRow, KeyRow, state_of, selector_row, no_selector, key_row, no_key}
use Rattle.nio_plain.specs.declared.plain.selector.Key.{Key}
use Rattle.nio_plain.proofs.plain.Plain.key.Goals as goal

-- a key with a higher serial was not published, and one with none was
not_yet : (k : Key) (serial : ℕ) → k.serial < serial → was_published (key_row k).stage serial ≡ false
not_yet k serial h =
    ap (λ b. b || (eqb k.serial serial && true)) (le-ltb serial k.serial (omega arith))
    ∙ ap (λ b. b && true) (ne_eqb k.serial serial (λ e. omega arith))

was : (k : Key) (serial : ℕ) → serial ≤ k.serial → was_published (key_row k).stage serial ≡ true
was k serial h =
    ⊎_elim
    (λ (l : serial < k.serial). or_left (ltb serial k.serial) _ (lt-ltb serial k.serial l))
    (λ (l : k.serial ≤ serial).
    let same : k.serial ≡ serial = omega arith in
    ap (λ b. b || (eqb k.serial serial && true)) (le-ltb serial k.serial l)
    ∙ ap (λ b. b && true) (eq-eqb k.serial serial same))
    (cases_lt serial k.serial)

pub returns-then-sel-len-clause-refused : goal.returns-then-sel-len-clause-refused
returns-then-sel-len-clause-refused c =
    let p = c.args.self.now in
    let past : length p.selectors.items ≤ c.args.sel.0 = omega (arith, p.selectors.ok.0) in
    key-no_selector (state_of p) c.args.sel c.args.id (selector_made-past p.selectors.items c.args.sel.0 past)

pub returns-then-id-len-clause-refused : goal.returns-then-id-len-clause-refused
returns-then-id-len-clause-refused c =
    let p = c.args.self.now in
    let x = c.index-selector.result.now in
    let id = c.args.id in
    let within : c.args.sel.0 < length p.selectors.items = omega (arith, p.selectors.ok.0) in
    let at = places_at selector_row no_selector p.selectors.items c.args.sel.0 x within c.index-selector.ensures in
    let past : length x.keys.items ≤ id.index = omega (arith, x.keys.ok.0) in
    let none = ap (λ (r : SelectorRow). r.keys id.index) at ∙ places_past key_row no_key x.keys.items id.index past in
    key-no_key (state_of p) c.args.sel id (selector_made-below p.selectors.items c.args.sel.0 within)
    (ap (λ (k : KeyRow). was_published k.stage id.serial) none
    ∙ ap (λ b. b || false) (le-ltb id.serial 0 (omega arith)))

pub returns-then-key-id-clause-refused : goal.returns-then-key-id-clause-refused
returns-then-key-id-clause-refused c =
    let p = c.args.self.now in
    let x = c.index-selector.result.now in
    let id = c.args.id in
    let within : c.args.sel.0 < length p.selectors.items = omega (arith, p.selectors.ok.0) in
    let at = places_at selector_row no_selector p.selectors.items c.args.sel.0 x within c.index-selector.ensures in
    let in_keys : id.index < length x.keys.items = omega (arith, x.keys.ok.0) in
    let row = ap (λ (r : SelectorRow). r.keys id.index) at
    ∙ places_at key_row no_key x.keys.items id.index c.index-key.result.now in_keys c.index-key.ensures in
    key-no_key (state_of p) c.args.sel id (selector_made-below p.selectors.items c.args.sel.0 within)
    (ap (λ (k : KeyRow). was_published k.stage id.serial) row
    ∙ not_yet c.index-key.result.now id.serial c.if-key-id.true)

pub returns-clause-through : goal.returns-clause-through
returns-clause-through c =
    let p = c.args.self.now in
    let x = c.index-selector.result.now in
    let id = c.args.id in
    let within : c.args.sel.0 < length p.selectors.items = omega (arith, p.selectors.ok.0) in
    let at = places_at selector_row no_selector p.selectors.items c.args.sel.0 x within c.index-selector.ensures in
    let in_keys : id.index < length x.keys.items = omega (arith, x.keys.ok.0) in
    let row = ap (λ (r : SelectorRow). r.keys id.index) at
    ∙ places_at key_row no_key x.keys.items id.index c.index-key.result.now in_keys c.index-key.ensures in
    key-through (state_of p) c.args.sel id (selector_made-below p.selectors.items c.args.sel.0 within)
    (ap (λ (k : KeyRow). was_published k.stage id.serial) row
    ∙ was c.index-key.result.now id.serial c.if-key-id.false)

pub returns-clause-row : goal.returns-clause-row
returns-clause-row c =
    let p = c.args.self.now in
    let x = c.index-selector.result.now in
    let within : c.args.sel.0 < length p.selectors.items = omega (arith, p.selectors.ok.0) in
    let at = places_at selector_row no_selector p.selectors.items c.args.sel.0 x within c.index-selector.ensures in
    let in_keys : c.args.id.index < length x.keys.items = omega (arith, x.keys.ok.0) in
    ap (λ (r : SelectorRow). r.keys c.args.id.index) at
    ∙ places_at key_row no_key x.keys.items c.args.id.index c.index-key.result.now in_keys c.index-key.ensures

pub returns-clause-claimed : goal.returns-clause-claimed
returns-clause-claimed c =
    let p = c.args.self.now in
    let x = c.index-selector.result.now in
    let within : c.args.sel.0 < length p.selectors.items = omega (arith, p.selectors.ok.0) in
    let mark = ap (λ (r : SelectorRow). r.keys_high)
    (places_at selector_row no_selector p.selectors.items c.args.sel.0 x within c.index-selector.ensures) in
    omega (arith, x.keys.ok.0, mark)
