use Rattle.std.proofs.Common.{ℕ, ◌≡◌, List, length, ap, subst, arith}
use Rattle.nio_select.specs.Asked.{AreBelow, IsRising, keys_to}
use Rattle.nio_select.specs.KeyKept.{keys_from}
use Rattle.nio_select.proofs.KeptKeys.{all_to, first_below, keys_rise}
use Rattle.nio_steps.specs.declared.looked.LookedKey.{LookedKey}
use Rattle.nio_select.proofs.asked.Asked.bound.Goals as goal

pub returns-clause-below : goal.returns-clause-below
returns-clause-below c =
    let long : length c.self.inside.slots.items ≡ c.len.result = omega (arith, c.len.ensures, c.self.inside.slots.ok.0) in
    subst (λ (n : ℕ). AreBelow n c.args.self.now.keys) long
    (subst (λ (keys : List LookedKey). AreBelow (length c.self.inside.slots.items) keys) (ap (λ v. v.keys) c.self.view_is)
    (first_below c.self.inside.slots.items))

pub returns-clause-all : goal.returns-clause-all
returns-clause-all c =
    let long : length c.self.inside.slots.items ≡ c.len.result = omega (arith, c.len.ensures, c.self.inside.slots.ok.0) in
    subst (λ (n : ℕ). keys_to n c.args.self.now.keys ≡ c.args.self.now.keys) long
    (subst (λ (keys : List LookedKey). keys_to (length c.self.inside.slots.items) keys ≡ keys) (ap (λ v. v.keys) c.self.view_is)
    (all_to (length c.self.inside.slots.items) (keys_from 0 c.self.inside.slots.items)
    (first_below c.self.inside.slots.items)))

pub returns-clause-rise : goal.returns-clause-rise
returns-clause-rise c =
    subst IsRising (ap (λ v. v.keys) c.self.view_is) (keys_rise 0 c.self.inside.slots.items)
