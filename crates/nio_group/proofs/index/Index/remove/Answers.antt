use Rattle.std.proofs.Common.{arith}
use Rattle.std.proofs.lemmas.Bool.{false≢true}
use Rattle.nio_group.proofs.TableLemmas.{table-removed, changes-removed, key_in-not_near}
use Rattle.nio_group.proofs.index.Index.remove.Goals as goal

pub invariant_of-self : goal.invariant_of-self
invariant_of-self c =
    let size = c.self.invariant.size in
    let small = c.self.invariant.small_reach in
    let found = rw c.deref.ensures.value at c.in-Some.ensures.found in
    table-removed c.in-Some.at c.self.invariant (omega (arith, found.1, c.home-home.ensures.below))

pub returns-in-Some-clause-changes : goal.returns-in-Some-clause-changes
returns-in-Some-clause-changes c =
    let size = c.self.invariant.size in
    let small = c.self.invariant.small_reach in
    let found = rw c.deref.ensures.value at c.in-Some.ensures.found in
    rw (← c.self.view_is)
    (changes-removed c.args.number c.in-Some.at c.self.invariant (omega (arith, found.1, c.home-home.ensures.below))
    found.2)

-- the number has a key, so it is found
not_found : (c : goal.In_default) → ⊥
not_found c =
    let absent = rw (c.deref.ensures.value, c.home-home.ensures.place) at c.in_default.ensures.absent in
    let none = key_in-not_near c.args.number c.self.invariant absent in
    let some = rw (← c.self.view_is) at c.requires in
    let some_none = rw none at some in
    false≢true some_none

pub returns-in_default-clause-changes : goal.returns-in_default-clause-changes
returns-in_default-clause-changes c = absurd (not_found c)

pub returns-in_default-clause-count : goal.returns-in_default-clause-count
returns-in_default-clause-count c = absurd (not_found c)
