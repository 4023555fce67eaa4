use Rattle.nio_group.proofs.TableLemmas.{table-inserts, changes-inserted}
use Rattle.nio_group.proofs.index.Index.insert.Goals as goal

pub invariant_of-self : goal.invariant_of-self
invariant_of-self c =
    let vacant = rw c.deref.ensures.value at c.vacant-at.ensures.vacant in
    let new = rw (← c.self.view_is) at c.requires.new in
    rw c.max-self-inside.ensures
    (table-inserts (record { number = c.args.number; key = c.args.key }) c.home-home.result c.vacant-at.result
    c.home-home.ensures.place c.self.invariant c.home-home.ensures.below vacant c.vacant-at.ensures.from_home
    c.vacant-at.ensures.before_end new)

pub returns-clause-changes : goal.returns-clause-changes
returns-clause-changes c =
    let vacant = rw c.deref.ensures.value at c.vacant-at.ensures.vacant in
    let new = rw (← c.self.view_is) at c.requires.new in
    rw (← c.self.view_is)
    (changes-inserted (record { number = c.args.number; key = c.args.key }) c.home-home.result c.vacant-at.result
    c.self.invariant c.home-home.ensures.below vacant c.vacant-at.ensures.before_end new)
