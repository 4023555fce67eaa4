use Rattle.nio_words.proofs.Stepping.{allowed, step_taken}
use Rattle.nio_words.proofs.words.Words.step.Goals as goal

pub perform-requires-clause-rule : goal.perform-requires-clause-rule
perform-requires-clause-rule g c =
    let w = c.args.self.now in
    let p = c.args.p.now in
    let ready = c.requires.0 in
    let moves = c.requires.1.0 in
    let condition = c.requires.1.1 in
    rw (c.place_of-word.ensures.place, w.key)
    (allowed w.limits w.table.shared.table_id.slots p.seat.id p.seat.me.0 p.seat.me.1 g.doing.who c.args.part _
    g.doing.act p.unspent ready.number moves (rw ready.pass.limits condition))

pub returns : goal.returns
returns g c = record {
  step = step_taken c.args.self.now c.args.p.now _ g.doing.who _ c.requires.0.pass c.perform.ensures.seat.0
      c.perform.ensures.told.1;
}
