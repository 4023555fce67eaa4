use Rattle.std.proofs.Common.{◌≡◌, bit_or, length, refl, ap, ◌∙◌, arith}
use Rattle.std.proofs.lemmas.List.{get_or_read}
use Rattle.nio_plain.proofs.Marking.{all_told-step, all_told-past, all_told-skip}
use Rattle.nio_plain.proofs.plain.marking.all_told.Goals as goal
use Rattle.nio_plain.proofs.plain.marking.all_told.Goals.{then-index-serials+then-serials-index, else-index-serials}
use Rattle.nio_plain.proofs.plain.marking.all_told.Goals.{else-index-serials-via-then-index-serials+else-serials-index}
use Rattle.nio_plain.proofs.plain.marking.all_told.Goals.{else-index-serials-via-else-index-serials}

pub loop-key-preserved : goal.loop-key-preserved
loop-key-preserved c =
    let told = c.loop-key.told.items in
    let serials = c.args.serials.now in
    let ps = c.args.pairs.now in
    let j = c.loop-key.key-index in
    let p = c.loop-key-item.result in
    let long : length told ≡ length serials = omega (arith, c.loop-key.told.ok.0, c.loop-key.invariant.long) in
    let before = c.loop-key.invariant in
    elim c.if-index-serials.branch [
      | then-index-serials+then-serials-index w ↦
          let read = get_or_read told p.0.index w.index.result.now (omega arith) w.index.ensures 0 in
          rw w.told-is
          (record {
            long = before.long;
            told = all_told-step ps j p told serials c.loop-key-test.true c.loop-key-item.is long before.told p.0.index
                w.union.result refl w.if-index-serials.true w.if-serials-index.true
                (w.union.ensures ∙ ap (λ n. bit_or n p.1) read);
          })
      | else-index-serials w ↦ elim w.else-index-serials.branch [
        | else-index-serials-via-then-index-serials+else-serials-index v ↦ rw w.told-is
            (record {
              long = before.long;
              told = all_told-skip ps j p told serials c.loop-key-test.true c.loop-key-item.is long before.told
                  p.0.index refl v.if-serials-index.false;
            })
        | else-index-serials-via-else-index-serials v ↦ rw w.told-is
            (record {
              long = before.long;
              told = all_told-past ps j p told serials c.loop-key-test.true c.loop-key-item.is long before.told
                  (omega (arith, v.if-index-serials.false));
            })
      ]
    ]
