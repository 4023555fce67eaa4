use Rattle.std.proofs.Common.{◌≡◌, ◌++◌, [], ◌∷◌, None, Some, sym, ap, ◌∙◌, subst, bit_and}
use Rattle.std.specs.List.{Contains}
use Rattle.std.proofs.lemmas.List.{append-nil}
use Rattle.std.proofs.lemmas.List.Elements.{Contains-get_or}
use Rattle.nio_board.proofs.Resolved.{one_more, told_more}
use Rattle.nio_board.proofs.board.selection.list.Goals as goal
use Rattle.nio_board.proofs.board.selection.list.Goals.{in-Some+in_ok-push, in_default}

pub loop-index-preserved : goal.loop-index-preserved
loop-index-preserved c =
    elim c.match-key.branch [
      | in-Some+in_ok-push w ↦
          let pair = c.loop-index-item.result in
          let there : Contains c.args.pairs.now pair = subst (Contains c.args.pairs.now) (sym c.loop-index-item.is)
          (Contains-get_or c.args.pairs.now c.loop-index.index-index pair c.loop-index-test.true) in
          let key = w.in-Some.key in
          let found = sym c.key.ensures.is ∙ w.in-Some.is in
          let items : c.match-key.told.items ≡ c.loop-index.told.items
          ++ (key.channel, bit_and pair.1 key.interest) ∷ [] =
          ap (λ told. told.items) w.told-is
          ∙ (w.in_ok-push.ensures.items ∙ ap (λ one. c.loop-index.told.items ++ one ∷ []) w.met.ensures) in
          record {
            ready = one_more c.args.asked.now.keys c.args.pairs.now pair.0 pair.1 key c.loop-index.told.items
                c.match-key.told.items items there found c.loop-index.invariant.ready;
            exact = items
                ∙ (ap (λ xs. xs ++ (key.channel, bit_and pair.1 key.interest) ∷ []) c.loop-index.invariant.exact
                ∙ sym (told_more c.args.asked.now.keys c.args.pairs.now c.loop-index.index-index pair (Some key)
                c.loop-index-test.true c.loop-index-item.is (sym found)));
          }
      | in_default w ↦
          let pair = c.loop-index-item.result in
          record {
            ready = rw w.told-is c.loop-index.invariant.ready;
            exact = ap (λ told. told.items) w.told-is
                ∙ (c.loop-index.invariant.exact
                ∙ (sym (append-nil _)
                ∙ sym (told_more c.args.asked.now.keys c.args.pairs.now c.loop-index.index-index pair None
                c.loop-index-test.true c.loop-index-item.is (sym (sym c.key.ensures.is ∙ w.in_default.is)))));
          }
    ]
