use Rattle.std.proofs.Common.{ℕ, List, map, refl, arith}
use denote.Ref.{Bor}
use Rattle.std.proofs.lemmas.List.{length-map}
use Rattle.std.proofs.lemmas.Bool.{false≢true}
use Rattle.nio_language.proofs.PairLists.{none_read, no_pair, one_more, key_again, all_read, stands_at}
use Rattle.nio_language.proofs.parse.told.read_pairs.Goals as goal

pub loop-word-init : goal.loop-word-init
loop-word-init c = rw c.in_ok-pairs.ensures.items (none_read (map (λ w. w.now) c.args.words.now))

pub returns-in_default : goal.returns-in_default
returns-in_default c =
    no_pair (map (λ w. w.now) c.args.words.now) c.loop-word.word-index _
    (stands_at c.args.words.now c.loop-word.word-index _ c.loop-word-test.true) c.in_default.ensures

pub returns-then-has_key : goal.returns-then-has_key
returns-then-has_key c =
    let twice = rw c.deref.ensures.value at (c.if-has_key.ensures.0 refl) in
    key_again (map (λ w. w.now) c.args.words.now) c.loop-word.word-index _ c.in-Some.pair c.loop-word.pairs.items
    (stands_at c.args.words.now c.loop-word.word-index _ c.loop-word-test.true) c.in-Some.ensures twice
    c.loop-word.invariant

pub loop-word-preserved : goal.loop-word-preserved
loop-word-preserved c =
    let new = rw c.deref.ensures.value at c.if-has_key.ensures.1 in
    rw c.in_ok-push.ensures.items
    (one_more (map (λ w. w.now) c.args.words.now) c.loop-word.word-index _ c.in-Some.pair c.loop-word.pairs.items
    (stands_at c.args.words.now c.loop-word.word-index _ c.loop-word-test.true) c.in-Some.ensures
    (λ twice. false≢true (new twice)) c.loop-word.invariant)

pub returns : goal.returns
returns c =
    all_read (map (λ w. w.now) c.args.words.now) c.loop-word.word-index c.loop-word.pairs.items
    (omega (arith, length-map c.args.words.now (λ (w : Bor (List ℕ)). w.now))) c.loop-word.invariant
