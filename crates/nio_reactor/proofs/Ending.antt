-- The end of the lines.
use Rattle.std.proofs.Common.{◌≡◌, ◌≢◌, ℕ, ◌+◌, ◌<◌, ◌≤◌, inl, inr, Option, Some, None, List, [], ◌∷◌, ◌++◌, map}
use Rattle.std.proofs.Common.{length, slice_get, slice_set, get_or, refl, sym, ap, subst, ◌∙◌, arith}
use Rattle.std.proofs.lemmas.Bool.{cases_order}
use Rattle.std.proofs.lemmas.List.{append-nil, map-append, get_or-set_same, get_or-set_other, length-set}
use Rattle.std.proofs.lemmas.Option.{get_or_from_slice_get, slice_get-get_or, slice_get_within}
use Rattle.nio_line.specs.Lines.{End as LineEnd}
use Rattle.nio_link.specs.Nets.{Members}
use Rattle.nio_reactor.proofs.Lists.{map_set}
use Rattle.nio_reactor.specs.Accepting.{Accepts, AreEnded, Deals, EndedBelow, HasSent}
use Rattle.nio_reactor.specs.Dealing.{dealt, number_of}
use Rattle.nio_reactor.specs.declared.message.Message.{Message}
use Rattle.nio_reactor.specs.declared.message.Message.TheVariants.{End}

pub ended_none : {L : Type 0} (lines : List (LineEnd (Message L))) → EndedBelow 0 lines lines
ended_none {L} lines = record {
  count = refl;
  same = refl;
  ended = λ v x y few at_x at_y. absurd (omega (arith, few));
  rest = λ v x y more at_x at_y. sym (get_or_from_slice_get lines v y x at_y) ∙ get_or_from_slice_get lines v x x at_x;
}

pub ended_one : {L : Type 0} (k : ℕ) (a b : List (LineEnd (Message L))) (d new : LineEnd (Message L))
    → EndedBelow k a b → k < length b
    → new ≡ record (get_or b k d) { carried = (get_or b k d).carried ++ End ∷ [] }
    → EndedBelow (k + 1) a (slice_set b k new)
ended_one {L} k a b d new was within new_is =
    let old : LineEnd (Message L) = get_or b k d in
    let length_is : length (slice_set b k new) ≡ length b = length-set b k new in
    -- the line at another place
    let other : (v : ℕ) (y : LineEnd (Message L)) → v ≢ k → slice_get (slice_set b k new) v ≡ Some y
    → slice_get b v ≡ Some y
    = λ v y apart at_y.
    let few : v < length b = subst (λ n. v < n) length_is (slice_get_within (slice_set b k new) v y at_y) in
    let same : y ≡ get_or b v y
    = sym (get_or_from_slice_get (slice_set b k new) v y y at_y) ∙ get_or-set_other b k v new y apart in
    slice_get-get_or b v y few ∙ ap Some (sym same) in
    record {
      count = length_is ∙ was.count;
      same = map_set (λ (e : LineEnd (Message L)). e.line) b k d new
          (ap (λ (e : LineEnd (Message L)). e.line) new_is) ∙ was.same;
      ended = λ v x y few at_x at_y. elim (cases_order v k) [
        | inl same ↦
            let at_old : slice_get b k ≡ Some old = slice_get-get_or b k d within in
            let old_is : old ≡ x
            = was.rest k x old (omega arith) (subst (λ i. slice_get a i ≡ Some x) same at_x) at_old in
            let y_is : y ≡ new
            = sym (get_or_from_slice_get (slice_set b k new) v y d at_y)
            ∙ ap (λ i. get_or (slice_set b k new) i d) same ∙ get_or-set_same b k new d within in
            ap (λ (e : LineEnd (Message L)). e.carried) (y_is ∙ new_is)
            ∙ ap (λ (e : LineEnd (Message L)). e.carried ++ End ∷ []) old_is
        | inr (inl less) ↦
            was.ended v x y less at_x (other v y (λ is. absurd (omega (arith, is, less))) at_y)
        | inr (inr more) ↦ absurd (omega (arith, more, few))
      ];
      rest = λ v x y more at_x at_y.
          was.rest v x y (omega (arith, more)) at_x (other v y (λ is. absurd (omega (arith, is, more))) at_y);
    }

pub ended_all : {L : Type 0} (k : ℕ) (a b : List (LineEnd (Message L))) → EndedBelow k a b → length a ≤ k
    → AreEnded a b
ended_all {L} k a b was all = record {
  count = was.count;
  same = was.same;
  ended = λ v x y at_x at_y.
      was.ended v x y (omega (arith, slice_get_within a v x at_x, all)) at_x at_y;
}

pub has_sent : {L N : Type 0} (n : Members N) (k : ℕ) (x y : N) (a b c : List (LineEnd (Message L)))
    → Accepts n 0 k x y → Deals 0 k a b → AreEnded b c → HasSent (n.accepted x) (n.accepted y) a c
has_sent {L} n k x y a b c accepts deals ends = record {
  count = k;
  accepted = accepts.order (n.accepted x) (sym (append-nil (n.accepted x)));
  lines = ends.count ∙ deals.count;
  same = ends.same ∙ deals.same;
  sent = λ v p q at_p at_q.
      let within : v < length b = subst (λ m. v < m) ends.count (slice_get_within c v q at_q) in
      let mid : LineEnd (Message L) = get_or b v p in
      let at_mid : slice_get b v ≡ Some mid = slice_get-get_or b v p within in
      let sent : map number_of mid.carried ≡ map number_of p.carried ++ dealt (length a) v k
      = deals.dealt (length a) v p mid (map number_of p.carried) refl at_p at_mid
      (sym (append-nil (map number_of p.carried))) in
      ap (map number_of) (ends.ended v mid q at_mid at_q)
      ∙ map-append number_of mid.carried (End ∷ [])
      ∙ ap (λ (l : List (Option ℕ)). l ++ None ∷ []) sent;
}
