-- What is sent to each worker.
use Rattle.std.proofs.Common.{◌≡◌, ◌≢◌, ℕ, ◌+◌, ◌%◌, ◌<◌, if◌then◌else◌, inl, inr, Option, Some}
use Rattle.std.proofs.Common.{List, [], ◌∷◌, ◌++◌, map, length, slice_set, get_or, refl, sym, ap, subst, ◌∙◌}
use Rattle.std.proofs.Common.{arith, eq-eqb, add-one, append_assoc, mod-lt}
use Rattle.std.proofs.lemmas.Bool.{cases_eq, ne_eqb}
use Rattle.std.proofs.lemmas.List.{map-append, get_or-set_same, get_or-set_other, length-set}
use Rattle.std.proofs.lemmas.Option.{get_or_from_slice_get, slice_get-get_or, slice_get_within}
use Rattle.nio_line.specs.Lines.{End as LineEnd}
use Rattle.nio_reactor.proofs.Lists.{map_set}
use Rattle.nio_reactor.specs.Accepting.{Deals}
use Rattle.nio_reactor.specs.Dealing.{dealt, number_of}
use Rattle.nio_reactor.specs.declared.message.Message.{Message}

pub dealt_mine : (w v k : ℕ) → k % w ≡ v → dealt w v (k + 1) ≡ dealt w v k ++ Some k ∷ []
dealt_mine w v k mine =
    ap (dealt w v) (add-one k)
    ∙ ap (λ t. if t then dealt w v k ++ Some k ∷ [] else dealt w v k) (eq-eqb (k % w) v mine)

pub dealt_others : (w v k : ℕ) → k % w ≢ v → dealt w v (k + 1) ≡ dealt w v k
dealt_others w v k others =
    ap (dealt w v) (add-one k)
    ∙ ap (λ t. if t then dealt w v k ++ Some k ∷ [] else dealt w v k)
    (ne_eqb (k % w) v others)

pub deals_none : {L : Type 0} (k : ℕ) (lines : List (LineEnd (Message L))) → Deals k k lines lines
deals_none {L} k lines = record {
  count = refl;
  same = refl;
  dealt = λ w v x y start len at_x at_y was.
      let same : x ≡ y
      = sym (get_or_from_slice_get lines v x x at_x) ∙ get_or_from_slice_get lines v y x at_y in
      ap (λ (e : LineEnd (Message L)). map number_of e.carried) (sym same) ∙ was;
}

pub deals_then : {L : Type 0} (k n o : ℕ) (a b c : List (LineEnd (Message L))) → Deals k n a b → Deals n o b c
    → Deals k o a c
deals_then {L} k n o a b c first second = record {
  count = second.count ∙ first.count;
  same = second.same ∙ first.same;
  dealt = λ w v x z start len at_x at_z was.
      let within : v < length c = slice_get_within c v z at_z in
      let within_b : v < length b = subst (λ m. v < m) second.count within in
      let at_y = slice_get-get_or b v x within_b in
      second.dealt w v (get_or b v x) z start (first.count ∙ len) at_y at_z
      (first.dealt w v x (get_or b v x) start len at_x at_y was);
}

-- a message with this connection was sent on the line of its worker
deals_one : {L : Type 0} (lines : List (LineEnd (Message L))) (k : ℕ) (d new : LineEnd (Message L))
    (message : Message L) → 0 < length lines
    → new ≡ record (get_or lines (k % length lines) d) {
      carried = (get_or lines (k % length lines) d).carried ++ message ∷ [];
    } → number_of message ≡ Some k → Deals k (k + 1) lines (slice_set lines (k % length lines) new)
deals_one {L} lines k d new message some new_is number =
    let at : ℕ = k % length lines in
    let old : LineEnd (Message L) = get_or lines at d in
    let within : at < length lines = mod-lt k some in
    record {
      count = length-set lines at new;
      same = map_set (λ (e : LineEnd (Message L)). e.line) lines at d new
          (ap (λ (e : LineEnd (Message L)). e.line) new_is);
      dealt = λ w v x y start len at_x at_y was. elim (cases_eq v at) [
        | inl same ↦
            let x_is : x ≡ old = sym (get_or_from_slice_get lines v x d at_x) ∙ ap (λ i. get_or lines i d) same in
            let y_is : y ≡ new
            = sym (get_or_from_slice_get (slice_set lines at new) v y old at_y)
            ∙ ap (λ i. get_or (slice_set lines at new) i old) same ∙ get_or-set_same lines at new old within in
            let sent : map number_of y.carried ≡ map number_of x.carried ++ Some k ∷ []
            = ap (λ (e : LineEnd (Message L)). map number_of e.carried) (y_is ∙ new_is)
            ∙ map-append number_of old.carried (message ∷ [])
            ∙ ap (λ o. map number_of old.carried ++ o ∷ []) number
            ∙ ap (λ (e : LineEnd (Message L)). map number_of e.carried ++ Some k ∷ []) (sym x_is) in
            sent ∙ ap (λ (l : List (Option ℕ)). l ++ Some k ∷ []) was
            ∙ append_assoc start (dealt w v k) (Some k ∷ [])
            ∙ ap (λ l. start ++ l) (sym (dealt_mine w v k (ap (λ m. k % m) (sym len) ∙ sym same)))
        | inr not_at ↦
            let same : y ≡ x
            = sym (get_or_from_slice_get (slice_set lines at new) v y x at_y)
            ∙ get_or-set_other lines at v new x not_at ∙ get_or_from_slice_get lines v x x at_x in
            ap (λ (e : LineEnd (Message L)). map number_of e.carried) same ∙ was
            ∙ ap (λ l. start ++ l) (sym (dealt_others w v k (λ is. not_at (sym is ∙ ap (λ m. k % m) (sym len)))))
      ];
    }

-- the same, where the number was read off the message
pub deals_at : {L : Type 0} (lines : List (LineEnd (Message L))) (k n : ℕ) (d new : LineEnd (Message L))
    (message : Message L) → 0 < length lines
    → new ≡ record (get_or lines (k % length lines) d) {
      carried = (get_or lines (k % length lines) d).carried ++ message ∷ [];
    } → number_of message ≡ Some n → k ≡ n → Deals n (n + 1) lines (slice_set lines (k % length lines) new)
deals_at lines k n d new message some new_is number same =
    subst (λ m. Deals m (m + 1) lines (slice_set lines (k % length lines) new)) same
    (deals_one lines k d new message some new_is (number ∙ ap Some (sym same)))
