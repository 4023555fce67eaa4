-- One failure more.
use Rattle.std.proofs.Common.{◌≡◌, ◌≢◌, ℕ, ◌+◌, Bool, cond, List, [], ◌∷◌, ◌++◌, ap, sym, ◌∙◌, arith}
use Rattle.std.specs.Prelude.{count_by}
use Rattle.std.proofs.lemmas.List.Sums.{fold-append}
use Rattle.nio_base.specs.declared.numbers.ChanId.{ChanId}
use Rattle.nio_link.proofs.Channels.{is_another, is_itself}
use Rattle.nio_link.specs.Places.{is_same_channel}

abbrev times : List ChanId → ChanId → ℕ
times chans c = count_by (λ (k : ChanId). is_same_channel k c) chans

times_more : (xs : List ChanId) (k c : ChanId)
    → times (xs ++ k ∷ []) c ≡ times xs c + cond (is_same_channel k c) 1 0
times_more xs k c = fold-append (λ n (chan : ChanId). n + cond (is_same_channel chan c) 1 0) 0 xs (k ∷ [])

pub more_here : (xs : List ChanId) (c : ChanId) → times (xs ++ c ∷ []) c ≡ times xs c + 1
more_here xs c = times_more xs c c ∙ ap (λ (b : Bool). times xs c + cond b 1 0) (is_itself c)

pub more_else : (xs : List ChanId) (c k : ChanId) → k ≢ c → times (xs ++ c ∷ []) k ≡ times xs k
more_else xs c k differ =
    times_more xs c k
    ∙ ap (λ (b : Bool). times xs k + cond b 1 0) (is_another c k (λ same. differ (sym same))) ∙ omega arith
