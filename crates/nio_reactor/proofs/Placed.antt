-- Where the registrations of the callers stand: each connection's channels are those of one worker.
use Rattle.std.proofs.Common.{◌≡◌, ◌≢◌, ℕ, zero, suc, ◌+◌, ◌-◌, ◌*◌, ◌/◌, ◌%◌, ◌<◌, ◌≤◌, ◌==◌, if◌then◌else◌, ⊎_elim}
use Rattle.std.proofs.Common.{Bool, All, Some, List, [], ◌∷◌, length, get_or, map, filter, refl, sym, ap, ◌∙◌, arith, mod-lt}
use Rattle.std.specs.Prelude.{AllPairs}
use Rattle.std.proofs.Math.Nat.{div-add-mod}
use Rattle.std.proofs.lemmas.Bool.{cases_lt, ne_eqb}
use Rattle.std.proofs.lemmas.List.Elements.{All-cons, All-head, All-nil, All-tail}
use Rattle.std.proofs.lemmas.Nat.{mod-mul-add}
use Rattle.nio_base.specs.declared.numbers.ChanId.{ChanId}
use Rattle.nio_base.specs.declared.numbers.ChanNo.{ChanNo}
use Rattle.nio_base.specs.declared.numbers.SelNo.{SelNo}
use Rattle.nio_board.specs.Called.{dealt_channel, seats, table_channel}
use Rattle.nio_board.specs.declared.deal.Deal.{Deal}
use Rattle.nio_link.proofs.Channels.{chan_as, channel_as, is_another, is_itself}
use Rattle.nio_link.specs.Places.{is_same_channel}
use Rattle.nio_serve.specs.Serving.{links_of, listener, run_channels, target_of}
use Rattle.nio_reactor.proofs.Shares.{share_below, times_same}
use Rattle.nio_reactor.specs.Dealing.{share}
use Rattle.nio_reactor.specs.Placing.{channel_of, deal_of, selectors_with}
use Rattle.nio_reactor.specs.Seats.{acceptor_deal, channels_for}

-- ---- the channels of a share

small : (i : ℕ) → i % 2 < 2
small i = mod-lt i (omega arith)

-- the number in the table of another one than the listener's
later : (deal : Deal) (i : ℕ)
    → (dealt_channel deal (record { 0 = suc i })).0
    ≡ 2 * (deal.worker + ((suc i - 1) / 2) * deal.workers) + 1 + (suc i - 1) % 2
later deal i =
    ap (λ (b : Bool). let c : ChanNo = if b then deal.listener
    else record { 0 = 2 * (deal.worker + ((suc i - 1) / 2) * deal.workers) + 1 + (suc i - 1) % 2 } in c.0)
    (ne_eqb (suc i) 0 (λ is. absurd (omega (arith, is))))

-- the slot of a number of a share
module _ (w slots v i : ℕ) (less : v < w) (few : suc i ≤ 2 * share w v slots) where
  abbrev slot : ℕ
  slot = (suc i - 1) / 2

  abbrev side : ℕ
  side = (suc i - 1) % 2

  whole : 2 * slot + side ≡ suc i - 1
  whole = div-add-mod (suc i - 1) 2

  dealt_below : 2 * (v + slot * w) + 1 + side ≤ 2 * slots
  dealt_below =
      let within : slot < share w v slots = omega (arith, whole, few) in
      omega (arith, share_below w v slots slot less within, small (suc i - 1))

-- two channels of shares are different ones of the table, unless they are the same
same_number : (w slots u v : ℕ) (c d : ChanNo) → u < w → v < w → c.0 ≤ 2 * share w u slots → d.0 ≤ 2 * share w v slots
    → (dealt_channel (deal_of w u slots) c).0 ≡ (dealt_channel (deal_of w v slots) d).0 → (u ≡ v) × (c.0 ≡ d.0)
same_number w slots u v c d less_u less_v few_c few_d is = by_numbers c.0 d.0 few_c few_d is
  where
    by_numbers : (i j : ℕ) → i ≤ 2 * share w u slots → j ≤ 2 * share w v slots
        → (dealt_channel (deal_of w u slots) (record { 0 = i })).0
        ≡ (dealt_channel (deal_of w v slots) (record { 0 = j })).0 → (u ≡ v) × (i ≡ j)
    by_numbers zero zero few few' is = (omega (arith, is), refl)
    by_numbers zero (suc j) few few' is = absurd (omega (arith, is, later (deal_of w v slots) j, dealt_below w slots v j less_v few'))
    by_numbers (suc i) zero few few' is = absurd (omega (arith, is, later (deal_of w u slots) i, dealt_below w slots u i less_u few))
    by_numbers (suc i) (suc j) few few' is =
        let m : ℕ = slot w slots u i less_u few in
        let n : ℕ = slot w slots v j less_v few' in
        let sides : side w slots u i less_u few ≡ side w slots v j less_v few'
        = omega (
          arith,
          is,
          later (deal_of w u slots) i,
          later (deal_of w v slots) j,
          small (suc i - 1),
          small (suc j - 1),
        ) in
        let same : m * w + u ≡ n * w + v
        = omega (arith, is, later (deal_of w u slots) i, later (deal_of w v slots) j, sides) in
        let worker : u ≡ v
        = sym (mod-mul-add m w u less_u) ∙ ap (λ k. k % w) same ∙ mod-mul-add n w v less_v in
        let times : m * w ≡ n * w = omega (arith, same, worker) in
        let slots_are : m ≡ n = times_same m n w (omega (arith, less_u)) times in
        (worker, omega (arith, slots_are, sides, whole w slots u i less_u few, whole w slots v j less_v few'))

-- a channel of a worker's share
abbrev pub IsOf : ℕ → ℕ → ℕ → ChanId → Type 0
IsOf w slots v c = c.number.0 ≤ 2 * share w v slots

same_channel : (w slots u v : ℕ) (c d : ChanId) → u < w → v < w → IsOf w slots u c → IsOf w slots v d
    → channel_of w slots u c ≡ channel_of w slots v d → (u ≡ v) × (c ≡ d)
same_channel w slots u v c d less_u less_v its_c its_d is =
    let both = same_number w slots u v c.number d.number less_u less_v its_c its_d
    (ap (λ (x : ChanId). x.number.0) is) in
    (both.0, channel_as c d (chan_as c.number d.number both.1) (ap (λ (x : ChanId). x.serial) is))

-- no channel of a share is the table's first
not_first : (w slots v : ℕ) (c : ChanId) → channel_of w slots v c ≢ listener
not_first w slots v c is = by_number c.number.0 (ap (λ (x : ChanId). x.number.0) is)
  where
    by_number : (i : ℕ) → (dealt_channel (deal_of w v slots) (record { 0 = i })).0 ≡ 0 → ⊥
    by_number zero is = absurd (omega (arith, is))
    by_number (suc i) is = absurd (omega (arith, is, later (deal_of w v slots) i))

-- ---- with which selectors a channel was registered

with_it : (s : SelNo) (c d : ChanId) (rest : List (SelNo × ChanId)) → d ≡ c
    → selectors_with c ((s, d) ∷ rest) ≡ s ∷ selectors_with c rest
with_it s c d rest is =
    ap (λ (b : Bool). map (λ (x : SelNo × ChanId). x.0)
    (if b then (s, d) ∷ filter (λ (x : SelNo × ChanId). is_same_channel x.1 c) rest
    else filter (λ (x : SelNo × ChanId). is_same_channel x.1 c) rest))
    (ap (λ (k : ChanId). is_same_channel k c) is ∙ is_itself c)

with_other : (s : SelNo) (c d : ChanId) (rest : List (SelNo × ChanId)) → d ≢ c
    → selectors_with c ((s, d) ∷ rest) ≡ selectors_with c rest
with_other s c d rest other =
    ap (λ (b : Bool). map (λ (x : SelNo × ChanId). x.0)
    (if b then (s, d) ∷ filter (λ (x : SelNo × ChanId). is_same_channel x.1 c) rest
    else filter (λ (x : SelNo × ChanId). is_same_channel x.1 c) rest))
    (is_another d c other)

module _ (deal : Deal) (s : SelNo) where
  abbrev its : ChanId → ChanId
  its c = table_channel (Some deal) c

  with_none : (c : ChanId) (cs : List ChanId) → All (λ d. its d ≢ c) cs → selectors_with c (seats (Some deal) s cs) ≡ []
  with_none c [] none = refl
  with_none c (d ∷ cs) none =
      with_other s c (its d) (seats (Some deal) s cs) (All-head (λ x. its x ≢ c) d cs none)
      ∙ with_none c cs (All-tail (λ x. its x ≢ c) d cs none)

  -- each of these was registered once, where they are all different in the table
  with_one : (cs : List ChanId) → AllPairs (λ a b. its a ≢ its b) cs
      → All (λ c. selectors_with (its c) (seats (Some deal) s cs) ≡ s ∷ []) cs
  with_one [] apart = All-nil (λ c. selectors_with (its c) [] ≡ s ∷ [])
  with_one (d ∷ cs) apart =
      let rest = with_one cs (λ i j x less few. apart (suc i) (suc j) x (omega (arith, less)) (omega (arith, few))) in
      All-cons (λ c. selectors_with (its c) (seats (Some deal) s (d ∷ cs)) ≡ s ∷ []) d cs
      (with_it s (its d) (its d) (seats (Some deal) s cs) refl
      ∙ ap (λ l. s ∷ l)
      (with_none (its d) cs (λ i x few same. apart 0 (suc i) x (omega arith) (omega (arith, few)) (sym same))))
      (λ i x few.
      with_other s (its (get_or cs i x)) (its d) (seats (Some deal) s cs)
      (λ same. apart 0 (suc i) x (omega arith) (omega (arith, few)) same) ∙ rest i x few)

-- ---- the registrations of the workers

-- what holds of all channels of a run holds of each client and its target
of_links : (P : ChanId → Type 0) (cs : List ChanId) → All P (links_of cs) → All (λ c. P c × P (target_of c)) cs
of_links P [] all = All-nil (λ c. P c × P (target_of c))
of_links P (c ∷ cs) all =
    let later = All-tail P c (target_of c ∷ links_of cs) all in
    All-cons (λ d. P d × P (target_of d)) c cs
    (All-head P c (target_of c ∷ links_of cs) all, All-head P (target_of c) (links_of cs) later)
    (of_links P cs (All-tail P (target_of c) (links_of cs) later))

-- the clients of a worker: they have numbers of its slots, and all channels are different
pub record AreClients (w slots v : ℕ) (clients : List ChanId) : Type 0 where
  pub within : All (λ c. c.number.0 < 2 * share w v slots) clients
  pub apart : AllPairs (λ a b. a ≢ b) (run_channels clients)

links_within : (w slots v : ℕ) (cs : List ChanId) → All (λ c. c.number.0 < 2 * share w v slots) cs
    → All (IsOf w slots v) (links_of cs)
links_within w slots v [] within = All-nil (IsOf w slots v)
links_within w slots v (c ∷ cs) within =
    let first : c.number.0 < 2 * share w v slots = All-head (λ d. d.number.0 < 2 * share w v slots) c cs within in
    All-cons (IsOf w slots v) c (target_of c ∷ links_of cs) (omega (arith, first))
    (All-cons (IsOf w slots v) (target_of c) (links_of cs) (omega (arith, first))
    (links_within w slots v cs (All-tail (λ d. d.number.0 < 2 * share w v slots) c cs within)))

all_within : (w slots v : ℕ) (cs : List ChanId) → AreClients w slots v cs → All (IsOf w slots v) (run_channels cs)
all_within w slots v cs are =
    All-cons (IsOf w slots v) listener (links_of cs) (omega arith) (links_within w slots v cs are.within)

-- what its worker registered of a channel: its selector, once
abbrev pub WasOnce : ℕ → ℕ → ℕ → SelNo → List ChanId → ChanId → Type 0
WasOnce w slots v s cs c =
    selectors_with (channel_of w slots v c) (seats (Some (deal_of w v slots)) s (channels_for cs)) ≡ s ∷ []

-- each of its connections' channels
pub once_each : (w slots v : ℕ) (s : SelNo) (cs : List ChanId) → v < w → AreClients w slots v cs
    → All (λ c. WasOnce w slots v s cs c × WasOnce w slots v s cs (target_of c)) cs
once_each w slots v s [] less are = All-nil (λ c. WasOnce w slots v s [] c × WasOnce w slots v s [] (target_of c))
once_each w slots v s (c ∷ cs) less are =
    let inside = all_within w slots v (c ∷ cs) are in
    let apart : AllPairs (λ a b. channel_of w slots v a ≢ channel_of w slots v b) (run_channels (c ∷ cs))
    = λ i j x below few same.
    are.apart i j x below few
    (same_channel w slots v v (get_or (run_channels (c ∷ cs)) i x) (get_or (run_channels (c ∷ cs)) j x) less less
    (inside i x (omega (arith, below, few))) (inside j x few) same).1 in
    of_links (WasOnce w slots v s (c ∷ cs)) (c ∷ cs)
    (All-tail (WasOnce w slots v s (c ∷ cs)) listener (links_of (c ∷ cs))
    (with_one (deal_of w v slots) s (run_channels (c ∷ cs)) apart))

-- another worker registered none of these
pub none_elsewhere : (w slots u v : ℕ) (s : SelNo) (cs : List ChanId) (c : ChanId) → u < w → v < w → u ≢ v
    → AreClients w slots u cs → IsOf w slots v c
    → selectors_with (channel_of w slots v c) (seats (Some (deal_of w u slots)) s (channels_for cs)) ≡ []
none_elsewhere w slots u v s [] c less_u less_v other are its_c = refl
none_elsewhere w slots u v s (d ∷ cs) c less_u less_v other are its_c =
    with_none (deal_of w u slots) s (channel_of w slots v c) (run_channels (d ∷ cs))
    (λ i x few same.
    other (same_channel w slots u v (get_or (run_channels (d ∷ cs)) i x) c less_u less_v
    (all_within w slots u (d ∷ cs) are i x few) its_c same).0)

-- nor did the acceptor
pub none_behind : (w slots v : ℕ) (s : SelNo) (c : ChanId)
    → selectors_with (channel_of w slots v c) (seats (Some acceptor_deal) s (listener ∷ [])) ≡ []
none_behind w slots v s c =
    with_none acceptor_deal s (channel_of w slots v c) (listener ∷ [])
    (All-cons (λ d. table_channel (Some acceptor_deal) d ≢ channel_of w slots v c) listener []
    (λ same. not_first w slots v c (sym same))
    (All-nil (λ d. table_channel (Some acceptor_deal) d ≢ channel_of w slots v c)))

-- both channels of each connection are of the share
pub are_of : (w slots v : ℕ) (cs : List ChanId) → AreClients w slots v cs
    → All (λ c. IsOf w slots v c × IsOf w slots v (target_of c)) cs
are_of w slots v cs are = of_links (IsOf w slots v) cs (links_within w slots v cs are.within)
