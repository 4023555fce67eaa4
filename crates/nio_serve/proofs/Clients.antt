-- The clients of a run, and the channels of their connections.
use Rattle.std.proofs.Common.{◌≡◌, ◌≢◌, ℕ, zero, suc, ◌+◌, ◌-◌, ◌*◌, ◌/◌, ◌≤◌, ◌⊎◌, inl, inr, IsSome, List, []}
use Rattle.std.proofs.Common.{◌∷◌, ◌++◌, refl, sym, ap, subst, ◌∙◌, arith}
use Rattle.std.specs.Prelude.{All, AllPairs, Contains, slice_index_or}
use Rattle.std.proofs.lemmas.Bool.{cases_eq}
use Rattle.std.proofs.lemmas.List.Elements.{All-nil, All-cons, All-head, All-tail, All-contains}
use Rattle.std.proofs.lemmas.List.Kept.{AllPairs-cons}
use Rattle.nio_base.specs.declared.numbers.ChanId.{ChanId}
use Rattle.nio_link.proofs.Channels.{chan_as, channel_as}
use Rattle.nio_link.specs.Places.{channel}
use Rattle.nio_serve.specs.Serving.{links_of, listener, run_channels, target_of}
use Rattle.nio_serve.specs.Slots.{IsClient, client_at, slot_of, status_at, target_at}
use Rattle.nio_serve.specs.declared.slot.Slot.{Slot}
use Rattle.nio_serve.proofs.Counts.{contains_nothing, pairs_head, pairs_tail}
use Rattle.nio_serve.proofs.Statuses.{client_listener, client_target, target_else, target_listener}

-- what holds of each connection that began holds of all clients
pub all_clients : (P : ChanId → Type 0) (slots : List Slot) (clients : List ChanId) → All (IsClient slots) clients
    → ((j s : ℕ) → IsSome (status_at slots j s) → P (client_at j s)) → All P clients
all_clients P slots clients all each k d few =
    let c = slice_index_or clients k d in
    let is : IsClient slots c = all k d few in
    subst P (sym is.its) (each (slot_of c) c.serial is.taken)

-- ---- the channels of a run

-- the channel is a client's of some slot
abbrev IsOne : ChanId → Type 0
IsOne c = c ≡ client_at (slot_of c) c.serial

ones : (slots : List Slot) (clients : List ChanId) → All (IsClient slots) clients → All IsOne clients
ones slots clients all k d few = (all k d few).its

-- what holds of both links of each connection holds of all links
links_all : (Q : ChanId → Type 0) (xs : List ChanId) → All (λ c. Q c × Q (target_of c)) xs → All Q (links_of xs)
links_all Q [] all = All-nil Q
links_all Q (x ∷ xs) all =
    let both = All-head (λ c. Q c × Q (target_of c)) x xs all in
    All-cons Q x (target_of x ∷ links_of xs) both.0
    (All-cons Q (target_of x) (links_of xs) both.1
    (links_all Q xs (All-tail (λ c. Q c × Q (target_of c)) x xs all)))

-- a client is no target
no_target : (c d : ChanId) → IsOne c → IsOne d → c ≢ target_of d
no_target c d c_is d_is same =
    client_target (slot_of c) c.serial (slot_of d) d.serial (sym c_is ∙ (same ∙ ap target_of d_is))

other_targets : (c d : ChanId) → IsOne c → IsOne d → c ≢ d → target_of c ≢ target_of d
other_targets c d c_is d_is other same =
    target_else (slot_of c) c.serial (slot_of d) d.serial (λ at. other (c_is ∙ (at ∙ sym d_is)))
    (sym (ap target_of c_is) ∙ (same ∙ ap target_of d_is))

links_apart : (xs : List ChanId) → All IsOne xs → AllPairs (λ a b. a ≢ b) xs → AllPairs (λ a b. a ≢ b) (links_of xs)
links_apart [] all apart = λ i j d before within. absurd (omega arith)
links_apart (x ∷ xs) all apart =
    let R : ChanId → ChanId → Type 0 = λ a b. a ≢ b in
    let x_is : IsOne x = All-head IsOne x xs all in
    let xs_are : All IsOne xs = All-tail IsOne x xs all in
    let others : All (R x) xs = pairs_head R x xs apart in
    AllPairs-cons R x (target_of x ∷ links_of xs)
    (All-cons (R x) (target_of x) (links_of xs) (no_target x x x_is x_is)
    (links_all (R x) xs
    (λ k d few. (others k d few, no_target x (slice_index_or xs k d) x_is (xs_are k d few)))))
    (AllPairs-cons R (target_of x) (links_of xs)
    (links_all (R (target_of x)) xs
    (λ k d few. (
      λ same. no_target (slice_index_or xs k d) x (xs_are k d few) x_is (sym same),
      other_targets x (slice_index_or xs k d) x_is (xs_are k d few) (others k d few),
    ))) (links_apart xs xs_are (pairs_tail R x xs apart)))

-- no two channels of a run are the same
pub run_apart : (slots : List Slot) (clients : List ChanId) → All (IsClient slots) clients
    → AllPairs (λ a b. a ≢ b) clients → AllPairs (λ a b. a ≢ b) (run_channels clients)
run_apart slots clients all apart =
    let are = ones slots clients all in
    AllPairs-cons (λ a b. a ≢ b) listener (links_of clients)
    (links_all (λ d. listener ≢ d) clients (λ k d few.
    let c = slice_index_or clients k d in
    let is : IsOne c = are k d few in (
      λ same. client_listener (slot_of c) c.serial (sym is ∙ sym same),
      λ same. target_listener (slot_of c) c.serial (sym (ap target_of is) ∙ sym same),
    ))) (links_apart clients are apart)

-- both links of a client are among them
links_have : (xs : List ChanId) (own : ChanId) → Contains xs own
    → Contains (links_of xs) own × Contains (links_of xs) (target_of own)
links_have [] own has = absurd (contains_nothing own has)
links_have (x ∷ xs) own (zero, within, is) = (
  (0, omega arith, is),
  (1, omega arith, ap target_of is),
)
links_have (x ∷ xs) own (suc k, within, is) =
    let rest = links_have xs own (k, omega arith, is) in (
      (suc (suc rest.0.0), omega (arith, rest.0.1), rest.0.2),
      (suc (suc rest.1.0), omega (arith, rest.1.1), rest.1.2),
    )

-- a channel that is none of them
module _ (c : ChanId) (clients : List ChanId) (none : All (λ own. c ≢ own) (run_channels clients)) where
  pub not_listener : c ≢ listener
  not_listener = All-head (λ own. c ≢ own) listener (links_of clients) none

  pub not_client : (own : ChanId) → Contains clients own → (c ≢ own) × (c ≢ target_of own)
  not_client own has =
      let both = links_have clients own has in
      let links = All-tail (λ x. c ≢ x) listener (links_of clients) none in (
        All-contains (λ x. c ≢ x) (links_of clients) own links both.0,
        All-contains (λ x. c ≢ x) (links_of clients) (target_of own) links both.1,
      )

-- with one client more
pub links_push : (xs : List ChanId) (c : ChanId) → links_of (xs ++ c ∷ []) ≡ links_of xs ++ c ∷ target_of c ∷ []
links_push [] c = refl
links_push (x ∷ xs) c = ap (λ ys. x ∷ target_of x ∷ ys) (links_push xs c)

pub run_push : (xs : List ChanId) (c : ChanId)
    → run_channels (xs ++ c ∷ []) ≡ run_channels xs ++ c ∷ target_of c ∷ []
run_push xs c = ap (λ ys. listener ∷ ys) (links_push xs c)

-- ---- all channels

-- each channel is of the listener's number, or one of the two of a connection that a slot may have
pub data Whose (c : ChanId) : Type 0 where
  the_first : (s : ℕ) → c ≡ channel listener.number s → Whose c
  a_client : (j s : ℕ) → c ≡ client_at j s → Whose c
  a_target : (j s : ℕ) → c ≡ target_at j s → Whose c

parity : (n : ℕ) → 1 ≤ n → (n ≡ 2 * ((n - 1) / 2) + 1) ⊎ (n ≡ 2 * ((n - 1) / 2) + 1 + 1)
parity n some = grind arith

pub whose : (c : ChanId) → Whose c
whose c = elim (cases_eq c.number.0 0) [
  | inl none ↦ the_first c.serial
      (channel_as c (channel listener.number c.serial) (chan_as c.number listener.number none) refl)
  | inr other ↦
      let j = (c.number.0 - 1) / 2 in
      elim (parity c.number.0 (nonzero c.number.0 other)) [
        | inl odd ↦ a_client j c.serial
            (channel_as c (client_at j c.serial) (chan_as c.number (client_at j c.serial).number odd) refl)
        | inr even ↦ a_target j c.serial
            (channel_as c (target_at j c.serial) (chan_as c.number (target_at j c.serial).number even) refl)
      ]
]
  where
    nonzero : (n : ℕ) → n ≢ 0 → 1 ≤ n
    nonzero n other = omega arith
