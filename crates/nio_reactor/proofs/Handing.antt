-- Which connections' links each worker puts in.
use Rattle.std.proofs.Common.{◌≡◌, ℕ, zero, suc, ◌+◌, ◌*◌, ◌<◌, ◌≤◌, Err, Some, All}
use Rattle.std.proofs.Common.{List, [], ◌∷◌, ◌++◌, map, length, slice_get, slice_index_or, refl, sym, ap, subst, ◌∙◌}
use Rattle.std.proofs.Common.{arith, add-one, append_assoc, length-append}
use Rattle.std.proofs.lemmas.List.{append-nil, get_or-map, length-map, map-append}
use Rattle.std.proofs.lemmas.List.Elements.{All-head, All-nil, All-tail}
use Rattle.std.proofs.lemmas.Option.{slice_get-get_or}
use Rattle.nio_base.specs.declared.numbers.ChanId.{ChanId}
use Rattle.nio_link.specs.Nets.{Members}
use Rattle.nio_link.specs.declared.place.Role.TheVariants as role
use Rattle.nio_reactor.proofs.Lists.{element, first_same, rest_same}
use Rattle.nio_reactor.specs.Handing.{below, handover, handovers, handovers_of, handed_by, put_at, put_below}
use Rattle.nio_reactor.specs.Handing.{AreHanded}
use Rattle.nio_reactor.specs.Working.{clients_of}
use Rattle.nio_reactor.specs.declared.handover.Handover.{Handover}
use Rattle.nio_reactor.specs.declared.many.ManyError.{ManyError}

-- ---- lists

pub below_next : {A : Type 0} (f : ℕ → A) (n : ℕ) → map f (below (n + 1)) ≡ map f (below n) ++ f n ∷ []
below_next f n = ap (λ m. map f (below m)) (add-one n) ∙ map-append f (below n) (n ∷ [])

pub length_below : (n : ℕ) → length (below n) ≡ n
length_below zero = refl
length_below (suc n) = length-append (below n) (n ∷ []) ∙ (ap (λ m. m + 1) (length_below n) ∙ add-one n)

-- ---- what one worker has put in

module _ (w v : ℕ) where
  each_is : (put : List Handover) (numbers : List ℕ)
      → map (λ h. h.connection) put ≡ map (λ j. v + j * w) numbers → All (λ h. h.worker ≡ v) put
      → put ≡ handovers_of w v numbers (clients_of put)
  each_is [] [] connections own = refl
  each_is [] (j ∷ numbers) connections own = absurd (cc)
  each_is (h ∷ put) [] connections own = absurd (cc)
  each_is (h ∷ put) (j ∷ numbers) connections own =
      let connection : h.connection ≡ v + j * w
      = first_same h.connection (v + j * w) (map (λ x. x.connection) put) (map (λ i. v + i * w) numbers) connections in
      let worker : h.worker ≡ v = All-head (λ x. x.worker ≡ v) h put own in
      let first : h ≡ handover w v j h.client
      = ap (λ n. let x : Handover = record { connection = n; worker = h.worker; client = h.client } in x) connection
      ∙ ap (λ n. let x : Handover = record { connection = v + j * w; worker = n; client = h.client } in x) worker in
      ap (λ x. x ∷ put) first
      ∙ ap (λ l. handover w v j h.client ∷ l)
      (each_is put numbers
      (rest_same h.connection (v + j * w) (map (λ x. x.connection) put) (map (λ i. v + i * w) numbers) connections)
      (All-tail (λ x. x.worker ≡ v) h put own))

  pub put_is : (put : List Handover) → map (λ h. h.connection) put ≡ map (λ j. v + j * w) (below (length put))
      → All (λ h. h.worker ≡ v) put → put ≡ handovers w v (clients_of put)
  put_is put connections own =
      each_is put (below (length put)) connections own
      ∙ ap (λ m. handovers_of w v (below m) (clients_of put)) (sym (length-map put (λ (h : Handover). h.client)))

-- ---- what all have put in

-- under which channels the worker at this place has put its links in
abbrev pub clients_at : {X : Type 0} → (X → List Handover) → List X → ℕ → List ChanId
clients_at put lanes v = clients_of (put_at put (slice_get lanes v))

-- what holds of the client of each holds of each client
pub all_clients : (P : ChanId → Type 0) (put : List Handover) → All (λ h. P h.client) put → All P (clients_of put)
all_clients P put all i d few =
    let at : i < length put = subst (λ n. i < n) (length-map put (λ (h : Handover). h.client)) few in
    let h : Handover = record { connection = 0; worker = 0; client = d } in
    subst P (sym (get_or-map (λ (x : Handover). x.client) put i h d at)) (all i h at)

pub length_at : {X : Type 0} (put : X → List Handover) (lanes : List X) (v : ℕ) (x : X) → slice_get lanes v ≡ Some x
    → length (clients_at put lanes v) ≡ length (put x)
length_at put lanes v x at =
    length-map (put_at put (slice_get lanes v)) (λ (h : Handover). h.client) ∙ ap (λ o. length (put_at put o)) at

pub handed_all : {X : Type 0} (put : X → List Handover) (lanes : List X) (w n : ℕ)
    → ((v : ℕ) (x : X) → slice_get lanes v ≡ Some x → put x ≡ handovers w v (clients_of (put x))) → n ≤ length lanes
    → put_below put lanes n ≡ handed_by w (clients_at put lanes) n
handed_all put lanes w zero each within = refl
handed_all put lanes w (suc n) each within =
    let b = element lanes n (omega (arith, within)) in
    let here : put_at put (slice_get lanes n) ≡ handovers w n (clients_at put lanes n)
    = ap (put_at put) b.1 ∙ each n b.0 b.1 ∙ sym (ap (λ o. handovers w n (clients_of (put_at put o))) b.1) in
    ap (λ l. l ++ put_at put (slice_get lanes n)) (handed_all put lanes w n each (omega (arith, within)))
    ∙ ap (λ l. handed_by w (clients_at put lanes) n ++ l) here

pub none_by : (w n : ℕ) → handed_by w (λ v. []) n ≡ []
none_by w zero = refl
none_by w (suc n) = append-nil (handed_by w (λ v. []) n) ∙ none_by w n

pub none_handed : {N : Type 0} (n : Members N) (conns : ℕ) (now : List N) (old : List Handover) (error : ManyError)
    → AreHanded n conns now old old (Err error)
none_handed n conns now old error = record {
  clients = λ v. [];
  handed = sym (ap (λ l. old ++ l) (none_by (length now) (length now)) ∙ append-nil old);
  few = λ v less. omega arith;
  all = tt;
  put_in = λ v y at. record {
    roles = All-nil (λ c. (n.place y c).role ≡ role.PutIn);
    apart = λ i j d less few. absurd (omega (arith, few));
  };
}

-- listing them one after the other: the lanes are gone over as a slice
pub put_more : {X : Type 0} (put : X → List Handover) (lanes slice : List X) (v : ℕ) (x : X)
    (old handed after : List Handover) → slice ≡ lanes → v < length slice → x ≡ slice_index_or slice v x
    → handed ≡ old ++ put_below put lanes v → after ≡ handed ++ put x → after ≡ old ++ put_below put lanes (v + 1)
put_more put lanes slice v x old handed after slice_is few x_is was after_is =
    let at : slice_get lanes v ≡ Some x
    = ap (λ l. slice_get l v) (sym slice_is) ∙ slice_get-get_or slice v x few ∙ ap Some (sym x_is) in
    after_is ∙ ap (λ l. l ++ put x) was ∙ append_assoc old (put_below put lanes v) (put x)
    ∙ ap (λ l. old ++ l)
    (ap (λ o. put_below put lanes v ++ put_at put o) (sym at) ∙ ap (put_below put lanes) (sym (add-one v)))

pub put_all : {X : Type 0} (put : X → List Handover) (lanes slice : List X) (v : ℕ) (old handed : List Handover)
    → slice ≡ lanes → handed ≡ old ++ put_below put lanes v → length slice ≡ v
    → handed ≡ old ++ put_below put lanes (length lanes)
put_all put lanes slice v old handed slice_is was end =
    was ∙ ap (λ n. old ++ put_below put lanes n) (sym end ∙ ap length slice_is)
