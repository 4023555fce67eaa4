-- What the settled lines show of the links that were sent on them.
use Rattle.std.proofs.Common.{◌≡◌, ℕ, zero, suc, ◌+◌, ◌*◌, ◌%◌, ◌<◌, ◌≤◌, inl, inr, ◌⊎◌, ⊎_elim}
use Rattle.std.proofs.Common.{Option, Some, None, All, refl, sym, ap}
use Rattle.std.proofs.Common.{subst, ◌∙◌, List, [], ◌∷◌, ◌++◌, map, length, arith, add-one}
use Rattle.std.proofs.Common.{append_assoc, length-append}
use Rattle.std.proofs.lemmas.Bool.{cases_eq}
use Rattle.std.proofs.lemmas.List.{append-nil, length-map, map-append}
use Rattle.std.proofs.lemmas.List.Elements.{All-nil}
use Rattle.std.proofs.lemmas.Option.{same_Some}
use mathlib.Core.List.{IsPrefix}
use Rattle.nio_reactor.proofs.Dealing.{dealt_mine, dealt_others}
use Rattle.nio_reactor.proofs.Handing.{below_next, length_below}
use Rattle.nio_reactor.proofs.Lists.{first_same, rest_same}
use Rattle.nio_reactor.proofs.Shares.{share_exact, share_mine, share_others}
use Rattle.nio_reactor.specs.Dealing.{dealt, number_of, share}
use Rattle.nio_reactor.specs.Handing.{below}
use Rattle.nio_reactor.specs.Receiving.{put_number}
use Rattle.nio_reactor.specs.declared.handover.Handover.{Handover}
use Rattle.nio_reactor.specs.declared.message.Message.{Message}

-- ---- lists

front_same : {A : Type 0} (xs ys zs ws : List A) → xs ++ zs ≡ ys ++ ws → length xs ≡ length ys → xs ≡ ys
front_same [] [] zs ws is long = refl
front_same [] (y ∷ ys) zs ws is long = absurd (omega (arith, long))
front_same (x ∷ xs) [] zs ws is long = absurd (omega (arith, long))
front_same (x ∷ xs) (y ∷ ys) zs ws is long =
    ap (λ a. a ∷ xs) (first_same x y (xs ++ zs) (ys ++ ws) is)
    ∙ ap (λ l. y ∷ l) (front_same xs ys zs ws (rest_same x y (xs ++ zs) (ys ++ ws) is) (omega (arith, long)))

below_grows : {A : Type 0} (g : ℕ → A) (p q : ℕ) → (rest : List A) × (map g (below (p + q)) ≡ map g (below p) ++ rest)
below_grows {A} g p zero = ([], ap (λ n. map g (below n)) (more_none p) ∙ sym (append-nil (map g (below p))))
  where
    more_none : (n : ℕ) → n + 0 ≡ n
    more_none n = omega arith
below_grows {A} g p (suc q) =
    let so_far = below_grows g p q in
    let next : p + suc q ≡ (p + q) + 1 = omega arith in (
      so_far.0 ++ g (p + q) ∷ [],
      ap (λ n. map g (below n)) next ∙ below_next g (p + q) ∙ ap (λ l. l ++ g (p + q) ∷ []) so_far.1
          ∙ append_assoc (map g (below p)) so_far.0 (g (p + q) ∷ []),
    )

-- the first of the numbers, as many as they are
firsts : {A : Type 0} (g : ℕ → A) (xs more : List A) (s : ℕ) → map g (below s) ≡ xs ++ more
    → (xs ≡ map g (below (length xs))) × (s ≡ length xs + length more)
firsts {A} g xs more s is =
    let long : s ≡ length xs + length more
    = sym (length_below s) ∙ sym (length-map (below s) g) ∙ ap length is ∙ length-append xs more in
    let grown = below_grows g (length xs) (length more) in
    let both : xs ++ more ≡ map g (below (length xs)) ++ grown.0
    = sym is ∙ ap (λ n. map g (below n)) long ∙ grown.1 in
    let same : length xs ≡ length (map g (below (length xs)))
    = sym (length-map (below (length xs)) g ∙ length_below (length xs)) in
    (front_same xs (map g (below (length xs))) more grown.0 both same, long)

-- ---- what was sent to a worker

-- the connections of worker v of w, in their order
abbrev pub number_at : ℕ → ℕ → ℕ → ℕ
number_at w v j = v + j * w

pub dealt_are : (w v n : ℕ) → v < w → dealt w v n ≡ map Some (map (number_at w v) (below (share w v n)))
dealt_are w v zero less = refl
dealt_are w v (suc n) less =
    let so_far = dealt_are w v n less in
    ⊎_elim
    (λ (mine : n % w ≡ v).
    let at : number_at w v (share w v n) ≡ n = share_exact w v n less mine in
    ap (dealt w v) (sym (add-one n)) ∙ dealt_mine w v n mine
    ∙ ap (λ l. l ++ Some n ∷ []) so_far
    ∙ ap (λ (k : ℕ). map Some (map (number_at w v) (below (share w v n))) ++ Some k ∷ []) (sym at)
    ∙ sym (map-append Some (map (number_at w v) (below (share w v n))) (number_at w v (share w v n) ∷ []))
    ∙ ap (map Some) (sym (below_next (number_at w v) (share w v n)))
    ∙ ap (λ (k : ℕ). map Some (map (number_at w v) (below k))) (sym (share_mine w v n mine) ∙ ap (share w v) (add-one n)))
    (λ (others : n % w ≡ v → ⊥).
    ap (dealt w v) (sym (add-one n)) ∙ dealt_others w v n others ∙ so_far
    ∙ ap (λ (k : ℕ). map Some (map (number_at w v) (below k)))
    (sym (share_others w v n others) ∙ ap (share w v) (add-one n)))
    (cases_eq (n % w) v)

pub share_more : (w v n d : ℕ) → share w v n ≤ share w v (n + d)
share_more w v n zero = omega (arith, ap (share w v) (none n))
  where
    none : (m : ℕ) → m + 0 ≡ m
    none m = omega arith
share_more w v n (suc d) =
    let next : n + suc d ≡ suc (n + d) = omega arith in
    omega (arith, ap (share w v) next, share_more w v n d)

pub share_grows : (w v n o : ℕ) → n ≤ o → share w v n ≤ share w v o
share_grows w v n zero more = omega (arith, ap (share w v) (none n more))
  where
    none : (m : ℕ) → m ≤ 0 → m ≡ 0
    none m few = omega (arith, few)
share_grows w v n (suc o) more =
    ⊎_elim
    (λ (same : n ≡ suc o). omega (arith, ap (share w v) same))
    (λ (apart : n ≡ suc o → ⊥).
    let so_far = share_grows w v n o (less n o more apart) in
    let one : share w v o ≤ share w v (o + 1) = share_more w v o 1 in
    omega (arith, so_far, one, ap (share w v) (add-one o)))
    (cases_eq n (suc o))
  where
    less : (a b : ℕ) → a ≤ suc b → (a ≡ suc b → ⊥) → a ≤ b
    less a b most apart = omega (arith, most, apart)

-- ---- what came

-- what was put in are the first of these numbers, where what came is the first of them and the end
split : (put : List Handover) (rest : List (Option ℕ)) (ns : List ℕ)
    → map put_number put ++ rest ≡ map Some ns ++ None ∷ []
    → (more : List ℕ) × (ns ≡ map (λ h. h.connection) put ++ more) × (rest ≡ map Some more ++ None ∷ [])
split [] rest ns is = (ns, refl, is)
split (h ∷ put) rest [] is = absurd (cc)
split (h ∷ put) rest (n ∷ ns) is =
    let first : Some h.connection ≡ Some n
    = first_same (Some h.connection) (Some n) (map put_number put ++ rest) (map Some ns ++ None ∷ []) is in
    let later = split put rest ns
    (rest_same (Some h.connection) (Some n) (map put_number put ++ rest) (map Some ns ++ None ∷ []) is) in
    let same : n ≡ h.connection = sym (same_Some h.connection n first) in
    (later.0, ap (λ k. k ∷ ns) same ∙ ap (λ l. h.connection ∷ l) later.1, later.2)

-- where the end came, nothing is left
ended : (more : List ℕ) (hand rest : List (Option ℕ)) → hand ++ rest ≡ map Some more ++ None ∷ [] → hand ≡ None ∷ []
    → more ≡ []
ended [] hand rest is end = refl
ended (n ∷ more) hand rest is end =
    let all : None ∷ rest ≡ Some n ∷ (map Some more ++ None ∷ []) = ap (λ l. l ++ rest) (sym end) ∙ is in
    absurd (cc)

-- what a worker has put in, of the connections below n
pub record Accounts (w v n : ℕ) (put : List Handover) (hand : List (Option ℕ)) : Type 0 where
  pub connections : map (λ h. h.connection) put ≡ map (number_at w v) (below (length put))
  pub own : All (λ h. h.worker ≡ v) put
  pub few : length put ≤ share w v n
  pub all : hand ≡ None ∷ [] → length put ≡ share w v n

nothing_put : (w v n : ℕ) (put : List Handover) (hand : List (Option ℕ)) → [] ≡ map put_number put ++ hand
    → Accounts w v n put hand
nothing_put w v n [] hand is = record {
  connections = refl;
  own = All-nil (λ h. h.worker ≡ v);
  few = omega arith;
  all = λ end. let none : [] ≡ None ∷ [] = is ∙ end in absurd (cc);
}
nothing_put w v n (h ∷ put) hand is = absurd (cc)

module _ {L : Type 0} (w v n : ℕ) (less : v < w) (came sent : List (Message L)) (put : List Handover)
    (hand : List (Option ℕ)) (numbers : map number_of came ≡ map put_number put ++ hand)
    (sent_is : map number_of sent ≡ dealt w v n ++ None ∷ []) (prefix : IsPrefix came sent) (worker : ℕ)
    (own : All (λ h. h.worker ≡ worker) put) where
  abbrev sent_numbers : List ℕ
  sent_numbers = map (number_at w v) (below (share w v n))

  came_is : map put_number put ++ (hand ++ map number_of prefix.0) ≡ map Some sent_numbers ++ None ∷ []
  came_is =
      sym (append_assoc (map put_number put) hand (map number_of prefix.0))
      ∙ ap (λ l. l ++ map number_of prefix.0) (sym numbers) ∙ sym (map-append number_of came prefix.0)
      ∙ ap (map number_of) prefix.1 ∙ sent_is ∙ ap (λ l. l ++ None ∷ []) (dealt_are w v n less)

  accounts_all : worker ≡ v → Accounts w v n put hand
  accounts_all same =
      let parts = split put (hand ++ map number_of prefix.0) sent_numbers came_is in
      let first = firsts (number_at w v) (map (λ h. h.connection) put) parts.0 (share w v n) parts.1 in
      let long : length (map (λ h. h.connection) put) ≡ length put = length-map put (λ h. h.connection) in
      let few : share w v n ≡ length put + length parts.0 = first.1 ∙ ap (λ k. k + length parts.0) long in
      record {
        connections = first.0 ∙ ap (λ k. map (number_at w v) (below k)) long;
        own = subst (λ k. All (λ h. h.worker ≡ k) put) same own;
        few = omega (arith, few);
        all = λ end.
            let none : length parts.0 ≡ 0 = ap length (ended parts.0 hand (map number_of prefix.0) parts.2 end) in
            omega (arith, few, none);
      }

  pub accounts : (came ≡ []) ⊎ (worker ≡ v) → Accounts w v n put hand
  accounts (inl none) = nothing_put w v n put hand (ap (map number_of) (sym none) ∙ numbers)
  accounts (inr same) = accounts_all same
