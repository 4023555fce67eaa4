-- What the news know after a look at a key, and after all looks.
use Rattle.std.proofs.Common.{◌≡◌, ◌≢◌, ℕ, ◌+◌, ◌<◌, ◌≤◌, ◌==◌, nat_lt, Bool, true, false, not, ◌||◌, ◌⊎◌, inl, inr, if◌then◌else◌}
use Rattle.std.proofs.Common.{Option, Some, None, List, [], ◌∷◌, ◌++◌, length, get_or, set, drop, refl, ap, sym, ◌∙◌, subst, eqb, eqb-true, ne_eqb, arith}
use Rattle.std.specs.Prelude.{IsTrue, IsFalse, IsSome, bit_and, option_to_list, slice_get, slice_index}
use Rattle.std.specs.List.{All, Contains, dedup, filter}
use Rattle.std.specs.List.Sorted.{IsPermutation}
use Rattle.std.proofs.lemmas.List.Kept.{Contains-dedup_nat}
use Rattle.std.proofs.lemmas.List.Sorted.{Contains-permutation}
use Rattle.std.proofs.lemmas.Bool.{cases_eq, cases_lt, ltb-true, ltb-false}
use Rattle.std.proofs.lemmas.List.{get_or-set_same, get_or-set_other, drop_more, drop_all, get_or_past, length-set}
use Rattle.std.specs.Int.Bits.{and_zero_l, and_zero_r}
use Rattle.std.proofs.lemmas.Option.{get_or_from_slice_get, slice_get_within}
use Rattle.std.proofs.lemmas.Nat.{and_assoc, and_comm}
use Rattle.std.proofs.lemmas.List.Elements.{All-weaker, All-contains, All-contains_itself, All-push, filter_passes, Contains-push, Contains-append_left}
use Rattle.nio_steps.specs.declared.looked.LookedKey.{LookedKey}
use Rattle.nio_select.specs.Asked.{AreBelow, Looked, has_changed, key_at, keys_to, IsRising}
use Rattle.nio_select.specs.declared.stamp.Stamp.{Stamp}
use Rattle.nio_kept.proofs.Asked.{contains_filter, only_one, key_there, key_in, unchanged, one_channel}
use Rattle.nio_kept.specs.Looks.{AreListed, KnowsAt}
use Rattle.nio_kept.specs.News.{Heard, AreApart, AreFound, AreNoted, Continues, Follows, Knows, is_ready, is_next, is_same}
use Rattle.nio_kept.specs.Looks.{looked_at, noted}
use Rattle.nio_kept.specs.News.{StillKnows, ready_for}

-- what holds of each element of a list, where it follows from that the list has the element
pub each_of : {X : Type 0} (P : X → Type 0) (xs : List X) → ((x : X) → Contains xs x → P x) → All P xs
each_of P xs by = All-weaker (Contains xs) P by xs (All-contains_itself xs)

-- the news know a key
abbrev pub KnowsKey : Heard → LookedKey → Type 0
KnowsKey news key =
    (key.channel.0 < length news.keys → slice_index news.keys key.channel.0 ≡ key.index)
    × (ready_for news.kept key ≢ 0 → Contains news.candidates key.index)

pub known_at : (there : ℕ → Type 0) (news : Heard) (keys : List LookedKey) (key : LookedKey) → KnowsAt there news keys
    → Contains keys key → there key.index → KnowsKey news key
known_at there news keys key known within at =
    All-contains (λ e. there e.index → KnowsKey news e) keys key known within at

pub known_of : (news : Heard) (keys : List LookedKey) (key : LookedKey) → Knows news keys → Contains keys key
    → KnowsKey news key
known_of news keys key known within = (
  All-contains (λ e. e.channel.0 < length news.keys → slice_index news.keys e.channel.0 ≡ e.index) keys key known.0 within,
  All-contains (λ e. ready_for news.kept e ≢ 0 → Contains news.candidates e.index) keys key known.1 within,
)

-- where they know each key, they know the list
pub knows_all : (there : ℕ → Type 0) (news : Heard) (keys : List LookedKey)
    → ((key : LookedKey) → Contains keys key → there key.index) → KnowsAt there news keys → Knows news keys
knows_all there news keys at known = (
  each_of (λ e. e.channel.0 < length news.keys → slice_index news.keys e.channel.0 ≡ e.index) keys
      (λ e within. (known_at there news keys e known within (at e within)).0),
  each_of (λ e. ready_for news.kept e ≢ 0 → Contains news.candidates e.index) keys
      (λ e within. (known_at there news keys e known within (at e within)).1),
)

-- ---- one look

taken : (b : Bool) (candidates : List ℕ) (i j : ℕ) → Contains candidates j
    → Contains (if b then candidates ++ i ∷ [] else candidates) j
taken true candidates i j there = Contains-append_left candidates (i ∷ []) j there
taken false candidates i j there = there

module _ (news : Heard) (keys : List LookedKey) (i : ℕ) where
  -- the key that was looked at is known
  seen_here : (key : LookedKey) → key.index ≡ i → KnowsKey (looked_at news i (Some key)) key
  seen_here key at = (
    λ placed. get_or-set_same news.keys key.channel.0 key.index 0 (subst (λ (n : ℕ). key.channel.0 < n)
        (length-set news.keys key.channel.0 key.index) placed),
    λ ready. subst (λ (b : Bool). Contains (if b then news.candidates ++ i ∷ [] else news.candidates) key.index)
        (sym (ap not (ne_eqb (ready_for news.kept key) 0 ready)))
        (subst (λ (n : ℕ). Contains (news.candidates ++ i ∷ []) n) (sym at) (Contains-push news.candidates i)),
  )

  -- another that was known still is
  still_noted : (found : Option LookedKey) (key : LookedKey) → key_at i keys ≡ found → AreApart keys
      → Contains keys key → slice_index news.keys key.channel.0 ≡ key.index
      → key.channel.0 < length news.keys → slice_index (noted found news.keys) key.channel.0 ≡ key.index
  still_noted None key is apart within was placed = was
  still_noted (Some found) key is apart within was placed = by_channel (cases_eq key.channel.0 found.channel.0)
    where
      by_channel : (key.channel.0 ≡ found.channel.0) ⊎ (key.channel.0 ≡ found.channel.0 → ⊥)
          → get_or (set news.keys found.channel.0 found.index) key.channel.0 0 ≡ key.index
      by_channel (inl same) =
          let one : key ≡ found = one_channel keys key found apart within (key_in i found keys is).0
          (ap (λ (n : ℕ). record { 0 = n }) same) in
          ap (λ (n : ℕ). get_or (set news.keys found.channel.0 found.index) n 0) same
          ∙ (get_or-set_same news.keys found.channel.0 found.index 0 (omega (arith, placed, same))
          ∙ sym (ap (λ (k : LookedKey). k.index) one))
      by_channel (inr other) = get_or-set_other news.keys found.channel.0 key.channel.0 found.index 0 other ∙ was

  as_long : (found : Option LookedKey) (key : LookedKey) → key.channel.0 < length (noted found news.keys)
      → key.channel.0 < length news.keys
  as_long None key placed = placed
  as_long (Some found) key placed =
      subst (λ (n : ℕ). key.channel.0 < n) (length-set news.keys found.channel.0 found.index) placed

  pub looked_more : (there : ℕ → Type 0) → AreApart keys
      → keys_to (i + 1) keys ≡ keys_to i keys ++ option_to_list (key_at i keys) → KnowsAt there news keys
      → KnowsAt (λ j. there j ⊎ (j ≡ i)) (looked_at news i (key_at i keys)) keys
  looked_more there apart alone known =
      each_of (λ key. there key.index ⊎ (key.index ≡ i) → KnowsKey (looked_at news i (key_at i keys)) key) keys
      (λ key within. by_place key within)
    where
      by_place : (key : LookedKey) → Contains keys key → there key.index ⊎ (key.index ≡ i)
          → KnowsKey (looked_at news i (key_at i keys)) key
      by_place key within (inr at) =
          subst (λ (o : Option LookedKey). KnowsKey (looked_at news i o) key)
          (sym (only_one keys i (key_at i keys) key alone within at)) (seen_here key at)
      by_place key within (inl at) =
          let was = known_at there news keys key known within at in (
            λ placed.
                let before : key.channel.0 < length news.keys = as_long (key_at i keys) key placed in
                still_noted (key_at i keys) key refl apart within (was.0 before) before,
            λ ready. taken (is_ready news.kept (key_at i keys)) news.candidates i key.index (was.1 ready),
          )

pub weaker_at : (there fewer : ℕ → Type 0) (news : Heard) (keys : List LookedKey)
    → ((j : ℕ) → fewer j → there j) → KnowsAt there news keys → KnowsAt fewer news keys
weaker_at there fewer news keys less known =
    All-weaker (λ key. there key.index → KnowsKey news key) (λ key. fewer key.index → KnowsKey news key)
    (λ key at below. at (less key.index below)) keys known

-- each candidate is ready
abbrev pub AreReady : List ℕ → List LookedKey → List ℕ → Type 0
AreReady kept keys candidates = All (λ i. IsTrue (is_ready kept (key_at i keys))) candidates

pub ready_more : (news : Heard) (keys : List LookedKey) (i : ℕ) → AreReady news.kept keys news.candidates
    → AreReady news.kept keys (looked_at news i (key_at i keys)).candidates
ready_more news keys i ready = by_test (is_ready news.kept (key_at i keys)) refl
  where
    by_test : (b : Bool) → is_ready news.kept (key_at i keys) ≡ b
        → AreReady news.kept keys (if b then news.candidates ++ i ∷ [] else news.candidates)
    by_test true is = All-push (λ j. IsTrue (is_ready news.kept (key_at j keys))) news.candidates i ready is
    by_test false is = ready

-- ---- over all

pub below_more : (i j : ℕ) → j < i + 1 → (j < i) ⊎ (j ≡ i)
below_more i j within = by_test (nat_lt j i) refl
  where
    by_test : (b : Bool) → nat_lt j i ≡ b → (j < i) ⊎ (j ≡ i)
    by_test true is = inl (ltb-true j i is)
    by_test false is = inr (omega (arith, ltb-false j i is, within))

pub knows_below : (bound n : ℕ) (news : Heard) (keys : List LookedKey) → bound ≤ n → AreBelow bound keys
    → KnowsAt (λ j. j < n) news keys → Knows news keys
knows_below bound n news keys over below known =
    knows_all (λ j. j < n) news keys
    (λ key within. omega (arith, over, All-contains (λ e. e.index < bound) keys key below within)) known

-- ---- over what changed

-- the index isn't among those that are still to come
abbrev pub IsPast : List ℕ → ℕ → ℕ → Type 0
IsPast changed n j = IsFalse (has_changed (drop n changed) j)

pub past_more : (changed : List ℕ) (n i j : ℕ) → n < length changed → i ≡ get_or changed n i → IsPast changed (n + 1) j
    → IsPast changed n j ⊎ (j ≡ i)
past_more changed n i j within is past =
    by_test (i == j) refl
  where
    parts : drop n changed ≡ i ∷ drop (n + 1) changed
    parts = drop_more changed n i within ∙ ap (λ (k : ℕ). k ∷ drop (n + 1) changed) (sym is)

    by_test : (b : Bool) → (i == j) ≡ b → IsPast changed n j ⊎ (j ≡ i)
    by_test true same = inr (sym (eqb-true i j same))
    by_test false other =
        inl (ap (λ (ks : List ℕ). has_changed ks j) parts
        ∙ (ap (λ (b : Bool). b || has_changed (drop (n + 1) changed) j) other ∙ past))

pub knows_past : (changed : List ℕ) (n : ℕ) (news : Heard) (keys : List LookedKey) → length changed ≤ n
    → KnowsAt (IsPast changed n) news keys → Knows news keys
knows_past changed n news keys over known =
    knows_all (IsPast changed n) news keys
    (λ key within. ap (λ (ks : List ℕ). has_changed ks key.index) (drop_all n changed over)) known

-- ---- the two quick ways

-- the news, of whose candidates only those are left that are ready
abbrev pub left : Heard → List LookedKey → Heard
left news keys = record news { candidates = filter (λ i. is_ready news.kept (key_at i keys)) news.candidates }

pub left_ready : (news : Heard) (keys : List LookedKey) → AreReady news.kept keys (left news keys).candidates
left_ready news keys = filter_passes (λ i. is_ready news.kept (key_at i keys)) news.candidates

-- of a key that is ready the candidate is left
left_key : (news : Heard) (keys : List LookedKey) (key : LookedKey) → IsRising keys → Contains keys key
    → KnowsKey news key → KnowsKey (left news keys) key
left_key news keys key rise within was = (
  was.0,
  λ ready. contains_filter (λ i. is_ready news.kept (key_at i keys)) news.candidates key.index (was.1 ready)
      (ap (is_ready news.kept) (key_there keys key rise within)
      ∙ ap not (ne_eqb (ready_for news.kept key) 0 ready)),
)

-- what was known of the list before, in the form that a look has
abbrev pub WasKnown : Option Stamp → Heard → Looked → Type 0
WasKnown seen news before = IsSome seen → (seen ≡ before.stamp) × Knows news before.keys

-- of the news as they lie in memory
pub as_remembered : (inside old : Heard) (asked : Looked) → inside ≡ old → (on : Continues old asked)
    → IsTrue (is_same inside.seen asked.stamp || is_next inside.seen asked.stamp)
    → WasKnown inside.seen inside on.before
as_remembered inside old asked is on quick =
    subst (λ (n : Heard). WasKnown n.seen n on.before) (sym is)
    (on.remembered
    (subst (λ (n : Heard). IsTrue (is_same n.seen asked.stamp || is_next n.seen asked.stamp)) is quick))

pub left_same : (seen : Option Stamp) (news : Heard) (before now : Looked) → IsTrue (is_same seen now.stamp)
    → Follows before now → WasKnown seen news before → Knows (left news now.keys) now.keys
left_same None news before now same follows was = absurd (cc same)
left_same (Some stamp) news before now same follows was =
    let known = was refl in
    let on = follows.same (ap (λ o. is_same o now.stamp) (sym known.0) ∙ same) in
    let there : Knows news now.keys = subst (Knows news) (sym on.1) known.1 in
    knows_all (λ j. Unit {0}) (left news now.keys) now.keys (λ key within. tt)
    (each_of (λ key. Unit {0} → KnowsKey (left news now.keys) key) now.keys
    (λ key within at. left_key news now.keys key on.0 within (known_of news now.keys key there within)))

pub left_next : (seen : Option Stamp) (news : Heard) (before now : Looked) → IsTrue (is_next seen now.stamp)
    → Follows before now → WasKnown seen news before
    → KnowsAt (λ i. IsFalse (has_changed now.changed i)) (left news now.keys) now.keys
left_next None news before now next follows was = absurd (cc next)
left_next (Some stamp) news before now next follows was =
    let known = was refl in
    let on = follows.next (ap (λ o. is_next o now.stamp) (sym known.0) ∙ next) in
    each_of (λ key. IsFalse (has_changed now.changed key.index) → KnowsKey (left news now.keys) key) now.keys
    (λ key within other. left_key news now.keys key on.0 within
    (known_of news before.keys key known.1 (unchanged before.keys now.keys now.changed key on.0 on.1 other within)))

-- ---- what is kept of a channel

-- the index that is noted for the channel of a key is its own
pub noted_there : (news : Heard) (keys : List LookedKey) (key : LookedKey) (c index : ℕ)
    → slice_get news.keys c ≡ Some index → AreNoted news keys → Contains keys key → key.channel.0 ≡ c → index ≡ key.index
noted_there news keys key c index noted known within at =
    let placed : c < length news.keys = slice_get_within news.keys c index noted in
    sym (get_or_from_slice_get news.keys c index 0 noted)
    ∙ (ap (slice_index news.keys) (sym at)
    ∙ All-contains (λ e. e.channel.0 < length news.keys → slice_index news.keys e.channel.0 ≡ e.index) keys key known within
    (omega (arith, at, placed)))

-- what is kept of a channel changes, and where a key of it is ready then, its index is a candidate
pub other_bits : (news : Heard) (keys : List LookedKey) (c bits : ℕ) (candidates : List ℕ) (seen : Option Stamp)
    → ((i : ℕ) → Contains news.candidates i → Contains candidates i)
    → All (λ key. key.channel.0 ≡ c → ready_for (set news.kept c bits) key ≢ 0 → Contains candidates key.index) keys
    → Knows news keys
    → Knows (record news { kept = set news.kept c bits; candidates = candidates; seen = seen }) keys
other_bits news keys c bits candidates seen still this known = (
  known.0,
  each_of (λ e. ready_for (set news.kept c bits) e ≢ 0 → Contains candidates e.index) keys
      (λ key within ready. by_channel key within ready (cases_eq key.channel.0 c)),
)
  where
    by_channel : (key : LookedKey) → Contains keys key → ready_for (set news.kept c bits) key ≢ 0
        → (key.channel.0 ≡ c) ⊎ (key.channel.0 ≡ c → ⊥) → Contains candidates key.index
    by_channel key within ready (inl at) =
        All-contains (λ e. e.channel.0 ≡ c → ready_for (set news.kept c bits) e ≢ 0 → Contains candidates e.index) keys key
        this within at ready
    by_channel key within ready (inr other) =
        still key.index ((known_of news keys key known within).1
        (λ none. ready (ap (λ (n : ℕ). bit_and n key.interest)
        (get_or-set_other news.kept c key.channel.0 bits 0 other) ∙ none)))

-- a key that is ready for something has a channel of which something is kept
pub ready_placed : (kept : List ℕ) (key : LookedKey) → ready_for kept key ≢ 0 → key.channel.0 < length kept
ready_placed kept key ready = by_place (cases_lt key.channel.0 (length kept))
  where
    by_place : (key.channel.0 < length kept) ⊎ (length kept ≤ key.channel.0) → key.channel.0 < length kept
    by_place (inl within) = within
    by_place (inr past) =
        absurd (ready (ap (λ (n : ℕ). bit_and n key.interest) (get_or_past kept key.channel.0 0 past)
        ∙ and_zero_l key.interest))

-- fewer bits are kept
pub fewer_bits : (news : Heard) (c ops : ℕ)
    → StillKnows news (record news { kept = set news.kept c (bit_and (slice_index news.kept c) ops) })
fewer_bits news c ops list was some =
    let known = was some in (
      known.0,
      other_bits news list.keys c (bit_and (slice_index news.kept c) ops) news.candidates news.seen (λ i there. there)
          (each_of (λ key. key.channel.0 ≡ c → ready_for (set news.kept c (bit_and (slice_index news.kept c) ops)) key ≢ 0
          → Contains news.candidates key.index) list.keys
          (λ key within at ready. (known_of news list.keys key known.1 within).1 (before key at ready))) known.1,
    )
  where
    less : (bits interest : ℕ) → bit_and bits interest ≡ 0 → bit_and (bit_and bits ops) interest ≡ 0
    less bits interest none =
        ap (λ (n : ℕ). bit_and n interest) (and_comm bits ops)
        ∙ (and_assoc interest ops bits ∙ (ap (bit_and ops) none ∙ and_zero_r ops))

    before : (key : LookedKey) → key.channel.0 ≡ c
        → ready_for (set news.kept c (bit_and (slice_index news.kept c) ops)) key ≢ 0 → ready_for news.kept key ≢ 0
    before key at ready none =
        let placed : key.channel.0 < length news.kept = omega (
          arith,
          ready_placed (set news.kept c (bit_and (slice_index news.kept c) ops)) key ready,
          length-set news.kept c (bit_and (slice_index news.kept c) ops),
        ) in
        ready (ap (λ (n : ℕ). bit_and (get_or (set news.kept c (bit_and (slice_index news.kept c) ops)) n 0) key.interest) at
        ∙ (ap (λ (n : ℕ). bit_and n key.interest)
        (get_or-set_same news.kept c (bit_and (slice_index news.kept c) ops) 0 (omega (arith, at, placed)))
        ∙ less (slice_index news.kept c) key.interest
        (ap (λ (n : ℕ). bit_and (get_or news.kept n 0) key.interest) (sym at) ∙ none)))

-- more bits are kept of a channel, and the index that is noted for it is a candidate
pub added_bits : (news : Heard) (c bits index : ℕ) → slice_get news.keys c ≡ Some index
    → StillKnows news (record news { kept = set news.kept c bits; candidates = news.candidates ++ index ∷ [] })
added_bits news c bits index noted list was some =
    let known = was some in (
      known.0,
      other_bits news list.keys c bits (news.candidates ++ index ∷ []) news.seen
          (λ i there. Contains-append_left news.candidates (index ∷ []) i there)
          (each_of (λ key. key.channel.0 ≡ c → ready_for (set news.kept c bits) key ≢ 0
          → Contains (news.candidates ++ index ∷ []) key.index) list.keys
          (λ key within at ready.
          subst (Contains (news.candidates ++ index ∷ []))
          (noted_there news list.keys key c index noted known.1.0 within at)
          (Contains-push news.candidates index))) known.1,
    )

-- ---- other candidates

-- candidates that were sorted, and of which each was left once
pub still_there : (candidates sorted left : List ℕ) → IsPermutation candidates sorted → left ≡ dedup eqb sorted
    → (i : ℕ) → Contains candidates i → Contains left i
still_there candidates sorted left moves is i there =
    subst (λ (xs : List ℕ). Contains xs i) (sym is)
    (Contains-dedup_nat sorted i (Contains-permutation candidates sorted i moves there))

pub more_found : (kept : List ℕ) (keys : List LookedKey) (old new : List ℕ)
    → ((i : ℕ) → Contains old i → Contains new i) → AreFound kept keys old → AreFound kept keys new
more_found kept keys old new still =
    All-weaker (λ e. ready_for kept e ≢ 0 → Contains old e.index) (λ e. ready_for kept e ≢ 0 → Contains new e.index)
    (λ e at ready. still e.index (at ready)) keys

-- the earlier ones are among them
pub more_candidates : (news : Heard) (candidates : List ℕ) → ((i : ℕ) → Contains news.candidates i → Contains candidates i)
    → StillKnows news (record news { candidates = candidates })
more_candidates news candidates still list was some =
    let known = was some in
    (known.0, (known.1.0, more_found news.kept list.keys news.candidates candidates still known.1.1))

-- the index that is noted for the channel becomes a candidate
pub index_listed : (news : Heard) (keys : List LookedKey) (c index : ℕ) (candidates : List ℕ)
    → slice_get news.keys c ≡ Some index → candidates ≡ news.candidates ++ index ∷ [] → AreNoted news keys
    → AreListed news.kept keys c news.candidates candidates
index_listed news keys c index candidates noted more known = record {
  still = λ i there. subst (λ (xs : List ℕ). Contains xs i) (sym more)
      (Contains-append_left news.candidates (index ∷ []) i there);
  this = each_of (λ key. key.channel.0 ≡ c → ready_for news.kept key ≢ 0 → Contains candidates key.index) keys
      (λ key within at ready. subst (λ (xs : List ℕ). Contains xs key.index) (sym more)
      (subst (Contains (news.candidates ++ index ∷ [])) (noted_there news keys key c index noted known within at)
      (Contains-push news.candidates index)));
}

-- no key of the channel is ready, where that with the index that is noted isn't
pub none_ready : (news : Heard) (keys : List LookedKey) (c index : ℕ) → slice_get news.keys c ≡ Some index
    → keys_to (index + 1) keys ≡ keys_to index keys ++ option_to_list (key_at index keys)
    → is_ready news.kept (key_at index keys) ≡ false → AreNoted news keys
    → AreListed news.kept keys c news.candidates news.candidates
none_ready news keys c index noted alone unready known = record {
  still = λ i there. there;
  this = each_of (λ key. key.channel.0 ≡ c → ready_for news.kept key ≢ 0 → Contains news.candidates key.index) keys
      (λ key within at ready.
      let own : index ≡ key.index = noted_there news keys key c index noted known within at in
      let found : key_at index keys ≡ Some key = only_one keys index (key_at index keys) key alone within (sym own) in
      absurd (cc (sym (ap (is_ready news.kept) found ∙ ap not (ne_eqb (ready_for news.kept key) 0 ready)) ∙ unready)));
}
