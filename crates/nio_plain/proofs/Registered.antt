-- The key of a number's channel in a selector, and whether it has one, over the parts of a state.
use Rattle.std.proofs.Common.{◌≡◌, ℕ, ◌<◌, ◌≤◌, Bool, true, false, Option, Some, None, is_some, List}
use Rattle.std.proofs.Common.{length, get_or, cond, refl, sym, ap, ◌∙◌, subst, arith, ⊎_elim, map}
use Rattle.std.proofs.lemmas.Bool.{cases_lt, cond-true}
use Rattle.std.proofs.lemmas.List.Elements.{All-weaker}
use Rattle.std.proofs.lemmas.List.Folds.{Any-from_list_any, list_any_at, list_any_none}
use Rattle.std.specs.List.{list_any}
use Rattle.nio_base.specs.declared.limits.Limits.{Limits}
use Rattle.nio_base.specs.declared.numbers.KeyId.{KeyId}
use Rattle.nio_group.specs.Group.{Group}
use Rattle.nio_history.specs.Sets.{is_in_key_set}
use Rattle.nio_history.specs.State.{State, unmade_channel}
use Rattle.nio_history.specs.declared.found.Chan.{Chan}
use Rattle.nio_plain.proofs.Found.{below_all, below_contains}
use Rattle.nio_plain.proofs.Replying.{rows_of}
use Rattle.nio_plain.proofs.Places.{places_past, places_at}
use Rattle.nio_plain.specs.PlainState.{SelectorRow, key_in, if_in_set, state_from, state_of, limits_of, places}
use Rattle.nio_plain.specs.PlainState.{selector_row, no_selector, channel_row, pipe_of}
use Rattle.nio_plain.specs.declared.plain.Plain.{Plain}
use Rattle.nio_plain.specs.declared.plain.selector.Selector.{Selector}
use Rattle.nio_plain.specs.ScriptState.{ScriptState, Pipe}
use Rattle.nio_plain.specs.Seq.Modes.{has_key, if_in_key_set, key_of}
use Rattle.nio_plain.specs.Seq.Names.{below}

any-none : (p : ℕ → Bool) (m : ℕ) → ((k : ℕ) → k < m → p k ≡ false) → list_any p (below m) ≡ false
any-none p m h =
    list_any_none p (below m) (All-weaker (λ k. k < m) (λ k. p k ≡ false) h (below m) (below_all m))

pub any-some : (p : ℕ → Bool) (m n : ℕ) → n < m → p n ≡ true → list_any p (below m) ≡ true
any-some p m n l t =
    let there = below_contains m n l in
    list_any_at p (below m) there.0 n there.1 (ap p there.2 ∙ t)

-- over a state

-- the key that is enrolled is the channel's, where it is in the key set
pub key_of-some : (st : State) (c s : ℕ) (k : KeyId) → st.enrolled c s ≡ Some k
    → is_in_key_set (st.key s k.index) k.serial ≡ true → key_of st c s ≡ Some k
key_of-some st c s k e h =
    ap (if_in_key_set st s) e ∙ cond-true (is_in_key_set (st.key s k.index) k.serial) (Some k) None h

in_set-is : (st : State) (s : ℕ) (k : KeyId) (o : Option KeyId) → if_in_key_set st s o ≡ Some k
    → (o ≡ Some k) × (is_in_key_set (st.key s k.index) k.serial ≡ true)
in_set-is st s k None e = absurd cc
in_set-is st s k (Some m) e = by_set (is_in_key_set (st.key s m.index) m.serial) refl e
  where
    by_set : (b : Bool) → is_in_key_set (st.key s m.index) m.serial ≡ b
        → cond {A = Option KeyId} b (Some m) None ≡ Some k → (◌≡◌ {A = Option KeyId} (Some m) (Some k))
        × (is_in_key_set (st.key s k.index) k.serial ≡ true)
    by_set true t now =
        let same : m ≡ k = cc in
        (now, subst (λ (n : KeyId). is_in_key_set (st.key s n.index) n.serial ≡ true) same t)
    by_set false t now = absurd cc

pub key_of-is : (st : State) (c s : ℕ) (k : KeyId) → key_of st c s ≡ Some k
    → (st.enrolled c s ≡ Some k) × (is_in_key_set (st.key s k.index) k.serial ≡ true)
key_of-is st c s k e = in_set-is st s k (st.enrolled c s) e

-- a number that has a key has it in some selector
pub registered-key : (l : Limits) (st : State) (c : ℕ) → has_key l st c ≡ true
    → (s : ℕ) × (k : KeyId) × (key_of st c s ≡ Some k)
registered-key l st c h =
    let found = Any-from_list_any (λ s. is_some (key_of st c s)) (below l.selectors) h in
    named found.1 (key_of st c found.1) refl found.4
  where
    named : (s : ℕ) (o : Option KeyId) → key_of st c s ≡ o → is_some o ≡ true
        → (s : ℕ) × (k : KeyId) × (key_of st c s ≡ Some k)
    named s None e t = absurd cc
    named s (Some k) e t = (s, k, e)

module _ (group : Group) (pipes : List Pipe) (interrupted : ℕ → Bool) (mark : ℕ) (chan : ℕ → Chan)
    (row : ℕ → SelectorRow) where
  abbrev st : ScriptState
  st = state_from group pipes interrupted mark chan row

  in_set-row : (s : ℕ) (o : Option KeyId) → if_in_key_set st.shared s o ≡ if_in_set (row s).keys o
  in_set-row s None = refl
  in_set-row s (Some k) = refl

  pub key_of-row : (c s : ℕ) → key_of st.shared c s ≡ key_in (row s) c
  key_of-row c s = in_set-row s ((row s).enrolled c)

-- over a plain system

pub has_key-none : (p : Plain) (c : ℕ)
    → ((k : ℕ) → k < length p.selectors.items → is_some (key_in (rows_of p k) c) ≡ false)
    → has_key (limits_of p) (state_of p).shared c ≡ false
has_key-none p c h =
    let at = key_of-row p.group (map pipe_of p.pipes.items) (places (λ b. b) false p.interrupted.items)
    (length p.channels.items) (places channel_row unmade_channel p.channels.items) (rows_of p) c in
    any-none (λ s. is_some (key_of (state_of p).shared c s)) p.limits.selectors
    (λ k _. ap is_some (at k) ∙ ⊎_elim
    (λ (l : k < length p.selectors.items). h k l)
    (λ (l : length p.selectors.items ≤ k). ap (λ (r : SelectorRow). is_some (key_in r c))
    (places_past selector_row no_selector p.selectors.items k l))
    (cases_lt k (length p.selectors.items)))

pub has_key-some : (p : Plain) (c s : ℕ) → s < length p.selectors.items → is_some (key_in (rows_of p s) c) ≡ true
    → has_key (limits_of p) (state_of p).shared c ≡ true
has_key-some p c s h t =
    let at = key_of-row p.group (map pipe_of p.pipes.items) (places (λ b. b) false p.interrupted.items)
    (length p.channels.items) (places channel_row unmade_channel p.channels.items) (rows_of p) c in
    any-some (λ s. is_some (key_of (state_of p).shared c s)) p.limits.selectors s
    (omega (arith, p.selectors.ok.0, p.few_selectors)) (ap is_some (at s) ∙ t)

-- the channel's key, as the selector answers it
pub key_of-read : (p : Plain) (s c : ℕ) (x : Selector) (o : Option KeyId) → s < length p.selectors.items
    → x ≡ get_or p.selectors.items s x → o ≡ key_in (selector_row x) c → key_of (state_of p).shared c s ≡ o
key_of-read p s c x o h e key =
    let at = key_of-row p.group (map pipe_of p.pipes.items) (places (λ b. b) false p.interrupted.items)
    (length p.channels.items) (places channel_row unmade_channel p.channels.items) (rows_of p) c s in
    (at ∙ ap (λ r. key_in r c) (places_at selector_row no_selector p.selectors.items s x h e)) ∙ sym key
