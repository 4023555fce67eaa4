-- What a list has of an index, and what that says of the state.
use Rattle.std.proofs.Common.{◌≡◌, ℕ, ◌==◌, Bool, true, false, not, if◌then◌else◌, Option, Some, None, List, ◌∷◌}
use Rattle.std.proofs.Common.{refl, sym, ◌∙◌, ap, subst, eq-eqb, eqb-true, arith}
use Rattle.std.specs.List.{All, AllPairs, Contains}
use Rattle.std.proofs.lemmas.Bool.{false_from_ne_true}
use Rattle.std.proofs.lemmas.List.Elements.{All-filter, All-weaker, All-contains_itself}
use Rattle.std.proofs.lemmas.List.Sums.{fold-append}
use Rattle.nio_history.specs.Lists.{ListEntry, list_entry, entry_at}
use Rattle.nio_history.specs.Sets.{is_valid}
use Rattle.nio_history.specs.State.{State}
use Rattle.nio_steps.proofs.Lists.{pairs-after, parted}
use Rattle.nio_steps.proofs.Relisted.{HaveNot, Rise, as_listed, listed_from, next, none_listed, without_has_not}
use Rattle.nio_steps.specs.Lists.{listed_at}
use Rattle.nio_steps.specs.Looking.{without_index}
use Rattle.nio_steps.specs.declared.looked.LookedKey.{LookedKey}

-- a list without the index has none of it
pub without-none : (i : ℕ) (known : List LookedKey) → All (λ e. e.index ≡ i → ⊥) (without_index i known)
without-none i known =
    All-weaker (λ e. (e.index == i) ≡ false) (λ e. e.index ≡ i → ⊥)
    (λ e other same. absurd (cc (sym (eq-eqb e.index i same) ∙ other))) (without_index i known)
    (without_has_not i known)

-- and no others than before
pub without-kept : (i : ℕ) (known : List LookedKey) → All (Contains known) (without_index i known)
without-kept i known =
    All-filter (λ (e : LookedKey). not (e.index == i)) (Contains known) known (All-contains_itself known)

-- a list whose indexes rise has of an index the key that stands there
pub listed_there : (known : List LookedKey) (key : LookedKey) → AllPairs Rise known → Contains known key
    → listed_at known key.index ≡ Some (as_listed key)
listed_there known key rise there =
    let i = key.index in
    let at = parted known key there in
    let others : HaveNot i at.later = All-weaker (Rise key) (λ e. (e.index == i) ≡ false)
    (λ e high. false_from_ne_true (e.index == i) (λ same. absurd (omega (arith, high, eqb-true e.index i same))))
    at.later (pairs-after Rise at.past key at.later (subst (AllPairs Rise) at.parts rise)) in
    ap (λ keys. listed_at keys i) at.parts
    ∙ (fold-append (next i) None at.past (key ∷ at.later)
    ∙ (ap (λ b. listed_from i (if b then Some (as_listed key) else listed_at at.past i) at.later) (eq-eqb i i refl)
    ∙ none_listed i (Some (as_listed key)) at.later others))

-- what is known of an index where it is what stands there
pub record StandsAs (st : State) (s i : ℕ) (e : ListEntry) : Type 0 where
  pub valid : is_valid (st.key s i) ≡ true
  pub serial : (st.key s i).serial ≡ e.serial
  pub channel : (st.key s i).chan ≡ e.channel
  pub interest : st.interest s i ≡ e.interest

entry_in : ListEntry → Option ListEntry → ListEntry
entry_in e None = e
entry_in e (Some found) = found

pub entry_stands : (st : State) (s i : ℕ) (e : ListEntry) → Some e ≡ entry_at st s i → StandsAs st s i e
unfolding entry_in
entry_stands st s i e same = by_test (is_valid (st.key s i)) refl same
  where
    now : ListEntry
    now = list_entry (st.key s i) (st.interest s i)

    by_test : (b : Bool) → is_valid (st.key s i) ≡ b
        → Some e ≡ if◌then◌else◌ {A = Option ListEntry} b (Some (list_entry (st.key s i) (st.interest s i))) None
        → StandsAs st s i e
    by_test true valid same' =
        let is : e ≡ list_entry (st.key s i) (st.interest s i) = ap (entry_in e) same' in
        record {
          valid = valid;
          serial = ap (λ x. x.serial) (sym is);
          channel = ap (λ x. x.channel) (sym is);
          interest = ap (λ x. x.interest) (sym is);
        }
    by_test false valid same' = absurd (cc same')
