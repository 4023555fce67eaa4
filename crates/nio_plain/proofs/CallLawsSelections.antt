-- A selection in progress was begun by a `begin`, looks at what was replied, and stays so until its
-- own caller ends it.
use Rattle.std.proofs.Common.{◌≡◌, ◌⊎◌, ℕ, zero, suc, ◌<◌, ◌==◌, Bool, true, false, cond, not, ◌&&◌, Option, Some, None}
use Rattle.std.proofs.Common.{is_some, List, [], ◌∷◌, map, length, get_or, refl, sym, ap, subst, ◌∙◌, inl, inr, ⊎_elim}
use Rattle.std.proofs.Common.{arith, eq-eqb, eqb-true}
use Rattle.std.proofs.lemmas.Bool.{and_right, cases_eq, cond-true, true≢false, both_ways}
use Rattle.std.proofs.lemmas.List.{get_or-map, length-map}
use Rattle.std.proofs.lemmas.List.Elements.{All-map, filter_passes}
use Rattle.std.specs.List.{All, Contains, filter}
use Rattle.nio_base.specs.declared.numbers.CallerNo.{CallerNo}
use Rattle.nio_base.specs.declared.numbers.KeyId.{KeyId}
use Rattle.nio_base.specs.declared.numbers.SelNo.{SelNo}
use Rattle.nio_base.specs.declared.limits.Limits.{Limits}
use Rattle.nio_history.proofs.Put.{put-same, put_gave}
use Rattle.nio_history.specs.Sets.{in_key_set, in_cancelled_set, is_valid}
use Rattle.nio_history.specs.State.{State, put}
use Rattle.nio_history.specs.declared.found.Mode.{Mode}
use Rattle.nio_history.specs.declared.found.Stage.{Stage}
use Rattle.nio_language.specs.declared.call.Call.{Call}
use Rattle.nio_language.specs.declared.call.Call.TheVariants as call
use Rattle.nio_language.specs.declared.call.Waiting.{Waiting}
use Rattle.nio_plain.proofs.Found.{below_contains}
use Rattle.nio_plain.proofs.CallChanges as change
use Rattle.nio_plain.proofs.CallChanges.{Change}
use Rattle.nio_plain.proofs.CallLawsCases.{change_of, some_caller}
use Rattle.nio_plain.proofs.CallLawsWakeups.{no_end}
use Rattle.nio_plain.proofs.Places.{put-elsewhere}
use Rattle.nio_plain.specs.CallLaws.{EndLeavesNoneCancelled, IsBegunBy, LookedIsReplied, OnlyItselfEndsASelection}
use Rattle.nio_plain.specs.CallLaws.{is_end, is_over}
use Rattle.nio_plain.specs.ScriptState.{ScriptState, Selection}
use Rattle.nio_plain.specs.Seq.Replies.{Replied}
use Rattle.nio_plain.specs.Seq.Names.{below, key_at}
use Rattle.nio_plain.specs.Seq.Removing.{removed_key}
use Rattle.nio_plain.specs.declared.rules.Rules.{Rules}
use Rattle.nio_plain.specs.declared.rules.Rules.TheVariants.{Now}
use Rattle.nio_plain.specs.Seq.Selections.{is_caller, looked_keys, own_selection, selection_begun, selection_ended}
use Rattle.nio_plain.specs.Seq.Selections.{without_cancelled}

-- an element that passes is kept, and so is its image
contains_later : {X : Type 0} (y : X) (xs : List X) (x : X) → Contains xs x → Contains (y ∷ xs) x
contains_later y xs x c = (suc c.0, omega arith, c.2)

filter-contains : {X : Type 0} (p : X → Bool) (xs : List X) (x : X) (k : ℕ) → k < length xs → get_or xs k x ≡ x
    → p x ≡ true → Contains (filter p xs) x
filter-contains p [] x k l e passes = absurd (omega arith)
filter-contains {X} p (y ∷ xs) x zero l e passes =
    subst (λ (ys : List X). Contains ys x) (sym (cond-true (p y) (y ∷ filter p xs) (filter p xs) (ap p e ∙ passes)))
    (0, omega arith, e)
filter-contains {X} p (y ∷ xs) x (suc k) l e passes =
    let rest = filter-contains p xs x k (omega arith) e passes in
    at (p y) rest
  where
    at : (b : Bool) → Contains (filter p xs) x → Contains (cond b (y ∷ filter p xs) (filter p xs)) x
    at true c = contains_later y (filter p xs) x c
    at false c = c

map-contains : {X Y : Type 0} (f : X → Y) (xs : List X) (x : X) → Contains xs x → Contains (map f xs) (f x)
map-contains f xs x c =
    (c.0, omega (arith, length-map xs f, c.1), get_or-map f xs c.0 x (f x) c.1 ∙ ap f c.2)

-- a key that a sweep leaves in the key set is valid
not_removed : (p : Bool) → (p && false) ≡ true → ⊥
not_removed true e = true≢false (sym e)
not_removed false e = true≢false (sym e)

still_valid : (k : Stage) → in_key_set k ≡ true → in_cancelled_set k ≡ false → is_valid k ≡ true
still_valid k set out = by (in_key_set k) k.cancelled set out
  where
    by : (a b : Bool) → a ≡ true → (a && b) ≡ false → (a && not b) ≡ true
    by true false e o = refl
    by true true e o = absurd (true≢false o)
    by false b e o = absurd (true≢false (sym e))

swept_valid : (k : Stage) (b : Bool) → b ≡ true → in_key_set (cond (b && in_cancelled_set k) (removed_key k) k) ≡ true
    → is_valid (cond (b && in_cancelled_set k) (removed_key k) k) ≡ true
swept_valid k false e set = absurd (true≢false (sym e))
swept_valid k true e set = by (in_cancelled_set k) refl set
  where
    by : (c : Bool) → in_cancelled_set k ≡ c → in_key_set (cond c (removed_key k) k) ≡ true
        → is_valid (cond c (removed_key k) k) ≡ true
    by true o set' = absurd (not_removed k.published set')
    by false o set' = still_valid k set' o

-- a selection that begins
module _ (rules : Rules) (st : ScriptState) (me : CallerNo) (t : SelNo) (how : Mode) where
  abbrev bound : ℕ
  bound = st.shared.keys_high t.0

  abbrev swept : State
  swept = without_cancelled rules st.shared t.0

  abbrev in_set : ℕ → Bool
  in_set i = in_key_set (swept.key t.0 i)

  abbrev begun : Selection
  begun = record { mode = how; bound = bound; looked = looked_keys swept t.0 }

  valid_in : (i : ℕ) → in_set i ≡ true → is_valid (swept.key t.0 i) ≡ true
  valid_in i set = swept_valid (st.shared.key t.0 i) (t.0 == t.0) (eq-eqb t.0 t.0 refl) set

  abbrev pair : ℕ → KeyId × ℕ
  pair i = (key_at swept t.0 i, st.shared.interest t.0 i)

  abbrev IsLooked : KeyId × ℕ → Type 0
  IsLooked p = (is_valid (swept.key t.0 p.0.index) ≡ true) × (p.1 ≡ st.shared.interest t.0 p.0.index)

  looked_valid : All IsLooked (looked_keys swept t.0)
  looked_valid =
      let kept = filter in_set (below bound) in
      let passes = filter_passes in_set (below bound) in
      All-map IsLooked pair kept (λ k d l. (valid_in (get_or kept k d) (passes k d l), refl))

  looked_present : All (λ (p : KeyId × ℕ). p.0 ≡ key_at swept t.0 p.0.index) (looked_keys swept t.0)
  looked_present =
      All-map (λ (p : KeyId × ℕ). p.0 ≡ key_at swept t.0 p.0.index) pair (filter in_set (below bound)) (λ k d l. refl)

  looked_all : (i : ℕ) → i < bound → in_set i ≡ true → Contains (looked_keys swept t.0) (pair i)
  looked_all i l set =
      let there = below_contains bound i l in
      map-contains pair (filter in_set (below bound)) i
      (filter-contains in_set (below bound) i there.0 there.1 there.2 set)

  own_begun : cond (is_caller me (put st.shared.turn t.0 (Some me) t.0)) (put st.selection t.0 (Some begun) t.0) None
      ≡ Some begun
  own_begun =
      cond-true (is_caller me (put st.shared.turn t.0 (Some me) t.0)) (put st.selection t.0 (Some begun) t.0) None
      (ap (is_caller me) (put-same st.shared.turn t.0 (Some me)) ∙ eq-eqb me.0 me.0 refl)
      ∙ put-same st.selection t.0 (Some begun)

  is_begun : (waiting : Waiting) → IsBegunBy me (call.Begin t waiting) (selection_begun rules st me t.0 how) t.0 begun
  is_begun waiting = record {
    name = t;
    waiting = waiting;
    called = refl;
    there = refl;
    own = own_begun;
    replied = refl;
    present = looked_present;
    valid = looked_valid;
    all = looked_all;
  }

some_is : {A : Type 0} {x y : A} → Some x ≡ Some y → x ≡ y
some_is e = cc

module _ (rules : Rules) (st : ScriptState) (me : CallerNo) (s : ℕ) (selection : Selection) where
  abbrev Begun : Call → Replied → Type 0
  Begun c done =
      done.left.selection s ≡ Some selection → (st.selection s ≡ Some selection) ⊎ IsBegunBy me c done s selection

  before : {c : Call} {done : Replied} → st.selection s ≡ Some selection
      → (st.selection s ≡ Some selection) ⊎ IsBegunBy me c done s selection
  before e = inl e

  -- where a selection is over none is left
  over : (t : ℕ) → put st.selection t None s ≡ Some selection → st.selection s ≡ Some selection
  over t e = put_gave (λ _ o. o ≡ Some selection) st.selection t None (λ none. absurd cc) s e

  by_begin : (t : SelNo) (waiting : Waiting) (how : Mode)
      → Begun (call.Begin t waiting) (selection_begun rules st me t.0 how)
  by_begin t waiting how now =
      let new = begun rules st me t how in
      let done = selection_begun rules st me t.0 how in
      ⊎_elim
      (λ (e : s ≡ t.0).
      let same : new ≡ selection = some_is
      (sym (put-same st.selection t.0 (Some new)) ∙ (ap (put st.selection t.0 (Some new)) (sym e) ∙ now)) in
      inr (subst (λ (n : ℕ). IsBegunBy me (call.Begin t waiting) done n selection) (sym e)
      (subst (λ (x : Selection). IsBegunBy me (call.Begin t waiting) done t.0 x) same
      (is_begun rules st me t how waiting))))
      (λ (ne : s ≡ t.0 → ⊥). inl (sym (put-elsewhere st.selection t.0 s (Some new) ne) ∙ now))
      (cases_eq s t.0)

  changes : {l : Limits} {c : Call} {done : Replied} → Change rules l st me c done → Begun c done
  changes (change.begin t waiting how _) = by_begin t waiting how
  changes (change.told t _ _ _ _ _ _) = λ e. inl (over t.0 e)
  changes (change.failed t _ _) = λ e. inl (over t.0 e)
  changes _ = before

pub looked_is_replied : LookedIsReplied
looked_is_replied rules l st me c s selection =
    changes rules st me s selection (change_of rules l st me c)

-- whoever has the turn
one_caller : (me other : CallerNo) (o : Option CallerNo) → is_caller me o ≡ true → is_caller other o ≡ true
    → other.0 ≡ me.0
one_caller me other None h k = absurd cc
one_caller me other (Some x) h k = sym (eqb-true x.0 other.0 k) ∙ eqb-true x.0 me.0 h

-- the caller of an own selection has the turn
has_turn : {selection : Selection} (b : Bool) (o : Option Selection) → cond b o None ≡ Some selection → b ≡ true
has_turn true o e = refl
has_turn false o e = absurd cc

module _ (rules : Rules) (st : ScriptState) (me other : CallerNo) (s : ℕ) (selection : Selection)
    (own : own_selection st me s ≡ Some selection) where
  abbrev Stays : Call → Replied → Type 0
  Stays c done = (own_selection done.left me s ≡ Some selection) ⊎ ((other.0 ≡ me.0) × (is_over s c done.reply ≡ true))

  turn : is_caller me (st.shared.turn s) ≡ true
  turn = has_turn (is_caller me (st.shared.turn s)) (st.selection s) own

  stays : {A : Type 0} → (own_selection st me s ≡ Some selection) ⊎ A
  stays = inl own

  -- what changes at another selector
  elsewhere : (t : ℕ) (o : Option CallerNo) (x : Option Selection) → (s ≡ t → ⊥)
      → cond (is_caller me (put st.shared.turn t o s)) (put st.selection t x s) None ≡ Some selection
  elsewhere t o x ne =
      ap (λ (c : Option CallerNo). cond (is_caller me c) (put st.selection t x s) None)
      (put-elsewhere st.shared.turn t s o ne)
      ∙ (ap (λ (y : Option Selection). cond (is_caller me (st.shared.turn s)) y None)
      (put-elsewhere st.selection t s x ne) ∙ own)

  begins : (t : SelNo) (waiting : Waiting) (how : Mode) → is_some (st.shared.turn t.0) ≡ false
      → Stays (call.Begin t waiting) (selection_begun rules st other t.0 how)
  begins t waiting how free =
      ⊎_elim
      (λ (e : s ≡ t.0). absurd
      (both_ways (is_some (st.shared.turn t.0)) free
      (some_caller me (st.shared.turn t.0) (ap (λ k. is_caller me (st.shared.turn k)) (sym e) ∙ turn))))
      (λ (ne : s ≡ t.0 → ⊥). inl (elsewhere t.0 (Some other) (Some (begun rules st other t how)) ne))
      (cases_eq s t.0)

  -- a call that ends the selection of the caller that has the turn
  ends : {x : Selection} (t : ℕ) → own_selection st other t ≡ Some x
      → (cond (is_caller me (put st.shared.turn t None s)) (put st.selection t None s) None ≡ Some selection)
      ⊎ ((other.0 ≡ me.0) × ((t == s) ≡ true))
  ends t theirs =
      ⊎_elim
      (λ (e : s ≡ t).
      let their_turn = has_turn (is_caller other (st.shared.turn t)) (st.selection t) theirs in
      inr (
        one_caller me other (st.shared.turn s) turn (ap (λ k. is_caller other (st.shared.turn k)) e ∙ their_turn),
        eq-eqb t s (sym e),
      ))
      (λ (ne : s ≡ t → ⊥). inl (elsewhere t None None ne))
      (cases_eq s t)

  changes_stay : {l : Limits} {c : Call} {done : Replied} → Change rules l st other c done → Stays c done
  changes_stay (change.begin t waiting how free) = begins t waiting how free
  changes_stay (change.told t _ _ _ _ _ theirs) = ends t.0 theirs
  changes_stay (change.failed t _ theirs) = ends t.0 theirs
  changes_stay _ = stays

pub only_itself_ends_a_selection : OnlyItselfEndsASelection
only_itself_ends_a_selection rules l st me other c s selection own =
    changes_stay rules st me other s selection own (change_of rules l st other c)

-- ---- the end of a selection, by the rules of now

-- a key of the cancelled set is removed
gone : (b : Bool) (k : Stage) → b ≡ true
    → in_cancelled_set (cond (b && in_cancelled_set k) (removed_key k) k) ≡ false
gone false k e = absurd (true≢false (sym e))
gone true k e = by_set (in_cancelled_set k) refl
  where
    by_set : (c : Bool) → in_cancelled_set k ≡ c → in_cancelled_set (cond c (removed_key k) k) ≡ false
    by_set true _ = and_right (in_key_set (removed_key k)) false refl
    by_set false out = out

module _ (l : Limits) (st : ScriptState) (me : CallerNo) (s i : ℕ) where
  changes_cancelled : {c : Call} {done : Replied} → Change Now l st me c done → is_end s c done.reply ≡ true
      → in_cancelled_set (done.left.shared.key s i) ≡ false
  changes_cancelled (change.nothing c r keeps) ends = absurd (both_ways (is_end s c r) (no_end s c r keeps) ends)
  changes_cancelled (change.told t _ pairs selection _ _ _) ends =
      subst (λ (n : ℕ). in_cancelled_set ((selection_ended Now st.shared t.0 selection pairs).key n i) ≡ false)
      (eqb-true t.0 s ends) (gone (t.0 == t.0) (st.shared.key t.0 i) (eq-eqb t.0 t.0 refl))
  changes_cancelled _ ends = absurd cc

pub end_leaves_none_cancelled : EndLeavesNoneCancelled
end_leaves_none_cancelled l st me c s i = changes_cancelled l st me s i (change_of Now l st me c)
