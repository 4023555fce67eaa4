-- The sweeps of a selection over the indexes that aren't free: the cancelled keys among those that it went over are
-- removed.
use Rattle.std.proofs.Common.{◌≡◌, ℕ, ◌+◌, ◌*◌, ◌/◌, ◌<◌, ◌≤◌, ◌==◌, nat_lt, Bool, true, false, cond, not, ◌&&◌, ◌||◌, if◌then◌else◌, None}
use Rattle.std.proofs.Common.{List, [], ◌∷◌, ◌++◌, map, filter, refl, ap, sym, ◌∙◌, subst, eqb-true, eq-eqb, arith}
use Rattle.std.proofs.Math.Bool.{or-false}
use Rattle.std.proofs.lemmas.Bool.{and_parts, and_from, and_left, and_right, or_right, both_ways, ne_eqb, cond-true}
use Rattle.std.proofs.lemmas.Bool.{cond-false, false_from_ne_true, not-true, ltb-true}
use Rattle.std.proofs.lemmas.List.{append-nil, map-append}
use Rattle.std.proofs.lemmas.List.Elements.{filter-append}
use Rattle.std.proofs.lemmas.List.Folds.{list_any-append}
use Rattle.std.specs.List.{list_any}
use Rattle.nio_base.specs.declared.numbers.CallerNo.{CallerNo}
use Rattle.nio_base.specs.declared.numbers.SelNo.{SelNo}
use Rattle.nio_history.specs.Sets.{in_key_set, in_cancelled_set, is_valid}
use Rattle.nio_base.specs.Numbers.{last_serial}
use Rattle.nio_history.specs.Answers.{is_pinned}
use Rattle.nio_history.specs.State.{State, put_at}
use Rattle.nio_history.specs.declared.found.Stage.{Stage}
use Rattle.nio_plain.proofs.Registered.{any-some}
use Rattle.nio_plain.specs.Seq.Names.{below}
use Rattle.nio_plain.specs.Seq.Removing.{without_keys_where}
use Rattle.nio_plain.specs.Seq.Selections.{without_cancelled}
use Rattle.nio_plain.specs.declared.rules.Rules.TheVariants.{Now}
use Rattle.nio_steps.proofs.PerformLaws.{perform_then, perform_else, perform_then_on}
use Rattle.nio_steps.specs.Perform.{Performed, perform}
use Rattle.nio_steps.specs.Plan.{Plan, when, ◌>>◌}
use Rattle.nio_steps.specs.Looking.{over_not_free, looked_key, remove_cancelled, look_valid, look_on, look_over}
use Rattle.nio_steps.specs.ChannelCalls.{words_below}
use Rattle.nio_steps.specs.Looking.{remove_if_cancelled, over_touched, without_index, enlisted, list_valid, list_on}
use Rattle.nio_steps.specs.Looking.{list_over}
use Rattle.nio_steps.specs.Steps.{touch}
use Rattle.nio_steps.specs.Sweeps.{sweep_to}
use Rattle.nio_steps.specs.declared.looked.LookedKey.{LookedKey}
use Rattle.nio_serial.proofs.Base.{settled-cancelled}
use Rattle.nio_serial.proofs.FreeWords.{has_index, listed, over_not_free-performed}
use Rattle.nio_serial.proofs.Removing.{gone, removed_where, removed_none, removed_same, removed_more, removal-performed}
use Rattle.nio_serial.proofs.Removing.{settled-removed, removed-touched}
use Rattle.nio_serial.proofs.TouchedWords.{touched_in, touched_in-is, over_touched-performed}
use Rattle.nio_serial.specs.Between.{AreTouched}
use Rattle.nio_serial.specs.Documented.{settled, settled_state}

any-filter : (p q : ℕ → Bool) (xs : List ℕ) → list_any p (filter q xs) ≡ list_any (λ i. q i && p i) xs
any-filter p q [] = refl
any-filter p q (x ∷ xs) = by_test (q x) (any-filter p q xs)
  where
    by_test : (b : Bool) → list_any p (filter q xs) ≡ list_any (λ i. q i && p i) xs
        → list_any p (cond b (x ∷ filter q xs) (filter q xs)) ≡ ((b && p x) || list_any (λ i. q i && p i) xs)
    by_test true rest = ap (λ b. p x || b) rest
    by_test false rest = rest

-- the indexes below n that pass the test have an index that does
index-there : (q : ℕ → Bool) (n i : ℕ) → i < n → q i ≡ true → has_index i (filter q (below n)) ≡ true
index-there q n i low is =
    any-filter (λ j. j == i) q (below n) ∙ any-some (λ j. q j && (j == i)) n i low (λ j. is j && eq-eqb i i refl j)

index-push : (i : ℕ) (past : List ℕ) (e : ℕ) → has_index i (past ++ e ∷ []) ≡ (has_index i past || (e == i))
index-push i past e = list_any-append (λ j. j == i) past (e ∷ []) ∙ ap (λ b. has_index i past || b) (or-false (e == i))

-- there is a next serial
abbrev pub has_next : Stage → Bool
has_next k = nat_lt k.serial last_serial

-- ---- the selector's list

-- what the list has after an index is looked at, and after these are, by what stands there
abbrev relisted_at : (ℕ → Stage) → (ℕ → ℕ) → ℕ → List LookedKey → List LookedKey
relisted_at key interest e known =
    cond (in_cancelled_set (key e)) (without_index e known)
    (cond (is_valid (key e)) (enlisted (looked_key e (key e) (interest e)) (without_index e known))
    (without_index e known))

abbrev pub relisted : (ℕ → Stage) → (ℕ → ℕ) → List LookedKey → List ℕ → List LookedKey
relisted key interest known [] = known
relisted key interest known (e ∷ later) = relisted key interest (relisted_at key interest e known) later

relisted-push : (key : ℕ → Stage) (interest : ℕ → ℕ) (known : List LookedKey) (past : List ℕ) (e : ℕ)
    → relisted_at key interest e (relisted key interest known past) ≡ relisted key interest known (past ++ e ∷ [])
relisted-push key interest known [] e = refl
relisted-push key interest known (x ∷ past) e =
    relisted-push key interest (relisted_at key interest x known) past e

-- ---- a state in which a selection has begun

module _ (st : State) (me : CallerNo) (s : SelNo) (none_due : (i : ℕ) → st.put_due s.0 i ≡ false)
    (untaken : (i : ℕ) → st.taker s.0 i ≡ None) where
  abbrev test : ℕ → Bool
  test i = in_cancelled_set (st.key s.0 i)

  -- the cancelled keys among these indexes go
  abbrev pub goes : List ℕ → ℕ → ℕ → Bool
  goes past t i = (t == s.0) && (has_index i past && test i)

  abbrev pub swept : List ℕ → State
  swept past = removed_where st (goes past) has_next

  pub swept_none : st ≡ swept []
  swept_none = removed_none st has_next (goes []) (λ t i. and_right (t == s.0) false refl)

  pub swept-touched : (past : List ℕ) (t : ℕ) → AreTouched st t → AreTouched (swept past) t
  swept-touched past = removed-touched st (goes past) has_next

  goes_here : (past : List ℕ) (e : ℕ) → test e ≡ true → goes (past ++ e ∷ []) s.0 e ≡ true
  goes_here past e cancelled =
      and_from (s.0 == s.0) (has_index e (past ++ e ∷ []) && test e) (eq-eqb s.0 s.0 refl)
      (and_from (has_index e (past ++ e ∷ [])) (test e)
      (index-push e past e ∙ or_right (has_index e past) (e == e) (eq-eqb e e refl)) cancelled)

  goes_others : (past : List ℕ) (e t i : ℕ) → ((t == s.0) && (i == e)) ≡ false
      → goes (past ++ e ∷ []) t i ≡ goes past t i
  goes_others past e t i other =
      ap (λ b. (t == s.0) && (b && test i)) (index-push i past e) ∙ by_selector (t == s.0) other
    where
      none_more : (b : Bool) → (b || false) ≡ b
      none_more true = refl
      none_more false = refl

      by_selector : (b : Bool) → (b && (i == e)) ≡ false
          → (b && ((has_index i past || (e == i)) && test i)) ≡ (b && (has_index i past && test i))
      by_selector true ne =
          ap (λ b. (has_index i past || b) && test i)
          (ne_eqb e i (λ same. both_ways (i == e) ne (eq-eqb i e (sym same))))
          ∙ ap (λ b. b && test i) (none_more (has_index i past))
      by_selector false ne = refl

  -- an index whose key isn't cancelled changes nothing
  goes_same : (past : List ℕ) (e : ℕ) → test e ≡ false → (t i : ℕ) → goes past t i ≡ goes (past ++ e ∷ []) t i
  goes_same past e stays t i =
      ap (λ b. (t == s.0) && b) (by_index (e == i) refl ∙ ap (λ b. b && test i) (sym (index-push i past e)))
    where
      or_more : (b x : Bool) → x ≡ false → (b && x) ≡ ((b || true) && x)
      or_more true x is_false = refl
      or_more false x is_false = sym is_false

      or_none : (b x : Bool) → (b && x) ≡ ((b || false) && x)
      or_none true x = refl
      or_none false x = refl

      by_index : (b : Bool) → (e == i) ≡ b → (has_index i past && test i) ≡ ((has_index i past || b) && test i)
      by_index true same =
          or_more (has_index i past) (test i) (subst (λ (n : ℕ). test n ≡ false) (eqb-true e i same) stays)
      by_index false same = or_none (has_index i past) (test i)

  -- nor does one that goes already
  goes_again : (past : List ℕ) (e : ℕ) → goes past s.0 e ≡ true → (t i : ℕ) → goes past t i ≡ goes (past ++ e ∷ []) t i
  goes_again past e is t i = by_place ((t == s.0) && (i == e)) refl
    where
      by_place : (b : Bool) → ((t == s.0) && (i == e)) ≡ b → goes past t i ≡ goes (past ++ e ∷ []) t i
      by_place true here =
          let both = and_parts (t == s.0) (i == e) here in
          let cancelled =
          (and_parts (has_index e past) (test e) (and_parts (s.0 == s.0) (has_index e past && test e) is).1).1 in
          subst (λ (m : ℕ). goes past m i ≡ goes (past ++ e ∷ []) m i) (sym (eqb-true t s.0 both.0))
          (subst (λ (n : ℕ). goes past s.0 n ≡ goes (past ++ e ∷ []) s.0 n) (sym (eqb-true i e both.1))
          (is ∙ sym (goes_here past e cancelled)))
      by_place false other = sym (goes_others past e t i other)

  -- the key that stands at an index: it was removed, or is as it was
  here_gone : (past : List ℕ) (e : ℕ) → goes past s.0 e ≡ true → (swept past).key s.0 e ≡ gone (st.key s.0 e)
  here_gone past e is = cond-true (goes past s.0 e) (gone (st.key s.0 e)) (st.key s.0 e) is

  here_stays : (past : List ℕ) (e : ℕ) → goes past s.0 e ≡ false → (swept past).key s.0 e ≡ st.key s.0 e
  here_stays past e is = cond-false (goes past s.0 e) (gone (st.key s.0 e)) (st.key s.0 e) is

  gone_cancelled : (past : List ℕ) (e : ℕ) → goes past s.0 e ≡ true → test e ≡ true
  gone_cancelled past e is =
      (and_parts (has_index e past) (test e) (and_parts (s.0 == s.0) (has_index e past && test e) is).1).1

  not_again : (k : Stage) → in_cancelled_set (gone k) ≡ false
  not_again k = and_left (k.published && false) k.cancelled (and_right k.published false refl)

  -- a key that is removed in its turn, with what is done then
  removal : {A : Type 0} (past : List ℕ) (e : ℕ) (rest : Plan A) → goes past s.0 e ≡ false → test e ≡ true
      → perform me (remove_cancelled s e ((swept past).key s.0 e) >> rest) (swept past)
      ≡ perform me rest (swept (past ++ e ∷ []))
  removal past e rest stays cancelled =
      let now = swept past in
      let same = here_stays past e stays in
      perform_then_on me (remove_cancelled s e (now.key s.0 e)) (λ _. rest) now tt (swept (past ++ e ∷ []))
      (removal-performed now me s e (none_due e) (untaken e)
      ∙ (ap (λ k. record {
        answer = tt;
        state =
            record now {
              key = put_at now.key s.0 e (gone (now.key s.0 e));
              free =
                  put_at now.free s.0 e (has_next k || now.free s.0 e);
            };
      }) same
      ∙ ap (λ x. record { answer = tt; state = x })
      (removed_more st has_next (goes past) (goes (past ++ e ∷ [])) s.0 e (goes_here past e cancelled)
      (goes_others past e))))

  -- ---- a sweep that only removes

  swept_turn : (past : List ℕ) (e : ℕ) → perform me (remove_if_cancelled s e) (swept past) ≡ record {
    answer = tt;
    state = swept (past ++ e ∷ []);
  }
  swept_turn past e = by_gone (goes past s.0 e) refl
    where
      stage : Stage
      stage = (swept past).key s.0 e

      plan : Bool → Plan (Unit {0})
      plan b = when b (remove_cancelled s e stage)

      kept : in_cancelled_set stage ≡ false → ((t i : ℕ) → goes past t i ≡ goes (past ++ e ∷ []) t i)
          → perform me (plan (in_cancelled_set stage)) (swept past) ≡ record {
            answer = tt;
            state = swept (past ++ e ∷ []);
          }
      kept out same =
          ap (λ b. perform me (plan b) (swept past)) out
          ∙ ap (λ x. record { answer = tt; state = x })
          (removed_same st has_next (goes past) (goes (past ++ e ∷ [])) same)

      by_test : goes past s.0 e ≡ false → (c : Bool) → test e ≡ c
          → perform me (plan (in_cancelled_set stage)) (swept past) ≡ record {
            answer = tt;
            state = swept (past ++ e ∷ []);
          }
      by_test stays true cancelled =
          ap (λ b. perform me (plan b) (swept past)) (ap in_cancelled_set (here_stays past e stays) ∙ cancelled)
          ∙ removal past e (Plan.reply tt) stays cancelled
      by_test stays false out = kept (ap in_cancelled_set (here_stays past e stays) ∙ out) (goes_same past e out)

      by_gone : (b : Bool) → goes past s.0 e ≡ b → perform me (plan (in_cancelled_set stage)) (swept past) ≡ record {
        answer = tt;
        state = swept (past ++ e ∷ []);
      }
      by_gone true is =
          kept (ap in_cancelled_set (here_gone past e is) ∙ not_again (st.key s.0 e)) (goes_again past e is)
      by_gone false is = by_test is (test e) refl

  -- an index that isn't among these is as free as it was
  frees_others : (past : List ℕ) (i : ℕ) → has_index i past ≡ false → (swept past).free s.0 i ≡ st.free s.0 i
  frees_others past i out =
      ap (λ b. (((s.0 == s.0) && (b && test i)) && has_next (st.key s.0 i)) || st.free s.0 i) out
      ∙ none_goes (s.0 == s.0) (has_next (st.key s.0 i)) (st.free s.0 i)
    where
      none_goes : (x y z : Bool) → (((x && false) && y) || z) ≡ z
      none_goes true y z = refl
      none_goes false y z = refl

  pub sweep-performed : (bound : ℕ) → perform me (over_not_free s bound (λ i _. remove_if_cancelled s i) tt) st
      ≡ record { answer = tt; state = swept (listed st s.0 bound) }
  sweep-performed bound =
      ap (perform me (over_not_free s bound (λ i _. remove_if_cancelled s i) tt)) swept_none
      ∙ over_not_free-performed st me s bound (λ i _. remove_if_cancelled s i) (λ _. tt) swept swept_turn frees_others

  -- ---- a sweep that looks at the valid keys

  abbrev valid : ℕ → Bool
  valid i = is_valid (st.key s.0 i)

  abbrev entry : ℕ → LookedKey
  entry i = looked_key i (st.key s.0 i) (st.interest s.0 i)

  abbrev pub looked_over : List ℕ → List LookedKey
  looked_over past = map entry (filter valid past)

  looked-push : (past : List ℕ) (e : ℕ) → valid e ≡ true
      → looked_over past ++ entry e ∷ [] ≡ looked_over (past ++ e ∷ [])
  looked-push past e is =
      sym (map-append entry (filter valid past) (e ∷ []))
      ∙ ap (map entry) (ap (λ b. filter valid past ++ cond b (e ∷ []) []) (sym is)
      ∙ sym (filter-append valid past (e ∷ [])))

  looked-same : (past : List ℕ) (e : ℕ) → valid e ≡ false → looked_over past ≡ looked_over (past ++ e ∷ [])
  looked-same past e is =
      ap (map entry) (sym (append-nil (filter valid past))
      ∙ (ap (λ b. filter valid past ++ cond b (e ∷ []) []) (sym is) ∙ sym (filter-append valid past (e ∷ []))))

  not_valid_gone : (k : Stage) → is_valid (gone k) ≡ false
  not_valid_gone k = and_left (k.published && false) (not k.cancelled) (and_right k.published false refl)

  not_both : (p r c : Bool) → ((p && r) && c) ≡ true → ((p && r) && not c) ≡ false
  not_both true true true e = refl
  not_both true true false e = absurd (both_ways false refl e)
  not_both true false c e = absurd (both_ways false refl e)
  not_both false r c e = absurd (both_ways false refl e)

  look_turn : (past : List ℕ) (e : ℕ) → perform me (look_over s e (looked_over past)) (swept past) ≡ record {
    answer = looked_over (past ++ e ∷ []);
    state = swept (past ++ e ∷ []);
  }
  look_turn past e = by_gone (goes past s.0 e) refl
    where
      stage : Stage
      stage = (swept past).key s.0 e

      found : List LookedKey
      found = looked_over past

      after : Performed (List LookedKey)
      after = record { answer = looked_over (past ++ e ∷ []); state = swept (past ++ e ∷ []) }

      others : Plan (List LookedKey)
      others = if is_valid stage then look_valid s e stage found else Plan.reply found

      dropped : Plan (List LookedKey)
      dropped = remove_cancelled s e stage >> Plan.reply found

      -- a key that is neither cancelled nor valid isn't looked at
      passed : in_cancelled_set stage ≡ false → is_valid stage ≡ false
          → ((t i : ℕ) → goes past t i ≡ goes (past ++ e ∷ []) t i) → valid e ≡ false
          → perform me (look_on s e found stage) (swept past) ≡ after
      passed out invalid same invalid_e =
          perform_else me (in_cancelled_set stage) dropped others (swept past) out
          ∙ (perform_else me (is_valid stage) (look_valid s e stage found) (Plan.reply found) (swept past) invalid
          ∙ (λ j. record {
            answer = looked-same past e invalid_e j;
            state =
                removed_same st has_next (goes past) (goes (past ++ e ∷ [])) same j;
          }))

      by_valid : goes past s.0 e ≡ false → test e ≡ false → (b : Bool) → valid e ≡ b
          → perform me (look_on s e found stage) (swept past) ≡ after
      by_valid stays out true v =
          let same = here_stays past e stays in
          perform_else me (in_cancelled_set stage) dropped others (swept past) (ap in_cancelled_set same ∙ out)
          ∙ (perform_then me (is_valid stage) (look_valid s e stage found) (Plan.reply found) (swept past)
          (ap is_valid same ∙ v)
          ∙ (ap (λ k. record {
            answer = found ++ looked_key e k (st.interest s.0 e) ∷ [];
            state = swept past;
          }) same
          ∙ (λ j. record {
            answer = looked-push past e v j;
            state =
                removed_same st has_next (goes past) (goes (past ++ e ∷ [])) (goes_same past e out) j;
          })))
      by_valid stays out false v =
          let same = here_stays past e stays in
          passed (ap in_cancelled_set same ∙ out) (ap is_valid same ∙ v) (goes_same past e out) v

      by_test : goes past s.0 e ≡ false → (b : Bool) → test e ≡ b
          → perform me (look_on s e found stage) (swept past) ≡ after
      by_test stays true cancelled =
          let k = st.key s.0 e in
          perform_then me (in_cancelled_set stage) dropped others (swept past)
          (ap in_cancelled_set (here_stays past e stays) ∙ cancelled)
          ∙ (removal past e (Plan.reply found) stays cancelled
          ∙ ap (λ f. record { answer = f; state = swept (past ++ e ∷ []) })
          (looked-same past e (not_both k.published (not k.removed) k.cancelled cancelled)))
      by_test stays false out = by_valid stays out (valid e) refl

      by_gone : (b : Bool) → goes past s.0 e ≡ b → perform me (look_on s e found stage) (swept past) ≡ after
      by_gone true is =
          let k = st.key s.0 e in
          let same = here_gone past e is in
          passed (ap in_cancelled_set same ∙ not_again k) (ap is_valid same ∙ not_valid_gone k)
          (goes_again past e is)
          (not_both k.published (not k.removed) k.cancelled (gone_cancelled past e is))
      by_gone false is = by_test is (test e) refl

  pub look-performed : (bound : ℕ) → perform me (over_not_free s bound (look_over s) []) st ≡ record {
    answer = looked_over (listed st s.0 bound);
    state = swept (listed st s.0 bound);
  }
  look-performed bound =
      ap (perform me (over_not_free s bound (look_over s) [])) swept_none
      ∙ over_not_free-performed st me s bound (look_over s) looked_over swept look_turn frees_others

  -- ---- a sweep by the list, which takes on what it finds

  pub list_turn : ((i : ℕ) → is_pinned st s.0 i ≡ false) → (known : List LookedKey) (past : List ℕ) (e : ℕ)
      → perform me (list_over s e (relisted (st.key s.0) (st.interest s.0) known past)) (swept past) ≡ record {
        answer = relisted (st.key s.0) (st.interest s.0) known (past ++ e ∷ []);
        state = swept (past ++ e ∷ []);
      }
  list_turn unpinned known past e =
      ap (λ (b : Bool). perform me (when b (touch s e) >> list_on s e found stage) (swept past)) (unpinned e)
      ∙ (by_gone (goes past s.0 e) refl
      ∙ ap (λ xs. record { answer = xs; state = swept (past ++ e ∷ []) }) (relisted-push (st.key s.0) (st.interest s.0) known past e))
    where
      stage : Stage
      stage = (swept past).key s.0 e

      found : List LookedKey
      found = relisted (st.key s.0) (st.interest s.0) known past

      without : List LookedKey
      without = without_index e found

      after : Performed (List LookedKey)
      after = record { answer = relisted_at (st.key s.0) (st.interest s.0) e found; state = swept (past ++ e ∷ []) }

      others : Plan (List LookedKey)
      others = if is_valid stage then list_valid s e stage found else Plan.reply without

      dropped : Plan (List LookedKey)
      dropped = remove_cancelled s e stage >> Plan.reply without

      gives : (xs : List LookedKey) → xs ≡ relisted_at (st.key s.0) (st.interest s.0) e found
          → ◌≡◌ {A = Performed (List LookedKey)} (record { answer = xs; state = swept (past ++ e ∷ []) }) after
      gives xs is = ap (λ ys. record { answer = ys; state = swept (past ++ e ∷ []) }) is

      -- a key that is neither cancelled nor valid
      passed : in_cancelled_set stage ≡ false → is_valid stage ≡ false
          → ((t i : ℕ) → goes past t i ≡ goes (past ++ e ∷ []) t i) → without ≡ relisted_at (st.key s.0) (st.interest s.0) e found
          → perform me (list_on s e found stage) (swept past) ≡ after
      passed out invalid same is =
          perform_else me (in_cancelled_set stage) dropped others (swept past) out
          ∙ (perform_else me (is_valid stage) (list_valid s e stage found) (Plan.reply without) (swept past) invalid
          ∙ (ap (λ x. record { answer = without; state = x })
          (removed_same st has_next (goes past) (goes (past ++ e ∷ [])) same)
          ∙ gives without is))

      by_valid : goes past s.0 e ≡ false → test e ≡ false → (b : Bool) → valid e ≡ b
          → perform me (list_on s e found stage) (swept past) ≡ after
      by_valid stays out true v =
          let same = here_stays past e stays in
          perform_else me (in_cancelled_set stage) dropped others (swept past) (ap in_cancelled_set same ∙ out)
          ∙ (perform_then me (is_valid stage) (list_valid s e stage found) (Plan.reply without) (swept past)
          (ap is_valid same ∙ v)
          ∙ (ap (λ k. record {
            answer = enlisted (looked_key e k (st.interest s.0 e)) without;
            state = swept past;
          }) same
          ∙ (ap (λ x. record { answer = enlisted (entry e) without; state = x })
          (removed_same st has_next (goes past) (goes (past ++ e ∷ [])) (goes_same past e out))
          ∙ gives (enlisted (entry e) without)
          (λ j. cond (sym out j) without (cond (sym v j) (enlisted (entry e) without) without)))))
      by_valid stays out false v =
          let same = here_stays past e stays in
          passed (ap in_cancelled_set same ∙ out) (ap is_valid same ∙ v) (goes_same past e out)
          (λ j. cond (sym out j) without (cond (sym v j) (enlisted (entry e) without) without))

      by_test : goes past s.0 e ≡ false → (b : Bool) → test e ≡ b
          → perform me (list_on s e found stage) (swept past) ≡ after
      by_test stays true cancelled =
          perform_then me (in_cancelled_set stage) dropped others (swept past)
          (ap in_cancelled_set (here_stays past e stays) ∙ cancelled)
          ∙ (removal past e (Plan.reply without) stays cancelled
          ∙ gives without
          (λ j. cond (sym cancelled j) without (cond (valid e) (enlisted (entry e) without) without)))
      by_test stays false out = by_valid stays out (valid e) refl

      by_gone : (b : Bool) → goes past s.0 e ≡ b → perform me (list_on s e found stage) (swept past) ≡ after
      by_gone true is =
          let k = st.key s.0 e in
          let same = here_gone past e is in
          let cancelled = gone_cancelled past e is in
          passed (ap in_cancelled_set same ∙ not_again k) (ap is_valid same ∙ not_valid_gone k)
          (goes_again past e is)
          (λ j. cond (sym cancelled j) without (cond (valid e) (enlisted (entry e) without) without))
      by_gone false is = by_test is (test e) refl

  -- a sweep over the indexes that are touched
  pub touched-performed : (w : ℕ)
      → perform me (sweep_to w 0 (over_touched s (λ i _. remove_if_cancelled s i)) tt) st
      ≡ record { answer = tt; state = swept (touched_in st s w) }
  touched-performed w =
      ap (perform me (sweep_to w 0 (over_touched s (λ i _. remove_if_cancelled s i)) tt)) swept_none
      ∙ over_touched-performed st me s (λ i _. remove_if_cancelled s i) swept swept_turn (λ _. refl) w

  -- ---- where the sweep went over each key of the cancelled set, that goes

  module _ (over : List ℕ) (all : (i : ℕ) → test i ≡ true → has_index i over ≡ true) where
    cancelled-over : (i : ℕ) → (has_index i over && test i) ≡ in_cancelled_set (settled (st.key s.0 i))
    cancelled-over i = by_cancelled (test i) refl ∙ sym (settled-cancelled (st.key s.0 i))
      where
        by_cancelled : (b : Bool) → test i ≡ b → (has_index i over && b) ≡ b
        by_cancelled true is = ap (λ b. b && true) (all i is)
        by_cancelled false is = and_right (has_index i over) false refl

    pub swept-over-is : settled_state (swept over) ≡ without_cancelled Now (settled_state st) s.0
    swept-over-is =
        settled-removed st has_next s.0 (λ i. has_index i over && test i) (λ _. refl)
        ∙ ap (λ (goes : ℕ → Bool). without_keys_where (settled_state st) s.0 goes has_next)
        (λ j i. cancelled-over i j)

  -- below the high-water mark, where what is published is below it and what is free is removed

  module _ (published : (i : ℕ) → (st.key s.0 i).published ≡ nat_lt i (st.keys_high s.0))
      (free : (i : ℕ) → st.free s.0 i ≡ true → (st.key s.0 i).removed ≡ true) where
    abbrev pub gone_over : List ℕ
    gone_over = listed st s.0 (st.keys_high s.0)

    low_of : (i : ℕ) → test i ≡ true → i < st.keys_high s.0
    low_of i is =
        let k = st.key s.0 i in
        ltb-true i (st.keys_high s.0)
        (sym (published i)
        ∙ (and_parts k.published (not k.removed) (and_parts (in_key_set k) k.cancelled is).0).0)

    pub listed-there : (i : ℕ) → test i ≡ true → has_index i gone_over ≡ true
    listed-there i is =
        let k = st.key s.0 i in
        let parts = and_parts k.published (not k.removed) (and_parts (in_key_set k) k.cancelled is).0 in
        let not_free : st.free s.0 i ≡ false =
        false_from_ne_true (st.free s.0 i) (λ h. both_ways k.removed (not-true k.removed parts.1) (free i h)) in
        index-there (λ n. not (st.free s.0 n)) (st.keys_high s.0) i (low_of i is) (ap not not_free)

    pub swept-is : settled_state (swept gone_over) ≡ without_cancelled Now (settled_state st) s.0
    swept-is = swept-over-is gone_over listed-there

    -- where each key of the cancelled set is touched
    pub touched-there : ((i : ℕ) → test i ≡ true → st.touched s.0 i ≡ true) → (i : ℕ) → test i ≡ true
        → has_index i (touched_in st s (words_below (st.keys_high s.0))) ≡ true
    touched-there touched i is =
        let covers : st.keys_high s.0 ≤ 64 * ((st.keys_high s.0 + 63) / 64) = omega arith in
        let low = low_of i is in
        ap (has_index i) (touched_in-is st s (words_below (st.keys_high s.0)))
        ∙ index-there (λ n. st.touched s.0 n) (64 * words_below (st.keys_high s.0)) i (omega arith) (touched i is)
