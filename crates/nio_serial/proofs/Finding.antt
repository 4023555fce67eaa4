-- A channel's key, and searches and sweeps over the selectors, performed.
use Rattle.std.proofs.Common.{◌≡◌, ℕ, zero, suc, ◌+◌, ◌-◌, Bool, true, false, cond, ◌&&◌, ◌||◌, if◌then◌else◌, Option}
use Rattle.std.proofs.Common.{Some, None, option_map, is_some, find, List, [], ◌∷◌, ◌++◌, refl, ap, sym, ◌∙◌, add-one}
use Rattle.std.proofs.Common.{arith}
use Rattle.std.proofs.Math.Bool.{or-false, and-true, and-false}
use Rattle.std.proofs.lemmas.List.Folds.{list_any-append}
use Rattle.std.specs.List.{list_any}
use Rattle.nio_base.specs.declared.limits.Limits.{Limits}
use Rattle.nio_base.specs.declared.numbers.CallerNo.{CallerNo}
use Rattle.nio_base.specs.declared.numbers.ChanId.{ChanId}
use Rattle.nio_base.specs.declared.numbers.ChanNo.{ChanNo}
use Rattle.nio_base.specs.declared.numbers.KeyId.{KeyId}
use Rattle.nio_base.specs.declared.numbers.KeyNo.{KeyNo}
use Rattle.nio_base.specs.declared.numbers.SelNo.{SelNo}
use Rattle.nio_history.specs.Sets.{is_in_key_set, fits_channel}
use Rattle.nio_history.specs.State.{State}
use Rattle.nio_plain.specs.Seq.Modes.{if_in_key_set, key_of, has_key, is_registered, key_of_channel}
use Rattle.nio_plain.specs.Seq.Names.{below}
use Rattle.nio_steps.proofs.PerformLaws.{perform_then_on, perform_sweep, perform_seek, indexes, indexes-push, found_at}
use Rattle.nio_steps.specs.ChannelCalls.{key_for_plan, enrolled_in_set, enrolled_key, has_number, registered_or}
use Rattle.nio_steps.specs.ChannelCalls.{is_registered_plan, first_key, key_of_channel as channel_key}
use Rattle.nio_steps.specs.Names.{selector, key}
use Rattle.nio_steps.specs.Perform.{Performed, perform}
use Rattle.nio_steps.specs.Plan.{Plan}
use Rattle.nio_steps.specs.Sweeps.{sweep_to}

-- ---- numbers in rising order

pub indexes-below : (n : ℕ) → indexes 0 n ≡ below n
unfolding indexes
indexes-below zero = refl
indexes-below (suc n) =
    let same : 0 + n ≡ n = omega arith in
    indexes-push 0 n ∙ (λ j. indexes-below n j ++ same j ∷ [])

-- what a search from 0 finds is what a search of the numbers below the limit finds
pub find-below : (p : ℕ → Bool) (n : ℕ) → find p (indexes 0 (n - 0)) ≡ find p (below n)
find-below p n =
    let same : n - 0 ≡ n = omega arith in
    ap (λ k. find p (indexes 0 k)) same ∙ ap (find p) (indexes-below n)

pub found-any : (p : ℕ → Bool) (xs : List ℕ) → is_some (find p xs) ≡ list_any p xs
found-any p [] = refl
found-any p (x ∷ xs) = by_test (p x) (found-any p xs)
  where
    by_test : (b : Bool) → is_some (find p xs) ≡ list_any p xs
        → is_some (cond b (Some x) (find p xs)) ≡ (b || list_any p xs)
    by_test true rest = refl
    by_test false rest = rest

pub any-push : (p : ℕ → Bool) (n : ℕ) → list_any p (below (n + 1)) ≡ (list_any p (below n) || p n)
any-push p n =
    ap (λ k. list_any p (below k)) (add-one n)
    ∙ (list_any-append p (below n) (n ∷ []) ∙ ap (λ b. list_any p (below n) || b) (or-false (p n)))

-- ---- a channel's key

-- the look at the enrolled key, and where it is in the key set
enrolled_performed : (me : CallerNo) (s : SelNo) (enrolled : Option KeyId) (st : State)
    → perform me (enrolled_in_set s enrolled) st ≡ record {
      answer = option_map (key s) (if_in_key_set st s.0 enrolled);
      state = st;
    }
enrolled_performed me s None st = refl
enrolled_performed me s (Some k) st = by_set (is_in_key_set (st.key s.0 k.index) k.serial)
  where
    by_set : (b : Bool)
        → ◌≡◌ {A = Performed (Option KeyNo)} (record { answer = cond b (Some (key s k)) None; state = st })
        (record { answer = option_map (key s) (cond b (Some k) None); state = st })
    by_set true = refl
    by_set false = refl

pub enrolled_key-performed : (me : CallerNo) (c : ChanNo) (s : SelNo) (st : State)
    → perform me (enrolled_key c s) st ≡ record { answer = option_map (key s) (key_of st c.0 s.0); state = st }
enrolled_key-performed me c s st = enrolled_performed me s (st.enrolled c.0 s.0) st

-- the key of the number is the channel's where the number has this channel still
pub key_for-performed : (me : CallerNo) (c : ChanId) (s : SelNo) (st : State)
    → perform me (key_for_plan c s) st ≡ record { answer = option_map (key s) (key_of_channel st c s.0); state = st }
unfolding key_for_plan
key_for-performed me c s st =
    perform_then_on me (enrolled_key c.number s) (channel_key c) st (option_map (key s) (key_of st c.number.0 s.0)) st
    (enrolled_key-performed me c.number s st)
    ∙ by_key (fits_channel (st.chan c.number.0) c.serial) refl (key_of st c.number.0 s.0)
  where
    by_key : (b : Bool) → fits_channel (st.chan c.number.0) c.serial ≡ b → (o : Option KeyId)
        → perform me (channel_key c (option_map (key s) o)) st
        ≡ record { answer = option_map (key s) (cond (fits_channel (st.chan c.number.0) c.serial) o None); state = st }
    by_key b is None =
        ap (λ (a : Option KeyNo). record { answer = a; state = st })
        (none_of b ∙ ap (λ x. option_map (key s) (cond x None None)) (sym is))
      where
        none_of : (x : Bool) → ◌≡◌ {A = Option KeyNo} None (option_map (key s) (cond x None None))
        none_of true = refl
        none_of false = refl
    by_key true is (Some k) =
        ap (λ x. record { answer = cond x (Some (key s k)) None; state = st }) is
        ∙ ap (λ x. record { answer = option_map (key s) (cond x (Some k) None); state = st }) (sym is)
    by_key false is (Some k) =
        ap (λ x. record { answer = cond x (Some (key s k)) None; state = st }) is
        ∙ ap (λ x. record { answer = option_map (key s) (cond x (Some k) None); state = st }) (sym is)

mapped_some : {A B : Type 0} (f : A → B) (o : Option A) → is_some (option_map f o) ≡ is_some o
mapped_some f None = refl
mapped_some f (Some x) = refl

-- the number's channel has a key in the selector
abbrev pub has_key_in : State → ℕ → ℕ → Bool
has_key_in st c s = is_some (key_of st c s)

-- the looks at the keys of the number, in one selector after another
swept-performed : (l : Limits) (me : CallerNo) (c : ChanNo) (st : State)
    → perform me (sweep_to l.selectors 0 (registered_or c) false) st ≡ record { answer = has_key l st c.0; state = st }
swept-performed l me c st =
    perform_sweep me l.selectors 0 (registered_or c) (λ n. list_any (has_key_in st c.0) (below n)) (λ _. st)
    (omega arith)
    (λ n _ _.
    let before = list_any (has_key_in st c.0) (below n) in
    perform_then_on me (enrolled_key c (selector n)) (λ here. Plan.reply (before || is_some here)) st _ st
    (enrolled_key-performed me c (selector n) st)
    ∙ ap (λ b. record { answer = b; state = st })
    (ap (λ b. before || b) (mapped_some (key (selector n)) (key_of st c.0 n)) ∙ sym (any-push (has_key_in st c.0) n)))

pub registered-performed : (l : Limits) (me : CallerNo) (c : ChanId) (st : State)
    → perform me (is_registered_plan l c) st ≡ record { answer = is_registered l st c; state = st }
unfolding is_registered_plan
registered-performed l me c st =
    perform_then_on me (sweep_to l.selectors 0 (registered_or c.number) false)
    (λ registered. if registered then has_number c else Plan.reply false) st (has_key l st c.number.0) st
    (swept-performed l me c.number st)
    ∙ by_key (has_key l st c.number.0)
  where
    present : Bool
    present = fits_channel (st.chan c.number.0) c.serial

    by_key : (b : Bool) → perform me (if b then has_number c else Plan.reply false) st
        ≡ record { answer = present && b; state = st }
    by_key true = ap (λ b. record { answer = b; state = st }) (sym (and-true present))
    by_key false = ap (λ b. record { answer = b; state = st }) (sym (and-false present))

-- the key that is found, or any where there is none
key_or : SelNo → Option KeyId → KeyNo
key_or s None = record { sel = s; index = 0; serial = 0 }
key_or s (Some k) = key s k

none_mapped : (s : SelNo) (o : Option KeyId) → is_some o ≡ false → option_map (key s) o ≡ None
none_mapped s None e = refl
none_mapped s (Some k) e = absurd cc

some_mapped : (s : SelNo) (o : Option KeyId) → is_some o ≡ true → option_map (key s) o ≡ Some (key_or s o)
unfolding key_or
some_mapped s None e = absurd cc
some_mapped s (Some k) e = refl

-- the search for the first key of the number's channel leaves the state, and finds one exactly where there is one
pub record FindsKey (l : Limits) (me : CallerNo) (c : ChanNo) (st : State) : Type 0 where
  pub found : Option KeyNo
  pub performed : perform me (first_key l c) st ≡ record { answer = found; state = st }
  pub where_registered : is_some found ≡ has_key l st c.0

pub first_key-performed : (l : Limits) (me : CallerNo) (c : ChanNo) (st : State) → FindsKey l me c st
first_key-performed l me c st =
    let p = has_key_in st c.0 in
    let x : ℕ → KeyNo = λ n. key_or (selector n) (key_of st c.0 n) in
    let o = find p (indexes 0 (l.selectors - 0)) in
    record {
      found = option_map x o;
      performed =
          perform_seek me l.selectors 0 (λ n. enrolled_key c (selector n)) p x st (λ _. st) (omega arith)
          (λ n _ _ not_found. enrolled_key-performed me c (selector n) st
          ∙ ap (λ a. record { answer = a; state = st }) (none_mapped (selector n) (key_of st c.0 n) not_found))
          (λ n _ _ found. enrolled_key-performed me c (selector n) st
          ∙ ap (λ a. record { answer = a; state = st }) (some_mapped (selector n) (key_of st c.0 n) found))
          ∙ found_same x o;
      where_registered = mapped_some x o ∙ (ap is_some (find-below p l.selectors) ∙ found-any p (below l.selectors));
    }
  where
    found_same : (x : ℕ → KeyNo) (o : Option ℕ)
        → found_at st x (λ _. st) o ≡ record { answer = option_map x o; state = st }
    found_same x None = refl
    found_same x (Some n) = refl
