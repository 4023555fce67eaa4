-- What holds after keys of a selector were removed: at a selection's beginning and end, and where a
-- closing ends.
use Rattle.std.proofs.Common.{◌≡◌, ℕ, zero, suc, ◌==◌, ◌<◌, ◌≤◌, Bool, true, false, cond, ◌&&◌, ◌||◌, ◌⊎◌, inl, inr}
use Rattle.std.proofs.Common.{⊎_elim, Option, Some, None, is_some, List, [], ◌∷◌, map, filter, length, get_or, bit_and}
use Rattle.std.proofs.Common.{bit_or, refl, sym, ap, ◌∙◌, subst, eq-eqb, arith}
use Rattle.std.proofs.lemmas.Bool.{and_parts, and_from, or_right, both_ways, false_from_ne_true}
use Rattle.std.proofs.lemmas.List.Elements.{All-tail}
use Rattle.std.specs.List.{All}
use lib.Bits.{and_zero_r}
use Rattle.nio_base.specs.declared.limits.Limits.{Limits}
use Rattle.nio_base.specs.declared.numbers.CallerNo.{CallerNo}
use Rattle.nio_base.specs.declared.numbers.KeyId.{KeyId}
use Rattle.nio_history.proofs.Put.{put_keeps}
use Rattle.nio_history.specs.Sets.{fits, in_key_set, in_cancelled_set, is_in_key_set}
use Rattle.nio_history.specs.State.{State, put, with_entered}
use Rattle.nio_history.specs.declared.found.GateWord.{GateWord}
use Rattle.nio_history.specs.declared.found.Mark.{Mark}
use Rattle.nio_history.specs.declared.found.Mode.{Mode}
use Rattle.nio_history.specs.declared.found.Stage.{Stage}
use Rattle.nio_language.specs.declared.reply.Reply.{Reply}
use Rattle.nio_plain.proofs.Found.{below_all, below_contains}
use Rattle.nio_plain.proofs.Lists.{same-key, same-is, looked-interested}
use Rattle.nio_plain.proofs.ReachedSound.{SelectedSound, ClosingSound, LookSound, BoundSound, FreeSound, Sound, Keeps}
use Rattle.nio_plain.proofs.ReachedSound.{Aged, aged-same, aged-removed, not_in_set_removed, some_same, here_or_there}
use Rattle.nio_plain.proofs.ReachedSound.{keys-aged, closing-aged, bound-aged, stays-aged, look-kept}
use Rattle.nio_plain.specs.ScriptState.{ScriptState, Selection, with_shared, with_selection}
use Rattle.nio_plain.specs.Seq.Replies.{replied}
use Rattle.nio_plain.specs.Seq.Closing.{without_keys}
use Rattle.nio_plain.specs.Seq.Names.{below, key_at, is_same_key}
use Rattle.nio_plain.specs.Seq.Removing.{removed_key, unselected, comes_back}
use Rattle.nio_plain.specs.Seq.Selections.{all_told, goes_at_end, is_looked, looked_keys, marked, selection_begun}
use Rattle.nio_plain.specs.Seq.Selections.{selection_ended, told_bits, with_marks}
use Rattle.nio_plain.specs.declared.rules.Rules.{Rules}
use Rattle.nio_plain.specs.declared.rules.Rules.TheVariants.{First}

-- keys, marks and free indexes after the keys that the test says were removed
abbrev pub removed_where : (ℕ → ℕ → Bool) → (ℕ → ℕ → Stage) → ℕ → ℕ → Stage
removed_where goes key = λ t i. cond (goes t i) (removed_key (key t i)) (key t i)

abbrev pub unselected_where : (ℕ → ℕ → Bool) → (ℕ → ℕ → Mark) → ℕ → ℕ → Mark
unselected_where goes mark = λ t i. cond (goes t i) (unselected (mark t i)) (mark t i)

abbrev pub freed_where : (ℕ → ℕ → Bool) → (Stage → Bool) → (ℕ → ℕ → Stage) → (ℕ → ℕ → Bool) → ℕ → ℕ → Bool
freed_where goes frees key free = λ t i. (goes t i && frees (key t i)) || free t i

aged-where : (b : Bool) (k : Stage) → Aged k (cond b (removed_key k) k)
aged-where true k = aged-removed k
aged-where false k = aged-same k

selected-where : (b : Bool) (k : Stage) (m : Mark) → (m.selected ≡ true → in_key_set k ≡ true)
    → (cond b (unselected m) m).selected ≡ true → in_key_set (cond b (removed_key k) k) ≡ true
selected-where true k m old h = absurd (both_ways false refl h)
selected-where false k m old h = old h

removed-aged : (goes : ℕ → ℕ → Bool) (key : ℕ → ℕ → Stage) (s i : ℕ) → Aged (key s i) (removed_where goes key s i)
removed-aged goes key s i = aged-where (goes s i) (key s i)

selected-removed : (goes : ℕ → ℕ → Bool) (key : ℕ → ℕ → Stage) (mark : ℕ → ℕ → Mark) → SelectedSound key mark
    → SelectedSound (removed_where goes key) (unselected_where goes mark)
selected-removed goes key mark sound s i h = selected-where (goes s i) (key s i) (mark s i) (sound s i) h

-- a free index has no key after a removal either: it was free, or its key is removed
free-where : (b f old : Bool) (k : Stage) → (old ≡ true → in_key_set k ≡ false) → ((b && f) || old) ≡ true
    → in_key_set (cond b (removed_key k) k) ≡ false
free-where true f old k out h = false_from_ne_true (in_key_set (removed_key k)) (not_in_set_removed k)
free-where false f old k out h = out h

none-where : (b f old : Bool) → f ≡ false → old ≡ false → ((b && f) || old) ≡ false
none-where true f old e h = ap (λ x. x || old) e ∙ h
none-where false f old e h = h

free-removed : (rules : Rules) (goes : ℕ → ℕ → Bool) (frees : Stage → Bool) (key : ℕ → ℕ → Stage) (free : ℕ → ℕ → Bool)
    → (rules ≡ First → (k : Stage) → frees k ≡ false) → FreeSound rules free key
    → FreeSound rules (freed_where goes frees key free) (removed_where goes key)
free-removed rules goes frees key free none sound = record {
  out = λ s i h. free-where (goes s i) (frees (key s i)) (free s i) (key s i) (sound.out s i) h;
  none = λ e s i. none-where (goes s i) (frees (key s i)) (free s i) (none e (key s i)) (sound.none e s i);
}

-- by the first rules no index comes back
none_comes_back : (rules : Rules) → rules ≡ First → (k : Stage) → comes_back rules k ≡ false
none_comes_back rules e k = ap (λ r. comes_back r k) e

-- where the turn is free there is no selection
look-free : (selection : Option Selection) (turn : Option CallerNo) (key after : ℕ → Stage) → is_some turn ≡ false
    → LookSound selection turn key → LookSound selection turn after
look-free selection turn key after free sound = record {
  has_turn = sound.has_turn;
  in_set = λ x e k l. absurd (both_ways (is_some turn) free (sound.has_turn (ap is_some e)));
}

pub look-none : (turn : Option CallerNo) (key : ℕ → Stage) → LookSound None turn key
look-none turn key = record {
  has_turn = λ h. absurd (both_ways false refl h);
  in_set = λ x e k l. absurd (both_ways false refl (ap is_some e));
}

pub bound-none : (rules : Rules) (keys_high : ℕ) (key : ℕ → Stage) → BoundSound rules None keys_high key
bound-none rules keys_high key = record {
  within = λ x e. absurd (both_ways false refl (ap is_some e));
  below = λ x e k l. absurd (both_ways false refl (ap is_some e));
  all = λ f x e i l h. absurd (both_ways false refl (ap is_some e));
}

-- the keys of a selector of which none is removed
look-elsewhere : (goes : ℕ → ℕ → Bool) (key : ℕ → ℕ → Stage) (t : ℕ) → ((i : ℕ) → goes t i ≡ false)
    → (selection : Option Selection) (turn : Option CallerNo) → LookSound selection turn (key t)
    → LookSound selection turn (removed_where goes key t)
look-elsewhere goes key t stay selection turn sound =
    look-kept selection turn (key t) (removed_where goes key t)
    (λ i q h. ap (λ b. is_in_key_set (cond b (removed_key (key t i)) (key t i)) q) (stay i) ∙ h) sound

-- ---- a selection begins

abbrev looked_of : (ℕ → Bool) → (ℕ → ℕ) → (ℕ → ℕ) → List ℕ → List (KeyId × ℕ)
looked_of p serial f xs = map (λ k. (record { index = k; serial = serial k }, f k)) (filter p xs)

-- a looked key is one of the numbers, passes the test and has its serial
looked-in : (p : ℕ → Bool) (serial f : ℕ → ℕ) (B : ℕ → Type 0) (k : KeyId) (xs : List ℕ) → All B xs
    → is_looked (looked_of p serial f xs) k ≡ true → B k.index × (p k.index ≡ true) × (serial k.index ≡ k.serial)
looked-in p serial f B k [] all h = absurd (both_ways false refl h)
looked-in p serial f B k (x ∷ xs) all h = by_set (looked-in p serial f B k xs (All-tail B x xs all)) (p x) refl h
  where
    by_name : (is_looked (looked_of p serial f xs) k ≡ true
        → B k.index × (p k.index ≡ true) × (serial k.index ≡ k.serial)) → (b : Bool)
        → is_same_key (record { index = x; serial = serial x }) k ≡ b → p x ≡ true
        → (b || is_looked (looked_of p serial f xs) k) ≡ true
        → B k.index × (p k.index ≡ true) × (serial k.index ≡ k.serial)
    by_name rest true same t l =
        let is = same-is (record { index = x; serial = serial x }) k same in
        subst (λ (m : KeyId). B m.index × (p m.index ≡ true) × (serial m.index ≡ m.serial)) is
        (all 0 x (omega arith), t, refl)
    by_name rest false other t l = rest l

    by_set : (is_looked (looked_of p serial f xs) k ≡ true
        → B k.index × (p k.index ≡ true) × (serial k.index ≡ k.serial)) → (b : Bool) → p x ≡ b
        → is_looked
        (map (λ n. (record { index = n; serial = serial n }, f n)) (cond b (x ∷ filter p xs) (filter p xs))) k
        ≡ true → B k.index × (p k.index ≡ true) × (serial k.index ≡ k.serial)
    by_set rest true e l = by_name rest (is_same_key (record { index = x; serial = serial x }) k) refl e l
    by_set rest false e l = rest l

-- each of the numbers that passes the test is looked at
looked-has : (p : ℕ → Bool) (serial f : ℕ → ℕ) (i : ℕ) (xs : List ℕ) (n : ℕ) → n < length xs → get_or xs n i ≡ i
    → p i ≡ true → is_looked (looked_of p serial f xs) (record { index = i; serial = serial i }) ≡ true
looked-has p serial f i [] n l e h = absurd (omega arith)
looked-has p serial f i (x ∷ xs) zero l e h =
    let named : ◌≡◌ {A = KeyId} (record { index = x; serial = serial x }) (record { index = i; serial = serial i }) =
    λ j. record { index = e j; serial = serial (e j) } in
    let same = ap (λ m. is_same_key m (record { index = i; serial = serial i })) named
    ∙ same-key (record { index = i; serial = serial i }) in
    ap (λ b. is_looked
    (map (λ n. (record { index = n; serial = serial n }, f n)) (cond b (x ∷ filter p xs) (filter p xs)))
    (record { index = i; serial = serial i })) (ap p e ∙ h)
    ∙ ap (λ b. b || is_looked (looked_of p serial f xs) (record { index = i; serial = serial i })) same
looked-has p serial f i (x ∷ xs) (suc n) l e h = by_set (p x) (looked-has p serial f i xs n (omega arith) e h)
  where
    by_set : (b : Bool) → is_looked (looked_of p serial f xs) (record { index = i; serial = serial i }) ≡ true
        → is_looked (map (λ n. (record { index = n; serial = serial n }, f n)) (cond b (x ∷ filter p xs) (filter p xs)))
        (record { index = i; serial = serial i }) ≡ true
    by_set true rest =
        or_right (is_same_key (record { index = x; serial = serial x }) (record { index = i; serial = serial i }))
        (is_looked (looked_of p serial f xs) (record { index = i; serial = serial i })) rest
    by_set false rest = rest

-- the looked keys are in the key set
looked_keys-are : (st : State) (s : ℕ) (k : KeyId) → is_looked (looked_keys st s) k ≡ true
    → (k.index < st.keys_high s) × (in_key_set (st.key s k.index) ≡ true) × ((st.key s k.index).serial ≡ k.serial)
looked_keys-are st s k h =
    looked-in (λ i. in_key_set (st.key s i)) (λ i. (st.key s i).serial) (st.interest s) (λ i. i < st.keys_high s) k
    (below (st.keys_high s)) (below_all (st.keys_high s)) h

looked_keys-all : (st : State) (s i : ℕ) → i < st.keys_high s → in_key_set (st.key s i) ≡ true
    → is_looked (looked_keys st s) (key_at st s i) ≡ true
looked_keys-all st s i l h =
    let there = below_contains (st.keys_high s) i l in
    looked-has (λ n. in_key_set (st.key s n)) (λ n. (st.key s n).serial) (st.interest s) i
    (below (st.keys_high s)) there.0 there.1 there.2 h

look-begun : (selection : Selection) (me : CallerNo) (key : ℕ → Stage)
    → ((k : KeyId) → is_looked selection.looked k ≡ true → is_in_key_set (key k.index) k.serial ≡ true)
    → LookSound (Some selection) (Some me) key
look-begun selection me key looked = record {
  has_turn = λ _. refl;
  in_set = λ x e k l. looked k
      (subst (λ (y : Selection). is_looked y.looked k ≡ true) (sym (some_same selection x e)) l);
}

bound-begun : (rules : Rules) (st : State) (s : ℕ) (how : Mode)
    → BoundSound rules (Some (record { mode = how; bound = st.keys_high s; looked = looked_keys st s }))
    (st.keys_high s) (st.key s)
bound-begun rules st s how =
    let new : Selection = record { mode = how; bound = st.keys_high s; looked = looked_keys st s } in
    record {
      within = λ x e. subst (λ (y : Selection). y.bound ≤ st.keys_high s) (some_same new x e) (omega arith);
      below = λ x e k. subst (λ (y : Selection). is_looked y.looked k ≡ true → k.index < y.bound) (some_same new x e)
          (λ l. (looked_keys-are st s k l).0);
      all = λ f x e i. subst (λ (y : Selection). i < y.bound → in_key_set (st.key s i) ≡ true
          → is_looked y.looked (key_at st s i) ≡ true) (some_same new x e) (looked_keys-all st s i);
    }

pub keeps_begun : (rules : Rules) (l : Limits) (st : ScriptState) (me : CallerNo) (s : ℕ) (how : Mode)
    → Sound rules l st → Keeps rules l st (selection_begun rules st me s how)
keeps_begun rules l st me s how sound =
    let key = st.shared.key in
    let goes : ℕ → ℕ → Bool = λ t i. (t == s) && in_cancelled_set (key s i) in
    let left = (selection_begun rules st me s how).left.shared in
    let after = removed_where goes key in
    let aged = removed-aged goes key in
    let begun : Selection = record { mode = how; bound = st.shared.keys_high s; looked = looked_keys left s } in
    let keys = keys-aged key after aged l st.shared.selector st.shared.keys_high st.shared.enrolled st.shared.chan
    sound.keys in
    record {
      sound = record {
        keys = keys;
        free = free-removed rules goes (comes_back rules) key st.shared.free (none_comes_back rules) sound.free;
        selected = selected-removed goes key st.shared.mark sound.selected;
        closings = λ t. closing-aged key after aged t (st.shared.gate t).shut (st.shared.closer t) (st.shared.entered t)
            (sound.closings t);
        looks = here_or_there s
            (λ b t. LookSound (cond b (Some begun) (st.selection t)) (cond b (Some me) (st.shared.turn t)) (after t))
            (look-begun begun me (after s) (λ k looked.
            let are = looked_keys-are left s k looked in
            let claimed = keys.indexes.claimed s k.index (and_parts (after s k.index).published _ are.1).0 in
            and_from (fits (after s k.index) k.serial) (in_key_set (after s k.index))
            (and_from (after s k.index).claimed _ claimed (eq-eqb (after s k.index).serial k.serial are.2)) are.1))
            (λ t e. look-elsewhere goes key t (λ i. ap (λ b. b && in_cancelled_set (key s i)) e) (st.selection t)
            (st.shared.turn t) (sound.looks t));
        bounds = here_or_there s
            (λ b t. BoundSound rules (cond b (Some begun) (st.selection t)) (st.shared.keys_high t) (after t))
            (bound-begun rules left s how)
            (λ t e. bound-aged key after aged rules t (st.selection t) (st.shared.keys_high t) (sound.bounds t));
      };
      stays = stays-aged key after aged st.shared.entered st.shared.entered (λ t h. h);
    }

-- ---- a selection ends

marked-selected : (m : Mark) (bits : ℕ) → (marked m bits).selected ≡ true → (m.selected ≡ true) ⊎ (bits ≡ 0 → ⊥)
marked-selected m bits h = by_bits (bits == 0) refl h
  where
    by_bits : (b : Bool) → (bits == 0) ≡ b
        → (cond b m
        (cond m.selected (record m { ready = bit_or m.ready bits })
        (record { selected = true; ready = bits }))).selected ≡ true → (m.selected ≡ true) ⊎ (bits ≡ 0 → ⊥)
    by_bits true e now = inl now
    by_bits false e now = inr (λ z. both_ways (bits == 0) e (eq-eqb bits 0 z))

-- told bits are of a looked key, and so of one in the key set
told-looked : (looked pairs : List (KeyId × ℕ)) (k : KeyId) → (told_bits looked pairs k ≡ 0 → ⊥)
    → is_looked looked k ≡ true
told-looked looked pairs k some =
    looked-interested looked k (λ z. some (ap (bit_and (all_told pairs k)) z ∙ and_zero_r (all_told pairs k)))

marked-in_set : (st : State) (s : ℕ) (looked pairs : List (KeyId × ℕ))
    → ((k : KeyId) → is_looked looked k ≡ true → is_in_key_set (st.key s k.index) k.serial ≡ true) → (i : ℕ)
    → ((st.mark s i).selected ≡ true → in_key_set (st.key s i) ≡ true)
    → (marked (st.mark s i) (told_bits looked pairs (key_at st s i))).selected ≡ true
    → in_key_set (st.key s i) ≡ true
marked-in_set st s looked pairs in_set i old h =
    ⊎_elim
    old
    (λ some. (and_parts (fits (st.key s i) (st.key s i).serial) _
    (in_set (key_at st s i) (told-looked looked pairs (key_at st s i) some))).1)
    (marked-selected (st.mark s i) (told_bits looked pairs (key_at st s i)) h)

selected-marked : (st : State) (s : ℕ) (looked pairs : List (KeyId × ℕ))
    → ((k : KeyId) → is_looked looked k ≡ true → is_in_key_set (st.key s k.index) k.serial ≡ true)
    → SelectedSound st.key st.mark → SelectedSound st.key (with_marks st s looked pairs).mark
selected-marked st s looked pairs in_set sound t i =
    here_or_there s
    (λ b n. (cond b (marked (st.mark n i) (told_bits looked pairs (key_at st n i))) (st.mark n i)).selected ≡ true
    → in_key_set (st.key n i) ≡ true)
    (marked-in_set st s looked pairs in_set i (sound s i))
    (λ n e. sound n i)
    t

pub keeps_ended : (rules : Rules) (l : Limits) (st : ScriptState) (s : ℕ) (selection : Selection)
    (pairs : List (KeyId × ℕ)) → st.selection s ≡ Some selection → Sound rules l st → (r : Reply)
    → Keeps rules l st
    (record {
      reply = r;
      left =
          with_selection (with_shared st (selection_ended rules st.shared s selection pairs)) s None;
    })
keeps_ended rules l st s selection pairs own sound r =
    let key = st.shared.key in
    let marks = with_marks st.shared s selection.looked pairs in
    let gate : GateWord = record (st.shared.gate s) { woken = false } in
    let ends : ℕ → Bool = λ i. goes_at_end rules selection.looked (key_at st.shared s i)
    && in_cancelled_set (key s i) in
    let goes : ℕ → ℕ → Bool = λ t i. (t == s) && ends i in
    let after = removed_where goes key in
    let aged = removed-aged goes key in
    record {
      sound = record {
        keys = keys-aged key after aged l st.shared.selector st.shared.keys_high st.shared.enrolled st.shared.chan
            sound.keys;
        free = free-removed rules goes (comes_back rules) key st.shared.free (none_comes_back rules) sound.free;
        selected = selected-removed goes key marks.mark
            (selected-marked st.shared s selection.looked pairs ((sound.looks s).in_set selection own) sound.selected);
        closings =
            λ t. put_keeps
            (λ n (g : GateWord). ClosingSound g.shut (st.shared.closer n) (st.shared.entered n) (after n))
            st.shared.gate s gate (λ h. h) t
            (closing-aged key after aged t (st.shared.gate t).shut (st.shared.closer t) (st.shared.entered t)
            (sound.closings t));
        looks = here_or_there s
            (λ b t. LookSound (cond b None (st.selection t)) (cond b None (st.shared.turn t)) (after t))
            (look-none None (after s))
            (λ t e. look-elsewhere goes key t
            (λ i. ap (λ b. b && ends i) e) (st.selection t) (st.shared.turn t) (sound.looks t));
        bounds = here_or_there s
            (λ b t. BoundSound rules (cond b None (st.selection t)) (st.shared.keys_high t) (after t))
            (bound-none rules (st.shared.keys_high s) (after s))
            (λ t e. bound-aged key after aged rules t (st.selection t) (st.shared.keys_high t) (sound.bounds t));
      };
      stays = stays-aged key after aged st.shared.entered st.shared.entered (λ t h. h);
    }

-- ---- a closing ends

emptied-at : (k : Stage) (b : Bool) → b ≡ true → (k.published ≡ true → k.claimed ≡ true)
    → in_key_set (cond (b && k.claimed) (removed_key k) k) ≡ false
emptied-at k true e claimed = by_claim k.claimed refl
  where
    by_claim : (c : Bool) → k.claimed ≡ c → in_key_set (cond c (removed_key k) k) ≡ false
    by_claim true _ = false_from_ne_true (in_key_set (removed_key k)) (not_in_set_removed k)
    by_claim false not_claimed =
        false_from_ne_true (in_key_set k) (λ h. both_ways k.claimed not_claimed (claimed (and_parts k.published _ h).0))
emptied-at k false e claimed = absurd (both_ways false refl e)

pub keeps_closed : (rules : Rules) (l : Limits) (st : ScriptState) (s : ℕ) (r : Reply)
    → is_some (st.shared.closer s) ≡ true → is_some (st.shared.turn s) ≡ false → Sound rules l st
    → Keeps rules l st (replied st r (with_entered (without_keys st.shared s) s true))
keeps_closed rules l st s r has_closer free sound =
    let key = st.shared.key in
    let goes : ℕ → ℕ → Bool = λ t i. (t == s) && (key s i).claimed in
    let after = removed_where goes key in
    let aged = removed-aged goes key in
    record {
      sound = record {
        keys = keys-aged key after aged l st.shared.selector st.shared.keys_high st.shared.enrolled st.shared.chan
            sound.keys;
        free = free-removed rules goes (λ _. false) key st.shared.free (λ e k. refl) sound.free;
        selected = selected-removed goes key st.shared.mark sound.selected;
        closings =
            here_or_there s
            (λ b t. ClosingSound (st.shared.gate t).shut (st.shared.closer t) (cond b true (st.shared.entered t))
            (after t))
            (record {
              closer_shut = (sound.closings s).closer_shut;
              entered_shut = λ _. (sound.closings s).closer_shut has_closer;
              entered_empty = λ _ i. emptied-at (key s i) (s == s) (eq-eqb s s refl) (sound.keys.indexes.claimed s i);
            })
            (λ t e. closing-aged key after aged t (st.shared.gate t).shut (st.shared.closer t) (st.shared.entered t)
            (sound.closings t));
        looks = here_or_there s (λ b t. LookSound (st.selection t) (st.shared.turn t) (after t))
            (look-free (st.selection s) (st.shared.turn s) (key s) (after s) free (sound.looks s))
            (λ t e. look-elsewhere goes key t (λ i. ap (λ b. b && (key s i).claimed) e) (st.selection t)
            (st.shared.turn t) (sound.looks t));
        bounds = λ t. bound-aged key after aged rules t (st.selection t) (st.shared.keys_high t) (sound.bounds t);
      };
      stays = stays-aged key after aged st.shared.entered (put st.shared.entered s true)
          (put_keeps (λ _ b. b ≡ true) st.shared.entered s true (λ _. refl));
    }
