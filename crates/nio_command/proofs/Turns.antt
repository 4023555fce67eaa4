-- What one word does to a parse of options, each of which takes one value.
use Rattle.std.proofs.Common.{◌≡◌, ◌⊎◌, ◌∙◌, ◌++◌, ℕ, Bool, true, false, List, [], ◌∷◌, Option, Some, None, map}
use Rattle.std.proofs.Common.{length, refl, sym, ap, inl, inr, subst, zero, suc}
use Rattle.std.specs.Prelude.{nat_lt, slice_get}
use Rattle.std.specs.Option.{option_map_or}
use Rattle.std.specs.Str.{bytes_eq, chars}
use Rattle.std.proofs.lemmas.List.{append-nil, map-append}
use Rattle.std.proofs.lemmas.Slice.Eq.{bytes_eq-Decides}
use Rattle.clap.specs.Lexer.{long_of, short_of}
use Rattle.clap.specs.Kinds.{Kinds, or_else}
use Rattle.clap.specs.Faults.{bundle_fault, bundle_step_fault, flags_fault, long_fault, option_fault, settle_fault}
use Rattle.clap.specs.Faults.{step_fault, turn_fault, use_fault}
use Rattle.clap.specs.Walk.{Held, Outcome, Row, Rule, Step, Text, Waiting, Walk, after_flag, after_step, arg_by_long}
use Rattle.clap.specs.Walk.{at_row, bundle_met, bundle_step, has_row, plain, used_by_id, idle, more_values, next}
use Rattle.clap.specs.Walk.{option, option_met, pending_count, plain_word, settled, short_or_plain, used, value}
use Rattle.clap.specs.Walk.{walk_from, walked}
use Rattle.clap.specs.declared.parser.matches.ValueSource.TheVariants.{CommandLine}
use Rattle.nio_command.proofs.Givens.{Distinct, Given, more_distinct, row}
use Rattle.nio_command.proofs.LongWords.{IsPlainName, IsPlainValue, alone_no_dashes, alone_word, dashes}
use Rattle.nio_command.proofs.LongWords.{joined_no_dashes, joined_word, long_alone, long_joined, long_made}
use Rattle.nio_command.proofs.Apps.{option_rule, shape}
use Rattle.nio_command.proofs.Table.{IsName, id_found, long_either, long_found, no_index, no_short, rules_of}

-- ---- what is held

-- these options, and nothing pending
abbrev pub clean : List Given → Held
clean gs = record { rows = map row gs; pending = None; skip = 0 }

-- these options, and one whose value is not counted yet
abbrev pub pending : List Given → Text → Text → Held
pending gs n v = record { rows = map row gs; pending = Some (n, v ∷ []); skip = 0 }

-- these options, and a name whose value is to come
abbrev pub named : List Given → Text → Held
named gs n = record { rows = map row gs; pending = Some (n, []); skip = 0 }

abbrev pub naming : List Given → Text → Walk
naming gs n = record (walk_from (named gs n)) { waiting = option n }

-- ---- a use of an option

pub no_two : (a b : Kinds) → or_else a b ≡ [] → (a ≡ []) × (b ≡ [])
no_two [] b e = (refl, e)
no_two (k ∷ ks) b e = absurd (cc)

at_row_fresh : (id : Text) (change : Row → List Row) (missing rs : List Row) → has_row id rs ≡ false
    → at_row id change missing rs ≡ rs ++ missing
at_row_fresh id change missing [] h = refl
at_row_fresh id change missing (r ∷ rs) h = go (bytes_eq r.id id) refl (at_row_fresh id change missing rs)
  where
    go : (t : Bool) → bytes_eq r.id id ≡ t → (has_row id rs ≡ false → at_row id change missing rs ≡ rs ++ missing)
        → at_row id change missing (r ∷ rs) ≡ (r ∷ rs) ++ missing
    go true e more = let bad : true ≡ false = rw e at h in absurd (cc)
    go false e more = rw e (ap (λ (l : List Row). r ∷ l) (more (rw e at h)))

used_fresh : (n v : Text) (gs : List Given) → has_row n (map row gs) ≡ false
    → used (option_rule n) (v ∷ []) (map row gs) ≡ map row (gs ++ (n, v) ∷ [])
used_fresh n v gs h =
    ap (at_row n (more_values CommandLine (v ∷ [])) (row (n, v) ∷ []))
    (at_row_fresh n (λ _. []) [] (map row gs) h ∙ append-nil (map row gs))
    ∙ at_row_fresh n (more_values CommandLine (v ∷ [])) (row (n, v) ∷ []) (map row gs) h
    ∙ sym (map-append row gs ((n, v) ∷ []))

fresh_of : (n v : Text) (rs : List Row) → use_fault false (option_rule n) (v ∷ []) rs ≡ [] → has_row n rs ≡ false
fresh_of n v rs h = go (has_row n rs) refl
  where
    go : (t : Bool) → has_row n rs ≡ t → has_row n rs ≡ false
    go true e = absurd (let bad = rw e at h in cc)
    go false e = e

use_fresh : (n v : Text) (rs : List Row) → has_row n rs ≡ false → use_fault false (option_rule n) (v ∷ []) rs ≡ []
use_fresh n v rs h = rw h refl

use_none : (n : Text) (rs : List Row) → use_fault false (option_rule n) [] rs ≡ [] → ⊥
use_none n rs h = cc

-- ---- what is held before a word

-- Once what is pending is counted, exactly these options are found.
pub record Stands (names : List Text) (h : Held) (gs : List Given) : Type 0 where
  pub unskipped : h.skip ≡ 0
  pub counts : settle_fault (rules_of names) false h ≡ [] → (settled (rules_of names) h ≡ clean gs) × Distinct gs

pub clean_stands : (names : List Text) (gs : List Given) → Distinct gs → Stands names (clean gs) gs
clean_stands names gs d = record { unskipped = refl; counts = λ _. (refl, d) }

pending_fault : (names : List Text) (gs : List Given) (n v : Text) → IsName names n
    → settle_fault (rules_of names) false (pending gs n v) ≡ use_fault false (option_rule n) (v ∷ []) (map row gs)
pending_fault names gs n v known =
    ap (λ (o : Option Rule). option_map_or (λ a. use_fault false a (v ∷ []) (map row gs)) o []) (id_found names n known)

pending_settled : (names : List Text) (gs : List Given) (n v : Text) → IsName names n → has_row n (map row gs) ≡ false
    → settled (rules_of names) (pending gs n v) ≡ clean (gs ++ (n, v) ∷ [])
pending_settled names gs n v known fresh =
    ap (λ (o : Option Rule). record (clean gs) { rows = used_by_id o (v ∷ []) (map row gs) }) (id_found names n known)
    ∙ ap (λ (rs : List Row). record (clean gs) { rows = rs }) (used_fresh n v gs fresh)

pub pending_stands : (names : List Text) (gs : List Given) (n v : Text) → IsName names n → Distinct gs
    → Stands names (pending gs n v) (gs ++ (n, v) ∷ [])
pending_stands names gs n v known d = record {
  unskipped = refl;
  counts = λ e.
      let fresh = fresh_of n v (map row gs) (sym (pending_fault names gs n v known) ∙ e) in
      (pending_settled names gs n v known fresh, more_distinct n v gs fresh d);
}

pub named_fault : (names : List Text) (gs : List Given) (n : Text) → IsName names n
    → settle_fault (rules_of names) false (named gs n) ≡ [] → ⊥
named_fault names gs n known e =
    use_none n (map row gs)
    (sym (ap (λ (o : Option Rule). option_map_or (λ a. use_fault false a [] (map row gs)) o [])
    (id_found names n known)) ∙ e)

-- ---- a word that is no long one

stray_turn : (names : List Text) (h : Held) → step_fault (shape names) 1 h value ≡ [] → ⊥
stray_turn names h e = let bad = rw (no_index names 1) at e in cc

char_plain : (names : List Text) (flags : Text) (h : Held) (k : ℕ) (o : Option ℕ)
    → bundle_step_fault (rules_of names) false o flags 0 h (flags_fault (rules_of names) false k) ≡ []
    → bundle_step (rules_of names) o flags 0 plain h (bundle_met (rules_of names) k) ≡ (h, plain)
char_plain names flags h k None e = refl
char_plain names flags h k (Some y) e = let bad = rw (no_short names y) at e in absurd (cc)

-- no option has a short name
bundle_plain : (names : List Text) (flags : Text) (h : Held) (skip : ℕ) → skip ≡ 0
    → flags_fault (rules_of names) false (length flags) flags skip h ≡ []
    → bundle_met (rules_of names) (length flags) flags skip plain h ≡ (h, plain)
unfolding flags_fault bundle_met
bundle_plain names [] h skip none e = refl
bundle_plain names (x ∷ xs) h zero none e =
    char_plain names (x ∷ xs) h (length xs) (slice_get (chars (x ∷ xs)) 0) e
bundle_plain names (x ∷ xs) h (suc skip) none e = absurd (cc)

unskipped_same : (h : Held) → h.skip ≡ 0 → record h { skip = 0 } ≡ h
unskipped_same h e = ap (λ (k : ℕ). record h { skip = k }) (sym e)

short_plain : (names : List Text) (waiting : Waiting) (word : Text) (o : Option Text) (h : Held) → h.skip ≡ 0
    → option_map_or (λ flags. bundle_fault (rules_of names) false flags h) o [] ≡ []
    → short_or_plain (rules_of names) waiting word o h ≡ plain_word (rules_of names) waiting word h
short_plain names waiting word None h none e = refl
short_plain names waiting word (Some flags) h none e =
    ap (λ (p : Held × Outcome). after_flag (rules_of names) waiting word p.0 p.1)
    (bundle_plain names flags (record h { skip = 0 }) h.skip none e)
    ∙ ap (plain_word (rules_of names) waiting word) (unskipped_same h none)

-- ---- a word where nothing waits

-- what a word without a fault is, where nothing waits for a value
pub data Turn (names : List Text) (h : Held) (gs : List Given) (word : Text) : Type 0 where
  took : (n v : Text) → word ≡ joined_word n v → IsName names n → Distinct (gs ++ (n, v) ∷ [])
      → walked (rules_of names) [] (walk_from h) word ≡ walk_from (clean (gs ++ (n, v) ∷ []))
      → Turn names h gs word
  waits : (n : Text) → word ≡ alone_word n → IsName names n → Distinct gs
      → walked (rules_of names) [] (walk_from h) word ≡ naming gs n → Turn names h gs word

walked_long : (names : List Text) (h : Held) (word n : Text) (v : Option Text) → bytes_eq word dashes ≡ false
    → long_of word ≡ Some (n, v) → IsName names n
    → walked (rules_of names) [] (walk_from h) word
    ≡ (let met = after_flag (rules_of names) idle word (option_met (rules_of names) (option_rule n) v h).0
    (option_met (rules_of names) (option_rule n) v h).1 in
    after_step (rules_of names) word (walk_from h) met.0 met.1)
unfolding walked
walked_long names h word n v other e known = rw (other, e, long_found names n known) refl

pub turn_idle : (names : List Text) (h : Held) (gs : List Given) (word : Text) → Stands names h gs
    → bytes_eq word dashes ≡ false → turn_fault (shape names) [] (walk_from h) word ≡ [] → Turn names h gs word
turn_idle names h gs word st other e = by_long (long_of word) refl
  where
    by_value : (n : Text) (v : Option Text) → long_of word ≡ Some (n, v) → IsName names n
        → option_fault (rules_of names) false (option_rule n) v h ≡ [] → Turn names h gs word
    by_value n (Some v) long known f =
        let both = no_two (settle_fault (rules_of names) false h)
        (use_fault false (option_rule n) (v ∷ []) (settled (rules_of names) h).rows) f in
        let now = st.counts both.0 in
        let fault : use_fault false (option_rule n) (v ∷ []) (map row gs) ≡ [] =
        subst (λ (k : Held). use_fault false (option_rule n) (v ∷ []) k.rows ≡ []) now.0 both.1 in
        let fresh = fresh_of n v (map row gs) fault in
        let made = long_made word n (Some v) long in
        took n v (made.1 ∙ ap (λ (t : Text). 45 ∷ 45 ∷ t) made.2) known (more_distinct n v gs fresh now.1)
        (walked_long names h word n (Some v) other long known
        ∙ ap walk_from (ap (λ (k : Held). record k { rows = used (option_rule n) (v ∷ []) k.rows }) now.0
        ∙ ap (λ (rs : List Row). record (clean gs) { rows = rs }) (used_fresh n v gs fresh)))
    by_value n None long known f =
        let now = st.counts f in
        let made = long_made word n None long in
        waits n (made.1 ∙ ap (λ (t : Text). 45 ∷ 45 ∷ t) made.2) known now.1
        (walked_long names h word n None other long known
        ∙ ap (λ (k : Held). record (walk_from (record k { pending = Some (n, []) })) { waiting = option n }) now.0)

    by_name : (n : Text) (v : Option Text) → long_of word ≡ Some (n, v)
        → (arg_by_long (rules_of names) n ≡ None) ⊎ IsName names n
        → long_fault (rules_of names) false (arg_by_long (rules_of names) n) v h ≡ [] → Turn names h gs word
    by_name n v long (inl none) f = absurd (let bad = rw none at f in cc)
    by_name n v long (inr known) f = by_value n v long known (rw (long_found names n known) at f)

    by_long : (o : Option (Text × Option Text)) → long_of word ≡ o → Turn names h gs word
    by_long None long = let f = rw (other, long) at e in
        let both = no_two _ _ f in
        let there = rw (short_plain names idle word (short_of word) h st.unskipped both.0) at both.1 in
        absurd (stray_turn names h there)
    by_long (Some p) long = let f = rw (other, long) at e in
        by_name p.0 p.1 long (long_either names p.0) (no_two _ _ f).0

-- ---- a word where an option waits for its value

pending_one : (n v : Text) → nat_lt (pending_count (option_rule n) (Some (n, v ∷ []))) 1 ≡ false
pending_one n v = rw ((bytes_eq-Decides n n).1 refl) refl

-- a word that is no option is the value
plain_named : (names : List Text) (gs : List Given) (n word : Text) → IsName names n
    → plain_word (rules_of names) (option n) word (named gs n) ≡ (pending gs n word, next idle)
plain_named names gs n word known = rw (id_found names n known, pending_one n word) refl

plain_walked : (names : List Text) (gs : List Given) (n word : Text) (o : Option Text) → IsName names n
    → bytes_eq word dashes ≡ false → long_of word ≡ None → short_of word ≡ o
    → option_map_or (λ flags. bundle_fault (rules_of names) false flags (named gs n)) o [] ≡ []
    → walked (rules_of names) [] (naming gs n) word ≡ walk_from (pending gs n word)
unfolding walked
plain_walked names gs n word o known other long short e =
    rw (other, long, short, short_plain names (option n) word o (named gs n) refl e)
    (ap (λ (p : Held × Step). after_step (rules_of names) word (naming gs n) p.0 p.1)
    (plain_named names gs n word known))

pub turn_naming : (names : List Text) (gs : List Given) (n word : Text) → IsName names n
    → bytes_eq word dashes ≡ false → turn_fault (shape names) [] (naming gs n) word ≡ []
    → walked (rules_of names) [] (naming gs n) word ≡ walk_from (pending gs n word)
turn_naming names gs n word known other e = by_long (long_of word) refl
  where
    by_name : (m : Text) (v : Option Text) → (arg_by_long (rules_of names) m ≡ None) ⊎ IsName names m
        → long_fault (rules_of names) false (arg_by_long (rules_of names) m) v (named gs n) ≡ [] → ⊥
    by_name m v (inl none) f = let bad = rw none at f in cc
    by_name m None (inr found) f = named_fault names gs n known (rw (long_found names m found) at f)
    by_name m (Some v) (inr found) f =
        named_fault names gs n known (no_two _ _ (rw (long_found names m found) at f)).0

    by_long : (o : Option (Text × Option Text)) → long_of word ≡ o
        → walked (rules_of names) [] (naming gs n) word ≡ walk_from (pending gs n word)
    by_long None long = let f = rw (other, long) at e in
        plain_walked names gs n word (short_of word) known other long refl (no_two _ _ f).0
    by_long (Some p) long = let f = rw (other, long) at e in
        absurd (by_name p.0 p.1 (long_either names p.0) (no_two _ _ f).0)

-- ---- the other way: the words of an option have no fault

pub joined_turn : (names : List Text) (h : Held) (gs : List Given) (n v : Text) → IsName names n → IsPlainName n
    → settle_fault (rules_of names) false h ≡ [] → settled (rules_of names) h ≡ clean gs
    → has_row n (map row gs) ≡ false
    → turn_fault (shape names) [] (walk_from h) (joined_word n v) ≡ []
joined_turn names h gs n v known fits settles is fresh =
    let used_once : use_fault false (option_rule n) (v ∷ []) (settled (rules_of names) h).rows ≡ [] =
    subst (λ (k : Held). use_fault false (option_rule n) (v ∷ []) k.rows ≡ []) (sym is)
    (use_fresh n v (map row gs) fresh) in
    rw (joined_no_dashes n v, long_joined n v fits.no_equals, long_found names n known, settles, used_once) refl

pub joined_walked : (names : List Text) (h : Held) (gs : List Given) (n v : Text) → IsName names n → IsPlainName n
    → settled (rules_of names) h ≡ clean gs → has_row n (map row gs) ≡ false
    → walked (rules_of names) [] (walk_from h) (joined_word n v) ≡ walk_from (clean (gs ++ (n, v) ∷ []))
joined_walked names h gs n v known fits is fresh =
    walked_long names h (joined_word n v) n (Some v) (joined_no_dashes n v) (long_joined n v fits.no_equals) known
    ∙ ap walk_from (ap (λ (k : Held). record k { rows = used (option_rule n) (v ∷ []) k.rows }) is
    ∙ ap (λ (rs : List Row). record (clean gs) { rows = rs }) (used_fresh n v gs fresh))

pub alone_turn : (names : List Text) (h : Held) (gs : List Given) (n : Text) → IsName names n → IsPlainName n
    → settle_fault (rules_of names) false h ≡ []
    → turn_fault (shape names) [] (walk_from h) (alone_word n) ≡ []
alone_turn names h gs n known fits settles =
    rw (alone_no_dashes n fits, long_alone n fits, long_found names n known, settles) refl

pub alone_walked : (names : List Text) (h : Held) (gs : List Given) (n : Text) → IsName names n → IsPlainName n
    → settled (rules_of names) h ≡ clean gs
    → walked (rules_of names) [] (walk_from h) (alone_word n) ≡ naming gs n
alone_walked names h gs n known fits is =
    walked_long names h (alone_word n) n None (alone_no_dashes n fits) (long_alone n fits) known
    ∙ ap (λ (k : Held). record (walk_from (record k { pending = Some (n, []) })) { waiting = option n }) is

pub value_turn : (names : List Text) (gs : List Given) (n v : Text) → IsName names n → IsPlainValue v
    → turn_fault (shape names) [] (naming gs n) v ≡ []
value_turn names gs n v known fits =
    rw (fits.no_dashes, fits.no_long, fits.no_short)
    (ap (λ (p : Held × Step). step_fault (shape names) 1 p.0 p.1) (plain_named names gs n v known))

pub value_walked : (names : List Text) (gs : List Given) (n v : Text) → IsName names n → IsPlainValue v
    → walked (rules_of names) [] (naming gs n) v ≡ walk_from (pending gs n v)
value_walked names gs n v known fits =
    plain_walked names gs n v None known fits.no_dashes fits.no_long fits.no_short refl

pub pending_settles : (names : List Text) (gs : List Given) (n v : Text) → IsName names n
    → has_row n (map row gs) ≡ false
    → (settle_fault (rules_of names) false (pending gs n v) ≡ [])
    × (settled (rules_of names) (pending gs n v) ≡ clean (gs ++ (n, v) ∷ []))
pending_settles names gs n v known fresh = (
  pending_fault names gs n v known ∙ use_fresh n v (map row gs) fresh,
  pending_settled names gs n v known fresh,
)
