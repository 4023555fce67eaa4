-- What a parse of options makes of words, both ways.
use Rattle.std.proofs.Common.{◌≡◌, ◌∙◌, ◌++◌, Bool, true, false, List, [], ◌∷◌, map, refl, sym, ap, subst}
use Rattle.std.specs.Prelude.{fold}
use Rattle.std.specs.List.{flat_map}
use Rattle.std.specs.Str.{bytes_eq}
use Rattle.std.proofs.lemmas.List.{append-nil, append_assoc}
use Rattle.clap.specs.Kinds.{Kinds, or_else}
use Rattle.clap.specs.Faults.{settle_fault, turn_fault, walk_fault}
use Rattle.clap.specs.Walk.{Held, Row, Text, Walk, settled, walk_from, walked}
use Rattle.nio_command.specs.Options.{Written, given, option_words}
use Rattle.nio_command.specs.Options.{apart, joined}
use Rattle.nio_command.specs.Texts.{NoDashes}
use Rattle.nio_command.proofs.Apps.{shape}
use Rattle.nio_command.proofs.Givens.{Distinct, Given, fresh_before, row}
use Rattle.nio_command.proofs.LongWords.{IsPlainName, IsPlainValue, alone_no_dashes, alone_word, dashes}
use Rattle.nio_command.proofs.LongWords.{joined_no_dashes, joined_word}
use Rattle.nio_command.proofs.Table.{IsName, rules_of}
use Rattle.nio_command.proofs.Turns.{Stands, Turn, alone_turn, alone_walked, clean, clean_stands, named_fault, naming}
use Rattle.nio_command.proofs.Turns.{joined_turn, joined_walked, no_two, pending, pending_settles, pending_stands}
use Rattle.nio_command.proofs.Turns.{turn_idle, turn_naming, value_turn, value_walked}
use Rattle.nio_command.proofs.Turns.{took, waits}

abbrev pub AreNames : List Text → List Written → Type 0
AreNames names [] = Unit {0}
AreNames names (w ∷ ws) = IsName names (given w).0 × AreNames names ws

-- the words are options, and these rows are found of them and of those before
pub record Reads (names words : List Text) (before : List Given) (rows : List Row) : Type 0 where
  pub written : List Written
  pub known : AreNames names written
  pub spelled : words ≡ flat_map option_words written
  pub found : rows ≡ map row (before ++ map given written)
  pub distinct : Distinct (before ++ map given written)

abbrev pub end_of : List Text → Walk → List Text → Held
end_of names w words = (fold (walked (rules_of names) []) w words).held

abbrev pub rows_at_end : List Text → Walk → List Text → List Row
rows_at_end names w words = (settled (rules_of names) (end_of names w words)).rows

-- neither a word nor the end has a fault
pub record Passes (names : List Text) (w : Walk) (words : List Text) : Type 0 where
  pub walk : walk_fault (shape names) [] w words ≡ []
  pub end : settle_fault (rules_of names) false (end_of names w words) ≡ []

pub record First (names : List Text) (w : Walk) (word : Text) (rest : List Text) : Type 0 where
  pub turn : turn_fault (shape names) [] w word ≡ []
  pub then : Passes names (walked (rules_of names) [] w word) rest

first_of_passes : (names : List Text) (w : Walk) (word : Text) (rest : List Text) → Passes names w (word ∷ rest)
    → First names w word rest
unfolding walk_fault
first_of_passes names w word rest p =
    let both = no_two (turn_fault (shape names) [] w word)
    (walk_fault (shape names) [] (walked (rules_of names) [] w word) rest) p.walk in
    record { turn = both.0; then = record { walk = both.1; end = p.end } }

no_dashes_first : (word : Text) (rest : List Text) → NoDashes (word ∷ rest)
    → (bytes_eq word dashes ≡ false) × NoDashes rest
no_dashes_first word rest h = go (bytes_eq word dashes) refl
  where
    go : (t : Bool) → bytes_eq word dashes ≡ t → (bytes_eq word dashes ≡ false) × NoDashes rest
    go true e = absurd (let bad : true ≡ false = rw e at h in cc)
    go false e = (e, rw e at h)

-- ---- what passes is options

abbrev ReadsIdle : (names rest : List Text) → Type 0
ReadsIdle names rest = (h : Held) (gs : List Given) → Stands names h gs → NoDashes rest
    → Passes names (walk_from h) rest
    → Reads names rest gs (rows_at_end names (walk_from h) rest)

abbrev ReadsNaming : (names rest : List Text) → Type 0
ReadsNaming names rest = (gs : List Given) (n : Text) → IsName names n → Distinct gs → NoDashes rest
    → Passes names (naming gs n) rest
    → Reads names (alone_word n ∷ rest) gs (rows_at_end names (naming gs n) rest)

none_passes : (names : List Text) (h : Held) (gs : List Given) → Stands names h gs → Passes names (walk_from h) []
    → Reads names [] gs (rows_at_end names (walk_from h) [])
none_passes names h gs st p =
    let now = st.counts p.end in
    record {
      written = [];
      known = tt;
      spelled = refl;
      found = ap (λ (k : Held). k.rows) now.0 ∙ ap (map row) (sym (append-nil gs));
      distinct = subst Distinct (sym (append-nil gs)) now.1;
    }

-- one option more, before those that are read
one_more : (names words : List Text) (gs : List Given) (w : Written) (rows : List Row) → IsName names (given w).0
    → Reads names words (gs ++ given w ∷ []) rows → Reads names (option_words w ++ words) gs rows
one_more names words gs w rows known r = record {
  written = w ∷ r.written;
  known = (known, r.known);
  spelled = ap (λ (ws : List Text). option_words w ++ ws) r.spelled;
  found = r.found ∙ ap (map row) (append_assoc gs (given w ∷ []) (map given r.written));
  distinct = subst Distinct (append_assoc gs (given w ∷ []) (map given r.written)) r.distinct;
}

pub joined_spelled : (n v : Text) → option_words (joined n v) ≡ joined_word n v ∷ []
joined_spelled n v = ap (λ (t : Text). (45 ∷ 45 ∷ t) ∷ []) (append_assoc n (61 ∷ []) v)

idle_more : (names : List Text) (word : Text) (rest : List Text) → ReadsIdle names rest → ReadsNaming names rest
    → ReadsIdle names (word ∷ rest)
idle_more names word rest idle naming_rest h gs st none p =
    let f = first_of_passes names (walk_from h) word rest p in
    let d = no_dashes_first word rest none in
    by_turn (turn_idle names h gs word st d.0 f.turn) f.then d.1
  where
    by_turn : Turn names h gs word → Passes names (walked (rules_of names) [] (walk_from h) word) rest → NoDashes rest
        → Reads names (word ∷ rest) gs (rows_at_end names (walked (rules_of names) [] (walk_from h) word) rest)
    by_turn (took n v is known d walks) q none =
        let there : Passes names (walk_from (clean (gs ++ (n, v) ∷ []))) rest =
        subst (λ (w : Walk). Passes names w rest) walks q in
        let read = idle (clean (gs ++ (n, v) ∷ [])) (gs ++ (n, v) ∷ [])
        (clean_stands names (gs ++ (n, v) ∷ []) d) none there in
        subst (λ (w : Walk). Reads names (word ∷ rest) gs (rows_at_end names w rest)) (sym walks)
        (subst (λ (t : Text). Reads names (t ∷ rest) gs
        (rows_at_end names (walk_from (clean (gs ++ (n, v) ∷ []))) rest)) (sym is)
        (subst (λ (ws : List Text). Reads names (ws ++ rest) gs
        (rows_at_end names (walk_from (clean (gs ++ (n, v) ∷ []))) rest))
        (joined_spelled n v) (one_more names rest gs (joined n v) _ known read)))
    by_turn (waits n is known d walks) q none =
        let there : Passes names (naming gs n) rest = subst (λ (w : Walk). Passes names w rest) walks q in
        let read = naming_rest gs n known d none there in
        subst (λ (w : Walk). Reads names (word ∷ rest) gs (rows_at_end names w rest)) (sym walks)
        (subst (λ (t : Text). Reads names (t ∷ rest) gs (rows_at_end names (naming gs n) rest)) (sym is) read)

naming_more : (names : List Text) (word : Text) (rest : List Text) → ReadsIdle names rest
    → ReadsNaming names (word ∷ rest)
naming_more names word rest idle gs n known d none p =
    let f = first_of_passes names (naming gs n) word rest p in
    let nd = no_dashes_first word rest none in
    let walks = turn_naming names gs n word known nd.0 f.turn in
    let there : Passes names (walk_from (pending gs n word)) rest =
    subst (λ (w : Walk). Passes names w rest) walks f.then in
    let read = idle (pending gs n word) (gs ++ (n, word) ∷ []) (pending_stands names gs n word known d) nd.1 there in
    subst (λ (w : Walk). Reads names (alone_word n ∷ word ∷ rest) gs (rows_at_end names w rest)) (sym walks)
    (one_more names rest gs (apart n word) _ known read)

naming_none : (names : List Text) → ReadsNaming names []
naming_none names gs n known d none p = absurd (named_fault names gs n known p.end)

pub reads_all : (names rest : List Text) → ReadsIdle names rest × ReadsNaming names rest
reads_all names [] = ((λ h gs st none p. none_passes names h gs st p), naming_none names)
reads_all names (word ∷ rest) =
    let more = reads_all names rest in
    (idle_more names word rest more.0 more.1, naming_more names word rest more.0)

-- ---- options pass

-- the names are of the table, and no value looks like an option
abbrev pub AreWritable : List Text → List Written → Type 0
AreWritable names [] = Unit {0}
AreWritable names (w ∷ ws) =
    IsName names (given w).0 × IsPlainName (given w).0 × IsPlainValue (given w).1 × AreWritable names ws

pub record Passed (names : List Text) (w : Walk) (words : List Text) (gs : List Given) : Type 0 where
  pub passes : Passes names w words
  pub rows : rows_at_end names w words ≡ map row gs

both_none : (a b : Kinds) → a ≡ [] → b ≡ [] → or_else a b ≡ []
both_none a b none nothing = ap (λ (k : Kinds). or_else k b) none ∙ nothing

passed_first : (names : List Text) (w after : Walk) (word : Text) (rest : List Text) (gs : List Given)
    → turn_fault (shape names) [] w word ≡ [] → walked (rules_of names) [] w word ≡ after
    → Passed names after rest gs → Passed names w (word ∷ rest) gs
unfolding walk_fault
passed_first names w after word rest gs turn walks p =
    let there = subst (λ (v : Walk). Passed names v rest gs) (sym walks) p in
    record {
      passes = record { walk = both_none _ _ turn there.passes.walk; end = there.passes.end };
      rows = there.rows;
    }

nothing_passed : (names : List Text) (h : Held) (gs : List Given) → settle_fault (rules_of names) false h ≡ []
    → settled (rules_of names) h ≡ clean gs → Passed names (walk_from h) [] (gs ++ [])
unfolding walk_fault
nothing_passed names h gs settles is = record {
  passes = record { walk = refl; end = settles };
  rows = ap (λ (k : Held). k.rows) is ∙ ap (map row) (sym (append-nil gs));
}

pub passes_all : (names : List Text) (ws : List Written) (h : Held) (gs : List Given)
    → settle_fault (rules_of names) false h ≡ [] → settled (rules_of names) h ≡ clean gs
    → Distinct (gs ++ map given ws) → AreWritable names ws
    → Passed names (walk_from h) (flat_map option_words ws) (gs ++ map given ws)
passes_all names [] h gs settles is d fit = nothing_passed names h gs settles is
passes_all names (joined n v ∷ ws) h gs settles is d fit =
    let fresh = fresh_before n v gs (map given ws) d in
    let now = gs ++ (n, v) ∷ [] in
    let same = append_assoc gs ((n, v) ∷ []) (map given ws) in
    let more = passes_all names ws (clean now) now refl refl (subst Distinct (sym same) d) fit.3 in
    subst (λ (words : List Text). Passed names (walk_from h) (words ++ flat_map option_words ws)
    (gs ++ (n, v) ∷ map given ws))
    (sym (joined_spelled n v))
    (passed_first names (walk_from h) (walk_from (clean now)) (joined_word n v) (flat_map option_words ws)
    (gs ++ (n, v) ∷ map given ws)
    (joined_turn names h gs n v fit.0 fit.1 settles is fresh) (joined_walked names h gs n v fit.0 fit.1 is fresh)
    (subst (Passed names (walk_from (clean now)) (flat_map option_words ws)) same more))
passes_all names (apart n v ∷ ws) h gs settles is d fit =
    let fresh = fresh_before n v gs (map given ws) d in
    let now = gs ++ (n, v) ∷ [] in
    let same = append_assoc gs ((n, v) ∷ []) (map given ws) in
    let held = pending_settles names gs n v fit.0 fresh in
    let more = passes_all names ws (pending gs n v) now held.0 held.1 (subst Distinct (sym same) d) fit.3 in
    passed_first names (walk_from h) (naming gs n) (alone_word n) (v ∷ flat_map option_words ws)
    (gs ++ (n, v) ∷ map given ws)
    (alone_turn names h gs n fit.0 fit.1 settles) (alone_walked names h gs n fit.0 fit.1 is)
    (passed_first names (naming gs n) (walk_from (pending gs n v)) v (flat_map option_words ws)
    (gs ++ (n, v) ∷ map given ws)
    (value_turn names gs n v fit.0 fit.2) (value_walked names gs n v fit.0 fit.2)
    (subst (Passed names (walk_from (pending gs n v)) (flat_map option_words ws)) same more))

-- no word of options is `--`
pub options_no_dashes : (names : List Text) (ws : List Written) → AreWritable names ws
    → NoDashes (flat_map option_words ws)
options_no_dashes names [] fit = refl
options_no_dashes names (joined n v ∷ ws) fit =
    subst (λ (words : List Text). NoDashes (words ++ flat_map option_words ws)) (sym (joined_spelled n v))
    (rw (joined_no_dashes n v) (options_no_dashes names ws fit.3))
options_no_dashes names (apart n v ∷ ws) fit =
    rw (alone_no_dashes n fit.1, fit.2.no_dashes) (options_no_dashes names ws fit.3)
