-- What `clap` makes of the words behind a command whose options have one value each, both ways.
use Rattle.std.proofs.Common.{◌≡◌, ◌⊎◌, ◌∙◌, ◌||◌, ◌&&◌, ◌≤◌, Bool, true, false, not, List, [], ◌∷◌, Option, Some, None}
use Rattle.std.proofs.Common.{cond}
use Rattle.std.proofs.Common.{map, inl, inr, refl, sym, ap, ap₂, subst, ⊎_elim, arith}
use Rattle.std.specs.Prelude.{IsSome, fold}
use Rattle.std.specs.List.{Contains, flat_map, list_any}
use Rattle.std.specs.Str.{bytes_eq}
use Rattle.std.proofs.lemmas.Bool.{ne_eqb}
use Rattle.std.proofs.lemmas.List.Sorted.{Contains-permutation, IsPermutation-sym}
use Rattle.std.proofs.lemmas.List.Sums.{sum_by-cons}
use Rattle.clap.specs.Faults.{built_fault, check_fault, default_fault, defaults_fault, fault_of, given_default_fault}
use Rattle.clap.specs.Faults.{level_fault, settle_fault, walk_fault}
use Rattle.clap.specs.Kinds.{HasKind, Kinds, or_else}
use Rattle.clap.specs.Lexer.{strip_byte}
use Rattle.clap.specs.Simple.{App, Shape, built, label_of, matches_of}
use Rattle.clap.specs.Takes.{is_given}
use Rattle.clap.specs.Walk.{Row, Text, Walk, finished, first_of, has_row, nothing_held, rows_after}
use Rattle.clap.specs.Walk.{walk_from, with_default}
use Rattle.clap.specs.Matches.{first_value, found_of}
use Rattle.clap.specs.Values.{kind_of}
use Rattle.clap.specs.declared.error.Error.{Error}
use Rattle.clap.specs.declared.error.kind.ErrorKind.TheVariants.{OutOfMemory}
use Rattle.clap.specs.declared.parser.matches.ArgMatches.{ArgMatches}
use Rattle.clap.proofs.FaultLemmas.{leaf_fault}
use Rattle.clap.proofs.WalkLemmas.{first_value-rows}
use Rattle.nio_command.specs.Options.{AreOptions, given, option_words}
use Rattle.nio_command.specs.Texts.{IsNoOption, IsParse, NoDashes}
use Rattle.nio_command.proofs.Apps.{IsTable, is_required, option_rule, shape}
use Rattle.nio_command.proofs.Givens.{Distinct, Given, bears, bears_cases, bears_small, contains_cases, found_in}
use Rattle.nio_command.proofs.Givens.{in_found}
use Rattle.nio_command.proofs.Givens.{nothing_distinct, row, times}
use Rattle.nio_command.proofs.LongWords.{IsPlainName, plain_value}
use Rattle.nio_command.proofs.Orders.{AllIn, in_order, names_known, names_of_options, permuted_distinct}
use Rattle.nio_command.proofs.Orders.{writable_from}
use Rattle.nio_command.proofs.Parses.{Passes, end_of, options_no_dashes, passes_all, reads_all, rows_at_end}
use Rattle.nio_command.proofs.Table.{IsName, rules_of}
use Rattle.nio_command.proofs.Turns.{clean, clean_stands, no_two}

-- ---- what is not the walk: no option has a default, and each that is required is given

same_rows : (rows : List Row) (n : Text) → with_default rows (option_rule n) ≡ rows
same_rows rows n = elim (has_row n rows) as (λ b. cond b rows rows ≡ rows) [ true ↦ refl | false ↦ refl ]

no_defaults : (names : List Text) (rows : List Row) → fold with_default rows (rules_of names) ≡ rows
no_defaults [] rows = refl
no_defaults (n ∷ ns) rows =
    ap (λ (rs : List Row). fold with_default rs (rules_of ns)) (same_rows rows n) ∙ no_defaults ns rows

default_passes : (rows : List Row) (n : Text) → default_fault rows (option_rule n) ≡ []
default_passes rows n =
    elim (has_row n rows) as
    (λ b. cond (b || true) [] (given_default_fault (option_rule n) []) ≡ []) [ true ↦ refl | false ↦ refl ]

defaults_pass : (names : List Text) (rows : List Row) → defaults_fault rows (rules_of names) ≡ []
unfolding defaults_fault
defaults_pass [] rows = refl
defaults_pass (n ∷ ns) rows = rw (default_passes rows n) (defaults_pass ns (with_default rows (option_rule n)))

-- each name of the table that is required has a row
abbrev AreGiven : List Text → List Row → Type 0
AreGiven names rows = (n : Text) → IsName names n → (is_required n ≡ false) ⊎ (is_given n rows ≡ true)

none_lacks : (a b : Bool) → (a ≡ false) ⊎ (b ≡ true) → (a && not b) ≡ false
none_lacks false b h = refl
none_lacks true true h = refl
none_lacks true false (inl e) = absurd (cc)
none_lacks true false (inr e) = absurd (cc)

all_given : (names : List Text) (rows : List Row) → AreGiven names rows
    → list_any (λ a. a.required && not (is_given a.id rows)) (rules_of names) ≡ false
all_given [] rows h = refl
all_given (n ∷ ns) rows h =
    rw (none_lacks (is_required n) (is_given n rows) (h n (inl refl))) (all_given ns rows (λ m k. h m (inr k)))

check_passes : (names : List Text) (rows : List Row) → AreGiven names rows → check_fault (shape names) rows false ≡ []
check_passes names rows h = rw (all_given names rows h) refl

given_found : (n v : Text) (gs : List Given) → first_of n (map row gs) ≡ Some v → is_given n (map row gs) ≡ true
given_found n v [] e = absurd (cc)
given_found n v (g ∷ gs) e = go (bytes_eq g.0 n) refl (given_found n v gs)
  where
    go : (t : Bool) → bytes_eq g.0 n ≡ t → (first_of n (map row gs) ≡ Some v → is_given n (map row gs) ≡ true)
        → is_given n (map row (g ∷ gs)) ≡ true
    go true t more = rw t refl
    go false t more = rw t (more (rw t at e))

-- ---- the options of a command

-- one option more, whose name none of them has
pub more_options : (g : Given) (gs : List Given) → times g.0 gs ≡ 0 → Distinct gs → Distinct (g ∷ gs)
more_options g gs none distinct n = by_name (bears_cases n g)
  where
    by_name : (g.0 ≡ n) ⊎ (bears n g ≡ 0) → times n (g ∷ gs) ≤ 1
    by_name (inl same) =
        let nothing : times n gs ≡ 0 = subst (λ (m : Text). times m gs ≡ 0) same none in
        let most : bears n g ≤ 1 = bears_small n g in
        omega (arith, sum_by-cons (bears n) g gs)
    by_name (inr other) =
        let most : times n gs ≤ 1 = distinct n in
        omega (arith, sum_by-cons (bears n) g gs)

-- what holds of each of them
abbrev pub Each : (Given → Type 0) → List Given → Type 0
Each P [] = Unit {0}
Each P (g ∷ gs) = P g × Each P gs

each_at : (P : Given → Type 0) (gs : List Given) → Each P gs → (g : Given) → Contains gs g → P g
each_at P [] each g there = absurd (let lt = there.1 in omega arith)
each_at P (o ∷ os) each g there = by_place (contains_cases o g os there) (each_at P os each.1 g)
  where
    by_place : (o ≡ g) ⊎ Contains os g → (Contains os g → P g) → P g
    by_place (inl same) more = subst P same each.0
    by_place (inr there) more = more there

-- its value is found
abbrev pub IsFound : List Row → Given → Type 0
IsFound rows g = first_of g.0 rows ≡ Some g.1

all_in : (rows : List Row) (gs os : List Given) → rows ≡ map row gs → Each (IsFound rows) os → AllIn gs os
all_in rows gs [] is found = tt
all_in rows gs (o ∷ os) is found = (
  found_in o.0 o.1 gs (subst (λ (rs : List Row). first_of o.0 rs ≡ Some o.1) is found.0),
  all_in rows gs os is found.1,
)

-- the option is of the table, and its value isn't written as an option
abbrev pub IsWritable : List Text → Given → Type 0
IsWritable names g = IsName names g.0 × IsPlainName g.0 × IsNoOption g.1

unlike : (text : Text) → IsNoOption text → strip_byte 45 text ≡ None
unlike [] h = refl
unlike (x ∷ xs) h = rw (ne_eqb x 45 h) refl

-- the words are these options, and `clap` finds their values and nothing else
pub record IsTaken (app : App) (words : List Text) (options : List Given) : Type 0 where
  pub no_dashes : NoDashes words
  pub no_fault : fault_of app words ≡ []
  pub finds : (g : Given) → Contains options g → IsFound (matches_of app words) g
  pub back : (g : Given) → IsFound (matches_of app words) g → Contains options g

-- each required name of the table stands among the options
abbrev pub AreNeeded : List Text → List Given → Type 0
AreNeeded names options =
    (n : Text) → IsName names n → (is_required n ≡ false) ⊎ ((v : Text) × Contains options (n, v))

module _ (app : App) (names : List Text) (table : IsTable app names) where
  abbrev start : Walk
  start = walk_from nothing_held

  fault_level : (words : List Text)
      → fault_of app words ≡ level_fault (shape names) [] nothing_held words false []
  fault_level words =
      ap (built_fault (built app) nothing_held) (table.words words)
      ∙ leaf_fault (built app) nothing_held words table.subs
      ∙ ap (λ (s : Shape). level_fault s [] nothing_held words false []) table.top

  matches_rows : (words : List Text) → matches_of app words ≡ rows_at_end names start words
  matches_rows words =
      ap (rows_after (built app).top.rules (map label_of (built app).subs)) (table.words words)
      ∙ ap₂ (λ (s : Shape) (subs : List Shape). rows_after s.rules (map label_of subs) words) table.top table.subs
      ∙ no_defaults names (rows_at_end names start words)

  abbrev after_settling : List Text → Kinds
  after_settling words =
      or_else (defaults_fault (rows_at_end names start words) (rules_of names))
      (check_fault (shape names) (finished (rules_of names) (end_of names start words)) false)

  passes_of : (words : List Text) → fault_of app words ≡ [] → Passes names start words
  passes_of words e =
      let all : level_fault (shape names) [] nothing_held words false [] ≡ [] = sym (fault_level words) ∙ e in
      let settle = settle_fault (rules_of names) false (end_of names start words) in
      let both = no_two (walk_fault (shape names) [] start words) (or_else settle (after_settling words)) all in
      record { walk = both.0; end = (no_two settle (after_settling words) both.1).0 }

  fault_none : (words : List Text) → Passes names start words → AreGiven names (rows_at_end names start words)
      → fault_of app words ≡ []
  fault_none words p given =
      let rows = rows_at_end names start words in
      let checked : check_fault (shape names) (finished (rules_of names) (end_of names start words)) false ≡ [] =
      ap (λ (rs : List Row). check_fault (shape names) rs false) (no_defaults names rows)
      ∙ check_passes names rows given in
      fault_level words ∙ rw (p.walk, p.end, defaults_pass names rows) checked

  -- words without a fault, in which the values are found, are the options
  pub are_options : (words : List Text) (options : List Given) → NoDashes words → fault_of app words ≡ []
      → Distinct options → Each (IsFound (matches_of app words)) options
      → ((gs : List Given) → Distinct gs → matches_of app words ≡ map row gs → (g : Given) → Contains gs g
      → IsName names g.0 → IsName (names_of_options options) g.0)
      → AreOptions words options
  are_options words options none e distinct found known =
      let read = (reads_all names words).0 (clean []) [] (clean_stands names [] nothing_distinct) none
      (passes_of words e) in
      let gs = map given read.written in
      let rows : matches_of app words ≡ map row gs = matches_rows words ∙ read.found in
      record {
        written = read.written;
        order = in_order options gs distinct read.distinct (all_in (matches_of app words) gs options rows found)
            (λ g there. known gs read.distinct rows g there (names_known names read.written read.known g there));
        spelled = read.spelled;
      }

  -- the options are taken, and their values found
  pub options_taken : (words : List Text) (options : List Given) → AreOptions words options → Distinct options
      → Each (IsWritable names) options → AreNeeded names options → IsTaken app words options
  options_taken words options are distinct each needed =
      let gs = map given are.written in
      let back = IsPermutation-sym gs options are.order in
      let once = permuted_distinct options gs back distinct in
      let fit = writable_from names are.written (λ g there.
      let it : IsWritable names g = each_at (IsWritable names) options each g
      (Contains-permutation gs options g are.order there) in
      (it.0, it.1, plain_value g.1 (unlike g.1 it.2))) in
      let made = flat_map option_words are.written in
      let passed = passes_all names are.written (clean []) [] refl refl once fit in
      let finds : (g : Given) → Contains options g → IsFound (map row gs) g =
      λ g there. in_found g.0 g.1 gs once (Contains-permutation options gs g back there) in
      let all : AreGiven names (map row gs) = λ n known. given_by gs n finds (needed n known) in
      let rows : matches_of app made ≡ map row gs = matches_rows made ∙ passed.rows in
      subst (λ (ws : List Text). IsTaken app ws options) (sym are.spelled) (record {
        no_dashes = options_no_dashes names are.written fit;
        no_fault = fault_none made passed.passes (subst (AreGiven names) (sym passed.rows) all);
        finds = λ g there. subst (λ (rs : List Row). IsFound rs g) (sym rows) (finds g there);
        back = λ g found. Contains-permutation gs options g are.order
            (found_in g.0 g.1 gs (subst (λ (rs : List Row). IsFound rs g) rows found));
      })
    where
      given_by : (gs : List Given) (n : Text) → ((g : Given) → Contains options g → IsFound (map row gs) g)
          → (is_required n ≡ false) ⊎ ((v : Text) × Contains options (n, v))
          → (is_required n ≡ false) ⊎ (is_given n (map row gs) ≡ true)
      given_by gs n finds (inl free) = inl free
      given_by gs n finds (inr there) = inr (given_found n there.0 gs (finds (n, there.0) there.1))

-- ---- what the functions use

pub only_memory : (kinds : Kinds) (e : Error) → kinds ≡ [] → HasKind kinds e → kind_of e ≡ OutOfMemory
only_memory kinds e none h =
    ⊎_elim (λ memory. memory) (λ among. absurd among) (subst (λ (k : Kinds). HasKind k e) none h)

-- the value of a name is the first that a parse has
pub value_of : (app : App) (names words : List Text) (m : ArgMatches) (n : Text) → IsTable app names
    → IsParse app words m → first_value (found_of m) n ≡ first_of n (matches_of app words)
value_of app names words m n table parse =
    first_value-rows (found_of m) n ∙ ap (first_of n) (parse.matches table.simple).0

pub none_or_some : {X : Type 0} (o : Option X) → o ≡ None → IsSome o → ⊥
none_or_some None none some = absurd (cc)
none_or_some (Some x) none some = absurd (cc)
