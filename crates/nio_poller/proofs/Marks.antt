-- What is marked is what a poll told of the key's channel.
use Rattle.std.proofs.Common.{◌≡◌, ℕ, ◌==◌, Bool, true, false, if◌then◌else◌, ◌⊎◌, inl, inr, Result, Ok, List, []}
use Rattle.std.specs.Prelude.{Option}
use Rattle.std.proofs.Common.{◌∷◌, ◌++◌, fold, bit_and, bit_or, refl, ap, sym, ◌∙◌, subst, arith, eq-eqb, eqb-true}
use Rattle.std.proofs.Common.{IsTrue}
use Rattle.std.specs.List.{All, Contains}
use Rattle.std.proofs.lemmas.List.Elements.{All-head, All-tail, Contains-append_cases}
use Rattle.std.proofs.lemmas.List.Folds.{list_any-append}
use Rattle.std.proofs.lemmas.List.Sums.{fold-append}
use Rattle.std.proofs.lemmas.Bool.{or_left, or_right}
use Rattle.std.proofs.lemmas.Nat.{and_assoc}
use Rattle.std.proofs.lemmas.Nat.Bits.{bit_at_or, bit_at_and, same_from_bits}
use Rattle.nio_base.specs.declared.numbers.ChanNo.{ChanNo}
use Rattle.nio_base.specs.declared.numbers.SelNo.{SelNo}
use Rattle.nio_history.proofs.Soundness.{both_ways}
use Rattle.nio_history.specs.OwnEvents.{has}
use Rattle.nio_history.specs.declared.act.Act.{Act}
use Rattle.nio_history.specs.declared.act.Act.TheVariants.{Mark}
use Rattle.nio_history.specs.declared.found.Mark.{Mark as KeyMark}
use Rattle.nio_history.specs.declared.found.Mode.{Mode}
use Rattle.nio_steps.proofs.Lists.{parted, contains-none}
use Rattle.nio_steps.proofs.ToldLaws.{marks_only_as_told}
use Rattle.nio_steps.proofs.UnmarkedLaws.{begin_unmarked, again_unmarked}
use Rattle.nio_base.specs.Ops.{is_within}
use Rattle.nio_steps.specs.SelectCalls.{Selection, Begins, Poll, Tells, ToldReply, again, told_at, told_bits}
use Rattle.nio_steps.specs.SelectCalls.{begin_finds_busy}
use Rattle.nio_steps.specs.Selections.{marks_on}
use Rattle.nio_steps.specs.Waiting.{Run, acts_of, Retries}
use Rattle.nio_steps.specs.declared.looked.LookedKey.{LookedKey}
use Rattle.nio_steps.specs.declared.refusal.BeginError.{BeginError}
use Rattle.nio_poller.specs.Polls.{told_of_channel}
use Rattle.nio_poller.specs.Selecting.{MarksReady}

-- ---- sets of bits

-- a is a part of b
abbrev pub IsPart : ℕ → ℕ → Type 0
IsPart a b = bit_and a b ≡ a

part_left : (a b c : ℕ) → IsPart a b → IsPart a (bit_or b c)
part_left a b c part =
    ap (λ n. bit_and n (bit_or b c)) (sym part)
    ∙ (same_from_bits (bit_and (bit_and a b) (bit_or b c)) (bit_and a b)
    (λ i. simp (bit_at_or, bit_at_and) (omega arith)) ∙ part)

part_right : (b c : ℕ) → IsPart c (bit_or b c)
part_right b c = same_from_bits (bit_and c (bit_or b c)) c (λ i. simp (bit_at_or, bit_at_and) (omega arith))

pub part_met : (a b c : ℕ) → IsPart a c → IsPart (bit_and a b) c
part_met a b c part =
    ap (λ n. bit_and (bit_and n b) c) (sym part)
    ∙ (same_from_bits (bit_and (bit_and (bit_and a c) b) c) (bit_and (bit_and a c) b)
    (λ i. simp bit_at_and (omega arith))
    ∙ ap (λ n. bit_and n b) part)

pub part_then : (a b c : ℕ) → IsPart a b → IsPart b c → IsPart a c
part_then a b c first second =
    ap (λ n. bit_and n c) (sym first) ∙ (and_assoc c a b ∙ (ap (bit_and a) second ∙ first))

pub within_trans : (a b c : ℕ) → IsPart a b → IsTrue (is_within b c) → IsTrue (is_within a c)
within_trans a b c first second =
    eq-eqb (bit_and a c) a (part_then a b c first (eqb-true (bit_and b c) b second))

-- the union of the bits of some elements of a list
module _ {X : Type 0} (test : X → Bool) (bits_of : X → ℕ) where
  abbrev with_one : ℕ → X → ℕ
  with_one bits x = if test x then bit_or bits (bits_of x) else bits

  stays : (a bits : ℕ) (xs : List X) → IsPart a bits → IsPart a (fold with_one bits xs)
  stays a bits [] part = part
  stays a bits (x ∷ xs) part = stays a (with_one bits x) xs (by_test (test x))
    where
      by_test : (b : Bool) → IsPart a (if b then bit_or bits (bits_of x) else bits)
      by_test true = part_left a bits (bits_of x) part
      by_test false = part

  united : (xs : List X) (x : X) → test x ≡ true → Contains xs x → IsPart (bits_of x) (fold with_one 0 xs)
  united xs x passes there =
      let cut = parted xs x there in
      let before : ℕ = fold with_one 0 cut.past in
      let here : with_one before x ≡ bit_or before (bits_of x) = ap
      (λ (b : Bool). if b then bit_or before (bits_of x) else before) passes in
      let part : IsPart (bits_of x) (with_one before x) = subst (IsPart (bits_of x)) (sym here)
      (part_right before (bits_of x)) in
      let whole : fold with_one 0 xs ≡ fold with_one (with_one before x) cut.later = ap (fold with_one 0) cut.parts
      ∙ fold-append with_one 0 cut.past (x ∷ cut.later) in
      subst (IsPart (bits_of x)) (sym whole) (stays (bits_of x) (with_one before x) cut.later part)

-- ---- what was told of a key, and of a channel

pub told_in_pairs : (pairs : List (ℕ × ℕ)) (i bits : ℕ) → Contains pairs (i, bits) → IsPart bits (told_at pairs i)
told_in_pairs pairs i bits there =
    united (λ (pair : ℕ × ℕ). pair.0 == i) (λ pair. pair.1) pairs (i, bits) (eq-eqb i i refl) there

-- what was told of a key that was asked for was told of its channel
pub told_in_channel : (asked : List LookedKey) (pairs : List (ℕ × ℕ)) (entry : LookedKey) → Contains asked entry
    → IsPart (told_at pairs entry.index) (told_of_channel asked pairs entry.channel)
told_in_channel asked pairs entry there =
    united (λ (x : LookedKey). x.channel.0 == entry.channel.0) (λ x. told_at pairs x.index) asked entry
    (eq-eqb entry.channel.0 entry.channel.0 refl) there

-- what was told of a key and asked for was told of its channel
pub bits_in_channel : (asked : List LookedKey) (pairs : List (ℕ × ℕ)) (entry : LookedKey) → Contains asked entry
    → IsTrue (is_within (told_bits pairs entry) (told_of_channel asked pairs entry.channel))
bits_in_channel asked pairs entry there =
    eq-eqb (bit_and (told_bits pairs entry) (told_of_channel asked pairs entry.channel)) (told_bits pairs entry)
    (part_met (told_at pairs entry.index) entry.interest (told_of_channel asked pairs entry.channel)
    (told_in_channel asked pairs entry there))

-- a `told` marks keys only with operations that their channels are ready for
pub marks_ready : (ready : ChanNo → ℕ) (selection : Selection) (poll : Poll) (acts : List Act) (answer : ToldReply)
    → ((c : ChanNo) → ready c ≡ told_of_channel selection.looked poll.pairs c)
    → Tells selection poll acts answer → (s : SelNo) (i told : ℕ) (from : KeyMark)
    → Contains acts (Mark s i from told (Ok tt)) → MarksReady ready selection.looked i told
marks_ready ready selection poll acts answer is run s i told from there =
    let fits = marks_only_as_told selection poll acts answer run s i told from (Ok tt) there in
    let entry = fits.entry in
    record {
      entry = entry;
      is_looked = fits.looked;
      at_index = fits.at_index;
      bits = subst (λ n. IsTrue (is_within n (ready entry.channel))) (sym fits.bits)
          (subst (λ n. IsTrue (is_within (told_bits poll.pairs entry) n)) (sym (is entry.channel))
          (bits_in_channel selection.looked poll.pairs entry fits.looked));
      some = fits.some;
    }

-- ---- where nothing was marked

-- no mark among these acts succeeded
abbrev pub Unmarked : List Act → Type 0
Unmarked acts = (s : SelNo) (i told : ℕ) (from : KeyMark) → Contains acts (Mark s i from told (Ok tt)) → ⊥

any_there : (p : Act → Bool) (acts : List Act) (act : Act) → Contains acts act → p act ≡ true → has p acts ≡ true
any_there p acts act there is =
    let cut = parted acts act there in
    ap (has p) cut.parts
    ∙ (list_any-append p cut.past (act ∷ cut.later)
    ∙ or_right (has p cut.past) (has p (act ∷ cut.later)) (or_left (p act) (has p cut.later) is))

pub unmarked_on : (acts : List Act) (s : SelNo) (i told : ℕ) (from : KeyMark) → has (marks_on s.0) acts ≡ false
    → Contains acts (Mark s i from told (Ok tt)) → ⊥
unmarked_on acts s i told from none there =
    both_ways (has (marks_on s.0) acts)
    (any_there (marks_on s.0) acts (Mark s i from told (Ok tt)) there (eq-eqb s.0 s.0 refl)) none

pub unmarked_none : Unmarked []
unmarked_none s i told from there = contains-none _ there

pub unmarked_append : (xs ys : List Act) → Unmarked xs → Unmarked ys → Unmarked (xs ++ ys)
unmarked_append xs ys first second s i told from there =
    by_place (Contains-append_cases xs ys (Mark s i from told (Ok tt)) there)
  where
    by_place : Contains xs (Mark s i from told (Ok tt)) ⊎ Contains ys (Mark s i from told (Ok tt)) → ⊥
    by_place (inl here) = first s i told from here
    by_place (inr here) = second s i told from here

pub again-unmarked : (selection next : Selection) (poll : Poll) (acts : List Act)
    → Tells selection poll acts (again next) → Unmarked acts
again-unmarked selection next poll acts run s i told from there =
    let on : s ≡ selection.selector =
    (marks_only_as_told selection poll acts (again next) run s i told from (Ok tt) there).on_selector in
    unmarked_on acts s i told from
    (subst (λ (x : SelNo). has (marks_on x.0) acts ≡ false) (sym on)
    (again_unmarked selection next poll acts run).1) there

begin-unmarked : (s : SelNo) (mode : Mode) (known : Option (List LookedKey)) (acts : List Act)
    (answer : Result Selection BeginError) → Begins s mode known acts answer → Unmarked acts
begin-unmarked s mode known acts answer run on i told from there =
    unmarked_on acts on i told from (begin_unmarked on.0 s mode known acts answer run) there

-- beginning again and again marks no key
pub begins-unmarked : (s : SelNo) (mode : Mode) (known : Option (List LookedKey)) (acts : List Act)
    (answer : Result Selection BeginError)
    → Retries (Begins s mode known) begin_finds_busy acts answer → Unmarked acts
begins-unmarked s mode known acts answer repeats =
    subst Unmarked (sym repeats.parts)
    (unmarked_append repeats.before repeats.last.acts
    (subst Unmarked (sym repeats.tries.parts) (each repeats.tries.runs repeats.tries.made))
    (begin-unmarked s mode known repeats.last.acts repeats.last.answer repeats.made))
  where
    Made : Run (Unit {0}) (Result Selection BeginError) → Type 0
    Made run = Begins s mode known run.acts run.answer

    each : (runs : List (Run (Unit {0}) (Result Selection BeginError))) → All Made runs → Unmarked (acts_of runs)
    each [] made = unmarked_none
    each (run ∷ later) made =
        unmarked_append run.acts (acts_of later)
        (begin-unmarked s mode known run.acts run.answer (All-head Made run later made))
        (each later (All-tail Made run later made))
