-- Lists that are gone over from the front, and the lines of a text among them.
use Rattle.std.proofs.Common.{◌≡◌, ℕ, ◌+◌, ◌<◌, List, ◌∷◌, [], ◌++◌, length, drop, take, get_or, refl, sym, ◌∙◌, ap}
use Rattle.std.proofs.Common.{subst, append-nil, arith, add-one, drop-cons, ◌==◌}
use Rattle.std.specs.Prelude.{map}
use Rattle.std.specs.Borrow.{Bor}
use Rattle.std.proofs.Math.ListN.{get_or-map}
use Rattle.std.proofs.Math.Seq.{take-suc}
use Rattle.std.proofs.lemmas.List.{take-append-drop, length-map, length-take-le, get_or_default}
use Rattle.nio_base.specs.declared.numbers.CallerNo.{CallerNo}
use Rattle.nio_language.proofs.Spaces.{split_join, caller_spaceless, call_spaceless}
use Rattle.nio_language.specs.Calls.{IsLine, call_words}
use Rattle.nio_language.specs.Words.{caller_word}
use Rattle.nio_language.specs.declared.call.Call.{Call}
use Rattle.nio_script.specs.Entries.{Adds, IsNoLine, StopsAt}
use Rattle.nio_script.specs.declared.script.ScriptError.{ScriptError}
use Rattle.nio_script.specs.declared.script.ScriptError.TheVariants.{BadLine, Memory}
use Rattle.std.specs.List.{slice_split}

-- Behind the first i items stands this one.
pub record IsNext {A : Type 0} (xs : List A) (i : ℕ) (x : A) : Type 0 where
  pub within : i < length xs
  pub at : get_or xs i x ≡ x

module _ {A : Type 0} {xs : List A} {i : ℕ} {x : A} (next : IsNext xs i x) where
  pub take_one_more : take (i + 1) xs ≡ take i xs ++ x ∷ []
  take_one_more = rw (add-one, take-suc xs i x next.within, next.at) refl

  pub parts : xs ≡ take i xs ++ x ∷ drop (i + 1) xs
  parts = sym (take-append-drop i xs)
      ∙ ap (λ ys. take i xs ++ ys) (rw (drop-cons xs i x next.within, next.at, add-one) refl)

  pub number_of_next : length (take i xs) + 1 ≡ i + 1
  number_of_next = ap (λ n. n + 1) (length-take-le i xs (omega (arith, next.within)))

-- the item of a slice of references
pub next_now : (items : List (Bor (List ℕ))) (i : ℕ) (d : Bor (List ℕ)) → i < length items
    → IsNext (map (λ r. r.now) items) i (get_or items i d).now
next_now items i d within = record {
  within = simp length-map within;
  at =
      get_or-map (λ r. r.now) items i (get_or items i d)
      ∙ ap (λ r. r.now) (get_or_default items i (get_or items i d) d within);
}

-- what is read of the first i lines, and of the next
pub reads_more : {A : Type 0} (Are : List (List ℕ) → List A → Type 0) {AreSo : List A → Type 0} {lines : List (List ℕ)}
    {i : ℕ} {line : List ℕ} {before after : List A}
    → IsNext lines i line → Adds AreSo before after
    → ((added : List A) → AreSo added → Are (take i lines ++ line ∷ []) (before ++ added))
    → Are (take (i + 1) lines) after
reads_more Are {lines = lines} {i = i} {before = before} next adds append =
    subst (Are (take (i + 1) lines)) (sym adds.adds)
    (subst (λ ls. Are ls (before ++ adds.added)) (sym (take_one_more next)) (append adds.added adds.so))

-- nothing is added
pub adds_nothing : {A : Type 0} {AreSo : List A → Type 0} (before : List A) → AreSo [] → Adds AreSo before before
adds_nothing before reads = record { added = []; so = reads; adds = sym (append-nil before) }

-- the next line has no calls
pub stops_here : {A : Type 0} {Are : List (List ℕ) → List A → Type 0} {lines : List (List ℕ)} {i n skipped : ℕ}
    {line : List ℕ} {calls : List A}
    → ((xs ys : List (List ℕ)) (all : List A) → Are (xs ++ ys) all → (rest : List A) × Are ys rest)
    → IsNext lines i line → Are (take i lines) calls → IsNoLine Are line → skipped + i + 1 ≡ n
    → StopsAt Are skipped lines n
stops_here {lines = lines} {i = i} {skipped = skipped} {line = line} {calls = calls} behind next are none e = record {
  line = line;
  before = take i lines;
  after = drop (i + 1) lines;
  calls = calls;
  parts = parts next;
  number = omega (arith, number_of_next next, e);
  good = are;
  bad = λ others all. let rest = behind (take i lines) (line ∷ []) others all in none rest.0 rest.1;
}

-- an error that names no line is a want of memory
pub only_memory : (e : ScriptError) → ((n : ℕ) → e ≡ BadLine n → ⊥) → e ≡ Memory
only_memory (BadLine n) none = absurd (none n refl)
only_memory Memory none = refl

-- the words of a call's line
pub line_words_of : {caller : CallerNo} {c : Call} {line : List ℕ} → IsLine caller c line
    → slice_split (λ b. b == 32) line ≡ caller_word caller ∷ call_words c
line_words_of {caller = caller} {c = c} is =
    ap (slice_split (λ b. b == 32)) is.text
    ∙ split_join (caller_word caller) (call_words c) (caller_spaceless caller.0 is.caller_fits)
    (call_spaceless c is.call_fits)
