-- What a direction buffers and has written, told from its trace and its buffer.
use Rattle.std.proofs.Common.{◌≡◌, ℕ, ◌+◌, ◌-◌, ◌≤◌, List, [], ◌++◌, length, take, drop, Bool, sym, ap, ◌∙◌, arith}
use Rattle.std.proofs.Common.{append_assoc, length-append, length-drop}
use Rattle.std.proofs.lemmas.List.{length-take-le, take-append-drop}
use Rattle.std.proofs.Math.Seq.{take-add, take-append-add, take-length, drop-append_seam}
use Rattle.circular_buffer.specs.Buffer.{Buffer}
use Rattle.nio_relay.specs.Flow.{Flow, IsLawful}
use Rattle.nio_relay.specs.Kept.{written_of, IsKept}

-- the trace ends with the buffer's items
abbrev pub EndsWith : List ℕ → List ℕ → Type 0
EndsWith taken items = taken ≡ written_of taken items ++ items

pub length-items : (taken items : List ℕ) → EndsWith taken items → length items ≤ length taken
length-items taken items whole = omega (arith, ap length whole, length-append (written_of taken items) items)

pub length-written_of : (taken items : List ℕ) → EndsWith taken items
    → length (written_of taken items) ≡ length taken - length items
length-written_of taken items whole = length-take-le (length taken - length items) taken (omega arith)

-- what is buffered is what the buffer has
pub buffered-items : (taken items : List ℕ) → EndsWith taken items
    → drop (length (written_of taken items)) taken ≡ items
buffered-items taken items whole = let w =
    written_of taken items in ap (drop (length w)) whole ∙ drop-append_seam w items

pub written_of-nil : (taken : List ℕ) → written_of taken [] ≡ taken
written_of-nil taken = let all : length taken - 0 ≡ length taken =
    omega arith in ap (λ (n : ℕ). take n taken) all ∙ take-length taken

-- once all but the last `left` items are dropped, the others are written
pub written_next : (taken items kept : List ℕ) (n left : ℕ) → EndsWith taken items
    → n ≤ length (drop (length (written_of taken items)) taken) → left ≡ length items - n
    → kept ≡ drop (length items - left) items
    → written_of taken kept ≡ written_of taken items ++ take n (drop (length (written_of taken items)) taken)
written_next taken items kept n left whole few left_is kept_is =
    let before = length taken - length items in
    let fits : length items ≤ length taken = length-items taken items whole in
    let at : length (written_of taken items) ≡ before = length-written_of taken items whole in
    let all_held : length (drop (length (written_of taken items)) taken) ≡ length items = ap length
    (buffered-items taken items whole) in
    let rest : length taken - length kept ≡ before
    + n = omega (arith, ap length kept_is, length-drop (length items - left) items) in
    rw (rest, at) (take-add before n taken)

-- where nothing was buffered, the first n of these bytes were written at once, and the others are kept
pub written_passed : (taken items bytes kept : List ℕ) (n : ℕ) → EndsWith taken items → items ≡ [] → n ≤ length bytes
    → kept ≡ drop n bytes
    → written_of (taken ++ bytes) kept
    ≡ written_of taken items ++ take n (drop (length (written_of taken items)) (taken ++ bytes))
written_passed taken items bytes kept n whole none few kept_is =
    let before : written_of taken items ≡ taken = ap (written_of taken) none ∙ written_of-nil taken in
    let count : length (taken ++ bytes) - length kept ≡ length taken + n
    = omega (arith, ap length kept_is, length-drop n bytes, length-append taken bytes) in
    rw (before, count, drop-append_seam taken bytes) (take-append-add taken bytes n)

-- what was taken then ends with what is kept
pub EndsWith-passed : (taken bytes kept : List ℕ) (n : ℕ) → n ≤ length bytes → kept ≡ drop n bytes
    → EndsWith (taken ++ bytes) kept
EndsWith-passed taken bytes kept n few kept_is =
    let count : length (taken ++ bytes) - length kept ≡ length taken + n
    = omega (arith, ap length kept_is, length-drop n bytes, length-append taken bytes) in
    rw (count, take-append-add taken bytes n, kept_is)
    (ap (λ xs. taken ++ xs) (sym (take-append-drop n bytes)) ∙ sym (append_assoc taken (take n bytes) (drop n bytes)))

module _ (taken : List ℕ) (buffer : Buffer ℕ) (ended shut failed : Bool) where
  -- the flow that contracts see
  abbrev pub seen : Flow
  seen = record { taken = taken; written = written_of taken buffer.items; ended = ended; shut = shut; failed = failed }

  pub seen-IsLawful : IsKept taken buffer ended shut → IsLawful seen
  seen-IsLawful kept = record {
    in_order = (buffer.items, sym kept.whole);
    few_buffered = rw (buffered-items taken buffer.items kept.whole) kept.few_buffered;
    shut_after_end = kept.shut_after_end;
    shut_whole = λ is_shut. ap (written_of taken) (kept.shut_empty is_shut) ∙ written_of-nil taken;
  }
