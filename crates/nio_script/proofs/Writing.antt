-- What is kept while bytes are written.
use Rattle.std.proofs.Common.{◌≡◌, ℕ, zero, suc, ◌+◌, ◌-◌, ◌<◌, Bool, false, List, [], ◌++◌, length, take, drop, Some}
use Rattle.std.proofs.Common.{None, refl, sym, ap, ◌∙◌, length-drop, append_assoc, take-append-drop, arith}
use Rattle.std.specs.Prelude.{Option}
use Rattle.std.proofs.Math.Seq.{take-add, take-length, take-append_seam, take-append-add}
use Rattle.std.specs.Io.KnownBytes.{append_known}
use Rattle.nio_bytes.specs.Sink.{shown}
use Rattle.nio_bytes.specs.declared.sink.Sink as sink
use Rattle.nio_script.specs.Output.{Writes, WritesPrefix}
use Rattle.nio_script.proofs.Bytes.{append_known-nil, append_known-append}

-- what stands from n on
pub rest_from : (n : ℕ) (bytes : List ℕ) → take (length bytes - n) (drop n bytes) ≡ drop n bytes
rest_from n bytes = ap (λ m. take m (drop n bytes)) (sym (length-drop n bytes)) ∙ take-length (drop n bytes)

-- what is shown last counts
shown-shown : (known : Option Bool) (first second : Bool) → shown (shown known first) second ≡ shown known second
shown-shown None first second = refl
shown-shown (Some value) first second = refl

module _ {K : Type 0} (k : sink.Ghosts K) where
  -- nothing yet
  pub writes_none : (old : K) → Writes k old old []
  writes_none old = sym (append_known-nil (k.taken old))

  -- some bytes, and then more
  pub writes_both : (old mid new : K) (bytes more : List ℕ) → Writes k old mid bytes → Writes k mid new more
      → Writes k old new (bytes ++ more)
  writes_both old mid new bytes more first second =
      second ∙ ap (λ known. append_known known more) first ∙ sym (append_known-append (k.taken old) bytes more)

  -- n bytes, and then some of the rest
  pub writes_on : (old mid new : K) (bytes : List ℕ) (n m : ℕ) → Writes k old mid (take n bytes)
      → Writes k mid new (take m (take (length bytes - n) (drop n bytes))) → Writes k old new (take (n + m) bytes)
  writes_on old mid new bytes n m first second =
      let rest = ap (λ xs. append_known (k.taken mid) (take m xs)) (rest_from n bytes) in
      writes_both old mid new (take n bytes) (take m (drop n bytes)) first (second ∙ rest)
      ∙ ap (append_known (k.taken old)) (sym (take-add n m bytes))

  -- all bytes are a prefix of them
  pub writes_whole : (old new : K) (bytes : List ℕ) → Writes k old new bytes → WritesPrefix k old new bytes
  writes_whole old new bytes writes = (length bytes, writes ∙ ap (append_known (k.taken old)) (sym (take-length bytes)))

  -- a sink that was written to, or not yet, and then is, isn't flushed any more
  pub unflushed_on : (old mid new : K) (n : ℕ) → (n ≡ 0 → mid ≡ old)
      → (0 < n → k.flushed mid ≡ shown (k.flushed old) false)
      → k.flushed new ≡ shown (k.flushed mid) false → k.flushed new ≡ shown (k.flushed old) false
  unflushed_on old mid new zero same later e = e ∙ ap (λ sink. shown (k.flushed sink) false) (same refl)
  unflushed_on old mid new (suc n) same later e =
      e ∙ ap (λ known. shown known false) (later (omega arith)) ∙ shown-shown (k.flushed old) false false

  -- nothing is a prefix of any bytes
  pub writes_nothing : (old : K) (bytes : List ℕ) → WritesPrefix k old old bytes
  writes_nothing old bytes = (0, writes_none old)

  -- what was written is a prefix of more, after what was written before
  pub writes_prefix_after : (old mid new : K) (bytes more rest : List ℕ) → Writes k old mid bytes
      → WritesPrefix k mid new more → WritesPrefix k old new (bytes ++ (more ++ rest))
  writes_prefix_after old mid new bytes more rest first second =
      let n = second.0 in
      let part = take n more in
      let same = ap (λ xs. xs ++ rest) (sym (take-append-drop n more)) ∙ append_assoc part (drop n more) rest in
      let cut : take (length part) (more ++ rest) ≡ part = ap (take (length part)) same
      ∙ take-append_seam part (drop n more ++ rest) in
      let all = take-append-add bytes (more ++ rest) (length part) ∙ ap (λ xs. bytes ++ xs) cut in (
        length bytes + length part,
        writes_both old mid new bytes part first second.1
            ∙ ap (append_known (k.taken old)) (sym all),
      )
