-- The arguments of `start-timed`, from their words.
use Rattle.std.proofs.Common.{◌≡◌, ℕ, ◌<◌, ◌≤◌, List, [], ◌∷◌, get_or, length, map, Some, ap, ◌∙◌, arith}
use Rattle.std.specs.Prelude.{⊤}
use Rattle.std.specs.Borrow.{Bor}
use Rattle.std.specs.Fmt.{decimal}
use Rattle.std.proofs.lemmas.Option.{same_Some}
use Rattle.nio_base.specs.declared.group.OpKind.{OpKind}
use Rattle.nio_base.specs.declared.numbers.GChan.{GChan}
use Rattle.nio_language.specs.GroupWords.{IsGroupName, group_channel_word, operation_kind_word}
use Rattle.nio_language.specs.Reading.{Reads}
use Rattle.nio_language.specs.Words.{IsNumber}
use Rattle.nio_language.proofs.Ones.{word_at}
use Rattle.nio_timed.specs.Lines.{IsTimedStart, start_words}
use Rattle.nio_timed.specs.declared.call.TimedStart.{TimedStart}

abbrev pub start_of : GChan → OpKind → ℕ → ℕ → ℕ → TimedStart
start_of chan kind len now limit = record { chan = chan; kind = kind; len = len; now = now; limit = limit }

pub same_start : (s r : TimedStart) → s.chan ≡ r.chan → s.kind ≡ r.kind → s.len ≡ r.len → s.now ≡ r.now
    → s.limit ≡ r.limit → s ≡ r
same_start s r chan kind len now limit =
    ap (λ x. start_of x s.kind s.len s.now s.limit) chan ∙ ap (λ x. start_of r.chan x s.len s.now s.limit) kind
    ∙ ap (λ x. start_of r.chan r.kind x s.now s.limit) len ∙ ap (λ x. start_of r.chan r.kind r.len x s.limit) now
    ∙ ap (λ x. start_of r.chan r.kind r.len r.now x) limit

module _ (chan : GChan) (kind : OpKind) (len now limit big : ℕ) (is_big : big ≡ 4294967295) where
  five : (a b l n m : List ℕ) → Reads IsGroupName group_channel_word a (Some chan)
      → Reads (λ (k : OpKind). ⊤) operation_kind_word b (Some kind) → Reads (λ n. n ≤ big) decimal l (Some len)
      → Reads (λ n. n ≤ 18446744073709551615) decimal n (Some now)
      → Reads (λ n. n ≤ 18446744073709551615) decimal m (Some limit)
      → Reads IsTimedStart start_words (a ∷ b ∷ l ∷ n ∷ m ∷ []) (Some (start_of chan kind len now limit))
  five a b l n m reads_chan reads_kind reads_len reads_now reads_limit = record {
    found = (
      record {
        chan = reads_chan.found.0;
        len = omega (arith, reads_len.found.0, is_big);
        now = omega (arith, reads_now.found.0);
        limit = omega (arith, reads_limit.found.0);
      },
      ap (λ w. w ∷ b ∷ l ∷ n ∷ m ∷ []) reads_chan.found.1
          ∙ ap (λ w. group_channel_word chan ∷ w ∷ l ∷ n ∷ m ∷ []) reads_kind.found.1
          ∙ ap (λ w. group_channel_word chan ∷ operation_kind_word kind ∷ w ∷ n ∷ m ∷ []) reads_len.found.1
          ∙ ap (λ w. group_channel_word chan ∷ operation_kind_word kind ∷ decimal len ∷ w ∷ m ∷ []) reads_now.found.1
          ∙ ap (λ w. group_channel_word chan ∷ operation_kind_word kind ∷ decimal len ∷ decimal now ∷ w ∷ [])
          reads_limit.found.1,
    );
    only = λ s fits e.
        ap Some (same_start (start_of chan kind len now limit) s
        (same_Some chan s.chan (reads_chan.only s.chan fits.chan (word_at 0 e)))
        (same_Some kind s.kind (reads_kind.only s.kind tt (word_at 1 e)))
        (same_Some len s.len (reads_len.only s.len (omega (arith, fits.len, is_big)) (word_at 2 e)))
        (same_Some now s.now (reads_now.only s.now (omega (arith, fits.now)) (word_at 3 e)))
        (same_Some limit s.limit (reads_limit.only s.limit (omega (arith, fits.limit)) (word_at 4 e))));
  }

  pub reads_start : (args : List (Bor (List ℕ))) (d : Bor (List ℕ)) → 5 ≤ length args → length args < 6
      → Reads IsGroupName group_channel_word (get_or args 0 d).now (Some chan)
      → Reads (λ (k : OpKind). ⊤) operation_kind_word (get_or args 1 d).now (Some kind)
      → Reads (λ n. n ≤ big) decimal (get_or args 2 d).now (Some len)
      → Reads (λ n. n ≤ 18446744073709551615) decimal (get_or args 3 d).now (Some now)
      → Reads (λ n. n ≤ 18446744073709551615) decimal (get_or args 4 d).now (Some limit)
      → Reads IsTimedStart start_words (map (λ w. w.now) args) (Some (start_of chan kind len now limit))
  reads_start [] d some few = absurd (omega (arith, some))
  reads_start (a ∷ []) d some few = absurd (omega (arith, some))
  reads_start (a ∷ b ∷ []) d some few = absurd (omega (arith, some))
  reads_start (a ∷ b ∷ l ∷ []) d some few = absurd (omega (arith, some))
  reads_start (a ∷ b ∷ l ∷ n ∷ []) d some few = absurd (omega (arith, some))
  reads_start (a ∷ b ∷ l ∷ n ∷ m ∷ []) d some few = five a.now b.now l.now n.now m.now
  reads_start (a ∷ b ∷ l ∷ n ∷ m ∷ x ∷ xs) d some few = absurd (omega (arith, few))
