-- What a net's call did with the front of a buffer, as a call with the whole of it.
use Rattle.std.proofs.Common.{◌≡◌, ℕ, ◌≤◌, option_map, Result, Ok, Err, List, ◌++◌, length, take, drop, ap, sym, ◌∙◌}
use Rattle.std.proofs.Common.{subst, arith, length-append}
use Rattle.std.proofs.Math.Seq.{drop-append_seam}
use Rattle.std.proofs.lemmas.List.{length-take-le, take-append-drop, take-append-le}
use mathlib.Core.List.{IsPrefix}
use Rattle.circular_buffer.specs.Buffer.{Buffer}
use Rattle.nio_base.specs.declared.numbers.ChanId.{ChanId}
use Rattle.nio_link.specs.Links.{Link}
use Rattle.nio_link.specs.Nets.{NetView, Reads, Writes}
use Rattle.nio_link.specs.declared.net.Failed.{Failed}
use Rattle.nio_link.specs.declared.net.Got.{Got}
use Rattle.nio_link.specs.declared.net.Got.TheVariants as got
use Rattle.nio_link.specs.declared.net.Put.{Put}
use Rattle.nio_link.specs.declared.net.Put.TheVariants as put
use Rattle.nio_checked.specs.Buffered.{IsGotBy, came_to}

-- ---- reading

-- so many bytes came to the front of a block, and from there to a buffer
take_front : (n m : ℕ) (xs : List ℕ) → n ≤ m → m ≤ length xs → take n (take m xs) ≡ take n xs
take_front n m xs within all =
    let many : length (take m xs) ≡ m = length-take-le m xs all in
    sym (take-append-le n (take m xs) (drop m xs) (omega (arith, many)))
    ∙ ap (λ (ys : List ℕ). take n ys) (take-append-drop m xs)

take_self : (n : ℕ) (xs : List ℕ) → n ≤ length xs → take n (take n xs) ≡ take n xs
take_self n xs all = take_front n n xs (omega arith) all

module _ (chan : ChanId) (old new : NetView) where
  reads_some : (before now came : List ℕ) (n : ℕ) → Reads chan old new before now (Ok (got.Bytes n))
      → take n came ≡ take n now → n ≤ length came → Reads chan old new came came (Ok (got.Bytes n))
  reads_some before now came n reads same within = record {
    cause = reads.cause;
    others = reads.others;
    got = (reads.got.0, within);
    link = reads.link
        ∙ ap (λ (bytes : List ℕ). let l : Link = record (old.link chan) {
          got = option_map (λ front. front ++ bytes) (old.link chan).got;
        } in l) (sym same);
    links = reads.links;
    ready = reads.ready;
    ready_else = reads.ready_else;
    places = reads.places;
    accepted = reads.accepted;
    polls = reads.polls;
    shown = reads.shown;
  }

  pub reads_into : (was is : Buffer ℕ) (before block : List ℕ) (size : ℕ) (answer : Got) (n : ℕ)
      → answer ≡ got.Bytes n → is.items ≡ was.items ++ take n block → size ≤ length block → IsGotBy size answer
      → Reads chan old new before (take size block) (Ok answer)
      → Reads chan old new (came_to was is) (came_to was is) (Ok (got.Bytes n))
  reads_into was is before block size answer n bytes more fits given reads =
      let some : IsGotBy size (got.Bytes n) = subst (λ (x : Got). IsGotBy size x) bytes given in
      let came : came_to was is ≡ take n block =
      ap (λ (xs : List ℕ). drop (length was.items) xs) more ∙ drop-append_seam was.items (take n block) in
      let many : length (take n block) ≡ n = length-take-le n block (omega (arith, some.1, fits)) in
      reads_some before (take size block) (came_to was is) n
      (subst (λ (x : Got). Reads chan old new before (take size block) (Ok x)) bytes reads)
      (ap (λ (xs : List ℕ). take n xs) came ∙ take_self n block (omega (arith, some.1, fits))
      ∙ sym (take_front n size block some.1 fits))
      (omega (arith, ap length came, many))

  -- ---- writing

  pub writes_front : (front all : List ℕ) (result : Result Put Failed) → IsPrefix front all
      → Writes chan old new front result → Writes chan old new all result
  writes_front front all (Ok (put.Bytes n)) (rest, is) writes =
      let same : take n all ≡ take n front =
      ap (λ (xs : List ℕ). take n xs) (sym is) ∙ take-append-le n front rest writes.put.1 in record {
        cause = writes.cause;
        others = writes.others;
        put = (writes.put.0, omega (arith, writes.put.1, ap length is, length-append front rest));
        link = writes.link
            ∙ ap (λ (bytes : List ℕ). let l : Link = record (old.link chan) {
              put = option_map (λ before. before ++ bytes) (old.link chan).put;
            } in l) (sym same);
        links = writes.links;
        ready = writes.ready;
        ready_else = writes.ready_else;
        places = writes.places;
        accepted = writes.accepted;
        polls = writes.polls;
        shown = writes.shown;
      }
  writes_front front all (Ok put.NotYet) prefix writes = record {
    cause = writes.cause;
    others = writes.others;
    put = tt;
    link = writes.link;
    links = writes.links;
    ready = writes.ready;
    ready_else = writes.ready_else;
    places = writes.places;
    accepted = writes.accepted;
    polls = writes.polls;
    shown = writes.shown;
  }
  writes_front front all (Err failed) prefix writes = record {
    cause = writes.cause;
    others = writes.others;
    put = tt;
    link = writes.link;
    links = writes.links;
    ready = writes.ready;
    ready_else = writes.ready_else;
    places = writes.places;
    accepted = writes.accepted;
    polls = writes.polls;
    shown = writes.shown;
  }

  pub writes_as : (front all : List ℕ) (answer now : Put) → answer ≡ now → IsPrefix front all
      → Writes chan old new front (Ok answer) → Writes chan old new all (Ok now)
  writes_as front all answer now is prefix writes =
      subst (λ (x : Put). Writes chan old new all (Ok x)) is (writes_front front all (Ok answer) prefix writes)
