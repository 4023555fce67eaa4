-- Pieces of work on one direction, one after the other.
use Rattle.std.proofs.Common.{◌≡◌, ◌≢◌, ℕ, ◌≤◌, List, [], ◌++◌, length, take, drop, IsTrue, sym, ap}
use Rattle.std.proofs.Common.{subst, ◌∙◌, arith, length-append, length-drop}
use Rattle.std.proofs.Math.ListN.{drop_of_length-le}
use Rattle.std.proofs.Math.Seq.{drop-append_seam}
use Rattle.std.proofs.lemmas.List.{append-nil, length-take}
use Rattle.nio_base.specs.declared.numbers.ChanId.{ChanId}
use Rattle.nio_link.proofs.Channels.{all_same, channel_is_or_not}
use Rattle.nio_relay.specs.Flow.{Flow, IsLawful, buffered, takes, writes}
use Rattle.nio_base.specs.Ops.{is_within}
use Rattle.nio_link.specs.Nets.{Members}
use Rattle.nio_serve.specs.Nets.{AreApart, Works}
use Rattle.nio_serve.specs.Passing.{Passes}
use Rattle.nio_serve.specs.Relaying.{KeepsSink, KeepsSource, SameSink, SameSource}
use Rattle.nio_serve.proofs.Ends.{end_moved, end_sink, end_source}
use Rattle.nio_serve.proofs.Working.{works_first, works_second, works_then}

-- where nothing was buffered and all that was read was written, nothing is buffered
pub buffered_passed : (f : Flow) (bytes : List ℕ) (n : ℕ) → buffered f ≡ [] → n ≡ length bytes
    → buffered (writes (takes f bytes) n) ≡ []
buffered_passed f bytes n none all =
    let w = f.written in
    let taken = f.taken ++ bytes in
    let few : length taken ≤ length (w ++ take n (drop (length w) taken))
    = omega (
      arith,
      all,
      ap length none,
      length-drop (length w) f.taken,
      length-append f.taken bytes,
      length-append w (take n (drop (length w) taken)),
      length-take n (drop (length w) taken),
      length-drop (length w) taken,
    ) in
    drop_of_length-le taken few

-- where nothing was buffered, what is taken next is what is buffered
pub buffered_new : (f : Flow) (bytes : List ℕ) → IsLawful f → buffered f ≡ [] → buffered (takes f bytes) ≡ bytes
buffered_new f bytes lawful none =
    let w = f.written in
    let rest = lawful.in_order.0 in
    let begins : w ++ rest ≡ f.taken = lawful.in_order.1 in
    let rest_is : buffered f ≡ rest = ap (drop (length w)) (sym begins) ∙ drop-append_seam w rest in
    let all : f.taken ≡ w = sym begins ∙ ap (λ xs. w ++ xs) (sym rest_is ∙ none) ∙ append-nil w in
    ap (λ xs. drop (length w) (xs ++ bytes)) all ∙ drop-append_seam w bytes

module _ {N : Type 0} (n : Members N) where
  pub passes_then : (a b : ChanId) (f g h : Flow) (x y z : N) → Passes n a b f g x y → Passes n a b g h y z
      → Passes n a b f h x z
  passes_then a b f g h x y z first second = record {
    work = works_then n a b x y z first.work second.work;
    source = λ incoming is. second.source incoming (first.source incoming is);
    sink = λ outgoing is. second.sink outgoing (first.sink outgoing is);
    places = λ c. second.places c ∙ first.places c;
    shut = second.shut ∙ first.shut;
    write = λ ready. second.write (first.write ready);
    read = λ ready. second.read (first.read ready);
  }

  -- where only the link a was read
  pub passes_read : (a b : ChanId) (f g : Flow) (x y : N) → AreApart a b → Works n a a x y
      → KeepsSource f g (n.link x a) (n.place x a) (n.link y a) (n.place y a) → SameSink f g
      → n.place y a ≡ n.place x a → (IsTrue (is_within 4 (n.ready x a.number)) → IsTrue (is_within 4 (n.ready y a.number)))
      → Passes n a b f g x y
  passes_read a b f g x y apart work source same stands write =
      let not : b ≢ a = λ at. apart.0 (sym at) in
      let else_ : b.number ≢ a.number = λ at. apart.1 (sym at) in
      record {
        work = works_first n a b x y work;
        source = source;
        sink = λ outgoing is. end_moved (work.links b not not) (work.places b not not) (end_sink outgoing same is);
        places = all_same channel_is_or_not a (n.place x) (n.place y) stands (λ c other. work.places c other other);
        shut = same.shut;
        write = write;
        read = λ ready. subst (λ ops. IsTrue (is_within 1 ops)) (sym (work.ready b.number else_ else_)) ready;
      }

  -- where only the link b was written
  pub passes_write : (a b : ChanId) (f g : Flow) (x y : N) → AreApart a b → Works n b b x y
      → KeepsSink f g (n.link x b) (n.place x b) (n.link y b) (n.place y b) → SameSource f g
      → n.place y b ≡ n.place x b → g.shut ≡ f.shut
      → (IsTrue (is_within 1 (n.ready x b.number)) → IsTrue (is_within 1 (n.ready y b.number))) → Passes n a b f g x y
  passes_write a b f g x y apart work sink same stands shut read = record {
    work = works_second n a b x y work;
    source = λ incoming is.
        end_moved (work.links a apart.0 apart.0) (work.places a apart.0 apart.0) (end_source incoming same is);
    sink = sink;
    places = all_same channel_is_or_not b (n.place x) (n.place y) stands (λ c other. work.places c other other);
    shut = shut;
    write = λ ready. subst (λ ops. IsTrue (is_within 4 ops)) (sym (work.ready a.number apart.1 apart.1)) ready;
    read = read;
  }
