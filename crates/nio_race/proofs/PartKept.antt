-- The channels of the ends that a racer has are those of its caller's pipes.
use Rattle.std.proofs.Common.{◌≡◌, ℕ, suc, ◌<◌, ◌==◌, Bool, true, false, if◌then◌else◌, List, [], ◌∷◌, All}
use Rattle.std.proofs.Common.{get_or, map, refl, sym, ap, ◌∙◌, subst, arith}
use Rattle.std.specs.Prelude.{AllPairs, filter}
use Rattle.std.specs.List.{AllZip}
use Rattle.std.proofs.lemmas.List.{get_or-map, length-map}
use Rattle.std.proofs.lemmas.List.Elements.{All-head, All-map, All-tail}
use Rattle.std.proofs.lemmas.List.Kept.{AllPairs-cons}
use Rattle.nio_base.specs.declared.numbers.CallerNo.{CallerNo}
use Rattle.nio_base.specs.declared.numbers.ChanId.{ChanId}
use Rattle.nio_pipe.specs.Ends.{AreEnds, sink_chan, source_chan}
use Rattle.nio_plain.specs.ScriptState.{Pipe}
use Rattle.nio_steps.proofs.Lists.{pairs-head, pairs-none, pairs-tail}
use Rattle.nio_steps.specs.PipeCalls.{PipeEnds}
use Rattle.nio_race.specs.Ends.{AreEach, IsPartedAs, PartedPipe, ends_of_sink}
use Rattle.nio_race.specs.Piping.{ends_of_pipe}

-- ---- lists

pub each_to_zip : {A B : Type 0} (R : A → B → Type 0) (xs : List A) (ys : List B) → AreEach R xs ys → AllZip R xs ys
each_to_zip R [] [] each = tt
each_to_zip R [] (y ∷ ys) each = absurd (omega (arith, each.count))
each_to_zip R (x ∷ xs) [] each = absurd (omega (arith, each.count))
each_to_zip R (x ∷ xs) (y ∷ ys) each = (
  each.each 0 x y (omega arith) refl refl,
  each_to_zip R xs ys (record {
    count = omega (arith, each.count);
    each = λ k a b below a_is b_is. each.each (suc k) a b (omega (arith, below)) a_is b_is;
  }),
)

pub all_of_map : {X Y : Type 0} (P : Y → Type 0) (f : X → Y) (xs : List X) → All P (map f xs) → All (λ x. P (f x)) xs
all_of_map P f xs all k d below =
    subst P (get_or-map f xs k d (f d) below) (all k (f d) (subst (λ (m : ℕ). k < m) (sym (length-map xs f)) below))

pub pairs_of_map : {X Y : Type 0} (R : Y → Y → Type 0) (f : X → Y) (xs : List X) → AllPairs R (map f xs)
    → AllPairs (λ a b. R (f a) (f b)) xs
pairs_of_map {Y = Y} R f xs all i j d before below =
    subst (λ (y : Y). R (f (get_or xs i d)) y) (get_or-map f xs j d (f d) below)
    (subst (λ (y : Y). R y (get_or (map f xs) j (f d))) (get_or-map f xs i d (f d) (omega (arith, before, below)))
    (all i j (f d) before (subst (λ (m : ℕ). j < m) (sym (length-map xs f)) below)))

pub pairs_map : {X Y : Type 0} (R : Y → Y → Type 0) (f : X → Y) (xs : List X) → AllPairs (λ a b. R (f a) (f b)) xs
    → AllPairs R (map f xs)
pairs_map R f [] all = pairs-none R
pairs_map {X = X} R f (x ∷ xs) all =
    AllPairs-cons R (f x) (map f xs) (All-map (R (f x)) f xs (pairs-head (λ (a b : X). R (f a) (f b)) x xs all))
    (pairs_map R f xs (pairs-tail (λ (a b : X). R (f a) (f b)) x xs all))

-- ---- which ends are kept

alike_one : {X Y Z : Type 0} (f : X → Z) (g : Y → Z) (x : X) (xs : List X) (y : Y) (ys : List Y) (b : Bool)
    → g y ≡ f x → map g ys ≡ map f xs → map g (if b then y ∷ ys else ys) ≡ map f (if b then x ∷ xs else xs)
alike_one f g x xs y ys true same later = cc
alike_one f g x xs y ys false same later = later

-- what is read of the kept elements of one list is what is read of those of the other
kept_alike : {X Y Z : Type 0} (R : X → Y → Type 0) (test : X → Bool) (test' : Y → Bool) (f : X → Z) (g : Y → Z)
    → ((x : X) (y : Y) → R x y → (test' y ≡ test x) × (g y ≡ f x)) → (xs : List X) (ys : List Y) → AllZip R xs ys
    → map g (filter test' ys) ≡ map f (filter test xs)
kept_alike R test test' f g alike [] [] zip = refl
kept_alike R test test' f g alike [] (y ∷ ys) zip = absurd zip
kept_alike R test test' f g alike (x ∷ xs) [] zip = absurd zip
kept_alike R test test' f g alike (x ∷ xs) (y ∷ ys) zip =
    ap (λ (b : Bool). map g (if b then y ∷ filter test' ys else filter test' ys)) (alike x y zip.0).0
    ∙ alike_one f g x (filter test xs) y (filter test' ys) (test x) (alike x y zip.0).1
    (kept_alike R test test' f g alike xs ys zip.1)

pub sources_kept : (n : CallerNo) (pipes : List Pipe) (parted : List PartedPipe) → AllZip IsPartedAs pipes parted
    → map (λ x. source_chan x.source) (filter (λ x. x.owners.reader.0 == n.0) parted)
    ≡ map (λ p. p.source) (filter (λ p. p.reader.0 == n.0) pipes)
sources_kept n pipes parted zip =
    kept_alike IsPartedAs (λ (p : Pipe). p.reader.0 == n.0) (λ (x : PartedPipe). x.owners.reader.0 == n.0)
    (λ (p : Pipe). p.source) (λ (x : PartedPipe). source_chan x.source)
    (λ p x is. (ap (λ (m : CallerNo). m.0 == n.0) is.reader, is.source)) pipes parted zip

-- a parted pipe's ends belong together
pub record IsPartedWhole (p : Pipe) (x : PartedPipe) : Type 0 where
  pub parted : IsPartedAs p x
  pub ends : AreEnds x.source x.sink

pub zip_whole : (pipes : List Pipe) (parted : List PartedPipe) → AllZip IsPartedAs pipes parted
    → All (λ x. AreEnds x.source x.sink) parted → AllZip IsPartedWhole pipes parted
zip_whole [] [] zip ends = tt
zip_whole [] (x ∷ xs) zip ends = absurd zip
zip_whole (p ∷ ps) [] zip ends = absurd zip
zip_whole (p ∷ ps) (x ∷ xs) zip ends = (
  record { parted = zip.0; ends = All-head (λ (y : PartedPipe). AreEnds y.source y.sink) x xs ends },
  zip_whole ps xs zip.1 (All-tail (λ (y : PartedPipe). AreEnds y.source y.sink) x xs ends),
)

sink_alike : (p : Pipe) (x : PartedPipe) → IsPartedWhole p x → ends_of_sink x.sink ≡ ends_of_pipe p
sink_alike p x is =
    ap {B = PipeEnds} (λ (c : ChanId). record { source = c; sink = sink_chan x.sink })
    (is.ends.channel ∙ is.parted.source)
    ∙ ap {B = PipeEnds} (λ (c : ChanId). record { source = p.source; sink = c }) is.parted.sink

pub sinks_kept : (n : CallerNo) (pipes : List Pipe) (parted : List PartedPipe) → AllZip IsPartedWhole pipes parted
    → map (λ x. ends_of_sink x.sink) (filter (λ x. x.owners.writer.0 == n.0) parted)
    ≡ map ends_of_pipe (filter (λ p. p.writer.0 == n.0) pipes)
sinks_kept n pipes parted zip =
    kept_alike IsPartedWhole (λ (p : Pipe). p.writer.0 == n.0) (λ (x : PartedPipe). x.owners.writer.0 == n.0)
    ends_of_pipe (λ (x : PartedPipe). ends_of_sink x.sink)
    (λ p x is. (ap (λ (m : CallerNo). m.0 == n.0) is.parted.writer, sink_alike p x is)) pipes parted zip
