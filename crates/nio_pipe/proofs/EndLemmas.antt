-- What the two ends of a pipe know, when they read, write and look.
use Rattle.std.proofs.Common.{◌≡◌, ℕ, ◌+◌, ◌-◌, ◌%◌, ◌^◌, ◌<◌, ◌≤◌, Bool, true, false, if◌then◌else◌, IsTrue, List, []}
use Rattle.std.proofs.Common.{◌∷◌, ◌++◌, length, min, take, drop, Option, Some, None, refl, ap, sym, ◌∙◌, subst, arith}
use Rattle.std.proofs.Common.{length-append}
use Rattle.std.specs.Prelude.{is_some, IfSome, IfNone}
use Rattle.std.proofs.lemmas.List.{append-nil, length-take-le, length-take, nil_from_length, take-append-le}
use Rattle.std.proofs.lemmas.List.{take-append-drop}
use Rattle.std.proofs.lemmas.Slice.{drop-append-drop}
use Rattle.std.proofs.Math.Seq.{take-append-add, take-length}
use Rattle.nio_history.proofs.Clauses.{prefix_trans}
use mathlib.Core.List.{IsPrefix}
use Rattle.nio_words.proofs.Beginnings.{prefix_self, prefix_length, prefix_whole}
use Rattle.rtrb.specs.Ring.{known_free, known_items}
use Rattle.nio_pipe.proofs.Rings.{ring_then}
use Rattle.nio_pipe.specs.Counts.{count_known, count_of, seals_left, seals_taken, left_to, known_of, IsReached}
use Rattle.nio_pipe.specs.Ends.{GivesBytes, IsSameSource, KnowsNothing, SourceLooks, known, knows_end}
use Rattle.nio_pipe.specs.Ends.{received, IsSameSink, SinkLooks, TakesBytes, sent, free, places, is_sealed}
use Rattle.nio_pipe.specs.declared.sink.PipeSink.{PipeSink}
use Rattle.nio_pipe.specs.declared.source.PipeSource.{PipeSource}

pub gives_nothing : (s : PipeSource) (into : List ℕ) → GivesBytes s s into into 0
gives_nothing s into = record {
  fit = omega arith;
  received = sym (append-nil _);
  rest = refl;
  known = prefix_self (known s);
  end_stays = λ knows. knows;
  no_more = λ _. refl;
}

-- ---- looking for the end, where no byte waits

pub known_nothing : (to_end : Option ℕ) (items more : List ℕ) → to_end ≡ None → items ≡ []
    → IsPrefix (known_of to_end items) more
known_nothing to_end items more none empty =
    let nothing : known_of to_end items ≡ [] = ap (λ t. known_of t items) none ∙ empty in
    subst (λ xs. IsPrefix xs more) (sym nothing) (more, refl)

pub knew_end : {A : Type 0} (old : Option ℕ) → old ≡ None → IsTrue (is_some old) → A
knew_end old none knows = let clash : false ≡ true = sym (ap is_some none) ∙ knows in absurd (cc clash)

-- ---- looking and then reading

pub looks_none : (s : PipeSource) → SourceLooks s s
looks_none s = record {
  same = record { bytes = ((refl, refl, refl, refl), refl); seals = ((refl, refl, refl, refl), refl); channel = refl };
  received = refl;
  known = prefix_self (known s);
  end_stays = λ knows. knows;
  no_more = λ _. refl;
}

pub gives_after : {a b c : PipeSource} {before after : List ℕ} {n : ℕ} → SourceLooks a b → GivesBytes b c before after n
    → GivesBytes a c before after n
gives_after {a = a} {b = b} {c = c} {after = after} {n = n} looks gives = record {
  fit = gives.fit;
  received = gives.received ∙ ap (λ xs. xs ++ take n after) looks.received;
  rest = gives.rest;
  known = prefix_trans (known a) (known b) (take n after ++ known c) looks.known gives.known;
  end_stays = λ knows. gives.end_stays (looks.end_stays knows);
  no_more = λ knows. sym (looks.no_more knows) ∙ gives.no_more (looks.end_stays knows);
}

pub same_source : {a b c : PipeSource} → IsSameSource a b → IsSameSource b c → IsSameSource a c
same_source {a} {b} {c} first second = record {
  bytes = (
    ring_then a.bytes.end b.bytes.end c.bytes.end first.bytes.0 second.bytes.0,
    second.bytes.1 ∙ first.bytes.1,
  );
  seals = (
    ring_then a.seals.end b.seals.end c.seals.end first.seals.0 second.seals.0,
    second.seals.1 ∙ first.seals.1,
  );
  channel = second.channel ∙ first.channel;
}

-- a read that gave nothing is a look
pub looks_more : {a b c : PipeSource} {before after : List ℕ} → SourceLooks a b → IsSameSource b c
    → GivesBytes b c before after 0 → SourceLooks a c
looks_more {a = a} {b = b} {c = c} looks same gives = record {
  same = same_source looks.same same;
  received = gives.received ∙ (append-nil (received b) ∙ looks.received);
  known = prefix_trans (known a) (known b) (known c) looks.known gives.known;
  end_stays = λ knows. gives.end_stays (looks.end_stays knows);
  no_more = λ knows. sym (gives.no_more (looks.end_stays knows)) ∙ looks.no_more knows;
}

pub no_front : (xs ys : List ℕ) → xs ++ ys ≡ [] → xs ≡ []
no_front [] ys is = refl
no_front (x ∷ xs) ys is = absurd (cc is)

-- who knows nothing after looks knew nothing before them
pub knew_nothing : {a b : PipeSource} → SourceLooks a b → KnowsNothing b → KnowsNothing a
knew_nothing {a = a} {b = b} looks none = record {
  no_byte = no_front (known a) looks.known.0 (looks.known.1 ∙ none.no_byte);
  no_seal = by_test (knows_end a) refl;
}
  where
    by_test : (knows : Bool) → knows_end a ≡ knows → knows_end a ≡ false
    by_test true is = let clash : true ≡ false = sym (looks.end_stays is) ∙ none.no_seal in absurd (cc clash)
    by_test false is = is

-- who knows nothing has nothing to tell
pub none_known : (source : PipeSource) → KnowsNothing source → count_known source.to_end (known_items source.bytes) ≡ 0
none_known source none = by_end source.to_end none.no_byte none.no_seal
  where
    by_end : (t : Option ℕ) → known_of t (known_items source.bytes) ≡ [] → is_some t ≡ false
        → count_known t (known_items source.bytes) ≡ 0
    by_end None no_byte no_seal = ap length no_byte
    by_end (Some n) no_byte no_seal = absurd (cc no_seal)

-- ---- reading up to the end

-- Bytes were read into a slice, of those up to the end, all of which were seen. `there` is what stands in the part
-- of the slice that was lent, `items` and `items'` what was seen in the ring before and after.
pub record PopsToEnd (items items' popped popped' into there : List ℕ) (left room given : ℕ) : Type 0 where
  pub seen : left ≤ length items
  pub room_is : room ≡ min left (length into)
  pub fits : given ≤ length (take room into)
  pub popped_is : popped' ≡ popped ++ take given there
  pub next : IsPrefix items (take given there ++ items')
  pub most : given < length (take room into) → items' ≡ []
  pub part : length there ≡ length (take room into)

module _ (items items' popped popped' into there : List ℕ) (left room given : ℕ)
    (pops : PopsToEnd items items' popped popped' into there left room given) where
  lent : length (take room into) ≡ room
  lent = omega (arith, length-take room into, pops.room_is)

  part_is : length there ≡ room
  part_is = pops.part ∙ lent

  fits_in : given ≤ room
  fits_in = omega (arith, pops.fits, lent)

  length-given : length (take given there) ≡ given
  length-given = length-take-le given there (omega (arith, fits_in, part_is))

  next_length : length items ≤ given + length items'
  next_length =
      omega (
        arith,
        prefix_length items (take given there ++ items') pops.next,
        length-append (take given there) items',
        length-given,
      )

  all_given : given ≡ room
  all_given =
      let long : length items ≤ given + length items' = next_length in
      let none : given < room → length items' ≡ 0 = λ less. ap length (pops.most (omega (arith, less, lent))) in
      grind (arith, fits_in, pops.seen, pops.room_is)

  pub reached_after : (seal : Option ℕ) → seal ≡ Some ((length popped + left) % 2 ^ 64)
      → IsReached popped' items' seal (Some (left - given))
  reached_after seal told = record {
    seen = λ n is. let same : left - given ≡ n = cc is in omega (arith, next_length);
    told = λ n is.
        let same : left - given ≡ n = cc is in
        let total : length popped + left ≡ length popped'
        + n = omega (
          arith,
          ap length pops.popped_is,
          length-append popped (take given there),
          length-given,
          all_given,
          pops.room_is,
        ) in
        told ∙ ap (λ (k : ℕ). Some (k % 2 ^ 64)) total;
  }

  pub given-fits : given ≤ length into
  given-fits = omega (arith, fits_in, pops.room_is)

  front : take given (there ++ drop room into) ≡ take given there
  front = take-append-le given there (drop room into) (omega (arith, fits_in, part_is))

  pub given-received : popped' ≡ popped ++ take given (there ++ drop room into)
  given-received = pops.popped_is ∙ ap (λ xs. popped ++ xs) (sym front)

  pub given-rest : drop given (there ++ drop room into) ≡ drop given into
  given-rest = drop-append-drop room into there given (omega (arith, all_given)) part_is

  pub given-known : (to_end : Option ℕ) → to_end ≡ Some left
      → known_of to_end items ≡ take given (there ++ drop room into) ++ take (left - given) items'
  given-known to_end is =
      subst (λ t. known_of t items ≡ take given (there ++ drop room into) ++ take (left - given) items')
      (sym is) up_to_left
    where
      up_to_left : take left items ≡ take given (there ++ drop room into) ++ take (left - given) items'
      up_to_left =
          let there_left : take left (items ++ pops.next.0) ≡ take left items =
          take-append-le left items pops.next.0 pops.seen in
          let whole : left ≡ length (take given there) + (left - given) = omega
          (arith, length-given, all_given, pops.room_is) in
          let parts : take left (take given there ++ items') ≡ take given there ++ take (left - given) items' = ap
          (λ (n : ℕ). take n (take given there ++ items')) whole
          ∙ take-append-add (take given there) items' (left - given) in
          sym there_left
          ∙ (ap (take left) pops.next.1 ∙ (parts ∙ ap (λ xs. xs ++ take (left - given) items') (sym front)))

-- ---- both ends in one hand

-- the bytes R that were received, those that wait (K) and those that were sent (S); what each end has counted, the
-- seal that the source took, and how far the end was known to be before and after the source worked it out
pub record Beside (R K S : List ℕ) (sealed : Bool) (read written : ℕ) (seal to_end to_end' : Option ℕ) : Type 0 where
  pub whole : R ++ K ≡ S
  pub few : length K ≤ 65536
  pub read_is : read ≡ count_of R
  pub written_is : written ≡ count_of S
  pub seals : seals_taken seal ≡ seals_left sealed written
  pub reached : IfSome seal (λ m. left_to m read ≤ length K → to_end' ≡ Some (left_to m read))
  pub kept : IfNone seal (to_end' ≡ to_end)
  pub told : (n : ℕ) → to_end ≡ Some n → seal ≡ Some ((length R + n) % 2 ^ 64)

left_is : (r k : ℕ) → k ≤ 65536 → left_to ((r + k) % 2 ^ 64) (r % 2 ^ 64) ≡ k
left_is r k few = omega arith

seal_left : (seal : Option ℕ) (written : ℕ) → seals_taken seal ≡ seals_left true written → seal ≡ Some written
seal_left None written is = absurd (cc is)
seal_left (Some m) written is = let same : m ≡ written = cc is in ap Some same

no_seal_left : (seal : Option ℕ) (written : ℕ) → seals_taken seal ≡ seals_left false written → seal ≡ None
no_seal_left None written is = refl
no_seal_left (Some m) written is = absurd (cc is)

-- the end is known exactly where the seal was left, and is as far as all that wait
to_end_is : (R K S : List ℕ) (sealed : Bool) (read written : ℕ) (seal to_end to_end' : Option ℕ)
    → Beside R K S sealed read written seal to_end to_end'
    → to_end' ≡ (if sealed then Some (length K) else None)
to_end_is R K S true read written seal to_end to_end' beside =
    let is : seal ≡ Some written = seal_left seal written beside.seals in
    let count : left_to written read ≡ length K =
    ap (λ n. left_to n read) beside.written_is ∙ (ap (left_to (count_of S)) beside.read_is
    ∙ (ap (λ (n : ℕ). left_to (n % 2 ^ 64) (count_of R)) (sym (ap length beside.whole) ∙ length-append R K)
    ∙ left_is (length R) (length K) beside.few)) in
    let reached : left_to written read ≤ length K
    → to_end' ≡ Some (left_to written read) = subst
    (λ m. IfSome m (λ m. left_to m read ≤ length K → to_end' ≡ Some (left_to m read))) is beside.reached in
    reached (omega arith) ∙ ap Some count
to_end_is R K S false read written seal to_end to_end' beside = by_end to_end refl
  where
    none : seal ≡ None
    none = no_seal_left seal written beside.seals

    kept : to_end' ≡ to_end
    kept = subst (λ m. IfNone m (to_end' ≡ to_end)) none beside.kept

    by_end : (t : Option ℕ) → to_end ≡ t → to_end' ≡ None
    by_end None is = kept ∙ is
    by_end (Some n) is = let clash : None ≡ Some ((length R + n) % 2 ^ 64) =
        sym none ∙ beside.told n is in absurd (cc clash)

module _ (R K S : List ℕ) (sealed : Bool) (read written : ℕ) (seal to_end to_end' : Option ℕ)
    (beside : Beside R K S sealed read written seal to_end to_end') where
  pub end_known : is_some to_end' ≡ sealed
  end_known = ap is_some (to_end_is R K S sealed read written seal to_end to_end' beside) ∙ by_seal sealed
    where
      by_seal : (b : Bool) → is_some (if b then Some (length K) else None) ≡ b
      by_seal true = refl
      by_seal false = refl

  pub all_known : known_of to_end' K ≡ K
  all_known = ap (λ t. known_of t K) (to_end_is R K S sealed read written seal to_end to_end' beside) ∙ by_seal sealed
    where
      by_seal : (b : Bool) → known_of (if b then Some (length K) else None) K ≡ K
      by_seal true = take-length K
      by_seal false = refl

  -- what was known is what is known now, and more
  pub known_grows : (items : List ℕ) → ((n : ℕ) → to_end ≡ Some n → n ≤ length items) → IsPrefix items K
      → IsPrefix (known_of to_end items) (known_of to_end' K)
  known_grows items seen grows = subst (IsPrefix (known_of to_end items)) (sym all_known) (by_end to_end)
    where
      by_end : (t : Option ℕ) → IsPrefix (known_of t items) K
      by_end None = grows
      by_end (Some n) = prefix_trans (take n items) items K (drop n items, take-append-drop n items) grows

  sealed_then : (n : ℕ) → to_end ≡ Some n → sealed ≡ true
  sealed_then n is = by_seal sealed refl
    where
      by_seal : (b : Bool) → sealed ≡ b → sealed ≡ true
      by_seal true was = was
      by_seal false was =
          let left : seals_taken seal ≡ seals_left false written = beside.seals ∙ ap (λ b. seals_left b written) was in
          let clash : None ≡ Some ((length R + n) % 2 ^ 64) = sym (no_seal_left seal written left) ∙ beside.told n is in
          absurd (cc clash)

  -- an end that was known is as far as all that wait
  counted : (n : ℕ) → to_end ≡ Some n → n ≤ length K → n ≡ length K
  counted n is few =
      let seals : seal ≡ Some written = seal_left seal written
      (beside.seals ∙ ap (λ b. seals_left b written) (sealed_then n is)) in
      let same : written ≡ (length R + n) % 2 ^ 64 = cc (sym seals ∙ beside.told n is) in
      let total : length S ≡ length R + length K = sym (ap length beside.whole) ∙ length-append R K in
      omega (arith, few, beside.few, beside.written_is)

  -- who knew of the end knew all that wait
  pub known_then : (items : List ℕ) → ((n : ℕ) → to_end ≡ Some n → n ≤ length items) → IsPrefix items K
      → is_some to_end ≡ true → known_of to_end' K ≡ known_of to_end items
  known_then items seen grows knew = all_known ∙ by_end to_end refl knew
    where
      by_end : (t : Option ℕ) → to_end ≡ t → is_some t ≡ true → K ≡ known_of t items
      by_end None is knows = absurd (cc knows)
      by_end (Some n) is knows =
          let few : n ≤ length K = omega (arith, seen n is, prefix_length items K grows) in
          let count : n ≡ length K = counted n is few in
          let all : items ≡ K = prefix_whole items K grows (omega (arith, seen n is, count)) in
          let long : n ≡ length items = count ∙ ap length (sym all) in
          sym (ap (λ (k : ℕ). take k items) long ∙ (take-length items ∙ all))

  pub end_lasts : is_some to_end ≡ true → is_some to_end' ≡ true
  end_lasts knew = end_known ∙ by_end to_end refl knew
    where
      by_end : (t : Option ℕ) → to_end ≡ t → is_some t ≡ true → sealed ≡ true
      by_end None is knows = absurd (cc knows)
      by_end (Some n) is knows = sealed_then n is

  -- a source that had told the end has received every byte
  pub was_whole : (items : List ℕ) → ((n : ℕ) → to_end ≡ Some n → n ≤ length items) → is_some to_end ≡ true
      → known_of to_end items ≡ [] → (sealed ≡ true) × (R ≡ S)
  was_whole items seen knew nothing = by_end to_end refl knew nothing
    where
      by_end : (t : Option ℕ) → to_end ≡ t → is_some t ≡ true → known_of t items ≡ [] → (sealed ≡ true) × (R ≡ S)
      by_end None is knows none = absurd (cc knows)
      by_end (Some n) is knows none =
          let left : sealed ≡ true = sealed_then n is in
          let n_is : n ≡ 0 = omega (arith, seen n is, length-take-le n items (seen n is), ap length none) in
          let none_waits : length K ≡ 0 = sym (counted n is (omega (arith, n_is))) ∙ n_is in
          (left, sym (append-nil R) ∙ (ap (λ xs. R ++ xs) (sym (nil_from_length K none_waits)) ∙ beside.whole))

-- ---- the sink

pub sink_looks_none : (s : PipeSink) → SinkLooks s s
sink_looks_none s = record {
  same = record {
    bytes = ((refl, refl, refl, refl), refl);
    seals = ((refl, refl, refl, refl), refl);
    channel = refl;
    other = refl;
  };
  sent = refl;
  places = omega arith;
  free = omega arith;
  seal = refl;
}

pub same_sink : {a b c : PipeSink} → IsSameSink a b → IsSameSink b c → IsSameSink a c
same_sink {a} {b} {c} first second = record {
  bytes = (
    ring_then a.bytes.end b.bytes.end c.bytes.end first.bytes.0 second.bytes.0,
    second.bytes.1 ∙ first.bytes.1,
  );
  seals = (
    ring_then a.seals.end b.seals.end c.seals.end first.seals.0 second.seals.0,
    second.seals.1 ∙ first.seals.1,
  );
  channel = second.channel ∙ first.channel;
  other = second.other ∙ first.other;
}

-- a write that took nothing is a look
pub sink_looks_more : {a b c : PipeSink} {slice : List ℕ} → SinkLooks a b → IsSameSink b c → TakesBytes b c slice 0
    → is_sealed c ≡ is_sealed b → places b ≤ places c + 0 → free b ≤ free c + 0 → SinkLooks a c
sink_looks_more {b = b} looks same takes seal looked fills = record {
  same = same_sink looks.same same;
  sent = takes.sent ∙ (append-nil (sent b) ∙ looks.sent);
  places = omega (arith, looks.places, looked);
  free = omega (arith, looks.free, fills);
  seal = seal ∙ looks.seal;
}

-- who knows no place to fill after looks knew none before them
pub no_place_before : {a b : PipeSink} → SinkLooks a b → free b ≡ 0 → free a ≡ 0
no_place_before looks none = omega (arith, looks.free, none)

-- a sink that had no place to fill, and no seal left when the looks began, knows of no free place, also when it has
-- left its seal since
pub no_place_left : {a b : PipeSink} (c : PipeSink) → SinkLooks a b → free b ≡ 0 → c.bytes ≡ b.bytes
    → is_sealed a ≡ false → places c ≡ 0
no_place_left {b = b} c looks none ring unsealed =
    ap known_free ring
    ∙ (sym (ap (λ (sealed : Bool). if sealed then 0 else places b) (looks.seal ∙ unsealed)) ∙ none)
