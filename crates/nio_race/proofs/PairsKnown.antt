-- What is known of each caller's racer before its thread and after it, and of the ends of pipes that it has.
use Rattle.std.proofs.Common.{◌≡◌, ℕ, ◌<◌, ◌≤◌, IsFalse, List, [], length, map, All, sym, ◌∙◌, subst, ⊎_elim}
use Rattle.std.proofs.lemmas.Bool.{cases_lt}
use Rattle.std.proofs.lemmas.List.{get_or_past, length-map}
use Rattle.std.specs.List.{slice_index_or}
use Rattle.std.specs.Prelude.{zip}
use Rattle.nio_base.specs.declared.numbers.CallerNo.{CallerNo}
use Rattle.nio_history.specs.declared.event.Event.{Event}
use Rattle.nio_language.specs.declared.reply.Reply.{Reply}
use Rattle.nio_pipe.specs.declared.sink.PipeSink.{PipeSink}
use Rattle.nio_pipe.specs.declared.source.PipeSource.{PipeSource}
use Rattle.nio_race_text.specs.declared.call.RaceCall.{RaceCall}
use Rattle.nio_race_text.specs.declared.call.RaceLine.{RaceLine}
use Rattle.nio_serial.specs.Documented.{Progress}
use Rattle.nio_words.specs.declared.words.Words.{Words}
use Rattle.nio_race.proofs.PairsLists.{all-at, each-nil, map-at, standing}
use Rattle.nio_race.proofs.PairsRaced.{HaveGoneOn, have_gone_on, same_owners, still_pairs}
use Rattle.nio_race.specs.Ends.{AreEach, ArePartedAmong, EndsGoOn, HasMet, HaveMet, HaveEnds, PartedPipe, SinkGoesOn}
use Rattle.nio_race.specs.Ends.{SourceGoesOn, sinks_at, sources_at}
use Rattle.nio_race.specs.Race.{calls_by, lines_by, strange_replies}
use Rattle.nio_race.specs.Racers.{HasRaced, HaveRaced, replies_by}
use Rattle.nio_race.specs.SetOff.{AreSetOff, IsSetOffAt}
use Rattle.nio_race.specs.declared.ends.Owners.{Owners}
use Rattle.nio_race.specs.declared.racer.Racer.{Racer}

-- where two lists are no longer than n, nothing stands at n in either
related-past : {A B C D : Type 0} (R : C → D → Type 0) (f : A → List C) (g : B → List D) (xs : List A) (ys : List B)
    (n : ℕ) → length xs ≤ n → length ys ≤ n
    → AreEach R (slice_index_or (map f xs) n []) (slice_index_or (map g ys) n [])
related-past {C = C} {D = D} R f g xs ys n past past' =
    subst (λ (cs : List C). AreEach R cs (slice_index_or (map g ys) n []))
    (sym (get_or_past (map f xs) n [] (subst (λ (k : ℕ). k ≤ n) (sym (length-map xs f)) past)))
    (subst (λ (ds : List D). AreEach R [] ds)
    (sym (get_or_past (map g ys) n [] (subst (λ (k : ℕ). k ≤ n) (sym (length-map ys g)) past'))) (each-nil R))

module _ (w : Words) (race : List RaceLine) (go : List Event) (now : Progress) (count : ℕ) (racers racers' : List Racer)
    (set_off : AreSetOff w go now count racers) (raced : HaveRaced w race racers racers')
    (memory : All (λ r. IsFalse r.lacks_memory) racers') where
  -- what is known of caller n, by its racer before and after
  pub record Known (n : CallerNo) : Type 0 where
    pub before : Racer
    pub after : Racer
    pub at_go : IsSetOffAt w go now n.0 before
    pub raced_so : HasRaced w race before after
    pub in_memory : IsFalse after.lacks_memory
    pub number : after.number ≡ n
    pub own_number : before.number ≡ n
    pub before_within : n.0 < length racers
    pub before_is : slice_index_or racers n.0 before ≡ before
    pub within : n.0 < length racers'
    pub after_is : slice_index_or racers' n.0 after ≡ after
    pub replied : replies_by race racers' n ≡ after.replies.items

  pub known : (n : CallerNo) → n.0 < count → Known n
  known n below =
      let below_first : n.0 < length racers = subst (λ (k : ℕ). n.0 < k) (sym set_off.count_is) below in
      let below_last : n.0 < length racers' = subst (λ (k : ℕ). n.0 < k) (sym raced.count) below_first in
      let first = standing racers n.0 below_first in
      let last = standing racers' n.0 below_last in
      let at = set_off.each n.0 first.0 below first.1 in
      let so = raced.each n.0 first.0 last.0 below_first first.1 last.1 in
      record {
        before = first.0;
        after = last.0;
        at_go = at;
        raced_so = so;
        in_memory = all-at (λ r. IsFalse r.lacks_memory) racers' n.0 last.0 below_last last.1 memory;
        number = so.number ∙ at.number;
        own_number = at.number;
        before_within = below_first;
        before_is = first.1;
        within = below_last;
        after_is = last.1;
        replied = map-at (λ (r : Racer). r.replies.items) racers' n.0 last.0
            (strange_replies (calls_by n race)) below_last last.1;
      }

  abbrev pub raced_lines : CallerNo → List (RaceCall × Reply)
  raced_lines n = lines_by n race (replies_by race racers')

  went_on : (n : CallerNo) (k : Known n) → EndsGoOn (raced_lines n) k.before.ends k.after.ends
  went_on n k =
      let ran = k.raced_so.run k.in_memory in
      subst (λ (rs : List Reply). EndsGoOn (zip (calls_by n race) rs) k.before.ends k.after.ends) (sym k.replied)
      (subst (λ (m : CallerNo). EndsGoOn (zip (calls_by m race) k.after.replies.items) k.before.ends k.after.ends)
      k.own_number ran.went_on)

  past_before : (n : CallerNo) → count ≤ n.0 → length racers ≤ n.0
  past_before n past = subst (λ (k : ℕ). k ≤ n.0) (sym set_off.count_is) past

  past_after : (n : CallerNo) → count ≤ n.0 → length racers' ≤ n.0
  past_after n past = subst (λ (k : ℕ). k ≤ n.0) (sym (raced.count ∙ set_off.count_is)) past

  -- Each caller's sources went on by its lines, and so did its sinks.
  had_sources : (n : CallerNo) → AreEach (SourceGoesOn (raced_lines n)) (sources_at racers n) (sources_at racers' n)
  had_sources n = ⊎_elim
      (λ (below : n.0 < count).
      let k = known n below in
      subst (λ (xs : List PipeSource). AreEach (SourceGoesOn (raced_lines n)) xs (sources_at racers' n))
      (sym (map-at (λ (r : Racer). r.ends.sources.items) racers n.0 k.before [] k.before_within k.before_is))
      (subst (λ (xs : List PipeSource). AreEach (SourceGoesOn (raced_lines n)) k.before.ends.sources.items xs)
      (sym (map-at (λ (r : Racer). r.ends.sources.items) racers' n.0 k.after [] k.within k.after_is))
      (went_on n k).sources))
      (λ (past : count ≤ n.0). related-past (SourceGoesOn (raced_lines n)) (λ (r : Racer). r.ends.sources.items)
      (λ (r : Racer). r.ends.sources.items) racers racers' n.0 (past_before n past) (past_after n past))
      (cases_lt n.0 count)

  had_sinks : (n : CallerNo) → AreEach (SinkGoesOn (raced_lines n)) (sinks_at racers n) (sinks_at racers' n)
  had_sinks n = ⊎_elim
      (λ (below : n.0 < count).
      let k = known n below in
      subst (λ (xs : List PipeSink). AreEach (SinkGoesOn (raced_lines n)) xs (sinks_at racers' n))
      (sym (map-at (λ (r : Racer). r.ends.sinks.items) racers n.0 k.before [] k.before_within k.before_is))
      (subst (λ (xs : List PipeSink). AreEach (SinkGoesOn (raced_lines n)) k.before.ends.sinks.items xs)
      (sym (map-at (λ (r : Racer). r.ends.sinks.items) racers' n.0 k.after [] k.within k.after_is))
      (went_on n k).sinks))
      (λ (past : count ≤ n.0). related-past (SinkGoesOn (raced_lines n)) (λ (r : Racer). r.ends.sinks.items)
      (λ (r : Racer). r.ends.sinks.items) racers racers' n.0 (past_before n past) (past_after n past))
      (cases_lt n.0 count)

  -- what became of the pipes whose ends the racers had
  abbrev pub PairsAfter : List PartedPipe → Type 0
  PairsAfter parted = HaveGoneOn raced_lines parted (sources_at racers') (sinks_at racers')

  pub pairs_after : (parted : List PartedPipe) → HaveEnds racers parted → PairsAfter parted
  pairs_after parted has_ends =
      have_gone_on raced_lines parted (sources_at racers') (sinks_at racers')
      (λ n. subst (λ (xs : List PipeSource). AreEach (SourceGoesOn (raced_lines n)) xs (sources_at racers' n))
      (has_ends.sources n) (had_sources n))
      (λ n. subst (λ (xs : List PipeSink). AreEach (SinkGoesOn (raced_lines n)) xs (sinks_at racers' n))
      (has_ends.sinks n) (had_sinks n))

  pub have_after : (parted : List PartedPipe) → HaveEnds racers parted → (on : PairsAfter parted)
      → HaveEnds racers' on.after
  have_after parted has_ends on = record {
    sources = on.sources_are;
    sinks = on.sinks_are;
    pairs = still_pairs raced_lines parted on.after on.each has_ends.pairs;
  }

  -- so the pipes are still parted among the racers
  pub parted_after : (owners : List Owners) → ArePartedAmong racers owners → ArePartedAmong racers' owners
  parted_after owners among =
      let on = pairs_after among.parted among.has_ends in
      record {
        parted = on.after;
        owners_are = among.owners_are ∙ sym (same_owners raced_lines among.parted on.after on.each);
        has_ends = have_after among.parted among.has_ends on;
      }

  -- The ends of each met.
  pub all_met : (owners : List Owners) (among : ArePartedAmong racers owners) → HaveMet racers' owners
      → (on : PairsAfter among.parted) → All HasMet on.after
  all_met owners among met on =
      met on.after (among.owners_are ∙ sym (same_owners raced_lines among.parted on.after on.each))
      (have_after among.parted among.has_ends on)
