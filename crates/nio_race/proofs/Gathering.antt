-- The passes of a race are joined one after the other.
use Rattle.std.proofs.Common.{◌≡◌, ℕ, ◌<◌, length, List, [], ◌∷◌, ◌++◌, All, inl, sym, ap, ◌∙◌, subst}
use Rattle.std.proofs.Common.{append_assoc, arith}
use Rattle.std.proofs.Math.Seq.{get_or-append_seam}
use Rattle.std.proofs.lemmas.List.{get_or_append_left, length-append, nil_from_length}
use Rattle.std.proofs.lemmas.List.Elements.{All-cons, All-weaker}
use Rattle.nio_history.proofs.Clauses.{prefix_trans}
use Rattle.nio_words.specs.Passes.{IsPassOf}
use Rattle.nio_words.specs.Sharing.{Joins}
use Rattle.nio_words.specs.declared.words.Pass.{Pass}
use Rattle.nio_words.specs.declared.words.Words.{Words}
use Rattle.nio_race.specs.Gathering.{StandsIn}
use Rattle.nio_race.specs.SetOff.{AreRacers}
use Rattle.nio_race.specs.declared.racer.Racer.{Racer}

pub stands_on : (a b c : Pass) → StandsIn a b → StandsIn b c → StandsIn a c
stands_on a b c first later = record {
  begins = prefix_trans _ _ _ first.begins later.begins;
  holds = λ n held. later.holds n (first.holds n held);
  own = λ n held. later.own n (first.holds n held) ∙ first.own n held;
}

pub joined_own : (w : Words) (before other after : Pass) → Joins w before other after → StandsIn before after
joined_own w before other after joins =
    record { begins = joins.stands.begins; holds = λ n held. (joins.numbers n).1 (inl held); own = joins.stands.own }

-- some are joined, the last ones, and the others are still there
pub record IsGathering (w : Words) (before now : Pass) (racers left : List Racer) : Type 0 where
  pub pass : IsPassOf w now
  pub own : StandsIn before now
  pub joined : List Racer
  pub parts : racers ≡ left ++ joined
  pub each : All (λ r. StandsIn r.desk.pass now) joined
  pub passes : AreRacers w left

-- a racer more was joined, the last of those that were left
pub goes_on : (w : Words) (before now now' : Pass) (racers left left' : List Racer) (r : Racer)
    → IsGathering w before now racers left → left ≡ left' ++ r ∷ []
    → IsPassOf w now' → StandsIn now now' → StandsIn r.desk.pass now' → IsGathering w before now' racers left'
goes_on w before now now' racers left left' r at is pass own other = record {
  pass = pass;
  own = stands_on before now now' at.own own;
  joined = r ∷ at.joined;
  parts = at.parts ∙ (ap (λ (rs : List Racer). rs ++ at.joined) is ∙ append_assoc left' (r ∷ []) at.joined);
  each = All-cons (λ (x : Racer). StandsIn x.desk.pass now') r at.joined other
      (All-weaker (λ (x : Racer). StandsIn x.desk.pass now) (λ (x : Racer). StandsIn x.desk.pass now')
      (λ x there. stands_on x.desk.pass now now' there own) at.joined at.each);
  passes = λ k x below.
      let more : k < length (left' ++ r ∷ []) = subst (λ (m : ℕ). k < m) (sym (length-append left' (r ∷ [])))
      (omega (arith, below)) in
      subst (λ (y : Racer). IsPassOf w y.desk.pass) (get_or_append_left left' (r ∷ []) x k below)
      (subst (AreRacers w) is at.passes k x more);
}

-- the last racer's pass is one of the table
pub last_passes : (w : Words) (left left' : List Racer) (r : Racer) → AreRacers w left → left ≡ left' ++ r ∷ []
    → IsPassOf w r.desk.pass
last_passes w left left' r passes is =
    let below : length left' < length (left' ++ r ∷ []) =
    subst (λ (m : ℕ). length left' < m) (sym (length-append left' (r ∷ []))) (omega arith) in
    subst (λ (y : Racer). IsPassOf w y.desk.pass) (get_or-append_seam left' r [] r)
    (subst (AreRacers w) is passes (length left') r below)

-- once none is left, all are joined
pub all_joined : (w : Words) (before now : Pass) (racers left : List Racer) → IsGathering w before now racers left
    → length left ≡ 0 → All (λ r. StandsIn r.desk.pass now) racers
all_joined w before now racers left at none =
    subst (All (λ (r : Racer). StandsIn r.desk.pass now))
    (sym (at.parts ∙ ap (λ (rs : List Racer). rs ++ at.joined) (nil_from_length left none))) at.each
