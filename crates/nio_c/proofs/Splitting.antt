-- A number that was given away, and came back since there was no memory.
use Rattle.std.proofs.Common.{◌≡◌, ◌≢◌, ◌⊎◌, ◌↔◌, ◌==◌, ℕ, Bool, true, false, if◌then◌else◌, nat_lt, length, List}
use Rattle.std.proofs.Common.{Result, Err}
use Rattle.std.proofs.Common.{inl, inr, refl, sym, ap, ◌∙◌, subst, eqb-true, eq-eqb}
use Rattle.nio_base.specs.declared.numbers.CallerNo.{CallerNo}
use Rattle.nio_caller.specs.Callers.{Acting, GivesNumber, IsSameCaller, Joins, sees}
use Rattle.nio_caller.specs.declared.refusal.SplitError.{SplitError}
use Rattle.nio_caller.specs.declared.refusal.SplitError.TheVariants.{NoHandle, NotHeld}
use Rattle.nio_history.specs.PassViews.{Holds}
use Rattle.nio_history.specs.declared.event.Event.{Event}
use Rattle.nio_words.specs.Rule.{longer}
use Rattle.nio_c.specs.Making.{HasAllBack, KeepsAll, MayGive, Splits}

abbrev numbered : ℕ → CallerNo
numbered k = record { 0 = k }

longer_same : (xs : List Event) → longer xs xs ≡ xs
longer_same xs = by_test (nat_lt (length xs) (length xs))
  where
    by_test : (b : Bool) → (if b then xs else xs) ≡ xs
    by_test true = refl
    by_test false = refl

module _ (n : CallerNo) (old split given joined : Acting) (gives : GivesNumber n old split given)
    (had : Holds (sees old) n) (joins : Joins (sees split) (sees given) (sees joined)) where
  to_old : (m : CallerNo) → Holds (sees split) m ⊎ Holds (sees given) m → Holds (sees old) m
  to_old m (inl held) = ((gives.holds m).0 held).0
  to_old m (inr held) = subst (λ (k : CallerNo). Holds (sees old) k) (sym ((gives.given_holds m).0 held)) had

  from_old : (m : CallerNo) (b : Bool) → (m.0 == n.0) ≡ b → Holds (sees old) m
      → Holds (sees split) m ⊎ Holds (sees given) m
  from_old m true is held = inr ((gives.given_holds m).1 (ap numbered (eqb-true m.0 n.0 is)))
  from_old m false is held =
      inl ((gives.holds m).1 (
        held,
        λ same.
            let clash : false ≡ true = sym is ∙ eq-eqb m.0 n.0 (ap (λ (k : CallerNo). k.0) same) in absurd cc,
      ))

  pub all_back : KeepsAll old split → IsSameCaller split joined → joined.selectors ≡ split.selectors
      → joined.progress ≡ split.progress → HasAllBack old joined
  all_back keeps same lists progress = record {
    keeps = record {
      same = record { table = same.table ∙ keeps.same.table; number = same.number ∙ keeps.same.number };
      lists = lists ∙ keeps.lists;
      progress = progress ∙ keeps.progress;
    };
    sight =
        joins.sight
        ∙ (ap (λ (xs : List Event). longer xs (sees given).seen) gives.sight
        ∙ (ap (longer (sees old).seen) gives.given_sight ∙ longer_same (sees old).seen));
    holds = λ m. (
      λ held. to_old m ((joins.holds m).0 held),
      λ held. (joins.holds m).1 (from_old m (m.0 == n.0) refl held),
    );
  }

pub none_gone : (old : Acting) → HasAllBack old old
none_gone old = record {
  keeps = record { same = record { table = refl; number = refl }; lists = refl; progress = refl };
  sight = refl;
  holds = λ m. (λ held. held, λ held. held);
}

-- the caller refused to give it away
pub split_refused : (n : CallerNo) (old new : Acting) (error : SplitError) (answer : Result Acting SplitError)
    → answer ≡ Err error → (answer ≢ Err NotHeld) ↔ MayGive n old → new ≡ old → Splits n old new (Err error)
split_refused n old new NotHeld answer is held same = (λ may. held.1 may is, same)
split_refused n old new NoHandle answer is held same =
    subst (λ (x : Acting). HasAllBack old x) (sym same) (none_gone old)
