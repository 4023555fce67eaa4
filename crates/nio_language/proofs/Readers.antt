-- Readers that find something, and readers that find nothing.
use Rattle.std.proofs.Common.{◌≡◌, Some, None, sym, ◌∙◌, ap, Option, IsSomeAnd, MatchOption, subst}
use Rattle.std.proofs.lemmas.Option.{same_Some, none-some}
use Rattle.nio_language.specs.Reading.{Reads}

pub reads_none : {A T : Type 0} (Fits : A → Type 0) (print : A → T) (text : T)
    → ((x : A) → Fits x → text ≡ print x → ⊥) → Reads Fits print text None
reads_none Fits print text none = record {
  found = tt;
  only = λ x fits e. absurd (none x fits e);
}

pub reads_some : {A T : Type 0} (Fits : A → Type 0) (print : A → T) (text : T) (v : A)
    → Fits v → text ≡ print v → ((x : A) → Fits x → print v ≡ print x → x ≡ v)
    → Reads Fits print text (Some v)
reads_some Fits print text v fits e same = record {
  found = (fits, e);
  only = λ x f p. ap Some (sym (same x f (sym e ∙ p)));
}

-- what is made of something that is read is read, where whatever fits is made of one thing that fits
pub reads_made : {A C T : Type 0} {Fits : A → Type 0} {print : A → T} {text : T} {Made : A → C → Type 0}
    (MadeFits : C → Type 0) (print_made : C → T) (o : Option A) (r : Option C)
    → Reads Fits print text o → MatchOption o (r ≡ None) (λ x. IsSomeAnd r (Made x))
    → ((x : A) (c : C) → Made x c → Fits x → MadeFits c × (print x ≡ print_made c))
    → ((d : C) → MadeFits d → (x : A) × Fits x × (print_made d ≡ print x) × ((c : C) → Made x c → c ≡ d))
    → Reads MadeFits print_made text r
reads_made MadeFits print_made None None read cases makes made = record {
  found = tt;
  only = λ d fits e.
      let own = made d fits in
      absurd (none-some own.0 (read.only own.0 own.1 (e ∙ own.2)));
}
reads_made MadeFits print_made None (Some c) read cases makes made = absurd (none-some c (sym cases))
reads_made MadeFits print_made (Some x) None read cases makes made = absurd cases
reads_made {Made = Made} MadeFits print_made (Some x) (Some c) read cases makes made =
    let its = makes x c cases read.found.0 in
    record {
      found = (its.0, read.found.1 ∙ its.1);
      only = λ d fits e.
          let own = made d fits in
          let same = same_Some x own.0 (read.only own.0 own.1 (e ∙ own.2)) in
          ap Some (own.3 c (subst (λ y. Made y c) same cases));
    }
