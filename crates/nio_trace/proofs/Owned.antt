-- A trace owns nothing, so it can be had at any list, and at one list it is as good as at another.
use Rattle.nio_trace.proofs.Names.{Lft, Share, MutBor, MutRef, named, sep, flft, fsplit3, fjoin3, move, use1, opens}
use Rattle.nio_trace.proofs.Names.{closes, updating, now, ◌≡◌, List, [], ◌∷◌, refl, ftrue, fsep, ent, emp, RattleType}
use Rattle.nio_trace.proofs.Names.{makes_shadow, Pure, Val, vstruct, vcons, vnil, Ura, ‵, ◌$◌, ◌∵◌, !, qed, done, fpick}
use Rattle.nio_trace.proofs.Names.{fpack, Logic, sem}
use Rattle.nio_trace.specs.contracts.trace.Trace as trace
use Rattle.nio_trace.specs.contracts.trace.Trace.TheInside as inside
use Rattle.nio_trace.specs.declared.trace.Trace.TheInside.{Inside}

-- the machine value of a trace
abbrev pub value : Val
value = vstruct (vcons (vstruct vnil) vnil)

module _ (R : RattleType) where
  abbrev pub Row : RattleType
  Row = trace.the_row R

  -- the struct of the fields
  abbrev pub Fields : RattleType
  Fields = inside.the_row R

  pub Fields-pure : (d : Inside R.Denot) (vs : List Val) → Pure (Fields.own_val d vs)
  Fields-pure d vs = ((λ vss. (tt, ((λ us. (tt, tt)), tt))), tt)

  pub Row-pure : (xs : List R.Denot) (vs : List Val) → Pure (Row.own_val xs vs)
  Row-pure xs vs = λ x. (Fields-pure x.0 vs, tt)

  module _ {M : Type 1} {𝓤 : Ura M} (𝓛 : Logic 𝓤) where
    pub made : (xs : List R.Denot) → ent 𝓤 (emp 𝓤) (sem 𝓛 (Row.own_val xs (value ∷ [])))
    made xs = makes_shadow 𝓛 (Row.own_val xs (value ∷ [])) (Row-pure xs (value ∷ [])) (
      (record { of = record {}; items = xs }, (refl, tt)),
      ((((vstruct vnil ∷ [], tt), (refl, ((tt, (refl, tt)), tt))), tt), tt),
    )

    pub turned : (xs ys : List R.Denot) (vs : List Val) → ent 𝓤 (sem 𝓛 (Row.own_val xs vs)) (sem 𝓛 (Row.own_val ys vs))
    turned xs ys vs = qed 𝓛 (‵ (Row.own_val xs vs) ∷ []) ∵ fpick ! (λ x.
        let z : Inside R.Denot = record { of = x.0.of; items = ys } in
        fpack ! ((a : Inside R.Denot) × ((trace.the_view R a ≡ ys) × trace.the_invariant R a))
        (λ w. fsep (Fields.own_val w.0 vs) ftrue) (z, (refl, tt)) $ done !)

    -- what a `&mut` points to is turned too, and no step is run
    pub lengthened : (κ : Lft) (q : Share) (x : MutBor (List R.Denot)) (vs : List Val) (ys : List R.Denot)
        → ent 𝓤 (sep 𝓤 (sem 𝓛 ((MutRef (named 0) κ Row).own_val x vs)) (sem 𝓛 (flft κ q)))
        (𝓛.H.⇛ (sep 𝓤 (sem 𝓛 ((MutRef (named 0) κ Row).own_val (record x { now = ys }) vs)) (sem 𝓛 (flft κ q))))
    lengthened κ q x vs ys = let b = x.ref_ptr.0 in let o = x.ref_ptr.1 in
        qed 𝓛 (‵ ((MutRef (named 0) κ Row).own_val x vs) ∷ ‵ (flft κ q) ∷ []) ∵ updating ! $ fsplit3 !
        $ move ! (1 ∷ 2 ∷ 3 ∷ []) $
        opens ! tt Row b o
        (λ us. move ! (1 ∷ []) $ use1 𝓛 (‵ (Row.own_val ys us)) (turned x.now ys us) $ move ! (1 ∷ 0 ∷ [])
        $ closes ! tt Row ys us b o $
        now ! $ move ! (3 ∷ 0 ∷ 1 ∷ []) $ fjoin3 ! $ done !)
