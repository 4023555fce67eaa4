-- No step is run: the trace is turned to the longer list.
use Rattle.nio_trace.proofs.Names.{◌≡◌, List, [], ◌∷◌, ◌++◌, refl, proved, leaves, Fml, ftrue, fsep, flft, SProp, emp}
use Rattle.nio_trace.proofs.Names.{fact, fact_i, tables, RefOf, yes, param, bounded, RattleType, owns, MutRef, mut_vals}
use Rattle.nio_trace.proofs.Names.{mut_Tells, shr_vals, shr_Tells, plain, types_at, nothing, Stays, walk_of, stay_ref}
use Rattle.nio_trace.proofs.Names.{Goes-ref, stay_dropped, Goes-dropped, inst_fn, a_type, dcons, dnil, named, Val}
use Rattle.nio_trace.proofs.Names.{vunit, vptr, alloc_all, pass_all, free_all, look_at, sets, ‵, raw, ◌⊛◌, ◌$◌, ◌∵◌, ! }
use Rattle.nio_trace.proofs.Names.{qed, by, move, keep, split, join, fsplit, fjoin, feq_i, use0, use2, later, await}
use Rattle.nio_trace.proofs.Names.{enter, of_opd, unit_lit, returns}
use Rattle.nio_trace.proofs.Owned.{Row, lengthened}
use Rattle.nio_trace.specs.contracts.trace.Trace.extend_from.{ended, clauses}
use Rattle.nio_trace.specs.contracts.trace.Trace.extend_from.Key.{name as #self}
use Rattle.nio_trace.proofs.trace.Trace.extend_from.Statement.{statement}
use Rattle.nio_trace.proofs.trace.Trace.extend_from.Code as code

pub extend_from_spec : {M : Type 1} → statement M
extend_from_spec 𝓤 𝓛 𝓜 𝓡 wired T X N _ _ _ g d _ =
    let H = 𝓛.H in let 𝓣 = tables 𝓤 H 𝓜 𝓡 𝓡.env in let En = ended T X N g d in let R : RattleType = param 0 T in
    let S : RattleType = param 1 X in let c = clauses T X N g d 𝓛 𝓜.mem 𝓡.returns in
    let inst = bounded (a_type ∷ a_type ∷ a_type ∷ []) (T, (X, (N, tt))) (dcons d dnil) in
    let fn = inst_fn inst code.function in
    let self = plain (λ _. Row R) in let from = RefOf (1 ∷ []) tt (plain (λ _. S)) (λ _. tt) in
    let hs : Stays En.signature.params En.kept = (stay_ref (0 ∷ []) tt self, (stay_dropped from yes, tt)) in
    proved 𝓛 En hs c 𝓜 𝓡 (Goes-ref 𝓛 5 0 tt self, (Goes-dropped 𝓛 5 from yes (λ κs x f. refl), tt)) (#self inst) fn
    (code.unfolded 𝓤 H 𝓜 𝓡 wired (T, (X, (N, tt))) d)
    (λ κs. (mut_vals, (shr_vals, tt))) (λ κs. (mut_Tells (named 0) κs.0 (Row R), (shr_Tells (named 1) κs.1.0 S, tt)))
    (λ κs qs bounds a gh are.
    let p : Val = vptr a.0.ref_ptr.0 a.0.ref_ptr.1 in let i : Val = vptr a.1.0.ref_ptr.0 a.1.0.ref_ptr.1 in
    let longer : List T.Denot = a.0.now ++ g.items a.1.0.now in
    let y : (walk_of 𝓛 En hs c).Ghost = ((κs, qs, bounds, a, (p ∷ [], (i ∷ [], tt))), gh) in let Post : Val
    → SProp 𝓤 = (walk_of 𝓛 En hs c).post y in
    let others : Fml = fsep (flft κs.1.0 qs.1.0)
    (fsep (flft κs.1.1.0 qs.1.1.0)
    (fsep (flft κs.1.1.1.0 qs.1.1.1.0) (fsep (flft κs.1.1.1.1.0 qs.1.1.1.1.0) ftrue))) in
    let Told : Type 0 = longer ≡ longer in
    qed 𝓛 (((‵ (flft κs.0 qs.0) ⊛ ‵ others) ⊛ ‵ (owns (types_at En.signature.params κs) a y.0.4))
    ∷ raw ((c κs a).requires gh) ∷ []) ∵
    split ! $ split ! $ move ! (2 ∷ []) $ fsplit ! $ keep ! (0 ∷ 2 ∷ 3 ∷ []) $
    enter ! 𝓣.C 𝓣.Λ fn (p ∷ i ∷ []) Post $ alloc_all ! (λ l. pass_all ! refl ((tt, tt), ((tt, tt), tt)) $
    use2 𝓛 (later
    (‵ ((MutRef (named 0) κs.0 (Row R)).own_val (record a.0 { now = longer }) (p ∷ [])) ⊛ ‵ (flft κs.0 qs.0)))
    (lengthened R 𝓛 κs.0 qs.0 a.0 (p ∷ []) longer) $ await ! tt $ split ! $
    nothing ! $ nothing ! $ fjoin ! $ move ! (1 ∷ 0 ∷ []) $ fjoin ! $ move ! (1 ∷ 2 ∷ []) $ join ! $
    sets ! (of_opd ! (unit_lit !)) refl (tt, tt) $ use0 𝓛 (raw (fact 𝓤 Told)) (fact_i 𝓤 Told (emp 𝓤) refl)
    $ feq_i ! (List Val) (vunit ∷ []) (vunit ∷ []) refl $
    returns ! (look_at ! 0 refl) $ free_all ! refl $ keep ! (2 ∷ 3 ∷ 0 ∷ 1 ∷ [])
    $ by ! (leaves 𝓛 En hs c y vunit tt (longer, (tt, tt)) (tt, (tt, tt)))))
