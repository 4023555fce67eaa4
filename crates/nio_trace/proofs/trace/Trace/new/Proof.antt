-- The trace that is made owns nothing, so it is had at the empty list.
use Rattle.nio_trace.proofs.Names.{◌≡◌, List, [], ◌∷◌, refl, proved, leaves, SProp, emp, fact, fact_i, tables, param}
use Rattle.nio_trace.proofs.Names.{layouts, RattleType, owns, types_at, nothing, Stays, walk_of, inst_fn, a_type, Val}
use Rattle.nio_trace.proofs.Names.{alloc_all, pass_all, free_all, look_at, get, sets, ‵, raw, ◌⊛◌, ◌$◌, ◌∵◌, !, qed, by}
use Rattle.nio_trace.proofs.Names.{keep, split, use0, enter, returns, and_then, no_more, agg, alive}
use Rattle.nio_trace.proofs.Owned.{Row, value, made}
use Rattle.nio_trace.specs.contracts.trace.Trace.new.{ended, clauses}
use Rattle.nio_trace.specs.contracts.trace.Trace.new.Key.{name as #self}
use Rattle.nio_trace.proofs.trace.Trace.new.Statement.{statement}
use Rattle.nio_trace.proofs.trace.Trace.new.Code as code

pub new_spec : {M : Type 1} → statement M
new_spec 𝓤 𝓛 𝓜 𝓡 wired T _ =
    let H = 𝓛.H in let 𝓣 = tables 𝓤 H 𝓜 𝓡 𝓡.env in let En = ended T in let R : RattleType = param 0 T in
    let c = clauses T 𝓛 𝓜.mem 𝓡.returns in
    let inst = layouts (a_type ∷ []) (T, tt) in let fn = inst_fn inst code.function in
    let hs : Stays En.signature.params En.kept = tt in
    proved 𝓛 En hs c 𝓜 𝓡 tt (#self inst) fn (code.unfolded 𝓤 H 𝓜 𝓡 wired (T, tt)) (λ κs. tt) (λ κs. tt)
    (λ κs qs bounds a gh are.
    let list : List T.Denot = [] in let Told : Type 0 = list ≡ [] in
    let y : (walk_of 𝓛 En hs c).Ghost = ((κs, qs, bounds, a, tt), gh) in let Post : Val
    → SProp 𝓤 = (walk_of 𝓛 En hs c).post y in
    qed 𝓛 ((raw (alive 𝓛 En.signature κs qs) ⊛ ‵ (owns (types_at En.signature.params κs) a y.0.4))
    ∷ raw ((c κs a).requires gh) ∷ []) ∵
    split ! $ keep ! (0 ∷ []) $ enter ! 𝓣.C 𝓣.Λ fn [] Post $ alloc_all ! (λ l. pass_all ! refl tt $
    sets ! (agg ! (no_more !)) refl (tt, tt) $ sets ! (agg ! (and_then ! (get ! refl) (no_more !))) refl (tt, (tt, tt))
    $
    use0 𝓛 (‵ ((Row R).own_val list (value ∷ []))) (made R 𝓛 list) $ use0 𝓛 (raw (fact 𝓤 Told))
    (fact_i 𝓤 Told (emp 𝓤) refl) $ nothing ! $
    returns ! (look_at ! 0 refl) $ free_all ! refl $ keep ! (3 ∷ 0 ∷ 2 ∷ 1 ∷ [])
    $ by ! (leaves 𝓛 En hs c y value list tt tt)))
