-- `take_parts` keeps the pointer, and leaves a handle that owns nothing.
use Rattle.std.proofs.Common.{◌≡◌, Bool, true, false, List, [], ◌∷◌, refl, sym, ap, ◌∙◌}
use base.Fraction.{full_share}
use base.Fml.{ftrue, flft}
use base.Logic.{id⊢, fst∗, never}
use mir.Raw.{raw as bare}
use mir.Syntax.{named}
use lib.Dec.{T}
use denote.Param.{layout}
use mir.Val.{Val, has_ty, WT}
use contract.Monad.{fact}
use contract.Running.{tables}
use denote.Exit.{yes}
use types.Logic.{sem}
use types.Kit.{‵, raw, ◌⊛◌, ◌$◌, ◌∵◌, !, qed, done, drop, move, keep, split, join, use1, fsplit, fsplit3, rewrite}
use types.Kit.{suffices, frame, group}
use types.Run.{enter, of_opd, load, stop, fld, false_lit, no_more, and_then, assigns, returns}
use types.ByLocal.{alloc_all, pass_all, free_all, look_at, get, through, sets}
use types.Part.{whole, sub, look_in, store_in, agg}
use denote.Laws.{shows}
use denote.Memory.{cell_at, lone}
use denote.RawPtr.{Ptr, block_ptr, null_ptr, in_a_block}
use denote.Ref.{MutRef, mut_vals, mut_Tells}
use denote.Signature.{plain, type_at}
use denote.Steps.{nothing, opens, closes, peeks, heard}
use denote.Triple.Walked.{Stays, walk_of, says, stay_ref, stay_dropped, Goes-ref, Goes-dropped, ends_at}
use Rattle.std.proofs.raw_atomic.Walks.{proved}
use Rattle.libc.specs.Heap.{chunk}
use Rattle.std.specs.Box.Ownership.{box_owns}
use Rattle.std_alloc.proofs.BoxSteps.Form.{D, word as box_word, box_typed}
use Rattle.std_alloc.proofs.BoxSteps.Steps.{box_in}
use Rattle.std_heap.specs.contracts.Global as Heap
use Rattle.std_heap.proofs.Global.TheLaws as heap
use Rattle.nio_c.specs.Owned.{handle_owns, holder_row}
use Rattle.nio_c.specs.contracts.handle.Handle.take_parts as f
use Rattle.nio_c.proofs.AsBox.{E}
use Rattle.nio_c.proofs.HandleSteps.{handle_in, word}
use Rattle.nio_c.proofs.handle.Handle.take_parts.Statement.{statement}
use Rattle.nio_c.proofs.handle.Handle.take_parts.Code as code
use Rattle.nio_c.specs.contracts.handle.Handle.{the_row as R}
use Rattle.nio_c.proofs.handle.Handle.TheLaws.{lowers}

abbrev stayed : Stays f.ended.signature.params f.ended.kept
stayed = (stay_ref (0 ∷ []) tt (plain (λ _. R)), (stay_dropped _ yes, tt))

heap_good : (g : Heap.the_row.Denot) → T (has_ty (layout Heap.the_row) (heap.lowers.lowered g)) × WT
    (heap.lowers.lowered g)
heap_good g = (tt, ((tt, tt), tt))

pub take_parts_spec : {M : Type 1} → statement M
take_parts_spec 𝓤 𝓛 𝓜 𝓡 wired =
    let c = f.clauses 𝓛 𝓜.mem 𝓡.returns in let W = walk_of 𝓛 f.ended stayed c in let 𝓣 = tables 𝓤 𝓛.H 𝓜 𝓡 𝓡.env in
    proved 𝓛 f.ended stayed c 𝓜 𝓡
    (Goes-ref 𝓛 1 0 tt (plain (λ _. R)), (Goes-dropped 𝓛 1 (plain (λ _. Heap.the_row)) yes (λ κs x w. refl), tt))
    f.Key.name code.function (code.unfolded 𝓤 𝓛.H 𝓜 𝓡 wired)
    (λ κs. (mut_vals, ((λ g. heap.lowers.lowered g ∷ []), tt)))
    (λ κs. (mut_Tells (named 0) κs.0 R, (heap.lowers.val_is, tt))) (λ κs qs bounds a gh are.
    let b = a.0.ref_ptr.0 in let o = a.0.ref_ptr.1 in let h = a.0.now in let vs = mut_vals a.0 in let alloc = a.1.0
    in let hv = heap.lowers.lowered alloc in
    let y : W.Ghost = ((κs, qs, bounds, a, (vs, (hv ∷ [], tt))), gh) in
    qed 𝓛 (((‵ (flft κs.0 qs.0) ⊛ ‵ ftrue) ⊛ ‵ ((MutRef (named 0) κs.0 R).own_val a.0 vs) ⊛ ‵
    (Heap.the_row.own_val alloc (hv ∷ [])) ⊛ ‵ ftrue) ∷ raw (fact 𝓤 (h.full ≡ true)) ∷ []) ∵
    move ! (1 ∷ []) $ heard ! (h.full ≡ true) (λ full.
    split ! $ split ! $ move ! (2 ∷ []) $ split ! $ move ! (1 ∷ []) $ split ! $
    -- [alloc; true; self; the token; true]
    keep ! (2 ∷ 3 ∷ 0 ∷ []) $
    enter ! _ _ _ _ _ $ alloc_all ! (λ l. pass_all ! refl ((tt, tt), (heap_good alloc, tt)) $
    fsplit3 ! $ move ! (1 ∷ 2 ∷ 3 ∷ []) $ opens ! tt R b o (λ us.
    move ! (1 ∷ []) $ peeks ! R _ (shows 𝓛 R) h us (λ is. fsplit ! $ move ! (1 ∷ []) $
    rewrite ! 0 (λ (t : Bool). ‵ (handle_owns t h.at h.holder)) full refl $
    in_a_block ! h.at (λ p. box_owns chunk holder_row p h.holder)
    (fst∗ 𝓤 (never 𝓤) (sem 𝓛 (chunk (bare (lone holder_row.mir)) null_ptr))) (λ b' o' e.
    move ! (1 ∷ []) $ drop ! $
    let is_word = lowers.val_is h us is ∙ ap (λ (p : Ptr). lowers.lowered (record h { at = p }) ∷ []) e in
    let Cell = λ (ws : List Val). ‵ (cell_at full_share R.mir ws b o) in
    rewrite ! 1 Cell is_word refl $
    -- [what the box owns; self's cell; the open borrow, in three entries; self's first part; the allocator]
    assigns ! (of_opd ! (false_lit !)) (through ! refl (fld ! refl (stop !)))
    (store_in ! 1 (sub ! 1 refl (whole !)) (tt, tt)) $
    sets ! (of_opd ! (load ! (through ! refl (fld ! refl (stop !))) (look_in ! 1 (sub ! 0 refl (whole !))))) refl
    (tt, tt) $
    sets ! (of_opd ! (get ! refl)) refl (tt, tt) $
    sets ! (agg ! (and_then ! (get ! refl) (and_then ! (get ! refl) (no_more !)))) refl
    (box_typed E hv b' o' (heap_good alloc)) $
    let h' = record h { full = false } in
    let To = type_at f.signature.result κs in
    let made : To.Denot = record { ptr = block_ptr b' o'; alloc = alloc; value = h.holder } in
    let v : D E = record { ptr = block_ptr b' o'; alloc = alloc; value = h.holder } in
    nothing ! $ handle_in ! b' o' false h.holder $
    rewrite ! 0 (λ (p : Ptr). ‵
    (R.own_val (record { at = p; full = false; holder = h.holder }) (word b' o' false ∷ []))) (sym e) refl $
    move ! (2 ∷ 0 ∷ 3 ∷ 4 ∷ 5 ∷ []) $ closes ! tt R h' (word b' o' false ∷ []) b o $
    -- [two parts of self; the token; what the box owns; self's first part; the allocator]
    returns ! (look_at ! 0 refl) $ free_all ! refl $
    move ! (3 ∷ []) $ fsplit ! $ move ! (0 ∷ 1 ∷ 6 ∷ []) $ box_in E ! v b' o' h.holder refl refl $
    use1 𝓛 (‵ (To.own_val made (box_word E hv b' o' ∷ []))) (id⊢ 𝓤 _) $
    -- [the result; two parts of self; the token; self's first part]
    suffices ! _ (ends_at 𝓛 f.ended stayed c y (box_word E hv b' o') made (h', (tt, tt)) (tt, (tt, tt))) $ says !
    (refl, refl) $
    move ! (4 ∷ 1 ∷ 2 ∷ []) $ group ! 3 $ nothing ! $ nothing ! $ join ! $ move ! (1 ∷ 0 ∷ []) $ join ! $
    nothing ! $ move ! (3 ∷ 0 ∷ []) $ join ! $ frame ! $ frame ! $ done !))))))
