-- A handle by value: its two words, and what it owns.
use Rattle.std.proofs.Common.{ℕ, Bool, List, [], ◌∷◌, refl}
use seplogic.Ra.Ura.{Ura}
use mir.Val.{Val, vbool, vptr, vstruct, vcons, vnil}
use types.Logic.{Logic}
use types.Kit.{Item, Goal, Step, step, ‵, ◌$◌, fjoin, fpack, feq_i}
use denote.RattleType.{Valss}
use denote.Builtin.{RawPtr, bool}
use denote.RawPtr.{block_ptr}
use denote.Steps.{nothing}
use denote.Struct.Struct.{within}
use denote.Struct.Owning.{shape}
use Rattle.nio_c.specs.Owned.{handle_owns, holder_row}
use Rattle.nio_c.specs.contracts.handle.Handle.{the_row, the_type}

abbrev pub word : ℕ → ℕ → Bool → Val
word b o full = vstruct (vcons (vptr b o) (vcons (vbool full) vnil))

module _ {M : Type 1} {𝓤 : Ura M} {𝓛 : Logic 𝓤} {K : Type 0} {Γ : List (Item 𝓤)} {G : Goal 𝓤 𝓛.H} where
  pub handle_in : K → (b o : ℕ) (full : Bool) (x : holder_row.Denot)
      → Step K 𝓛
      (‵ (the_row.own_val (record { at = block_ptr b o; full = full; holder = x }) (word b o full ∷ [])) ∷ Γ) G
      (‵ (handle_owns full (block_ptr b o) x) ∷ Γ) G
  handle_in t b o full x = step (λ s. let v : Val = word b o full in
      nothing t $ feq_i t (List Val) (vbool full ∷ []) (vbool full ∷ []) refl $ fjoin t $
      feq_i t (List Val) (vptr b o ∷ []) (vptr b o ∷ []) refl $ fjoin t $
      feq_i t (List Val) (v ∷ []) (v ∷ []) refl $ fjoin t $
      fpack t (Valss (RawPtr ∷ bool ∷ [])) (within (shape the_type) (block_ptr b o, (full, tt)) (v ∷ []))
      (vptr b o ∷ [], (vbool full ∷ [], tt)) $ fjoin t $ s)
