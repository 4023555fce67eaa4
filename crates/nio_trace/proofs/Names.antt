-- The names of the logic that the walks of this crate use, in one place.
pub use Rattle.std.proofs.Common.{MutBor, ◌≡◌, List, [], ◌∷◌, ◌++◌, refl}
pub use Rattle.std.proofs.raw_atomic.Walks.{proved, leaves}
pub use base.Fml.{Fml, Lft, Share, ftrue, fsep, flft}
pub use base.Logic.{SProp, ent, sep, emp}
pub use contract.Monad.{fact, fact_i}
pub use contract.Running.{tables}
pub use denote.Builtin.{RefOf}
pub use denote.Exit.{yes}
pub use denote.Param.{param, layouts, bounded}
pub use denote.RattleType.{RattleType, owns}
pub use denote.Ref.{MutRef, mut_vals, mut_Tells, shr_vals, shr_Tells}
pub use denote.Shadow.{makes_shadow, Pure}
pub use denote.Signature.{plain, types_at}
pub use denote.Steps.{nothing, opens, closes}
pub use denote.Triple.Entry.{alive}
pub use denote.Triple.Walked.{Stays, walk_of, stay_ref, Goes-ref, stay_dropped, Goes-dropped}
pub use mir.MapTy.{inst_fn}
pub use mir.Syntax.{a_type, dcons, dnil, named}
pub use mir.Val.{Val, vunit, vptr, vstruct, vcons, vnil}
pub use seplogic.Ra.Ura.{Ura}
pub use types.ByLocal.{alloc_all, pass_all, free_all, look_at, get, sets}
pub use types.Kit.{‵, raw, ◌⊛◌, ◌$◌, ◌∵◌, !, qed, by, done, move, keep, split, join, fsplit, fsplit3, fjoin, fjoin3}
pub use types.Kit.{fpick, fpack, feq_i, use0, use1, use2, later, await, updating, now}
pub use types.Logic.{Logic, sem}
pub use types.Part.{agg}
pub use types.Run.{enter, of_opd, unit_lit, returns, and_then, no_more}
