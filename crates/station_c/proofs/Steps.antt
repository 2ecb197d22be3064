-- The modules that the walks of this crate cite.
pub use Rattle.std.proofs.Common.{◌≡◌, List, [], ◌∷◌, ◌++◌, refl, sym, ap, ◌∙◌, subst}
pub use Rattle.std.proofs.raw_atomic.Walks.{proved_at, leaves}
pub use Rattle.std.proofs.BoxSteps.Form.{Bx, B, D, R, P, word, box_typed}
pub use Rattle.std.proofs.BoxSteps.Steps.{box_out, box_in}
pub use mir.Val.{Val}
pub use prog.Wp.{WpFn}
pub use base.Logic.{SProp, ent, emp, id⊢}
pub use base.Fml.{ftrue, fsep, flft}
pub use types.Kit.{Item, ‵, raw, ◌⊛◌, ◌$◌, ◌∵◌, !, qed, by, move, keep, drop, split, join, fsplit, fjoin, use0, use1, suffices, done}
pub use types.Run.{stop, fld, of_opd, no_more, and_then, returns, enter}
pub use types.Part.{whole, sub, agg}
pub use types.ByLocal.{alloc_all, pass_all, free_all, look_at, get, get_in, sets}
pub use contract.Monad.{fact, fact_i}
pub use contract.Running.{tables}
pub use denote.Signature.{plain, type_at}
pub use denote.Steps.{nothing, heard}
pub use denote.Triple.Walked.{Stays, stay_dropped, walk_of, says, ends_at}
