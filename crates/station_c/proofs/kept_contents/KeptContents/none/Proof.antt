-- A pointer to nothing, which owns nothing.
use Rattle.station_c.proofs.Steps.{box_typed, List, [], ◌∷◌, ◌++◌, refl, sym, subst, proved_at, Val, WpFn, SProp, ent, emp, id⊢, ftrue, fsep, ‵, raw, ◌⊛◌, ◌$◌, ◌∵◌, !, qed, move, keep, split, join, fsplit, fjoin, use1, suffices, no_more, and_then, returns, enter, agg, alloc_all, pass_all, free_all, look_at, get, sets, tables, Stays, stay_dropped, walk_of, says, ends_at, done, nothing}
use Rattle.std.proofs.Common.{false}
use mir.Val.{vint, vstruct, vcons, vnil}
use mir.Syntax.{w64}
use lib.Dec.{lit<}
use types.Kit.{fpack, feq_i}
use types.Run.{lit}
use denote.Exit.{yes}
use denote.RattleType.{Valss}
use denote.RawPtr.{null_ptr, RawPtr}
use denote.Signature.{plain}
use denote.Struct.Struct.{within}
use denote.Struct.Owning.{shape}
use denote.Triple.Walked.{Goes-dropped}
use Rattle.std.proofs.alloc.Calls.{handle_tells}
use Rattle.std.specs.contracts.alloc.Global.{the_row as Global}
use Rattle.station_c.proofs.Boxed.{E}
use Rattle.station_c.proofs.Boxed.{no_contents}
use Rattle.station_c.specs.contracts.kept_contents.KeptContents.{the_row as KeptContents, the_type}
use Rattle.station_c.specs.contracts.kept_contents.KeptContents.none as f
use Rattle.station_c.proofs.kept_contents.KeptContents.none.Statement.{statement}
use Rattle.station_c.proofs.kept_contents.KeptContents.none.Code as code

pub none_spec : {M : Type 1} → statement M
none_spec 𝓤 𝓛 𝓜 𝓡 wired =
    let 𝓣 = tables 𝓤 𝓛.H 𝓜 𝓡 𝓡.env in let c = f.clauses 𝓛 𝓜.mem 𝓡.returns in
    let stayed : Stays f.ended.signature.params f.ended.kept = (stay_dropped (plain (λ _. Global)) yes, tt) in let W = walk_of 𝓛 f.ended stayed c in
    proved_at 𝓛 f.ended stayed c 𝓜 𝓡 (Goes-dropped 𝓛 0 (plain (λ _. Global)) yes (λ κs x w. refl), tt) f.Key.name code.function (code.unfolded 𝓤 𝓛.H 𝓜 𝓡 wired) (λ z are.
    let a = z.0.3.0 in
    let none : KeptContents.Denot = record { at = null_ptr; alloc = a; made = false; contents = no_contents } in
    let Run : List Val → SProp 𝓤 = λ ws. WpFn 𝓤 𝓛.H 𝓣.C 𝓣.Λ code.function ws (W.post z) in
    qed 𝓛 ((‵ ftrue ⊛ ‵ (fsep (Global.own_val a z.0.4.0) ftrue)) ∷ raw (emp 𝓤) ∷ []) ∵ split ! $ move ! (1 ∷ []) $ fsplit ! $
    handle_tells E.al ! a z.0.4.0 (λ hv ws fits.
    let w = vstruct (vcons (vint w64 0) (vcons hv vnil)) in
    suffices ! (Run (hv ∷ [])) (subst (λ (us : List Val). ent 𝓤 (Run (hv ∷ [])) (Run us)) (sym (λ i. ws i ++ [])) (id⊢ 𝓤 (Run (hv ∷ [])))) $
    enter ! 𝓣.C 𝓣.Λ code.function (hv ∷ []) _ $ alloc_all ! (λ l. pass_all ! refl (fits, tt) $
    sets ! (agg ! (and_then ! (lit ! tt) (and_then ! (get ! refl) (no_more !)))) refl ((box_typed E hv 0 0 fits).0, (record { fits = lit< tt }, (fits.1, tt))) $
    returns ! (look_at ! 0 refl) $ free_all ! refl $ keep ! (0 ∷ []) $
    nothing ! $ move ! (1 ∷ 0 ∷ []) $ fjoin ! $ feq_i ! (List Val) (vint w64 0 ∷ []) (vint w64 0 ∷ []) refl $ fjoin ! $
    feq_i ! (List Val) (w ∷ []) (w ∷ []) refl $ fjoin ! $
    fpack ! (Valss (RawPtr ∷ Global ∷ [])) (within (shape the_type) (null_ptr, (((a.memory.seal, tt), tt), tt)) (w ∷ [])) (vint w64 0 ∷ [], (hv ∷ [], tt)) $
    nothing ! $ move ! (1 ∷ 0 ∷ []) $ fjoin ! $ use1 𝓛 (‵ (KeptContents.own_val none (w ∷ []))) (id⊢ 𝓤 _) $
    suffices ! _ (ends_at 𝓛 f.ended stayed c z w none (tt, tt) (tt, tt)) $ says ! refl $
    nothing ! $ nothing ! $ fjoin ! $ join ! $ nothing ! $ join ! $ done !)))
