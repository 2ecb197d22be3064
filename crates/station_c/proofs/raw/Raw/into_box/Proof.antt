-- The parts are put together: the box owns what they owned.
use Rattle.station_c.proofs.Steps.{◌≡◌, List, [], ◌∷◌, ◌++◌, refl, sym, ap, subst, proved_at, Bx, B, D, R, P, word, box_typed, box_out, box_in, Val, WpFn, SProp, ent, id⊢, ftrue, fsep, flft, ‵, raw, ◌⊛◌, ◌$◌, ◌∵◌, !, qed, move, keep, drop, split, join, fsplit, fjoin, use1, suffices, stop, fld, of_opd, no_more, and_then, returns, enter, whole, sub, alloc_all, pass_all, free_all, look_at, get, get_in, sets, fact, heard, tables, plain, Stays, stay_dropped, walk_of, says, ends_at, done, nothing}
use mir.Syntax.{a_type, dcons, dnil}
use mir.MapTy.{inst_fn}
use mir.Val.{vptr, has_ty, WT}
use lib.Dec.{T as T'}
use contract.BorrowLft.{◌⊑◌}
use types.Kit.{at_ret, split3, feq_i, pick, await, rewrite, some, later}
use types.Run.{first, blocks, exec}
use types.ByLocal.{lands_last, env}
use denote.Exit.{no}
use denote.Param.{bounded}
use denote.RattleType.{RattleType}
use denote.RawPtr.{block_ptr}
use denote.Steps.{only}
use denote.Triple.Call.{calls_at_last}
use denote.Triple.Clauses.{Lasts, lasts}
use denote.Triple.Spec.{triple_of}
use denote.Triple.Table.{framed}
use Rattle.std.proofs.VecSteps.Shapes.{after}
use Rattle.std.proofs.alloc.Calls.{Goes-blank}
use Rattle.std.proofs.BoxSteps.Form.{box_ty}
use Rattle.std.specs.contracts.boxed.Box.from_raw as whole_again
use Rattle.std.proofs.boxed.Box.from_raw.Met.{met}
use Rattle.station_c.specs.contracts.raw.Raw as raws
use Rattle.station_c.specs.contracts.raw.Raw.into_box as f
use Rattle.station_c.proofs.raw.Raw.into_box.Statement.{statement}
use Rattle.station_c.proofs.raw.Raw.into_box.Code as code

pub into_box_spec : {M : Type 1} → statement M
into_box_spec 𝓤 𝓛 𝓜 𝓡 wired T A L LA g d dd allocator glued =
    let E : Bx = record { row = T; laws = L; al = record { row = A; laws = LA; g = g; d = d; drops = dd } } in
    let types = bounded (a_type ∷ a_type ∷ []) (T, (A, tt)) (dcons d (dcons dd dnil)) in
    let fn = inst_fn types code.function in let 𝓣 = tables 𝓤 𝓛.H 𝓜 𝓡 𝓡.env in
    let exit = f.ended T A g d dd in let c = f.clauses T A g d dd 𝓛 𝓜.mem 𝓡.returns in
    let From : RattleType = raws.the_row (R E) (P E) g in
    let stayed : Stays exit.signature.params exit.kept = (stay_dropped (plain (λ _. From)) no, tt) in let W = walk_of 𝓛 exit stayed c in
    let Closed = triple_of 𝓛 (whole_again.signature T A g d dd) (whole_again.spec T A g d dd 𝓛 𝓜.mem 𝓡.returns) in
    let Ends = whole_again.ended T A g d dd in
    proved_at 𝓛 exit stayed c 𝓜 𝓡 (Goes-blank 𝓛 2 (plain (λ _. From)) no (λ κs x w. tt), tt) (f.Key.name types) fn (code.unfolded 𝓤 𝓛.H 𝓜 𝓡 wired (T, (A, tt)) d dd) (λ z are.
    let κs = z.0.0 in let qs = z.0.1 in let parts = z.0.3.0 in
    let v : D E = record { ptr = parts.at; alloc = parts.alloc; value = parts.value } in
    let Run : List Val → SProp 𝓤 = λ ws. WpFn 𝓤 𝓛.H 𝓣.C 𝓣.Λ fn ws (W.post z) in
    let alive = ‵ (flft κs.0 qs.0) ⊛ ‵ (flft κs.1.0 qs.1.0) ⊛ ‵ ftrue in
    let inside = raw (fact 𝓤 (κs.0 ⊑ T.lives)) ⊛ raw (fact 𝓤 (κs.1.0 ⊑ A.lives)) ⊛ ‵ ftrue in
    qed 𝓛 ((alive ⊛ ‵ (fsep ((B E).own_val v z.0.4.0) ftrue)) ∷ inside ∷ []) ∵ split ! $ move ! (1 ∷ []) $ fsplit ! $
    box_out E ! v z.0.4.0 (λ b o hv e ws fits.
    -- [the thing; the right to free its block; the allocator; nothing; the tokens; that the
    -- lifetimes last]
    let w = word E hv b o in let typed = box_typed E hv b o fits in
    let y : Closed.Ghost = ((κs, qs, tt, (v.alloc, (block_ptr b o, tt)), (hv ∷ [], (vptr b o ∷ [], tt))), v.value) in
    fjoin ! $ move ! (4 ∷ []) $ split3 ! $ move ! (2 ∷ []) $ drop ! $ move ! (1 ∷ 2 ∷ []) $ join ! $ move ! (1 ∷ 0 ∷ []) $ join ! $
    -- [what is asked; the allocator; nothing; the tokens]
    move ! (2 ∷ []) $ feq_i ! (List Val) (vptr b o ∷ []) (vptr b o ∷ []) refl $ fjoin ! $ move ! (2 ∷ 0 ∷ []) $ fjoin ! $ move ! (2 ∷ 0 ∷ []) $ join ! $ join ! $
    use1 𝓛 (raw (Closed.pre y)) (id⊢ 𝓤 _) $
    suffices ! (Run (w ∷ [])) (subst (λ (us : List Val). ent 𝓤 (Run (w ∷ [])) (Run us)) (sym (λ i. ws i ++ [])) (id⊢ 𝓤 (Run (w ∷ [])))) $
    enter ! 𝓣.C 𝓣.Λ fn (w ∷ []) _ $ alloc_all ! (λ l. pass_all ! refl (typed, tt) $
    let Locals = env fn.locals l in
    sets ! (of_opd ! (get_in ! (fld ! refl (stop !)) (sub ! 0 refl (whole !)))) refl (tt, tt) $
    sets ! (of_opd ! (get_in ! (fld ! refl (stop !)) (sub ! 1 refl (whole !)))) refl fits $
    first ! $ blocks ! $ sets ! (of_opd ! (get ! refl)) refl fits $
    calls_at_last ! (framed 𝓤 𝓛.H 𝓜 𝓣) Closed (met 𝓤 𝓛 𝓜 𝓡 (code.calls-std::boxed::Box::from_raw 𝓡.env wired) T A L LA g d dd allocator glued) y
    (and_then ! (get ! refl) (and_then ! (get ! refl) (no_more !))) (λ u.
    use1 𝓛 (later (some (λ (r : D E). (alive ⊛ ‵ ((B E).own_val r (u ∷ []))) ⊛ some (λ (ls : Lasts Ends κs y.0.3). ‵ (lasts Ends κs y.0.3 ls) ⊛
    (raw (fact 𝓤 (r.value ≡ v.value)) ⊛ raw (fact 𝓤 (r.alloc ≡ v.alloc))))))) (id⊢ 𝓤 (Closed.post y u)) $
    await ! tt $ pick ! (λ r. split ! $ move ! (1 ∷ []) $ pick ! (λ _. split3 ! $ drop ! $ heard ! (r.value ≡ v.value) (λ same. drop ! $ split ! $ move ! (1 ∷ []) $
    -- [the box; the tokens]
    box_out E ! r (u ∷ []) (λ b' o' hv' e' us fits'. box_in E ! r b' o' r.value e' refl $ rewrite ! 0 (λ (vs : List Val). ‵ ((B E).own_val r vs)) (sym us) refl $
    let IsBox : Val → Type 0 = λ v'. T' (has_ty (box_ty E) v') × WT v' in
    let good : IsBox u = subst IsBox (sym (ap only us)) (box_typed E hv' b' o' fits') in
    lands_last ! refl good $ exec ! 𝓣.C 𝓣.Λ Locals (after 3 fn.body) (at_ret Locals (W.post z)) $
    sets ! (of_opd ! (get ! refl)) refl good $ returns ! (look_at ! 0 refl) $ free_all ! refl $ keep ! (0 ∷ 1 ∷ []) $
    suffices ! _ (ends_at 𝓛 exit stayed c z u r ((tt, (tt, tt)), tt) (tt, tt)) $ says ! same $
    nothing ! $ nothing ! $ fjoin ! $ join ! $ move ! (1 ∷ 0 ∷ []) $ join ! $ done !))))))))
