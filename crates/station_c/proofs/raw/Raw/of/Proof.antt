-- A box is taken apart, and its parts own what it owned.
use Rattle.station_c.proofs.Steps.{◌≡◌, List, [], ◌∷◌, ◌++◌, refl, sym, ap, ◌∙◌, subst, proved_at, Bx, B, R, P, word, box_typed, box_out, box_in, Val, WpFn, SProp, ent, id⊢, ftrue, fsep, flft, ‵, raw, ◌⊛◌, ◌$◌, ◌∵◌, !, qed, move, keep, drop, split, join, fsplit, fjoin, use1, suffices, stop, fld, of_opd, no_more, and_then, returns, enter, whole, sub, agg, alloc_all, pass_all, free_all, look_at, get, get_in, sets, fact, heard, tables, plain, Stays, stay_dropped, walk_of, says, ends_at, done, nothing}
use mir.Syntax.{a_type, dcons, dnil}
use mir.MapTy.{inst_fn}
use mir.Raw.{raw as bare}
use mir.Val.{vstruct, of_list}
use base.Logic.{never, fst∗}
use contract.BorrowLft.{◌⊑◌}
use types.Logic.{sem}
use types.Kit.{split3, fpick, feq_l, pick, await, rewrite, some, later}
use types.ByLocal.{lands_as}
use denote.Exit.{no}
use denote.Param.{bounded, layout}
use denote.RattleType.{RattleType}
use denote.RawPtr.{Ptr, RawPtr, block_ptr, null_ptr, ptr_val, in_a_block}
use denote.Steps.{only}
use denote.Struct.Tuple.{Tuple}
use denote.Triple.Call.{calls_at}
use denote.Triple.Clauses.{Lasts, lasts}
use denote.Triple.Spec.{triple_of}
use denote.Triple.Table.{framed}
use Rattle.std.proofs.alloc.Calls.{Goes-blank, handle_tells}
use Rattle.std.specs.Box.Ownership.{box_owns}
use Rattle.std.specs.contracts.boxed.Box.into_raw_with_allocator as apart
use Rattle.std.proofs.boxed.Box.into_raw_with_allocator.Met.{met}
use Rattle.station_c.specs.contracts.raw.Raw as raws
use Rattle.station_c.specs.contracts.raw.Raw.of as f
use Rattle.station_c.proofs.raw.Raw.of.Statement.{statement}
use Rattle.station_c.proofs.raw.Raw.of.Code as code

pub of_spec : {M : Type 1} → statement M
of_spec 𝓤 𝓛 𝓜 𝓡 wired T A L LA g d dd dx allocator glued glue =
    let E : Bx = record { row = T; laws = L; al = record { row = A; laws = LA; g = g; d = d; drops = dd } } in
    let types = bounded (a_type ∷ a_type ∷ []) (T, (A, tt)) (dcons d (dcons dd (dcons dx dnil))) in
    let fn = inst_fn types code.function in let 𝓣 = tables 𝓤 𝓛.H 𝓜 𝓡 𝓡.env in
    let exit = f.ended T A g d dd dx in let c = f.clauses T A g d dd dx 𝓛 𝓜.mem 𝓡.returns in
    let stayed : Stays exit.signature.params exit.kept = (stay_dropped (plain (λ _. B E)) no, tt) in let W = walk_of 𝓛 exit stayed c in
    let Opened = triple_of 𝓛 (apart.signature T A g d dd dx) (apart.spec T A g d dd dx 𝓛 𝓜.mem 𝓡.returns) in
    let Ends = apart.ended T A g d dd dx in
    let To : RattleType = raws.the_row (R E) (P E) g in
    proved_at 𝓛 exit stayed c 𝓜 𝓡 (Goes-blank 𝓛 2 (plain (λ _. B E)) no (λ κs x w. tt), tt) (f.Key.name types) fn (code.unfolded 𝓤 𝓛.H 𝓜 𝓡 wired (T, (A, tt)) d dd dx) (λ z are.
    let κs = z.0.0 in let qs = z.0.1 in let v = z.0.3.0 in
    let Run : List Val → SProp 𝓤 = λ ws. WpFn 𝓤 𝓛.H 𝓣.C 𝓣.Λ fn ws (W.post z) in
    let alive = ‵ (flft κs.0 qs.0) ⊛ ‵ (flft κs.1.0 qs.1.0) ⊛ ‵ ftrue in
    let inside = raw (fact 𝓤 (κs.0 ⊑ T.lives)) ⊛ raw (fact 𝓤 (κs.1.0 ⊑ A.lives)) ⊛ ‵ ftrue in
    qed 𝓛 ((alive ⊛ ‵ (fsep ((B E).own_val v z.0.4.0) ftrue)) ∷ inside ∷ []) ∵ split ! $ move ! (1 ∷ []) $ fsplit ! $
    box_out E ! v z.0.4.0 (λ b o hv e ws fits. box_in E ! v b o v.value e refl $
    let w = word E hv b o in let typed = box_typed E hv b o fits in
    let y : Opened.Ghost = ((κs, qs, tt, (v, tt), (w ∷ [], tt)), tt) in
    suffices ! (Run (w ∷ [])) (subst (λ (us : List Val). ent 𝓤 (Run (w ∷ [])) (Run us)) (sym (λ i. ws i ++ [])) (id⊢ 𝓤 (Run (w ∷ [])))) $
    enter ! 𝓣.C 𝓣.Λ fn (w ∷ []) _ $ alloc_all ! (λ l. pass_all ! refl (typed, tt) $
    sets ! (of_opd ! (get ! refl)) refl typed $
    -- [the box; nothing; the tokens; that the lifetimes last]
    fjoin ! $ move ! (1 ∷ 0 ∷ []) $ join ! $ join ! $ use1 𝓛 (raw (Opened.pre y)) (id⊢ 𝓤 _) $
    calls_at ! (framed 𝓤 𝓛.H 𝓜 𝓣) Opened (met 𝓤 𝓛 𝓜 𝓡 (code.calls-std::boxed::Box::into_raw_with_allocator 𝓡.env wired) T A L LA g d dd dx allocator glued glue) y (and_then ! (get ! refl) (no_more !)) (λ u.
    use1 𝓛 (later (some (λ (r : Ptr × A.Denot). (alive ⊛ ‵ ((Tuple (RawPtr ∷ P E ∷ [])).own_val r (u ∷ []))) ⊛ some (λ (ls : Lasts Ends κs y.0.3). ‵ (lasts Ends κs y.0.3 ls) ⊛
    (raw (fact 𝓤 (r.1 ≡ v.alloc)) ⊛ ‵ (box_owns (g.dealloc_token v.alloc) (R E) r.0 v.value)))))) (id⊢ 𝓤 (Opened.post y u)) $
    await ! tt $ pick ! (λ r. split ! $ move ! (1 ∷ []) $ pick ! (λ _. split3 ! $ drop ! $ heard ! (r.1 ≡ v.alloc) (λ same.
    -- [the block; the tokens with the pair; ..]
    in_a_block ! r.0 (λ p. box_owns (g.dealloc_token v.alloc) (R E) p v.value) (fst∗ 𝓤 (never 𝓤) (sem 𝓛 (g.dealloc_token v.alloc (bare (layout T)) null_ptr))) (λ b' o' at.
    move ! (1 ∷ []) $ split ! $ move ! (1 ∷ []) $ fpick ! (λ vss. fsplit ! $ feq_l ! (λ eu. fsplit ! $ feq_l ! (λ ep. fsplit ! $
    rewrite ! 0 (λ (a : A.Denot). ‵ (A.own_val a vss.1.0)) same refl $ handle_tells E.al ! v.alloc vss.1.0 (λ hv' eh fits'.
    let w' = word E hv' b' o' in let typed' = box_typed E hv' b' o' fits' in
    let parts : To.Denot = record { at = block_ptr b' o'; alloc = v.alloc; value = v.value } in
    lands_as ! (ap only (eu ∙ (λ j. vstruct (of_list ((ep ∙ ap (λ (p : Ptr). ptr_val p ∷ []) at) j ++ (eh j ++ []))) ∷ []))) refl typed' $
    sets ! (of_opd ! (get_in ! (fld ! refl (stop !)) (sub ! 0 refl (whole !)))) refl (tt, tt) $
    sets ! (of_opd ! (get_in ! (fld ! refl (stop !)) (sub ! 1 refl (whole !)))) refl fits' $
    sets ! (of_opd ! (get ! refl)) refl fits' $
    sets ! (agg ! (and_then ! (get ! refl) (and_then ! (get ! refl) (no_more !)))) refl typed' $
    returns ! (look_at ! 0 refl) $ free_all ! refl $
    -- [the allocator; nothing; the tokens; the block]
    move ! (3 ∷ []) $ fsplit ! $ box_in E ! (record { ptr = block_ptr b' o'; alloc = v.alloc; value = v.value }) b' o' v.value refl refl $
    use1 𝓛 (‵ (To.own_val parts (w' ∷ []))) (id⊢ 𝓤 _) $ keep ! (0 ∷ 2 ∷ []) $
    suffices ! _ (ends_at 𝓛 exit stayed c z w' parts ((tt, (tt, tt)), tt) (tt, tt)) $ says ! refl $
    nothing ! $ nothing ! $ fjoin ! $ join ! $ move ! (1 ∷ 0 ∷ []) $ join ! $ done !))))))))))))
