-- The pointer and the allocator are moved with all that they own.
use Rattle.station_c.proofs.Steps.{List, [], ◌∷◌, ◌++◌, refl, sym, subst, proved_at, B, D, word, box_typed, box_out, box_in, Val, WpFn, SProp, ent, emp, id⊢, ftrue, fsep, ‵, raw, ◌⊛◌, ◌$◌, ◌∵◌, !, qed, move, keep, split, join, fsplit, fjoin, use1, suffices, stop, fld, of_opd, no_more, and_then, returns, enter, whole, sub, agg, alloc_all, pass_all, free_all, look_at, get, get_in, sets, tables, Stays, stay_dropped, walk_of, says, ends_at, done, nothing}
use Rattle.std.proofs.Common.{true}
use denote.Exit.{yes}
use denote.Triple.Walked.{Goes-dropped}
use Rattle.station_c.proofs.Boxed.{E, AsRaw}
use Rattle.station_c.specs.contracts.kept_contents.KeptContents.{the_row as KeptContents}
use Rattle.station_c.specs.contracts.kept_contents.KeptContents.of_raw as f
use Rattle.station_c.proofs.kept_contents.KeptContents.of_raw.Statement.{statement}
use Rattle.station_c.proofs.kept_contents.KeptContents.of_raw.Code as code

pub of_raw_spec : {M : Type 1} → statement M
of_raw_spec 𝓤 𝓛 𝓜 𝓡 wired =
    let 𝓣 = tables 𝓤 𝓛.H 𝓜 𝓡 𝓡.env in let c = f.clauses 𝓛 𝓜.mem 𝓡.returns in
    let stayed : Stays f.ended.signature.params f.ended.kept = (stay_dropped AsRaw yes, tt) in let W = walk_of 𝓛 f.ended stayed c in
    proved_at 𝓛 f.ended stayed c 𝓜 𝓡 (Goes-dropped 𝓛 0 AsRaw yes (λ κs x w. refl), tt) f.Key.name code.function (code.unfolded 𝓤 𝓛.H 𝓜 𝓡 wired) (λ z are.
    let parts = z.0.3.0 in
    let d : D E = record { ptr = parts.at; alloc = parts.alloc; value = parts.value } in
    let made : KeptContents.Denot = record { at = parts.at; alloc = parts.alloc; made = true; contents = parts.value } in
    let Run : List Val → SProp 𝓤 = λ ws. WpFn 𝓤 𝓛.H 𝓣.C 𝓣.Λ code.function ws (W.post z) in
    qed 𝓛 ((‵ ftrue ⊛ ‵ (fsep ((B E).own_val d z.0.4.0) ftrue)) ∷ raw (emp 𝓤) ∷ []) ∵ split ! $ move ! (1 ∷ []) $ fsplit ! $
    box_out E ! d z.0.4.0 (λ b o hv e ws fits. box_in E ! d b o d.value e refl $
    let w = word E hv b o in let typed = box_typed E hv b o fits in
    use1 𝓛 (‵ (KeptContents.own_val made (w ∷ []))) (id⊢ 𝓤 _) $
    suffices ! (Run (w ∷ [])) (subst (λ (us : List Val). ent 𝓤 (Run (w ∷ [])) (Run us)) (sym (λ i. ws i ++ [])) (id⊢ 𝓤 (Run (w ∷ [])))) $
    enter ! 𝓣.C 𝓣.Λ code.function (w ∷ []) _ $ alloc_all ! (λ l. pass_all ! refl (typed, tt) $
    sets ! (of_opd ! (get_in ! (fld ! refl (stop !)) (sub ! 0 refl (whole !)))) refl (tt, tt) $
    sets ! (of_opd ! (get_in ! (fld ! refl (stop !)) (sub ! 1 refl (whole !)))) refl fits $
    sets ! (of_opd ! (get ! refl)) refl (tt, tt) $
    sets ! (agg ! (and_then ! (get ! refl) (and_then ! (get ! refl) (no_more !)))) refl typed $
    returns ! (look_at ! 0 refl) $ free_all ! refl $ keep ! (0 ∷ []) $
    suffices ! _ (ends_at 𝓛 f.ended stayed c z w made (tt, tt) (tt, tt)) $ says ! (refl, refl) $
    nothing ! $ nothing ! $ fjoin ! $ join ! $ nothing ! $ join ! $ done !)))
