-- Times add up.
use Rattle.std.proofs.Common.{◌≡◌, ℕ, ◌+◌, inl, inr, List, [], ◌∷◌, map, refl, ap, sym, ◌∙◌}
use Rattle.std.proofs.lemmas.Bool.{cases_Bool}
use Rattle.layout_core.specs.declared.node.Node.{Node}
use Rattle.motion.specs.declared.velocity.Drive.{Drive}
use Rattle.refresh_ring.specs.declared.pick.Power.{Power}
use Rattle.refresh_ring.specs.declared.pick.Power.TheVariants.{Off, Running as PowerOn, Paused}
use Rattle.railway.specs.declared.train.TrainState.{TrainState}
use Rattle.railway.specs.Laws.{asked_of}
use Rattle.railway.specs.Network.{Network, marked, under}
use Rattle.railway.specs.Places.{is_derailed}
use Rattle.railway.specs.Railway.{run_in, run_under}
use Rattle.railway.specs.Running.{ridden}
use Rattle.railway.proofs.Riding.{ridden-add, ridden-derailed, ridden-same, ridden-under}
use Rattle.railway.proofs.Running.{in-derailed, in-itself, same-drive}

-- A train that ran, and runs on so, ran for all of the time.

pub in-in : (n : Network) (nodes : List Node) (these those : ℕ) (t : TrainState) → run_in n those nodes (run_in n these nodes t) ≡ run_in n (these + those) nodes t
in-in n nodes these those t = elim (cases_Bool (is_derailed t)) [
  | inl derailed ↦
      ap (λ (u : TrainState). run_in n those nodes u) (in-derailed n these nodes t derailed) ∙ in-derailed n those nodes t derailed ∙ sym (in-derailed n (these + those) nodes t derailed)
  | inr rails ↦
      ap (λ (u : TrainState). run_in n those nodes u) (in-itself n these nodes t rails) ∙ rest
      ∙ ap (λ (u : TrainState). marked n u) (sym (ridden-add n (asked_of nodes t) t these those)) ∙ sym (in-itself n (these + those) nodes t rails)
] where
  rest : run_in n those nodes (marked n (ridden n (asked_of nodes t) these t)) ≡ marked n (ridden n (asked_of nodes t) those (ridden n (asked_of nodes t) these t))
  rest =
      let d : Drive = asked_of nodes t in
      let there : TrainState = ridden n d these t in
      let first : TrainState = marked n there in
      let same = ridden-same n d these t in
      let asked : asked_of nodes first ≡ d = same-drive nodes t first (record { decoder = same.decoder; top = same.top; length = same.length; momentum = same.momentum }) in
      elim (cases_Bool (is_derailed there)) [
        | inl derailed ↦ in-derailed n those nodes first derailed ∙ ap (λ (u : TrainState). marked n u) (sym (ridden-derailed n d those there derailed))
        | inr rails ↦
            in-itself n those nodes first rails
            ∙ ap (λ (e : Drive). marked n (ridden n e those first)) asked
            ∙ ap (λ (u : TrainState). marked n u) (ridden-under n d those there (under n there))
      ]

under-under : (p : Power) (n : Network) (nodes : List Node) (these those : ℕ) (t : TrainState) → run_under p n those nodes (run_under p n these nodes t) ≡ run_under p n (these + those) nodes t
under-under Off n nodes these those t = refl
under-under PowerOn n nodes these those t = in-in n nodes these those t
under-under Paused n nodes these those t = in-in n nodes these those t

pub all-all : (p : Power) (n : Network) (nodes : List Node) (these those : ℕ) (ts : List TrainState) → map (run_under p n those nodes) (map (run_under p n these nodes) ts) ≡ map (run_under p n (these + those) nodes) ts
all-all p n nodes these those [] = refl
all-all p n nodes these those (t ∷ ts) =
    ap (λ (u : TrainState). u ∷ map (run_under p n those nodes) (map (run_under p n these nodes) ts)) (under-under p n nodes these those t)
    ∙ ap (λ (us : List TrainState). run_under p n (these + those) nodes t ∷ us) (all-all p n nodes these those ts)
