use Rattle.std.proofs.Common.{◌≡◌, ℕ, Bool, true, false, not, List, Some, ap, sym, ◌∙◌}
use Rattle.std.proofs.lemmas.Bool.{and_from}
use Rattle.std.specs.Prelude.{IsTrue}
use Rattle.layout_core.specs.declared.node.Node.{Node}
use Rattle.motion.specs.declared.velocity.Velocity.{Velocity}
use Rattle.railway.specs.declared.train.Place.{Place}
use Rattle.railway.specs.declared.train.TrainState.{TrainState}
use Rattle.railway.specs.Laws.{runs_only, velocity_of, way_of}
use Rattle.railway.specs.Network.{Network, is_sound, marked, under, way_on}
use Rattle.railway.specs.Places.{is_derailed, leading_end}
use Rattle.railway.specs.Railway.{is_train, run_in}
use Rattle.railway.specs.Running.{run_by}
use Rattle.railway.proofs.Keeping.{whole-of}
use Rattle.railway.proofs.Returning.{by-back}
use Rattle.railway.proofs.Riding.{by-under, with_under, with_velocity}
use Rattle.railway.proofs.Running.{in-one-way}
use Rattle.railway.proofs.Runs.{parts-of}
use Rattle.railway.proofs.laws.ways_lead_back.Goals as goal

leads : (n : Network) (t : TrainState) (v : Velocity) (way : ℕ) (p : Place) (f : Bool) → way_on n (leading_end f t) way ≡ Some p → way_on n (leading_end f (with_velocity v t)) way ≡ Some p
leads n t v way p true g = g
leads n t v way p false g = g

back : (n : Network) (t : TrainState) (micros more : ℕ) (nodes others : List Node) (f : Bool) (p : Place) → IsTrue (is_sound n) → IsTrue (is_train n t) → is_derailed t ≡ false
    → IsTrue (runs_only f nodes micros t) → way_on n (leading_end f t) (way_of nodes micros t) ≡ Some p → IsTrue (runs_only (not f) others more (run_in n micros nodes t))
    → way_of others more (run_in n micros nodes t) ≡ way_of nodes micros t → run_in n more others (run_in n micros nodes t) ≡ record t { velocity = velocity_of others more (run_in n micros nodes t) }
back n t micros more nodes others f p is h rails only way backward same =
    let parts = parts-of n t h in
    let whole = whole-of n t parts.whole rails in
    let v = velocity_of nodes micros t in
    let far : ℕ = way_of nodes micros t in
    let start : TrainState = with_velocity v t in
    let there : TrainState = run_by n f far start in
    let ran : TrainState = run_in n micros nodes t in
    let w = velocity_of others more ran in
    let first : ran ≡ marked n there = in-one-way n f micros nodes t rails only in
    let returns = by-back n f start w p far is (and_from _ _ parts.front parts.rear) whole.spanned rails (leads n t v far p f way) in
    let on : is_derailed ran ≡ false = ap (λ (u : TrainState). is_derailed u) first ∙ returns.0 in
    in-one-way n (not f) more others ran on backward
    ∙ ap (λ (d : ℕ). marked n (run_by n (not f) d (with_velocity w ran))) same
    ∙ ap (λ (u : TrainState). marked n (run_by n (not f) far (with_velocity w u))) first
    ∙ ap (λ (u : TrainState). marked n u) (by-under n (not f) far (with_velocity w there) (under n there))
    ∙ ap (λ (u : TrainState). marked n u) returns.1
    ∙ ap (λ (m : List Bool). with_under m (with_velocity w t)) (sym whole.knows)

pub returns : goal.returns
returns c = record { back = back }
