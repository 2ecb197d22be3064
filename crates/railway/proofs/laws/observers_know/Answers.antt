use Rattle.std.proofs.Common.{◌≡◌, ℕ, ◌<◌, List, [], ◌∷◌, length, Some, true, refl, ap, subst, ◌∙◌}
use Rattle.std.proofs.lemmas.Bool.{and_parts}
use Rattle.std.specs.List.{list_all, slice_index_or}
use Rattle.railway.specs.declared.block.Block.{Block}
use Rattle.railway.specs.Blocks.{are_distinct, default_block}
use Rattle.railway.specs.Course.{Happening, after, after_all, reports_of, reports_of_all}
use Rattle.railway.specs.Course.Happening.{Elapses, FailuresEnd, Places, SensorFails, TurnoutFails}
use Rattle.railway.specs.Network.{is_sound}
use Rattle.railway.specs.Railway.{RailwayState, elapsed, is_railway, is_sensed, is_sensed_in, is_train}
use Rattle.railway.specs.Reports.{level_after}
use Rattle.railway.proofs.Leading.{sound}
use Rattle.railway.proofs.Observing.{knows_changes, knows_full, knows_through, level_after-append}
use Rattle.railway.proofs.Placing.{same-blocks}
use Rattle.railway.proofs.Sensing.{after-sensed, before-sensed}
use Rattle.railway.proofs.laws.observers_know.Goals as goal

distinct : (railway : RailwayState) → is_railway railway ≡ true → are_distinct railway.network.blocks ≡ true
distinct railway h = (sound railway.network (and_parts (is_sound railway.network) (list_all (is_train railway.network) railway.trains) h).0).sensors

-- what is known after one happening
one-known : (railway : RailwayState) (happening : Happening) (block sensor : ℕ) → are_distinct railway.network.blocks ≡ true → block < length railway.network.blocks
    → (slice_index_or railway.network.blocks block default_block).sensor ≡ Some sensor
    → level_after (reports_of railway happening) sensor (is_sensed railway block) ≡ is_sensed (after railway happening) block
one-known railway (Elapses micros power nodes) block sensor apart h there =
    knows_through railway.network.blocks (is_sensed railway) (is_sensed_in railway micros power nodes) (is_sensed (elapsed railway micros power nodes)) block sensor apart h there
    (before-sensed railway micros power nodes block) (after-sensed railway micros power nodes block)
one-known railway (Places train position) block sensor apart h there =
    knows_changes railway.network.blocks (is_sensed railway) (is_sensed (after railway (Places train position))) block sensor apart h there
one-known railway (SensorFails other occupied) block sensor apart h there =
    knows_changes railway.network.blocks (is_sensed railway) (is_sensed (after railway (SensorFails other occupied))) block sensor apart h there
one-known railway (TurnoutFails switch) block sensor apart h there =
    knows_changes railway.network.blocks (is_sensed railway) (is_sensed (after railway (TurnoutFails switch))) block sensor apart h there
one-known railway FailuresEnd block sensor apart h there =
    knows_changes railway.network.blocks (is_sensed railway) (is_sensed (after railway FailuresEnd)) block sensor apart h there

-- what is known of a sensor of these blocks
abbrev IsKnown : (blocks : List Block) (railway : RailwayState) (happenings : List Happening) → Type 0
IsKnown blocks railway happenings =
    (block sensor : ℕ) → are_distinct blocks ≡ true → block < length blocks → (slice_index_or blocks block default_block).sensor ≡ Some sensor
    → level_after (reports_of_all railway happenings) sensor (is_sensed railway block) ≡ is_sensed (after_all railway happenings) block

knows : (railway : RailwayState) (happenings : List Happening) → IsKnown railway.network.blocks railway happenings
knows railway [] block sensor apart h there = refl
knows railway (happening ∷ happenings) block sensor apart h there =
    let then = after railway happening in
    let rest : IsKnown railway.network.blocks then happenings = subst (λ (blocks : List Block). IsKnown blocks then happenings) (same-blocks railway happening) (knows then happenings) in
    level_after-append (reports_of railway happening) (reports_of_all then happenings) sensor (is_sensed railway block)
    ∙ ap (λ (level : _). level_after (reports_of_all then happenings) sensor level) (one-known railway happening block sensor apart h there)
    ∙ rest block sensor apart h there

pub returns-clause-full : goal.returns-clause-full
returns-clause-full c railway block sensor before is h there = knows_full railway.network.blocks (is_sensed railway) block sensor before (distinct railway is) h there

pub returns-clause-after : goal.returns-clause-after
returns-clause-after c railway happenings block sensor is h there = knows railway happenings block sensor (distinct railway is) h there
