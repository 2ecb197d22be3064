-- A run on a new layout.
use Rattle.std.proofs.Common.{◌≡◌, inr, ℕ, Bool, List, Option, subst}
use Rattle.std.specs.Prelude.{Result, Ok, Err, IfErr, OnOk}
use Rattle.clap.specs.Words.{Text}
use Rattle.layout_core.specs.declared.engine.Limits.{Limits}
use Rattle.layout_core.specs.declared.world.World.{World}
use Rattle.roster.specs.Entry.{Entry}
use Rattle.station.specs.Connections.{HasServed, listening_text}
use Rattle.station.specs.Ends.{FailsReplay, FailsReplayNew}
use Rattle.station.specs.Layout.{entries_in}
use Rattle.console.specs.declared.fault.RunFault.{RunFault}
use Rattle.console.specs.Files.{IsRosterOf}
use Rattle.station.specs.Runs.{IsNew, ReplaysNew, ServesNew}
use Rattle.station.specs.Scripts.{ReplaysInput}

-- the roster borrowed twice is the one that was read
pub replayed_new : {A E : Type 0} (r : Result A E) (lines : ℕ) (file : Option Text) (roster first second : Option (List Entry)) (start new : World) (input input' output output' : Option (List ℕ)) → first ≡ roster → second ≡ roster
    → IsRosterOf file roster → IsNew lines first start → OnOk r (ReplaysInput input input' start (entries_in second) new output output') → OnOk r (ReplaysNew lines file input input' output output')
replayed_new (Ok a) lines file roster first second start new input input' output output' one two is made has =
    (roster, start, new, is, subst (λ (o : Option (List Entry)). IsNew lines o start) one made, subst (λ (o : Option (List Entry)). ReplaysInput input input' start (entries_in o) new output output') two has)
replayed_new (Err e) lines file roster first second start new input input' output output' one two is made has = tt

pub served_new : {A E : Type 0} (r : Result A E) (port : ℕ) (file : Option Text) (limits : Limits) (count : ℕ) (roster first second : Option (List Entry)) (start new : World) (output output' : Option (List ℕ)) → first ≡ roster → second ≡ roster
    → IsRosterOf file roster → IsNew 1 first start → OnOk r (HasServed limits count (entries_in second) start new (listening_text port) output output') → OnOk r (ServesNew port file limits count output output')
served_new (Ok a) port file limits count roster first second start new output output' one two is made has =
    (roster, start, new, is, subst (λ (o : Option (List Entry)). IsNew 1 o start) one made, subst (λ (o : Option (List Entry)). HasServed limits count (entries_in o) start new (listening_text port) output output') two has)
served_new (Err e) port file limits count roster first second start new output output' one two is made has = tt

-- and one that was not replayed
pub not_replayed_new : {A : Type 0} (r : Result A RunFault) (lines : ℕ) (file : Option Text) (roster first : Option (List Entry)) (start : World) (input input' : Option (List ℕ)) (has_failed : Bool) → first ≡ roster
    → IsRosterOf file roster → IsNew lines first start → IfErr r (FailsReplay start input input' has_failed) → IfErr r (FailsReplayNew lines file input input' has_failed)
not_replayed_new (Ok a) lines file roster first start input input' has_failed one is made fails = tt
not_replayed_new (Err e) lines file roster first start input input' has_failed one is made fails =
    inr (inr (inr (roster, start, is, subst (λ (o : Option (List Entry)). IsNew lines o start) one made, fails)))
