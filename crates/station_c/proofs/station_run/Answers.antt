use Rattle.std.proofs.Common.{rules, ◌≡◌, map, subst}
use Rattle.station_core.specs.Seen.{known_of}
use Rattle.layout_core.specs.declared.world.World.{World}
use Rattle.layout_core.specs.Cycle.{RunsAfterNoise}
use Rattle.station_c.specs.Event.{event_of}
use Rattle.station_c.proofs.station_run.Goals as goal

-- the layout was taken out as it was, and is put back as it ran
abbrev Ran : goal.After-put-2 → Type 0
Ran c = (c.deref_mut.result.now.world ≡ c.args.layout.now.inside.contents.world) × (c.run.new.world ≡ c.put-2.new.self.inside.contents.world)

ran : (c : goal.After-put-2) → Ran c
ran c = (search rules, search rules)

pub returns-clause-after_noise : goal.returns-clause-after_noise
returns-clause-after_noise c =
    λ done.
    subst (λ (world : World). RunsAfterNoise (known_of world.station) (map event_of c.args.events.now) world.nodes c.put-2.new.self.inside.contents.world.nodes) (ran c).0
    (subst (λ (world : World). RunsAfterNoise (known_of c.deref_mut.result.now.world.station) (map event_of c.args.events.now) c.deref_mut.result.now.world.nodes world.nodes) (ran c).1 c.run.ensures.after_noise)
