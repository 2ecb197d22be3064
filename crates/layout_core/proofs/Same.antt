-- A layout that stays the same one.
use Rattle.std.proofs.Common.{refl, ◌∙◌}
use Rattle.layout_core.specs.declared.world.World.{World}
use Rattle.layout_core.specs.World.{IsSameLayout}

pub same_still : (world : World) → IsSameLayout world world
same_still world = record { lines = refl; specs = refl; count = refl }

pub same_then : (old mid new : World) → IsSameLayout old mid → IsSameLayout mid new → IsSameLayout old new
same_then old mid new first second = record { lines = second.lines ∙ first.lines; specs = second.specs ∙ first.specs; count = second.count ∙ first.count }
