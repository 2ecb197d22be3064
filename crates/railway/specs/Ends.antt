-- Which ends of blocks joints and turnouts name.
use Rattle.std.specs.Prelude.{ℕ, ◌&&◌, ◌++◌, Bool, true, not, nat_lt, if◌then◌else◌, List, [], ◌∷◌, Option, Some, None}
use Rattle.std.specs.List.{list_any}
use Rattle.railway.specs.declared.block.BlockEnd.{BlockEnd}
use Rattle.railway.specs.declared.joint.Joint.{Joint}
use Rattle.railway.specs.declared.joint.Turnout.{Turnout}
use Rattle.railway.specs.Blocks.{same_block_end}

-- the end is one of a block of the plan
abbrev pub is_end : (blocks : ℕ) → BlockEnd → Bool
is_end blocks end = nat_lt end.block blocks

abbrev pub is_joint : (blocks : ℕ) → Joint → Bool
is_joint blocks joint = is_end blocks joint.one && is_end blocks joint.two

abbrev pub is_turnout : (blocks : ℕ) → Turnout → Bool
is_turnout blocks turnout =
    is_end blocks turnout.common && is_end blocks turnout.closed && is_end blocks turnout.thrown

-- the ends that joints name, in order
abbrev pub ends_of_joints : List Joint → List BlockEnd
ends_of_joints [] = []
ends_of_joints (joint ∷ joints) = joint.one ∷ joint.two ∷ ends_of_joints joints

abbrev pub ends_of_turnouts : List Turnout → List BlockEnd
ends_of_turnouts [] = []
ends_of_turnouts (turnout ∷ turnouts) =
    turnout.common ∷ turnout.closed ∷ turnout.thrown ∷ ends_of_turnouts turnouts

-- all ends that a plan names
abbrev pub ends_of : List Joint → List Turnout → List BlockEnd
ends_of joints turnouts = ends_of_joints joints ++ ends_of_turnouts turnouts

-- one of the ends is this one
abbrev pub has_end : BlockEnd → List BlockEnd → Bool
has_end end ends = list_any (same_block_end end) ends

-- no end is named twice
abbrev pub are_apart : List BlockEnd → Bool
are_apart [] = true
are_apart (end ∷ ends) = not (has_end end ends) && are_apart ends

-- the first end that is named again
abbrev pub named_twice : List BlockEnd → Option BlockEnd
named_twice [] = None
named_twice (end ∷ ends) = if has_end end ends then Some end else named_twice ends
