-- All motions.
use Rattle.std.specs.Prelude.{◌&&◌, Bool, true, false, nat_le}
use Rattle.dcc_packet.specs.declared.steps.Steps.{Steps}
use Rattle.dcc_packet.specs.declared.steps.Steps.TheVariants.{S14, S28, S128}
use Rattle.dcc_packet.specs.declared.steps.Motion.{Motion}
use Rattle.dcc_packet.specs.declared.steps.Motion.TheVariants.{Stop, Emergency, Step}

-- the motions of a decoder with these steps
abbrev pub is_motion : Steps → Motion → Bool
is_motion steps Stop = true
is_motion steps Emergency = true
is_motion S14 (Step S14 n) = nat_le 1 n && nat_le n 14
is_motion S28 (Step S28 n) = nat_le 1 n && nat_le n 28
is_motion S128 (Step S128 n) = nat_le 1 n && nat_le n 126
is_motion _ (Step _ n) = false
