-- Which instructions do anything to a locomotive decoder.
use Rattle.std.specs.Prelude.{Bool, true, false}
use Rattle.dcc_packet.specs.declared.instr.Instr.{Instr}
use Rattle.dcc_packet.specs.declared.instr.Instr.TheVariants.{Idle, Reset, StopAll, Speed, Speed128, GroupOne, GroupTwo, GroupThree, Accessory}
use Rattle.decoder_cv.specs.Settings.{Settings}
use Rattle.decoder_node.specs.Obey.{is_own}

-- those for all locomotive decoders, and those for its address
abbrev pub concerns : Settings → Instr → Bool
concerns cv Idle = false
concerns cv Reset = true
concerns cv (StopAll emergency) = true
concerns cv (Speed address d low) = is_own cv.address address
concerns cv (Speed128 address d s) = is_own cv.address address
concerns cv (GroupOne address bits) = is_own cv.address address
concerns cv (GroupTwo address bits) = is_own cv.address address
concerns cv (GroupThree address bits) = is_own cv.address address
concerns cv (Accessory number pair closed on) = false
