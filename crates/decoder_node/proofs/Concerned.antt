-- What is for others leaves a locomotive decoder as it is.
use Rattle.std.proofs.Common.{◌≡◌, false, refl}
use Rattle.std.proofs.lemmas.Bool.{cond-false}
use Rattle.dcc_packet.specs.declared.instr.Instr.{Instr}
use Rattle.dcc_packet.specs.declared.instr.Instr.TheVariants.{Idle, Reset, StopAll, Speed, Speed128, GroupOne, GroupTwo, GroupThree, Accessory}
use Rattle.decoder_cv.specs.Settings.{Settings}
use Rattle.decoder_node.specs.declared.running.Running.{Running}
use Rattle.decoder_node.specs.Concerned.{concerns}
use Rattle.decoder_node.specs.Obey.{obeyed}

pub stays : (cv : Settings) (running : Running) (instr : Instr) → concerns cv instr ≡ false → obeyed cv running instr ≡ running
stays cv running Idle h = refl
stays cv running Reset h = cc
stays cv running (StopAll emergency) h = cc
stays cv running (Speed address d low) h = cond-false _ _ _ h
stays cv running (Speed128 address d s) h = cond-false _ _ _ h
stays cv running (GroupOne address bits) h = cond-false _ _ _ h
stays cv running (GroupTwo address bits) h = cond-false _ _ _ h
stays cv running (GroupThree address bits) h = cond-false _ _ _ h
stays cv running (Accessory number pair closed on) h = refl
