-- The decoders that values make: the variables of a locomotive make one, and a module is 1 to 510.
use Rattle.std.specs.Prelude.{if◌then◌else◌, Result, Ok, Err, ℤ, pos, negsuc}
use Rattle.dcc_packet.specs.Module.{is_module}
use Rattle.decoder_cv.specs.Settings.{Settings}
use Rattle.decoder_cv.specs.declared.cv_fault.CvFault.{CvFault}
use Rattle.decoder_cv.specs.declared.cv_fault.CvFault.TheVariants.{BadCv1, BadCv17, NotLoco, BadList}
use Rattle.decoder_node.specs.declared.node.NodeSpec.{NodeSpec}
use Rattle.decoder_node.specs.declared.node.NodeSpec.TheVariants as node
use Rattle.roster.specs.declared.fault.RosterFaultKind.{RosterFaultKind}
use Rattle.roster.specs.declared.fault.RosterFaultKind.TheVariants.{BadCv, BadModule, BadCvList}

abbrev pub fault_of : CvFault → RosterFaultKind
fault_of BadList = BadCvList
fault_of BadCv1 = BadCv
fault_of BadCv17 = BadCv
fault_of NotLoco = BadCv

abbrev pub loco_of : Result Settings CvFault → Result NodeSpec RosterFaultKind
loco_of (Ok cv) = Ok (node.Loco cv)
loco_of (Err fault) = Err (fault_of fault)

abbrev pub accessory_of : ℤ → Result NodeSpec RosterFaultKind
accessory_of (pos n) = if is_module n then Ok (node.Accessory n) else Err BadModule
accessory_of (negsuc n) = Err BadModule
