-- The texts of lines of decoders.
use Rattle.std.specs.Prelude.{ℕ, ◌&&◌, Bool, is_some, is_none, if◌then◌else◌, IsTrue, List, [], ◌++◌, Option, Some, None, codes}
use Rattle.std.specs.Fmt.{decimal}
use Rattle.dcc_packet.specs.declared.address.Address.{Address}
use Rattle.dcc_packet.specs.declared.address.Address.TheVariants.{Short, Long}
use Rattle.dcc_packet.specs.declared.steps.Steps.{Steps}
use Rattle.dcc_packet.specs.declared.steps.Steps.TheVariants.{S14, S28, S128}
use Rattle.dcc_packet.specs.declared.steps.Motion.{Motion}
use Rattle.dcc_packet.specs.declared.steps.Motion.TheVariants.{Stop, Emergency, Step}
use Rattle.decoder_cv.specs.Settings.{Settings}
use Rattle.decoder_node.specs.declared.node.NodeSpec.{NodeSpec}
use Rattle.decoder_node.specs.declared.node.NodeSpec.TheVariants.{Loco, Accessory}
use Rattle.decoder_node.specs.declared.running.Running.{Running}
use Rattle.show_text.specs.Lines.{bits_text}

abbrev pub address_text : Address → List ℕ
address_text (Short number) = codes "short " ++ decimal number
address_text (Long number) = codes "long " ++ decimal number

-- the name of the steps: those of seven bits are 126, which the standards call 128
abbrev pub number_of : Steps → ℕ
number_of S14 = 14
number_of S28 = 28
number_of S128 = 128

abbrev pub motion_text : Motion → List ℕ
motion_text Stop = codes "stop"
motion_text Emergency = codes "emergency"
motion_text (Step of n) = codes "step " ++ decimal n ++ codes " of " ++ decimal (number_of of)

abbrev pub direction_text : Bool → List ℕ
direction_text forward = if forward then codes "forward" else codes "reverse"

-- its address, how it runs, and its functions F0 to F12
abbrev pub loco_text : Settings → Running → List ℕ
loco_text cv running =
    codes " " ++ address_text cv.address ++ codes " " ++ motion_text running.motion ++ codes " " ++ direction_text running.forward
    ++ codes " F " ++ bits_text 13 running.functions

-- its module and its outputs 0 to 7
abbrev pub accessory_text : ℕ → ℕ → List ℕ
accessory_text number outputs = codes " module " ++ decimal number ++ codes " outputs " ++ bits_text 8 outputs

-- how a locomotive runs, or the outputs of an accessory decoder, never both
abbrev pub is_state_of : NodeSpec → Option Running → Option ℕ → Bool
is_state_of (Loco cv) running outputs = is_some running && is_none outputs
is_state_of (Accessory number) running outputs = is_none running && is_some outputs

abbrev pub IsStateOf : NodeSpec → Option Running → Option ℕ → Type 0
IsStateOf spec running outputs = IsTrue (is_state_of spec running outputs)

-- the state of a decoder; nothing else has a text
abbrev pub stand_text : NodeSpec → Option Running → Option ℕ → List ℕ
stand_text (Loco cv) (Some running) outputs = loco_text cv running
stand_text (Loco cv) None outputs = []
stand_text (Accessory number) running (Some outputs) = accessory_text number outputs
stand_text (Accessory number) running None = []

-- `node NAME` and its state
abbrev pub node_text : List ℕ → NodeSpec → Option Running → Option ℕ → List ℕ
node_text name spec running outputs = codes "node " ++ name ++ stand_text spec running outputs
