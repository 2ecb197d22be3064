-- The instruction that each packet of a command station is meant for.
use Rattle.std.specs.Prelude.{ℕ, ◌%◌, Bool}
use Rattle.dcc_packet.specs.declared.address.Address.{Address}
use Rattle.dcc_packet.specs.declared.steps.Steps.{Steps}
use Rattle.dcc_packet.specs.declared.steps.Steps.TheVariants.{S14, S28, S128}
use Rattle.dcc_packet.specs.declared.steps.Motion.{Motion}
use Rattle.dcc_packet.specs.declared.instr.Instr.{Instr}
use Rattle.dcc_packet.specs.declared.instr.Instr.TheVariants.{Speed, Speed128, GroupOne, GroupTwo, GroupThree, Accessory}
use Rattle.dcc_packet.specs.Sent.{code_of, low_14, low_28, group_one_bits, group_two_bits, group_three_bits, module_of}

abbrev pub speed_instr : Address → Steps → Motion → Bool → Bool → Instr
speed_instr address S14 motion forward f0 = Speed address forward (low_14 motion f0)
speed_instr address S28 motion forward f0 = Speed address forward (low_28 motion)
speed_instr address S128 motion forward f0 = Speed128 address forward (code_of motion)

abbrev pub group_one_instr : Address → ℕ → Instr
group_one_instr address functions = GroupOne address (group_one_bits functions)

abbrev pub group_two_instr : Address → ℕ → Instr
group_two_instr address functions = GroupTwo address (group_two_bits functions)

abbrev pub group_three_instr : Address → ℕ → Instr
group_three_instr address functions = GroupThree address (group_three_bits functions)

abbrev pub accessory_instr : ℕ → Bool → Bool → Instr
accessory_instr number closed on = Accessory (module_of number) (number % 4) closed on
