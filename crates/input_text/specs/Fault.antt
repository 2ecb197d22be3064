-- How a caller maps a read fault to its own faults.
use Rattle.input_text.specs.declared.input.ReadFault.{ReadFault}
use Rattle.input_text.specs.declared.input.ReadFault.TheVariants.{Failed, NoMemory}

-- the first if the read failed, the second if out of memory
abbrev pub either : {F : Type 0} → (failed no_memory : F) → ReadFault → F
either failed no_memory Failed = failed
either failed no_memory NoMemory = no_memory
