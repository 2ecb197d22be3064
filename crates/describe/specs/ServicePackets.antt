-- Explanations of packets of the programming track in plain words (S-9.2.3).
use Rattle.std.specs.Prelude.{ℕ, ◌+◌, ◌/◌, ◌%◌, ◌==◌, Bool, if◌then◌else◌, List, [], ◌∷◌, ◌++◌, Option, Some, None, codes}
use Rattle.std.specs.Fmt.{decimal}
use Rattle.dcc_packet.specs.Packet.{has_packet_length, is_checked}
use Rattle.service_mode.specs.declared.instruction.Instruction.{Instruction}
use Rattle.service_mode.specs.declared.instruction.Instruction.TheVariants.{VerifyByte, WriteByte, VerifyBit, WriteBit}
use Rattle.service_mode.specs.declared.packet.ServicePacket.{ServicePacket}
use Rattle.service_mode.specs.declared.packet.ServicePacket.TheVariants.{Reset, Direct}
use Rattle.service_mode.specs.Reading.{packet_of}

-- a variable has a number one above its address
unfoldable pub cv_words : (label : List ℕ) → (address : ℕ) → List ℕ
cv_words label address = label ++ decimal (address + 1)

unfoldable pub on_words : Bool → List ℕ
on_words on = if on then codes "on" else codes "off"

-- direct mode
abbrev pub direct_words : Instruction → List ℕ
direct_words (VerifyByte address value) =
    codes "verify " ++ decimal value ++ cv_words (codes " in CV ") address
direct_words (WriteByte address value) =
    codes "write " ++ decimal value ++ cv_words (codes " to CV ") address
direct_words (VerifyBit address bit on) =
    codes "verify that bit " ++ decimal bit ++ cv_words (codes " of CV ") address ++ codes " is " ++ on_words on
direct_words (WriteBit address bit on) =
    codes "turn bit " ++ decimal bit ++ cv_words (codes " of CV ") address ++ codes " " ++ on_words on

-- register mode, 0111CRRR and the data: C 1 write, 0 verify; registers count from 1
abbrev pub register_by : (first value : ℕ) → List ℕ
register_by first value =
    if first / 8 == 15 then codes "write " ++ decimal value ++ codes " to register " ++ decimal (first % 8 + 1) else
    (if first / 8 == 14 then codes "verify " ++ decimal value ++ codes " in register " ++ decimal (first % 8 + 1) else
    codes "unknown form")

unfoldable pub register_words : List ℕ → List ℕ
register_words (first ∷ value ∷ check ∷ []) = register_by first value
register_words other = codes "unknown form"

abbrev pub read_words : List ℕ → Option ServicePacket → List ℕ
read_words bytes (Some Reset) = codes "reset"
read_words bytes (Some (Direct instruction)) = direct_words instruction
read_words bytes None = register_words bytes

abbrev pub service_words : List ℕ → List ℕ
service_words bytes =
    if has_packet_length bytes then (if is_checked bytes then read_words bytes (packet_of bytes) else codes "wrong check")
    else codes "wrong length"
