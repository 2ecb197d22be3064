-- The addresses of locomotive decoders.
use Rattle.std.specs.Prelude.{ℕ, ◌+◌, ◌/◌, ◌%◌, ◌&&◌, Bool, nat_le, List, [], ◌∷◌}
use Rattle.dcc_packet.specs.declared.address.Address.{Address}
use Rattle.dcc_packet.specs.declared.address.Address.TheVariants.{Short, Long}

-- S-9.2.1, address partitions: one byte 1 to 127, or two whose first is 192 to 231
abbrev pub is_legal : Address → Bool
is_legal (Short number) = nat_le 1 number && nat_le number 127
is_legal (Long number) = nat_le number 10239

-- the bytes of an address on the track
abbrev pub address_bytes : Address → List ℕ
address_bytes (Short number) = number ∷ []
address_bytes (Long number) = (192 + number / 256) ∷ (number % 256) ∷ []
