-- How the bytes of a packet are put together.
use Rattle.std.specs.Prelude.{ℕ, Bool, if◌then◌else◌, List, [], ◌∷◌, ◌++◌}
use Rattle.dcc_packet.specs.declared.address.Address.{Address}
use Rattle.dcc_packet.specs.Address.{address_bytes}
use Rattle.dcc_packet.specs.Packet.{xor_of}

-- a truth value as a bit
abbrev pub bit : Bool → ℕ
bit b = if b then 1 else 0

-- S-9.2, general packet format: behind its bytes a packet has their exclusive or, the error detection byte
abbrev pub with_check : List ℕ → List ℕ
with_check bytes = bytes ++ xor_of bytes ∷ []

-- S-9.2.1, 2.3: an address, an instruction and the check
abbrev pub to_decoder : Address → List ℕ → List ℕ
to_decoder address instruction = with_check (address_bytes address ++ instruction)
