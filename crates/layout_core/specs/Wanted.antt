-- What an entry asks of a decoder.
use Rattle.std.specs.Prelude.{Bool, not, if◌then◌else◌}
use Rattle.slot_table.specs.Entry.{Entry}
use Rattle.station_core.specs.Entries.{motion_asked, is_forward, functions_asked}
use Rattle.decoder_node.specs.declared.running.Running.{Running}

-- How a decoder runs that obeys its entry: its motion is that of the type and SPD; it runs forward
-- if bit 5 of DIRF is 0, inverted if CV29 bit 0 is set; F0 to F12 are as in DIRF, SND and the last
-- OPC_IMM_PACKET, and it has no other function.
abbrev pub wanted : Entry → Bool → Running
wanted e reversed = record {
  motion = motion_asked e;
  forward = if reversed then not (is_forward e) else is_forward e;
  functions = functions_asked e;
}
