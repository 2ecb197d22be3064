-- Neighbours apart: where the packets of a track go, one after another.
use Rattle.std.specs.Prelude.{ℕ, ◌+◌, ◌-◌, ◌*◌, ◌/◌, ◌%◌, ◌==◌, nat_lt, if◌then◌else◌, List, [], ◌∷◌, Option, Some, None}
use Rattle.refresh_ring.specs.Sent.{IsApart}
use Rattle.refresh_ring.specs.declared.job.Destination.{Destination}
use Rattle.refresh_ring.specs.declared.job.Destination.TheVariants.{Loco, Module}
use Rattle.station_core.specs.Runs.{answers, packets_in}
use Rattle.station_core.specs.Seen.{Seen}
use Rattle.station_core.specs.declared.call.Call.{Call}

-- S-9.2.1, address partitions: 0AAAAAAA, 10AAAAAA with 1AAA, whose bits are complemented, or
-- 11AAAAAA AAAAAAAA
abbrev pub address_in : (first second : ℕ) → Destination
address_in first second =
    if nat_lt first 128 then Loco first else
    (if nat_lt first 192 then Module (first % 64 + 64 * (7 - second / 16 % 8)) else Loco ((first - 192) * 256 + second))

-- the one decoder address, or the one module, that a packet goes to; a broadcast and the idle
-- packet go to none
abbrev pub destination_of : List ℕ → Option Destination
destination_of (first ∷ second ∷ rest) =
    if first == 0 then None else (if first == 255 then None else Some (address_in first second))
destination_of _ = None

-- none goes where the one before it went
abbrev pub AreApart : Option Destination → List (List ℕ) → Type 0
AreApart last [] = Unit {0}
AreApart last (packet ∷ packets) = IsApart last (destination_of packet) × AreApart (destination_of packet) packets

-- no two neighbouring packets in the answers go to one locomotive address or one module
abbrev pub NeighboursApart : Seen → List Call → Type 0
NeighboursApart start calls = AreApart start.last (packets_in (answers start calls))
