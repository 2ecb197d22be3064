-- The duration of a turn, by the number of bytes of its packet.
use Rattle.std.proofs.Common.{ℕ, ◌≡◌, ◌≤◌, List, length, Option, Some, None, arith}
use Rattle.std.specs.Prelude.{IfSome, IsTrue}
use Rattle.dcc_packet.specs.Packet.{is_checked}
use Rattle.dcc_packet.specs.Sent.{idle_bytes}
use Rattle.half_bits.specs.Halves.{duration_of}
use Rattle.bus.specs.Bus.{duration}

pub at_least : duration_of idle_bytes ≡ 5796 → ((packet : List ℕ) → 3 ≤ length packet → IsTrue (is_checked packet) → 5796 ≤ duration_of packet)
    → (sent : Option (List ℕ)) → IfSome sent (λ packet. 3 ≤ length packet) → IfSome sent (λ packet. IsTrue (is_checked packet)) → 5796 ≤ duration sent
at_least idle shortest None some checked = omega (arith, idle)
at_least idle shortest (Some packet) some checked = shortest packet some checked

pub at_most : duration_of idle_bytes ≡ 5796 → ((packet : List ℕ) → length packet ≤ 5 → duration_of packet ≤ 10740)
    → (sent : Option (List ℕ)) → IfSome sent (λ packet. length packet ≤ 5) → duration sent ≤ 10740
at_most idle longest None few = omega (arith, idle)
at_most idle longest (Some packet) few = longest packet few
