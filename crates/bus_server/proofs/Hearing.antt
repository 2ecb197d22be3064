-- What decoders hear decides how they are after it, and what is drawn what they miss.
use Rattle.std.proofs.Common.{◌≡◌, ℕ, zero, suc, ◌+◌, ◌<◌, ◌^◌, List, [], ◌∷◌, length, ap, ap₂, sym, subst, ◌∙◌, arith}
use Rattle.std.specs.Int.{bit_at}
use Rattle.std.proofs.Math.Pow.{pow-lt}
use Rattle.std.proofs.lemmas.List.{same_lists}
use Rattle.std.proofs.lemmas.Nat.Bits.{same_from_bits_below}
use Rattle.station_core.specs.Seen.{Seen}
use Rattle.layout_core.specs.declared.event.Event.{Event}
use Rattle.layout_core.specs.declared.node.Node.{Node}
use Rattle.layout_core.specs.declared.node.Node.TheVariants.{Accessory, Loco}
use Rattle.layout_core.specs.Heard.{HearsAll, HearsOne, Sound, sounds_in}
use Rattle.layout_core.specs.Heard.Sound.{Single, Whole}
use Rattle.layout_core.specs.Hearing.{HeardHalves, HearsPacket}
use Rattle.layout_core.specs.World.{HaveHeard}
use Rattle.bus_server.specs.declared.losses.Losses.{Losses}
use Rattle.bus_server.specs.Losses.{IsDraw}

halves_same : (halves : List ℕ) (old a b : Node) → HeardHalves halves old a → HeardHalves halves old b → a ≡ b
halves_same halves (Loco old) (Loco a) (Loco b) h k = cc
halves_same halves (Accessory old) (Accessory a) (Accessory b) h k = cc
halves_same halves (Loco old) (Loco a) (Accessory b) h k = absurd k
halves_same halves (Loco old) (Accessory a) b h k = absurd h
halves_same halves (Accessory old) (Accessory a) (Loco b) h k = absurd k
halves_same halves (Accessory old) (Loco a) b h k = absurd h

packet_same : (packet : List ℕ) (old a b : Node) → HearsPacket packet old a → HearsPacket packet old b → a ≡ b
packet_same packet (Loco old) (Loco a) (Loco b) h k = ap Loco (h.in_halves ∙ sym k.in_halves)
packet_same packet (Accessory old) (Accessory a) (Accessory b) h k = ap Accessory (h.in_halves ∙ sym k.in_halves)
packet_same packet (Loco old) (Loco a) (Accessory b) h k = absurd k.in_halves
packet_same packet (Loco old) (Accessory a) b h k = absurd h.in_halves
packet_same packet (Accessory old) (Accessory a) (Loco b) h k = absurd k.in_halves
packet_same packet (Accessory old) (Loco a) b h k = absurd h.in_halves

sound_same : (sound : Sound) (old a b : Node) → HearsOne sound old a → HearsOne sound old b → a ≡ b
sound_same (Whole packet) old a b h k = packet_same packet old a b h k
sound_same (Single half) old a b h k = halves_same (half ∷ []) old a b h k

sounds_same : (sounds : List Sound) (old a b : Node) → HearsAll sounds old a → HearsAll sounds old b → a ≡ b
sounds_same [] old a b h k = h ∙ sym k
sounds_same (sound ∷ sounds) old a b h k =
    let first = sound_same sound old h.0 k.0 h.1 k.1 in
    sounds_same sounds k.0 a b (subst (λ (mid : Node). HearsAll sounds mid a) first h.2) k.2

pub heard_same : (seen : Seen) (events : List Event) (old a b : List Node) → HaveHeard seen events old a → HaveHeard seen events old b → a ≡ b
heard_same seen events old a b h k =
    let count : length a ≡ length b = omega (arith, h.count, k.count) in
    same_lists a b count (λ i none below. let within : i < length old = omega (arith, below, h.count) in
    sounds_same (sounds_in i seen events) _ _ _ (h.each i none within) (k.each i none within))

below_pow : (n : ℕ) → n < 2 ^ n
below_pow zero = omega arith
below_pow (suc n) = let more : 2 ^ n < 2 ^ suc n = pow-lt (omega arith) in omega (arith, below_pow n, more)

-- two numbers with the same bits are the same
bits_same : (a b : ℕ) → ((i : ℕ) → bit_at a i ≡ bit_at b i) → a ≡ b
bits_same a b bits =
    let first : 2 ^ a < 2 ^ (a + b + 1) = pow-lt (omega arith) in
    let second : 2 ^ b < 2 ^ (a + b + 1) = pow-lt (omega arith) in
    same_from_bits_below (a + b + 1) a b (omega (arith, below_pow a, first)) (omega (arith, below_pow b, second)) (λ i below. bits i)

pub missed_same : (nodes m n : ℕ) (old a b : Losses) → IsDraw nodes m old a → IsDraw nodes n old b → m ≡ n
missed_same nodes m n old a b h k = bits_same m n (λ i. h.drawn i ∙ sym (k.drawn i))

pub drawn_same : (nodes m n : ℕ) (old a b : Losses) → IsDraw nodes m old a → IsDraw nodes n old b → a ≡ b
drawn_same nodes m n old a b h k = ap₂ (λ shares generator. record old { shares = shares; generator = generator }) (h.shares ∙ sym k.shares) (h.generator ∙ sym k.generator)
