-- The numbers of accessory decoders.
use Rattle.std.specs.Prelude.{ℕ, ◌&&◌, Bool, nat_le}

-- 1 to 510: 0 has no switch, and 511 is the broadcast of S-9.2.1
abbrev pub is_module : ℕ → Bool
is_module number = nat_le 1 number && nat_le number 510
