-- How many digits a number has.
use Rattle.std.proofs.Common.{◌≡◌, ℕ, ◌<◌, ◌≤◌, ◌^◌, List, length, ap, arith}
use Rattle.std.specs.Fmt.{decimal}
use Rattle.std.proofs.lemmas.Fmt.{length-decimal-le}

pub few : (n : ℕ) → n < 2 ^ 64 → length (decimal n) ≤ 20
few n h = length-decimal-le 20 n (omega arith) (omega arith) h

pub few-middle : (n : ℕ) (digits : List ℕ) → digits ≡ decimal n → n < 4294967296 → length digits ≤ 10
few-middle n digits is h =
    let most : length (decimal n) ≤ 10 = length-decimal-le 10 n (omega arith) (omega arith) (omega arith) in
    omega (arith, ap length is)

pub few-small : (n : ℕ) (digits : List ℕ) → digits ≡ decimal n → n < 65536 → length digits ≤ 5
few-small n digits is h =
    let most : length (decimal n) ≤ 5 = length-decimal-le 5 n (omega arith) (omega arith) (omega arith) in
    omega (arith, ap length is)
