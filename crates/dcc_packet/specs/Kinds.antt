-- How many packets tell a locomotive how to run: its speed, and its functions in three groups (S-9.2.1, 2.3).
use Rattle.std.specs.Prelude.{ℕ}

abbrev pub kinds : ℕ
kinds = 4
