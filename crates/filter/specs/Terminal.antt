-- The devices of Linux that are terminals (the kernel's list of devices, `devices.txt`).
use Rattle.std.specs.Prelude.{ℕ, ◌==◌, ◌&&◌, ◌||◌, Bool, nat_le}

-- By the major number of a character device: consoles and serial lines (4), the terminal of the
-- process (5), and the terminals of windows and connections (136 to 143).
abbrev pub is_terminal_number : ℕ → Bool
is_terminal_number major = major == 4 || (major == 5 || (nat_le 136 major && nat_le major 143))
