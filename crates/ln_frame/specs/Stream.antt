-- The whole messages in a list of bytes, and the one that a list ends in.
use Rattle.std.specs.Prelude.{ℕ, ◌≡◌, ◌+◌, ◌<◌, ◌≤◌, if◌then◌else◌, List, [], ◌∷◌, ◌++◌, length, map, take, drop, Option, Some, None}
use Rattle.std.specs.List.{filter}
use Rattle.ln_frame.specs.Message.{is_whole, IsWhole}

-- what the bytes begin with, from one byte on
abbrev pub fronts : List ℕ → List (List ℕ)
fronts [] = []
fronts (byte ∷ bytes) = (byte ∷ []) ∷ map (λ front. byte ∷ front) (fronts bytes)

-- every run of neighbouring bytes, in order of position
abbrev pub factors : List ℕ → List (List ℕ)
factors [] = []
factors (byte ∷ bytes) = fronts (byte ∷ bytes) ++ factors bytes

-- the whole messages in the bytes, wherever they lie, in order of position
abbrev pub messages_of : List ℕ → List (List ℕ)
messages_of bytes = filter is_whole (factors bytes)

-- behind so many of the bytes stands this whole message
pub record StandsAt (bytes : List ℕ) (place : ℕ) (message : List ℕ) : Type 0 where
  pub whole : IsWhole message
  pub stands : take (length message) (drop place bytes) ≡ message

-- a place begins one message at most, and the next begins where it ends or later
pub record NeverOverlap (bytes : List ℕ) : Type 0 where
  pub one : (place : ℕ) (first second : List ℕ) → StandsAt bytes place first → StandsAt bytes place second → first ≡ second
  pub apart : (here there : ℕ) (first second : List ℕ) → StandsAt bytes here first → StandsAt bytes there second → here < there → here + length first ≤ there

-- the whole message that the bytes end in, if there is one
abbrev pub message_at_end : List ℕ → Option (List ℕ)
message_at_end [] = None
message_at_end (byte ∷ bytes) = if is_whole (byte ∷ bytes) then Some (byte ∷ bytes) else message_at_end bytes
