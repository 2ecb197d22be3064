-- The queue of a client.
use Rattle.std.specs.Prelude.{ℕ, ◌+◌, Bool, if◌then◌else◌, nat_le, nat_lt, List, [], ◌++◌, length, Option, Some, None}

-- the bytes in it; none where it is closed
abbrev pub queued : Option (List ℕ) → List ℕ
queued None = []
queued (Some bytes) = bytes

-- at most 65,536 bytes
abbrev pub is_within_capacity : Option (List ℕ) → Bool
is_within_capacity send_queue = nat_le (length (queued send_queue)) 65536

-- more than a quarter full
abbrev pub is_more_than_quarter : Option (List ℕ) → Bool
is_more_than_quarter send_queue = nat_lt 16384 (length (queued send_queue))

-- A text is enqueued. A queue that would have more than 65,536 bytes is closed (own).
abbrev pub enqueued : List ℕ → Option (List ℕ) → Option (List ℕ)
enqueued text None = None
enqueued text (Some send_queue) = if nat_le (length send_queue + length text) 65536 then Some (send_queue ++ text) else None
