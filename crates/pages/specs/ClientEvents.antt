-- What a server asks and sends the pages among its clients, in order.
use Rattle.std.specs.Prelude.{ℕ, Bool, List}

-- one call, and what it returned
pub data ClientEvent : Type 0 where
  -- whether the page of a client has just opened
  Opening : (client : ℕ) → (is_new : Bool) → ClientEvent
  -- whether a page takes messages now
  Offer : (client : ℕ) → (is_writable : Bool) → ClientEvent
  -- a message, and whether the page took it
  Sending : (client : ℕ) → (message : List ℕ) → (is_taken : Bool) → ClientEvent
