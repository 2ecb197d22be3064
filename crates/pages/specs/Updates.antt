-- What a page has received: the last state of each item, that is each decoder and each part and
-- train of a plan, whose present states and messages are two lists in one order.
use Rattle.std.specs.Prelude.{ℕ, zero, suc, ◌≡◌, Bool, true, false, if◌then◌else◌, List, [], ◌∷◌, ◌++◌, replicate, Option, Some, None}
use Rattle.bus.specs.Log.{Extends}
use Rattle.pages.specs.ClientEvents.{ClientEvent, Opening, Offer, Sending}
use Rattle.pages.specs.declared.items.ItemState.{ItemState}
use Rattle.pages.specs.Items.{max_items, same_item_state}

-- whether the state last sent is this one
abbrev pub is_last : Option ItemState → ItemState → Bool
is_last None now = false
is_last (Some last) now = same_item_state last now

-- the messages of all items whose present state was not sent, in order
abbrev pub unsent_messages : (messages : List (List ℕ)) → (sent : List (Option ItemState)) → (states : List ItemState) → List (List ℕ)
unsent_messages [] sent states = []
unsent_messages (message ∷ messages) [] states = []
unsent_messages (message ∷ messages) (last ∷ sent) [] = []
unsent_messages (message ∷ messages) (last ∷ sent) (now ∷ states) =
    (if is_last last now then [] else message ∷ []) ++ unsent_messages messages sent states

-- each message is sent until one is not accepted: after the first `count`
abbrev pub sendings : (client count : ℕ) → (messages : List (List ℕ)) → List ClientEvent
sendings client count [] = []
sendings client zero (message ∷ messages) = Sending client message false ∷ []
sendings client (suc count) (message ∷ messages) = Sending client message true ∷ sendings client count messages

-- the states last sent, once the first `count` messages due were accepted
abbrev pub sent_after : (count : ℕ) → (sent : List (Option ItemState)) → (states : List ItemState) → List (Option ItemState)
sent_after count [] states = []
sent_after count (last ∷ sent) [] = last ∷ sent
sent_after zero (last ∷ sent) (now ∷ states) = last ∷ sent
sent_after (suc count) (last ∷ sent) (now ∷ states) =
    if is_last last now then last ∷ sent_after (suc count) sent states else Some now ∷ sent_after count sent states

-- A page is sent the messages due, in order, until it would block.
abbrev pub SendsUnsent : (client : ℕ) → (messages : List (List ℕ)) → (states : List ItemState) → (sent sent_then : List (Option ItemState)) → (log log_then : Option (List ClientEvent)) → Type 0
SendsUnsent client messages states sent sent_then log log_then =
    (count : ℕ) × (sent_then ≡ sent_after count sent states)
    × Extends log log_then (sendings client count (unsent_messages messages sent states))

-- what a page that has just opened was sent
unfoldable pub nothing_sent : List (Option ItemState)
nothing_sent = replicate max_items None

abbrev pub known_sent : (is_new : Bool) → List (Option ItemState) → List (Option ItemState)
known_sent is_new sent = if is_new then nothing_sent else sent

-- A page that accepts messages is sent the messages due, and no other client is sent any.
abbrev pub SendsIf : (is_writable : Bool) → (client : ℕ) → (messages : List (List ℕ)) → (states : List ItemState) → (sent sent_then : List (Option ItemState)) → (log log_then : Option (List ClientEvent)) → Type 0
SendsIf true client messages states sent sent_then log log_then = SendsUnsent client messages states sent sent_then log log_then
SendsIf false client messages states sent sent_then log log_then = (sent_then ≡ sent) × (log_then ≡ log)

-- one client: whether it is a page that has just opened, whether it accepts messages, and the
-- messages that it is sent
abbrev pub ServesPage : (client : ℕ) → (messages : List (List ℕ)) → (states : List ItemState) → (sent sent_then : List (Option ItemState)) → (log log_then : Option (List ClientEvent)) → Type 0
ServesPage client messages states sent sent_then log log_then =
    (is_new : Bool) × (is_writable : Bool) × (asked : Option (List ClientEvent)) × Extends log asked (Opening client is_new ∷ Offer client is_writable ∷ [])
    × SendsIf is_writable client messages states (known_sent is_new sent) sent_then asked log_then

-- each client from this one on, in order
abbrev pub ServesPages : (client : ℕ) → (messages : List (List ℕ)) → (states : List ItemState) → (sent sent_then : List (List (Option ItemState))) → (log log_then : Option (List ClientEvent)) → Type 0
ServesPages client messages states [] sent_then log log_then = (sent_then ≡ []) × (log_then ≡ log)
ServesPages client messages states (sent ∷ others) [] log log_then = ⊥
ServesPages client messages states (sent ∷ others) (sent_then ∷ others_then) log log_then =
    (mid : Option (List ClientEvent)) × ServesPage client messages states sent sent_then log mid × ServesPages (suc client) messages states others others_then mid log_then
