-- A round of a server: all clients are read and written to, and pending clients are accepted.
use Rattle.std.specs.Prelude.{ℕ, zero, suc, ◌≡◌, ◌⊎◌, ◌+◌, ◌%◌, ◌<◌, ◌≤◌, ◌==◌, ◌&&◌, not, Bool, true, false, if◌then◌else◌, List, [], ◌∷◌, ◌++◌, length, replicate, None}
use Rattle.std.specs.List.{list_all, list_any, slice_index_or}
use Rattle.bus_server.specs.Pace.{follows_messages}
use Rattle.bus_server.specs.ServerState.{Handled, Applies, AppliesAll, ServerState, has_overflowed, has_turns_to_follow, is_connected, is_crowded, transport_events, waits, with_backlog}
use Rattle.bus_server.specs.SendQueue.{queued}
use Rattle.bus_server.specs.TransportEvents.{Accepted, WriteBlocked, PeerClosed, NonePending, TransportEvent, Written, ReadBlocked, Received, Refused}

-- a client is read: bytes, nothing, or its end
abbrev pub is_read : (client : ℕ) → TransportEvent → Bool
is_read i (Received client byte) = client == i
is_read i (PeerClosed client) = client == i
is_read i (ReadBlocked client) = client == i
is_read i other = false

-- a piece of its queue is written to a client
abbrev pub is_write : (client : ℕ) → TransportEvent → Bool
is_write i (Written client bytes) = client == i
is_write i other = false

-- a client takes no more, or has only just been accepted
abbrev pub is_write_blocked : (client : ℕ) → TransportEvent → Bool
is_write_blocked i (Accepted client) = client == i
is_write_blocked i (WriteBlocked client) = client == i
is_write_blocked i other = false

-- at least this many pieces, one right after another, are written to a client
abbrev pub WritesInARow : (client count : ℕ) → List TransportEvent → Type 0
WritesInARow client count log = (before row after : List TransportEvent) × (log ≡ before ++ (row ++ after)) × (count ≤ length row) × (list_all (is_write client) row ≡ true)

-- a client's queue is empty or closed
abbrev pub HasEmptyQueue : (client : ℕ) → ServerState → Type 0
HasEmptyQueue client state = queued (slice_index_or state.queues client None) ≡ []

-- A client is written to: its queue is empty, or it took no more, or four pieces in a row were written to it. One that has only
-- just been accepted is written to in the next round.
abbrev pub IsWrittenTo : (client : ℕ) → List TransportEvent → ServerState → Type 0
IsWrittenTo client more state = HasEmptyQueue client state ⊎ (list_any (is_write_blocked client) more ≡ true) ⊎ WritesInARow client 4 more

-- Pending clients are accepted or refused, until none is pending or eight were refused.
abbrev pub AcceptsPending : List TransportEvent → Type 0
AcceptsPending more = (before : List TransportEvent) × ((more ≡ before ++ NonePending ∷ []) ⊎ (more ≡ before ++ replicate 8 Refused))

-- a pending client is accepted, or none is pending
abbrev pub is_accept : TransportEvent → Bool
is_accept (Accepted client) = true
is_accept NonePending = true
is_accept other = false

-- Pending clients are accepted, and none is refused: until all eight are connected, or none is pending.
abbrev pub AcceptsSome : (is_full : Bool) → List TransportEvent → ServerState → Type 0
AcceptsSome true more state =
    (list_all is_accept more ≡ true) × ((client : ℕ) → client < 8 → is_connected state client ≡ true)
AcceptsSome false more state = (list_all is_accept more ≡ true) × (before : List TransportEvent) × (more ≡ before ++ NonePending ∷ [])

-- how many pieces are written to a client
abbrev pub pieces_to : (client : ℕ) → List TransportEvent → ℕ
pieces_to i [] = 0
pieces_to i (log ∷ more) = (if is_write i log then 1 else 0) + pieces_to i more

-- Four at most, to each: none is written to for long while others wait.
abbrev pub IsFair : List TransportEvent → Type 0
IsFair more = (client : ℕ) → pieces_to client more ≤ 4

-- all are written to, and none stays whose queue has overflowed
abbrev pub AllWrittenTo : (below : ℕ) → List TransportEvent → ServerState → Type 0
AllWrittenTo below more state = (client : ℕ) → client < below → IsWrittenTo client more state × (has_overflowed state client ≡ false)

-- a read of any client
abbrev pub is_reading : TransportEvent → Bool
is_reading (Received client byte) = true
is_reading (ReadBlocked client) = true
is_reading other = false

-- no client is read
abbrev pub IsUnread : List TransportEvent → Type 0
IsUnread more = list_any is_reading more ≡ false

-- a read that finds no more bytes
abbrev pub is_last_read : TransportEvent → Bool
is_last_read (PeerClosed client) = true
is_last_read (ReadBlocked client) = true
is_last_read other = false

-- After an event of a client it is read on: it waits for no turns, and no queue is more than a quarter full, unless the event
-- enqueued nothing.
abbrev pub IsReadOn : (client : ℕ) → (old new : ServerState) → Type 0
IsReadOn client old new = (waits new client ≡ false) × ((is_crowded new ≡ false) ⊎ (new.queues ≡ old.queues))

-- Or it is not: there are no more bytes, it waits for turns, or a queue is more than a quarter full.
abbrev pub IsReadLater : (client : ℕ) → TransportEvent → ServerState → Type 0
IsReadLater client log new = (is_last_read log ≡ true) ⊎ (waits new client ≡ true) ⊎ (is_crowded new ≡ true)

-- a client is read, and then read on, one byte after another
abbrev pub ReadsOn : (client : ℕ) → List Handled → ServerState → ServerState → Type 0
ReadsOn client [] old new = new ≡ old
ReadsOn client (one ∷ handled) old new =
    (mid : ServerState) × (is_read client one.log ≡ true) × Applies one.log one.applied old mid × IsReadOn client old mid
    × ReadsOn client handled mid new

-- A client is read, 400 bytes at most, and nothing else happens: until it is to be read later. It is not read at all while it
-- waits for turns.
abbrev pub Reads : (client : ℕ) → List Handled → ServerState → ServerState → Type 0
Reads client handled old new =
    ((waits old client ≡ true) × (handled ≡ []) × (new ≡ old))
    ⊎ ((waits old client ≡ false) × ReadsOn client handled old new × (length handled ≡ 400))
    ⊎ ((waits old client ≡ false) × (before : List Handled) × (last : Handled) × (mid : ServerState)
    × (handled ≡ before ++ last ∷ []) × (length handled ≤ 400) × ReadsOn client before old mid
    × (is_read client last.log ≡ true) × Applies last.log last.applied mid new × IsReadLater client last.log new)

-- A client is served: it is read, and then all are written to, and none is read.
abbrev pub ServesClient : (client : ℕ) → List Handled → ServerState → ServerState → Type 0
ServesClient client handled old new =
    (heard written : List Handled) × (mid : ServerState) × (handled ≡ heard ++ written) × Reads client heard old mid
    × AppliesAll written mid new × IsUnread (transport_events written) × AllWrittenTo 8 (transport_events written) new
    × IsFair (transport_events written)

-- the client that is served so many after the first: behind client 7 comes client 0
abbrev pub nth_client : (first count : ℕ) → ℕ
nth_client first count = (first + count) % 8

-- a number are served, one after another, from the first on
abbrev pub ServesClients : (first count : ℕ) → List Handled → ServerState → ServerState → Type 0
ServesClients first zero handled old new = (handled ≡ []) × (new ≡ old)
ServesClients first (suc n) handled old new =
    (before handled' : List Handled) × (mid : ServerState) × (handled ≡ before ++ handled') × ServesClients first n before old mid
    × ServesClient (nth_client first n) handled' mid new

-- Pending clients are accepted before others are read: where turns follow messages, and none is left to follow.
abbrev pub accepts_first : ServerState → Bool
accepts_first state = follows_messages state.pace && not (has_turns_to_follow state)

-- Then clients that send without a pause, whose turns are left whenever all have been served, do not keep others out.
abbrev pub AcceptsFirst : List Handled → ServerState → ServerState → Type 0
AcceptsFirst handled old new =
    ((accepts_first old ≡ false) × (handled ≡ []) × (new ≡ old))
    ⊎ ((accepts_first old ≡ true) × (is_full : Bool) × AppliesAll handled old new × IsUnread (transport_events handled)
    × AcceptsSome is_full (transport_events handled) new)

-- Pending clients are accepted or refused, unless turns are left that follow a message.
abbrev pub Accepts : List Handled → ServerState → ServerState → Type 0
Accepts handled old new =
    ((has_turns_to_follow old ≡ true) × (handled ≡ []) × (new ≡ old))
    ⊎ ((has_turns_to_follow old ≡ false) × AppliesAll handled old new × IsUnread (transport_events handled)
    × AcceptsPending (transport_events handled))

-- All are written to, and none is read.
abbrev pub WritesToAll : List Handled → ServerState → ServerState → Type 0
WritesToAll handled old new =
    AppliesAll handled old new × IsUnread (transport_events handled) × AllWrittenTo 8 (transport_events handled) new
    × IsFair (transport_events handled)

-- A round: all eight are written to, and then served, beginning behind the one that sent the last message, and then pending
-- clients are accepted.
abbrev pub IsRound : List Handled → ServerState → ServerState → Type 0
IsRound handled old new =
    (early written served joined : List Handled) × (begun start mid : ServerState)
    × (handled ≡ early ++ (written ++ (served ++ joined))) × AcceptsFirst early old begun × WritesToAll written begun start
    × ServesClients start.first_client 8 served start mid × Accepts joined mid new

-- What the parts of a round promise one another.

-- nothing is written
abbrev pub WritesNone : List TransportEvent → Type 0
WritesNone more = (client : ℕ) → pieces_to client more ≡ 0

-- a client is written to, four pieces at most, and no other
abbrev pub Writes : (client : ℕ) → List TransportEvent → ServerState → Type 0
Writes client more state =
    IsWrittenTo client more state × ((other : ℕ) → pieces_to other more ≤ (if other == client then 4 else 0))

-- a number of pending clients are refused: eight, or fewer until none is pending
abbrev pub refusals : (count : ℕ) → List TransportEvent
refusals count = replicate count Refused ++ (if count == 8 then [] else NonePending ∷ [])

-- and then there may be more input, if any was refused
abbrev pub backlog_after : (refused : ℕ) → ServerState → ServerState
backlog_after zero state = state
backlog_after (suc n) state = with_backlog state

-- a client that was written to still is, no queue overflows, and none is read
pub record PreservesRound (more : List TransportEvent) (old new : ServerState) : Type 0 where
  pub written : (client : ℕ) (before : List TransportEvent) → IsWrittenTo client before old → IsWrittenTo client (before ++ more) new
  pub on_time : (client : ℕ) → has_overflowed old client ≡ false → has_overflowed new client ≡ false
  pub unread : IsUnread more

-- this client is connected now, and so are all that were; what is due stays
pub record HasMoreClients (client : ℕ) (old new : ServerState) : Type 0 where
  pub takes : is_connected new client ≡ true
  pub keeps : (other : ℕ) → is_connected old other ≡ true → is_connected new other ≡ true
  pub turns : new.turns_due ≡ old.turns_due
