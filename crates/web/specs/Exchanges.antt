-- An HTTP exchange, from the first byte of a request to the end of the connection.
use Rattle.std.specs.Prelude.{◌≡◌, ℕ, ◌+◌, if◌then◌else◌, min, nat_lt, List, [], ◌++◌, drop, length}
use Rattle.websocket.specs.Handshake.{response_bytes}
use Rattle.web.specs.declared.http_response.Response.{Response}
use Rattle.web.specs.declared.http_response.Response.TheVariants.{Incomplete, Page, PageHead, Upgrade, Error, ErrorHead}
use Rattle.web.specs.declared.http_response.HttpError.TheVariants.{TimedOut}
use Rattle.web.specs.declared.exchange.Stage.{Stage}
use Rattle.web.specs.declared.exchange.Stage.TheVariants.{ReadingRequest, WritingResponse, Upgraded, Draining}
use Rattle.web.specs.Responses.{IsResponse}
use Rattle.web.specs.PageReplies.{PageParts, whole}
use Rattle.web.specs.Replies.{error_head_text, error_text}

-- the bytes received, the stage, and its deadline in microseconds
pub record ExchangeState : Type 0 where
  pub received : List ℕ
  pub stage : Stage
  pub deadline : ℕ

-- a number of microseconds later, at most the largest 64-bit number
abbrev pub deadline_after : (now micros : ℕ) → ℕ
deadline_after now micros = min (now + micros) 18446744073709551615

-- a new exchange has five seconds for the request head
abbrev pub initial_exchange : (now : ℕ) → ExchangeState
initial_exchange now = record { received = []; stage = ReadingRequest; deadline = deadline_after now 5000000 }

-- the response, if it is determined, has ten seconds to be written
abbrev pub responded : Response → (now : ℕ) → ExchangeState → ExchangeState
responded Incomplete now exchange = exchange
responded Page now exchange = record exchange { stage = WritingResponse Page 0; deadline = deadline_after now 10000000 }
responded PageHead now exchange = record exchange { stage = WritingResponse PageHead 0; deadline = deadline_after now 10000000 }
responded (Upgrade upgrade) now exchange = record exchange { stage = WritingResponse (Upgrade upgrade) 0; deadline = deadline_after now 10000000 }
responded (Error error) now exchange = record exchange { stage = WritingResponse (Error error) 0; deadline = deadline_after now 10000000 }
responded (ErrorHead error) now exchange = record exchange { stage = WritingResponse (ErrorHead error) 0; deadline = deadline_after now 10000000 }

-- Bytes of the request are received. The response is to all bytes received so far, however they
-- were divided.
abbrev pub Receives : (names : List (List ℕ)) → List ℕ → (now : ℕ) → ExchangeState → ExchangeState → Type 0
Receives names bytes now old new =
    (response : Response) × IsResponse names (old.received ++ bytes) response × (new ≡ responded response now (record old { received = old.received ++ bytes }))

-- a response as text; `page` is the response that holds the page
abbrev pub reply_text : (page : PageParts) → Response → List ℕ
reply_text page Incomplete = []
reply_text page Page = whole page
reply_text page PageHead = page.head
reply_text page (Upgrade upgrade) = response_bytes upgrade.accept_key []
reply_text page (Error error) = error_text error
reply_text page (ErrorHead error) = error_head_text error

-- the response being written, and the part of it not yet written
abbrev pub text_of : (page : PageParts) → Stage → List ℕ
text_of page (WritingResponse response written) = reply_text page response
text_of page stage = []

abbrev pub remaining_text : (page : PageParts) → Stage → List ℕ
remaining_text page (WritingResponse response written) = drop written (reply_text page response)
remaining_text page stage = []

-- after the whole response, an upgraded connection is a WebSocket, and any other has a second to be
-- closed by the client
abbrev pub after_response : Response → (now : ℕ) → ExchangeState → ExchangeState
after_response (Upgrade upgrade) now exchange = record exchange { stage = Upgraded upgrade.head_length }
after_response response now exchange = record exchange { stage = Draining; deadline = deadline_after now 1000000 }

-- `count` more bytes are written
abbrev pub after_write : (page : PageParts) (count now : ℕ) → Stage → ExchangeState → ExchangeState
after_write page count now (WritingResponse response written) exchange =
    if nat_lt count (length (remaining_text page (WritingResponse response written))) then record exchange { stage = WritingResponse response (written + count) } else after_response response now exchange
after_write page count now stage exchange = exchange

-- The time of the stage has elapsed: an incomplete request is rejected for that. Any other exchange
-- ends with the connection.
abbrev pub time_out : (now : ℕ) → Stage → ExchangeState → ExchangeState
time_out now ReadingRequest exchange = responded (Error TimedOut) now exchange
time_out now stage exchange = exchange

-- the bytes received after the head of an upgraded connection
abbrev pub leftover_of : Stage → List ℕ → List ℕ
leftover_of (Upgraded head_length) received = drop head_length received
leftover_of stage received = []
