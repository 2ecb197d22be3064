-- The requests of a client's text in LocoNet over TCP, and the bytes that a reader keeps.
use Rattle.std.specs.Prelude.{ℕ, if◌then◌else◌, nat_lt, List, [], ◌∷◌, ◌++◌, length, Option, None}
use Rattle.std.specs.Option.{option_to_list}
use Rattle.loconet_tcp.specs.declared.request.Request.{Request}
use Rattle.loconet_tcp.specs.Text.{is_end, lines_of}
use Rattle.loconet_tcp.specs.Requests.{request_of}

abbrev pub requests_in : List (List ℕ) → List Request
requests_in [] = []
requests_in (line ∷ lines) = option_to_list (request_of line) ++ requests_in lines

-- the requests of the lines of the text, in order
abbrev pub requests_of : List ℕ → List Request
requests_of text = requests_in (lines_of text)

-- the request that a byte completes, after the beginning of a line
abbrev pub request_of_byte : List ℕ → ℕ → Option Request
request_of_byte kept b = if is_end b then request_of kept else None

-- the bytes kept of the line after that byte: its first 401
abbrev pub kept_after : List ℕ → ℕ → List ℕ
kept_after kept b = if is_end b then [] else if nat_lt (length kept) 401 then kept ++ b ∷ [] else kept

-- the requests that the bytes complete, one after another, after the bytes kept
abbrev pub requests_along : (kept : List ℕ) → List ℕ → List Request
requests_along kept [] = []
requests_along kept (b ∷ text) = option_to_list (request_of_byte kept b) ++ requests_along (kept_after kept b) text
