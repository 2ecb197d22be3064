-- The response to a request, by its bytes so far, for a server with these names.
use Rattle.std.specs.Prelude.{◌≡◌, ℕ, if◌then◌else◌, nat_lt, List, length, map}
use Rattle.httparse.specs.Grammar.{RequestHead, ReadsRequest, HasNoRequest, NeverHasRequest, print_request}
use Rattle.httparse.specs.Spans.{name_and_value}
use Rattle.web.specs.declared.http_response.Response.{Response}
use Rattle.web.specs.declared.http_response.Response.TheVariants.{Incomplete, Error}
use Rattle.web.specs.declared.http_response.HttpError.TheVariants.{BadRequest, TooLong}
use Rattle.web.specs.Heads.{IsResponseTo}
use Rattle.web.specs.Lines.{lines_so_far}

-- the response to a head
abbrev pub IsResponseToHead : (names : List (List ℕ)) → RequestHead → Response → Type 0
IsResponseToHead names h a =
    IsResponseTo names h.method h.target h.minor (map name_and_value h.fields) (length (print_request h)) a

-- an incomplete request may continue until it has 8,192 bytes
abbrev pub unfinished : List ℕ → Response
unfinished text = if nat_lt (length text) 8192 then Incomplete else Error TooLong

-- The lines so far hold a whole head; or they are not a head whatever follows (400); or they may
-- still become one.
pub record IsResponse (names : List (List ℕ)) (text : List ℕ) (a : Response) : Type 0 where
  pub whole : (h : RequestHead) (rest : List ℕ) → ReadsRequest (lines_so_far text) h rest → IsResponseToHead names h a
  pub hopeless : NeverHasRequest (lines_so_far text) → a ≡ Error BadRequest
  pub waiting : HasNoRequest (lines_so_far text) → ¬ (NeverHasRequest (lines_so_far text)) → a ≡ unfinished text
