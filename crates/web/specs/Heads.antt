-- The response to a request, by the parts of its head (RFC 9112, section 2.1).
use Rattle.std.specs.Prelude.{◌≡◌, ℕ, Bool, ◌&&◌, ◌||◌, not, true, false, if◌then◌else◌, nat_lt, List, length, codes, bytes_eq, Option, Some, None, MatchOption, Result, Ok, Err}
use Rattle.websocket.specs.Headers.{Fields}
use Rattle.websocket.specs.Handshake.{Answers, requested_key}
use Rattle.websocket.specs.declared.handshake.failure.HandshakeError.{HandshakeError}
use Rattle.web.specs.declared.http_response.Response.{Response}
use Rattle.web.specs.declared.http_response.Response.TheVariants.{Incomplete, Page, PageHead, Upgrade, Error, ErrorHead}
use Rattle.web.specs.declared.http_response.UpgradeRequest.{UpgradeRequest}
use Rattle.web.specs.declared.http_response.HttpError.{HttpError}
use Rattle.web.specs.declared.http_response.HttpError.TheVariants.{BadRequest, Forbidden, Misdirected, NotFound, MethodNotAllowed, TooLong}
use Rattle.web.specs.Origins.{IsOwnHost, IsSameOrigin, host_of}

-- the known paths, byte for byte
abbrev pub is_page : List ℕ → Bool
is_page target = bytes_eq target (codes "/")

abbrev pub is_bus : List ℕ → Bool
is_bus target = bytes_eq target (codes "/bus")

-- the methods that are answered (RFC 9110, sections 9.3.1 and 9.3.2)
abbrev pub is_get : List ℕ → Bool
is_get method = bytes_eq method (codes "GET")

abbrev pub is_head : List ℕ → Bool
is_head method = bytes_eq method (codes "HEAD")

-- Why a request is rejected whatever its host is, in this order: too many fields, an unknown path,
-- another method.
abbrev pub rejection : (method target : List ℕ) → Fields → Option HttpError
rejection method target fields =
    if nat_lt 64 (length fields) then Some TooLong
    else if not (is_page target) && not (is_bus target) then Some NotFound
    else if not (is_get method || is_head method) then Some MethodNotAllowed
    else None

-- upgraded with the key that answers the handshake, after a head of `len` bytes; or not a valid
-- handshake
abbrev pub IsUpgradeOf : (len : ℕ) → Result (List ℕ) HandshakeError → Response → Type 0
IsUpgradeOf len (Ok key) a = (j : UpgradeRequest) × (a ≡ Upgrade j) × (j.accept_key ≡ key) × (j.head_length ≡ len)
IsUpgradeOf len (Err e) a = a ≡ Error BadRequest

-- the result of the handshake, by RFC 6455, section 4.2
abbrev pub HasUpgraded : (method : List ℕ) → (minor : ℕ) → Fields → (len : ℕ) → Response → Type 0
HasUpgraded method minor fields len a =
    (checked : Result (List ℕ) HandshakeError) × Answers checked (requested_key method minor fields) × IsUpgradeOf len checked a

-- The response to a head of `len` bytes, for a server with these names, once nothing else rejects
-- it: its host has to be the server's, and a WebSocket's origin has to be its host.
pub record IsResponseToHost (names : List (List ℕ)) (method target : List ℕ) (minor : ℕ) (fields : Fields) (len : ℕ) (a : Response) : Type 0 where
  pub hostless : host_of fields ≡ None → a ≡ Error BadRequest
  pub misdirected : (host : List ℕ) → host_of fields ≡ Some host → ¬ (IsOwnHost names host) → a ≡ Error Misdirected
  pub page : (host : List ℕ) → host_of fields ≡ Some host → IsOwnHost names host → is_page target ≡ true → a ≡ Page
  pub foreign : (host : List ℕ) → host_of fields ≡ Some host → IsOwnHost names host → is_page target ≡ false → ¬ (IsSameOrigin host fields) → a ≡ Error Forbidden
  pub own : (host : List ℕ) → host_of fields ≡ Some host → IsOwnHost names host → is_page target ≡ false → IsSameOrigin host fields → HasUpgraded method minor fields len a

-- the response with its content to a head of `len` bytes
abbrev pub IsFullResponseTo : (names : List (List ℕ)) → (method target : List ℕ) → (minor : ℕ) → Fields → (len : ℕ) → Response → Type 0
IsFullResponseTo names method target minor fields len a =
    MatchOption (rejection method target fields) (IsResponseToHost names method target minor fields len a) (λ error. a ≡ Error error)

-- a response without its content
abbrev pub without_content : Response → Response
without_content Incomplete = Incomplete
without_content Page = PageHead
without_content PageHead = PageHead
without_content (Upgrade upgrade) = Upgrade upgrade
without_content (Error error) = ErrorHead error
without_content (ErrorHead error) = ErrorHead error

-- A response to HEAD has no content.
abbrev pub to_method : (method : List ℕ) → Response → Response
to_method method full = if is_head method then without_content full else full

-- the response to a head of `len` bytes
abbrev pub IsResponseTo : (names : List (List ℕ)) → (method target : List ℕ) → (minor : ℕ) → Fields → (len : ℕ) → Response → Type 0
IsResponseTo names method target minor fields len a =
    (full : Response) × IsFullResponseTo names method target minor fields len full × (a ≡ to_method method full)
