-- HTTP responses as text (RFC 9112, section 4, and RFC 9110, section 15).
use Rattle.std.specs.Prelude.{ℕ, List, [], ◌++◌, length, codes}
use Rattle.std.specs.Fmt.{decimal}
use Rattle.web.specs.declared.http_response.HttpError.{HttpError}
use Rattle.web.specs.declared.http_response.HttpError.TheVariants.{BadRequest, Forbidden, NotFound, MethodNotAllowed, TimedOut, Misdirected, TooLong}

abbrev pub status_of : HttpError → ℕ
status_of BadRequest = 400
status_of Forbidden = 403
status_of NotFound = 404
status_of MethodNotAllowed = 405
status_of TimedOut = 408
status_of Misdirected = 421
status_of TooLong = 431

-- the standard's name of the status; 431 is in RFC 6585, section 5
abbrev pub name_of : HttpError → List ℕ
name_of BadRequest = codes "Bad Request"
name_of Forbidden = codes "Forbidden"
name_of NotFound = codes "Not Found"
name_of MethodNotAllowed = codes "Method Not Allowed"
name_of TimedOut = codes "Request Timeout"
name_of Misdirected = codes "Misdirected Request"
name_of TooLong = codes "Request Header Fields Too Large"

-- the reason shown to the reader, a line
abbrev pub reason_of : HttpError → List ℕ
reason_of BadRequest = codes "This is no request that can be answered.\n"
reason_of Forbidden = codes "Only a page of this server may join the bus.\n"
reason_of NotFound = codes "There is nothing at this path.\n"
reason_of MethodNotAllowed = codes "Only GET and HEAD are answered.\n"
reason_of TimedOut = codes "The request did not come to its end in time.\n"
reason_of Misdirected = codes "This server does not know that name: --host NAME lets it in.\n"
reason_of TooLong = codes "The head of the request is too long.\n"

-- a response with status 405 lists the allowed methods (RFC 9110, section 15.5.6)
abbrev pub allow_of : HttpError → List ℕ
allow_of MethodNotAllowed = codes "Allow: GET, HEAD\r\n"
allow_of r = []

abbrev pub version_text : List ℕ
version_text = codes "HTTP/1.1 "

abbrev pub plain_text : List ℕ
plain_text = codes "\r\nContent-Type: text/plain; charset=utf-8\r\nContent-Length: "

abbrev pub connection_close : List ℕ
connection_close = codes "\r\nConnection: close\r\n"

-- the head of a response with a reason, after which the connection is closed
abbrev pub error_head_text : HttpError → List ℕ
error_head_text r =
    version_text ++ decimal (status_of r) ++ codes " " ++ name_of r
    ++ plain_text ++ decimal (length (reason_of r))
    ++ connection_close ++ allow_of r ++ codes "\r\n"

abbrev pub error_text : HttpError → List ℕ
error_text r = error_head_text r ++ reason_of r

abbrev pub page_start : List ℕ
page_start = codes "HTTP/1.1 200 OK\r\nContent-Type: text/html; charset=utf-8\r\nContent-Length: "

-- a page is never cached, has exactly its declared type, and sends no Referer to linked sites
abbrev pub page_rules : List ℕ
page_rules = codes "Cache-Control: no-store\r\nX-Content-Type-Options: nosniff\r\nReferrer-Policy: no-referrer\r\n"

-- a page runs only its own inline scripts, loads nothing, and connects only to its own server
-- (Content Security Policy 3)
abbrev pub page_policy : List ℕ
page_policy = codes "Content-Security-Policy: default-src 'none'; style-src 'unsafe-inline'; script-src 'unsafe-inline'; connect-src 'self'; img-src data:; base-uri 'none'; form-action 'none'; frame-ancestors 'none'\r\n\r\n"

-- the head before a page of this length in bytes
abbrev pub page_head_text : ℕ → List ℕ
page_head_text len = page_start ++ decimal len ++ connection_close ++ page_rules ++ page_policy
