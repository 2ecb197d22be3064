-- The parts of a head where they are in its lines.
use Rattle.std.specs.Prelude.{ℕ, List, take}
use Rattle.httparse.specs.Spans.{IsRequestWithin, span_bytes}
use Rattle.websocket.specs.Headers.{Fields, fields_of}
use Rattle.web.specs.declared.head.Head.{Head}
use Rattle.web.specs.declared.http_response.Response.{Response}

-- each part is in the lines
abbrev pub IsWithin : Head → Type 0
IsWithin head = IsRequestWithin head.lines.now head.spans.now head.request.now

-- a response to the method, the target, the version, the fields and the length of a head
abbrev pub OfParts : (List (List ℕ) → List ℕ → List ℕ → ℕ → Fields → ℕ → Response → Type 0) → (names : List (List ℕ)) → Head → Response → Type 0
OfParts IsResponseOf names head a =
    IsResponseOf names (span_bytes head.lines.now head.request.now.method) (span_bytes head.lines.now head.request.now.path)
    head.request.now.version (fields_of head.lines.now (take head.request.now.headers head.spans.now)) head.request.now.len a
