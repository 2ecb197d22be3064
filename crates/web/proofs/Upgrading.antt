-- The key that answers a handshake.
use Rattle.std.proofs.Common.{◌≡◌, ℕ, List, true, Result, Ok, Err, subst, sym}
use Rattle.websocket.specs.Handshake.{Answers}
use Rattle.websocket.specs.Headers.{is_graphic_text}
use Rattle.websocket.specs.declared.handshake.failure.HandshakeError.{HandshakeError}
use Rattle.websocket.proofs.AcceptKey.{accept_key_is_graphic}

-- a key that answers a handshake has no blank and no control character
pub response-graphic : (key : List ℕ) (asked : Result (List ℕ) HandshakeError) → Answers (Ok key) asked → is_graphic_text key ≡ true
response-graphic key (Ok nonce) h = subst (λ (k : List ℕ). is_graphic_text k ≡ true) (sym h.1) (accept_key_is_graphic nonce)
response-graphic key (Err e) h = cc
