-- Runs of frames without text.
use Rattle.std.proofs.Common.{◌≡◌, ℕ, List, [], ◌∷◌, ◌++◌, Option, Ok, Err, sym, subst}
use Rattle.websocket.specs.Content.{Content}
use Rattle.websocket.specs.Connection.{Connection}
use Rattle.tungstenite.specs.Failure.{IsIo}
use Rattle.tungstenite.specs.Socket.{EndsWith, Quiet, Reads, Run, Runs, Socket, content_of}
use Rattle.tungstenite.specs.declared.error.Error.{Error}
use Rattle.tungstenite.specs.declared.message.Message.{Message}
use Rattle.web.specs.Receiving.{HasControlsOnly, ReceivesNoText, IsControl, MayBeControl}

-- frames that gave no message
quiet-controls : (frames : Run) → Quiet frames → HasControlsOnly frames
quiet-controls [] quiet = tt
quiet-controls (frame ∷ frames) quiet = (subst (λ (m : Option Content). MayBeControl m) (sym quiet.0) tt, quiet-controls frames quiet.1)

-- frames that gave a message that is not text
ends-controls : (frames : Run) (message : Content) → EndsWith frames message → IsControl message → HasControlsOnly frames
ends-controls [] message ends is = tt
ends-controls (frame ∷ []) message ends is = (subst (λ (m : Option Content). MayBeControl m) (sym ends) is, tt)
ends-controls (frame ∷ next ∷ frames) message ends is =
    (subst (λ (m : Option Content). MayBeControl m) (sym ends.0) tt, ends-controls (next ∷ frames) message ends.1 is)

-- the same run, from and to the socket's own connection
runs-there : (start : Connection) (input : List ℕ) (frames : Run) (c conn : Connection) (i rest : List ℕ) → conn ≡ c → rest ≡ i → Runs start input frames c i → Runs start input frames conn rest
runs-there start input frames c conn i rest same is runs =
    subst (λ (c : Connection). Runs start input frames c rest) (sym same) (subst (λ (i : List ℕ). Runs start input frames c i) (sym is) runs)

-- the stream failed
pub hears-failure : {S : Type 0} (remaining : S → Option (List ℕ)) (old new : Socket S) (error : Error) → Reads remaining old new (Err error) → IsIo error → ReceivesNoText remaining old new
hears-failure remaining old new error (frames, got, c, i, sent, runs, gave) is =
    let at = gave.2 is in
    (frames, got, runs-there old.conn (old.input ++ got) frames c new.conn i new.input at.0 at.1 runs, quiet-controls frames gave.0, λ none. gave.4 is none)

-- a ping, a pong or a close was received
pub hears-control : {S : Type 0} (remaining : S → Option (List ℕ)) (old new : Socket S) (message : Message) → Reads remaining old new (Ok message) → IsControl (content_of message) → ReceivesNoText remaining old new
hears-control remaining old new message (frames, got, c, i, sent, runs, gave) is =
    (frames, got, runs-there old.conn (old.input ++ got) frames c new.conn i new.input gave.1 gave.2 runs, ends-controls frames (content_of message) gave.0 is, gave.4)
