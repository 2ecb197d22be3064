-- The text of a client since it connected, and what of it was written.
use Rattle.std.specs.Prelude.{ℕ, ◌≡◌, ◌==◌, Bool, false, if◌then◌else◌, List, [], ◌∷◌, ◌++◌, Some, None}
use Rattle.std.specs.List.{slice_index_or}
use Rattle.bus_server.specs.Observations.{Observation, Observed}
use Rattle.bus.specs.declared.outcome.Outcome.{Outcome}
use Rattle.bus.specs.declared.outcome.Outcome.TheVariants.{Connected}
use Rattle.bus.specs.Outcome.{text_for}
use Rattle.bus_server.specs.Running.{RunsRounds, Round}
use Rattle.bus_server.specs.ServerState.{Handled, LoggedEvent, ServerState}
use Rattle.bus_server.specs.TransportEvents.{TransportEvent, Written}

-- the text of a client since it connected, and what of it was written
pub record Account : Type 0 where
  pub text : List ℕ
  pub written : List ℕ

abbrev pub is_connecting : (client : ℕ) → Outcome → Bool
is_connecting i (Connected client) = client == i
is_connecting i other = false

-- a client that connects begins anew
abbrev pub begun : (client : ℕ) → Outcome → List ℕ → List ℕ
begun i outcome bytes = if is_connecting i outcome then [] else bytes

abbrev pub account_after_outcome : (client : ℕ) → Account → Outcome → Account
account_after_outcome i account outcome = record { text = begun i outcome account.text ++ text_for i outcome; written = begun i outcome account.written }

abbrev pub account_observed : (client : ℕ) → Account → Observation → Account
account_observed i account (Observed outcome nodes railway) = account_after_outcome i account outcome
account_observed i account other = account

abbrev pub account_applied : (client : ℕ) → Account → List LoggedEvent → Account
account_applied i account [] = account
account_applied i account (one ∷ more) = account_applied i (account_observed i account one.observed) more

abbrev pub account_written : (client : ℕ) → Account → TransportEvent → Account
account_written i account (Written client bytes) = if client == i then record account { written = account.written ++ bytes } else account
account_written i account other = account

abbrev pub account_handled : (client : ℕ) → Account → List Handled → Account
account_handled i account [] = account
account_handled i account (one_handled ∷ handled) = account_handled i (account_applied i (account_written i account one_handled.log) one_handled.applied) handled

-- While its queue is open, what was written and what is queued are together the client's text.
abbrev pub IsFront : (client : ℕ) → Account → ServerState → Type 0
IsFront i account state = (queued : List ℕ) → slice_index_or state.queues i None ≡ Some queued → account.written ++ queued ≡ account.text

-- of an answer a client received a line
abbrev pub account_answered : (client : ℕ) → Account → Round → Account
account_answered i account round = record account { text = account.text ++ round.answers i }

abbrev pub account_run : (client : ℕ) → Account → List Round → Account
account_run i account [] = account
account_run i account (round ∷ rounds) = account_run i (account_applied i (account_handled i (account_answered i account round) round.handled) round.elapsing) rounds

-- it stays so in every run
abbrev pub FrontsAreWritten : Type 0
FrontsAreWritten = (client : ℕ) (account : Account) (most : ℕ) (rounds : List Round) (old new : ServerState) → RunsRounds most rounds old new
    → IsFront client account old → IsFront client (account_run client account rounds) new
