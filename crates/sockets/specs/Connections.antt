-- The facts about an HTTP exchange.
use Rattle.web.specs.declared.exchange.Stage.{Stage}
use Rattle.web.specs.declared.exchange.Stage.TheVariants.{Upgraded}

-- the response is sent, and the connection continues as a WebSocket
abbrev pub IsUpgraded : Stage → Type 0
IsUpgraded (Upgraded taken) = Unit {0}
IsUpgraded stage = ⊥
