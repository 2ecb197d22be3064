-- The parts of an HTTP exchange that contracts do not see.
use Rattle.std.specs.Prelude.{◌≡◌, ◌<◌, ℕ, List, length}
use Rattle.web.specs.declared.exchange.Stage.{Stage}
use Rattle.web.specs.declared.exchange.Stage.TheVariants.{ReadingRequest, WritingResponse}
use Rattle.web.specs.Exchanges.{reply_text}
use Rattle.web.specs.PageReplies.{no_page}

-- the response being written, without the page
abbrev pub HasHead : Stage → List ℕ → Type 0
HasHead (WritingResponse response written) head = head ≡ reply_text no_page response
HasHead stage head = Unit {0}

-- while the request head is read, there is room for more of it
abbrev pub HasRoom : Stage → List ℕ → Type 0
HasRoom ReadingRequest received = length received < 8192
HasRoom stage received = Unit {0}
