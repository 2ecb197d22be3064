use Rattle.station_core.specs.Moments.{IsLive}
use Rattle.station_core.specs.Seen.{known_of}
use Rattle.station_core.proofs.Agreeing.{agree_at_first, moments}
use Rattle.station_core.proofs.Walks.{reaches_within}
use Rattle.station_core.proofs.laws.changes_first.Goals as goal

pub returns : goal.returns
returns c = λ start calls slot kind ahead is ahead_of live enough.
    reaches_within c.changes_first.ensures.falls c.changes_first.ensures.least c.changes_first.ensures.changed c.changes_first.ensures.switch slot kind is (c.changes_first.ensures.most slot kind) start calls ahead ahead_of
    (moments (record { message = c.left_is_enough.ensures.message; unfinished = c.left_is_enough.ensures.unfinished; once = c.left_is_enough.ensures.once })
    (IsLive slot) start (known_of start) calls (agree_at_first start) live)
    enough
