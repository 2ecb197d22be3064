-- A station, as contracts see it.
use Rattle.std.specs.Prelude.{ℕ, Bool, true, List, [], replicate, slice_index_or, Option, None, ◌&&◌, nat_le}
use Rattle.slot_table.specs.Desk.{first_desk}
use Rattle.refresh_ring.specs.Scheduled.{Scheduled}
use Rattle.refresh_ring.specs.declared.job.Job.{Job}
use Rattle.refresh_ring.specs.declared.job.Destination.{Destination}
use Rattle.refresh_ring.specs.declared.pick.Power.TheVariants.{Off}
use Rattle.station_core.specs.ThrottleView.{ThrottleView}
use Rattle.station_core.specs.Powered.{PoweredDesk}
use Rattle.station_core.specs.Slots.{refreshed_slots}

-- The unfinished bytes of each line, the desk, and what decides which packet is sent next: the jobs
-- that wait, the place that the ring sent last, where the last packet went, and whether jobs are
-- preferred. Which slots are refreshed is the desk's.
pub record Seen : Type 0 where
  pub lines : List (List ℕ)
  pub powered : PoweredDesk
  pub jobs : List Job
  pub cursor : ℕ
  pub last : Option Destination
  pub prefers_jobs : Bool

-- what throttles can know of a station: of the bytes that came before, those that are unfinished
-- are enough
abbrev pub known_of : Seen → ThrottleView
known_of seen = record { lines = seen.lines; powered = seen.powered }

-- the schedule of a station
abbrev pub scheduled : Seen → Scheduled
scheduled seen = record {
  jobs = seen.jobs;
  slots = refreshed_slots seen.powered.desk;
  cursor = seen.cursor;
  last = seen.last;
  prefers_jobs = seen.prefers_jobs;
}

-- the station of these lines, this desk and this schedule
abbrev pub seen_with : List (List ℕ) → PoweredDesk → Scheduled → Seen
seen_with lines powered s =
    record { lines = lines; powered = powered; jobs = s.jobs; cursor = s.cursor; last = s.last; prefers_jobs = s.prefers_jobs }

-- a new station: nothing unfinished, power off, all slots free, nothing waits
abbrev pub first_seen : ℕ → Seen
first_seen count = record {
  lines = replicate count [];
  powered = record { power = Off; desk = first_desk };
  jobs = [];
  cursor = 0;
  last = None;
  prefers_jobs = true;
}

-- the unfinished bytes of a line
abbrev pub line_of : Seen → ℕ → List ℕ
line_of seen line = slice_index_or seen.lines line []

-- how many lines a station may have (own)
abbrev pub is_line_count : ℕ → Bool
is_line_count count = nat_le 1 count && nat_le count 8
