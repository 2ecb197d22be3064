-- The effect of `lbserver` for the arguments after its name: it serves as they order, or writes the
-- text that they ask for.
use Rattle.std.specs.Prelude.{ℕ, ◌≡◌, ⊤, ◌⊎◌, ◌-◌, ◌==◌, ◌||◌, ◌^◌, Bool, if◌then◌else◌, IsTrue, is_some, not, true, false, List, [], Option, Some, None, Result, Ok, Err}
use Rattle.std.specs.Io.KnownBytes.{Appends}
use Rattle.std.specs.List.{list_any}
use Rattle.server_orders.specs.declared.words.ServerOrder.{ServerOrder}
use Rattle.command_line.specs.Fault as order
use Rattle.command_line.specs.declared.fault.OrderFault.{OrderFault}
use Rattle.server_orders.specs.ServerLine.{AsksServer, IsServerFault, IsServerOrderOf}
use Rattle.console.specs.Fault as run
use Rattle.console.specs.Files.{IsRosterOf}
use Rattle.roster.specs.Entry.{Entry}
use Rattle.roster.specs.Decoders.{names_of, specs_of}
use Rattle.bus_server.specs.declared.hub.Hub.{Hub}
use Rattle.bus_server.specs.declared.losses.Losses.{Losses}
use Rattle.bus_server.specs.ServerState.{ServerState, initial_state}
use Rattle.bus_server.specs.Snapshots.{HasReported, ObservesLayout, state_of}
use Rattle.bus_server.specs.declared.pace.Pace.{Pace}
use Rattle.bus_server.specs.declared.pace.Pace.TheVariants.{AfterMessages, RealTime}
use Rattle.bus_server.specs.Losses.{IsSeeded}
use Rattle.bus_server.specs.Pace.{is_pace}
use Rattle.railway.specs.Railway.{RailwayState}
use Rattle.programming_track.specs.Bench.{BenchState}
use Rattle.railway_plan.specs.Railways.{IsRailwayIn}
use Rattle.bus_server.specs.AfterRound.{Shown}
use Rattle.bus_server.specs.Observations.{Observation}
use Rattle.bus_server.specs.Running.{IsRun, RunSnapshot}
use Rattle.bus_server.specs.TransportEvents.{TransportEvent}
use Rattle.server_orders.specs.declared.share.Share.{Share}
use Rattle.server_orders.specs.Shares.{decoder_of}
use Rattle.lbserver.specs.Programmers.{IsProgrammingOf}
use Rattle.lbserver.specs.Sharing.{first_unknown, shares_of}
use Rattle.lbserver.specs.declared.device_logs.DeviceLogs.{DeviceLogs}
use Rattle.lbserver.specs.declared.fault.ServerFault.{ServerFault}
use Rattle.lbserver.specs.declared.fault.ServerFault.TheVariants.{Listen, NoDecoder, Order, Output, Plan, Roster, Run, Unopened}

-- how many clients have to disconnect before the server ends; without a number, as many as can be
-- counted
abbrev pub clients_of : Option ℕ → ℕ
clients_of None = 2 ^ 64 - 1
clients_of (Some clients) = clients

-- the decoders of a roster; none without one
abbrev pub entries_in : Option (List Entry) → List Entry
entries_in None = []
entries_in (Some entries) = entries

-- None without a plan or a roster. The contents of a file are not known, only that there is a text
-- that describes this railway.
abbrev pub IsRailwayOf : (plan : Option (List ℕ)) → List Entry → Option RailwayState → Type 0
IsRailwayOf None entries railway = railway ≡ None
IsRailwayOf (Some file) entries None = entries ≡ []
IsRailwayOf (Some file) entries (Some railway) = (text : List ℕ) × IsRailwayIn entries text railway

-- what turns follow: messages; or time, without a rate as fast as it passes
abbrev pub pace_of : (turns rate : Option ℕ) → Pace
pace_of (Some turns) rate = AfterMessages turns
pace_of None (Some rate) = RealTime rate
pace_of None None = RealTime 1

-- the rate of an order is one of a server
abbrev pub HasPace : ServerOrder → Type 0
HasPace order = IsTrue (is_pace (pace_of order.turns order.rate))

-- a new server for an order: the decoders of its roster, a railway and a programming track, its turns
-- and its rate, and losses of its shares, drawn from its seed
abbrev pub IsNewServer : ServerOrder → List Entry → Option RailwayState → Option BenchState → ServerState → Type 0
IsNewServer order entries railway programming start =
    (losses : Losses) × IsSeeded (shares_of order.lose.items (names_of entries)) order.seed losses × (start ≡ initial_state (specs_of entries) (names_of entries) railway programming (pace_of order.turns order.rate) losses)

-- A server that is ready to serve an order: new, with the decoders of its roster, and nothing to report.
pub record IsReady (order : ServerOrder) (entries : List Entry) (hub : Hub) : Type 0 where
  pub observes : ObservesLayout (specs_of entries) hub
  pub reported : HasReported hub
  pub new : IsNewServer order entries (state_of hub).railway (state_of hub).programming (state_of hub)

-- the logs of the devices that a server serves with: its transport, its clock, its observer, and what is shown after a round
pub record RunLogs : Type 0 where
  pub log : Option (List TransportEvent)
  pub readings : Option (List ℕ)
  pub observed : Option (List Observation)
  pub shown : Option (List Shown)

abbrev pub logs_of : (log : Option (List TransportEvent)) → (readings : Option (List ℕ)) → (shown : Option (List Shown)) → RunLogs
logs_of log readings shown = record { log = log; readings = readings; observed = None; shown = shown }

-- of sockets and their clock; the printer and standard output keep none
abbrev pub kept : (events : List TransportEvent) → (readings : List ℕ) → RunLogs
kept events readings = logs_of (Some events) (Some readings) None

abbrev pub moment : RunLogs → ServerState → RunSnapshot
moment logs state = record { log = logs.log; readings = logs.readings; observed = logs.observed; shown = logs.shown; state = state }

-- A run of a new server for this order, until the given number of clients have disconnected, by which these logs grew.
abbrev pub ServesLogged : ServerOrder → List Entry → Option RailwayState → Option BenchState → (old new : RunLogs) → Type 0
ServesLogged order entries railway programming old new =
    (start end : ServerState) × IsNewServer order entries railway programming start × IsRun (clients_of order.clients) (moment old start) (moment new end)

-- and these are, from the first on, what all calls of its transport and of its clock returned
abbrev pub ServesBy : ServerOrder → List Entry → Option RailwayState → Option BenchState → (events : List TransportEvent) → (readings : List ℕ) → Type 0
ServesBy order entries railway programming events readings = ServesLogged order entries railway programming (kept [] []) (kept events readings)

-- and they are in the logs of the devices
abbrev pub ServesOrder : ServerOrder → List Entry → Option RailwayState → Option BenchState → DeviceLogs → Type 0
ServesOrder order entries railway programming logs = ServesBy order entries railway programming logs.sockets.events logs.clock.readings

-- an order is served, with the programming track of its decoders
abbrev pub ServesProgrammer : ServerOrder → List Entry → Option RailwayState → DeviceLogs → Type 0
ServesProgrammer order entries railway logs =
    (programming : Option BenchState) × IsProgrammingOf order.programmer programming × ServesOrder order entries railway programming logs

-- and with the railway of its plan, where its roster has the decoders that it names
abbrev pub ServesPlan : ServerOrder → List Entry → DeviceLogs → Type 0
ServesPlan order entries logs =
    (first_unknown (names_of entries) order.lose.items ≡ None) × (railway : Option RailwayState) × IsRailwayOf order.plan entries railway × ServesProgrammer order entries railway logs

-- The arguments are those of an order, and it is served, with its roster.
abbrev pub ServesWords : List (List ℕ) → DeviceLogs → Type 0
ServesWords words logs =
    (order : ServerOrder) × (roster : Option (List Entry)) × IsServerOrderOf words order × IsRosterOf order.roster roster × ServesPlan order (entries_in roster) logs

-- Clap answers the arguments with help or the version, and a text was written: which one, clap does
-- not specify.
abbrev pub AnswersWords : List (List ℕ) → (old_output new_output : Option (List ℕ)) → Type 0
AnswersWords words old_output new_output = AsksServer words × ((text : List ℕ) × Appends old_output new_output text)

abbrev pub RunsWords : List (List ℕ) → (old_output new_output : Option (List ℕ)) → DeviceLogs → Type 0
RunsWords words old_output new_output logs = ServesWords words logs ⊎ AnswersWords words old_output new_output

-- the exit status for a fault
abbrev pub status_of : ServerFault → ℕ
status_of (Order fault) = order.status_of fault
status_of (Unopened file why) = 2
status_of (Roster file fault details) = 3
status_of (Plan file fault) = 3
status_of (NoDecoder name) = 3
status_of (Listen address why) = 4
status_of Output = 4
status_of (Run fault) = run.status_of fault

-- The words are those of no order, as clap rejects them, or its matches are none.
abbrev pub AreNoOrder : List (List ℕ) → Type 0
AreNoOrder words = (fault : OrderFault) × IsServerFault words fault × (order.status_of fault ≡ 1)

-- a fault of a file: it cannot be read, its text has one, or it lacks a decoder that is named
abbrev pub is_of_file : ServerFault → Bool
is_of_file fault = status_of fault == 2 || status_of fault == 3

-- a share of packets is that of one decoder
abbrev pub names_decoder : List Share → Bool
names_decoder shares = list_any (λ share. is_some (decoder_of share)) shares

-- the order names a file, or asks for the page, which is one
abbrev pub names_file : ServerOrder → Bool
names_file order = is_some order.roster || is_some order.plan || is_some order.programmer || is_some order.page

abbrev pub NameFile : List (List ℕ) → Type 0
NameFile words = (order : ServerOrder) × IsServerOrderOf words order × (names_file order ≡ true)

-- or names a decoder that its roster has to have
abbrev pub names_part : ServerOrder → Bool
names_part order = names_file order || names_decoder order.lose.items

abbrev pub NamePart : List (List ℕ) → Type 0
NamePart words = (order : ServerOrder) × IsServerOrderOf words order × (names_part order ≡ true)

-- A run, in which a file is named or none, did not end for a file that cannot be read, unless one is.
abbrev pub IsOpened : {A : Type 0} → (named : Bool) → Result A ServerFault → Type 0
IsOpened named (Ok a) = ⊤
IsOpened named (Err fault) = (if named then true else not (status_of fault == 2)) ≡ true

-- The arguments are those of an order, and a call of the system failed; or they ask for a text, and it could not be written.
abbrev pub IsStopped : List (List ℕ) → (failed : Bool) → DeviceLogs → Type 0
IsStopped words failed logs =
    ((order : ServerOrder) × IsServerOrderOf words order × (logs.faults.failed ≡ true)) ⊎ (AsksServer words × (failed ≡ true))

-- nothing was served: no call of the sockets and of the clock returned anything
abbrev pub IsUnserved : DeviceLogs → Type 0
IsUnserved logs = (logs.sockets.events ≡ []) × (logs.clock.readings ≡ [])

-- A run of an order, which names a file or none, ended with this fault: not for the words; for a file only if one is named;
-- once standard output could not be written, with status 4; and with that only if a call of the system failed.
abbrev pub EndsBy : (named failed faulted : Bool) → ServerFault → Type 0
EndsBy named failed faulted fault =
    ((status_of fault == 1) ≡ false) × ((if named then true else not (is_of_file fault)) ≡ true)
    × ((if failed then status_of fault == 4 else true) ≡ true) × ((if faulted then true else not (status_of fault == 4)) ≡ true)

-- A run of an order ended, if with a fault with one of these.
abbrev pub IsEnd : {A : Type 0} → (named failed faulted : Bool) → Result A ServerFault → Type 0
IsEnd named failed faulted (Ok a) = ⊤
IsEnd named failed faulted (Err fault) = EndsBy named failed faulted fault

-- whether a text could not be written
abbrev pub ended_by_output : {A : Type 0} → Result A ServerFault → Bool
ended_by_output (Ok a) = false
ended_by_output (Err Output) = true
ended_by_output (Err other) = false
