-- A run so far.
use Rattle.std.proofs.Common.{◌≡◌, ℕ, ◌<◌, List, [], ◌∷◌, ◌++◌, Option, Some, None, refl, ap, sym, subst, ◌∙◌}
use Rattle.std.specs.List.{flat_map}
use Rattle.layout_core.specs.declared.world.World.{World}
use Rattle.railway.specs.Railway.{RailwayState}
use Rattle.station_core.specs.Powered.{HasDesk}
use Rattle.bus.specs.Invariant.{IsInvariant}
use Rattle.bus.specs.Log.{Extends}
use Rattle.bus_server.specs.AfterRound.{Shown}
use Rattle.bus_server.specs.Observations.{Observation}
use Rattle.bus_server.specs.Running.{Round, RoundsAreARun, RunsLogged, RunsRound, RunsRounds, RunSnapshot, observation_log, shown, skipped, transport_log}
use Rattle.bus_server.specs.ServerState.{ServerState, transport_events, observations_in, observations_of}
use Rattle.bus_server.specs.SoFar.{ComesTo, IsBeginning, IsSoFar}
use Rattle.bus_server.specs.TransportEvents.{Polled, TransportEvent}
use Rattle.bus_server.proofs.WholeRuns.{logs_more, rounds_more}

-- the rounds so far
pub comes_to : (most : ℕ) (begun begun_now : Option RunSnapshot) (rounds : List Round) (start now : RunSnapshot) → begun_now ≡ begun → IsBeginning begun start → RunsLogged most rounds start now
    → IsInvariant start.state.bus → HasDesk start.state.bus.station.powered → ComesTo most begun_now now
comes_to most None begun_now rounds start now same begins runs kept desk = subst (λ (b : Option RunSnapshot). ComesTo most b now) (sym same) tt
comes_to most (Some first) begun_now rounds start now same begins runs kept desk =
    subst (λ (b : Option RunSnapshot). ComesTo most b now) (sym same)
    (subst (λ (s : RunSnapshot). ComesTo most (Some s) now) (sym begins) (rounds, runs, kept, desk))

-- what is lent is what is shown
abbrev lent_shown : World → Option RailwayState → Shown
lent_shown world railway = record { nodes = world.nodes; railway = railway }

pub lent_is : (seen world : World) (lent railway : Option RailwayState) → seen ≡ world → lent ≡ railway → lent_shown seen lent ≡ lent_shown world railway
lent_is seen world lent railway same same_railway =
    ap (λ (w : World). lent_shown w lent) same ∙ ap (λ (r : Option RailwayState). lent_shown world r) same_railway

-- one round more
pub is_so_far : RoundsAreARun → (most : ℕ) (begun : Option RunSnapshot) (round : Round) (before : RunSnapshot) (end : ServerState) (log : Option (List TransportEvent)) (observed : Option (List Observation)) (lent : Shown)
    → ComesTo most begun before → before.state.disconnected < most → RunsRound round before.state end → Extends before.log log (transport_log (round ∷ [])) → Extends before.observed observed (observation_log (round ∷ []))
    → lent ≡ shown end → IsSoFar begun log observed lent
is_so_far law most None round before end log observed lent comes fewer runs grows observes same = tt
is_so_far law most (Some start) round before end log observed lent comes fewer runs grows observes same =
    let rounds = comes.0 in
    let logged = comes.1 in
    let all = rounds ++ round ∷ [] in
    let ran : RunsRounds most all start.state end = rounds_more most rounds (round ∷ []) start.state before.state end logged.1 (fewer, end, runs, refl) in
    let holds = law most all start.state end comes.2 comes.3 ran in (
      most,
      (
        all,
        end,
        ran,
        same,
        logs_more (λ one. Polled one.longest ∷ transport_events one.handled) start.log before.log log rounds (round ∷ []) logged.0.0 grows,
        logs_more (λ one. observations_in one.handled ++ (flat_map skipped one.readings ++ observations_of one.elapsing)) start.observed before.observed observed rounds (round ∷ []) logged.0.2 observes,
        holds.0,
        holds.1,
      ),
    )
