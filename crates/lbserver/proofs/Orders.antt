-- The part of an order that a run depends on.
use Rattle.std.proofs.Common.{◌≡◌, ℕ, List, [], Option, Some, None, refl, subst, sym, le-leb}
use Rattle.std.specs.Prelude.{IsTrue, nat_le}
use Rattle.std.specs.Borrow.{Bor}
use Rattle.std.specs.Option.{option_copied}
use Rattle.std.proofs.lemmas.Bool.{and_from}
use Rattle.server_orders.specs.declared.words.ServerOrder.{ServerOrder}
use Rattle.server_orders.specs.ServerLine.{IsNumberIfGiven}
use Rattle.railway.specs.Railway.{RailwayState}
use Rattle.programming_track.specs.Bench.{BenchState}
use Rattle.roster.specs.Entry.{Entry}
use Rattle.roster.specs.Decoders.{entries_of, names_of, specs_of}
use Rattle.bus_server.specs.ServerState.{initial_state}
use Rattle.bus_server.specs.declared.pace.Pace.{Pace}
use Rattle.bus_server.specs.Losses.{IsSeeded}
use Rattle.bus_server.specs.Pace.{is_pace}
use Rattle.bus_server.specs.Running.{IsRun}
use Rattle.bus_server.specs.TransportEvents.{TransportEvent}
use Rattle.lbserver.specs.Sharing.{shares_of}
use Rattle.lbserver.specs.Execution.{ServesBy, ServesLogged, clients_of, entries_in, kept, moment, pace_of}

pub same_order : (a b : ServerOrder) (entries : List Entry) (railway : Option RailwayState) (programming : Option BenchState) → pace_of a.turns a.rate ≡ pace_of b.turns b.rate → a.lose.items ≡ b.lose.items → a.seed ≡ b.seed → a.clients ≡ b.clients → (events : List TransportEvent) (readings : List ℕ) → ServesBy a entries railway programming events readings → ServesBy b entries railway programming events readings
same_order a b entries railway programming pace lose seed clients events readings served =
    let start = served.0 in
    let losses = served.2.0 in (
      start,
      served.1,
      (
        losses,
        subst (λ shares. IsSeeded (shares_of shares (names_of entries)) b.seed losses) lose (subst (λ (n : ℕ). IsSeeded (shares_of a.lose.items (names_of entries)) n losses) seed served.2.1),
        subst (λ (p : Pace). start ≡ initial_state (specs_of entries) (names_of entries) railway programming p losses) pace served.2.2,
      ),
      subst (λ (c : Option ℕ). IsRun (clients_of c) (moment (kept [] []) start) (moment (kept events readings) served.1)) clients served.3,
    )

-- of devices that were not called before: all that they returned
pub all_returned : (order : ServerOrder) (entries : List Entry) (railway : Option RailwayState) (programming : Option BenchState) (old_events events : List TransportEvent) (old_readings readings all_readings : List ℕ) → old_events ≡ [] → old_readings ≡ [] → all_readings ≡ readings
    → ServesLogged order entries railway programming (kept old_events old_readings) (kept events readings) → ServesBy order entries railway programming events all_readings
all_returned order entries railway programming old_events events old_readings readings all_readings no_events no_readings same served =
    subst (λ (l : List ℕ). ServesBy order entries railway programming events l) (sym same)
    (subst (λ (l : List ℕ). ServesLogged order entries railway programming (kept [] l) (kept events readings)) no_readings
    (subst (λ (l : List TransportEvent). ServesLogged order entries railway programming (kept l old_readings) (kept events readings)) no_events served))

pub entries_copied : (roster : Option (Bor (List Entry))) → entries_of roster ≡ entries_in (option_copied roster)
entries_copied None = refl
entries_copied (Some roster) = refl

-- a rate that is read is within its range
pub has_pace : (text : Option (List ℕ)) (turns rate : Option ℕ) → IsNumberIfGiven text 1 100 rate → IsTrue (is_pace (pace_of turns rate))
has_pace text (Some turns) rate is = refl
has_pace text None None is = refl
has_pace None None (Some rate) is = cc
has_pace (Some text) None (Some rate) is = and_from (nat_le 1 rate) (nat_le rate 100) (le-leb 1 rate is.at_least) (le-leb rate 100 is.at_most)
