-- What is due is taken from the front.
use Rattle.std.proofs.Common.{◌≡◌, List, [], ◌∷◌, ◌++◌, drop, Option, Some, None, refl, ap, sym, ◌∙◌}
use Rattle.std.specs.Prelude.{slice_get}
use Rattle.ln_ops.specs.declared.sensor.SensorReport.{SensorReport}
use Rattle.arrayvec.specs.ArrayString.{ArrayString}
use Rattle.programming_track.specs.declared.packet_end.PacketEnd.{PacketEnd}
use Rattle.railway.specs.declared.turnout_report.TurnoutReport.{TurnoutReport}
use Rattle.bus_server.specs.declared.device_report.DeviceReport.{DeviceReport}
use Rattle.bus_server.specs.declared.device_report.DeviceReport.TheVariants.{Sensor, Turnout, Packet}
use Rattle.bus_server.specs.DeviceReports.{of_ends, of_result, of_sensors, of_turnouts}
use Rattle.bus_server.specs.Programming.{named}

same_some : {A : Type 0} (a b : A) → Some a ≡ Some b → a ≡ b
same_some a b h = cc

first_of : {A : Type 0} (items : List A) (a : A) → Some a ≡ slice_get items 0 → items ≡ a ∷ drop 1 items
first_of [] a h = cc
first_of {A = A} (first ∷ rest) a h = ap (λ (x : A). x ∷ rest) (sym (same_some a first h))

pub none_first : {A : Type 0} (items : List A) → None ≡ slice_get items 0 → items ≡ []
none_first [] h = refl
none_first (first ∷ rest) h = cc

pub sensor_first : (reports rest : List SensorReport) (report : SensorReport) (behind : List DeviceReport) → Some report ≡ slice_get reports 0 → rest ≡ drop 1 reports
    → of_sensors reports ++ behind ≡ Sensor report ∷ (of_sensors rest ++ behind)
sensor_first reports rest report behind first after =
    ap (λ (all : List SensorReport). of_sensors all ++ behind) (first_of reports report first ∙ ap (λ (all : List SensorReport). report ∷ all) (sym after))

pub turnout_first : (reports rest : List TurnoutReport) (report : TurnoutReport) (behind : List DeviceReport) → Some report ≡ slice_get reports 0 → rest ≡ drop 1 reports
    → of_turnouts reports ++ behind ≡ Turnout report ∷ (of_turnouts rest ++ behind)
turnout_first reports rest report behind first after =
    ap (λ (all : List TurnoutReport). of_turnouts all ++ behind) (first_of reports report first ∙ ap (λ (all : List TurnoutReport). report ∷ all) (sym after))

pub packet_first : (decoder : Option ArrayString) (ends rest : List PacketEnd) (one : PacketEnd) → Some one ≡ slice_get ends 0 → rest ≡ drop 1 ends
    → of_ends decoder ends ≡ Packet one.packet (named decoder one.change) ∷ (of_result one.result ++ of_ends decoder rest)
packet_first decoder ends rest one first after = ap (of_ends decoder) (first_of ends one first ∙ ap (λ (all : List PacketEnd). one ∷ all) (sym after))
