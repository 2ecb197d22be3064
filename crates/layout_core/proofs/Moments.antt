-- The moments of a station are those that throttles know.
use Rattle.std.proofs.Common.{◌≡◌, ℕ, ◌*◌, ◌≤◌, ◌||◌, Bool, List, [], ◌∷◌, length, if◌then◌else◌, refl, ap, ap₂, sym, subst, ◌∙◌}
use Rattle.std.specs.List.{filter}
use Rattle.dcc_packet.specs.Kinds.{kinds}
use Rattle.slot_table.specs.Reading.{all_slots}
use Rattle.station_core.specs.declared.call.Call.{Call}
use Rattle.station_core.specs.ThrottleView.{ThrottleView, known_after, known_after_all}
use Rattle.station_core.specs.Moments.{AtEveryMoment, IsFullCycle, ever_refreshed, slots_refreshed, turns_in}
use Rattle.station_core.specs.Powered.{PoweredDesk}
use Rattle.station_core.specs.Refreshed.{is_refreshed}
use Rattle.station_core.specs.Runs.{state_of, state_after}
use Rattle.station_core.specs.Seen.{Seen, known_of}

-- after any call, the station has what is known of it
abbrev pub Follows : Seen → ThrottleView → Type 0
Follows seen known = (calls : List Call) → (state_after seen calls).powered ≡ (known_after_all known calls).powered

-- so after some of the calls
pub follows_behind : (seen : Seen) (known : ThrottleView) (before : List Call) → Follows seen known → Follows (state_after seen before) (known_after_all known before)
follows_behind seen known [] follows = follows
follows_behind seen known (call ∷ before) follows = follows_behind (state_of seen call) (known_after known call) before (λ calls. follows (call ∷ calls))

-- it holds of the station before the first call and after each
abbrev pub AtEach : (PoweredDesk → Type 0) → Seen → List Call → Type 0
AtEach P seen [] = P seen.powered
AtEach P seen (call ∷ calls) = P seen.powered × AtEach P (state_of seen call) calls

pub at_each : (P : PoweredDesk → Type 0) (seen : Seen) (known : ThrottleView) (calls : List Call) → Follows seen known → AtEveryMoment P known calls → AtEach P seen calls
at_each P seen known [] follows now = subst P (sym (follows [])) now
at_each P seen known (call ∷ calls) follows now =
    (subst P (sym (follows [])) now.0, at_each P (state_of seen call) (known_after known call) calls (λ more. follows (call ∷ more)) now.1)

-- ---- what two know in the same way

abbrev Alike : ThrottleView → ThrottleView → Type 0
Alike one other = (calls : List Call) → (known_after_all one calls).powered ≡ (known_after_all other calls).powered

moments_alike : (P : PoweredDesk → Type 0) (one other : ThrottleView) (calls : List Call) → Alike one other → AtEveryMoment P one calls → AtEveryMoment P other calls
moments_alike P one other [] alike now = subst P (alike []) now
moments_alike P one other (call ∷ calls) alike now =
    (subst P (alike []) now.0, moments_alike P (known_after one call) (known_after other call) calls (λ more. alike (call ∷ more)) now.1)

ever_alike : (one other : ThrottleView) (calls : List Call) → Alike one other → (slot : ℕ) → ever_refreshed one calls slot ≡ ever_refreshed other calls slot
ever_alike one other [] alike slot = ap (λ (p : PoweredDesk). is_refreshed p.desk slot) (alike [])
ever_alike one other (call ∷ calls) alike slot =
    ap₂ (λ (a b : Bool). a || b) (ap (λ (p : PoweredDesk). is_refreshed p.desk slot) (alike []))
    (ever_alike (known_after one call) (known_after other call) calls (λ more. alike (call ∷ more)) slot)

filter_alike : (test other : ℕ → Bool) (xs : List ℕ) → ((n : ℕ) → test n ≡ other n) → filter test xs ≡ filter other xs
filter_alike test other [] same = refl
filter_alike test other (x ∷ xs) same =
    ap₂ (λ (b : Bool) (rest : List ℕ). if b then x ∷ rest else rest) (same x) (filter_alike test other xs same)

-- a cycle by what was known from the start is one by what the station has
pub cycle_here : (slot : ℕ) (seen : Seen) (known : ThrottleView) (calls : List Call) → Follows seen known → Follows seen (known_of seen) → IsFullCycle slot known calls → IsFullCycle slot (known_of seen) calls
cycle_here slot seen known calls follows own full =
    let alike : Alike known (known_of seen) = λ more. sym (follows more) ∙ own more in
    let count : slots_refreshed known calls ≡ slots_refreshed (known_of seen) calls =
    ap (λ (slots : List ℕ). length slots) (filter_alike (ever_refreshed known calls) (ever_refreshed (known_of seen) calls) all_slots (ever_alike known (known_of seen) calls alike)) in
    record {
      live = moments_alike _ known (known_of seen) calls alike full.live;
      enough = subst (λ (slots : ℕ). 4 * kinds * slots ≤ turns_in calls) count full.enough;
    }
