-- Where turns follow messages, the order of all else decides.
use Rattle.std.proofs.Common.{◌≡◌, ℕ, zero, suc, ◌<◌, ◌≤◌, Bool, true, false, if◌then◌else◌, List, [], ◌∷◌, ◌++◌, refl, ap, ap₂, sym, subst, ◌∙◌, arith}
use Rattle.std.specs.Prelude.{◌||◌, nat_lt}
use Rattle.bus_server.specs.declared.device_report.DeviceReport.{DeviceReport}
use Rattle.bus.specs.declared.event.Event.{Event}
use Rattle.bus.specs.declared.event.Event.TheVariants.{Connects, Disconnects, Elapses, Receives, Reports, Programs, Turn}
use Rattle.bus_server.specs.ServerState.{LoggedEvent, ServerState, events_of, observations_of}
use Rattle.bus_server.specs.Observations.{Observation}
use Rattle.bus_server.specs.Repeats.{BeginsInTurns, InOrder, IsAlike, IsSettled, follows, in_order, inputs_of, left_after, unmissed}
use Rattle.bus_server.specs.Running.{Round, RunsRounds, logged_in}
use Rattle.bus_server.specs.Sensors.{IsDue, is_report, reports_after, running_in}
use Rattle.bus_server.proofs.Following.{begins, left_at_end, rounds_lead, settled}
use Rattle.bus_server.proofs.Repeating.{Core, Course, alike_core, core, head_same, input_same, no_cons, no_report, none_due, report_same, rounds_course, runs_repeat, tail_same}

no_both : {P : Type 0} (a : Bool) → a ≡ true → a ≡ false → P
no_both true h k = cc
no_both false h k = cc

-- An event that is left out leaves no more turns than before.

out_leaves : (turns n : ℕ) (event : Event) (observed : Observation) → (is_report event || follows n event) ≡ true → left_after turns n event observed ≤ n
out_leaves turns n (Reports message) observed out = omega arith
out_leaves turns n (Programs packet change) observed out = omega arith
out_leaves turns n (Turn missed) observed out = omega arith
out_leaves turns n (Connects client) observed out = cc
out_leaves turns n (Receives client byte) observed out = cc
out_leaves turns n (Disconnects client) observed out = cc
out_leaves turns n (Elapses micros missed) observed out = cc

abbrev first_in : (out : Bool) → (n : ℕ) → Event → List InOrder → List InOrder
first_in out n event more = (if out then [] else record { left = n; event = unmissed event } ∷ []) ++ more

first_below : (out : Bool) (turns n : ℕ) (one : LoggedEvent) (more rest : List InOrder) (first : InOrder) → (is_report one.event || follows n one.event) ≡ out → (more ≡ first ∷ rest → first.left ≤ left_after turns n one.event one.observed)
    → first_in out n one.event more ≡ first ∷ rest → first.left ≤ n
first_below true turns n one more rest first is below h = omega (arith, below h, out_leaves turns n one.event one.observed is)
first_below false turns n one more rest first is below h =
    let same : n ≡ first.left = ap (λ (input : InOrder). input.left) (head_same (record { left = n; event = unmissed one.event }) first more rest h) in
    omega (arith, same)

-- so the first of what is in order comes when no more are left
comes_below : (turns n : ℕ) (applied : List LoggedEvent) (rest : List InOrder) (first : InOrder) → in_order turns n applied ≡ first ∷ rest → first.left ≤ n
comes_below turns n [] rest first h = no_cons first rest h
comes_below turns n (one ∷ applied) rest first h =
    first_below (is_report one.event || follows n one.event) turns n one (in_order turns (left_after turns n one.event one.observed) applied) rest first refl
    (comes_below turns (left_after turns n one.event one.observed) applied rest first) h

fewer_left : (turns n : ℕ) (event : Event) (observed : Observation) → follows n event ≡ true → left_after turns n event observed < n
fewer_left turns zero (Turn missed) observed is = cc
fewer_left turns (suc n) (Turn missed) observed is = omega arith
fewer_left turns n (Reports message) observed is = cc
fewer_left turns n (Programs packet change) observed is = cc
fewer_left turns n (Connects client) observed is = cc
fewer_left turns n (Receives client byte) observed is = cc
fewer_left turns n (Disconnects client) observed is = cc
fewer_left turns n (Elapses micros missed) observed is = cc

-- Two events that come first.

follow_same : (n : ℕ) (event other : Event) → follows n event ≡ true → follows n other ≡ true → unmissed event ≡ unmissed other
follow_same n (Turn missed) (Turn lost) is are = refl
follow_same n (Turn missed) (Reports message) is are = cc
follow_same n (Turn missed) (Programs packet change) is are = cc
follow_same n (Turn missed) (Connects client) is are = cc
follow_same n (Turn missed) (Receives client byte) is are = cc
follow_same n (Turn missed) (Disconnects client) is are = cc
follow_same n (Turn missed) (Elapses micros lost) is are = cc
follow_same n (Reports message) other is are = cc
follow_same n (Programs packet change) other is are = cc
follow_same n (Connects client) other is are = cc
follow_same n (Receives client byte) other is are = cc
follow_same n (Disconnects client) other is are = cc
follow_same n (Elapses micros missed) other is are = cc

-- what comes after a turn that is left out comes when fewer are left
abbrev ComesBelow : (n : ℕ) → Event → List InOrder → Type 0
ComesBelow n event more = follows n event ≡ true → (rest : List InOrder) (first : InOrder) → more ≡ first ∷ rest → first.left < n

abbrev StartSame : (event other : Event) (more others : List InOrder) → Type 0
StartSame event other more others = (unmissed event ≡ unmissed other) × (more ≡ others)

start_same : (reports also out also_out : Bool) (n : ℕ) (event other : Event) (more others : List InOrder) (made those old a b : List DeviceReport) → is_report event ≡ reports → is_report other ≡ also → follows n event ≡ out → follows n other ≡ also_out
    → IsDue event made old a → IsDue other those old b → ComesBelow n event more → ComesBelow n other others → first_in (reports || out) n event more ≡ first_in (also || also_out) n other others → StartSame event other more others
start_same true true out also_out n event other more others made those old a b is are goes leaves h k below under inputs = (ap unmissed (report_same event other made those old a b is are h k), inputs)
start_same true false out also_out n event other more others made those old a b is are goes leaves h k below under inputs = no_both (is_report event) is (no_report event made old a (none_due other those old b are k) h)
start_same false true out also_out n event other more others made those old a b is are goes leaves h k below under inputs = no_both (is_report other) are (no_report other those old b (none_due event made old a is h) k)
start_same false false true true n event other more others made those old a b is are goes leaves h k below under inputs = (follow_same n event other goes leaves, inputs)
start_same false false false false n event other more others made those old a b is are goes leaves h k below under inputs =
    let one : InOrder = record { left = n; event = unmissed event } in
    let two : InOrder = record { left = n; event = unmissed other } in
    (ap (λ (input : InOrder). input.event) (head_same one two more others inputs), tail_same one two more others inputs)
start_same false false true false n event other more others made those old a b is are goes leaves h k below under inputs =
    absurd (omega (arith, below goes others (record { left = n; event = unmissed other }) inputs))
start_same false false false true n event other more others made those old a b is are goes leaves h k below under inputs =
    absurd (omega (arith, under leaves more (record { left = n; event = unmissed event }) (sym inputs)))

-- Nothing comes once no turns are left and nothing is due.

none_follows : (n : ℕ) (event : Event) → n ≡ 0 → follows n event ≡ false
none_follows n (Turn missed) none = ap (λ (k : ℕ). nat_lt 0 k) none
none_follows n (Reports message) none = refl
none_follows n (Programs packet change) none = refl
none_follows n (Connects client) none = refl
none_follows n (Receives client byte) none = refl
none_follows n (Disconnects client) none = refl
none_follows n (Elapses micros missed) none = refl

none_first : (out : Bool) (n : ℕ) (event : Event) (more : List InOrder) → out ≡ false → [] ≡ first_in out n event more → ⊥
none_first true n event more is inputs = cc
none_first false n event more is inputs = no_cons (record { left = n; event = unmissed event }) more inputs

none_more : {P : Type 0} (turns n : ℕ) (one : LoggedEvent) (applied : List LoggedEvent) (start a : Core) → Course (one ∷ applied) start a → start.unreported ≡ [] → n ≡ 0 → [] ≡ in_order turns n (one ∷ applied) → P
none_more turns n one applied start a h none nothing inputs =
    let out : (is_report one.event || follows n one.event) ≡ false =
    ap₂ (λ (b c : Bool). b || c) (no_report one.event (reports_after start.names start.bus (running_in one.event start.nodes h.0.nodes) one.event start.railway start.programming) start.unreported h.0.unreported none h.1.unreported) (none_follows n one.event nothing) in
    absurd (none_first (is_report one.event || follows n one.event) n one.event (in_order turns (left_after turns n one.event one.observed) applied) out inputs)

-- What is missed of an event decides neither.

left_unmissed : (turns n : ℕ) (event : Event) (observed : Observation) → left_after turns n (unmissed event) observed ≡ left_after turns n event observed
left_unmissed turns n (Turn missed) observed = refl
left_unmissed turns n (Elapses micros missed) observed = refl
left_unmissed turns n (Reports message) observed = refl
left_unmissed turns n (Programs packet change) observed = refl
left_unmissed turns n (Connects client) observed = refl
left_unmissed turns n (Receives client byte) observed = refl
left_unmissed turns n (Disconnects client) observed = refl

report_unmissed : (event : Event) → is_report (unmissed event) ≡ is_report event
report_unmissed (Turn missed) = refl
report_unmissed (Elapses micros missed) = refl
report_unmissed (Reports message) = refl
report_unmissed (Programs packet change) = refl
report_unmissed (Connects client) = refl
report_unmissed (Receives client byte) = refl
report_unmissed (Disconnects client) = refl

-- The same in order is the same with all turns.

inputs_same : (turns n : ℕ) (first second : List LoggedEvent) (start a b : Core) → Course first start a → Course second start b → a.unreported ≡ [] → b.unreported ≡ [] → left_at_end turns n first ≡ 0 → left_at_end turns n second ≡ 0
    → in_order turns n first ≡ in_order turns n second → inputs_of (events_of first) ≡ inputs_of (events_of second)
inputs_same turns n [] [] start a b h k ends too none also inputs = refl
inputs_same turns n [] (two ∷ second) start a b h k ends too none also inputs = none_more turns n two second start b k (ap (λ (c : Core). c.unreported) (sym h) ∙ ends) none inputs
inputs_same turns n (one ∷ first) [] start a b h k ends too none also inputs = none_more turns n one first start a h (ap (λ (c : Core). c.unreported) (sym k) ∙ too) also (sym inputs)
inputs_same turns n (one ∷ first) (two ∷ second) start a b h k ends too none also inputs =
    let left = left_after turns n one.event one.observed in
    let left' = left_after turns n two.event two.observed in
    let heads = start_same (is_report one.event) (is_report two.event) (follows n one.event) (follows n two.event) n one.event two.event (in_order turns left first) (in_order turns left' second)
    (reports_after start.names start.bus (running_in one.event start.nodes h.0.nodes) one.event start.railway start.programming) (reports_after start.names start.bus (running_in two.event start.nodes k.0.nodes) two.event start.railway start.programming) start.unreported h.0.unreported k.0.unreported
    refl refl refl refl h.1.unreported k.1.unreported
    (λ is rest input comes. omega (arith, comes_below turns left first rest input comes, fewer_left turns n one.event one.observed is))
    (λ is rest input comes. omega (arith, comes_below turns left' second rest input comes, fewer_left turns n two.event two.observed is)) inputs in
    let same = input_same one.event two.event one.observed two.observed start h.0 k.0 heads.0 h.1 k.1 in
    let still : left' ≡ left =
    sym (left_unmissed turns n two.event two.observed) ∙ ap₂ (λ (event : Event) (observed : Observation). left_after turns n event observed) (sym heads.0) (sym same.0) ∙ left_unmissed turns n one.event one.observed in
    let rest = inputs_same turns left first second h.0 a b h.2 (subst (λ (c : Core). Course second c b) (sym same.1) k.2) ends too none
    (subst (λ (m : ℕ). left_at_end turns m second ≡ 0) still also) (subst (λ (m : ℕ). in_order turns left first ≡ in_order turns m second) still heads.1) in
    let marks : is_report one.event ≡ is_report two.event = sym (report_unmissed one.event) ∙ ap is_report heads.0 ∙ report_unmissed two.event in
    ap₂ (λ (b : Bool) (event : Event). (if b then [] else event ∷ []) ++ inputs_of (events_of first)) marks heads.0
    ∙ ap (λ (more : List Event). (if is_report two.event then [] else unmissed two.event ∷ []) ++ more) rest

pub order_decides : (turns most most' : ℕ) (rounds rounds' : List Round) (old old' new new' : ServerState) → IsAlike old old' → BeginsInTurns turns old → BeginsInTurns turns old' → RunsRounds most rounds old new
    → RunsRounds most' rounds' old' new' → IsSettled new → IsSettled new' → in_order turns 0 (logged_in rounds) ≡ in_order turns 0 (logged_in rounds') → IsAlike new new' × (observations_of (logged_in rounds) ≡ observations_of (logged_in rounds'))
order_decides turns most most' rounds rounds' old old' new new' alike begun also runs runs' ends ends' inputs =
    let course' = subst (λ (c : Core). Course (logged_in rounds') c (core new')) (alike_core old old' alike) (rounds_course most' rounds' old' new' runs') in
    let at = (rounds_lead most rounds turns 0 old new runs (begins turns old begun)).1 in
    let at' = (rounds_lead most' rounds' turns 0 old' new' runs' (begins turns old' also)).1 in
    let same = inputs_same turns 0 (logged_in rounds) (logged_in rounds') (core old) (core new) (core new') (rounds_course most rounds old new runs) course' ends.0 ends'.0
    (settled (left_at_end turns 0 (logged_in rounds)) new.turns_due ends.1 at.owes) (settled (left_at_end turns 0 (logged_in rounds')) new'.turns_due ends'.1 at'.owes) inputs in
    runs_repeat most most' rounds rounds' old old' new new' alike runs runs' ends.0 ends'.0 same
