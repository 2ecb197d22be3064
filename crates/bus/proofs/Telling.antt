-- The text of each client since it connected.
use Rattle.std.proofs.Common.{◌≡◌, ℕ, Bool, true, false, List, [], ◌∷◌, ◌++◌, Option, Some, None, refl, ap, ap₂, sym, ◌∙◌, if◌then◌else◌, ◌&&◌, ◌||◌, not, append-nil, eq-eqb}
use Rattle.std.specs.Prelude.{◌==◌, Result}
use Rattle.std.specs.List.{flat_map}
use Rattle.std.specs.Option.{option_to_list}
use Rattle.std.proofs.lemmas.Bool.{and_parts}
use Rattle.std.proofs.lemmas.Grind.{flat_map-append}
use Rattle.std.proofs.lemmas.List.Folds.{list_all-append}
use Rattle.loconet_tcp.specs.declared.request.Reason.{Reason}
use Rattle.loconet_tcp.specs.declared.request.DeviceAnswer.{DeviceAnswer}
use Rattle.loconet_tcp.specs.declared.request.PlaceError.{PlaceError}
use Rattle.loconet_tcp.specs.declared.request.TurnsError.{TurnsError}
use Rattle.loconet_tcp.specs.ClientLines.{device_text, receive_text, sent_error_text, sent_ok_text, place_text, turns_text, version_text}
use Rattle.bus.specs.declared.outcome.Outcome.{Outcome}
use Rattle.bus.specs.declared.outcome.Outcome.TheVariants.{Nothing, Connected, Disconnected, Rejected, Reported, Sent, TurnBegan, TurnsRequested, StatesRequested, PlaceRequested, DeviceRequested, Placed, DeviceAnswered, Programmed}
use Rattle.bus.specs.Outcome.{messages_in, reply_text, text_for}
use Rattle.bus.specs.Since.{makes_request, text_since, is_connecting, is_disconnecting, requests_nothing, is_nonempty, has_connected, changes_connection, since_connected, stays_connected, traffic}

-- ---- one more event

stays_more : (i : ℕ) (outcomes : List Outcome) (outcome : Outcome) → stays_connected i (outcomes ++ outcome ∷ []) ≡ (stays_connected i outcomes && (not (changes_connection i outcome) && true))
stays_more i outcomes outcome = list_all-append (λ t. not (changes_connection i t)) outcomes (outcome ∷ [])

and_false : (a : Bool) → (a && (false && true)) ≡ false
and_false true = refl
and_false false = refl

and_true : (a : Bool) → (a && (true && true)) ≡ a
and_true true = refl
and_true false = refl

moved : (i : ℕ) (outcomes : List Outcome) (outcome : Outcome) → changes_connection i outcome ≡ true → stays_connected i (outcomes ++ outcome ∷ []) ≡ false
moved i outcomes outcome m = stays_more i outcomes outcome ∙ ap (λ (b : Bool). stays_connected i outcomes && (not b && true)) m ∙ and_false (stays_connected i outcomes)

not_moved : (i : ℕ) (outcomes : List Outcome) (outcome : Outcome) → changes_connection i outcome ≡ false → stays_connected i (outcomes ++ outcome ∷ []) ≡ stays_connected i outcomes
not_moved i outcomes outcome m = stays_more i outcomes outcome ∙ ap (λ (b : Bool). stays_connected i outcomes && (not b && true)) m ∙ and_true (stays_connected i outcomes)

-- a client that connects or disconnects does so at the end

not_since : (joins : Bool) (these those : List Outcome) → (if joins && false then these else those) ≡ those
not_since true these those = refl
not_since false these those = refl

since_moved : (i : ℕ) (outcomes : List Outcome) (outcome : Outcome) → changes_connection i outcome ≡ true → since_connected i (outcomes ++ outcome ∷ []) ≡ since_connected i (outcome ∷ [])
since_moved i [] outcome m = refl
since_moved i (first ∷ rest) outcome m =
    let all : List Outcome = first ∷ (rest ++ outcome ∷ []) in
    let later : List Outcome = since_connected i (rest ++ outcome ∷ []) in
    ap (λ (b : Bool). if is_connecting i first && b then all else later) (moved i rest outcome m)
    ∙ not_since (is_connecting i first) all later
    ∙ since_moved i rest outcome m

same : (i : ℕ) → (i == i) ≡ true
same i = eq-eqb i i refl

since_joining : (i : ℕ) (outcomes : List Outcome) → since_connected i (outcomes ++ Connected i ∷ []) ≡ Connected i ∷ []
since_joining i outcomes =
    since_moved i outcomes (Connected i) (ap (λ (b : Bool). b || false) (same i))
    ∙ ap (λ (b : Bool). if b && true then Connected i ∷ [] else []) (same i)

since_leaving : (i : ℕ) (outcomes : List Outcome) → since_connected i (outcomes ++ Disconnected i ∷ []) ≡ []
since_leaving i outcomes = since_moved i outcomes (Disconnected i) (same i)

-- for all other clients the event follows the earlier ones

goes_when : (here : Bool) (first outcome : Outcome) (rest now later : List Outcome) → later ≡ (if is_nonempty now then now ++ outcome ∷ [] else [])
    → (if here then first ∷ (rest ++ outcome ∷ []) else later)
    ≡ (if is_nonempty (if here then first ∷ rest else now) then (if here then first ∷ rest else now) ++ outcome ∷ [] else [])
goes_when true first outcome rest now later e = refl
goes_when false first outcome rest now later e = e

not_joining : (joins leaves : Bool) (outcome : Outcome) → (joins || leaves) ≡ false → (if joins && true then outcome ∷ [] else []) ≡ []
not_joining true leaves outcome m = cc
not_joining false leaves outcome m = refl

since_others : (i : ℕ) (outcomes : List Outcome) (outcome : Outcome) → changes_connection i outcome ≡ false
    → since_connected i (outcomes ++ outcome ∷ []) ≡ (if has_connected i outcomes then since_connected i outcomes ++ outcome ∷ [] else [])
since_others i [] outcome m = not_joining (is_connecting i outcome) (is_disconnecting i outcome) outcome m
since_others i (first ∷ rest) outcome m =
    ap (λ (b : Bool). if is_connecting i first && b then first ∷ (rest ++ outcome ∷ []) else since_connected i (rest ++ outcome ∷ [])) (not_moved i rest outcome m)
    ∙ goes_when (is_connecting i first && stays_connected i rest) first outcome rest (since_connected i rest) (since_connected i (rest ++ outcome ∷ [])) (since_others i rest outcome m)

-- ---- the text sent

pub joins : (i : ℕ) (outcomes : List Outcome) → text_since i (outcomes ++ Connected i ∷ []) ≡ version_text
joins i outcomes =
    ap (flat_map (text_for i)) (since_joining i outcomes)
    ∙ ap (λ (b : Bool). (if b then version_text else []) ++ []) (same i)
    ∙ append-nil version_text

pub leaves : (i : ℕ) (outcomes : List Outcome) → text_since i (outcomes ++ Disconnected i ∷ []) ≡ []
leaves i outcomes = ap (flat_map (text_for i)) (since_leaving i outcomes)

told_when : (there : Bool) (i : ℕ) (outcome : Outcome) (since : List Outcome)
    → flat_map (text_for i) (if there then since ++ outcome ∷ [] else []) ≡ (if there then flat_map (text_for i) since ++ text_for i outcome else [])
told_when true i outcome since =
    flat_map-append (text_for i) since (outcome ∷ [])
    ∙ ap (λ (text : List ℕ). flat_map (text_for i) since ++ text) (append-nil (text_for i outcome))
told_when false i outcome since = refl

pub goes_on : (i : ℕ) (outcomes : List Outcome) (outcome : Outcome) → changes_connection i outcome ≡ false
    → text_since i (outcomes ++ outcome ∷ []) ≡ (if has_connected i outcomes then text_since i outcomes ++ text_for i outcome else [])
goes_on i outcomes outcome m = ap (flat_map (text_for i)) (since_others i outcomes outcome m) ∙ told_when (has_connected i outcomes) i outcome (since_connected i outcomes)

-- ---- the connected clients

pub is_connected_after : (i : ℕ) (outcomes : List Outcome) → has_connected i (outcomes ++ Connected i ∷ []) ≡ true
is_connected_after i outcomes = ap is_nonempty (since_joining i outcomes)

pub is_disconnected_after : (i : ℕ) (outcomes : List Outcome) → has_connected i (outcomes ++ Disconnected i ∷ []) ≡ false
is_disconnected_after i outcomes = ap is_nonempty (since_leaving i outcomes)

some_when : (outcome : Outcome) (since : List Outcome) → is_nonempty (if is_nonempty since then since ++ outcome ∷ [] else []) ≡ is_nonempty since
some_when outcome [] = refl
some_when outcome (first ∷ rest) = refl

pub stayed : (i : ℕ) (outcomes : List Outcome) (outcome : Outcome) → changes_connection i outcome ≡ false → has_connected i (outcomes ++ outcome ∷ []) ≡ has_connected i outcomes
stayed i outcomes outcome m = ap is_nonempty (since_others i outcomes outcome m) ∙ some_when outcome (since_connected i outcomes)

-- ---- a client that only listens

no_version : (own : Bool) → not (own || false) ≡ true → (if own then version_text else []) ≡ []
no_version true m = cc
no_version false m = refl

no_error : (own : Bool) (reason : Reason) → not own ≡ true → (if own then sent_error_text reason else []) ≡ []
no_error true reason q = cc
no_error false reason q = refl

reply_heard : (reply : Option (List ℕ)) → reply_text reply ≡ flat_map receive_text (option_to_list reply)
reply_heard None = refl
reply_heard (Some reply) = sym (append-nil (receive_text reply))

no_answer : (own : Bool) (turns : Result ℕ TurnsError) → not own ≡ true → (if own then turns_text turns else []) ≡ []
no_answer true turns q = cc
no_answer false turns q = refl

no_place : {Done : Type 0} → (own : Bool) (answer : Result Done PlaceError) → not own ≡ true → (if own then place_text answer else []) ≡ []
no_place true answer q = cc
no_place false answer q = refl

no_device : (own : Bool) (answer : DeviceAnswer) → not own ≡ true → (if own then device_text answer else []) ≡ []
no_device true answer q = cc
no_device false answer q = refl

no_ok : (own : Bool) (message : List ℕ) (reply : Option (List ℕ)) → not own ≡ true
    → (receive_text message ++ (if own then sent_ok_text else []) ++ reply_text reply) ≡ flat_map receive_text (message ∷ option_to_list reply)
no_ok true message reply q = cc
no_ok false message reply q = ap₂ (λ (these those : List ℕ). these ++ those) (append-nil (receive_text message)) (reply_heard reply)

listens : (i : ℕ) (outcome : Outcome) → not (changes_connection i outcome) ≡ true → not (makes_request i outcome) ≡ true → text_for i outcome ≡ flat_map receive_text (messages_in outcome)
listens i Nothing m q = refl
listens i (Connected client) m q = no_version (client == i) m
listens i (Disconnected client) m q = refl
listens i (Rejected client reason) m q = no_error (client == i) reason q
listens i (Sent client message reply) m q = no_ok (client == i) message reply q
listens i (Reported message) m q = sym (append-nil (receive_text message))
listens i (Programmed packet change) m q = refl
listens i (TurnBegan packet) m q = refl
listens i (TurnsRequested client turns) m q = no_answer (client == i) turns q
listens i (StatesRequested client things) m q = refl
listens i (PlaceRequested client placement) m q = refl
listens i (DeviceRequested client request) m q = refl
listens i (Placed client answer) m q = no_place (client == i) answer q
listens i (DeviceAnswered client answer) m q = no_device (client == i) answer q

pub bystander : (i : ℕ) (outcomes : List Outcome) → stays_connected i outcomes ≡ true → requests_nothing i outcomes ≡ true → flat_map (text_for i) outcomes ≡ flat_map receive_text (traffic outcomes)
bystander i [] stay quiet = refl
bystander i (outcome ∷ rest) stay quiet =
    let m = and_parts (not (changes_connection i outcome)) (stays_connected i rest) stay in
    let q = and_parts (not (makes_request i outcome)) (requests_nothing i rest) quiet in
    ap₂ (λ (these those : List ℕ). these ++ those) (listens i outcome m.0 q.0) (bystander i rest m.1 q.1)
    ∙ sym (flat_map-append receive_text (messages_in outcome) (traffic rest))
