-- Commands that run one after another add up, in their effect and in their output.
use Rattle.std.proofs.Common.{◌≡◌, ◌⊎◌, inl, inr, ◌<◌, ◌≤◌, ℕ, zero, suc, ◌+◌, List, [], ◌∷◌, ◌++◌, length, take, replicate, Option, Some, None, refl, ap, ap₂, sym, subst, ◌∙◌, append_assoc, arith}
use Rattle.std.proofs.lemmas.List.{append-nil, replicate_more}
use Rattle.std.specs.Io.KnownBytes.{Appends}
use Rattle.std.specs.List.{slice_index_or}
use Rattle.station_core.specs.declared.call.Call.{Call}
use Rattle.station_core.specs.declared.call.Call.TheVariants.{Turn as TurnCall}
use Rattle.station_core.specs.declared.call.Step.{Step}
use Rattle.station_core.specs.Moments.{turns_in as calls_of_turns}
use Rattle.station_core.specs.Station.{packet_of_turn, sent}
use Rattle.station_core.specs.Runs.{answer_of, state_of}
use Rattle.station_core.specs.Seen.{Seen}
use Rattle.layout_core.specs.declared.event.Event.{Event}
use Rattle.layout_core.specs.declared.event.Event.TheVariants.{Turn}
use Rattle.layout_core.specs.declared.node.Node.{Node}
use Rattle.layout_core.specs.declared.world.World.{World}
use Rattle.layout_core.specs.Events.{calls_in, calls_of}
use Rattle.layout_core.specs.Played.{after_event, after_events, answer_to, answers_to}
use Rattle.layout_core.specs.Served.{line_of_answer, traced_from, turns_in, turns_of_answer}
use Rattle.layout_core.specs.World.{AfterEvent, HaveHeard}
use Rattle.roster.specs.Entry.{Entry}
use Rattle.show_text.specs.declared.command.Command.{Command}
use Rattle.station.specs.Replayed.{HasDone, command_text, commands_text, events_in, events_of, scene_after, turns_among}
use Rattle.std.proofs.KnownBytes.{Appends-nil, Appends-trans}

calls-append : (events later : List Event) → calls_in (events ++ later) ≡ calls_in events ++ calls_in later
calls-append [] later = refl
calls-append (event ∷ events) later =
    ap (λ (calls : List Call). calls_of event ++ calls) (calls-append events later) ∙ sym (append_assoc (calls_of event) (calls_in events) (calls_in later))

state-append : (seen : Seen) (events later : List Event) → after_events seen (events ++ later) ≡ after_events (after_events seen events) later
state-append seen [] later = refl
state-append seen (event ∷ events) later = state-append (after_event seen event) events later

answers-append : (seen : Seen) (events later : List Event) → answers_to seen (events ++ later) ≡ answers_to seen events ++ answers_to (after_events seen events) later
answers-append seen [] later = refl
answers-append seen (event ∷ events) later = ap (λ (steps : List Step). answer_to seen event ∷ steps) (answers-append (after_event seen event) events later)

traced-append : (line turn : ℕ) (steps more : List Step) → traced_from line turn (steps ++ more) ≡ traced_from line turn steps ++ traced_from line (turn + turns_in steps) more
traced-append line turn [] more = ap (λ (t : ℕ). traced_from line t more) (omega arith)
traced-append line turn (step ∷ steps) more =
    let later : turn + turns_of_answer step + turns_in steps ≡ turn + turns_in (step ∷ steps) = omega arith in
    ap (λ (bs : List ℕ). line_of_answer line turn step ++ bs) (traced-append line (turn + turns_of_answer step) steps more)
    ∙ sym (append_assoc (line_of_answer line turn step) (traced_from line (turn + turns_of_answer step) steps) (traced_from line (turn + turns_of_answer step + turns_in steps) more))
    ∙ ap (λ (t : ℕ). traced_from line turn (step ∷ steps) ++ traced_from line t more) later

turn_calls-append : (calls later : List Call) → calls_of_turns (calls ++ later) ≡ calls_of_turns calls + calls_of_turns later
turn_calls-append [] later = omega arith
turn_calls-append (call ∷ calls) later =
    let rest : calls_of_turns (calls ++ later) ≡ calls_of_turns calls + calls_of_turns later = turn_calls-append calls later in
    omega (arith, rest)

pub turns-append : (events later : List Event) → turns_among (events ++ later) ≡ turns_among events + turns_among later
turns-append events later = ap calls_of_turns (calls-append events later) ∙ turn_calls-append (calls_in events) (calls_in later)

pub turns_of_many : (count missed : ℕ) → turns_among (replicate count (Turn missed)) ≡ count
turns_of_many zero missed = refl
turns_of_many (suc count) missed = let rest : turns_among (replicate count (Turn missed)) ≡ count = turns_of_many count missed in omega (arith, rest)

pub events-append : (commands later : List Command) → events_in (commands ++ later) ≡ events_in commands ++ events_in later
events-append [] later = refl
events-append (command ∷ commands) later =
    ap (λ (events : List Event). events_of command ++ events) (events-append commands later) ∙ sym (append_assoc (events_of command) (events_in commands) (events_in later))

-- What the layout heard of two lists of events adds up: a law of the layout.
abbrev pub HeardMore : Type 0
HeardMore = (seen : Seen) (events later : List Event) (old mid new : List Node) → HaveHeard seen events old mid → HaveHeard (after_events seen events) later mid new → HaveHeard seen (events ++ later) old new

abbrev pub HeardNone : Type 0
HeardNone = (seen : Seen) (nodes : List Node) → HaveHeard seen [] nodes nodes

abbrev pub HeardOne : Type 0
HeardOne = (seen : Seen) (event : Event) (old new : List Node) → AfterEvent event (answer_to seen event) old new → HaveHeard seen (event ∷ []) old new

pub done_none : HeardNone → (world : World) → HasDone [] world world
done_none law world = record { station = refl; nodes = law world.station world.nodes }

pub done_one : HeardOne → (event : Event) (answer : Step) (old new : World) → new.station ≡ after_event old.station event → answer ≡ answer_to old.station event → AfterEvent event answer old.nodes new.nodes → HasDone (event ∷ []) old new
done_one law event answer old new station is nodes = record {
  station = station;
  nodes = law old.station event old.nodes new.nodes (subst (λ (step : Step). AfterEvent event step old.nodes new.nodes) is nodes);
}

pub done_more : HeardMore → (events later : List Event) (old mid new : World) → HasDone events old mid → HasDone later mid new → HasDone (events ++ later) old new
done_more law events later old mid new first second = record {
  station = second.station ∙ ap (λ (s : Seen). after_events s later) first.station ∙ sym (state-append old.station events later);
  nodes =
      law old.station events later old.nodes mid.nodes new.nodes first.nodes
      (subst (λ (s : Seen). HaveHeard s later mid.nodes new.nodes) first.station second.nodes);
}

-- Turns, one after another.

by_packet : (packet : Option (List ℕ)) → turns_of_answer (sent packet) ≡ 1
by_packet None = refl
by_packet (Some packet) = refl

module _ (to_turn : (seen : Seen) → answer_of seen TurnCall ≡ sent (packet_of_turn seen)) where
  one_turn : (seen : Seen) → turns_of_answer (answer_of seen TurnCall) ≡ 1
  one_turn seen = ap turns_of_answer (to_turn seen) ∙ by_packet (packet_of_turn seen)

  so_many_turns : (count missed : ℕ) (seen : Seen) → turns_in (answers_to seen (replicate count (Turn missed))) ≡ count
  so_many_turns zero missed seen = refl
  so_many_turns (suc count) missed seen = ap₂ (λ (one more : ℕ). one + more) (one_turn seen) (so_many_turns count missed (state_of seen TurnCall)) ∙ omega arith

  -- one turn more
  turn_traced : (count missed first : ℕ) (seen : Seen)
      → traced_from 0 first (answers_to seen (replicate (count + 1) (Turn missed))) ≡ traced_from 0 first (answers_to seen (replicate count (Turn missed))) ++ line_of_answer 0 (first + count) (answer_to (after_events seen (replicate count (Turn missed))) (Turn missed))
  turn_traced count missed first seen =
      let front : List Event = replicate count (Turn missed) in
      let after : Seen = after_events seen front in
      ap (λ (events : List Event). traced_from 0 first (answers_to seen events)) (sym (replicate_more count (Turn missed)))
      ∙ ap (traced_from 0 first) (answers-append seen front (Turn missed ∷ []))
      ∙ traced-append 0 first (answers_to seen front) (answer_to after (Turn missed) ∷ [])
      ∙ ap (λ (n : ℕ). traced_from 0 first (answers_to seen front) ++ (line_of_answer 0 (first + n) (answer_to after (Turn missed)) ++ [])) (so_many_turns count missed seen)
      ∙ ap (λ (bs : List ℕ). traced_from 0 first (answers_to seen front) ++ bs) (append-nil (line_of_answer 0 (first + count) (answer_to after (Turn missed))))

-- some turns were run and printed, of which the first had this number and the next one has that
pub record HasTurned (missed first next : ℕ) (start now : World) (old new : Option (List ℕ)) : Type 0 where
  pub count : ℕ
  pub numbered : next ≡ first + count
  pub done : HasDone (replicate count (Turn missed)) start now
  pub printed : Appends old new (traced_from 0 first (answers_to start.station (replicate count (Turn missed))))

pub turned_none : HeardNone → (missed first : ℕ) (start : World) (old : Option (List ℕ)) → HasTurned missed first first start start old old
turned_none law missed first start old = record { count = 0; numbered = omega arith; done = done_none law start; printed = Appends-nil old }

pub turned_more : HeardMore → ((seen : Seen) → answer_of seen TurnCall ≡ sent (packet_of_turn seen))
    → (missed first turn : ℕ) (start mid now : World) (old so_far new : Option (List ℕ)) → HasTurned missed first turn start mid old so_far
    → HasDone (Turn missed ∷ []) mid now → Appends so_far new (line_of_answer 0 turn (answer_to mid.station (Turn missed))) → HasTurned missed first (turn + 1) start now old new
turned_more law to_turn missed first turn start mid now old so_far new has done line =
    let front : List Event = replicate has.count (Turn missed) in
    let here : line_of_answer 0 turn (answer_to mid.station (Turn missed)) ≡ line_of_answer 0 (first + has.count) (answer_to (after_events start.station front) (Turn missed)) =
    ap₂ (λ (t : ℕ) (s : Seen). line_of_answer 0 t (answer_to s (Turn missed))) has.numbered has.done.station in
    record {
      count = has.count + 1;
      numbered = omega (arith, has.numbered);
      done =
          subst (λ (events : List Event). HasDone events start now) (replicate_more has.count (Turn missed))
          (done_more law front (Turn missed ∷ []) start mid now has.done done);
      printed =
          subst (λ (bs : List ℕ). Appends old new bs) (sym (turn_traced to_turn has.count missed first start.station))
          (Appends-trans old so_far new (traced_from 0 first (answers_to start.station front)) (line_of_answer 0 (first + has.count) (answer_to (after_events start.station front) (Turn missed))) has.printed
          (subst (λ (bs : List ℕ). Appends so_far new bs) here line));
    }

-- the requested number of turns
pub turned_all : (missed first next count : ℕ) (start now : World) (old new : Option (List ℕ)) → HasTurned missed first next start now old new → next ≡ first + count
    → HasDone (replicate count (Turn missed)) start now × Appends old new (traced_from 0 first (answers_to start.station (replicate count (Turn missed))))
turned_all missed first next count start now old new has is =
    let same : has.count ≡ count = omega (arith, has.numbered, is) in
    (subst (λ (n : ℕ). HasDone (replicate n (Turn missed)) start now) same has.done, subst (λ (n : ℕ). Appends old new (traced_from 0 first (answers_to start.station (replicate n (Turn missed))))) same has.printed)

-- Commands, one after another.

pub commands-append : (start : World) (entries : List Entry) (done : List Event) (commands later : List Command)
    → commands_text start entries done (commands ++ later) ≡ commands_text start entries done commands ++ commands_text start entries (done ++ events_in commands) later
commands-append start entries done [] later = ap (λ (events : List Event). commands_text start entries events later) (sym (append-nil done))
commands-append start entries done (first ∷ commands) later =
    ap (λ (bs : List ℕ). command_text entries (scene_after start done) first ++ bs) (commands-append start entries (done ++ events_of first) commands later)
    ∙ sym (append_assoc (command_text entries (scene_after start done) first) (commands_text start entries (done ++ events_of first) commands) (commands_text start entries ((done ++ events_of first) ++ events_in commands) later))
    ∙ ap (λ (events : List Event). commands_text start entries done (first ∷ commands) ++ commands_text start entries events later) (append_assoc done (events_of first) (events_in commands))

-- a command more
pub text_more : (start : World) (entries : List Entry) (commands : List Command) (command : Command)
    → commands_text start entries [] (commands ++ command ∷ []) ≡ commands_text start entries [] commands ++ command_text entries (scene_after start (events_in commands)) command
text_more start entries commands command =
    commands-append start entries [] commands (command ∷ [])
    ∙ ap (λ (bs : List ℕ). commands_text start entries [] commands ++ bs) (append-nil (command_text entries (scene_after start (events_in commands)) command))

-- The layout was at each point of the commands, with the events before it run.
abbrev pub HasPlayed : List Command → World → Type 0
HasPlayed commands start = (earlier later : List Command) → commands ≡ earlier ++ later → (mid : World) × HasDone (events_in earlier) start mid

nothing_behind : {X : Type 0} (xs ys : List X) → [] ≡ xs ++ ys → ys ≡ []
nothing_behind [] ys same = sym same
nothing_behind (x ∷ xs) ys same = cc

nothing_before : {X : Type 0} (xs ys : List X) → [] ≡ xs ++ ys → xs ≡ []
nothing_before [] ys same = refl
nothing_before (x ∷ xs) ys same = cc

-- a list with one more element is divided after all of it, or within the list before
cut_within : {X : Type 0} (xs : List X) (x : X) (ys zs : List X) → xs ++ x ∷ [] ≡ ys ++ zs → (zs ≡ []) ⊎ ((front : List X) × (xs ≡ ys ++ front))
cut_within xs x [] zs same = inr (xs, refl)
cut_within [] x (y ∷ ys) zs same =
    let none : [] ≡ ys ++ zs = cc in
    inl (nothing_behind ys zs none)
cut_within (a ∷ xs) x (y ∷ ys) zs same =
    let first : a ≡ y = cc in
    let rest : xs ++ x ∷ [] ≡ ys ++ zs = cc in
    elim (cut_within xs x ys zs rest) [
      | inl none ↦ inl none
      | inr front ↦ inr (front.0, ap₂ (λ b bs. b ∷ bs) first front.1)
    ]

pub passed_none : HeardNone → (start : World) → HasPlayed [] start
passed_none law start earlier later parts = (start, subst (λ (commands : List Command). HasDone (events_in commands) start start) (sym (nothing_before earlier later parts)) (done_none law start))

pub passed_more : (commands : List Command) (command : Command) (start now : World) → HasPlayed commands start → HasDone (events_in (commands ++ command ∷ [])) start now → HasPlayed (commands ++ command ∷ []) start
passed_more commands command start now all_played done earlier later parts = elim (cut_within commands command earlier later parts) [
  | inl none ↦ (now, subst (λ (all : List Command). HasDone (events_in all) start now) (parts ∙ ap (λ (rest : List Command). earlier ++ rest) none ∙ append-nil earlier) done)
  | inr front ↦ all_played earlier front.0 front.1
]

-- a command and those before it have no more turns than all
pub turns_so_far : (commands : List Command) (i : ℕ) (none : Command) → i < length commands → turns_among (events_in (take i commands)) + turns_among (events_of (slice_index_or commands i none)) ≤ turns_among (events_in commands)
turns_so_far [] i none below = absurd (omega arith)
turns_so_far (command ∷ commands) zero none below =
    let all : turns_among (events_of command ++ events_in commands) ≡ turns_among (events_of command) + turns_among (events_in commands) = turns-append (events_of command) (events_in commands) in
    omega (arith, all)
turns_so_far (command ∷ commands) (suc i) none below =
    let all : turns_among (events_of command ++ events_in commands) ≡ turns_among (events_of command) + turns_among (events_in commands) = turns-append (events_of command) (events_in commands) in
    let some : turns_among (events_of command ++ events_in (take i commands)) ≡ turns_among (events_of command) + turns_among (events_in (take i commands)) = turns-append (events_of command) (events_in (take i commands)) in
    let rest : turns_among (events_in (take i commands)) + turns_among (events_of (slice_index_or commands i none)) ≤ turns_among (events_in commands) = turns_so_far commands i none (omega (arith, below)) in
    omega (arith, all, some, rest)
