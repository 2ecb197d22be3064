-- The states of decoders after events are those shown.
use Rattle.std.proofs.Common.{◌≡◌, ◌<◌, ℕ, zero, suc, ◌+◌, List, [], ◌∷◌, ◌++◌, length, map, replicate, Option, refl, ap, ap₂, sym, subst, ◌∙◌, arith}
use Rattle.std.proofs.lemmas.List.{append-nil}
use Rattle.std.specs.Io.KnownBytes.{Appends}
use Rattle.std.specs.List.{slice_index_or}
use Rattle.station_core.specs.Seen.{Seen}
use Rattle.layout_core.specs.declared.event.Event.{Event}
use Rattle.layout_core.specs.declared.event.Event.TheVariants.{Turn}
use Rattle.layout_core.specs.declared.node.Node.{Node}
use Rattle.layout_core.specs.declared.node.Node.TheVariants.{Loco, Accessory}
use Rattle.layout_core.specs.declared.world.World.{World}
use Rattle.layout_core.specs.Events.{NoNoise}
use Rattle.layout_core.specs.Heard.{heard}
use Rattle.layout_core.specs.Hearing.{Obeyed}
use Rattle.layout_core.specs.World.{HaveHeard, HaveObeyed}
use Rattle.roster.specs.Entry.{Entry}
use Rattle.show_text.specs.declared.command.Command.{Command}
use Rattle.show_text.specs.declared.command.Command.TheVariants as command
use Rattle.station.specs.Layout.{AreBetween}
use Rattle.layout_core.specs.declared.decoder_state.DecoderState.{DecoderState}
use Rattle.layout_core.specs.DecoderStates.{decoder_state_of}
use Rattle.station.specs.Replayed.{HasDone, Scene, command_text, commands_text, events_in, events_of, scene_after, scene_of, decoder_state_after, decoder_states_after, decoder_states_from, turns_among}
use Rattle.std.proofs.KnownBytes.{Appends-nil, Appends-trans}
use Rattle.station.proofs.Replaying.{HasPlayed, HeardMore, HeardNone, passed_more, passed_none, text_more, done_more, done_none, events-append, turns-append}

-- no command causes noise
quiet_turns : (i count missed : ℕ) (later : List Event) → NoNoise i later → NoNoise i (replicate count (Turn missed) ++ later)
quiet_turns i zero missed later quiet = quiet
quiet_turns i (suc count) missed later quiet = quiet_turns i count missed later quiet

pub quiet_in : (i : ℕ) (commands : List Command) → NoNoise i (events_in commands)
quiet_in i [] = tt
quiet_in i (command.Byte line byte ∷ commands) = quiet_in i commands
quiet_in i (command.Turns count missed ∷ commands) = quiet_turns i count missed (events_in commands) (quiet_in i commands)
quiet_in i (command.Show ∷ commands) = quiet_in i commands

-- a decoder that obeyed packets
obeyed_one : (packets : List (List ℕ)) (old new : Node) → Obeyed packets old new → decoder_state_of new ≡ decoder_state_after packets old
obeyed_one packets (Loco old) (Loco new) obeyed = rw obeyed refl
obeyed_one packets (Accessory old) (Accessory new) obeyed = rw obeyed refl
obeyed_one packets (Loco old) (Accessory new) obeyed = absurd obeyed
obeyed_one packets (Accessory old) (Loco new) obeyed = absurd obeyed

-- those from decoder i on
obeyed_from : (i : ℕ) (seen : Seen) (events : List Event) (old new : List Node) → length new ≡ length old
    → ((k : ℕ) (none : Node) → k < length old → Obeyed (heard (i + k) seen events) (slice_index_or old k none) (slice_index_or new k none))
    → map decoder_state_of new ≡ decoder_states_from i seen events old
obeyed_from i seen events [] [] same each = refl
obeyed_from i seen events [] (new ∷ news) same each = absurd (omega arith)
obeyed_from i seen events (old ∷ olds) [] same each = absurd (omega arith)
obeyed_from i seen events (old ∷ olds) (new ∷ news) same each =
    let here : i + 0 ≡ i = omega arith in
    let first : decoder_state_of new ≡ decoder_state_after (heard i seen events) old =
    obeyed_one (heard i seen events) old new (subst (λ (n : ℕ). Obeyed (heard n seen events) old new) here (each 0 old (omega arith))) in
    ap₂ (λ (s : DecoderState) (ss : List DecoderState). s ∷ ss) first
    (obeyed_from (i + 1) seen events olds news (omega arith)
    (λ k none below. let next : i + suc k ≡ i + 1 + k = omega arith in subst (λ (n : ℕ). Obeyed (heard n seen events) (slice_index_or olds k none) (slice_index_or news k none)) next (each (suc k) none (omega (arith, below)))))

-- a layout after the events of commands
pub stands_as_told : ((seen : Seen) (events : List Event) (old new : List Node) → HaveHeard seen events old new → HaveObeyed seen events old new)
    → (commands : List Command) (start now : World) → AreBetween start.nodes → HasDone (events_in commands) start now → map decoder_state_of now.nodes ≡ decoder_states_after start (events_in commands)
stands_as_told law commands start now between done =
    obeyed_from 0 start.station (events_in commands) start.nodes now.nodes done.nodes.count
    (λ k none below. let same : 0 + k ≡ k = omega arith in
    subst (λ (n : ℕ). Obeyed (heard n start.station (events_in commands)) (slice_index_or start.nodes k none) (slice_index_or now.nodes k none)) (sym same)
    (law start.station (events_in commands) start.nodes now.nodes done.nodes k none below (quiet_in k commands) (between k none below)).0)

pub scene_is : ((seen : Seen) (events : List Event) (old new : List Node) → HaveHeard seen events old new → HaveObeyed seen events old new)
    → (commands : List Command) (start now : World) (turn : ℕ) → AreBetween start.nodes → HasDone (events_in commands) start now → turn ≡ turns_among (events_in commands) + 1
    → scene_of now turn ≡ scene_after start (events_in commands)
scene_is law commands start now turn between done numbered =
    ap₂ (λ (s : Seen) (n : ℕ). record { station = s; decoder_states = map decoder_state_of now.nodes; turn = n }) done.station numbered
    ∙ ap (λ (ss : List DecoderState). record (scene_after start (events_in commands)) { decoder_states = ss }) (stands_as_told law commands start now between done)

-- the commands were done and printed, and the next turn has this number
pub record HasReplayed (entries : List Entry) (commands : List Command) (turn : ℕ) (start now : World) (old new : Option (List ℕ)) : Type 0 where
  pub numbered : turn ≡ turns_among (events_in commands) + 1
  pub done : HasDone (events_in commands) start now
  pub printed : Appends old new (commands_text start entries [] commands)
  pub all_played : HasPlayed commands start

pub replayed_none : HeardNone → (entries : List Entry) (start : World) (old : Option (List ℕ)) → HasReplayed entries [] 1 start start old old
replayed_none law entries start old = record { numbered = refl; done = done_none law start; printed = Appends-nil old; all_played = passed_none law start }

pub replayed_more : HeardMore → ((seen : Seen) (events : List Event) (old new : List Node) → HaveHeard seen events old new → HaveObeyed seen events old new)
    → (entries : List Entry) (commands : List Command) (command : Command) (turn next : ℕ) (start mid now : World) (old so_far new : Option (List ℕ)) → AreBetween start.nodes
    → HasReplayed entries commands turn start mid old so_far → HasDone (events_of command) mid now → next ≡ turn + turns_among (events_of command) → Appends so_far new (command_text entries (scene_of mid turn) command)
    → HasReplayed entries (commands ++ command ∷ []) next start now old new
replayed_more more obeyed entries commands command turn next start mid now old so_far new between has done numbered line =
    let all : events_in (commands ++ command ∷ []) ≡ events_in commands ++ events_of command =
    events-append commands (command ∷ []) ∙ ap (λ (events : List Event). events_in commands ++ events) (append-nil (events_of command)) in
    let count : turns_among (events_in (commands ++ command ∷ [])) ≡ turns_among (events_in commands) + turns_among (events_of command) = ap turns_among all ∙ turns-append (events_in commands) (events_of command) in
    let scene : scene_of mid turn ≡ scene_after start (events_in commands) = scene_is obeyed commands start mid turn between has.done has.numbered in
    let after : HasDone (events_in (commands ++ command ∷ [])) start now =
    subst (λ (events : List Event). HasDone events start now) (sym all)
    (done_more more (events_in commands) (events_of command) start mid now has.done done) in
    record {
      numbered = omega (arith, count, numbered, has.numbered);
      done = after;
      printed =
          subst (λ (bs : List ℕ). Appends old new bs) (sym (text_more start entries commands command))
          (Appends-trans old so_far new (commands_text start entries [] commands) (command_text entries (scene_after start (events_in commands)) command) has.printed
          (subst (λ (scene : Scene). Appends so_far new (command_text entries scene command)) scene line));
      all_played = passed_more commands command start now has.all_played after;
    }
