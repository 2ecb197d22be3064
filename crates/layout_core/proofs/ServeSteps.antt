-- Events that are served one after another add up.
use Rattle.std.proofs.Common.{zero, suc, ◌*◌, replicate, Option, Some, None, ◌≡◌, ℕ, ◌+◌, ◌<◌, ◌≤◌, List, [], ◌∷◌, ◌++◌, length, length-append, take, get_or, refl, ap, ap₂, sym, subst, ◌∙◌, append_assoc, arith}
use Rattle.std.proofs.lemmas.List.{append-nil, take_all, take_more}
use Rattle.std.proofs.KnownBytes.{Appends-nil, Appends-trans, Consumes-kept, Consumes-nil, Consumes-trans}
use Rattle.std.specs.Io.KnownBytes.{Appends, Consumes, Keeps}
use Rattle.station_core.specs.declared.call.Step.{Step}
use Rattle.ln_ops.specs.declared.reply.Reply.{Reply as ReplyValue}
use Rattle.station_core.specs.declared.call.Call.TheVariants.{Byte as ByteCall, Turn as TurnCall}
use Rattle.station_core.specs.Station.{answer_to_byte, packet_of_turn, replied, sent}
use Rattle.station_core.specs.Runs.{answer_of, state_of}
use Rattle.station_core.specs.Seen.{Seen}
use Rattle.layout_core.specs.declared.event.Event.{Event}
use Rattle.layout_core.specs.declared.event.Event.TheVariants.{Byte, Turn}
use Rattle.layout_core.specs.Served.{HasRead, Input, Moment, ServesEvents, byte_events, bytes_of_answer, line_of_answer, replies_in, replies_of_answer, served_events, traced_from, turns_in, turns_of_answer, written_for}
use Rattle.layout_core.specs.Played.{after_event, after_events, answer_to, answers_to}
use Rattle.layout_core.specs.World.{AfterEvent, HaveHeard, IsSameLayout}
use Rattle.layout_core.proofs.Counting.{few_of}
use Rattle.layout_core.proofs.ThrottleView.{Consumes-end}
use Rattle.layout_core.proofs.Played.{both_heard, next_heard, nothing_heard}
use Rattle.layout_core.proofs.Same.{same_still, same_then}

pub state-append : (seen : Seen) (events later : List Event) → after_events seen (events ++ later) ≡ after_events (after_events seen events) later
state-append seen [] later = refl
state-append seen (event ∷ events) later = state-append (after_event seen event) events later

pub answers-append : (seen : Seen) (events later : List Event) → answers_to seen (events ++ later) ≡ answers_to seen events ++ answers_to (after_events seen events) later
answers-append seen [] later = refl
answers-append seen (event ∷ events) later = ap (λ (steps : List Step). answer_to seen event ∷ steps) (answers-append (after_event seen event) events later)

pub written-append : (steps more : List Step) → written_for (steps ++ more) ≡ written_for steps ++ written_for more
written-append [] more = refl
written-append (step ∷ steps) more =
    ap (λ (bs : List ℕ). bytes_of_answer step ++ bs) (written-append steps more) ∙ sym (append_assoc (bytes_of_answer step) (written_for steps) (written_for more))

pub traced-append : (line turn : ℕ) (steps more : List Step) → traced_from line turn (steps ++ more) ≡ traced_from line turn steps ++ traced_from line (turn + turns_in steps) more
traced-append line turn [] more = ap (λ (t : ℕ). traced_from line t more) (omega arith)
traced-append line turn (step ∷ steps) more =
    let later : turn + turns_of_answer step + turns_in steps ≡ turn + turns_in (step ∷ steps) = omega arith in
    ap (λ (bs : List ℕ). line_of_answer line turn step ++ bs) (traced-append line (turn + turns_of_answer step) steps more)
    ∙ sym (append_assoc (line_of_answer line turn step) (traced_from line (turn + turns_of_answer step) steps) (traced_from line (turn + turns_of_answer step + turns_in steps) more))
    ∙ ap (λ (t : ℕ). traced_from line turn (step ∷ steps) ++ traced_from line t more) later

pub replies-append : (steps more : List Step) → replies_in (steps ++ more) ≡ replies_in steps + replies_in more
replies-append [] more = omega arith
replies-append (step ∷ steps) more =
    let rest : replies_in (steps ++ more) ≡ replies_in steps + replies_in more = replies-append steps more in
    omega (arith, rest)

pub turns-append : (steps more : List Step) → turns_in (steps ++ more) ≡ turns_in steps + turns_in more
turns-append [] more = omega arith
turns-append (step ∷ steps) more =
    let rest : turns_in (steps ++ more) ≡ turns_in steps + turns_in more = turns-append steps more in
    omega (arith, rest)

pub serves_none : (line : ℕ) (moment : Moment) → ServesEvents line [] moment moment
serves_none line moment = record {
  station = refl;
  nodes = nothing_heard moment.world.station moment.world.nodes;
  written = Appends-nil moment.written;
  traced = Appends-nil moment.traced;
  replies = omega arith;
  turns = omega arith;
  same = same_still moment.world;
}

-- one event, whose answer is written and counted
pub serves_event : (line : ℕ) (event : Event) (step : Step) (old new : Moment) → new.world.station ≡ after_event old.world.station event → step ≡ answer_to old.world.station event
    → AfterEvent event step old.world.nodes new.world.nodes → Appends old.written new.written (bytes_of_answer step) → Appends old.traced new.traced (line_of_answer line (old.turns + 1) step)
    → new.replies ≡ old.replies + replies_of_answer step → new.turns ≡ old.turns + turns_of_answer step → IsSameLayout old.world new.world → ServesEvents line (event ∷ []) old new
serves_event line event step old new moves answers after written traced replies turns same =
    let seen : Seen = old.world.station in
    let turned : AfterEvent event (answer_to seen event) old.world.nodes new.world.nodes = subst (λ (s : Step). AfterEvent event s old.world.nodes new.world.nodes) answers after in
    let one : replies_of_answer step ≡ replies_of_answer (answer_to seen event) = ap replies_of_answer answers in
    let turn : turns_of_answer step ≡ turns_of_answer (answer_to seen event) = ap turns_of_answer answers in
    record {
      station = moves;
      nodes = next_heard seen event [] old.world.nodes new.world.nodes new.world.nodes turned (nothing_heard (after_event seen event) new.world.nodes);
      written = subst (λ (bs : List ℕ). Appends old.written new.written bs) (ap bytes_of_answer answers ∙ sym (append-nil (bytes_of_answer (answer_to seen event)))) written;
      traced =
          subst (λ (bs : List ℕ). Appends old.traced new.traced bs)
          (ap (line_of_answer line (old.turns + 1)) answers ∙ sym (append-nil (line_of_answer line (old.turns + 1) (answer_to seen event)))) traced;
      replies = omega (arith, replies, one);
      turns = omega (arith, turns, turn);
      same = same;
    }

-- events, and then more
pub serves_more : (line : ℕ) (events later : List Event) (old mid new : Moment) → ServesEvents line events old mid → ServesEvents line later mid new → ServesEvents line (events ++ later) old new
serves_more line events later old mid new first second =
    let seen : Seen = old.world.station in
    let after : Seen = after_events seen events in
    let front : List Step = answers_to seen events in
    let back : List Step = answers_to after later in
    let all : answers_to seen (events ++ later) ≡ front ++ back = answers-append seen events later in
    let from : mid.world.station ≡ after = first.station in
    let here : answers_to mid.world.station later ≡ back = ap (λ (s : Seen). answers_to s later) from in
    let turn : mid.turns + 1 ≡ old.turns + 1 + turns_in front = omega (arith, first.turns) in
    record {
      station =
          second.station
          ∙ ap (λ (s : Seen). after_events s later) from
          ∙ sym (state-append seen events later);
      nodes =
          both_heard seen events later old.world.nodes mid.world.nodes new.world.nodes first.nodes
          (subst (λ (s : Seen). HaveHeard s later mid.world.nodes new.world.nodes) from second.nodes);
      written =
          subst (λ (bs : List ℕ). Appends old.written new.written bs) (sym (ap written_for all ∙ written-append front back))
          (Appends-trans old.written mid.written new.written (written_for front) (written_for back) first.written
          (subst (λ (steps : List Step). Appends mid.written new.written (written_for steps)) here second.written));
      traced =
          subst (λ (bs : List ℕ). Appends old.traced new.traced bs) (sym (ap (traced_from line (old.turns + 1)) all ∙ traced-append line (old.turns + 1) front back))
          (Appends-trans old.traced mid.traced new.traced (traced_from line (old.turns + 1) front) (traced_from line (old.turns + 1 + turns_in front) back) first.traced
          (subst (λ (bs : List ℕ). Appends mid.traced new.traced bs) (ap₂ (λ (t : ℕ) (steps : List Step). traced_from line t steps) turn here) second.traced));
      replies =
          let counted : replies_in (answers_to seen (events ++ later)) ≡ replies_in front + replies_in back = ap replies_in all ∙ replies-append front back in
          let behind : replies_in (answers_to mid.world.station later) ≡ replies_in back = ap replies_in here in
          omega (arith, first.replies, second.replies, counted, behind);
      turns =
          let counted : turns_in (answers_to seen (events ++ later)) ≡ turns_in front + turns_in back = ap turns_in all ∙ turns-append front back in
          let behind : turns_in (answers_to mid.world.station later) ≡ turns_in back = ap turns_in here in
          omega (arith, first.turns, second.turns, counted, behind);
      same = same_then old.world mid.world new.world first.same second.same;
    }

-- the same, where all of the events are these two parts
pub serves_then : (line : ℕ) (all events later : List Event) (old mid new : Moment) → all ≡ events ++ later → ServesEvents line events old mid → ServesEvents line later mid new → ServesEvents line all old new
serves_then line all events later old mid new parts first second =
    subst (λ (es : List Event). ServesEvents line es old new) (sym parts) (serves_more line events later old mid new first second)

pub served-append : (line turns : ℕ) (bytes more : List ℕ) → served_events line turns (bytes ++ more) ≡ served_events line turns bytes ++ served_events line turns more
served-append line turns [] more = refl
served-append line turns (byte ∷ bytes) more =
    ap (λ (events : List Event). byte_events line turns byte ++ events) (served-append line turns bytes more)
    ∙ sym (append_assoc (byte_events line turns byte) (served_events line turns bytes) (served_events line turns more))

-- the bytes before the next one, and that one
served_more : (line turns i : ℕ) (bytes : List ℕ) → i < length bytes → served_events line turns (take (i + 1) bytes) ≡ served_events line turns (take i bytes) ++ byte_events line turns (get_or bytes i 0)
served_more line turns i bytes below =
    ap (served_events line turns) (take_more bytes i 0 below)
    ∙ served-append line turns (take i bytes) (get_or bytes i 0 ∷ [])
    ∙ ap (λ (events : List Event). served_events line turns (take i bytes) ++ events) (append-nil (byte_events line turns (get_or bytes i 0)))

-- all of the bytes
pub all_served : (line turns i : ℕ) (bytes : List ℕ) → length bytes ≤ i → (old new : Moment) → ServesEvents line (served_events line turns (take i bytes)) old new → ServesEvents line (served_events line turns bytes) old new
all_served line turns i bytes past old new serves =
    subst (λ (bs : List ℕ). ServesEvents line (served_events line turns bs) old new) (take_all i bytes past) serves

-- the byte and all of its turns
pub byte_served : (line turns i : ℕ) (bytes : List ℕ) → i < length bytes → (old mid turning new : Moment) → ServesEvents line (served_events line turns (take i bytes)) old mid → ServesEvents line (Byte line (get_or bytes i 0) ∷ []) mid turning
    → ServesEvents line (replicate turns (Turn 0)) turning new → ServesEvents line (served_events line turns (take (i + 1) bytes)) old new
byte_served line turns i bytes below old mid turning new before byte after =
    let front : List Event = served_events line turns (take i bytes) in
    let heard : List Event = Byte line (get_or bytes i 0) ∷ [] in
    serves_then line (served_events line turns (take (i + 1) bytes)) (front ++ heard) (replicate turns (Turn 0)) old turning new
    (served_more line turns i bytes below ∙ sym (append_assoc front heard (replicate turns (Turn 0)))) (serves_more line front heard old mid turning before byte) after

-- as many turns as there are to be
pub all_turned : (line turn turns : ℕ) → turn ≤ turns → turns ≤ turn → (old new : Moment) → ServesEvents line (replicate turn (Turn 0)) old new → ServesEvents line (replicate turns (Turn 0)) old new
all_turned line turn turns most least old new serves =
    let all : turn ≡ turns = omega arith in
    subst (λ (n : ℕ). ServesEvents line (replicate n (Turn 0)) old new) all serves

-- these bytes were read so far, and they were served
abbrev pub IsServedSoFar : (line turns reads count : ℕ) → (input input' : Input) → (old new : Moment) → Type 0
IsServedSoFar line turns reads count input input' old new =
    (bytes : List ℕ) × HasRead reads bytes input input' × (count ≡ length bytes) × ServesEvents line (served_events line turns bytes) old new

-- nothing is read so far
pub reads_none : (input : Input) → HasRead 0 [] input input
reads_none input = record { consumed = Consumes-nil input.left; counted = omega arith; few = omega arith }

-- one more read, of at most 64 bytes
pub reads_more : (made : ℕ) (bytes more : List ℕ) (old mid new : Input) → HasRead made bytes old mid → Consumes mid.left new.left more → new.reads ≡ mid.reads + 1 → length more ≤ 64 → HasRead (made + 1) (bytes ++ more) old new
reads_more made bytes more old mid new so_far consumed counted few = record {
  consumed = Consumes-trans old.left mid.left new.left bytes more so_far.consumed consumed;
  counted = omega (arith, so_far.counted, counted);
  few = omega (arith, so_far.few, few, length-append bytes more);
}

-- one more read, into a buffer of 64 bytes
pub reads_chunk : (made n : ℕ) (bytes buf : List ℕ) (old mid new : Input) → HasRead made bytes old mid → Consumes mid.left new.left (take n buf) → new.reads ≡ mid.reads + 1 → n ≤ length buf → length buf ≡ 64
    → HasRead (made + 1) (bytes ++ take n buf) old new
reads_chunk made n bytes buf old mid new so_far consumed counted bound whole =
    reads_more made bytes (take n buf) old mid new so_far consumed counted (few_of n buf bound whole)

-- one more read, of none
pub reads_end : (made : ℕ) (bytes : List ℕ) (old mid new : Input) → HasRead made bytes old mid → Consumes mid.left new.left [] → new.reads ≡ mid.reads + 1 → HasRead (made + 1) bytes old new
reads_end made bytes old mid new so_far consumed counted = record {
  consumed = Consumes-end old.left mid.left new.left bytes so_far.consumed consumed;
  counted = omega (arith, so_far.counted, counted);
  few = omega (arith, so_far.few);
}

-- one more read that failed
pub reads_failed : (made : ℕ) (bytes : List ℕ) (old mid new : Input) → HasRead made bytes old mid → Keeps mid.left new.left → new.reads ≡ mid.reads + 1 → HasRead (made + 1) bytes old new
reads_failed made bytes old mid new so_far kept counted = record {
  consumed = Consumes-kept old.left mid.left new.left bytes so_far.consumed kept;
  counted = omega (arith, so_far.counted, counted);
  few = omega (arith, so_far.few);
}

-- a byte is answered by no packet, and a turn by one or by none
by_reply : (reply : Option ReplyValue) → turns_of_answer (replied reply) ≡ 0
by_reply None = refl
by_reply (Some reply) = refl

by_packet : (packet : Option (List ℕ)) → turns_of_answer (sent packet) ≡ 1
by_packet None = refl
by_packet (Some packet) = refl

module _ (to_byte : (seen : Seen) (line byte : ℕ) → answer_of seen (ByteCall line byte) ≡ replied (answer_to_byte seen line byte)) (to_turn : (seen : Seen) → answer_of seen TurnCall ≡ sent (packet_of_turn seen)) where
  no_turn : (seen : Seen) (line byte : ℕ) → turns_of_answer (answer_of seen (ByteCall line byte)) ≡ 0
  no_turn seen line byte = ap turns_of_answer (to_byte seen line byte) ∙ by_reply (answer_to_byte seen line byte)

  one_turn : (seen : Seen) → turns_of_answer (answer_of seen TurnCall) ≡ 1
  one_turn seen = ap turns_of_answer (to_turn seen) ∙ by_packet (packet_of_turn seen)

  so_many_turns : (turns : ℕ) (seen : Seen) → turns_in (answers_to seen (replicate turns (Turn 0))) ≡ turns
  so_many_turns zero seen = refl
  so_many_turns (suc turns) seen = ap₂ (λ (one more : ℕ). one + more) (one_turn seen) (so_many_turns turns (state_of seen TurnCall)) ∙ omega arith

  -- a number of turns for each byte
  pub turns_served : (line turns : ℕ) (bytes : List ℕ) (seen : Seen) → turns_in (answers_to seen (served_events line turns bytes)) ≡ turns * length bytes
  turns_served line turns [] seen = omega arith
  turns_served line turns (byte ∷ bytes) seen =
      let front : List Event = byte_events line turns byte in
      let back : List Event = served_events line turns bytes in
      let first : turns_in (answers_to seen front) ≡ turns =
      ap₂ (λ (none more : ℕ). none + more) (no_turn seen line byte) (so_many_turns turns (state_of seen (ByteCall line byte))) ∙ omega arith in
      let rest : turns_in (answers_to (after_events seen front) back) ≡ turns * length bytes = turns_served line turns bytes (after_events seen front) in
      let all : turns_in (answers_to seen (front ++ back)) ≡ turns_in (answers_to seen front) + turns_in (answers_to (after_events seen front) back) =
      ap turns_in (answers-append seen front back) ∙ turns-append (answers_to seen front) (answers_to (after_events seen front) back) in
      grind (arith, all, first, rest)
