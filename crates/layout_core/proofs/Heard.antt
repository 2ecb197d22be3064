-- What a node hears, one thing after another, adds up.
use Rattle.std.proofs.Common.{◌≡◌, ℕ, nat_eq, Bool, true, false, if◌then◌else◌, List, [], ◌∷◌, ◌++◌, refl, ap, sym, subst, ◌∙◌, append_assoc}
use Rattle.std.proofs.lemmas.Bool.{both_ways}
use Rattle.std.proofs.lemmas.Grind.{fold-append}
use Rattle.decoder_cv.specs.Settings.{Settings}
use Rattle.decoder_node.specs.declared.running.Running.{Running}
use Rattle.decoder_node.specs.declared.node.NodeSpec.TheVariants.{Loco as LocoSpec, Accessory as AccessorySpec}
use Rattle.decoder_node.specs.Decoder.{AccessoryDecoder, LocoDecoder}
use Rattle.decoder_node.specs.Obey.{obey, runs}
use Rattle.decoder_node.specs.Switched.{switch, switches}
use Rattle.station_core.specs.declared.call.Call.TheVariants.{Turn as TurnCall}
use Rattle.station_core.specs.declared.call.Step.{Step}
use Rattle.station_core.specs.declared.call.Step.TheVariants.{Quiet, Reply, Packet, Off}
use Rattle.station_core.specs.Runs.{answer_of}
use Rattle.station_core.specs.Seen.{Seen}
use Rattle.layout_core.specs.declared.event.Event.{Event}
use Rattle.layout_core.specs.declared.event.Event.TheVariants.{Byte, Turn, Noise}
use Rattle.layout_core.specs.declared.node.Node.{Node}
use Rattle.layout_core.specs.declared.node.Node.TheVariants.{Loco, Accessory}
use Rattle.layout_core.specs.Events.{NoNoise}
use Rattle.layout_core.specs.Heard.{Sound, Whole, Single, HearsAll, HearsOne, packets_among, sounds_at, sounds_in, sounds_of_turn}
use Rattle.layout_core.specs.Hearing.{HeardHalves, Obeyed}
use Rattle.layout_core.specs.Nodes.{spec_of, IsBetween, is_missed}
use Rattle.layout_core.specs.Played.{after_event, after_events}

obeyed_none : (node : Node) → Obeyed [] node node
obeyed_none (Loco loco) = refl
obeyed_none (Accessory accessory) = refl

pub same_cv : (a b : Settings) → LocoSpec a ≡ LocoSpec b → a ≡ b
same_cv a b e = cc

same_number : (a b : ℕ) → AccessorySpec a ≡ AccessorySpec b → a ≡ b
same_number a b e = cc

obeyed_more : (ps qs : List (List ℕ)) (old mid new : Node) → spec_of mid ≡ spec_of old → Obeyed ps old mid → Obeyed qs mid new → Obeyed (ps ++ qs) old new
obeyed_more ps qs (Loco old) (Loco mid) (Loco new) kept first then' =
    then'
    ∙ ap (λ (cv : Settings). runs cv mid.state qs) (same_cv mid.settings old.settings kept)
    ∙ ap (λ (r : Running). runs old.settings r qs) first
    ∙ sym (fold-append (obey old.settings) old.state ps qs)
obeyed_more ps qs (Accessory old) (Accessory mid) (Accessory new) kept first then' =
    then'
    ∙ ap (λ (number : ℕ). switches number mid.state qs) (same_number mid.settings old.settings kept)
    ∙ ap (λ (outputs : ℕ). switches old.settings outputs qs) first
    ∙ sym (fold-append (switch old.settings) old.state ps qs)
obeyed_more ps qs (Loco old) (Loco mid) (Accessory new) kept first then' = absurd then'
obeyed_more ps qs (Loco old) (Accessory mid) new kept first then' = absurd first
obeyed_more ps qs (Accessory old) (Accessory mid) (Loco new) kept first then' = absurd then'
obeyed_more ps qs (Accessory old) (Loco mid) new kept first then' = absurd first

-- a half leaves what the node was made from
pub half_keeps : (half : ℕ) (old new : Node) → HeardHalves (half ∷ []) old new → spec_of new ≡ spec_of old
half_keeps half (Loco old) (Loco new) h = ap (λ (loco : LocoDecoder). LocoSpec loco.settings) h
half_keeps half (Accessory old) (Accessory new) h = ap (λ (accessory : AccessoryDecoder). AccessorySpec accessory.settings) h
half_keeps half (Loco old) (Accessory new) h = absurd h
half_keeps half (Accessory old) (Loco new) h = absurd h

one_keeps : (sound : Sound) (old new : Node) → HearsOne sound old new → spec_of new ≡ spec_of old
one_keeps (Whole packet) old new h = h.kept
one_keeps (Single half) old new h = half_keeps half old new h

pub all_keep : (sounds : List Sound) (old new : Node) → HearsAll sounds old new → spec_of new ≡ spec_of old
all_keep [] old new h = ap spec_of h
all_keep (sound ∷ sounds) old new h = all_keep sounds h.0 new h.2 ∙ one_keeps sound old h.0 h.1

-- two lists, one after the other
pub all_more : (sounds more : List Sound) (old mid new : Node) → HearsAll sounds old mid → HearsAll more mid new → HearsAll (sounds ++ more) old new
all_more [] more old mid new first second = subst (λ (node : Node). HearsAll more node new) first second
all_more (sound ∷ sounds) more old mid new first second = (first.0, first.1, all_more sounds more first.0 mid new first.2 second)

-- and apart again
pub all_split : (sounds more : List Sound) (old new : Node) → HearsAll (sounds ++ more) old new → (mid : Node) × HearsAll sounds old mid × HearsAll more mid new
all_split [] more old new h = (old, refl, h)
all_split (sound ∷ sounds) more old new h =
    let rest = all_split sounds more h.0 new h.2 in
    (rest.0, (h.0, h.1, rest.1), rest.2)

pub sounds-append : (i : ℕ) (seen : Seen) (events later : List Event) → sounds_in i seen (events ++ later) ≡ sounds_in i seen events ++ sounds_in i (after_events seen events) later
sounds-append i seen [] later = refl
sounds-append i seen (event ∷ events) later =
    ap (λ (more : List Sound). sounds_at i seen event ++ more) (sounds-append i (after_event seen event) events later)
    ∙ sym (append_assoc (sounds_at i seen event) (sounds_in i (after_event seen event) events) (sounds_in i (after_events seen (event ∷ events)) later))

-- ---- whole packets alone

abbrev pub AreWhole : List Sound → Type 0
AreWhole [] = Unit {0}
AreWhole (Whole packet ∷ sounds) = AreWhole sounds
AreWhole (Single half ∷ sounds) = ⊥

whole_more : (sounds more : List Sound) → AreWhole sounds → AreWhole more → AreWhole (sounds ++ more)
whole_more [] more h k = k
whole_more (Whole packet ∷ sounds) more h k = whole_more sounds more h k
whole_more (Single half ∷ sounds) more h k = absurd h

whole_turn : (b : Bool) (step : Step) → AreWhole (sounds_of_turn b step)
whole_turn true step = tt
whole_turn false (Packet packet) = tt
whole_turn false (Reply reply) = tt
whole_turn false Quiet = tt
whole_turn false Off = tt

none_single : (b : Bool) (half : ℕ) → b ≡ false → AreWhole (if b then Single half ∷ [] else [])
none_single true half e = absurd (both_ways true e refl)
none_single false half e = tt

pub sounds_are_whole : (i : ℕ) (seen : Seen) (events : List Event) → NoNoise i events → AreWhole (sounds_in i seen events)
sounds_are_whole i seen [] quiet = tt
sounds_are_whole i seen (Byte line byte ∷ events) quiet = sounds_are_whole i (after_event seen (Byte line byte)) events quiet
sounds_are_whole i seen (Turn missed ∷ events) quiet =
    whole_more (sounds_at i seen (Turn missed)) (sounds_in i (after_event seen (Turn missed)) events) (whole_turn (is_missed missed i) (answer_of seen TurnCall))
    (sounds_are_whole i (after_event seen (Turn missed)) events quiet)
sounds_are_whole i seen (Noise node half ∷ events) quiet =
    whole_more (sounds_at i seen (Noise node half)) (sounds_in i (after_event seen (Noise node half)) events) (none_single (nat_eq node i) half quiet.0)
    (sounds_are_whole i (after_event seen (Noise node half)) events quiet.1)

-- a node with no packet under way obeys them
pub whole_obeyed : (sounds : List Sound) (old new : Node) → AreWhole sounds → HearsAll sounds old new → IsBetween old → Obeyed (packets_among sounds) old new × IsBetween new
whole_obeyed [] old new whole h between = (subst (λ (node : Node). Obeyed [] old node) (sym h) (obeyed_none old), subst IsBetween (sym h) between)
whole_obeyed (Whole packet ∷ sounds) old new whole h between =
    let rest = whole_obeyed sounds h.0 new whole h.2 h.1.settles in
    (obeyed_more (packet ∷ []) (packets_among sounds) old h.0 new h.1.kept (h.1.obeys between) rest.0, rest.1)
whole_obeyed (Single half ∷ sounds) old new whole h between = absurd whole
