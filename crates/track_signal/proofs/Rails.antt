-- The drawing, half-bit after half-bit and packet after packet.
use Rattle.std.proofs.Common.{◌≡◌, ℕ, zero, suc, ◌+◌, ◌-◌, ◌*◌, ◌<◌, ◌≤◌, Bool, true, false, not, sum, List, [], ◌∷◌, ◌++◌, map, replicate, length, Option, Some, None, refl, ap, ap₂, sym, subst, ◌∙◌, append_assoc, arith}
use Rattle.std.proofs.lemmas.List.{append-nil}
use Rattle.std.proofs.lemmas.List.Sums.{sum_by-append, sum_by-cons}
use Rattle.std.proofs.lemmas.Bool.Decides.{nat_tests}
use Rattle.std.proofs.KnownBytes.{Appends-nil, Appends-trans}
use Rattle.std.specs.Io.KnownBytes.{Appends}
use Rattle.std.specs.Prelude.{Result, Ok, Err, OnOk}
use Rattle.dcc_packet.specs.Packet.{IsPacket}
use Rattle.dcc_packet.specs.Wave.{bits_of, doubled}
use Rattle.half_bits.specs.Halves.{halves_of, micros}
use Rattle.dcc_packet.specs.Sent.{idle_bytes}
use Rattle.trace.specs.Traffic.{turns_since}
use Rattle.trace.specs.declared.turn.Turn.{Turn}
use Rattle.track_signal.specs.Dump.{Change, change_text, changes_from, changes_text, dump_of, halves_in, header, idle_halves, sent_halves, stamp, turn_halves}

text-append : (changes more : List Change) → changes_text (changes ++ more) ≡ changes_text changes ++ changes_text more
text-append [] more = refl
text-append (c ∷ changes) more = ap (λ bs. change_text c.time c.is_high ++ bs) (text-append changes more) ∙ sym (append_assoc (change_text c.time c.is_high) (changes_text changes) (changes_text more))

sum-cons : (x : ℕ) (xs : List ℕ) → sum (x ∷ xs) ≡ x + sum xs
sum-cons x xs = sum_by-cons (λ y. y) x xs

sum-append : (xs ys : List ℕ) → sum (xs ++ ys) ≡ sum xs + sum ys
sum-append xs ys = sum_by-append (λ y. y) xs ys

-- Within a packet: the text written, and the text of the remaining half-bits, are together the
-- whole.
pub record HasDrawn (start : ℕ) (all : List ℕ) (time : ℕ) (is_high : Bool) (left : List ℕ) (old now : Option (List ℕ)) : Type 0 where
  pub written : List ℕ
  pub appended : Appends old now written
  pub texts : written ++ changes_text (changes_from time is_high left) ≡ changes_text (changes_from start true all)
  pub ends : time + sum left ≡ start + sum all

pub drawn_none : (start : ℕ) (all left : List ℕ) (old : Option (List ℕ)) → left ≡ all → HasDrawn start all start true left old old
drawn_none start all left old same = record {
  written = [];
  appended = Appends-nil old;
  texts = ap (λ (hs : List ℕ). changes_text (changes_from start true hs)) same;
  ends = ap (λ (hs : List ℕ). start + sum hs) same;
}

pub drawn_more : (start : ℕ) (all : List ℕ) (time : ℕ) (is_high : Bool) (left : List ℕ) (half added : ℕ) (rest : List ℕ) (old now new : Option (List ℕ)) → HasDrawn start all time is_high left old now
    → left ≡ half ∷ rest → added ≡ half → Appends now new (change_text time is_high) → HasDrawn start all (time + added) (not is_high) rest old new
drawn_more start all time is_high left half added rest old now new has more same here =
    let now_left : HasDrawn start all time is_high (half ∷ rest) old now = subst (λ (hs : List ℕ). HasDrawn start all time is_high hs old now) more has in
    subst (λ (n : ℕ). HasDrawn start all (time + n) (not is_high) rest old new) (sym same) (record {
      written = has.written ++ change_text time is_high;
      appended = Appends-trans old now new has.written (change_text time is_high) has.appended here;
      texts = append_assoc has.written (change_text time is_high) (changes_text (changes_from (time + half) (not is_high) rest)) ∙ ap (λ (hs : List ℕ). has.written ++ changes_text (changes_from time is_high hs)) (sym more) ∙ has.texts;
      ends = omega (arith, now_left.ends, sum-cons half rest);
    })

pub drawn_whole : (start : ℕ) (all : List ℕ) (time : ℕ) (is_high : Bool) (left : List ℕ) (old now : Option (List ℕ)) → HasDrawn start all time is_high left old now → left ≡ [] → Appends old now (changes_text (changes_from start true all))
drawn_whole start all time is_high left old now has none =
    subst (λ bs. Appends old now bs) (sym (append-nil has.written) ∙ ap (λ (hs : List ℕ). has.written ++ changes_text (changes_from time is_high hs)) (sym none) ∙ has.texts) has.appended

pub drawn_end : (start : ℕ) (all : List ℕ) (time : ℕ) (is_high : Bool) (left : List ℕ) (old now : Option (List ℕ)) → HasDrawn start all time is_high left old now → left ≡ [] → time ≡ start + sum all
drawn_end start all time is_high left old now has none =
    let nothing : sum left ≡ 0 = ap sum none in
    omega (arith, has.ends, nothing)

-- No half is longer than 100 microseconds, and so no packet than 13,800.

none_longer : (bits : List Bool) → sum (map micros bits) ≤ 100 * length (map micros bits)
none_longer [] = omega arith
none_longer (true ∷ bits) = omega (arith, none_longer bits, sum-cons 58 (map micros bits))
none_longer (false ∷ bits) = omega (arith, none_longer bits, sum-cons 100 (map micros bits))

not_longer : (packet : List ℕ) → sum (halves_of packet) ≤ 100 * length (halves_of packet)
unfolding halves_of
not_longer packet = none_longer (doubled (replicate 14 true ++ (bits_of packet ++ true ∷ [])))

at_most_six : (packet : List ℕ) → IsPacket packet → length packet ≤ 6
at_most_six packet is = grind (arith, nat_tests)

pub longest : (packet halves : List ℕ) → IsPacket packet → halves ≡ halves_of packet → length halves ≡ 2 * (15 + 9 * length packet) → sum (halves_of packet) ≤ 13800
longest packet halves is same many =
    let as_many : length (halves_of packet) ≡ length halves = ap length (sym same) in
    omega (arith, not_longer packet, at_most_six packet is, many, as_many)

-- the rest of the packet ends in time
pub half_fits : (start : ℕ) (all : List ℕ) (time : ℕ) (is_high : Bool) (left : List ℕ) (half added : ℕ) (rest : List ℕ) (old now : Option (List ℕ)) → HasDrawn start all time is_high left old now
    → left ≡ half ∷ rest → added ≡ half → time + added ≤ start + sum all
half_fits start all time is_high left half added rest old now has more same =
    let parts : sum left ≡ half + sum rest = ap sum more ∙ sum-cons half rest in
    omega (arith, has.ends, parts, same)

-- Each packet begins high, since each bit is two halves.

turned : (bits : List Bool) (time : ℕ) (rest : List ℕ) → changes_from time true (map micros (doubled bits) ++ rest) ≡ changes_from time true (map micros (doubled bits)) ++ changes_from (time + sum (map micros (doubled bits))) true rest
turned [] time rest = ap (λ t. changes_from t true rest) (omega arith)
turned (bit ∷ bits) time rest =
    let m : ℕ = micros bit in
    let tail : List ℕ = map micros (doubled bits) in
    let times : time + m + m + sum tail ≡ time + sum (m ∷ m ∷ tail) = omega (arith, sum-cons m (m ∷ tail), sum-cons m tail) in
    ap (λ (cs : List Change). record { time = time; is_high = true } ∷ record { time = time + m; is_high = false } ∷ cs)
    (turned bits (time + m + m) rest ∙ ap (λ t. changes_from (time + m + m) true tail ++ changes_from t true rest) times)

begins_high : (packet : List ℕ) (time : ℕ) (rest : List ℕ) → changes_from time true (halves_of packet ++ rest) ≡ changes_from time true (halves_of packet) ++ changes_from (time + sum (halves_of packet)) true rest
unfolding halves_of
begins_high packet time rest = turned (replicate 14 true ++ (bits_of packet ++ true ∷ [])) time rest

-- Halves after which the rails are high again, as after each packet.
abbrev pub EndsLow : List ℕ → Type 0
EndsLow halves = (time : ℕ) (rest : List ℕ) → changes_from time true (halves ++ rest) ≡ changes_from time true halves ++ changes_from (time + sum halves) true rest

none_low : EndsLow []
none_low time rest = ap (λ t. changes_from t true rest) (omega arith)

both_low : (first second : List ℕ) → EndsLow first → EndsLow second → EndsLow (first ++ second)
both_low first second low then_low time rest =
    let after : ℕ = time + sum first in
    let times : after + sum second ≡ time + sum (first ++ second) = omega (arith, sum-append first second) in
    ap (changes_from time true) (append_assoc first second rest)
    ∙ low time (second ++ rest)
    ∙ ap (λ (cs : List Change). changes_from time true first ++ cs) (then_low after rest)
    ∙ sym (append_assoc (changes_from time true first) (changes_from after true second) (changes_from (after + sum second) true rest))
    ∙ ap (λ (cs : List Change). cs ++ changes_from (after + sum second) true rest) (sym (low time second))
    ∙ ap (λ (t : ℕ). changes_from time true (first ++ second) ++ changes_from t true rest) times

pub packet_low : (packet : List ℕ) → EndsLow (halves_of packet)
packet_low packet = begins_high packet

all_low : (count : ℕ) (packet : List ℕ) → EndsLow (halves_in (replicate count packet))
all_low zero packet = none_low
all_low (suc count) packet = both_low (halves_of packet) (halves_in (replicate count packet)) (packet_low packet) (all_low count packet)

pub idle_low : (count : ℕ) → EndsLow (idle_halves count)
unfolding idle_halves
idle_low count = all_low count idle_bytes

pub sent_low : (packet : Option (List ℕ)) → EndsLow (sent_halves packet)
sent_low None = none_low
sent_low (Some packet) = packet_low packet

-- one idle packet, and the others
pub idle_first : (left fewer : ℕ) → 0 < left → fewer ≡ left - 1 → idle_halves left ≡ halves_of idle_bytes ++ idle_halves fewer
unfolding idle_halves
idle_first zero fewer some is = absurd (omega (arith, some))
idle_first (suc left) fewer some is =
    let same : left ≡ fewer = omega (arith, is) in
    ap (λ (n : ℕ). halves_of idle_bytes ++ halves_in (replicate n idle_bytes)) same

pub no_idle : (left : ℕ) → left ≤ 0 → idle_halves left ≡ []
unfolding idle_halves
no_idle zero none = refl
no_idle (suc left) none = absurd (omega (arith, none))

-- Of packets after a text: the text written, and that of the remaining half-bits, are together the
-- whole.
pub record HasDumped (before : List ℕ) (start : ℕ) (all : List ℕ) (time : ℕ) (left : List ℕ) (old now : Option (List ℕ)) : Type 0 where
  pub written : List ℕ
  pub appended : Appends old now written
  pub texts : written ++ changes_text (changes_from time true left) ≡ before ++ changes_text (changes_from start true all)
  pub ends : time + sum left ≡ start + sum all

pub dumped_none : (before : List ℕ) (start : ℕ) (all : List ℕ) (old now : Option (List ℕ)) → Appends old now before → HasDumped before start all start all old now
dumped_none before start all old now begun = record { written = before; appended = begun; texts = refl; ends = refl }

pub dumped_more : (before : List ℕ) (start : ℕ) (all : List ℕ) (time : ℕ) (left halves rest : List ℕ) (end : ℕ) (old now new : Option (List ℕ)) → HasDumped before start all time left old now → left ≡ halves ++ rest
    → EndsLow halves → Appends now new (changes_text (changes_from time true halves)) → end ≡ time + sum halves → HasDumped before start all end rest old new
dumped_more before start all time left halves rest end old now new has more low here at =
    let first : List ℕ = changes_text (changes_from time true halves) in
    let after : ℕ = time + sum halves in
    let parts : changes_text (changes_from time true (halves ++ rest)) ≡ first ++ changes_text (changes_from after true rest) =
    ap changes_text (low time rest) ∙ text-append (changes_from time true halves) (changes_from after true rest) in
    let sums : sum left ≡ sum halves + sum rest = ap sum more ∙ sum-append halves rest in
    subst (λ (t : ℕ). HasDumped before start all t rest old new) (sym at) (record {
      written = has.written ++ first;
      appended = Appends-trans old now new has.written first has.appended here;
      texts = append_assoc has.written first (changes_text (changes_from after true rest))
          ∙ ap (λ (bs : List ℕ). has.written ++ bs) (sym parts)
          ∙ ap (λ (hs : List ℕ). has.written ++ changes_text (changes_from time true hs)) (sym more)
          ∙ has.texts;
      ends = omega (arith, has.ends, sums);
    })

pub dumped_end : (before : List ℕ) (start : ℕ) (all : List ℕ) (time : ℕ) (left : List ℕ) (old now : Option (List ℕ)) → HasDumped before start all time left old now → left ≡ [] → time ≡ start + sum all
dumped_end before start all time left old now has none =
    let nothing : sum left ≡ 0 = ap sum none in
    omega (arith, has.ends, nothing)

pub dumped_whole : (before : List ℕ) (start : ℕ) (all : List ℕ) (time : ℕ) (left : List ℕ) (old now : Option (List ℕ)) → HasDumped before start all time left old now → left ≡ [] → Appends old now (before ++ changes_text (changes_from start true all))
dumped_whole before start all time left old now has none =
    subst (λ (bs : List ℕ). Appends old now bs) (sym (append-nil has.written) ∙ ap (λ (hs : List ℕ). has.written ++ changes_text (changes_from time true hs)) (sym none) ∙ has.texts) has.appended

ended : (turns : List Turn) (time : ℕ) (left : List ℕ) (old now new : Option (List ℕ)) → HasDumped header 0 (turn_halves 0 turns) time left old now → left ≡ [] → Appends now new (stamp time) → Appends old new (dump_of turns)
ended turns time left old now new has none last =
    let all : List ℕ = turn_halves 0 turns in
    let at : time ≡ sum all = omega (arith, dumped_end header 0 all time left old now has none) in
    let changes : List ℕ = changes_text (changes_from 0 true all) in
    let text : (header ++ changes) ++ stamp time ≡ dump_of turns =
    append_assoc header changes (stamp time) ∙ ap (λ (t : ℕ). header ++ (changes ++ stamp t)) at in
    subst (λ (bs : List ℕ). Appends old new bs) text (Appends-trans old now new (header ++ changes) (stamp time) (dumped_whole header 0 all time left old now has none) last)

pub dumped_all : {A E : Type 0} (r : Result A E) (turns : List Turn) (time : ℕ) (left : List ℕ) (old now new : Option (List ℕ)) → HasDumped header 0 (turn_halves 0 turns) time left old now → left ≡ [] → OnOk r (Appends now new (stamp time)) → OnOk r (Appends old new (dump_of turns))
dumped_all (Ok a) turns time left old now new has none last = ended turns time left old now new has none last
dumped_all (Err e) turns time left old now new has none last = tt

-- The turns that are left to be drawn.

pub turns_more : (last : ℕ) (left : List Turn) (turn : Turn) (rest : List Turn) (between : ℕ) → left ≡ turn ∷ rest → between ≡ turns_since last turn.number - 1
    → turn_halves last left ≡ idle_halves between ++ (sent_halves turn.packet ++ turn_halves turn.number rest)
unfolding turn_halves
turns_more last left turn rest between is count =
    ap (turn_halves last) is ∙ ap (λ (n : ℕ). idle_halves n ++ (sent_halves turn.packet ++ turn_halves turn.number rest)) (sym count)

pub turns_end : (last : ℕ) (left : List Turn) → left ≡ [] → turn_halves last left ≡ []
unfolding turn_halves
turns_end last left none = ap (turn_halves last) none
