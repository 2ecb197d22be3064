-- What throttles can know of a station is what the station has, whatever it sends.
use Rattle.std.proofs.Common.{◌≡◌, ◌≢◌, ℕ, ◌<◌, zero, suc, Bool, true, false, List, [], ◌∷◌, ◌++◌, Option, Some, None, map, get_or, set, length, nat_eq, if◌then◌else◌, refl, subst, ap, sym, ◌∙◌, inl, inr}
use Rattle.std.specs.Option.{option_to_list}
use Rattle.std.proofs.lemmas.Bool.{cases_Bool, eqb-true, both_ways, eq-eqb}
use Rattle.std.proofs.lemmas.List.{map-set, length-set, get_or-set_same, get_or-set_other}
use Rattle.ln_frame.specs.Stream.{message_at_end, messages_of}
use Rattle.ln_frame.specs.Unfinished.{unfinished_of, messages_along}
use Rattle.station_core.specs.declared.call.Call.{Call}
use Rattle.station_core.specs.declared.call.Call.TheVariants.{Byte, Turn}
use Rattle.station_core.specs.ThrottleView.{ThrottleView, bytes_of, carried_out, known_after, known_after_all}
use Rattle.station_core.specs.Messages.{bytes_on, carried_out_on}
use Rattle.station_core.specs.Moments.{AtEveryMoment}
use Rattle.station_core.specs.Station.{moved, after_message, message_ended}
use Rattle.station_core.specs.Powered.{PoweredDesk}
use Rattle.station_core.specs.Runs.{state_of, state_after}
use Rattle.station_core.specs.Seen.{Seen, known_of, line_of}

-- what the framer's law gives
pub record Enough : Type 0 where
  pub message : (bytes : List ℕ) (byte : ℕ) → message_at_end (bytes ++ byte ∷ []) ≡ message_at_end (unfinished_of bytes ++ byte ∷ [])
  pub unfinished : (bytes : List ℕ) (byte : ℕ) → unfinished_of (bytes ++ byte ∷ []) ≡ unfinished_of (unfinished_of bytes ++ byte ∷ [])
  pub once : (bytes : List ℕ) → unfinished_of (unfinished_of bytes) ≡ unfinished_of bytes

-- a station and what throttles know of it
pub record Agree (seen : Seen) (known : ThrottleView) : Type 0 where
  pub lines : map unfinished_of known.lines ≡ map unfinished_of seen.lines
  pub powered : seen.powered ≡ known.powered

pub agree_at_first : (seen : Seen) → Agree seen (known_of seen)
agree_at_first seen = record { lines = refl; powered = refl }

get-kept : (lines : List (List ℕ)) (line : ℕ) → get_or (map unfinished_of lines) line [] ≡ unfinished_of (get_or lines line [])
get-kept [] line = refl
get-kept (x ∷ xs) zero = refl
get-kept (x ∷ xs) (suc n) = get-kept xs n

agrees_with : (seen : Seen) (message : Option (List ℕ)) → (after_message seen message).powered ≡ carried_out seen.powered message
agrees_with seen None = refl
agrees_with seen (Some message) = refl

module _ (enough : Enough) where
  same_line : (seen : Seen) (known : ThrottleView) (line : ℕ) → Agree seen known → unfinished_of (bytes_of known line) ≡ unfinished_of (line_of seen line)
  same_line seen known line agree = sym (get-kept known.lines line) ∙ ap (λ (xs : List (List ℕ)). get_or xs line []) agree.lines ∙ get-kept seen.lines line

  same_message : (seen : Seen) (known : ThrottleView) (line byte : ℕ) → Agree seen known → message_at_end (bytes_of known line ++ byte ∷ []) ≡ message_ended seen line byte
  same_message seen known line byte agree =
      enough.message (bytes_of known line) byte
      ∙ ap (λ (w : List ℕ). message_at_end (w ++ byte ∷ [])) (same_line seen known line agree)
      ∙ sym (enough.message (line_of seen line) byte)

  same_rest : (seen : Seen) (known : ThrottleView) (line byte : ℕ) → Agree seen known → unfinished_of (bytes_of known line ++ byte ∷ []) ≡ unfinished_of (unfinished_of (line_of seen line ++ byte ∷ []))
  same_rest seen known line byte agree =
      enough.unfinished (bytes_of known line) byte
      ∙ ap (λ (w : List ℕ). unfinished_of (w ++ byte ∷ [])) (same_line seen known line agree)
      ∙ sym (enough.unfinished (line_of seen line) byte)
      ∙ sym (enough.once (line_of seen line ++ byte ∷ []))

  same_lines : (seen : Seen) (known : ThrottleView) (line byte : ℕ) → Agree seen known → map unfinished_of (set known.lines line (bytes_of known line ++ byte ∷ [])) ≡ map unfinished_of (set seen.lines line (unfinished_of (line_of seen line ++ byte ∷ [])))
  same_lines seen known line byte agree =
      map-set unfinished_of known.lines line (bytes_of known line ++ byte ∷ [])
      ∙ ap (λ (w : List ℕ). set (map unfinished_of known.lines) line w) (same_rest seen known line byte agree)
      ∙ ap (λ (xs : List (List ℕ)). set xs line (unfinished_of (unfinished_of (line_of seen line ++ byte ∷ [])))) agree.lines
      ∙ sym (map-set unfinished_of seen.lines line (unfinished_of (line_of seen line ++ byte ∷ [])))

  pub agree_after : (seen : Seen) (known : ThrottleView) (call : Call) → Agree seen known → Agree (state_of seen call) (known_after known call)
  unfolding moved known_after
  agree_after seen known (Byte line byte) agree = record {
    lines = same_lines seen known line byte agree;
    powered =
        agrees_with seen (message_ended seen line byte)
        ∙ ap (λ (p : PoweredDesk). carried_out p (message_ended seen line byte)) agree.powered
        ∙ ap (carried_out known.powered) (sym (same_message seen known line byte agree));
  }
  agree_after seen known Turn agree = record { lines = agree.lines; powered = agree.powered }

  pub agree_in_the_end : (seen : Seen) (known : ThrottleView) (calls : List Call) → Agree seen known → (state_after seen calls).powered ≡ (known_after_all known calls).powered
  agree_in_the_end seen known [] agree = agree.powered
  agree_in_the_end seen known (call ∷ calls) agree = agree_in_the_end (state_of seen call) (known_after known call) calls (agree_after seen known call agree)

-- ---- moments, by the states of a station

abbrev pub AtEach : (Seen → Type 0) → Seen → List Call → Type 0
AtEach P seen [] = P seen
AtEach P seen (call ∷ calls) = P seen × AtEach P (state_of seen call) calls

pub moments : (enough : Enough) (P : PoweredDesk → Type 0) (seen : Seen) (known : ThrottleView) (calls : List Call) → Agree seen known → AtEveryMoment P known calls → AtEach (λ s. P s.powered) seen calls
moments enough P seen known [] agree now = subst P (sym agree.powered) now
moments enough P seen known (call ∷ calls) agree now =
    (subst P (sym agree.powered) now.0, moments enough P (state_of seen call) (known_after known call) calls (agree_after enough seen known call agree) now.1)

-- ---- the messages of a line

grown : (lines : List (List ℕ)) (line : ℕ) (bytes : List ℕ) → line < length lines → get_or (set lines line bytes) line [] ≡ bytes
grown lines line bytes low = get_or-set_same lines line bytes [] low

apart : (lines : List (List ℕ)) (other line : ℕ) (bytes : List ℕ) → line ≢ other → get_or (set lines other bytes) line [] ≡ get_or lines line []
apart lines other line bytes ne = get_or-set_other lines other line bytes [] ne

chosen : {X : Type 0} (b : Bool) (x y : X) → b ≡ true → (if b then x else y) ≡ x
chosen true x y e = refl
chosen false x y e = absurd (both_ways false refl e)

skipped : {X : Type 0} (b : Bool) (x y : X) → b ≡ false → (if b then x else y) ≡ y
skipped true x y e = absurd (both_ways true e refl)
skipped false x y e = refl

module _ (enough : Enough) (line : ℕ) where
  pub carried_out_along : (known : ThrottleView) (calls : List Call) → line < length known.lines → carried_out_on line known calls ≡ messages_along (unfinished_of (bytes_of known line)) (bytes_on line calls)
  unfolding known_after
  carried_out_along known [] low = refl
  carried_out_along known (Turn ∷ calls) low = carried_out_along known calls low
  carried_out_along known (Byte other byte ∷ calls) low = elim (cases_Bool (nat_eq other line)) [
    | inl here ↦
        let same : other ≡ line = eqb-true other line here in
        let before : List ℕ = bytes_of known line in
        let rest : List ℕ = bytes_on line calls in
        let after : ThrottleView = known_after known (Byte line byte) in
        let longer : line < length after.lines = subst (λ (n : ℕ). line < n) (sym (length-set known.lines line (before ++ byte ∷ []))) low in
        ap (λ (ms : List (List ℕ)). ms ++ carried_out_on line (known_after known (Byte other byte)) calls) (chosen (nat_eq other line) (option_to_list (message_at_end (bytes_of known other ++ byte ∷ []))) [] here)
        ∙ ap (λ (l : ℕ). option_to_list (message_at_end (bytes_of known l ++ byte ∷ [])) ++ carried_out_on line (known_after known (Byte l byte)) calls) same
        ∙ ap (λ (ms : List (List ℕ)). option_to_list (message_at_end (before ++ byte ∷ [])) ++ ms)
        (carried_out_along after calls longer
        ∙ ap (λ (w : List ℕ). messages_along (unfinished_of w) rest) (grown known.lines line (before ++ byte ∷ []) low)
        ∙ ap (λ (w : List ℕ). messages_along w rest) (enough.unfinished before byte))
        ∙ ap (λ (o : Option (List ℕ)). option_to_list o ++ messages_along (unfinished_of (unfinished_of before ++ byte ∷ [])) rest) (enough.message before byte)
        ∙ ap (messages_along (unfinished_of before)) (sym (chosen (nat_eq other line) (byte ∷ rest) rest here))
    | inr past ↦
        let ne : line ≢ other = λ e. both_ways (nat_eq other line) past (eq-eqb other line (sym e)) in
        let rest : List ℕ = bytes_on line calls in
        let bytes : List ℕ = bytes_of known other ++ byte ∷ [] in
        ap (λ (ms : List (List ℕ)). ms ++ carried_out_on line (known_after known (Byte other byte)) calls) (skipped (nat_eq other line) (option_to_list (message_at_end bytes)) [] past)
        ∙ carried_out_along (known_after known (Byte other byte)) calls (subst (λ (n : ℕ). line < n) (sym (length-set known.lines other bytes)) low)
        ∙ ap (λ (w : List ℕ). messages_along (unfinished_of w) rest) (apart known.lines other line bytes ne)
        ∙ ap (messages_along (unfinished_of (bytes_of known line))) (sym (skipped (nat_eq other line) (byte ∷ rest) rest past))
  ]

  pub messages_of_line : ((left bytes : List ℕ) → unfinished_of left ≡ left → messages_along left bytes ≡ messages_of (left ++ bytes)) → (known : ThrottleView) (calls : List Call) → line < length known.lines → unfinished_of (bytes_of known line) ≡ bytes_of known line → carried_out_on line known calls ≡ messages_of (bytes_of known line ++ bytes_on line calls)
  messages_of_line along known calls low left =
      carried_out_along known calls low
      ∙ ap (λ (w : List ℕ). messages_along w (bytes_on line calls)) left
      ∙ along (bytes_of known line) (bytes_on line calls) left
