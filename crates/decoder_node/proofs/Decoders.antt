-- What a decoder makes of the half-bits that it hears, whatever instructions do to it.
use Rattle.std.proofs.Common.{◌≡◌, ℕ, List, [], ◌∷◌, ◌++◌, fold, refl, ap, subst, sym, ◌∙◌}
use Rattle.std.proofs.lemmas.List.Sums.{fold-append}
use Rattle.std.specs.Prelude.{IsTrue}
use Rattle.std.specs.Iterator.{Drains, YieldsFirst}
use Rattle.dcc_packet.specs.declared.instr.Instr.{Instr}
use Rattle.dcc_packet.specs.Packet.{IsPacket}
use Rattle.dcc_packet.specs.Reading.{instruction_of}
use Rattle.dcc_packet.specs.Wave.{IsWave}
use Rattle.decoder_rx.specs.Position.{Position, is_hunting}
use Rattle.decoder_rx.specs.Table.{after_all, answers}
use Rattle.decoder_node.specs.Decoder.{Decoder}
use Rattle.decoder_node.specs.Hearing.{Receives, heard, heard_all}
use Rattle.decoder_node.specs.Heard.{obeying, after_receipt, ObeysWaves}
use Rattle.decoder_node.proofs.Drained.{drained}
use Rattle.decoder_node.proofs.Waves.{Laws, Ignores, spells_none, obeyed, ran}

module _ {Settings State : Type 0} (does : Settings → State → Instr → State) where
  settings_after : (halves : List ℕ) (d : Decoder Settings State) → (heard_all does d halves).settings ≡ d.settings
  settings_after [] d = refl
  settings_after (x ∷ xs) d = settings_after xs (heard does d x)

  state_after : (halves : List ℕ) (d : Decoder Settings State) → (heard_all does d halves).state ≡ fold (after_receipt (obeying (does d.settings))) d.state (answers d.receiver halves)
  state_after [] d = refl
  state_after (x ∷ xs) d = state_after xs (heard does d x)

  receiver_after : (halves : List ℕ) (d : Decoder Settings State) → (heard_all does d halves).receiver ≡ after_all d.receiver halves
  receiver_after [] d = refl
  receiver_after (x ∷ xs) d = receiver_after xs (heard does d x)

  ignores : (settings : Settings) → Ignores (obeying (does settings))
  ignores settings state packet h = ap (after_receipt (does settings) state) (spells_none packet h)

  -- and one half more
  pub heard_next : (old d : Decoder Settings State) (halves : List ℕ) (half : ℕ) → d ≡ heard_all does old halves → heard does d half ≡ heard_all does old (halves ++ half ∷ [])
  heard_next old d halves half h = ap (λ (e : Decoder Settings State). heard does e half) h ∙ sym (fold-append (heard does) old halves (half ∷ []))

  waves : Laws → (old : Decoder Settings State) (halves : List ℕ) → ObeysWaves (obeying (does old.settings)) old.state old.receiver halves (heard_all does old halves).state (heard_all does old halves).receiver
  waves laws old halves =
      let obey = obeying (does old.settings) in
      let state = state_after halves old in
      let hunting = ap is_hunting (receiver_after halves old) in
      record {
        settles = λ packet p w. hunting ∙ laws.settles old.receiver packet halves p w;
        obeys = λ packet p w b. state ∙ obeyed obey (ignores old.settings) laws old.state old.receiver packet halves p w b;
        runs = λ packets w b.
            let all = ran obey (ignores old.settings) laws packets halves old.state old.receiver w b in
            (state ∙ all.0, hunting ∙ all.1);
      }

  pub hears : Laws → (old new : Decoder Settings State) (halves : List ℕ) → new ≡ heard_all does old halves → Receives does old halves new
  hears laws old new halves h =
      subst (Receives does old halves) (sym h) (record { in_turn = refl; kept = settings_after halves old; waves = waves laws old halves })

  same : (one other : Decoder Settings State) → one.settings ≡ other.settings → one.state ≡ other.state → one.receiver ≡ other.receiver → one ≡ other
  same one other settings state receiver =
      ap (λ (s : Settings). record { settings = s; state = one.state; receiver = one.receiver }) settings
      ∙ ap (λ (s : State). record { settings = other.settings; state = s; receiver = one.receiver }) state
      ∙ ap (λ (p : Position). record { settings = other.settings; state = other.state; receiver = p }) receiver

  -- the halves of a wave all at once
  pub heard_at_once : Laws → (old new : Decoder Settings State) (packet halves : List ℕ) → IsPacket packet → IsWave packet halves → IsTrue (is_hunting old.receiver)
      → new.settings ≡ old.settings → new.state ≡ after_receipt (does old.settings) old.state (instruction_of packet) → new.receiver ≡ after_all old.receiver halves
      → new ≡ heard_all does old halves
  heard_at_once laws old new packet halves form wave between settings state receiver =
      same new (heard_all does old halves) (settings ∙ sym (settings_after halves old)) (state ∙ sym ((waves laws old halves).obeys packet form wave between)) (receiver ∙ sym (receiver_after halves old))

  -- the items that an iterator of these halves gives
  pub heard_in_turn : (old new : Decoder Settings State) (halves all items : List ℕ) → all ≡ halves → Drains (YieldsFirst (λ (left : List ℕ). left)) all items → new ≡ heard_all does old items → new ≡ heard_all does old halves
  heard_in_turn old new halves all items whole drains h = h ∙ ap (heard_all does old) (sym (drained all items drains) ∙ whole)
