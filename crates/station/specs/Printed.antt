-- The output of a run for its decoders.
use Rattle.std.specs.Prelude.{ℕ, List, [], ◌∷◌}
use Rattle.layout_core.specs.declared.decoder_state.DecoderState.{DecoderState}
use Rattle.layout_core.specs.DecoderStates.{decoder_line}
use Rattle.roster.specs.Entry.{Entry}

-- a line for each decoder of the roster, in order
abbrev pub decoder_lines : List Entry → List DecoderState → List (List ℕ)
decoder_lines [] decoder_states = []
decoder_lines (entry ∷ entries) [] = []
decoder_lines (entry ∷ entries) (decoder_state ∷ decoder_states) = decoder_line entry.name entry.spec decoder_state ∷ decoder_lines entries decoder_states
