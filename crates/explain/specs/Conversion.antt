-- The effect of a conversion on the streams.
use Rattle.std.specs.Prelude.{ℕ, ◌≡◌, ◌≢◌, ◌≤◌, Bool, true, false, List, Option, length}
use Rattle.std.specs.Io.KnownBytes.{Appends, Consumes, IsAtEnd}
use Rattle.filter.specs.declared.fault.FilterFault.{FilterFault}
use Rattle.filter.specs.declared.fault.FilterFault.TheVariants.{Output}
use Rattle.explain.specs.declared.conversion.Conversion.{Conversion}
use Rattle.explain.specs.declared.conversion.Conversion.TheVariants.{LogToHex, CaptureExplained, CaptureToHex}
use Rattle.explain.specs.Captures.{capture_text}
use Rattle.explain.specs.Explained.{explained}
use Rattle.explain.specs.HexText.{hex_text}
use Rattle.explain.specs.Streams.{ExplainsWhole, FailsToExplain}
use Rattle.filter.specs.declared.text.FilterFlags.{FilterFlags}

-- what is written of an input
abbrev pub converted : Conversion → List ℕ → List ℕ
converted LogToHex log = hex_text log
converted CaptureExplained bytes = explained (capture_text bytes)
converted CaptureToHex bytes = hex_text (capture_text bytes)

-- The input was read to its end, and that was written.
abbrev pub Converts : Conversion → (old_input new_input old_output new_output : Option (List ℕ)) → Type 0
Converts conversion old_input new_input old_output new_output =
    (log : List ℕ) × Consumes old_input new_input log × IsAtEnd new_input × (length log ≤ 16777216) × Appends old_output new_output (converted conversion log)

-- the program, with `--hex` or without it, and the same of `--binary`
abbrev pub runs_by : (is_hex is_binary : Bool) → (old_input new_input old_output new_output : Option (List ℕ)) → Type 0
runs_by false false = ExplainsWhole
runs_by true false = Converts LogToHex
runs_by false true = Converts CaptureExplained
runs_by true true = Converts CaptureToHex

abbrev pub ExplainsOrConverts : FilterFlags → (old_input new_input old_output new_output : Option (List ℕ)) → Type 0
ExplainsOrConverts flags = runs_by flags.first flags.second

-- A conversion failed: unless its output did, nothing was written.
abbrev pub FailsToConvert : FilterFault → (old_input new_input old_output new_output : Option (List ℕ)) → Type 0
FailsToConvert fault old_input new_input old_output new_output = fault ≢ Output → new_output ≡ old_output

abbrev pub fails_by : (is_hex is_binary : Bool) → FilterFault → (old_input new_input old_output new_output : Option (List ℕ)) → Type 0
fails_by false false = FailsToExplain
fails_by false true = FailsToConvert
fails_by true is_binary = FailsToConvert

abbrev pub FailsSo : FilterFlags → FilterFault → (old_input new_input old_output new_output : Option (List ℕ)) → Type 0
FailsSo flags = fails_by flags.first flags.second
