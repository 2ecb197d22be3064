-- The four variables of a locomotive in a roster of version 1. Their values are bytes.
use Rattle.std.specs.Prelude.{ℕ, nat_lt, if◌then◌else◌, List, [], ◌∷◌, Option, Some, None, Result, Ok, Err, ℤ, pos, negsuc}
use Rattle.std.specs.Result.{result_err}
use Rattle.decoder_cv.specs.Settings.{Settings, settings_of}
use Rattle.decoder_cv.specs.declared.cv_fault.CvFault.{CvFault}
use Rattle.decoder_cv.specs.declared.cv_pair.CvPair.{CvPair}
use Rattle.decoder_node.specs.declared.node.NodeSpec.{NodeSpec}
use Rattle.roster.specs.declared.fault.RosterFaultKind.{RosterFaultKind}
use Rattle.roster.specs.declared.fault.RosterFaultKind.TheVariants.{BadCv}
use Rattle.roster.specs.Decoder.{loco_of}
use Rattle.roster.specs.declared.four_variables.FourVariables.{FourVariables}
use Rattle.roster.specs.Steps.{◌>>=◌}

abbrev pub byte_of : ℤ → Result ℕ RosterFaultKind
byte_of (pos n) = if nat_lt n 256 then Ok n else Err BadCv
byte_of (negsuc n) = Err BadCv

abbrev pub bytes_of : FourVariables ℤ → Result (FourVariables ℕ) RosterFaultKind
bytes_of values = do
  a ← byte_of values.cv1
  b ← byte_of values.cv17
  c ← byte_of values.cv18
  d ← byte_of values.cv29
  Ok (record { cv1 = a; cv17 = b; cv18 = c; cv29 = d })

abbrev pub settings_of_bytes : FourVariables ℕ → Result Settings CvFault
settings_of_bytes bytes = settings_of bytes.cv1 bytes.cv17 bytes.cv18 bytes.cv29

-- the decoder that they make
abbrev pub decoder_of_four : FourVariables ℤ → Result NodeSpec RosterFaultKind
decoder_of_four values = do
  bytes ← bytes_of values
  loco_of (settings_of_bytes bytes)

-- what is wrong with them, if they are bytes
abbrev pub fault_if : Result (FourVariables ℕ) RosterFaultKind → Option CvFault
fault_if (Ok bytes) = result_err (settings_of_bytes bytes)
fault_if (Err why) = None

abbrev pub fault_of_four : FourVariables ℤ → Option CvFault
fault_of_four values = fault_if (bytes_of values)

-- they with their numbers, if they are bytes
abbrev pub pairs_of_bytes : FourVariables ℕ → List CvPair
pairs_of_bytes bytes =
    record { number = 1; value = bytes.cv1 } ∷ record { number = 17; value = bytes.cv17 }
    ∷ record { number = 18; value = bytes.cv18 } ∷ record { number = 29; value = bytes.cv29 } ∷ []

abbrev pub pairs_if : Result (FourVariables ℕ) RosterFaultKind → Option (List CvPair)
pairs_if (Ok bytes) = Some (pairs_of_bytes bytes)
pairs_if (Err why) = None

abbrev pub pairs_of_four : FourVariables ℤ → Option (List CvPair)
pairs_of_four values = pairs_if (bytes_of values)
