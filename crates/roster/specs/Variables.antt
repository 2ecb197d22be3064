-- The variables of a locomotive that a roster lists, for a decoder on a programming track.
use Rattle.std.specs.Prelude.{ℕ, List, [], Option, Some, None, Result, Ok, Err}
use Rattle.toml.specs.Data.{Members}
use Rattle.decoder_cv.specs.declared.cv_pair.CvPair.{CvPair}
use Rattle.roster.specs.declared.described.Described.{Described}
use Rattle.roster.specs.declared.described.Described.TheVariants.{Loco, Listed, Accessory}
use Rattle.roster.specs.declared.fault.RosterFaultKind.{RosterFaultKind}
use Rattle.roster.specs.Details.{described_in, node_table_at}
use Rattle.roster.specs.FourVariables.{pairs_of_four}
use Rattle.roster.specs.Pairs.{cv_pairs_after}

-- in version 1 the four, in version 2 those of the list, if their numbers and values fit; an
-- accessory has none
abbrev pub variables_of : Described → Option (List CvPair)
variables_of (Loco values) = pairs_of_four values
variables_of (Listed pairs) = cv_pairs_after [] pairs
variables_of (Accessory number) = None

abbrev pub variables_if : Result Described RosterFaultKind → Option (List CvPair)
variables_if (Ok described) = variables_of described
variables_if (Err why) = None

abbrev pub variables_from : (whole : Members) → (node : Option Members) → Option (List CvPair)
variables_from whole None = None
variables_from whole (Some node) = variables_if (described_in whole node)

-- those of a node, from 1
abbrev pub variables_at : Members → (node : ℕ) → Option (List CvPair)
variables_at whole node = variables_from whole (node_table_at whole node)
