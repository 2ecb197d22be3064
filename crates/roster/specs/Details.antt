-- More about the first fault of a text than its kind and its node: the line of a text that is no
-- TOML, the name of the node, and what is wrong with its variables.
use Rattle.std.specs.Prelude.{ℕ, zero, suc, ◌+◌, ◌≡◌, ◌≤◌, ◌==◌, if◌then◌else◌, List, [], ◌∷◌, length, take, Option, Some, None, option_and_then, Result, Ok, Err, codes}
use Rattle.std.specs.Result.{result_err, result_ok}
use Rattle.toml.specs.Data.{Data, Members, at as item_at, as_table, get_member}
use Rattle.decoder_cv.specs.Listed.{listed}
use Rattle.decoder_cv.specs.declared.cv_fault.CvFault.{CvFault}
use Rattle.roster.specs.declared.described.Described.{Described}
use Rattle.roster.specs.declared.described.Described.TheVariants.{Loco, Listed, Accessory}
use Rattle.roster.specs.declared.fault.RosterFaultKind.{RosterFaultKind}
use Rattle.roster.specs.Format.{described_as, name_after, version_in}
use Rattle.roster.specs.FourVariables.{fault_of_four}
use Rattle.roster.specs.Pairs.{cv_pairs_after}
use Rattle.roster.specs.Steps.{◌>>=◌}
use Rattle.roster.specs.Toml.{text_at}

pub record FaultDetails : Type 0 where
  pub line : Option ℕ
  pub name : Option (List ℕ)
  pub cv : Option CvFault

-- how many lines end in a text
abbrev pub line_feeds : List ℕ → ℕ
line_feeds [] = 0
line_feeds (b ∷ text) = (if b == 10 then 1 else 0) + line_feeds text

-- the line of a byte, from 1
abbrev pub line_at : (text : List ℕ) → (at : ℕ) → ℕ
line_at text at = line_feeds (take at text) + 1

-- the table of a node, from 1; the whole has none
abbrev pub node_at : Members → (node : ℕ) → Option Data
node_at table zero = None
node_at table (suc index) = option_and_then (item_at index) (get_member (codes "node") table)

abbrev pub node_table_at : Members → (node : ℕ) → Option Members
node_table_at table node = option_and_then as_table (node_at table node)

-- its name, if it is one
abbrev pub name_in : Members → Result (List ℕ) RosterFaultKind
name_in node = text_at (codes "name") node >>= name_after []

-- what it says of its decoder, in the version of the whole
abbrev pub described_in : (whole node : Members) → Result Described RosterFaultKind
described_in whole node = do
  version ← version_in whole
  kind ← text_at (codes "kind") node
  described_as version kind node

-- what is wrong with its variables
abbrev pub cv_fault_of : Described → Option CvFault
cv_fault_of (Loco values) = fault_of_four values
cv_fault_of (Listed pairs) = option_and_then (λ taken. result_err (listed taken)) (cv_pairs_after [] pairs)
cv_fault_of (Accessory number) = None

abbrev pub cv_fault_in : Result Described RosterFaultKind → Option CvFault
cv_fault_in (Ok described) = cv_fault_of described
cv_fault_in (Err why) = None

abbrev pub details_of : (whole : Members) → (node : Option Members) → FaultDetails
details_of whole None = record { line = None; name = None; cv = None }
details_of whole (Some node) = record { line = None; name = result_ok (name_in node); cv = cv_fault_in (described_in whole node) }

-- where a text is no TOML
abbrev pub details_at : (text : List ℕ) → (at : ℕ) → FaultDetails
details_at text at = record { line = Some (line_at text at); name = None; cv = None }

-- The details of a text with this table: of a node; or one of its lines, if it is no TOML.
abbrev pub AreDetails : (text : List ℕ) → Option Members → (node : ℕ) → FaultDetails → Type 0
AreDetails text None node details = (at : ℕ) × (at ≤ length text) × (details ≡ details_at text at)
AreDetails text (Some whole) node details = details ≡ details_of whole (node_table_at whole node)
