-- The format of a roster, versions 1 and 2. Each part is read in the order in which its faults
-- count, and the first decides. The versions differ in how the variables of a locomotive are given,
-- and in nothing else.
use Rattle.std.specs.Prelude.{ℕ, ◌+◌, ◌==◌, nat_lt, if◌then◌else◌, List, [], ◌∷◌, ◌++◌, length, map, Option, Some, None, Result, Ok, Err, ℤ, pos, negsuc, codes}
use Rattle.std.specs.List.{list_all}
use Rattle.std.specs.Str.{bytes_eq}
use Rattle.toml.specs.Data.{Data, Items, no_items, item, Members, get_member, as_array, as_table}
use Rattle.decoder_cv.specs.Listed.{listed}
use Rattle.decoder_node.specs.declared.node.NodeSpec.{NodeSpec}
use Rattle.roster.specs.declared.fault.RosterFaultKind.{RosterFaultKind}
use Rattle.roster.specs.declared.fault.RosterFaultKind.TheVariants.{NotToml, BadShape, TooMany, BadName, BadCv, Empty, BadCvList}
use Rattle.roster.specs.declared.fault.RosterFault.{RosterFault}
use Rattle.roster.specs.declared.described.Described.{Described}
use Rattle.roster.specs.declared.described.Described.TheVariants.{Loco, Listed, Accessory}
use Rattle.roster.specs.declared.pair.Pair.{Pair}
use Rattle.roster.specs.declared.version.Version.{Version}
use Rattle.roster.specs.declared.version.Version.TheVariants.{One, Two}
use Rattle.roster.specs.Decoder.{accessory_of, loco_of}
use Rattle.roster.specs.Entry.{Entry, is_free}
use Rattle.roster.specs.FourVariables.{decoder_of_four}
use Rattle.roster.specs.Pairs.{cv_pair_of, cvs_of, has_byte, has_word}
use Rattle.roster.specs.Steps.{◌>>=◌, or_fault}
use Rattle.roster.specs.Toml.{table_in, items_len, knows_only, text_at, integer_at, integer_or}

-- Node by node. First the shape of its table: which keys it has, and of which types their values
-- are.

-- version 1: the four variables, each at a separate key; 17 and 18 may be left out, and are 192 and
-- 0 then
abbrev pub variables_in : Members → Result Described RosterFaultKind
variables_in table = do
  cv1 ← integer_at (codes "cv1") table
  cv17 ← integer_or (get_member (codes "cv17") table) (pos 192)
  cv18 ← integer_or (get_member (codes "cv18") table) (pos 0)
  cv29 ← integer_at (codes "cv29") table
  Ok (Loco (record { cv1 = cv1; cv17 = cv17; cv18 = cv18; cv29 = cv29 }))

-- and no other keys
abbrev pub loco_in_keys : Members → Result Described RosterFaultKind
loco_in_keys table =
    if knows_only (codes "name" ∷ codes "kind" ∷ codes "cv1" ∷ codes "cv17" ∷ codes "cv18" ∷ codes "cv29" ∷ []) table
    then variables_in table
    else Err BadShape

-- version 2: a list of variables
abbrev pub loco_in_list : Members → Result Described RosterFaultKind
loco_in_list table =
    if knows_only (codes "name" ∷ codes "kind" ∷ codes "cvs" ∷ []) table
    then (do
      value ← or_fault (get_member (codes "cvs") table) BadShape
      pairs ← cvs_of value
      Ok (Listed pairs))
    else Err BadShape

abbrev pub loco_in : Version → Members → Result Described RosterFaultKind
loco_in One table = loco_in_keys table
loco_in Two table = loco_in_list table

abbrev pub accessory_in : Members → Result Described RosterFaultKind
accessory_in table =
    if knows_only (codes "name" ∷ codes "kind" ∷ codes "module" ∷ []) table
    then (do
      number ← integer_at (codes "module") table
      Ok (Accessory number))
    else Err BadShape

abbrev pub described_as : Version → List ℕ → Members → Result Described RosterFaultKind
described_as version kind table =
    if bytes_eq kind (codes "loco") then loco_in version table else
    (if bytes_eq kind (codes "accessory") then accessory_in table else Err BadShape)

-- Then its name, which no earlier node has.
abbrev pub name_after : List Entry → List ℕ → Result (List ℕ) RosterFaultKind
name_after earlier name = if is_free earlier name then Ok name else Err BadName

-- Then its values: those of variables are bytes that make a locomotive decoder, and a module is 1
-- to 510.

-- Of a list all values are looked at first, then whether 16 bits hold the numbers, and then the
-- list as a whole.
abbrev pub loco_listed : List Pair → Result NodeSpec RosterFaultKind
loco_listed pairs =
    if list_all has_byte pairs then
    (if list_all has_word pairs then loco_of (listed (map cv_pair_of pairs)) else Err BadCvList)
    else Err BadCv

abbrev pub decoder_of : Described → Result NodeSpec RosterFaultKind
decoder_of (Accessory number) = accessory_of number
decoder_of (Listed pairs) = loco_listed pairs
decoder_of (Loco values) = decoder_of_four values

-- the node with this name and this decoder, after those before it
abbrev pub entry_with : List Entry → List ℕ → Described → Result Entry RosterFaultKind
entry_with earlier given described = do
  name ← name_after earlier given
  spec ← decoder_of described
  Ok (record { name = name; spec = spec })

-- the node of this table, after those before it
abbrev pub entry_of : Version → List Entry → Data → Result Entry RosterFaultKind
entry_of version earlier value = do
  table ← or_fault (as_table value) BadShape
  given ← text_at (codes "name") table
  kind ← text_at (codes "kind") table
  described ← described_as version kind table
  entry_with earlier given described

-- a fault of node k, and of the whole where k is 0
abbrev pub at_node : {A : Type 0} → ℕ → Result A RosterFaultKind → Result A RosterFault
at_node k (Ok x) = Ok x
at_node k (Err why) = Err (record { why = why; node = k })

-- these nodes, after those before them; they count from 1
abbrev pub entries_after : Version → List Entry → Items → Result (List Entry) RosterFault
entries_after version earlier no_items = Ok earlier
entries_after version earlier (item value items) =
    at_node (length earlier + 1) (entry_of version earlier value) >>= (λ entry. entries_after version (earlier ++ entry ∷ []) items)

-- The top level: `version`, which is 1 or 2, and `node`, an array of 1 to 64 members, counted
-- before they are looked at.

abbrev pub version_of : ℤ → Result Version RosterFaultKind
version_of (pos n) = if n == 1 then Ok One else (if n == 2 then Ok Two else Err BadShape)
version_of (negsuc n) = Err BadShape

abbrev pub version_in : Members → Result Version RosterFaultKind
version_in table =
    if knows_only (codes "version" ∷ codes "node" ∷ []) table
    then integer_at (codes "version") table >>= version_of
    else Err BadShape

-- `node` left out is an empty array
abbrev pub array_or_none : Option Data → Result Items RosterFaultKind
array_or_none None = Ok no_items
array_or_none (Some value) = or_fault (as_array value) BadShape

abbrev pub counted : Items → Result Items RosterFaultKind
counted items =
    if items_len items == 0 then Err Empty else
    (if nat_lt 64 (items_len items) then Err TooMany else Ok items)

abbrev pub nodes_in : Members → Result Items RosterFaultKind
nodes_in table = array_or_none (get_member (codes "node") table) >>= counted

-- What a table says, and what a text does.

abbrev pub roster_of : Members → Result (List Entry) RosterFault
roster_of table = do
  version ← at_node 0 (version_in table)
  nodes ← at_node 0 (nodes_in table)
  entries_after version [] nodes

unfoldable pub roster_in : List ℕ → Result (List Entry) RosterFault
roster_in text = at_node 0 (or_fault (table_in text) NotToml) >>= roster_of
