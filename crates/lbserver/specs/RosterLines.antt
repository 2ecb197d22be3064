-- The line on standard error for the fault of a roster's text (own).
use Rattle.std.specs.Prelude.{ℕ, zero, suc, List, [], ◌∷◌, ◌++◌, Option, Some, None, codes}
use Rattle.std.specs.Fmt.{decimal}
use Rattle.roster.specs.declared.fault.RosterFault.{RosterFault}
use Rattle.roster.specs.Details.{FaultDetails}
use Rattle.roster.specs.FaultWords.{fault_words}

-- a name in parentheses
abbrev pub name_text : Option (List ℕ) → List ℕ
name_text None = []
name_text (Some name) = codes " (" ++ name ++ codes ")"

-- a node, from 1, with its name; nothing for the whole
abbrev pub node_text : (node : ℕ) → (name : Option (List ℕ)) → List ℕ
node_text zero name = []
node_text (suc index) name = codes ", node " ++ decimal (suc index) ++ name_text name

-- where a fault is: in a line, or at a node
abbrev pub place_text : (line : Option ℕ) → (node : ℕ) → (name : Option (List ℕ)) → List ℕ
place_text (Some line) node name = codes ", line " ++ decimal line
place_text None node name = node_text node name

-- the name of the file, the place and the words
abbrev pub roster_line : (file : List ℕ) → RosterFault → FaultDetails → List ℕ
roster_line file fault details =
    codes "lbserver: " ++ file ++ place_text details.line fault.node details.name ++ codes ": " ++ fault_words fault.why details.cv ++ 10 ∷ []
