-- The entries of a roster.
use Rattle.std.specs.Prelude.{ℕ, ◌≤◌, ◌&&◌, nat_le, Bool, not, IsTrue, List, All, length, map}
use Rattle.std.specs.List.{IsDistinct, list_all, list_any}
use Rattle.std.specs.Str.{bytes_eq}
use Rattle.text.specs.Names.{is_name_byte}
use Rattle.decoder_node.specs.declared.node.NodeSpec.{NodeSpec}

-- the name of a decoder, and what it is
pub record Entry : Type 0 where
  pub name : List ℕ
  pub spec : NodeSpec

abbrev pub name_of : Entry → List ℕ
name_of entry = entry.name

abbrev pub spec_of : Entry → NodeSpec
spec_of entry = entry.spec

-- a name: 1 to 16 of these
abbrev pub is_name : List ℕ → Bool
is_name name = (nat_le 1 (length name) && nat_le (length name) 16) && list_all is_name_byte name

-- an entry has this name
abbrev pub is_taken : List Entry → List ℕ → Bool
is_taken entries name = list_any (λ entry. bytes_eq name entry.name) entries

-- the next entry may have this name
abbrev pub is_free : List Entry → List ℕ → Bool
is_free earlier name = is_name name && not (is_taken earlier name)

abbrev pub IsNamed : Entry → Type 0
IsNamed entry = IsTrue (is_name entry.name)

-- each entry has a name, and no two the same
pub record AreNamed (entries : List Entry) : Type 0 where
  pub named : All IsNamed entries
  pub distinct : IsDistinct bytes_eq (map name_of entries)

-- what a roster is: 1 to 64 entries with different names
pub record IsRoster (entries : List Entry) : Type 0 where
  pub some : 1 ≤ length entries
  pub most : length entries ≤ 64
  pub names : AreNamed entries
