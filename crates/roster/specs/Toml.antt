-- What a text holds as TOML, and a table at a key.
use Rattle.std.specs.Prelude.{ℕ, ℤ, ◌+◌, ◌&&◌, Bool, true, if◌then◌else◌, List, Option, Some, None, option_and_then, Result, Ok}
use Rattle.std.specs.List.{list_any}
use Rattle.std.specs.Str.{bytes_eq, is_utf8}
use Rattle.toml.specs.Data.{Data, Items, no_items, item, Members, no_members, member, get_member, as_str, as_integer}
use Rattle.toml.specs.Parse.{parse_document}
use Rattle.roster.specs.declared.fault.RosterFaultKind.{RosterFaultKind}
use Rattle.roster.specs.declared.fault.RosterFaultKind.TheVariants.{BadShape}
use Rattle.roster.specs.Steps.{or_fault}

-- the table of a text that is UTF-8 and TOML
abbrev pub table_in : List ℕ → Option Members
table_in text = if is_utf8 text then parse_document text else None

abbrev pub items_len : Items → ℕ
items_len no_items = 0
items_len (item value items) = items_len items + 1

-- each key of the table is one of these
abbrev pub knows_only : List (List ℕ) → Members → Bool
knows_only known no_members = true
knows_only known (member key value members) = list_any (λ word. bytes_eq word key) known && knows_only known members

-- The text and the integer at a key, which has to be there.
abbrev pub text_at : List ℕ → Members → Result (List ℕ) RosterFaultKind
text_at key table = or_fault (option_and_then as_str (get_member key table)) BadShape

abbrev pub integer_at : List ℕ → Members → Result ℤ RosterFaultKind
integer_at key table = or_fault (option_and_then as_integer (get_member key table)) BadShape

-- the integer of a value, and another where there is no value
abbrev pub integer_or : Option Data → ℤ → Result ℤ RosterFaultKind
integer_or None default = Ok default
integer_or (Some value) default = or_fault (as_integer value) BadShape
