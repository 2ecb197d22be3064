-- More about the first fault of a plan's text than its part and its kind: the line of a text that is
-- no TOML, the name of the part, the word that is wrong, and another part that has the same.
use Rattle.std.specs.Prelude.{ℕ, zero, suc, ◌+◌, ◌≡◌, ◌≤◌, ◌&&◌, ◌||◌, ◌++◌, Bool, false, nat_le, if◌then◌else◌, List, [], ◌∷◌, length, Option, Some, None, option_and_then, option_map, ℤ, map, unwrap_or, codes}
use Rattle.std.specs.List.{list_all, list_any}
use Rattle.std.specs.Ordering.{int_eq}
use Rattle.std.specs.Option.{option_or}
use Rattle.std.specs.Str.{bytes_eq}
use Rattle.toml.specs.Data.{Data, Items, no_items, item, Members, no_members, member, at as item_at, as_array, as_integer, as_str, as_table}
use Rattle.roster.specs.Details.{line_at}
use Rattle.railway.specs.declared.block.End.{End}
use Rattle.railway.specs.declared.block.End.TheVariants.{A, B}
use Rattle.railway_plan.specs.declared.fault.PlanTextFault.{PlanTextFault}
use Rattle.railway_plan.specs.declared.fault.Section.{Section}
use Rattle.railway_plan.specs.declared.fault.Section.TheVariants.{Whole, Block, Joint, Turnout, Train}
use Rattle.railway_plan.specs.declared.fault.Reason.{Reason}
use Rattle.railway_plan.specs.declared.fault.Reason.TheVariants.{NotToml, UnknownKey, BadKey, TooMany, NotTable, UnknownEnd, UnknownBlock, UnknownDecoder, RepeatedName, RepeatedSensor, RepeatedEnd, NoDecoder, RepeatedDecoder, OffTrack, LongTrain, FastTrain, NoMemory}
use Rattle.railway_plan.specs.declared.key.Key.{Key}
use Rattle.railway_plan.specs.declared.key.Key.TheVariants as key
use Rattle.railway_plan.specs.Format.{Text, block_keys, spelled, top_keys, train_keys, turnout_keys, value_at}

pub record PlanDetails : Type 0 where
  pub line : Option ℕ
  pub name : Option Text
  pub word : Option Text
  pub other : Option Section

-- a text is shown if it has 1 to 48 characters, all printable ASCII
abbrev pub is_printable : ℕ → Bool
is_printable byte = nat_le 32 byte && nat_le byte 126

abbrev pub is_shown : Text → Bool
is_shown text = (nat_le 1 (length text) && nat_le (length text) 48) && list_all is_printable text

abbrev pub shown : Option Text → Option Text
shown None = None
shown (Some text) = if is_shown text then Some text else None

-- the table of a part by its number, from 1
abbrev pub member_at : Key → (number : ℕ) → Members → Option Members
member_at k zero whole = None
member_at k (suc i) whole =
    option_and_then as_table (option_and_then (item_at i) (value_at k whole))

abbrev pub part_at : Section → Members → Option Members
part_at Whole whole = Some whole
part_at (Block number) whole = member_at key.Block number whole
part_at (Joint number) whole = member_at key.Joint number whole
part_at (Turnout number) whole = member_at key.Turnout number whole
part_at (Train number) whole = member_at key.Train number whole

-- the value and the text at a key of a part, if they are there
abbrev pub value_in : Key → Option Members → Option Data
value_in k part = option_and_then (value_at k) part

abbrev pub text_in : Key → Option Members → Option Text
text_in k part = option_and_then as_str (value_in k part)

-- the name of a part: of a block its own, of a train its decoder's
abbrev pub name_at : Section → Members → Option Text
name_at (Block number) whole = text_in key.Name (part_at (Block number) whole)
name_at (Train number) whole = text_in key.Decoder (part_at (Train number) whole)
name_at Whole whole = None
name_at (Joint number) whole = None
name_at (Turnout number) whole = None

-- the keys that a part may have
abbrev pub keys_of : Section → List Key
keys_of Whole = top_keys
keys_of (Block number) = block_keys
keys_of (Joint number) = key.Ends ∷ []
keys_of (Turnout number) = turnout_keys
keys_of (Train number) = train_keys

-- the first key of a table that is none of these
abbrev pub unknown_key : (known : List Text) → Members → Option Text
unknown_key known no_members = None
unknown_key known (member name value members) =
    if list_any (λ word. bytes_eq word name) known then unknown_key known members else Some name

-- the end that a part has at this key: of a joint, which has two, that of this index
abbrev pub end_text : Key → (index : ℕ) → Members → Option Text
end_text key.Ends index part =
    option_and_then as_str (option_and_then (item_at index) (value_at key.Ends part))
end_text k index part = option_and_then as_str (value_at k part)

-- the word of the text that is wrong
abbrev pub word_at : Reason → Section → Members → Option Text
word_at UnknownKey place whole =
    option_and_then (unknown_key (map spelled (keys_of place))) (part_at place whole)
word_at (UnknownEnd k index) place whole =
    option_and_then (end_text k index) (part_at place whole)
word_at UnknownBlock place whole = text_in key.Block (part_at place whole)
word_at OffTrack place whole = text_in key.Block (part_at place whole)
word_at NotToml place whole = None
word_at (BadKey k) place whole = None
word_at (TooMany k) place whole = None
word_at NotTable place whole = None
word_at UnknownDecoder place whole = None
word_at RepeatedName place whole = None
word_at RepeatedSensor place whole = None
word_at (RepeatedEnd end) place whole = None
word_at NoDecoder place whole = None
word_at RepeatedDecoder place whole = None
word_at LongTrain place whole = None
word_at FastTrain place whole = None
word_at NoMemory place whole = None

-- there is something for which this holds
abbrev pub holds_of : {A : Type 0} → (A → Bool) → Option A → Bool
holds_of holds None = false
holds_of holds (Some x) = holds x

-- two values are the same text or the same integer
abbrev pub same_text : Option Text → Option Text → Bool
same_text None text = false
same_text (Some one) None = false
same_text (Some one) (Some other) = bytes_eq one other

abbrev pub same_integer : Option ℤ → Option ℤ → Bool
same_integer None number = false
same_integer (Some one) None = false
same_integer (Some one) (Some other) = int_eq one other

abbrev pub is_same : Data → Data → Bool
is_same one other =
    same_text (as_str one) (as_str other) || same_integer (as_integer one) (as_integer other)

-- the value at a key of a part
abbrev pub member_value : Key → Data → Option Data
member_value k part = value_in k (as_table part)

-- a part has this value at a key
abbrev pub has_value : Key → Data → Data → Bool
has_value k wanted part = holds_of (is_same wanted) (member_value k part)

-- the value at a key of a part names this end
abbrev pub names_at : Key → (end : Text) → Data → Bool
names_at k end part = same_text (option_and_then as_str (member_value k part)) (Some end)

-- a joint names an end, and a turnout does
abbrev pub any_text : (end : Text) → Items → Bool
any_text end no_items = false
any_text end (item value items) = same_text (as_str value) (Some end) || any_text end items

abbrev pub joint_names : (end : Text) → Data → Bool
joint_names end part =
    holds_of (any_text end) (option_and_then as_array (member_value key.Ends part))

abbrev pub turnout_names : (end : Text) → Data → Bool
turnout_names end part =
    names_at key.Common end part || (names_at key.Closed end part || names_at key.Thrown end part)

-- the number of the last of these parts for which this holds, or else what was found before; that
-- of the first is n
abbrev pub last_from : (holds : Data → Bool) → (n : ℕ) → Items → (found : Option ℕ) → Option ℕ
last_from holds n no_items found = found
last_from holds n (item part parts) found =
    last_from holds (n + 1) parts (if holds part then Some n else found)

-- the parts of a kind
abbrev pub parts_at : Key → Members → Items
parts_at k whole = unwrap_or (option_and_then as_array (value_at k whole)) no_items

abbrev pub last_part : (holds : Data → Bool) → Key → Members → Option ℕ
last_part holds k whole = last_from holds 1 (parts_at k whole) None

-- the last part with the value of this one at a key
abbrev pub last_with : (value : Option Data) → (at kind : Key) → Members → Option ℕ
last_with None at kind whole = None
last_with (Some value) at kind whole = last_part (has_value at value) kind whole

-- an end as it is spelled
abbrev pub end_name : Text → End → Text
end_name block A = block ++ codes ".a"
end_name block B = block ++ codes ".b"

-- the last turnout that names an end, or else the last joint
abbrev pub last_naming : (end : Text) → Members → Option Section
last_naming end whole =
    option_or (option_map Turnout (last_part (turnout_names end) key.Turnout whole))
    (option_map Joint (last_part (joint_names end) key.Joint whole))

abbrev pub naming_block : (block : Option Text) → End → Members → Option Section
naming_block None end whole = None
naming_block (Some block) end whole = last_naming (end_name block end) whole

-- the last part with the same name, sensor, decoder or end
abbrev pub other_at : Reason → Section → Members → Option Section
other_at RepeatedName place whole =
    option_map Block (last_with (value_in key.Name (part_at place whole)) key.Name key.Block whole)
other_at RepeatedSensor place whole =
    option_map Block (last_with (value_in key.Sensor (part_at place whole)) key.Sensor key.Block whole)
other_at RepeatedDecoder place whole =
    option_map Train (last_with (value_in key.Decoder (part_at place whole)) key.Decoder key.Train whole)
other_at (RepeatedEnd end) place whole = naming_block (shown (name_at place whole)) end whole
other_at UnknownKey place whole = None
other_at (UnknownEnd k index) place whole = None
other_at UnknownBlock place whole = None
other_at OffTrack place whole = None
other_at NotToml place whole = None
other_at (BadKey k) place whole = None
other_at (TooMany k) place whole = None
other_at NotTable place whole = None
other_at UnknownDecoder place whole = None
other_at NoDecoder place whole = None
other_at LongTrain place whole = None
other_at FastTrain place whole = None
other_at NoMemory place whole = None

-- the details of a fault of a text with this table
abbrev pub details_of : PlanTextFault → Members → PlanDetails
details_of fault whole = record {
  line = None;
  name = shown (name_at fault.section whole);
  word = shown (word_at fault.why fault.section whole);
  other = other_at fault.why fault.section whole;
}

-- those of a text that is no TOML from this byte on
abbrev pub details_at : Text → (at : ℕ) → PlanDetails
details_at text at = record { line = Some (line_at text at); name = None; word = None; other = None }

abbrev pub IsAtLine : Text → PlanDetails → Type 0
IsAtLine text details = (at : ℕ) × (at ≤ length text) × (details ≡ details_at text at)

-- The details of a text with this table; or one of its lines, if it is no TOML.
abbrev pub AreDetails : Text → Option Members → PlanTextFault → PlanDetails → Type 0
AreDetails text None fault details = IsAtLine text details
AreDetails text (Some whole) fault details = details ≡ details_of fault whole
