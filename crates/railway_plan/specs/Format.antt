-- The format of a track plan. Each part is read in the order in which its faults count, and the
-- first decides.
use Rattle.std.specs.Prelude.{ℕ, ℤ, pos, negsuc, ◌+◌, ◌++◌, ◌&&◌, Bool, false, nat_le, nat_lt, if◌then◌else◌, List, [], ◌∷◌, length, map, Option, Some, None, is_some, option_and_then, Result, Ok, Err, codes}
use Rattle.std.specs.List.{list_all}
use Rattle.std.specs.Str.{bytes_eq}
use Rattle.toml.specs.Data.{Data, Items, no_items, item, Members, get_member, as_array, as_bool, as_integer, as_str, as_table}
use Rattle.motion.specs.declared.velocity.Momentum.{Momentum}
use Rattle.text.specs.Names.{is_name_byte}
use Rattle.roster.specs.Steps.{◌>>=◌, or_fault}
use Rattle.roster.specs.Toml.{items_len, knows_only, table_in}
use Rattle.railway.specs.declared.block.BlockEnd.{BlockEnd}
use Rattle.railway.specs.declared.block.End.{End}
use Rattle.railway.specs.declared.block.End.TheVariants.{A, B}
use Rattle.railway.specs.declared.block.Point.{Point}
use Rattle.railway.specs.declared.joint.Joint.{Joint}
use Rattle.railway.specs.declared.joint.Turnout.{Turnout}
use Rattle.railway.specs.declared.train.Train.{Train}
use Rattle.railway_plan.specs.declared.bounds.Bounds.{Bounds}
use Rattle.railway_plan.specs.declared.fault.PlanTextFault.{PlanTextFault}
use Rattle.railway_plan.specs.declared.fault.Section.{Section}
use Rattle.railway_plan.specs.declared.fault.Section.TheVariants as section
use Rattle.railway_plan.specs.declared.fault.Reason.{Reason}
use Rattle.railway_plan.specs.declared.fault.Reason.TheVariants.{NotToml, UnknownKey, BadKey, NotTable, UnknownEnd, UnknownBlock, UnknownDecoder, TooMany, RepeatedName}
use Rattle.railway_plan.specs.declared.key.Key.{Key}
use Rattle.railway_plan.specs.declared.key.Key.TheVariants as key
use Rattle.railway_plan.specs.Entries.{BlockEntry, PlanEntries, name_of}

abbrev pub Text : Type 0
Text = List ℕ

-- the spelling of a key
abbrev pub spelled : Key → Text
spelled key.Version = codes "version"
spelled key.Block = codes "block"
spelled key.Joint = codes "joint"
spelled key.Turnout = codes "turnout"
spelled key.Train = codes "train"
spelled key.Name = codes "name"
spelled key.Length = codes "length"
spelled key.Sensor = codes "sensor"
spelled key.A = codes "a"
spelled key.B = codes "b"
spelled key.Ends = codes "ends"
spelled key.Switch = codes "switch"
spelled key.Common = codes "common"
spelled key.Closed = codes "closed"
spelled key.Thrown = codes "thrown"
spelled key.Time = codes "time"
spelled key.Feedback = codes "feedback"
spelled key.Decoder = codes "decoder"
spelled key.Front = codes "front"
spelled key.Facing = codes "facing"
spelled key.Speed = codes "speed"
spelled key.Acceleration = codes "acceleration"
spelled key.Braking = codes "braking"

abbrev pub value_at : Key → Members → Option Data
value_at k table = get_member (spelled k) table

-- the text at a key, which has to be there
abbrev pub text_at : Key → Members → Result Text Reason
text_at k table = or_fault (option_and_then as_str (value_at k table)) (BadKey k)

-- Numbers: millimetres, millimetres a second, and numbers of sensors and switches as throttles show
-- them.

abbrev pub from_to : ℕ → ℕ → Bounds
from_to least most = record { least = least; most = most }

-- a number within bounds
abbrev pub in_range : Key → Bounds → ℤ → Result ℕ Reason
in_range k bounds (pos n) =
    if nat_le bounds.least n && nat_le n bounds.most then Ok n else Err (BadKey k)
in_range k bounds (negsuc n) = Err (BadKey k)

-- the number at a key, which has to be there
abbrev pub number_at : Key → Bounds → Members → Result ℕ Reason
number_at k bounds table =
    or_fault (option_and_then as_integer (value_at k table)) (BadKey k) >>= in_range k bounds

-- the table has no other keys
abbrev pub only : List Key → Members → Result Members Reason
only keys table = if knows_only (map spelled keys) table then Ok table else Err UnknownKey

-- Points, for a drawing: two coordinates from -10,000 to 10,000.

abbrev pub is_coordinate : ℤ → Bool
is_coordinate (pos n) = nat_le n 10000
is_coordinate (negsuc n) = nat_lt n 10000

abbrev pub point_of_two : Option ℤ → Option ℤ → Option Point
point_of_two None y = None
point_of_two (Some x) None = None
point_of_two (Some x) (Some y) =
    if is_coordinate x && is_coordinate y then Some (record { x = x; y = y }) else None

abbrev pub point_of_items : Items → Option Point
point_of_items no_items = None
point_of_items (item x no_items) = None
point_of_items (item x (item y no_items)) = point_of_two (as_integer x) (as_integer y)
point_of_items (item x (item y (item more items))) = None

abbrev pub point_of : Data → Option Point
point_of value = option_and_then point_of_items (as_array value)

-- the point at a key, which may be left out
abbrev pub point_or_none : Key → Option Data → Result (Option Point) Reason
point_or_none k None = Ok None
point_or_none k (Some value) = or_fault (point_of value) (BadKey k) >>= (λ point. Ok (Some point))

abbrev pub point_at : Key → Members → Result (Option Point) Reason
point_at k table = point_or_none k (value_at k table)

-- Blocks.

-- a name is 1 to 32 ASCII letters, digits, `-` or `_`
abbrev pub is_block_name : Text → Bool
is_block_name name = (nat_le 1 (length name) && nat_le (length name) 32) && list_all is_name_byte name

abbrev pub name_in : Members → Result Text Reason
name_in table =
    text_at key.Name table >>= (λ name. if is_block_name name then Ok name else Err (BadKey key.Name))

-- a sensor may be left out
abbrev pub sensor_or_none : Option Data → Result (Option ℕ) Reason
sensor_or_none None = Ok None
sensor_or_none (Some value) = do
  number ← or_fault (as_integer value) (BadKey key.Sensor)
  sensor ← in_range key.Sensor (from_to 1 4096) number
  Ok (Some sensor)

abbrev pub block_keys : List Key
block_keys = key.Name ∷ key.Length ∷ key.Sensor ∷ key.A ∷ key.B ∷ []

abbrev pub block_in : Members → Result BlockEntry Reason
block_in given = do
  table ← only block_keys given
  name ← name_in table
  size ← number_at key.Length (from_to 1 100000) table
  sensor ← sensor_or_none (value_at key.Sensor table)
  point_a ← point_at key.A table
  point_b ← point_at key.B table
  Ok (record { name = name; length = size; sensor = sensor; point_a = point_a; point_b = point_b })

-- Ends: the name of a block, and `.a` or `.b`.

-- the end of a block of this name that is spelled so
abbrev pub end_named : (name : Text) → Text → Option End
end_named name text =
    if bytes_eq text (name ++ codes ".a") then Some A else
    (if bytes_eq text (name ++ codes ".b") then Some B else None)

abbrev pub found_or : ℕ → Option BlockEnd → Option End → Option BlockEnd
found_or i others None = others
found_or i others (Some end) = Some (record { block = i; end = end })

-- the end that is spelled so, among blocks with these names; the first of them has this index
abbrev pub end_from : ℕ → List Text → Text → Option BlockEnd
end_from i [] text = None
end_from i (name ∷ names) text = found_or i (end_from (i + 1) names text) (end_named name text)

-- the end at a key, and at an index there
abbrev pub end_of : Key → (index : ℕ) → List Text → Text → Result BlockEnd Reason
end_of k index blocks text = or_fault (end_from 0 blocks text) (UnknownEnd k index)

abbrev pub end_at : List Text → Key → Members → Result BlockEnd Reason
end_at blocks k table = text_at k table >>= end_of k 0 blocks

-- Joints: two ends.

abbrev pub text_of_item : Data → Result Text Reason
text_of_item value = or_fault (as_str value) (BadKey key.Ends)

abbrev pub joint_of : List Text → Items → Result Joint Reason
joint_of blocks no_items = Err (BadKey key.Ends)
joint_of blocks (item one no_items) = Err (BadKey key.Ends)
joint_of blocks (item first (item second no_items)) = do
  one_text ← text_of_item first
  two_text ← text_of_item second
  one ← end_of key.Ends 0 blocks one_text
  two ← end_of key.Ends 1 blocks two_text
  Ok (record { one = one; two = two })
joint_of blocks (item one (item two (item more items))) = Err (BadKey key.Ends)

abbrev pub joint_in : List Text → Members → Result Joint Reason
joint_in blocks given = do
  table ← only (key.Ends ∷ []) given
  ends ← or_fault (option_and_then as_array (value_at key.Ends table)) (BadKey key.Ends)
  joint_of blocks ends

-- Turnouts: the number of the switch, as throttles show it, three ends, and how long it moves from one
-- side to the other, in milliseconds.

-- the time may be left out: then the turnout moves at once
abbrev pub time_or_none : Option Data → Result ℕ Reason
time_or_none None = Ok 0
time_or_none (Some value) =
    or_fault (as_integer value) (BadKey key.Time) >>= in_range key.Time (from_to 0 10000)

-- a turnout has no feedback if it is left out
abbrev pub feedback_or_none : Option Data → Result Bool Reason
feedback_or_none None = Ok false
feedback_or_none (Some value) = or_fault (as_bool value) (BadKey key.Feedback)

abbrev pub turnout_keys : List Key
turnout_keys =
    key.Switch ∷ key.Common ∷ key.Closed ∷ key.Thrown ∷ key.Time ∷ key.Feedback ∷ []

abbrev pub turnout_in : List Text → Members → Result Turnout Reason
turnout_in blocks given = do
  table ← only turnout_keys given
  switch ← number_at key.Switch (from_to 1 2040) table
  common ← end_at blocks key.Common table
  closed ← end_at blocks key.Closed table
  thrown ← end_at blocks key.Thrown table
  time ← time_or_none (value_at key.Time table)
  has_feedback ← feedback_or_none (value_at key.Feedback table)
  Ok (record {
    switch = switch;
    common = common;
    closed = closed;
    thrown = thrown;
    time = time;
    has_feedback = has_feedback;
  })

-- Trains: the decoder by its name in the roster, the block, how far the front is from end A, the
-- end that it faces, the length, the speed at the last step, and how fast it gathers speed and brakes.

-- the index of the first of these names that is this one; that of the first is `i`
abbrev pub index_from : ℕ → List Text → Text → Option ℕ
index_from i [] name = None
index_from i (first ∷ names) name = if bytes_eq name first then Some i else index_from (i + 1) names name

abbrev pub facing_of : Text → Option End
facing_of text =
    if bytes_eq text (codes "a") then Some A else (if bytes_eq text (codes "b") then Some B else None)

abbrev pub decoder_at : (decoders : List Text) → Members → Result ℕ Reason
decoder_at decoders table =
    text_at key.Decoder table >>= (λ name. or_fault (index_from 0 decoders name) UnknownDecoder)

abbrev pub block_at : (blocks : List Text) → Members → Result ℕ Reason
block_at blocks table =
    text_at key.Block table >>= (λ name. or_fault (index_from 0 blocks name) UnknownBlock)

abbrev pub facing_at : Members → Result End Reason
facing_at table =
    text_at key.Facing table >>= (λ end. or_fault (facing_of end) (BadKey key.Facing))

-- a rate may be left out
abbrev pub rate_or_none : Key → Option Data → Result (Option ℕ) Reason
rate_or_none k None = Ok None
rate_or_none k (Some value) = do
  number ← or_fault (as_integer value) (BadKey k)
  rate ← in_range k (from_to 1 65535) number
  Ok (Some rate)

-- both rates, or none
abbrev pub momentum_of : (acceleration braking : Option ℕ) → Result (Option Momentum) Reason
momentum_of None None = Ok None
momentum_of (Some acceleration) (Some braking) =
    Ok (Some (record { acceleration = acceleration; braking = braking }))
momentum_of None (Some braking) = Err (BadKey key.Acceleration)
momentum_of (Some acceleration) None = Err (BadKey key.Braking)

abbrev pub momentum_at : Members → Result (Option Momentum) Reason
momentum_at table = do
  acceleration ← rate_or_none key.Acceleration (value_at key.Acceleration table)
  braking ← rate_or_none key.Braking (value_at key.Braking table)
  momentum_of acceleration braking

abbrev pub train_keys : List Key
train_keys =
    key.Decoder ∷ key.Block ∷ key.Front ∷ key.Facing ∷ key.Length ∷ key.Speed
    ∷ key.Acceleration ∷ key.Braking ∷ []

abbrev pub train_in : (decoders blocks : List Text) → Members → Result Train Reason
train_in decoders blocks given = do
  table ← only train_keys given
  decoder ← decoder_at decoders table
  block ← block_at blocks table
  at ← number_at key.Front (from_to 0 100000) table
  facing ← facing_at table
  size ← number_at key.Length (from_to 1 65535) table
  top ← number_at key.Speed (from_to 0 65535) table
  momentum ← momentum_at table
  Ok (record {
    decoder = decoder;
    top = top;
    length = size;
    momentum = momentum;
    position = record { block = block; at = at; facing = facing };
  })

-- Arrays of tables. Their members count from 1 in faults.

abbrev pub in_section : {A : Type 0} → Section → Result A Reason → Result A PlanTextFault
in_section place (Ok x) = Ok x
in_section place (Err why) = Err (record { section = place; why = why; names = None })

abbrev pub table_of : Data → Result Members Reason
table_of value = or_fault (as_table value) NotTable

abbrev pub part_of : {A : Type 0} → (Members → Result A Reason) → Data → Result A Reason
part_of of_table value = table_of value >>= of_table

-- the parts of these members, after those before them
abbrev pub parts_after : {A : Type 0} → (Members → Result A Reason) → (ℕ → Section) → List A → Items → Result (List A) PlanTextFault
parts_after of_table place earlier no_items = Ok earlier
parts_after of_table place earlier (item value items) =
    in_section (place (length earlier + 1)) (part_of of_table value)
    >>= (λ part. parts_after of_table place (earlier ++ part ∷ []) items)

-- The top level: `version`, which is 1, and four arrays, which may be left out. Their members are
-- counted before they are looked at.

abbrev pub array_or_none : Key → Option Data → Result Items Reason
array_or_none k None = Ok no_items
array_or_none k (Some value) = or_fault (as_array value) (BadKey k)

abbrev pub counted : (most : ℕ) → Key → Items → Result Items Reason
counted most k items = if nat_lt most (items_len items) then Err (TooMany k) else Ok items

abbrev pub items_at : (most : ℕ) → Key → Members → Result Items Reason
items_at most k table = array_or_none k (value_at k table) >>= counted most k

abbrev pub top_keys : List Key
top_keys = key.Version ∷ key.Block ∷ key.Joint ∷ key.Turnout ∷ key.Train ∷ []

-- the version of a table with these keys, 1
abbrev pub version_in : Members → Result ℕ Reason
version_in given = only top_keys given >>= number_at key.Version (from_to 1 1)

-- What the arrays say, each by its members, a table, and a text; `decoders` are the names of the
-- layout's decoders, `blocks` those of the plan's blocks.

abbrev pub blocks_in : Items → Result (List BlockEntry) PlanTextFault
blocks_in = parts_after block_in section.Block []

-- no block has the name of a later one; the first of them has this number
abbrev pub named_apart : (number : ℕ) → (blocks : List Text) → Result (Unit {0}) PlanTextFault
named_apart number [] = Ok tt
named_apart number (name ∷ names) =
    if is_some (index_from 0 names name)
    then Err (record { section = section.Block number; why = RepeatedName; names = None })
    else named_apart (number + 1) names

abbrev pub joints_in : (blocks : List Text) → Items → Result (List Joint) PlanTextFault
joints_in blocks = parts_after (joint_in blocks) section.Joint []

abbrev pub turnouts_in : (blocks : List Text) → Items → Result (List Turnout) PlanTextFault
turnouts_in blocks = parts_after (turnout_in blocks) section.Turnout []

abbrev pub trains_in : (decoders blocks : List Text) → Items → Result (List Train) PlanTextFault
trains_in decoders blocks = parts_after (train_in decoders blocks) section.Train []

abbrev pub plan_with : (decoders : List Text) → (blocks joints turnouts trains : Items)
    → Result PlanEntries PlanTextFault
plan_with decoders block_items joint_items turnout_items train_items = do
  blocks ← blocks_in block_items
  apart ← named_apart 1 (map name_of blocks)
  joints ← joints_in (map name_of blocks) joint_items
  turnouts ← turnouts_in (map name_of blocks) turnout_items
  trains ← trains_in decoders (map name_of blocks) train_items
  Ok (record { blocks = blocks; joints = joints; turnouts = turnouts; trains = trains })

abbrev pub plan_of : (decoders : List Text) → Members → Result PlanEntries PlanTextFault
plan_of decoders table = do
  version ← in_section section.Whole (version_in table)
  blocks ← in_section section.Whole (items_at 64 key.Block table)
  joints ← in_section section.Whole (items_at 128 key.Joint table)
  turnouts ← in_section section.Whole (items_at 64 key.Turnout table)
  trains ← in_section section.Whole (items_at 64 key.Train table)
  plan_with decoders blocks joints turnouts trains

unfoldable pub plan_in : (decoders : List Text) → (text : Text) → Result PlanEntries PlanTextFault
plan_in decoders text = in_section section.Whole (or_fault (table_in text) NotToml) >>= plan_of decoders
