-- The blocks of a track plan, and their ends.
use Rattle.std.specs.Prelude.{ℕ, ◌*◌, ◌==◌, ◌&&◌, Bool, true, false, nat_eq, nat_le, not, replicate, List, [], ◌∷◌, length, Option, Some, None}
use Rattle.std.specs.List.{list_any, slice_index_or}
use Rattle.std.specs.Option.{option_eq}
use Rattle.std.specs.Cmp.Lexicographic.{pointwise}
use Rattle.ln_ops.specs.Sensor.{is_sensor}
use Rattle.railway.specs.declared.block.Block.{Block}
use Rattle.railway.specs.declared.block.BlockEnd.{BlockEnd}
use Rattle.railway.specs.declared.block.End.{End}
use Rattle.railway.specs.declared.block.End.TheVariants.{A, B}

-- the other end
abbrev pub other : End → End
other A = B
other B = A

abbrev pub same_end : End → End → Bool
same_end A A = true
same_end A B = false
same_end B A = false
same_end B B = true

abbrev pub same_block_end : BlockEnd → BlockEnd → Bool
same_block_end one two = one.block == two.block && same_end one.end two.end

abbrev pub default_end : BlockEnd
default_end = record { block = 0; end = A }

-- a block without a name
abbrev pub default_block : Block
default_block = record {
  name = record { bytes = []; spare = [] };
  length = 1;
  sensor = None;
  point_a = None;
  point_b = None;
}

-- the sensor of a block, if it has one, is one of 1 to 4096
abbrev pub is_block_sensor : Option ℕ → Bool
is_block_sensor None = true
is_block_sensor (Some sensor) = is_sensor sensor

-- a block is 1 to 100,000 millimetres long
abbrev pub is_length : ℕ → Bool
is_length length = nat_le 1 length && nat_le length 100000

abbrev pub is_block : Block → Bool
is_block block = is_length block.length && is_block_sensor block.sensor

-- one of the blocks has the sensor
abbrev pub has_sensor : (sensor : ℕ) → List Block → Bool
has_sensor sensor blocks = list_any (λ block. option_eq nat_eq block.sensor (Some sensor)) blocks

abbrev pub is_free : Option ℕ → List Block → Bool
is_free None blocks = true
is_free (Some sensor) blocks = not (has_sensor sensor blocks)

-- no two blocks have the same sensor
abbrev pub are_distinct : List Block → Bool
are_distinct [] = true
are_distinct (block ∷ blocks) = is_free block.sensor blocks && are_distinct blocks

-- the name of a block, empty if there is none
abbrev pub block_name : Option Block → List ℕ
block_name None = []
block_name (Some block) = block.name.bytes

abbrev pub same_name : Block → Block → Bool
same_name one two = pointwise nat_eq one.name.bytes two.name.bytes

-- none of the blocks of a plan, of which there are at most 64
abbrev pub no_blocks : List Bool
no_blocks = replicate 64 false

-- the length of a block in femtometres
abbrev pub length_of : List Block → (block : ℕ) → ℕ
length_of blocks block = (slice_index_or blocks block default_block).length * 1000000000000
