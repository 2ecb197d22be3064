-- The words of a line.
use Rattle.std.specs.Prelude.{ℕ, List, codes, slice_get}
use Rattle.railway.specs.declared.block.Block.{Block}
use Rattle.railway.specs.declared.block.End.{End}
use Rattle.railway.specs.declared.block.End.TheVariants.{A, B}
use Rattle.railway.specs.Blocks.{block_name}

abbrev pub letter_of : End → List ℕ
letter_of A = codes "a"
letter_of B = codes "b"

-- a block of the plan, by its index from 0
abbrev pub name_in : List Block → (block : ℕ) → List ℕ
name_in blocks block = block_name (slice_get blocks block)
