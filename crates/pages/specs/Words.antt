-- The words of the messages to a page about a track plan, as docs/PAGES.md has them.
use Rattle.std.specs.Prelude.{ℕ, suc, ℤ, pos, negsuc, List, [], ◌++◌, Option, Some, None, codes}
use Rattle.std.specs.Fmt.{decimal}
use Rattle.railway.specs.declared.block.Block.{Block}
use Rattle.railway.specs.declared.block.BlockEnd.{BlockEnd}
use Rattle.railway.specs.declared.block.End.{End}
use Rattle.railway.specs.declared.block.Point.{Point}
use Rattle.railway_text.specs.Words.{letter_of, name_in}

-- an end of a block, as `main.a`
abbrev pub end_text : List Block → BlockEnd → List ℕ
end_text blocks end = name_in blocks end.block ++ codes "." ++ letter_of end.end

abbrev pub integer_text : ℤ → List ℕ
integer_text (pos n) = decimal n
integer_text (negsuc n) = codes "-" ++ decimal (suc n)

-- where an end of a block is drawn, if the plan says so
abbrev pub point_text : (end : End) → Option Point → List ℕ
point_text end None = []
point_text end (Some point) =
    codes " " ++ letter_of end ++ codes " " ++ integer_text point.x ++ codes " "
    ++ integer_text point.y
