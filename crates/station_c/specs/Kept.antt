-- What the handle of a layout in a program in C owns: all that a box of the layout owns.
use Rattle.std.specs.Prelude.{Bool, true, false}
use base.Fml.{Fml, ftrue}
use base.Stored.{Coded}
use denote.RawPtr.{Ptr}
use Rattle.std.specs.Box.Ownership.{box_owns}
use Rattle.std.specs.Global.{Global}
use Rattle.std.specs.contracts.prelude.GlobalAllocator.TheImpl.{ghosts}
use Rattle.station_c.specs.contracts.contents.Contents.{the_row}

-- nothing if there is no layout
abbrev pub kept_owns : (made : Bool) → Global → Ptr → the_row.Denot → Fml
kept_owns true alloc at contents = box_owns (ghosts.dealloc_token alloc) the_row at contents
kept_owns false alloc at contents = ftrue

abbrev pub contents_coded : Coded the_row.Denot
contents_coded = the_row.coded
