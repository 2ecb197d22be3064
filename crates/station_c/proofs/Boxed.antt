-- The box of a layout, as a walk sees it.
use mir.Syntax.{impl, tnil, dnil}
use mathlib.Core.List.{[]}
use Rattle.std.specs.Prelude.{None}
use Rattle.station_core.specs.Seen.{first_seen}
use denote.Signature.{Slot, plain}
use Rattle.std.proofs.BoxSteps.Form.{Bx}
use Rattle.std.specs.contracts.alloc.Global as global
use Rattle.std.specs.contracts.impls.GlobalAllocator.TheImpl.{ghosts, dict}
use Rattle.std.proofs.alloc.Global.TheLaws as global_laws
use Rattle.station_c.specs.contracts.contents.Contents as contents
use Rattle.station_c.proofs.contents.Contents.TheLaws as contents_laws
use Rattle.station_c.specs.contracts.raw.Raw as raws
use Rattle.station_c.specs.contracts.kept_contents.KeptContents as held

abbrev pub E : Bx
E = record { row = contents.the_row; laws = contents_laws.the_row_laws; al = record { row = global.the_row; laws = global_laws.the_row_laws; g = ghosts; d = dict; drops = impl [] tnil dnil } }

abbrev pub AsRaw : Slot 0
AsRaw = plain (λ _. raws.the_row contents.the_row global.the_row ghosts)

abbrev pub AsKept : Slot 0
AsKept = plain (λ _. held.the_row)

-- a value if there is no layout
abbrev pub no_contents : contents.the_row.Denot
no_contents = record { world = record { station = first_seen 1; nodes = [] }; railway = None }
