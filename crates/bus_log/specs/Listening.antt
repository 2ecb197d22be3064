-- The lines that report where a server listens, in the words of docs/CLIENTS.md.
use Rattle.std.specs.Prelude.{ℕ, List, [], ◌∷◌, ◌++◌, Option, Some, None, codes}
use Rattle.std.specs.declared.net.socket_addr.SocketAddr.{SocketAddr}
use Rattle.std.specs.Net.Text.{socket_text}

-- the address for programs
abbrev pub bus_line : SocketAddr → List ℕ
bus_line bus = codes "listening " ++ socket_text bus

-- the address of the page, if one is served
abbrev pub page_lines : Option SocketAddr → List (List ℕ)
page_lines (Some page) = (codes "page http://" ++ socket_text page ++ codes "/") ∷ []
page_lines None = []
