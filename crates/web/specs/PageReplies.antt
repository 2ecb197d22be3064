-- The response that holds the page (RFC 9112, section 2.1).
use Rattle.std.specs.Prelude.{ℕ, List, [], ◌++◌}

pub record PageParts : Type 0 where
  pub head : List ℕ
  pub content : List ℕ

-- no response
abbrev pub no_page : PageParts
no_page = record { head = []; content = [] }

-- the whole response
abbrev pub whole : PageParts → List ℕ
whole page = page.head ++ page.content
