use Rattle.std.proofs.Common.{ℕ, ◌≡◌, ◌≤◌, Option, ap, length, subst, sym, ◌∙◌}
use Rattle.std.specs.Prelude.{unwrap_or}
use Rattle.bus_server.specs.Placement.{block_named}
use Rattle.bus_server.proofs.Naming.{first_or_length, first_within}
use Rattle.bus_server.proofs.placement.block_named.Goals as goal

named : (c : goal.After-unwrap_or) → c.unwrap_or.result ≡ block_named c.args.blocks.now c.args.name.now
named c = c.unwrap_or.ensures ∙ ap (λ (found : Option ℕ). unwrap_or found (length c.args.blocks.now)) c.first_block.ensures ∙ first_or_length _ c.args.blocks.now

pub returns-clause-index : goal.returns-clause-index
returns-clause-index c = named c

pub returns-clause-within : goal.returns-clause-within
returns-clause-within c = subst (λ (index : ℕ). index ≤ length c.args.blocks.now) (sym (named c)) (first_within _ c.args.blocks.now)
