-- The set of the named nodes, node by node.
use Rattle.std.proofs.Common.{◌≡◌, ℕ, List, [], ◌∷◌, Result, Ok, Err, refl}
use Rattle.show_text.specs.declared.command.ScriptFaultKind.{ScriptFaultKind}
use Rattle.text.specs.Sequence.{followed_by}
use Rattle.show_text.specs.Script.{with_node, set_with}

pub one_more : (set i : ℕ) (more : Result (List ℕ) ScriptFaultKind) → set_with set (followed_by (Ok (i ∷ [])) more) ≡ set_with (with_node set i) more
one_more set i (Ok named) = refl
one_more set i (Err why) = refl

pub ruleset node_steps = (one_more)
