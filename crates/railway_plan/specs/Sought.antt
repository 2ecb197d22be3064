-- The parts of a plan that are looked for: by a value at a key, or by an end that they name.
use Rattle.std.specs.Prelude.{Bool}
use Rattle.toml.specs.Data.{Data}
use Rattle.toml.specs.View.{view}
use Rattle.railway_plan.specs.declared.repeating.Sought.{Sought}
use Rattle.railway_plan.specs.declared.repeating.Sought.TheVariants.{Value, JointEnd, TurnoutEnd}
use Rattle.railway_plan.specs.Details.{has_value, joint_names, turnout_names}

abbrev pub is_sought : Sought → (Data → Bool)
is_sought (Value key wanted) = has_value key (view wanted.now)
is_sought (JointEnd end) = joint_names end.now
is_sought (TurnoutEnd end) = turnout_names end.now
