-- How a turnout lies, as clients are told (own).
use Rattle.std.specs.Prelude.{ℕ, List, ◌++◌, codes, if◌then◌else◌}
use Rattle.std.specs.Fmt.{decimal}
use Rattle.railway.specs.declared.joint.TurnoutState.{TurnoutState}
use Rattle.railway.specs.Network.{is_moving}

-- the side at which it lies, if it does not move
abbrev pub side_of : TurnoutState → List ℕ
side_of state =
    if is_moving state then codes "moving" else
    (if state.is_thrown then codes "thrown" else codes "closed")

abbrev pub turnout_line : TurnoutState → List ℕ
turnout_line state =
    codes "TURNOUT " ++ decimal state.turnout.switch ++ codes " " ++ side_of state
