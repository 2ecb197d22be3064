-- The state of the decoder of a line (own), word by word. A word ends at the next space.
use Rattle.std.specs.Prelude.{ℕ, ◌+◌, ◌==◌, ◌||◌, ◌&&◌, nat_le, nat_eq, not, Bool, true, false, if◌then◌else◌, List, [], ◌∷◌, Option, Some, None, codes, length, take, drop}
use Rattle.std.specs.List.{list_all, position_or_len, slice_index, starts_with}
use Rattle.std.specs.Str.{bytes_eq}
use Rattle.dcc_packet.specs.Address.{is_legal}
use Rattle.dcc_packet.specs.Module.{is_module}
use Rattle.dcc_packet.specs.declared.address.Address.{Address}
use Rattle.dcc_packet.specs.declared.address.Address.TheVariants.{Short, Long}
use Rattle.dcc_packet.specs.declared.steps.Steps.{Steps}
use Rattle.dcc_packet.specs.declared.steps.Steps.TheVariants.{S14, S28, S128}
use Rattle.dcc_packet.specs.declared.steps.Motion.{Motion}
use Rattle.dcc_packet.specs.declared.steps.Motion.TheVariants.{Stop, Emergency, Step}
use Rattle.text.specs.Names.{is_name_byte}
use Rattle.text.specs.Decimal.{decimal_of}
use Rattle.trace.specs.declared.reported_state.ReportedState.{ReportedState}
use Rattle.trace.specs.declared.reported_state.ReportedState.TheVariants.{Loco, Accessory}
use Rattle.trace.specs.declared.reported_state.Seen.{Seen}

-- the first word, up to a space, is `node`
abbrev pub is_of_node : List ℕ → Bool
is_of_node line = bytes_eq line (codes "node") || starts_with nat_eq line (codes "node ")

-- the first word
unfoldable pub word_of : List ℕ → List ℕ
word_of text = take (position_or_len (λ b. b == 32) text) text

-- the text after the first word and its space
unfoldable pub rest_after : List ℕ → List ℕ
rest_after text = drop (position_or_len (λ b. b == 32) text + 1) text

-- a name: 1 to 16 of these
abbrev pub is_name : List ℕ → Bool
is_name name = nat_le 1 (length name) && nat_le (length name) 16 && list_all is_name_byte name

-- decimal digits without leading zeros
abbrev pub is_plain : List ℕ → Bool
is_plain [] = false
is_plain (b ∷ []) = true
is_plain (b ∷ c ∷ bs) = not (b == 48)

abbrev pub number_of : List ℕ → Option ℕ
number_of word = if is_plain word then decimal_of word else None

-- `count` digits, each 0 or 1
abbrev pub is_bit : ℕ → Bool
is_bit b = b == 48 || b == 49

abbrev pub switches_of : ℕ → List ℕ → Option (List ℕ)
switches_of count text = if (length text == count) && list_all is_bit text then Some text else None

-- the address after `short` or `long`
abbrev pub short_of : Option ℕ → Option Address
short_of (Some number) = if is_legal (Short number) then Some (Short number) else None
short_of None = None

abbrev pub long_of : Option ℕ → Option Address
long_of (Some number) = if is_legal (Long number) then Some (Long number) else None
long_of None = None

abbrev pub address_of : List ℕ → List ℕ → Option Address
address_of kind number =
    if bytes_eq kind (codes "short") then short_of (number_of number) else
    (if bytes_eq kind (codes "long") then long_of (number_of number) else None)

-- the printed number of the steps
abbrev pub steps_of : List ℕ → Option Steps
steps_of word =
    if bytes_eq word (codes "14") then Some S14 else
    (if bytes_eq word (codes "28") then Some S28 else
    (if bytes_eq word (codes "128") then Some S128 else None))

-- the last step: that of the steps printed as 128 is 126
abbrev pub last_of : Steps → ℕ
last_of S14 = 14
last_of S28 = 28
last_of S128 = 126

abbrev pub step_of : Option ℕ → Bool → Option Steps → Option Motion
step_of (Some n) true (Some steps) = if nat_le 1 n && nat_le n (last_of steps) then Some (Step steps n) else None
step_of (Some n) true None = None
step_of (Some n) false steps = None
step_of None of steps = None

-- `stop`, `emergency` or `step N of M`
abbrev pub motion_of : List ℕ → Option Motion
motion_of text =
    if bytes_eq (word_of text) (codes "stop") then Some Stop else
    (if bytes_eq (word_of text) (codes "emergency") then Some Emergency else
    (if bytes_eq (word_of text) (codes "step")
    then step_of (number_of (word_of (rest_after text))) (bytes_eq (word_of (rest_after (rest_after text))) (codes "of")) (steps_of (word_of (rest_after (rest_after (rest_after text)))))
    else None))

abbrev pub after_motion : List ℕ → List ℕ
after_motion text = if bytes_eq (word_of text) (codes "step") then rest_after (rest_after (rest_after (rest_after text))) else rest_after text

-- whether it runs forward
abbrev pub direction_of : List ℕ → Option Bool
direction_of word =
    if bytes_eq word (codes "forward") then Some true else
    (if bytes_eq word (codes "reverse") then Some false else None)

abbrev pub loco_with : Option Address → Option Motion → Option Bool → Bool → Option (List ℕ) → Option ReportedState
loco_with (Some address) (Some motion) (Some forward) true (Some functions) = Some (Loco address motion forward functions)
loco_with (Some address) (Some motion) (Some forward) true None = None
loco_with (Some address) (Some motion) (Some forward) false functions = None
loco_with (Some address) (Some motion) None letter functions = None
loco_with (Some address) None forward letter functions = None
loco_with None motion forward letter functions = None

abbrev pub direction_in : Option Address → Option Motion → List ℕ → Option ReportedState
direction_in address motion text =
    loco_with address motion (direction_of (word_of text)) (bytes_eq (word_of (rest_after text)) (codes "F")) (switches_of 13 (rest_after (rest_after text)))

-- `short A` or `long A`, how it runs, and its functions F0 to F12
abbrev pub loco_of : List ℕ → Option ReportedState
loco_of text =
    direction_in (address_of (word_of text) (word_of (rest_after text))) (motion_of (rest_after (rest_after text))) (after_motion (rest_after (rest_after text)))

abbrev pub accessory_with : Option ℕ → Bool → Option (List ℕ) → Option ReportedState
accessory_with (Some number) true (Some outputs) = if is_module number then Some (Accessory number outputs) else None
accessory_with (Some number) true None = None
accessory_with (Some number) false outputs = None
accessory_with None word outputs = None

-- its module and its outputs 0 to 7
abbrev pub accessory_of : List ℕ → Option ReportedState
accessory_of text =
    accessory_with (number_of (word_of (rest_after text))) (bytes_eq (word_of (rest_after (rest_after text))) (codes "outputs")) (switches_of 8 (rest_after (rest_after (rest_after text))))

abbrev pub reported_state_of : List ℕ → Option ReportedState
reported_state_of text = if bytes_eq (word_of text) (codes "module") then accessory_of text else loco_of text

abbrev pub seen_with : List ℕ → Option ReportedState → Option Seen
seen_with name (Some reported_state) = if is_name name then Some (record { name = name; reported_state = reported_state }) else None
seen_with name None = None

-- `node NAME` and the state of that decoder
abbrev pub node_of : List ℕ → Option Seen
node_of line =
    if bytes_eq (word_of line) (codes "node") then seen_with (word_of (rest_after line)) (reported_state_of (rest_after (rest_after line))) else None

-- the switch of this number, from 0, is on
abbrev pub is_on : List ℕ → ℕ → Bool
is_on digits place = slice_index digits place == 49
