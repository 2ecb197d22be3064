-- The states and messages of items, by their index.
use Rattle.std.proofs.Common.{◌≡◌, ◌<◌, ◌≤◌, ◌+◌, ◌-◌, ◌∙◌, ℕ, zero, suc, List, [], ◌∷◌, ◌++◌, length, length-append, map, get_or, Option, Some, None, refl, ap, ap₂, sym, arith, replicate}
use Rattle.std.proofs.lemmas.List.{length-map, length-replicate}
use Rattle.std.specs.Prelude.{slice_get}
use Rattle.layout_core.specs.declared.node.Node.{Node}
use Rattle.layout_core.specs.Nodes.{spec_of}
use Rattle.layout_core.specs.DecoderStates.{decoder_state_of}
use Rattle.railway.specs.Railway.{RailwayState}
use Rattle.roster.specs.Entry.{Entry, spec_of as entry_spec}
use Rattle.pages.specs.declared.items.ItemState.{ItemState}
use Rattle.pages.specs.declared.items.ItemState.TheVariants.{Part}
use Rattle.pages.specs.Items.{block_message, decoder_messages, item_messages, item_states, joint_message, message_of_train, node_message, parts_of, plan_messages, plan_states, state_of_decoder, state_of_train, state_of_turnout, turnout_message}

-- the messages of decoders, and those behind them
as-many : (entries : List Entry) (nodes : List Node) → map spec_of nodes ≡ map entry_spec entries → length nodes ≡ length entries
as-many entries nodes are = sym (length-map nodes spec_of) ∙ ap length are ∙ length-map entries entry_spec

front : (entries : List Entry) (nodes : List Node) (ys : List (List ℕ)) (i : ℕ) (text : List ℕ) → i < length nodes → length nodes ≡ length entries
    → ((entry : Entry) → (node : Node) → text ≡ node_message (get_or entries i entry) (decoder_state_of (get_or nodes i node))) → text ≡ get_or (decoder_messages entries nodes ++ ys) i []
front [] nodes ys i text below many is = absurd (omega (arith, below, many))
front (e ∷ entries) [] ys i text below many is = absurd (omega (arith, below))
front (e ∷ entries) (n ∷ nodes) ys zero text below many is = is e n
front (e ∷ entries) (n ∷ nodes) ys (suc i) text below many is = front entries nodes ys i text (omega (arith, below)) (omega (arith, many)) is

behind : (entries : List Entry) (nodes : List Node) (ys : List (List ℕ)) (i : ℕ) (text : List ℕ) → length nodes ≤ i → length nodes ≡ length entries → text ≡ get_or ys (i - length nodes) [] → text ≡ get_or (decoder_messages entries nodes ++ ys) i []
behind [] [] ys i text over many is = let same : i - 0 ≡ i = omega arith in is ∙ ap (λ (n : ℕ). get_or ys n []) same
behind [] (n ∷ nodes) ys i text over many is = absurd (omega (arith, many))
behind (e ∷ entries) [] ys i text over many is = absurd (omega (arith, many))
behind (e ∷ entries) (n ∷ nodes) ys zero text over many is = absurd (omega (arith, over))
behind (e ∷ entries) (n ∷ nodes) ys (suc i) text over many is =
    let same : suc i - length (n ∷ nodes) ≡ i - length nodes = omega arith in behind entries nodes ys i text (omega (arith, over)) (omega (arith, many)) (is ∙ ap (λ (n : ℕ). get_or ys n []) same)

pub decoder-front : (entries : List Entry) (nodes : List Node) (ys : List (List ℕ)) (i : ℕ) (text : List ℕ) → i < length nodes → map spec_of nodes ≡ map entry_spec entries
    → ((entry : Entry) → (node : Node) → text ≡ node_message (get_or entries i entry) (decoder_state_of (get_or nodes i node))) → text ≡ get_or (decoder_messages entries nodes ++ ys) i []
decoder-front entries nodes ys i text below are is = front entries nodes ys i text below (as-many entries nodes are) is

pub decoder-behind : (entries : List Entry) (nodes : List Node) (ys : List (List ℕ)) (i : ℕ) (text : List ℕ) → length nodes ≤ i → map spec_of nodes ≡ map entry_spec entries → text ≡ get_or ys (i - length nodes) [] → text ≡ get_or (decoder_messages entries nodes ++ ys) i []
decoder-behind entries nodes ys i text over are is = behind entries nodes ys i text over (as-many entries nodes are) is

-- the states of the first list, and those behind it
pub state-front : {A : Type 0} (f : A → ItemState) (xs : List A) (ys : List ItemState) (i : ℕ) (s : ItemState) → i < length xs → ((x : A) → s ≡ f (get_or xs i x)) → Some s ≡ slice_get (map f xs ++ ys) i
state-front f [] ys i s below is = absurd (omega (arith, below))
state-front f (x ∷ xs) ys zero s below is = ap (λ (s : ItemState). Some s) (is x)
state-front f (x ∷ xs) ys (suc i) s below is = state-front f xs ys i s (omega (arith, below)) is

pub state-behind : {A : Type 0} (f : A → ItemState) (xs : List A) (ys : List ItemState) (i : ℕ) (s : Option ItemState) → length xs ≤ i → s ≡ slice_get ys (i - length xs) → s ≡ slice_get (map f xs ++ ys) i
state-behind f [] ys i s over is = let same : i - 0 ≡ i = omega arith in is ∙ ap (λ (n : ℕ). slice_get ys n) same
state-behind f (x ∷ xs) ys zero s over is = absurd (omega (arith, over))
state-behind f (x ∷ xs) ys (suc i) s over is =
    let same : suc i - length (x ∷ xs) ≡ i - length xs = omega arith in state-behind f xs ys i s (omega (arith, over)) (is ∙ ap (λ (n : ℕ). slice_get ys n) same)

-- the number of items
pub length-plan_states : (railway : RailwayState) → length (plan_states railway) ≡ parts_of railway.network + length railway.network.turnouts + length railway.trains
length-plan_states railway =
    let network = railway.network in
    let turnouts = map state_of_turnout network.turnouts in
    let trains = map (state_of_train network) railway.trains in
    omega (
      arith,
      length-append (replicate (parts_of network) Part) (turnouts ++ trains),
      length-append turnouts trains,
      length-replicate (parts_of network) Part,
      length-map network.turnouts state_of_turnout,
      length-map railway.trains (state_of_train network),
    )

pub length-item_states : (nodes : List Node) (railway : RailwayState)
    → length (item_states nodes (Some railway)) ≡ length nodes + (parts_of railway.network + length railway.network.turnouts + length railway.trains)
length-item_states nodes railway =
    length-append (map state_of_decoder nodes) (plan_states railway)
    ∙ ap₂ ◌+◌ (length-map nodes state_of_decoder) (length-plan_states railway)

pub length-no_plan : (nodes : List Node) → length (item_states nodes None) ≡ length nodes
length-no_plan nodes =
    let sum = length-append (map state_of_decoder nodes) [] in
    omega (arith, sum, length-map nodes state_of_decoder)

length-plan_messages : (entries : List Entry) (railway : RailwayState) → length (plan_messages entries railway) ≡ parts_of railway.network + length railway.network.turnouts + length railway.trains
length-plan_messages entries railway =
    let network = railway.network in
    let trains = map (message_of_train entries network) railway.trains in
    let turnouts = map (turnout_message network.blocks) network.turnouts in
    let joints = map (joint_message network.blocks) network.joints in
    omega (
      arith,
      length-append (map block_message network.blocks) (joints ++ (turnouts ++ trains)),
      length-append joints (turnouts ++ trains),
      length-append turnouts trains,
      length-map network.blocks block_message,
      length-map network.joints (joint_message network.blocks),
      length-map network.turnouts (turnout_message network.blocks),
      length-map railway.trains (message_of_train entries network),
    )

length-decoder_messages : (entries : List Entry) (nodes : List Node) → length nodes ≡ length entries → length (decoder_messages entries nodes) ≡ length nodes
length-decoder_messages [] nodes many = sym many
length-decoder_messages (e ∷ entries) [] many = refl
length-decoder_messages (e ∷ entries) (n ∷ nodes) many = ap suc (length-decoder_messages entries nodes (omega (arith, many)))

-- each item has a message
pub each-has : (entries : List Entry) (nodes : List Node) (railway : Option RailwayState) → map spec_of nodes ≡ map entry_spec entries → length (item_states nodes railway) ≡ length (item_messages entries nodes railway)
each-has entries nodes None are =
    omega (arith, length-no_plan nodes, length-append (decoder_messages entries nodes) [], length-decoder_messages entries nodes (as-many entries nodes are))
each-has entries nodes (Some railway) are =
    omega (arith, length-item_states nodes railway, length-append (decoder_messages entries nodes) (plan_messages entries railway), length-plan_messages entries railway, length-decoder_messages entries nodes (as-many entries nodes are))
