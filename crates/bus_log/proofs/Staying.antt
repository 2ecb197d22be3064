-- Nothing is printed of trains that stay where they are.
use Rattle.std.proofs.Common.{◌≡◌, ◌<◌, ◌≤◌, ◌+◌, ◌-◌, ◌∙◌, ℕ, zero, suc, Bool, true, false, if◌then◌else◌, inl, inr, List, [], ◌∷◌, ◌++◌, length, Option, Some, None, refl, ap, ap₂, subst, arith}
use Rattle.std.specs.Prelude.{◌&&◌, is_some, nat_lt, not, slice_get}
use Rattle.std.specs.Bool.{beq}
use Rattle.std.specs.Cmp.Lexicographic.{pointwise}
use Rattle.std.specs.List.{slice_index_or}
use Rattle.std.proofs.lemmas.Bool.{and_parts, cases_lt}
use Rattle.railway.specs.declared.block.Block.{Block}
use Rattle.railway.specs.declared.conflict.Conflict.{Conflict}
use Rattle.railway.specs.declared.train.TrainState.{TrainState}
use Rattle.railway.specs.Blocks.{block_name}
use Rattle.railway.specs.Conflicts.{first_in}
use Rattle.railway.specs.Places.{is_derailed}
use Rattle.railway.specs.Reports.{same_blocks}
use Rattle.railway.specs.Turnouts.{same_bool}
use Rattle.roster.specs.Entry.{Entry}
use Rattle.bus_log.specs.RailwayLines.{AllStay, are_in, block_lines, change_lines, conflict_line, conflict_lines, derailed_at, derailed_lines, derailing_lines, is_in, meeting_lines, moved_lines, pair_lines, stays, train_name}
use Rattle.bus_log.proofs.EachLine.{each_empty}

same : (a b : Bool) → same_bool a b ≡ true → a ≡ b
same true true h = refl
same false false h = refl
same true false h = cc
same false true h = cc

and_not : (a : Bool) → (a && not a) ≡ false
and_not true = refl
and_not false = refl

-- a train in the same blocks

same_mark : (one two : Bool) → beq one two ≡ true → one ≡ two
same_mark true true h = refl
same_mark true false h = cc
same_mark false true h = cc
same_mark false false h = refl

same_marks : (one two : List Bool) → pointwise beq one two ≡ true → one ≡ two
same_marks [] [] h = refl
same_marks [] (y ∷ ys) h = cc
same_marks (x ∷ xs) [] h = cc
same_marks (x ∷ xs) (y ∷ ys) h =
    let parts = and_parts (beq x y) (pointwise beq xs ys) h in
    ap₂ (λ (b : Bool) (rest : List Bool). b ∷ rest) (same_mark x y parts.0) (same_marks xs ys parts.1)

stays_in : (block : ℕ) (before now : Option TrainState) → stays before now ≡ true → is_in block before ≡ is_in block now
stays_in block None None h = refl
stays_in block None (Some now) h = cc
stays_in block (Some before) None h = cc
stays_in block (Some before) (Some now) h =
    let blocks = (and_parts (same_blocks before now) (same_bool (is_derailed before) (is_derailed now)) h).0 in
    ap (λ (under : List Bool). nat_lt block 64 && slice_index_or under block false) (same_marks before.under now.under blocks)

stays_derailed : (before now : Option TrainState) → stays before now ≡ true → is_some (derailed_at before) ≡ is_some (derailed_at now)
stays_derailed None None h = refl
stays_derailed None (Some now) h = cc
stays_derailed (Some before) None h = cc
stays_derailed (Some before) (Some now) h =
    same (is_derailed before) (is_derailed now) (and_parts (same_blocks before now) (same_bool (is_derailed before) (is_derailed now)) h).1

stays_first : (block i : ℕ) (before now : List TrainState) → AllStay before now → first_in block i before ≡ first_in block i now
stays_first block i [] [] all = refl
stays_first block i [] (now ∷ others) all = let none : false ≡ true = all 0 in cc
stays_first block i (before ∷ others) [] all = let none : false ≡ true = all 0 in cc
stays_first block i (before ∷ befores) (now ∷ nows) all =
    ap₂ (λ (is : Bool) (rest : Option ℕ). if is then Some i else rest) (stays_in block (Some before) (Some now) (all 0)) (stays_first block (i + 1) befores nows (λ train. all (suc train)))

-- no lines

same_change : (entries : List Entry) (trains : List TrainState) (block : List ℕ) (first : Option ℕ) → change_lines entries trains block first first ≡ []
same_change entries trains block None = refl
same_change entries trains block (Some first) = refl

no_change : (entries : List Entry) (blocks : List Block) (before now : List TrainState) → AllStay before now → (block : ℕ) → block_lines entries blocks before now block ≡ []
no_change entries blocks before now all block =
    ap (λ (first : Option ℕ). change_lines entries now (block_name (slice_get blocks block)) first (first_in block 0 now)) (stays_first block 0 before now all)
    ∙ same_change entries now (block_name (slice_get blocks block)) (first_in block 0 now)

same_derailing : (train : List ℕ) (before now : Option ℕ) → is_some before ≡ is_some now → derailing_lines train before now ≡ []
same_derailing train None None h = refl
same_derailing train (Some before) None h = refl
same_derailing train None (Some now) h = cc
same_derailing train (Some before) (Some now) h = refl

no_derailing : (entries : List Entry) (before now : List TrainState) → AllStay before now → (train : ℕ) → derailed_lines entries before now train ≡ []
no_derailing entries before now all train =
    let was : Option TrainState = slice_get before train in
    let is : Option TrainState = slice_get now train in
    same_derailing (train_name entries is) (derailed_at was) (derailed_at is) (stays_derailed was is (all train))

no_pair : (entries : List Entry) (blocks : List Block) (before now : List TrainState) → AllStay before now → (conflict : Conflict) → pair_lines entries blocks before now conflict ≡ []
no_pair entries blocks before now all conflict =
    let first = stays_in conflict.block (slice_get before conflict.first) (slice_get now conflict.first) (all conflict.first) in
    let second = stays_in conflict.block (slice_get before conflict.second) (slice_get now conflict.second) (all conflict.second) in
    let both : are_in before conflict ≡ are_in now conflict = ap₂ (λ (a b : Bool). a && b) first second in
    ap (λ (new : Bool). if new then conflict_line entries blocks now conflict ∷ [] else [])
    (ap (λ (were : Bool). are_in now conflict && not were) both ∙ and_not (are_in now conflict))

no_meeting : (entries : List Entry) (blocks : List Block) (before now : List TrainState) → AllStay before now → (block first : ℕ) → meeting_lines entries blocks before now block first ≡ []
no_meeting entries blocks before now all block first =
    each_empty (λ second. pair_lines entries blocks before now (record { block = block; first = first; second = second }))
    (λ second. no_pair entries blocks before now all (record { block = block; first = first; second = second })) (first + 1) (length now - (first + 1))

-- a train outside the block meets none there
pub no_meeting_outside : (entries : List Entry) (blocks : List Block) (before now : List TrainState) (block first : ℕ) → is_in block (slice_get now first) ≡ false
    → meeting_lines entries blocks before now block first ≡ []
no_meeting_outside entries blocks before now block first outside =
    each_empty (λ second. pair_lines entries blocks before now (record { block = block; first = first; second = second }))
    (λ second.
    let conflict : Conflict = record { block = block; first = first; second = second } in
    ap (λ (inside : Bool). if (inside && is_in block (slice_get now second)) && not (are_in before conflict) then conflict_line entries blocks now conflict ∷ [] else []) outside)
    (first + 1) (length now - (first + 1))

no_conflict : (entries : List Entry) (blocks : List Block) (before now : List TrainState) → AllStay before now → (block : ℕ) → conflict_lines entries blocks before now block ≡ []
no_conflict entries blocks before now all block =
    each_empty (meeting_lines entries blocks before now block) (no_meeting entries blocks before now all block) 0 (length now)

pub no_lines : (entries : List Entry) (blocks : List Block) (before now : List TrainState) → AllStay before now → moved_lines entries blocks before now ≡ []
no_lines entries blocks before now all =
    ap₂ (λ (a b : List (List ℕ)). a ++ b)
    (ap₂ (λ (a b : List (List ℕ)). a ++ b)
    (each_empty (block_lines entries blocks before now) (no_change entries blocks before now all) 0 (length blocks))
    (each_empty (derailed_lines entries before now) (no_derailing entries before now all) 0 (length now)))
    (each_empty (conflict_lines entries blocks before now) (no_conflict entries blocks before now all) 0 (length blocks))

-- the test of each train

none_there : (trains : List TrainState) (i : ℕ) → length trains ≤ i → slice_get trains i ≡ None
none_there [] i over = refl
none_there (train ∷ trains) zero over = absurd (omega (arith, over))
none_there (train ∷ trains) (suc i) over = none_there trains i (omega (arith, over))

abbrev pub StayBelow : (before now : List TrainState) → (i : ℕ) → Type 0
StayBelow before now i = (train : ℕ) → train < i → stays (slice_get before train) (slice_get now train) ≡ true

pub stay_below_none : (before now : List TrainState) → StayBelow before now 0
stay_below_none before now train below = absurd (omega (arith, below))

pub stay_below_more : (before now : List TrainState) (i : ℕ) → StayBelow before now i → stays (slice_get before i) (slice_get now i) ≡ true → StayBelow before now (i + 1)
stay_below_more before now i so_far one train below = elim (cases_lt train i) [
  | inl under ↦ so_far train under
  | inr over ↦
      let at : i ≡ train = omega (arith, below, over) in
      subst (λ (k : ℕ). stays (slice_get before k) (slice_get now k) ≡ true) at one
]

pub all_below_stay : (before now : List TrainState) (i : ℕ) → length before ≡ length now → length now ≤ i → StayBelow before now i → AllStay before now
all_below_stay before now i many end so_far train = elim (cases_lt train i) [
  | inl under ↦ so_far train under
  | inr over ↦ ap₂ stays (none_there before train (omega (arith, many, end, over))) (none_there now train (omega (arith, end, over)))
]
