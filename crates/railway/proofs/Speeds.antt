-- No train of a plan is so fast that it passes a block unseen.
use Rattle.std.proofs.Common.{◌≡◌, ℕ, ◌+◌, ◌*◌, ◌<◌, ◌≤◌, Bool, true, false, inl, inr, List, [], ◌∷◌, Option, Some, None, refl, ap, sym, ◌∙◌, arith}
use Rattle.std.proofs.lemmas.Bool.{and_from, and_parts, cases_Bool, le-leb, leb-true}
use Rattle.std.proofs.lemmas.Bool.Decides.{nat_tests}
use Rattle.std.specs.List.{list_all}
use Rattle.std.specs.Prelude.{if◌then◌else◌, nat_le, not}
use Rattle.railway.specs.declared.block.Block.{Block}
use Rattle.railway.specs.declared.fault.PlanFault.{PlanFault}
use Rattle.railway.specs.declared.fault.PlanFault.TheVariants as bad
use Rattle.railway.specs.declared.train.Train.{Train}
use Rattle.railway.specs.Passing.{fault_of_speed, fault_of_speeds, passes_none, passes_unseen, shorter, shortest}
use Rattle.railway.proofs.Planning.{or-none, passes_train}

-- The shortest block is no longer than each.

shorter-both : (least block : Block) → ((shorter (Some least) block).length ≤ least.length) × ((shorter (Some least) block).length ≤ block.length)
shorter-both least block = elim (cases_Bool (nat_le least.length block.length)) [
  | inl less ↦
      let is : (shorter (Some least) block).length ≡ least.length = ap (λ (b : Bool). (if b then least else block).length) less in
      let small : least.length ≤ block.length = leb-true least.length block.length less in
      (omega (arith, is), omega (arith, is, small))
  | inr more ↦
      let is : (shorter (Some least) block).length ≡ block.length = ap (λ (b : Bool). (if b then least else block).length) more in
      let small : block.length ≤ least.length = grind (arith, nat_tests, more) in
      (omega (arith, is, small), omega (arith, is))
]

-- the blocks are as long, or longer
abbrev AreLonger : ℕ → List Block → Type 0
AreLonger least blocks = list_all (λ (block : Block). nat_le least block.length) blocks ≡ true

record Shortest (found : Option Block) (least : ℕ) (blocks : List Block) : Type 0 where
  block : Block
  is : found ≡ Some block
  short : block.length ≤ least
  longer : AreLonger block.length blocks

shortest-of : (least : Block) (blocks : List Block) → Shortest (shortest (Some least) blocks) least.length blocks
shortest-of least [] = record { block = least; is = refl; short = omega arith; longer = refl }
shortest-of least (next ∷ blocks) =
    let both = shorter-both least next in
    let rest = shortest-of (shorter (Some least) next) blocks in
    let first : rest.block.length ≤ least.length = let one = both.0 in omega (arith, rest.short, one) in
    let second : rest.block.length ≤ next.length = let other = both.1 in omega (arith, rest.short, other) in
    record {
      block = rest.block;
      is = rest.is;
      short = first;
      longer = and_from (nat_le rest.block.length next.length) (list_all (λ (block : Block). nat_le rest.block.length block.length) blocks) (le-leb rest.block.length next.length second) rest.longer;
    }

-- a train that does not pass the shortest block unseen passes none
passes-longer : (top size least length : ℕ) → least ≤ length → passes_unseen top size least ≡ false → not (passes_unseen top size length) ≡ true
passes-longer top size least length h none = elim (cases_Bool (passes_unseen top size length)) [
  | inl passes ↦
      let far : (size + length) * 1000000 ≤ top * 10740 = leb-true ((size + length) * 1000000) (top * 10740) passes in
      let less : top * 10740 < (size + least) * 1000000 = grind (arith, nat_tests, none) in
      absurd (omega (arith, far, less, h))
  | inr not_so ↦ ap not not_so
]

passes-none : (top size least : ℕ) (blocks : List Block) → AreLonger least blocks → passes_unseen top size least ≡ false → passes_none blocks top size ≡ true
passes-none top size least [] longer none = refl
passes-none top size least (block ∷ blocks) longer none =
    let parts = and_parts (nat_le least block.length) (list_all (λ (one : Block). nat_le least one.length) blocks) longer in
    and_from (not (passes_unseen top size block.length)) (passes_none blocks top size)
    (passes-longer top size least block.length (leb-true least block.length parts.0) none) (passes-none top size least blocks parts.1 none)

-- The trains of a plan without a fault.

some-none : (fault : PlanFault) → Some fault ≡ None → ⊥
some-none fault h = cc

not-fast : (b : Bool) (fault : PlanFault) → (if b then Some fault else None) ≡ None → b ≡ false
not-fast true fault h = absurd (some-none fault h)
not-fast false fault h = refl

trains-slow : (block : Block) (blocks : List Block) (i : ℕ) (trains : List Train) → AreLonger block.length blocks → fault_of_speeds (Some block) i trains ≡ None → list_all (passes_train blocks) trains ≡ true
trains-slow block blocks i [] longer h = refl
trains-slow block blocks i (train ∷ trains) longer h =
    let parts = or-none (fault_of_speed (Some block) i train) (fault_of_speeds (Some block) (i + 1) trains) h in
    let slow = not-fast (passes_unseen train.top train.length block.length) (bad.FastTrain i train.decoder block.name) parts.0 in
    and_from (passes_train blocks train) (list_all (passes_train blocks) trains)
    (passes-none train.top train.length block.length blocks longer slow) (trains-slow block blocks (i + 1) trains longer parts.1)

without-blocks : (trains : List Train) → list_all (passes_train []) trains ≡ true
without-blocks [] = refl
without-blocks (train ∷ trains) = without-blocks trains

pub all-slow : (blocks : List Block) (trains : List Train) → fault_of_speeds (shortest None blocks) 0 trains ≡ None → list_all (passes_train blocks) trains ≡ true
all-slow [] trains h = without-blocks trains
all-slow (first ∷ blocks) trains h =
    let least = shortest-of first blocks in
    let longer : AreLonger least.block.length (first ∷ blocks) =
    and_from (nat_le least.block.length first.length) (list_all (λ (block : Block). nat_le least.block.length block.length) blocks) (le-leb least.block.length first.length least.short) least.longer in
    trains-slow least.block (first ∷ blocks) 0 trains longer (ap (λ (o : Option Block). fault_of_speeds o 0 trains) (sym least.is) ∙ h)
