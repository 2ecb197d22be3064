-- Laws of the account of time.
use Rattle.std.proofs.Common.{◌≡◌, ℕ, suc, ◌+◌, ◌-◌, ◌*◌, ◌<◌, ◌≤◌, ◌⊎◌, List, [], ◌∷◌, ◌++◌, All, length, get_or, sum, inl, inr, refl, ap, subst, sym, ◌∙◌, arith, append-nil}
use Rattle.std.proofs.lemmas.Bool.{cases_lt}
use Rattle.std.proofs.lemmas.List.Elements.{All-head, All-tail}
use Rattle.std.proofs.lemmas.List.Sums.{sum_by-append, sum_by-cons, sum_by-le}
use Rattle.std.proofs.Math.Nat.{mul-le-mul_left}
use Rattle.bus.specs.Time.{last_or, IsTimeAccount}

-- ---- sums and last turns

pub sum-both : (these those : List ℕ) → sum (these ++ those) ≡ sum these + sum those
sum-both these those = sum_by-append (λ x. x) these those

pub sum-first : (turn : ℕ) (more : List ℕ) → sum (turn ∷ more) ≡ turn + sum more
sum-first turn more = sum_by-cons (λ x. x) turn more

-- the last of more turns
last-append : (one next : ℕ) (turns more : List ℕ) → last_or one (turns ++ next ∷ more) ≡ last_or next more
last-append one next [] more = refl
last-append one next (turn ∷ turns) more = last-append turn next turns more

-- one of them lasts no longer than all
last-sum : (one : ℕ) (turns : List ℕ) → last_or one turns ≤ one + sum turns
last-sum one [] = omega arith
last-sum one (next ∷ more) =
    let rest : last_or next more ≤ next + sum more = last-sum next more in
    omega (arith, sum-first next more)

last-both : (remaining : ℕ) (these those : List ℕ) → last_or remaining (these ++ those) ≡ last_or (last_or remaining these) those
last-both remaining [] those = refl
last-both remaining (turn ∷ turns) those = last-both turn turns those

last-grows : (small large : ℕ) (turns : List ℕ) → small ≤ large → last_or small turns ≤ last_or large turns
last-grows small large [] h = h
last-grows small large (next ∷ more) h = omega arith

-- ---- a time in which no turn begins, or one

pub nothing : (remaining : ℕ) → 0 < remaining → IsTimeAccount remaining 0 [] remaining
nothing remaining some = record { whole = omega arith; under_way = some; last = omega arith }

pub passes : (remaining micros : ℕ) → micros < remaining → IsTimeAccount remaining micros [] (remaining - micros)
passes remaining micros less = record { whole = omega arith; under_way = omega arith; last = omega arith }

pub begins : (remaining micros turn : ℕ) → remaining ≤ micros → micros < remaining + turn → IsTimeAccount remaining micros (turn ∷ []) (remaining + turn - micros)
begins remaining micros turn ended less = record { whole = omega (arith, sum-first turn []); under_way = omega arith; last = omega arith }

-- ---- consecutive times

pub adds_up : (remaining first mid second last : ℕ) (these those : List ℕ) →
    IsTimeAccount remaining first these mid → IsTimeAccount mid second those last → IsTimeAccount remaining (first + second) (these ++ those) last
adds_up remaining first mid second last these those a b =
    let grows = last-grows mid (last_or remaining these) those a.last in
    record {
      whole = omega (arith, sum-both these those, a.whole, b.whole);
      under_way = b.under_way;
      last = omega (arith, last-both remaining these those, grows, b.last);
    }

-- the time elapses as in a loop: the next turn begins where the current one ends, and then less
-- than that one elapses

pub next_turn : (remaining elapsed now turn : ℕ) (turns : List ℕ) → IsTimeAccount remaining elapsed turns now → 0 < turn → IsTimeAccount remaining (elapsed + now) (turns ++ turn ∷ []) turn
next_turn remaining elapsed now turn turns a some = record {
  whole = omega (arith, sum-both turns (turn ∷ []), sum-first turn [], a.whole);
  under_way = some;
  last = omega (arith, last-append remaining turn turns []);
}

pub goes_on : (remaining elapsed now rest : ℕ) (turns : List ℕ) → IsTimeAccount remaining elapsed turns now → rest < now → IsTimeAccount remaining (elapsed + rest) turns (now - rest)
goes_on remaining elapsed now rest turns a less = record { whole = omega (arith, a.whole); under_way = omega arith; last = omega (arith, a.last) }

-- ---- no other turns

pub only : (remaining micros last later next : ℕ) (turns more : List ℕ) →
    IsTimeAccount remaining micros turns last → IsTimeAccount remaining micros (turns ++ next ∷ more) later → ⊥
only remaining micros last later next turns more a b =
    absurd (omega (arith, sum-both turns (next ∷ more), sum-first next more, last-append remaining next turns more, last-sum next more, a.whole, a.under_way, b.whole, b.last))

-- of two accounts of one time, one over the first turns of the other, both are over all of them
pub same_count : (remaining micros last later : ℕ) (turns more : List ℕ) →
    IsTimeAccount remaining micros turns last → IsTimeAccount remaining micros (turns ++ more) later → (more ≡ []) × (last ≡ later)
same_count remaining micros last later turns [] a b = (refl, omega (arith, sum-both turns [], a.whole, b.whole))
same_count remaining micros last later turns (next ∷ more) a b = absurd (only remaining micros last later next turns more a b)

pub same_left : (remaining micros last later : ℕ) (turns : List ℕ) → IsTimeAccount remaining micros turns last → IsTimeAccount remaining micros turns later → last ≡ later
same_left remaining micros last later turns a b = omega (arith, a.whole, b.whole)

abbrev Agree : List ℕ → List ℕ → Type 0
Agree these those = (i : ℕ) → i < length these → i < length those → get_or these i 0 ≡ get_or those i 0

-- of two lists that agree one is a prefix of the other
extends : (these those : List ℕ) → Agree these those → ((more : List ℕ) × (those ≡ these ++ more)) ⊎ ((more : List ℕ) × (these ≡ those ++ more))
extends [] those agree = inl (those, refl)
extends (one ∷ these) [] agree = inr (one ∷ these, refl)
extends (one ∷ these) (other ∷ those) agree =
    let first : one ≡ other = agree 0 (omega arith) (omega arith) in
    elim (extends these those (λ i h k. agree (suc i) (omega arith) (omega arith))) [
      | inl longer ↦ inl (longer.0, cc (longer.1))
      | inr longer ↦ inr (longer.0, cc (longer.1))
    ]

pub same : (remaining micros last later : ℕ) (these those : List ℕ) → Agree these those →
    IsTimeAccount remaining micros these last → IsTimeAccount remaining micros those later → (these ≡ those) × (last ≡ later)
same remaining micros last later these those agree a b = elim (extends these those agree) [
  | inl longer ↦
      let equal = same_count remaining micros last later these longer.0 a (subst (λ turns. IsTimeAccount remaining micros turns later) longer.1 b) in
      (sym (longer.1 ∙ ap (λ more. these ++ more) equal.0 ∙ append-nil these), equal.1)
  | inr longer ↦
      let equal = same_count remaining micros later last those longer.0 b (subst (λ turns. IsTimeAccount remaining micros turns last) longer.1 a) in
      (longer.1 ∙ ap (λ more. those ++ more) equal.0 ∙ append-nil those, sym equal.1)
]

-- ---- the number of turns

last-within : (remaining longest : ℕ) (turns : List ℕ) → remaining ≤ longest → All (λ turn. turn ≤ longest) turns → last_or remaining turns ≤ longest
last-within remaining longest [] h all = h
last-within remaining longest (turn ∷ more) h all = last-within turn longest more (All-head (λ t. t ≤ longest) turn more all) (All-tail (λ t. t ≤ longest) turn more all)

pub within : (remaining micros last longest : ℕ) (turns : List ℕ) → IsTimeAccount remaining micros turns last → remaining ≤ longest → All (λ turn. turn ≤ longest) turns → last ≤ longest
within remaining micros last longest turns a h all = omega (arith, a.last, last-within remaining longest turns h all)

pub enough : (remaining micros last longest : ℕ) (turns : List ℕ) → IsTimeAccount remaining micros turns last → remaining ≤ longest → All (λ turn. turn ≤ longest) turns →
    (count : ℕ) → longest * count ≤ micros → count ≤ length turns
enough remaining micros last longest turns a h all count long = elim (cases_lt (length turns) count) [
  | inr some ↦ some
  | inl less ↦
      let next : length turns + 1 ≤ count = omega arith in
      let full : longest * (length turns + 1) ≤ longest * count = mul-le-mul_left longest next in
      let most : sum turns ≤ length turns * longest = sum_by-le (λ turn. turn) longest turns all in
      absurd (omega (arith, a.whole, a.under_way, h, long, full, most))
]

-- no turn is shorter than the shortest
sum-least : (shortest : ℕ) (turns : List ℕ) → All (λ turn. shortest ≤ turn) turns → shortest * length turns ≤ sum turns
sum-least shortest [] all = omega arith
sum-least shortest (turn ∷ more) all =
    let here = All-head (λ t. shortest ≤ t) turn more all in
    let rest = sum-least shortest more (All-tail (λ t. shortest ≤ t) turn more all) in
    omega (arith, here, rest, sum-first turn more)

pub spent : (remaining micros last shortest : ℕ) (turns : List ℕ) → IsTimeAccount remaining micros turns last → All (λ turn. shortest ≤ turn) turns →
    remaining + shortest * length turns ≤ micros + last
spent remaining micros last shortest turns a all = omega (arith, a.whole, sum-least shortest turns all)

-- the last of them lasts its own time
ending : (shortest turn : ℕ) (more : List ℕ) → All (λ t. shortest ≤ t) (turn ∷ more) → shortest * length more + last_or turn more ≤ sum (turn ∷ more)
ending shortest turn [] all = omega (arith, sum-first turn [])
ending shortest turn (next ∷ more) all =
    let rest = ending shortest next more (All-tail (λ t. shortest ≤ t) turn (next ∷ more) all) in
    let here = All-head (λ t. shortest ≤ t) turn (next ∷ more) all in
    omega (arith, rest, here, sum-first turn (next ∷ more))

-- so all of them but one, and the time left, have elapsed
pub elapsed : (remaining micros last shortest turn : ℕ) (more : List ℕ) → IsTimeAccount remaining micros (turn ∷ more) last → All (λ t. shortest ≤ t) (turn ∷ more) →
    remaining + shortest * length more ≤ micros
elapsed remaining micros last shortest turn more a all = omega (arith, a.whole, a.last, ending shortest turn more all)

pub few : (remaining micros last shortest : ℕ) (turns : List ℕ) → IsTimeAccount remaining micros turns last → 0 < remaining → All (λ turn. shortest ≤ turn) turns →
    (count : ℕ) → micros ≤ shortest * count → length turns ≤ count
few remaining micros last shortest [] a some all count short = omega arith
few remaining micros last shortest (turn ∷ more) a some all count short = elim (cases_lt (length more) count) [
  | inl less ↦ omega arith
  | inr many ↦ absurd (omega (arith, mul-le-mul_left shortest many, elapsed remaining micros last shortest turn more a all, some, short))
]
