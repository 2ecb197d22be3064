-- Ways lead back, and trains stay on the rails from rear to front.
use Rattle.std.proofs.Common.{◌≡◌, ◌⊎◌, ℕ, zero, suc, ◌+◌, ◌<◌, ◌≤◌, ◌==◌, Bool, true, false, inl, inr, List, [], ◌∷◌, Option, Some, None, length, refl, ap, sym, subst, ◌∙◌, arith}
use Rattle.std.proofs.lemmas.Bool.{and_from, and_parts, cases_Bool, eq-eqb, eqb-true, leb-true, lt-ltb, ltb-true}
use Rattle.std.specs.Option.{option_and_then}
use Rattle.std.specs.List.{list_all, list_any}
use Rattle.std.specs.Prelude.{IfSome, if◌then◌else◌, IsTrue, nat_le, nat_lt}
use Rattle.railway.specs.declared.block.Block.{Block}
use Rattle.railway.specs.declared.block.BlockEnd.{BlockEnd}
use Rattle.railway.specs.declared.block.End.{End}
use Rattle.railway.specs.declared.block.End.TheVariants.{A, B}
use Rattle.railway.specs.declared.exit.Exit.{Exit}
use Rattle.railway.specs.declared.exit.Exit.TheVariants.{Leads, BufferStop as Stop, Against as Lies}
use Rattle.railway.specs.declared.exit.Onward.{Onward}
use Rattle.railway.specs.declared.exit.Onward.TheVariants.{To, BufferStop, Against}
use Rattle.railway.specs.declared.train.Place.{Place}
use Rattle.railway.specs.Blocks.{is_block, is_block_sensor, is_length, length_of, other}
use Rattle.railway.specs.Ends.{are_apart, ends_of}
use Rattle.railway.specs.Network.{Network, exit_of, exit_to, is_against, is_sound, joined, onward, onward_by, partner, place_of, turnouts_of, way_on}
use Rattle.railway.specs.Places.{end_ahead, end_at, further, is_on_track, left_to, moved_to, start_at, to_end, turned_place}
use Rattle.railway.proofs.Joining.{joined-back}
use Rattle.railway.proofs.Leading.{IsOf, joined-of, sound}
use Rattle.railway.proofs.Ways.{onward-within, way_on-add, way_on-ends, way_on-suc}
use Rattle.railway.proofs.Facts.{none-some, some-same, other-other}

-- A place of the track.

abbrev pub IsPlace : Network → Place → Type 0
IsPlace n p = p.at < length_of n.blocks p.block

pub place-of : (n : Network) (p : Place) → is_on_track n.blocks p ≡ true → IsPlace n p
place-of n p h = ltb-true p.at (length_of n.blocks p.block) (and_parts (nat_lt p.block (length n.blocks)) (nat_lt p.at (length_of n.blocks p.block)) h).1

-- An end that is joined with another.

abbrev pub Apart : Network → Type 0
Apart n = are_apart (ends_of n.joints (turnouts_of n.turnouts)) ≡ true

leads-partner : (found : Option BlockEnd) (branch : Bool) (next : BlockEnd) → exit_to found branch ≡ Leads next → found ≡ Some next
leads-partner (Some end) branch next h = cc
leads-partner None true next h = cc
leads-partner None false next h = cc

pub exit-back : (n : Network) (end next : BlockEnd) → Apart n → exit_of n end ≡ Leads next → exit_of n next ≡ Leads end
exit-back n end next apart h =
    ap (λ (found : Option BlockEnd). exit_to found (list_any (is_against next) n.turnouts))
    (joined-back n end next apart (leads-partner (partner (joined n) end) _ next h))

-- One femtometre.

-- what lies ahead after a turn
behind : (end : End) (length at : ℕ) → at < length → 0 < left_to end length at → 0 < left_to (other end) length (moved_to end at 1)
behind A length at h g = omega arith
behind B length at h g = omega arith

pub return : (end : End) (length at : ℕ) → at < length → 0 < left_to end length at → moved_to (other end) (moved_to end at 1) 1 ≡ at
return A length at h g = omega arith
return B length at h g = omega arith

-- at an end nothing lies ahead
at-end : (end : End) (length at : ℕ) → at < length → left_to end length at ≡ 0 → end_at end length ≡ at
at-end A length at h g = omega arith
at-end B length at h g = omega arith

pub start-end : (end : End) (length : ℕ) → left_to end length (end_at end length) ≡ 0
start-end A length = refl
start-end B length = omega arith

pub onward-end : (n : Network) (p : Place) → to_end (length_of n.blocks p.block) p ≡ 0 → onward n p ≡ onward_by n.blocks (exit_of n (end_ahead p))
onward-end n p h =
    ap (λ (b : Bool). if b then onward_by n.blocks (exit_of n (end_ahead p)) else To (further p 1)) (eq-eqb (to_end (length_of n.blocks p.block) p) 0 h)

-- an exit by which a train goes on
pub leads-to : (blocks : List Block) (exit : Exit) (q : Place) → onward_by blocks exit ≡ To q → (next : BlockEnd) × (exit ≡ Leads next) × (start_at blocks next ≡ q)
leads-to blocks (Leads next) q h = (next, refl, cc)
leads-to blocks Stop q h = cc
leads-to blocks Lies q h = cc

to-same : (p q : Place) → To p ≡ To q → p ≡ q
to-same p q h = cc

pub turned-turned : (p : Place) → turned_place (turned_place p) ≡ p
turned-turned p = ap (λ (e : End). record p { toward = e }) (other-other p.toward)

back-within : (n : Network) (p : Place) → IsPlace n p → 0 < to_end (length_of n.blocks p.block) p → onward n (turned_place (further p 1)) ≡ To (turned_place p)
back-within n p h g =
    onward-within n (turned_place (further p 1)) (behind p.toward (length_of n.blocks p.block) p.at h g)
    ∙ ap (λ (at : ℕ). To (record p { at = at; toward = other p.toward })) (return p.toward (length_of n.blocks p.block) p.at h g)

back-over : (n : Network) (p : Place) (next : BlockEnd) → Apart n → IsPlace n p → to_end (length_of n.blocks p.block) p ≡ 0 → exit_of n (end_ahead p) ≡ Leads next
    → onward n (turned_place (start_at n.blocks next)) ≡ To (turned_place p)
back-over n p next apart h g leads =
    let there : Place = record { block = next.block; at = end_at next.end (length_of n.blocks next.block); toward = next.end } in
    ap (λ (e : End). onward n (record there { toward = e })) (other-other next.end)
    ∙ onward-end n there (start-end next.end (length_of n.blocks next.block))
    ∙ ap (λ (exit : Exit). onward_by n.blocks exit) (exit-back n (end_ahead p) next apart leads)
    ∙ ap (λ (at : ℕ). To (record p { at = at; toward = other p.toward })) (at-end p.toward (length_of n.blocks p.block) p.at h g)

pub onward-back : (n : Network) (p q : Place) → Apart n → IsPlace n p → onward n p ≡ To q → onward n (turned_place q) ≡ To (turned_place p)
onward-back n p q apart h g = elim (cases_Bool (to_end (length_of n.blocks p.block) p == 0)) [
  | inl ends ↦
      let none : to_end (length_of n.blocks p.block) p ≡ 0 = eqb-true (to_end (length_of n.blocks p.block) p) 0 ends in
      let led = leads-to n.blocks (exit_of n (end_ahead p)) q (sym (onward-end n p none) ∙ g) in
      subst (λ (r : Place). onward n (turned_place r) ≡ To (turned_place p)) led.2 (back-over n p led.0 apart h none led.1)
  | inr goes ↦
      let ahead : 0 < to_end (length_of n.blocks p.block) p = grind (arith, goes) in
      let is : further p 1 ≡ q = to-same (further p 1) q (sym (onward-within n p ahead) ∙ g) in
      subst (λ (r : Place). onward n (turned_place r) ≡ To (turned_place p)) is (back-within n p h ahead)
]

-- The track leads within its blocks.

pub length-positive : (blocks : List Block) (i : ℕ) → list_all is_block blocks ≡ true → 0 < length_of blocks i
length-positive [] i h = omega arith
length-positive (block ∷ blocks) zero h =
    let parts = and_parts (is_block block) (list_all is_block blocks) h in
    let length = (and_parts (is_length block.length) (is_block_sensor block.sensor) parts.0).0 in
    let first : 1 ≤ block.length = leb-true 1 block.length (and_parts (nat_le 1 block.length) (nat_le block.length 100000) length).0 in
    omega (arith, first)
length-positive (block ∷ blocks) (suc i) h = length-positive blocks i (and_parts (is_block block) (list_all is_block blocks) h).1

end_at-within : (end : End) (length : ℕ) → 0 < length → end_at end length < length
end_at-within A length h = h
end_at-within B length h = omega (arith, h)

moved-within : (end : End) (length at : ℕ) → at < length → 0 < left_to end length at → moved_to end at 1 < length
moved-within A length at h g = omega (arith, h)
moved-within B length at h g = omega (arith, g)

pub on_track-from : (blocks : List Block) (p : Place) → p.block < length blocks → p.at < length_of blocks p.block → is_on_track blocks p ≡ true
on_track-from blocks p h g = and_from (nat_lt p.block (length blocks)) (nat_lt p.at (length_of blocks p.block)) (lt-ltb p.block (length blocks) h) (lt-ltb p.at (length_of blocks p.block) g)

pub onward-on_track : (n : Network) (p q : Place) → IsTrue (is_sound n) → is_on_track n.blocks p ≡ true → onward n p ≡ To q → is_on_track n.blocks q ≡ true
onward-on_track n p q is h g = elim (cases_Bool (to_end (length_of n.blocks p.block) p == 0)) [
  | inl ends ↦
      let none : to_end (length_of n.blocks p.block) p ≡ 0 = eqb-true (to_end (length_of n.blocks p.block) p) 0 ends in
      let led = leads-to n.blocks (exit_of n (end_ahead p)) q (sym (onward-end n p none) ∙ g) in
      let found : partner (joined n) (end_ahead p) ≡ Some led.0 = leads-partner (partner (joined n) (end_ahead p)) _ led.0 led.1 in
      let of_plan : IfSome (Some led.0) (IsOf (length n.blocks)) = subst (λ (o : Option BlockEnd). IfSome o (IsOf (length n.blocks))) found (joined-of n (end_ahead p) is) in
      subst (λ (r : Place). is_on_track n.blocks r ≡ true) led.2
      (on_track-from n.blocks (start_at n.blocks led.0) of_plan (end_at-within led.0.end (length_of n.blocks led.0.block) (length-positive n.blocks led.0.block (sound n is).lengths)))
  | inr goes ↦
      let ahead : 0 < to_end (length_of n.blocks p.block) p = grind (arith, goes) in
      let parts = and_parts (nat_lt p.block (length n.blocks)) (nat_lt p.at (length_of n.blocks p.block)) h in
      subst (λ (r : Place). is_on_track n.blocks r ≡ true) (to-same (further p 1) q (sym (onward-within n p ahead) ∙ g))
      (on_track-from n.blocks (further p 1) (ltb-true p.block (length n.blocks) parts.0) (moved-within p.toward (length_of n.blocks p.block) p.at (place-of n p h) ahead))
]

-- A way leads back.

pub onward-cases : (o : Onward) → ((q : Place) × (o ≡ To q)) ⊎ (place_of o ≡ None)
onward-cases (To q) = inl (q, refl)
onward-cases BufferStop = inr refl
onward-cases Against = inr refl

way_on-one : (n : Network) (p q : Place) → onward n p ≡ To q → way_on n p 1 ≡ Some q
unfolding way_on
way_on-one n p q h = way_on-suc n p q 0 h

pub way_on-snoc : (n : Network) (p q r : Place) (way : ℕ) → way_on n p way ≡ Some q → onward n q ≡ To r → way_on n p (suc way) ≡ Some r
way_on-snoc n p q r way h g =
    let more : suc way ≡ way + 1 = omega arith in
    ap (λ (w : ℕ). way_on n p w) more ∙ way_on-add n p way 1 ∙ ap (λ (o : Option Place). option_and_then (λ s. way_on n s 1) o) h ∙ way_on-one n q r g

pub way-back : (n : Network) (p q : Place) (way : ℕ) → IsTrue (is_sound n) → is_on_track n.blocks p ≡ true → way_on n p way ≡ Some q → way_on n (turned_place q) way ≡ Some (turned_place p)
unfolding way_on
way-back n p q zero is h g = ap (λ (r : Place). Some (turned_place r)) (sym (some-same p q g))
way-back n p q (suc way) is h g = elim (onward-cases (onward n p)) [
  | inl next ↦
      let rest : way_on n next.0 way ≡ Some q = sym (way_on-suc n p next.0 way next.1) ∙ g in
      way_on-snoc n (turned_place q) (turned_place next.0) (turned_place p) way (way-back n next.0 q way is (onward-on_track n p next.0 is h next.1) rest)
      (onward-back n p next.0 (sound n is).apart (place-of n p h) next.1)
  | inr ends ↦ absurd (none-some q (sym (way_on-ends n p (suc way) (omega arith) ends) ∙ g))
]

-- A way stays on the track.

pub way-on_track : (n : Network) (p q : Place) (way : ℕ) → IsTrue (is_sound n) → is_on_track n.blocks p ≡ true → way_on n p way ≡ Some q → is_on_track n.blocks q ≡ true
unfolding way_on
way-on_track n p q zero is h g = subst (λ (r : Place). is_on_track n.blocks r ≡ true) (some-same p q g) h
way-on_track n p q (suc way) is h g = elim (onward-cases (onward n p)) [
  | inl next ↦ way-on_track n next.0 q way is (onward-on_track n p next.0 is h next.1) (sym (way_on-suc n p next.0 way next.1) ∙ g)
  | inr ends ↦ absurd (none-some q (sym (way_on-ends n p (suc way) (omega arith) ends) ∙ g))
]
