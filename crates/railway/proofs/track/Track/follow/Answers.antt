use Rattle.std.proofs.Common.{◌≡◌, ℕ, Bool, true, false, ◌==◌, List, None, Some, if◌then◌else◌, refl, ap, sym, ◌∙◌, arith, ne_eqb}
use Rattle.std.proofs.lemmas.List.{set-set}
use Rattle.std.specs.Prelude.{slice_set}
use Rattle.railway.specs.Blocks.{no_blocks}
use Rattle.railway.specs.Network.{covered, last_on, way_on}
use Rattle.railway.proofs.Covering.{covered-ends, covered-goes, covered-set, covered-zero}
use Rattle.railway.proofs.Throwing.{last-ends, last-goes, last-zero}
use Rattle.railway.proofs.Ways.{way_on-ends, way_on-goes}
use Rattle.railway.proofs.track.Track.follow.Goals as goal

pub loop-left-init : goal.loop-left-init
loop-left-init c =
    let n = c.args.self.now in
    let p = c.args.place in
    let first : c.with-blocks.result ≡ slice_set no_blocks p.block true = c.with-blocks.ensures ∙ ap (λ (m : List Bool). slice_set m p.block true) c.empty.ensures in
    record {
      leads = refl;
      last = refl;
      covers = ap (λ (m : List Bool). covered n p c.args.way m) first ∙ covered-set n p c.args.way no_blocks;
      set = ap (λ (m : List Bool). slice_set m p.block true) first ∙ set-set no_blocks p.block true true ∙ sym first;
      on_track = c.requires;
    }

pub loop-left-preserved : goal.loop-left-preserved
loop-left-preserved c =
    let n = c.args.self.now in
    let p = c.loop-left.place in
    let next = c.in-Some.next in
    let goes = c.in-Some.ensures.goes in
    let was = c.loop-left.invariant in
    let is : c.with-blocks-in-loop-left.result ≡ slice_set c.loop-left.blocks next.0.block true = c.with-blocks-in-loop-left.ensures in
    record {
      leads = sym (way_on-goes n p next.0 c.loop-left.left next.1 goes) ∙ was.leads;
      last = sym (last-goes n p next.0 c.loop-left.left next.1 goes) ∙ was.last;
      covers = ap (λ (m : List Bool). covered n next.0 next.1 m) is ∙ covered-set n next.0 next.1 c.loop-left.blocks
          ∙ sym (ap (λ (m : List Bool). covered n next.0 next.1 m) was.set)
          ∙ sym (covered-goes n p next.0 c.loop-left.left next.1 c.loop-left.blocks goes)
          ∙ ap (λ (m : List Bool). covered n p c.loop-left.left m) was.set
          ∙ was.covers;
      set = ap (λ (m : List Bool). slice_set m next.0.block true) is ∙ set-set c.loop-left.blocks next.0.block true true ∙ sym is;
      on_track = c.in-Some.ensures.on_track;
    }

-- the track ends
pub returns-in-None-clause-way : goal.returns-in-None-clause-way
returns-in-None-clause-way c =
    let left = c.loop-left.left in
    let some : (left == 0) ≡ false = ne_eqb left 0 (λ none. omega (arith, none, c.loop-left-test.true)) in
    sym c.loop-left.invariant.leads ∙ way_on-ends c.args.self.now c.loop-left.place left (omega arith) (c.in-None.ensures.ends refl)
    ∙ sym (ap (λ (whole : Bool). if whole then Some c.loop-left.place else None) some)

pub returns-in-None-clause-last : goal.returns-in-None-clause-last
returns-in-None-clause-last c =
    sym c.loop-left.invariant.last ∙ last-ends c.args.self.now c.loop-left.place c.loop-left.left (c.in-None.ensures.ends refl)

pub returns-in-None-clause-covered : goal.returns-in-None-clause-covered
returns-in-None-clause-covered c =
    sym c.loop-left.invariant.covers
    ∙ covered-ends c.args.self.now c.loop-left.place c.loop-left.left c.loop-left.blocks (c.in-None.ensures.ends refl) ∙ c.loop-left.invariant.set

-- nothing is left of the way
pub returns-clause-way : goal.returns-clause-way
unfolding way_on
returns-clause-way c =
    let none : c.loop-left.left ≡ 0 = omega arith in
    sym c.loop-left.invariant.leads ∙ ap (λ (way : ℕ). way_on c.args.self.now c.loop-left.place way) none
    ∙ sym (ap (λ (left : ℕ). if left == 0 then Some c.loop-left.place else None) none)

pub returns-clause-last : goal.returns-clause-last
returns-clause-last c =
    let none : c.loop-left.left ≡ 0 = omega arith in
    sym c.loop-left.invariant.last ∙ ap (λ (way : ℕ). last_on c.args.self.now c.loop-left.place way) none ∙ last-zero c.args.self.now c.loop-left.place

pub returns-clause-covered : goal.returns-clause-covered
returns-clause-covered c =
    let none : c.loop-left.left ≡ 0 = omega arith in
    let n = c.args.self.now in
    sym c.loop-left.invariant.covers ∙ ap (λ (w : ℕ). covered n c.loop-left.place w c.loop-left.blocks) none
    ∙ covered-zero n c.loop-left.place c.loop-left.blocks ∙ c.loop-left.invariant.set
