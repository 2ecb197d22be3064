-- The nodes in the midst of a packet: those before place i have heard or missed it, the others are
-- as they were.
use Rattle.std.proofs.Common.{◌≡◌, ℕ, ◌+◌, ◌<◌, ◌≤◌, Bool, true, false, List, [], ◌∷◌, ◌++◌, length, map, take, append-nil, drop_of_length-le, refl, ap, sym, subst, ◌∙◌, arith, inl, inr}
use Rattle.std.proofs.lemmas.Bool.{cases_eq}
use Rattle.std.proofs.lemmas.List.{length-set, get_or-set_same, get_or-set_other, get_or_default, get_or-map, set-get_or, map-set, take_all}
use Rattle.std.specs.List.{refill, slice_index_or, slice_set}
use Rattle.decoder_node.specs.declared.node.NodeSpec.{NodeSpec}
use Rattle.layout_core.specs.declared.node.Node.{Node}
use Rattle.layout_core.proofs.Heard.{half_keeps}
use Rattle.layout_core.specs.Nodes.{spec_of, is_missed}
use Rattle.layout_core.specs.Hearing.{HeardHalves, HearsPacket, AfterPacket}

pub record IsThrough (missed : ℕ) (packet : List ℕ) (old now : List Node) (i : ℕ) : Type 0 where
  pub count : length now ≡ length old
  pub specs : map spec_of now ≡ map spec_of old
  pub done : (k : ℕ) (none : Node) → k < i → k < length old → AfterPacket (is_missed missed k) packet (slice_index_or old k none) (slice_index_or now k none)
  pub rest : (k : ℕ) (none : Node) → i ≤ k → slice_index_or now k none ≡ slice_index_or old k none

pub none_through : (missed : ℕ) (packet : List ℕ) (old : List Node) → IsThrough missed packet old old 0
none_through missed packet old = record {
  count = refl;
  specs = refl;
  done = λ k none below. absurd (omega arith);
  rest = λ k none h. refl;
}

module _ (missed : ℕ) (packet : List ℕ) (old now : List Node) (i : ℕ) (within : i < length old) (through : IsThrough missed packet old now i) where
  -- node i missed it
  pub through_missed : is_missed missed i ≡ true → IsThrough missed packet old now (i + 1)
  through_missed misses = record {
    count = through.count;
    specs = through.specs;
    done = λ k none below inside. elim (cases_eq k i) [
      | inl here ↦
          let at : AfterPacket (is_missed missed i) packet (slice_index_or old i none) (slice_index_or now i none) =
          subst (λ (b : Bool). AfterPacket b packet (slice_index_or old i none) (slice_index_or now i none)) (sym misses) (through.rest i none (omega arith)) in
          subst (λ (n : ℕ). AfterPacket (is_missed missed n) packet (slice_index_or old n none) (slice_index_or now n none)) (sym here) at
      | inr elsewhere ↦ through.done k none (omega arith) inside
    ];
    rest = λ k none h. through.rest k none (omega arith);
  }

  -- node i heard it
  module _ (node new : Node) (is : node ≡ slice_index_or now i node) (hears : HearsPacket packet node new) where
    inside_now : i < length now
    inside_now = omega (arith, through.count)

    spec_kept : map spec_of (slice_set now i new) ≡ map spec_of old
    spec_kept =
        let was : spec_of node ≡ slice_index_or (map spec_of now) i (spec_of node) = ap spec_of is ∙ sym (get_or-map spec_of now i node (spec_of node) inside_now) in
        map-set spec_of now i new
        ∙ ap (λ (s : NodeSpec). slice_set (map spec_of now) i s) (hears.kept ∙ was)
        ∙ set-get_or (map spec_of now) i (spec_of node)
        ∙ through.specs

    pub through_heard : is_missed missed i ≡ false → IsThrough missed packet old (slice_set now i new) (i + 1)
    through_heard listens = record {
      count = length-set now i new ∙ through.count;
      specs = spec_kept;
      done = λ k none below inside. elim (cases_eq k i) [
        | inl here ↦
            let before : node ≡ slice_index_or old i none = is ∙ get_or_default now i node none inside_now ∙ through.rest i none (omega arith) in
            let after : slice_index_or (slice_set now i new) i none ≡ new = get_or-set_same now i new none inside_now in
            let at_old : HearsPacket packet (slice_index_or old i none) new = subst (λ (n : Node). HearsPacket packet n new) before hears in
            let at_new : HearsPacket packet (slice_index_or old i none) (slice_index_or (slice_set now i new) i none) = subst (λ (n : Node). HearsPacket packet (slice_index_or old i none) n) (sym after) at_old in
            let at : AfterPacket (is_missed missed i) packet (slice_index_or old i none) (slice_index_or (slice_set now i new) i none) =
            subst (λ (b : Bool). AfterPacket b packet (slice_index_or old i none) (slice_index_or (slice_set now i new) i none)) (sym listens) at_new in
            subst (λ (n : ℕ). AfterPacket (is_missed missed n) packet (slice_index_or old n none) (slice_index_or (slice_set now i new) n none)) (sym here) at
        | inr elsewhere ↦
            subst (λ (n : Node). AfterPacket (is_missed missed k) packet (slice_index_or old k none) n) (sym (get_or-set_other now i k new none elsewhere)) (through.done k none (omega arith) inside)
      ];
      rest = λ k none h. get_or-set_other now i k new none (λ e. omega arith) ∙ through.rest k none (omega arith);
    }

-- the nodes where the list of them was lent, and one heard a half
module _ (all now : List Node) (i half : ℕ) (node new : Node) (same : now ≡ all) (within : i < length all) (hears : HeardHalves (half ∷ []) (slice_index_or now i node) new) where
  refilled : refill (length all) all (slice_set now i new) ≡ slice_set all i new
  refilled =
      let size : length (slice_set all i new) ≡ length all = length-set all i new in
      let past : length all ≤ length (slice_set all i new) = omega (arith, size) in
      ap (λ (xs : List Node). refill (length all) all (slice_set xs i new)) same
      ∙ ap (λ (rest : List Node). take (length all) (slice_set all i new ++ rest)) (drop_of_length-le all past)
      ∙ ap (take (length all)) (append-nil (slice_set all i new))
      ∙ take_all (length all) (slice_set all i new) (omega (arith, size))

  pub half_specs : map spec_of (refill (length all) all (slice_set now i new)) ≡ map spec_of all
  half_specs =
      let was : spec_of new ≡ slice_index_or (map spec_of all) i (spec_of node) =
      half_keeps half (slice_index_or now i node) new hears
      ∙ ap (λ (xs : List Node). spec_of (slice_index_or xs i node)) same
      ∙ sym (get_or-map spec_of all i node (spec_of node) within) in
      ap (map spec_of) refilled
      ∙ map-set spec_of all i new
      ∙ ap (λ (s : NodeSpec). slice_set (map spec_of all) i s) was
      ∙ set-get_or (map spec_of all) i (spec_of node)

-- the nodes where the list of them was lent, and each heard a packet
module _ (all now new : List Node) (same : now ≡ all) (kept : length new ≡ length now) where
  all_refilled : refill (length all) all new ≡ new
  all_refilled =
      let size : length new ≡ length all = kept ∙ ap length same in
      ap (λ (rest : List Node). take (length all) (new ++ rest)) (drop_of_length-le all (omega (arith, size)))
      ∙ ap (take (length all)) (append-nil new)
      ∙ take_all (length all) new (omega (arith, size))

  pub each_count : length (refill (length all) all new) ≡ length all
  each_count = ap length all_refilled ∙ kept ∙ ap length same

  pub each_specs : map spec_of new ≡ map spec_of now → map spec_of (refill (length all) all new) ≡ map spec_of all
  each_specs specs = ap (map spec_of) all_refilled ∙ specs ∙ ap (map spec_of) same

  pub each_heard : (missed : ℕ) (packet : List ℕ) → ((i : ℕ) (none : Node) → i < length now → AfterPacket (is_missed missed i) packet (slice_index_or now i none) (slice_index_or new i none))
      → (i : ℕ) (none : Node) → i < length all → AfterPacket (is_missed missed i) packet (slice_index_or all i none) (slice_index_or (refill (length all) all new) i none)
  each_heard missed packet each i none below =
      subst (λ (ns : List Node). AfterPacket (is_missed missed i) packet (slice_index_or ns i none) (slice_index_or (refill (length all) all new) i none)) same
      (subst (λ (ns : List Node). AfterPacket (is_missed missed i) packet (slice_index_or now i none) (slice_index_or ns i none)) (sym all_refilled)
      (each i none (subst (λ (ns : List Node). i < length ns) (sym same) below)))
