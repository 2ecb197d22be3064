-- The lines of a station after a byte on one of them.
use Rattle.std.proofs.Common.{◌≡◌, ℕ, ◌≤◌, ◌<◌, List, [], ◌++◌, length, take, get_or, set, subst, ap, sym, ◌∙◌, arith, inl, inr, append-nil, drop_of_length-le}
use Rattle.std.proofs.lemmas.Bool.{cases_eq}
use Rattle.std.proofs.lemmas.List.{take_all, length-set, get_or-set_same, get_or-set_other}
use Rattle.std.specs.List.{refill}
use Rattle.ln_frame.specs.Unfinished.{unfinished_of}
use Rattle.slot_table.specs.Desk.{Desk}
use Rattle.refresh_ring.specs.Scheduled.{Scheduled}
use Rattle.station_core.specs.Kept.{IsStation}

pub refilled : (xs ws : List (List ℕ)) → length ws ≡ length xs → refill (length xs) xs ws ≡ ws
refilled xs ws same =
    let past : length xs ≤ length ws = omega (arith, same) in
    ap (λ (rest : List (List ℕ)). take (length xs) (ws ++ rest)) (drop_of_length-le xs past)
    ∙ ap (take (length xs)) (append-nil ws)
    ∙ take_all (length xs) ws (omega (arith, same))

-- what the framers are, where the array of them was lent, and one is as it was left
pub lent_and_set : (all now : List (List ℕ)) (line : ℕ) (left : List ℕ) → now ≡ all → refill (length all) all (set now line left) ≡ set all line left
lent_and_set all now line left same =
    ap (λ (xs : List (List ℕ)). refill (length all) all (set xs line left)) same
    ∙ refilled all (set all line left) (length-set all line left)

pub station_with : (all : List (List ℕ)) (line : ℕ) (left : List ℕ) (desk : Desk) (s : Scheduled) → IsStation all desk s → line < length all → unfinished_of left ≡ left → IsStation (set all line left) desk s
station_with all line left desk s is below kept = record {
  lines = (omega (arith, is.lines.0, length-set all line left), omega (arith, is.lines.1, length-set all line left));
  unfinished = λ other. elim (cases_eq other line) [
    | inl same ↦
        let here : get_or (set all line left) other [] ≡ left = ap (λ (n : ℕ). get_or (set all line left) n []) same ∙ get_or-set_same all line left [] below in
        ap unfinished_of here ∙ kept ∙ sym here
    | inr differs ↦
        let there : get_or (set all line left) other [] ≡ get_or all other [] = get_or-set_other all line other left [] differs in
        ap unfinished_of there ∙ is.unfinished other ∙ sym there
  ];
  in_step = is.in_step;
}

pub kept_by : (bytes left : List ℕ) → ((ys : List ℕ) → unfinished_of (unfinished_of ys) ≡ unfinished_of ys) → left ≡ unfinished_of bytes → unfinished_of left ≡ left
kept_by bytes left once is = ap unfinished_of is ∙ once bytes ∙ sym is

-- so a station stays one, where a framer of the lent array took a byte
pub stays_station : (all now : List (List ℕ)) (line : ℕ) (bytes left : List ℕ) (desk : Desk) (s : Scheduled) → IsStation all desk s → line < length all → now ≡ all
    → ((ys : List ℕ) → unfinished_of (unfinished_of ys) ≡ unfinished_of ys) → left ≡ unfinished_of bytes → IsStation (refill (length all) all (set now line left)) desk s
stays_station all now line bytes left desk s is below same once kept =
    subst (λ (lines : List (List ℕ)). IsStation lines desk s) (sym (lent_and_set all now line left same))
    (station_with all line left desk s is below (kept_by bytes left once kept))
