-- The results of lines, one after another.
use Rattle.std.proofs.Common.{◌≡◌, ℕ, suc, ◌+◌, ◌≤◌, List, [], ◌∷◌, ◌++◌, length, length-append, Option, Result, Ok, Err, Bool, true, false, if◌then◌else◌, refl, ap, sym, subst, ◌∙◌, append_assoc, arith}
use Rattle.std.proofs.lemmas.List.{append-nil}
use Rattle.std.specs.Option.{option_to_list}
use Rattle.std.specs.Result.{is_err, is_ok}
use Rattle.std.specs.Str.Lines.{lines}
use Rattle.trace.specs.Parsed.{FailsAt, IsFaulty, ParsesAll}

-- After a number of lines with these results, the results of all lines are these followed by the
-- results of the remaining lines.
pub record HasParsed {A : Type 0} (Parses : List ℕ → Option A → Type 0) (all left : List (List ℕ)) (number : ℕ) (things : List A) : Type 0 where
  pub before : List (List ℕ)
  pub all_are : all ≡ before ++ left
  pub counted : length before ≡ number
  pub item : ParsesAll Parses before things
  pub exact : (whole : List A) → ParsesAll Parses all whole → (more : List A) × (things ++ more ≡ whole) × ParsesAll Parses left more

pub parsed_none : {A : Type 0} (Parses : List ℕ → Option A → Type 0) (all : List (List ℕ)) → HasParsed Parses all all 0 []
parsed_none Parses all = record { before = []; all_are = refl; counted = refl; item = refl; exact = λ whole report. (whole, refl, report) }

one_more : {A : Type 0} (Parses : List ℕ → Option A → Type 0) (before : List (List ℕ)) (things : List A) (line : List ℕ) (item : Option A) → ParsesAll Parses before things → Parses line item → ParsesAll Parses (before ++ line ∷ []) (things ++ option_to_list item)
one_more {A} Parses [] things line item report parses = (item, [], parses, refl, ap (λ (ps : List A). ps ++ option_to_list item) report ∙ sym (append-nil (option_to_list item)))
one_more {A} Parses (first ∷ lines) things line item report parses =
    (report.0, report.1 ++ option_to_list item, report.2, one_more Parses lines report.1 line item report.3 parses, ap (λ (ps : List A). ps ++ option_to_list item) report.4 ∙ append_assoc (option_to_list report.0) report.1 (option_to_list item))

pub parsed_more : {A : Type 0} (Parses : List ℕ → Option A → Type 0) (all left : List (List ℕ)) (number : ℕ) (things : List A) (line : List ℕ) (rest : List (List ℕ)) (item : Option A) (now : List A) → HasParsed Parses all left number things → left ≡ line ∷ rest
    → Parses line item → ((other : Option A) → Parses line other → item ≡ other) → now ≡ things ++ option_to_list item → HasParsed Parses all rest (number + 1) now
parsed_more {A} Parses all left number things line rest item now has next parses only pushed =
    let front : all ≡ (has.before ++ line ∷ []) ++ rest = has.all_are ∙ ap (λ (ls : List (List ℕ)). has.before ++ ls) next ∙ sym (append_assoc has.before (line ∷ []) rest) in
    record {
      before = has.before ++ line ∷ [];
      all_are = front;
      counted = length-append has.before (line ∷ []) ∙ ap (λ n. n + 1) has.counted;
      item = subst (ParsesAll Parses (has.before ++ line ∷ [])) (sym pushed) (one_more Parses has.before things line item has.item parses);
      exact = λ whole report.
          let so_far = has.exact whole report in
          let here : ParsesAll Parses (line ∷ rest) so_far.0 = subst (λ (ls : List (List ℕ)). ParsesAll Parses ls so_far.0) next so_far.2 in
          let same : item ≡ here.0 = only here.0 here.2 in (
            here.1,
            ap (λ (ps : List A). ps ++ here.1) pushed
                ∙ append_assoc things (option_to_list item) here.1
                ∙ ap (λ (o : Option A). things ++ (option_to_list o ++ here.1)) same
                ∙ ap (λ (ps : List A). things ++ ps) (sym here.4)
                ∙ so_far.1,
            here.3,
          );
    }

pub parsed_all : {A : Type 0} (Parses : List ℕ → Option A → Type 0) (all left : List (List ℕ)) (number : ℕ) (things : List A) → HasParsed Parses all left number things → left ≡ [] → ParsesAll Parses all things
parsed_all Parses all left number things has none =
    let whole : has.before ≡ all = sym (has.all_are ∙ ap (λ (ls : List (List ℕ)). has.before ++ ls) none ∙ append-nil has.before) in
    subst (λ (ls : List (List ℕ)). ParsesAll Parses ls things) whole has.item

pub parsed_exactly : {A : Type 0} (Parses : List ℕ → Option A → Type 0) (all left : List (List ℕ)) (number : ℕ) (things whole : List A) → HasParsed Parses all left number things → left ≡ [] → ParsesAll Parses all whole → things ≡ whole
parsed_exactly {A} Parses all left number things whole has none report =
    let so_far = has.exact whole report in
    let nothing : so_far.0 ≡ [] = subst (λ (ls : List (List ℕ)). ParsesAll Parses ls so_far.0) none so_far.2 in
    sym (append-nil things) ∙ ap (λ (ps : List A). things ++ ps) (sym nothing) ∙ so_far.1

-- the next line has a fault
pub fails : {A : Type 0} (Parses : List ℕ → Option A → Type 0) (all left : List (List ℕ)) (number : ℕ) (things : List A) (line : List ℕ) (rest : List (List ℕ)) → HasParsed Parses all left number things → left ≡ line ∷ rest → IsFaulty Parses line → FailsAt Parses all (number + 1)
fails Parses all left number things line rest has next faulty = record {
  before = has.before;
  line = line;
  after = rest;
  items_before = things;
  all_are = has.all_are ∙ ap (λ (ls : List (List ℕ)). has.before ++ ls) next;
  numbered = sym (length-append has.before (line ∷ []) ∙ ap (λ n. n + 1) has.counted);
  item = has.item;
  faulty = faulty;
}

-- and then the lines have no results
pub fails_for_all : {A : Type 0} (Parses : List ℕ → Option A → Type 0) (all left : List (List ℕ)) (number : ℕ) (things whole : List A) (line : List ℕ) (rest : List (List ℕ)) → HasParsed Parses all left number things → left ≡ line ∷ rest → IsFaulty Parses line → ParsesAll Parses all whole → ⊥
fails_for_all Parses all left number things whole line rest has next faulty report =
    let so_far = has.exact whole report in
    let here : ParsesAll Parses (line ∷ rest) so_far.0 = subst (λ (ls : List (List ℕ)). ParsesAll Parses ls so_far.0) next so_far.2 in
    faulty here.0 here.2

pub no_lines : (text : List ℕ) → length text ≡ 0 → lines text ≡ []
no_lines [] none = refl
no_lines (b ∷ bs) none = absurd (omega (arith, none))

pub pushed : {A E B : Type 0} (r : Result A E) (failed : Bool) (things now : List B) (thing : B) → now ≡ (if is_ok r then things ++ thing ∷ [] else things) → failed ≡ is_err r → failed ≡ false → now ≡ things ++ thing ∷ []
pushed (Ok a) failed things now thing is same no_fault = is
pushed (Err e) failed things now thing is same no_fault = absurd (let both : true ≡ false = sym same ∙ no_fault in cc)

pub one_at_most : {A E : Type 0} (r : Result A E) (count now most : ℕ) → now ≡ (if is_ok r then count + 1 else count) → count ≤ most → now ≤ most + 1
one_at_most (Ok a) count now most is few = omega (arith, is, few)
one_at_most (Err e) count now most is few = omega (arith, is, few)

-- Lines that have results have no fault.
pub never_both : {A : Type 0} (Parses : List ℕ → Option A → Type 0) (all : List (List ℕ)) (number : ℕ) (things : List A) → FailsAt Parses all number → ParsesAll Parses all things → ⊥
never_both {A} Parses all number things fails report = found fails.before things (subst (λ (ls : List (List ℕ)). ParsesAll Parses ls things) fails.all_are report)
  where
    found : (before : List (List ℕ)) (things : List A) → ParsesAll Parses (before ++ fails.line ∷ fails.after) things → ⊥
    found [] things report = fails.faulty report.0 report.2
    found (first ∷ before) things report = found before report.1 report.3

-- And a text has one first fault.

as_far : {A : Type 0} (Parses : List ℕ → Option A → Type 0) (b c : List (List ℕ)) (l m : List ℕ) (k n : List (List ℕ)) (ps qs : List A) → b ++ l ∷ k ≡ c ++ m ∷ n → ParsesAll Parses b ps → ParsesAll Parses c qs → IsFaulty Parses l → IsFaulty Parses m → length b ≡ length c
as_far Parses [] [] l m k n ps qs same report other_tell faulty other_faulty = refl
as_far Parses [] (x ∷ c) l m k n ps qs same report other_tell faulty other_faulty = absurd (let first : l ≡ x = cc in faulty other_tell.0 (subst (λ (line : List ℕ). Parses line other_tell.0) (sym first) other_tell.2))
as_far Parses (x ∷ b) [] l m k n ps qs same report other_tell faulty other_faulty = absurd (let first : x ≡ m = cc in other_faulty report.0 (subst (λ (line : List ℕ). Parses line report.0) first report.2))
as_far Parses (x ∷ b) (y ∷ c) l m k n ps qs same report other_tell faulty other_faulty =
    let rest : b ++ l ∷ k ≡ c ++ m ∷ n = cc in
    ap suc (as_far Parses b c l m k n report.1 other_tell.1 rest report.3 other_tell.3 faulty other_faulty)

pub fails_once : {A : Type 0} (Parses : List ℕ → Option A → Type 0) (all : List (List ℕ)) (number other : ℕ) → FailsAt Parses all number → FailsAt Parses all other → number ≡ other
fails_once Parses all number other first second =
    let far : length first.before ≡ length second.before =
    as_far Parses first.before second.before first.line second.line first.after second.after first.items_before second.items_before (sym first.all_are ∙ second.all_are) first.item second.item first.faulty second.faulty in
    first.numbered ∙ length-append first.before (first.line ∷ []) ∙ ap (λ n. n + 1) far ∙ sym (length-append second.before (second.line ∷ [])) ∙ sym second.numbered
