-- The lines of one index after another.
use Rattle.std.proofs.Common.{◌≡◌, ◌<◌, ◌≤◌, ◌+◌, ◌-◌, ◌∙◌, ℕ, zero, suc, List, [], ◌++◌, refl, ap, ap₂, sym, arith, Option}
use Rattle.railway.specs.declared.train.TrainState.{TrainState}
use Rattle.railway.specs.Railway.{RailwayState}
use Rattle.roster.specs.Entry.{Entry}
use Rattle.bus_log.specs.LogQueues.{LogState, after_lines}
use Rattle.bus_log.specs.RailwayLines.{lines_of_each, railway_lines}
use Rattle.bus_log.proofs.Logging.{lines-append}

-- those of one index more
pub each_more : (log next : LogState) (lines : ℕ → List (List ℕ)) (i n : ℕ) → i < n → next ≡ after_lines log (lines i)
    → after_lines next (lines_of_each (i + 1) (n - (i + 1)) lines) ≡ after_lines log (lines_of_each i (n - i) lines)
each_more log next lines i n below one =
    let count : n - i ≡ suc (n - (i + 1)) = omega (arith, below) in
    ap (λ (l : LogState). after_lines l (lines_of_each (i + 1) (n - (i + 1)) lines)) one
    ∙ sym (lines-append log (lines i) (lines_of_each (i + 1) (n - (i + 1)) lines))
    ∙ sym (ap (λ (k : ℕ). after_lines log (lines_of_each i k lines)) count)

-- none remain
pub each_none : (log : LogState) (lines : ℕ → List (List ℕ)) (i n : ℕ) → n ≤ i → after_lines log (lines_of_each i (n - i) lines) ≡ log
each_none log lines i n over =
    let count : n - i ≡ 0 = omega (arith, over) in
    ap (λ (k : ℕ). after_lines log (lines_of_each i k lines)) count

-- three lists of lines, one after another
pub lines_in_order : (a b c d : LogState) (first second third : List (List ℕ)) → b ≡ after_lines a first → c ≡ after_lines b second → d ≡ after_lines c third
    → d ≡ after_lines a (first ++ second ++ third)
lines_in_order a b c d first second third one two three =
    three
    ∙ ap (λ (l : LogState). after_lines l third) (two ∙ ap (λ (l : LogState). after_lines l second) one ∙ sym (lines-append a first second))
    ∙ sym (lines-append a (first ++ second) third)

-- the lines of an outcome, and then those of the railway
pub railway_behind : (old mid new : LogState) (lines : List (List ℕ)) (entries entries' : List Entry) (trains trains' : List TrainState) (railway : Option RailwayState) → mid ≡ after_lines old lines → entries' ≡ entries → trains' ≡ trains
    → new ≡ after_lines mid (railway_lines entries' trains' railway) → new ≡ after_lines old (lines ++ railway_lines entries trains railway)
railway_behind old mid new lines entries entries' trains trains' railway one same_entries same_trains two =
    two
    ∙ ap₂ (λ (es : List Entry) (ts : List TrainState). after_lines mid (railway_lines es ts railway)) same_entries same_trains
    ∙ ap (λ (l : LogState). after_lines l (railway_lines entries trains railway)) one
    ∙ sym (lines-append old lines (railway_lines entries trains railway))

-- no lines
pub each_empty : (lines : ℕ → List (List ℕ)) → ((i : ℕ) → lines i ≡ []) → (first count : ℕ) → lines_of_each first count lines ≡ []
each_empty lines empty first zero = refl
each_empty lines empty first (suc count) =
    ap₂ (λ (a b : List (List ℕ)). a ++ b) (empty first) (each_empty lines empty (first + 1) count)
