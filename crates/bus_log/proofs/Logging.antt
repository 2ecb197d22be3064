-- A text that is printed, byte by byte.
use Rattle.std.proofs.Common.{◌≡◌, ◌<◌, ◌≤◌, ◌+◌, ◌∙◌, ℕ, zero, suc, List, [], ◌∷◌, ◌++◌, length, drop, drop_of_length-le, get_or, refl, ap, arith}
use Rattle.bus_log.specs.LogQueues.{LogState, after_byte, after_lines, after_text}

-- one byte more
pub text-more : (log : LogState) (text : List ℕ) (i : ℕ) → i < length text → after_text log (drop i text) ≡ after_text (after_byte log (get_or text i 0)) (drop (i + 1) text)
unfolding after_text
text-more log [] i below = absurd (omega (arith, below))
text-more log (b ∷ text) zero below = refl
text-more log (b ∷ text) (suc i) below =
    let next : suc (i + 1) ≡ suc i + 1 = omega arith in
    text-more log text i (omega (arith, below))
    ∙ ap (λ (n : ℕ). after_text (after_byte log (get_or text i 0)) (drop n (b ∷ text))) next

-- none remain
pub text-none : (log : LogState) (text : List ℕ) (i : ℕ) → length text ≤ i → after_text log (drop i text) ≡ log
unfolding after_text
text-none log text i over = ap (λ (rest : List ℕ). after_text log rest) (drop_of_length-le text over)

-- one text after another
pub text-append : (log : LogState) (text more : List ℕ) → after_text log (text ++ more) ≡ after_text (after_text log text) more
unfolding after_text
text-append log [] more = refl
text-append log (b ∷ text) more = text-append (after_byte log b) text more

-- some lines after others
pub lines-append : (log : LogState) (lines more : List (List ℕ)) → after_lines log (lines ++ more) ≡ after_lines (after_lines log lines) more
lines-append log [] more = refl
lines-append log (line ∷ lines) more = lines-append (after_text log (line ++ 10 ∷ [])) lines more
