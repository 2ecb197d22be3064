-- How many bytes the writes of an output take, one after another.
use Rattle.std.proofs.Common.{◌≡◌, ◌<◌, ◌+◌, ◌∙◌, ℕ, List, [], ◌∷◌, ◌++◌, length, Option, refl, ap, subst, inl, inr, arith}
use Rattle.std.proofs.lemmas.List.{length_push}
use Rattle.std.proofs.lemmas.List.Elements.{All-nil, All-push}
use Rattle.std.specs.Prelude.{All}
use Rattle.std.specs.Io.KnownBytes.{Appends}
use Rattle.std.proofs.KnownBytes.{Appends-nil, Appends-trans}
use Rattle.bus_log.specs.LogQueues.{LogState, WritesUntilBlocked}

-- So many writes were made, and each took bytes.
abbrev pub Takes : (before held : Option (List ℕ)) → (writes : ℕ) → Type 0
Takes before held writes = (counts : List ℕ) × All (λ count. 0 < count) counts × Appends before held counts × (length counts ≡ writes)

pub takes_none : (held : Option (List ℕ)) → Takes held held 0
takes_none held = ([], All-nil (λ (count : ℕ). 0 < count), Appends-nil held, refl)

-- one more write took bytes
pub takes_more : (before held after : Option (List ℕ)) (writes count : ℕ) → (count ≡ 0 → ⊥) → Appends held after (count ∷ []) → Takes before held writes → Takes before after (writes + 1)
takes_more before held after writes count some adds so_far =
    let positive : 0 < count = omega (arith, some) in
    let more : length (so_far.0 ++ count ∷ []) ≡ length so_far.0 + 1 = length_push so_far.0 count in
    (so_far.0 ++ count ∷ [], All-push (λ (n : ℕ). 0 < n) so_far.0 count so_far.1 positive, Appends-trans before held after so_far.0 (count ∷ []) so_far.2 adds, more ∙ ap (λ (n : ℕ). n + 1) so_far.3)

-- one more write took none
pub takes_until : (log : LogState) (before held after : Option (List ℕ)) (writes count : ℕ) → count ≡ 0 → Appends held after (count ∷ []) → Takes before held writes → WritesUntilBlocked log before after
takes_until log before held after writes count none adds so_far =
    let zero_added : Appends held after (0 ∷ []) = subst (λ (n : ℕ). Appends held after (n ∷ [])) none adds in
    (so_far.0, so_far.1, inl (Appends-trans before held after so_far.0 (0 ∷ []) so_far.2 zero_added))

-- nothing is left
pub takes_all : (log : LogState) (before held : Option (List ℕ)) (writes : ℕ) → log.queued ≡ [] → Takes before held writes → WritesUntilBlocked log before held
takes_all log before held writes empty so_far = (so_far.0, so_far.1, inr (so_far.2, inl empty))

-- the most writes were made
pub takes_most : (log : LogState) (before held : Option (List ℕ)) (writes : ℕ) → writes ≡ 64 → Takes before held writes → WritesUntilBlocked log before held
takes_most log before held writes most so_far = (so_far.0, so_far.1, inr (so_far.2, inr (so_far.3 ∙ most)))
