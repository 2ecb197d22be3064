-- What is written of a queue, one piece after another.
use Rattle.std.proofs.Common.{◌≡◌, ◌<◌, ◌≤◌, ◌∙◌, ℕ, true, false, List, [], ◌++◌, length, take, drop, Option, Some, None, refl, ap, sym, subst, inl, inr, append_assoc, append-nil}
use Rattle.std.proofs.lemmas.Bool.{and_parts, cases_Bool, ltb-true}
use Rattle.std.proofs.lemmas.List.{take-append-drop, take-take}
use Rattle.std.specs.Prelude.{nat_le, nat_lt}
use Rattle.std.specs.Io.KnownBytes.{Appends, Keeps}
use Rattle.std.proofs.KnownBytes.{Appends-kept, Appends-nil, Appends-trans}
use Rattle.bus_log.specs.LogQueues.{LogState, WritesQueued, is_reported}

pub writes_none : (log : LogState) (held : Option (List ℕ)) → WritesQueued log log held held
writes_none log held = ([], [], Appends-nil held, append-nil log.queued, inl (refl, refl), refl, refl)

-- a report is queued behind
pub writes_reported : (start old new : LogState) (before held : Option (List ℕ)) → (is_reported old ≡ false → new ≡ old)
    → (is_reported old ≡ true → (line : List ℕ) × (new ≡ record old { queued = old.queued ++ line; left_out = 0 })) → WritesQueued start old before held → WritesQueued start new before held
writes_reported start old new before held kept reported so_far = elim (cases_Bool (is_reported old)) [
  | inl is ↦
      let line = reported is in
      let some : 0 < old.left_out = ltb-true 0 old.left_out (and_parts (nat_lt 0 old.left_out) (nat_le (length old.queued) 32768) is).0 in
      subst (λ (log : LogState). WritesQueued start log before held) (sym line.1) (
        so_far.0,
        so_far.1 ++ line.0,
        so_far.2,
        sym (append_assoc start.queued so_far.1 line.0) ∙ ap (λ (bytes : List ℕ). bytes ++ line.0) so_far.3 ∙ append_assoc so_far.0 old.queued line.0,
        elim so_far.4 [
          | inl none ↦ inr (subst (λ (count : ℕ). 0 < count) none.1 some, refl)
          | inr once ↦ inr (once.0, refl)
        ],
        so_far.5,
        so_far.6,
      )
  | inr is ↦ subst (λ (log : LogState). WritesQueued start log before held) (sym (kept is)) so_far
]

-- bytes are written from the front
pub writes_more : (start old new : LogState) (before held after : Option (List ℕ)) (front : List ℕ) (count : ℕ) → front ≡ take (length front) old.queued → count ≤ length front
    → Appends held after (take count front) → new ≡ record old { queued = drop count old.queued } → WritesQueued start old before held → WritesQueued start new before after
writes_more start old new before held after front count is few writes removed so_far =
    let piece : take count front ≡ take count old.queued = ap (take count) is ∙ take-take count (length front) old.queued few in
    let split : old.queued ≡ take count front ++ drop count old.queued = sym (take-append-drop count old.queued) ∙ ap (λ (bytes : List ℕ). bytes ++ drop count old.queued) (sym piece) in
    subst (λ (log : LogState). WritesQueued start log before after) (sym removed) (
      so_far.0 ++ take count front,
      so_far.1,
      Appends-trans before held after so_far.0 (take count front) so_far.2 writes,
      so_far.3 ∙ ap (λ (bytes : List ℕ). so_far.0 ++ bytes) split ∙ sym (append_assoc so_far.0 (take count front) (drop count old.queued)),
      so_far.4,
      so_far.5,
      so_far.6,
    )

-- nothing is
pub writes_nothing : (start old : LogState) (before held after : Option (List ℕ)) → Keeps held after → WritesQueued start old before held → WritesQueued start old before after
writes_nothing start old before held after kept so_far = (so_far.0, so_far.1, Appends-kept before held after so_far.0 so_far.2 kept, so_far.3, so_far.4, so_far.5, so_far.6)

-- no byte is
pub writes_zero : (start old : LogState) (before held after : Option (List ℕ)) (front : List ℕ) (count : ℕ) → count ≡ 0 → Appends held after (take count front) → WritesQueued start old before held → WritesQueued start old before after
writes_zero start old before held after front count none writes so_far = writes_nothing start old before held after (keeps held after (subst (λ (n : ℕ). Appends held after (take n front)) none writes)) so_far
  where
    keeps : (held after : Option (List ℕ)) → Appends held after [] → Keeps held after
    keeps None after h = tt
    keeps (Some xs) None h = absurd h
    keeps (Some xs) (Some ys) h = h ∙ append-nil xs
