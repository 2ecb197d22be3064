-- Messages one after the other, and bytes one after the other.
use Rattle.std.proofs.Common.{◌≡◌, ◌≢◌, slice_index, ne_eqb, ℕ, ◌+◌, ◌<◌, ◌==◌, false, List, [], ◌∷◌, ◌++◌, zero, suc, length, take, refl, ap, sym, subst, ◌∙◌, inl, inr, arith, Option}
use Rattle.std.specs.Prelude.{if◌then◌else◌}
use Rattle.std.proofs.lemmas.Bool.{cases_Bool}
use Rattle.std.proofs.lemmas.List.{take_more}
use Rattle.tungstenite.specs.Socket.{Socket}
use Rattle.web.specs.Messages.{held_after, held_along, messages_along, without_return}
use Rattle.web.specs.Sending.{Queues, QueuesAll}

pub tells-nothing : {S : Type 0} (contents : S → Option (List ℕ)) (socket : Socket S) → QueuesAll contents [] socket socket
unfolding QueuesAll
tells-nothing contents socket = refl

pub tells-one : {S : Type 0} (contents : S → Option (List ℕ)) (message : List ℕ) (old new : Socket S) → Queues contents message old new → QueuesAll contents (message ∷ []) old new
unfolding QueuesAll
tells-one contents message old new says = (new, says, refl)

pub tells-one-more : {S : Type 0} (contents : S → Option (List ℕ)) (messages : List (List ℕ)) (message : List ℕ) (old mid new : Socket S)
    → QueuesAll contents messages old mid → Queues contents message mid new → QueuesAll contents (messages ++ message ∷ []) old new
unfolding QueuesAll
tells-one-more contents [] message old mid new sent says = (new, subst (λ s. Queues contents message s new) sent says, refl)
tells-one-more contents (m ∷ messages) message old mid new sent says =
    (sent.0, sent.1, tells-one-more contents messages message sent.0 mid new sent.2 says)

-- if no byte was taken, nothing was sent
pub nothing-sent : {S : Type 0} (contents : S → Option (List ℕ)) (start held text : List ℕ) (i : ℕ) (old new : Socket S) → i ≡ 0
    → held ≡ held_along start (take i text) → QueuesAll contents (messages_along start (take i text)) old new → (held ≡ start) × (new ≡ old)
unfolding QueuesAll
nothing-sent contents start held text zero old new none is sent = (is, sent)
nothing-sent contents start held text (suc i) old new none is sent = absurd (omega arith)

-- the effect of a byte that ends no line, and of one that ends one
pub held-open : (held text : List ℕ) (b : ℕ) → (b == 10) ≡ false → held_along held (text ++ b ∷ []) ≡ held_after (held_along held text) b
held-open held [] b e = ap (λ c. if c then [] else held_after held b) e
held-open held (x ∷ text) b e = elim (cases_Bool (x == 10)) [
  | inl f ↦ rw f (held-open [] text b e)
  | inr f ↦ rw f (held-open (held_after held x) text b e)
]

pub messages-open : (held text : List ℕ) (b : ℕ) → (b == 10) ≡ false → messages_along held (text ++ b ∷ []) ≡ messages_along held text
messages-open held [] b e = rw e refl
messages-open held (x ∷ text) b e = elim (cases_Bool (x == 10)) [
  | inl f ↦ rw f (ap (λ (ms : List (List ℕ)). without_return held ∷ ms) (messages-open [] text b e))
  | inr f ↦ rw f (messages-open (held_after held x) text b e)
]

pub held-end : (held text : List ℕ) → held_along held (text ++ 10 ∷ []) ≡ []
held-end held [] = refl
held-end held (x ∷ text) = elim (cases_Bool (x == 10)) [
  | inl f ↦ rw f (held-end [] text)
  | inr f ↦ rw f (held-end (held_after held x) text)
]

pub messages-end : (held text : List ℕ) → messages_along held (text ++ 10 ∷ []) ≡ messages_along held text ++ without_return (held_along held text) ∷ []
messages-end held [] = refl
messages-end held (x ∷ text) = elim (cases_Bool (x == 10)) [
  | inl f ↦ rw f (ap (λ (ms : List (List ℕ)). without_return held ∷ ms) (messages-end [] text))
  | inr f ↦ rw f (messages-end (held_after held x) text)
]

-- one step along the bytes

pub step-held : (start held text : List ℕ) (i : ℕ) → i < length text → slice_index text i ≢ 10 → held ≡ held_along start (take i text)
    → held_after held (slice_index text i) ≡ held_along start (take (i + 1) text)
step-held start held text i inside other is =
    let b = slice_index text i in
    ap (λ (h : List ℕ). held_after h b) is
    ∙ sym (ap (held_along start) (take_more text i 0 inside) ∙ held-open start (take i text) b (ne_eqb b 10 other))

pub step-messages : (start text : List ℕ) (i : ℕ) → i < length text → slice_index text i ≢ 10
    → messages_along start (take i text) ≡ messages_along start (take (i + 1) text)
step-messages start text i inside other =
    sym (ap (messages_along start) (take_more text i 0 inside) ∙ messages-open start (take i text) (slice_index text i) (ne_eqb (slice_index text i) 10 other))

end-taken : (text : List ℕ) (i : ℕ) → i < length text → slice_index text i ≡ 10 → take (i + 1) text ≡ take i text ++ 10 ∷ []
end-taken text i inside is = take_more text i 0 inside ∙ ap (λ b. take i text ++ b ∷ []) is

pub end-held : (start text : List ℕ) (i : ℕ) → i < length text → slice_index text i ≡ 10 → [] ≡ held_along start (take (i + 1) text)
end-held start text i inside is = sym (ap (held_along start) (end-taken text i inside is) ∙ held-end start (take i text))

pub end-tells : {S : Type 0} (contents : S → Option (List ℕ)) (start held text : List ℕ) (i : ℕ) (old mid new : Socket S) → i < length text → slice_index text i ≡ 10
    → held ≡ held_along start (take i text) → QueuesAll contents (messages_along start (take i text)) old mid
    → Queues contents (without_return held) mid new → QueuesAll contents (messages_along start (take (i + 1) text)) old new
end-tells contents start held text i old mid new inside is same sent says =
    subst (λ ms. QueuesAll contents ms old new) (sym (ap (messages_along start) (end-taken text i inside is) ∙ messages-end start (take i text)))
    (tells-one-more contents (messages_along start (take i text)) (without_return (held_along start (take i text))) old mid new sent
    (subst (λ h. Queues contents (without_return h) mid new) same says))
