-- The message of a reply, from its bytes.
use Rattle.std.proofs.Common.{◌≡◌, ℕ, List, [], ◌∷◌, ◌++◌, length, get_or, ap, ap₂, ◌∙◌}
use Rattle.ln_frame.specs.Message.{check_of}
use Rattle.ln_ops.specs.declared.reply.Reply.TheVariants.{SlotData, LongAck}
use Rattle.ln_ops.specs.Message.{fields_of}
use Rattle.ln_ops.specs.Reply.{reply_bytes}
use Rattle.ln_ops.proofs.Gets.{gets_from, gets-all}

-- whatever stands before it determines the check
abbrev pub HasCheck : List ℕ → Type 0
HasCheck m = (body : List ℕ) (last : ℕ) → m ≡ body ++ last ∷ [] → last ≡ check_of body

abbrev with_check : List ℕ → List ℕ
with_check body = body ++ check_of body ∷ []

checked : (m body : List ℕ) (last : ℕ) → HasCheck m → m ≡ body ++ last ∷ [] → m ≡ with_check body
checked m body last h e = e ∙ ap (λ (x : ℕ). body ++ x ∷ []) (h body last e)

pub ack-whole : (m : List ℕ) → length m ≡ 4 → get_or m 0 0 ≡ 180 → HasCheck m → m ≡ reply_bytes (LongAck (get_or m 1 0) (get_or m 2 0))
ack-whole m l op h =
    checked m (gets_from 0 3 m) (get_or m 3 0) h (gets-all 4 m l)
    ∙ ap (λ (x : ℕ). with_check (x ∷ get_or m 1 0 ∷ get_or m 2 0 ∷ [])) op

pub data-whole : (m : List ℕ) → length m ≡ 14 → get_or m 0 0 ≡ 231 → get_or m 1 0 ≡ 14 → HasCheck m → m ≡ reply_bytes (SlotData (fields_of m))
data-whole m l op count h =
    checked m (gets_from 0 13 m) (get_or m 13 0) h (gets-all 14 m l)
    ∙ ap₂ (λ (x y : ℕ). with_check (x ∷ y ∷ gets_from 2 11 m)) op count
