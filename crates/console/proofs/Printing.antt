-- The lines printed, one after another, and the messages among them.
use Rattle.std.proofs.Common.{◌≡◌, ℕ, List, [], ◌∷◌, ◌++◌, Option, Some, None, refl, ap, sym, subst, ◌∙◌, append_assoc}
use Rattle.std.proofs.lemmas.List.{append-nil}
use Rattle.std.specs.Io.KnownBytes.{Appends}
use Rattle.std.proofs.KnownBytes.{Appends-nil, Appends-trans}
use Rattle.std.specs.Option.{option_to_list}
use Rattle.ln_frame.specs.Stream.{message_at_end, messages_of}
use Rattle.ln_frame.specs.Unfinished.{messages_along, unfinished_of}
use Rattle.show_text.specs.Messages.{message_text}
use Rattle.console.specs.Printed.{ended, messages_text}

pub messages-append : (ms more : List (List ℕ)) → messages_text (ms ++ more) ≡ messages_text ms ++ messages_text more
messages-append [] more = refl
messages-append (m ∷ ms) more = ap (λ bs. ended (message_text m) ++ bs) (messages-append ms more) ∙ sym (append_assoc (ended (message_text m)) (messages_text ms) (messages_text more))

-- The messages so far were printed, and those in the rest of the bytes are the rest.
pub record HasPrinted (all : List ℕ) (left : List ℕ) (rest : List ℕ) (old now : Option (List ℕ)) : Type 0 where
  pub so_far : List (List ℕ)
  pub printed : Appends old now (messages_text so_far)
  pub all_are : so_far ++ messages_along left rest ≡ messages_along [] all

pub printed_none : (all : List ℕ) (old : Option (List ℕ)) → HasPrinted all [] all old old
printed_none all old = record { so_far = []; printed = Appends-nil old; all_are = refl }

-- one byte more
pub printed_more : (all left : List ℕ) (byte : ℕ) (rest : List ℕ) (old now new : Option (List ℕ)) (given : Option (List ℕ)) (kept : List ℕ) → HasPrinted all left (byte ∷ rest) old now
    → given ≡ message_at_end (left ++ byte ∷ []) → kept ≡ unfinished_of (left ++ byte ∷ []) → Appends now new (messages_text (option_to_list given)) → HasPrinted all kept rest old new
printed_more all left byte rest old now new given kept has is left_is more = record {
  so_far = has.so_far ++ option_to_list given;
  printed = subst (λ bs. Appends old new bs) (sym (messages-append has.so_far (option_to_list given))) (Appends-trans old now new (messages_text has.so_far) (messages_text (option_to_list given)) has.printed more);
  all_are =
      append_assoc has.so_far (option_to_list given) (messages_along kept rest)
      ∙ ap (λ (o : Option (List ℕ)). has.so_far ++ (option_to_list o ++ messages_along kept rest)) is
      ∙ ap (λ (k : List ℕ). has.so_far ++ (option_to_list (message_at_end (left ++ byte ∷ [])) ++ messages_along k rest)) left_is
      ∙ has.all_are;
}

pub printed_all : ((bytes : List ℕ) → messages_along [] bytes ≡ messages_of bytes) → (all left : List ℕ) (old new : Option (List ℕ)) → HasPrinted all left [] old new → Appends old new (messages_text (messages_of all))
printed_all whole all left old new has =
    subst (λ (ms : List (List ℕ)). Appends old new (messages_text ms)) (sym (append-nil has.so_far) ∙ has.all_are ∙ whole all) has.printed

-- a message that was completed, and its line
pub printed_one : (now new printed : Option (List ℕ)) (given : Option (List ℕ)) (message text : List ℕ) → given ≡ Some message → text ≡ message_text message → new ≡ printed → Appends now printed (text ++ 10 ∷ []) → Appends now new (messages_text (option_to_list given))
printed_one now new printed given message text is line same h =
    let one : Appends now new (text ++ 10 ∷ []) = subst (λ (o : Option (List ℕ)). Appends now o (text ++ 10 ∷ [])) (sym same) h in
    let told : Appends now new (ended (message_text message)) = subst (λ (bs : List ℕ). Appends now new (bs ++ 10 ∷ [])) line one in
    subst (λ (o : Option (List ℕ)). Appends now new (messages_text (option_to_list o))) (sym is)
    (subst (λ (bs : List ℕ). Appends now new bs) (sym (append-nil (ended (message_text message)))) told)

-- and none
pub printed_nothing : (now new : Option (List ℕ)) (given : Option (List ℕ)) → given ≡ None → new ≡ now → Appends now new (messages_text (option_to_list given))
printed_nothing now new given is same =
    subst (λ (o : Option (List ℕ)). Appends now new (messages_text (option_to_list o))) (sym is)
    (subst (λ (o : Option (List ℕ)). Appends now o []) (sym same) (Appends-nil now))
