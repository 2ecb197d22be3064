-- The messages due, one after another.
use Rattle.std.proofs.Common.{◌≡◌, ◌<◌, ◌≤◌, ◌+◌, ◌∙◌, ℕ, zero, suc, Bool, true, false, if◌then◌else◌, List, [], ◌∷◌, ◌++◌, length, take, drop, drop_of_length-le, get_or, set, Option, Some, None, refl, ap, sym, subst, arith, append_assoc}
use Rattle.std.proofs.lemmas.List.{append-nil}
use Rattle.std.proofs.lemmas.Option.{none-some, same_Some}
use Rattle.std.specs.Prelude.{slice_get}
use Rattle.bus.specs.Log.{Extends}
use Rattle.pages.specs.ClientEvents.{ClientEvent, Opening, Offer, Sending}
use Rattle.pages.specs.declared.items.ItemState.{ItemState}
use Rattle.pages.specs.Updates.{SendsUnsent, SendsIf, ServesPage, ServesPages, known_sent, is_last, unsent_messages, sendings, sent_after}

-- a log that grew by nothing, and one that grew twice
extends-nil : (log : Option (List ClientEvent)) → Extends log log []
extends-nil None = tt
extends-nil (Some log) = sym (append-nil log)

extends-both : (old mid new : Option (List ClientEvent)) (xs ys : List ClientEvent) → Extends old mid xs → Extends mid new ys → Extends old new (xs ++ ys)
extends-both None None None xs ys one two = tt
extends-both None None (Some new) xs ys one two = two
extends-both None (Some mid) new xs ys one two = absurd one
extends-both (Some old) None new xs ys one two = absurd one
extends-both (Some old) (Some mid) None xs ys one two = two
extends-both (Some old) (Some mid) (Some new) xs ys one two = two ∙ ap (λ (zs : List ClientEvent). zs ++ ys) one ∙ append_assoc old xs ys

-- the message due for one decoder
abbrev pub due_of : (message : List ℕ) → (last : Option ItemState) → (now : ItemState) → List (List ℕ)
due_of message last now = if is_last last now then [] else message ∷ []

unsent-first : (messages : List (List ℕ)) (sent : List (Option ItemState)) (states_now : List ItemState) (i : ℕ) (none : List ℕ) (now : ItemState)
    → i < length messages → length states_now ≡ length messages → length messages ≤ length sent
    → unsent_messages (drop i messages) (drop i sent) (drop i states_now)
    ≡ due_of (get_or messages i none) (get_or sent i None) (get_or states_now i now) ++ unsent_messages (drop (suc i) messages) (drop (suc i) sent) (drop (suc i) states_now)
unsent-first [] sent states_now i none now below all many = absurd (omega (arith, below))
unsent-first (m ∷ messages) [] states_now i none now below all many = absurd (omega (arith, many))
unsent-first (m ∷ messages) (l ∷ sent) [] i none now below all many = absurd (omega (arith, all))
unsent-first (m ∷ messages) (l ∷ sent) (s ∷ states_now) zero none now below all many = refl
unsent-first (m ∷ messages) (l ∷ sent) (s ∷ states_now) (suc i) none now below all many =
    unsent-first messages sent states_now i none now (omega (arith, below)) (omega (arith, all)) (omega (arith, many))

-- no message was accepted
after-none : (sent : List (Option ItemState)) (states_now : List ItemState) → sent_after zero sent states_now ≡ sent
after-none [] states_now = refl
after-none (last ∷ sent) [] = refl
after-none (last ∷ sent) (now ∷ states_now) = refl

-- the states last sent, once the items before i are done
abbrev pub after_from : (count i : ℕ) → List (Option ItemState) → List ItemState → List (Option ItemState)
after_from count i sent states_now = take i sent ++ sent_after count (drop i sent) (drop i states_now)

front-and-back : (i : ℕ) (sent : List (Option ItemState)) → take i sent ++ drop i sent ≡ sent
front-and-back zero sent = refl
front-and-back (suc i) [] = refl
front-and-back (suc i) (last ∷ sent) = ap (λ (ls : List (Option ItemState)). last ∷ ls) (front-and-back i sent)

after-none-from : (i : ℕ) (sent : List (Option ItemState)) (states_now : List ItemState) → after_from zero i sent states_now ≡ sent
after-none-from i sent states_now =
    ap (λ (ls : List (Option ItemState)). take i sent ++ ls) (after-none (drop i sent) (drop i states_now)) ∙ front-and-back i sent

same-first : (count : ℕ) (last : Option ItemState) (sent : List (Option ItemState)) (s : ItemState) (states_now : List ItemState) → is_last last s ≡ true
    → sent_after count (last ∷ sent) (s ∷ states_now) ≡ last ∷ sent_after count sent states_now
same-first zero last sent s states_now same = ap (λ (ls : List (Option ItemState)). last ∷ ls) (sym (after-none sent states_now))
same-first (suc count) last sent s states_now same =
    ap (λ (is : Bool). if is then last ∷ sent_after (suc count) sent states_now else Some s ∷ sent_after count sent states_now) same

after-same : (count : ℕ) (sent : List (Option ItemState)) (states_now : List ItemState) (i : ℕ) (now : ItemState) → i < length states_now → length states_now ≤ length sent
    → is_last (get_or sent i None) (get_or states_now i now) ≡ true → after_from count i sent states_now ≡ after_from count (suc i) sent states_now
after-same count [] states_now i now below many same = absurd (omega (arith, below, many))
after-same count (last ∷ sent) [] i now below many same = absurd (omega (arith, below))
after-same count (last ∷ sent) (s ∷ states_now) zero now below many same = same-first count last sent s states_now same
after-same count (last ∷ sent) (s ∷ states_now) (suc i) now below many same =
    ap (λ (ls : List (Option ItemState)). last ∷ ls) (after-same count sent states_now i now (omega (arith, below)) (omega (arith, many)) same)

after-taken : (count : ℕ) (sent : List (Option ItemState)) (states_now : List ItemState) (i : ℕ) (now : ItemState) → i < length states_now → length states_now ≤ length sent
    → is_last (get_or sent i None) (get_or states_now i now) ≡ false
    → after_from (suc count) i sent states_now ≡ after_from count (suc i) (set sent i (Some (get_or states_now i now))) states_now
after-taken count [] states_now i now below many differs = absurd (omega (arith, below, many))
after-taken count (last ∷ sent) [] i now below many differs = absurd (omega (arith, below))
after-taken count (last ∷ sent) (s ∷ states_now) zero now below many differs =
    ap (λ (is : Bool). if is then last ∷ sent_after (suc count) sent states_now else Some s ∷ sent_after count sent states_now) differs
after-taken count (last ∷ sent) (s ∷ states_now) (suc i) now below many differs =
    ap (λ (ls : List (Option ItemState)). last ∷ ls) (after-taken count sent states_now i now (omega (arith, below)) (omega (arith, many)) differs)

behind-set : (sent : List (Option ItemState)) (i : ℕ) (state : Option ItemState) → drop (suc i) (set sent i state) ≡ drop (suc i) sent
behind-set [] i state = refl
behind-set (last ∷ sent) zero state = refl
behind-set (last ∷ sent) (suc i) state = behind-set sent i state

-- the effect of the rest completes the whole
abbrev pub Rest : (client : ℕ) → List (List ℕ) → List ItemState → (start : List (Option ItemState)) → (log_start : Option (List ClientEvent)) → (i : ℕ) → List (Option ItemState) → Option (List ClientEvent) → Type 0
Rest client messages states_now start log_start i sent log =
    (final : List (Option ItemState)) (log_then : Option (List ClientEvent)) (count : ℕ) → final ≡ after_from count i sent states_now
    → Extends log log_then (sendings client count (unsent_messages (drop i messages) (drop i sent) (drop i states_now)))
    → SendsUnsent client messages states_now start final log_start log_then

module _ (client : ℕ) (messages : List (List ℕ)) (states_now : List ItemState) (start : List (Option ItemState)) (log_start : Option (List ClientEvent)) where
  pub rest-all : Rest client messages states_now start log_start zero start log_start
  rest-all final log_then count is extends = (count, is, extends)

  -- an item whose present state was sent
  pub rest-same : (sent : List (Option ItemState)) (log : Option (List ClientEvent)) (i : ℕ) (none : List ℕ) (now : ItemState) → i < length messages → length states_now ≡ length messages → length messages ≤ length sent
      → is_last (get_or sent i None) (get_or states_now i now) ≡ true
      → Rest client messages states_now start log_start i sent log → Rest client messages states_now start log_start (i + 1) sent log
  rest-same sent log i none now below all many same rest =
      let next : suc i ≡ i + 1 = omega arith in
      let unsent : unsent_messages (drop i messages) (drop i sent) (drop i states_now) ≡ unsent_messages (drop (suc i) messages) (drop (suc i) sent) (drop (suc i) states_now) =
      unsent-first messages sent states_now i none now below all many
      ∙ ap (λ (is : Bool). (if is then [] else get_or messages i none ∷ []) ++ unsent_messages (drop (suc i) messages) (drop (suc i) sent) (drop (suc i) states_now)) same in
      subst (λ (n : ℕ). Rest client messages states_now start log_start n sent log) next (λ final log_then count is extends.
      rest final log_then count (is ∙ sym (after-same count sent states_now i now (omega (arith, below, all)) (omega (arith, all, many)) same))
      (subst (λ (ms : List (List ℕ)). Extends log log_then (sendings client count ms)) (sym unsent) extends))

  unsent-one : (sent : List (Option ItemState)) (i : ℕ) (none : List ℕ) (now : ItemState) (message : List ℕ) → i < length messages → length states_now ≡ length messages → length messages ≤ length sent
      → is_last (get_or sent i None) (get_or states_now i now) ≡ false → message ≡ get_or messages i none
      → unsent_messages (drop i messages) (drop i sent) (drop i states_now) ≡ message ∷ unsent_messages (drop (suc i) messages) (drop (suc i) sent) (drop (suc i) states_now)
  unsent-one sent i none now message below all many differs is =
      unsent-first messages sent states_now i none now below all many
      ∙ ap (λ (is : Bool). (if is then [] else get_or messages i none ∷ []) ++ unsent_messages (drop (suc i) messages) (drop (suc i) sent) (drop (suc i) states_now)) differs
      ∙ ap (λ (m : List ℕ). m ∷ unsent_messages (drop (suc i) messages) (drop (suc i) sent) (drop (suc i) states_now)) (sym is)

  -- one whose message is accepted
  pub rest-taken : (sent sent_then : List (Option ItemState)) (log mid : Option (List ClientEvent)) (i : ℕ) (none : List ℕ) (now : ItemState) (message : List ℕ) → i < length messages → length states_now ≡ length messages → length messages ≤ length sent
      → is_last (get_or sent i None) (get_or states_now i now) ≡ false → message ≡ get_or messages i none
      → sent_then ≡ set sent i (Some (get_or states_now i now)) → Extends log mid (Sending client message true ∷ [])
      → Rest client messages states_now start log_start i sent log → Rest client messages states_now start log_start (i + 1) sent_then mid
  rest-taken sent sent_then log mid i none now message below all many differs is noted one rest =
      let next : suc i ≡ i + 1 = omega arith in
      let unsent = unsent-one sent i none now message below all many differs is in
      subst (λ (n : ℕ). Rest client messages states_now start log_start n sent_then mid) next
      (subst (λ (ls : List (Option ItemState)). Rest client messages states_now start log_start (suc i) ls mid) (sym noted) (λ final log_then count is_then extends.
      rest final log_then (suc count) (is_then ∙ sym (after-taken count sent states_now i now (omega (arith, below, all)) (omega (arith, all, many)) differs))
      (subst (λ (ms : List (List ℕ)). Extends log log_then (sendings client (suc count) ms)) (sym unsent)
      (extends-both log mid log_then (Sending client message true ∷ []) (sendings client count (unsent_messages (drop (suc i) messages) (drop (suc i) sent) (drop (suc i) states_now))) one
      (subst (λ (ls : List (Option ItemState)). Extends mid log_then (sendings client count (unsent_messages (drop (suc i) messages) ls (drop (suc i) states_now)))) (behind-set sent i (Some (get_or states_now i now))) extends)))))

  -- one whose message is not accepted: it is the last
  pub rest-refused : (sent : List (Option ItemState)) (log log_then : Option (List ClientEvent)) (i : ℕ) (none : List ℕ) (now : ItemState) (message : List ℕ) → i < length messages → length states_now ≡ length messages → length messages ≤ length sent
      → is_last (get_or sent i None) (get_or states_now i now) ≡ false → message ≡ get_or messages i none
      → Extends log log_then (Sending client message false ∷ [])
      → Rest client messages states_now start log_start i sent log → SendsUnsent client messages states_now start sent log_start log_then
  rest-refused sent log log_then i none now message below all many differs is one rest =
      rest sent log_then zero (sym (after-none-from i sent states_now))
      (subst (λ (ms : List (List ℕ)). Extends log log_then (sendings client zero ms)) (sym (unsent-one sent i none now message below all many differs is)) one)

  -- no item remains
  pub rest-none : (sent : List (Option ItemState)) (log : Option (List ClientEvent)) (i : ℕ) → length messages ≤ i
      → Rest client messages states_now start log_start i sent log → SendsUnsent client messages states_now start sent log_start log
  rest-none sent log i over rest =
      rest sent log zero (sym (after-none-from i sent states_now))
      (subst (λ (es : List (List ℕ)). Extends log log (sendings client zero (unsent_messages es (drop i sent) (drop i states_now)))) (sym (drop_of_length-le messages over)) (extends-nil log))

-- The same of an item whose present state was read.

got : (states : List ItemState) (i : ℕ) (now : ItemState) → slice_get states i ≡ Some now → (i < length states) × (get_or states i now ≡ now)
got [] i now is = absurd (none-some now is)
got (s ∷ states) zero now is = (omega arith, same_Some s now is)
got (s ∷ states) (suc i) now is = let rest = got states i now is in (omega (arith, rest.0), rest.1)

pub item-same : (client : ℕ) (messages : List (List ℕ)) (states : List ItemState) (start : List (Option ItemState)) (log_start : Option (List ClientEvent))
    (sent : List (Option ItemState)) (log : Option (List ClientEvent)) (i : ℕ) (now : ItemState) → slice_get states i ≡ Some now → length states ≡ length messages → length states ≤ length sent
    → is_last (get_or sent i None) now ≡ true
    → Rest client messages states start log_start i sent log → Rest client messages states start log_start (i + 1) sent log
item-same client messages states start log_start sent log i now is all many same rest =
    let at = got states i now is in
    rest-same client messages states start log_start sent log i [] now (omega (arith, at.0, all)) all (omega (arith, many, all))
    (ap (λ (s : ItemState). is_last (get_or sent i None) s) at.1 ∙ same) rest

pub item-taken : (client : ℕ) (messages : List (List ℕ)) (states : List ItemState) (start : List (Option ItemState)) (log_start : Option (List ClientEvent))
    (sent : List (Option ItemState)) (log mid : Option (List ClientEvent)) (i : ℕ) (now : ItemState) (message : List ℕ) → slice_get states i ≡ Some now → length states ≡ length messages → length states ≤ length sent
    → is_last (get_or sent i None) now ≡ false → message ≡ get_or messages i []
    → Extends log mid (Sending client message true ∷ [])
    → Rest client messages states start log_start i sent log → Rest client messages states start log_start (i + 1) (set sent i (Some now)) mid
item-taken client messages states start log_start sent log mid i now message is all many differs text one rest =
    let at = got states i now is in
    rest-taken client messages states start log_start sent (set sent i (Some now)) log mid i [] now message (omega (arith, at.0, all)) all (omega (arith, many, all))
    (ap (λ (s : ItemState). is_last (get_or sent i None) s) at.1 ∙ differs) text
    (ap (λ (s : ItemState). set sent i (Some s)) (sym at.1)) one rest

pub item-refused : (client : ℕ) (messages : List (List ℕ)) (states : List ItemState) (start : List (Option ItemState)) (log_start : Option (List ClientEvent))
    (sent : List (Option ItemState)) (log log_then : Option (List ClientEvent)) (i : ℕ) (now : ItemState) (message : List ℕ) → slice_get states i ≡ Some now → length states ≡ length messages → length states ≤ length sent
    → is_last (get_or sent i None) now ≡ false → message ≡ get_or messages i []
    → Extends log log_then (Sending client message false ∷ [])
    → Rest client messages states start log_start i sent log → SendsUnsent client messages states start sent log_start log_then
item-refused client messages states start log_start sent log log_then i now message is all many differs text one rest =
    let at = got states i now is in
    rest-refused client messages states start log_start sent log log_then i [] now message (omega (arith, at.0, all)) all (omega (arith, many, all))
    (ap (λ (s : ItemState). is_last (get_or sent i None) s) at.1 ∙ differs) text one rest

pub over-end : (states : List ItemState) (i : ℕ) → slice_get states i ≡ None → length states ≤ i
over-end [] i is = omega arith
over-end (s ∷ states) zero is = absurd (none-some s (sym is))
over-end (s ∷ states) (suc i) is = omega (arith, over-end states i is)

pub item-none : (client : ℕ) (messages : List (List ℕ)) (states : List ItemState) (start : List (Option ItemState)) (log_start : Option (List ClientEvent))
    (sent : List (Option ItemState)) (log : Option (List ClientEvent)) (i : ℕ) → length states ≤ i → length states ≡ length messages
    → Rest client messages states start log_start i sent log → SendsUnsent client messages states start sent log_start log
item-none client messages states start log_start sent log i over all rest =
    rest-none client messages states start log_start sent log i (omega (arith, over, all)) rest

-- The clients, one after another.

pub serves-page : (client : ℕ) (messages : List (List ℕ)) (states_now : List ItemState) (sent known sent_then : List (Option ItemState)) (is_new is_writable is : Bool) (log mid asked log_then : Option (List ClientEvent))
    → Extends log mid (Opening client is_new ∷ []) → Extends mid asked (Offer client is_writable ∷ []) → known ≡ known_sent is_new sent
    → is_writable ≡ is → SendsIf is client messages states_now known sent_then asked log_then
    → ServesPage client messages states_now sent sent_then log log_then
serves-page client messages states_now sent known sent_then is_new is_writable is log mid asked log_then one two same writable sends = (
  is_new,
  is_writable,
  asked,
  extends-both log mid asked (Opening client is_new ∷ []) (Offer client is_writable ∷ []) one two,
  subst (λ (ls : List (Option ItemState)). SendsIf is_writable client messages states_now ls sent_then asked log_then) same
      (subst (λ (b : Bool). SendsIf b client messages states_now known sent_then asked log_then) (sym writable) sends),
)

-- the effect on the other clients completes the whole
abbrev pub PagesRest : List (List ℕ) → List ItemState → (start : List (List (Option ItemState))) → (log_start : Option (List ClientEvent)) → (i : ℕ) → List (List (Option ItemState)) → Option (List ClientEvent) → Type 0
PagesRest messages states_now start log_start i states log =
    (others : List (List (Option ItemState))) (log_then : Option (List ClientEvent)) → ServesPages i messages states_now (drop i states) others log log_then
    → ServesPages 0 messages states_now start (take i states ++ others) log_start log_then

pages-behind-set : (states : List (List (Option ItemState))) (i : ℕ) (state : List (Option ItemState)) → drop (suc i) (set states i state) ≡ drop (suc i) states
pages-behind-set [] i state = refl
pages-behind-set (s ∷ states) zero state = refl
pages-behind-set (s ∷ states) (suc i) state = pages-behind-set states i state

pages-front-set : (states others : List (List (Option ItemState))) (i : ℕ) (state : List (Option ItemState)) → i < length states → take (suc i) (set states i state) ++ others ≡ take i states ++ state ∷ others
pages-front-set [] others i state below = absurd (omega (arith, below))
pages-front-set (s ∷ states) others zero state below = refl
pages-front-set (s ∷ states) others (suc i) state below = ap (λ (ls : List (List (Option ItemState))). s ∷ ls) (pages-front-set states others i state (omega (arith, below)))

pages-at : (states : List (List (Option ItemState))) (i : ℕ) (none : List (Option ItemState)) → i < length states → drop i states ≡ get_or states i none ∷ drop (suc i) states
pages-at [] i none below = absurd (omega (arith, below))
pages-at (s ∷ states) zero none below = refl
pages-at (s ∷ states) (suc i) none below = pages-at states i none (omega (arith, below))

pub pages-all : (messages : List (List ℕ)) (states_now : List ItemState) (start : List (List (Option ItemState))) (log_start : Option (List ClientEvent)) → PagesRest messages states_now start log_start zero start log_start
pages-all messages states_now start log_start others log_then served = served

pub pages-more : (messages : List (List ℕ)) (states_now : List ItemState) (start : List (List (Option ItemState))) (log_start : Option (List ClientEvent))
    (states states_then : List (List (Option ItemState))) (state : List (Option ItemState)) (log mid : Option (List ClientEvent)) (i : ℕ) (none : List (Option ItemState)) → i < length states
    → states_then ≡ set states i state → ServesPage i messages states_now (get_or states i none) state log mid
    → PagesRest messages states_now start log_start i states log → PagesRest messages states_now start log_start (i + 1) states_then mid
pages-more messages states_now start log_start states states_then state log mid i none below is one rest =
    let next : suc i ≡ i + 1 = omega arith in
    subst (λ (n : ℕ). PagesRest messages states_now start log_start n states_then mid) next
    (subst (λ (ss : List (List (Option ItemState))). PagesRest messages states_now start log_start (suc i) ss mid) (sym is) (λ others log_then served.
    subst (λ (ss : List (List (Option ItemState))). ServesPages 0 messages states_now start ss log_start log_then) (sym (pages-front-set states others i state below))
    (rest (state ∷ others) log_then
    (subst (λ (ss : List (List (Option ItemState))). ServesPages i messages states_now ss (state ∷ others) log log_then) (sym (pages-at states i none below))
    (mid, one, subst (λ (ss : List (List (Option ItemState))). ServesPages (suc i) messages states_now ss others mid log_then) (pages-behind-set states i state) served)))))

pages-whole : (states : List (List (Option ItemState))) (i : ℕ) → length states ≤ i → take i states ++ [] ≡ states
pages-whole [] zero over = refl
pages-whole [] (suc i) over = refl
pages-whole (s ∷ states) zero over = absurd (omega (arith, over))
pages-whole (s ∷ states) (suc i) over = ap (λ (ls : List (List (Option ItemState))). s ∷ ls) (pages-whole states i (omega (arith, over)))

pub pages-none : (messages : List (List ℕ)) (states_now : List ItemState) (start : List (List (Option ItemState))) (log_start : Option (List ClientEvent))
    (states : List (List (Option ItemState))) (log : Option (List ClientEvent)) (i : ℕ) → length states ≤ i
    → PagesRest messages states_now start log_start i states log → ServesPages 0 messages states_now start states log_start log
pages-none messages states_now start log_start states log i over rest =
    subst (λ (ss : List (List (Option ItemState))). ServesPages 0 messages states_now start ss log_start log) (pages-whole states i over)
    (rest [] log (subst (λ (ss : List (List (Option ItemState))). ServesPages i messages states_now ss [] log log) (sym (drop_of_length-le states over)) (refl, refl)))
