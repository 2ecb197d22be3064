-- The lines so far and those of a longer text, and the responses to them.
use Rattle.std.proofs.Common.{◌≡◌, ◌≢◌, ℕ, zero, suc, ◌+◌, ◌*◌, ◌<◌, ◌≤◌, ◌==◌, Bool, true, false, min, List, [], ◌∷◌, ◌++◌, length, not, take, append_assoc, length-append, length-take, get_or, refl, ap, sym, subst, inl, inr, ◌⊎◌, ◌∙◌, arith, eqb-true, Ok, Err, Result}
use Rattle.std.specs.Prelude.{if◌then◌else◌, All, IsTrue, nat_lt}
use Rattle.std.specs.List.{flat_map}
use Rattle.std.proofs.lemmas.Bool.{and_parts, cases_Bool, cases_lt, ltb-true, le-ltb, lt-ltb}
use Rattle.std.proofs.lemmas.List.{take_min, take-append-le}
use Rattle.std.proofs.lemmas.List.Folds.{list_all-append}
use Rattle.std.proofs.lemmas.List.Sums.{list_all-from_AllPass}
use Rattle.std.proofs.lemmas.List.Elements.{All-head, All-tail}
use Rattle.httparse.specs.declared.Error.{Error as ParseError}
use Rattle.httparse.specs.declared.Error.TheVariants.{HeaderName, HeaderValue, NewLine, Status, Token, TooManyHeaders, Version}
use Rattle.httparse.specs.declared.Status.{Status as Partly}
use Rattle.httparse.specs.declared.Status.TheVariants.{Complete, Partial}
use Rattle.httparse.specs.Outcome.{IfComplete, OnPartial}
use Rattle.httparse.specs.declared.spans.RequestSpans.{RequestSpans}
use Rattle.httparse.specs.Grammar.{RequestHead, ReadsRequest, HasNoRequest, NeverHasRequest, MayBecomeRequest, EndsInTarget, Field, IsField, LineEnd, crlf, lf, print_blank, print_end, print_field, print_request, print_section, print_version, is_uri_byte, AllPass}
use Rattle.httparse.specs.Spans.{RequestExceeds}
use Rattle.httparse.proofs.GrammarLemmas.{ReadsRequest-append, request_unique}
use Rattle.websocket.specs.Headers.{Fields}
use Rattle.web.specs.declared.http_response.Response.{Response}
use Rattle.web.specs.declared.http_response.Response.TheVariants.{Incomplete, Error}
use Rattle.web.specs.declared.http_response.HttpError.TheVariants.{BadRequest, TooLong}
use Rattle.web.specs.Responses.{IsResponse, IsResponseToHead, unfinished}
use Rattle.web.specs.Heads.{IsResponseTo}
use Rattle.web.specs.Lines.{is_open, lines_so_far, whole_lines}
use Rattle.web.proofs.Cutting.{not_open}

both : (t : Bool) → t ≡ false → t ≡ true → ⊥
both t f h = cc

head-is : (x y : ℕ) (xs ys : List ℕ) → x ∷ xs ≡ y ∷ ys → x ≡ y
head-is x y xs ys h = cc

tail-is : (x y : ℕ) (xs ys : List ℕ) → x ∷ xs ≡ y ∷ ys → xs ≡ ys
tail-is x y xs ys h = cc

-- the meaning of a parser's result that is complete
pub complete-of : (P : RequestSpans → Type 0) (status : Partly RequestSpans) (found : RequestSpans) → status ≡ Complete found → IfComplete {E = ParseError} (Ok status) P → P found
complete-of P status found is h = subst (λ (s : Partly RequestSpans). IfComplete {E = ParseError} (Ok s) P) is h

pub partial-of : (P : Type 0) (status : Partly RequestSpans) → status ≡ Partial → OnPartial {E = ParseError} (Ok status) P → P
partial-of P status is h = subst (λ (s : Partly RequestSpans). OnPartial {E = ParseError} (Ok s) P) is h

-- ---- a longer text

take-more : (n : ℕ) (xs ys : List ℕ) → (z : List ℕ) × (take n (xs ++ ys) ≡ take n xs ++ z)
take-more zero xs ys = ([], refl)
take-more (suc n) [] ys = (take (suc n) ys, refl)
take-more (suc n) (x ∷ xs) ys = let more = take-more n xs ys in (more.0, ap (λ (t : List ℕ). x ∷ t) more.1)

closed-more : (xs ys : List ℕ) → is_open xs ≡ false → is_open (xs ++ ys) ≡ false
closed-more xs ys h = list_all-append (λ b. not (b == 10)) xs ys ∙ rw h refl

whole-more : (text more : List ℕ) → (z : List ℕ) × (whole_lines (text ++ more) ≡ whole_lines text ++ z)
whole-more [] more = (whole_lines more, refl)
whole-more (b ∷ text) more = elim (cases_Bool (is_open (b ∷ text))) [
  | inl e ↦ (whole_lines (b ∷ text ++ more), sym (ap (λ (t : List ℕ). t ++ whole_lines (b ∷ text ++ more)) (ap (λ c. if c then [] else b ∷ whole_lines text) e)))
  | inr e ↦
      let rest = whole-more text more in (
        rest.0,
        ap (λ c. if c then [] else b ∷ whole_lines (text ++ more)) (closed-more (b ∷ text) more e)
            ∙ ap (λ (t : List ℕ). b ∷ t) rest.1
            ∙ sym (ap (λ (t : List ℕ). t ++ rest.0) (ap (λ c. if c then [] else b ∷ whole_lines text) e)),
      )
]

pub lines_more : (text more : List ℕ) → (z : List ℕ) × (lines_so_far (text ++ more) ≡ lines_so_far text ++ z)
unfolding lines_so_far
lines_more text more =
    let head_length = take-more 8192 text more in
    let lines = whole-more (take 8192 text) head_length.0 in
    (lines.0, ap whole_lines head_length.1 ∙ lines.1)

pub lines_are : (text lines : List ℕ) (n : ℕ) → n ≡ min (length text) 8192 → lines ≡ whole_lines (take n text) → lines ≡ lines_so_far text
unfolding lines_so_far
lines_are text lines n least is =
    is ∙ ap (λ k. whole_lines (take k text)) (least ∙ omega arith) ∙ ap whole_lines (take_min 8192 text)

lines_full : (text more : List ℕ) → 8192 ≤ length text → lines_so_far (text ++ more) ≡ lines_so_far text
unfolding lines_so_far
lines_full text more full = ap whole_lines (take-append-le 8192 text more full)

whole-few : (text : List ℕ) → length (whole_lines text) ≤ length text
whole-few [] = omega arith
whole-few (b ∷ text) = elim (cases_Bool (is_open (b ∷ text))) [
  | inl e ↦ omega (arith, ap length (ap (λ c. if c then [] else b ∷ whole_lines text) e))
  | inr e ↦ omega (arith, whole-few text, ap length (ap (λ c. if c then [] else b ∷ whole_lines text) e))
]

-- ---- a whole head

pub head_answered : (names : List (List ℕ)) (text lines more : List ℕ) (h : RequestHead) (rest : List ℕ) (a : Response)
    → lines_so_far text ≡ lines ++ more → ReadsRequest lines h rest → IsResponseToHead names h a → IsResponse names text a
head_answered names text lines more h rest a is reads good =
    let here : ReadsRequest (lines_so_far text) h (rest ++ more) = subst (λ (l : List ℕ). ReadsRequest l h (rest ++ more)) (sym is) (ReadsRequest-append lines h rest more reads) in
    record {
      whole = λ k q other. subst (λ (k : RequestHead). IsResponseToHead names k a) (request_unique (lines_so_far text) h k (rest ++ more) q here other).0 good;
      hopeless = λ never. absurd (never [] h ((rest ++ more) ++ []) (ReadsRequest-append (lines_so_far text) h (rest ++ more) [] here));
      waiting = λ none _. absurd (none h (rest ++ more) here);
    }

pub answer_by_parts : {m m2 t t2 : List ℕ} {v v2 : ℕ} {f f2 : Fields} {l l2 : ℕ} (names : List (List ℕ)) (a : Response)
    → m ≡ m2 → t ≡ t2 → v ≡ v2 → f ≡ f2 → l ≡ l2 → IsResponseTo names m t v f l a → IsResponseTo names m2 t2 v2 f2 l2 a
answer_by_parts {m} {m2} {t} {t2} {v} {v2} {f} {f2} {l} {l2} names a method target minor fields len good =
    subst (λ (x : ℕ). IsResponseTo names m2 t2 v2 f2 x a) len
    (subst (λ (x : Fields). IsResponseTo names m2 t2 v2 x l a) fields
    (subst (λ (x : ℕ). IsResponseTo names m2 t2 x f l a) minor
    (subst (λ (x : List ℕ). IsResponseTo names m2 x v f l a) target
    (subst (λ (x : List ℕ). IsResponseTo names x t v f l a) method good))))

-- ---- an incomplete head

ends-how : (text : List ℕ) → (whole_lines text ≡ []) ⊎ ((body : List ℕ) × (whole_lines text ≡ body ++ 10 ∷ []))
ends-how [] = inl refl
ends-how (b ∷ text) = elim (cases_Bool (is_open (b ∷ text))) [
  | inl e ↦ inl (ap (λ c. if c then [] else b ∷ whole_lines text) e)
  | inr e ↦
      let step : whole_lines (b ∷ text) ≡ b ∷ whole_lines text = ap (λ c. if c then [] else b ∷ whole_lines text) e in
      elim (ends-how text) [
        | inl none ↦ inr ([], step ∙ ap (λ (t : List ℕ). b ∷ t) none ∙ ap (λ c. c ∷ []) (lone-end b text none e))
        | inr some ↦ inr (b ∷ some.0, step ∙ ap (λ (t : List ℕ). b ∷ t) some.1)
      ]
]
  where
    open-text : (text : List ℕ) → whole_lines text ≡ [] → is_open text ≡ true
    open-text [] h = refl
    open-text (b ∷ text) h = elim (cases_Bool (is_open (b ∷ text))) [
      | inl e ↦ e
      | inr e ↦ absurd (omega (arith, ap length (sym (ap (λ c. if c then [] else b ∷ whole_lines text) e) ∙ h)))
    ]

    lone-end : (b : ℕ) (text : List ℕ) → whole_lines text ≡ [] → is_open (b ∷ text) ≡ false → b ≡ 10
    lone-end b text none closed = elim (cases_Bool (b == 10)) [
      | inl e ↦ eqb-true b 10 e
      | inr e ↦ absurd (both (is_open (b ∷ text)) closed (rw e (open-text text none)))
    ]

-- a target contains no line feed
target-open : (target : List ℕ) → AllPass is_uri_byte target → is_open target ≡ true
target-open target uri = list_all-from_AllPass (λ b. not (b == 10)) target (λ i d l. visible (get_or target i d) (uri i d l))
  where
    visible : (b : ℕ) → IsTrue (is_uri_byte b) → not (b == 10) ≡ true
    visible b h = elim (cases_Bool (b == 10)) [
      | inl e ↦ absurd (omega (arith, eqb-true b 10 e, ltb-true 32 b (and_parts (nat_lt 32 b) (not (b == 127)) h).0))
      | inr e ↦ ap not e
    ]

-- a text that ends in a target does not end in a line feed
target-last : (front target body : List ℕ) → is_open target ≡ true → ¬ (front ++ 32 ∷ target ≡ body ++ 10 ∷ [])
target-last [] target [] uri is = absurd (omega (arith, head-is 32 10 target [] is))
target-last [] target (b ∷ body) uri is = both (is_open target) (ap is_open (tail-is 32 b target (body ++ 10 ∷ []) is) ∙ not_open body []) uri
target-last (x ∷ front) target [] uri is = absurd (omega (arith, ap length is, length-append front (32 ∷ target)))
target-last (x ∷ front) target (b ∷ body) uri is = target-last front target body uri (tail-is x b (front ++ 32 ∷ target) (body ++ 10 ∷ []) is)

no_target : (text : List ℕ) → ¬ (EndsInTarget (whole_lines text))
no_target text ends =
    let front = print_blank ends.0 ++ ends.1 in
    let is : whole_lines text ≡ front ++ 32 ∷ ends.2 = ends.5 in
    elim (ends-how text) [
      | inl none ↦ absurd (omega (arith, ap length (sym none ∙ is), length-append front (32 ∷ ends.2)))
      | inr some ↦ target-last front ends.2 some.0 (target-open ends.2 ends.4) (sym is ∙ some.1)
    ]

lines_no_target : (text : List ℕ) → ¬ (EndsInTarget (lines_so_far text))
unfolding lines_so_far
lines_no_target text = no_target (take 8192 text)

pub waiting_answered : (names : List (List ℕ)) (text lines : List ℕ) (a : Response) → lines_so_far text ≡ lines → HasNoRequest lines → MayBecomeRequest lines
    → a ≡ unfinished text → IsResponse names text a
waiting_answered names text lines a is none may same =
    record {
      whole = λ h rest reads. absurd (none h rest (subst (λ (l : List ℕ). ReadsRequest l h rest) is reads));
      hopeless = λ never. absurd (still (subst NeverHasRequest is never) may);
      waiting = λ _ _. same;
    }
  where
    still : NeverHasRequest lines → MayBecomeRequest lines → ⊥
    still never (inl made) = never made.0 made.1 [] made.2
    still never (inr ends) = lines_no_target text (subst EndsInTarget (sym is) ends)

unfinished-short : (text : List ℕ) → length text < 8192 → Incomplete ≡ unfinished text
unfinished-short text short = sym (ap (λ c. if c then Incomplete else Error TooLong) (lt-ltb (length text) 8192 short))

unfinished-long : (text : List ℕ) → 8192 ≤ length text → Error TooLong ≡ unfinished text
unfinished-long text long = sym (ap (λ c. if c then Incomplete else Error TooLong) (le-ltb (length text) 8192 long))

apart : Incomplete ≢ Error TooLong
apart same = cc

pub waiting_room : (text : List ℕ) (a : Response) → a ≡ unfinished text → a ≡ Incomplete → length text < 8192
waiting_room text a same deadline_after = elim (cases_lt (length text) 8192) [
  | inl short ↦ short
  | inr long ↦ absurd (apart (sym deadline_after ∙ same ∙ sym (unfinished-long text long)))
]

refused_long : (text : List ℕ) (a : Response) → a ≡ unfinished text → a ≢ Incomplete → (a ≡ Error TooLong) × (8192 ≤ length text)
refused_long text a same now = elim (cases_lt (length text) 8192) [
  | inl short ↦ absurd (now (same ∙ sym (unfinished-short text short)))
  | inr long ↦ (same ∙ sym (unfinished-long text long), long)
]

pub waiting_stands : (names : List (List ℕ)) (text lines : List ℕ) (a : Response) → lines_so_far text ≡ lines → HasNoRequest lines → MayBecomeRequest lines
    → a ≡ unfinished text → a ≢ Incomplete → (more : List ℕ) → IsResponse names (text ++ more) a
waiting_stands names text lines a is none may same now more =
    let refused = refused_long text a same now in
    let longer : 8192 ≤ length (text ++ more) = omega (arith, refused.1, length-append text more) in
    subst (λ (b : Response). IsResponse names (text ++ more) b) (sym refused.0)
    (waiting_answered names (text ++ more) lines (Error TooLong) (lines_full text more refused.1 ∙ is) none may (unfinished-long (text ++ more) longer))

-- ---- not a head, whatever follows

pub never_answered : (names : List (List ℕ)) (text lines more : List ℕ) → lines_so_far text ≡ lines ++ more → NeverHasRequest lines → IsResponse names text (Error BadRequest)
never_answered names text lines more is never =
    let none : NeverHasRequest (lines_so_far text) = λ z h rest reads.
    never (more ++ z) h rest (subst (λ (l : List ℕ). ReadsRequest l h rest) (ap (λ (l : List ℕ). l ++ z) is ∙ append_assoc lines more z) reads) in
    record {
      whole = λ h rest reads. absurd (none [] h (rest ++ []) (ReadsRequest-append (lines_so_far text) h rest [] reads));
      hopeless = λ _. refl;
      waiting = λ _ may. absurd (may none);
    }

-- a field has at least three bytes
end-long : (e : LineEnd) → 1 ≤ length (print_end e)
end-long crlf = omega arith
end-long lf = omega arith

field-long : (f : Field) → IsField f → 3 ≤ length (print_field f)
field-long f is =
    let size : length (print_field f) ≡ length f.name + length (58 ∷ f.raw) + length (print_end f.end) =
    length-append (f.name ++ 58 ∷ f.raw) (print_end f.end) ∙ ap (λ n. n + length (print_end f.end)) (length-append f.name (58 ∷ f.raw)) in
    omega (arith, is.name.0, end-long f.end, size)

fields-long : (fields : List Field) → All IsField fields → 3 * length fields ≤ length (flat_map print_field fields)
fields-long [] all = omega arith
fields-long (f ∷ fields) all =
    omega (arith, field-long f (All-head IsField f fields all), fields-long fields (All-tail IsField f fields all), length-append (print_field f) (flat_map print_field fields))

behind-few : (front back : List ℕ) → length back ≤ length (front ++ back)
behind-few front back = omega (arith, length-append front back)

request-long : (h : RequestHead) → All IsField h.fields → 3 * length h.fields ≤ length (print_request h)
unfolding print_request
request-long h all =
    let front = print_blank h.blank ++ h.method ++ 32 ∷ h.target ++ 32 ∷ print_version h.minor ++ print_end h.line_end in
    let tail : length (print_section h.fields h.last) ≤ length (print_request h) = behind-few front (print_section h.fields h.last) in
    omega (arith, fields-long h.fields all, length-append (flat_map print_field h.fields) (print_end h.last), tail)

not_too_many : (lines : List ℕ) → length lines ≤ 8192 → ¬ (RequestExceeds 2731 lines)
not_too_many lines few exceeds =
    let front = exceeds.0 in
    let h = exceeds.3 in
    let reads = exceeds.4 in
    absurd (omega (
      arith,
      few,
      ap length exceeds.2,
      length-append front exceeds.1,
      ap length reads.1,
      length-append front (print_end lf),
      length-append (print_request h) [],
      request-long h reads.0.fields,
      exceeds.5,
    ))

lines-few : (text lines : List ℕ) → lines ≡ lines_so_far text → length lines ≤ 8192
unfolding lines_so_far
lines-few text lines is = omega (arith, ap length is, whole-few (take 8192 text), length-take 8192 text)

pub never_by_error : (text lines : List ℕ) (e : ParseError) → lines ≡ lines_so_far text → (e ≢ TooManyHeaders → NeverHasRequest lines)
    → (◌≡◌ {A = Result (Partly RequestSpans) ParseError} (Err e) (Err TooManyHeaders) → RequestExceeds 2731 lines) → NeverHasRequest lines
never_by_error text lines HeaderName is other many = other (λ h. cc)
never_by_error text lines HeaderValue is other many = other (λ h. cc)
never_by_error text lines NewLine is other many = other (λ h. cc)
never_by_error text lines Status is other many = other (λ h. cc)
never_by_error text lines Token is other many = other (λ h. cc)
never_by_error text lines Version is other many = other (λ h. cc)
never_by_error text lines TooManyHeaders is other many = absurd (not_too_many lines (lines-few text lines is) (many refl))
