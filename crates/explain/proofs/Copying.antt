-- A run, read by read.
use Rattle.std.proofs.Common.{◌≡◌, ℕ, Bool, List, [], ◌++◌, take, drop, append_assoc, append-nil, Option, Some, refl, ap, sym, subst, ◌∙◌, false}
use Rattle.std.specs.Prelude.{Result, Ok, Err, OnErr, IsErrAnd, MatchOption}
use Rattle.std.specs.Io.KnownBytes.{Appends, Consumes, Keeps}
use Rattle.std.proofs.KnownBytes.{Appends-nil, Appends-trans, Consumes-nil, Consumes-kept, Consumes-trans}
use Rattle.std.proofs.lemmas.List.{take-append-drop}
use Rattle.input_text.specs.Write.{AppendsFront as ProperFront}
use Rattle.explain.specs.Explained.{explained}
use Rattle.explain.specs.Streams.{AppendsFront, Begins, Explains, ExplainsFront, Follows}
use Rattle.explain.specs.Unfinished.{to_write}

-- A text that is written.

-- a proper prefix is a prefix
pub front-part : (o p : Option (List ℕ)) (text : List ℕ) → ProperFront o p text → AppendsFront o p text
front-part o p text front = (take front.0 text, drop front.0 text, front.2, sym (take-append-drop front.0 text))

-- Reads, one after another.

-- a read that fails consumed nothing
pub follows-nothing : (a b o : Option (List ℕ)) (is_long : Bool) (held : List ℕ) → Keeps a b → Follows a b o o is_long held is_long held
follows-nothing a b o is_long held k = ([], [], Consumes-kept a a b [] (Consumes-nil a) k, Appends-nil o, λ more. refl)

pub begins-nothing : (a b o : Option (List ℕ)) (is_long : Bool) (held : List ℕ) → Keeps a b → Begins a b o o is_long held
begins-nothing a b o is_long held k = ([], [], to_write is_long held [], Consumes-kept a a b [] (Consumes-nil a) k, Appends-nil o, refl)

-- the output for the bytes read is not written
pub begins-unwritten : (a b o : Option (List ℕ)) (is_long : Bool) (held text : List ℕ) → Consumes a b text → Begins a b o o is_long held
begins-unwritten a b o is_long held text taken = (text, [], to_write is_long held text, taken, Appends-nil o, refl)

-- of the output for the bytes read, in a cleared text, a prefix is written
pub begins-written : (a b o p : Option (List ℕ)) (l m : Bool) (h i text empty heard : List ℕ) → Consumes a b text → empty ≡ []
    → ((more : List ℕ) → empty ++ to_write l h (text ++ more) ≡ heard ++ to_write m i more) → AppendsFront o p heard → Begins a b o p l h
begins-written a b o p l m h i text empty heard taken none all front =
    let written = front.0 in
    let left = front.1 in (
      text,
      written,
      left ++ to_write m i [],
      taken,
      front.2,
      sym (ap (λ (bs : List ℕ). bs ++ to_write l h (text ++ [])) none ∙ ap (λ (bs : List ℕ). to_write l h bs) (append-nil text))
          ∙ all [] ∙ ap (λ (bs : List ℕ). bs ++ to_write m i []) front.3 ∙ append_assoc written left (to_write m i []),
    )

-- the output for further text follows the earlier output
rest_after : (a b o p : Option (List ℕ)) (l m : Bool) (h i after others left : List ℕ) → (first : Follows a b o p l h m i) → to_write m i after ≡ others ++ left
    → to_write l h (first.0 ++ after) ≡ (first.1 ++ others) ++ left
rest_after a b o p l m h i after others left first is =
    first.4 after ∙ ap (λ (bs : List ℕ). first.1 ++ bs) is ∙ sym (append_assoc first.1 others left)

pub follows-trans : (a b c o p q : Option (List ℕ)) (l m n : Bool) (h i j : List ℕ) → Follows a b o p l h m i → Follows b c p q m i n j → Follows a c o q l h n j
follows-trans a b c o p q l m n h i j first second = (
  first.0 ++ second.0,
  first.1 ++ second.1,
  Consumes-trans a b c first.0 second.0 first.2 second.2,
  Appends-trans o p q first.1 second.1 first.3 second.3,
  λ more. ap (λ (bs : List ℕ). to_write l h bs) (append_assoc first.0 second.0 more)
      ∙ rest_after a b o p l m h i (second.0 ++ more) second.1 (to_write n j more) first (second.4 more),
)

pub begins-rest_after : (a b c o p q : Option (List ℕ)) (l m : Bool) (h i : List ℕ) → Follows a b o p l h m i → Begins b c p q m i → Begins a c o q l h
begins-rest_after a b c o p q l m h i first second = (
  first.0 ++ second.0,
  first.1 ++ second.1,
  second.2,
  Consumes-trans a b c first.0 second.0 first.2 second.3,
  Appends-trans o p q first.1 second.1 first.3 second.4,
  rest_after a b o p l m h i second.0 second.1 second.2 first second.5,
)

-- The whole run, which begins with nothing held.

start : (l : Bool) (h text : List ℕ) → l ≡ false → h ≡ [] → to_write l h text ≡ explained text
unfolding to_write
start l h text new none = ap (λ (b : Bool). to_write b h text) new ∙ ap (λ (bs : List ℕ). explained (bs ++ text)) none

pub explains-front : (a b o p : Option (List ℕ)) (l : Bool) (h : List ℕ) → l ≡ false → h ≡ [] → Begins a b o p l h → ExplainsFront a b o p
explains-front a b o p l h new none begun =
    (begun.0, begun.1, begun.2, begun.3, begun.4, sym (start l h begun.0 new none) ∙ begun.5)

heard-is : (a b o p : Option (List ℕ)) (l m : Bool) (h i : List ℕ) → l ≡ false → h ≡ [] → (heard : Follows a b o p l h m i) → explained heard.0 ≡ heard.1 ++ to_write m i []
heard-is a b o p l m h i new none heard =
    sym (start l h heard.0 new none) ∙ sym (ap (λ (bs : List ℕ). to_write l h bs) (append-nil heard.0)) ∙ heard.4 []

-- the output for the bytes read, and none for the rest
pub explains-heard : (a b o p : Option (List ℕ)) (l m : Bool) (h i : List ℕ) → l ≡ false → h ≡ [] → Follows a b o p l h m i → ExplainsFront a b o p
explains-heard a b o p l m h i new none heard = (heard.0, heard.1, to_write m i [], heard.2, heard.3, heard-is a b o p l m h i new none heard)

-- The rest of the output is put into a cleared text, which is then written.

all-is : (a b o p : Option (List ℕ)) (l m : Bool) (h i empty left last : List ℕ) → l ≡ false → h ≡ [] → (heard : Follows a b o p l h m i) → empty ≡ [] → left ≡ empty ++ to_write m i [] → last ≡ left
    → explained heard.0 ≡ heard.1 ++ last
all-is a b o p l m h i empty left last new none heard cleared finished is =
    heard-is a b o p l m h i new none heard
    ∙ ap (λ (bs : List ℕ). heard.1 ++ bs) (sym (is ∙ finished ∙ ap (λ (bs : List ℕ). bs ++ to_write m i []) cleared))

-- a prefix of it
pub explains-most : (a b o p q : Option (List ℕ)) (l m : Bool) (h i empty left last : List ℕ) → l ≡ false → h ≡ [] → Follows a b o p l h m i → empty ≡ [] → left ≡ empty ++ to_write m i [] → last ≡ left
    → AppendsFront p q last → ExplainsFront a b o q
explains-most a b o p q l m h i empty left last new none heard cleared finished is front =
    let before = heard.1 in (
      heard.0,
      before ++ front.0,
      front.1,
      heard.2,
      Appends-trans o p q before front.0 heard.3 front.2,
      all-is a b o p l m h i empty left last new none heard cleared finished is ∙ ap (λ (bs : List ℕ). before ++ bs) front.3 ∙ sym (append_assoc before front.0 front.1),
    )

-- all of it
pub explains-all : (a b o p q : Option (List ℕ)) (l m : Bool) (h i empty left last : List ℕ) → l ≡ false → h ≡ [] → Follows a b o p l h m i → empty ≡ [] → left ≡ empty ++ to_write m i [] → last ≡ left
    → Appends p q last → Explains a b o q
explains-all a b o p q l m h i empty left last new none heard cleared finished is appended =
    let all = all-is a b o p l m h i empty left last new none heard cleared finished is in
    (heard.0, heard.2, subst (λ (bs : List ℕ). Appends o q bs) (sym all) (Appends-trans o p q heard.1 last heard.3 appended))

-- a read that did not fail
pub taken_of : (a b : Option (List ℕ)) (chunk : List ℕ) (read : Option ℕ) (n : ℕ) → read ≡ Some n → MatchOption read (Keeps a b) (λ k. Consumes a b (take k chunk)) → Consumes a b (take n chunk)
taken_of a b chunk read n e known = subst (λ (m : Option ℕ). MatchOption m (Keeps a b) (λ k. Consumes a b (take k chunk))) e known

-- an error that is passed up keeps its facts
pub passed_up : {A : Type 0} {E : Type 0} (up : Result A E) (e : E) (P : Type 0) → IsErrAnd up (λ f. f ≡ e) → P → OnErr up P
passed_up (Ok a) e P is p = tt
passed_up (Err f) e P is p = p
