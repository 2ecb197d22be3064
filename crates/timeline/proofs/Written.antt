-- The drawing, one thing after another.
use Rattle.std.proofs.Common.{◌≡◌, ℕ, List, [], ◌∷◌, ◌++◌, Option, Some, None, refl, ap, sym, subst, ◌∙◌, append_assoc}
use Rattle.std.proofs.lemmas.List.{append-nil}
use Rattle.std.proofs.KnownBytes.{Appends-nil, Appends-trans}
use Rattle.std.specs.Io.KnownBytes.{Appends}
use Rattle.std.specs.Prelude.{Result, Ok, Err, OnOk}
use Rattle.timeline.specs.declared.event.Event.{Event}
use Rattle.timeline.specs.declared.mark.Mark.{Mark}
use Rattle.timeline.specs.declared.moment.Moment.{Moment}
use Rattle.timeline.specs.declared.row.Row.{Row}
use Rattle.timeline.specs.Picture.{marks_of, marks_text, moment_after, next_text, x_of}
use Rattle.timeline.specs.Rows.{height_of}
use Rattle.timeline.proofs.Steps.{marks_none, marks_some}

-- One text after another.
pub then_ok : {A E : Type 0} (r : Result A E) (a b c : Option (List ℕ)) (xs ys : List ℕ) → Appends a b xs → OnOk r (Appends b c ys) → OnOk r (Appends a c (xs ++ ys))
then_ok (Ok x) a b c xs ys first second = Appends-trans a b c xs ys first second
then_ok (Err e) a b c xs ys first second = tt

-- The text written and the text still to be written are together the whole.
pub record HasWritten (all left : List ℕ) (old now : Option (List ℕ)) : Type 0 where
  pub written : List ℕ
  pub appended : Appends old now written
  pub whole : written ++ left ≡ all

pub written_none : (all : List ℕ) (old : Option (List ℕ)) → HasWritten all all old old
written_none all old = record { written = []; appended = Appends-nil old; whole = refl }

pub written_more : (all left next rest : List ℕ) (old now new : Option (List ℕ)) → HasWritten all left old now → left ≡ next ++ rest → Appends now new next → HasWritten all rest old new
written_more all left next rest old now new has parts here = record {
  written = has.written ++ next;
  appended = Appends-trans old now new has.written next has.appended here;
  whole = append_assoc has.written next rest ∙ ap (λ (bs : List ℕ). has.written ++ bs) (sym parts) ∙ has.whole;
}

-- if nothing is written
pub written_same : (all left rest : List ℕ) (old now : Option (List ℕ)) → HasWritten all left old now → left ≡ rest → HasWritten all rest old now
written_same all left rest old now has same = subst (λ (bs : List ℕ). HasWritten all bs old now) same has

pub written_all : (all left : List ℕ) (old now : Option (List ℕ)) → HasWritten all left old now → left ≡ [] → Appends old now all
written_all all left old now has none =
    subst (λ (bs : List ℕ). Appends old now bs) (sym (append-nil has.written) ∙ ap (λ (bs : List ℕ). has.written ++ bs) (sym none) ∙ has.whole) has.appended

-- An event of which a row shows something.
pub marked : (row : Row) (turns base : ℕ) (moment now : Moment) (last new_last : Option Mark) (events : List Event) (event : Event) (rest : List Event) (height x : ℕ) (shown : Option ℕ) (all : List ℕ) (old before after after_all : Option (List ℕ))
    → HasWritten all (marks_text row base last (marks_of row turns moment events)) old before → events ≡ event ∷ rest → now ≡ moment_after moment event → shown ≡ height_of row event → shown ≡ Some height → x ≡ x_of turns now.turn
    → new_last ≡ Some (record { x = x; height = height }) → Appends before after (next_text row base last (record { x = x; height = height })) → after_all ≡ after → HasWritten all (marks_text row base new_last (marks_of row turns now rest)) old after_all
marked row turns base moment now last new_last events event rest height x shown all old before after after_all has is turns_on shows some at kept here same =
    let mark : Mark = record { x = x; height = height } in
    let place : mark ≡ record { x = x_of turns (moment_after moment event).turn; height = height } = ap (λ (n : ℕ). record { x = n; height = height }) (at ∙ ap (λ (m : Moment). x_of turns m.turn) turns_on) in
    let parts = marks_some row turns base moment last events event rest height mark is (sym shows ∙ some) place in
    subst (λ (o : Option (List ℕ)). HasWritten all (marks_text row base new_last (marks_of row turns now rest)) old o) (sym same)
    (subst (λ (l : Option Mark). HasWritten all (marks_text row base l (marks_of row turns now rest)) old after) (sym kept)
    (subst (λ (t : Moment). HasWritten all (marks_text row base (Some mark) (marks_of row turns t rest)) old after) (sym turns_on)
    (written_more all (marks_text row base last (marks_of row turns moment events)) (next_text row base last mark) (marks_text row base (Some mark) (marks_of row turns (moment_after moment event) rest)) old before after has parts here)))

-- And one of which it shows nothing.
pub unmarked : (row : Row) (turns base : ℕ) (moment now : Moment) (last new_last : Option Mark) (events : List Event) (event : Event) (rest : List Event) (shown : Option ℕ) (all : List ℕ) (old before after : Option (List ℕ))
    → HasWritten all (marks_text row base last (marks_of row turns moment events)) old before → events ≡ event ∷ rest → now ≡ moment_after moment event → shown ≡ height_of row event → shown ≡ None
    → new_last ≡ last → after ≡ before → HasWritten all (marks_text row base new_last (marks_of row turns now rest)) old after
unmarked row turns base moment now last new_last events event rest shown all old before after has is turns_on shows none kept same =
    subst (λ (o : Option (List ℕ)). HasWritten all (marks_text row base new_last (marks_of row turns now rest)) old o) (sym same)
    (subst (λ (l : Option Mark). HasWritten all (marks_text row base l (marks_of row turns now rest)) old before) (sym kept)
    (subst (λ (t : Moment). HasWritten all (marks_text row base last (marks_of row turns t rest)) old before) (sym turns_on)
    (written_same all (marks_text row base last (marks_of row turns moment events)) (marks_text row base last (marks_of row turns (moment_after moment event) rest)) old before has (marks_none row turns base moment last events event rest is (sym shows ∙ none)))))
