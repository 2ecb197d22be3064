-- The rest of a list, and the drawing of it.
use Rattle.std.proofs.Common.{◌≡◌, ℕ, ◌+◌, List, [], ◌∷◌, ◌++◌, Option, Some, None, ap, sym, ◌∙◌, append_assoc}
use Rattle.std.proofs.lemmas.List.{append-nil}
use Rattle.trace.specs.declared.reported_state.Seen.{Seen}
use Rattle.timeline.specs.declared.event.Event.{Event}
use Rattle.timeline.specs.declared.mark.Mark.{Mark}
use Rattle.timeline.specs.declared.moment.Moment.{Moment}
use Rattle.timeline.specs.declared.row.Kind.{Kind}
use Rattle.timeline.specs.declared.row.Row.{Row}
use Rattle.timeline.specs.declared.row.Row.TheVariants.{Lane}
use Rattle.timeline.specs.Picture.{marks_of, marks_text, next_text, room_of, moment_after, row_text, rows_text, with_mark, x_of}
use Rattle.timeline.specs.Rows.{height_of, is_shown, kinds, lane_rows, row_if, rows_in}

pub rows_next : (turns : ℕ) (events : List Event) (top : ℕ) (rows : List Row) (row : Row) (rest : List Row) → rows ≡ row ∷ rest
    → rows_text turns events top rows ≡ row_text row turns events (top + room_of row) ++ rows_text turns events (top + room_of row) rest
unfolding rows_text
rows_next turns events top rows row rest is = ap (rows_text turns events top) is

pub rows_end : (turns : ℕ) (events : List Event) (top : ℕ) (rows : List Row) → rows ≡ [] → rows_text turns events top rows ≡ []
unfolding rows_text
rows_end turns events top rows is = ap (rows_text turns events top) is

pub marks_end : (row : Row) (turns base : ℕ) (before : Moment) (last : Option Mark) (events : List Event) → events ≡ [] → marks_text row base last (marks_of row turns before events) ≡ []
unfolding marks_of marks_text
marks_end row turns base before last events is = ap (λ (es : List Event). marks_text row base last (marks_of row turns before es)) is

pub marks_none : (row : Row) (turns base : ℕ) (before : Moment) (last : Option Mark) (events : List Event) (event : Event) (rest : List Event) → events ≡ event ∷ rest → height_of row event ≡ None
    → marks_text row base last (marks_of row turns before events) ≡ marks_text row base last (marks_of row turns (moment_after before event) rest)
unfolding marks_of
marks_none row turns base before last events event rest is none =
    ap (λ (es : List Event). marks_text row base last (marks_of row turns before es)) is
    ∙ ap (λ (h : Option ℕ). marks_text row base last (with_mark (x_of turns (moment_after before event).turn) h (marks_of row turns (moment_after before event) rest))) none

pub marks_some : (row : Row) (turns base : ℕ) (before : Moment) (last : Option Mark) (events : List Event) (event : Event) (rest : List Event) (height : ℕ) (mark : Mark) → events ≡ event ∷ rest → height_of row event ≡ Some height
    → mark ≡ record { x = x_of turns (moment_after before event).turn; height = height }
    → marks_text row base last (marks_of row turns before events) ≡ next_text row base last mark ++ marks_text row base (Some mark) (marks_of row turns (moment_after before event) rest)
unfolding marks_of marks_text
marks_some row turns base before last events event rest height mark is some same =
    ap (λ (es : List Event). marks_text row base last (marks_of row turns before es)) is
    ∙ ap (λ (h : Option ℕ). marks_text row base last (with_mark (x_of turns (moment_after before event).turn) h (marks_of row turns (moment_after before event) rest))) some
    ∙ ap (λ (m : Mark). next_text row base last m ++ marks_text row base (Some m) (marks_of row turns (moment_after before event) rest)) (sym same)

pub kinds_next : (lane : Seen) (events : List Event) (left : List Kind) (kind : Kind) (rest : List Kind) (rows now : List Row) (all : List Row) → left ≡ kind ∷ rest → rows ++ rows_in lane events left ≡ all
    → now ≡ rows ++ row_if (is_shown lane events kind) (Lane lane kind) → now ++ rows_in lane events rest ≡ all
unfolding rows_in
kinds_next lane events left kind rest rows now all is has more =
    ap (λ (rs : List Row). rs ++ rows_in lane events rest) more
    ∙ append_assoc rows (row_if (is_shown lane events kind) (Lane lane kind)) (rows_in lane events rest)
    ∙ ap (λ (ks : List Kind). rows ++ rows_in lane events ks) (sym is)
    ∙ has

pub kinds_end : (lane : Seen) (events : List Event) (left : List Kind) (rows all : List Row) → left ≡ [] → rows ++ rows_in lane events left ≡ all → rows ≡ all
unfolding rows_in
kinds_end lane events left rows all is has = sym (append-nil rows) ∙ ap (λ (ks : List Kind). rows ++ rows_in lane events ks) (sym is) ∙ has

pub lanes_next : (events : List Event) (left : List Seen) (lane : Seen) (rest : List Seen) (rows now all : List Row) → left ≡ lane ∷ rest → rows ++ lane_rows events left ≡ all
    → now ≡ rows ++ rows_in lane events kinds → now ++ lane_rows events rest ≡ all
unfolding lane_rows
lanes_next events left lane rest rows now all is has more =
    ap (λ (rs : List Row). rs ++ lane_rows events rest) more
    ∙ append_assoc rows (rows_in lane events kinds) (lane_rows events rest)
    ∙ ap (λ (ls : List Seen). rows ++ lane_rows events ls) (sym is)
    ∙ has

pub lanes_end : (events : List Event) (left : List Seen) (rows all : List Row) → left ≡ [] → rows ++ lane_rows events left ≡ all → rows ≡ all
unfolding lane_rows
lanes_end events left rows all is has = sym (append-nil rows) ∙ ap (λ (ls : List Seen). rows ++ lane_rows events ls) (sym is) ∙ has
