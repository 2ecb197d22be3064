-- The members of an array one by one.
use Rattle.std.proofs.Common.{◌≡◌, ℕ, ◌+◌, ◌<◌, List, [], ◌∷◌, ◌++◌, length, get_or, drop, arith, None, Result, Ok, Err, ◌≤◌, refl, sym}
use Rattle.toml.specs.Data.{Data, Items, no_items, item, Members}
use Rattle.toml.specs.declared.value.Value.{Value}
use Rattle.toml.specs.View.{items_view, view}
use Rattle.toml.proofs.Views.{items_view-drop}
use Rattle.roster.specs.Toml.{items_len}
use Rattle.railway_plan.specs.declared.fault.Section.{Section}
use Rattle.railway_plan.specs.declared.fault.Reason.{Reason}
use Rattle.railway_plan.specs.Format.{part_of, parts_after}

pub items_len_view : (values : List Value) → items_len (items_view values) ≡ length values
items_len_view [] = refl
items_len_view (value ∷ values) = omega (arith, items_len_view values)

pub part_read : {A : Type 0} (of_table : Members → Result A Reason) (place : ℕ → Section) (values : List Value) (i : ℕ) (d : Value) (earlier : List A) (part : A) → i < length values → part_of of_table (view (get_or values i d)) ≡ Ok part
    → parts_after of_table place earlier (items_view (drop i values)) ≡ parts_after of_table place (earlier ++ part ∷ []) (items_view (drop (i + 1) values))
part_read of_table place values i d earlier part within e = rw (items_view-drop values i d within, e) refl

pub part_refused : {A : Type 0} (of_table : Members → Result A Reason) (place : ℕ → Section) (values : List Value) (i : ℕ) (d : Value) (earlier : List A) (why : Reason) → i < length values → part_of of_table (view (get_or values i d)) ≡ Err why
    → parts_after of_table place earlier (items_view (drop i values)) ≡ Err (record { section = place (length earlier + 1); why = why; names = None })
part_refused of_table place values i d earlier why within e = rw (items_view-drop values i d within, e) refl

-- What reads two members gives the same for fewer and for more.

pub fewer : {R : Type 0} (read : Items → R) (none : R) → read no_items ≡ none → ((x : Data) → read (item x no_items) ≡ none) → (values : List Value) → length values < 2 → none ≡ read (items_view values)
fewer read none nothing one [] few = sym nothing
fewer read none nothing one (x ∷ []) few = sym (one (view x))
fewer read none nothing one (x ∷ y ∷ values) few = absurd (omega (arith, few))

pub more : {R : Type 0} (read : Items → R) (none : R) → ((x y z : Data) (items : Items) → read (item x (item y (item z items))) ≡ none) → (values : List Value) → 3 ≤ length values → none ≡ read (items_view values)
more read none many [] three = absurd (omega (arith, three))
more read none many (x ∷ []) three = absurd (omega (arith, three))
more read none many (x ∷ y ∷ []) three = absurd (omega (arith, three))
more read none many (x ∷ y ∷ z ∷ values) three = sym (many (view x) (view y) (view z) (items_view values))
