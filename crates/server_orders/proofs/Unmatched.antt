-- Arguments that clap accepts, and that are not an order of `lbserver`.
use Rattle.std.proofs.Common.{◌≡◌, ◌≢◌, ◌∙◌, ℕ, false, true, List, Option, Some, None, Result, Ok, Err, ap, inr, refl, subst, sym}
use Rattle.std.specs.Prelude.{IfErr, IsErrAnd, bytes_eq, find, is_none, option_and_then, option_map, slice_get}
use Rattle.std.specs.Borrow.{Bor}
use Rattle.clap.specs.Kinds.{Kinds}
use Rattle.clap.specs.Values.{kind_of}
use Rattle.clap.specs.Words.{Row, Text, first_of, one_of, read_as}
use Rattle.clap.specs.Walk.{row_text}
use Rattle.clap.specs.declared.error.kind.ErrorKind.TheVariants.{ValueValidation}
use Rattle.command_line.specs.declared.fault.OrderFault.{OrderFault}
use Rattle.command_line.specs.declared.fault.OrderFault.TheVariants.{Usage, NoMemory}
use Rattle.command_line.specs.Fault.{IsFaultOf, IsOfKind, IsUnmatched}
use Rattle.command_line.specs.Requests.{IsRequestedBy, is_request_kind}
use Rattle.command_line.specs.Values.{HasNone, IsNumber}
use Rattle.server_orders.specs.declared.words.ServerOrder.{ServerOrder}
use Rattle.server_orders.specs.declared.words.Settings.{Settings}
use Rattle.server_orders.specs.ServerLine.{AreSettings, IsNumberIfGiven, IsServerOrder}

-- an option that has a first value has one
pub first_is_one : (id : Text) (rows : List Row) (text : Text) → first_of id rows ≡ Some text → one_of id rows ≢ None
first_is_one id rows text = by_row (find (λ r. bytes_eq r.id id) rows)
  where
    by_value : (row : Row) (o : Option Text) → o ≡ Some text → option_map (read_as row.reading) o ≢ None
    by_value row None h e = cc
    by_value row (Some t) h e = cc

    by_row : (o : Option Row) → option_and_then (λ r. slice_get r.values 0) o ≡ Some text → option_and_then row_text o ≢ None
    by_row None h = cc
    by_row (Some row) h = by_value row (slice_get row.values 0) h

pub text_is_one : (id : Text) (rows : List Row) (r : Option (Bor Text)) → is_none r ≡ false → option_map (λ text. text.now) r ≡ first_of id rows → one_of id rows ≢ None
text_is_one id rows None some same = cc
text_is_one id rows (Some text) some same = first_is_one id rows text.now (sym same)

-- an option that is given and is not a number in its range
pub none_given : (o : Option Text) (least most : ℕ) (fault : OrderFault) → IsOfKind ValueValidation fault → o ≢ None → HasNone (IsNumber o least most) → IsUnmatched (IsNumberIfGiven o least most) fault
none_given o least most NoMemory kind some none = tt
none_given None least most (Usage error) kind some none = absurd (some refl)
none_given (Some text) least most (Usage error) kind some none = (by_given, kind)
  where
    by_given : (given : Option ℕ) → IsNumberIfGiven (Some text) least most given → ⊥
    by_given None is = is
    by_given (Some n) is = none n is

-- if a part is missing, the whole is missing
pub none_of_part : {A B R : Type 0} (Part : A → Type 0) (Whole : B → Type 0) (r : Result R OrderFault) (fault : OrderFault) → IsErrAnd r (λ actual. actual ≡ fault) → ((b : B) → Whole b → (a : A) × Part a) → IsUnmatched Part fault → IfErr r (IsUnmatched Whole)
none_of_part Part Whole (Ok value) fault same part none = tt
none_of_part Part Whole (Err NoMemory) fault same part none = tt
none_of_part Part Whole (Err (Usage error)) NoMemory same part none = absurd cc
none_of_part Part Whole (Err (Usage error)) (Usage other) same part none =
    let errors : error ≡ other = cc in ((λ b is. let found = part b is in none.0 found.0 found.1), ap kind_of errors ∙ none.1)

-- the settings of an order
pub settings_of : (rows : List Row) (order : ServerOrder) → IsServerOrder rows order → (settings : Settings) × AreSettings rows settings
settings_of rows order is = (
  record {
    address = order.address;
    port = order.port;
    turns = order.turns;
    rate = order.rate;
    clients = order.clients;
    track = order.track;
    quiet = order.quiet;
    times = order.times;
    page = order.page;
    seed = order.seed;
  },
  record {
    at_address = is.at_address;
    at_port = is.at_port;
    each_turns = is.each_turns;
    at_rate = is.at_rate;
    most_clients = is.most_clients;
    shows_track = is.shows_track;
    keeps_quiet = is.keeps_quiet;
    has_times = is.has_times;
    at_page = is.at_page;
    with_seed = is.with_seed;
  },
)

-- it is no requested text
pub of_unmatched : {A B : Type 0} (kinds : Kinds) (Is : A → Type 0) (r : Result B OrderFault) → IfErr r (IsUnmatched Is) → IfErr r (IsRequestedBy kinds)
of_unmatched kinds Is (Ok b) none = tt
of_unmatched kinds Is (Err NoMemory) none = λ asked. cc
of_unmatched kinds Is (Err (Usage error)) none = λ asked. let bad : false ≡ true = subst (λ kind. is_request_kind kind ≡ true) none.1 asked in cc

-- a fault that is passed on
pub of_same : {A : Type 0} (Is : OrderFault → Type 0) (fault : OrderFault) (r : Result A OrderFault) → IsErrAnd r (λ actual. actual ≡ fault) → Is fault → IfErr r Is
of_same Is fault (Ok a) same is = tt
of_same Is fault (Err actual) same is = subst Is (sym same) is

pub of_matches : {A : Type 0} (kinds : Kinds) (Is : A → Type 0) (r : Result A OrderFault) → IfErr r (IsUnmatched Is) → IfErr r (IsFaultOf kinds Is)
of_matches kinds Is (Ok a) none = tt
of_matches kinds Is (Err fault) none = inr none
