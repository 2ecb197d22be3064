use Rattle.std.proofs.Common.{◌++◌, [], ap, map, sym, ◌∙◌, append-nil}
use Rattle.std.specs.Prelude.{string_bytes}
use Rattle.httparse.specs.Spans.{IsRequestOf}
use Rattle.web.proofs.Determined.{answer_by_parts, complete-of, head_answered, lines_are, lines_more, never_answered, never_by_error, partial-of, waiting_answered, waiting_room, waiting_stands}
use Rattle.web.proofs.routing.response.Goals as goal

pub returns-in-Ok-Complete-clause-response : goal.returns-in-Ok-Complete-clause-response
returns-in-Ok-Complete-clause-response c =
    let names = map (λ name. string_bytes name) c.args.names.now in
    let lines = c.whole_lines-lines.result.now in
    let is = lines_are c.args.text.now lines c.min.result c.min.ensures c.whole_lines-lines.ensures in
    let found = complete-of (IsRequestOf lines c.parse_request.new.headers) c.in-Ok-Complete.field-0 c.in-Ok-Complete.request c.in-Ok-Complete.field-0-is c.in-Ok-Complete.ensures.complete in
    head_answered names c.args.text.now lines [] found.0 _ c.route.result (sym is ∙ sym (append-nil lines)) found.1.reads
    (answer_by_parts names c.route.result found.1.method found.1.path found.1.version found.1.fields found.1.len c.route.ensures.response)

pub returns-in-Ok-Complete-clause-stands : goal.returns-in-Ok-Complete-clause-stands
returns-in-Ok-Complete-clause-stands c = λ _ more.
    let names = map (λ name. string_bytes name) c.args.names.now in
    let lines = c.whole_lines-lines.result.now in
    let is = lines_are c.args.text.now lines c.min.result c.min.ensures c.whole_lines-lines.ensures in
    let found = complete-of (IsRequestOf lines c.parse_request.new.headers) c.in-Ok-Complete.field-0 c.in-Ok-Complete.request c.in-Ok-Complete.field-0-is c.in-Ok-Complete.ensures.complete in
    let longer = lines_more c.args.text.now more in
    head_answered names (c.args.text.now ++ more) lines longer.0 found.0 _ c.route.result (longer.1 ∙ ap (λ l. l ++ longer.0) (sym is)) found.1.reads
    (answer_by_parts names c.route.result found.1.method found.1.path found.1.version found.1.fields found.1.len c.route.ensures.response)

pub returns-in-Ok-Partial-clause-response : goal.returns-in-Ok-Partial-clause-response
returns-in-Ok-Partial-clause-response c =
    let names = map (λ name. string_bytes name) c.args.names.now in
    let lines = c.whole_lines-lines.result.now in
    let is = lines_are c.args.text.now lines c.min.result c.min.ensures c.whole_lines-lines.ensures in
    waiting_answered names c.args.text.now lines _ (sym is) (partial-of _ c.in-Ok-Partial.field-0 c.in-Ok-Partial.field-0-is c.in-Ok-Partial.ensures.partial)
    (partial-of _ c.in-Ok-Partial.field-0 c.in-Ok-Partial.field-0-is c.in-Ok-Partial.ensures.unfinished) c.unfinished.ensures

pub returns-in-Ok-Partial-clause-stands : goal.returns-in-Ok-Partial-clause-stands
returns-in-Ok-Partial-clause-stands c = λ now more.
    let names = map (λ name. string_bytes name) c.args.names.now in
    let lines = c.whole_lines-lines.result.now in
    let is = lines_are c.args.text.now lines c.min.result c.min.ensures c.whole_lines-lines.ensures in
    waiting_stands names c.args.text.now lines _ (sym is) (partial-of _ c.in-Ok-Partial.field-0 c.in-Ok-Partial.field-0-is c.in-Ok-Partial.ensures.partial)
    (partial-of _ c.in-Ok-Partial.field-0 c.in-Ok-Partial.field-0-is c.in-Ok-Partial.ensures.unfinished) c.unfinished.ensures now more

pub returns-in-Ok-Partial-clause-room : goal.returns-in-Ok-Partial-clause-room
returns-in-Ok-Partial-clause-room c = λ deadline_after. waiting_room c.args.text.now _ c.unfinished.ensures deadline_after

pub returns-in-Err-clause-response : goal.returns-in-Err-clause-response
returns-in-Err-clause-response c =
    let names = map (λ name. string_bytes name) c.args.names.now in
    let lines = c.whole_lines-lines.result.now in
    let is = lines_are c.args.text.now lines c.min.result c.min.ensures c.whole_lines-lines.ensures in
    never_answered names c.args.text.now lines [] (sym is ∙ sym (append-nil lines))
    (never_by_error c.args.text.now lines c.in-Err.field-0 is c.in-Err.ensures.invalid c.in-Err.ensures.too_many)

pub returns-in-Err-clause-stands : goal.returns-in-Err-clause-stands
returns-in-Err-clause-stands c = λ _ more.
    let names = map (λ name. string_bytes name) c.args.names.now in
    let lines = c.whole_lines-lines.result.now in
    let is = lines_are c.args.text.now lines c.min.result c.min.ensures c.whole_lines-lines.ensures in
    let longer = lines_more c.args.text.now more in
    never_answered names (c.args.text.now ++ more) lines longer.0 (longer.1 ∙ ap (λ l. l ++ longer.0) (sym is))
    (never_by_error c.args.text.now lines c.in-Err.field-0 is c.in-Err.ensures.invalid c.in-Err.ensures.too_many)
