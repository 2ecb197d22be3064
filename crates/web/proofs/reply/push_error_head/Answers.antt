use Rattle.std.proofs.Common.{◌++◌, ap, length, ◌∙◌, codes}
use Rattle.std.specs.Fmt.{decimal}
use Rattle.web.specs.Replies.{allow_of, connection_close, name_of, plain_text, reason_of, status_of, version_text}
use Rattle.web.proofs.Pieces.{next}
use Rattle.web.proofs.reply.push_error_head.Goals as goal

pub returns-clause-text : goal.returns-clause-text
returns-clause-text c =
    let r = c.args.error in
    let old = c.args.head.now.items in
    let before-second = version_text in
    let at-second = next old c.push_bytes.new.text.items c.push_number.new.head.items before-second (decimal (status_of r)) c.push_bytes.ensures.text (c.push_number.ensures.text ∙ ap (λ n. c.push_bytes.new.text.items ++ decimal n) (c.from.ensures ∙ c.status.ensures.value)) in
    let before-third = before-second ++ decimal (status_of r) in
    let at-third = next old c.push_number.new.head.items c.push_bytes-2.new.text.items before-third (codes " ") at-second c.push_bytes-2.ensures.text in
    let before-fourth = before-third ++ codes " " in
    let at-fourth = next old c.push_bytes-2.new.text.items c.push_bytes-3.new.text.items before-fourth (name_of r) at-third (c.push_bytes-3.ensures.text ∙ ap (λ t. c.push_bytes-2.new.text.items ++ t) c.name.ensures.name) in
    let before-fifth = before-fourth ++ name_of r in
    let at-fifth = next old c.push_bytes-3.new.text.items c.push_bytes-4.new.text.items before-fifth (plain_text) at-fourth c.push_bytes-4.ensures.text in
    let before-sixth = before-fifth ++ plain_text in
    let at-sixth = next old c.push_bytes-4.new.text.items c.push_number-2.new.head.items before-sixth (decimal (length (reason_of r))) at-fifth (c.push_number-2.ensures.text ∙ ap (λ t. c.push_bytes-4.new.text.items ++ decimal (length t)) c.reason-reason.ensures.reason) in
    let before-seventh = before-sixth ++ decimal (length (reason_of r)) in
    let at-seventh = next old c.push_number-2.new.head.items c.push_bytes-5.new.text.items before-seventh (connection_close) at-sixth c.push_bytes-5.ensures.text in
    let before-eighth = before-seventh ++ connection_close in
    let at-eighth = next old c.push_bytes-5.new.text.items c.push_bytes-6.new.text.items before-eighth (allow_of r) at-seventh (c.push_bytes-6.ensures.text ∙ ap (λ t. c.push_bytes-5.new.text.items ++ t) c.allow.ensures.allow) in
    let before-ninth = before-eighth ++ allow_of r in
    next old c.push_bytes-6.new.text.items c.push_bytes-7.new.text.items before-ninth (codes "\r\n") at-eighth c.push_bytes-7.ensures.text
