use Rattle.std.proofs.Common.{◌++◌}
use Rattle.std.specs.Fmt.{decimal}
use Rattle.web.specs.Replies.{connection_close, page_policy, page_rules, page_start}
use Rattle.web.proofs.Pieces.{next}
use Rattle.web.proofs.reply.push_page_head.Goals as goal

pub returns-clause-text : goal.returns-clause-text
returns-clause-text c =
    let old = c.args.head.now.items in
    let before-second = page_start in
    let at-second = next old c.push_bytes.new.text.items c.push_number.new.head.items before-second (decimal c.args.length) c.push_bytes.ensures.text c.push_number.ensures.text in
    let before-third = before-second ++ decimal c.args.length in
    let at-third = next old c.push_number.new.head.items c.push_bytes-2.new.text.items before-third (connection_close) at-second c.push_bytes-2.ensures.text in
    let before-fourth = before-third ++ connection_close in
    let at-fourth = next old c.push_bytes-2.new.text.items c.push_bytes-3.new.text.items before-fourth (page_rules) at-third c.push_bytes-3.ensures.text in
    let before-fifth = before-fourth ++ page_rules in
    next old c.push_bytes-3.new.text.items c.push_bytes-4.new.text.items before-fifth (page_policy) at-fourth c.push_bytes-4.ensures.text
