use Rattle.pages.proofs.PageTexts.{along-pieces, line-ends, text-pieces, words-behind}
use Rattle.pages.proofs.page_text.words_follow_messages.Goals as goal

pub returns : goal.returns
returns c = record {
  words = words-behind c.written_bytes_are_read.ensures.alone c.received_lines_are_short.ensures;
  whole = line-ends;
  pieces = text-pieces;
  held = along-pieces;
}
