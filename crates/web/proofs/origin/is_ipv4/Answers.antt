use Rattle.web.proofs.Pieces.{parsed}
use Rattle.web.proofs.origin.is_ipv4.Goals as goal

pub returns : goal.returns
returns c = parsed _ c.parse_ascii.result c.is_ok.result c.is_ok.ensures.value c.parse_ascii.ensures
