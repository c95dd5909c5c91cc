use Rattle.zq_log.proofs.Quotes.{ends_at_its_quote}
use Rattle.zq_log.proofs.laws.ends_at_its_quote.Goals as goal

pub returns : goal.returns
returns c = ends_at_its_quote
