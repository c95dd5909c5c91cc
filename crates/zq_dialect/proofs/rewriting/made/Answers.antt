use Rattle.zq_dialect.proofs.Limits.{said_is_request}
use Rattle.zq_words.specs.Words.{views}
use Rattle.zq_dialect.proofs.rewriting.made.Goals as goal

pub new-requires : goal.new-requires
new-requires c = said_is_request c.args.request.now (views c.args.words.items) c.words-words.ensures.limits c.requires
