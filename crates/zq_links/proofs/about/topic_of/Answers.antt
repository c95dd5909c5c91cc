use Rattle.std.proofs.Common.{◌∙◌}
use Rattle.zq_links.proofs.PiecesAgain.{piece_about}
use Rattle.zq_links.proofs.Topics.{topic_of_spelled}
use Rattle.zq_links.proofs.about.topic_of.Goals as goal

pub returns-clause-spelled : goal.returns-clause-spelled
returns-clause-spelled c = λ frame spelled. c.read_topic.ensures ∙ topic_of_spelled c.args.bytes.now frame spelled

pub returns-clause-piece : goal.returns-clause-piece
returns-clause-piece c = λ p is. c.read_topic.ensures ∙ piece_about c.args.bytes.now p is
