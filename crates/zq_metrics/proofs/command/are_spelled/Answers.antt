use Rattle.zq_metrics.proofs.Names.{same_words}
use Rattle.zq_metrics.proofs.command.are_spelled.Goals as goal

pub returns : goal.returns
returns c =
    same_words c.args.word.now c.args.text.now c.from_le_bytes.result c.from_le_bytes-2.result c.told-word c.told-text c.fits-word c.fits-text
    c.from_le_bytes.ensures c.from_le_bytes-2.ensures
