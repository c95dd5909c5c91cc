use Rattle.std.proofs.Common.{arith, refl}
use Rattle.zq_resp.proofs.Shorts.{put_again}
use Rattle.zq_resp.proofs.reader.short.put_word.Goals as goal

pub returns-in-Some-clause-put : goal.returns-in-Some-clause-put
returns-in-Some-clause-put c =
    put_again c.args.words.now.items c.replace_word.new.spent c.args.place c.args.word.now (omega (arith, c.in-Some.ensures.variant.0 refl)) c.in_ok-replace_word.ensures
