use Rattle.zq_log.proofs.kinds.+words_len.Given as goal

abbrev pub decreases-words_len : goal.decreases-words_len
decreases-words_len l = l.most
