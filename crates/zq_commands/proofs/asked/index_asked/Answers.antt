use Rattle.zq_commands.proofs.asked.index_asked.Goals as goal

pub returns-in_default-clause-keeps : goal.returns-in_default-clause-keeps
returns-in_default-clause-keeps g c = g.met.B.Books.keeps_itself _
