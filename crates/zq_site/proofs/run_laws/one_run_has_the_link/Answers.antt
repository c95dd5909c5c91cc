use Rattle.zq_site.proofs.RunLaws as runs
use Rattle.zq_site.proofs.run_laws.one_run_has_the_link.Goals as goal

pub returns-clause-link : goal.returns-clause-link
returns-clause-link c = runs.keeps

pub returns-clause-known : goal.returns-clause-known
returns-clause-known c = runs.stays

pub returns-clause-newcomer : goal.returns-clause-newcomer
returns-clause-newcomer c = runs.judged

pub returns-clause-later : goal.returns-clause-later
returns-clause-later c = runs.later
