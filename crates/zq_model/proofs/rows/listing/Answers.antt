use Rattle.zq_model.proofs.RowLists.{addition_in_row, entries_are, rows_are, rows_back, rows_forth}
use Rattle.zq_model.proofs.rows.listing.Goals as goal

pub returns-clause-rows : goal.returns-clause-rows
returns-clause-rows c = rows_are

pub returns-clause-entries : goal.returns-clause-entries
returns-clause-entries c = entries_are

pub returns-clause-back : goal.returns-clause-back
returns-clause-back c = rows_back

pub returns-clause-forth : goal.returns-clause-forth
returns-clause-forth c = rows_forth

pub returns-clause-additions : goal.returns-clause-additions
returns-clause-additions c a k m s x are = addition_in_row a are k m s x
