-- What is answered.

use Rattle.std.specs.Prelude.{Bool, List, codes, false, if◌then◌else◌, true, ℕ}
use Rattle.zq_admin.specs.declared.asked.Asked.{Asked}
use Rattle.zq_admin.specs.declared.asked.Asked.TheVariants as asked
use Rattle.zq_admin.specs.declared.asked.Denial.{Denial}
use Rattle.zq_admin.specs.declared.asked.Denial.TheVariants as denial
use Rattle.zq_admin.specs.declared.readiness.Readiness.{Readiness}
use Rattle.zq_admin.specs.declared.readiness.Readiness.TheVariants.{Fenced, Follows, Ready, Stops, Waits}

abbrev pub is_ready : Readiness → Bool
is_ready Ready = true
is_ready Waits = false
is_ready Follows = false
is_ready Stops = false
is_ready Fenced = false

abbrev pub words_of : Readiness → List ℕ
words_of Ready = codes "ready\n"
words_of Waits = codes "the site waits for its peers\n"
words_of Follows = codes "the site catches up with its peers\n"
words_of Stops = codes "the site ends\n"
words_of Fenced = codes "another run used the site's number\n"

-- the status of what is answered: a site that is not ready says so by it
abbrev pub code_for : Asked → Readiness → ℕ
code_for asked.Alive readiness = 200
code_for asked.Ready readiness = if is_ready readiness then 200 else 503
code_for asked.Stop readiness = 202
code_for (asked.Show page) readiness = 503

-- and the line
abbrev pub words_for : Asked → Readiness → List ℕ
words_for asked.Alive readiness = codes "alive\n"
words_for asked.Ready readiness = words_of readiness
words_for asked.Stop readiness = codes "the site ends\n"
words_for (asked.Show page) readiness = codes "the site cannot show that now\n"

-- the same where nothing is done
abbrev pub code_of : Denial → ℕ
code_of denial.Unknown = 404
code_of denial.ReadOnly = 405
code_of denial.PostOnly = 405
code_of denial.Foreign = 403
code_of denial.Elsewhere = 403
code_of denial.Stranger = 401
code_of denial.Count = 400

abbrev pub words_of_denial : Denial → List ℕ
words_of_denial denial.Unknown = codes "there is no such page\n"
words_of_denial denial.ReadOnly = codes "this page is read alone\n"
words_of_denial denial.PostOnly = codes "this page takes POST alone\n"
words_of_denial denial.Foreign = codes "this takes the header X-Zqueue-Admin, and a Host that is an address or localhost\n"
words_of_denial denial.Elsewhere = codes "this takes a Host that is an address or localhost\n"
words_of_denial denial.Stranger = codes "this takes the header Authorization: Bearer TOKEN\n"
words_of_denial denial.Count = codes "n is a number from 1 to 1000\n"
