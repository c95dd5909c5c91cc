-- What a request asks for.

use Rattle.std.specs.Prelude.{Bool, Err, List, None, Ok, Option, Result, Some, codes, if◌then◌else◌, ℕ}
use Rattle.std.specs.Str.{bytes_eq}
use Rattle.zq_admin.specs.Counts.{count_in}
use Rattle.zq_admin.specs.declared.asked.Asked.{Asked}
use Rattle.zq_admin.specs.declared.asked.Asked.TheVariants.{Alive, Ready, Show, Stop}
use Rattle.zq_admin.specs.declared.asked.Denial.{Denial}
use Rattle.zq_admin.specs.declared.asked.Denial.TheVariants.{Count, Elsewhere, Foreign, PostOnly, ReadOnly, Stranger, Unknown}
use Rattle.zq_admin.specs.declared.page.Page.{Page}
use Rattle.zq_admin.specs.declared.page.Page.TheVariants.{Front, Keys, Metrics, Peers}
use Rattle.zq_admin.specs.declared.sender.Sender.{Sender}

-- a page that says something is read by GET or HEAD alone
abbrev pub read_by : List ℕ → Asked → Result Asked Denial
read_by method asked =
    if bytes_eq method (codes "GET") then Ok asked
    else if bytes_eq method (codes "HEAD") then Ok asked else Err ReadOnly

-- and one that shows something of the site only where no page of another origin can read it
abbrev pub shown_by : List ℕ → Page → Bool → Result Asked Denial
shown_by method page direct = if direct then read_by method (Show page) else Err Elsewhere

-- one that does something takes POST alone, and no request that cannot be trusted
abbrev pub done_by : List ℕ → Asked → Bool → Result Asked Denial
done_by method asked trusted =
    if bytes_eq method (codes "POST") then (if trusted then Ok asked else Err Foreign)
    else Err PostOnly

-- so many keys
abbrev pub keys_by : List ℕ → Option ℕ → Bool → Result Asked Denial
keys_by method (Some count) direct = shown_by method (Keys count) direct
keys_by method None direct = Err Count

-- what a request asks for that said the token, or where none is asked for
abbrev pub asked_by_known : List ℕ → List ℕ → Option (List ℕ) → Sender → Result Asked Denial
asked_by_known method path query sender =
    if bytes_eq path (codes "/readyz") then read_by method Ready
    else if bytes_eq path (codes "/stop") then done_by method Stop sender.trusted
    else if bytes_eq path (codes "/metrics") then shown_by method Metrics sender.direct
    else if bytes_eq path (codes "/peers") then shown_by method Peers sender.direct
    else if bytes_eq path (codes "/keys") then keys_by method (count_in query) sender.direct
    else Err Unknown

-- What a request of this method for this page asks for, with this query. Without the token it may
-- ask whether the site is alive, and for the page for people.
abbrev pub asked_by : List ℕ → List ℕ → Option (List ℕ) → Sender → Result Asked Denial
asked_by method path query sender =
    if bytes_eq path (codes "/healthz") then read_by method Alive
    else if bytes_eq path (codes "/") then read_by method (Show Front)
    else if sender.known then asked_by_known method path query sender else Err Stranger
