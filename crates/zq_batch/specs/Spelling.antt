-- The one spelling of operations.

use Rattle.std.specs.Prelude.{Bool, List, [], if◌then◌else◌, length, nat_lt, negsuc, pos, slice_index, suc, zero, ℕ, ℤ, ◌*◌, ◌+◌, ◌++◌, ◌-◌, ◌∷◌}
use Rattle.zq_batch.specs.Before.{base_of, repeats_key, repeats_site}
use Rattle.zq_batch.specs.Varint.{varint}
use Rattle.zq_dots.specs.Placed.{Placed}
use Rattle.zq_model.specs.Operation.{Act, Bump, Drop, Put}
use Rattle.zq_model.specs.Sets.{SITES}

-- ---- counters

-- what the counter of a site has risen by, and nothing where it has not
unfoldable pub change : ℕ → ℕ → ℕ → List ℕ
change s from n = if nat_lt from n then s ∷ varint (n - from) else []

-- the changes of k sites from s on
unfoldable pub changes : ℕ → ℕ → List ℕ → List ℕ → List ℕ
changes zero s base seen = []
changes (suc k) s base seen =
    change s (slice_index base s) (slice_index seen s) ++ changes k (s + 1) base seen

abbrev pub one_if : Bool → ℕ
one_if b = if b then 1 else 0

-- how many of them there are
unfoldable pub moved : ℕ → ℕ → List ℕ → List ℕ → ℕ
moved zero s base seen = 0
moved (suc k) s base seen =
    one_if (nat_lt (slice_index base s) (slice_index seen s)) + moved k (s + 1) base seen

-- ---- the head: the act; 4 where the key, 8 where the site is that of the operation before; 16 for
-- each change, of which 15 stand here at most

abbrev pub act_no : Act → ℕ
act_no (Put score) = 0
act_no (Bump increment) = 1
act_no Drop = 2

-- the most changes that stand in the head, less 1
abbrev pub FEW : ℕ
FEW = 15

abbrev pub few_of : ℕ → ℕ
few_of n = if nat_lt n FEW then n else FEW

unfoldable pub head_byte : Act → Bool → Bool → ℕ → ℕ
head_byte act key site n = act_no act + 4 * one_if key + 8 * one_if site + 16 * few_of n

abbrev pub site_bytes : Bool → ℕ → List ℕ
site_bytes again site = if again then [] else site ∷ []

-- the number of changes, where it does not stand in the head
abbrev pub count_bytes : ℕ → List ℕ
count_bytes n = if nat_lt n FEW then [] else n ∷ []

-- ---- the act and the names

abbrev pub zigzag : ℤ → ℕ
zigzag (pos n) = 2 * n
zigzag (negsuc n) = 2 * n + 1

abbrev pub score_bytes : Act → List ℕ
score_bytes (Put score) = varint (zigzag score)
score_bytes (Bump increment) = varint (zigzag increment)
score_bytes Drop = []

abbrev pub name : List ℕ → List ℕ
name bytes = varint (length bytes) ++ bytes

abbrev pub key_bytes : Bool → List ℕ → List ℕ
key_bytes again key = if again then [] else name key

-- ---- operations

-- the changes, the score, the key and the member
unfoldable pub body_bytes : List Placed → Placed → List ℕ
body_bytes before o =
    changes SITES 0 (base_of o.operation.site before) o.operation.seen
    ++ (score_bytes o.operation.act
    ++ (key_bytes (repeats_key before o.operation.key) o.operation.key ++ name o.operation.member))

abbrev pub moved_by : List Placed → Placed → ℕ
moved_by before o = moved SITES 0 (base_of o.operation.site before) o.operation.seen

-- the operation behind these
unfoldable pub op_bytes : List Placed → Placed → List ℕ
op_bytes before o =
    head_byte o.operation.act (repeats_key before o.operation.key)
    (repeats_site before o.operation.site) (moved_by before o)
    ∷ (site_bytes (repeats_site before o.operation.site) o.operation.site
    ++ (count_bytes (moved_by before o) ++ body_bytes before o))

-- one after the other
unfoldable pub each_bytes : List Placed → List Placed → List ℕ
each_bytes before [] = []
each_bytes before (o ∷ ops) = op_bytes before o ++ each_bytes (before ++ o ∷ []) ops

-- the kind of the frame
abbrev pub KIND : ℕ
KIND = 11

-- the kind, the number of heaps, the heap, the number of operations, and each
unfoldable pub batch_bytes : ℕ → ℕ → List Placed → List ℕ
batch_bytes heaps heap ops =
    KIND ∷ heaps ∷ heap ∷ (varint (length ops) ++ each_bytes [] ops)
