-- The one spelling of each part of a state in each version.

use Rattle.std.specs.Int.{to_be_bytes, w64, w128}
use Rattle.std.specs.Prelude.{List, [], flat_map, length, take, ℕ, ℤ, ◌++◌, ◌∷◌}
use Rattle.zq_entry.specs.Sums.{nonzero_sums}
use Rattle.zq_fields.specs.Fields.{signed, text}
use Rattle.zq_merge.specs.Frame.{Frame}
use Rattle.zq_merge.specs.Keys.{KeyRows, MemberRow}
use Rattle.zq_merge.specs.declared.version.Version.{Version}
use Rattle.zq_merge.specs.declared.version.Version.TheVariants.{One, Three, Two}
use Rattle.zq_model.specs.Rows.{OfSite}
use Rattle.zq_model.specs.Rule.{Rule}
use Rattle.zq_fields.specs.Spelling.{dense, rule_byte, sparse}
use Rattle.zq_fields.specs.Vectors.{DENSE_SITES}

-- the rule, which the third version alone has
abbrev pub rule_bytes : Version → Rule → List ℕ
rule_bytes One rule = []
rule_bytes Two rule = []
rule_bytes Three rule = rule_byte rule ∷ []

abbrev pub vector_bytes : Version → List ℕ → List ℕ
vector_bytes One counters = dense counters
vector_bytes Two counters = sparse counters
vector_bytes Three counters = sparse counters

-- the number of heaps, the heap, the rule where the version has it, and the vector
unfoldable pub frame_bytes : Version → Frame → List ℕ
frame_bytes v f = f.heap.heaps ∷ f.heap.heap ∷ (rule_bytes v f.rule ++ vector_bytes v f.vector)

-- the sums of the first sites, site 0 first
unfoldable pub each_sum : List ℤ → List ℕ
each_sum sums = flat_map (signed w128) (take DENSE_SITES sums)

-- a site and its sum
abbrev pub sum_bytes : ℕ × ℤ → List ℕ
sum_bytes p = p.0 ∷ signed w128 p.1

-- the number of sums, and each with its site
unfoldable pub listed_sums : List (ℕ × ℤ) → List ℕ
listed_sums sums = length sums ∷ flat_map sum_bytes sums

-- in the first version a sum for each site that it knows, later those that are not 0
abbrev pub sums_bytes : Version → List ℤ → List ℕ
sums_bytes One sums = each_sum sums
sums_bytes Two sums = listed_sums (nonzero_sums sums)
sums_bytes Three sums = listed_sums (nonzero_sums sums)

-- the site, the counter, the score and the sums
unfoldable pub addition_bytes : Version → OfSite → List ℕ
addition_bytes v a = a.0
    ∷ (to_be_bytes w64 a.1.n ++ (signed w64 a.1.score ++ sums_bytes v a.1.sums))

-- the number of additions, and each
unfoldable pub additions_bytes : Version → List OfSite → List ℕ
additions_bytes v additions = length additions ∷ flat_map (addition_bytes v) additions

unfoldable pub member_bytes : Version → MemberRow → List ℕ
member_bytes v m = text m.member ++ additions_bytes v m.additions

-- the key, the number of its members, and each
unfoldable pub key_bytes : Version → KeyRows → List ℕ
key_bytes v k = text k.key
    ++ (to_be_bytes w64 (length k.members) ++ flat_map (member_bytes v) k.members)

-- the number of keys, and each
unfoldable pub keys_bytes : Version → List KeyRows → List ℕ
keys_bytes v keys = to_be_bytes w64 (length keys) ++ flat_map (key_bytes v) keys
