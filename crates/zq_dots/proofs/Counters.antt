-- Lists of a counter for each site.

use Rattle.std.specs.List.{range_with_len}
use Rattle.std.proofs.Common.{inl, inr, zero, suc, ◌+◌, List, arith, ℕ, get_or, refl, ◌≡◌, map}
use Rattle.std.proofs.lemmas.Bool.{cases_lt}
use Rattle.std.proofs.lemmas.List.{get_or_past}
use Rattle.std.specs.Prelude.{max}
use Rattle.zq_model.proofs.Sites.{by_site-at, length-by_site}
use Rattle.zq_model.specs.Image.{join_vector}
use Rattle.zq_model.specs.Sets.{IsCounters, LAST, SITES, by_site}

-- the code's numbers
pub sites_is : SITES ≡ 64
unfolding SITES
sites_is = refl

pub last_is : LAST ≡ 281474976710655
unfolding LAST
last_is = refl

get_or-no_counters : (t n a : ℕ) → ◌≡◌ {A = ℕ} (get_or (map (λ _. 0) (range_with_len a n)) t 0) 0
get_or-no_counters t zero a = refl
get_or-no_counters zero (suc n) a = refl
get_or-no_counters (suc t) (suc n) a = get_or-no_counters t n (a + 1)

-- no operation is known
pub no_counters : IsCounters (by_site (λ _. 0))
no_counters = record {
  wide = length-by_site (λ _. 0);
  bounded = λ t. rw (get_or-no_counters t SITES 0) (omega arith);
}

-- what two lists of counters make is one
pub joined_counters : (u v : List ℕ) → IsCounters u → IsCounters v → IsCounters (join_vector u v)
joined_counters u v f g = record {
  wide = length-by_site (λ t. max (get_or u t 0) (get_or v t 0));
  bounded = λ t. elim (cases_lt t SITES) [
    | inl h ↦ rw (by_site-at (λ t. max (get_or u t 0) (get_or v t 0)) t 0 h) (let a = f.bounded t in let b = g.bounded t in omega arith)
    | inr h ↦ rw (get_or_past (join_vector u v) t 0 (omega (arith, length-by_site (λ t. max (get_or u t 0) (get_or v t 0))))) (omega arith)
  ];
}
