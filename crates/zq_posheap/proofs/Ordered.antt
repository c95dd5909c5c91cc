-- Members with scores go one after another.
use Rattle.std.proofs.lemmas.Cmp.{back_total, int_cmp_total, nat_list_cmp_total, on_total, then_total}
use Rattle.std.proofs.Common.{ap, sym, true≢false, ◌∙◌}
use Rattle.std.specs.Cmp.{IsTotalOrder}
use Rattle.std.specs.Ordering.{is_lt, ordering_reverse}
use Rattle.std.specs.Prelude.{◌≡◌, ◌≢◌}
use Rattle.std.specs.declared.cmp.Ordering.TheVariants.{Less}
use Rattle.zq_posheap.specs.Order.{Scored, scored_cmp, turned_cmp}

pub scored_total : IsTotalOrder scored_cmp
scored_total = then_total (on_total (λ x. x.0) int_cmp_total) (on_total (λ x. x.1) nat_list_cmp_total)

pub turned_total : IsTotalOrder turned_cmp
turned_total = back_total scored_total

-- no two pairs go before each other
pub no_cycle : (x y : Scored) → scored_cmp x y ≡ Less → scored_cmp y x ≢ Less
no_cycle x y less back = true≢false (sym (ap is_lt back) ∙ ap is_lt (scored_total.antisymm y x ∙ ap ordering_reverse less))
