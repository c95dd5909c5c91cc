-- What is taken from a post at once.

use Rattle.std.specs.Prelude.{[], false, ◌≡◌}
use Rattle.zq_site.specs.declared.post.Delivery.{Delivery}

-- nothing happened, and nothing is to be done
pub record IsNothing (delivery : Delivery) : Type 0 where
  pub events : delivery.events.items ≡ []
  pub calls : delivery.calls ≡ false
  pub pushes : delivery.pushes ≡ false
  pub beats : delivery.beats ≡ false
