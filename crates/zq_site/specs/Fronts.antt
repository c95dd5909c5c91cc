-- What is shown of a site.

use Rattle.std.specs.Prelude.{Bool, false, true}
use Rattle.zq_admin.specs.declared.readiness.Readiness.{Readiness}
use Rattle.zq_admin.specs.declared.readiness.Readiness.TheVariants.{Fenced, Follows, Ready, Stops, Waits}

-- how ready a site is whose number another run used, that was told to end, that waits for its
-- peers, or that lacks something of what they had: the first of these that holds
abbrev pub readiness_of : Bool → Bool → Bool → Bool → Readiness
readiness_of true stops waits follows = Fenced
readiness_of false true waits follows = Stops
readiness_of false false true follows = Waits
readiness_of false false false true = Follows
readiness_of false false false false = Ready
