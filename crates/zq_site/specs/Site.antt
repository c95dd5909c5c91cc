-- What a site does with its settings.

use Rattle.std.specs.Net.Text.{socket_text}
use Rattle.std.specs.Prelude.{Bool, Err, List, Result, false, true, Some, [], codes, decimal, max, min, ℕ, ◌*◌, ◌++◌, ◌-◌, ◌^◌, ◌≡◌, ◌∷◌, length, slice_get}
use Rattle.zq_journal.specs.Limits.{limits_of}
use Rattle.zq_model.specs.Limits.{standard}
use Rattle.zq_serve.specs.declared.fault.ServeFault.{ServeFault}
use Rattle.zq_serve.specs.declared.fault.ServeFault.TheVariants.{Fenced}
use Rattle.zq_session.specs.declared.site_plan.SitePlan.{SitePlan}
use Rattle.zq_settings.specs.declared.values.SiteSettings.{SiteSettings}

-- the line that is written once the site listens
abbrev pub announced : SiteSettings → List ℕ
announced settings =
    codes "site " ++ decimal settings.site ++ codes " port " ++ decimal settings.port
    ++ codes " peers " ++ socket_text settings.listen ++ 10 ∷ []

-- Two threads accept for each peer that dials, and one where none does.
abbrev pub acceptors_for : ℕ → ℕ
acceptors_for dialers = max (min (dialers * 2) (2 ^ 64 - 1)) 1

-- how a site ends whose threads ended so, and whose number another run may have used
abbrev pub ended_by : Bool → Result (Unit {0}) ServeFault → Result (Unit {0}) ServeFault
ended_by true ended = Err Fenced
ended_by false ended = ended

-- the one plan of a site of these settings, with a server for each of so many workers, and a
-- mebibyte of names at most in a tail
pub record IsPlanOf (settings : SiteSettings) (workers : ℕ) (plans : List SitePlan) : Type 0 where
  pub one : length plans ≡ 1
  pub number : (plan : SitePlan) → slice_get plans 0 ≡ Some plan → plan.number ≡ settings.site
  pub heaps : (plan : SitePlan) → slice_get plans 0 ≡ Some plan → plan.heaps ≡ settings.heaps
  pub rule : (plan : SitePlan) → slice_get plans 0 ≡ Some plan → plan.rule ≡ settings.rule
  pub servers : (plan : SitePlan) → slice_get plans 0 ≡ Some plan → plan.servers ≡ workers
  pub tails : (plan : SitePlan) → slice_get plans 0 ≡ Some plan →
      limits_of plan.tails ≡ record standard { bytes = Some 1048576 }
