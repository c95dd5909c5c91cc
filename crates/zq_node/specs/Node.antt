-- A node: its site, its pass, and what it has parked.

use Rattle.std.specs.Prelude.{ℕ, ◌<◌, ◌≡◌}
use Rattle.zq_dots.specs.Placed.{Placed}
use Rattle.zq_model.specs.Sets.{IsHeaps, SITES}
use Rattle.zq_node.specs.Parked.{Entries, IsParked}
use Rattle.zq_node.specs.declared.home.Home.{Home}
use Rattle.zq_node.specs.declared.node.Node.{Node}
use Rattle.zq_spread.specs.Calls.{IsOfSite, heaps_of}
use Rattle.zq_spread.specs.Passes.{IsPassOf}
use Rattle.zq_spread.specs.declared.pass.Pass.{Pass}
use Rattle.zq_spread.specs.declared.site.Site.{Site}

abbrev pub site_of : Node → Site
site_of node = node.home.site.now

abbrev pub pass_of : Node → Pass
pass_of node = node.pass

abbrev pub parked_of : Node → Entries
parked_of node = node.parked.entries

-- how many operations may be parked
abbrev pub most_of : Node → ℕ
most_of node = node.parked.most

-- the numbers are the site's
pub record IsHome (home : Home) : Type 0 where
  pub number : home.number ≡ home.site.now.number
  pub site : home.number < SITES
  pub heaps : home.heaps ≡ heaps_of home.site.now
  pub bounds : IsHeaps home.heaps
  pub rule : home.rule ≡ home.site.now.rule

-- the pass is one of the site's, and what is parked is the site's
pub record IsNode (node : Node) : Type 0 where
  pub home : IsHome node.home
  pub pass : IsPassOf (site_of node) (pass_of node)
  pub parked : (o : Placed) → IsParked (parked_of node) o → IsOfSite (site_of node) o
      × (o.operation.heap < heaps_of (site_of node))

-- where it is at home, and how many operations may be parked there
abbrev pub home_of : Node → Home × ℕ
home_of node = (node.home, most_of node)

-- it is the node of the same site, and as many operations may be parked
abbrev pub IsSameHome : Node → Node → Type 0
IsSameHome old new = home_of new ≡ home_of old
