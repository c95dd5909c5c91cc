-- Control frames, apart from how they are spelled.

use Rattle.std.specs.Prelude.{Bool, IfSome, List, ℕ, ◌<◌}
use Rattle.zq_dots.specs.Rule.{rule_of}
use Rattle.zq_links.specs.declared.control.At as at
use Rattle.zq_links.specs.Numbers.{IsNumber}
use Rattle.zq_links.specs.Steps.{IsStep}
use Rattle.zq_links.specs.declared.control.Behind.{Behind}
use Rattle.zq_links.specs.declared.control.Control as code
use Rattle.zq_links.specs.declared.control.Control.TheVariants as variant
use Rattle.zq_links.specs.declared.control.Fetch.{Fetch}
use Rattle.zq_links.specs.declared.control.Resume.{Resume}
use Rattle.zq_links.specs.declared.control.Routes.{Routes}
use Rattle.zq_model.specs.Rule.{Rule}
use Rattle.zq_model.specs.Sets.{IsCounters, IsHeaps}

-- what a site has in one of its heaps, by this rule, and what it grants there
pub record At : Type 0 where
  pub heaps : ℕ
  pub heap : ℕ
  pub rule : Rule
  pub is_open : Bool
  pub turn : ℕ
  pub echo : ℕ
  pub window : ℕ
  pub routes : Routes
  pub vector : List ℕ

pub data Control : Type 0 where
  OfRoutes : (routes : Routes) → Control
  OfAt : (at : At) → Control
  OfBehind : (behind : Behind) → Control
  OfFetch : (fetch : Fetch) → Control

-- ---- numbers in range

-- the heap is one of so many
abbrev pub IsHeapOf : ℕ → ℕ → Type 0
IsHeapOf heaps heap = IsHeaps heaps × (heap < heaps)

pub record IsRoutes (r : Routes) : Type 0 where
  pub reach : IsNumber r.reach
  pub ask : IsNumber r.ask
  pub far : IsNumber r.far

pub record IsAt (a : At) : Type 0 where
  pub heap : IsHeapOf a.heaps a.heap
  pub turn : IsNumber a.turn
  pub echo : IsNumber a.echo
  pub window : IsNumber a.window
  pub routes : IsRoutes a.routes
  pub vector : IsCounters a.vector

pub record IsBehind (b : Behind) : Type 0 where
  pub heap : IsHeapOf b.heaps b.heap
  pub vector : IsCounters b.vector

pub record IsResume (r : Resume) : Type 0 where
  pub step : IsStep r.life r.number r.next
  pub vector : IsCounters r.vector

pub record IsFetch (f : Fetch) : Type 0 where
  pub heap : IsHeapOf f.heaps f.heap
  pub resume : IfSome f.resume IsResume

-- its numbers are in range
abbrev pub IsControl : Control → Type 0
IsControl (OfRoutes r) = IsRoutes r
IsControl (OfAt a) = IsAt a
IsControl (OfBehind b) = IsBehind b
IsControl (OfFetch f) = IsFetch f

-- ---- the code's

abbrev pub at_of : at.At → At
at_of a = record {
  heaps = a.heaps;
  heap = a.heap;
  rule = rule_of a.rule;
  is_open = a.open;
  turn = a.turn;
  echo = a.echo;
  window = a.window;
  routes = a.routes;
  vector = a.vector;
}

abbrev pub control_of : code.Control → Control
control_of (variant.Routes r) = OfRoutes r
control_of (variant.At a) = OfAt (at_of a)
control_of (variant.Behind b) = OfBehind b
control_of (variant.Fetch f) = OfFetch f

-- what can be written: a heap is one of the site's, and the vector has a counter for each site
abbrev pub IsWritable : code.Control → Type 0
IsWritable (variant.Routes r) = Unit {0}
IsWritable (variant.At a) = IsHeapOf a.heaps a.heap × IsCounters a.vector
IsWritable (variant.Behind b) = IsHeapOf b.heaps b.heap × IsCounters b.vector
IsWritable (variant.Fetch f) = IsHeapOf f.heaps f.heap
    × IfSome f.resume (λ r. IsCounters r.vector)
