-- Several things that a site is asked at once, where nothing that is watched was changed.

use Rattle.std.specs.Prelude.{Err, List, None, Ok, Option, Result, Some, ◌≡◌}
use Rattle.zq_semantics.specs.Procedures.{Procedure}
use Rattle.zq_spread.specs.Dispatch.{all_heaps}
use Rattle.zq_spread.specs.Each.{HasCalledEach}
use Rattle.zq_spread.specs.Watches.{Watch}
use Rattle.zq_spread.specs.Watching.{AreWatched, HaveRun}
use Rattle.zq_spread.specs.Worn.{IsWornIn}
use Rattle.zq_spread.specs.declared.faults.WatchFault.{WatchFault}
use Rattle.zq_spread.specs.declared.faults.WatchFault.TheVariants.{NoMemory, Touched, Worn}
use Rattle.zq_spread.specs.declared.pass.Pass.{Pass}
use Rattle.zq_spread.specs.declared.site.Site.{Site}
use Rattle.zq_words.specs.Words.{Word}

-- they ran as one call of the site in all heaps
abbrev pub HaveRunAll : Site → Option Watch → List Procedure → List Word → List Word → Pass →
    Pass → Type 0
HaveRunAll site None ps earlier later before after =
    HasCalledEach site ps earlier later before after (all_heaps site)
HaveRunAll site (Some watch) ps earlier later before after =
    HaveRun site watch ps earlier later before after (all_heaps site)

-- what is watched was changed
abbrev pub AreStoppedBy : Site → Option Watch → List Procedure → Pass → Pass → Type 0
AreStoppedBy site None ps before after = ⊥
AreStoppedBy site (Some watch) ps before after =
    AreWatched site watch ps None before after (all_heaps site)

-- they ran, or nothing was done and no reply was added
abbrev pub AreAskedOf : Site → Option Watch → List Procedure → List Word → List Word →
    Result (Unit {0}) WatchFault → Pass → Pass → Type 0
AreAskedOf site watch ps earlier later (Ok done) before after =
    HaveRunAll site watch ps earlier later before after
AreAskedOf site watch ps earlier later (Err Touched) before after = (later ≡ earlier)
    × AreStoppedBy site watch ps before after
AreAskedOf site watch ps earlier later (Err Worn) before after = (later ≡ earlier)
    × IsWornIn (all_heaps site) before after
AreAskedOf site watch ps earlier later (Err NoMemory) before after = (later ≡ earlier)
    × (after ≡ before)
