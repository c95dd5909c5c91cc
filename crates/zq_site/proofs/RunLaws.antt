-- What is known of the runs of a number, over all links that come.
use Rattle.std.proofs.Common.{◌≡◌, ◌∙◌, ◌<◌, ◌≤◌, Bool, List, None, Option, Some, [], ◌∷◌, arith, cond, false, refl, subst, sym, true, ⊎_elim}
use Rattle.std.proofs.lemmas.Bool.{le-leb, leb-true}
use Rattle.std.proofs.lemmas.Bool.Decides.{Decides-and}
use Rattle.std.proofs.lemmas.Slice.Eq.{bytes_eq-Decides}
use Rattle.std.specs.Bool.{Decides}
use Rattle.std.specs.Prelude.{nat_le, ◌≢◌, ◌⊎◌}
use Rattle.std.specs.Str.{bytes_eq}
use Rattle.zq_site.specs.Runs.{Coming, IsNoEarlier, KnownRuns, KnownStaysKnown, LaterStartIsKnown, NewcomerIsJudged, RunKeepsItsLink, all_came, all_came_up, came, goes_on, id_of, is_taken, kept_of, may_take, newcomer_to, run_id, taken}
use Rattle.zq_site.specs.declared.run_order.RunId.{RunId}
use Rattle.zq_wire.specs.declared.run.Run.{Run}

-- what stands after a test
either : (b : Bool) (new old : KnownRuns) (P : KnownRuns → Type 0) → (b ≡ true → P new) → (b ≡ false → P old) → P (cond b new old)
either b new old P p q = elim b as (λ v. (b ≡ v) → P (cond v new old)) [ true ↦ p | false ↦ q ] refl

-- what is not true is false
is-false : (b : Bool) → ((b ≡ true) → ⊥) → b ≡ false
is-false b wrong = elim b as (λ v. ((v ≡ true) → ⊥) → v ≡ false) [ true ↦ λ n. absurd (n refl) | false ↦ λ _. refl ] wrong

goes-on-Decides : (run other : RunId) → Decides (goes_on run other) ((run.name ≡ other.name) × (run.start ≤ other.start))
goes-on-Decides run other = Decides-and (bytes_eq run.name other.name) (nat_le run.start other.start)
    (bytes_eq-Decides run.name other.name) (leb-true run.start other.start, le-leb run.start other.start)

-- while a link is up that told its run, a run that takes its place is of its name, and no earlier start
no-earlier : (run : RunId) (there other : Option RunId) → IsNoEarlier run there → may_take there other true ≡ true → IsNoEarlier run other
no-earlier run None other none is = absurd none
no-earlier run (Some there) None from is = absurd (cc is)
no-earlier run (Some there) (Some other) from is =
    let on = (goes-on-Decides there other).0 is in
    (sym on.0 ∙ from.0, omega (arith, from.1, on.1))

came-up : (told : Option Run) (runs : KnownRuns) (run : RunId) → IsNoEarlier run runs.latest → IsNoEarlier run (came told true runs).latest
came-up told runs run from = either (is_taken told true runs) (taken told runs) runs (λ r. IsNoEarlier run r.latest)
    (no-earlier run runs.latest (id_of told) from)
    (λ _. from)

all-came-up : (comings : List (Option Run)) (runs : KnownRuns) (run : RunId) → IsNoEarlier run runs.latest → IsNoEarlier run (all_came_up comings runs).latest
all-came-up [] runs run from = from
all-came-up (told ∷ later) runs run from = all-came-up later (came told true runs) run (came-up told runs run from)

pub keeps : RunKeepsItsLink
keeps comings runs run is = all-came-up comings runs run
    (subst (λ (latest : Option RunId). IsNoEarlier run latest) (sym is) (refl, omega arith))

-- a run that takes its place leaves what is known no earlier
kept : (run : RunId) (known other : Option RunId) → IsNoEarlier run known → IsNoEarlier run (kept_of known other)
kept run None other none = absurd none
kept run (Some known) None from = from
kept run (Some known) (Some other) from =
    elim (goes_on known other) as (λ v. (goes_on known other ≡ v) → IsNoEarlier run (cond v (Some other) (Some known))) [
      | true ↦ λ is. let on = (goes-on-Decides known other).0 is in (sym on.0 ∙ from.0, omega (arith, from.1, on.1))
      | false ↦ λ _. from
    ] refl

came-known : (told : Option Run) (is_up : Bool) (runs : KnownRuns) (run : RunId) → IsNoEarlier run runs.known → IsNoEarlier run (came told is_up runs).known
came-known told is_up runs run from = either (is_taken told is_up runs) (taken told runs) runs (λ r. IsNoEarlier run r.known)
    (λ _. kept run runs.known (id_of told) from)
    (λ _. from)

all-came-known : (comings : List Coming) (runs : KnownRuns) (run : RunId) → IsNoEarlier run runs.known → IsNoEarlier run (all_came comings runs).known
all-came-known [] runs run from = from
all-came-known (coming ∷ later) runs run from = all-came-known later (came coming.run coming.is_up runs) run (came-known coming.run coming.is_up runs run from)

pub stays : KnownStaysKnown
stays comings runs known is = all-came-known comings runs known
    (subst (λ (there : Option RunId). IsNoEarlier known there) (sym is) (refl, omega arith))

-- a run of another name or an earlier start does not go on
other-run : (known : RunId) (run : Run) → (known.name ≢ run.name) ⊎ (run.start < known.start) → goes_on known (run_id run) ≡ false
other-run known run differs = is-false (goes_on known (run_id run)) (λ is.
    let on = (goes-on-Decides known (run_id run)).0 is in
    ⊎_elim (λ name. name on.0) (λ earlier. omega (arith, earlier, on.1)) differs)

pub judged : NewcomerIsJudged
judged run is_up runs known is differs takes =
    subst (λ (b : Bool). (cond b (taken (Some run) runs) runs).newcomer ≡ Some run) (sym takes)
    (subst (λ (there : Option RunId). newcomer_to there (Some run) ≡ Some run) (sym is)
    (subst (λ (b : Bool). cond b None (Some run) ≡ Some run) (sym (other-run known run differs)) refl))

pub later : LaterStartIsKnown
later run is_up runs known is same after takes =
    let on = (goes-on-Decides known (run_id run)).1 (same, after) in (
      subst (λ (b : Bool). (cond b (taken (Some run) runs) runs).known ≡ Some (run_id run)) (sym takes)
          (subst (λ (there : Option RunId). kept_of there (Some (run_id run)) ≡ Some (run_id run)) (sym is)
          (subst (λ (b : Bool). cond b (Some (run_id run)) (Some known) ≡ Some (run_id run)) (sym on) refl)),
      subst (λ (b : Bool). (cond b (taken (Some run) runs) runs).newcomer ≡ None) (sym takes)
          (subst (λ (there : Option RunId). newcomer_to there (Some run) ≡ None) (sym is)
          (subst (λ (b : Bool). cond b None (Some run) ≡ None) (sym on) refl)),
    )
