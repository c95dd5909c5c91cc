-- What becomes of views, and what a look tells.
use Rattle.std.specs.Prelude.{◌≡◌, ℕ, ◌+◌, ◌-◌, ◌≤◌, None, IfSome, [], ◌∷◌, ◌++◌, map, option_map, take, drop, sum}
use Rattle.atomic_table.specs.Table.{Step, Me}
use Rattle.zq_tally.specs.declared.view.View.{View}
use Rattle.zq_tally.specs.Limits.{ALL_PARTS}
use Rattle.zq_tally.specs.Views.{view, parts}

-- a view with the passes and the parts of another, whose passes come first
abbrev pub joined : View → View → View
joined v w = view (w.steps ++ v.steps) (w.kept + v.kept) v.total

-- the pass that comes first, and what is left
abbrev pub first_of : View → View
first_of v = view (take 1 v.steps) 0 None

abbrev pub first_out : View → View
first_out v = view (drop 1 v.steps) v.kept v.total

-- the pass that comes first with one more step, and what is left, with one more in the total
abbrev pub stepped_of : View → View
stepped_of v = view (map (λ n. n + 1) (take 1 v.steps)) 0 None

abbrev pub stepped_out : View → View
stepped_out v = view (drop 1 v.steps) v.kept (option_map (λ n. n + 1) v.total)

-- a pass without a step, and what is left of the parts
abbrev pub no_steps : View → View
no_steps v = view (0 ∷ []) 0 None

abbrev pub one_less : View → View
one_less v = view v.steps (v.kept - 1) v.total

-- the total is no less than the steps of these passes, and it is their sum where no part is
-- elsewhere
abbrev pub IsBound : View → ℕ → Type 0
IsBound v total = (sum v.steps ≤ total) × (parts v ≡ ALL_PARTS → total ≡ sum v.steps)

-- a look tells what the rule says of the view, and changes nothing
abbrev pub Learned : {S : Type 0} → Step S → Me S View → ℕ → Me S View → Type 0
Learned step me found after = (after ≡ me) × IfSome me.0.total (IsBound me.0)
