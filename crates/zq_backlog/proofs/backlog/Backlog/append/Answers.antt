use Rattle.std.proofs.Common.{[], ap, arith, get_or, refl, slice_set, ◌++◌, ◌+◌, ◌-◌, ◌∙◌, ◌∷◌, ◌≡◌}
use Rattle.std.proofs.lemmas.Bool.{cond_above, cond_below}
use Rattle.zq_backlog.proofs.Kept.{IsKeptAs, kept_appended}
use Rattle.zq_backlog.specs.BacklogView.{log_of}
use Rattle.zq_backlog.specs.Log.{Log, appended, base_before}
use Rattle.zq_backlog.specs.Written.{dot_of, spelling}
use Rattle.zq_backlog.specs.declared.backlog.Backlog.TheInside.{Inside}
use Rattle.zq_dots.specs.Placed.{IsRanged}
use Rattle.zq_dots.specs.declared.dot.Dot.{Dot}
use Rattle.zq_backlog.proofs.backlog.Backlog.append.Goals as goal
use Rattle.zq_backlog.proofs.backlog.Backlog.append.Goals.{then-n-get, else-n-get}

pub invariant_of-self-2 : goal.invariant_of-self-2
invariant_of-self-2 c =
    let b = c.self.inside in
    let o = c.args.op.now in
    let s = o.operation.site in
    let n = o.operation.n in
    let dot = c.dot-site.result in
    let sound : IsRanged o = c.ranged.ensures in
    let site_is : dot.site ≡ s = c.dot-site.ensures.site in
    let n_is : dot.n ≡ n = c.dot-site.ensures.n in
    let dot_is : dot ≡ dot_of o = λ i. record { site = site_is i; n = n_is i } in
    let last_is : get_or b.last s 0 ≡ get_or c.args.self.now.last s 0 = ap (λ (l : Log). get_or l.last s 0) c.self.view_is in
    let got : c.get.result ≡ get_or b.last s 0 = c.get.ensures.counter ∙ ap (λ x. get_or b.last x 0) site_is in
    let new : Inside = record { base = c.if-n-get.self-inside.base; last = c.set-2.new.self; dots = c.if-n-get.self-inside.dots; texts = c.if-n-get.self-inside.texts; first = c.if-n-get.self-inside.first; most = c.if-n-get.self-inside.most } in
    let base : new.base ≡ base_before (log_of b) s n = elim c.if-n-get.branch [
      | then-n-get w ↦
          ap (λ (i : Inside). i.base) w.self-inside-is
          ∙ w.set.ensures
          ∙ ap (λ x. slice_set b.base x (dot.n - 1)) site_is
          ∙ ap (λ k. slice_set b.base s (k - 1)) n_is
          ∙ cond_below (get_or b.last s 0 + 1) n (slice_set b.base s (n - 1)) b.base (omega (arith, w.if-n-get.true, got, n_is))
      | else-n-get w ↦
          ap (λ (i : Inside). i.base) w.self-inside-is
          ∙ cond_above (get_or b.last s 0 + 1) n (slice_set b.base s (n - 1)) b.base b.base (omega (arith, w.if-n-get.false, got, n_is)) refl
    ] in
    let last : new.last ≡ slice_set b.last s n =
    c.set-2.ensures
    ∙ ap (λ v. slice_set v dot.site dot.n) (elim c.if-n-get.branch [ then-n-get w ↦ ap (λ (i : Inside). i.last) w.self-inside-is | else-n-get w ↦ ap (λ (i : Inside). i.last) w.self-inside-is ])
    ∙ ap (λ x. slice_set b.last x dot.n) site_is
    ∙ ap (slice_set b.last s) n_is in
    let texts : new.texts ≡ b.texts ++ spelling o ∷ [] =
    elim c.if-n-get.branch [ then-n-get w ↦ ap (λ (i : Inside). i.texts) w.self-inside-is | else-n-get w ↦ ap (λ (i : Inside). i.texts) w.self-inside-is ]
    ∙ c.in_ok-push.ensures.pushed in
    let dots : new.dots.items ≡ b.dots.items ++ dot_of o ∷ [] =
    elim c.if-n-get.branch [ then-n-get w ↦ ap (λ (i : Inside). i.dots.items) w.self-inside-is | else-n-get w ↦ ap (λ (i : Inside). i.dots.items) w.self-inside-is ]
    ∙ c.push_back_reserved.ensures.items
    ∙ ap (λ ds. ds ++ dot ∷ []) c.in_ok-reserve.ensures.items
    ∙ ap (λ (d : Dot). b.dots.items ++ d ∷ []) dot_is in
    let first : new.first ≡ b.first = elim c.if-n-get.branch [ then-n-get w ↦ ap (λ (i : Inside). i.first) w.self-inside-is | else-n-get w ↦ ap (λ (i : Inside). i.first) w.self-inside-is ] in
    let most : new.most ≡ b.most = elim c.if-n-get.branch [ then-n-get w ↦ ap (λ (i : Inside). i.most) w.self-inside-is | else-n-get w ↦ ap (λ (i : Inside). i.most) w.self-inside-is ] in
    let now : IsKeptAs new (appended o (log_of b)) = kept_appended b new o c.self.invariant sound (omega (arith, c.requires, last_is)) base last texts dots first most in
    now.kept

pub returns-clause-appended : goal.returns-clause-appended
returns-clause-appended c =
    let b = c.self.inside in
    let o = c.args.op.now in
    let s = o.operation.site in
    let n = o.operation.n in
    let dot = c.dot-site.result in
    let sound : IsRanged o = c.ranged.ensures in
    let site_is : dot.site ≡ s = c.dot-site.ensures.site in
    let n_is : dot.n ≡ n = c.dot-site.ensures.n in
    let dot_is : dot ≡ dot_of o = λ i. record { site = site_is i; n = n_is i } in
    let last_is : get_or b.last s 0 ≡ get_or c.args.self.now.last s 0 = ap (λ (l : Log). get_or l.last s 0) c.self.view_is in
    let got : c.get.result ≡ get_or b.last s 0 = c.get.ensures.counter ∙ ap (λ x. get_or b.last x 0) site_is in
    let new : Inside = record { base = c.if-n-get.self-inside.base; last = c.set-2.new.self; dots = c.if-n-get.self-inside.dots; texts = c.if-n-get.self-inside.texts; first = c.if-n-get.self-inside.first; most = c.if-n-get.self-inside.most } in
    let base : new.base ≡ base_before (log_of b) s n = elim c.if-n-get.branch [
      | then-n-get w ↦
          ap (λ (i : Inside). i.base) w.self-inside-is
          ∙ w.set.ensures
          ∙ ap (λ x. slice_set b.base x (dot.n - 1)) site_is
          ∙ ap (λ k. slice_set b.base s (k - 1)) n_is
          ∙ cond_below (get_or b.last s 0 + 1) n (slice_set b.base s (n - 1)) b.base (omega (arith, w.if-n-get.true, got, n_is))
      | else-n-get w ↦
          ap (λ (i : Inside). i.base) w.self-inside-is
          ∙ cond_above (get_or b.last s 0 + 1) n (slice_set b.base s (n - 1)) b.base b.base (omega (arith, w.if-n-get.false, got, n_is)) refl
    ] in
    let last : new.last ≡ slice_set b.last s n =
    c.set-2.ensures
    ∙ ap (λ v. slice_set v dot.site dot.n) (elim c.if-n-get.branch [ then-n-get w ↦ ap (λ (i : Inside). i.last) w.self-inside-is | else-n-get w ↦ ap (λ (i : Inside). i.last) w.self-inside-is ])
    ∙ ap (λ x. slice_set b.last x dot.n) site_is
    ∙ ap (slice_set b.last s) n_is in
    let texts : new.texts ≡ b.texts ++ spelling o ∷ [] =
    elim c.if-n-get.branch [ then-n-get w ↦ ap (λ (i : Inside). i.texts) w.self-inside-is | else-n-get w ↦ ap (λ (i : Inside). i.texts) w.self-inside-is ]
    ∙ c.in_ok-push.ensures.pushed in
    let dots : new.dots.items ≡ b.dots.items ++ dot_of o ∷ [] =
    elim c.if-n-get.branch [ then-n-get w ↦ ap (λ (i : Inside). i.dots.items) w.self-inside-is | else-n-get w ↦ ap (λ (i : Inside). i.dots.items) w.self-inside-is ]
    ∙ c.push_back_reserved.ensures.items
    ∙ ap (λ ds. ds ++ dot ∷ []) c.in_ok-reserve.ensures.items
    ∙ ap (λ (d : Dot). b.dots.items ++ d ∷ []) dot_is in
    let first : new.first ≡ b.first = elim c.if-n-get.branch [ then-n-get w ↦ ap (λ (i : Inside). i.first) w.self-inside-is | else-n-get w ↦ ap (λ (i : Inside). i.first) w.self-inside-is ] in
    let most : new.most ≡ b.most = elim c.if-n-get.branch [ then-n-get w ↦ ap (λ (i : Inside). i.most) w.self-inside-is | else-n-get w ↦ ap (λ (i : Inside). i.most) w.self-inside-is ] in
    let now : IsKeptAs new (appended o (log_of b)) = kept_appended b new o c.self.invariant sound (omega (arith, c.requires, last_is)) base last texts dots first most in
    now.is ∙ ap (appended o) c.self.view_is
