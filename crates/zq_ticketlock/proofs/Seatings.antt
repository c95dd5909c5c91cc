-- A seat cut in two, and two seats made one.
use Rattle.std.proofs.Common.{◌≡◌, ℕ, ◌++◌, Option, List, [], ◌∷◌, true, set, inl, inr, sym, subst, ◌∙◌, ⊎_elim}
use mathlib.Core.Option as maybe
use lib.ListN.{get_elem?}
use Rattle.atomic_table.specs.Table.{State, Splits, Joins}
use Rattle.atomic_table.proofs.Lists.{at_longer, at_snoc, set_again, set_else}
use Rattle.zq_ticketlock.specs.declared.turns.Entry.{Entry}
use Rattle.zq_ticketlock.specs.declared.view.View.{View}
use Rattle.zq_ticketlock.specs.declared.view.View.TheVariants.{Vacant, Idle, Met, Holding, Spent}
use Rattle.zq_ticketlock.specs.Views.{Sat, is_idle, turns_by}
use Rattle.zq_ticketlock.specs.Order.{Knows, Stands, IsRuled}
use Rattle.zq_ticketlock.specs.Steps.{met}
use Rattle.zq_ticketlock.specs.Log.{AreLogged}
use Rattle.zq_ticketlock.proofs.Logs.{logged_both}
use Rattle.zq_ticketlock.proofs.Stages.{idle_seat}
use Rattle.zq_ticketlock.proofs.Vacancies.{vacant_here}
use Rattle.zq_ticketlock.proofs.Looks.{other_view}

module _ {T : Type 0} (holds : T → Type 0) (follows : T → T → Type 0) where
  abbrev Rule : State (Option T) (View T) → Type 0
  Rule = IsRuled holds follows

  splits_idle : (seat low reached : ℕ) (x : T) (turns : List (Entry T)) → Splits Rule seat (Idle low reached x turns) (Idle low reached x turns) (Idle low reached x turns)
  splits_idle seat low reached x turns s (inl k) here = let e : Vacant k.ticket k.out ≡ Idle low reached x turns = vacant_here s k seat (Idle low reached x turns) here in absurd (cc)
  splits_idle seat low reached x turns s (inr k) here =
      let at = k.at in
      let v : View T = Idle low reached x turns in
      let views : List (View T) = s.views ++ v ∷ [] in
      let two : Stands holds follows at views = record {
        order = k.stands.order;
        sound = k.stands.sound;
        held = λ out. at_longer s.views (v ∷ []) (at.owner at.serving) (Holding at.serving at.value at.turns) (k.stands.held out);
        knows = λ other w there. ⊎_elim
            (λ (old : get_elem? s.views other ≡ maybe.some w). k.stands.knows other w old)
            (λ (new : v ≡ w). subst (Knows holds follows at other) new (k.stands.knows seat v here))
            (at_snoc s.views v w other there);
        logged = λ other w there. ⊎_elim
            (λ (old : get_elem? s.views other ≡ maybe.some w). k.stands.logged other w old)
            (λ (new : v ≡ w). subst (λ (u : View T). AreLogged at.log at.serving (turns_by u)) new (k.stands.logged seat v here))
            (at_snoc s.views v w other there);
        chain = k.stands.chain;
        opened = k.stands.opened;
      } in
      let same : set s.views seat v ≡ s.views = set_again s.views seat v here in
      inr (record { at = at; words = k.words; homes = k.homes; stands = subst (λ (l : List (View T)). Stands holds follows at (l ++ v ∷ [])) (sym same) two })

  pub splits : (seat : ℕ) (me : Sat T) → is_idle me ≡ true → Splits Rule seat me.0 me.0 me.0
  splits seat me idle =
      let is = idle_seat me idle in
      subst (λ (m : Sat T). Splits Rule seat m.0 m.0 m.0) (sym is.4) (splits_idle seat is.0 is.1 is.2 is.3)

  joins_idle : (seat other low reached m passed : ℕ) (x y : T) (turns others : List (Entry T)) → Joins Rule seat (Idle low reached x turns) other (Idle m passed y others) (Met low x y (turns ++ others)) Spent
  joins_idle seat other low reached m passed x y turns others s (inl k) here apart there =
      let e : Vacant k.ticket k.out ≡ Idle low reached x turns = vacant_here s k seat (Idle low reached x turns) here in absurd (cc)
  joins_idle seat other low reached m passed x y turns others s (inr k) here apart there =
      let at = k.at in
      let w : View T = Met low x y (turns ++ others) in
      let views : List (View T) = set s.views seat w in
      let first = k.stands.knows seat (Idle low reached x turns) here in
      let second = k.stands.knows other (Idle m passed y others) (unmoved s.views there) in
      let one = other_view holds follows at s.views seat (Idle low reached x turns) w k.stands here (λ e. cc) (first.0, first.2, second.2)
      (logged_both at.log at.serving turns others (k.stands.logged seat (Idle low reached x turns) here) (k.stands.logged other (Idle m passed y others) (unmoved s.views there))) in
      inr (record { at = at; words = k.words; homes = k.homes; stands = other_view holds follows at views other (Idle m passed y others) Spent one there (λ e. cc) tt tt })
    where
      unmoved : (views : List (View T)) → get_elem? (set views seat (Met low x y (turns ++ others))) other ≡ maybe.some (Idle m passed y others) → get_elem? views other ≡ maybe.some (Idle m passed y others)
      unmoved views e = sym (set_else views seat other (Met low x y (turns ++ others)) apart) ∙ e

  pub joins : (seat other : ℕ) (me second : Sat T) → is_idle me ≡ true → is_idle second ≡ true → Joins Rule seat me.0 other second.0 (met me.0 second.0) Spent
  joins seat other me second idle also =
      let is = idle_seat me idle in
      let are = idle_seat second also in
      subst (λ (m : Sat T). Joins Rule seat m.0 other second.0 (met m.0 second.0) Spent) (sym is.4)
      (subst (λ (m : Sat T). Joins Rule seat (Idle is.0 is.1 is.2 is.3) other m.0 (met (Idle is.0 is.1 is.2 is.3) m.0) Spent) (sym are.4) (joins_idle seat other is.0 is.1 are.0 are.1 is.2 are.2 is.3 are.3))
