use Rattle.std.proofs.Common.{List, Some, Vec, [], ap, arith, inl, inr, length, map, refl, subst, suc, sym, zero, ℕ, ◌++◌, ◌∙◌, ◌∷◌, ◌≡◌}
use Rattle.std.proofs.lemmas.List.{length_push}
use Rattle.std.specs.Prelude.{slice_get}
use Rattle.std.specs.declared.alloc.Global.{Global}
use Rattle.zq_commands.proofs.SitePlaces.{get_behind}
use Rattle.zq_dots.specs.Rule.{rule_of}
use Rattle.zq_model.specs.Books.{Book}
use Rattle.zq_model.specs.Sets.{SITES}
use Rattle.zq_semantics.specs.Books.{AreBooksOf}
use Rattle.zq_semantics.specs.Runs as runs
use Rattle.zq_world.specs.Play.{answer_in}
use Rattle.zq_world.proofs.opening.opening.Goals as goal

none_in : (i : ℕ) (v : Vec Book Global) → slice_get [] i ≡ Some v → ⊥
none_in zero v at = absurd (cc)
none_in (suc i) v at = absurd (cc)

pub loop-site-init : goal.loop-site-init
loop-site-init c = record {
  number = let none = ap length c.new-all.ensures.items in omega (arith, none);
  each = λ site its at. absurd (none_in site its (ap (λ (xs : List (Vec Book Global)). slice_get xs site) (sym c.new-all.ensures.items) ∙ at));
}

pub loop-site-preserved : goal.loop-site-preserved
loop-site-preserved c =
    let all = c.loop-site.all.items in
    let next = c.in_ok-books.books in
    let items = c.push_reserved.ensures.items ∙ ap (λ (xs : List (Vec Book Global)). xs ++ next ∷ []) c.reserve.ensures.items in
    record {
      number = let long = ap length items in let more = length_push all next in omega (arith, long, more, c.loop-site.invariant.number);
      each = λ site its at. elim (get_behind all next site its (ap (λ (xs : List (Vec Book Global)). slice_get xs site) (sym items) ∙ at)) [
        | inl here ↦ c.loop-site.invariant.each site its here
        | inr last ↦ subst (λ (v : Vec Book Global). (s : ℕ) → AreBooksOf (rule_of c.args.rule) c.args.heaps runs.opening s v.items) last.1 c.in_ok-books.ensures
      ];
    }

pub returns-clause-held : goal.returns-clause-held
unfolding SITES
returns-clause-held c = record {
  two = c.requires.two;
  playable = record { heaps = c.requires.heaps; few = c.requires.sites; each = tt; there = refl };
  stands = record {
    number = omega (arith, c.loop-site.invariant.number, c.loop-site-test.false, c.loop-site.auto._site-end);
    each = λ site its at. c.loop-site.invariant.each site its at site;
    told = c.new.ensures.items;
  };
  answers = ap (map answer_in) c.new-2.ensures.items;
}
