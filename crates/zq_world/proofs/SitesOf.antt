-- The books of a site of a world can be lent to every command.

use Rattle.std.proofs.Common.{List, Some, [], arith, length, refl, subst, sym, ℕ, ◌∙◌, ◌∷◌, ◌≡◌, ◌≤◌}
use Rattle.std.specs.Prelude.{slice_get}
use Rattle.zq_commands.specs.SiteBooks.{AreOfSite}
use Rattle.zq_commands.specs.VecBooks.{rule_in}
use Rattle.zq_model.specs.Books.{Book}
use Rattle.zq_model.proofs.BoundedImages.{bounded_set}
use Rattle.zq_model.specs.Bounded.{HasShortNames, IsBounded}
use Rattle.zq_model.specs.Image.{Image}
use Rattle.zq_model.specs.Operation.{Operation}
use Rattle.zq_model.specs.Rule.{Rule}
use Rattle.zq_model.specs.Sets.{IsHeaps, IsIn, IsWorld}
use Rattle.zq_semantics.specs.Books.{AreBooksOf}
use Rattle.zq_semantics.specs.State.{State}

first_rule : (rule : Rule) (books : List Book) → 1 ≤ length books → ((b : Book) → slice_get books 0 ≡ Some b → b.rule ≡ rule) → rule_in books ≡ rule
first_rule rule [] some is = absurd (omega (arith, some))
first_rule rule (b ∷ books) some is = is b refl

module _ (rule : Rule) (K : ℕ) (st : State) (site : ℕ) (books : List Book) (heaps : IsHeaps K) (are : AreBooksOf rule K st site books) where
  pub rule_of_site : rule_in books ≡ rule
  rule_of_site = let some = heaps.0 in let number = are.number in first_rule rule books (omega (arith, some, number)) (λ b at. (are.each 0 b at).ruled)

  pub of_site : IsWorld K (st.sets site) → ((o : Operation) → IsIn o (st.sets site) → HasShortNames o) → AreOfSite books
  of_site world short =
      let ruled = rule_of_site in
      record {
        number = subst IsHeaps (sym are.number) heaps;
        each = λ heap b at.
            let is = are.each heap b at in
            record {
              heap_is = is.heap;
              heaps = is.heaps ∙ sym are.number;
              ruled = is.ruled ∙ sym ruled;
              bounded = subst (λ (k : ℕ). IsBounded k b.heap b.state) (sym are.number)
                  (subst (λ (h : ℕ). IsBounded K h b.state) (sym is.heap) (subst (λ (a : Image). IsBounded K heap a) (sym is.state) (bounded_set K (st.sets site) heap world short)));
            };
      }
