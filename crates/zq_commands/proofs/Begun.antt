-- The books with which a call of a site begins.

use Rattle.std.proofs.Common.{[], List, ap, arith, length, map, refl, subst, sym, ℕ, ◌∙◌, ◌∷◌, ◌≡◌}
use Rattle.std.proofs.lemmas.List.{length-map}
use Rattle.zq_commands.specs.Beginning.{begun}
use Rattle.zq_commands.specs.Lending.{IsDated}
use Rattle.zq_commands.specs.SiteBooks.{AreOfSite, IsBookOf}
use Rattle.zq_commands.specs.VecBooks.{lending_of, rule_in}
use Rattle.zq_model.specs.Books.{Book}
use Rattle.zq_model.proofs.Listing.{in_map_from}
use Rattle.zq_model.specs.Bounded.{IsBounded}
use Rattle.zq_model.specs.Sets.{IsHeaps}
use Rattle.zq_posheap.proofs.Lists.{behind}

module _ (stamp : ℕ) where
  pub rule_begun : (books : List Book) → rule_in (map (begun stamp) books) ≡ rule_in books
  rule_begun [] = refl
  rule_begun (b ∷ books) = refl

  pub of_site_begun : (books : List Book) → AreOfSite books → AreOfSite (map (begun stamp) books)
  of_site_begun books are =
      let number = length-map books (begun stamp) in
      record {
        number = subst IsHeaps (sym number) are.number;
        each = λ heap book at.
            let from = behind (begun stamp) books heap book at in
            let its = are.each heap from.0 from.1 in
            subst (IsBookOf (length (map (begun stamp) books)) (rule_in (map (begun stamp) books)) heap) from.2 (record {
              heap_is = its.heap_is;
              heaps = its.heaps ∙ sym number;
              ruled = its.ruled ∙ sym (rule_begun books);
              bounded = subst (λ (k : ℕ). IsBounded k from.0.heap from.0.state) (sym number) its.bounded;
            });
      }

  pub dated_begun : (books : List Book) → IsDated stamp (lending_of books) → IsDated stamp (lending_of (map (begun stamp) books))
  dated_begun books dated = (
    dated.0,
    λ book here.
        let from = in_map_from (begun stamp) book books here in
        let its : stamp ≡ book.stamp = ap (λ (b : Book). b.stamp) from.2 in
        omega (arith, its),
  )
