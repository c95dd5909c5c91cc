-- The books of a site, among those of a world.

use Rattle.std.proofs.Common.{List, Some, Vec, ap, map, refl, subst, suc, zero, ℕ, ◌∙◌, ◌∷◌, ◌≡◌, []}
use Rattle.std.proofs.lemmas.Option.{same_Some}
use Rattle.std.specs.Prelude.{slice_get}
use Rattle.std.specs.declared.alloc.Global.{Global}
use Rattle.zq_commands.specs.SiteBooks.{AreOfSite}
use Rattle.zq_commands.specs.VecBooks.{rule_in}
use Rattle.zq_model.specs.Books.{Book}
use Rattle.zq_model.specs.Rule.{Rule}
use Rattle.zq_model.specs.Sets.{IsHeaps}
use Rattle.zq_model.specs.Lent.{queues_of}
use Rattle.zq_semantics.proofs.SiteBooks.{queues_are}
use Rattle.zq_semantics.specs.Books.{AreBooksOf}
use Rattle.zq_semantics.specs.Reading.{answer_of, answer_over}
use Rattle.zq_semantics.specs.State.{State}
use Rattle.zq_words.specs.Command.{command_of}
use Rattle.zq_words.specs.Words.{Word}
use Rattle.zq_world.proofs.SitesOf.{rule_of_site}

-- what is read of a mapped list is mapped
pub items_at : (sites : List (Vec Book Global)) (i : ℕ) (books : List Book) → slice_get (map (λ v. v.items) sites) i ≡ Some books → (v : Vec Book Global) × (slice_get sites i ≡ Some v) × (v.items ≡ books)
items_at [] zero books at = absurd (cc)
items_at [] (suc i) books at = absurd (cc)
items_at (v ∷ sites) zero books at = (v, refl, same_Some v.items books at)
items_at (v ∷ sites) (suc i) books at = items_at sites i books at

-- what they answer is what the site's set answers
pub answer_is : (rule : Rule) (K : ℕ) (st : State) (site : ℕ) (books : List Book) (words : List Word) → AreOfSite books → AreBooksOf rule K st site books →
    answer_over (queues_of (rule_in books) books) (command_of words) ≡ answer_of rule K (st.sets site) words
answer_is rule K st site books words of_site are =
    let heaps : IsHeaps K = subst IsHeaps are.number of_site.number in
    let ruled = rule_of_site rule K st site books heaps are in
    ap (λ q. answer_over q (command_of words)) (ap (λ r. queues_of r books) ruled ∙ queues_are rule K st site books are)
