use Rattle.std.proofs.Common.{List, Some, Vec, ap, length, refl, subst, sym, ◌∙◌, ◌≡◌}
use Rattle.std.proofs.lemmas.Option.{same_Some, slice_get_read}
use Rattle.std.proofs.lemmas.Result.{IfOk-weaker}
use Rattle.std.specs.Prelude.{slice_get}
use Rattle.std.specs.declared.alloc.Global.{Global}
use Rattle.zq_model.specs.Books.{Book}
use Rattle.zq_semantics.specs.Books.{AreBooksOf}
use Rattle.zq_world.proofs.WorldBooks.{answer_is, items_at}
use Rattle.zq_world.specs.World.{Left}
use Rattle.zq_world.proofs.world.World.answer.Goals as goal

pub returns-clause-answer : goal.returns-clause-answer
returns-clause-answer c =
    let sites = c.self.inside.sites.items in
    let site = c.args.site in
    let at : slice_get sites site ≡ Some c.in-Some.books.now = ap (λ (xs : List (Vec Book Global)). slice_get xs site) (sym c.deref.ensures.value) ∙ slice_get_read c.deref.result.now (length c.deref.result.now) site c.in-Some.books.now refl c.in-Some.ensures.lookup.3.0 c.in-Some.ensures.lookup.1 in
    IfOk-weaker c.answer_over.result _ _ (λ bytes says books rule K st here are.
    let v = items_at sites site books (ap (λ (l : Left). slice_get l.books site) c.self.view_is ∙ here) in
    let same : c.in-Some.books.now ≡ v.0 = same_Some c.in-Some.books.now v.0 (sym at ∙ v.1) in
    let its : c.in-Some.books.now.items ≡ books = ap (λ (w : Vec Book Global). w.items) same ∙ v.2 in
    says ∙ answer_is rule K st site c.in-Some.books.now.items c.args.request.now (c.self.invariant site c.in-Some.books.now at)
    (subst (λ (xs : List Book). AreBooksOf rule K st site xs) (sym its) are)) c.answer_over.ensures.answer
