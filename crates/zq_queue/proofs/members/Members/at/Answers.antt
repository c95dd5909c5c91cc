use Rattle.std.proofs.Common.{ap, arith, refl, sym, ◌∙◌, ◌≡◌}
use Rattle.std.specs.FinMap.{get}
use Rattle.std.specs.Prelude.{Some, length, slice_get, ◌<◌}
use Rattle.zq_dots.specs.Rule.{rule_of}
use Rattle.zq_queue.proofs.Eithers.{few_got, many_got}
use Rattle.zq_queue.proofs.Scans.{as_many_names}
use Rattle.zq_queue.specs.Few.{names_in}
use Rattle.zq_queue.specs.Form.{places_in}
use Rattle.zq_queue.proofs.members.Members.at.Goals as goal

pub returns-in-Few : goal.returns-in-Few
returns-in-Few c = λ member at.
    let list = c.in-Few.list in
    let places : c.args.self.now.places ≡ names_in list.items = ap (λ k. k.places) (sym c.self.view_is) ∙ ap places_in c.in-Few.is in
    let within : c.few.result < length list.items = omega (arith, c.few.ensures, c.requires.within, ap length places, as_many_names list.items) in
    let named : slice_get (names_in list.items) c.few.result ≡ Some member = (λ i. slice_get (sym places i) (c.few.ensures i)) ∙ at in
    ap (λ k. get k.entries member) (sym c.self.view_is)
    ∙ few_got (rule_of c.self.inside.rule) c.self.inside.form list list.items c.in-Few.is refl c.self.invariant c.few.result c.index.result.now member within c.index.ensures named

pub returns-in-Many : goal.returns-in-Many
returns-in-Many c = λ member at.
    let x = c.deref.result.now in
    let places : c.args.self.now.places ≡ x.places = ap (λ k. k.places) (sym c.self.view_is) ∙ ap places_in c.in-Many.is ∙ ap (λ y. y.places) (sym c.deref.ensures) in
    let got = c.at.ensures member ((λ i. slice_get (sym places i) (c.many.ensures i)) ∙ at) in
    ap (λ k. get k.entries member) (sym c.self.view_is)
    ∙ many_got (rule_of c.self.inside.rule) c.self.inside.form c.in-Many.many x c.in-Many.is c.deref.ensures c.self.invariant member _ got
