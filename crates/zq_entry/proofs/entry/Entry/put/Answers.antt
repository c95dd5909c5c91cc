use Rattle.std.proofs.Common.{ap, arith, rules, sym, ◌<◌, ◌∙◌, ◌≡◌, List}
use Rattle.std.proofs.lemmas.Result.{on_ok_weaker}
use Rattle.std.specs.List.{filter}
use Rattle.zq_model.specs.Image.{entry_after, is_bare}
use Rattle.zq_model.specs.Operation.{Put}
use Rattle.zq_model.specs.Sets.{SITES}
use Rattle.zq_entry.specs.Changes.{stays}
use Rattle.zq_entry.specs.Placed.{addition_of_put, dense_entry}
use Rattle.zq_model.specs.Rows.{OfSite}
use Rattle.zq_entry.specs.Sparse.{placed}
use Rattle.zq_model.specs.Sparse.{AreBySite}
use Rattle.zq_entry.proofs.EntryLemmas.{bare-put, put-alone, put-dense, rising-either}
use Rattle.zq_entry.proofs.SparseLemmas.{rising-filter, rising-placed}
use Rattle.zq_entry.proofs.entry.Entry.put.Goals as goal

alone : (c : goal.Joined-self-of) → dense_entry c.of.result ≡ entry_after (Put c.args.score) c.args.dot.site c.args.dot.n c.args.seen.now c.args.self.now
alone c =
    ap dense_entry c.of.ensures ∙ (put-alone c.args.dot.site c.args.dot.n c.args.score c.args.seen.now c.self.inside.additions (sym c.all_go.ensures ∙ c.if-all_go.true)
    ∙ ap (entry_after (Put c.args.score) c.args.dot.site c.args.dot.n c.args.seen.now) c.self.view_is)

pub returns-then-all_go-clause-put : goal.returns-then-all_go-clause-put
returns-then-all_go-clause-put c = alone c

pub returns-then-all_go-clause-stands : goal.returns-then-all_go-clause-stands
returns-then-all_go-clause-stands c = ap is_bare (alone c) ∙ bare-put c.args.dot.site c.args.dot.n c.args.score c.args.seen.now c.args.self.now (search rules)

abbrev beside : (c : goal.After-put) → List OfSite
beside c = filter (stays c.args.dot.site c.args.seen.now) (placed c.args.dot.site (addition_of_put c.args.dot.n c.args.score) c.self.inside.additions)

site : (c : goal.After-put) → c.args.dot.site < SITES
site c = search rules

rising : (c : goal.After-put) → AreBySite 0 SITES (beside c)
rising c = rising-filter (stays c.args.dot.site c.args.seen.now) 0 SITES (placed c.args.dot.site (addition_of_put c.args.dot.n c.args.score) c.self.inside.additions) (rising-placed 0 SITES c.args.dot.site (addition_of_put c.args.dot.n c.args.score) c.self.inside.additions (omega arith) (site c) c.self.invariant)

entry : (c : goal.After-put) → c.put.new.self ≡ beside c → dense_entry c.put.new.self ≡ entry_after (Put c.args.score) c.args.dot.site c.args.dot.n c.args.seen.now c.args.self.now
entry c e =
    ap dense_entry e ∙ (put-dense c.args.dot.site c.args.dot.n c.args.score c.args.seen.now c.self.inside.additions c.self.invariant (site c)
    ∙ ap (entry_after (Put c.args.score) c.args.dot.site c.args.dot.n c.args.seen.now) c.self.view_is)

pub invariant_of-self-2 : goal.invariant_of-self-2
invariant_of-self-2 c = rising-either c.put.result c.put.new.self (beside c) c.self.inside.additions c.put.ensures.put c.put.ensures.refused (rising c) c.self.invariant

pub returns-clause-put : goal.returns-clause-put
returns-clause-put c = on_ok_weaker c.put.result (entry c) c.put.ensures.put

pub returns-clause-stands : goal.returns-clause-stands
returns-clause-stands c =
    on_ok_weaker c.put.result (λ e. ap is_bare (entry c e) ∙ bare-put c.args.dot.site c.args.dot.n c.args.score c.args.seen.now c.args.self.now (site c)) c.put.ensures.put
